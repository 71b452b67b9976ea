use Rattle.std.proofs.Common.{ℕ, List, [], ◌∷◌, ap}
use Rattle.std.proofs.lemmas.Result.{err_from_is_err_and}
use Rattle.std.specs.Int.{w32, to_be_bytes}
use Rattle.wtp_core.proofs.WriterLemmas.{put-none, put-more, put-last}
use Rattle.wtp_wire.proofs.capsule.capsules.CloseWebTransportSession.write_payload.Goals as goal

pub returns-in_err-put_bytes-clause-parts : goal.returns-in_err-put_bytes-clause-parts
returns-in_err-put_bytes-clause-parts g c =
    let p = err_from_is_err_and c.from_residual.result c.from_residual.ensures.1 in
    let first = rw c.to_be_bytes.ensures at c.in_err-put_bytes.ensures.puts in
    rw (p.1, p.2) (put-none g.W.BytesWriter.grows (to_be_bytes w32 c.args.self.now.0) (c.args.self.now.1 ∷ []) c.in_err-put_bytes.field-0.0 _ _ _ _ first)

pub returns-clause-parts : goal.returns-clause-parts
returns-clause-parts g c =
    let first = rw (c.to_be_bytes.ensures, ap (λ (x : ℕ × List ℕ). x.0) c.self.view_is) at c.in_ok-put_bytes.ensures.puts in
    let second = rw (c.as_bytes.ensures.value, ap (λ (x : ℕ × List ℕ). x.1) c.self.view_is) at c.put_bytes-2.ensures.puts in
    put-more g.W.BytesWriter.grows (to_be_bytes w32 c.args.self.now.0) (c.args.self.now.1 ∷ []) c.put_bytes-2.result tt _ _ _ _ _ _ first (put-last g.W.BytesWriter.grows c.args.self.now.1 c.put_bytes-2.result _ _ _ _ second)
