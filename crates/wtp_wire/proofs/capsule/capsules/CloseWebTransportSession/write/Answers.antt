use Rattle.std.proofs.Common.{◌+◌, ◌∷◌, length, Result, Err, subst}
use Rattle.std.proofs.lemmas.Result.{err_from_is_err_and}
use Rattle.wtp_core.specs.Varint.{shortest}
use Rattle.wtp_core.proofs.WriterLemmas.{put-none, put-more, LacksRoom-parts}
use Rattle.wtp_core.specs.declared.bytes.writer.PutError.{PutError}
use Rattle.wtp_core.specs.Writer.{PutsParts}
use Rattle.wtp_wire.specs.CloseSession.{close_parts, payload_parts}
use Rattle.wtp_wire.proofs.capsule.capsules.CloseWebTransportSession.write.Goals as goal

pub returns-in_err-put_varint-clause-parts : goal.returns-in_err-put_varint-clause-parts
returns-in_err-put_varint-clause-parts g c =
    let p = err_from_is_err_and c.from_residual.result c.from_residual.ensures.1 in
    rw (p.1, p.2) (put-none g.W.BytesWriter.grows (shortest 0x2843) (shortest (4 + length c.args.self.now.1) ∷ payload_parts c.args.self.now) c.in_err-put_varint.field-0.0 _ _ _ _ c.in_err-put_varint.ensures.puts)

pub returns-in_err-put_varint-2-clause-parts : goal.returns-in_err-put_varint-2-clause-parts
returns-in_err-put_varint-2-clause-parts g c =
    let p = err_from_is_err_and c.from_residual-in_err-put_varint-2.result c.from_residual-in_err-put_varint-2.ensures.1 in
    let second = rw c.payload_len.ensures at c.in_err-put_varint-2.ensures.puts in
    rw (p.1, p.2) (put-more g.W.BytesWriter.grows (shortest 0x2843) (shortest (4 + length c.args.self.now.1) ∷ payload_parts c.args.self.now) (Err c.in_err-put_varint-2.field-0.0) tt _ _ _ _ _ _ c.in_ok-put_varint.ensures.puts (put-none g.W.BytesWriter.grows (shortest (4 + length c.args.self.now.1)) (payload_parts c.args.self.now) c.in_err-put_varint-2.field-0.0 _ _ _ _ second))

pub returns-clause-parts : goal.returns-clause-parts
returns-clause-parts g c =
    let second = rw c.payload_len.ensures at c.in_ok-put_varint-2.ensures.puts in
    put-more g.W.BytesWriter.grows (shortest 0x2843) (shortest (4 + length c.args.self.now.1) ∷ payload_parts c.args.self.now) c.write_payload.result tt _ _ _ _ _ _ c.in_ok-put_varint.ensures.puts (put-more g.W.BytesWriter.grows (shortest (4 + length c.args.self.now.1)) (payload_parts c.args.self.now) c.write_payload.result tt _ _ _ _ _ _ second c.write_payload.ensures.parts)

pub returns-clause-full : goal.returns-clause-full
returns-clause-full g c = λ e. LacksRoom-parts g.W.BytesWriter.grows (close_parts c.args.self.now) _ _ _ _
    (subst (λ (r : Result (Unit {0}) PutError). PutsParts g.W.BytesWriter.grows (close_parts c.args.self.now) r (g.W.BytesWriter.written c.args.writer.now) (g.W.BytesWriter.room c.args.writer.now) (g.W.BytesWriter.written c.write_payload.new.writer) (g.W.BytesWriter.room c.write_payload.new.writer)) e (returns-clause-parts g c))
