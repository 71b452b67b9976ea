use Rattle.std.proofs.Common.{arith, ap, refl, ◌-◌}
use Rattle.std.proofs.lemmas.Nat.{one_shl}
use Rattle.wtp_huffman.proofs.HuffmanEncoding.{last_out, none_out}
use Rattle.wtp_huffman.proofs.huffman.encoding.give_last.Goals as goal

pub returns-then-waiting-eq0-clause-last : goal.returns-then-waiting-eq0-clause-last
returns-then-waiting-eq0-clause-last c = none_out c.args.out.now.items c.args.waiting.count c.args.waiting.number c.if-waiting-eq0.true

pub returns-clause-last : goal.returns-clause-last
returns-clause-last c =
    last_out c.args.out.now.items _ c.args.waiting.count c.args.waiting.number _ _ c.join.result.count c.join.result.number _ _ c.requires.few refl
    (ap (λ n. n - 1) (one_shl _ 64 (omega arith))) (c.join.ensures.bits (omega (arith, c.join.ensures.count))) c.join.ensures.count c.in_ok-give_whole.ensures.left c.in_ok-give_whole.ensures.kept
