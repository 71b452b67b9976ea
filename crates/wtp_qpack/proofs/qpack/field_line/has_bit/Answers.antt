use Rattle.std.proofs.Common.{ap, ◌==◌, ◌/◌, ◌^◌}
use Rattle.std.proofs.lemmas.Nat.{and_mask}
use Rattle.wtp_qpack.proofs.qpack.field_line.has_bit.Goals as goal

pub returns : goal.returns
returns c = ap (λ bit. bit == 1) (and_mask (c.args.byte / 2 ^ c.args.place) 1)
