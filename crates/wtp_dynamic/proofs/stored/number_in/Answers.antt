use Rattle.std.proofs.lemmas.Nat.{le_bytes_8}
use Rattle.wtp_dynamic.specs.Stored.{word}
use Rattle.wtp_dynamic.proofs.stored.number_in.Goals as goal

pub returns : goal.returns
unfolding word
returns c = le_bytes_8 c.args.front.now c.from_le_bytes.result c.told-front c.fits-front c.from_le_bytes.ensures
