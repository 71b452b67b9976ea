use Rattle.wtp_qpack.proofs.StringReading.{flag_of}
use Rattle.wtp_qpack.proofs.qpack.string_literal.has_flag.Goals as goal

pub returns : goal.returns
returns g c = flag_of g.row.N c.from.result c.args.bytes.now c.requires.few c.from.ensures
