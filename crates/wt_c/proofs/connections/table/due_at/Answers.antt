use Rattle.wt_c.proofs.TableLemmas.{no_stream}
use Rattle.wt_c.proofs.connections.table.due_at.Goals as goal

pub returns-in-Err : goal.returns-in-Err
returns-in-Err c = no_stream c.args.flag c.args.number c.ranges.flag.fits c.ranges.number.fits c.if-flag-eq0.false c.if-flag-eq1.false c.in-Err.ensures
