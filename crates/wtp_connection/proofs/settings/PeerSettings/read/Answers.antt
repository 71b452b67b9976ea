use Rattle.wtp_connection.proofs.SettingLemmas.{starts, goes_on}
use Rattle.wtp_connection.proofs.settings.PeerSettings.read.Goals as goal

pub pairs-init : goal.pairs-init
pairs-init c = starts c.new-values.result c.new-pairs.result c.args.payload.now c.new-values.ensures c.new-pairs.ensures

pub pairs-preserved : goal.pairs-preserved
pairs-preserved c = goes_on c.pairs.values c.in_ok-values.values c.in-Some.item c.pairs.pairs c.next.new.self c.args.payload.now c.pairs.invariant c.in-Some.ensures.steps c.in_ok-values.ensures
