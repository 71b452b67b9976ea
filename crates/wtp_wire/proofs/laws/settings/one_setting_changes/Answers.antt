use Rattle.wtp_wire.proofs.ValueLemmas.{value_at-set, value_at-kept}
use Rattle.wtp_wire.proofs.laws.settings.one_setting_changes.Goals as goal

pub returns : goal.returns
returns c = record { set = value_at-set; others = value_at-kept }
