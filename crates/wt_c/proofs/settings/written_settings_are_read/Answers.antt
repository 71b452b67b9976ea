use Rattle.wt_c.proofs.FaultlessLemmas.{faultless_read}
use Rattle.wt_c.proofs.settings.written_settings_are_read.Goals as goal

pub returns : goal.returns
returns c = λ settings writable. faultless_read settings writable.numbers writable.faultless
