use Rattle.wt_inspection_views.specs.Lines.{Gains}
use Rattle.wt_inspection_views.proofs.text.parts.add_settings.Given as goal

abbrev pub invariant-loop-setting : goal.invariant-loop-setting
invariant-loop-setting l = Gains l.setting-index l.fn.text l.text
