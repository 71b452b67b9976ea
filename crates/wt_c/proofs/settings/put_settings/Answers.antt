use Rattle.std.proofs.Common.{refl}
use Rattle.wtp_wire.specs.SettingPairs.{setting_items}
use Rattle.wt_c.proofs.SettingLemmas.{begins, lacks, put_all}
use Rattle.wt_c.proofs.settings.put_settings.Goals as goal

pub returns-then-count-settings-clause-room : goal.returns-then-count-settings-clause-room
returns-then-count-settings-clause-room c = λ _. (c.requires.0, c.requires.1, lacks c.args.payload.now c.requires.0 c.args.settings.now c.count_settings.result c.requires.1 c.count_settings.ensures c.if-count-settings.true, refl)

pub settings-init : goal.settings-init
settings-init c = begins c.args.payload.now c.requires.0 c.args.settings.now c.new-left.result (setting_items c.args.payload.now) c.count_settings.result c.requires.1 c.new-left.ensures refl c.count_settings.ensures c.if-count-settings.false

pub returns-clause-settings : goal.returns-clause-settings
returns-clause-settings c = λ _. (c.requires.0, c.requires.1, put_all c.args.payload.now c.requires.0 c.args.settings.now c.settings.settings c.settings.n c.settings.left (setting_items c.args.payload.now) c.count_settings.result c.requires.1 refl c.settings.invariant c.in_default.ensures.steps.0)
