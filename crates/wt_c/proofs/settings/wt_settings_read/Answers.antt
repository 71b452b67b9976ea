use Rattle.wt_c.proofs.SettingLemmas.{payload_pairs}
use Rattle.wt_c.proofs.settings.wt_settings_read.Goals as goal

pub put_settings-requires : goal.put_settings-requires
put_settings-requires c = payload_pairs c.args.payload.now c.in-Ok.field-0 c.in-Ok.ensures.settings
