use Rattle.std.proofs.Common.{refl, ◌∙◌}
use Rattle.wtp_wire.specs.Settings.{settings_parts}
use Rattle.wtp_wire.proofs.OverwrittenLemmas.{take-overwritten}
use Rattle.wtp_wire.proofs.settings.Settings.generate_frame_ref.Goals as goal

pub returns-clause-ok : goal.returns-clause-ok
returns-clause-ok c = c.new_settings.ensures ∙ rw (c.in_ok-len.ensures.size, c.in_ok-len.ensures.bytes, take-overwritten (settings_parts c.args.self.now) c.args.buffer.now (c.in_ok-len.ensures.room.0 refl)) refl
