use Rattle.std.proofs.Common.{sym, ◌∙◌}
use Rattle.wtp_wire.proofs.OverwrittenLemmas.{parts-some}
use Rattle.wtp_wire.proofs.settings.Settings.generate_frame.Goals as goal

pub returns-then-is_err-clause-memory : goal.returns-then-is_err-clause-memory
returns-then-is_err-clause-memory c = λ e. parts-some _ _ _ _ _ _ (sym c.is_err.ensures.value ∙ c.if-is_err.true) c.write_payload.ensures.parts
