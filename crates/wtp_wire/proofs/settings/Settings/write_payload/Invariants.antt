use Rattle.std.proofs.Common.{◌≡◌}
use Rattle.wtp_wire.specs.Settings.{settings_parts}
use Rattle.wtp_wire.proofs.PartsLemmas.{PutsAfter}
use Rattle.wtp_wire.proofs.settings.Settings.write_payload.Given as goal

abbrev pub invariant-loop-number : goal.invariant-loop-number
invariant-loop-number g l =
    PutsAfter g.W.BytesWriter.grows (settings_parts l.self) (settings_parts l.number-iterator) (g.W.BytesWriter.written l.fn.writer) (g.W.BytesWriter.room l.fn.writer) (g.W.BytesWriter.written l.writer) (g.W.BytesWriter.room l.writer) ×
    (g.W.BytesWriter.target l.writer ≡ g.W.BytesWriter.target l.fn.writer)
