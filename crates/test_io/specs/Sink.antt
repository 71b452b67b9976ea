-- The results of a sink that stops.
use Rattle.std.specs.Prelude.{List, [], ◌∷◌}
use Rattle.wtp_core.specs.declared.bytes.sink.WriteStep.{WriteStep}
use Rattle.wtp_core.specs.declared.bytes.sink.WriteStep.TheVariants.{Bytes, Stopped, NotConnected}

-- the results of a sink that accepts eight bytes, one per call, then stops, and is then
-- disconnected
abbrev pub one_a_call : List WriteStep
one_a_call =
    Bytes 1 ∷ Bytes 1 ∷ Bytes 1 ∷ Bytes 1 ∷ Bytes 1 ∷ Bytes 1 ∷ Bytes 1 ∷ Bytes 1
    ∷ Stopped ∷ NotConnected ∷ []
