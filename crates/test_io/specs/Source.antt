-- How test sources end.
use Rattle.wtp_core.specs.Source.{SourceEnding, AtEnd, AtReset, AtDisconnection}
use Rattle.test_io.specs.declared.source.End.{End}
use Rattle.test_io.specs.declared.source.End.TheVariants as end

-- the ending in the model of a test source
abbrev pub ending_of : End → SourceEnding
ending_of end.Fin = AtEnd
ending_of end.Reset = AtReset
ending_of end.NotConnected = AtDisconnection
