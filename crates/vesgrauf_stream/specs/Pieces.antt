-- A piece of content, or of a stream of a session, that is heard at once.
use Rattle.std.specs.Prelude.{ℕ}
use Rattle.wtp_webtransport.specs.declared.connection.Connection.{Connection}
use Rattle.wtp_webtransport.specs.declared.stream.Part.{Part}
use Rattle.wtp_webtransport.specs.declared.stream.Part.TheVariants as part
use Rattle.vesgrauf_stream.specs.declared.bytes.Bytes.{Bytes}
use Rattle.vesgrauf_stream.specs.declared.bytes.Chunk.{Chunk}
use Rattle.vesgrauf_stream.specs.declared.heard.Heard.{Heard}
use Rattle.vesgrauf_stream.specs.declared.heard.Heard.TheVariants as heard
use Rattle.vesgrauf_stream.specs.declared.reading.Reading.{Reading}
use Rattle.vesgrauf_stream.specs.declared.reading.Found.TheVariants as found
use Rattle.vesgrauf_stream.specs.Reading.{Hears}

-- what is heard of a piece
abbrev pub heard_piece : Part → Bytes → Heard
heard_piece part.OfSession piece = heard.StreamData piece
heard_piece other piece = heard.Data piece

-- it is what a call hears, whatever the limit of sections is
abbrev pub HearsPiece : Bytes → Connection → Reading → Chunk → Connection → Reading → Chunk → Type 0
HearsPiece piece c r input d s rest =
    (limit : ℕ) → Hears limit c r input (found.Heard (heard_piece r.stream.part piece)) d s rest
