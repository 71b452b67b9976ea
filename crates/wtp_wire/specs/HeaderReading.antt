-- The result of reading a stream header, and the bytes left afterwards.
use Rattle.std.specs.Prelude.{◌≡◌, List, ℕ, Option, Some, None, Result, Ok, Err}
use Rattle.wtp_wire.specs.declared.stream_header.ParseError.{ParseError}
use Rattle.wtp_wire.specs.declared.stream_header.ParseError.TheVariants.{UnknownStream, InvalidSessionId}
use Rattle.wtp_wire.specs.Header.{Header}
use Rattle.wtp_wire.specs.HeaderFront.{HeaderFront, Headed, Unknown, BadId, Short}

-- The result for this case. Unless the bytes are too few, new are the bytes after it.
abbrev pub AnswersHeader : HeaderFront → Result (Option Header) ParseError → List ℕ → Type 0
AnswersHeader front (Ok (Some h)) new = front ≡ Headed h new
AnswersHeader front (Ok None) new = front ≡ Short
AnswersHeader front (Err UnknownStream) new = front ≡ Unknown new
AnswersHeader front (Err InvalidSessionId) new = front ≡ BadId new

-- The same for a reader that moves past a complete header, and otherwise keeps the old bytes.
abbrev pub AnswersHeaderWhole :
    HeaderFront → Result (Option Header) ParseError → List ℕ → List ℕ → Type 0
AnswersHeaderWhole front (Ok (Some h)) old new = front ≡ Headed h new
AnswersHeaderWhole front (Ok None) old new = (front ≡ Short) × (new ≡ old)
AnswersHeaderWhole front (Err UnknownStream) old new =
    ((rest : List ℕ) × (front ≡ Unknown rest)) × (new ≡ old)
AnswersHeaderWhole front (Err InvalidSessionId) old new =
    ((rest : List ℕ) × (front ≡ BadId rest)) × (new ≡ old)
