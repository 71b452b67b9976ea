-- The result of reading a frame, and the bytes left afterwards.
use Rattle.std.specs.Prelude.{◌≡◌, List, ℕ, Option, Some, None, Result, Ok, Err}
use Rattle.wtp_wire.specs.declared.frame.ParseError.{ParseError}
use Rattle.wtp_wire.specs.declared.frame.ParseError.TheVariants.{UnknownFrame, InvalidSessionId, PayloadTooBig}
use Rattle.wtp_wire.specs.Content.{Content}
use Rattle.wtp_wire.specs.Front.{Front, Framed, Unknown, BadId, TooBig, Short}

-- The result for this case. Unless the bytes are too few, new are the bytes after it.
abbrev pub Answers : Front → Result (Option Content) ParseError → List ℕ → Type 0
Answers front (Ok (Some f)) new = front ≡ Framed f new
Answers front (Ok None) new = front ≡ Short
Answers front (Err UnknownFrame) new = front ≡ Unknown new
Answers front (Err InvalidSessionId) new = front ≡ BadId new
Answers front (Err PayloadTooBig) new = front ≡ TooBig new

-- The same for a reader that moves past a complete frame, and otherwise keeps the old bytes.
abbrev pub AnswersWhole : Front → Result (Option Content) ParseError → List ℕ → List ℕ → Type 0
AnswersWhole front (Ok (Some f)) old new = front ≡ Framed f new
AnswersWhole front (Ok None) old new = (front ≡ Short) × (new ≡ old)
AnswersWhole front (Err UnknownFrame) old new =
    ((rest : List ℕ) × (front ≡ Unknown rest)) × (new ≡ old)
AnswersWhole front (Err InvalidSessionId) old new =
    ((rest : List ℕ) × (front ≡ BadId rest)) × (new ≡ old)
AnswersWhole front (Err PayloadTooBig) old new =
    ((rest : List ℕ) × (front ≡ TooBig rest)) × (new ≡ old)
