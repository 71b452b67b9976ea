-- The result of reading a frame from a stream.
use Rattle.std.specs.Prelude.{◌≡◌, ℕ, Bool, false, List, Option, Some, None, Result, Ok, Err, length, ◌⊎◌}
use Rattle.wtp_core.specs.declared.error.ErrorCode.{ErrorCode}
use Rattle.wtp_core.specs.declared.error.ErrorCode.TheVariants.{Id, ExcessiveLoad}
use Rattle.wtp_wire.specs.Content.{Content, kind_in}
use Rattle.wtp_wire.specs.Front.{Front, Framed, Unknown, BadId, TooBig, Short, front}
use Rattle.wtp_wire.specs.Rule.{Role, rule}
use Rattle.wtp_wire.specs.Run.{MayGoOn, Open, H3, ends, follows, skip_unknown, run}

-- a frame, or the fault that refuses it
abbrev pub permitted : Option ErrorCode → Content → Result Content ErrorCode
permitted None f = Ok f
permitted (Some c) f = Err c

-- the same, as the result of reading a frame
abbrev pub verdict : Option ErrorCode → Content → Result (Option Content) ErrorCode
verdict None f = Ok (Some f)
verdict (Some c) f = Err c

-- the result of reading the first known frame, and the bytes it leaves unless they are too few
abbrev pub AnswersKnown : Front → Result (Option Content) ErrorCode → List ℕ → Type 0
AnswersKnown front (Ok (Some f)) left = front ≡ Framed f left
AnswersKnown front (Ok None) left = front ≡ Short
AnswersKnown front (Err c) left =
    ((c ≡ Id) × (front ≡ BadId left)) ⊎ ((c ≡ ExcessiveLoad) × (front ≡ TooBig left))

-- the result of reading a frame of a stream, by its first known frame; whether a next one would be
-- the first; and the bytes it leaves unless they are too few
abbrev pub AnswersFrame :
    Role → Bool → Front → Result (Option Content) ErrorCode → Bool → List ℕ → Type 0
AnswersFrame role first (Framed f rest) answer next left =
    (answer ≡ verdict (rule role first (kind_in f)) f) × (next ≡ false) × (left ≡ rest)
AnswersFrame role first (BadId rest) answer next left =
    (answer ≡ Err Id) × (next ≡ first) × (left ≡ rest)
AnswersFrame role first (TooBig rest) answer next left =
    (answer ≡ Err ExcessiveLoad) × (next ≡ first) × (left ≡ rest)
AnswersFrame role first (Unknown rest) answer next left = ⊥
AnswersFrame role first Short answer next left = (answer ≡ Ok None) × (next ≡ first)

-- after a fault: a refused frame was read completely, the others were not
abbrev pub FirstAfter : Role → Bool → Front → Bool → Type 0
FirstAfter role first (Framed f rest) next = next ≡ false
FirstAfter role first (Unknown rest) next = next ≡ first
FirstAfter role first (BadId rest) next = next ≡ first
FirstAfter role first (TooBig rest) next = next ≡ first
FirstAfter role first Short next = next ≡ first

-- the same by the run of what is left, for a reader that moves past a frame only
abbrev pub AnswersRun :
    Role → Bool → List ℕ → Result (Option Content) ErrorCode → Bool → List ℕ → Type 0
AnswersRun role first old (Ok (Some f)) next new =
    run role first old MayGoOn ≡ follows f (run role next new MayGoOn)
AnswersRun role first old (Ok None) next new =
    (run role first old MayGoOn ≡ ends (Open (length old))) × (new ≡ old)
AnswersRun role first old (Err c) next new =
    (run role first old MayGoOn ≡ ends (H3 c)) × (new ≡ old)

-- the same by the first known frame: whether a next one would be the first, and the bytes left
abbrev pub ReaderIsAfter :
    Role → Bool → List ℕ → Result (Option Content) ErrorCode → Bool → List ℕ → Type 0
ReaderIsAfter role first old (Ok (Some f)) next new =
    (front (skip_unknown old) ≡ Framed f new) × (rule role first (kind_in f) ≡ None)
    × (next ≡ false)
ReaderIsAfter role first old (Ok None) next new =
    (front (skip_unknown old) ≡ Short) × (next ≡ first) × (new ≡ old)
ReaderIsAfter role first old (Err c) next new =
    FirstAfter role first (front (skip_unknown old)) next × (new ≡ old)

-- a reader moves to the bytes left after a frame, and without a frame it does not move
abbrev pub MovesPast : Result (Option Content) ErrorCode → List ℕ → List ℕ → List ℕ → Type 0
MovesPast (Ok (Some f)) old left new = new ≡ left
MovesPast (Ok None) old left new = new ≡ old
MovesPast (Err c) old left new = new ≡ old
