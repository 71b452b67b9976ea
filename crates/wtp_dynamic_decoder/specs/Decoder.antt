-- A decoder: its table, the streams that wait, and what it tells the encoder (RFC 9204, sections
-- 2.2 and 4.4).
use Rattle.std.specs.Prelude.{◌≡◌, ◌⊎◌, ℕ, ◌-◌, ◌<◌, ◌≤◌, ◌==◌, nat_lt, not, filter, if◌then◌else◌, max, Bool, true, false, ◌&&◌, List, [], ◌∷◌, ◌++◌, length, Option, Some, None, Result, Ok, Err, MatchResult}
use Rattle.wtp_dynamic.specs.declared.error.EncoderStreamError.{EncoderStreamError}
use Rattle.wtp_dynamic.specs.declared.error.SectionError.{SectionError}
use Rattle.wtp_dynamic.specs.declared.error.SectionError.TheVariants.{TooManyBlocked, Memory}
use Rattle.wtp_dynamic.specs.declared.acknowledgment.Acknowledgment.{Acknowledgment}
use Rattle.wtp_dynamic.specs.declared.acknowledgment.Acknowledgment.TheVariants as instruction
use Rattle.wtp_dynamic.specs.DecoderStream.{acknowledgment_bytes}
use Rattle.wtp_dynamic.specs.Table.{Table, insert_count}
use Rattle.wtp_dynamic.specs.Stream.{Stands, Reaches, Stops}
use Rattle.wtp_dynamic.specs.Section.{Prefix, prefix_at, is_blocked}
use Rattle.wtp_dynamic_decoder.specs.declared.decoder.Waiting.{Waiting}

-- ---- the state

-- the encoder stream: the bytes of a cut instruction, or the error at which it ended
pub data Progress : Type 0 where
  Runs : (held : List ℕ) → Progress
  Failed : EncoderStreamError → Progress

abbrev pub progress_of : Option EncoderStreamError → List ℕ → Progress
progress_of None held = Runs held
progress_of (Some e) held = Failed e

-- how many bytes of a cut instruction are held: none once the stream has ended
abbrev pub held_count : Progress → ℕ
held_count (Runs held) = length held
held_count (Failed e) = 0

-- The table, the encoder stream, the Known Received Count, the streams that wait, and how many may.
pub record Decoder : Type 0 where
  pub table : Table
  pub progress : Progress
  pub known : ℕ
  pub waiting : List Waiting
  pub most : ℕ

-- ---- the encoder stream

-- What reading a piece did: after an error nothing. An error stays, which is the fault of the stream,
-- or that allocation failed and the piece needs memory; the table is what the instructions before it
-- made.
abbrev pub PieceRead : Progress → List ℕ → (old new : Decoder)
    → Result (Unit {0}) EncoderStreamError → Type 0
PieceRead (Failed e) piece old new result = (new ≡ old) × (result ≡ Err e)
PieceRead (Runs held) piece old new result =
    MatchResult result
    (λ _. (left : List ℕ) × Stands old.table (held ++ piece) new.table left
    × (new ≡ record old { table = new.table; progress = Runs left }))
    (λ e. Reaches old.table (held ++ piece) new.table
    × Stops old.table held piece new.table e
    × (new ≡ record old { table = new.table; progress = Failed e }))

-- ---- sections

-- it is another stream than this one
abbrev pub is_other : ℕ → Waiting → Bool
is_other stream waiting = not (waiting.stream == stream)

-- it is another stream than this one, and waits for more than so many insertions
abbrev pub waits : ℕ → ℕ → Waiting → Bool
waits stream count waiting = nat_lt count waiting.required && is_other stream waiting

-- the other streams that wait
abbrev pub others : ℕ → Decoder → List Waiting
others stream decoder = filter (waits stream (insert_count decoder.table)) decoder.waiting

-- the decoder when these wait
abbrev pub with_waiting : List Waiting → Decoder → Decoder
with_waiting waiting decoder = record decoder { waiting = waiting }

-- A section of a stream was opened: its lines can be read, and the stream does not wait.
pub record IsOpened (stream : ℕ) (section : List ℕ) (old new : Decoder) (prefix : Prefix)
    : Type 0 where
  pub is : prefix_at old.table section ≡ Ok prefix
  pub free : is_blocked old.table prefix ≡ false
  pub same : new ≡ with_waiting (others stream old) old

-- a stream that waits for so many insertions
abbrev pub waiting_for : (stream required : ℕ) → Waiting
waiting_for stream required = record { stream = stream; required = required }

-- It needs more insertions. The stream waits, with no more others than may (section 2.1.2).
pub record IsWaiting (stream : ℕ) (section : List ℕ) (old new : Decoder) (required : ℕ)
    : Type 0 where
  pub prefix : Prefix
  pub is : prefix_at old.table section ≡ Ok prefix
  pub needs : prefix.required ≡ required
  pub blocked : is_blocked old.table prefix ≡ true
  pub few : length (others stream old) < old.most
  pub same : new ≡ with_waiting (others stream old ++ waiting_for stream required ∷ []) old

-- It needs more insertions, and as many other streams wait as may.
pub record IsOneTooMany (stream : ℕ) (section : List ℕ) (old new : Decoder) : Type 0 where
  pub prefix : Prefix
  pub is : prefix_at old.table section ≡ Ok prefix
  pub blocked : is_blocked old.table prefix ≡ true
  pub many : old.most ≤ length (others stream old)
  pub same : new ≡ with_waiting (others stream old) old

-- It needs more insertions, the stream may wait, and allocation failed: nothing changed.
pub record IsNotKept (stream : ℕ) (section : List ℕ) (old new : Decoder) : Type 0 where
  pub prefix : Prefix
  pub is : prefix_at old.table section ≡ Ok prefix
  pub blocked : is_blocked old.table prefix ≡ true
  pub few : length (others stream old) < old.most
  pub same : new ≡ old

-- why a section was not opened: its prefix has a fault, and nothing changed; too many streams wait;
-- or allocation failed
abbrev pub Refuses : ℕ → List ℕ → Decoder → Decoder → SectionError → Type 0
Refuses stream section old new e =
    ((new ≡ old) × (prefix_at old.table section ≡ Err e))
    ⊎ (((e ≡ TooManyBlocked) × IsOneTooMany stream section old new)
    ⊎ ((e ≡ Memory) × IsNotKept stream section old new))

-- ---- the decoder stream

-- the acknowledgment of a section with this count (section 4.4.1)
abbrev pub due_section : ℕ → ℕ → Option Acknowledgment
due_section stream required = if required == 0 then None else Some (instruction.Section stream)

-- the insertions of which the encoder does not know that they were received (section 4.4.3)
abbrev pub due_increment : Decoder → Option Acknowledgment
due_increment decoder =
    if insert_count decoder.table == decoder.known then None
    else Some (instruction.Increment (insert_count decoder.table - decoder.known))

-- the cancellation of a stream, which a decoder without a table does not need (section 4.4.2)
abbrev pub due_cancellation : ℕ → Decoder → Option Acknowledgment
due_cancellation stream decoder =
    if decoder.table.limit == 0 then None else Some (instruction.Cancellation stream)

-- the decoder after an acknowledgment, which tells the encoder of all entries below the count
-- (section 2.1.4)
abbrev pub acknowledged : ℕ → Decoder → Decoder
acknowledged required decoder = record decoder { known = max decoder.known required }

abbrev pub incremented : Decoder → Decoder
incremented decoder = record decoder { known = insert_count decoder.table }

-- the decoder after a cancellation: the stream does not wait
abbrev pub cancelled : ℕ → Decoder → Decoder
cancelled stream decoder =
    record decoder { waiting = filter (is_other stream) decoder.waiting }

-- bytes with an instruction after them, if there is one
abbrev pub told : List ℕ → Option Acknowledgment → List ℕ
told bytes None = bytes
told bytes (Some due) = bytes ++ acknowledgment_bytes due

-- the instruction that is due, if there is one, was appended to bytes; or one is due and allocation
-- failed, and nothing changed
abbrev pub Tells : {E : Type 0} → Option Acknowledgment → (made old new : Decoder)
    → (before after : List ℕ) → Result (Unit {0}) E → Type 0
Tells due made old new before after result =
    MatchResult result (λ _. (new ≡ made) × (after ≡ told before due))
    (λ _. (instruction : Acknowledgment) × (due ≡ Some instruction) × (new ≡ old)
    × (after ≡ before))
