-- The decoder stream: its instructions, one after the other (RFC 9204, section 4.4).
use Rattle.std.specs.Prelude.{◌≡◌, ◌≢◌, ◌⊎◌, ℕ, ◌+◌, ◌==◌, nat_lt, nat_le, if◌then◌else◌, max, List, [], ◌∷◌, ◌++◌, length, take, drop, Option, Some, None, Result, Ok, Err, MatchResult}
use Rattle.wtp_qpack.specs.declared.qpack.DecodingError.{DecodingError}
use Rattle.wtp_qpack.specs.declared.qpack.DecodingError.TheVariants.{UnexpectedFin}
use Rattle.wtp_dynamic.specs.declared.acknowledgment.Acknowledgment.{Acknowledgment}
use Rattle.wtp_dynamic.specs.declared.acknowledgment.Acknowledgment.TheVariants.{Section, Cancellation, Increment}
use Rattle.wtp_dynamic.specs.declared.error.DecoderStreamError.{DecoderStreamError}
use Rattle.wtp_dynamic.specs.declared.error.DecoderStreamError.TheVariants as fault
use Rattle.wtp_dynamic.specs.declared.ledger.Sent.{Sent}
use Rattle.wtp_dynamic.specs.DecoderStream.{acknowledgment_at}
use Rattle.wtp_dynamic.specs.EncoderState.{taken, without}

-- ---- the first instruction

-- an instruction and the bytes after it; too few bytes; or a number that is too large, or has more
-- bytes than any number needs
pub data First : Type 0 where
  Whole : Acknowledgment → List ℕ → First
  Cut : First
  Overflow : First

-- how many bytes the numbers up to 2^64 - 1 have at most: one with a prefix, and ten groups of
-- seven bits
abbrev pub most_bytes : ℕ
most_bytes = 11

abbrev pub first_by : List ℕ → Result (Acknowledgment × List ℕ) DecodingError → First
first_by bytes (Ok x) = Whole x.0 (x.1 ++ drop most_bytes bytes)
first_by bytes (Err UnexpectedFin) = if nat_le most_bytes (length bytes) then Overflow else Cut
first_by bytes (Err e) = Overflow

unfoldable pub first_of : List ℕ → First
first_of bytes = first_by bytes (acknowledgment_at (take most_bytes bytes))

-- ---- what an instruction does

-- the Known Received Count and the sections that are not acknowledged, the oldest first
abbrev pub Ledger : Type 0
Ledger = ℕ × List Sent

-- a section was acknowledged: all entries below its count were received (section 2.1.4)
abbrev pub without_section : ℕ → Option (Sent × List Sent) → Result Ledger DecoderStreamError
without_section known None = Err fault.UnknownSection
without_section known (Some x) = Ok (max known x.0.required, x.1)

-- what an instruction does, where so many entries were inserted
abbrev pub step : Acknowledgment → (inserted : ℕ) → Ledger → Result Ledger DecoderStreamError
-- the oldest section of the stream that is not acknowledged was decoded (section 4.4.1)
step (Section stream) inserted ledger = without_section ledger.0 (taken stream ledger.1)
-- no section of the stream will be acknowledged (section 4.4.2)
step (Cancellation stream) inserted ledger = Ok (ledger.0, without stream ledger.1)
-- so many more entries were received, at least one and no more than there are (section 4.4.3)
step (Increment count) inserted ledger =
    if count == 0 then Err fault.ZeroIncrement
    else if nat_lt inserted (ledger.0 + count) then Err fault.IncrementTooLarge
    else Ok (ledger.0 + count, ledger.1)

-- ---- the stream

-- The bytes start with these instructions, followed by the rest, and they lead from one ledger to
-- another.
abbrev pub Leads : List Acknowledgment → ℕ → Ledger → List ℕ → Ledger → List ℕ → Type 0
Leads [] inserted ledger bytes after rest = (after ≡ ledger) × (rest ≡ bytes)
Leads (first ∷ others) inserted ledger bytes after rest =
    (next : Ledger) × (behind : List ℕ) × (first_of bytes ≡ Whole first behind)
    × (step first inserted ledger ≡ Ok next) × Leads others inserted next behind after rest

-- the bytes end within an instruction, or before one
abbrev pub IsCut : List ℕ → Type 0
IsCut bytes = first_of bytes ≡ Cut

-- the first instruction has a fault: its number overflows, or the ledger does not allow it
abbrev pub HasFault : ℕ → Ledger → List ℕ → DecoderStreamError → Type 0
HasFault inserted ledger bytes e =
    ((first_of bytes ≡ Overflow) × (e ≡ fault.IntegerOverflow))
    ⊎ ((first : Acknowledgment) × (behind : List ℕ) × (first_of bytes ≡ Whole first behind)
    × (step first inserted ledger ≡ Err e))

-- The bytes led to a ledger, and those of a cut instruction are held.
pub record Stands (inserted : ℕ) (start : Ledger) (bytes : List ℕ) (ledger : Ledger) (held : List ℕ)
    : Type 0 where
  pub instructions : List Acknowledgment
  pub leads : Leads instructions inserted start bytes ledger held
  pub cut : IsCut held

-- The bytes have a fault, after the instructions that led to a ledger.
pub record Breaks (inserted : ℕ) (start : Ledger) (bytes : List ℕ) (ledger : Ledger)
    (e : DecoderStreamError) : Type 0 where
  pub instructions : List Acknowledgment
  pub rest : List ℕ
  pub leads : Leads instructions inserted start bytes ledger rest
  pub fault : HasFault inserted ledger rest e

-- Instructions at the start of the bytes led from one ledger to another.
abbrev pub Reaches : ℕ → Ledger → List ℕ → Ledger → Type 0
Reaches inserted start bytes ledger =
    (instructions : List Acknowledgment) × (rest : List ℕ)
    × Leads instructions inserted start bytes ledger rest

-- What reading bytes did to a ledger: on an error, which is the fault unless allocation failed, the
-- ledger is what the instructions before it made.
abbrev pub StreamRead : {X : Type 0} → (X → List ℕ) → ℕ → Ledger → List ℕ → Ledger
    → Result X DecoderStreamError → Type 0
StreamRead held inserted old bytes new result =
    MatchResult result (λ x. Stands inserted old bytes new (held x))
    (λ e. Reaches inserted old bytes new × (e ≢ fault.Memory → Breaks inserted old bytes new e))

-- a call did this step to a ledger: on an error it did nothing
abbrev pub Steps : Result Ledger DecoderStreamError → Ledger → Ledger
    → Result (Unit {0}) DecoderStreamError → Type 0
Steps stepped old new result =
    MatchResult result (λ _. stepped ≡ Ok new) (λ e. (new ≡ old) × (stepped ≡ Err e))
