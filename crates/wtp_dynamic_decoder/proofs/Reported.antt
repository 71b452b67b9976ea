-- The fault of the first instruction is what reading a piece returns.
use Rattle.std.proofs.Common.{◌≡◌, ◌≢◌, ◌⊎◌, ℕ, inl, inr, List, [], refl, sym, ap, arith, Result, Ok, Err}
use Rattle.wtp_dynamic.specs.declared.error.EncoderStreamError.{EncoderStreamError}
use Rattle.wtp_dynamic.specs.declared.error.EncoderStreamError.TheVariants as fault
use Rattle.wtp_dynamic.specs.Table.{Table}
use Rattle.wtp_dynamic.specs.Stream.{HasFault, HasNoText, Breaks, PieceLacks}
use Rattle.wtp_dynamic.proofs.Streams.{stands_or_breaks, breaks_only}
use Rattle.wtp_dynamic.proofs.Needs.{fault_needs_none}
use Rattle.wtp_dynamic_decoder.specs.Decoder.{Decoder, Runs, PieceRead}

at_front : (t : Table) (bytes : List ℕ) (e : EncoderStreamError) → HasFault t bytes e → Breaks t bytes t e
at_front t bytes e wrong = record { instructions = []; rest = bytes; leads = (refl, refl); fault = wrong }

is_memory : (f : EncoderStreamError) → (f ≡ fault.Memory) ⊎ (f ≢ fault.Memory)
is_memory fault.IntegerOverflow = inr (λ e. cc e)
is_memory fault.InstructionTooLong = inr (λ e. cc e)
is_memory fault.InvalidString = inr (λ e. cc e)
is_memory fault.IndexNotFound = inr (λ e. cc e)
is_memory fault.CapacityAboveLimit = inr (λ e. cc e)
is_memory fault.EntryTooLarge = inr (λ e. cc e)
is_memory fault.EntryNotFound = inr (λ e. cc e)
is_memory fault.TooManyInsertions = inr (λ e. cc e)
is_memory fault.Memory = inl refl

lacks_none : (t : Table) (piece : List ℕ) (u : Table) (e : EncoderStreamError) → HasFault t piece e → HasNoText t piece → ¬ PieceLacks t [] piece u
lacks_none t piece u e wrong none (inl (some, more, same)) = omega (arith, some)
lacks_none t piece u e wrong none (inr lacks) = fault_needs_none t piece e u wrong none lacks

pub reported : (piece : List ℕ) (old new : Decoder) (r : Result (Unit {0}) EncoderStreamError) (e : EncoderStreamError) → PieceRead (Runs []) piece old new r → HasFault old.table piece e → HasNoText old.table piece → r ≡ Err e
reported piece old new (Ok u) e (left, stands, is) wrong none =
    absurd (stands_or_breaks old.table piece new.table left old.table e stands (at_front old.table piece e wrong))
reported piece old new (Err f) e (reaches, stops, is) wrong none = elim (is_memory f) [
  | inl memory ↦ absurd (lacks_none old.table piece new.table e wrong none (stops.1 memory))
  | inr other ↦ ap Err (sym (breaks_only old.table piece old.table new.table e f (at_front old.table piece e wrong) (stops.0 other)).1)
]
