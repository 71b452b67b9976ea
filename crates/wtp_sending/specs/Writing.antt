-- What a call that sends writes: all of its bytes, or nothing.
use Rattle.std.specs.Prelude.{◌≡◌, ℕ, List, ◌++◌, length, Option, Result, Ok, Err, IsOk, Bool, IsTrue}
use Rattle.wtp_core.specs.declared.bytes.writer.PutError.{PutError}
use Rattle.wtp_core.specs.declared.bytes.writer.PutError.TheVariants as put
use Rattle.wtp_core.specs.Varint.{shortest}
use Rattle.wtp_core.specs.Writer.{room_after, HasRoom, LacksRoom}
use Rattle.wtp_sending.specs.declared.error.SendError.{SendError}
use Rattle.wtp_sending.specs.declared.error.SendError.TheVariants.{EndOfBuffer, Memory}

-- the same reason, as an error of sending
abbrev pub error_of : PutError → SendError
error_of put.EndOfBuffer = EndOfBuffer
error_of put.Memory = Memory

-- all of the bytes were written, or nothing was
abbrev pub WritesAll :
    {E : Type 0} → List ℕ → Result (Unit {0}) E → List ℕ → Option (List ℕ) → List ℕ
    → Option (List ℕ) → Type 0
WritesAll bytes (Ok u) old room new left =
    (new ≡ old ++ bytes) × (left ≡ room_after room (length bytes)) × HasRoom room (length bytes)
WritesAll bytes (Err e) old room new left = (new ≡ old) × (left ≡ room)

-- why a call that may be made did not write n bytes: they do not fit, or a writer that grows had no
-- memory
abbrev pub Lacks : Bool → Option (List ℕ) → ℕ → SendError → Type 0
Lacks grows room n EndOfBuffer = LacksRoom room n
Lacks grows room n Memory = HasRoom room n × IsTrue grows
Lacks grows room n other = ⊥

-- the same for a call that allocates memory of its own
abbrev pub LacksOrFails : Option (List ℕ) → ℕ → SendError → Type 0
LacksOrFails room n EndOfBuffer = LacksRoom room n
LacksOrFails room n Memory = Unit {0}
LacksOrFails room n other = ⊥

-- Why a call that writes n bytes failed, if this verdict says whether it may be made: it may not be
-- made, or the bytes do not fit, or a writer that grows had no memory.
abbrev pub Fails :
    {S : Type 0} → Result S SendError → Bool → Option (List ℕ) → ℕ → SendError → Type 0
Fails verdict grows room n EndOfBuffer = IsOk verdict × LacksRoom room n
Fails verdict grows room n Memory = IsOk verdict × HasRoom room n × IsTrue grows
Fails verdict grows room n other = verdict ≡ Err other

-- the same for a call that allocates memory of its own first, if it may be made
abbrev pub FailsAllocating :
    {S : Type 0} → Result S SendError → Option (List ℕ) → ℕ → SendError → Type 0
FailsAllocating verdict room n EndOfBuffer = IsOk verdict × LacksRoom room n
FailsAllocating verdict room n Memory = IsOk verdict
FailsAllocating verdict room n other = verdict ≡ Err other

-- two numbers, each in its shortest encoding
abbrev pub two_numbers : ℕ → ℕ → List ℕ
two_numbers a b = shortest a ++ shortest b

-- three numbers in the same way
abbrev pub three_numbers : ℕ → ℕ → ℕ → List ℕ
three_numbers a b c = shortest a ++ (shortest b ++ shortest c)
