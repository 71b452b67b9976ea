-- Polled reading of a variable-length integer, or into a buffer.
use Rattle.std.specs.Prelude.{◌≡◌, ℕ, ◌<◌, List, [], ◌++◌, length, Some, None, Result, Ok, Err}
use Rattle.wtp_core.specs.declared.bytes.poll.Polled.{Polled}
use Rattle.wtp_core.specs.declared.bytes.poll.Polled.TheVariants.{Ready, Pending, Again, NoMemory}
use Rattle.wtp_core.specs.declared.bytes.error.IoReadError.{IoReadError}
use Rattle.wtp_core.specs.Varint.{number_at}
use Rattle.wtp_core.specs.Source.{Source}
use Rattle.wtp_core.specs.Polled.{stop}

-- In these definitions, old and new are the bytes that the state holds before and after one poll.

-- the source gives no more bytes, and all bytes that it had ahead are held
pub record Stops (old new : List ℕ) (fault : IoReadError) (a b : Source) : Type 0 where
  pub none_ahead : b.ahead ≡ []
  pub held : new ≡ old ++ a.ahead
  pub why : fault ≡ stop (length new) a.ending

-- the source was not ready, and no byte was lost
pub record Waits (old new : List ℕ) (a b : Source) : Type 0 where
  pub waited : a.waits < b.waits
  pub kept : new ++ b.ahead ≡ old ++ a.ahead

-- ---- a number

-- the effect of one poll for a number, by its result, on the bytes held and on the model of the
-- source
abbrev pub VarintPolled : Polled (Result ℕ IoReadError) → List ℕ → List ℕ → Source → Source → Type 0
VarintPolled (Ready (Ok v)) old new a b = number_at (old ++ a.ahead) ≡ Some (v, b.ahead)
VarintPolled (Ready (Err e)) old new a b = (number_at (old ++ a.ahead) ≡ None) × Stops old new e a b
VarintPolled Pending old new a b = Waits old new a b
VarintPolled Again old new a b = ⊥
VarintPolled NoMemory old new a b = ⊥

-- The bytes that the source gave follow those held. If the number is complete, all of them are its
-- encoding, and none is held any more. This holds for every source, even without a model.
abbrev pub VarintGiven : Polled (Result ℕ IoReadError) → List ℕ → List ℕ → Type 0
VarintGiven (Ready (Ok v)) old new =
    (new ≡ []) × ((given : List ℕ) × (number_at (old ++ given) ≡ Some (v, [])))
VarintGiven (Ready (Err e)) old new = (given : List ℕ) × (new ≡ old ++ given)
VarintGiven Pending old new = (given : List ℕ) × (new ≡ old ++ given)
VarintGiven Again old new = ⊥
VarintGiven NoMemory old new = ⊥

-- ---- into a buffer

-- the effect of one poll into a buffer, by its result, on the bytes held and on the model of the
-- source
abbrev pub BufferPolled :
    {U : Type 0} → Polled (Result U IoReadError) → List ℕ → List ℕ → Source → Source → Type 0
BufferPolled (Ready (Ok _)) old new a b = new ++ b.ahead ≡ old ++ a.ahead
BufferPolled (Ready (Err e)) old new a b = Stops old new e a b
BufferPolled Pending old new a b = Waits old new a b
BufferPolled Again old new a b = ⊥
BufferPolled NoMemory old new a b = ⊥

-- The state holds its old bytes and those that the source gave, and is finished exactly if the
-- buffer is full. This holds for every source, even without a model.
abbrev pub BufferGiven : {U : Type 0} → Polled (Result U IoReadError) → ℕ → List ℕ → List ℕ → Type 0
BufferGiven (Ready (Ok _)) room old new =
    (length new ≡ room) × ((given : List ℕ) × (new ≡ old ++ given))
BufferGiven (Ready (Err e)) room old new =
    (length new < room) × ((given : List ℕ) × (new ≡ old ++ given))
BufferGiven Pending room old new = (length new < room) × ((given : List ℕ) × (new ≡ old ++ given))
BufferGiven Again room old new = ⊥
BufferGiven NoMemory room old new = ⊥
