-- The bytes that writers have written, and the space they have left.
use Rattle.std.specs.Prelude.{◌≡◌, ℕ, ◌<◌, ◌≤◌, List, [], ◌∷◌, ◌++◌, length, drop, Option, Some, None, Result, Ok, Err, Bool, IsTrue}
use Rattle.wtp_core.specs.declared.bytes.writer.PutError.{PutError}
use Rattle.wtp_core.specs.declared.bytes.writer.PutError.TheVariants.{EndOfBuffer, Memory}

-- The space left is given by the bytes in it, which the next ones overwrite; None is unlimited
-- space.

-- the space left after n more bytes
abbrev pub room_after : Option (List ℕ) → ℕ → Option (List ℕ)
room_after None n = None
room_after (Some place) n = Some (drop n place)

-- n bytes fit
abbrev pub HasRoom : Option (List ℕ) → ℕ → Type 0
HasRoom None n = Unit {0}
HasRoom (Some place) n = n ≤ length place

-- n bytes do not fit
abbrev pub LacksRoom : Option (List ℕ) → ℕ → Type 0
LacksRoom None n = ⊥
LacksRoom (Some place) n = length place < n

-- a writer may return this error for n bytes; `grows` says whether it allocates
abbrev pub Refuses : Bool → Option (List ℕ) → ℕ → PutError → Type 0
Refuses grows room n EndOfBuffer = LacksRoom room n
Refuses grows room n Memory = HasRoom room n × IsTrue grows × (0 < n)

-- the writer wrote all of the bytes, or returned an error and changed nothing
abbrev pub WritesPrefix :
    Bool → List ℕ → Result (Unit {0}) PutError → List ℕ → Option (List ℕ) → List ℕ → Option (List ℕ)
    → Type 0
WritesPrefix grows bytes (Ok u) old room new left =
    (new ≡ old ++ bytes) × (left ≡ room_after room (length bytes)) × HasRoom room (length bytes)
WritesPrefix grows bytes (Err e) old room new left =
    (new ≡ old) × (left ≡ room) × Refuses grows room (length bytes) e

-- the concatenation of the parts
abbrev pub joined : List (List ℕ) → List ℕ
joined [] = []
joined (part ∷ parts) = part ++ joined parts

-- the writer wrote these parts in order, or only those before the first one that failed
abbrev pub PutsParts :
    Bool → List (List ℕ) → Result (Unit {0}) PutError → List ℕ → Option (List ℕ) → List ℕ
    → Option (List ℕ) → Type 0
PutsParts grows parts (Ok u) old room new left =
    (new ≡ old ++ joined parts)
    × (left ≡ room_after room (length (joined parts)))
    × HasRoom room (length (joined parts))
PutsParts grows parts (Err e) old room new left =
    (whole : List (List ℕ))
    × (part : List ℕ)
    × (behind : List (List ℕ))
    × (parts ≡ whole ++ part ∷ behind)
    × (new ≡ old ++ joined whole)
    × (left ≡ room_after room (length (joined whole)))
    × Refuses grows left (length part) e
