-- Items: what a frame and the header of a stream have in common.
use Rattle.std.specs.Prelude.{◌≡◌, ◌<◌, ◌^◌, ℕ, List, [], ◌∷◌, length, Option, Some, None, Result, Ok, Err}
use Rattle.wtp_core.specs.Varint.{shortest}
use Rattle.wtp_wire.specs.declared.item.Tail.{Tail}
use Rattle.wtp_wire.specs.declared.item.Tail.TheVariants.{Nothing, Session, Payload}

-- the parts of an item in order: its type, and a session ID, or the length of a payload and the
-- payload, if there is one
abbrev pub item_parts : ℕ → Tail → List (List ℕ)
item_parts number Nothing = shortest number ∷ []
item_parts number (Session id) = shortest number ∷ shortest id ∷ []
item_parts number (Payload bytes) = shortest number ∷ shortest (length bytes.now) ∷ bytes.now ∷ []

-- the payload has a length that can be written
abbrev pub FitsTail : Tail → Type 0
FitsTail Nothing = Unit {0}
FitsTail (Session id) = Unit {0}
FitsTail (Payload bytes) = length bytes.now < 2 ^ 62

-- a reader moved from old to ahead if an item was read, and otherwise not at all
abbrev pub MovesPast :
    {Item Fault : Type 0} → Result (Option Item) Fault → List ℕ → List ℕ → List ℕ → Type 0
MovesPast (Ok (Some _)) old ahead new = new ≡ ahead
MovesPast (Ok None) old ahead new = new ≡ old
MovesPast (Err _) old ahead new = new ≡ old
