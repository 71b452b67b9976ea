-- Where the entries of a map are.
use Rattle.std.specs.Prelude.{◌≡◌, ◌⊎◌, ℕ, List, length, filter_map, slice_get, ◌++◌, [], ◌∷◌, Option, None, Some}
use Rattle.std.specs.Ordering.{nat_cmp}
use Rattle.std.specs.BTreeMap.{BTreeMap, get, btree_map_len}
use Rattle.vesgrauf_streams.specs.declared.slots.Slot.{Slot}
use Rattle.vesgrauf_streams.specs.declared.slots.Slot.TheVariants.{Free, Taken}

module _ {V : Type 0} where
  -- the entry of a slot
  abbrev pub entry_in : Slot V → Option (ℕ × V)
  entry_in (Free next) = None
  entry_in (Taken id v) = Some (id, v)

  -- the entries, slot by slot
  abbrev pub entries_in : List (Slot V) → List (ℕ × V)
  entries_in slots = filter_map entry_in slots

  -- the ID in a slot
  abbrev pub id_in : Option (Slot V) → Option ℕ
  id_in None = None
  id_in (Some (Free next)) = None
  id_in (Some (Taken id v)) = Some id

  -- the value in a slot
  abbrev pub value_in : Option (Slot V) → Option V
  value_in None = None
  value_in (Some (Free next)) = None
  value_in (Some (Taken id v)) = Some v

  -- the ID in the slot of this number
  abbrev pub id_at : List (Slot V) → ℕ → Option ℕ
  id_at slots i = id_in (slice_get slots i)

  -- the value in the slot of this number
  abbrev pub value_at : List (Slot V) → ℕ → Option V
  value_at slots i = value_in (slice_get slots i)

  -- this slot is there and free
  abbrev pub IsFree : List (Slot V) → ℕ → Type 0
  IsFree slots i = (next : ℕ) × (slice_get slots i ≡ Some (Free next))

  -- the same, but for one more free slot
  abbrev pub IsSame : List (Slot V) → List (Slot V) → Type 0
  IsSame old new = (new ≡ old) ⊎ ((next : ℕ) × (new ≡ old ++ Free next ∷ []))

  -- a slot with another value
  abbrev pub refilled : Slot V → V → Slot V
  refilled (Free next) w = Free next
  refilled (Taken id v) w = Taken id w

  -- the index says of each ID in which slot it is, and there are as many IDs as entries
  pub record IsIndex (slots : List (Slot V)) (index : BTreeMap ℕ ℕ) : Type 0 where
    pub there : (i id : ℕ) → id_at slots i ≡ Some id → get nat_cmp index id ≡ Some i
    pub back : (id i : ℕ) → get nat_cmp index id ≡ Some i → id_at slots i ≡ Some id
    pub counted : btree_map_len index ≡ length (entries_in slots)
