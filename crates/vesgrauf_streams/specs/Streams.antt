-- What a contract sees of a map from stream IDs to values.
use Rattle.std.specs.Prelude.{◌≡◌, ℕ, ◌≤◌, false, cond, List, length, Option, None, Some, IsSome}
use Rattle.std.specs.Ordering.{nat_cmp}
use Rattle.std.specs.Map.{lookup, set_value}
use Rattle.std.specs.BTreeMap.{is_at}

-- the IDs with their values, each ID once, in no order that is promised
pub record Streams (X : Type 0) : Type 0 where
  pub entries : List (ℕ × X)

module _ {X : Type 0} where
  -- the value of a stream
  abbrev pub get : Streams X → ℕ → Option X
  get m id = lookup (is_at (nat_cmp id)) m.entries

  -- how many entries
  abbrev pub streams_len : Streams X → ℕ
  streams_len m = length m.entries

  -- m with w as the value of a stream that it has
  abbrev pub with_value : Streams X → ℕ → X → Streams X
  with_value m id w = record { entries = set_value (is_at (nat_cmp id)) m.entries w }

  -- n has w as the value of this stream (`None`: it has no such stream), and of each other stream what m has
  abbrev pub Updates : Streams X → Streams X → ℕ → Option X → Type 0
  Updates m n id w = ((q : ℕ) → get n q ≡ cond (is_at (nat_cmp id) q) w (get m q))
      × (get n id ≡ w)
      × ((q : ℕ) → is_at (nat_cmp id) q ≡ false → get n q ≡ get m q)

  -- n is m after w is written through what `get_mut` lent for this ID: that changes nothing where there is no such stream
  abbrev pub WritesThrough : Streams X → ℕ → X → Streams X → Type 0
  WritesThrough m id w n = (n.entries ≡ set_value (is_at (nat_cmp id)) m.entries w)
      × (streams_len n ≡ streams_len m)
      × (IsSome (get m id) → Updates m n id (Some w))

  -- no stream has an ID from this one on
  abbrev pub HasNoneFrom : Streams X → ℕ → Type 0
  HasNoneFrom m from = (q : ℕ) → from ≤ q → get m q ≡ None

  -- a stream and its value, and no stream has an ID below it and from this one on
  pub record IsFirstFrom (m : Streams X) (from id : ℕ) (v : X) : Type 0 where
    pub there : get m id ≡ Some v
    pub within : from ≤ id
    pub first : (q : ℕ) → from ≤ q → IsSome (get m q) → id ≤ q
