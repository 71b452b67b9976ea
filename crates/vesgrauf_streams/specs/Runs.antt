-- Runs of calls of one map.
use Rattle.std.specs.Prelude.{◌≡◌, ℕ, cond, List, [], ◌∷◌, Option, Some, None}
use Rattle.std.specs.Ordering.{nat_cmp}
use Rattle.std.specs.BTreeMap.{is_at}
use Rattle.vesgrauf_streams.specs.Streams.{Streams, Updates}

-- A call that changes the map: a value is put under an ID, by `insert` or through what `get_mut` lends, or what is
-- there is removed.
pub data Step (V : Type 0) : Type 0 where
  Puts : ℕ → V → Step V
  Removes : ℕ → Step V

module _ {V : Type 0} where
  -- what a call changes
  abbrev pub Does : Step V → Streams V → Streams V → Type 0
  Does (Puts id v) m n = Updates m n id (Some v)
  Does (Removes id) m n = Updates m n id None

  -- these calls, the last one first, lead from the empty map to this one
  abbrev pub Run : List (Step V) → Streams V → Type 0
  Run [] n = n.entries ≡ []
  Run (step ∷ before) n = (m : Streams V) × Run before m × Does step m n

  -- what was last put under an ID, or nothing if that was removed, or if nothing was put there
  abbrev pub put_last : List (Step V) → ℕ → Option V
  put_last [] q = None
  put_last (Puts id v ∷ before) q = cond (is_at (nat_cmp id) q) (Some v) (put_last before q)
  put_last (Removes id ∷ before) q = cond (is_at (nat_cmp id) q) None (put_last before q)
