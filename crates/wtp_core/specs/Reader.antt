-- The bytes that readers have left, and the part of a reader that reading leaves unchanged.
use Rattle.std.specs.Prelude.{◌≡◌, ℕ, List, [], ◌++◌}

-- rest is a suffix of the bytes
pub record IsRest (rest bytes : List ℕ) : Type 0 where
  pub taken : List ℕ
  pub parts : bytes ≡ taken ++ rest

-- The part of a reader that reading leaves unchanged: the bytes that it was created over. For a
-- child also: the bytes of its parent, those that the parent has left, the name of the borrow of
-- the parent, and the child's position plus the number of bytes it has left.
pub record Kept : Type 0 where
  pub whole : List ℕ
  pub parent_whole : List ℕ
  pub parent_left : List ℕ
  pub parent_name : ℕ
  pub child_end : ℕ

-- the unchanged part of a reader without a parent
abbrev pub kept_alone : List ℕ → Kept
kept_alone whole =
    record { whole = whole; parent_whole = []; parent_left = []; parent_name = 0; child_end = 0 }
