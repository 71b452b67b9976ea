-- What happens to the bytes of one stream: they come, and they are read.
use Rattle.std.specs.Prelude.{◌≡◌, ℕ, ◌+◌, ◌≤◌, ◌||◌, Bool, false, List, [], ◌∷◌, ◌++◌, length, drop}

-- Bytes come, and whether the stream ends after them; or so many of those that were not read are looked at, and so
-- many of these are read.
pub data Turn : Type 0 where
  Comes : List ℕ → Bool → Turn
  Reads : ℕ → ℕ → Turn

-- the bytes that were not read, and whether the stream ends after them
abbrev pub Unread : Type 0
Unread = List ℕ × Bool

-- these turns lead from one to the other
abbrev pub Leads : List Turn → Unread → Unread → Type 0
Leads [] u v = u ≡ v
Leads (Comes bytes fin ∷ turns) u v = Leads turns (u.0 ++ bytes, u.1 || fin) v
Leads (Reads reach consumed ∷ turns) u v =
    (reach ≤ length u.0) × (consumed ≤ reach) × Leads turns (drop consumed u.0, u.1) v

-- all bytes that came, joined
abbrev pub bytes_in : List Turn → List ℕ
bytes_in [] = []
bytes_in (Comes bytes fin ∷ turns) = bytes ++ bytes_in turns
bytes_in (Reads reach consumed ∷ turns) = bytes_in turns

-- how many were read
abbrev pub read_in : List Turn → ℕ
read_in [] = 0
read_in (Comes bytes fin ∷ turns) = read_in turns
read_in (Reads reach consumed ∷ turns) = consumed + read_in turns

-- the stream ended
abbrev pub end_in : List Turn → Bool
end_in [] = false
end_in (Comes bytes fin ∷ turns) = fin || end_in turns
end_in (Reads reach consumed ∷ turns) = end_in turns
