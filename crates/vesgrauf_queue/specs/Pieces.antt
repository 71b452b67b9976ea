-- The bytes of a stream that are to be sent, in pieces, each of which lies in one slice. Only the last piece may be
-- empty.
use Rattle.std.specs.Prelude.{◌≡◌, ◌⊎◌, ℕ, ◌-◌, ◌==◌, if◌then◌else◌, nat_le, List, [], ◌∷◌, ◌++◌, length, take, drop}

-- the first piece
abbrev pub first : List (List ℕ) → List ℕ
first [] = []
first (x ∷ xs) = x

-- the piece after the first one
abbrev pub second : List (List ℕ) → List ℕ
second [] = []
second (x ∷ xs) = first xs

-- with these bytes at the end of the last piece
abbrev pub onto_last : List (List ℕ) → List ℕ → List (List ℕ)
onto_last [] bytes = bytes ∷ []
onto_last (x ∷ []) bytes = (x ++ bytes) ∷ []
onto_last (x ∷ y ∷ xs) bytes = x ∷ onto_last (y ∷ xs) bytes

-- Bytes are added at the end, in one slice: in that of the last piece, or in one of their own.
abbrev pub Adds : List (List ℕ) → List ℕ → List (List ℕ) → Type 0
Adds old bytes new = (new ≡ onto_last old bytes) ⊎ (new ≡ old ++ bytes ∷ [])

-- A head and bytes after it are added, each in one slice. An empty piece may follow.
abbrev pub AddsBoth : List (List ℕ) → (head bytes : List ℕ) → List (List ℕ) → Type 0
AddsBoth old head bytes new =
    (mid whole : List (List ℕ)) × Adds old head mid × Adds mid bytes whole × ((new ≡ whole) ⊎ (new ≡ whole ++ [] ∷ []))

-- without the first n bytes of the first piece, and without the piece if it has no more and another follows
abbrev pub after_first : ℕ → List (List ℕ) → List (List ℕ)
after_first n [] = []
after_first n (x ∷ []) = drop n x ∷ []
after_first n (x ∷ y ∷ xs) = if n == length x then y ∷ xs else drop n x ∷ y ∷ xs

-- the first bytes of these, and none only if there are none
abbrev pub IsStartOf : List ℕ → List ℕ → Type 0
IsStartOf all some = (rest : List ℕ) × (all ≡ some ++ rest) × (some ≡ [] → all ≡ [])

-- what is shown of the first piece: at most 16,384 bytes
abbrev pub shown_first : List (List ℕ) → List ℕ
shown_first xs = take 16384 (first xs)

-- of the second piece as many bytes as the first one leaves
abbrev pub shown_second : List (List ℕ) → List ℕ
shown_second xs = take (16384 - length (first xs)) (second xs)

-- all that is shown at once
abbrev pub shown : List (List ℕ) → List ℕ
shown xs = shown_first xs ++ shown_second xs

-- without the first n of the bytes that are shown
abbrev pub after_shown : ℕ → List (List ℕ) → List (List ℕ)
after_shown n xs =
    if nat_le n (length (first xs)) then after_first n xs
    else after_first (n - length (first xs)) (after_first (length (first xs)) xs)
