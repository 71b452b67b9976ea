-- How the bytes of a stream lie in blocks: some blocks are sealed, and bytes are added to one after them, the last. The first
-- `lent` sealed blocks and `used` bytes of the block after them were given, and `freed` of these bytes were freed.
use Rattle.std.specs.Prelude.{◌≡◌, ◌≢◌, ◌⊎◌, ℕ, ◌+◌, ◌-◌, ◌<◌, ◌≤◌, List, [], ◌∷◌, ◌++◌, length, take, drop, map, slice_index_or}
use Rattle.std.specs.List.{concat}
use Rattle.std.specs.declared.vec.Vec.{Vec}
use Rattle.std.specs.declared.alloc.Global.{Global}
use Rattle.vesgrauf_queue.specs.Pieces.{first}

-- the bytes of blocks
abbrev pub parts : List (Vec ℕ Global) → List (List ℕ)
parts vs = map (λ v. v.items) vs

-- the blocks that were not given whole
abbrev pub left_in : List (List ℕ) → List ℕ → ℕ → List (List ℕ)
left_in sealed last lent = drop lent sealed ++ last ∷ []

-- without the first bytes of the first one
abbrev pub without_front : ℕ → List (List ℕ) → List (List ℕ)
without_front used [] = []
without_front used (x ∷ xs) = drop used x ∷ xs

-- the pieces that were not given
abbrev pub pieces_in : List (List ℕ) → List ℕ → (lent used : ℕ) → List (List ℕ)
pieces_in sealed last lent used = without_front used (left_in sealed last lent)

-- the bytes that were given
abbrev pub given_in : List (List ℕ) → List ℕ → (lent used : ℕ) → List ℕ
given_in sealed last lent used = concat (take lent sealed) ++ take used (first (left_in sealed last lent))

-- those that are kept
abbrev pub kept_in : List (List ℕ) → List ℕ → (lent used freed : ℕ) → List ℕ
kept_in sealed last lent used freed = drop freed (given_in sealed last lent used)

-- No sealed block is empty, and no block stays once all of its bytes are freed.
pub record IsLaid (sealed : List (List ℕ)) (last : List ℕ) (lent used freed : ℕ) : Type 0 where
  pub few : lent ≤ length sealed
  pub filled : (k : ℕ) → k < length sealed → 0 < length (slice_index_or sealed k [])
  pub within : used ≤ length (first (left_in sealed last lent))
  pub part : lent < length sealed → used < length (first (left_in sealed last lent))
  pub given : freed ≤ length (given_in sealed last lent used)
  pub needed : 0 < freed → freed < length (first (sealed ++ last ∷ []))

-- Some of the first `lent` blocks are gone: those of which all bytes are among the first `freed`.
pub record Freed (old : List (List ℕ)) (lent freed : ℕ) (new : List (List ℕ)) (still_lent still_freed : ℕ) : Type 0 where
  pub few : still_lent ≤ lent
  pub rest : new ≡ drop (lent - still_lent) old
  pub bytes : freed ≡ length (concat (take (lent - still_lent) old)) + still_freed
  pub needed : 0 < still_lent → still_freed < length (first new)

-- The last `excess` bytes of the blocks after the first `lent` are gone.
pub record Cut (old : List (List ℕ)) (last : List ℕ) (lent excess : ℕ) (new : List (List ℕ)) (new_last : List ℕ) : Type 0 where
  pub few : lent ≤ length new
  pub front : new ≡ take (length new) old
  pub rest : concat (left_in new new_last lent)
      ≡ take (length (concat (left_in old last lent)) - excess) (concat (left_in old last lent))

-- The last block is empty again if it is the only one and all of its bytes were freed; else nothing changes.
abbrev pub Reuses : (sealed : List (List ℕ)) (last : List ℕ) (used freed : ℕ) (new_last : List ℕ) (new_used new_freed : ℕ) → Type 0
Reuses sealed last used freed new_last new_used new_freed =
    ((sealed ≡ []) × (freed ≡ length last) × (new_last ≡ []) × (new_used ≡ 0) × (new_freed ≡ 0))
    ⊎ ((sealed ≡ [] → freed ≢ length last) × (new_last ≡ last) × (new_used ≡ used) × (new_freed ≡ freed))
