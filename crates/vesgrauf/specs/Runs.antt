-- What comes on one stream of the peer, call after call, and what is told of it.
use Rattle.std.specs.Prelude.{◌≡◌, ◌⊎◌, ◌++◌, ◌||◌, ℕ, Bool, false, List, [], ◌∷◌}
use Rattle.wtp_webtransport.specs.declared.stream.Stream.{Stream}
use Rattle.vesgrauf.specs.Theirs.{more_bytes, Theirs, Gone, Unread, Piece, AreCalls, all_items, IsLeft, IsTold}
use Rattle.vesgrauf.specs.Items.{Item}

-- Comes: these bytes of the stream are reported, and whether it ends after them. Tells: a call of `next_event` tells these
-- items of it, or none. Rests: another call.
pub data Step : Type 0 where
  Comes : (bytes : List ℕ) → (fin : Bool) → Step
  Tells : (items : List Item) → Step
  Rests : Step

-- more bytes are unread
abbrev pub with_more : Theirs → List ℕ → Bool → Theirs
with_more Gone bytes fin = Gone
with_more (Unread before ended s) bytes fin = Unread (more_bytes ended before bytes) (ended || fin) s

-- what a step does to the bytes that are unread: as the contracts of the calls say
abbrev pub Does : Step → Theirs → Theirs → Type 0
Does (Comes bytes fin) x y = y ≡ with_more x bytes fin
Does (Tells items) x y = IsTold x items y
Does Rests x y = IsLeft x y

abbrev pub Leads : List Step → Theirs → Theirs → Type 0
Leads [] x y = y ≡ x
Leads (s ∷ steps) x y = (z : Theirs) × Does s x z × Leads steps z y

-- all bytes that came, up to the end
abbrev pub came : List Step → List ℕ
came [] = []
came (Comes bytes fin ∷ steps) = more_bytes fin bytes (came steps)
came (s ∷ steps) = came steps

-- the end came
abbrev pub ends : List Step → Bool
ends [] = false
ends (Comes bytes fin ∷ steps) = fin || ends steps
ends (s ∷ steps) = ends steps

-- all items that were told
abbrev pub told : List Step → List Item
told [] = []
told (Tells items ∷ steps) = items ++ told steps
told (s ∷ steps) = told steps

-- The layer below reads these bytes from the first on, one call after the other, each in the state in which the one before left
-- the stream, and the first in this one. What its calls say is what was told. The rest is what is unread, unless the stream is
-- read no further.
pub record IsToldOf (bytes : List ℕ) (ended : Bool) (s : Stream) (items : List Item) (y : Theirs) : Type 0 where
  pub pieces : List Piece
  pub rest : List ℕ
  pub t : Stream
  pub calls : AreCalls pieces bytes ended s rest t
  pub says : all_items pieces ≡ items
  pub left : (y ≡ Unread rest ended t) ⊎ (y ≡ Gone)
