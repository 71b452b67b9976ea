-- A kind of frame stored as its type.
use Rattle.std.proofs.Common.{◌≡◌, ℕ, Bool, true, false, eqb, cond, List, [], ◌∷◌, Option, Some, None, refl, sym}
use Rattle.std.proofs.lemmas.Bool.{eqb-true}
use Rattle.wtp_wire.specs.declared.frame.kind.FrameKind.{FrameKind}
use Rattle.wtp_wire.specs.declared.frame.kind.FrameKind.TheVariants.{Exercise}
use Rattle.wtp_wire.specs.Kind.{frame_type_of, registered, kind_among, registered_kind}

-- the kind that was found, or else an exercise kind
abbrev pub or_exercise : ℕ → Option FrameKind → FrameKind
or_exercise id (Some kind) = kind
or_exercise id None = Exercise id

-- the kind with this type; an unknown type is treated as an exercise kind
unfoldable pub kind_numbered : ℕ → FrameKind
kind_numbered id = or_exercise id (registered_kind id)

-- ---- the type is unchanged

by_test :
    (b : Bool) (kind : FrameKind) (other : Option FrameKind) (id : ℕ)
    → (b ≡ true → frame_type_of kind ≡ id) → frame_type_of (or_exercise id other) ≡ id
    → frame_type_of (or_exercise id (cond b (Some kind) other)) ≡ id
by_test true kind other id here there = here refl
by_test false kind other id here there = there

number_of_kind_among :
    (kinds : List FrameKind) (id : ℕ) → frame_type_of (or_exercise id (kind_among id kinds)) ≡ id
number_of_kind_among [] id = refl
number_of_kind_among (kind ∷ rest) id =
    by_test (eqb id (frame_type_of kind)) kind (kind_among id rest) id
    (λ t. sym (eqb-true id (frame_type_of kind) t)) (number_of_kind_among rest id)

pub number_of_kind_numbered : (id : ℕ) → frame_type_of (kind_numbered id) ≡ id
unfolding kind_numbered registered_kind
number_of_kind_numbered id = number_of_kind_among registered id
