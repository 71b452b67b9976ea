-- Kinds and their numbers: each named kind has one number, and each reserved number is an exercise
-- kind.
use Rattle.std.specs.Prelude.{ℕ, List, [], ◌∷◌, Option, Some, None, ◌==◌, if◌then◌else◌}
use Rattle.wtp_wire.specs.Kind.{is_exercise}

-- the kind with this number, if there is one: a named kind, or an exercise kind
abbrev pub kind_by : {K : Type 0} → (K → ℕ) → (ℕ → K) → List K → ℕ → Option K
kind_by number exercise [] id = if is_exercise id then Some (exercise id) else None
kind_by number exercise (k ∷ ks) id =
    if id == number k then Some k else kind_by number exercise ks id
