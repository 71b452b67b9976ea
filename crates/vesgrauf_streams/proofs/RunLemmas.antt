-- What a run of calls leaves.
use Rattle.std.proofs.Common.{◌≡◌, ◌≢◌, ℕ, cond, List, [], ◌∷◌, Option, Some, None, refl, ap, ◌∙◌, nat_cmp}
use Rattle.std.specs.BTreeMap.{is_at}
use Rattle.vesgrauf_streams.specs.Streams.{Streams, get, Updates}
use Rattle.vesgrauf_streams.specs.Runs.{Step, Puts, Removes, Run, put_last}
use Rattle.vesgrauf_streams.proofs.PlaceLemmas.{other_id}

module _ {V : Type 0} where
  pub looks_last : (steps : List (Step V)) (m : Streams V) → Run steps m → (id : ℕ) → get m id ≡ put_last steps id
  looks_last [] n empty id = rw empty refl
  looks_last (Puts at v ∷ before) n (m, run, up) id =
      up.0 id ∙ ap (cond (is_at (nat_cmp at) id) (Some v)) (looks_last before m run id)
  looks_last (Removes at ∷ before) n (m, run, up) id =
      up.0 id ∙ ap (cond (is_at (nat_cmp at) id) None) (looks_last before m run id)

  pub others_keep : (m n : Streams V) (id other : ℕ) (w : Option V) → Updates m n id w → id ≢ other
      → get n other ≡ get m other
  others_keep m n id other w up apart = up.2 other (other_id id other apart)
