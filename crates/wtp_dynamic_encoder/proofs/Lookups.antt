-- The first static entry of a name, with a value.
use Rattle.std.proofs.Common.{◌≡◌, ℕ, List, ◌∙◌, ap, Some}
use Rattle.wtp_qpack.specs.StaticTable.{entry_at, first_entry}
use Rattle.wtp_qpack.proofs.StaticLemmas.{first_found}
use Rattle.wtp_dynamic.specs.Plans.{with_value}

pub named_first : (name value : List ℕ) (k : ℕ) → first_entry name ≡ Some k → with_value value (entry_at k) ≡ Some (name, value)
named_first name value k at =
    let found = first_found name k at in
    ap (with_value value) found.1 ∙ ap (λ (n : List ℕ). Some (n, value)) found.2
