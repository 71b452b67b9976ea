-- The size of a table, and places past its end.
use Rattle.std.proofs.Common.{◌≡◌, ℕ, ◌+◌, ◌-◌, ◌≤◌, inl, inr, List, [], ◌∷◌, ◌++◌, refl, arith, None}
use Rattle.std.proofs.lemmas.Bool.{cases_lt, lt-ltb, le-ltb}
use Rattle.std.proofs.lemmas.Option.{slice_get_past}
use Rattle.wtp_qpack.specs.Field.{Field}
use Rattle.wtp_dynamic.specs.Table.{Table, insert_count, entry_size, table_size, entry_of}

pub size_push : (es : List Field) (e : Field) → table_size (es ++ e ∷ []) ≡ table_size es + entry_size e
size_push [] e = omega arith
size_push (x ∷ xs) e = omega (arith, size_push xs e)

pub entry_past : (t : Table) (i : ℕ) → insert_count t ≤ i → entry_of t i ≡ None
entry_past t i past = elim (cases_lt i t.dropped) [
  | inl gone ↦ rw (lt-ltb i t.dropped gone) refl
  | inr there ↦ rw (le-ltb i t.dropped there) (slice_get_past t.live (i - t.dropped) (omega arith))
]
