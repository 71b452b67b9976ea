-- The index of the static entry that is a field, as a function and by the relation.
use Rattle.std.proofs.Common.{◌≡◌, ℕ, ◌<◌, ◌≤◌, inl, inr, Bool, true, List, length, get_or, refl, sym, ◌∙◌, ap, arith, Option, Some, None}
use Rattle.std.specs.Str.{bytes_eq}
use Rattle.std.specs.List.{position, position_or_len}
use Rattle.std.proofs.lemmas.Bool.{cases_lt, and_parts, lt-ltb}
use Rattle.std.proofs.lemmas.Slice.Eq.{bytes_eq-Decides}
use Rattle.std.proofs.lemmas.List.Quantifiers.{position-Some}
use Rattle.std.proofs.lemmas.List.Sums.{fails_before_first}
use Rattle.std.proofs.lemmas.Option.{slice_get-get_or, slice_get_within, get_or_from_slice_get}
use Rattle.wtp_qpack.specs.Field.{Field}
use Rattle.wtp_qpack.specs.StaticTable.{static_table, entry_at, first_entry, FindsStatic, is_entry, exact_entry}
use Rattle.wtp_qpack.specs.FieldLine.{line_with, shortest_line}
use Rattle.wtp_qpack.proofs.StaticLemmas.{same_bytes, named_not_at}

-- ---- one entry

is_itself : (field : Field) → is_entry field field ≡ true
is_itself field = rw ((bytes_eq-Decides field.0 field.0).1 refl, (bytes_eq-Decides field.1 field.1).1 refl) refl

from_entry : (field entry : Field) → is_entry field entry ≡ true → entry ≡ field
from_entry field entry e =
    let two = and_parts (bytes_eq entry.0 field.0) (bytes_eq entry.1 field.1) e in
    ap (λ (x : List ℕ). (x, entry.1)) (same_bytes entry.0 field.0 two.0) ∙ ap (λ (x : List ℕ). (field.0, x)) (same_bytes entry.1 field.1 two.1)

-- an entry that is the field passes
passes : (field : Field) (index : ℕ) → entry_at index ≡ Some field → (index < length static_table) × (is_entry field (get_or static_table index field) ≡ true)
passes field index at =
    (slice_get_within static_table index field at, ap (is_entry field) (get_or_from_slice_get static_table index field field at) ∙ is_itself field)

-- ---- the index

pub exact_found : (field : Field) → FindsStatic field (exact_entry field)
exact_found field = by_index (exact_entry field) refl
  where
    not_below : (p : Field → Bool) (xs : List Field) → position p xs ≡ None → length xs ≤ position_or_len p xs
    not_below p xs none = elim (cases_lt (position_or_len p xs) (length xs)) [
      | inl less ↦ cc (none, lt-ltb (position_or_len p xs) (length xs) less)
      | inr all ↦ all
    ]

    by_index : (o : Option ℕ) → exact_entry field ≡ o → FindsStatic field o
    by_index None none = λ index at.
        let there = passes field index at in
        let fails = fails_before_first (is_entry field) static_table index field (omega (arith, there.0, not_below (is_entry field) static_table none)) in
        cc (there.1, fails)
    by_index (Some index) some =
        let there = position-Some (is_entry field) static_table index field some in
        let entry : Field = get_or static_table index field in (
          slice_get-get_or static_table index field there.0 ∙ ap (λ (x : Field). Some x) (from_entry field entry there.1),
          λ lower low at. cc ((passes field lower at).1, there.2 lower low),
        )

-- the relation has one index
pub one_index : (field : Field) (a b : Option ℕ) → FindsStatic field a → FindsStatic field b → a ≡ b
one_index field None None first second = refl
one_index field None (Some j) first second = absurd (first j second.0)
one_index field (Some i) None first second = absurd (second i first.0)
one_index field (Some i) (Some j) first second = elim (cases_lt i j) [
  | inl less ↦ absurd (second.1 i less first.0)
  | inr more ↦ elim (cases_lt j i) [
    | inl less ↦ absurd (first.1 j less second.0)
    | inr same ↦ ap Some (omega (arith, more, same))
  ]
]

pub exact_is : (field : Field) (found : Option ℕ) → FindsStatic field found → found ≡ exact_entry field
exact_is field found finds = one_index field found (exact_entry field) finds (exact_found field)

-- a field whose name has no entry
pub none_exact : (name value : List ℕ) → first_entry name ≡ None → None ≡ exact_entry (name, value)
none_exact name value none = exact_is (name, value) None (λ index at. named_not_at name value index none at)

-- ---- the line, by the relation

pub line_found : (field : Field) (o : Option ℕ) → FindsStatic field o → shortest_line field ≡ line_with o field
unfolding shortest_line
line_found field o finds = ap (λ (x : Option ℕ). line_with x field) (sym (exact_is field o finds))
