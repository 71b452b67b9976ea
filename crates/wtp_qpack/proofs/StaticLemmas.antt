-- The slots of the static table: what has a slot is found by it, and nothing else is there.
use Rattle.std.proofs.Common.{◌≡◌, ℕ, zero, suc, ◌+◌, ◌<◌, ◌≤◌, ◌==◌, inl, inr, Bool, true, false, ◌&&◌, List, [], ◌∷◌, length, get_or, refl, sym, ◌∙◌, ap, arith, subst, Option, Some, None}
use Rattle.std.specs.Bool.{Decides}
use Rattle.std.specs.Str.{bytes_eq}
use Rattle.std.specs.List.{list_all, slice_get, slice_index}
use Rattle.std.proofs.lemmas.List.Sums.{AllPass-from_list_all}
use Rattle.std.proofs.lemmas.Bool.{cases_lt, and_parts, eqb-true}
use Rattle.std.proofs.lemmas.Slice.Eq.{bytes_eq-Decides}
use Rattle.std.proofs.lemmas.List.Quantifiers.{position-Some}
use Rattle.std.proofs.lemmas.Option.{slice_get-get_or, slice_get_past, slice_get_within, get_or_from_slice_get}
use Rattle.wtp_qpack.specs.Field.{Field}
use Rattle.wtp_qpack.specs.StaticTable.{static_table, entry_at, first_entry, IsNamed, FindsStatic}
use Rattle.wtp_qpack.specs.StaticSlots.{name_slot, value_slot, field_slot}
use Rattle.wtp_qpack.specs.declared.qpack.static_table.TheConstants.{NAME_SLOTS, FIELD_SLOTS}

-- ---- names

is_some_of : Option ℕ → ℕ → Bool
is_some_of None k = false
is_some_of (Some j) k = j == k

-- the first entry of an entry's name is in the slot of the name
has_slot : Field → Bool
has_slot e = is_some_of (first_entry e.0) (slice_index NAME_SLOTS (name_slot e.0))

names_have_slots : list_all has_slot static_table ≡ true
unfolding has_slot is_some_of static_table name_slot
names_have_slots = refl

some_of : (o : Option ℕ) (k : ℕ) → is_some_of o k ≡ true → o ≡ Some k
unfolding is_some_of
some_of None k e = cc
some_of (Some j) k e = ap Some (eqb-true j k e)

pub same_bytes : (xs ys : List ℕ) → bytes_eq xs ys ≡ true → xs ≡ ys
same_bytes xs ys e = (bytes_eq-Decides xs ys).0 e

pub in_table : (p : Field → Bool) → list_all p static_table ≡ true → (k : ℕ) (e : Field) → entry_at k ≡ Some e → p e ≡ true
in_table p all k e at =
    let within : k < length static_table = slice_get_within static_table k e at in
    subst (λ (x : Field). p x ≡ true) (get_or_from_slice_get static_table k e e at) (AllPass-from_list_all p static_table all k e within)

-- what the slot of an entry's name has
slot_of : (k : ℕ) (e : Field) → entry_at k ≡ Some e → first_entry e.0 ≡ Some (slice_index NAME_SLOTS (name_slot e.0))
unfolding has_slot
slot_of k e at = some_of (first_entry e.0) (slice_index NAME_SLOTS (name_slot e.0)) (in_table has_slot names_have_slots k e at)

-- a name that the entry of its slot has is found
pub name_found : (name : List ℕ) (k : ℕ) → k ≡ slice_index NAME_SLOTS (name_slot name) → IsNamed k name → Some k ≡ first_entry name
name_found name k is (e, at, same) =
    sym (subst (λ (n : List ℕ). first_entry n ≡ Some (slice_index NAME_SLOTS (name_slot n))) same (slot_of k e at) ∙ ap Some (sym is))

-- and another has no entry
pub name_absent : (name : List ℕ) (k : ℕ) → k ≡ slice_index NAME_SLOTS (name_slot name) → (IsNamed k name → ⊥) → None ≡ first_entry name
name_absent name k is other = by_cases (first_entry name) refl
  where
    by_cases : (o : Option ℕ) → first_entry name ≡ o → None ≡ o
    by_cases None e = refl
    by_cases (Some j) e =
        let d : Field = ([], []) in
        let there = position-Some (λ (e : Field). bytes_eq e.0 name) static_table j d e in
        let entry : Field = get_or static_table j d in
        let at : entry_at j ≡ Some entry = slice_get-get_or static_table j d there.0 in
        let same : entry.0 ≡ name = same_bytes entry.0 name there.1 in
        let slot : first_entry name ≡ Some (slice_index NAME_SLOTS (name_slot name)) =
        subst (λ (n : List ℕ). first_entry n ≡ Some (slice_index NAME_SLOTS (name_slot n))) same (slot_of j entry at) in
        let here : j ≡ k = cc (e, slot, is) in
        absurd (other (entry, subst (λ (n : ℕ). entry_at n ≡ Some entry) here at, same))

-- a name without an entry is in no entry
pub named_not_at : (name value : List ℕ) (index : ℕ) → first_entry name ≡ None → entry_at index ≡ Some (name, value) → ⊥
named_not_at name value index none found = cc (none, slot_of index (name, value) found)

-- ---- fields

-- an entry is in its own slot
are_in_slots : ℕ → List Field → Bool
are_in_slots k [] = true
are_in_slots k (e ∷ es) = (slice_index FIELD_SLOTS (field_slot (slice_index NAME_SLOTS (name_slot e.0)) e.1) == k) && are_in_slots (suc k) es

fields_have_slots : are_in_slots 0 static_table ≡ true
unfolding are_in_slots static_table name_slot value_slot field_slot
fields_have_slots = refl

in_slot : (from : ℕ) (es : List Field) (i : ℕ) (e : Field) → are_in_slots from es ≡ true → slice_get es i ≡ Some e
    → slice_index FIELD_SLOTS (field_slot (slice_index NAME_SLOTS (name_slot e.0)) e.1) ≡ from + i
unfolding are_in_slots
in_slot from [] i e test at = cc at
in_slot from (x ∷ es) zero e test at =
    let same : x ≡ e = cc at in
    let parts = and_parts (slice_index FIELD_SLOTS (field_slot (slice_index NAME_SLOTS (name_slot x.0)) x.1) == from) (are_in_slots (suc from) es) test in
    subst (λ (y : Field). slice_index FIELD_SLOTS (field_slot (slice_index NAME_SLOTS (name_slot y.0)) y.1) ≡ from + 0) same (eqb-true _ from parts.0 ∙ omega arith)
in_slot from (x ∷ es) (suc i) e test at =
    let parts = and_parts (slice_index FIELD_SLOTS (field_slot (slice_index NAME_SLOTS (name_slot x.0)) x.1) == from) (are_in_slots (suc from) es) test in
    in_slot (suc from) es i e parts.1 at ∙ omega arith

-- the slot of a field that is an entry has its index
slot_is : (first : ℕ) (name value : List ℕ) (index : ℕ) → first_entry name ≡ Some first → entry_at index ≡ Some (name, value)
    → slice_index FIELD_SLOTS (field_slot first value) ≡ index
slot_is first name value index at found =
    let named : first ≡ slice_index NAME_SLOTS (name_slot name) = cc (at, slot_of index (name, value) found) in
    ap (λ (f : ℕ). slice_index FIELD_SLOTS (field_slot f value)) named ∙ in_slot 0 static_table index (name, value) fields_have_slots found ∙ omega arith

pub field_found : (first : ℕ) (name value : List ℕ) (k : ℕ) → first_entry name ≡ Some first → k ≡ slice_index FIELD_SLOTS (field_slot first value)
    → entry_at k ≡ Some (name, value) → FindsStatic (name, value) (Some k)
field_found first name value k at is found =
    (found, λ lower low there. omega (arith, low, is, slot_is first name value lower at there))

pub field_absent : (first : ℕ) (name value : List ℕ) (k : ℕ) → first_entry name ≡ Some first → k ≡ slice_index FIELD_SLOTS (field_slot first value)
    → (entry_at k ≡ Some (name, value) → ⊥) → FindsStatic (name, value) None
field_absent first name value k at is other =
    λ index there. other (subst (λ (n : ℕ). entry_at n ≡ Some (name, value)) (sym (is ∙ slot_is first name value index at there)) there)

-- ---- one entry

pub named_decides : (index : ℕ) (entry : Field) (name : List ℕ) (r : Bool) → Some entry ≡ entry_at index → r ≡ bytes_eq entry.0 name → Decides r (IsNamed index name)
named_decides index entry name r there is = (
  λ said. (entry, sym there, same_bytes entry.0 name (sym is ∙ said)),
  λ found.
      let same : entry ≡ found.0 = cc (there, found.1) in
      is ∙ (bytes_eq-Decides entry.0 name).1 (ap (λ (e : Field). e.0) same ∙ found.2),
)

pub none_named : (index : ℕ) (name : List ℕ) → None ≡ entry_at index → Decides false (IsNamed index name)
none_named index name none = (λ said. cc said, λ found. cc (none, found.1))

pub static_decides : (index : ℕ) (entry : Field) (name value : List ℕ) (r : Bool) → Some entry ≡ entry_at index → r ≡ (bytes_eq entry.1 value && bytes_eq entry.0 name) → Decides r (entry_at index ≡ Some (name, value))
static_decides index entry name value r there is = (
  λ said. sym there ∙ ap (λ (e : Field). Some e) (same said),
  λ found. is ∙ back (cc (there, found)),
)
  where
    same : r ≡ true → entry ≡ (name, value)
    same said =
        let two = and_parts (bytes_eq entry.1 value) (bytes_eq entry.0 name) (sym is ∙ said) in
        ap (λ (x : List ℕ). (x, entry.1)) (same_bytes entry.0 name two.1) ∙ ap (λ (x : List ℕ). (name, x)) (same_bytes entry.1 value two.0)

    back : entry ≡ (name, value) → (bytes_eq entry.1 value && bytes_eq entry.0 name) ≡ true
    back e = rw ((bytes_eq-Decides entry.0 name).1 (ap (λ (x : Field). x.0) e), (bytes_eq-Decides entry.1 value).1 (ap (λ (x : Field). x.1) e)) refl

pub none_decides : (index : ℕ) (field : Field) → None ≡ entry_at index → Decides false (entry_at index ≡ Some field)
none_decides index field none = (λ said. cc said, λ found. cc (none, found))

pub ruleset decisions = (named_decides, none_named, static_decides, none_decides)

-- ---- entries by index

-- there is no entry past the table
pub past : (k : ℕ) → 99 ≤ k → entry_at k ≡ None
unfolding static_table
past k h = slice_get_past static_table k h

pub entry_below : (k : ℕ) (e : Field) → entry_at k ≡ Some e → k < 99
entry_below k e some = elim (cases_lt k 99) [
  | inl lt ↦ lt
  | inr ge ↦ cc (past k ge, some)
]

-- the first entry of a name is an entry, and has the name
pub first_found : (name : List ℕ) (k : ℕ) → first_entry name ≡ Some k → (e : Field) × (entry_at k ≡ Some e) × (e.0 ≡ name) × (k < 99)
first_found name k e =
    let d : Field = ([], []) in
    let there = position-Some (λ (e : Field). bytes_eq e.0 name) static_table k d e in
    let some : entry_at k ≡ Some (get_or static_table k d) = slice_get-get_or static_table k d there.0 in
    (get_or static_table k d, some, same_bytes (get_or static_table k d).0 name there.1, entry_below k (get_or static_table k d) some)
