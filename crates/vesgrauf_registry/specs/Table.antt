-- Registries: numbers, and what the standards say of each.
use Rattle.std.specs.Prelude.{◌≡◌, true, false, ◌&&◌, not, Bool, ℕ, List, [], ◌∷◌, ◌==◌, if◌then◌else◌, ◌⊎◌, Option, Some, None}
use Rattle.vesgrauf_registry.specs.declared.row.Row as declared
use Rattle.vesgrauf_registry.specs.declared.row.CName as declared_name
use Rattle.vesgrauf_registry.specs.declared.row.CName.TheVariants as of_row

-- the name of the constant in C, without WT_ and the prefix of its table: that of the row, another
-- one, or none
pub data CName : Type 0 where
  Same : CName
  Other : List ℕ → CName
  Absent : CName

-- a registered number, its name, the name of its constant in C, and what the standards say of it
pub record Entry (C : Type 0) : Type 0 where
  pub number : ℕ
  pub name : List ℕ
  pub c_name : CName
  pub columns : C

-- the first of these entries with this number
abbrev pub among : {C : Type 0} → ℕ → List (Entry C) → Option (Entry C)
among n [] = None
among n (e ∷ rest) = if n == e.number then Some e else among n rest

-- ---- the rows of the code

-- the first of these rows with this number
unfoldable pub row_among : {C : Type 0} → ℕ → List (declared.Row C) → Option (declared.Row C)
row_among n [] = None
row_among n (r ∷ rest) = if n == r.number then Some r else row_among n rest

abbrev pub shown_name : declared_name.CName → CName
shown_name of_row.Same = Same
shown_name (of_row.Other name) = Other name.now
shown_name of_row.Absent = Absent

-- a row of the code as an entry, with these columns
abbrev pub shown_by : {C D : Type 0} → (C → D) → declared.Row C → Entry D
shown_by columns r = record {
  number = r.number;
  name = r.name.now;
  c_name = shown_name r.c_name;
  columns = columns r.columns;
}

-- a row of the code as an entry
abbrev pub shown : {C : Type 0} → declared.Row C → Entry C
shown r = shown_by (λ c. c) r

-- ---- laws over the entries

-- it holds at the number of each entry
abbrev pub AtEach : {C : Type 0} → (ℕ → Type 0) → List (Entry C) → Type 0
AtEach P [] = Unit {0}
AtEach P (e ∷ rest) = P e.number × AtEach P rest

-- the number is that of no entry
abbrev pub IsOther : {C : Type 0} → ℕ → List (Entry C) → Type 0
IsOther n [] = Unit {0}
IsOther n (e ∷ rest) = ((n == e.number) ≡ false) × IsOther n rest

-- a test holds of each entry
abbrev pub all_entries : {C : Type 0} → (Entry C → Bool) → List (Entry C) → Bool
all_entries test [] = true
all_entries test (e ∷ rest) = test e && all_entries test rest

-- no two entries have the same number
abbrev pub are_distinct : {C : Type 0} → List (Entry C) → Bool
are_distinct [] = true
are_distinct (e ∷ rest) =
    all_entries (λ other. not (e.number == other.number)) rest && are_distinct rest

-- the entry is one of these
abbrev pub IsEntry : {C : Type 0} → Entry C → List (Entry C) → Type 0
IsEntry e [] = ⊥
IsEntry e (first ∷ rest) = (e ≡ first) ⊎ IsEntry e rest
