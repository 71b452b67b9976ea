-- What an encoder chooses: which entries it inserts, by which orders, and to which entries lines
-- refer (RFC 9204, sections 2.1.1.1, 4.3 and 4.5).
use Rattle.std.specs.Prelude.{◌≡◌, ◌⊎◌, ℕ, ◌-◌, ◌/◌, ◌<◌, ◌≤◌, nat_le, min, Bool, true, false, List, [], ◌∷◌, Option, Some, None}
use Rattle.wtp_qpack.specs.Field.{Field}
use Rattle.wtp_qpack.specs.StaticTable.{first_entry, FindsStatic}
use Rattle.wtp_dynamic.specs.Table.{Table, insert_count, entry_size, evicted, HasNone, IsLatest, FindsLatest}
use Rattle.wtp_dynamic.specs.Writing.{Order, Sets, InsertsNamed, InsertsLiteral, Duplicates}
use Rattle.wtp_dynamic.specs.Plans.{Plan, StaticField, TableField, StaticName, TableName, NewName}
use Rattle.wtp_dynamic_encoder.specs.declared.proposal.Indexing.{Indexing}
use Rattle.wtp_dynamic_encoder.specs.declared.proposal.Indexing.TheVariants.{ByPolicy, Insert, Without, Never}
use Rattle.wtp_dynamic_encoder.specs.declared.proposal.Policy.{Policy}
use Rattle.wtp_dynamic_encoder.specs.declared.proposal.Proposal.{Proposal}

-- ---- proposals

-- the field of a proposal
abbrev pub field_of : Proposal → Field
field_of proposal = (proposal.name.now, proposal.value.now)

-- the field is never indexed (section 7.1.3)
abbrev pub is_never : Indexing → Bool
is_never Never = true
is_never _ = false

-- the field is to be an entry, if neither table has it
abbrev pub is_proposed : Policy → Field → Indexing → Bool
is_proposed policy field ByPolicy = nat_le (entry_size field) policy.largest
is_proposed policy field Insert = true
is_proposed policy field Without = false
is_proposed policy field Never = false

-- what an encoder does that was not told otherwise
abbrev pub default_policy : Policy
default_policy = record { largest = 1024; reserved = 512; unacknowledged = 256 }

-- ---- look-ups

abbrev pub is_field : Field → Field → Type 0
is_field field entry = entry ≡ field

abbrev pub has_name : List ℕ → Field → Type 0
has_name name entry = entry.0 ≡ name

-- the latest entry with a property, among those from an absolute index on and below another; and if
-- nothing was found, there is none
abbrev pub FindsIn : (Field → Type 0) → Table → (low below : ℕ) → Option ℕ → Type 0
FindsIn holds table low below None =
    (index : ℕ) → low ≤ index → index < below → HasNone holds table index
FindsIn holds table low below (Some index) = IsLatest holds table below index × (low ≤ index)

-- how many bytes of the table hold the entries to which lines refer: all but those that are kept
-- available, which are at most half of the capacity
abbrev pub usable : Policy → Table → ℕ
usable policy table = table.capacity - min policy.reserved (table.capacity / 2)

-- The smallest absolute index to which lines refer. The entries below it are draining: they would
-- be evicted for the bytes that are kept available (section 2.1.1.1).
abbrev pub draining_index : Policy → Table → ℕ
draining_index policy table = (evicted (usable policy table) table).dropped

-- ---- the order that inserts an entry

-- the absolute index of the latest such entry, or that there is none
abbrev pub IsCopy : Field → Table → Option ℕ → Type 0
IsCopy entry table latest = FindsLatest (is_field entry) table (insert_count table) latest

-- the table has no such entry
abbrev pub IsNew : Field → Table → Type 0
IsNew entry table = IsCopy entry table None

-- The latest such entry is inserted again (section 4.3.4). If there is none, the entry has the name
-- of the first static entry with that name, or else of the latest dynamic entry (4.3.2), or else its
-- own (4.3.3). An index counts back from the latest entry (3.2.5).
abbrev pub IsOrderFor : Field → Table → Order → Type 0
IsOrderFor entry table (Sets capacity) = ⊥
IsOrderFor entry table (Duplicates index) =
    (place : ℕ) × (index ≡ insert_count table - 1 - place)
    × IsLatest (is_field entry) table (insert_count table) place
IsOrderFor entry table (InsertsNamed true index value) =
    IsNew entry table × (value ≡ entry.1) × (first_entry entry.0 ≡ Some index)
IsOrderFor entry table (InsertsNamed false index value) =
    IsNew entry table × (value ≡ entry.1) × (first_entry entry.0 ≡ None)
    × (place : ℕ) × (index ≡ insert_count table - 1 - place)
    × IsLatest (has_name entry.0) table (insert_count table) place
IsOrderFor entry table (InsertsLiteral name value) =
    IsNew entry table × (entry ≡ (name, value)) × (first_entry entry.0 ≡ None)
    × FindsLatest (has_name entry.0) table (insert_count table) None

-- ---- which fields are inserted

-- It is to be an entry, to which lines may then refer, and neither table has it as one that is not
-- draining. A larger entry would be draining as soon as it is inserted.
abbrev pub IsWanted : Policy → Proposal → Table → Type 0
IsWanted policy proposal table =
    (is_proposed policy (field_of proposal) proposal.indexing ≡ true)
    × (entry_size (field_of proposal) ≤ usable policy table)
    × FindsStatic (field_of proposal) None
    × FindsIn (is_field (field_of proposal)) table (draining_index policy table)
    (insert_count table) None

-- ---- the line of a field

-- the static table does not have it; and it is never indexed, or the dynamic table does not have it
-- either as an entry to which lines refer
abbrev pub IsLiteral : Table → (low bound : ℕ) → Proposal → Type 0
IsLiteral table low bound proposal =
    FindsStatic (field_of proposal) None
    × ((is_never proposal.indexing ≡ true)
    ⊎ FindsIn (is_field (field_of proposal)) table low bound None)

-- The first static entry that is the field, or else the latest dynamic entry, unless the field is never
-- indexed; or else a literal, with the name of the first static entry, or else of the latest dynamic entry, or else its own. Its
-- dynamic entries are from an absolute index on, and below a bound.
abbrev pub Chooses : Table → (low bound : ℕ) → Proposal → Plan → Type 0
Chooses table low bound proposal (StaticField index) =
    FindsStatic (field_of proposal) (Some index)
Chooses table low bound proposal (TableField place) =
    (is_never proposal.indexing ≡ false) × FindsStatic (field_of proposal) None
    × FindsIn (is_field (field_of proposal)) table low bound (Some place)
Chooses table low bound proposal (StaticName never index value) =
    IsLiteral table low bound proposal × (never ≡ is_never proposal.indexing)
    × (value ≡ proposal.value.now) × (first_entry proposal.name.now ≡ Some index)
Chooses table low bound proposal (TableName never place value) =
    IsLiteral table low bound proposal × (never ≡ is_never proposal.indexing)
    × (value ≡ proposal.value.now) × (first_entry proposal.name.now ≡ None)
    × FindsIn (has_name proposal.name.now) table low bound (Some place)
Chooses table low bound proposal (NewName never name value) =
    IsLiteral table low bound proposal × (never ≡ is_never proposal.indexing)
    × ((name, value) ≡ field_of proposal) × (first_entry proposal.name.now ≡ None)
    × FindsIn (has_name proposal.name.now) table low bound None

-- each line, in their order
abbrev pub AreChosen : Table → (low bound : ℕ) → List Proposal → List Plan → Type 0
AreChosen table low bound [] plans = plans ≡ []
AreChosen table low bound (first ∷ others) [] = ⊥
AreChosen table low bound (first ∷ others) (plan ∷ plans) =
    Chooses table low bound first plan × AreChosen table low bound others plans
