-- The dynamic table (RFC 9204, section 3.2).
use Rattle.std.specs.Prelude.{◌≡◌, ℕ, suc, ◌+◌, ◌-◌, ◌<◌, ◌≤◌, nat_lt, nat_le, if◌then◌else◌, List, [], ◌∷◌, ◌++◌, length, drop, Option, Some, None, slice_get}
use Rattle.wtp_qpack.specs.Field.{Field}

-- the size of an entry (section 3.2.1)
abbrev pub entry_size : Field → ℕ
entry_size entry = length entry.0 + length entry.1 + 32

-- the size of entries
abbrev pub table_size : List Field → ℕ
table_size [] = 0
table_size (entry ∷ entries) = entry_size entry + table_size entries

-- ---- the definition: what the encoder did to the table, from its start

-- one change: a new capacity, or an entry that is inserted
pub data Change : Type 0 where
  SetsCapacity : ℕ → Change
  Inserts : Field → Change

-- Changes, the latest first.
abbrev pub History : Type 0
History = List Change

-- all entries ever inserted, the latest last: the absolute index of an entry is its place (section
-- 3.2.4)
abbrev pub all_entries : History → List Field
all_entries [] = []
all_entries (SetsCapacity capacity ∷ before) = all_entries before
all_entries (Inserts entry ∷ before) = all_entries before ++ entry ∷ []

-- the capacity, which is 0 at the start (section 3.2.3)
abbrev pub capacity_after : History → ℕ
capacity_after [] = 0
capacity_after (SetsCapacity capacity ∷ before) = capacity
capacity_after (Inserts entry ∷ before) = capacity_after before

-- An entry is live if at each moment since it was inserted all entries from it on fit into the
-- capacity of that moment (sections 3.2.2 and 3.2.3).
abbrev pub IsLive : ℕ → History → Type 0
IsLive k [] = ⊥
IsLive k (change ∷ before) =
    let after = change ∷ before in
    (k < length (all_entries after))
    × (table_size (drop k (all_entries after)) ≤ capacity_after after)
    × (k < length (all_entries before) → IsLive k before)

-- ---- the same, one change at a time

-- the entries that are left, the oldest first, how many were evicted, the capacity, and its limit
pub record Table : Type 0 where
  pub live : List Field
  pub dropped : ℕ
  pub capacity : ℕ
  pub limit : ℕ

-- how many entries have ever been inserted
abbrev pub insert_count : Table → ℕ
insert_count table = table.dropped + length table.live

-- of entries, how many of the oldest have to go so that the others fit into some room
abbrev pub excess : ℕ → List Field → ℕ
excess room [] = 0
excess room (entry ∷ entries) =
    if nat_le (table_size (entry ∷ entries)) room then 0 else suc (excess room entries)

-- the table without the oldest entries that do not fit into some room
abbrev pub evicted : ℕ → Table → Table
evicted room table = record table {
  live = drop (excess room table.live) table.live;
  dropped = table.dropped + excess room table.live;
}

-- the table with another capacity
abbrev pub resized : ℕ → Table → Table
resized capacity table = record (evicted capacity table) { capacity = capacity }

-- the table with one more entry, which is not larger than the capacity
abbrev pub inserted : Field → Table → Table
inserted entry table =
    let room = evicted (table.capacity - entry_size entry) table in
    record room { live = room.live ++ entry ∷ [] }

-- the table with one more entry, for which there is room
abbrev pub appended : Field → Table → Table
appended entry table = record table { live = table.live ++ entry ∷ [] }

-- a table of some capacity without entries, of which some were evicted
abbrev pub bare_table : (limit capacity dropped : ℕ) → Table
bare_table limit capacity dropped =
    record { live = []; dropped = dropped; capacity = capacity; limit = limit }

abbrev pub empty_table : ℕ → Table
empty_table limit = record { live = []; dropped = 0; capacity = 0; limit = limit }

-- ---- indices

-- the entry of an absolute index, if it is live
abbrev pub entry_of : Table → ℕ → Option Field
entry_of table index =
    if nat_lt index table.dropped then None else slice_get table.live (index - table.dropped)

-- the entry of an index relative to a base: 0 is the one before the base (section 3.2.5)
abbrev pub relative_entry : Table → ℕ → ℕ → Option Field
relative_entry table base index =
    if nat_lt index base then entry_of table (base - 1 - index) else None

-- the entry of an index past a base: 0 is the one at the base (section 3.2.6)
abbrev pub post_base_entry : Table → ℕ → ℕ → Option Field
post_base_entry table base index = entry_of table (base + index)

-- ---- look-ups by text

-- no entry with this property has this absolute index
abbrev pub HasNone : (Field → Type 0) → Table → ℕ → Type 0
HasNone holds table index = (entry : Field) → entry_of table index ≡ Some entry → ¬ holds entry

-- the latest entry with this property, among those with an absolute index below some index
pub record IsLatest (holds : Field → Type 0) (table : Table) (below index : ℕ) : Type 0 where
  pub low : index < below
  pub entry : Field
  pub is : entry_of table index ≡ Some entry
  pub has : holds entry
  pub last : (later : ℕ) → index < later → later < below → HasNone holds table later

-- what was found is the latest, and if nothing was, there is none
abbrev pub FindsLatest : (Field → Type 0) → Table → (below : ℕ) → Option ℕ → Type 0
FindsLatest holds table below None = (index : ℕ) → index < below → HasNone holds table index
FindsLatest holds table below (Some index) = IsLatest holds table below index

-- ---- the table of a history

-- what is left are the live entries, in their order, and the indices are places among all entries
pub record Shows (history : History) (table : Table) : Type 0 where
  pub live : table.live ≡ drop table.dropped (all_entries history)
  pub count : table.dropped + length table.live ≡ length (all_entries history)
  pub capacity : table.capacity ≡ capacity_after history
  pub lives : (k : ℕ) → table.dropped ≤ k → k < length (all_entries history) → IsLive k history
  pub dies : (k : ℕ) → IsLive k history → table.dropped ≤ k

-- ---- what stays

-- a later table has more insertions and more evictions, and what is live in both is the same
pub record Later (old new : Table) : Type 0 where
  pub dropped : old.dropped ≤ new.dropped
  pub count : insert_count old ≤ insert_count new
  pub limit : new.limit ≡ old.limit
  pub same : (k : ℕ) → k < insert_count old → new.dropped ≤ k → entry_of new k ≡ entry_of old k
