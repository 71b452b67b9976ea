-- An encoder and a decoder of one stream (RFC 9204, sections 2.1 and 2.2).
use Rattle.std.specs.Prelude.{◌≡◌, ◌⊎◌, ℕ, ◌<◌, ◌≤◌, List, [], ◌∷◌, ◌++◌}
use Rattle.std.specs.List.{flat_map}
use Rattle.wtp_dynamic.specs.Table.{Table, Later, table_size, insert_count}
use Rattle.wtp_dynamic.specs.InsertCount.{most_entries}
use Rattle.wtp_dynamic.specs.Plans.{Plan, StaticField, TableField, StaticName, TableName, NewName, planned_line, planned_prefix}

-- the entry that a line refers to is not evicted
abbrev pub IsKept : Table → Plan → Type 0
IsKept table (StaticField index) = Unit {0}
IsKept table (TableField place) = table.dropped ≤ place
IsKept table (StaticName never index value) = Unit {0}
IsKept table (TableName never place value) = table.dropped ≤ place
IsKept table (NewName never name value) = Unit {0}

abbrev pub AreKept : Table → List Plan → Type 0
AreKept table [] = Unit {0}
AreKept table (plan ∷ plans) = IsKept table plan × AreKept table plans

-- a section as it is written
abbrev pub section_of : (limit required base : ℕ) → List Plan → List ℕ
section_of limit required base plans =
    planned_prefix (most_entries limit) required base ++ flat_map (planned_line base) plans

-- A section was written with the encoder's table as it was then. Now the encoder's table is a later
-- one, and the decoder's is an earlier one than that. What the encoder owes: it evicts no entry to
-- which a section refers that is not acknowledged, and none of which it does not know that the
-- decoder has it (section 2.1.1).
pub record Paired (written now decoder : Table) (required : ℕ) (plans : List Plan) : Type 0 where
  pub later : Later written now
  pub behind : Later decoder now
  pub fits : table_size now.live ≤ now.limit
  pub known : now.dropped ≤ insert_count decoder
  pub counted : required ≤ insert_count written
  pub latest : (required ≡ 0) ⊎ (now.dropped < required)
  pub kept : AreKept now plans
