-- What an encoder writes of a section (RFC 9204, section 4.5).
use Rattle.std.specs.Prelude.{◌≡◌, ℕ, ◌+◌, ◌*◌, ◌-◌, ◌^◌, ◌<◌, nat_lt, if◌then◌else◌, Bool, false, List, [], ◌∷◌, ◌++◌, Option, Some, None}
use Rattle.wtp_qpack.specs.Field.{Field, IsOctets}
use Rattle.wtp_qpack.specs.Integer.{shortest_int}
use Rattle.wtp_qpack.specs.StaticTable.{entry_at}
use Rattle.wtp_qpack.specs.StringLiteral.{encoded_string}
use Rattle.wtp_dynamic.specs.Table.{Table}
use Rattle.wtp_dynamic.specs.InsertCount.{encoded_count}
use Rattle.wtp_dynamic.specs.Section.{reached}

-- How a line gives its field: by entries of the tables, whose absolute indices these are, and by
-- texts. A literal is never indexed or not (section 7.1.3).
pub data Plan : Type 0 where
  StaticField : (index : ℕ) → Plan
  TableField : (place : ℕ) → Plan
  StaticName : (never : Bool) → (index : ℕ) → (value : List ℕ) → Plan
  TableName : (never : Bool) → (place : ℕ) → (value : List ℕ) → Plan
  NewName : (never : Bool) → (name value : List ℕ) → Plan

-- a name with this value
abbrev pub with_value : List ℕ → Option Field → Option Field
with_value value None = None
with_value value (Some entry) = Some (entry.0, value)

-- the field of a line, if the section may refer to its entry
abbrev pub planned_field : Table → ℕ → Plan → Option Field
planned_field table required (StaticField index) = entry_at index
planned_field table required (TableField place) = reached table required (Some place)
planned_field table required (StaticName never index value) = with_value value (entry_at index)
planned_field table required (TableName never place value) =
    with_value value (reached table required (Some place))
planned_field table required (NewName never name value) = Some (name, value)

-- a plan is never indexed
abbrev pub is_never_plan : Plan → Bool
is_never_plan (StaticField index) = false
is_never_plan (TableField place) = false
is_never_plan (StaticName never index value) = never
is_never_plan (TableName never place value) = never
is_never_plan (NewName never name value) = never

-- the bit N
abbrev pub never_bit : Bool → ℕ
never_bit never = if never then 1 else 0

-- the bytes of a line: indices count back from the Base, or on from it
abbrev pub planned_line : ℕ → Plan → List ℕ
planned_line base (StaticField index) = shortest_int 6 3 index
planned_line base (TableField place) =
    if nat_lt place base then shortest_int 6 2 (base - 1 - place) else shortest_int 4 1 (place - base)
planned_line base (StaticName never index value) =
    shortest_int 4 (5 + 2 * never_bit never) index ++ encoded_string 7 0 value
planned_line base (TableName never place value) =
    (if nat_lt place base then shortest_int 4 (4 + 2 * never_bit never) (base - 1 - place)
    else shortest_int 3 (never_bit never) (place - base))
    ++ encoded_string 7 0 value
planned_line base (NewName never name value) =
    encoded_string 3 (2 + never_bit never) name ++ encoded_string 7 0 value

-- the bytes of the prefix
abbrev pub planned_prefix : (most required base : ℕ) → List ℕ
planned_prefix most required base =
    shortest_int 8 0 (encoded_count most required)
    ++ (if nat_lt base required then shortest_int 7 1 (required - base - 1)
    else shortest_int 7 0 (base - required))

-- numbers and texts that can be written
abbrev pub CanPlan : Plan → Type 0
CanPlan (StaticField index) = index < 2 ^ 64
CanPlan (TableField place) = place < 2 ^ 64
CanPlan (StaticName never index value) = (index < 2 ^ 64) × IsOctets value
CanPlan (TableName never place value) = (place < 2 ^ 64) × IsOctets value
CanPlan (NewName never name value) = IsOctets name × IsOctets value

-- the plans are of these fields
abbrev pub ArePlans : Table → ℕ → List Plan → List Field → Type 0
ArePlans table required [] fields = fields ≡ []
ArePlans table required (plan ∷ plans) [] = ⊥
ArePlans table required (plan ∷ plans) (field ∷ fields) =
    CanPlan plan × (planned_field table required plan ≡ Some field) × ArePlans table required plans fields
