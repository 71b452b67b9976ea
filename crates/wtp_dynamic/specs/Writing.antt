-- What an encoder writes to its stream (RFC 9204, section 4.3).
use Rattle.std.specs.Prelude.{◌≡◌, ℕ, ◌<◌, ◌≤◌, ◌^◌, if◌then◌else◌, Bool, false, List, [], ◌∷◌, ◌++◌, length, Result, Ok}
use Rattle.wtp_qpack.specs.Field.{IsOctets}
use Rattle.wtp_qpack.specs.Integer.{shortest_int}
use Rattle.wtp_qpack.specs.StringLiteral.{encoded_string}
use Rattle.wtp_dynamic.specs.declared.error.EncoderStreamError.{EncoderStreamError}
use Rattle.wtp_dynamic.specs.Chain.{◌>>=◌}
use Rattle.wtp_dynamic.specs.Table.{Table}
use Rattle.wtp_dynamic.specs.Front.{most_bytes}
use Rattle.wtp_dynamic.specs.Steps.{set_step, insert_step, referred}

-- what the encoder wants done to the table, by texts
pub data Order : Type 0 where
  Sets : (capacity : ℕ) → Order
  InsertsNamed : (is_static : Bool) → (index : ℕ) → (value : List ℕ) → Order
  InsertsLiteral : (name value : List ℕ) → Order
  Duplicates : (index : ℕ) → Order

-- what it does
abbrev pub order_step : Order → Table → Result Table EncoderStreamError
order_step (Sets capacity) table = set_step capacity table
order_step (InsertsNamed is_static index value) table = do
  named ← referred is_static index table
  insert_step (named.0, value) table
order_step (InsertsLiteral name value) table = insert_step (name, value) table
order_step (Duplicates index) table = do
  entry ← referred false index table
  insert_step entry table

-- the bytes of an order
abbrev pub written : Order → List ℕ
written (Sets capacity) = shortest_int 5 1 capacity
written (InsertsNamed is_static index value) =
    shortest_int 6 (if is_static then 3 else 2) index ++ encoded_string 7 0 value
written (InsertsLiteral name value) = encoded_string 5 1 name ++ encoded_string 7 0 value
written (Duplicates index) = shortest_int 5 0 index

-- numbers and texts that can be written
abbrev pub CanBeWritten : Order → Type 0
CanBeWritten (Sets capacity) = capacity < 2 ^ 64
CanBeWritten (InsertsNamed is_static index value) = (index < 2 ^ 64) × IsOctets value
CanBeWritten (InsertsLiteral name value) = IsOctets name × IsOctets value
CanBeWritten (Duplicates index) = index < 2 ^ 64

-- the orders, none of which has too many bytes, lead from one table to another
abbrev pub Carries : List Order → Table → Table → Type 0
Carries [] table after = after ≡ table
Carries (order ∷ orders) table after =
    CanBeWritten order × (length (written order) ≤ most_bytes table.limit) × (next : Table)
    × (order_step order table ≡ Ok next) × Carries orders next after
