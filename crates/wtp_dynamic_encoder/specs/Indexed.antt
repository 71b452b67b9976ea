-- A table, and where the hashes of its entries are.
use Rattle.std.specs.Prelude.{◌≡◌, ℕ, ◌<◌, Bool, true, false, Some, map}
use Rattle.wtp_qpack.specs.Field.{Field}
use Rattle.wtp_dynamic.specs.Table.{Table, entry_of, HasNone}
use Rattle.wtp_dynamic_encoder.specs.declared.chain.Chain.{Chain}
use Rattle.wtp_dynamic_encoder.specs.Chains.{hashes_of, IsChain}
use Rattle.wtp_dynamic_encoder.specs.Hashing.{name_hash, field_hash}

-- the hashes of the entries that are left, by some function, in their order
pub record IsIndexedBy (key : Field → ℕ) (table : Table) (chain : Chain) : Type 0 where
  pub chain_is : IsChain chain
  pub hashes : hashes_of chain ≡ map key table.live
  pub dropped : chain.dropped ≡ table.dropped

pub record IsIndexed (table : Table) (names fields : Chain) : Type 0 where
  pub by_name : IsIndexedBy name_hash table names
  pub by_field : IsIndexedBy field_hash table fields

-- a test of the entry of an absolute index below another: it has a property, or it has not
abbrev pub Tells : Bool → (Field → Type 0) → Table → (below index : ℕ) → Type 0
Tells true holds table below index =
    (index < below) × (entry : Field) × (entry_of table index ≡ Some entry) × holds entry
Tells false holds table below index = index < below → HasNone holds table index
