-- What is known of a field before it is looked up in the dynamic table.
use Rattle.std.specs.Prelude.{◌≡◌, ℕ, List, Some, slice_get}
use Rattle.wtp_qpack.specs.Field.{Field}
use Rattle.wtp_qpack.specs.StaticTable.{first_entry, FindsStatic}
use Rattle.wtp_dynamic_encoder.specs.declared.key.Key.{Key}
use Rattle.wtp_dynamic_encoder.specs.declared.proposal.Proposal.{Proposal}
use Rattle.wtp_dynamic_encoder.specs.Choosing.{field_of}
use Rattle.wtp_dynamic_encoder.specs.Hashing.{AreHashes}

-- its hashes, the first static entry with its name, and the first that is the field
pub record IsKey (key : Key) (field : Field) : Type 0 where
  pub hashes : AreHashes key.hashes field
  pub named : first_entry field.0 ≡ key.named
  pub whole : FindsStatic field key.whole

-- what there is of keys are those of proposals, in their order
abbrev pub AreKeys : List Key → List Proposal → Type 0
AreKeys keys proposals =
    (place : ℕ) (key : Key) (proposal : Proposal) → slice_get keys place ≡ Some key
    → slice_get proposals place ≡ Some proposal → IsKey key (field_of proposal)
