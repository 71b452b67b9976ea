-- The first capsule of a list of bytes (RFC 9297, section 3.2).
use Rattle.std.specs.Prelude.{◌≡◌, ◌≢◌, ℕ, ◌<◌, ◌≤◌, List, [], ◌∷◌, ◌++◌, length, nat_lt, Option, Some, None, if◌then◌else◌}
use Rattle.wtp_core.specs.Varint.{number_at, bytes_at}
use Rattle.wtp_wire.specs.declared.capsule.CapsuleKind.{CapsuleKind}
use Rattle.wtp_wire.specs.Capsule.{capsule_number_of, capsule_kind_of}
pub use Rattle.wtp_wire.specs.Capsule.{max_value_len}
use Rattle.wtp_wire.specs.Front.{EncodesPair}

-- What the bytes start with, and the bytes after it: a capsule of a known kind, with its value; a
-- capsule of an unknown type; or the type and the length of a value that is too long. Cut are bytes
-- that end within a capsule; End is no byte.
pub data CapsuleFront : Type 0 where
  Found : CapsuleKind → List ℕ → List ℕ → CapsuleFront
  Unknown : List ℕ → CapsuleFront
  TooLong : List ℕ → CapsuleFront
  Cut : CapsuleFront
  End : CapsuleFront

-- ---- the wire grammar

-- s is a type of this kind, a length that is not too long, and a value of that length
pub record IsCapsule (kind : CapsuleKind) (value s : List ℕ) : Type 0 where
  pub head : List ℕ
  pub encoded : EncodesPair (capsule_number_of kind) (length value) head
  pub small : length value ≤ max_value_len kind
  pub parts : s ≡ head ++ value

-- s is a capsule of an unknown type, of any length: it has to be skipped
pub record IsUnknownCapsule (s : List ℕ) : Type 0 where
  pub id : ℕ
  pub head : List ℕ
  pub value : List ℕ
  pub no_kind : (kind : CapsuleKind) → id ≢ capsule_number_of kind
  pub encoded : EncodesPair id (length value) head
  pub parts : s ≡ head ++ value

-- s is the type of a kind, and a length that is too long
pub record IsLongHead (s : List ℕ) : Type 0 where
  pub kind : CapsuleKind
  pub len : ℕ
  pub over : max_value_len kind < len
  pub encoded : EncodesPair (capsule_number_of kind) len s

-- the bytes start with this case
abbrev pub StartsWith : List ℕ → CapsuleFront → Type 0
StartsWith bytes (Found kind value rest) =
    (s : List ℕ) × IsCapsule kind value s × (bytes ≡ s ++ rest)
StartsWith bytes (Unknown rest) = (s : List ℕ) × IsUnknownCapsule s × (bytes ≡ s ++ rest)
StartsWith bytes (TooLong rest) = (s : List ℕ) × IsLongHead s × (bytes ≡ s ++ rest)
StartsWith bytes Cut = ⊥
StartsWith bytes End = bytes ≡ []

-- ---- the same, computed

abbrev pub or_cut : {A : Type 0} → Option A → (A → CapsuleFront) → CapsuleFront
or_cut None next = Cut
or_cut (Some x) next = next x

-- after the type and the length
abbrev pub value_front : Option CapsuleKind → ℕ → List ℕ → CapsuleFront
value_front None len bytes = or_cut (bytes_at len bytes) (λ value. Unknown value.1)
value_front (Some kind) len bytes =
    if nat_lt (max_value_len kind) len
    then TooLong bytes
    else or_cut (bytes_at len bytes) (λ value. Found kind value.0 value.1)

-- of at least one byte
unfoldable pub some_front : List ℕ → CapsuleFront
some_front bytes =
    or_cut (number_at bytes)
    (λ id. or_cut (number_at id.1) (λ len. value_front (capsule_kind_of id.0) len.0 len.1))

-- the first capsule of the bytes, or the case in its place
unfoldable pub capsule_front : List ℕ → CapsuleFront
capsule_front [] = End
capsule_front (b ∷ bytes) = some_front (b ∷ bytes)
