-- Capsules (RFC 9297, section 3.2).
use Rattle.std.specs.Prelude.{◌≡◌, ℕ, List, [], ◌∷◌, ◌++◌, length, Option, Some, None, option_and_then, ◌==◌, if◌then◌else◌}
use Rattle.std.specs.Option.{option_map}
use Rattle.wtp_core.specs.Varint.{number_at, bytes_at}
use Rattle.wtp_wire.specs.declared.capsule.CapsuleKind.{CapsuleKind}
use Rattle.wtp_wire.specs.declared.capsule.CapsuleKind.TheVariants.{CloseWebTransportSession}
use Rattle.wtp_wire.specs.Front.{EncodesPair}

-- ---- the table: the kinds, and of each the type and the longest value that is read

abbrev pub capsule_kinds : List CapsuleKind
capsule_kinds = CloseWebTransportSession ∷ []

-- the type of a kind
abbrev pub capsule_number_of : CapsuleKind → ℕ
-- draft-ietf-webtrans-http3-02, section 5
capsule_number_of CloseWebTransportSession = 0x2843

-- the longest value that is read
abbrev pub max_value_len : CapsuleKind → ℕ
-- a code of 4 bytes and a reason of at most 1024 (draft-ietf-webtrans-http3-02, section 5)
max_value_len CloseWebTransportSession = 1028

-- ---- by definition

-- the bytes start with a complete capsule: an encoding of its type, one of its length, and a
-- payload of that length; what follows is not read
pub record BeginsWithCapsule (bytes : List ℕ) (kind : CapsuleKind) (payload : List ℕ) : Type 0 where
  pub head : List ℕ
  pub rest : List ℕ
  pub encoded : EncodesPair (capsule_number_of kind) (length payload) head
  pub parts : bytes ≡ head ++ (payload ++ rest)

-- ---- the same, computed

-- the first of these kinds that has this type
abbrev pub capsule_kind_among : List CapsuleKind → ℕ → Option CapsuleKind
capsule_kind_among [] id = None
capsule_kind_among (kind ∷ kinds) id =
    if id == capsule_number_of kind then Some kind else capsule_kind_among kinds id

-- the kind of a type, if it has one
abbrev pub capsule_kind_of : ℕ → Option CapsuleKind
capsule_kind_of id = capsule_kind_among capsule_kinds id

-- after the type of a capsule
unfoldable pub payload_after : CapsuleKind → List ℕ → Option (CapsuleKind × List ℕ)
payload_after kind bytes =
    option_and_then (λ len. option_map (λ payload. (kind, payload.0)) (bytes_at len.0 len.1))
    (number_at bytes)

-- the kind and the payload of the capsule at the start
unfoldable pub capsule_in : List ℕ → Option (CapsuleKind × List ℕ)
capsule_in bytes =
    option_and_then (λ id. option_and_then (λ kind. payload_after kind id.1) (capsule_kind_of id.0))
    (number_at bytes)
