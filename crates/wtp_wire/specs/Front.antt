-- The first frame of a list of bytes (RFC 9114, sections 7.1 and 9).
use Rattle.std.specs.Prelude.{◌≡◌, ◌≢◌, ℕ, ◌%◌, ◌<◌, ◌≤◌, List, ◌++◌, Option, Some, None, length}
use Rattle.wtp_core.specs.Varint.{Encodes, bytes_at}
use Rattle.wtp_wire.specs.Limits.{max_payload}
use Rattle.wtp_wire.specs.declared.frame.kind.FrameKind.{FrameKind}
use Rattle.wtp_wire.specs.declared.frame.kind.FrameKind.TheVariants.{WebTransport}
use Rattle.wtp_wire.specs.declared.frame.head.Announcement.{Announcement}
use Rattle.wtp_wire.specs.declared.frame.head.Announcement.TheVariants as announces
use Rattle.wtp_wire.specs.Kind.{frame_type_of, IsKind}
use Rattle.wtp_wire.specs.Content.{Content, PlainOf, WebTransportOf}
use Rattle.wtp_wire.specs.FramePrefix.{head_at}

-- What the bytes start with, and the bytes after it. Short means that more bytes are needed.
pub data Front : Type 0 where
  Framed : Content → List ℕ → Front
  Unknown : List ℕ → Front
  BadId : List ℕ → Front
  TooBig : List ℕ → Front
  Short : Front

-- ---- the wire grammar

-- s is an encoding of id, followed by an encoding of n
pub record EncodesPair (id n : ℕ) (s : List ℕ) : Type 0 where
  pub first : List ℕ
  pub second : List ℕ
  pub parts : s ≡ first ++ second
  pub type_number : Encodes id first
  pub number : Encodes n second

-- s is a frame of this kind, which is not WebTransport: a type, a length of at most 4096, and a
-- payload of that length
pub record IsPlainFrame (kind : FrameKind) (payload s : List ℕ) : Type 0 where
  pub id : ℕ
  pub head : List ℕ
  pub is_kind : IsKind kind id
  pub plain : kind ≢ WebTransport
  pub encoded : EncodesPair id (length payload) head
  pub small : length payload ≤ max_payload
  pub parts : s ≡ head ++ payload

-- s is this frame; a WebTransport frame has a session ID in place of the length, and no payload
abbrev pub IsFrame : Content → List ℕ → Type 0
IsFrame (PlainOf kind payload) s = IsPlainFrame kind payload s
IsFrame (WebTransportOf id) s = EncodesPair (frame_type_of WebTransport) id s × (id % 4 ≡ 0)

-- s is a frame of an unknown type and of any length, which must be ignored
abbrev pub IsUnknown : List ℕ → Type 0
IsUnknown s =
    (id : ℕ)
    × (head payload : List ℕ)
    × ((kind : FrameKind) → IsKind kind id → ⊥)
    × EncodesPair id (length payload) head
    × (s ≡ head ++ payload)

-- s is the WebTransport type and an invalid session ID
abbrev pub IsBadId : List ℕ → Type 0
IsBadId s = (id : ℕ) × EncodesPair (frame_type_of WebTransport) id s × (id % 4 ≢ 0)

-- s is a known type other than WebTransport, followed by a length above 4096
abbrev pub IsTooBig : List ℕ → Type 0
IsTooBig s =
    (kind : FrameKind)
    × (id len : ℕ)
    × IsKind kind id
    × (kind ≢ WebTransport)
    × (max_payload < len)
    × EncodesPair id len s

-- the bytes start with this case
abbrev pub Begins : List ℕ → Front → Type 0
Begins bytes (Framed f rest) = (s : List ℕ) × IsFrame f s × (bytes ≡ s ++ rest)
Begins bytes (Unknown rest) = (s : List ℕ) × IsUnknown s × (bytes ≡ s ++ rest)
Begins bytes (BadId rest) = (s : List ℕ) × IsBadId s × (bytes ≡ s ++ rest)
Begins bytes (TooBig rest) = (s : List ℕ) × IsTooBig s × (bytes ≡ s ++ rest)
Begins bytes Short = ⊥

-- the same case with more bytes after it
abbrev pub extended : Front → List ℕ → Front
extended (Framed f rest) more = Framed f (rest ++ more)
extended (Unknown rest) more = Unknown (rest ++ more)
extended (BadId rest) more = BadId (rest ++ more)
extended (TooBig rest) more = TooBig (rest ++ more)
extended Short more = Short

-- ---- the same, computed

-- the result of next for a value, or Short if there is none
abbrev pub or_short : {A : Type 0} → Option A → (A → Front) → Front
or_short None next = Short
or_short (Some x) next = next x

-- the case of all the bytes, given what follows the head and the bytes after the head
abbrev pub front_after : Announcement → List ℕ → Front
front_after announces.Unfinished rest = Short
front_after (announces.Payload kind n) rest =
    or_short (bytes_at n rest) (λ payload. Framed (PlainOf kind payload.0) payload.1)
front_after (announces.Session id) rest = Framed (WebTransportOf id) rest
front_after (announces.Skip n) rest = or_short (bytes_at n rest) (λ payload. Unknown payload.1)
front_after announces.BadSession rest = BadId rest
front_after announces.TooLong rest = TooBig rest

-- the case that the bytes start with: their first frame, an error, or Short
unfoldable pub front : List ℕ → Front
front bytes = or_short (head_at bytes) (λ head. front_after head.0 head.1)
