-- The bytes of a written frame, with each number in its shortest encoding (RFC 9114, section 7.1).
use Rattle.std.specs.Prelude.{◌≡◌, ℕ, ◌%◌, ◌^◌, ◌<◌, ◌≤◌, List, [], ◌∷◌, length, IsTrue}
use Rattle.wtp_core.specs.Varint.{shortest}
use Rattle.wtp_core.specs.Writer.{joined}
use Rattle.wtp_wire.specs.Limits.{max_payload}
use Rattle.wtp_wire.specs.declared.frame.kind.FrameKind.TheVariants.{WebTransport, Exercise}
use Rattle.wtp_wire.specs.Kind.{frame_type_of, is_exercise}
use Rattle.wtp_wire.specs.Content.{Content, PlainOf, WebTransportOf}

-- the parts of a frame other than WebTransport: type, length and payload
abbrev pub plain_parts : ℕ → List ℕ → List (List ℕ)
plain_parts number payload = shortest number ∷ shortest (length payload) ∷ payload ∷ []

-- the parts of a frame in order
abbrev pub parts_of : Content → List (List ℕ)
parts_of (PlainOf kind payload) = plain_parts (frame_type_of kind) payload
parts_of (WebTransportOf id) = shortest (frame_type_of WebTransport) ∷ shortest id ∷ []

-- the bytes of a frame
abbrev pub wire : Content → List ℕ
wire f = joined (parts_of f)

-- the frame can be read back: its type or session ID is valid, and its payload has at most 4096
-- bytes
abbrev pub IsReadable : Content → Type 0
IsReadable (PlainOf WebTransport payload) = ⊥
IsReadable (PlainOf (Exercise number) payload) =
    (number < 2 ^ 62) × IsTrue (is_exercise number) × (length payload ≤ max_payload)
IsReadable (PlainOf kind payload) = length payload ≤ max_payload
IsReadable (WebTransportOf id) = (id < 2 ^ 62) × (id % 4 ≡ 0)
