-- The kinds of unidirectional streams and their types (RFC 9114, section 6.2; RFC 9204, section
-- 4.2; 0x54 is the WebTransport type).
use Rattle.std.specs.Prelude.{◌≡◌, ℕ, List, [], ◌∷◌, Bool, true, false, Option, IsTrue}
use Rattle.wtp_wire.specs.declared.stream_header.StreamKind.{StreamKind}
use Rattle.wtp_wire.specs.declared.stream_header.StreamKind.TheVariants.{Control, QPackEncoder, QPackDecoder, WebTransport, Exercise}
use Rattle.wtp_wire.specs.Kind.{IsExercise, is_exercise}
use Rattle.wtp_wire.specs.Named.{kind_by}

-- ---- the table: the kinds with a name, and the type of each

-- the kinds with a name
abbrev pub named_kinds : List StreamKind
named_kinds = Control ∷ QPackEncoder ∷ QPackDecoder ∷ WebTransport ∷ []

-- the type of a kind
abbrev pub stream_number_of : StreamKind → ℕ
stream_number_of Control = 0x00
stream_number_of QPackEncoder = 0x02
stream_number_of QPackDecoder = 0x03
stream_number_of WebTransport = 0x54
stream_number_of (Exercise number) = number

-- a session ID follows the type (draft-ietf-webtrans-http3-02, section 4.1)
abbrev pub has_session : StreamKind → Bool
has_session WebTransport = true
has_session kind = false

-- ---- derived definitions

-- streams of this type have this kind; the reserved types are the reserved frame types (RFC 9114,
-- section 6.2.3)
abbrev pub IsStreamKind : StreamKind → ℕ → Type 0
IsStreamKind (Exercise number) id = (number ≡ id) × IsExercise id
IsStreamKind kind id = id ≡ stream_number_of kind

-- the kind is valid: an exercise kind has a reserved type
abbrev pub IsKnownStream : StreamKind → Type 0
IsKnownStream (Exercise number) = IsTrue (is_exercise number)
IsKnownStream kind = Unit {0}

-- the kind with this type, or None if the type is unknown
unfoldable pub stream_kind_of : ℕ → Option StreamKind
stream_kind_of id = kind_by stream_number_of (λ n. Exercise n) named_kinds id
