-- The kinds of frames and their types (RFC 9114, section 7.2; 0x41 is the WebTransport type).
use Rattle.std.specs.Prelude.{◌≡◌, ℕ, Bool, ◌==◌, if◌then◌else◌, List, [], ◌∷◌, Option, Some, None, IsTrue}
use Rattle.wtp_core.specs.Numbers.{IsReserved, is_reserved}
use Rattle.wtp_wire.specs.declared.frame.kind.FrameKind.{FrameKind}
use Rattle.wtp_wire.specs.declared.frame.kind.FrameKind.TheVariants.{Data, Headers, Settings, WebTransport, Exercise}

-- ---- the table

-- the type of a kind
abbrev pub frame_type_of : FrameKind → ℕ
frame_type_of Data = 0x00
frame_type_of Headers = 0x01
frame_type_of Settings = 0x04
frame_type_of WebTransport = 0x41
frame_type_of (Exercise number) = number

-- the kinds except the reserved types
abbrev pub registered : List FrameKind
registered = Data ∷ Headers ∷ Settings ∷ WebTransport ∷ []

-- ---- by definition

-- the type is reserved to exercise the requirement that unknown types are ignored (RFC 9114,
-- section 7.2.8)
abbrev pub IsExercise : ℕ → Type 0
IsExercise id = IsReserved id

-- frames of this type have this kind
abbrev pub IsKind : FrameKind → ℕ → Type 0
IsKind (Exercise number) id = (number ≡ id) × IsExercise id
IsKind kind id = id ≡ frame_type_of kind

-- ---- the same, computed

-- whether a type is reserved
abbrev pub is_exercise : ℕ → Bool
is_exercise id = is_reserved id

-- the kind is valid: an exercise kind has a reserved type
abbrev pub IsKnown : FrameKind → Type 0
IsKnown (Exercise number) = IsTrue (is_exercise number)
IsKnown kind = Unit {0}

-- the first of these kinds with this type
abbrev pub kind_among : ℕ → List FrameKind → Option FrameKind
kind_among id [] = None
kind_among id (kind ∷ rest) = if id == frame_type_of kind then Some kind else kind_among id rest

-- the kind with this type, except the reserved types
unfoldable pub registered_kind : ℕ → Option FrameKind
registered_kind id = kind_among id registered

-- the kind that was found, or an exercise kind if the type is reserved
abbrev pub or_reserved : ℕ → Option FrameKind → Option FrameKind
or_reserved id (Some kind) = Some kind
or_reserved id None = if is_exercise id then Some (Exercise id) else None

-- the kind with this type, or None if the type is unknown
unfoldable pub kind_of : ℕ → Option FrameKind
kind_of id = or_reserved id (registered_kind id)
