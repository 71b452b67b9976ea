-- In which order the frames of a stream may come (RFC 9114, sections 4.1, 6.2.1 and 7.2), and that
-- nothing comes after a fault.
use Rattle.std.specs.Prelude.{◌≡◌, ℕ, ◌<◌, List, [], ◌∷◌, Option, Some, None, Bool, true, false}
use Rattle.wtp_frames.specs.declared.frame_type.FrameType.TheVariants as kind
use Rattle.wtp_frames.specs.declared.endpoint.Side.{Side}
use Rattle.wtp_frames.specs.declared.reader.Place.{Place}
use Rattle.wtp_frames.specs.declared.reader.Place.TheVariants.{BeforeHeaders, Body, AfterTrailers, Tunnel, BeforeSettings, AfterSettings, Failed}
use Rattle.wtp_frames.specs.declared.reader.Reader.{Reader}
use Rattle.wtp_frames.specs.Item.{Item, Whole, Byte, TooLarge, Broken}
use Rattle.wtp_frames.specs.Rules.{one_number}
use Rattle.wtp_frames.specs.Grammar.{Names, NotAbove, NotBelow, TakesPushes}

-- nothing comes after the fault
abbrev pub IsOver : List Item → Type 0
IsOver [] = Unit {0}
IsOver (i ∷ items) = ⊥

-- ---- a message: HEADERS, DATA, trailers; each section whole or too large

-- nothing comes after the trailers
abbrev pub IsTrailed : List Item → Type 0
IsTrailed [] = Unit {0}
IsTrailed (Broken f ∷ items) = IsOver items
IsTrailed (other ∷ items) = ⊥

-- bytes of DATA, and maybe trailers
abbrev pub IsBody : List Item → Type 0
IsBody [] = Unit {0}
IsBody (Byte b ∷ items) = IsBody items
IsBody (Whole kind.Headers payload ∷ items) = IsTrailed items
IsBody (Whole other payload ∷ items) = ⊥
IsBody (TooLarge n ∷ items) = IsTrailed items
IsBody (Broken f ∷ items) = IsOver items

-- HEADERS, and a body
abbrev pub IsMessage : List Item → Type 0
IsMessage [] = Unit {0}
IsMessage (Whole kind.Headers payload ∷ items) = IsBody items
IsMessage (Whole other payload ∷ items) = ⊥
IsMessage (Byte b ∷ items) = ⊥
IsMessage (TooLarge n ∷ items) = IsBody items
IsMessage (Broken f ∷ items) = IsOver items

-- bytes of DATA alone, after a CONNECT request that was answered with a 2xx status
abbrev pub IsTunnel : List Item → Type 0
IsTunnel [] = Unit {0}
IsTunnel (Byte b ∷ items) = IsTunnel items
IsTunnel (Broken f ∷ items) = IsOver items
IsTunnel (other ∷ items) = ⊥

-- ---- a control stream: SETTINGS once, and then IDs

-- The IDs of GOAWAY never rise, and those of MAX_PUSH_ID never fall. There is no other frame.
abbrev pub AreIds : Side → Option ℕ → Option ℕ → List Item → Type 0
AreIds side goaway push [] = Unit {0}
AreIds side goaway push (Whole kind.GoAway payload ∷ items) =
    (n : ℕ) × (one_number payload ≡ Some n) × Names side n × NotAbove goaway n
    × AreIds side (Some n) push items
AreIds side goaway push (Whole kind.MaxPushId payload ∷ items) =
    (n : ℕ) × (one_number payload ≡ Some n) × TakesPushes side × NotBelow push n
    × AreIds side goaway (Some n) items
AreIds side goaway push (Whole other payload ∷ items) = ⊥
AreIds side goaway push (Byte b ∷ items) = ⊥
AreIds side goaway push (TooLarge n ∷ items) = ⊥
AreIds side goaway push (Broken f ∷ items) = IsOver items

-- SETTINGS first, and never again
abbrev pub IsControl : Side → List Item → Type 0
IsControl side [] = Unit {0}
IsControl side (Whole kind.Settings payload ∷ items) = AreIds side None None items
IsControl side (Whole other payload ∷ items) = ⊥
IsControl side (Byte b ∷ items) = ⊥
IsControl side (TooLarge n ∷ items) = ⊥
IsControl side (Broken f ∷ items) = IsOver items

-- ---- from any place on

abbrev pub IsAfter : Side → Place → List Item → Type 0
IsAfter side BeforeHeaders items = IsMessage items
IsAfter side Body items = IsBody items
IsAfter side AfterTrailers items = IsTrailed items
IsAfter side Tunnel items = IsTunnel items
IsAfter side BeforeSettings items = IsControl side items
IsAfter side (AfterSettings goaway push) items = AreIds side goaway push items
IsAfter side (Failed f) items = IsOver items

-- the places at which DATA may come
abbrev pub takes_data : Place → Bool
takes_data Body = true
takes_data Tunnel = true
takes_data other = false

-- only a message gives pieces of DATA, after its HEADERS
abbrev pub IsReader : Reader → Type 0
IsReader r = 0 < r.remaining → r.streamed ≡ true → takes_data r.place ≡ true
