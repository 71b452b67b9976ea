-- What may be sent on the control stream (RFC 9114, sections 5.2, 6.2.1, 7.2.4 and 7.2.6): SETTINGS
-- first and once, and then GOAWAY, whose IDs never rise.
use Rattle.std.specs.Prelude.{◌≡◌, ℕ, ◌%◌, ◌==◌, nat_lt, Bool, true, false, not, if◌then◌else◌, List, [], ◌∷◌, ◌++◌, length, Option, Some, None, Result, Ok, Err}
use Rattle.wtp_core.specs.Varint.{shortest}
use Rattle.wtp_frames.specs.declared.endpoint.Side.{Side}
use Rattle.wtp_frames.specs.declared.endpoint.Side.TheVariants.{Client, Server}
use Rattle.wtp_frames.specs.declared.endpoint.Endpoint.{Endpoint}
use Rattle.wtp_frames.specs.declared.reader.Place.TheVariants.{AfterSettings}
use Rattle.wtp_frames.specs.declared.reader.Reader.{Reader}
use Rattle.wtp_frames.specs.Item.{Item}
use Rattle.wtp_frames.specs.Run.{run, preceded}
use Rattle.wtp_frames.specs.Start.{control_reader, between}
use Rattle.wtp_wire.specs.Content.{SettingsOf}
use Rattle.wtp_wire.specs.Settings.{settings_wire}
use Rattle.wtp_wire.specs.Wire.{wire}
use Rattle.wtp_sending.specs.declared.control.ControlSending.{ControlSending}
use Rattle.wtp_sending.specs.declared.error.SendError.{SendError}
use Rattle.wtp_sending.specs.declared.error.SendError.TheVariants as error
use Rattle.wtp_sending.specs.Writing.{three_numbers}

-- a control stream to this side, on which nothing was sent
abbrev pub control_to : Side → ControlSending
control_to side = record { to = side; settled = false; goaway = None }

-- ---- SETTINGS

-- the type of the stream, and the SETTINGS frame of these settings
abbrev pub settings_bytes : List (ℕ × ℕ) → List ℕ
settings_bytes settings = shortest 0x00 ++ wire (SettingsOf (settings_wire settings))

-- after SETTINGS, or why they may not be sent: the payload has at most the 4096 bytes that
-- wtp_frames reads
abbrev pub after_settings : ControlSending → List (ℕ × ℕ) → Result ControlSending SendError
after_settings c settings =
    if c.settled then Err error.Unexpected else
    if nat_lt 4096 (length (settings_wire settings)) then Err error.TooLarge
    else Ok (record c { settled = true })

-- ---- GOAWAY

-- the GOAWAY frame with this ID
abbrev pub goaway_bytes : ℕ → List ℕ
goaway_bytes id = three_numbers 0x07 (length (shortest id)) id

-- A client is told of a request, which it opened itself on a bidirectional stream; a server is told
-- of a push.
abbrev pub is_named : Side → ℕ → Bool
is_named Client id = id % 4 == 0
is_named Server id = true

-- the ID is above the last one
abbrev pub rises : Option ℕ → ℕ → Bool
rises None id = false
rises (Some last) id = nat_lt last id

-- after GOAWAY with this ID, or why it may not be sent
abbrev pub after_goaway : ControlSending → ℕ → Result ControlSending SendError
after_goaway c id =
    if not c.settled then Err error.Unexpected else
    if not (is_named c.to id) then Err error.InvalidId else
    if rises c.goaway id then Err error.IdRises else Ok (record c { goaway = Some id })

-- ---- the other end

-- The reader of the other end went as far as the sender: SETTINGS were sent or not, and the last
-- GOAWAY had this ID.
abbrev pub IsControlAt : Endpoint → Bool → Option ℕ → Reader → Type 0
IsControlAt e false goaway r = (r ≡ control_reader e) × (goaway ≡ None)
IsControlAt e true goaway r =
    (streamed : Bool) × (idle : ℕ) × (r ≡ between e 0 (AfterSettings goaway None) streamed idle)

-- The bytes are read as this frame, whatever follows, and the reader goes on with the sender.
pub record IsControlRead (e : Endpoint) (bytes : List ℕ) (item : Item) (new : ControlSending)
    (r : Reader) : Type 0 where
  pub next : Reader
  pub gives : (more : List ℕ) → run r (bytes ++ more) ≡ preceded (item ∷ []) (run next more)
  pub at : IsControlAt e new.settled new.goaway next
