-- The frames of a message and of a control stream in the order that the standard has (RFC 9114,
-- sections 4.1, 6.2.1 and 7.2): a constructor for each frame that may come next, the bytes as they
-- are written, and what a receiver is given. `End` is where the frames so far end.
use Rattle.std.specs.Prelude.{◌≡◌, ℕ, ◌+◌, ◌%◌, ◌<◌, ◌≤◌, nat_lt, if◌then◌else◌, Bool, true, List, [], ◌∷◌, ◌++◌, map, length, Option, Some, None}
use Rattle.wtp_core.specs.Varint.{Encodes}
use Rattle.wtp_frames.specs.declared.frame_type.FrameType.TheVariants as kind
use Rattle.wtp_frames.specs.declared.endpoint.Side.{Side}
use Rattle.wtp_frames.specs.declared.endpoint.Side.TheVariants.{Client, Server}
use Rattle.wtp_frames.specs.Item.{Item, Whole, Byte, TooLarge}

-- ---- a frame (RFC 9114, section 7.1)

-- Type and Length, each in any encoding, and the payload
pub record Frame : Type 0 where
  pub type_bytes : List ℕ
  pub length_bytes : List ℕ
  pub payload : List ℕ

abbrev pub written : Frame → List ℕ
written f = f.type_bytes ++ (f.length_bytes ++ f.payload)

-- it is of this type, and its length is that of its payload
pub record IsFrame (id : ℕ) (f : Frame) : Type 0 where
  pub typed : Encodes id f.type_bytes
  pub sized : Encodes (length f.payload) f.length_bytes

-- a type that neither RFC 9114 (sections 7.2 and 11.2.1) nor, if it is enabled, WebTransport has
pub record IsUnknown (enabled : Bool) (id : ℕ) : Type 0 where
  pub data_frame : id ≡ 0x00 → ⊥
  pub headers : id ≡ 0x01 → ⊥
  pub priority : id ≡ 0x02 → ⊥
  pub cancel_push : id ≡ 0x03 → ⊥
  pub settings : id ≡ 0x04 → ⊥
  pub push_promise : id ≡ 0x05 → ⊥
  pub ping : id ≡ 0x06 → ⊥
  pub goaway : id ≡ 0x07 → ⊥
  pub window_update : id ≡ 0x08 → ⊥
  pub continuation : id ≡ 0x09 → ⊥
  pub max_push_id : id ≡ 0x0d → ⊥
  pub webtransport : enabled ≡ true → id ≡ 0x41 → ⊥

-- ---- a message (RFC 9114, sections 4.1 and 9)

-- after the trailers
pub data Trailed : Type 0 where
  TrailedEnd : Trailed
  TrailedUnknown : ℕ → Frame → Trailed → Trailed

-- after the HEADERS
pub data Content : Type 0 where
  ContentEnd : Content
  ContentData : Frame → Content → Content
  ContentTrailers : Frame → Trailed → Content
  ContentUnknown : ℕ → Frame → Content → Content

-- from its first byte on
pub data Message : Type 0 where
  MessageEnd : Message
  MessageHeaders : Frame → Content → Message
  MessageUnknown : ℕ → Frame → Message → Message

abbrev pub trailed_bytes : Trailed → List ℕ
trailed_bytes TrailedEnd = []
trailed_bytes (TrailedUnknown id f t) = written f ++ trailed_bytes t

abbrev pub content_bytes : Content → List ℕ
content_bytes ContentEnd = []
content_bytes (ContentData f c) = written f ++ content_bytes c
content_bytes (ContentTrailers f t) = written f ++ trailed_bytes t
content_bytes (ContentUnknown id f c) = written f ++ content_bytes c

abbrev pub message_bytes : Message → List ℕ
message_bytes MessageEnd = []
message_bytes (MessageHeaders f c) = written f ++ content_bytes c
message_bytes (MessageUnknown id f m) = written f ++ message_bytes m

-- a field section, or its size if it is larger than the receiver's limit (RFC 9114, section 4.2.2)
abbrev pub section_item : ℕ → List ℕ → Item
section_item limit payload =
    if nat_lt limit (length payload) then TooLarge (length payload) else Whole kind.Headers payload

abbrev pub content_items : ℕ → Content → List Item
content_items limit ContentEnd = []
content_items limit (ContentData f c) = map Byte f.payload ++ content_items limit c
content_items limit (ContentTrailers f t) = section_item limit f.payload ∷ []
content_items limit (ContentUnknown id f c) = content_items limit c

abbrev pub message_items : ℕ → Message → List Item
message_items limit MessageEnd = []
message_items limit (MessageHeaders f c) =
    section_item limit f.payload ∷ content_items limit c
message_items limit (MessageUnknown id f m) = message_items limit m

-- ---- which of them are valid

-- At most 1024 frames without content follow one another, of which there were n (RFC 9114, section
-- 10.5): unknown ones, and DATA without bytes.
abbrev pub HasRoom : ℕ → List ℕ → Type 0
HasRoom n [] = n < 1024
HasRoom n (b ∷ payload) = Unit {0}

abbrev pub count_data : ℕ → List ℕ → ℕ
count_data n [] = n + 1
count_data n (b ∷ payload) = 0

abbrev pub ValidTrailed : Bool → ℕ → Trailed → Type 0
ValidTrailed enabled n TrailedEnd = Unit {0}
ValidTrailed enabled n (TrailedUnknown id f t) =
    IsUnknown enabled id × IsFrame id f × (n < 1024) × ValidTrailed enabled (n + 1) t

abbrev pub ValidContent : Bool → ℕ → Content → Type 0
ValidContent enabled n ContentEnd = Unit {0}
ValidContent enabled n (ContentData f c) =
    IsFrame 0x00 f × HasRoom n f.payload × ValidContent enabled (count_data n f.payload) c
ValidContent enabled n (ContentTrailers f t) = IsFrame 0x01 f × ValidTrailed enabled 0 t
ValidContent enabled n (ContentUnknown id f c) =
    IsUnknown enabled id × IsFrame id f × (n < 1024) × ValidContent enabled (n + 1) c

abbrev pub ValidMessage : Bool → ℕ → Message → Type 0
ValidMessage enabled n MessageEnd = Unit {0}
ValidMessage enabled n (MessageHeaders f c) = IsFrame 0x01 f × ValidContent enabled 0 c
ValidMessage enabled n (MessageUnknown id f m) =
    IsUnknown enabled id × IsFrame id f × (n < 1024) × ValidMessage enabled (n + 1) m

-- ---- the interim responses before a response (RFC 9114, section 4.1)

-- one of them: unknown frames, and HEADERS
pub data Interim : Type 0 where
  InterimHeaders : Frame → Interim
  InterimUnknown : ℕ → Frame → Interim → Interim

abbrev pub interim_bytes : Interim → List ℕ
interim_bytes (InterimHeaders f) = written f
interim_bytes (InterimUnknown id f i) = written f ++ interim_bytes i

abbrev pub interim_section : Interim → List ℕ
interim_section (InterimHeaders f) = f.payload
interim_section (InterimUnknown id f i) = interim_section i

-- the section is not larger than the receiver's limit
abbrev pub ValidInterim : Bool → ℕ → ℕ → Interim → Type 0
ValidInterim enabled limit n (InterimHeaders f) = IsFrame 0x01 f × (length f.payload ≤ limit)
ValidInterim enabled limit n (InterimUnknown id f i) =
    IsUnknown enabled id × IsFrame id f × (n < 1024) × ValidInterim enabled limit (n + 1) i

abbrev pub ValidInterims : Bool → ℕ → List Interim → Type 0
ValidInterims enabled limit [] = Unit {0}
ValidInterims enabled limit (i ∷ is) =
    ValidInterim enabled limit 0 i × ValidInterims enabled limit is

-- ---- where they end

-- before the HEADERS, after them, or after the trailers
pub data Stage : Type 0 where
  NoHeaders : Stage
  InContent : Stage
  HasTrailers : Stage

abbrev pub content_stage : Content → Stage
content_stage ContentEnd = InContent
content_stage (ContentData f c) = content_stage c
content_stage (ContentTrailers f t) = HasTrailers
content_stage (ContentUnknown id f c) = content_stage c

abbrev pub stage : Message → Stage
stage MessageEnd = NoHeaders
stage (MessageHeaders f c) = content_stage c
stage (MessageUnknown id f m) = stage m

-- how many frames without content are the last ones
abbrev pub trailed_count : ℕ → Trailed → ℕ
trailed_count n TrailedEnd = n
trailed_count n (TrailedUnknown id f t) = trailed_count (n + 1) t

abbrev pub content_count : ℕ → Content → ℕ
content_count n ContentEnd = n
content_count n (ContentData f c) = content_count (count_data n f.payload) c
content_count n (ContentTrailers f t) = trailed_count 0 t
content_count n (ContentUnknown id f c) = content_count (n + 1) c

abbrev pub count : ℕ → Message → ℕ
count n MessageEnd = n
count n (MessageHeaders f c) = content_count 0 c
count n (MessageUnknown id f m) = count (n + 1) m

-- ---- a control stream (RFC 9114, sections 6.2.1 and 7.2)

-- after SETTINGS: GOAWAY and MAX_PUSH_ID, with their IDs
pub data Ids : Type 0 where
  IdsEnd : Ids
  IdsGoAway : ℕ → Frame → Ids → Ids
  IdsMaxPushId : ℕ → Frame → Ids → Ids
  IdsUnknown : ℕ → Frame → Ids → Ids

-- from its first byte on
pub data Control : Type 0 where
  ControlEnd : Control
  ControlSettings : Frame → Ids → Control

abbrev pub ids_bytes : Ids → List ℕ
ids_bytes IdsEnd = []
ids_bytes (IdsGoAway n f ids) = written f ++ ids_bytes ids
ids_bytes (IdsMaxPushId n f ids) = written f ++ ids_bytes ids
ids_bytes (IdsUnknown id f ids) = written f ++ ids_bytes ids

abbrev pub control_bytes : Control → List ℕ
control_bytes ControlEnd = []
control_bytes (ControlSettings f ids) = written f ++ ids_bytes ids

abbrev pub ids_items : Ids → List Item
ids_items IdsEnd = []
ids_items (IdsGoAway n f ids) = Whole kind.GoAway f.payload ∷ ids_items ids
ids_items (IdsMaxPushId n f ids) = Whole kind.MaxPushId f.payload ∷ ids_items ids
ids_items (IdsUnknown id f ids) = ids_items ids

abbrev pub control_items : Control → List Item
control_items ControlEnd = []
control_items (ControlSettings f ids) = Whole kind.Settings f.payload ∷ ids_items ids

-- an ID is not above the last one of its kind, or not below it
abbrev pub NotAbove : Option ℕ → ℕ → Type 0
NotAbove None n = Unit {0}
NotAbove (Some last) n = n ≤ last

abbrev pub NotBelow : Option ℕ → ℕ → Type 0
NotBelow None n = Unit {0}
NotBelow (Some last) n = last ≤ n

-- a client is told of a request, which the client opened on a bidirectional stream (RFC 9114,
-- section 7.2.6)
abbrev pub Names : Side → ℕ → Type 0
Names Client n = n % 4 ≡ 0
Names Server n = Unit {0}

-- a client gets no MAX_PUSH_ID (RFC 9114, section 7.2.7)
abbrev pub TakesPushes : Side → Type 0
TakesPushes Client = ⊥
TakesPushes Server = Unit {0}

-- The IDs of GOAWAY never rise (RFC 9114, section 5.2), and those of MAX_PUSH_ID never fall
-- (7.2.7).
abbrev pub ValidIds : Side → Bool → Option ℕ → Option ℕ → Ids → Type 0
ValidIds side enabled goaway push IdsEnd = Unit {0}
ValidIds side enabled goaway push (IdsGoAway n f ids) =
    IsFrame 0x07 f × Encodes n f.payload × Names side n × NotAbove goaway n
    × ValidIds side enabled (Some n) push ids
ValidIds side enabled goaway push (IdsMaxPushId n f ids) =
    IsFrame 0x0d f × Encodes n f.payload × TakesPushes side × NotBelow push n
    × ValidIds side enabled goaway (Some n) ids
ValidIds side enabled goaway push (IdsUnknown id f ids) =
    IsUnknown enabled id × IsFrame id f × ValidIds side enabled goaway push ids

-- SETTINGS have at most 4096 bytes here (RFC 9114, section 10.5)
abbrev pub ValidControl : Side → Bool → Control → Type 0
ValidControl side enabled ControlEnd = Unit {0}
ValidControl side enabled (ControlSettings f ids) =
    IsFrame 0x04 f × (length f.payload ≤ 4096) × ValidIds side enabled None None ids

-- the last IDs
abbrev pub last_goaway : Option ℕ → Ids → Option ℕ
last_goaway goaway IdsEnd = goaway
last_goaway goaway (IdsGoAway n f ids) = last_goaway (Some n) ids
last_goaway goaway (IdsMaxPushId n f ids) = last_goaway goaway ids
last_goaway goaway (IdsUnknown id f ids) = last_goaway goaway ids

abbrev pub last_push : Option ℕ → Ids → Option ℕ
last_push push IdsEnd = push
last_push push (IdsGoAway n f ids) = last_push push ids
last_push push (IdsMaxPushId n f ids) = last_push (Some n) ids
last_push push (IdsUnknown id f ids) = last_push push ids
