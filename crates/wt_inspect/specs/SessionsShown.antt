-- How the sessions of a recorded connection went.
use Rattle.std.specs.Prelude.{◌≡◌, ℕ, ◌+◌, ◌==◌, ◌&&◌, ◌||◌, Bool, true, false, not, if◌then◌else◌}
use Rattle.std.specs.Prelude.{List, [], ◌∷◌, length, Option, Some, None, is_some, codes}
use Rattle.std.specs.Option.{option_or}
use Rattle.std.specs.List.{Contains, filter, list_any}
use Rattle.std.specs.List.Sorted.{IsStrictlyIncreasing}
use Rattle.std.specs.Str.{bytes_eq}
use Rattle.wt_inspection.specs.Insertions.{Sent}
use Rattle.wt_inspection.specs.Items.{Input, IsInspection, input_with}
use Rattle.wt_inspection.specs.Results.{End, Item}
use Rattle.wt_inspection.specs.SessionSections.{is_interim_status, starts_with_two}
use Rattle.wt_inspection.specs.declared.reading.Recorded.{Recorded}
use Rattle.wt_inspection.specs.declared.reading.Recorded.TheVariants as recorded-is
use Rattle.wt_inspection_model.specs.declared.item.Content.{Content}
use Rattle.wt_inspection_model.specs.declared.item.Content.TheVariants as content-is
use Rattle.wt_inspection_model.specs.declared.item.Parts.{Parts}
use Rattle.wt_inspection_model.specs.declared.item.Parts.TheVariants as parts-is
use Rattle.wt_inspection_model.specs.declared.item.capsule.CapsuleItem.{CapsuleItem}
use Rattle.wt_inspection_model.specs.declared.item.capsule.CloseReason.{CloseReason}
use Rattle.wt_inspection_model.specs.declared.item.ending.End.TheVariants as end-is
use Rattle.wt_inspection_model.specs.declared.item.fields.FieldSection.{FieldSection}
use Rattle.wt_inspection_model.specs.declared.item.fields.Line.{Line}
use Rattle.wt_inspect_connection.specs.Lists.{has_opened, is_same_sender}
use Rattle.wt_inspect_connection.specs.Pieces.{purpose_in, session_of, with_id}
use Rattle.wt_inspect_connection.specs.declared.list.Channel.{Channel}
use Rattle.wt_inspect_connection.specs.declared.list.Channel.TheVariants as channel-is
use Rattle.wt_inspect_connection.specs.declared.list.Sender.{Sender}
use Rattle.wt_inspect_connection.specs.declared.list.Sender.TheVariants as sender-is
use Rattle.wt_inspect_connection.specs.declared.piece.Piece.{Piece}
use Rattle.wt_inspect_connection.specs.declared.purpose.Purpose.{Purpose}
use Rattle.wt_inspect_connection.specs.declared.purpose.Purpose.TheVariants as purpose-is
use Rattle.wt_inspect.specs.Connections.{sent_of}
use Rattle.wt_inspect.specs.Sheets.{AreLinesOf}
use Rattle.wt_inspect.specs.declared.arguments.Output.{Output}
use Rattle.wt_inspect.specs.declared.arguments.Output.TheVariants as output-is
use Rattle.wt_inspect.specs.declared.connection.Connection.{Connection}
use Rattle.wt_inspect.specs.declared.connection.ending.Ending.{Ending}
use Rattle.wt_inspect.specs.declared.connection.ending.Ending.TheVariants as ending-is
use Rattle.wt_inspect.specs.declared.connection.summary.Named.{Named}
use Rattle.wt_inspect.specs.declared.connection.summary.Said.{Said}
use Rattle.wt_inspect.specs.declared.connection.summary.Summary.{Summary}
use Rattle.wt_inspect.specs.declared.connection.summary.Told.{Told}

-- ---- what an end sent on the stream of a session

-- a header section, unless it is that of an interim response (RFC 9114, section 4.1)
abbrev pub unless_interim : FieldSection → Option FieldSection
unless_interim section =
    if list_any is_interim_status section.lines.items then None else Some section

abbrev pub section_in : Parts → Option FieldSection
section_in (parts-is.Fields section) = unless_interim section
section_in _ = None

-- the header section of an item, if it has one that is not of an interim response
abbrev pub section_of : Content → Option FieldSection
section_of (content-is.Frame frame) = section_in frame.parts
section_of _ = None

-- the close of the first of these capsules that has one
abbrev pub close_among : List CapsuleItem → Option CloseReason
close_among [] = None
close_among (capsule ∷ capsules) = option_or capsule.close (close_among capsules)

abbrev pub close_in : Parts → Option CloseReason
close_in (parts-is.Capsules capsules) = close_among capsules.items
close_in _ = None

-- the first close that an item has, if it has one (draft-ietf-webtrans-http3-02, section 5)
abbrev pub close_of : Content → Option CloseReason
close_of (content-is.Frame frame) = close_in frame.parts
close_of _ = None

-- what the first of these items has that has something
abbrev pub first_of : {X : Type 0} → (Content → Option X) → List Item → Option X
first_of f [] = None
first_of f (item ∷ items) = option_or (f item.content) (first_of f items)

-- what these items say: their first header section that is not of an interim response, and their first
-- close
pub record Says (items : List Item) (said : Said) : Type 0 where
  pub head : said.head ≡ first_of section_of items
  pub close : said.close ≡ first_of close_of items

-- what all items of an input say, and how it ends
pub record Tells (input : Input) (told : Told) : Type 0 where
  pub items : List Item
  pub is : IsInspection input items told.end
  pub says : Says items told.said

-- ---- whose stream it is

-- what an end sent on the stream of a session: a request, or the response to it
abbrev pub message_by : Sender → Recorded
message_by sender-is.Client = recorded-is.Bi
message_by sender-is.Server = recorded-is.SessionResponse

abbrev pub is_request : Purpose → Bool
is_request purpose-is.Request = true
is_request _ = false

-- this is what an end sent on the stream with this ID
abbrev pub sends_on : Sender → ℕ → Sender → Channel → Bool
sends_on sender id by (channel-is.Stream other) = other == id && is_same_sender by sender
sends_on _ _ _ channel-is.Datagram = false

abbrev pub is_sent_on : Sender → ℕ → Piece → Bool
is_sent_on sender id piece = sends_on sender id piece.entry.sender piece.entry.channel

abbrev pub piece_on : Sender → ℕ → List Piece → Option Piece
piece_on _ _ [] = None
piece_on sender id (piece ∷ pieces) =
    if is_sent_on sender id piece then Some piece else piece_on sender id pieces

-- what an end sent on the stream of a session, if it was recorded, and if the stream is a request's
abbrev pub message_on : List Piece → Sender → ℕ → Option Piece
message_on pieces sender id =
    if is_request (purpose_in pieces id) then piece_on sender id pieces else None

-- the insertions into the dynamic table of an end, if they are known
abbrev pub insertions_of : Connection → Sender → Option Sent
insertions_of c sender-is.Client = sent_of c.client.now
insertions_of c sender-is.Server = sent_of c.server.now

-- how a piece is read that an end sent on the stream of a session
abbrev pub message_input : Connection → Sender → Piece → Input
message_input c sender piece =
    input_with (message_by sender) c.arguments.now.is_open piece.bytes.items
    (insertions_of c sender)

-- what an end says of a session: nothing, if what it sent was not recorded
abbrev pub TellsOf : Connection → Sender → Option Piece → Option Told → Type 0
TellsOf c _ None told = told ≡ None
TellsOf c sender (Some piece) told =
    (some : Told) × (told ≡ Some some) × Tells (message_input c sender piece) some

abbrev pub TellsBy : Connection → Sender → ℕ → Option Told → Type 0
TellsBy c sender id told = TellsOf c sender (message_on c.pieces.now sender id) told

-- ---- streams and datagrams

-- the ID of the session that the stream of a piece names, if the end that opened the stream sent the
-- piece: of the two directions of a stream, this is the one that names it
abbrev pub id_by_stream : Sender → Channel → Option ℕ → Option ℕ
id_by_stream sender (channel-is.Stream id) named = if has_opened sender id then named else None
id_by_stream _ channel-is.Datagram _ = None

abbrev pub stream_names : List Piece → Piece → Option ℕ
stream_names pieces piece =
    id_by_stream piece.entry.sender piece.entry.channel (session_of pieces piece)

-- the ID of the session that a datagram names
abbrev pub id_by_datagram : Channel → Option ℕ → Option ℕ
id_by_datagram (channel-is.Stream _) _ = None
id_by_datagram channel-is.Datagram named = named

abbrev pub datagram_names : List Piece → Piece → Option ℕ
datagram_names pieces piece = id_by_datagram piece.entry.channel (session_of pieces piece)

-- what these pieces of a connection name
abbrev pub ids_by : (List Piece → Piece → Option ℕ) → List Piece → List Piece → List ℕ
ids_by names all [] = []
ids_by names all (piece ∷ pieces) = with_id (names all piece) (ids_by names all pieces)

-- the sessions that streams and datagrams name, once for each stream and each datagram
pub record AreNamed (pieces : List Piece) (named : Named) : Type 0 where
  pub streams : named.streams.items ≡ ids_by stream_names pieces pieces
  pub datagrams : named.datagrams.items ≡ ids_by datagram_names pieces pieces

-- how often an ID is there
abbrev pub count_of : ℕ → List ℕ → ℕ
count_of id ids = length (filter (λ (other : ℕ). other == id) ids)

-- ---- summaries

-- how the session with this ID went
pub record SumsUp (c : Connection) (id : ℕ) (summary : Summary) : Type 0 where
  pub id_is : summary.id ≡ id
  pub client : TellsBy c sender-is.Client id summary.client
  pub server : TellsBy c sender-is.Server id summary.server
  pub streams : summary.streams ≡ count_of id (ids_by stream_names c.pieces.now c.pieces.now)
  pub datagrams : summary.datagrams
      ≡ count_of id (ids_by datagram_names c.pieces.now c.pieces.now)

-- how each of these sessions went, in this order
abbrev pub SumUp : Connection → List ℕ → List Summary → Type 0
SumUp c [] summaries = summaries ≡ []
SumUp c (id ∷ ids) summaries =
    (first : Summary) × (more : List Summary) × (summaries ≡ first ∷ more) × SumsUp c id first
    × SumUp c ids more

-- these are the IDs of the sessions, each once and in order
pub record AreOnce (sessions ids : List ℕ) : Type 0 where
  pub rise : IsStrictlyIncreasing ids
  pub all : (id : ℕ) → Contains sessions id → Contains ids id
  pub others : (id : ℕ) → Contains ids id → Contains sessions id

-- how each session of a connection went, once and by its ID
pub record AreSummaries (c : Connection) (summaries : List Summary) : Type 0 where
  pub ids : List ℕ
  pub once : AreOnce c.sessions.now ids
  pub are : SumUp c ids summaries

-- ---- what is said of a session

-- the value of the first line with this name
abbrev pub value_in : List ℕ → List Line → Option (List ℕ)
value_in name [] = None
value_in name (line ∷ lines) =
    if bytes_eq line.name.items name then Some line.value.items else value_in name lines

-- the header section that an end sent, if it sent one
abbrev pub head_of : Option Told → Option FieldSection
head_of None = None
head_of (Some told) = told.said.head

abbrev pub close_by : Option Told → Option CloseReason
close_by None = None
close_by (Some told) = told.said.close

-- the value that the header section has
abbrev pub value_by : List ℕ → Option FieldSection → Option (List ℕ)
value_by name None = None
value_by name (Some section) = value_in name section.lines.items

-- a status is one of those that refuse: it does not begin with 2 (RFC 9110, section 15.3)
abbrev pub is_refusal : Option (List ℕ) → Bool
is_refusal None = false
is_refusal (Some status) = not (starts_with_two status)

-- the final response refuses the session
abbrev pub is_refused : Summary → Bool
is_refused summary = is_refusal (value_by (codes ":status") (head_of summary.server))

-- an end closed the session
abbrev pub has_close : Option Told → Bool
has_close told = is_some (close_by told)

abbrev pub is_complete : End → Bool
is_complete end-is.Complete = true
is_complete _ = false

-- an end ended its direction of the stream, after whole items
abbrev pub is_whole : Option Told → Bool
is_whole None = false
is_whole (Some told) = is_complete told.end

-- which end ended the stream without a close, if one did
abbrev pub ending_without : Bool → Bool → Ending
ending_without true true = ending-is.Both
ending_without true false = ending-is.Client
ending_without false true = ending-is.Server
ending_without false false = ending-is.Unknown

-- how a session ended; the flag says whether its stream is still open
abbrev pub ending_of : Bool → Summary → Ending
ending_of is_open summary =
    if is_refused summary then ending-is.Refused else
    if has_close summary.client || has_close summary.server then ending-is.Closed else
    if is_open then ending-is.Open else
    ending_without (is_whole summary.client) (is_whole summary.server)

-- ---- lines

-- how many lines are written of so many sessions: in text, one more for the heading, if there are some
abbrev pub session_lines : Output → ℕ → ℕ
session_lines output-is.Json count = count
session_lines _ count = if count == 0 then 0 else 1 + count

-- what is written of the sessions of a connection
pub record ShowsSessions (c : Connection) (text : List ℕ) : Type 0 where
  pub summaries : List Summary
  pub are : AreSummaries c summaries
  pub lines : AreLinesOf c.arguments.now.output
      (session_lines c.arguments.now.output (length summaries)) text
