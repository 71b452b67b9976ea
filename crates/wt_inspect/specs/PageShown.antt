-- The page of a recorded connection, and the exit status then.
use Rattle.std.specs.Prelude.{◌≡◌, ℕ, ◌==◌, ◌||◌, Bool, true, false, if◌then◌else◌, is_some}
use Rattle.std.specs.Prelude.{List, [], ◌∷◌, ◌++◌, map, Option, Some, None, slice_get}
use Rattle.std.specs.List.{list_any}
use Rattle.std.specs.List.Sorted.{IsPermutation, IsSortedBy}
use Rattle.wt_inspection.specs.Items.{IsInspection}
use Rattle.wt_inspection.specs.Results.{Inspection}
use Rattle.wt_inspection.specs.declared.reading.Recorded.{Recorded}
use Rattle.wt_inspection_model.specs.declared.item.ending.End.TheVariants as end-is
use Rattle.wt_inspection_views.specs.Html.{Entry, IsPageOf, sent_entry, summary}
use Rattle.wt_inspection_views.specs.Html.{verdict_entry}
use Rattle.wt_inspect_connection.specs.Parts.{is_before}
use Rattle.wt_inspect_connection.specs.declared.list.Channel.{Channel}
use Rattle.wt_inspect_connection.specs.declared.list.Sender.{Sender}
use Rattle.wt_inspect_connection.specs.declared.list.Sender.TheVariants as sender-is
use Rattle.wt_inspect_connection.specs.declared.part.Part.{Part}
use Rattle.wt_inspect_connection.specs.declared.piece.Piece.{Piece}
use Rattle.wt_inspect_verdicts.specs.Findings.{EndOnce}
use Rattle.wt_inspect_verdicts.specs.declared.verdict.Verdict.{Verdict}
use Rattle.wt_inspect.specs.ConnectionShown.{arguments_for, fault_in, payload_items, table_of}
use Rattle.wt_inspect.specs.Connections.{AreSessions, IsTable, parts_from, recorded_on, sent_of}
use Rattle.wt_inspect.specs.SessionsShown.{AreSummaries}
use Rattle.wt_inspect.specs.Shown.{shown_input}
use Rattle.wt_inspect.specs.Statuses.{end_status}
use Rattle.wt_inspect.specs.VerdictsShown.{breaks_rule, has_fault_in}
use Rattle.wt_inspect.specs.declared.arguments.Arguments.{Arguments}
use Rattle.wt_inspect.specs.declared.connection.Connection.{Connection}
use Rattle.wt_inspect.specs.declared.connection.Known.{Known}
use Rattle.wt_inspect.specs.declared.connection.page.View.{View}
use Rattle.wt_inspect.specs.declared.connection.summary.Summary.{Summary}
use Rattle.wt_inspect.specs.declared.connection.verdicts.Verdicts.{Verdicts}

-- what these pieces say of their connection: the tables, the sessions, and the parts in their order
pub record IsKnown (pieces : List Piece) (known : Known) : Type 0 where
  pub client : IsTable pieces sender-is.Client known.client
  pub server : IsTable pieces sender-is.Server known.server
  pub sessions : AreSessions pieces known.sessions.items
  pub parts : IsPermutation (parts_from 0 pieces known.sessions.items pieces) known.parts.items
  pub order : IsSortedBy is_before known.parts.items

-- the connection of these pieces, with these arguments and what is known of it
pub record IsConnectionOf (known : Known) (arguments : Arguments) (pieces : List Piece)
    (c : Connection) : Type 0 where
  pub arguments_are : c.arguments.now ≡ arguments
  pub pieces_are : c.pieces.now ≡ pieces
  pub client : c.client.now ≡ known.client
  pub server : c.server.now ≡ known.server
  pub sessions : c.sessions.now ≡ known.sessions.items

-- ---- what the bytes of a piece contain

-- bytes that are all an application's are one item, if there are some
abbrev pub IsAllPayload : List ℕ → Inspection → Type 0
IsAllPayload bytes found =
    (found.items.items ≡ payload_items bytes) × (found.warnings.items ≡ [])
    × (found.end ≡ end-is.Complete)

-- what bytes contain that an end sent on a channel: as this kind of recording, read with the dynamic
-- table of that end, or as one item
abbrev pub IsInspectedAs : Connection → Option Recorded → Sender → Channel → List ℕ → Inspection
    → Type 0
IsInspectedAs c (Some recorded) sender channel bytes found =
    IsInspection (shown_input (sent_of (table_of c sender)) (arguments_for c recorded channel) bytes)
    found.items.items found.end
IsInspectedAs c None _ _ bytes found = IsAllPayload bytes found

abbrev pub IsInspected : Connection → Piece → Inspection → Type 0
IsInspected c piece found =
    IsInspectedAs c (recorded_on c.pieces.now c.sessions.now piece.entry.sender piece.entry.channel)
    piece.entry.sender piece.entry.channel piece.bytes.items found

-- a piece that is this part, with what its bytes contain
pub record IsViewOf (c : Connection) (part : Part) (piece : Piece) (view : View) : Type 0 where
  pub part_is : view.part ≡ part
  pub piece_is : view.piece.now ≡ piece
  pub inspection_is : IsInspected c piece view.inspection

-- that piece was appended
abbrev pub AddsView : Connection → Part → Piece → List View → List View → Type 0
AddsView c part piece old new = (view : View) × (new ≡ old ++ view ∷ []) × IsViewOf c part piece view

-- the piece with this place in the list was appended, if there is one
abbrev pub AddsViewsAt : Connection → Part → Option Piece → List View → List View → Type 0
AddsViewsAt c part (Some piece) old new = AddsView c part piece old new
AddsViewsAt c part None old new = new ≡ old

abbrev pub AddsViews : Connection → Part → List View → List View → Type 0
AddsViews c part old new = AddsViewsAt c part (slice_get c.pieces.now part.index) old new

-- the pieces that are these parts, in this order
abbrev pub AreViews : Connection → List Part → List View → Type 0
AreViews c [] views = views ≡ []
AreViews c (part ∷ parts) views =
    (first : List View) × (more : List View) × (views ≡ first ++ more)
    × AddsViews c part [] first × AreViews c parts more

-- ---- the page

abbrev pub is_server : Sender → Bool
is_server sender-is.Client = false
is_server sender-is.Server = true

-- the entry of what an end sent
abbrev pub view_entry : View → Entry
view_entry view = sent_entry (is_server view.piece.now.entry.sender)

-- the entries of verdicts
abbrev pub verdict_entries : List Verdict → List Entry
verdict_entries = map (λ verdict. verdict_entry (breaks_rule verdict))

-- the entries of how sessions went
abbrev pub session_entries : List Summary → List Entry
session_entries = map (λ _. summary)

-- the entries of a page: the verdicts of the server, those of the client, how the sessions went, and
-- what each end sent
abbrev pub page_entries : Verdicts → List Summary → List View → List Entry
page_entries verdicts summaries views =
    verdict_entries verdicts.server.items ++ verdict_entries verdicts.client.items
    ++ session_entries summaries ++ map view_entry views

-- ---- the status

-- a piece has a fault, or a warning if that counts, or it is an encoder stream with a fault
abbrev pub fails : Connection → View → Bool
fails c view =
    is_some (fault_in c view.piece.now)
    || end_status c.arguments.now.is_strict view.inspection.end view.inspection.warnings.items == 2

-- 2, if a piece fails, or an end broke a rule
abbrev pub status_by : Connection → Verdicts → List View → ℕ
status_by c verdicts views = if has_fault_in verdicts || list_any (fails c) views then 2 else 0

-- what is shown of these parts and verdicts, and of the sessions: a page that has an entry for each, and
-- no other
abbrev pub ShowsViews : Connection → Verdicts → List Part → List ℕ → ℕ → Type 0
ShowsViews c verdicts parts text status =
    (summaries : List Summary) × (views : List View)
    × AreSummaries c summaries × AreViews c parts views
    × IsPageOf (page_entries verdicts summaries views) text × (status ≡ status_by c verdicts views)

-- the page of these pieces of a connection by these arguments, in this order of their parts, and the
-- status
pub record ShowsPage (arguments : Arguments) (pieces : List Piece) (text : List ℕ) (status : ℕ)
    : Type 0 where
  pub known : Known
  pub connection : Connection
  pub verdicts : Verdicts
  pub known_is : IsKnown pieces known
  pub connection_is : IsConnectionOf known arguments pieces connection
  pub server_ends : EndOnce verdicts.server.items
  pub client_ends : EndOnce verdicts.client.items
  pub shows : ShowsViews connection verdicts known.parts.items text status
