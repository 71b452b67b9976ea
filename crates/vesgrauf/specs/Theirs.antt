-- What the peer sends on the streams of a connection: the bytes that came and were not read, and what is told of those
-- that were.
use Rattle.std.specs.Prelude.{◌≡◌, ◌⊎◌, ◌≤◌, ◌||◌, ◌++◌, ℕ, if◌then◌else◌, Bool, true, false, List, [], ◌∷◌, length, take, drop, Option, None, Some}
use Rattle.std.specs.Ordering.{nat_cmp}
use Rattle.std.specs.BTreeMap.{is_at}
use Rattle.wtp_webtransport.specs.declared.connection.Connection.{Connection as Shared}
use Rattle.wtp_webtransport.specs.declared.stream.Stream.{Stream}
use Rattle.wtp_webtransport.specs.Events.{Told as Say}
use Rattle.wtp_webtransport.specs.Streams.{accepted}
use Rattle.wtp_webtransport.specs.Tables.{Call}
use Rattle.vesgrauf_stream.specs.declared.bytes.Chunk.{Chunk}
use Rattle.vesgrauf_stream.specs.declared.reading.Reading.{Reading}
use Rattle.vesgrauf_stream.specs.Moves.{Moves}
use Rattle.vesgrauf_stream.specs.Reading.{kept_of}
use Rattle.vesgrauf.specs.declared.connection.Step.{Step}
use Rattle.vesgrauf.specs.declared.connection.Step.TheVariants as step
use Rattle.vesgrauf.specs.declared.connection.ids.Ids.{Ids}
use Rattle.vesgrauf.specs.declared.entry.Entry.{Entry}
use Rattle.vesgrauf.specs.declared.entry.Peer.{Peer}
use Rattle.vesgrauf.specs.declared.entry.Peer.TheVariants as peer
use Rattle.vesgrauf.specs.declared.event.Event.{Event}
use Rattle.vesgrauf.specs.declared.input.Input.{Input}
use Rattle.vesgrauf.specs.declared.input.Report.{Report}
use Rattle.vesgrauf.specs.declared.input.Report.TheVariants as report
use Rattle.vesgrauf.specs.Ids.{was}
use Rattle.vesgrauf.specs.Items.{Item, has_end, items_of, items_told}
use Rattle.vesgrauf.specs.Own.{entry_at}

-- Gone: the stream is not read, or is forgotten, or there is none yet; or its bytes are instructions for the own encoder.
-- Unread: these bytes of it came and were not read, whether it ends after them, and the state in which it is read on.
pub data Theirs : Type 0 where
  Gone : Theirs
  Unread : (bytes : List ℕ) → (ended : Bool) → (at : Stream) → Theirs

abbrev pub theirs_by : Peer → Bool → Reading → Theirs
theirs_by peer.Reads is_decoder r = if is_decoder then Gone else Unread (kept_of r) r.ended r.stream
theirs_by other is_decoder r = Gone

abbrev pub theirs_of : Entry → Theirs
theirs_of e = theirs_by e.peer e.is_decoder e.reading

abbrev pub theirs_in : Option Entry → Theirs
theirs_in None = Gone
theirs_in (Some e) = theirs_of e

-- those of the stream with this ID that are kept
abbrev pub theirs_at : List (ℕ × Entry) → ℕ → Theirs
theirs_at streams id = theirs_in (entry_at streams id)

-- ---- nothing is read

-- calls that read nothing lead from one state of a stream to the other: a request is answered, a session joined
pub data Turns : Stream → Stream → Type 0 where
  Still : {s t : Stream} → t ≡ s → Turns s t
  Then : {s t : Stream} → (m : Stream) → Moves s m → Turns m t → Turns s t

-- the state of the stream alone changes, by such calls
abbrev pub IsTurned : Theirs → Theirs → Type 0
IsTurned Gone y = ⊥
IsTurned (Unread bytes ended s) y = (t : Stream) × Turns s t × (y ≡ Unread bytes ended t)

-- no byte is read and none is lost, unless the stream is read no further
abbrev pub IsLeft : Theirs → Theirs → Type 0
IsLeft x y = (y ≡ x) ⊎ ((y ≡ Gone) ⊎ IsTurned x y)

-- that of all streams
pub record Left (c d : List (ℕ × Entry)) : Type 0 where
  pub each : (id : ℕ) → IsLeft (theirs_at c id) (theirs_at d id)

-- of no other stream than this one the bytes change that are kept
pub record OnlyAt (id : ℕ) (c d : List (ℕ × Entry)) : Type 0 where
  pub each : (k : ℕ) → is_at (nat_cmp id) k ≡ false → theirs_at d k ≡ theirs_at c k

-- ---- the input

-- these bytes come after those: after the end none does
abbrev pub more_bytes : (ended : Bool) → (bytes more : List ℕ) → List ℕ
more_bytes true bytes more = bytes
more_bytes false bytes more = bytes ++ more

-- the bytes of an input come after those that are kept
abbrev pub with_chunk : Theirs → Chunk → Theirs
with_chunk Gone i = Gone
with_chunk (Unread bytes ended s) i = Unread (more_bytes ended bytes i.bytes.now) (ended || i.fin) s

-- the end of the stream is kept
abbrev pub ends_in : Option Entry → Bool
ends_in None = false
ends_in (Some e) = e.reading.ended

-- these are bytes of this stream
abbrev pub is_of : Report → ℕ → Bool
is_of (report.Stream n) id = is_at (nat_cmp n) id
is_of other id = false

abbrev pub with_input : Input → ℕ → Theirs → Theirs
with_input i id x = if is_of i.report id then with_chunk x i.chunk else x

-- the bytes of a stream that are kept, and then those of the input, if they are of this stream
abbrev pub unread_at : List (ℕ × Entry) → Input → ℕ → Theirs
unread_at streams i id = with_input i id (theirs_at streams id)

-- ---- bytes are read

-- so many bytes are looked at, so many of them are read, and this is said
pub record Piece : Type 0 where
  pub reach : ℕ
  pub consumed : ℕ
  pub say : Say

-- The layer below says so of the first of these bytes, from this state of the stream to that one, in a connection that no error
-- has ended: after an error it reads all bytes without a word. It is told of the end only if the stream ends after them, and with
-- the last of them.
pub record IsCall (bytes : List ℕ) (ended : Bool) (p : Piece) (s t : Stream) : Type 0 where
  pub limit : ℕ
  pub c : Shared
  pub d : Shared
  pub fin : Bool
  pub lives : c.over ≡ false
  pub within : p.reach ≤ length bytes
  pub reads : p.consumed ≤ p.reach
  pub ends : fin ≡ true → (ended ≡ true) × (p.reach ≡ length bytes)
  pub gives : Call limit c s (take p.reach bytes) fin (p.consumed, p.say, d, t)

-- It does so one time after the other, each time in the state in which the time before left the stream, and the rest is still
-- to be read.
abbrev pub AreCalls : List Piece → List ℕ → Bool → Stream → List ℕ → Stream → Type 0
AreCalls [] bytes ended s rest t = (rest ≡ bytes) × Turns s t
AreCalls (p ∷ ps) bytes ended s rest t =
    (u : Stream) × (v : Stream) × Turns s u × IsCall bytes ended p u v × AreCalls ps (drop p.consumed bytes) ended v rest t

-- the items that they say
abbrev pub all_items : List Piece → List Item
all_items [] = []
all_items (p ∷ ps) = items_of p.say ++ all_items ps

-- Bytes are read one time after the other, from the first on, and say these items; the others are still to be read.
pub record AreRead (x : Theirs) (items : List Item) (y : Theirs) : Type 0 where
  pub bytes : List ℕ
  pub rest : List ℕ
  pub ended : Bool
  pub before : Stream
  pub after : Stream
  pub pieces : List Piece
  pub from : x ≡ Unread bytes ended before
  pub to : y ≡ Unread rest ended after
  pub calls : AreCalls pieces bytes ended before rest after
  pub says : all_items pieces ≡ items

-- that, or none is read
abbrev pub IsReadTo : Theirs → List Item → Theirs → Type 0
IsReadTo x items y = ((y ≡ x) × (items ≡ [])) ⊎ AreRead x items y

-- that, and then the stream may be read no further
abbrev pub IsRead : Theirs → List Item → Theirs → Type 0
IsRead x items y = (z : Theirs) × IsReadTo x items z × IsLeft z y

-- where the end is told, the stream is read no further
abbrev pub IsEndedBy : List Item → Theirs → Type 0
IsEndedBy items y = has_end items ≡ true → y ≡ Gone

-- bytes are read, and these items are told, of which the end is the last
abbrev pub IsTold : Theirs → List Item → Theirs → Type 0
IsTold x items y = IsRead x items y × IsEndedBy items y

-- no byte is read of any stream, nor lost
pub record Same (c : List (ℕ × Entry)) (i : Input) (d : List (ℕ × Entry)) (j : Input) : Type 0 where
  pub each : (id : ℕ) → IsLeft (unread_at c i id) (unread_at d j id)

-- bytes of this stream are read, which say these items, and none of any other: where some of the input may be
pub record ReadsOn (id : ℕ) (items : List Item) (c : List (ℕ × Entry)) (i : Chunk) (d : List (ℕ × Entry)) (j : Chunk)
    : Type 0 where
  pub here : IsRead (with_chunk (theirs_at c id) i) items (with_chunk (theirs_at d id) j)
  pub there : (k : ℕ) → is_at (nat_cmp id) k ≡ false → IsLeft (theirs_at c k) (theirs_at d k)

-- and where only some that are kept are
pub record ReadsKept (id : ℕ) (items : List Item) (c d : List (ℕ × Entry)) : Type 0 where
  pub here : IsRead (theirs_at c id) items (theirs_at d id)
  pub there : (k : ℕ) → is_at (nat_cmp id) k ≡ false → IsLeft (theirs_at c k) (theirs_at d k)

-- ---- what was read is told

-- these items of this stream, and none of any other
abbrev pub items_on : ℕ → List Item → ℕ → List Item
items_on id items k = if is_at (nat_cmp id) k then items else []

-- the items of each stream that are told
abbrev pub told_by : Option Event → ℕ → List Item
told_by None id = []
told_by (Some e) id = items_on e.stream (items_told e.kind) id

abbrev pub told_in : Step → ℕ → List Item
told_in (step.Told e) id = items_on e.stream (items_told e.kind) id
told_in other id = []

abbrev pub told_if : Option Step → ℕ → List Item
told_if None id = []
told_if (Some s) id = told_in s id

-- no item is told
abbrev pub IsSilent : Step → Type 0
IsSilent (step.Told e) = items_told e.kind ≡ []
IsSilent other = Unit {0}

abbrev pub IsSilentIf : Option Step → Type 0
IsSilentIf None = Unit {0}
IsSilentIf (Some s) = IsSilent s

-- these items of this stream are told, or none
abbrev pub IsOf : ℕ → List Item → Step → Type 0
IsOf id items (step.Told e) = (e.stream ≡ id) × (items_told e.kind ≡ items)
IsOf id items other = Unit {0}

-- no byte is read nor lost, and what was heard is told; or the stream is read no further, and nothing is told
abbrev pub IsHanded : Theirs → List Item → List Item → Theirs → Type 0
IsHanded x items said y = (IsLeft x y × (said ≡ items) × IsEndedBy said y) ⊎ ((y ≡ Gone) × (said ≡ []))

-- these items were heard on this stream, and none on any other
pub record Hands (id : ℕ) (items : List Item) (said : ℕ → List Item) (c d : List (ℕ × Entry)) : Type 0 where
  pub each : (k : ℕ) → IsHanded (theirs_at c k) (items_on id items k) (said k) (theirs_at d k)

-- the same with an input
pub record Passes (id : ℕ) (items : List Item) (said : ℕ → List Item) (c : List (ℕ × Entry)) (i : Input)
    (d : List (ℕ × Entry)) (j : Input) : Type 0 where
  pub each : (k : ℕ) → IsHanded (unread_at c i k) (items_on id items k) (said k) (unread_at d j k)

-- of each stream, bytes that are kept are read, and the items are told that they say
pub record TellsKept (said : ℕ → List Item) (c d : List (ℕ × Entry)) : Type 0 where
  pub each : (id : ℕ) → IsTold (theirs_at c id) (said id) (theirs_at d id)

-- of each stream, bytes that are kept and those of the input are read, and the items are told that they say
pub record Tells (said : ℕ → List Item) (c : List (ℕ × Entry)) (i : Input) (d : List (ℕ × Entry)) (j : Input)
    : Type 0 where
  pub each : (id : ℕ) → IsTold (unread_at c i id) (said id) (unread_at d j id)

-- ---- streams that come to be

-- the state of the stream with this ID, which the peer opened, and of which nothing was read
pub record IsNew (id : ℕ) (s : Stream) : Type 0 where
  pub c : Shared
  pub is : s ≡ (accepted c id).1

-- nothing of such a stream is kept
pub record IsBlank (id : ℕ) (y : Theirs) : Type 0 where
  pub at : Stream
  pub new : IsNew id at
  pub nothing : y ≡ Unread [] false at

-- they are as they were; or the ID was not seen before, and nothing is kept
abbrev pub IsStart : (id : ℕ) → (seen : Bool) → Theirs → Theirs → Type 0
IsStart id seen x y = (y ≡ x) ⊎ ((seen ≡ false) × IsBlank id y)

-- that of all streams; and what was seen stays so
pub record Accepts (a : Ids) (c : List (ℕ × Entry)) (b : Ids) (d : List (ℕ × Entry)) : Type 0 where
  pub each : (id : ℕ) → IsStart id (was a id) (theirs_at c id) (theirs_at d id)
  pub seen : (id : ℕ) → was a id ≡ true → was b id ≡ true

-- What is told of each stream are the items that the bytes say that are read of it: of those that were kept and those
-- of the input; or of those of the input alone, if its ID was not seen before. The others are still to be read: none is
-- skipped, and none is read again.
pub record TellsAll (a : Ids) (said : ℕ → List Item) (c : List (ℕ × Entry)) (i : Input) (d : List (ℕ × Entry)) (j : Input)
    : Type 0 where
  pub each : (id : ℕ) → (x : Theirs) × IsStart id (was a id) (theirs_at c id) x
      × IsTold (with_input i id x) (said id) (unread_at d j id)
