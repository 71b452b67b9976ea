-- What a connection does for its own decoder stream, deed by deed, and on which streams (RFC 9204, sections 2.2.2 and 4.4).
use Rattle.std.specs.Prelude.{◌≡◌, ◌⊎◌, ◌+◌, ◌==◌, ℕ, zero, suc, if◌then◌else◌, not, Bool, true, false, List, [], ◌∷◌, Option, None, Some}
use Rattle.std.specs.Ordering.{nat_cmp}
use Rattle.std.specs.BTreeMap.{is_at}
use Rattle.wtp_webtransport.specs.declared.stream.Stream.{Stream}
use Rattle.vesgrauf.specs.declared.connection.Connection.{Connection}
use Rattle.vesgrauf.specs.declared.connection.ids.Ids.{Ids}
use Rattle.vesgrauf.specs.declared.entry.Entry.{Entry}
use Rattle.vesgrauf.specs.Ids.{was}
use Rattle.vesgrauf.specs.Instructions.{Table, table_of, Deed, Reads, Leaves, Counts, Acknowledges, left, counted, Turn, Works, Takes, Took}
use Rattle.vesgrauf.specs.Own.{entry_at}
use Rattle.vesgrauf.specs.State.{is_over}
use Rattle.vesgrauf.specs.Theirs.{Theirs, Gone, Unread, Turns, theirs_at}
use Rattle.vesgrauf.specs.Told.{Sound}

-- the streams, the IDs that were seen, and the own table with what is to be sent on the decoder stream
pub record Book : Type 0 where
  pub streams : List (ℕ × Entry)
  pub ids : Ids
  pub table : Table

abbrev pub book_at : List (ℕ × Entry) → Ids → Table → Book
book_at es ids t = record { streams = es; ids = ids; table = t }

abbrev pub book_of : Connection → Book
book_of c = book_at c.streams.entries c.ids (table_of c)

-- ---- which streams may be cancelled

-- the peer's encoder may be told that this stream is left: it was not told so, and not all was read that the stream can have; or
-- there was none with this ID yet
abbrev pub may_in : (seen : Bool) → Option Entry → Bool
may_in seen None = not seen
may_in seen (Some e) = e.may_cancel

abbrev pub may_leave : Book → ℕ → Bool
may_leave b id = may_in (was b.ids id) (entry_at b.streams id)

-- ---- the state of a stream

-- calls that read nothing change it (`Moves`), or the stream is read no further
abbrev pub Continues : Theirs → Theirs → Type 0
Continues Gone y = y ≡ Gone
Continues (Unread bytes ended s) Gone = Unit {0}
Continues (Unread bytes ended s) (Unread rest end t) = Turns s t

-- that, or the stream begins
abbrev pub IsMoved : (seen : Bool) → Theirs → Theirs → Type 0
IsMoved seen x y = Continues x y ⊎ (seen ≡ false)

-- this is the state of a stream that is read
abbrev pub IsAt : Theirs → Stream → Type 0
IsAt Gone s = Unit {0}
IsAt (Unread bytes ended x) s = s ≡ x

-- bytes of a stream in this state are looked at, and it is in that state then; or nothing is
pub data MayRead : (id : ℕ) → (x y : Theirs) → (t u : Table) → Type 0 where
  LookedAt : {id : ℕ} {x y : Theirs} {t u : Table} → (says : Acknowledges id t u) → (from : IsAt x says.s)
      → (to : IsAt y says.n) → MayRead id x y t u
  RestedAt : {id : ℕ} {x y : Theirs} {t u : Table} → (moved : Continues x y) → (table : u ≡ t) → MayRead id x y t u

-- ---- steps

-- What stays so at each step: an ID that was seen was seen, and a stream that may not be cancelled may not be.
pub record Stays (b c : Book) : Type 0 where
  pub seen : (id : ℕ) → was b.ids id ≡ true → was c.ids id ≡ true
  pub fewer : (id : ℕ) → may_leave c id ≡ true → may_leave b id ≡ true

-- nothing is said, the table is what it was, and nothing is read on any stream
pub record Rests (b c : Book) : Type 0 where
  pub table : c.table ≡ b.table
  pub moved : (id : ℕ) → IsMoved (was b.ids id) (theirs_at b.streams id) (theirs_at c.streams id)
  pub stays : Stays b c

-- Bytes of this stream are looked at, in the state in which it is, and the section that is read with the table is acknowledged.
-- On no other stream anything is read.
pub record ReadsBy (id : ℕ) (b c : Book) : Type 0 where
  pub says : Acknowledges id b.table c.table
  pub from : IsAt (theirs_at b.streams id) says.s
  pub to : IsAt (theirs_at c.streams id) says.n
  pub moved : (k : ℕ) → is_at (nat_cmp id) k ≡ false
      → IsMoved (was b.ids k) (theirs_at b.streams k) (theirs_at c.streams k)

-- this stream may be cancelled, and is
pub record LeavesBy (id : ℕ) (b c : Book) : Type 0 where
  pub may : may_leave b id ≡ true
  pub once : may_leave c id ≡ false
  pub says : c.table ≡ left id b.table
  pub moved : (k : ℕ) → IsMoved (was b.ids k) (theirs_at b.streams k) (theirs_at c.streams k)

-- the insertions are counted
pub record CountsBy (b c : Book) : Type 0 where
  pub says : c.table ≡ counted b.table
  pub moved : (k : ℕ) → IsMoved (was b.ids k) (theirs_at b.streams k) (theirs_at c.streams k)

abbrev pub DoesBy : Deed → Book → Book → Type 0
DoesBy (Reads id) b c = ReadsBy id b c
DoesBy (Leaves id) b c = LeavesBy id b c
DoesBy Counts b c = CountsBy b c

pub record Step (x : Deed) (b c : Book) : Type 0 where
  pub does : DoesBy x b c
  pub stays : Stays b c

-- these deeds are done, one after the other, and nothing is said or read between them
abbrev pub WorksBy : List Deed → Book → Book → Type 0
WorksBy [] b c = Rests b c
WorksBy (x ∷ xs) b c = (m : Book) × (n : Book) × Rests b m × Step x m n × WorksBy xs n c

-- that of some deeds
pub record Worked (b c : Book) : Type 0 where
  pub deeds : List Deed
  pub works : WorksBy deeds b c

-- unless the connection is over then, which it is if it was
pub data WorksUnless : (was over : Bool) → Book → Book → Type 0 where
  Unless : {x y : Bool} {b c : Book} → (ends : x ≡ true → y ≡ true)
      → (works : y ≡ false → Sound b.streams b.ids → Sound c.streams c.ids × Worked b c) → WorksUnless x y b c

abbrev pub WorksOn : Connection → Connection → Type 0
WorksOn c d = WorksUnless (is_over c) (is_over d) (book_of c) (book_of d)

-- ---- runs

-- QUIC takes these bytes of the own decoder stream, and nothing else changes
pub record TakesOn (bytes : List ℕ) (b c : Book) : Type 0 where
  pub took : Took bytes b.table c.table
  pub streams : c.streams ≡ b.streams
  pub ids : c.ids ≡ b.ids

-- a call: it does that, or QUIC takes bytes
pub data IsCall : Connection → Connection → Type 0 where
  IsWork : {c d : Connection} → WorksOn c d → IsCall c d
  IsTake : {c d : Connection} → (bytes : List ℕ) → TakesOn bytes (book_of c) (book_of d) → IsCall c d

-- what calls do, one after the other, while the connection lasts
abbrev pub Leads : List Turn → Book → Book → Type 0
Leads [] b c = c ≡ b
Leads (Works deeds ∷ turns) b c = (m : Book) × WorksBy deeds b m × Leads turns m c
Leads (Takes bytes ∷ turns) b c = (m : Book) × TakesOn bytes b m × Leads turns m c

-- so many calls, one after the other, while the connection lasts
abbrev pub Calls : ℕ → Connection → Connection → Type 0
Calls zero c d = d ≡ c
Calls (suc n) c d =
    (m : Connection) × (is_over m ≡ false) × IsCall c m × Calls n m d

-- how often a stream is cancelled
abbrev pub one_if : Bool → ℕ
one_if true = 1
one_if false = 0

abbrev pub leaves_of : Deed → ℕ → ℕ
leaves_of (Leaves n) id = one_if (n == id)
leaves_of other id = 0

abbrev pub count_left : List Deed → ℕ → ℕ
count_left [] id = 0
count_left (x ∷ xs) id = leaves_of x id + count_left xs id
