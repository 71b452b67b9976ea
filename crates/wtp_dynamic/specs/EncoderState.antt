-- What an encoder keeps of the sections that it sent, and what it owes (RFC 9204, section 2.1).
use Rattle.std.specs.Prelude.{◌≡◌, ◌⊎◌, ℕ, ◌+◌, ◌-◌, ◌<◌, ◌≤◌, ◌==◌, nat_lt, nat_le, if◌then◌else◌, max, not, Bool, true, false, ◌&&◌, ◌||◌, List, [], ◌∷◌, ◌++◌, length, Option, Some, None}
use Rattle.wtp_qpack.specs.Field.{Field}
use Rattle.wtp_dynamic.specs.declared.ledger.Sent.{Sent}
use Rattle.wtp_dynamic.specs.declared.error.DecoderStreamError.{DecoderStreamError}
use Rattle.wtp_dynamic.specs.declared.error.DecoderStreamError.TheVariants.{ZeroIncrement, IncrementTooLarge}
use Rattle.wtp_dynamic.specs.Plans.{Plan, StaticField, TableField, StaticName, TableName, NewName}
use Rattle.wtp_dynamic.specs.Table.{Table, insert_count, entry_size, evicted, resized, inserted}

-- the table, the Known Received Count, and the sections that are not acknowledged, the oldest first
pub record Encoder : Type 0 where
  pub table : Table
  pub known : ℕ
  pub sections : List Sent

-- each section refers to entries from a place on, and below a count
abbrev pub AreKept : ℕ → ℕ → List Sent → Type 0
AreKept place count [] = Unit {0}
AreKept place count (sent ∷ others) =
    (place ≤ sent.lowest) × (sent.lowest < sent.required) × (sent.required ≤ count)
    × AreKept place count others

-- It evicted no entry of which it does not know that it was received, and none to which a section
-- refers that is not acknowledged (section 2.1.1).
pub record Owes (encoder : Encoder) : Type 0 where
  pub known : encoder.known ≤ insert_count encoder.table
  pub received : encoder.table.dropped ≤ encoder.known
  pub kept : AreKept encoder.table.dropped (insert_count encoder.table) encoder.sections

-- ---- the test before an eviction

abbrev pub all_above : ℕ → List Sent → Bool
all_above place [] = true
all_above place (sent ∷ others) = nat_le place sent.lowest && all_above place others

-- an entry may be inserted: it is not too large, and only entries go that may go
abbrev pub may_insert : Field → Encoder → Bool
may_insert entry encoder =
    let after = evicted (encoder.table.capacity - entry_size entry) encoder.table in
    nat_le (entry_size entry) encoder.table.capacity && nat_le after.dropped encoder.known
    && all_above after.dropped encoder.sections

-- the capacity may be changed: the limit is not 0 (section 3.2.3), the capacity is within it, and
-- only entries go that may go
abbrev pub may_resize : ℕ → Encoder → Bool
may_resize capacity encoder =
    let after = evicted capacity encoder.table in
    nat_lt 0 encoder.table.limit && nat_le capacity encoder.table.limit
    && nat_le after.dropped encoder.known && all_above after.dropped encoder.sections

-- ---- the decoder stream (section 4.4)

-- the first section of a stream, if there is one, and the others
abbrev pub with_first : Sent → Option (Sent × List Sent) → Option (Sent × List Sent)
with_first first None = None
with_first first (Some x) = Some (x.0, first ∷ x.1)

abbrev pub taken : ℕ → List Sent → Option (Sent × List Sent)
taken stream [] = None
taken stream (sent ∷ others) =
    if sent.stream == stream then Some (sent, others) else with_first sent (taken stream others)

-- a section that stands for none
abbrev pub unsent : ℕ → Sent
unsent stream = record { stream = stream; required = 0; lowest = 0 }

-- the sections of other streams
abbrev pub without : ℕ → List Sent → List Sent
without stream [] = []
without stream (sent ∷ others) =
    if sent.stream == stream then without stream others else sent ∷ without stream others

-- why an increment is refused
abbrev pub increment_fault : DecoderStreamError → (count known inserted : ℕ) → Type 0
increment_fault ZeroIncrement count known inserted = count ≡ 0
increment_fault IncrementTooLarge count known inserted = (0 < count) × (inserted < known + count)
increment_fault _ count known inserted = ⊥

-- ---- steps

abbrev pub with_entry : Field → Encoder → Encoder
with_entry entry encoder = record encoder { table = inserted entry encoder.table }

abbrev pub with_capacity : ℕ → Encoder → Encoder
with_capacity capacity encoder = record encoder { table = resized capacity encoder.table }

abbrev pub with_section : Sent → Encoder → Encoder
with_section sent encoder = record encoder { sections = encoder.sections ++ sent ∷ [] }

-- a section was acknowledged (sections 4.4.1 and 2.1.4)
abbrev pub acknowledged : Sent × List Sent → Encoder → Encoder
acknowledged x encoder = record encoder { known = max encoder.known x.0.required; sections = x.1 }

abbrev pub cancelled : ℕ → Encoder → Encoder
cancelled stream encoder = record encoder { sections = without stream encoder.sections }

abbrev pub incremented : ℕ → Encoder → Encoder
incremented count encoder = record encoder { known = encoder.known + count }

-- ---- blocked streams (section 2.1.2): a section may block its stream as long as it is not
-- acknowledged, and needs more insertions than are known to be received

abbrev pub may_wait : (known stream : ℕ) → List Sent → Bool
may_wait known stream [] = false
may_wait known stream (sent ∷ others) =
    nat_lt known sent.required && sent.stream == stream || may_wait known stream others

-- the streams that may be blocked, each once: at its last such section
abbrev pub waiting_streams : ℕ → List Sent → List ℕ
waiting_streams known [] = []
waiting_streams known (sent ∷ others) =
    if nat_lt known sent.required && not (may_wait known sent.stream others)
    then sent.stream ∷ waiting_streams known others else waiting_streams known others

-- another section of a stream may block it: one may already, or fewer streams may be blocked than
-- the decoder allows
abbrev pub may_block : (most stream : ℕ) → ℕ × List Sent → Bool
may_block most stream ledger =
    may_wait ledger.0 stream ledger.1 || nat_lt (length (waiting_streams ledger.0 ledger.1)) most

-- a stream is one of these
abbrev pub IsAmong : ℕ → List ℕ → Type 0
IsAmong stream [] = ⊥
IsAmong stream (first ∷ others) = (stream ≡ first) ⊎ IsAmong stream others

-- at most so many streams may be blocked: each that may is one of so many
abbrev pub FewWait : (most known : ℕ) → List Sent → Type 0
FewWait most known sections =
    (streams : List ℕ) × (length streams ≤ most)
    × ((stream : ℕ) → may_wait known stream sections ≡ true → IsAmong stream streams)

-- ---- a section that was sent

-- it is not acknowledged
abbrev pub IsOpen : Sent → List Sent → Type 0
IsOpen sent [] = ⊥
IsOpen sent (first ∷ others) = (sent ≡ first) ⊎ IsOpen sent others

-- its lines refer to no entry below a place
abbrev pub IsFrom : ℕ → Plan → Type 0
IsFrom lowest (StaticField index) = Unit {0}
IsFrom lowest (TableField place) = lowest ≤ place
IsFrom lowest (StaticName never index value) = Unit {0}
IsFrom lowest (TableName never place value) = lowest ≤ place
IsFrom lowest (NewName never name value) = Unit {0}

abbrev pub AreFrom : ℕ → List Plan → Type 0
AreFrom lowest [] = Unit {0}
AreFrom lowest (plan ∷ plans) = IsFrom lowest plan × AreFrom lowest plans
