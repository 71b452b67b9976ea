-- What an encoder does to its table (RFC 9204, sections 2.1 and 4.3).
use Rattle.std.specs.Prelude.{◌≡◌, ◌≢◌, ◌⊎◌, ℕ, ◌+◌, ◌<◌, ◌≤◌, ◌^◌, nat_lt, nat_le, ◌==◌, if◌then◌else◌, max, min, Bool, true, false, ◌&&◌, List, [], ◌∷◌, ◌++◌, length, map, take, drop, Option, Some, None, Result, Ok, Err, MatchResult}
use Rattle.std.specs.List.{flat_map}
use Rattle.wtp_qpack.specs.Field.{Field}
use Rattle.wtp_dynamic.specs.declared.error.DecoderStreamError.{DecoderStreamError}
use Rattle.wtp_dynamic.specs.declared.error.DecoderStreamError.TheVariants as stream
use Rattle.wtp_dynamic.specs.declared.ledger.Sent.{Sent}
use Rattle.wtp_dynamic.specs.Table.{Table, empty_table, insert_count, inserted, resized}
use Rattle.wtp_dynamic.specs.Writing.{Order, Sets, written, Carries}
use Rattle.wtp_dynamic.specs.Plans.{Plan, StaticField, TableField, StaticName, TableName, NewName, planned_line, planned_prefix, ArePlans}
use Rattle.wtp_dynamic.specs.InsertCount.{most_entries}
use Rattle.wtp_dynamic.specs.Pair.{section_of}
use Rattle.wtp_dynamic.specs.EncoderState.{Encoder, may_insert, may_resize, may_block, AreFrom}
use Rattle.wtp_dynamic_encoder.specs.Acknowledging.{Ledger, Stands, Reaches, Breaks}
use Rattle.wtp_dynamic_encoder.specs.declared.proposal.Policy.{Policy}
use Rattle.wtp_dynamic_encoder.specs.declared.proposal.Proposal.{Proposal}
use Rattle.wtp_dynamic_encoder.specs.Choosing.{field_of, draining_index, IsOrderFor, IsWanted, AreChosen}

-- ---- the state

-- the decoder stream: the bytes of a cut instruction, or the error at which it ended
pub data Progress : Type 0 where
  Runs : (held : List ℕ) → Progress
  Failed : DecoderStreamError → Progress

abbrev pub progress_of : Option DecoderStreamError → List ℕ → Progress
progress_of None held = Runs held
progress_of (Some e) held = Failed e

-- The table, the Known Received Count and the sections that are not acknowledged, the decoder
-- stream, how many streams may be blocked, and the policy.
pub record State : Type 0 where
  pub table : Table
  pub ledger : Ledger
  pub progress : Progress
  pub most : ℕ
  pub policy : Policy

-- an encoder by its parts
abbrev pub encoder_of : Table → Ledger → Encoder
encoder_of table ledger = record { table = table; known = ledger.0; sections = ledger.1 }

-- nothing was inserted, no capacity was set, no section is open and nothing was acknowledged
abbrev pub is_unused : Table → Ledger → Bool
is_unused table ledger =
    (insert_count table == 0) && (table.capacity == 0) && (ledger.0 == 0) && (length ledger.1 == 0)

-- with these limits, if it is unused
abbrev pub limited : (limit most : ℕ) → State → State
limited limit most s =
    if is_unused s.table s.ledger then record s { table = empty_table limit; most = most } else s

-- how many bytes of a cut instruction are held: none once the stream has ended
abbrev pub held_count : Progress → ℕ
held_count (Runs held) = length held
held_count (Failed e) = 0

-- ---- the table

-- an entry may be inserted, and there are not too many
abbrev pub can_insert : Field → Encoder → Bool
can_insert entry encoder =
    may_insert entry encoder && nat_lt (insert_count encoder.table) (2 ^ 62)

-- A table was changed if a test holds, and the order that does so appended to bytes. Otherwise
-- nothing changed; nor if allocation failed, which it can only where the test holds.
abbrev pub ChangesIf : {E : Type 0} → Bool → Order → (made old new : Table)
    → (before after : List ℕ) → Result Bool E → Type 0
ChangesIf test order made old new before after (Ok true) =
    (test ≡ true) × (new ≡ made) × (after ≡ before ++ written order)
ChangesIf test order made old new before after (Ok false) =
    (test ≡ false) × (new ≡ old) × (after ≡ before)
ChangesIf test order made old new before after (Err e) =
    (test ≡ true) × (new ≡ old) × (after ≡ before)

-- an entry was inserted if it can be, and the order that does so appended to bytes
abbrev pub Inserted : Field → Ledger → (old new : Table) → (before after : List ℕ) → Bool → Type 0
Inserted entry ledger old new before after true =
    (can_insert entry (encoder_of old ledger) ≡ true) × (new ≡ inserted entry old)
    × (order : Order) × IsOrderFor entry old order × (after ≡ before ++ written order)
Inserted entry ledger old new before after false =
    (can_insert entry (encoder_of old ledger) ≡ false) × (new ≡ old) × (after ≡ before)

-- the same; or allocation failed for an entry that can be inserted, and nothing changed
abbrev pub InsertsIf : {E : Type 0} → Field → Ledger → (old new : Table) → (before after : List ℕ)
    → Result Bool E → Type 0
InsertsIf entry ledger old new before after result =
    MatchResult result (λ did. Inserted entry ledger old new before after did)
    (λ _. (can_insert entry (encoder_of old ledger) ≡ true) × (new ≡ old) × (after ≡ before))

-- a proposal was inserted if it is wanted and can be
abbrev pub Offered : Policy → Proposal → Ledger → (old new : Table) → (before after : List ℕ)
    → Type 0
Offered policy proposal ledger old new before after =
    (IsWanted policy proposal old
    × (did : Bool) × Inserted (field_of proposal) ledger old new before after did)
    ⊎ (¬ IsWanted policy proposal old × (new ≡ old) × (after ≡ before))

-- each, in their order
abbrev pub AreOffered : Policy → List Proposal → Ledger → (old new : Table)
    → (before after : List ℕ) → Type 0
AreOffered policy [] ledger old new before after = (new ≡ old) × (after ≡ before)
AreOffered policy (first ∷ others) ledger old new before after =
    (table : Table) × (bytes : List ℕ) × Offered policy first ledger old table before bytes
    × AreOffered policy others ledger table new bytes after

-- a proposal is inserted
abbrev pub IsInserted : Policy → Proposal → Ledger → Table → Type 0
IsInserted policy proposal ledger table =
    IsWanted policy proposal table
    × (can_insert (field_of proposal) (encoder_of table ledger) ≡ true)

-- the first of these is inserted, or there is none
abbrev pub FirstIsInserted : Policy → List Proposal → Ledger → Table → Type 0
FirstIsInserted policy [] ledger table = Unit {0}
FirstIsInserted policy (first ∷ others) ledger table = IsInserted policy first ledger table

-- Only the first so many were offered, since allocation failed: for the next one, which is inserted;
-- or after all of them.
abbrev pub StoppedAt : Policy → List Proposal → Ledger → (old new : Table) → (before after : List ℕ)
    → Type 0
StoppedAt policy proposals ledger old new before after =
    (count : ℕ) × AreOffered policy (take count proposals) ledger old new before after
    × FirstIsInserted policy (drop count proposals) ledger new

-- the capacity was set if it may be
abbrev pub ResizesIf : {E : Type 0} → ℕ → Ledger → (old new : Table) → (before after : List ℕ)
    → Result Bool E → Type 0
ResizesIf capacity ledger old new before after result =
    ChangesIf (may_resize capacity (encoder_of old ledger)) (Sets capacity) (resized capacity old)
    old new before after result

-- Orders were appended to bytes that do to a decoder's table what was done to this one; none if the
-- table may have no entry (section 3.2.3).
pub record Ordered (old new : Table) (before after : List ℕ) : Type 0 where
  pub orders : List Order
  pub carries : Carries orders old new
  pub bytes : after ≡ before ++ flat_map written orders
  pub silent : old.limit ≡ 0 → orders ≡ []

-- ---- a section

-- the absolute index of the entry of the dynamic table to which a line refers, if it does
abbrev pub place_of : Plan → Option ℕ
place_of (StaticField index) = None
place_of (TableField place) = Some place
place_of (StaticName never index value) = None
place_of (TableName never place value) = Some place
place_of (NewName never name value) = None

-- one more than the largest absolute index to which lines refer, or 0 (section 2.1.2)
abbrev pub needs_by : Option ℕ → ℕ
needs_by None = 0
needs_by (Some place) = place + 1

abbrev pub needs : Plan → ℕ
needs plan = needs_by (place_of plan)

abbrev pub needed : List Plan → ℕ
needed [] = 0
needed (plan ∷ plans) = max (needs plan) (needed plans)

-- what a line adds to the insertions that lines need, and to the lowest place
abbrev pub raised : Option ℕ → ℕ → ℕ
raised None required = required
raised (Some place) required = max required (place + 1)

abbrev pub lowered : Option ℕ → ℕ → ℕ
lowered None lowest = lowest
lowered (Some place) lowest = min lowest place

-- the smallest absolute index to which lines refer; a count that none reaches, if they refer to none
abbrev pub lowest_of : (count : ℕ) → List Plan → ℕ
lowest_of count [] = count
lowest_of count (plan ∷ plans) = lowered (place_of plan) (lowest_of count plans)

-- Lines of proposals were written, with the insertions so far as Base, by entries from an absolute
-- index on and below a bound: they need so many insertions, and refer to live entries from a place
-- on, which is the lowest to which they refer.
pub record AreLines (table : Table) (low bound : ℕ) (proposals : List Proposal) (bytes : List ℕ)
    (required lowest : ℕ) : Type 0 where
  pub plans : List Plan
  pub chosen : AreChosen table low bound proposals plans
  pub are : ArePlans table bound plans (map field_of proposals)
  pub bytes_are : bytes ≡ flat_map (planned_line (insert_count table)) plans
  pub exact : required ≡ needed plans
  pub least : lowest ≡ lowest_of (insert_count table) plans
  pub from : AreFrom lowest plans
  pub live : table.dropped ≤ lowest
  pub few : required ≤ bound
  pub some : (required ≡ 0) ⊎ (lowest < required)

-- the section that was sent is the latest that is not acknowledged, if it refers to the table
abbrev pub opened : Sent → Ledger → Ledger
opened sent ledger =
    if sent.required == 0 then ledger else (ledger.0, ledger.1 ++ sent ∷ [])

-- the oldest sections that are not acknowledged, so many of them
abbrev pub first_sections : ℕ → Ledger → Ledger
first_sections count ledger = (ledger.0, take count ledger.1)

-- what is kept of a section
abbrev pub sent_at : (stream required lowest : ℕ) → Sent
sent_at stream required lowest =
    record { stream = stream; required = required; lowest = lowest }

abbrev pub sent_of : (stream : ℕ) → List Plan → (lowest : ℕ) → Sent
sent_of stream plans lowest = sent_at stream (needed plans) lowest

-- the Base: the insertions so far, or 0 if no line refers to the table (section 4.5.1.2)
abbrev pub base_for : (required count : ℕ) → ℕ
base_for required count = if required == 0 then 0 else count

-- the prefix of a section with this table
abbrev pub prefix_for : Table → (required : ℕ) → List ℕ
prefix_for table required =
    planned_prefix (most_entries table.limit) required (base_for required (insert_count table))

-- a section with this table
abbrev pub section_with : Table → List Plan → List ℕ
section_with table plans =
    section_of table.limit (needed plans) (base_for (needed plans) (insert_count table)) plans

-- below which absolute index a section may refer to entries: to none if as many sections as may be
-- are not acknowledged; to any if its stream may be blocked; and otherwise to those that are known
-- to be received (section 2.1.2)
abbrev pub bound_for : (stream most : ℕ) → Policy → Ledger → Table → ℕ
bound_for stream most policy ledger table =
    if nat_le policy.unacknowledged (length ledger.1) then 0
    else if may_block most stream ledger then insert_count table else ledger.0

-- A section of a stream was appended to bytes. Its lines are those that are chosen, and are the
-- fields, by entries that its Required Insert Count covers; it holds no entry below the lowest to
-- which they refer; it needs more insertions than are known to be received only if its stream may be
-- blocked (section 2.1.2); and it refers to an entry only if fewer sections are not acknowledged than
-- may be.
pub record IsSent (stream most : ℕ) (policy : Policy) (proposals : List Proposal) (table : Table)
    (old new : Ledger) (before after : List ℕ) : Type 0 where
  pub plans : List Plan
  pub lowest : ℕ
  pub chosen : AreChosen table (draining_index policy table) (bound_for stream most policy old table)
      proposals plans
  pub are : ArePlans table (needed plans) plans (map field_of proposals)
  pub few : needed plans ≤ insert_count table
  pub least : lowest ≡ lowest_of (insert_count table) plans
  pub from : AreFrom lowest plans
  pub bytes : after ≡ before ++ section_with table plans
  pub ledger : new ≡ opened (sent_of stream plans lowest) old
  pub allowed : (needed plans ≤ old.0) ⊎ (may_block most stream old ≡ true)
  pub counted : (needed plans ≡ 0) ⊎ (length old.1 < policy.unacknowledged)

-- Proposals were encoded: those that are wanted were inserted, with orders on the encoder stream,
-- and then a section of a stream was appended to other bytes. If allocation failed, no section was.
abbrev pub Encodes : {E : Type 0} → (stream : ℕ) → List Proposal → (old new : State)
    → (orders_before orders_after before after : List ℕ) → Result (Unit {0}) E → Type 0
Encodes stream proposals old new orders_before orders_after before after result =
    Ordered old.table new.table orders_before orders_after
    × (new.progress ≡ old.progress) × (new.most ≡ old.most) × (new.policy ≡ old.policy)
    × MatchResult result
    (λ _. AreOffered old.policy proposals old.ledger old.table new.table orders_before orders_after
    × IsSent stream old.most old.policy proposals new.table old.ledger new.ledger before after)
    (λ _. (new.ledger ≡ old.ledger) × (after ≡ before)
    × StoppedAt old.policy proposals old.ledger old.table new.table orders_before orders_after)

-- ---- the decoder stream

-- What reading a piece did: after an error nothing. An error stays; the ledger is what the
-- instructions before it made.
abbrev pub PieceRead : Progress → List ℕ → (old new : State) → Result (Unit {0}) DecoderStreamError
    → Type 0
PieceRead (Failed e) piece old new result = (new ≡ old) × (result ≡ Err e)
PieceRead (Runs held) piece old new result =
    let count = insert_count old.table in
    MatchResult result
    (λ _. (left : List ℕ) × Stands count old.ledger (held ++ piece) new.ledger left
    × (new ≡ record old { ledger = new.ledger; progress = Runs left }))
    (λ e. Reaches count old.ledger (held ++ piece) new.ledger
    × (e ≢ stream.Memory → Breaks count old.ledger (held ++ piece) new.ledger e)
    × (new ≡ record old { ledger = new.ledger; progress = Failed e }))
