-- An encoder in bytes, as a caller in C keeps it: words of 8 bytes, the lowest byte first, then the
-- bytes of an instruction of the decoder stream that is cut, the sections that are not acknowledged, the
-- oldest first, and the entries of the table, the oldest first.
use Rattle.std.specs.Prelude.{◌≡◌, ℕ, ◌+◌, ◌*◌, ◌^◌, ◌<◌, ◌≤◌, List, [], ◌∷◌, ◌++◌, length, Option, Some, None}
use Rattle.wtp_dynamic.specs.declared.error.DecoderStreamError.{DecoderStreamError}
use Rattle.wtp_dynamic.specs.declared.error.DecoderStreamError.TheVariants as fault
use Rattle.wtp_dynamic.specs.declared.ledger.Sent.{Sent}
use Rattle.wtp_dynamic.specs.declared.stored.Head.{Head}
use Rattle.wtp_dynamic.specs.Table.{Table, insert_count, table_size}
use Rattle.wtp_dynamic.specs.Stored.{word, head_bytes, entries_bytes, IsHead, IsWide}
use Rattle.wtp_dynamic.specs.EncoderState.{Owes, AreKept, FewWait}
use Rattle.wtp_dynamic_encoder.specs.declared.encoder.stored.Bounds.{Bounds}
use Rattle.wtp_dynamic_encoder.specs.Acknowledging.{Ledger, most_bytes, IsCut}
use Rattle.wtp_dynamic_encoder.specs.Encoding.{State, Progress, Runs, Failed, progress_of, encoder_of}

-- ---- the bytes

-- a section that is not acknowledged
abbrev pub section_bytes : Sent → List ℕ
section_bytes sent = word sent.stream ++ (word sent.required ++ word sent.lowest)

abbrev pub sections_bytes : List Sent → List ℕ
sections_bytes [] = []
sections_bytes (sent ∷ others) = section_bytes sent ++ sections_bytes others

abbrev pub bounds_bytes : Bounds → List ℕ
bounds_bytes b =
    word b.most
    ++ (word b.largest ++ (word b.reserved ++ (word b.unacknowledged ++ word b.sections)))

abbrev pub error_number : DecoderStreamError → ℕ
error_number fault.IntegerOverflow = 1
error_number fault.UnknownSection = 2
error_number fault.ZeroIncrement = 3
error_number fault.IncrementTooLarge = 4
error_number fault.Memory = 5

-- the error at which the decoder stream ended, or 0
abbrev pub fault_number : Progress → ℕ
fault_number (Runs held) = 0
fault_number (Failed e) = error_number e

-- the bytes of a cut instruction: none once the stream has ended
abbrev pub held_bytes : Progress → List ℕ
held_bytes (Runs held) = held
held_bytes (Failed e) = []

abbrev pub head_of : State → Head
head_of s = record {
  limit = s.table.limit;
  capacity = s.table.capacity;
  dropped = s.table.dropped;
  known = s.ledger.0;
  fault = fault_number s.progress;
  held = length (held_bytes s.progress);
  count = length s.table.live;
}

abbrev pub bounds_of : State → Bounds
bounds_of s = record {
  most = s.most;
  largest = s.policy.largest;
  reserved = s.policy.reserved;
  unacknowledged = s.policy.unacknowledged;
  sections = length s.ledger.1;
}

abbrev pub encoder_bytes : State → List ℕ
encoder_bytes s =
    head_bytes (head_of s)
    ++ (bounds_bytes (bounds_of s)
    ++ (held_bytes s.progress ++ (sections_bytes s.ledger.1 ++ entries_bytes s.table.live)))

-- A number above how many they are, by the capacity and how many sections are not acknowledged: 12 words,
-- what is held, 3 words for each section, and the entries, each of which the capacity counts with 32
-- bytes for its two words.
abbrev pub most_stored : (capacity sections : ℕ) → ℕ
most_stored capacity sections = 96 + (most_bytes + (24 * sections + capacity))

-- ---- which encoders are stored

-- the streams of sections fit words
abbrev pub AreStreams : List Sent → Type 0
AreStreams [] = Unit {0}
AreStreams (sent ∷ others) = (sent.stream < 2 ^ 64) × AreStreams others

-- these numbers fit words
pub record IsWideBounds (b : Bounds) : Type 0 where
  pub most : b.most < 2 ^ 64
  pub largest : b.largest < 2 ^ 64
  pub reserved : b.reserved < 2 ^ 64
  pub unacknowledged : b.unacknowledged < 2 ^ 64
  pub sections : b.sections < 2 ^ 64

-- what is true of each encoder (RFC 9204, sections 2.1 and 3.2)
pub record IsEncoder (s : State) : Type 0 where
  pub limit : s.table.limit < 2 ^ 60
  pub capacity : s.table.capacity ≤ s.table.limit
  pub size : table_size s.table.live ≤ s.table.capacity
  pub count : insert_count s.table ≤ 2 ^ 62
  pub owes : Owes (encoder_of s.table s.ledger)
  pub few : FewWait s.most s.ledger.0 s.ledger.1
  pub cut : IsCut (held_bytes s.progress)
  pub streams : AreStreams s.ledger.1
  pub bounds : IsWideBounds (bounds_of s)

-- these bytes begin with those of an encoder
pub record IsStored (s : State) (bytes : List ℕ) : Type 0 where
  pub is : IsEncoder s
  pub rest : List ℕ
  pub bytes_are : bytes ≡ encoder_bytes s ++ rest

-- they begin with those of none
abbrev pub IsNone : List ℕ → Type 0
IsNone bytes = (s : State) → ¬ (IsStored s bytes)

-- ---- while they are read

-- this is the number of the error, or 0
abbrev pub has_fault : ℕ → Option DecoderStreamError → Type 0
has_fault n None = n ≡ 0
has_fault n (Some e) = n ≡ error_number e

-- the encoder of these parts
abbrev pub made_of :
    Bounds → Table → Ledger → Option DecoderStreamError → (held : List ℕ) → State
made_of b t l f held = record {
  table = t;
  ledger = l;
  progress = progress_of f held;
  most = b.most;
  policy =
      record { largest = b.largest; reserved = b.reserved; unacknowledged = b.unacknowledged };
}

-- the numbers of a section fit words
abbrev pub IsWideSent : Sent → Type 0
IsWideSent sent = (sent.stream < 2 ^ 64) × (sent.required < 2 ^ 64) × (sent.lowest < 2 ^ 64)

-- a section refers to entries from a place on, and below a count
abbrev pub AreWithin : (place count : ℕ) → Sent → Type 0
AreWithin place count sent =
    (place ≤ sent.lowest) × (sent.lowest < sent.required) × (sent.required ≤ count)

-- the numbers of an encoder are at the start of bytes, then what it holds, and other bytes
pub record HasFront (bytes : List ℕ) (h : Head) (b : Bounds) (held rest : List ℕ) : Type 0 where
  pub head : IsHead h
  pub wide : IsWide h
  pub received : h.dropped ≤ h.known
  pub fault : h.fault ≤ 5
  pub bounds : IsWideBounds b
  pub size : length held ≡ h.held
  pub bytes_are : bytes ≡ head_bytes h ++ (bounds_bytes b ++ (held ++ rest))

-- the sections of an encoder are at the start of bytes, and then other bytes
pub record HasLedger (h : Head) (sections : ℕ) (bytes : List ℕ) (ledger : Ledger) (rest : List ℕ) :
    Type 0 where
  pub known : ledger.0 ≡ h.known
  pub count : length ledger.1 ≡ sections
  pub kept : AreKept h.dropped (h.dropped + h.count) ledger.1
  pub streams : AreStreams ledger.1
  pub bytes_are : bytes ≡ sections_bytes ledger.1 ++ rest

-- so many sections of no encoder are at the start of bytes
abbrev pub IsNoLedger : Head → ℕ → List ℕ → Type 0
IsNoLedger h sections bytes = (ledger : Ledger) (rest : List ℕ) → ¬ (HasLedger h sections bytes ledger rest)
