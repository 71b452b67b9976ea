-- A decoder in bytes, as a caller in C keeps it: words of 8 bytes, the lowest first, then the bytes of
-- an instruction that is cut, and then the entries of the table, the oldest first.
use Rattle.std.specs.Prelude.{◌≡◌, ℕ, ◌+◌, ◌^◌, ◌<◌, ◌≤◌, List, [], ◌++◌, length, Option, Some, None}
use Rattle.wtp_dynamic.specs.declared.error.EncoderStreamError.{EncoderStreamError}
use Rattle.wtp_dynamic.specs.declared.error.EncoderStreamError.TheVariants as fault
use Rattle.wtp_dynamic.specs.Front.{most_bytes}
use Rattle.wtp_dynamic.specs.Stream.{IsCut}
use Rattle.wtp_dynamic.specs.Table.{insert_count, table_size}
use Rattle.wtp_dynamic.specs.declared.stored.Head.{Head}
use Rattle.wtp_dynamic.specs.Stored.{head_bytes, entries_bytes}
use Rattle.wtp_dynamic_decoder.specs.Decoder.{Decoder, Progress, Runs, Failed}

-- ---- the bytes

abbrev pub error_number : EncoderStreamError → ℕ
error_number fault.IntegerOverflow = 1
error_number fault.InstructionTooLong = 2
error_number fault.InvalidString = 3
error_number fault.IndexNotFound = 4
error_number fault.CapacityAboveLimit = 5
error_number fault.EntryTooLarge = 6
error_number fault.EntryNotFound = 7
error_number fault.TooManyInsertions = 8
error_number fault.Memory = 9

-- the error at which the encoder stream ended, or 0
abbrev pub fault_number : Progress → ℕ
fault_number (Runs held) = 0
fault_number (Failed e) = error_number e

-- the bytes of a cut instruction: none once the stream has ended
abbrev pub held_bytes : Progress → List ℕ
held_bytes (Runs held) = held
held_bytes (Failed e) = []

abbrev pub head_of : Decoder → Head
head_of d = record {
  limit = d.table.limit;
  capacity = d.table.capacity;
  dropped = d.table.dropped;
  known = d.known;
  fault = fault_number d.progress;
  held = length (held_bytes d.progress);
  count = length d.table.live;
}

abbrev pub decoder_bytes : Decoder → List ℕ
decoder_bytes d =
    head_bytes (head_of d) ++ (held_bytes d.progress ++ entries_bytes d.table.live)

-- how many they are at most, by the limit of the capacity: 7 words, what is held, and the entries,
-- each of which the capacity counts with 32 bytes for its two words
abbrev pub most_stored : ℕ → ℕ
most_stored limit = 56 + (most_bytes limit + limit)

-- ---- which decoders are stored

-- What is true of each decoder (RFC 9204, section 3.2) of which no stream waits and none may, since
-- its bytes have neither: a connection has these streams wait elsewhere.
pub record IsDecoder (d : Decoder) : Type 0 where
  pub limit : d.table.limit < 2 ^ 60
  pub capacity : d.table.capacity ≤ d.table.limit
  pub size : table_size d.table.live ≤ d.table.capacity
  pub count : insert_count d.table ≤ 2 ^ 62
  pub known : d.known ≤ insert_count d.table
  pub cut : IsCut d.table (held_bytes d.progress)
  pub waiting : d.waiting ≡ []
  pub most : d.most ≡ 0

-- these bytes begin with those of a decoder
pub record IsStored (d : Decoder) (bytes : List ℕ) : Type 0 where
  pub is : IsDecoder d
  pub rest : List ℕ
  pub bytes_are : bytes ≡ decoder_bytes d ++ rest

-- they begin with those of none
abbrev pub IsNone : List ℕ → Type 0
IsNone bytes = (d : Decoder) → ¬ (IsStored d bytes)

-- ---- while they are read

-- this is the number of the error, or 0
abbrev pub has_fault : ℕ → Option EncoderStreamError → Type 0
has_fault n None = n ≡ 0
has_fault n (Some e) = n ≡ error_number e
