-- QPACK's encoder in memory of the caller (RFC 9204, sections 2.1 and 4.3): its bytes, in an array with room
-- for each of its states, and what calls with it do.
use Rattle.std.specs.Prelude.{◌≡◌, ◌≢◌, ◌⊎◌, ℕ, ◌-◌, ◌^◌, ◌<◌, ◌≤◌, ◌==◌, nat_lt, min, if◌then◌else◌, true, false, List, [], length, drop, None, Ok, Err}
use Rattle.wtp_fields.specs.Field.{Field}
use Rattle.wtp_dynamic.specs.declared.error.DecoderStreamError.{DecoderStreamError}
use Rattle.wtp_dynamic.specs.declared.error.DecoderStreamError.TheVariants as stream
use Rattle.wtp_dynamic.specs.Table.{empty_table}
use Rattle.wtp_dynamic.specs.Writing.{Sets, written}
use Rattle.wtp_dynamic_encoder.specs.declared.proposal.Policy.{Policy}
use Rattle.wtp_dynamic_encoder.specs.Encoding.{State, Runs, is_unused, first_sections, PieceRead}
use Rattle.wtp_dynamic_encoder.specs.Stored.{encoder_bytes, most_stored, IsEncoder, IsStored}
use Rattle.wtp_sending.specs.declared.error.SendError.{SendError}
use Rattle.wtp_sending.specs.declared.error.SendError.TheVariants as error
use Rattle.wtp_sending.specs.declared.message.Sending.{Sending}
use Rattle.wtp_sending.specs.Encoded.{IsEncoded, SendsHeadAs, SendsTrailersAs, RefusesHeadersWith, RefusesTrailersWith}
use Rattle.wt_c.specs.declared.sending.WtSending.{WtSending}
use Rattle.wt_c.specs.declared.sending.encoder.WtPolicy.{WtPolicy}
use Rattle.wt_c.specs.declared.sending.messages.Section.{Section}
use Rattle.wt_c.specs.declared.sending.messages.Section.TheVariants as section
use Rattle.wt_c.specs.Output.{WritesPrefix, TooShort}
use Rattle.wt_c.specs.Sending.{HasSending, reason_number}

-- ---- the array

-- So many bytes have room for each state of this encoder: for its capacity, and for as many sections as
-- its policy allows.
pub record IsRoomy (s : State) (size : ℕ) : Type 0 where
  pub sections : length s.ledger.1 ≤ s.policy.unacknowledged
  pub room : most_stored s.table.capacity s.policy.unacknowledged ≤ size

-- an encoder is at the start of these bytes, which have room for each state of it
pub record HasEncoder (s : State) (bytes : List ℕ) : Type 0 where
  pub stored : IsStored s bytes
  pub roomy : IsRoomy s (length bytes)

-- no encoder is at the start of these bytes, with room for each state of it
pub record IsNoEncoder (bytes : List ℕ) : Type 0 where
  pub none : (s : State) → ¬ (HasEncoder s bytes)

-- these are the bytes of an encoder
pub record AreBytesOf (s : State) (bytes : List ℕ) : Type 0 where
  pub is : IsEncoder s
  pub few : length bytes < most_stored s.table.capacity (length s.ledger.1)
  pub bytes_are : bytes ≡ encoder_bytes s

-- an encoder was put to the start of bytes, and what follows it is unchanged
pub record PutsEncoder (s : State) (old new : List ℕ) : Type 0 where
  pub has : HasEncoder s new
  pub rest_is : drop (length (encoder_bytes s)) new ≡ drop (length (encoder_bytes s)) old

-- ---- a new encoder, and its limits

abbrev pub policy_of : WtPolicy → Policy
policy_of w = record { largest = w.largest; reserved = w.reserved; unacknowledged = w.unacknowledged }

-- an encoder without a table
abbrev pub new_encoder : WtPolicy → State
new_encoder w = record {
  table = empty_table 0;
  ledger = (0, []);
  progress = Runs [];
  most = 0;
  policy = policy_of w;
}

-- the limit of a table: 0, which allows none, for one that no table can have
abbrev pub limit_for : ℕ → ℕ
limit_for limit = if nat_lt limit (2 ^ 60) then limit else 0

-- the largest capacity that the limit and an array of so many bytes allow
abbrev pub capacity_for : (limit size : ℕ) → State → ℕ
capacity_for limit size s = min (limit_for limit) (size - most_stored 0 s.policy.unacknowledged)

-- with this limit and capacity, and so many streams that may be blocked
abbrev pub with_limits : (limit blocked capacity : ℕ) → State → State
with_limits limit blocked capacity s = record s {
  table = record (empty_table (limit_for limit)) { capacity = capacity };
  most = blocked;
}

-- the instruction that sets a capacity (RFC 9204, section 4.3.1), if it is not 0
abbrev pub capacity_order : ℕ → List ℕ
capacity_order capacity = if capacity == 0 then [] else written (Sets capacity)

-- the encoder is used: it has a table, entries, sections or acknowledgments
pub record IsUsedIn (bytes : List ℕ) : Type 0 where
  pub s : State
  pub has : HasEncoder s bytes
  pub used : is_unused s.table s.ledger ≡ false

-- the limits were set, and the largest capacity was taken, with its instruction
pub record TakesLimits (limit blocked : ℕ) (encoder encoder_after out out_after : List ℕ) (used : ℕ) :
    Type 0 where
  pub s : State
  pub has : HasEncoder s encoder
  pub unused : is_unused s.table s.ledger ≡ true
  pub written : WritesPrefix (capacity_order (capacity_for limit (length encoder) s)) out out_after used
  pub after : PutsEncoder (with_limits limit blocked (capacity_for limit (length encoder) s) s) encoder
      encoder_after

-- there is no room for the instruction that sets the capacity
pub record LacksRoomForLimits (limit : ℕ) (encoder out out_after : List ℕ) (needed : ℕ) : Type 0
  where
    pub s : State
    pub has : HasEncoder s encoder
    pub unused : is_unused s.table s.ledger ≡ true
    pub short : TooShort (capacity_order (capacity_for limit (length encoder) s)) out out_after needed

-- ---- the decoder stream

-- these bytes of the decoder stream were read
pub record ReadsPiece (piece old new : List ℕ) : Type 0 where
  pub s : State
  pub t : State
  pub has : HasEncoder s old
  pub read : PieceRead s.progress piece s t (Ok tt)
  pub after : PutsEncoder t old new

-- these bytes of the decoder stream break a rule, or earlier ones did
pub record RefusesPiece (piece bytes : List ℕ) : Type 0 where
  pub s : State
  pub t : State
  pub e : DecoderStreamError
  pub has : HasEncoder s bytes
  pub read : PieceRead s.progress piece s t (Err e)
  pub fault : e ≢ stream.Memory

-- ---- sections that are not acknowledged

-- so many sections of the encoder in these bytes are not acknowledged
pub record CountsSections (bytes : List ℕ) (count : ℕ) : Type 0 where
  pub s : State
  pub has : HasEncoder s bytes
  pub counts : count ≡ length s.ledger.1

-- of the sections that are not acknowledged, only the oldest so many are kept
pub record TakesBack (count : ℕ) (old new : List ℕ) : Type 0 where
  pub s : State
  pub has : HasEncoder s old
  pub after : PutsEncoder (record s { ledger = first_sections count s.ledger }) old new

-- ---- sections of messages

-- the fields are sent in this section
abbrev pub sends_as : Section → List Field → List ℕ → Sending → Sending → Type 0
sends_as section.Head fields bytes s t = SendsHeadAs bytes s fields t
sends_as section.Trailers fields bytes s t = SendsTrailersAs bytes s fields t

-- why they are not, wherever the section is written, and what the encoder would be then
abbrev pub refuses_with :
    Section → List Field → Sending → (old new : State) → (after : List ℕ) → SendError → Type 0
refuses_with section.Head fields s old new after e =
    RefusesHeadersWith s fields old new [] after None e
refuses_with section.Trailers fields s old new after e =
    RefusesTrailersWith s fields old new [] after None e

-- The fields were encoded in this section, with these instructions, and the call leads from the state of
-- the old struct, and from the encoder of the old bytes, to those of the new ones.
pub record LeadsWith (leads : List ℕ → Sending → Sending → Type 0) (fields : List Field)
    (old new : WtSending) (encoder encoder_after instructions bytes : List ℕ) : Type 0 where
  pub s : Sending
  pub t : Sending
  pub d : State
  pub e : State
  pub old_is : HasSending s old
  pub has : HasEncoder d encoder
  pub steps : leads bytes s t
  pub encoded : IsEncoded s.id fields d e [] instructions bytes
  pub new_is : HasSending t new
  pub after : PutsEncoder e encoder encoder_after

-- the call may be made, and would write this section and these instructions
pub record MayLeadWith (leads : List ℕ → Sending → Sending → Type 0) (fields : List Field)
    (old : WtSending) (encoder instructions bytes : List ℕ) : Type 0 where
  pub s : Sending
  pub t : Sending
  pub d : State
  pub e : State
  pub old_is : HasSending s old
  pub has : HasEncoder d encoder
  pub steps : leads bytes s t
  pub encoded : IsEncoded s.id fields d e [] instructions bytes

-- the call is refused, and the number is that of the reason
pub record RefusesWith (refuses : Sending → (old new : State) → List ℕ → SendError → Type 0)
    (old : WtSending) (encoder : List ℕ) (why : ℕ) : Type 0 where
  pub s : Sending
  pub d : State
  pub e : State
  pub instructions : List ℕ
  pub reason : SendError
  pub old_is : HasSending s old
  pub has : HasEncoder d encoder
  pub refused : refuses s d e instructions reason
  pub other : reason ≢ error.Memory
  pub why_is : why ≡ reason_number reason

-- one of two outputs is too short, and `first_needed` and `second_needed` are the sizes that are needed
pub record OneTooShort (first second first_old first_new second_old second_new : List ℕ)
    (first_needed second_needed : ℕ) : Type 0 where
  pub short : (length first_old < length first) ⊎ (length second_old < length second)
  pub first_is : first_needed ≡ length first
  pub second_is : second_needed ≡ length second
  pub first_same : first_new ≡ first_old
  pub second_same : second_new ≡ second_old
