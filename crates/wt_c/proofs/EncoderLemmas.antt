-- Encoders in memory of the caller: their bytes, those of none, and an encoder that is put to its place.
use Rattle.std.proofs.Common.{◌≡◌, ℕ, true, ◌+◌, ◌-◌, ◌≤◌, max, List, [], ◌++◌, length, drop, Ok, refl, sym, ap, subst, ◌∙◌, arith, length-append, length-drop}
use Rattle.std.proofs.lemmas.List.{drop_at}
use Rattle.wtp_dynamic.specs.Table.{insert_count}
use Rattle.wtp_dynamic_encoder.specs.Encoding.{State, Progress, Runs, Failed, is_unused, PieceRead}
use Rattle.wtp_dynamic_encoder.specs.Stored.{IsStored, IsNone}
use Rattle.wtp_dynamic_encoder.proofs.Remaking.{one_encoder}
use Rattle.wtp_dynamic_encoder.proofs.Rooms.{capacity_stays, sent_few, stands_fewer}
use Rattle.wtp_fields.specs.Field.{Field}
use Rattle.wtp_sending.specs.declared.message.Sending.{Sending}
use Rattle.wtp_sending.specs.Encoded.{IsEncoded, sent_in}
use Rattle.wt_c.specs.declared.sending.WtSending.{WtSending}
use Rattle.wt_c.specs.declared.sending.messages.Section.{Section}
use Rattle.wt_c.specs.Sending.{sending_with, HasSending}
use Rattle.wt_c.specs.Output.{WritesPrefix}
use Rattle.wt_c.specs.Encoders.{IsRoomy, HasEncoder, IsNoEncoder, AreBytesOf, PutsEncoder, capacity_for, with_limits, capacity_order, TakesLimits, ReadsPiece, sends_as, LeadsWith}

-- ---- bytes that are read

pub no_encoder : (bytes : List ℕ) → IsNone bytes → IsNoEncoder bytes
no_encoder bytes none = record { none = λ s has. none s has.stored }

pub no_room : (s : State) (bytes : List ℕ) → IsStored s bytes → ¬ (IsRoomy s (length bytes)) → IsNoEncoder bytes
no_room s bytes stored short = record {
  none = λ t has. short (subst (λ (x : State). IsRoomy x (length bytes)) (one_encoder t s bytes has.stored stored) has.roomy);
}

-- ---- bytes that are written

pub bytes_fit : (s : State) (bytes : List ℕ) (n : ℕ) → AreBytesOf s bytes → IsRoomy s n → length bytes ≤ n
bytes_fit s bytes n are roomy = omega (arith, are.few, roomy.sections, roomy.room)

pub puts_encoder : (s : State) (bytes old new : List ℕ) → AreBytesOf s bytes → IsRoomy s (length old) → new ≡ bytes ++ drop (length bytes) old → PutsEncoder s old new
puts_encoder s bytes old new are roomy e = record {
  has = record {
    stored = record {
      is = are.is;
      rest = drop (length bytes) old;
      bytes_are = e ∙ ap (λ (z : List ℕ). z ++ drop (length bytes) old) are.bytes_are;
    };
    roomy = record {
      sections = roomy.sections;
      room = omega (arith, ap (λ (z : List ℕ). length z) e, length-append bytes (drop (length bytes) old), length-drop (length bytes) old, bytes_fit s bytes (length old) are roomy, roomy.room);
    };
  };
  rest_is = rw (sym are.bytes_are, e) (drop_at bytes (drop (length bytes) old) (length bytes) refl);
}

-- ---- limits

pub limits_roomy : (s : State) (limit blocked n : ℕ) → IsRoomy s n → IsRoomy (with_limits limit blocked (capacity_for limit n s) s) n
limits_roomy s limit blocked n roomy = record {
  sections = roomy.sections;
  room = omega (arith, roomy.room);
}

-- ---- the decoder stream

pub piece_roomy : (p : Progress) (s t : State) (piece : List ℕ) (n : ℕ) → PieceRead p piece s t (Ok tt) → IsRoomy s n → IsRoomy t n
piece_roomy (Failed e) s t piece n read roomy = absurd (cc read.1)
piece_roomy (Runs held) s t piece n (left, stands, same) roomy = record {
  sections = omega (arith, stands_fewer (insert_count s.table) s.ledger (held ++ piece) t.ledger left stands, roomy.sections, ap (λ (x : State). x.policy.unacknowledged) same);
  room = omega (arith, roomy.room, ap (λ (x : State). x.policy.unacknowledged) same, ap (λ (x : State). x.table.capacity) same);
}

-- ---- sections

pub encoded_roomy : (stream : ℕ) (fields : List Field) (d e : State) (before after section : List ℕ) (n : ℕ) → IsEncoded stream fields d e before after section → IsRoomy d n → IsRoomy e n
encoded_roomy stream fields d e before after section n encoded roomy =
    let policy : e.policy ≡ d.policy = encoded.encodes.3 in
    let capacity : e.table.capacity ≡ d.table.capacity = capacity_stays d.policy encoded.proposals d.ledger d.table e.table before after encoded.encodes.4.0 in
    let few : length e.ledger.1 ≤ max (length d.ledger.1) d.policy.unacknowledged = sent_few stream d.most d.policy encoded.proposals e.table d.ledger e.ledger [] section (sent_in stream fields d e before after section encoded) in
    record {
      sections = omega (arith, few, roomy.sections, ap (λ x. x.unacknowledged) policy);
      room = omega (arith, roomy.room, capacity, ap (λ x. x.unacknowledged) policy);
    }

-- ---- what calls do

pub takes_limits : (s t : State) (limit blocked : ℕ) (old bytes new out out_after order : List ℕ) (used : ℕ) → HasEncoder s old → is_unused s.table s.ledger ≡ true
    → order ≡ capacity_order (capacity_for limit (length old) s) → t ≡ with_limits limit blocked (capacity_for limit (length old) s) s → AreBytesOf t bytes
    → new ≡ bytes ++ drop (length bytes) old → WritesPrefix order out out_after used → TakesLimits limit blocked old new out out_after used
takes_limits s t limit blocked old bytes new out out_after order used has unused said same are put written = record {
  s = s;
  has = has;
  unused = unused;
  written = rw (sym said) written;
  after = puts_encoder (with_limits limit blocked (capacity_for limit (length old) s) s) bytes old new (rw (sym same) are) (limits_roomy s limit blocked (length old) has.roomy) put;
}

pub reads_piece : (s t : State) (piece old new : List ℕ) → HasEncoder s old → PieceRead s.progress piece s t (Ok tt) → PutsEncoder t old new → ReadsPiece piece old new
reads_piece s t piece old new has read after = record { s = s; t = t; has = has; read = read; after = after }

pub leads_with : (sec : Section) (list lines : List Field) (s t : Sending) (d e : State) (old new : WtSending) (a b bytes orders section : List ℕ) → list ≡ lines → HasSending s old → HasEncoder d a
    → sends_as sec list section s t → IsEncoded s.id list d e [] orders section → new ≡ sending_with t → AreBytesOf e bytes → b ≡ bytes ++ drop (length bytes) a
    → LeadsWith (sends_as sec lines) lines old new a b orders section
leads_with sec list lines s t d e old new a b bytes orders section same old_is has steps encoded new_is are put = rw (sym same) (record {
  s = s;
  t = t;
  d = d;
  e = e;
  old_is = old_is;
  has = has;
  steps = steps;
  encoded = encoded;
  new_is = sym new_is;
  after = puts_encoder e bytes a b are (encoded_roomy s.id list d e [] orders section (length a) encoded has.roomy) put;
})
