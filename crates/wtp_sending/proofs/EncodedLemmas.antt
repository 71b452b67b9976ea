-- What an encoder is after a section that was written, or was not.
use Rattle.std.proofs.Common.{◌≡◌, ◌⊎◌, ◌^◌, ◌<◌, ◌≤◌, ℕ, zero, suc, List, [], ◌∷◌, length, map, take, Option, Err, refl, sym, ap, subst}
use Rattle.wtp_qpack.specs.Field.{Field}
use Rattle.wtp_dynamic.specs.Table.{Table, Later, insert_count, table_size}
use Rattle.wtp_dynamic_encoder.specs.declared.proposal.Policy.{Policy}
use Rattle.wtp_dynamic_encoder.specs.declared.proposal.Proposal.{Proposal}
use Rattle.wtp_dynamic.specs.Answer.{HasFields}
use Rattle.wtp_dynamic.specs.EncoderState.{Encoder, Owes, IsOpen}
use Rattle.wtp_dynamic_encoder.specs.declared.proposal.Indexing.{Indexing}
use Rattle.wtp_dynamic_encoder.specs.Acknowledging.{Ledger}
use Rattle.wtp_dynamic_encoder.specs.Choosing.{field_of}
use Rattle.wtp_dynamic_encoder.proofs.Read.{sent_reads}
use Rattle.wtp_dynamic_encoder.specs.Encoding.{State, Progress, Encodes, needed, sent_of, first_sections}
use Rattle.wtp_dynamic_encoder.proofs.Kept.{opened_first}
use Rattle.wtp_sending.specs.declared.error.SendError.{SendError}
use Rattle.wtp_sending.specs.declared.error.SendError.TheVariants as error
use Rattle.wtp_sending.specs.Encoded.{proposed, with_indexing, AreProposals, done, IsEncoded, sent_in, with_ledger, IsTakenBack, IsStopped, LacksFrame, LacksEncoded}

-- ---- proposals

-- the first so many
are_first : (n : ℕ) (fields : List Field) (ps : List Proposal) → AreProposals fields ps → AreProposals (take (length (take n ps)) fields) (take n ps)
are_first zero [] [] are = refl
are_first zero [] (p ∷ ps) are = refl
are_first zero (f ∷ fields) [] are = refl
are_first zero (f ∷ fields) (p ∷ ps) are = refl
are_first (suc n) [] [] are = refl
are_first (suc n) (f ∷ fields) [] are = refl
are_first (suc n) [] (p ∷ ps) are = cc are
are_first (suc n) (f ∷ fields) (p ∷ ps) are =
    let first : proposed p ≡ with_indexing f = cc are in
    let others : AreProposals fields ps = cc are in
    let rest = are_first n fields ps others in
    cc (first, rest)

are_all : (fields : List Field) (ps : List Proposal) → AreProposals fields ps → AreProposals (take (length ps) fields) ps
are_all [] [] are = refl
are_all (f ∷ fields) [] are = cc
are_all [] (p ∷ ps) are = cc are
are_all (f ∷ fields) (p ∷ ps) are =
    let first : proposed p ≡ with_indexing f = cc are in
    let others : AreProposals fields ps = cc are in
    let rest = are_all fields ps others in
    cc (first, rest)

-- their fields are those that were proposed
fields_of : (fields : List Field) (ps : List Proposal) → AreProposals fields ps → map field_of ps ≡ fields
fields_of [] [] are = refl
fields_of (f ∷ fields) [] are = cc are
fields_of [] (p ∷ ps) are = cc are
fields_of (f ∷ fields) (p ∷ ps) are =
    let first : proposed p ≡ with_indexing f = cc are in
    let others : AreProposals fields ps = cc are in
    let this : field_of p ≡ f = ap (λ (x : Field × Indexing). x.0) first in
    let rest : map field_of ps ≡ fields = fields_of fields ps others in
    cc (this, rest)

-- ---- the encoder

abbrev state_of : Table → Ledger → Progress → ℕ → Policy → State
state_of t l p m q = record { table = t; ledger = l; progress = p; most = m; policy = q }

state_same : (t : Table) (l k : Ledger) (p q : Progress) (m n : ℕ) (a b : Policy) → l ≡ k → p ≡ q → m ≡ n → a ≡ b → state_of t l p m a ≡ state_of t k q n b
state_same t l k p q m n a b ledger progress most policy = cc

-- the encoder had no memory
pub stopped_encoder : {E : Type 0} (stream : ℕ) (fields : List Field) (ps : List Proposal) (old new : State) (before after : List ℕ) (section later : List ℕ) (e : E)
    → AreProposals fields ps → Encodes stream ps old new before after section later (Err e) → IsStopped fields old new before after
stopped_encoder stream fields ps old new before after section later e are (orders, progress, most, policy, (ledger, unwritten, (count, inserts, first))) = record {
  offered = take count ps;
  are = are_first count fields ps are;
  inserts = inserts;
  orders = orders;
  same = state_same new.table new.ledger old.ledger new.progress old.progress new.most old.most new.policy old.policy ledger progress most policy;
}

-- the section was taken back
abbrev TakesBack : (old mid new : State) → Type 0
TakesBack old mid new = new ≡ with_ledger mid (first_sections (length old.ledger.1) mid.ledger)

pub taken_back : (stream : ℕ) (fields : List Field) (ps : List Proposal) (old mid new : State) (before after section : List ℕ)
    → AreProposals fields ps → Encodes stream ps old mid before after [] section done → TakesBack old mid new → IsTakenBack stream fields old new before after section
taken_back stream fields ps old mid new before after section are (orders, progress, most, policy, (offered, sent)) is =
    subst (λ (s : State). IsTakenBack stream fields old s before after section) (sym is) (
      mid.ledger,
      record { proposals = ps; are = are; encodes = (orders, progress, most, policy, (offered, sent)) },
      opened_first (sent_of stream sent.plans sent.lowest) old.ledger mid.ledger sent.ledger,
    )

pub stopped_back : (stream : ℕ) (fields : List Field) (ps : List Proposal) (old mid new : State) (before after section : List ℕ)
    → AreProposals fields ps → Encodes stream ps old mid before after [] section done → TakesBack old mid new → IsStopped fields old new before after
stopped_back stream fields ps old mid new before after section are (orders, progress, most, policy, (offered, sent)) is =
    subst (λ (s : State). IsStopped fields old s before after) (sym is) (record {
      offered = ps;
      are = are_all fields ps are;
      inserts = offered;
      orders = orders;
      same = state_same mid.table (first_sections (length old.ledger.1) mid.ledger) old.ledger mid.progress old.progress mid.most old.most mid.policy old.policy
          (opened_first (sent_of stream sent.plans sent.lowest) old.ledger mid.ledger sent.ledger) progress most policy;
    })

-- why the frame was not written
pub lacks_encoded : (stream : ℕ) (fields : List Field) (ps : List Proposal) (old mid new : State) (before after section : List ℕ) (room : Option (List ℕ)) (e : SendError)
    → AreProposals fields ps → Encodes stream ps old mid before after [] section done → TakesBack old mid new → LacksFrame section room e → LacksEncoded stream fields old new before after room e
lacks_encoded stream fields ps old mid new before after section room error.TooLarge are encodes is lacks =
    (section, taken_back stream fields ps old mid new before after section are encodes is, lacks)
lacks_encoded stream fields ps old mid new before after section room error.EndOfBuffer are encodes is lacks =
    (section, taken_back stream fields ps old mid new before after section are encodes is, lacks)
lacks_encoded stream fields ps old mid new before after section room error.Memory are encodes is lacks =
    stopped_back stream fields ps old mid new before after section are encodes is
lacks_encoded stream fields ps old mid new before after section room error.Unexpected are encodes is lacks = absurd lacks
lacks_encoded stream fields ps old mid new before after section room error.DataMissing are encodes is lacks = absurd lacks
lacks_encoded stream fields ps old mid new before after section room error.DataExceeded are encodes is lacks = absurd lacks
lacks_encoded stream fields ps old mid new before after section room error.EmptyData are encodes is lacks = absurd lacks
lacks_encoded stream fields ps old mid new before after section room error.TooManyInterim are encodes is lacks = absurd lacks
lacks_encoded stream fields ps old mid new before after section room error.InvalidId are encodes is lacks = absurd lacks
lacks_encoded stream fields ps old mid new before after section room error.IdRises are encodes is lacks = absurd lacks
lacks_encoded stream fields ps old mid new before after section room error.Unsupported are encodes is lacks = absurd lacks
lacks_encoded stream fields ps old mid new before after section room (error.Malformed rule) are encodes is lacks = absurd lacks

-- ---- what a decoder reads

pub encoded_reads : (stream : ℕ) (fields : List Field) (old new : State) (before after section : List ℕ) (encoded : IsEncoded stream fields old new before after section) (now : Encoder) (decoder : Table)
    → let sent = sent_in stream fields old new before after section encoded in
    Owes now → (needed sent.plans ≡ 0) ⊎ IsOpen (sent_of stream sent.plans sent.lowest) now.sections → Later new.table now.table → Later decoder now.table → table_size now.table.live ≤ now.table.limit
    → now.known ≤ insert_count decoder → needed sent.plans ≤ insert_count decoder → insert_count new.table < 2 ^ 62 → decoder.limit < 2 ^ 62 → HasFields decoder section fields
encoded_reads stream fields old new before after section encoded now decoder owes state later behind fits known free small limited =
    subst (λ (z : List Field). HasFields decoder section z) (fields_of fields encoded.proposals encoded.are)
    (sent_reads stream old.most old.policy encoded.proposals new.table old.ledger new.ledger section (sent_in stream fields old new before after section encoded) now decoder owes state later behind fits known free small limited)
