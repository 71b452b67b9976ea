-- A field section that an encoder wrote, at a decoder whose table follows that of the encoder.
use Rattle.std.proofs.Common.{◌≡◌, ℕ, zero, suc, ◌*◌, ◌/◌, ◌^◌, ◌<◌, ◌≤◌, inl, inr, true, false, List, [], ◌∷◌, ◌++◌, length, Option, Some, None, Result, Ok, refl, sym, ap, subst, ◌∙◌, arith, append_assoc}
use Rattle.std.specs.List.{flat_map}
use Rattle.std.proofs.lemmas.Bool.{lt-ltb, ne_eqb}
use Rattle.std.proofs.lemmas.Nat.{le-div}
use Rattle.std.proofs.Math.Nat.{mod-le}
use Rattle.wtp_qpack.specs.declared.qpack.DecodingError.{DecodingError}
use Rattle.wtp_qpack.specs.Field.{Field}
use Rattle.wtp_qpack.specs.FieldLine.{shortest_line}
use Rattle.wtp_qpack.specs.FieldSection.{shortest_section}
use Rattle.wtp_qpack.specs.Integer.{integer_at, shortest_int}
use Rattle.wtp_qpack.specs.StringLiteral.{flag_above}
use Rattle.wtp_qpack.proofs.IntegerLaws.{short_int}
use Rattle.wtp_fields.specs.FieldList.{list_size}
use Rattle.wtp_fields.proofs.FieldListWriting.{list_again}
use Rattle.wtp_dynamic.specs.declared.error.SectionError.{SectionError}
use Rattle.wtp_dynamic.specs.declared.ledger.Sent.{Sent}
use Rattle.wtp_dynamic.specs.Answer.{HasFields as TableHas}
use Rattle.wtp_dynamic.specs.EncoderState.{Encoder, AreKept, IsOpen}
use Rattle.wtp_dynamic.specs.InsertCount.{most_entries, encoded_count, IsMeant}
use Rattle.wtp_dynamic.specs.Plans.{Plan, planned_line, planned_prefix}
use Rattle.wtp_dynamic.specs.Section.{Prefix, prefix_at}
use Rattle.wtp_dynamic.specs.Table.{Table, insert_count, table_size}
use Rattle.wtp_dynamic.proofs.InsertCounts.{meant_by_encoded}
use Rattle.wtp_dynamic.proofs.Planned.{prefix_reads}
use Rattle.wtp_dynamic.proofs.Written.{int_again}
use Rattle.wtp_dynamic_decoder.specs.Decoder.{Decoder}
use Rattle.wtp_dynamic_encoder.specs.Encoding.{State, needed, base_for}
use Rattle.wtp_dynamic_fields.specs.Static.{NamesNoTable}
use Rattle.wtp_dynamic_fields.proofs.StaticSections.{read_static, lines_back}
use Rattle.wtp_frames.specs.declared.endpoint.Endpoint.{Endpoint}
use Rattle.wtp_sending.specs.declared.message.Sending.{Sending}
use Rattle.wtp_sending.specs.Encoded.{IsEncoded, sent_in, SendsHeadAs, SendsTrailersAs}
use Rattle.wtp_sending.specs.Message.{SendsHead, SendsTrailers}
use Rattle.wtp_sending.proofs.EncodedLemmas.{encoded_reads}
use Rattle.wtp_webtransport.specs.declared.connection.Connection.{Connection}
use Rattle.wtp_webtransport.specs.Prefix.{names_table}
use Rattle.wtp_webtransport.proofs.ContentLemmas.{static_prefix, count_names}
use Rattle.wtp_pairs.specs.Encoded.{need_of, HasFields, Alone, WithTable, IsReadable, IsAhead, IsUnderWay, needed_by}
use Rattle.wtp_pairs.specs.Messages.{IsWithin}

-- ---- sections that are written without a table

no_table : (fields : List Field) → names_table (shortest_section fields) ≡ false
unfolding shortest_section
no_table fields = static_prefix 0 (flat_map shortest_line fields) (omega arith)

pub alone : (e : Endpoint) (limit : ℕ) (c : Connection) (fields : List Field) → IsWithin e limit fields → IsReadable e limit c (shortest_section fields) fields None
alone e limit c fields within = record {
  encoded = within.encoded;
  has = Alone (no_table fields) (list_again limit fields within.octets within.decoded) refl;
}

pub head_alone : (old new : Sending) (fields : List Field) → SendsHead old fields new → SendsHeadAs (shortest_section fields) old fields new
head_alone old new fields h = record { at = h.at; fits = h.fits; framed = h.framed; head = h.head; others = h.others }

pub trailers_alone : (old new : Sending) (fields : List Field) → SendsTrailers old fields new → SendsTrailersAs (shortest_section fields) old fields new
trailers_alone old new fields h = record { at = h.at; none = h.none; fits = h.fits; framed = h.framed; are = h.are; others = h.others }

-- ---- a section that needs no insertions

zero_wire : (most count : ℕ) (lines : List ℕ) → planned_prefix most 0 (base_for 0 count) ++ lines ≡ 0 ∷ 0 ∷ lines
unfolding shortest_int
zero_wire most count lines = refl

zero_byte : (rest : List ℕ) → shortest_int 8 0 0 ++ rest ≡ 0 ∷ rest
unfolding shortest_int
zero_byte rest = refl

zero_flag : (lines : List ℕ) → flag_above 7 (0 ∷ lines) ≡ false
unfolding flag_above
zero_flag lines = refl

none_named : (section lines : List ℕ) → section ≡ 0 ∷ 0 ∷ lines → NamesNoTable section
none_named section lines e = λ count is. by_count count (count_is count is)
  where
    ok_same : (r : Result (ℕ × List ℕ) DecodingError) (x y : ℕ × List ℕ) → r ≡ Ok x → r ≡ Ok y → x ≡ y
    ok_same r x y a b = cc

    count_is : (count : ℕ × List ℕ) → integer_at 8 section ≡ Ok count → (0, 0 ∷ lines) ≡ count
    count_is count is =
        ok_same (integer_at 8 section) (0, 0 ∷ lines) count
        (ap (integer_at 8) (e ∙ sym (zero_byte (0 ∷ lines))) ∙ int_again 8 0 0 (0 ∷ lines) (omega arith)) is

    by_count : (count : ℕ × List ℕ) → (0, 0 ∷ lines) ≡ count → (count.0 ≡ 0) × (flag_above 7 count.1 ≡ false)
    by_count count same = (ap (λ (x : ℕ × List ℕ). x.0) (sym same), ap (λ (x : ℕ × List ℕ). flag_above 7 x.1) (sym same) ∙ zero_flag lines)

without : (limit : ℕ) (table : Option Decoder) (d : Table) (section lines : List ℕ) (fields : List Field) → section ≡ 0 ∷ 0 ∷ lines → list_size fields ≤ limit → TableHas d section fields → HasFields limit table section fields None
without limit table d section lines fields e small has =
    let none : NamesNoTable section = none_named section lines e in
    let static = read_static d section has.opens.prefix none has.opens.is in
    Alone (ap names_table e ∙ static_prefix 0 lines (omega arith)) (record {
      start = has.opens.prefix.lines;
      prefix = static.after;
      are = lines_back d has.opens.prefix has.opens.prefix.lines fields [] static.none has.are;
      fits = small;
    }) refl

-- ---- a section that needs some

few_entries : (entries : List Field) → length entries * 32 ≤ table_size entries
few_entries [] = omega arith
few_entries (e ∷ es) = omega (arith, few_entries es)

-- a section that is kept refers to a live entry
dropped_before : (place count : ℕ) (sections : List Sent) (sent : Sent) → AreKept place count sections → IsOpen sent sections → place < sent.required
dropped_before place count [] sent kept open_ = absurd open_
dropped_before place count (first ∷ others) sent (low, some, few, kept) (inl same) = omega (arith, low, some, ap (λ (s : Sent). s.required) same)
dropped_before place count (first ∷ others) sent (low, some, few, kept) (inr later) = dropped_before place count others sent kept later

count_meant : (now table : Table) (required : ℕ) → table.limit ≡ now.limit → table_size now.live ≤ now.limit → insert_count table ≤ insert_count now → now.dropped ≤ insert_count table → required ≤ insert_count now → now.dropped < required
    → IsMeant (most_entries table.limit) (insert_count table) (encoded_count (most_entries table.limit) required) required
count_meant now table required same fits behind known counted low =
    let live : length now.live ≤ table.limit / 32 = rw same (le-div (length now.live) now.limit 32 (omega arith) (omega (arith, fits, few_entries now.live))) in
    meant_by_encoded (table.limit / 32) (insert_count table) required (omega (arith, live, counted, low)) (omega (arith, live, known, counted)) (omega (arith, live, behind, low))

encoded_few : (most required : ℕ) → required < 2 ^ 62 → encoded_count most required < 2 ^ 64
encoded_few most zero few = omega arith
encoded_few most (suc n) few = rw (ne_eqb (suc n) 0 (omega arith)) (omega (arith, few, mod-le (suc n) (2 * most)))

encoded_some : (most required : ℕ) → 0 < required → 0 < encoded_count most required
encoded_some most zero some = absurd (omega (arith, some))
encoded_some most (suc n) some = rw (ne_eqb (suc n) 0 (omega arith)) (omega arith)

base_few : (required count : ℕ) → count < 2 ^ 62 → base_for required count < 2 ^ 64
base_few zero count few = omega arith
base_few (suc n) count few = rw (ne_eqb (suc n) 0 (omega arith)) (omega (arith, few))

names : (most required base : ℕ) (lines : List ℕ) → 0 < required → required < 2 ^ 62 → names_table (planned_prefix most required base ++ lines) ≡ true
names most required base lines some few =
    ap names_table (append_assoc (shortest_int 8 0 (encoded_count most required)) _ lines)
    ∙ count_names (encoded_count most required) (shortest_int 8 0 (encoded_count most required)) _ (short_int 8 0 (encoded_count most required) (encoded_few most required few)) (encoded_some most required some)

-- the prefix as the decoder reads it
record HasPrefix (table : Table) (section : List ℕ) (required : ℕ) : Type 0 where
  base : ℕ
  lines : List ℕ
  names : names_table section ≡ true
  is : prefix_at table section ≡ Ok (record { required = required; base = base; lines = lines })

prefix_is : (table : Table) (section : List ℕ) (required base : ℕ) (lines : List ℕ) → section ≡ planned_prefix (most_entries table.limit) required base ++ lines → 0 < required → required < 2 ^ 62 → base < 2 ^ 64
    → IsMeant (most_entries table.limit) (insert_count table) (encoded_count (most_entries table.limit) required) required → HasPrefix table section required
prefix_is table section required base lines e some few low meant = record {
  base = base;
  lines = lines;
  names = ap names_table e ∙ names (most_entries table.limit) required base lines some few;
  is = ap (prefix_at table) e ∙ prefix_reads table required base lines (encoded_few (most_entries table.limit) required few) low (omega (arith, few)) meant;
}

with_table : (limit : ℕ) (table : Option Decoder) (d : Decoder) (section : List ℕ) (fields : List Field) (required : ℕ) → table ≡ Some d → HasPrefix d.table section required → list_size fields ≤ limit → TableHas d.table section fields → HasFields limit table section fields (Some required)
with_table limit table d section fields required is p small has =
    WithTable d required is p.names (record {
      prefix = has.opens.prefix;
      is = has.opens.is;
      free = has.opens.free;
      needs = ap (λ (x : Prefix). x.required) (ok_same (prefix_at d.table section) (record { required = required; base = p.base; lines = p.lines }) has.opens.prefix p.is has.opens.is);
      give = record { are = has.are; fits = small };
    }) refl
  where
    ok_same : (r : Result Prefix SectionError) (x y : Prefix) → r ≡ Ok x → r ≡ Ok y → x ≡ y
    ok_same r x y a b = cc

-- ---- what an encoder wrote

wrote : (stream : ℕ) (fields : List Field) (old new : State) (before after section : List ℕ) (encoded : IsEncoded stream fields old new before after section) (now : Encoder) (table : Table) → IsUnderWay stream fields old new before after section encoded now table
    → let plans = (sent_in stream fields old new before after section encoded).plans in
    section ≡ planned_prefix (most_entries table.limit) (needed plans) (base_for (needed plans) (insert_count new.table)) ++ flat_map (planned_line (base_for (needed plans) (insert_count new.table))) plans
wrote stream fields old new before after section encoded now table u =
    let sent = sent_in stream fields old new before after section encoded in
    let base : ℕ = base_for (needed sent.plans) (insert_count new.table) in
    sent.bytes
    ∙ ap (λ (n : ℕ). planned_prefix (most_entries n) (needed sent.plans) base ++ flat_map (planned_line base) sent.plans) (sym u.later.limit ∙ u.behind.limit)

needs_some : (stream : ℕ) (fields : List Field) (old new : State) (before after section : List ℕ) (encoded : IsEncoded stream fields old new before after section) (now : Encoder) (table : Table) → IsUnderWay stream fields old new before after section encoded now table
    → 0 < needed_by stream fields old new before after section encoded → HasPrefix table section (needed_by stream fields old new before after section encoded)
needs_some stream fields old new before after section encoded now table u some =
    let sent = sent_in stream fields old new before after section encoded in
    let low : now.table.dropped < needed sent.plans = elim u.kept [
      | inl none ↦ absurd (omega (arith, some, none))
      | inr open_ ↦ dropped_before now.table.dropped (insert_count now.table) now.sections _ u.owes.kept open_
    ] in
    prefix_is table section (needed sent.plans) (base_for (needed sent.plans) (insert_count new.table)) _
    (wrote stream fields old new before after section encoded now table u) some (omega (arith, sent.few, u.few)) (base_few (needed sent.plans) (insert_count new.table) u.few)
    (count_meant now.table table (needed sent.plans) (sym u.behind.limit) u.fits u.behind.count (omega (arith, u.owes.received, u.known)) (omega (arith, sent.few, u.later.count)) low)

pub readable : (limit stream : ℕ) (fields : List Field) (old new : State) (before after section : List ℕ) (encoded : IsEncoded stream fields old new before after section) (now : Encoder) (table : Option Decoder) (d : Decoder) → table ≡ Some d → IsUnderWay stream fields old new before after section encoded now d.table
    → needed_by stream fields old new before after section encoded ≤ insert_count d.table → list_size fields ≤ limit → HasFields limit table section fields (need_of (needed_by stream fields old new before after section encoded))
readable limit stream fields old new before after section encoded now table d is u received small = by_need (needed plans) refl
  where
    plans : List Plan
    plans = (sent_in stream fields old new before after section encoded).plans

    has : TableHas d.table section fields
    has = encoded_reads stream fields old new before after section encoded now d.table u.owes u.kept u.later u.behind u.fits u.known received u.few u.limited

    by_need : (r : ℕ) → needed plans ≡ r → HasFields limit table section fields (need_of (needed plans))
    by_need zero e =
        let base : ℕ = base_for (needed plans) (insert_count new.table) in
        let zeros : section ≡ 0 ∷ 0 ∷ flat_map (planned_line base) plans =
        wrote stream fields old new before after section encoded now d.table u
        ∙ ap (λ (n : ℕ). planned_prefix (most_entries d.table.limit) n (base_for n (insert_count new.table)) ++ flat_map (planned_line base) plans) e
        ∙ zero_wire (most_entries d.table.limit) (insert_count new.table) (flat_map (planned_line base) plans) in
        subst (λ (n : ℕ). HasFields limit table section fields (need_of n)) (sym e) (without limit table d.table section (flat_map (planned_line base) plans) fields zeros small has)
    by_need (suc n) e =
        let some : 0 < needed plans = omega (arith, e) in
        let need : need_of (needed plans) ≡ Some (needed plans) = rw (ne_eqb (needed plans) 0 (omega (arith, e))) refl in
        rw need (with_table limit table d section fields (needed plans) is (needs_some stream fields old new before after section encoded now d.table u some) small has)

pub ahead : (e : Endpoint) (c : Connection) (d : Decoder) (stream : ℕ) (fields : List Field) (old new : State) (before after section : List ℕ) (encoded : IsEncoded stream fields old new before after section) (now : Encoder) → c.decoder ≡ Some d → IsUnderWay stream fields old new before after section encoded now d.table
    → insert_count d.table < needed_by stream fields old new before after section encoded → length section ≤ e.max_section → IsAhead e c section (needed_by stream fields old new before after section encoded)
ahead e c d stream fields old new before after section encoded now is u lacks size =
    let p = needs_some stream fields old new before after section encoded now d.table u (omega (arith, lacks)) in
    record {
      encoded = size;
      decoder = d;
      is = is;
      names = p.names;
      blocked = record {
        prefix = record { required = needed_by stream fields old new before after section encoded; base = p.base; lines = p.lines };
        is = p.is;
        needs = refl;
        blocked = lt-ltb (insert_count d.table) (needed_by stream fields old new before after section encoded) lacks;
      };
    }
