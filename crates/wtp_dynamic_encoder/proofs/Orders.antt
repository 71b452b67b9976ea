-- The orders of an encoder, one after the other.
use Rattle.std.proofs.Common.{◌≡◌, ℕ, ◌+◌, ◌-◌, ◌*◌, ◌^◌, ◌<◌, ◌≤◌, nat_lt, nat_le, inl, inr, Bool, true, false, ◌&&◌, List, [], ◌∷◌, ◌++◌, length, take, drop, refl, sym, ◌∙◌, ap, subst, arith, append-nil, append_assoc, length-append, Some, Result, Ok, Err, zero, suc, ◌/◌}
use Rattle.std.specs.List.{flat_map}
use Rattle.std.proofs.lemmas.Bool.{lt-leb, le-ltb, leb-true, ltb-true, cases_lt, lt-ltb}
use Rattle.wtp_qpack.specs.Integer.{shortest_groups, shortest_int}
use Rattle.std.proofs.lemmas.List.{take_all, drop_all}
use Rattle.wtp_qpack.specs.Field.{Field, IsOctets}
use Rattle.wtp_qpack.specs.StaticTable.{entry_at}
use Rattle.wtp_qpack.specs.StringLiteral.{huffman_bytes, encoded_string}
use Rattle.wtp_qpack.proofs.StaticLemmas.{first_found}
use Rattle.wtp_dynamic.specs.declared.error.EncoderStreamError.{EncoderStreamError}
use Rattle.wtp_dynamic.specs.declared.error.EncoderStreamError.TheVariants as fault
use Rattle.wtp_dynamic.specs.Table.{Table, insert_count, entry_size, evicted, inserted, resized, entry_of, relative_entry}
use Rattle.wtp_dynamic.specs.Chain.{or_fault}
use Rattle.wtp_dynamic.specs.Front.{most_bytes}
use Rattle.wtp_dynamic.specs.Steps.{set_step, insert_step, referred}
use Rattle.wtp_dynamic.specs.Writing.{Order, Sets, InsertsNamed, InsertsLiteral, Duplicates, order_step, written, CanBeWritten, Carries}
use Rattle.wtp_dynamic.specs.EncoderState.{Owes, all_above, may_insert, may_resize}
use Rattle.wtp_dynamic.proofs.Owed.{owes_entry, owes_capacity}
use Rattle.wtp_dynamic_encoder.specs.Acknowledging.{Ledger}
use Rattle.wtp_dynamic_encoder.specs.declared.proposal.Policy.{Policy}
use Rattle.wtp_dynamic_encoder.specs.declared.proposal.Proposal.{Proposal}
use Rattle.wtp_dynamic_encoder.specs.Choosing.{IsOrderFor}
use Rattle.wtp_dynamic_encoder.specs.Encoding.{encoder_of, can_insert, InsertsIf, Offered, AreOffered, IsInserted, FirstIsInserted, StoppedAt, ResizesIf, Ordered}

both : (a b : Bool) → (a && b) ≡ true → (a ≡ true) × (b ≡ true)
both true b e = (refl, e)
both false b e = cc e

below_is : (m n : ℕ) → nat_lt m n ≡ true → m < n
below_is m n e = ltb-true m n e

-- ---- one more order

pub ordered_none : (t u : Table) (before after : List ℕ) → u ≡ t → after ≡ before → Ordered t u before after
ordered_none t u before after same none = record { orders = []; carries = same; bytes = none ∙ sym (append-nil before); silent = λ none. refl }

ordered_one : (u v : Table) (before after : List ℕ) (order : Order) → CanBeWritten order → length (written order) ≤ most_bytes u.limit → order_step order u ≡ Ok v → 0 < u.limit → after ≡ before ++ written order → Ordered u v before after
ordered_one u v before after order can short did some more = record {
  orders = order ∷ [];
  carries = (can, short, v, did, refl);
  bytes = more ∙ ap (λ (z : List ℕ). before ++ z) (sym (append-nil (written order)));
  silent = λ none. absurd (omega arith);
}

carries_join : (first second : List Order) (t u v : Table) → Carries first t u → Carries second u v → Carries (first ++ second) t v
carries_join [] second t u v same carries = subst (λ (x : Table). Carries second x v) same carries
carries_join (o ∷ orders) second t u v (can, few, next, did, rest) carries = (can, few, next, did, carries_join orders second next u v rest carries)

flat_join : (first second : List Order) → flat_map written (first ++ second) ≡ flat_map written first ++ flat_map written second
flat_join [] second = refl
flat_join (o ∷ orders) second = ap (λ z. written o ++ z) (flat_join orders second) ∙ sym (append_assoc (written o) (flat_map written orders) (flat_map written second))

pub ordered_join : (t u v : Table) (a b c : List ℕ) → Ordered t u a b → Ordered u v b c → Ordered t v a c
ordered_join t u v a b c one two = record {
  orders = one.orders ++ two.orders;
  carries = carries_join one.orders two.orders t u v one.carries two.carries;
  bytes = two.bytes ∙ ap (λ (z : List ℕ). z ++ flat_map written two.orders) one.bytes ∙ append_assoc a (flat_map written one.orders) (flat_map written two.orders) ∙ ap (λ z. a ++ z) (sym (flat_join one.orders two.orders));
  silent = λ none.
      let nothing = one.silent none in
      let same : u ≡ t = subst (λ (z : List Order). Carries z t u) nothing one.carries in
      let rest : two.orders ≡ [] = two.silent (ap (λ (x : Table). x.limit) same ∙ none) in
      ap (λ (z : List Order). z ++ two.orders) nothing ∙ rest;
}

-- with a limit of 0 nothing is appended
pub ordered_silent : (t u : Table) (before after : List ℕ) → Ordered t u before after → t.limit ≡ 0 → after ≡ before
ordered_silent t u before after ordered none =
    ordered.bytes ∙ ap (λ (z : List Order). before ++ flat_map written z) (ordered.silent none) ∙ append-nil before

-- ---- how long an order is

groups_few : (k m : ℕ) → length (shortest_groups k m) ≤ suc k
unfolding shortest_groups
groups_few zero m = omega arith
groups_few (suc k) m = elim (cases_lt m 128) [
  | inl few ↦ rw (lt-ltb m 128 few) (omega arith)
  | inr many ↦ rw (le-ltb m 128 many) (omega (arith, groups_few k (m / 128)))
]

int_few : (n flags v : ℕ) → length (shortest_int n flags v) ≤ 11
unfolding shortest_int
int_few n flags v = elim (cases_lt v (2 ^ n - 1)) [
  | inl few ↦ rw (lt-ltb v (2 ^ n - 1) few) (omega arith)
  | inr many ↦ rw (le-ltb v (2 ^ n - 1) many) (omega (arith, groups_few 9 (v - (2 ^ n - 1))))
]

text_few : (n flags : ℕ) (t : List ℕ) → length (encoded_string n flags t) ≤ 11 + length t
unfolding encoded_string
text_few n flags t = elim (cases_lt (length (huffman_bytes t)) (length t)) [
  | inl less ↦ rw (lt-ltb (length (huffman_bytes t)) (length t) less) (omega (arith, length-append (shortest_int n (flags * 2 + 1) (length (huffman_bytes t))) (huffman_bytes t), int_few n (flags * 2 + 1) (length (huffman_bytes t))))
  | inr more ↦ rw (le-ltb (length (huffman_bytes t)) (length t) more) (omega (arith, length-append (shortest_int n (flags * 2) (length t)) t, int_few n (flags * 2) (length t)))
]

named_few : (flags index : ℕ) (value : List ℕ) → length (shortest_int 6 flags index ++ encoded_string 7 0 value) ≤ 22 + length value
named_few flags index value = omega (arith, length-append (shortest_int 6 flags index) (encoded_string 7 0 value), int_few 6 flags index, text_few 7 0 value)

order_short : (entry : Field) (u : Table) (order : Order) → IsOrderFor entry u order → entry_size entry ≤ u.capacity → u.capacity ≤ u.limit → length (written order) ≤ most_bytes u.limit
order_short entry u (Sets capacity) is fits within = absurd is
order_short entry u (Duplicates index) is fits within = omega (arith, int_few 5 0 index)
order_short entry u (InsertsNamed true index value) (none, same, at) fits within =
    let long : length value ≡ length entry.1 = ap length same in
    omega (arith, named_few 3 index value, long)
order_short entry u (InsertsNamed false index value) (none, same, first, place, at, latest) fits within =
    let long : length value ≡ length entry.1 = ap length same in
    omega (arith, named_few 2 index value, long)
order_short entry u (InsertsLiteral name value) (none, same, first_none, last) fits within =
    let first : length entry.0 ≡ length name = ap (λ (e : Field). length e.0) same in
    let second : length entry.1 ≡ length value = ap (λ (e : Field). length e.1) same in
    omega (arith, length-append (encoded_string 5 1 name) (encoded_string 7 0 value), text_few 5 1 name, text_few 7 0 value, first, second)

-- ---- an insertion

static_step : (index : ℕ) (name value : List ℕ) (e : Field) (u : Table) → entry_at index ≡ Some e → e.0 ≡ name → order_step (InsertsNamed true index value) u ≡ insert_step (name, value) u
static_step index name value e u there same = rw there (ap (λ (n : List ℕ). insert_step (n, value) u) same)

-- an index that counts back from the latest entry
referred_back : (u : Table) (place index : ℕ) (e : Field) → index ≡ insert_count u - 1 - place → place < insert_count u → entry_of u place ≡ Some e → referred false index u ≡ Ok e
referred_back u place index e at low found =
    let back : insert_count u - 1 - index ≡ place = omega arith in
    let relative : relative_entry u (insert_count u) index ≡ Some e = rw (lt-ltb index (insert_count u) (omega arith), back) found in
    ap (or_fault fault.EntryNotFound) relative

again_step : (index : ℕ) (e entry : Field) (u : Table) → referred false index u ≡ Ok e → e ≡ entry → order_step (Duplicates index) u ≡ insert_step entry u
again_step index e entry u there same = rw there (ap (λ (x : Field). insert_step x u) same)

dynamic_step : (index : ℕ) (name value : List ℕ) (e : Field) (u : Table) → referred false index u ≡ Ok e → e.0 ≡ name → order_step (InsertsNamed false index value) u ≡ insert_step (name, value) u
dynamic_step index name value e u there same = rw there (ap (λ (n : List ℕ). insert_step (n, value) u) same)

-- with another value that is the same
valued_step : (entry : Field) (value : List ℕ) (u : Table) → value ≡ entry.1 → insert_step (entry.0, value) u ≡ insert_step entry u
valued_step entry value u same = ap (λ (v : List ℕ). insert_step (entry.0, v) u) same

order_does : (entry : Field) (u : Table) (order : Order) → IsOrderFor entry u order → IsOctets entry.0 → IsOctets entry.1 → insert_count u < 2 ^ 62 → CanBeWritten order × (order_step order u ≡ insert_step entry u)
order_does entry u (Sets capacity) is name value few = absurd is
order_does entry u (Duplicates index) (place, at, latest) name value few =
    (omega (arith, at, few), again_step index latest.entry entry u (referred_back u place index latest.entry at latest.low latest.is) latest.has)
order_does entry u (InsertsNamed true index text) (none, same, at) name value few =
    let found = first_found entry.0 index at in
    ((omega (arith, found.3), subst IsOctets (sym same) value), static_step index entry.0 text found.0 u found.1 found.2 ∙ valued_step entry text u same)
order_does entry u (InsertsNamed false index text) (none, same, first, place, at, latest) name value few =
    ((omega (arith, at, few), subst IsOctets (sym same) value), dynamic_step index entry.0 text latest.entry u (referred_back u place index latest.entry at latest.low latest.is) latest.has ∙ valued_step entry text u same)
order_does entry u (InsertsLiteral first text) (none, same, first_none, last) name value few =
    ((subst IsOctets (ap (λ (e : Field). e.0) same) name, subst IsOctets (ap (λ (e : Field). e.1) same) value), ap (λ (e : Field). insert_step e u) (sym same))

inserts : (entry : Field) (u : Table) → entry_size entry ≤ u.capacity → insert_count u < 2 ^ 62 → insert_step entry u ≡ Ok (inserted entry u)
inserts entry u fits few = rw (le-ltb u.capacity (entry_size entry) fits, lt-leb (2 ^ 62) (insert_count u) few) refl

-- an entry that can be inserted
record Inserting (entry : Field) (u : Table) (l : Ledger) : Type 0 where
  may : may_insert entry (encoder_of u l) ≡ true
  fits : entry_size entry ≤ u.capacity
  few : insert_count u < 2 ^ 62

inserting : (entry : Field) (u : Table) (l : Ledger) → can_insert entry (encoder_of u l) ≡ true → Inserting entry u l
inserting entry u l test =
    let after : Table = evicted (u.capacity - entry_size entry) u in
    let b = both (may_insert entry (encoder_of u l)) (nat_lt (insert_count u) (2 ^ 62)) test in
    let c = both (nat_le (entry_size entry) u.capacity && nat_le after.dropped l.0) (all_above after.dropped l.1) b.0 in
    let d = both (nat_le (entry_size entry) u.capacity) (nat_le after.dropped l.0) c.0 in
    record {
      may = b.0;
      fits = leb-true (entry_size entry) u.capacity d.0;
      few = below_is (insert_count u) (2 ^ 62) b.1;
    }

abbrev done : Table → Result Table EncoderStreamError
done t = Ok t

ordered_entry : (u v : Table) (l : Ledger) (before after : List ℕ) (entry : Field) (order : Order) → can_insert entry (encoder_of u l) ≡ true → IsOrderFor entry u order → IsOctets entry.0 → IsOctets entry.1 → u.capacity ≤ u.limit → v ≡ inserted entry u → after ≡ before ++ written order → Ordered u v before after
ordered_entry u v l before after entry order test chosen name value within is more =
    let one = inserting entry u l test in
    let does = order_does entry u order chosen name value one.few in
    ordered_one u v before after order does.0 (order_short entry u order chosen one.fits within) (does.1 ∙ inserts entry u one.fits one.few ∙ ap done (sym is)) (omega (arith, one.fits, within)) more

pub owes_after : (u v : Table) (l : Ledger) (entry : Field) → can_insert entry (encoder_of u l) ≡ true → v ≡ inserted entry u → Owes (encoder_of u l) → Owes (encoder_of v l)
owes_after u v l entry test is owes = subst (λ (x : Table). Owes (encoder_of x l)) (sym is) (owes_entry entry (encoder_of u l) owes (inserting entry u l test).may)

pub owes_same : (u v : Table) (l : Ledger) → v ≡ u → Owes (encoder_of u l) → Owes (encoder_of v l)
owes_same u v l same owes = subst (λ (x : Table). Owes (encoder_of x l)) (sym same) owes

pub owes_resized : (u v : Table) (l : Ledger) (capacity : ℕ) → may_resize capacity (encoder_of u l) ≡ true → v ≡ resized capacity u → Owes (encoder_of u l) → Owes (encoder_of v l)
owes_resized u v l capacity test is owes = subst (λ (x : Table). Owes (encoder_of x l)) (sym is) (owes_capacity capacity (encoder_of u l) owes test)

-- ---- what an insertion did

pub ordered_by : {E : Type 0} (entry : Field) (l : Ledger) (u v : Table) (before after : List ℕ) (r : Result Bool E) → IsOctets entry.0 → IsOctets entry.1 → u.capacity ≤ u.limit → InsertsIf entry l u v before after r → Ordered u v before after
ordered_by entry l u v before after (Ok true) name value within (test, is, order, chosen, more) = ordered_entry u v l before after entry order test chosen name value within is more
ordered_by entry l u v before after (Ok false) name value within (test, is, more) = ordered_none u v before after is more
ordered_by entry l u v before after (Err e) name value within (test, is, more) = ordered_none u v before after is more

pub owes_by : {E : Type 0} (entry : Field) (l : Ledger) (u v : Table) (before after : List ℕ) (r : Result Bool E) → InsertsIf entry l u v before after r → Owes (encoder_of u l) → Owes (encoder_of v l)
owes_by entry l u v before after (Ok true) (test, is, order, chosen, more) owes = owes_after u v l entry test is owes
owes_by entry l u v before after (Ok false) (test, is, more) owes = owes_same u v l is owes
owes_by entry l u v before after (Err e) (test, is, more) owes = owes_same u v l is owes

-- ---- proposals

pub offered_none : (policy : Policy) (l : Ledger) (t : Table) (bytes : List ℕ) → AreOffered policy [] l t t bytes bytes
offered_none policy l t bytes = (refl, refl)

pub offered_push : (policy : Policy) (ps : List Proposal) (p : Proposal) (l : Ledger) (t u v : Table) (a b c : List ℕ) → AreOffered policy ps l t u a b → Offered policy p l u v b c → AreOffered policy (ps ++ p ∷ []) l t v a c
offered_push policy [] p l t u v a b c (same, none) one =
    (v, c, subst (λ (z : List ℕ). Offered policy p l t v z c) none (subst (λ (z : Table). Offered policy p l z v b c) same one), (refl, refl))
offered_push policy (q ∷ ps) p l t u v a b c (mid, bytes, first, others) one = (mid, bytes, first, offered_push policy ps p l mid u v bytes b c others one)

pub offered_same : (policy : Policy) (ps : List Proposal) (l : Ledger) (t u v : Table) (a b c : List ℕ) → AreOffered policy ps l t u a b → v ≡ u → c ≡ b → AreOffered policy ps l t v a c
offered_same policy ps l t u v a b c offered same none =
    subst (λ (z : List ℕ). AreOffered policy ps l t v a z) (sym none) (subst (λ (z : Table). AreOffered policy ps l t z a b) (sym same) offered)

-- allocation failed after all of them
pub offered_all : (policy : Policy) (ps : List Proposal) (l : Ledger) (t u : Table) (a b : List ℕ) → AreOffered policy ps l t u a b → StoppedAt policy ps l t u a b
offered_all policy ps l t u a b offered = (
  length ps,
  subst (λ (z : List Proposal). AreOffered policy z l t u a b) (sym (take_all (length ps) ps (omega arith))) offered,
  subst (λ (z : List Proposal). FirstIsInserted policy z l u) (sym (drop_all (length ps) ps (omega arith))) tt,
)

-- or for one that is inserted
pub stopped_at : (policy : Policy) (ps others : List Proposal) (p : Proposal) (l : Ledger) (t u v : Table) (a b c : List ℕ) (count : ℕ)
    → AreOffered policy (take count ps) l t u a b → drop count ps ≡ p ∷ others → IsInserted policy p l u → v ≡ u → c ≡ b → StoppedAt policy ps l t v a c
stopped_at policy ps others p l t u v a b c count offered next inserts same none = (
  count,
  offered_same policy (take count ps) l t u v a b c offered same none,
  subst (λ (z : List Proposal). FirstIsInserted policy z l v) (sym next) (subst (λ (z : Table). IsInserted policy p l z) (sym same) inserts),
)

-- ---- a capacity

sets : (capacity : ℕ) (u : Table) → capacity ≤ u.limit → set_step capacity u ≡ Ok (resized capacity u)
sets capacity u within = rw (le-ltb u.limit capacity within) refl

pub resized_by : {E : Type 0} (capacity : ℕ) (l : Ledger) (u v : Table) (before after : List ℕ) (r : Result Bool E) → capacity < 2 ^ 64 → ResizesIf capacity l u v before after r → Ordered u v before after
resized_by capacity l u v before after (Ok true) small (test, is, more) =
    let left : Table = evicted capacity u in
    let a = both (nat_lt 0 u.limit && nat_le capacity u.limit && nat_le left.dropped l.0) (all_above left.dropped l.1) test in
    let b = both (nat_lt 0 u.limit && nat_le capacity u.limit) (nat_le left.dropped l.0) a.0 in
    let d = both (nat_lt 0 u.limit) (nat_le capacity u.limit) b.0 in
    let short : length (shortest_int 5 1 capacity) ≤ most_bytes u.limit = omega (arith, int_few 5 1 capacity) in
    ordered_one u v before after (Sets capacity) small short (sets capacity u (leb-true capacity u.limit d.1) ∙ ap done (sym is)) (below_is 0 u.limit d.0) more
resized_by capacity l u v before after (Ok false) small (test, is, more) = ordered_none u v before after is more
resized_by capacity l u v before after (Err e) small (test, is, more) = ordered_none u v before after is more

pub ruleset one_step = (ordered_none, owes_same, owes_resized)

pub ruleset more_steps = (ordered_none, ordered_join)
