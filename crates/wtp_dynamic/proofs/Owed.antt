-- An encoder that tests before it evicts owes nothing more.
use Rattle.std.proofs.Common.{◌≡◌, ℕ, ◌+◌, ◌-◌, ◌^◌, ◌<◌, ◌≤◌, ◌==◌, nat_lt, nat_le, inl, inr, Bool, true, false, cond, ◌&&◌, List, [], ◌∷◌, ◌++◌, length, drop, refl, sym, ◌∙◌, ap, subst, arith, length-append, length-drop, Option, Some, None}
use borrow.Author.Tests.{leb-true}
use Rattle.wtp_huffman.proofs.Chosen.{chosen}
use Rattle.wtp_qpack.specs.Field.{Field}
use Rattle.wtp_dynamic.specs.Table.{Table, Later, insert_count, entry_size, table_size, excess, resized, inserted}
use Rattle.wtp_dynamic.specs.declared.ledger.Sent.{Sent}
use Rattle.wtp_dynamic.specs.EncoderState.{Encoder, AreKept, Owes, all_above, may_insert, may_resize, with_first, taken, without, with_entry, with_capacity, with_section, acknowledged, cancelled, incremented, IsOpen, AreFrom}
use Rattle.wtp_dynamic.specs.Plans.{Plan, StaticField, TableField, StaticName, TableName, NewName, ArePlans}
use Rattle.wtp_dynamic.specs.Pair as pair
use Rattle.wtp_dynamic.specs.Answer.{HasFields}
use Rattle.wtp_dynamic.proofs.Paired.{pair_reads}
use Rattle.wtp_dynamic.proofs.Histories.{excess_within}

both_true : (a b : Bool) → (a && b) ≡ true → (a ≡ true) × (b ≡ true)
both_true true b e = (refl, e)
both_true false b e = cc e

kept_above : (place higher count more : ℕ) (sections : List Sent) → count ≤ more → all_above higher sections ≡ true → AreKept place count sections → AreKept higher more sections
kept_above place higher count more [] grows test kept = tt
kept_above place higher count more (sent ∷ others) grows test (low, some, few, kept) =
    let b = both_true (nat_le higher sent.lowest) (all_above higher others) test in
    (leb-true higher sent.lowest b.0, some, omega arith, kept_above place higher count more others grows b.1 kept)

pub owes_entry : (entry : Field) (encoder : Encoder) → Owes encoder → may_insert entry encoder ≡ true → Owes (with_entry entry encoder)
owes_entry entry encoder owes test =
    let t : Table = encoder.table in
    let room : ℕ = t.capacity - entry_size entry in
    let d : ℕ = excess room t.live in
    let within : d ≤ length t.live = excess_within room t.live in
    let long : length (drop d t.live ++ entry ∷ []) ≡ length (drop d t.live) + 1 = length-append (drop d t.live) (entry ∷ []) ∙ omega arith in
    let b = both_true (nat_le (entry_size entry) t.capacity && nat_le (t.dropped + d) encoder.known) (all_above (t.dropped + d) encoder.sections) test in
    let c = both_true (nat_le (entry_size entry) t.capacity) (nat_le (t.dropped + d) encoder.known) b.0 in
    let count : insert_count t + 1 ≡ insert_count (inserted entry t) = omega (arith, long, length-drop d t.live) in
    record {
      known = omega (arith, owes.known, count);
      received = leb-true (t.dropped + d) encoder.known c.1;
      kept = kept_above t.dropped (t.dropped + d) (insert_count t) (insert_count (inserted entry t)) encoder.sections (omega arith) b.1 owes.kept;
    }

pub owes_capacity : (capacity : ℕ) (encoder : Encoder) → Owes encoder → may_resize capacity encoder ≡ true → Owes (with_capacity capacity encoder)
owes_capacity capacity encoder owes test =
    let t : Table = encoder.table in
    let d : ℕ = excess capacity t.live in
    let within : d ≤ length t.live = excess_within capacity t.live in
    let b = both_true (nat_lt 0 t.limit && nat_le capacity t.limit && nat_le (t.dropped + d) encoder.known) (all_above (t.dropped + d) encoder.sections) test in
    let c = both_true (nat_lt 0 t.limit && nat_le capacity t.limit) (nat_le (t.dropped + d) encoder.known) b.0 in
    let count : insert_count t ≡ insert_count (resized capacity t) = omega (arith, length-drop d t.live) in
    record {
      known = omega (arith, owes.known, count);
      received = leb-true (t.dropped + d) encoder.known c.1;
      kept = kept_above t.dropped (t.dropped + d) (insert_count t) (insert_count (resized capacity t)) encoder.sections (omega arith) b.1 owes.kept;
    }

kept_push : (place count : ℕ) (sections : List Sent) (sent : Sent) → AreKept place count sections → place ≤ sent.lowest → sent.lowest < sent.required → sent.required ≤ count → AreKept place count (sections ++ sent ∷ [])
kept_push place count [] sent kept low some few = (low, some, few, tt)
kept_push place count (s ∷ others) sent (l, m, f, kept) low some few = (l, m, f, kept_push place count others sent kept low some few)

pub owes_section : (sent : Sent) (encoder : Encoder) → Owes encoder → encoder.table.dropped ≤ sent.lowest → sent.lowest < sent.required → sent.required ≤ insert_count encoder.table → Owes (with_section sent encoder)
owes_section sent encoder owes low some few = record {
  known = owes.known;
  received = owes.received;
  kept = kept_push encoder.table.dropped (insert_count encoder.table) encoder.sections sent owes.kept low some few;
}

-- what is taken, and what is left
record Took (place count : ℕ) (x : Sent × List Sent) : Type 0 where
  few : x.0.required ≤ count
  kept : AreKept place count x.1

took : (place count stream : ℕ) (sections : List Sent) (x : Sent × List Sent) → AreKept place count sections → taken stream sections ≡ Some x → Took place count x
took place count stream [] x kept e = cc e
took place count stream (sent ∷ others) x (low, some, few, kept) e = elim (chosen (sent.stream == stream) (Some (sent, others)) (with_first sent (taken stream others)) (Some x) e) [
  | inl this ↦
      let same : (sent, others) ≡ x = cc this.1 in
      let P : Sent × List Sent → Type 0 = λ z. Took place count z in
      subst P same (record { few = few; kept = kept })
  | inr other ↦ by_rest (taken stream others) refl other.1 (λ y found. took place count stream others y kept found)
]
  where
    by_rest : (o : Option (Sent × List Sent)) → taken stream others ≡ o → with_first sent (taken stream others) ≡ Some x → ((y : Sent × List Sent) → taken stream others ≡ Some y → Took place count y) → Took place count x
    by_rest None none made rest = cc (ap (with_first sent) none, made)
    by_rest (Some y) found made rest =
        let one = rest y found in
        let same : (y.0, sent ∷ y.1) ≡ x = cc (ap (with_first sent) found, made) in
        let P : Sent × List Sent → Type 0 = λ z. Took place count z in
        subst P same (record { few = one.few; kept = (low, some, few, one.kept) })

pub owes_acknowledged : (stream : ℕ) (x : Sent × List Sent) (encoder : Encoder) → Owes encoder → taken stream encoder.sections ≡ Some x → Owes (acknowledged x encoder)
owes_acknowledged stream x encoder owes found =
    let one = took encoder.table.dropped (insert_count encoder.table) stream encoder.sections x owes.kept found in
    record {
      known = omega (arith, owes.known, one.few);
      received = omega (arith, owes.received);
      kept = one.kept;
    }

kept_without : (place count stream : ℕ) (sections : List Sent) → AreKept place count sections → AreKept place count (without stream sections)
kept_without place count stream [] kept = tt
kept_without place count stream (sent ∷ others) (low, some, few, kept) = by_stream (sent.stream == stream) (kept_without place count stream others kept)
  where
    by_stream : (b : Bool) → AreKept place count (without stream others) → AreKept place count (cond b (without stream others) (sent ∷ without stream others))
    by_stream true rest = rest
    by_stream false rest = (low, some, few, rest)

pub owes_cancelled : (stream : ℕ) (encoder : Encoder) → Owes encoder → Owes (cancelled stream encoder)
owes_cancelled stream encoder owes = record {
  known = owes.known;
  received = owes.received;
  kept = kept_without encoder.table.dropped (insert_count encoder.table) stream encoder.sections owes.kept;
}

pub owes_incremented : (count : ℕ) (encoder : Encoder) → Owes encoder → encoder.known + count ≤ insert_count encoder.table → Owes (incremented count encoder)
owes_incremented count encoder owes few = record {
  known = few;
  received = omega (arith, owes.received);
  kept = owes.kept;
}

-- ---- what is owed is what the pair needs

record Place (place count : ℕ) (sent : Sent) : Type 0 where
  low : place ≤ sent.lowest
  some : sent.lowest < sent.required
  few : sent.required ≤ count

place_of : (place count : ℕ) (sections : List Sent) (sent : Sent) → AreKept place count sections → IsOpen sent sections → Place place count sent
place_of place count [] sent kept open_ = absurd open_
place_of place count (first ∷ others) sent (low, some, few, kept) (inl same) =
    let P : Sent → Type 0 = λ s. Place place count s in
    subst P (sym same) (record { low = low; some = some; few = few })
place_of place count (first ∷ others) sent (low, some, few, kept) (inr later) = place_of place count others sent kept later

from_kept : (t : Table) (lowest : ℕ) (plans : List Plan) → t.dropped ≤ lowest → AreFrom lowest plans → pair.AreKept t plans
from_kept t lowest [] low from = tt
from_kept t lowest (StaticField index ∷ plans) low (one, from) = (tt, from_kept t lowest plans low from)
from_kept t lowest (TableField place ∷ plans) low (one, from) = (omega arith, from_kept t lowest plans low from)
from_kept t lowest (StaticName never index value ∷ plans) low (one, from) = (tt, from_kept t lowest plans low from)
from_kept t lowest (TableName never place value ∷ plans) low (one, from) = (omega arith, from_kept t lowest plans low from)
from_kept t lowest (NewName never name value ∷ plans) low (one, from) = (tt, from_kept t lowest plans low from)

pub owed_reads : (encoder : Encoder) (written decoder : Table) (sent : Sent) (base : ℕ) (plans : List Plan) (fields : List Field) → Owes encoder → IsOpen sent encoder.sections → AreFrom sent.lowest plans
    → Later written encoder.table → Later decoder encoder.table → table_size encoder.table.live ≤ encoder.table.limit → encoder.known ≤ insert_count decoder → sent.required ≤ insert_count written → ArePlans written sent.required plans fields
    → sent.required ≤ insert_count decoder → base < 2 ^ 64 → sent.required < 2 ^ 62 → decoder.limit < 2 ^ 62 → HasFields decoder (pair.section_of decoder.limit sent.required base plans) fields
owed_reads encoder written decoder sent base plans fields owes open_ from later behind fits known counted are free few small limited =
    let place = place_of encoder.table.dropped (insert_count encoder.table) encoder.sections sent owes.kept open_ in
    pair_reads written encoder.table decoder sent.required base plans fields
    (record {
      later = later;
      behind = behind;
      fits = fits;
      known = omega (arith, owes.received);
      counted = counted;
      latest = inr (omega (arith, place.low, place.some));
      kept = from_kept encoder.table sent.lowest plans place.low from;
    })
    are free few small limited
