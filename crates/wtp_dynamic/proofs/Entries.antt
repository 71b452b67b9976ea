-- An absolute index names one entry, as long as it is live.
use Rattle.std.proofs.Common.{◌≡◌, ℕ, zero, suc, ◌+◌, ◌-◌, ◌<◌, ◌≤◌, nat_lt, inl, inr, false, List, [], ◌∷◌, ◌++◌, length, drop, refl, sym, ◌∙◌, ap, subst, arith, length-append, length-drop, Ok, Err}
use Rattle.std.specs.List.{slice_get}
use Rattle.std.proofs.lemmas.Bool.{le-ltb}
use Rattle.wtp_huffman.proofs.Chosen.{chosen}
use Rattle.wtp_qpack.specs.Field.{Field}
use Rattle.wtp_dynamic.specs.declared.error.EncoderStreamError.TheVariants as fault
use Rattle.wtp_dynamic.specs.Table.{Table, Later, entry_size, excess, resized, inserted, entry_of}
use Rattle.wtp_dynamic.specs.Instruction.{Instruction, SetCapacity, InsertNamed, InsertLiteral, Duplicate}
use Rattle.wtp_dynamic.specs.Steps.{set_step, insert_step, referred, referring_entry, literal_entry, step}
use Rattle.wtp_dynamic.specs.Stream.{Leads}
use Rattle.wtp_dynamic.proofs.Histories.{excess_within, insert_found, bind_made}

get_dropped : (xs : List Field) (d i : ℕ) → slice_get (drop d xs) i ≡ slice_get xs (d + i)
get_dropped xs zero i = ap (slice_get xs) (omega arith)
get_dropped [] (suc d) i = refl
get_dropped (x ∷ xs) (suc d) i =
    let on : suc d + i ≡ suc (d + i) = omega arith in
    get_dropped xs d i ∙ ap (slice_get (x ∷ xs)) (sym on)

get_appended : (xs ys : List Field) (i : ℕ) → i < length xs → slice_get (xs ++ ys) i ≡ slice_get xs i
get_appended [] ys i h = absurd (omega arith)
get_appended (x ∷ xs) ys zero h = refl
get_appended (x ∷ xs) ys (suc i) h = get_appended xs ys i (omega arith)

at_place : (t : Table) (k : ℕ) → t.dropped ≤ k → entry_of t k ≡ slice_get t.live (k - t.dropped)
at_place t k low = rw (le-ltb k t.dropped low) refl

-- without the oldest d entries
kept_place : (t : Table) (live : List Field) (d k : ℕ) → t.dropped + d ≤ k → slice_get (drop d t.live) (k - (t.dropped + d)) ≡ entry_of t k
kept_place t live d k low =
    let on : d + (k - (t.dropped + d)) ≡ k - t.dropped = omega arith in
    get_dropped t.live d (k - (t.dropped + d)) ∙ ap (slice_get t.live) on ∙ sym (at_place t k (omega arith))

later_set : (capacity : ℕ) (t : Table) → Later t (resized capacity t)
later_set capacity t =
    let d : ℕ = excess capacity t.live in
    let within : d ≤ length t.live = excess_within capacity t.live in
    record {
      dropped = omega arith;
      count = omega (arith, length-drop d t.live);
      limit = refl;
      same = λ k high low. at_place (resized capacity t) k low ∙ kept_place t t.live d k low;
    }

later_insert : (e : Field) (t : Table) → Later t (inserted e t)
later_insert e t =
    let d : ℕ = excess (t.capacity - entry_size e) t.live in
    let within : d ≤ length t.live = excess_within (t.capacity - entry_size e) t.live in
    let long : length (drop d t.live ++ e ∷ []) ≡ length (drop d t.live) + 1 = length-append (drop d t.live) (e ∷ []) ∙ omega arith in
    record {
      dropped = omega arith;
      count = omega (arith, long, length-drop d t.live);
      limit = refl;
      same = λ k high low.
          at_place (inserted e t) k low
          ∙ get_appended (drop d t.live) (e ∷ []) (k - (t.dropped + d)) (omega (arith, length-drop d t.live))
          ∙ kept_place t t.live d k low;
    }

later_same : (t : Table) → Later t t
later_same t = record { dropped = omega arith; count = omega arith; limit = refl; same = λ k high low. refl }

later_then : (t u v : Table) → Later t u → Later u v → Later t v
later_then t u v one two = record {
  dropped = omega (arith, one.dropped, two.dropped);
  count = omega (arith, one.count, two.count);
  limit = two.limit ∙ one.limit;
  same = λ k high low. two.same k (omega (arith, one.count)) low ∙ one.same k high (omega (arith, two.dropped));
}

inserted_later : (e : Field) (t u : Table) → insert_step e t ≡ Ok u → Later t u
inserted_later e t u did =
    let P : Table → Type 0 = λ x. Later t x in
    subst P (insert_found e t u did).1 (later_insert e t)

set_later : (capacity : ℕ) (t u : Table) → set_step capacity t ≡ Ok u → Later t u
set_later capacity t u did = elim (chosen (nat_lt t.limit capacity) (Err fault.CapacityAboveLimit) (Ok (resized capacity t)) (Ok u) did) [
  | inl large ↦ cc large.1
  | inr fine ↦
      let P : Table → Type 0 = λ x. Later t x in
      let same : resized capacity t ≡ u = cc fine.1 in
      subst P same (later_set capacity t)
]

pub step_later : (i : Instruction) (t u : Table) → step i t ≡ Ok u → Later t u
step_later (SetCapacity capacity) t u did = set_later capacity t u did
step_later (InsertNamed is_static index value) t u did =
    let e = bind_made (referring_entry is_static index value t) (λ entry. insert_step entry t) u did in
    inserted_later e.0 t u e.1
step_later (InsertLiteral name value) t u did =
    let e = bind_made (literal_entry name value) (λ entry. insert_step entry t) u did in
    inserted_later e.0 t u e.1
step_later (Duplicate index) t u did =
    let e = bind_made (referred false index t) (λ entry. insert_step entry t) u did in
    inserted_later e.0 t u e.1

pub leads_later : (is : List Instruction) (t : Table) (bytes : List ℕ) (u : Table) (rest : List ℕ) → Leads is t bytes u rest → Later t u
leads_later [] t bytes u rest (same, e) =
    let P : Table → Type 0 = λ x. Later t x in
    subst P (sym same) (later_same t)
leads_later (i ∷ is) t bytes u rest (next, behind, found, did, leads) =
    later_then t next u (step_later i t next did) (leads_later is next behind u rest leads)
