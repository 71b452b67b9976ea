-- The table of a history: what is left are the live entries.
use Rattle.std.proofs.Common.{◌≡◌, ℕ, zero, suc, ◌+◌, ◌-◌, ◌≤◌, nat_le, nat_lt, inl, inr, List, [], ◌∷◌, ◌++◌, length, drop, refl, sym, ◌∙◌, ap, subst, arith, length-append, length-drop, append_assoc, cond, ◌^◌, false, Result, Ok, Err}
use Rattle.std.proofs.lemmas.Bool.{cases_lt, le-leb, lt-leb}
use Rattle.std.proofs.lemmas.List.{drop-drop, drop-append-le}
use Rattle.wtp_qpack.specs.Field.{Field}
use Rattle.wtp_dynamic.specs.Table.{Change, SetsCapacity, Inserts, History, all_entries, capacity_after, Table, insert_count, entry_size, table_size, excess, resized, inserted, empty_table, Shows}
use borrow.Author.Tests.{ltb-false}
use Rattle.wtp_huffman.proofs.Chosen.{chosen}
use Rattle.wtp_dynamic.specs.declared.error.EncoderStreamError.{EncoderStreamError}
use Rattle.wtp_dynamic.specs.declared.error.EncoderStreamError.TheVariants as fault
use Rattle.wtp_dynamic.specs.Instruction.{Instruction, SetCapacity, InsertNamed, InsertLiteral, Duplicate}
use Rattle.wtp_dynamic.specs.Chain.{◌>>=◌}
use Rattle.wtp_dynamic.specs.Steps.{set_step, insert_step, referred, referring_entry, literal_entry, step}
use Rattle.wtp_dynamic.specs.Stream.{Leads}
use Rattle.wtp_dynamic.proofs.Tables.{size_push}

-- entries from a place on fit into some room exactly from the place of the excess on
rest_fits : (es : List Field) (d : ℕ) → table_size (drop d es) ≤ table_size es
rest_fits es zero = omega arith
rest_fits [] (suc d) = omega arith
rest_fits (e ∷ es) (suc d) = omega (arith, rest_fits es d)

pub excess_fits : (room : ℕ) (es : List Field) (d : ℕ) → excess room es ≤ d → table_size (drop d es) ≤ room
excess_fits room [] zero more = omega arith
excess_fits room [] (suc d) more = omega arith
excess_fits room (e ∷ es) zero more = elim (cases_lt room (table_size (e ∷ es))) [
  | inl past ↦
      let first : excess room (e ∷ es) ≡ suc (excess room es) = rw (lt-leb (table_size (e ∷ es)) room past) refl in
      absurd (omega arith)
  | inr fits ↦ fits
]
excess_fits room (e ∷ es) (suc d) more = elim (cases_lt room (table_size (e ∷ es))) [
  | inl past ↦
      let first : excess room (e ∷ es) ≡ suc (excess room es) = rw (lt-leb (table_size (e ∷ es)) room past) refl in
      excess_fits room es d (omega arith)
  | inr fits ↦ omega (arith, rest_fits es d)
]

pub fits_excess : (room : ℕ) (es : List Field) (d : ℕ) → table_size (drop d es) ≤ room → excess room es ≤ d
fits_excess room [] d fits = omega arith
fits_excess room (e ∷ es) zero fits = rw (le-leb (table_size (e ∷ es)) room fits) (omega arith)
fits_excess room (e ∷ es) (suc d) fits = elim (cases_lt room (table_size (e ∷ es))) [
  | inl past ↦ rw (lt-leb (table_size (e ∷ es)) room past) (omega (arith, fits_excess room es d fits))
  | inr all_fit ↦ rw (le-leb (table_size (e ∷ es)) room all_fit) (omega arith)
]

pub excess_within : (room : ℕ) (es : List Field) → excess room es ≤ length es
excess_within room [] = omega arith
excess_within room (e ∷ es) = elim (cases_lt room (table_size (e ∷ es))) [
  | inl past ↦ rw (lt-leb (table_size (e ∷ es)) room past) (omega (arith, excess_within room es))
  | inr fits ↦ rw (le-leb (table_size (e ∷ es)) room fits) (omega arith)
]

-- from a place of all entries on, or from that place of those that are left
same_suffix : (all live : List Field) (dropped k : ℕ) → live ≡ drop dropped all → dropped ≤ k → drop (k - dropped) live ≡ drop k all
same_suffix all live dropped k e low =
    let back : dropped + (k - dropped) ≡ k = omega arith in
    ap (drop (k - dropped)) e ∙ drop-drop (k - dropped) dropped all ∙ ap (λ n. drop n all) back

pub shows_empty : (limit : ℕ) → Shows [] (empty_table limit)
shows_empty limit = record { live = refl; count = refl; capacity = refl; lives = λ k low high. absurd (omega arith); dies = λ k h. absurd h }

pub shows_set : (history : History) (t : Table) (capacity : ℕ) → Shows history t → Shows (SetsCapacity capacity ∷ history) (resized capacity t)
shows_set history t capacity shows =
    let all = all_entries history in
    let d : ℕ = excess capacity t.live in
    let within : d ≤ length t.live = excess_within capacity t.live in
    record {
      live = ap (drop d) shows.live ∙ drop-drop d t.dropped all;
      count = omega (arith, shows.count, length-drop d t.live);
      capacity = refl;
      lives = λ k low high.
          let suffix : drop (k - t.dropped) t.live ≡ drop k all = same_suffix all t.live t.dropped k shows.live (omega arith) in
          let fits : table_size (drop (k - t.dropped) t.live) ≤ capacity = excess_fits capacity t.live (k - t.dropped) (omega arith) in
          (high, rw suffix at fits, λ in_table. shows.lives k (omega arith) in_table);
      dies = λ k alive.
          let low : t.dropped ≤ k = shows.dies k (alive.2 alive.0) in
          let suffix : drop (k - t.dropped) t.live ≡ drop k all = same_suffix all t.live t.dropped k shows.live low in
          let room : table_size (drop (k - t.dropped) t.live) ≤ capacity = rw suffix (alive.1) in
          omega (arith, fits_excess capacity t.live (k - t.dropped) room);
    }

-- all entries from a place on, and one more
pushed_size : (all : List Field) (e : Field) (k : ℕ) → k ≤ length all → table_size (drop k (all ++ e ∷ [])) ≡ table_size (drop k all) + entry_size e
pushed_size all e k low = ap table_size (drop-append-le k all (e ∷ []) low) ∙ size_push (drop k all) e

pub shows_insert : (history : History) (t : Table) (e : Field) → entry_size e ≤ t.capacity → Shows history t → Shows (Inserts e ∷ history) (inserted e t)
shows_insert history t e small shows =
    let all = all_entries history in
    let room : ℕ = t.capacity - entry_size e in
    let d : ℕ = excess room t.live in
    let within : d ≤ length t.live = excess_within room t.live in
    let long : length (all ++ e ∷ []) ≡ length all + 1 = length-append all (e ∷ []) ∙ omega arith in
    let same_capacity : t.capacity ≡ capacity_after history = shows.capacity in
    let counted : t.dropped + length t.live ≡ length all = shows.count in
    record {
      live = ap (λ z. drop d z ++ e ∷ []) shows.live ∙ ap (λ z. z ++ e ∷ []) (drop-drop d t.dropped all) ∙ sym (drop-append-le (t.dropped + d) all (e ∷ []) (omega arith));
      count = omega (arith, length-drop d t.live, length-append (drop d t.live) (e ∷ []), long);
      capacity = shows.capacity;
      lives = λ k low high.
          let suffix : drop (k - t.dropped) t.live ≡ drop k all = same_suffix all t.live t.dropped k shows.live (omega arith) in
          let fits : table_size (drop (k - t.dropped) t.live) ≤ room = excess_fits room t.live (k - t.dropped) (omega arith) in
          let fits_all : table_size (drop k all) ≤ room = rw suffix at fits in
          (high, omega (arith, pushed_size all e k (omega (arith, long))), λ in_table. shows.lives k (omega arith) in_table);
      dies = λ k alive. elim (cases_lt k (length all)) [
        | inl old ↦
            let low : t.dropped ≤ k = shows.dies k (alive.2 old) in
            let suffix : drop (k - t.dropped) t.live ≡ drop k all = same_suffix all t.live t.dropped k shows.live low in
            let fits_all : table_size (drop k all) ≤ room = omega (arith, alive.1, pushed_size all e k (omega arith)) in
            let fits : table_size (drop (k - t.dropped) t.live) ≤ room = rw suffix fits_all in
            omega (arith, fits_excess room t.live (k - t.dropped) fits)
        | inr latest ↦ omega arith
      ];
    }

-- ---- instructions

pub insert_found : (e : Field) (t u : Table) → insert_step e t ≡ Ok u → (entry_size e ≤ t.capacity) × (inserted e t ≡ u)
insert_found e t u did = elim (chosen (nat_lt t.capacity (entry_size e)) (Err fault.EntryTooLarge) (cond (nat_le (2 ^ 62) (insert_count t)) (Err fault.TooManyInsertions) (Ok (inserted e t))) (Ok u) did) [
  | inl large ↦ cc large.1
  | inr small ↦ elim (chosen (nat_le (2 ^ 62) (insert_count t)) (Err fault.TooManyInsertions) (Ok (inserted e t)) (Ok u) small.1) [
    | inl many ↦ cc many.1
    | inr fine ↦ (ltb-false t.capacity (entry_size e) small.0, cc fine.1)
  ]
]

pub bind_made : {A : Type 0} (r : Result A EncoderStreamError) (f : A → Result Table EncoderStreamError) (u : Table) → (r >>= f) ≡ Ok u → (x : A) × (f x ≡ Ok u)
bind_made (Ok x) f u e = (x, e)
bind_made (Err d) f u e = cc e

-- after an instruction the table shows a history with one more change
pub record Changed (history : History) (t : Table) : Type 0 where
  pub change : Change
  pub shows : Shows (change ∷ history) t

changed_insert : (history : History) (e : Field) (t u : Table) → Shows history t → insert_step e t ≡ Ok u → Changed history u
changed_insert history e t u shows did =
    let made = insert_found e t u did in
    let P : Table → Type 0 = λ x. Shows (Inserts e ∷ history) x in
    record { change = Inserts e; shows = subst P made.1 (shows_insert history t e made.0 shows) }

changed_set : (history : History) (capacity : ℕ) (t u : Table) → Shows history t → set_step capacity t ≡ Ok u → Changed history u
changed_set history capacity t u shows did = elim (chosen (nat_lt t.limit capacity) (Err fault.CapacityAboveLimit) (Ok (resized capacity t)) (Ok u) did) [
  | inl large ↦ cc large.1
  | inr fine ↦
      let P : Table → Type 0 = λ x. Shows (SetsCapacity capacity ∷ history) x in
      let same : resized capacity t ≡ u = cc fine.1 in
      record { change = SetsCapacity capacity; shows = subst P same (shows_set history t capacity shows) }
]

pub step_changes : (i : Instruction) (history : History) (t u : Table) → Shows history t → step i t ≡ Ok u → Changed history u
step_changes (SetCapacity capacity) history t u shows did = changed_set history capacity t u shows did
step_changes (InsertNamed is_static index value) history t u shows did =
    let e = bind_made (referring_entry is_static index value t) (λ entry. insert_step entry t) u did in
    changed_insert history e.0 t u shows e.1
step_changes (InsertLiteral name value) history t u shows did =
    let e = bind_made (literal_entry name value) (λ entry. insert_step entry t) u did in
    changed_insert history e.0 t u shows e.1
step_changes (Duplicate index) history t u shows did =
    let e = bind_made (referred false index t) (λ entry. insert_step entry t) u did in
    changed_insert history e.0 t u shows e.1

-- changes, the latest first, before which there was a history
pub leads_changes : (is : List Instruction) (history : History) (t : Table) (bytes : List ℕ) (u : Table) (rest : List ℕ) → Shows history t → Leads is t bytes u rest
    → (changes : List Change) × (length changes ≡ length is) × Shows (changes ++ history) u
leads_changes [] history t bytes u rest shows (same, e) =
    let P : Table → Type 0 = λ x. Shows history x in
    ([], refl, subst P (sym same) shows)
leads_changes (i ∷ is) history t bytes u rest shows (next, behind, found, did, leads) =
    let one = step_changes i history t next shows did in
    let others = leads_changes is (one.change ∷ history) next behind u rest one.shows leads in
    let P : History → Type 0 = λ h. Shows h u in
    (others.0 ++ one.change ∷ [], length-append others.0 (one.change ∷ []) ∙ omega (arith, others.1), subst P (sym (append_assoc others.0 (one.change ∷ []) history)) others.2)
