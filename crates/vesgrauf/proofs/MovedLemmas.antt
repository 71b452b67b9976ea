-- A stream is moved to the place of another priority.
use Rattle.std.proofs.Common.{◌≡◌, ◌==◌, ◌-◌, ◌||◌, ◌&&◌, not, ℕ, List, Option, Some, Bool, true, false, refl, arith, sym, ap, ◌∙◌}
use Rattle.std.specs.Prelude.{MatchBool}
use Rattle.std.specs.Ordering.{nat_cmp}
use Rattle.std.specs.Map.{set_value}
use Rattle.std.specs.BTreeMap.{is_at}
use Rattle.vesgrauf_ready.specs.declared.rank.Priority.{Priority}
use Rattle.vesgrauf_ready.specs.declared.rank.Rank.{Rank}
use Rattle.vesgrauf_ready.specs.Ranks.{class_of, rank_of, is_same}
use Rattle.vesgrauf_ready.specs.Turns.{State, is_ready, Joins, Leaves}
use Rattle.vesgrauf.specs.declared.entry.Entry.{Entry}
use Rattle.vesgrauf.specs.Own.{entry_at}
use Rattle.vesgrauf.specs.Places.{Ordered, MovesPlace, IsMoved, is_later, is_sending}
use Rattle.vesgrauf.specs.Streams.{kind_of_entry}
use Rattle.vesgrauf.proofs.PlaceLemmas.{and_true, at_id, at_itself, joins_here, joins_there, leaves_here, leaves_there, ordered_at, set_at, was_here}

-- ---- its priority changes

differs_by : (id a b : ℕ) → (a == b && id == id) ≡ false → (a == b) ≡ false
differs_by id a b h = sym (and_true (a == b)) ∙ (ap (λ c. a == b && c) (sym (itself id)) ∙ h)
  where
    itself : (n : ℕ) → (n == n) ≡ true
    itself n = grind arith

two_by : (id c a b : ℕ) → (a == b && id == id) ≡ false → (c == a) ≡ true → (c == b) ≡ false
two_by id c a b h k = let apart : (a == b) ≡ false = differs_by id a b h in grind (arith, apart, k)

moved_by : (es : List (ℕ × Entry)) (r s : State) (later : Option ℕ) (id : ℕ) (e f : Entry) (a b : Bool)
    → entry_at es id ≡ Some e → is_ready (rank_of id (kind_of_entry e)) r.ranks ≡ a
    → is_same (rank_of id (kind_of_entry e)) (rank_of id (kind_of_entry f)) ≡ b → is_sending f ≡ is_sending e
    → MatchBool (a && not b) ((u : State) × Joins (rank_of id (kind_of_entry f)) r u × Leaves (rank_of id (kind_of_entry e)) u s) (s ≡ r)
    → Ordered es r.ranks later → Ordered (set_value (is_at (nat_cmp id)) es f) s.ranks later
moved_by es r s later id e f true false at ready other sends (u, j, l) g =
    ordered_at es (set_value (is_at (nat_cmp id)) es f) r.ranks s.ranks later later id (Some f) (set_at es id e f at)
    (λ x h. leaves_there id (kind_of_entry e) u s l x h ∙ joins_there id (kind_of_entry f) r u j x h) (λ k h. refl)
    (λ x h. leaves_here id (kind_of_entry e) u s l x h
    ∙ (ap (λ b. not (x.class == class_of (kind_of_entry e)) && b) (joins_here id (kind_of_entry f) r u j x h
    ∙ ap (λ b. x.class == class_of (kind_of_entry f) || b) (was_here es r.ranks later id e at g x h))
    ∙ (moves (x.class == class_of (kind_of_entry e)) (x.class == class_of (kind_of_entry f)) (is_sending e)
    (not (is_later x.id later)) (two x) (is.0) (ap (λ k. not (is_later k later)) (at_id id x.id h) ∙ is.1)
    ∙ sym (ap (λ b. (b && x.class == class_of (kind_of_entry f)) && not (is_later x.id later)) sends)))) g
  where
    both : (p q n : Bool) → ((p && q) && n) ≡ true → (p ≡ true) × (n ≡ true)
    both true true n h = (refl, h)
    both true false n h = absurd (let bad : false ≡ true = h in cc)
    both false q n h = absurd (let bad : false ≡ true = h in cc)

    is : (is_sending e ≡ true) × (not (is_later id later) ≡ true)
    is = both (is_sending e) (class_of (kind_of_entry e) == class_of (kind_of_entry e)) (not (is_later id later))
        (sym (was_here es r.ranks later id e at g (rank_of id (kind_of_entry e)) (at_itself id)) ∙ ready)

    two : (x : Rank) → (x.class == class_of (kind_of_entry e)) ≡ true → (x.class == class_of (kind_of_entry f)) ≡ false
    two x h = two_by id x.class (class_of (kind_of_entry e)) (class_of (kind_of_entry f)) other h

    moves : (c d p n : Bool) → (c ≡ true → d ≡ false) → p ≡ true → n ≡ true
        → (not c && (d || ((p && c) && n))) ≡ ((p && d) && n)
    moves true d true true apart h k = sym (ap (λ b. b && true) (apart refl))
    moves false true true true apart h k = refl
    moves false false true true apart h k = refl
    moves c d false n apart h k = absurd (let bad : false ≡ true = h in cc)
    moves c d true false apart h k = absurd (let bad : false ≡ true = k in cc)
moved_by es r s later id e f true true at ready same sends still g = rw still
    (ordered_at es (set_value (is_at (nat_cmp id)) es f) r.ranks r.ranks later later id (Some f) (set_at es id e f at)
    (λ x h. refl) (λ k h. refl)
    (λ x h. was_here es r.ranks later id e at g x h
    ∙ (ap (λ b. (b && x.class == class_of (kind_of_entry e)) && not (is_later x.id later)) (sym sends)
    ∙ ap (λ b. (is_sending f && b) && not (is_later x.id later)) (one x))) g)
  where
    one : (x : Rank) → (x.class == class_of (kind_of_entry e)) ≡ (x.class == class_of (kind_of_entry f))
    one x = grind (arith, same)
moved_by es r s later id e f false b at ready same sends still g = rw still
    (ordered_at es (set_value (is_at (nat_cmp id)) es f) r.ranks r.ranks later later id (Some f) (set_at es id e f at)
    (λ x h. refl) (λ k h. refl)
    (λ x h. was_here es r.ranks later id e at g x h
    ∙ (none (is_sending e) (x.class == class_of (kind_of_entry e)) (not (is_later x.id later))
    (ap (λ k. is_sending e && not (is_later k later)) (at_id id x.id h) ∙ off)
    ∙ sym (ap (λ b. (b && x.class == class_of (kind_of_entry f)) && not (is_later x.id later)) sends
    ∙ none (is_sending e) (x.class == class_of (kind_of_entry f)) (not (is_later x.id later))
    (ap (λ k. is_sending e && not (is_later k later)) (at_id id x.id h) ∙ off)))) g)
  where
    itself : (n : ℕ) → (n == n) ≡ true
    itself n = grind arith

    off : (is_sending e && not (is_later id later)) ≡ false
    off = ap (λ b. b && not (is_later id later)) (sym (and_true (is_sending e)))
        ∙ (ap (λ b. (is_sending e && b) && not (is_later id later)) (sym (itself (class_of (kind_of_entry e))))
        ∙ (sym (was_here es r.ranks later id e at g (rank_of id (kind_of_entry e)) (at_itself id)) ∙ ready))

    none : (p c n : Bool) → (p && n) ≡ false → ((p && c) && n) ≡ false
    none true true n h = h
    none true false n h = refl
    none false c n h = refl

pub ordered_moved : (es : List (ℕ × Entry)) (r s : State) (later : Option ℕ) (id : ℕ) (e f : Entry) (p : Priority)
    → entry_at es id ≡ Some e → MovesPlace id e p r s → f ≡ record e { priority = p }
    → Ordered es r.ranks later → Ordered (set_value (is_at (nat_cmp id)) es f) s.ranks later
ordered_moved es r s later id e f p at (IsMoved moves) same g = rw same
    (moved_by es r s later id e (record e { priority = p }) (is_ready (rank_of id (kind_of_entry e)) r.ranks)
    (is_same (rank_of id (kind_of_entry e)) (rank_of id (kind_of_entry (record e { priority = p })))) at refl refl
    refl moves g)
