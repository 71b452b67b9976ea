-- Places in the order of sending.
use Rattle.std.proofs.Common.{◌≡◌, ◌==◌, ◌-◌, ◌||◌, ◌&&◌, not, ℕ, List, [], Option, Some, None, Bool, true, false, cond, refl, arith, sym, ap, subst, ◌∙◌}
use Rattle.std.specs.Prelude.{MatchBool}
use Rattle.std.specs.Ordering.{nat_cmp}
use Rattle.std.specs.Map.{set_value}
use Rattle.std.specs.BTreeMap.{is_at}
use Rattle.std.proofs.lemmas.Map.{lookup-set_value}
use Rattle.std.proofs.lemmas.Cmp.{eq_by_cmp_equiv, nat_cmp_total}
use Rattle.vesgrauf_ready.specs.declared.rank.Kind.{Kind}
use Rattle.vesgrauf_ready.specs.declared.rank.Rank.{Rank}
use Rattle.vesgrauf_ready.specs.Ranks.{class_of, rank_of, is_same}
use Rattle.vesgrauf_ready.specs.Turns.{State, is_ready, Joins, Leaves, after_turn}
use Rattle.vesgrauf_streams.specs.Streams.{Streams, Updates}
use Rattle.vesgrauf.specs.declared.entry.Entry.{Entry}
use Rattle.vesgrauf.specs.Own.{entry_at}
use Rattle.vesgrauf.specs.Places.{Ordered, EachOrdered, GivesPlace, Gives, TakesPlace, Takes, Waits, KeepsPlace, Keeps, Leaves as Leaving, has_more, is_later, is_sending, not_later, sends_in}
use Rattle.vesgrauf.specs.Streams.{kind_of_entry, may_send}

-- ---- the places of one stream

none_of : (a c n : Bool) → (not c && ((a && c) && n)) ≡ false
none_of a true n = refl
none_of true false n = refl
none_of false false n = refl

all_of : (a c n : Bool) → (c || ((a && c) && n)) ≡ c
all_of a true n = refl
all_of true false n = refl
all_of false false n = refl

left_of : (a c n : Bool) → (not c && (c || ((a && c) && n))) ≡ false
left_of a true n = refl
left_of true false n = refl
left_of false false n = refl

pub and_true : (a : Bool) → (a && true) ≡ a
and_true true = refl
and_true false = refl

and_false : (a : Bool) → (a && false) ≡ false
and_false true = refl
and_false false = refl

same_here : (id : ℕ) (kind : Kind) (x : Rank) → is_at (nat_cmp id) x.id ≡ true
    → is_same (rank_of id kind) x ≡ (x.class == class_of kind)
same_here id kind x h = grind (arith, h)

same_there : (id : ℕ) (kind : Kind) (x : Rank) → is_at (nat_cmp id) x.id ≡ false → is_same (rank_of id kind) x ≡ false
same_there id kind x h = grind (arith, h)

pub joins_here : (id : ℕ) (kind : Kind) (r s : State) → Joins (rank_of id kind) r s → (x : Rank)
    → is_at (nat_cmp id) x.id ≡ true → is_ready x s.ranks ≡ (x.class == class_of kind || is_ready x r.ranks)
joins_here id kind r s j x h = j.1 x ∙ ap (λ b. b || is_ready x r.ranks) (same_here id kind x h)

pub joins_there : (id : ℕ) (kind : Kind) (r s : State) → Joins (rank_of id kind) r s → (x : Rank)
    → is_at (nat_cmp id) x.id ≡ false → is_ready x s.ranks ≡ is_ready x r.ranks
joins_there id kind r s j x h = j.1 x ∙ ap (λ b. b || is_ready x r.ranks) (same_there id kind x h)

pub leaves_here : (id : ℕ) (kind : Kind) (r s : State) → Leaves (rank_of id kind) r s → (x : Rank)
    → is_at (nat_cmp id) x.id ≡ true → is_ready x s.ranks ≡ (not (x.class == class_of kind) && is_ready x r.ranks)
leaves_here id kind r s l x h = l.1 x ∙ ap (λ b. not b && is_ready x r.ranks) (same_here id kind x h)

pub leaves_there : (id : ℕ) (kind : Kind) (r s : State) → Leaves (rank_of id kind) r s → (x : Rank)
    → is_at (nat_cmp id) x.id ≡ false → is_ready x s.ranks ≡ is_ready x r.ranks
leaves_there id kind r s l x h = l.1 x ∙ ap (λ b. not b && is_ready x r.ranks) (same_there id kind x h)

-- ---- which one is given its place later

same_id : (m n : ℕ) → (m == n) ≡ true → n ≡ m
same_id m n h = grind (arith, h)

later_here : (id k : ℕ) → is_at (nat_cmp id) k ≡ true → (later : Option ℕ) → is_later k (not_later id later) ≡ false
later_here id k h None = refl
later_here id k h (Some other) = by (other == id) (λ e. apart other e)
  where
    apart : (n : ℕ) → (n == id) ≡ false → (n == k) ≡ false
    apart n e = grind (arith, h, e)

    by : (a : Bool) → (a ≡ false → (other == k) ≡ false) → is_later k (cond a None (Some other)) ≡ false
    by true e = refl
    by false e = e refl

later_there : (id k : ℕ) → is_at (nat_cmp id) k ≡ false → (later : Option ℕ) → is_later k (not_later id later) ≡ is_later k later
later_there id k h None = refl
later_there id k h (Some other) = by (other == id) (λ e. apart other e)
  where
    apart : (n : ℕ) → (n == id) ≡ true → (n == k) ≡ false
    apart n e = grind (arith, h, e)

    by : (a : Bool) → (a ≡ true → (other == k) ≡ false) → is_later k (cond a None (Some other)) ≡ is_later k (Some other)
    by true e = sym (e refl)
    by false e = refl

now_there : (id k : ℕ) → is_at (nat_cmp id) k ≡ false → is_later k (Some id) ≡ false
now_there id k h = grind (arith, h)

now_here : (id k : ℕ) → is_at (nat_cmp id) k ≡ true → is_later k (Some id) ≡ true
now_here id k h = grind (arith, h)

-- ---- one stream changes

pub at_itself : (id : ℕ) → is_at (nat_cmp id) id ≡ true
at_itself id = grind arith

pub at_id : (id k : ℕ) → is_at (nat_cmp id) k ≡ true → k ≡ id
at_id id k h = grind (arith, h)

pub set_at : (es : List (ℕ × Entry)) (id : ℕ) (e f : Entry) → entry_at es id ≡ Some e → (k : ℕ)
    → entry_at (set_value (is_at (nat_cmp id)) es f) k ≡ cond (is_at (nat_cmp id) k) (Some f) (entry_at es k)
set_at es id e f h k = lookup-set_value (eq_by_cmp_equiv nat_cmp_total) (is_at (nat_cmp id))
    (λ x y at. rw (at_id id x at) refl) k f es (rw h refl)

own_at : (es : List (ℕ × Entry)) (id k : ℕ) → entry_at es k ≡ cond (is_at (nat_cmp id) k) (entry_at es id) (entry_at es k)
own_at es id k = by (is_at (nat_cmp id) k) (λ h. rw (at_id id k h) refl)
  where
    by : (b : Bool) → (b ≡ true → entry_at es k ≡ entry_at es id) → entry_at es k ≡ cond b (entry_at es id) (entry_at es k)
    by true h = h refl
    by false h = refl

-- only this stream changes, and its places
pub ordered_at : (es fs : List (ℕ × Entry)) (r s : List Rank) (later next : Option ℕ) (id : ℕ) (w : Option Entry)
    → ((k : ℕ) → entry_at fs k ≡ cond (is_at (nat_cmp id) k) w (entry_at es k))
    → ((x : Rank) → is_at (nat_cmp id) x.id ≡ false → is_ready x s ≡ is_ready x r)
    → ((k : ℕ) → is_at (nat_cmp id) k ≡ false → is_later k next ≡ is_later k later)
    → ((x : Rank) → is_at (nat_cmp id) x.id ≡ true → is_ready x s ≡ (sends_in x w && not (is_later x.id next)))
    → Ordered es r later → Ordered fs s next
ordered_at es fs r s later next id w sets there other here (EachOrdered g) =
    EachOrdered (λ x. by x (is_at (nat_cmp id) x.id) refl)
  where
    by : (x : Rank) (b : Bool) → is_at (nat_cmp id) x.id ≡ b
        → is_ready x s ≡ (sends_in x (entry_at fs x.id) && not (is_later x.id next))
    by x true h = here x h ∙ ap (λ o. sends_in x o && not (is_later x.id next))
        (sym (sets x.id ∙ ap (λ b. cond b w (entry_at es x.id)) h))
    by x false h = there x h ∙ (g x ∙ (
        ap (λ o. sends_in x o && not (is_later x.id later)) (sym (sets x.id ∙ ap (λ b. cond b w (entry_at es x.id)) h))
        ∙ ap (λ b. sends_in x (entry_at fs x.id) && not b) (sym (other x.id h))))

-- the places that a stream had
pub was_here : (es : List (ℕ × Entry)) (r : List Rank) (later : Option ℕ) (id : ℕ) (e : Entry) → entry_at es id ≡ Some e
    → Ordered es r later → (x : Rank) → is_at (nat_cmp id) x.id ≡ true
    → is_ready x r ≡ ((is_sending e && x.class == class_of (kind_of_entry e)) && not (is_later x.id later))
was_here es r later id e at (EachOrdered g) x h =
    g x ∙ ap (λ o. sends_in x o && not (is_later x.id later)) (ap (λ k. entry_at es k) (at_id id x.id h) ∙ at)

-- it sends as it did
ordered_as : (es : List (ℕ × Entry)) (r : List Rank) (later : Option ℕ) (id : ℕ) (e f : Entry) → entry_at es id ≡ Some e
    → is_sending f ≡ is_sending e → kind_of_entry f ≡ kind_of_entry e
    → Ordered es r later → Ordered (set_value (is_at (nat_cmp id)) es f) r later
ordered_as es r later id e f at sends kind g =
    ordered_at es (set_value (is_at (nat_cmp id)) es f) r r later later id (Some f) (set_at es id e f at)
    (λ x h. refl) (λ k h. refl)
    (λ x h. was_here es r later id e at g x h
    ∙ (ap (λ b. (b && x.class == class_of (kind_of_entry e)) && not (is_later x.id later)) (sym sends)
    ∙ ap (λ k. (is_sending f && x.class == class_of k) && not (is_later x.id later)) (sym kind))) g

sends_as : (e f : Entry) → has_more f.writing.queue ≡ has_more e.writing.queue
    → f.is_opened ≡ e.is_opened → f.is_blocked ≡ e.is_blocked → is_sending f ≡ is_sending e
sends_as e f m o b = rw (m, o, b) refl

kind_as : (e f : Entry) → f.priority ≡ e.priority → kind_of_entry f ≡ kind_of_entry e
kind_as e f p = rw p refl

-- as much waits on it as did, in this sense
pub ordered_step : (es : List (ℕ × Entry)) (r : List Rank) (later : Option ℕ) (id : ℕ) (e f : Entry)
    → entry_at es id ≡ Some e → has_more f.writing.queue ≡ has_more e.writing.queue
    → f.is_opened ≡ e.is_opened → f.is_blocked ≡ e.is_blocked → f.priority ≡ e.priority
    → Ordered es r later → Ordered (set_value (is_at (nat_cmp id)) es f) r later
ordered_step es r later id e f at m o b p g = ordered_as es r later id e f at (sends_as e f m o b) (kind_as e f p) g

-- its queue does not change
pub ordered_same : (es : List (ℕ × Entry)) (r : List Rank) (later : Option ℕ) (id : ℕ) (e f : Entry)
    → entry_at es id ≡ Some e → f.writing.queue ≡ e.writing.queue
    → f.is_opened ≡ e.is_opened → f.is_blocked ≡ e.is_blocked → f.priority ≡ e.priority
    → Ordered es r later → Ordered (set_value (is_at (nat_cmp id)) es f) r later
ordered_same es r later id e f at q o b p g = ordered_step es r later id e f at (ap (λ v. has_more v) q) o b p g

-- its own half does not change
pub ordered_half : (es : List (ℕ × Entry)) (r : List Rank) (later : Option ℕ) (id : ℕ) (e f : Entry)
    → entry_at es id ≡ Some e → f.writing ≡ e.writing
    → f.is_opened ≡ e.is_opened → f.is_blocked ≡ e.is_blocked → f.priority ≡ e.priority
    → Ordered es r later → Ordered (set_value (is_at (nat_cmp id)) es f) r later
ordered_half es r later id e f at w o b p g = ordered_same es r later id e f at (ap (λ v. v.queue) w) o b p g

quiet_sends : (e : Entry) → has_more e.writing.queue ≡ false → is_sending e ≡ false
quiet_sends e h = ap (λ b. may_send e && b) h ∙ and_false (may_send e)

-- it may not be sent from, as before
ordered_off : (es : List (ℕ × Entry)) (r : List Rank) (later : Option ℕ) (id : ℕ) (e f : Entry)
    → entry_at es id ≡ Some e → is_sending e ≡ false → is_sending f ≡ false
    → Ordered es r later → Ordered (set_value (is_at (nat_cmp id)) es f) r later
ordered_off es r later id e f at before after g =
    ordered_at es (set_value (is_at (nat_cmp id)) es f) r r later later id (Some f) (set_at es id e f at)
    (λ x h. refl) (λ k h. refl)
    (λ x h. was_here es r later id e at g x h
    ∙ (ap (λ b. (b && x.class == class_of (kind_of_entry e)) && not (is_later x.id later)) before
    ∙ sym (ap (λ b. (b && x.class == class_of (kind_of_entry f)) && not (is_later x.id later)) after))) g

-- nothing waits on it, as before
pub ordered_quiet : (es : List (ℕ × Entry)) (r : List Rank) (later : Option ℕ) (id : ℕ) (e f : Entry)
    → entry_at es id ≡ Some e → has_more e.writing.queue ≡ false → has_more f.writing.queue ≡ false
    → Ordered es r later → Ordered (set_value (is_at (nat_cmp id)) es f) r later
ordered_quiet es r later id e f at before after g = ordered_off es r later id e f at (quiet_sends e before) (quiet_sends f after) g

blocked_sends : (e : Entry) → e.is_blocked ≡ true → is_sending e ≡ false
blocked_sends e h = ap (λ b. (e.is_opened && not b) && has_more e.writing.queue) h
    ∙ ap (λ b. b && has_more e.writing.queue) (and_false e.is_opened)

closed_sends : (e : Entry) → e.is_opened ≡ false → is_sending e ≡ false
closed_sends e h = ap (λ b. (b && not e.is_blocked) && has_more e.writing.queue) h

-- QUIC takes nothing of it, as before
pub ordered_blocked_on : (es : List (ℕ × Entry)) (r : List Rank) (later : Option ℕ) (id : ℕ) (e f : Entry)
    → entry_at es id ≡ Some e → e.is_blocked ≡ true → f.is_blocked ≡ true
    → Ordered es r later → Ordered (set_value (is_at (nat_cmp id)) es f) r later
ordered_blocked_on es r later id e f at before after g =
    ordered_off es r later id e f at (blocked_sends e before) (blocked_sends f after) g

-- QUIC has not opened it, as before
pub ordered_closed : (es : List (ℕ × Entry)) (r : List Rank) (later : Option ℕ) (id : ℕ) (e f : Entry)
    → entry_at es id ≡ Some e → e.is_opened ≡ false → f.is_opened ≡ false
    → Ordered es r later → Ordered (set_value (is_at (nat_cmp id)) es f) r later
ordered_closed es r later id e f at before after g =
    ordered_off es r later id e f at (closed_sends e before) (closed_sends f after) g

-- ---- and its places

-- a stream loses its place
ordered_left : (es fs : List (ℕ × Entry)) (r s : State) (later : Option ℕ) (id : ℕ) (e : Entry) (w : Option Entry)
    → entry_at es id ≡ Some e → ((k : ℕ) → entry_at fs k ≡ cond (is_at (nat_cmp id) k) w (entry_at es k))
    → ((x : Rank) → sends_in x w ≡ false) → Leaves (rank_of id (kind_of_entry e)) r s
    → Ordered es r.ranks later → Ordered fs s.ranks later
ordered_left es fs r s later id e w at sets none l g = ordered_at es fs r.ranks s.ranks later later id w sets
    (leaves_there id (kind_of_entry e) r s l) (λ k h. refl)
    (λ x h. leaves_here id (kind_of_entry e) r s l x h
    ∙ (ap (λ b. not (x.class == class_of (kind_of_entry e)) && b) (was_here es r.ranks later id e at g x h)
    ∙ (none_of (is_sending e) (x.class == class_of (kind_of_entry e)) (not (is_later x.id later))
    ∙ sym (ap (λ b. b && not (is_later x.id later)) (none x))))) g

no_sends : (f : Entry) → is_sending f ≡ false → (x : Rank) → sends_in x (Some f) ≡ false
no_sends f h x = ap (λ b. b && x.class == class_of (kind_of_entry f)) h

-- a stream loses its place on which nothing waits any more
pub ordered_over : (es : List (ℕ × Entry)) (r s : State) (later : Option ℕ) (id : ℕ) (e f : Entry)
    → entry_at es id ≡ Some e → has_more f.writing.queue ≡ false → Leaves (rank_of id (kind_of_entry e)) r s
    → Ordered es r.ranks later → Ordered (set_value (is_at (nat_cmp id)) es f) s.ranks later
ordered_over es r s later id e f at none l g = ordered_left es (set_value (is_at (nat_cmp id)) es f) r s later id e (Some f) at
    (set_at es id e f at) (no_sends f (quiet_sends f none)) l g

-- one of which QUIC takes nothing for now
pub ordered_blocked : (es : List (ℕ × Entry)) (r s : State) (later : Option ℕ) (id : ℕ) (e f : Entry)
    → entry_at es id ≡ Some e → f.is_blocked ≡ true → Leaves (rank_of id (kind_of_entry e)) r s
    → Ordered es r.ranks later → Ordered (set_value (is_at (nat_cmp id)) es f) s.ranks later
ordered_blocked es r s later id e f at blocked l g =
    ordered_left es (set_value (is_at (nat_cmp id)) es f) r s later id e (Some f) at
    (set_at es id e f at) (no_sends f (blocked_sends f blocked)) l g

-- one that is removed
pub ordered_removed : (m n : Streams Entry) (r s : State) (later : Option ℕ) (id : ℕ) (e : Entry)
    → Some e ≡ entry_at m.entries id → Updates m n id None → Leaves (rank_of id (kind_of_entry e)) r s
    → Ordered m.entries r.ranks later → Ordered n.entries s.ranks later
ordered_removed m n r s later id e at u l g =
    ordered_left m.entries n.entries r s later id e None (sym at) u.0 (λ x. refl) l g

-- one that another takes the place of, which QUIC has not opened
pub ordered_replaced : (m n : Streams Entry) (r s : State) (later : Option ℕ) (id : ℕ) (e f : Entry)
    → Some e ≡ entry_at m.entries id → f.is_opened ≡ false → Updates m n id (Some f)
    → Leaves (rank_of id (kind_of_entry e)) r s → Ordered m.entries r.ranks later → Ordered n.entries s.ranks later
ordered_replaced m n r s later id e f at closed u l g =
    ordered_left m.entries n.entries r s later id e (Some f) (sym at) u.0 (no_sends f (closed_sends f closed)) l g

ordered_new : (m n : Streams Entry) (r : List Rank) (later : Option ℕ) (id : ℕ) (f : Entry)
    → entry_at m.entries id ≡ None → is_sending f ≡ false → Updates m n id (Some f)
    → Ordered m.entries r later → Ordered n.entries r later
ordered_new m n r later id f at none u (EachOrdered g) =
    ordered_at m.entries n.entries r r later later id (Some f) u.0 (λ x h. refl) (λ k h. refl)
    (λ x h. g x ∙ (ap (λ o. sends_in x o && not (is_later x.id later)) (ap (λ k. entry_at m.entries k) (at_id id x.id h) ∙ at)
    ∙ sym (ap (λ b. b && not (is_later x.id later)) (no_sends f none x)))) (EachOrdered g)

-- a stream is new that QUIC has not opened, or on which nothing waits
pub ordered_new_closed : (m n : Streams Entry) (r : List Rank) (later : Option ℕ) (id : ℕ) (f : Entry)
    → None ≡ entry_at m.entries id → f.is_opened ≡ false → Updates m n id (Some f)
    → Ordered m.entries r later → Ordered n.entries r later
ordered_new_closed m n r later id f at closed u g = ordered_new m n r later id f (sym at) (closed_sends f closed) u g

pub ordered_new_quiet : (m n : Streams Entry) (r : List Rank) (later : Option ℕ) (id : ℕ) (f : Entry)
    → entry_at m.entries id ≡ None → has_more f.writing.queue ≡ false → Updates m n id (Some f)
    → Ordered m.entries r later → Ordered n.entries r later
ordered_new_quiet m n r later id f at none u g = ordered_new m n r later id f at (quiet_sends f none) u g

-- a stream is given its place, and may be sent from
given_by : (es fs : List (ℕ × Entry)) (r s : State) (later next : Option ℕ) (id : ℕ) (e f : Entry)
    → entry_at es id ≡ Some e → ((k : ℕ) → entry_at fs k ≡ cond (is_at (nat_cmp id) k) (Some f) (entry_at es k))
    → GivesPlace id e r s later next → is_sending f ≡ true → kind_of_entry f ≡ kind_of_entry e
    → Ordered es r.ranks later → Ordered fs s.ranks next
given_by es fs r s later next id e f at sets (Gives j n) sends kind g = ordered_at es fs r.ranks s.ranks later next id (Some f) sets
    (joins_there id (kind_of_entry e) r s j)
    (λ k h. ap (λ o. is_later k o) n ∙ later_there id k h later)
    (λ x h. joins_here id (kind_of_entry e) r s j x h
    ∙ (ap (λ b. x.class == class_of (kind_of_entry e) || b) (was_here es r.ranks later id e at g x h)
    ∙ (all_of (is_sending e) (x.class == class_of (kind_of_entry e)) (not (is_later x.id later))
    ∙ sym (ap (λ b. (b && x.class == class_of (kind_of_entry f)) && not (is_later x.id next)) sends
    ∙ (ap (λ k. (x.class == class_of k) && not (is_later x.id next)) kind
    ∙ (ap (λ o. (x.class == class_of (kind_of_entry e)) && not (is_later x.id o)) n
    ∙ (ap (λ b. (x.class == class_of (kind_of_entry e)) && not b) (later_here id x.id h later)
    ∙ and_true (x.class == class_of (kind_of_entry e))))))))) g

pub ordered_given : (es : List (ℕ × Entry)) (r s : State) (later next : Option ℕ) (id : ℕ) (e f : Entry)
    → entry_at es id ≡ Some e → GivesPlace id e r s later next
    → f.is_opened ≡ true → f.is_blocked ≡ false → has_more f.writing.queue ≡ true → f.priority ≡ e.priority
    → Ordered es r.ranks later → Ordered (set_value (is_at (nat_cmp id)) es f) s.ranks next
ordered_given es r s later next id e f at j o b m p g =
    given_by es (set_value (is_at (nat_cmp id)) es f) r s later next id e f at (set_at es id e f at) j
    (rw (o, b, m) refl) (kind_as e f p) g

-- a stream has its place while bytes are queued, and keeps it only if some wait
sent_by : (m w : Bool) (es : List (ℕ × Entry)) (r u s : State) (later next : Option ℕ) (id : ℕ) (e f : Entry)
    → entry_at es id ≡ Some e → may_send e ≡ m → has_more f.writing.queue ≡ w
    → MatchBool m (GivesPlace id e r u later next) ((u ≡ r) × (next ≡ later))
    → MatchBool w (s ≡ u) (Leaves (rank_of id (kind_of_entry f)) u s)
    → may_send f ≡ may_send e → kind_of_entry f ≡ kind_of_entry e
    → Ordered es r.ranks later → Ordered (set_value (is_at (nat_cmp id)) es f) s.ranks next
sent_by true true es r u s later next id e f at may more takes keeps same kind g =
    rw keeps (given_by es (set_value (is_at (nat_cmp id)) es f) r u later next id e f at (set_at es id e f at) takes
    (ap (λ b. may_send f && b) more ∙ (and_true (may_send f) ∙ (same ∙ may))) kind g)
sent_by true false es r u s later next id e f at may more (Gives j n) keeps same kind g =
    let l : Leaves (rank_of id (kind_of_entry e)) u s = subst (λ k. Leaves (rank_of id k) u s) kind keeps in
    ordered_at es (set_value (is_at (nat_cmp id)) es f) r.ranks s.ranks later next id (Some f) (set_at es id e f at)
    (λ x h. leaves_there id (kind_of_entry e) u s l x h ∙ joins_there id (kind_of_entry e) r u j x h)
    (λ k h. ap (λ o. is_later k o) n ∙ later_there id k h later)
    (λ x h. leaves_here id (kind_of_entry e) u s l x h
    ∙ (ap (λ b. not (x.class == class_of (kind_of_entry e)) && b) (joins_here id (kind_of_entry e) r u j x h
    ∙ ap (λ b. x.class == class_of (kind_of_entry e) || b) (was_here es r.ranks later id e at g x h))
    ∙ (left_of (is_sending e) (x.class == class_of (kind_of_entry e)) (not (is_later x.id later))
    ∙ sym (ap (λ b. b && not (is_later x.id next)) (no_sends f (quiet_sends f more) x))))) g
sent_by false true es r u s later next id e f at may more (i, n) keeps same kind g =
    rw (keeps, i, n) (ordered_off es r.ranks later id e f at
    (ap (λ b. b && has_more e.writing.queue) may) (ap (λ b. b && has_more f.writing.queue) (same ∙ may)) g)
sent_by false false es r u s later next id e f at may more (i, n) keeps same kind g =
    rw n (ordered_left es (set_value (is_at (nat_cmp id)) es f) r s later id e (Some f) at (set_at es id e f at)
    (no_sends f (quiet_sends f more))
    (subst (λ v. Leaves (rank_of id (kind_of_entry e)) v s) i (subst (λ k. Leaves (rank_of id k) u s) kind keeps)) g)

may_as : (e f : Entry) → f.is_opened ≡ e.is_opened → f.is_blocked ≡ e.is_blocked → may_send f ≡ may_send e
may_as e f o b = rw (o, b) refl

pub ordered_sent : (es : List (ℕ × Entry)) (r u s : State) (later next : Option ℕ) (id : ℕ) (e f : Entry)
    → entry_at es id ≡ Some e → KeepsPlace id f u s → TakesPlace id e r u later next
    → f.is_opened ≡ e.is_opened → f.is_blocked ≡ e.is_blocked → f.priority ≡ e.priority
    → Ordered es r.ranks later → Ordered (set_value (is_at (nat_cmp id)) es f) s.ranks next
ordered_sent es r u s later next id e f at (Keeps more keeps) (Takes may takes) o b p g =
    sent_by true true es r u s later next id e f at may more takes keeps (may_as e f o b) (kind_as e f p) g
ordered_sent es r u s later next id e f at (Leaving more keeps) (Takes may takes) o b p g =
    sent_by true false es r u s later next id e f at may more takes keeps (may_as e f o b) (kind_as e f p) g
ordered_sent es r u s later next id e f at (Keeps more keeps) (Waits may i n) o b p g =
    sent_by false true es r u s later next id e f at may more (i, n) keeps (may_as e f o b) (kind_as e f p) g
ordered_sent es r u s later next id e f at (Leaving more keeps) (Waits may i n) o b p g =
    sent_by false false es r u s later next id e f at may more (i, n) keeps (may_as e f o b) (kind_as e f p) g

-- it keeps its place only if some wait, as did before
kept_by : (w : Bool) (es : List (ℕ × Entry)) (r s : State) (later : Option ℕ) (id : ℕ) (e f : Entry)
    → entry_at es id ≡ Some e → has_more f.writing.queue ≡ w → (w ≡ true → has_more e.writing.queue ≡ true)
    → MatchBool w (s ≡ r) (Leaves (rank_of id (kind_of_entry f)) r s)
    → f.is_opened ≡ e.is_opened → f.is_blocked ≡ e.is_blocked → f.priority ≡ e.priority
    → Ordered es r.ranks later → Ordered (set_value (is_at (nat_cmp id)) es f) s.ranks later
kept_by true es r s later id e f at more before keeps o b p g =
    rw keeps (ordered_step es r.ranks later id e f at (more ∙ sym (before refl)) o b p g)
kept_by false es r s later id e f at more before keeps o b p g =
    ordered_over es r s later id e f at more (subst (λ k. Leaves (rank_of id k) r s) (kind_as e f p) keeps) g

pub ordered_kept : (es : List (ℕ × Entry)) (r s : State) (later : Option ℕ) (id : ℕ) (e f : Entry)
    → entry_at es id ≡ Some e → (has_more f.writing.queue ≡ true → has_more e.writing.queue ≡ true)
    → KeepsPlace id f r s
    → f.is_opened ≡ e.is_opened → f.is_blocked ≡ e.is_blocked → f.priority ≡ e.priority
    → Ordered es r.ranks later → Ordered (set_value (is_at (nat_cmp id)) es f) s.ranks later
ordered_kept es r s later id e f at before (Keeps more keeps) o b p g =
    kept_by true es r s later id e f at more (λ h. before more) keeps o b p g
ordered_kept es r s later id e f at before (Leaving more keeps) o b p g =
    kept_by false es r s later id e f at more (λ h. absurd (let bad : false ≡ true = h in cc)) keeps o b p g

turn_by : (b : Bool) (x y : State) → x.ranks ≡ y.ranks → (cond b x y).ranks ≡ y.ranks
turn_by true x y h = h
turn_by false x y h = refl

-- and a turn of it was taken before
pub ordered_turned : (es : List (ℕ × Entry)) (r u s : State) (later : Option ℕ) (id : ℕ) (e f : Entry) (x : Rank)
    → entry_at es id ≡ Some e → (has_more f.writing.queue ≡ true → has_more e.writing.queue ≡ true)
    → u ≡ after_turn x r → KeepsPlace id f u s
    → f.is_opened ≡ e.is_opened → f.is_blocked ≡ e.is_blocked → f.priority ≡ e.priority
    → Ordered es r.ranks later → Ordered (set_value (is_at (nat_cmp id)) es f) s.ranks later
ordered_turned es r u s later id e f x at before turn keeps o b p g =
    ordered_kept es u s later id e f at before keeps o b p
    (subst (λ rs. Ordered es rs later) (sym (ap (λ v. v.ranks) turn ∙ turn_by (r.left == 1) _ _ refl)) g)

-- nothing waited on it, and it is given its place later
later_by : (w : Bool) (es : List (ℕ × Entry)) (r s : State) (id : ℕ) (e f : Entry)
    → entry_at es id ≡ Some e → has_more e.writing.queue ≡ false
    → MatchBool w (s ≡ r) (Leaves (rank_of id (kind_of_entry f)) r s)
    → Ordered es r.ranks None → Ordered (set_value (is_at (nat_cmp id)) es f) s.ranks (Some id)
later_by w es r s id e f at none keeps g = ordered_at es (set_value (is_at (nat_cmp id)) es f) r.ranks s.ranks None (Some id) id
    (Some f) (set_at es id e f at) (there w keeps) (λ k h. now_there id k h)
    (λ x h. here w keeps x h ∙ sym (ap (λ b. sends_in x (Some f) && not b) (now_here id x.id h) ∙ and_false (sends_in x (Some f)))) g
  where
    was : (x : Rank) → is_at (nat_cmp id) x.id ≡ true → is_ready x r.ranks ≡ false
    was x h = was_here es r.ranks None id e at g x h
        ∙ ap (λ b. (b && x.class == class_of (kind_of_entry e)) && true) (quiet_sends e none)

    there : (w : Bool) → MatchBool w (s ≡ r) (Leaves (rank_of id (kind_of_entry f)) r s) → (x : Rank)
        → is_at (nat_cmp id) x.id ≡ false → is_ready x s.ranks ≡ is_ready x r.ranks
    there true same x h = ap (λ v. is_ready x v.ranks) same
    there false l x h = leaves_there id (kind_of_entry f) r s l x h

    here : (w : Bool) → MatchBool w (s ≡ r) (Leaves (rank_of id (kind_of_entry f)) r s) → (x : Rank)
        → is_at (nat_cmp id) x.id ≡ true → is_ready x s.ranks ≡ false
    here true same x h = ap (λ v. is_ready x v.ranks) same ∙ was x h
    here false l x h = leaves_here id (kind_of_entry f) r s l x h
        ∙ (ap (λ b. not (x.class == class_of (kind_of_entry f)) && b) (was x h) ∙ and_false (not (x.class == class_of (kind_of_entry f))))

pub ordered_later : (es : List (ℕ × Entry)) (r s : State) (later : Option ℕ) (id : ℕ) (e f : Entry)
    → entry_at es id ≡ Some e → has_more e.writing.queue ≡ false → later ≡ None → KeepsPlace id f r s
    → Ordered es r.ranks later → Ordered (set_value (is_at (nat_cmp id)) es f) s.ranks (Some id)
ordered_later es r s later id e f at none unset (Keeps more keeps) g =
    later_by true es r s id e f at none keeps (subst (λ o. Ordered es r.ranks o) unset g)
ordered_later es r s later id e f at none unset (Leaving more keeps) g =
    later_by false es r s id e f at none keeps (subst (λ o. Ordered es r.ranks o) unset g)

-- it is given its place now, if it may be sent from
pub ordered_now : (es : List (ℕ × Entry)) (r s : State) (later next : Option ℕ) (id : ℕ) (e : Entry)
    → entry_at es id ≡ Some e → later ≡ Some id → GivesPlace id e r s later next → is_sending e ≡ true
    → Ordered es r.ranks later → Ordered es s.ranks None
ordered_now es r s later next id e at is (Gives j n) sends g =
    subst (λ o. Ordered es s.ranks o) (n ∙ (ap (λ o. not_later id o) is ∙ gone (id == id) (itself id)))
    (given_by es es r s later next id e e at (λ k. own_at es id k ∙ ap (λ w. cond (is_at (nat_cmp id) k) w (entry_at es k)) at)
    (Gives j n) sends refl g)
  where
    itself : (n : ℕ) → (n == n) ≡ true
    itself n = grind arith

    gone : (b : Bool) → b ≡ true → cond b None (Some id) ≡ None
    gone true h = refl
    gone false h = absurd (let bad : false ≡ true = h in cc)

off_now : (es : List (ℕ × Entry)) (r : List Rank) (later : Option ℕ) (id : ℕ)
    → ((x : Rank) → sends_in x (entry_at es id) ≡ false) → later ≡ Some id → Ordered es r later → Ordered es r None
off_now es r later id none is (EachOrdered g) = ordered_at es es r r later None id (entry_at es id) (own_at es id)
    (λ x h. refl) (λ k h. sym (ap (λ o. is_later k o) is ∙ now_there id k h))
    (λ x h. g x ∙ (ap (λ o. sends_in x o && not (is_later x.id later)) (ap (λ k. entry_at es k) (at_id id x.id h))
    ∙ (ap (λ b. b && not (is_later x.id later)) (none x) ∙ sym (ap (λ b. b && true) (none x))))) (EachOrdered g)

pub ordered_gone_now : (es : List (ℕ × Entry)) (r : List Rank) (later : Option ℕ) (id : ℕ)
    → entry_at es id ≡ None → later ≡ Some id → Ordered es r later → Ordered es r None
ordered_gone_now es r later id at is g = off_now es r later id (λ x. ap (λ o. sends_in x o) at) is g

pub ordered_off_now : (es : List (ℕ × Entry)) (r : List Rank) (later : Option ℕ) (id : ℕ) (e : Entry)
    → entry_at es id ≡ Some e → is_sending e ≡ false → later ≡ Some id → Ordered es r later → Ordered es r None
ordered_off_now es r later id e at none is g =
    off_now es r later id (λ x. ap (λ o. sends_in x o) at ∙ no_sends e none x) is g

-- ---- all streams

pub ordered_none : (later : Option ℕ) → Ordered [] [] later
ordered_none later = EachOrdered (λ x. refl)

pub ruleset ordered = (ordered_half, ordered_same)
