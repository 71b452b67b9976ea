-- Where nothing is left to be told.
use Rattle.std.proofs.Common.{◌≡◌, ◌==◌, ◌&&◌, not, ℕ, List, [], Option, None, Some, Bool, true, false, refl, arith, inl, inr, sym, ap, subst, ◌∙◌}
use Rattle.std.specs.Prelude.{◌⊎◌, IfSome, MatchBool, slice_index}
use Rattle.vesgrauf.specs.declared.connection.Connection.{Connection}
use Rattle.vesgrauf.specs.declared.connection.Ended.{Ended}
use Rattle.vesgrauf.specs.declared.input.Input.{Input}
use Rattle.vesgrauf.specs.declared.input.Report.TheVariants as report
use Rattle.vesgrauf_queue.specs.State.{IsIdle as IsQueueIdle}
use Rattle.vesgrauf_ready.specs.declared.rank.Rank.{Rank}
use Rattle.vesgrauf_ready.specs.Ranks.{class_of, rank_of, is_shared}
use Rattle.vesgrauf_ready.specs.Turns.{State, IsIdle, IsFirst, IsInClass, IsInRound, IsByPriority, IsNext, is_ready}
use Rattle.vesgrauf.specs.declared.entry.Entry.{Entry}
use Rattle.vesgrauf.specs.State.{stream_at}
use Rattle.vesgrauf.specs.Own.{entry_at}
use Rattle.vesgrauf.specs.Places.{Ordered, EachOrdered, has_more, is_later, is_sending, sends_in}
use Rattle.vesgrauf.specs.Progress.{IsQuiet, IsStill, IsSettled, IsSettledBy, IsTurnOf, Turns, NoneIsSending, AllAreSent, IsSent}
use Rattle.vesgrauf.specs.Streams.{IsNotDue, kind_of_entry, may_send}
use Rattle.vesgrauf.proofs.QueuedLemmas.{more_none}

pub quiet_settled : (c : Connection) (i : Input) → i.report ≡ report.Nothing → IsQuiet c → IsStill c → IsSettled c i
quiet_settled c i t q s = record {
  taken = t;
  rests = subst (λ e. IsSettledBy e c) (sym q.lasts) (q, s);
}

pub over_settled : (c : Connection) (i : Input) (e : Ended) → i.report ≡ report.Nothing → c.ended ≡ Some e
    → e.is_told ≡ true → c.events.items ≡ [] → IsSettled c i
over_settled c i e t o told none = record {
  taken = t;
  rests = subst (λ x. IsSettledBy x c) (sym o) (told, none);
}

-- what holds of a stream holds also where more would
pub or_right : {A : Type 0} (P Q : A → Type 0) (o : Option A) → IfSome o P → IfSome o (λ x. Q x ⊎ P x)
or_right P Q None h = tt
or_right P Q (Some x) h = inr h

-- ---- nothing may be sent from

all_by : (p n : Bool) → p ≡ true → false ≡ ((p && true) && not n) → n ≡ true
all_by true true h k = refl
all_by true false h k = absurd (let bad : false ≡ true = k in cc)
all_by false n h k = absurd (let bad : false ≡ true = h in cc)

same_class : (n : ℕ) → (n == n) ≡ true
same_class n = grind arith

none_sending : (c : Connection) → IsIdle c.ready.ranks → Ordered c.streams.entries c.ready.ranks c.unplaced
    → (id : ℕ) (e : Entry) → stream_at c id ≡ Some e → is_sending e ≡ true → is_later id c.unplaced ≡ true
none_sending c h (EachOrdered g) id e at sends = all_by (is_sending e) (is_later id c.unplaced) sends
    (sym (h (rank_of id (kind_of_entry e))) ∙ (g (rank_of id (kind_of_entry e))
    ∙ (ap (λ o. sends_in (rank_of id (kind_of_entry e)) o && not (is_later id c.unplaced)) at
    ∙ ap (λ b. (is_sending e && b) && not (is_later id c.unplaced)) (same_class (class_of (kind_of_entry e))))))

pub none_is_sending : (c : Connection) → IsIdle c.ready.ranks → NoneIsSending c
none_is_sending c h = AllAreSent (none_sending c h c.ordered)

ready_of : (s : State) (x : Rank) → IsNext s x → is_ready x s.ranks ≡ true
ready_of s x n = by (s.left == 1) n
  where
    priority : (y : Rank) (b : Bool) → IsFirst s.ranks y
        → MatchBool b (IsInClass s.ranks y (slice_index s.marks y.class) (slice_index s.ends y.class) x) (x ≡ y)
        → is_ready x s.ranks ≡ true
    priority y true f (inl t) = t.0.ready
    priority y true f (inr t) = subst (λ z. is_ready z s.ranks ≡ true) (sym t.1) f.ready
    priority y false f t = subst (λ z. is_ready z s.ranks ≡ true) (sym t) f.ready

    round : IsInRound s x → is_ready x s.ranks ≡ true
    round (inl l) = l.ready
    round (inr l) = l.1.ready

    by : (b : Bool) → MatchBool b (IsInRound s x) (IsByPriority s x) → is_ready x s.ranks ≡ true
    by true r = round r
    by false p = priority p.first (is_shared p.first.class) p.is p.turn

-- a stream whose turn it is may be sent from
turn_sends : (es : List (ℕ × Entry)) (s : State) (later : Option ℕ) (x : Rank) → Ordered es s.ranks later → IsNext s x
    → (sends_in x (entry_at es x.id) && not (is_later x.id later)) ≡ true
turn_sends es s later x (EachOrdered g) n = sym (g x) ∙ ready_of s x n

pub turn_of : (c : Connection) (id : ℕ) → ((x : Rank) × (x.id ≡ id) × IsNext c.ready x) → IsTurnOf c id
turn_of c id (x, at, n) = Turns x at n

pub turn_gone : (c : Connection) (id : ℕ) → IsTurnOf c id → None ≡ stream_at c id → ⊥
turn_gone c id (Turns x at n) none = absurd (
    let bad : false ≡ true = ap (λ o. sends_in x o && not (is_later x.id c.unplaced)) (none ∙ ap (λ k. stream_at c k) (sym at))
    ∙ turn_sends c.streams.entries c.ready c.unplaced x c.ordered n in cc)

idle_by : (a b d n : Bool) → b ≡ false → (((a && b) && d) && n) ≡ true → ⊥
idle_by true true d n h k = absurd (let bad : true ≡ false = h in cc)
idle_by true false d n h k = absurd (let bad : false ≡ true = k in cc)
idle_by false b d n h k = absurd (let bad : false ≡ true = k in cc)

pub turn_idle : (c : Connection) (id : ℕ) (e : Entry) → IsTurnOf c id → Some e ≡ stream_at c id
    → IsQueueIdle e.writing.queue → ⊥
turn_idle c id e (Turns x at n) there idle = idle_by (may_send e) (has_more e.writing.queue) (x.class == class_of (kind_of_entry e))
    (not (is_later x.id c.unplaced)) (more_none e.writing.queue idle)
    (ap (λ o. sends_in x o && not (is_later x.id c.unplaced)) (there ∙ ap (λ k. stream_at c k) (sym at))
    ∙ turn_sends c.streams.entries c.ready c.unplaced x c.ordered n)

pub none_gone : (c : Connection) (id : ℕ) → IsTurnOf c id → None ≡ stream_at c id → NoneIsSending c
none_gone c id t h = absurd (turn_gone c id t h)

pub none_idle : (c : Connection) (id : ℕ) (e : Entry) → IsTurnOf c id → Some e ≡ stream_at c id
    → IsQueueIdle e.writing.queue → NoneIsSending c
none_idle c id e t h i = absurd (turn_idle c id e t h i)

pub all_sent : (c : Connection) → IsNotDue c.control → IsNotDue c.decoder → IsNotDue c.encoder → NoneIsSending c → IsSent c
all_sent c p q r s = record { control = p; decoder = q; encoder = r; others = s }
