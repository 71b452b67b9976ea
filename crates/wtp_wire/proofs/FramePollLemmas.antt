-- The result of a poll for a frame, once the frame is complete or the source gives no more.
use Rattle.std.proofs.Common.{◌≡◌, ℕ, ◌+◌, ◌<◌, ◌≤◌, List, [], ◌∷◌, ◌++◌, length, refl, sym, ap, subst, ◌∙◌, arith, append_assoc, append-nil, length-append, inl, inr, Option, Some, None, Result, Err}
use Rattle.std.proofs.lemmas.Bool.{cases_lt, lt-ltb, ne_eqb}
use Rattle.wtp_core.specs.declared.bytes.poll.Polled.{Polled}
use Rattle.wtp_core.specs.declared.bytes.poll.Polled.TheVariants.{Ready, NoMemory}
use Rattle.wtp_core.specs.declared.bytes.error.IoReadError as bytes-is
use Rattle.wtp_core.specs.declared.polling.fill.Interrupted.{Interrupted}
use Rattle.wtp_core.specs.declared.polling.fill.Interrupted.TheVariants as interrupt
use Rattle.wtp_core.specs.Source.{Source, AtEnd, AtReset, AtDisconnection, HasModel}
use Rattle.wtp_core.specs.Polled.{stop, PollsAtMost, WaitsAs}
use Rattle.wtp_core.specs.Fill.{Gains, InterruptIsTrue, InterruptsAs, interrupt_fault, interrupted_poll, interrupt_waits}
use Rattle.wtp_core.specs.Varint.{bytes_at}
use Rattle.wtp_core.proofs.EncodingLemmas.{bytes_at-append}
use Rattle.wtp_core.proofs.TellingLemmas.{telling_map}
use Rattle.wtp_core.proofs.FillLemmas.{interrupted_as}
use Rattle.wtp_core.proofs.WaitLemmas.{interrupted_waits}
use Rattle.wtp_core.proofs.GetLemmas.{dry}
use Rattle.wtp_wire.specs.declared.frame.kind.FrameKind.{FrameKind}
use Rattle.wtp_wire.specs.declared.frame.head.Announcement.{Announcement}
use Rattle.wtp_wire.specs.declared.frame.head.Announcement.TheVariants as announces
use Rattle.wtp_wire.specs.declared.frame.reading.IoReadError.{IoReadError}
use Rattle.wtp_wire.specs.declared.frame.reading.IoReadError.TheVariants.{IO}
use Rattle.wtp_wire.specs.Content.{Content, WebTransportOf, content}
use Rattle.wtp_wire.specs.Front.{Front, Framed, BadId, TooBig, Short, front_after, front}
use Rattle.wtp_wire.specs.FramePrefix.{announcement_at}
use Rattle.wtp_wire.specs.FrameNeed.{frame_need, frame_need_most, frame_need_some}
use Rattle.wtp_wire.specs.PartialFrame.{Part, new_part, bytes_in, IsReading}
use Rattle.wtp_wire.specs.Limits.{max_payload, max_calls}
use Rattle.wtp_wire.specs.Held.{Held, skip_front, front_held, IsUnfinished, IsPayloadHead, Leaves}
use Rattle.wtp_wire.specs.FramePolling.{FramePolled, FrameGiven, Decided, Stopped, KeepsHeld, Answered}
use Rattle.wtp_wire.specs.FrameSteps.{IsComplete, WantsRoom, IsAnswer, CanAnswer, Grew}
use Rattle.wtp_wire.proofs.FramePrefixLemmas.{front_announcement, front_part, payload_head, announcement_payload, announcement_whole}
use Rattle.wtp_wire.proofs.FrameReadingLemmas.{no_items}

abbrev pub hold : List ℕ → ℕ → Held
hold t d = record { taken = t; skip_remaining = d }

pub front_none : (t : List ℕ) (d : ℕ) (xs : List ℕ) → d ≡ 0 → front_held (hold t d) xs ≡ front (t ++ xs)
unfolding front_held
front_none t d xs e = rw e refl

pub front_due : (t : List ℕ) (d : ℕ) (xs : List ℕ) → 0 < d → front_held (hold t d) xs ≡ skip_front d xs
unfolding front_held
front_due t d xs l = rw (ne_eqb d 0 (λ z. omega arith)) refl

-- ---- between polls

pub reading_new : IsReading new_part
reading_new = let some = frame_need_some [] in record { within = omega arith; part = omega arith; nothing = λ l. refl; whole = λ l. absurd (omega arith) }

-- between polls, no complete frame or error is held
pub reading_short : (p : Part) → IsReading p → front (bytes_in p) ≡ Short
unfolding bytes_at
reading_short p r = elim (cases_lt (length p.head) (frame_need p.head)) [
  | inl l ↦
      let empty = r.nothing l in
      let part = r.part in
      ap (λ (l : List ℕ). front (p.head ++ l)) (no_items p.payload (omega arith)) ∙ ap front (append-nil p.head) ∙ front_part p.head l
  | inr l ↦
      let most = r.within in
      let w = r.whole l in
      let is : frame_need p.head ≡ length p.head = omega arith in
      front_announcement p.head p.payload is ∙ rw (w.2, lt-ltb (length p.payload) w.1 w.3) refl
]

front_empty : front [] ≡ Short
front_empty = front_part [] (frame_need_some [])

pub skip_empty : (d : ℕ) → 0 < d → skip_front d [] ≡ Short
unfolding bytes_at
skip_empty d l = rw (lt-ltb 0 d l) refl

new_cut : (t : List ℕ) (d : ℕ) → t ≡ [] → front_held (hold t d) [] ≡ Short
new_cut t d e = elim (cases_lt 0 d) [
  | inl l ↦ front_due t d [] l ∙ skip_empty d l
  | inr l ↦ front_none t d [] (omega arith) ∙ rw e front_empty
]

pub due_unfinished : (t : List ℕ) (d : ℕ) → t ≡ [] → IsUnfinished (hold t d)
due_unfinished t d e = record { short = new_cut t d e; alone = λ _. e }

pub reading_unfinished : (p : Part) (d : ℕ) → d ≡ 0 → IsReading p → IsUnfinished (hold (bytes_in p) d)
reading_unfinished p d z r = record {
  short = front_none (bytes_in p) d [] z ∙ ap front (append-nil (bytes_in p)) ∙ reading_short p r;
  alone = λ l. absurd (omega arith);
}

-- if no byte of the head is held, no byte is held
pub none_taken : (p : Part) → IsReading p → p.head ≡ [] → bytes_in p ≡ []
none_taken p r e =
    let empty = r.nothing (omega (arith, ap length e, frame_need_some p.head)) in
    let part = r.part in
    rw (e, no_items p.payload (omega arith)) refl

-- ---- results

-- all clauses of a poll
pub record Polls (r : Polled (Result Content IoReadError)) (old new : Held) (s t : Option Source) : Type 0 where
  pub was_unfinished : IsUnfinished old
  pub unfinished : IsUnfinished new
  pub given : FrameGiven r old new
  pub polled : HasModel s t (FramePolled r old new)
  pub asks : HasModel s t (PollsAtMost max_calls)

pub polls_as : (s t : Option Source) (r : Polled (Result Content IoReadError)) (o o' n n' : Held) → o ≡ o' → n ≡ n' → Polls r o n s t → Polls r o' n' s t
polls_as s t r o o' n n' e i p = rw (← e, ← i) p

-- the source before is the same
pub told_from : (s s' t : Option Source) (P : Source → Source → Type 0) → s ≡ s' → HasModel s t P → HasModel s' t P
told_from s s' t P e p = subst (λ (x : Option Source). HasModel x t P) e p

pub none_of : {A : Type 0} (o : Option A) → ((x : A) → o ≡ Some x → ⊥) → o ≡ None
none_of None not = refl
none_of (Some x) not = absurd (not x refl)

front_payload : (h p xs : List ℕ) (k : FrameKind) → frame_need h ≡ length h → announcement_at h ≡ announces.Payload k (length p) → front ((h ++ p) ++ xs) ≡ Framed (content k p None) xs
front_payload h p xs k is says = ap front (append_assoc h p xs) ∙ front_announcement h (p ++ xs) is ∙ rw (says, bytes_at-append p xs) refl

-- the same without a payload
front_bare : (h p xs : List ℕ) → frame_need h ≡ length h → length p ≡ 0 → front ((h ++ p) ++ xs) ≡ front_after (announcement_at h) xs
front_bare h [] xs is none = rw (append-nil h) (front_announcement h xs is)
front_bare h (b ∷ p) xs is none = absurd (omega arith)

-- the case, given what follows the head
abbrev case_of : Announcement → List ℕ → List ℕ → Front
case_of announces.Unfinished p = λ rest. Short
case_of (announces.Payload k n) p = Framed (content k p None)
case_of (announces.Session id) p = Framed (WebTransportOf id)
case_of (announces.Skip n) p = skip_front n
case_of announces.BadSession p = BadId
case_of announces.TooLong p = TooBig

front_decided : (s : Announcement) (p : Part) (xs : List ℕ) → IsComplete s p → front (bytes_in p ++ xs) ≡ case_of s p.payload xs
front_decided announces.Unfinished p xs w = absurd (announcement_whole p.head w.whole w.says)
front_decided (announces.Payload k n) p xs w = front_payload p.head p.payload xs k w.whole (w.says ∙ ap (λ (m : ℕ). announces.Payload k m) (sym w.size))
front_decided (announces.Session id) p xs w = front_bare p.head p.payload xs w.whole w.size ∙ rw w.says refl
front_decided (announces.Skip n) p xs w = front_bare p.head p.payload xs w.whole w.size ∙ rw w.says refl
front_decided announces.BadSession p xs w = front_bare p.head p.payload xs w.whole w.size ∙ rw w.says refl
front_decided announces.TooLong p xs w = front_bare p.head p.payload xs w.whole w.size ∙ rw w.says refl

decided : (old : List ℕ) (p : Part) (s : Announcement) (d d' : ℕ) (a c : Source) → d ≡ 0 → d' ≡ 0 → IsComplete s p → Gains old (bytes_in p) a c 0 → Decided (hold old d) (hold [] d') a c (case_of s p.payload)
decided old p s d d' a c e e' w g = record { front = front_none old d a.ahead e ∙ ap front g.kept ∙ front_decided s p c.ahead w; empty = ap (λ (n : ℕ). hold [] n) e' }

answered : (old : List ℕ) (p : Part) (s : Announcement) (d d' : ℕ) → d ≡ 0 → d' ≡ 0 → IsComplete s p → Grew old (bytes_in p) → Answered (hold old d) (hold [] d') (case_of s p.payload)
answered old p s d d' e e' w (given, is) = record {
  given = given;
  front = front_none old d given e ∙ ap front (sym is ∙ sym (append-nil (bytes_in p))) ∙ front_decided s p [] w;
  empty = ap (λ (n : ℕ). hold [] n) e';
}

answer_polled : (s : Announcement) (r : Result Content IoReadError) (p : Part) (old : List ℕ) (d d' : ℕ) (a c : Source) → d ≡ 0 → d' ≡ 0 → IsAnswer s p.payload r → IsComplete s p → Gains old (bytes_in p) a c 0 → FramePolled (Ready r) (hold old d) (hold [] d') a c
answer_polled announces.Unfinished r p old d d' a c e e' i w g = absurd i
answer_polled (announces.Payload k n) r p old d d' a c e e' i w g = rw i (decided old p (announces.Payload k n) d d' a c e e' w g)
answer_polled (announces.Session id) r p old d d' a c e e' i w g = rw i (decided old p (announces.Session id) d d' a c e e' w g)
answer_polled (announces.Skip n) r p old d d' a c e e' i w g = absurd i
answer_polled announces.BadSession r p old d d' a c e e' i w g = rw i (decided old p announces.BadSession d d' a c e e' w g)
answer_polled announces.TooLong r p old d d' a c e e' i w g = rw i (decided old p announces.TooLong d d' a c e e' w g)

answer_given : (s : Announcement) (r : Result Content IoReadError) (p : Part) (old : List ℕ) (d d' : ℕ) → d ≡ 0 → d' ≡ 0 → IsAnswer s p.payload r → IsComplete s p → Grew old (bytes_in p) → FrameGiven (Ready r) (hold old d) (hold [] d')
answer_given announces.Unfinished r p old d d' e e' i w g = absurd i
answer_given (announces.Payload k n) r p old d d' e e' i w g = rw i (answered old p (announces.Payload k n) d d' e e' w g)
answer_given (announces.Session id) r p old d d' e e' i w g = rw i (answered old p (announces.Session id) d d' e e' w g)
answer_given (announces.Skip n) r p old d d' e e' i w g = absurd i
answer_given announces.BadSession r p old d d' e e' i w g = rw i (answered old p announces.BadSession d d' e e' w g)
answer_given announces.TooLong r p old d d' e e' i w g = rw i (answered old p announces.TooLong d d' e e' w g)

-- the payload is short enough to be read
few_announcement : (s : Announcement) (p : Part) → IsComplete s p → length p.payload ≤ max_payload
few_announcement announces.Unfinished p w = let size = w.size in omega arith
few_announcement (announces.Payload k n) p w = let size = w.size in omega (arith, (announcement_payload p.head k n w.whole w.says).0)
few_announcement (announces.Session id) p w = let size = w.size in omega arith
few_announcement (announces.Skip n) p w = let size = w.size in omega arith
few_announcement announces.BadSession p w = let size = w.size in omega arith
few_announcement announces.TooLong p w = let size = w.size in omega arith

pub can_answer : (s : Announcement) (p : Part) → IsComplete s p → ((n : ℕ) → s ≡ announces.Skip n → ⊥) → CanAnswer s (length p.payload)
can_answer announces.Unfinished p w not = announcement_whole p.head w.whole w.says
can_answer (announces.Payload k n) p w not = let s = announcement_payload p.head k n w.whole w.says in (s.1, s.2, few_announcement (announces.Payload k n) p w)
can_answer (announces.Session id) p w not = tt
can_answer (announces.Skip n) p w not = not n refl
can_answer announces.BadSession p w not = tt
can_answer announces.TooLong p w not = tt

asks_announcement : (s : Announcement) (p : Part) (old : List ℕ) (a c : Source) → IsComplete s p → Gains old (bytes_in p) a c 0 → PollsAtMost max_calls a c
asks_announcement s p old a c w g = record {
  asked = let one = g.asked in let two = w.whole in omega (arith, few_announcement s p w, frame_need_most p.head, length-append p.head p.payload);
  no_less = g.no_less;
  ending = g.ending;
  waits = g.waits;
}

pub answer_polls : (s t : Option Source) (x : Announcement) (r : Result Content IoReadError) (old new : Part) (d : ℕ) → d ≡ 0 → IsReading old → IsAnswer x new.payload r → IsComplete x new → Grew (bytes_in old) (bytes_in new)
    → HasModel s t (λ a c. Gains (bytes_in old) (bytes_in new) a c 0)
    → Polls (Ready r) (hold (bytes_in old) d) (hold [] d) s t
answer_polls s t x r old new d z was i w grew p = record {
  was_unfinished = reading_unfinished old d z was;
  unfinished = due_unfinished [] d refl;
  given = answer_given x r new (bytes_in old) d d z z i w grew;
  polled = telling_map s t _ (FramePolled (Ready r) (hold (bytes_in old) d) (hold [] d)) (λ a c g. answer_polled x r new (bytes_in old) d d a c z z i w g) p;
  asks = telling_map s t _ (PollsAtMost max_calls) (λ a c g. asks_announcement x new (bytes_in old) a c w g) p;
}

-- ---- stops

keeps_all : (old new : List ℕ) (d : ℕ) → d ≡ 0 → Grew old new → KeepsHeld (hold old d) (hold new d)
keeps_all old new d z g = record { kept = λ _. (z, g); begun = λ _ l. absurd (omega arith); going = λ l. absurd (omega arith) }

left_all : (old new : List ℕ) (d : ℕ) (a c : Source) (e : ℕ) → d ≡ 0 → Gains old new a c e → Leaves (hold old d) (hold new d) a c
left_all old new d a c e z g = record {
  same = front_none new d c.ahead z ∙ ap front (sym g.kept) ∙ sym (front_none old d a.ahead z);
  kept = λ _. (z, sym g.kept);
  skips = λ l. absurd (omega arith);
}

asks_left : (p : Part) (old : List ℕ) (e : ℕ) (a c : Source) → e ≤ 1 → IsReading p → Gains old (bytes_in p) a c e → PollsAtMost max_calls a c
asks_left p old e a c small r g =
    let part = r.part in
    let size : length (bytes_in p) + 1 ≤ max_calls = elim (cases_lt (length p.head) (frame_need p.head)) [
      | inl l ↦ let empty = r.nothing l in omega (arith, length-append p.head p.payload, frame_need_most p.head)
      | inr l ↦ let most = r.within in let w = r.whole l in let below = w.3 in omega (arith, length-append p.head p.payload, frame_need_most p.head, (announcement_payload p.head w.0 w.1 (omega arith) w.2).0)
    ] in
    record { asked = let one = g.asked in omega arith; no_less = g.no_less; ending = g.ending; waits = g.waits }

-- the result of a poll whose reading stopped after n bytes
abbrev pub interrupted_at : Interrupted → ℕ → Polled (Result Content IoReadError)
interrupted_at x n = interrupted_poll (λ (f : bytes-is.IoReadError). IO f) (interrupt_fault x n)

interrupted_given : (x : Interrupted) (n : ℕ) (old new : List ℕ) (d : ℕ) → d ≡ 0 → Grew old new → FrameGiven (interrupted_at x n) (hold old d) (hold new d)
interrupted_given interrupt.NotReady n old new d z g = keeps_all old new d z g
interrupted_given interrupt.Fin n old new d z g = keeps_all old new d z g
interrupted_given interrupt.Reset n old new d z g = keeps_all old new d z g
interrupted_given interrupt.NotConnected n old new d z g = keeps_all old new d z g

-- no byte is ahead any more, and the bytes held are too few
stopped_short : (old new : List ℕ) (d : ℕ) (a c : Source) (f : bytes-is.IoReadError) → d ≡ 0 → front new ≡ Short → Gains old new a c 1 → c.ahead ≡ [] → f ≡ stop (length new) a.ending → Stopped (hold old d) (hold new d) a c (IO f)
stopped_short old new d a c f z short g none is =
    let e = dry old new a c 1 g none in
    let n : length new ≡ d + length (old ++ a.ahead) = omega (arith, ap length e) in
    record {
      leaves = left_all old new d a c 1 z g;
      short = front_none old d a.ahead z ∙ ap front (sym e) ∙ short;
      none_ahead = none;
      why = ap (λ (x : bytes-is.IoReadError). IO x) (is ∙ ap (λ (k : ℕ). stop k a.ending) n);
    }

interrupted_polled : (x : Interrupted) (old new : List ℕ) (d : ℕ) (a c : Source) → d ≡ 0 → front new ≡ Short → Gains old new a c 1 → InterruptIsTrue x a c → FramePolled (interrupted_at x (length new)) (hold old d) (hold new d) a c
interrupted_polled interrupt.NotReady old new d a c z short g t = (left_all old new d a c 1 z g, t)
interrupted_polled interrupt.Fin old new d a c z short g t = stopped_short old new d a c (stop (length new) AtEnd) z short g t.0 (rw t.1 refl)
interrupted_polled interrupt.Reset old new d a c z short g t = stopped_short old new d a c (stop (length new) AtReset) z short g t.0 (rw t.1 refl)
interrupted_polled interrupt.NotConnected old new d a c z short g t = stopped_short old new d a c (stop (length new) AtDisconnection) z short g t.0 (rw t.1 refl)

pub interrupted_polls : (s t : Option Source) (x : Interrupted) (n : ℕ) (r : Polled (Result Content IoReadError)) (old new : Part) (d : ℕ) → d ≡ 0 → n ≡ length (bytes_in new) → InterruptsAs (λ f e. e ≡ IO f) (interrupt_fault x n) r → IsReading old → IsReading new → Grew (bytes_in old) (bytes_in new)
    → HasModel s t (λ a c. Gains (bytes_in old) (bytes_in new) a c 1 × InterruptIsTrue x a c)
    → Polls r (hold (bytes_in old) d) (hold (bytes_in new) d) s t
interrupted_polls s t x n r old new d z is h was now grew p =
    let same : r ≡ interrupted_at x (length (bytes_in new)) = interrupted_as (λ (f : bytes-is.IoReadError). IO f) (interrupt_fault x n) r h ∙ ap (λ (k : ℕ). interrupted_at x k) is in
    record {
      was_unfinished = reading_unfinished old d z was;
      unfinished = reading_unfinished new d z now;
      given = rw same (interrupted_given x (length (bytes_in new)) (bytes_in old) (bytes_in new) d z grew);
      polled = rw same (telling_map s t _ (FramePolled (interrupted_at x (length (bytes_in new))) (hold (bytes_in old) d) (hold (bytes_in new) d)) (λ a c q. interrupted_polled x (bytes_in old) (bytes_in new) d a c z (reading_short new now) q.0 q.1) p);
      asks = telling_map s t _ (PollsAtMost max_calls) (λ a c q. asks_left new (bytes_in old) 1 a c (omega arith) now q.0) p;
    }

no_memory_polled : (old new : Part) (d : ℕ) (a c : Source) → d ≡ 0 → WantsRoom old new → Gains (bytes_in old) (bytes_in new) a c 0 → FramePolled NoMemory (hold (bytes_in old) d) (hold (bytes_in new) d) a c
no_memory_polled old new d a c z w g =
    let whole : bytes_in new ≡ new.head = ap (λ (l : List ℕ). new.head ++ l) w.empty ∙ append-nil new.head in (
      left_all (bytes_in old) (bytes_in new) d a c 0 z g,
      z,
      z,
      record {
        kind = w.kind;
        size = w.size;
        head = new.head;
        rest = c.ahead;
        is = payload_head new.head w.kind w.size w.whole w.says;
        some = w.some;
        parts = g.kept ∙ ap (λ (l : List ℕ). l ++ c.ahead) whole;
        none_held = let f = w.forward in omega (arith, length-append old.head old.payload, ap length w.none);
      },
    )

no_memory_given : (old new : Part) (d : ℕ) → d ≡ 0 → WantsRoom old new → Grew (bytes_in old) (bytes_in new) → FrameGiven NoMemory (hold (bytes_in old) d) (hold (bytes_in new) d)
no_memory_given old new d z w g =
    let whole : bytes_in new ≡ new.head = ap (λ (l : List ℕ). new.head ++ l) w.empty ∙ append-nil new.head in (
      keeps_all (bytes_in old) (bytes_in new) d z g,
      z,
      record {
        kind = w.kind;
        size = w.size;
        is = subst (λ (s : List ℕ). IsPayloadHead w.kind w.size s) (sym whole) (payload_head new.head w.kind w.size w.whole w.says);
        some = w.some;
      },
    )

pub no_memory_polls : (s t : Option Source) (old new : Part) (d : ℕ) → d ≡ 0 → IsReading old → IsReading new → WantsRoom old new → Grew (bytes_in old) (bytes_in new)
    → HasModel s t (λ a c. Gains (bytes_in old) (bytes_in new) a c 0)
    → Polls NoMemory (hold (bytes_in old) d) (hold (bytes_in new) d) s t
no_memory_polls s t old new d z was now w grew p = record {
  was_unfinished = reading_unfinished old d z was;
  unfinished = reading_unfinished new d z now;
  given = no_memory_given old new d z w grew;
  polled = telling_map s t _ (FramePolled NoMemory (hold (bytes_in old) d) (hold (bytes_in new) d)) (λ a c q. no_memory_polled old new d a c z w q) p;
  asks = telling_map s t _ (PollsAtMost max_calls) (λ a c q. asks_left new (bytes_in old) 0 a c (omega arith) now q) p;
}

-- the waits of a poll that stopped with its source
pub frame_interrupted_waits : (x : Interrupted) (n : ℕ) (s t : Option Source) (r : Polled (Result Content IoReadError)) → InterruptsAs (λ f e. e ≡ IO f) (interrupt_fault x n) r → HasModel s t (λ a b. b.waits ≡ a.waits + interrupt_waits {U = Unit {0}} (Err x)) → HasModel s t (WaitsAs r)
frame_interrupted_waits x n s t r h p =
    rw (interrupted_as (λ (f : bytes-is.IoReadError). IO f) (interrupt_fault x n) r h) (interrupted_waits Content IoReadError (Unit {0}) (λ f. IO f) x n s t p)
