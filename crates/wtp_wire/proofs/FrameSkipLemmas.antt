-- The result of a poll that skips bytes of an unknown frame.
use Rattle.std.proofs.Common.{◌≡◌, ℕ, ◌+◌, ◌-◌, ◌<◌, ◌≤◌, List, [], ◌++◌, length, take, drop, refl, sym, ap, subst, ◌∙◌, arith, append_assoc, append-nil, length-append, length-take, length-drop, inl, inr, Option, Result, Ok, Err}
use Rattle.std.proofs.lemmas.Bool.{cases_lt, lt-ltb, le-ltb, ne_eqb}
use Rattle.std.proofs.lemmas.List.{drop-drop, take-append-drop}
use Rattle.wtp_core.specs.declared.bytes.poll.Polled.{Polled}
use Rattle.wtp_core.specs.declared.bytes.poll.Polled.TheVariants.{Ready, Pending, Again, NoMemory}
use Rattle.wtp_core.specs.Source.{Source, SourceEnding, AtEnd, AtReset, AtDisconnection, HasModel}
use Rattle.wtp_core.specs.Polled.{stop, PollsAtMost}
use Rattle.wtp_core.specs.Fill.{Gains}
use Rattle.wtp_core.specs.Varint.{bytes_at}
use Rattle.wtp_core.proofs.NeedLemmas.{drop_all}
use Rattle.wtp_core.proofs.TellingLemmas.{telling_map, telling_same, telling_then}
use Rattle.wtp_wire.specs.declared.frame.ParseError.TheVariants as parse
use Rattle.wtp_wire.specs.declared.frame.reading.IoReadError.{IoReadError}
use Rattle.wtp_wire.specs.declared.frame.reading.IoReadError.TheVariants.{Parse, IO}
use Rattle.wtp_wire.specs.declared.frame.head.Announcement.TheVariants as announces
use Rattle.wtp_wire.specs.Content.{Content}
use Rattle.wtp_wire.specs.Front.{Unknown, front}
use Rattle.wtp_wire.specs.FrameNeed.{frame_need_most, frame_need_some}
use Rattle.wtp_core.specs.SkipAhead.{max_skipped}
use Rattle.wtp_wire.specs.Limits.{max_head, max_calls}
use Rattle.wtp_wire.specs.Held.{Held, skip_front, front_held, IsUnknownHead, Skips, Leaves}
use Rattle.wtp_wire.specs.FramePolling.{FramePolled, FrameGiven, KeepsHeld, Answered}
use Rattle.wtp_wire.specs.PartialFrame.{Part, bytes_in, IsReading}
use Rattle.wtp_wire.specs.FrameSteps.{IsComplete, Skipped, SkipPolled, SkipGiven, BeginsFrame, BeginsPlain, Grew}
use Rattle.wtp_wire.proofs.FramePrefixLemmas.{front_announcement, announcement_skip}
use Rattle.wtp_core.specs.declared.bytes.error.IoReadError as bytes-is
use Rattle.std.specs.Prelude.{replicate}
use Rattle.std.proofs.lemmas.List.{length-replicate}
use Rattle.wtp_wire.proofs.FrameReadingLemmas.{no_items}
use Rattle.wtp_wire.proofs.FramePollLemmas.{Polls, hold, front_none, front_due, skip_empty, due_unfinished, reading_unfinished, none_taken}

due_begins : (s : Option Source) (t : List ℕ) (d : ℕ) → 0 < d → t ≡ [] → HasModel s s (BeginsFrame (hold t d) (hold t d))
due_begins s t d l e = telling_same s (BeginsFrame (hold t d) (hold t d)) (λ a. record {
  head = [];
  parts = rw e refl;
  begun = λ z. absurd (omega arith);
  going = λ _. (refl, refl, refl);
  asks = record { asked = omega arith; no_less = omega arith; ending = refl; waits = omega arith };
})

-- only the head of an unknown frame is held
bare : (m : ℕ) (p : Part) → IsComplete (announces.Skip m) p → bytes_in p ≡ p.head
bare m p w = ap (λ (l : List ℕ). p.head ++ l) (no_items p.payload w.size) ∙ append-nil p.head

skip_begins : (s t : Option Source) (m : ℕ) (p : Part) (old : List ℕ) (d : ℕ) → d ≡ 0 → IsComplete (announces.Skip m) p
    → HasModel s t (λ a c. Gains old (bytes_in p) a c 0)
    → HasModel s t (BeginsFrame (hold old d) (hold [] m))
skip_begins s t m p old d z w q = telling_map s t _ (BeginsFrame (hold old d) (hold [] m))
    (λ a c g.
    let shape = bare m p w in
    record {
      head = p.head;
      parts = g.kept ∙ ap (λ (l : List ℕ). l ++ c.ahead) shape;
      begun = λ _. (w.says, w.whole);
      going = λ l. absurd (omega arith);
      asks = record { asked = let one = g.asked in let two = w.whole in omega (arith, frame_need_most p.head, ap length shape); no_less = g.no_less; ending = g.ending; waits = g.waits };
    }) q

-- skipping n of the bytes left to skip
skip_step : (m d n : ℕ) (xs : List ℕ) → m ≡ n + d → n ≤ length xs → skip_front m xs ≡ skip_front d (drop n xs)
unfolding bytes_at
skip_step m d n xs is l = elim (cases_lt (length xs) m) [
  | inl f ↦ rw (lt-ltb (length xs) m f, lt-ltb (length (drop n xs)) d (omega (arith, length-drop n xs))) refl
  | inr f ↦ rw (le-ltb (length xs) m f, le-ltb (length (drop n xs)) d (omega (arith, length-drop n xs)), is) (ap (λ (l : List ℕ). Unknown l) (sym (drop-drop d n xs)))
]

skip_none : (d : ℕ) (xs : List ℕ) → d ≡ 0 → skip_front d xs ≡ Unknown xs
unfolding bytes_at
skip_none d xs z = rw (z, le-ltb (length xs) 0 (omega arith)) refl

-- the case with which a poll begins
begun_front : (old mid : Held) (a b : Source) → BeginsFrame old mid a b → front_held old a.ahead ≡ skip_front mid.skip_remaining b.ahead
begun_front old mid a b g = elim (cases_lt 0 old.skip_remaining) [
  | inl l ↦ let w = g.going l in front_due old.taken old.skip_remaining a.ahead l ∙ rw (w.1, w.2) refl
  | inr l ↦
      let z : old.skip_remaining ≡ 0 = omega arith in
      let w = g.begun z in
      front_none old.taken old.skip_remaining a.ahead z ∙ ap front g.parts ∙ front_announcement g.head b.ahead w.1 ∙ rw w.0 refl
]

skip_on : (old mid : Held) (d : ℕ) (a b c : Source) → BeginsFrame old mid a b → Skipped mid.skip_remaining d b c → front_held old a.ahead ≡ skip_front d c.ahead
skip_on old mid d a b c g p =
    let few = p.fewer in
    begun_front old mid a b g ∙ skip_step mid.skip_remaining d (mid.skip_remaining - d) b.ahead (omega arith) p.there ∙ ap (λ (l : List ℕ). skip_front d l) (sym p.rest)

skips : (old mid : Held) (t : List ℕ) (d : ℕ) (a b c : Source) → t ≡ [] → BeginsFrame old mid a b → Skipped mid.skip_remaining d b c → (s : Skips old (hold t d) a c) × (length s.payload ≡ mid.skip_remaining - d)
skips old mid t d a b c e g p =
    let few = p.fewer in
    let gone = take (mid.skip_remaining - d) b.ahead in
    let size : length gone ≡ mid.skip_remaining - d = let there = p.there in omega (arith, length-take (mid.skip_remaining - d) b.ahead) in
    let all : length gone + d ≡ mid.skip_remaining = omega arith in (
      record {
        head = g.head;
        payload = gone;
        parts = g.parts ∙ ap (λ (l : List ℕ). g.head ++ l) (sym (take-append-drop (mid.skip_remaining - d) b.ahead) ∙ ap (λ (l : List ℕ). gone ++ l) (sym p.rest)) ∙ sym (append_assoc g.head gone c.ahead);
        begun = λ z. let w = g.begun z in subst (λ (n : ℕ). IsUnknownHead n g.head) (sym all) (announcement_skip g.head mid.skip_remaining w.1 w.0);
        going = λ l. let w = g.going l in (w.0, w.1 ∙ sym all);
        most = let most = p.most in omega arith;
        empty = e;
      },
      size,
    )

asks_on : (a b c : Source) → PollsAtMost max_head a b → PollsAtMost max_skipped b c → PollsAtMost max_calls a c
asks_on a b c p q = record { asked = let one = p.asked in let two = q.asked in omega arith; no_less = let one = p.no_less in let two = q.no_less in omega arith; ending = q.ending ∙ p.ending; waits = let one = p.waits in let two = q.waits in omega arith }

left_due : (old mid : Held) (t : List ℕ) (d : ℕ) (a b c : Source) → t ≡ [] → 0 < d → mid.skip_remaining < d + max_skipped → BeginsFrame old mid a b → Skipped mid.skip_remaining d b c → Leaves old (hold t d) a c
left_due old mid t d a b c e l f g p = record {
  same = front_due t d c.ahead l ∙ sym (skip_on old mid d a b c g p);
  kept = λ z. absurd (omega arith);
  skips = λ _. let s = skips old mid t d a b c e g p in let size = s.1 in let few = p.fewer in (s.0, omega arith);
}

stop_some : (n : ℕ) (e : SourceEnding) → 0 < n → stop 1 e ≡ stop n e
stop_some n AtEnd l = rw (ne_eqb n 0 (λ z. omega arith)) refl
stop_some n AtReset l = refl
stop_some n AtDisconnection l = refl

some_held : (old mid : Held) (a b : Source) → BeginsFrame old mid a b → 0 < old.skip_remaining + length (old.taken ++ a.ahead)
some_held old mid a b g = elim (cases_lt 0 old.skip_remaining) [
  | inl l ↦ omega arith
  | inr l ↦ let w = g.begun (omega arith) in let whole = w.1 in omega (arith, ap length g.parts, length-append g.head b.ahead, frame_need_some g.head)
]

skipped_polled : (r : Polled (Result Content IoReadError)) (old mid : Held) (t : List ℕ) (d : ℕ) (a b c : Source) → t ≡ [] → BeginsFrame old mid a b → SkipPolled r mid.skip_remaining d b c → FramePolled r old (hold t d) a c × PollsAtMost max_calls a c
skipped_polled (Ready (Ok f)) old mid t d a b c e g p = absurd p
skipped_polled (Ready (Err (Parse parse.UnknownFrame))) old mid t d a b c e g p = (
  (record { front = skip_on old mid d a b c g p.0 ∙ skip_none d c.ahead p.1; empty = rw (e, p.1) refl }, (skips old mid t d a b c e g p.0).0),
  asks_on a b c g.asks p.0.asks,
)
skipped_polled (Ready (Err (Parse parse.InvalidSessionId))) old mid t d a b c e g p = absurd p
skipped_polled (Ready (Err (Parse parse.PayloadTooBig))) old mid t d a b c e g p = absurd p
skipped_polled (Ready (Err (IO x))) old mid t d a b c e g p = (
  record {
    leaves = left_due old mid t d a b c e p.1 p.2 g p.0;
    short = skip_on old mid d a b c g p.0 ∙ ap (λ (l : List ℕ). skip_front d l) p.3 ∙ skip_empty d p.1;
    none_ahead = p.3;
    why = ap (λ (x : bytes-is.IoReadError). IO x) (p.4 ∙ ap (λ (k : SourceEnding). stop 1 k) g.asks.ending ∙ stop_some (old.skip_remaining + length (old.taken ++ a.ahead)) a.ending (some_held old mid a b g));
  },
  asks_on a b c g.asks p.0.asks,
)
skipped_polled Pending old mid t d a b c e g p = ((left_due old mid t d a b c e p.1 p.2 g p.0, let one = g.asks.waits in let two = p.3 in omega arith), asks_on a b c g.asks p.0.asks)
skipped_polled Again old mid t d a b c e g p = (
  record {
    same = front_due t d c.ahead p.1 ∙ sym (skip_on old mid d a b c g p.0);
    skip_remaining = p.1;
    skips = (skips old mid t d a b c e g p.0).0;
    most = let size = (skips old mid t d a b c e g p.0).1 in let whole = p.2 in omega arith;
  },
  asks_on a b c g.asks p.0.asks,
)
skipped_polled NoMemory old mid t d a b c e g p = absurd p

skipped_told : (s t u : Option Source) (r : Polled (Result Content IoReadError)) (old mid : Held) (l : List ℕ) (d : ℕ) → l ≡ []
    → HasModel s t (BeginsFrame old mid) → HasModel t u (SkipPolled r mid.skip_remaining d) → HasModel s u (FramePolled r old (hold l d))
skipped_told s t u r old mid l d e p q = telling_then s t u (BeginsFrame old mid) (SkipPolled r mid.skip_remaining d) (FramePolled r old (hold l d)) (λ a b c g k. (skipped_polled r old mid l d a b c e g k).0) p q

skipped_asks : (s t u : Option Source) (r : Polled (Result Content IoReadError)) (old mid : Held) (d : ℕ)
    → HasModel s t (BeginsFrame old mid) → HasModel t u (SkipPolled r mid.skip_remaining d) → HasModel s u (PollsAtMost max_calls)
skipped_asks s t u r old mid d p q = telling_then s t u (BeginsFrame old mid) (SkipPolled r mid.skip_remaining d) (PollsAtMost max_calls) (λ a b c g k. (skipped_polled r old mid [] d a b c refl g k).1) p q

-- ---- every source, even without a model

-- a list of n bytes
zeros : ℕ → List ℕ
zeros n = replicate n 0

length-zeros : (n : ℕ) → length (zeros n) ≡ n
unfolding zeros
length-zeros n = length-replicate n 0

-- exactly the bytes left to skip
skip_all : (n : ℕ) (xs : List ℕ) → length xs ≡ n → skip_front n xs ≡ Unknown []
unfolding bytes_at
skip_all n xs e = rw (le-ltb (length xs) n (omega arith)) (ap (λ (l : List ℕ). Unknown l) (drop_all n xs (omega arith)))

answered_unknown : (old mid : Held) (t : List ℕ) (d : ℕ) → t ≡ [] → d ≡ 0 → BeginsPlain old mid → Answered old (hold t d) Unknown
answered_unknown old mid t d e z g = elim (cases_lt 0 old.skip_remaining) [
  | inl l ↦ record {
    given = zeros mid.skip_remaining;
    front = front_due old.taken old.skip_remaining (zeros mid.skip_remaining) l ∙ skip_all old.skip_remaining (zeros mid.skip_remaining) (length-zeros mid.skip_remaining ∙ g.going l);
    empty = rw (e, z) refl;
  }
  | inr l ↦
      let z0 : old.skip_remaining ≡ 0 = omega arith in
      let (head, (given, is), says, whole) = g.begun z0 in
      record {
        given = given ++ zeros mid.skip_remaining;
        front = front_none old.taken old.skip_remaining (given ++ zeros mid.skip_remaining) z0 ∙ ap front (sym (append_assoc old.taken given (zeros mid.skip_remaining)) ∙ ap (λ (l : List ℕ). l ++ zeros mid.skip_remaining) (sym is)) ∙ front_announcement head (zeros mid.skip_remaining) whole ∙ rw says (skip_all mid.skip_remaining (zeros mid.skip_remaining) (length-zeros mid.skip_remaining));
        empty = rw (e, z) refl;
      }
]

keeps_due : (old mid : Held) (t : List ℕ) (d : ℕ) → 0 < d → d ≤ mid.skip_remaining → BeginsPlain old mid → KeepsHeld old (hold t d)
keeps_due old mid t d some few g = record {
  kept = λ z. absurd (omega arith);
  begun = λ z _.
      let (head, (given, is), says, whole) = g.begun z in
      let all : mid.skip_remaining ≡ (mid.skip_remaining - d) + d = omega arith in
      (given, mid.skip_remaining - d, subst (λ (s : List ℕ). IsUnknownHead ((mid.skip_remaining - d) + d) s) is (subst (λ (n : ℕ). IsUnknownHead n head) all (announcement_skip head mid.skip_remaining whole says)));
  going = λ l. let same = g.going l in (some, omega arith);
}

skipped_given : (r : Polled (Result Content IoReadError)) (old mid : Held) (t : List ℕ) (d : ℕ) → t ≡ [] → BeginsPlain old mid → SkipGiven r mid.skip_remaining d → FrameGiven r old (hold t d)
skipped_given (Ready (Ok f)) old mid t d e g p = absurd p
skipped_given (Ready (Err (Parse parse.UnknownFrame))) old mid t d e g p = answered_unknown old mid t d e p g
skipped_given (Ready (Err (Parse parse.InvalidSessionId))) old mid t d e g p = absurd p
skipped_given (Ready (Err (Parse parse.PayloadTooBig))) old mid t d e g p = absurd p
skipped_given (Ready (Err (IO x))) old mid t d e g p = keeps_due old mid t d p.0 p.1 g
skipped_given Pending old mid t d e g p = keeps_due old mid t d p.0 p.1 g
skipped_given Again old mid t d e g p = (keeps_due old mid t d p.0 p.1 g, p.0)
skipped_given NoMemory old mid t d e g p = absurd p

-- bytes were left to skip before
due_plain : (t : List ℕ) (d : ℕ) → 0 < d → t ≡ [] → BeginsPlain (hold t d) (hold t d)
due_plain t d l e = record { empty = e; begun = λ z. absurd (omega arith); going = λ _. refl }

-- the head of an unknown frame was taken
skip_plain : (m : ℕ) (p : Part) (old : List ℕ) (d : ℕ) → d ≡ 0 → IsComplete (announces.Skip m) p → Grew old (bytes_in p) → BeginsPlain (hold old d) (hold [] m)
skip_plain m p old d z w (given, is) = record {
  empty = refl;
  begun = λ _. (p.head, (given, sym (bare m p w) ∙ is), w.says, w.whole);
  going = λ l. absurd (omega arith);
}

-- ---- all clauses of a poll

-- a poll before which bytes were left to skip
pub due_polls : (s t : Option Source) (r : Polled (Result Content IoReadError)) (p : Part) (d d' : ℕ) → 0 < d → IsReading p → p.head ≡ [] → SkipGiven r d d' → HasModel s t (SkipPolled r d d')
    → Polls r (hold (bytes_in p) d) (hold (bytes_in p) d') s t
due_polls s t r p d d' l i none plain q =
    let e = none_taken p i none in
    let begins = due_begins s (bytes_in p) d l e in
    record {
      was_unfinished = due_unfinished (bytes_in p) d e;
      unfinished = due_unfinished (bytes_in p) d' e;
      given = skipped_given r (hold (bytes_in p) d) (hold (bytes_in p) d) (bytes_in p) d' e (due_plain (bytes_in p) d l e) plain;
      polled = skipped_told s s t r (hold (bytes_in p) d) (hold (bytes_in p) d) (bytes_in p) d' e begins q;
      asks = skipped_asks s s t r (hold (bytes_in p) d) (hold (bytes_in p) d) d' begins q;
    }

-- a poll that read the head of an unknown frame
pub skip_polls : (s t u : Option Source) (r : Polled (Result Content IoReadError)) (old new : Part) (m d d' : ℕ) → d ≡ 0 → IsReading old → IsComplete (announces.Skip m) new → Grew (bytes_in old) (bytes_in new)
    → HasModel s t (λ a c. Gains (bytes_in old) (bytes_in new) a c 0) → SkipGiven r m d' → HasModel t u (SkipPolled r m d')
    → Polls r (hold (bytes_in old) d) (hold [] d') s u
skip_polls s t u r old new m d d' z was w grew g plain q =
    let begins = skip_begins s t m new (bytes_in old) d z w g in
    record {
      was_unfinished = reading_unfinished old d z was;
      unfinished = due_unfinished [] d' refl;
      given = skipped_given r (hold (bytes_in old) d) (hold [] m) [] d' refl (skip_plain m new (bytes_in old) d z w grew) plain;
      polled = skipped_told s t u r (hold (bytes_in old) d) (hold [] m) [] d' refl begins q;
      asks = skipped_asks s t u r (hold (bytes_in old) d) (hold [] m) d' begins q;
    }
