-- A complete frame at the start of the bytes, and one that a source has buffered.
use Rattle.std.proofs.Common.{◌≡◌, ℕ, ◌+◌, ◌-◌, ◌<◌, ◌≤◌, List, [], ◌++◌, length, take, drop, refl, sym, ap, subst, ◌∙◌, arith, append-nil, length-append, length-drop, inl, inr, Option, Some, None}
use Rattle.std.proofs.lemmas.Bool.{cases_lt, lt-ltb, le-ltb}
use Rattle.std.proofs.lemmas.List.{append_cancel_left, drop-append-le, take-append-drop, drop_at, length-take-le}
use Rattle.wtp_core.specs.declared.bytes.poll.Polled.TheVariants.{Ready}
use Rattle.std.proofs.Common.{Ok}
use Rattle.wtp_core.specs.Varint.{bytes_at}
use Rattle.wtp_core.specs.Source.{Source, HasModel, Shows, TakesBuffered}
use Rattle.wtp_core.specs.Polled.{PollsAtMost}
use Rattle.wtp_core.proofs.TellingLemmas.{telling_map}
use Rattle.wtp_wire.specs.declared.frame.kind.FrameKind.{FrameKind}
use Rattle.wtp_wire.specs.declared.frame.head.Announcement.{Announcement}
use Rattle.wtp_wire.specs.declared.frame.head.Announcement.TheVariants as announces
use Rattle.wtp_wire.specs.Content.{Content, PlainOf, payload_in}
use Rattle.wtp_wire.specs.FramePrefix.{head_at}
use Rattle.wtp_wire.specs.Front.{Front, Framed, Unknown, BadId, TooBig, Short, Begins, IsFrame, extended, front}
use Rattle.wtp_wire.specs.PartialFrame.{Part, bytes_in, IsReading}
use Rattle.wtp_wire.specs.Limits.{max_calls}
use Rattle.wtp_wire.specs.Held.{Held, new_held, front_held}
use Rattle.wtp_wire.specs.FramePolling.{FramePolled}
use Rattle.wtp_wire.specs.FrameSteps.{IsFramed, TakesFrame}
use Rattle.wtp_wire.proofs.FrontLemmas.{front_holds, front-begins, front-more, front-head, front-headless, found}
use Rattle.wtp_wire.proofs.FramePollLemmas.{Polls, hold, front_none, due_unfinished, none_taken}

-- ---- the bytes after a frame

-- the frame's bytes before the rest
stands : (bytes rest : List ℕ) (f : Content) → front bytes ≡ Framed f rest → (s : List ℕ) × IsFrame f s × (bytes ≡ s ++ rest)
stands bytes rest f e = elim (front_holds bytes) [
  | inl short ↦ absurd (cc)
  | inr h ↦ subst (λ (x : Front). Begins bytes x) e h
]

pub after_frame : (bytes rest : List ℕ) (f : Content) (size : ℕ) → front bytes ≡ Framed f rest → size + length rest ≡ length bytes → drop size bytes ≡ rest
after_frame bytes rest f size e sum =
    let (s, is, parts) = stands bytes rest f e in
    rw parts (drop_at s rest size (omega (arith, ap length parts ∙ length-append s rest)))

-- ---- the frame after a head

pub framed_payload : (bytes behind : List ℕ) (kind : FrameKind) (n : ℕ) → head_at bytes ≡ Some (announces.Payload kind n, behind) → n ≤ length behind → front bytes ≡ Framed (PlainOf kind (take n behind)) (drop n behind)
unfolding bytes_at
framed_payload bytes behind kind n h fits = front-head bytes behind (announces.Payload kind n) h ∙ rw (le-ltb (length behind) n fits) refl

short_payload : (bytes behind : List ℕ) (kind : FrameKind) (n : ℕ) → head_at bytes ≡ Some (announces.Payload kind n, behind) → length behind < n → front bytes ≡ Short
unfolding bytes_at
short_payload bytes behind kind n h cut = front-head bytes behind (announces.Payload kind n) h ∙ rw (lt-ltb (length behind) n cut) refl

no_frame : (bytes rest : List ℕ) (f : Content) → front bytes ≡ Short → front bytes ≡ Framed f rest → ⊥
no_frame bytes rest f short e = cc

-- enough bytes follow the head of a short payload
pub enough_after : (bytes behind rest : List ℕ) (kind : FrameKind) (n : ℕ) (f : Content) → head_at bytes ≡ Some (announces.Payload kind n, behind)
    → front bytes ≡ Framed f rest → length (payload_in f) ≤ 40 → 40 ≤ length (payload_in f) + length rest
    → (n ≤ 40) × (40 ≤ length behind)
enough_after bytes behind rest kind n f h e small room = elim (cases_lt (length behind) n) [
  | inl cut ↦ absurd (no_frame bytes rest f (short_payload bytes behind kind n h cut) e)
  | inr fits ↦
      let same : Framed f rest ≡ Framed (PlainOf kind (take n behind)) (drop n behind) = sym e ∙ framed_payload bytes behind kind n h fits in
      let frames : f ≡ PlainOf kind (take n behind) = cc in
      let ends : rest ≡ drop n behind = cc in
      let size : length (payload_in f) ≡ n = ap (λ (x : Content). length (payload_in x)) frames ∙ length-take-le n behind fits in
      let left : length rest ≡ length behind - n = ap length ends ∙ length-drop n behind in
      (omega arith, omega arith)
]

pub no_head : (bytes rest : List ℕ) (f : Content) → head_at bytes ≡ None → front bytes ≡ Framed f rest → ⊥
no_head bytes rest f h e = no_frame bytes rest f (front-headless bytes h) e

pub no_plain : (s : Announcement) (bytes behind rest : List ℕ) (f : Content) → head_at bytes ≡ Some (s, behind) → front bytes ≡ Framed f rest
    → ((kind : FrameKind) (n : ℕ) → s ≡ announces.Payload kind n → ⊥) → ((id : ℕ) → s ≡ announces.Session id → ⊥) → ⊥
no_plain announces.Unfinished bytes behind rest f h e plain session = no_frame bytes rest f (front-head bytes behind announces.Unfinished h) e
no_plain (announces.Payload kind n) bytes behind rest f h e plain session = plain kind n refl
no_plain (announces.Session id) bytes behind rest f h e plain session = session id refl
no_plain (announces.Skip n) bytes behind rest f h e plain session = elim (found (bytes_at n behind)) [
  | inl none ↦ no_frame bytes rest f (front-head bytes behind (announces.Skip n) h ∙ rw none refl) e
  | inr (x, is) ↦ let unknown : front bytes ≡ Unknown x.1 = front-head bytes behind (announces.Skip n) h ∙ rw is refl in cc
]
no_plain announces.BadSession bytes behind rest f h e plain session = let bad : front bytes ≡ BadId behind = front-head bytes behind announces.BadSession h in cc
no_plain announces.TooLong bytes behind rest f h e plain session = let big : front bytes ≡ TooBig behind = front-head bytes behind announces.TooLong h in cc

-- ---- taken from a source

pub is_framed : (f : Content) (shown : List ℕ) (size : ℕ) → front shown ≡ Framed f (drop size shown) → IsFramed f
is_framed f shown size e =
    let (s, is, parts) = stands shown (drop size shown) f e in
    record { bytes = s; front = front-begins s (Framed f []) (s, is, sym (append-nil s)) }

more_after : (f : Content) (shown rest behind : List ℕ) → front shown ≡ Framed f behind → front (shown ++ rest) ≡ Framed f (behind ++ rest)
more_after f shown rest behind e = front-more shown rest (λ short. cc) ∙ ap (λ (x : Front). extended x rest) e

pub takes_frame : (f : Content) (shown : List ℕ) (size : ℕ) (s t : Option Source) → size ≤ length shown → front shown ≡ Framed f (drop size shown)
    → Shows shown s → HasModel s t (TakesBuffered size) → HasModel s t (TakesFrame f)
takes_frame f shown size None t small e shows p = tt
takes_frame f shown size (Some a) None small e shows p = absurd p
takes_frame f shown size (Some a) (Some b) small e (rest, is) (once, parts, enough, waits) =
    let left : b.ahead ≡ drop size a.ahead = append_cancel_left (take size a.ahead) b.ahead (drop size a.ahead) (sym parts ∙ sym (take-append-drop size a.ahead)) in
    let same : drop size a.ahead ≡ drop size shown ++ rest = ap (λ (l : List ℕ). drop size l) is ∙ drop-append-le size shown rest small in
    record {
      front = ap front is ∙ more_after f shown rest (drop size shown) e ∙ ap (λ (l : List ℕ). Framed f l) (sym (left ∙ same));
      asks = record { asked = once.asked; no_less = once.no_less; ending = once.ending; waits = omega arith };
      waits = waits;
    }

-- ---- the result of a poll

new_front : (h : Held) (bytes : List ℕ) → h ≡ new_held → front_held h bytes ≡ front bytes
new_front h bytes e = rw e (front_none [] 0 bytes refl)

-- all clauses of a poll that took a buffered frame
pub whole_polls : (s t : Option Source) (f : Content) (p : Part) (d : ℕ) → d ≡ 0 → IsReading p → p.head ≡ [] → IsFramed f → HasModel s t (TakesFrame f)
    → Polls (Ready (Ok f)) (hold (bytes_in p) d) (hold (bytes_in p) d) s t
whole_polls s t f p d z r none w q =
    let h = hold (bytes_in p) d in
    let e : h ≡ new_held = rw (none_taken p r none, z) refl in
    record {
      was_unfinished = due_unfinished (bytes_in p) d (none_taken p r none);
      unfinished = due_unfinished (bytes_in p) d (none_taken p r none);
      given = record { given = w.bytes; front = new_front h w.bytes e ∙ w.front; empty = e };
      polled = telling_map s t _ (FramePolled (Ready (Ok f)) h h) (λ a b k. record { front = new_front h a.ahead e ∙ k.front; empty = e }) q;
      asks = telling_map s t _ (PollsAtMost max_calls) (λ a b k. let one = k.asks in record { asked = let most = one.asked in omega arith; no_less = one.no_less; ending = one.ending; waits = one.waits }) q;
    }
