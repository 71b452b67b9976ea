-- The bytes held of a frame, poll by poll.
use Rattle.std.proofs.Common.{◌≡◌, ℕ, ◌≤◌, ◌⊎◌, ◌<◌, List, [], ◌∷◌, ◌++◌, length, take, Option, refl, sym, ap, subst, ◌∙◌, arith, append_assoc, append-nil, length-append, length-take, inl, inr}
use Rattle.std.proofs.lemmas.List.{append_cancel_left, take-take, take-append-le}
use Rattle.wtp_core.specs.Source.{Source, HasModel}
use Rattle.wtp_core.proofs.TellingLemmas.{telling_then}
use Rattle.wtp_core.specs.declared.polling.fill.Interrupted.{Interrupted}
use Rattle.wtp_core.specs.Fill.{Gains, FillKeepsLengths}
use Rattle.std.proofs.Common.{Result, Ok, Err}
use Rattle.std.proofs.lemmas.Bool.{cases_lt}
use Rattle.wtp_wire.specs.FrameNeed.{frame_need}
use Rattle.wtp_wire.specs.FramePrefix.{announcement_at}
use Rattle.wtp_wire.specs.PartialFrame.{Part, bytes_in, IsReading}
use Rattle.wtp_wire.specs.FrameSteps.{IsComplete, StopMoves, PayloadKeeps, AdvanceKeeps, Grew, payload_size}
use Rattle.wtp_wire.specs.declared.frame.kind.FrameKind.{FrameKind}
use Rattle.wtp_wire.specs.declared.frame.head.Announcement.{Announcement}
use Rattle.wtp_wire.specs.declared.frame.head.Announcement.TheVariants as announces
use Rattle.wtp_wire.specs.declared.frame.reading.part.ReadInterrupted.{ReadInterrupted}
use Rattle.wtp_wire.specs.declared.frame.reading.part.ReadInterrupted.TheVariants as stopped
use Rattle.wtp_core.proofs.FillLemmas.{gains_then, interrupt_then, begins}

pub gains_front : (h p p' : List ℕ) (a b : Source) (e : ℕ) → Gains p p' a b e → Gains (h ++ p) (h ++ p') a b e
gains_front h p p' a b e g = record {
  kept = append_assoc h p a.ahead ∙ ap (λ l. h ++ l) g.kept ∙ sym (append_assoc h p' b.ahead);
  ending = g.ending;
  asked = let one = g.asked in omega (arith, length-append h p, length-append h p');
  no_less = g.no_less;
  waits = g.waits;
}

kept_after : (h h' p : List ℕ) (a b : Source) (e : ℕ) → ((p ≡ []) ⊎ (h' ≡ h)) → Gains h h' a b e → h ++ (p ++ a.ahead) ≡ h' ++ (p ++ b.ahead)
kept_after h h' p a b e c g = elim c [
  | inl none ↦ rw none g.kept
  | inr same ↦
      let ahead : a.ahead ≡ b.ahead = append_cancel_left h a.ahead b.ahead (g.kept ∙ ap (λ l. l ++ b.ahead) same) in
      rw (same, ahead) refl
]

pub gains_after : (h h' p : List ℕ) (a b : Source) (e : ℕ) → ((p ≡ []) ⊎ (h' ≡ h)) → Gains h h' a b e → Gains (h ++ p) (h' ++ p) a b e
gains_after h h' p a b e c g =
    record {
      kept = append_assoc h p a.ahead ∙ kept_after h h' p a b e c g ∙ sym (append_assoc h' p b.ahead);
      ending = g.ending;
      asked = let one = g.asked in omega (arith, length-append h p, length-append h' p);
      no_less = g.no_less;
      waits = g.waits;
    }

pub no_items : (xs : List ℕ) → length xs ≡ 0 → xs ≡ []
no_items [] e = refl
no_items (x ∷ xs) e = absurd (omega arith)

-- no byte of a payload is held, or the head is unchanged
pub which : (p : Part) (h : List ℕ) → IsReading p → (frame_need p.head ≡ length p.head → h ≡ p.head) → (p.payload ≡ []) ⊎ (h ≡ p.head)
which p h r stays = elim (cases_lt (length p.head) (frame_need p.head)) [
  | inl l ↦ let empty = r.nothing l in let part = r.part in inl (no_items p.payload (omega arith))
  | inr l ↦ let most = r.within in inr (stays (omega arith))
]

pub read_on : (hd hd' p p' : List ℕ) (a b c : Source) (e : ℕ) → ((p ≡ []) ⊎ (hd' ≡ hd)) → Gains hd hd' a b 0 → Gains p p' b c e → Gains (hd ++ p) (hd' ++ p') a c e
read_on hd hd' p p' a b c e w g q = gains_then (hd ++ p) (hd' ++ p) (hd' ++ p) (hd' ++ p') (hd' ++ p') a b c e (gains_after hd hd' p a b 0 w g) (gains_front hd' p p' b c e q) refl refl

pub interrupted_on : (U V : Type 0) (x : ReadInterrupted) (hd hd' p p' : List ℕ) (a b c : Source) → ((p ≡ []) ⊎ (hd' ≡ hd)) → Gains hd hd' a b 0 → StopMoves {U = U} (Err x) p p' b c → StopMoves {U = V} (Err x) (hd ++ p) (hd' ++ p') a c
interrupted_on U V (stopped.Source h) hd hd' p p' a b c w g q = (read_on hd hd' p p' a b c 1 w g q.0, interrupt_then h a b c g.ending g.waits q.1)
interrupted_on U V stopped.NoMemory hd hd' p p' a b c w g q = read_on hd hd' p p' a b c 0 w g q

-- the bytes held start with those held before
pub grew_on : (hd hd' p p' : List ℕ) → ((p ≡ []) ⊎ (hd' ≡ hd)) → Grew hd hd' → Grew p p' → Grew (hd ++ p) (hd' ++ p')
grew_on hd hd' p p' w (more, is) (rest, behind) = elim w [
  | inl none ↦ (more ++ p', rw (none, append-nil hd) (ap (λ l. l ++ p') is ∙ append_assoc hd more p'))
  | inr same ↦ (rest, rw same (ap (λ l. hd ++ l) behind ∙ sym (append_assoc hd p rest)))
]

pub grew_none : (old : List ℕ) → Grew old old
grew_none old = ([], sym (append-nil old))

pub grew_take : (m n : ℕ) (xs ys : List ℕ) → m ≤ n → take m ys ≡ take m xs → Grew (take m xs) (take n ys)
grew_take m n xs ys l e = begins m (take m xs) (take n ys) (take-take m n ys l ∙ e)

pub fill_within : {U : Type 0} (r : Result U Interrupted) (at room : ℕ) → FillKeepsLengths r at room → at ≤ room
fill_within (Ok u) at room e = omega arith
fill_within (Err x) at room l = omega arith

-- the bytes held after a fill of the first len bytes of a vector
pub filled_grew : (held buf rest : List ℕ) (len filled at : ℕ) → filled ≤ at → at ≤ length buf → at ≤ len → take filled buf ≡ held → Grew held (take at (take len (buf ++ rest)))
filled_grew held buf rest len filled at f l m e =
    let shape : take at (take len (buf ++ rest)) ≡ take at buf = take-take at len (buf ++ rest) m ∙ take-append-le at buf rest l in
    rw shape (begins filled held (take at buf) (take-take filled at buf f ∙ e))

-- ---- the head in later polls

pub record HeadGoesOn (p : Part) (h : List ℕ) : Type 0 where
  pub stays : frame_need p.head ≡ length p.head → h ≡ p.head
  pub grew : Grew p.head h

pub head_goes_on : (p : Part) (len len' : ℕ) (head head' : List ℕ) → take len head ≡ p.head → len ≤ length head → len ≤ len' → take len head' ≡ take len head
    → (frame_need (take len head) ≡ len → (len' ≡ len) × (head' ≡ head)) → HeadGoesOn p (take len' head')
head_goes_on p len len' head head' e l forward front stays = record {
  stays = λ w. let s = stays (ap frame_need e ∙ w ∙ omega (arith, ap length e, length-take len head)) in rw (s.0, s.1) e;
  grew = subst (λ (x : List ℕ). Grew x (take len' head')) e (grew_take len len' head head' forward front);
}

pub part_grew : (old new : Part) (h p : List ℕ) → IsReading old → HeadGoesOn old h → p ≡ old.payload → new.head ≡ h → Grew p new.payload → Grew (bytes_in old) (bytes_in new)
part_grew old new h p r g e i q = rw i (grew_on old.head h old.payload new.payload (which old h r g.stays) g.grew (subst (λ (l : List ℕ). Grew l new.payload) e q))

pub part_moves : (s t u : Option Source) (old new : Part) (h hd p : List ℕ) → IsReading old → HeadGoesOn old h → hd ≡ old.head → p ≡ old.payload → new.head ≡ h
    → HasModel s t (λ a b. Gains hd h a b 0) → HasModel t u (λ a b. Gains p new.payload a b 0)
    → HasModel s u (λ a b. Gains (bytes_in old) (bytes_in new) a b 0)
part_moves s t u old new h hd p r g e e' i m q = telling_then s t u _ _ (λ a b. Gains (bytes_in old) (bytes_in new) a b 0)
    (λ x y z k j. rw i (read_on old.head h old.payload new.payload x y z 0 (which old h r g.stays) (subst (λ (l : List ℕ). Gains l h x y 0) e k) (subst (λ (l : List ℕ). Gains l new.payload y z 0) e' j))) m q

pub part_interrupts : (U V : Type 0) (x : ReadInterrupted) (s t u : Option Source) (old new : Part) (h hd p : List ℕ) → IsReading old → HeadGoesOn old h → hd ≡ old.head → p ≡ old.payload → new.head ≡ h
    → HasModel s t (λ a b. Gains hd h a b 0) → HasModel t u (λ a b. StopMoves {U = U} (Err x) p new.payload a b)
    → HasModel s u (λ a b. StopMoves {U = V} (Err x) (bytes_in old) (bytes_in new) a b)
part_interrupts U V x s t u old new h hd p r g e e' i m q = telling_then s t u _ _ (λ a b. StopMoves {U = V} (Err x) (bytes_in old) (bytes_in new) a b)
    (λ a b c k j. rw i (interrupted_on U V x old.head h old.payload new.payload a b c (which old h r g.stays) (subst (λ (l : List ℕ). Gains l h a b 0) e k) (subst (λ (l : List ℕ). StopMoves {U = U} (Err x) l new.payload b c) e' j))) m q

-- Nothing is allocated before the head is complete. A complete head is unchanged, and its payload
-- has the allocated size.
room_announcement : (p : Part) (h : List ℕ) (s : Announcement) → IsReading p → HeadGoesOn p h → announcement_at h ≡ s
    → (p.room ≡ 0) ⊎ ((k : FrameKind) × (m : ℕ) × (s ≡ announces.Payload k m) × (length p.payload < m) × (0 < p.room → p.room ≡ m))
room_announcement p h s r g says = elim (cases_lt (length p.head) (frame_need p.head)) [
  | inl l ↦ inl (r.nothing l)
  | inr l ↦
      let most = r.within in
      let same : h ≡ p.head = g.stays (omega arith) in
      let w = r.whole l in
      inr (w.0, w.1, sym says ∙ ap announcement_at same ∙ w.2, w.3, w.4)
]

-- the payload was read in part, or was not allocated
pub stopped_keeps : (U : Type 0) (x : ReadInterrupted) (old mid new : Part) (k : FrameKind) (m : ℕ) → IsReading old → HeadGoesOn old mid.head → mid.room ≡ old.room → frame_need mid.head ≡ length mid.head → announcement_at mid.head ≡ announces.Payload k m
    → new.head ≡ mid.head → PayloadKeeps {U = U} (Err x) m mid new → AdvanceKeeps (Err x) old new
stopped_keeps U (stopped.Source y) old mid new k m r g e w says i q = record {
  within = omega (arith, ap length i, ap frame_need i);
  part = omega (arith, q.0, q.1);
  nothing = λ l. absurd (omega (arith, ap length i, ap frame_need i));
  whole = λ l. (k, m, ap announcement_at i ∙ says, q.1, λ _. q.0);
}
stopped_keeps U stopped.NoMemory old mid new k m r g e w says i q =
    let part = r.part in
    let before = q.before in (
      record {
        within = omega (arith, ap length i, ap frame_need i);
        part = omega (arith, ap length q.none);
        nothing = λ l. q.after;
        whole = λ l. (k, m, ap announcement_at i ∙ says, let some = q.some in omega (arith, ap length q.none), λ l'. absurd (omega (arith, q.after)));
      },
      record {
        none = no_items old.payload (omega arith);
        forward = let (given, is) = g.grew in omega (arith, ap length i, ap length is, length-append old.head given);
        whole = omega (arith, ap length i, ap frame_need i);
        kind = k;
        size = m;
        says = ap announcement_at i ∙ says;
        some = q.some;
        empty = q.none;
      },
    )

none_announcement : (s : Announcement) → ((k : FrameKind) (m : ℕ) → s ≡ announces.Payload k m → ⊥) → payload_size s ≡ 0
none_announcement announces.Unfinished not = refl
none_announcement (announces.Payload k m) not = absurd (not k m refl)
none_announcement (announces.Session id) not = refl
none_announcement (announces.Skip m) not = refl
none_announcement announces.BadSession not = refl
none_announcement announces.TooLong not = refl

-- no payload follows the head
pub announcement_bare : (s : Announcement) (old new : Part) → IsReading old → HeadGoesOn old new.head → new.room ≡ old.room → new.payload ≡ old.payload → frame_need new.head ≡ length new.head → announcement_at new.head ≡ s
    → ((k : FrameKind) (m : ℕ) → s ≡ announces.Payload k m → ⊥) → IsComplete s new
announcement_bare s old new r g e e' w says not = elim (room_announcement old new.head s r g says) [
  | inl none ↦
      let part = r.part in
      record { whole = w; says = says; size = omega (arith, ap length e', none_announcement s not); all = omega (arith, ap length e') }
  | inr (k, m, is, less, whole) ↦ absurd (not k m is)
]

pub same_gains : (held : List ℕ) (a : Source) → Gains held held a a 0
same_gains held a = record { kept = refl; ending = refl; asked = omega arith; no_less = omega arith; waits = omega arith }
