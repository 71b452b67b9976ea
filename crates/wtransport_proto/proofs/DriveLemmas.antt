-- Polls of one drive add up.
use Rattle.std.proofs.Common.{◌≡◌, ℕ, ◌+◌, ◌*◌, ◌<◌, ◌≤◌, inl, inr, Bool, true, false, List, [], ◌∷◌, ◌++◌, length, drop, refl, sym, ap, ◌∙◌, arith, append_assoc, append-nil, length-append, Option, Ok, Err}
use Rattle.std.proofs.Math.Seq.{drop-append_seam}
use Rattle.std.proofs.lemmas.List.{drop-append-le}
use Rattle.wtp_core.specs.declared.bytes.poll.Polled.TheVariants.{Ready, Pending, Again, NoMemory}
use Rattle.wtp_core.specs.Source.{Source, HasModel}
use Rattle.wtp_core.specs.Polled.{PollsAtMost}
use Rattle.wtp_core.proofs.TellingLemmas.{telling_map, telling_same, telling_then}
use Rattle.wtp_wire.specs.Content.{Content}
use Rattle.wtp_wire.specs.Held.{Held, IsUnfinished, Leaves}
use Rattle.wtransport_proto.specs.declared.stream.error.IoReadError.{IoReadError}
use Rattle.wtransport_proto.specs.declared.stream.driving.Driven.TheVariants as driven
use Rattle.wtp_wire.specs.Rule.{Role}
use Rattle.wtp_wire.specs.Run.{Run}
use Rattle.wtransport_proto.specs.HeldRun.{run_of, size_of}
use Rattle.wtransport_proto.specs.StreamPolling.{EndsWithFault, Faults}
use Rattle.wtransport_proto.specs.Place.{place_of}
use Rattle.wtransport_proto.specs.Polls.{TakesSome, PollDid}
use Rattle.wtransport_proto.proofs.PollsLemmas.{series_start, series_end, series_on}
use Rattle.wtransport_proto.specs.Driving.{ChangesFirst, after, RunsOn, KeepsPlace, DriveKeeps, DriveDid, DriveWaits, Drove}
use Rattle.wtransport_proto.proofs.PlaceLemmas.{same_refl, same_then, leaves_place, unknown_place, frame_place, fault_place}
use Rattle.wtransport_proto.proofs.HeldRunLemmas.{leaves_run, leaves_size, unknown_run, unknown_size, frame_run, framed_size}

-- ---- the stream

module _ {X : Type 0} where
  pub first_same : (first : X → Bool) (x : X) → ChangesFirst first x x
  first_same first x = record { same = λ _. refl; for_good = λ e. e }

  first_then : (first : X → Bool) (x y z : X) (f g : Bool) → first y ≡ f → first z ≡ g → ChangesFirst first x y → ChangesFirst first y z → first z ≡ first x → z ≡ x
  first_then first x y z true true ey ez p q e = q.same (ez ∙ sym ey) ∙ p.same (ey ∙ sym ez ∙ e)
  first_then first x y z false false ey ez p q e = q.same (ez ∙ sym ey) ∙ p.same (ey ∙ sym ez ∙ e)
  first_then first x y z false true ey ez p q e = let no : first z ≡ false = q.for_good ey in absurd (cc)
  first_then first x y z true false ey ez p q e = let no : first y ≡ false = p.for_good (sym e ∙ ez) in absurd (cc)

  pub first_on : (first : X → Bool) (x y z : X) → ChangesFirst first x y → ChangesFirst first y z → ChangesFirst first x z
  first_on first x y z p q = record { same = first_then first x y z (first y) (first z) refl refl p q; for_good = λ e. q.for_good (p.for_good e) }

-- ---- the frames produced

pub pushed : (xs items items' : List Content) (f : Content) → items ≡ xs ++ drop (length xs) items → items' ≡ items ++ f ∷ [] → drop (length xs) items' ≡ drop (length xs) items ++ f ∷ []
pushed xs items items' f e p =
    let long : length xs ≤ length items = omega (arith, ap length e, length-append xs (drop (length xs) items)) in
    ap (λ l. drop (length xs) l) p ∙ drop-append-le (length xs) items (f ∷ []) long

pub pushed_appends : (xs items items' : List Content) (f : Content) → items ≡ xs ++ drop (length xs) items → items' ≡ items ++ f ∷ [] → items' ≡ xs ++ drop (length xs) items'
pushed_appends xs items items' f e p = p ∙ ap (λ l. l ++ f ∷ []) e ∙ append_assoc xs (drop (length xs) items) (f ∷ []) ∙ ap (λ l. xs ++ l) (sym (pushed xs items items' f e p))

pub none_yet : (xs : List Content) → drop (length xs) xs ≡ []
none_yet xs = ap (λ l. drop (length xs) l) (sym (append-nil xs)) ∙ drop-append_seam xs []

pub pushed_most : (xs items items' : List Content) (f : Content) (n : ℕ) → items ≡ xs ++ drop (length xs) items → items' ≡ items ++ f ∷ [] → length (drop (length xs) items) ≤ n → length (drop (length xs) items') ≤ n + 1
pushed_most xs items items' f n e p h = omega (arith, ap length (pushed xs items items' f e p), length-append (drop (length xs) items) (f ∷ []))

-- ---- polls

after_none : (fs : List Content) (r : Run) → fs ≡ [] → r ≡ after fs r
after_none fs r e = rw e refl

after_more : (fs : List Content) (f : Content) (r : Run) → after fs (after (f ∷ []) r) ≡ after (fs ++ f ∷ []) r
after_more fs f r = ap (λ (l : List Content). record { frames = l; ending = r.ending }) (sym (append_assoc fs (f ∷ []) r.frames))

pub asks_more : (n : ℕ) (a b c : Source) → PollsAtMost (4112 * n) a b → PollsAtMost 4112 b c → PollsAtMost (4112 * (n + 1)) a c
asks_more n a b c g k = record {
  asked = let one = g.asked in let two = k.asked in omega arith;
  no_less = let one = g.no_less in let two = k.no_less in omega arith;
  ending = k.ending ∙ g.ending;
  waits = let one = g.waits in let two = k.waits in omega arith;
}

asks_within : (n m : ℕ) (a b : Source) → n ≤ m → PollsAtMost (4112 * n) a b → PollsAtMost (4112 * m) a b
asks_within n m a b l g = record {
  asked = let one = g.asked in omega arith;
  no_less = g.no_less;
  ending = g.ending;
  waits = g.waits;
}

pub asks_last : (n polls : ℕ) (a b c : Source) → n < polls → PollsAtMost (4112 * n) a b → PollsAtMost 4112 b c → PollsAtMost (4112 * polls) a c
asks_last n polls a b c lt g k = asks_within (n + 1) polls a c (omega arith) (asks_more n a b c g k)

pub drove_start : (role : Role) (first : Bool) (h : Held) (fs : List Content) (a : Source) → fs ≡ [] → Drove role first first h h fs 0 a a
drove_start role first h fs a none = record {
  run = after_none fs (run_of role first h a) none;
  place = same_refl (place_of role first h a);
  shorter = omega arith;
  asks = record { asked = omega arith; no_less = omega arith; ending = refl; waits = omega arith };
  series = series_start TakesSome role first h fs a none;
}

drove_frame : (role : Role) (f0 f1 f2 : Bool) (old mid new : Held) (fs fs' : List Content) (f : Content) (n : ℕ) (a b c : Source) → fs' ≡ fs ++ f ∷ [] → Drove role f0 f1 old mid fs n a b → PollDid role (Ready (Ok f)) f1 f2 mid new b c → Drove role f0 f2 old new fs' (n + 1) a c
drove_frame role f0 f1 f2 old mid new fs fs' f n a b c is g h = let t = h.0 in let k = h.2 in record {
  run = g.run ∙ ap (after fs) (frame_run role f1 f2 mid new f b c t k.ending) ∙ after_more fs f (run_of role f2 new c) ∙ ap (λ (l : List Content). after l (run_of role f2 new c)) (sym is);
  place = same_then (place_of role f0 old a) (place_of role f1 mid b) (place_of role f2 new c) g.place (frame_place role f1 f2 mid new f b c t);
  shorter = let one = g.shorter in let two = framed_size mid new f b c t.decided in omega arith;
  asks = asks_more n a b c g.asks k;
  series = series_on TakesSome role fs fs' n (Ready (Ok f)) f0 f1 f2 old mid new a b c is tt g.series h;
}

drove_unknown : (role : Role) (f0 f1 f2 : Bool) (old mid new : Held) (fs : List Content) (n : ℕ) (a b c : Source) → IsUnfinished mid → Drove role f0 f1 old mid fs n a b → PollDid role Again f1 f2 mid new b c → Drove role f0 f2 old new fs (n + 1) a c
drove_unknown role f0 f1 f2 old mid new fs n a b c u g h = let t = h.0 in let k = h.2 in record {
  run = g.run ∙ ap (after fs) (unknown_run role f1 f2 mid new b c t k.ending);
  place = same_then (place_of role f0 old a) (place_of role f1 mid b) (place_of role f2 new c) g.place (unknown_place role f1 f2 mid new b c u t);
  shorter = let one = g.shorter in let two = unknown_size f1 f2 mid new b c t in omega arith;
  asks = asks_more n a b c g.asks k;
  series = series_on TakesSome role fs fs n Again f0 f1 f2 old mid new a b c (sym (append-nil fs)) tt g.series h;
}

runs_after : (role : Role) (f0 f1 f2 : Bool) (old mid new : Held) (fs : List Content) (n : ℕ) (a b c : Source) → Drove role f0 f1 old mid fs n a b → Leaves mid new b c → f2 ≡ f1 → PollsAtMost 4112 b c → RunsOn role f0 f2 old new fs a c
runs_after role f0 f1 f2 old mid new fs n a b c g v e k = g.run ∙ ap (after fs) (leaves_run role f1 mid new b c v k.ending ∙ ap (λ (x : Bool). run_of role x new c) (sym e))

place_after : (role : Role) (f0 f1 f2 : Bool) (old mid new : Held) (fs : List Content) (n : ℕ) (a b c : Source) → IsUnfinished mid → Drove role f0 f1 old mid fs n a b → Leaves mid new b c → f2 ≡ f1 → KeepsPlace role f0 f2 old new a c
place_after role f0 f1 f2 old mid new fs n a b c u g v e = same_then (place_of role f0 old a) (place_of role f1 mid b) (place_of role f2 new c) g.place (leaves_place role f1 f2 mid new b c u v e)

keeps_after : (role : Role) (f0 f1 : Bool) (old mid new : Held) (fs : List Content) (n polls : ℕ) (a b c : Source) → n < polls → Drove role f0 f1 old mid fs n a b → size_of new c ≤ size_of mid b → PollsAtMost 4112 b c → DriveKeeps old new polls a c
keeps_after role f0 f1 old mid new fs n polls a b c lt g s k = record {
  size = let one = g.shorter in omega arith;
  asks = asks_last n polls a b c lt g.asks k;
}

ended : (role : Role) (f0 f1 f2 : Bool) (old mid new : Held) (fs : List Content) (x : IoReadError) (n : ℕ) (a b c : Source) → Drove role f0 f1 old mid fs n a b → Faults role f1 f2 mid new x b c → EndsWithFault (run_of role f0 old a) fs x
ended role f0 f1 f2 old mid new fs x n a b c g t = record {
  frames = ap (λ (r : Run). r.frames) g.run ∙ ap (λ (l : List Content). fs ++ l) t.ends.frames ∙ append-nil fs;
  fault = rw (ap (λ (r : Run). r.ending) g.run) t.ends.fault;
}

-- ---- waits

pub still_start : (s : Option Source) → HasModel s s (DriveWaits driven.Spent)
still_start s = telling_same s (DriveWaits driven.Spent) (λ a. omega arith)

pub still_then : (s t u : Option Source) (n : ℕ) → HasModel s t (DriveWaits driven.Spent) → HasModel t u (λ b c. c.waits ≡ b.waits + n) → HasModel s u (λ a c. c.waits ≡ a.waits + n)
still_then s t u n p q = telling_then s t u (DriveWaits driven.Spent) (λ b c. c.waits ≡ b.waits + n) (λ a c. c.waits ≡ a.waits + n) (λ a b c g h. omega (arith, g, h)) p q

-- ---- each result of one more poll

pub told_full : (s t : Option Source) (role : Role) (f0 f1 : Bool) (r0 r1 : Held) (fs : List Content) (n polls : ℕ) → n < polls
    → HasModel s t (Drove role f0 f1 r0 r1 fs n)
    → HasModel s t (DriveDid role driven.NoMemory f0 f1 r0 r1 fs polls)
told_full s t role f0 f1 r0 r1 fs n polls l p =
    telling_map s t (Drove role f0 f1 r0 r1 fs n) (DriveDid role driven.NoMemory f0 f1 r0 r1 fs polls)
    (λ a b g. (g.run, record { size = let one = g.shorter in omega arith; asks = asks_within n polls a b (omega arith) g.asks }, g.place, (n, l, inl (g.asks, g.series)))) p

pub told_spent : (s t : Option Source) (role : Role) (f0 f1 : Bool) (r0 r1 : Held) (fs : List Content) (polls : ℕ)
    → HasModel s t (Drove role f0 f1 r0 r1 fs polls)
    → HasModel s t (DriveDid role driven.Spent f0 f1 r0 r1 fs polls)
told_spent s t role f0 f1 r0 r1 fs polls p =
    telling_map s t (Drove role f0 f1 r0 r1 fs polls) (DriveDid role driven.Spent f0 f1 r0 r1 fs polls)
    (λ a b g. (g.run, g.shorter, record { size = let one = g.shorter in omega arith; asks = g.asks }, g.place, g.series)) p

pub told_still : (s t u : Option Source) (role : Role) (f0 f1 f2 : Bool) (r0 r1 r2 : Held) (fs : List Content) (n polls : ℕ) → n < polls → IsUnfinished r1
    → HasModel s t (Drove role f0 f1 r0 r1 fs n)
    → HasModel t u (PollDid role NoMemory f1 f2 r1 r2)
    → HasModel s u (DriveDid role driven.NoMemory f0 f2 r0 r2 fs polls)
told_still s t u role f0 f1 f2 r0 r1 r2 fs n polls lt unfinished p q =
    telling_then s t u (Drove role f0 f1 r0 r1 fs n) (PollDid role NoMemory f1 f2 r1 r2) (DriveDid role driven.NoMemory f0 f2 r0 r2 fs polls)
    (λ a b c g h. (
      runs_after role f0 f1 f2 r0 r1 r2 fs n a b c g h.0.leaves h.0.flag h.2,
      keeps_after role f0 f1 r0 r1 r2 fs n polls a b c lt g (leaves_size r1 r2 b c h.0.leaves) h.2,
      place_after role f0 f1 f2 r0 r1 r2 fs n a b c unfinished g h.0.leaves h.0.flag,
      (n, lt, inr (asks_more n a b c g.asks h.2, series_end TakesSome role fs n NoMemory f0 f1 f2 r0 r1 r2 a b c g.series h)),
    ))
    p q

pub told_waiting : (s t u : Option Source) (role : Role) (f0 f1 f2 : Bool) (r0 r1 r2 : Held) (fs : List Content) (n polls : ℕ) → n < polls → IsUnfinished r1
    → HasModel s t (Drove role f0 f1 r0 r1 fs n)
    → HasModel t u (PollDid role Pending f1 f2 r1 r2)
    → HasModel s u (DriveDid role driven.Waiting f0 f2 r0 r2 fs polls)
told_waiting s t u role f0 f1 f2 r0 r1 r2 fs n polls lt unfinished p q =
    telling_then s t u (Drove role f0 f1 r0 r1 fs n) (PollDid role Pending f1 f2 r1 r2) (DriveDid role driven.Waiting f0 f2 r0 r2 fs polls)
    (λ a b c g h. (
      runs_after role f0 f1 f2 r0 r1 r2 fs n a b c g h.0.0 h.0.1 h.2,
      let one = g.asks.waits in let two = h.0.2 in omega arith,
      keeps_after role f0 f1 r0 r1 r2 fs n polls a b c lt g (leaves_size r1 r2 b c h.0.0) h.2,
      place_after role f0 f1 f2 r0 r1 r2 fs n a b c unfinished g h.0.0 h.0.1,
      (n, lt, asks_more n a b c g.asks h.2, series_end TakesSome role fs n Pending f0 f1 f2 r0 r1 r2 a b c g.series h),
    ))
    p q

pub told_ended : (s t u : Option Source) (role : Role) (f0 f1 f2 : Bool) (r0 r1 r2 : Held) (fs : List Content) (x : IoReadError) (n polls : ℕ) → n < polls → IsUnfinished r1
    → HasModel s t (Drove role f0 f1 r0 r1 fs n)
    → HasModel t u (PollDid role (Ready (Err x)) f1 f2 r1 r2)
    → HasModel s u (DriveDid role (driven.Ended x) f0 f2 r0 r2 fs polls)
told_ended s t u role f0 f1 f2 r0 r1 r2 fs x n polls lt unfinished p q =
    telling_then s t u (Drove role f0 f1 r0 r1 fs n) (PollDid role (Ready (Err x)) f1 f2 r1 r2) (DriveDid role (driven.Ended x) f0 f2 r0 r2 fs polls)
    (λ a b c g h. (
      ended role f0 f1 f2 r0 r1 r2 fs x n a b c g h.0,
      h.0.dry,
      keeps_after role f0 f1 r0 r1 r2 fs n polls a b c lt g h.0.size h.2,
      fault_place role f1 f2 (place_of role f0 r0 a) r1 r2 x b c unfinished g.place h.0,
      (n, lt, asks_more n a b c g.asks h.2, series_end TakesSome role fs n (Ready (Err x)) f0 f1 f2 r0 r1 r2 a b c g.series h),
    ))
    p q

pub told_frame : (s t u : Option Source) (role : Role) (f0 f1 f2 : Bool) (r0 r1 r2 : Held) (fs fs' : List Content) (f : Content) (n : ℕ) → fs' ≡ fs ++ f ∷ []
    → HasModel s t (Drove role f0 f1 r0 r1 fs n)
    → HasModel t u (PollDid role (Ready (Ok f)) f1 f2 r1 r2)
    → HasModel s u (Drove role f0 f2 r0 r2 fs' (n + 1))
told_frame s t u role f0 f1 f2 r0 r1 r2 fs fs' f n is p q =
    telling_then s t u (Drove role f0 f1 r0 r1 fs n) (PollDid role (Ready (Ok f)) f1 f2 r1 r2) (Drove role f0 f2 r0 r2 fs' (n + 1))
    (λ a b c g h. drove_frame role f0 f1 f2 r0 r1 r2 fs fs' f n a b c is g h)
    p q

pub told_unknown : (s t u : Option Source) (role : Role) (f0 f1 f2 : Bool) (r0 r1 r2 : Held) (fs : List Content) (n : ℕ) → IsUnfinished r1
    → HasModel s t (Drove role f0 f1 r0 r1 fs n)
    → HasModel t u (PollDid role Again f1 f2 r1 r2)
    → HasModel s u (Drove role f0 f2 r0 r2 fs (n + 1))
told_unknown s t u role f0 f1 f2 r0 r1 r2 fs n unfinished p q =
    telling_then s t u (Drove role f0 f1 r0 r1 fs n) (PollDid role Again f1 f2 r1 r2) (Drove role f0 f2 r0 r2 fs (n + 1))
    (λ a b c g h. drove_unknown role f0 f1 f2 r0 r1 r2 fs n a b c unfinished g h)
    p q

pub told_start : (s : Option Source) (role : Role) (first : Bool) (h : Held) (fs : List Content) → fs ≡ [] → HasModel s s (Drove role first first h h fs 0)
told_start s role first h fs none = telling_same s (Drove role first first h h fs 0) (λ a. drove_start role first h fs a none)
