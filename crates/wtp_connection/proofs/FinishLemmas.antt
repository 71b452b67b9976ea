-- What a call finds where the stream ends.
use Rattle.std.proofs.Common.{◌≡◌, ℕ, ◌≤◌, ◌||◌, Bool, true, false, cond, List, [], ◌∷◌, ◌++◌, length, drop, Option, Some, None, Result, Ok, Err, refl, sym, ap, subst, ◌∙◌, append_assoc, inl, inr}
use Rattle.std.proofs.lemmas.Bool.{cases_Bool}
use Rattle.std.proofs.lemmas.List.{append-nil}
use Rattle.wtp_core.specs.Varint.{number_at}
use Rattle.wtp_frames.specs.Run.{Run}
use Rattle.wtp_frames.proofs.RunLemmas.{run_none}
use Rattle.wtp_frames.specs.declared.fault.Fault.{Fault as StreamFault}
use Rattle.wtp_frames.specs.declared.fault.Fault.TheVariants as stream
use Rattle.wtp_connection.specs.Opening.{uni_at, over_by}
use Rattle.wtp_connection.specs.declared.stream.Purpose.{Purpose}
use Rattle.wtp_connection.proofs.OpeningLemmas.{bi_none}
use Rattle.wtp_connection.specs.declared.fault.Fault.TheVariants as fault
use Rattle.wtp_connection.specs.declared.stream.Stream.{Stream}
use Rattle.wtp_connection.specs.declared.stream.Stream.TheVariants.{Uni, Bi, Frames, Joining, Waiting, Session, Encoder, Decoder, Ignored, Incomplete, Over}
use Rattle.wtp_connection.specs.declared.connection.Connection.{Connection}
use Rattle.wtp_connection.specs.declared.connection.Found.{Found}
use Rattle.wtp_connection.specs.declared.connection.Found.TheVariants as found
use Rattle.wtp_connection.specs.Streams.{closed_by, Seen, Broke, Ended, StreamRun, rests, followed, all_given, has_frames, of_items, by_opening, run_intact, run_stream, end_of, by_fault, ending, ended}
use Rattle.wtp_connection.specs.Receiving.{seen_of, rest_after, Idle, StepIsFound, Settled, FoundIs, more_in, finish_by, finish_open, finish_of}
use Rattle.wtp_connection.proofs.StreamLemmas.{over_given, incomplete_given}

followed_twice : (xs ys : List Seen) (y : StreamRun) → followed (xs ++ ys) y ≡ followed xs (followed ys y)
followed_twice xs ys y = ap (λ (l : List Seen). record { seen = l; connection = y.connection; stream = y.stream; left = y.left }) (append_assoc xs ys y.seen)

pub ended_followed : (xs : List Seen) (y : StreamRun) → ended (followed xs y) ≡ followed xs (ended y)
ended_followed xs y = elim y.connection.over as (λ b. cond b (followed xs y) (followed (xs ++ y.seen) (ending y.connection y.stream y.left)) ≡ followed xs (cond b y (followed y.seen (ending y.connection y.stream y.left)))) [
  | true ↦ refl
  | false ↦ followed_twice xs y.seen (ending y.connection y.stream y.left)
]

ended_finds : (x : Found) (c : Connection) (s : Stream) (bytes : List ℕ) (d : Connection) (t : Stream) → StepIsFound x c s bytes d t → ended (run_stream c s bytes) ≡ followed (seen_of x bytes) (ended (run_stream d t (rest_after x bytes)))
ended_finds x c s bytes d t h =
    ap (λ (y : StreamRun). ended y) (
    ap (λ (l : List ℕ). run_stream c s l) (sym (append-nil bytes))
    ∙ h.finds []
    ∙ ap (λ (l : List ℕ). followed (seen_of x bytes) (run_stream d t l)) (append-nil (rest_after x bytes)))
    ∙ ended_followed (seen_of x bytes) (run_stream d t (rest_after x bytes))

settled_none : (x : Found) (bytes : List ℕ) (d : Connection) (t : Stream) → more_in x ≡ None → Settled x bytes d t
settled_none (found.More n) bytes d t e = absurd (cc)
settled_none (found.Settings v start end) bytes d t e = tt
settled_none (found.Frame kind start end) bytes d t e = tt
settled_none (found.Data start end) bytes d t e = tt
settled_none (found.TooLarge size n) bytes d t e = tt
settled_none (found.Fault f) bytes d t e = tt
settled_none (found.Opened p n) bytes d t e = tt
settled_none found.End bytes d t e = tt

-- the stream goes on
pub found_open : (x : Found) (c : Connection) (s : Stream) (bytes : List ℕ) (fin : Bool) (d : Connection) (t : Stream) → fin ≡ false → StepIsFound x c s bytes d t → FoundIs x c s bytes fin d t
found_open x c s bytes fin d t e h = record {
  fits = h.fits;
  finds = λ more. rw e (h.finds more);
  goes = λ l. h.finds;
  settled = λ is. absurd (cc (sym e ∙ is));
  alone = h.alone;
}

-- the stream ends, after what is found
pub found_before : (x : Found) (c : Connection) (s : Stream) (bytes : List ℕ) (fin : Bool) (d : Connection) (t : Stream) → fin ≡ true → more_in x ≡ None → StepIsFound x c s bytes d t → FoundIs x c s bytes fin d t
found_before x c s bytes fin d t e none h = record {
  fits = h.fits;
  finds = λ more. rw e (ended_finds x c s bytes d t h);
  goes = λ l. h.finds;
  settled = λ is. settled_none x bytes d t none;
  alone = h.alone;
}

-- ---- no bytes

-- a stream without bytes rests
none_open : (c : Connection) (s : Stream) → run_intact c s [] ≡ rests c s []
unfolding uni_at number_at
none_open c Uni = refl
none_open c Bi = ap (λ (o : Option (Purpose × List ℕ)). by_opening c Bi [] o) (bi_none c.endpoint)
none_open c (Frames r given) = ap (λ (y : Run). of_items c (λ d. rests d (Frames y.reader (has_frames y.items || given)) y.left) y.items) (run_none r)
none_open c other = refl

pub run_no_bytes : (c : Connection) (s : Stream) → run_stream c s [] ≡ rests c s []
run_no_bytes c s = elim c.over as (λ b. cond b (all_given c s []) (run_intact c s []) ≡ rests c s []) [
  | true ↦ refl
  | false ↦ none_open c s
]

-- ---- the end of an idle stream

all_over : (d : Connection) (s : Stream) → run_stream d s [] ≡ all_given d s [] → ended (run_stream d s []) ≡ followed [] (ended (all_given d s []))
all_over d s e = ap (λ (y : StreamRun). ended y) e

ended_over : (d : Connection) → ended (run_stream d Over []) ≡ all_given d Over []
ended_over d = ap (λ (y : StreamRun). ended y) (over_given d []) ∙ (elim d.over as (λ b. cond b (all_given d Over []) (all_given d Over []) ≡ all_given d Over []) [ true ↦ refl | false ↦ refl ])

ended_incomplete : (d : Connection) → ended (run_stream d Incomplete []) ≡ all_given d Incomplete []
ended_incomplete d = ap (λ (y : StreamRun). ended y) (incomplete_given d []) ∙ (elim d.over as (λ b. cond b (all_given d Incomplete []) (all_given d Incomplete []) ≡ all_given d Incomplete []) [ true ↦ refl | false ↦ refl ])

-- after the error of an end nothing follows
ended_by : (f : StreamFault) (d : Connection) → ended (run_stream d (over_by f) []) ≡ all_given d (over_by f) []
ended_by stream.RequestIncomplete d = ended_incomplete d
ended_by other d = ended_over d

cond_left : {A : Type 0} (b : Bool) (x y : A) → b ≡ true → cond b x y ≡ x
cond_left true x y e = refl
cond_left false x y e = absurd (cc)

cond_right : {A : Type 0} (b : Bool) (x y : A) → b ≡ false → cond b x y ≡ y
cond_right true x y e = absurd (cc)
cond_right false x y e = refl

idle_end : (d : Connection) (t : Stream) (rest : List ℕ) → d.over ≡ false → run_stream d t rest ≡ rests d t rest → ended (run_stream d t rest) ≡ ending d t rest
idle_end d t rest e idle = ap (λ (y : StreamRun). ended y) idle ∙ cond_right d.over (rests d t rest) (ending d t rest) e

-- nothing is found at the end
stays_found : (n : ℕ) (c : Connection) (s : Stream) (bytes : List ℕ) (fin : Bool) (d : Connection) (t : Stream) → fin ≡ true → StepIsFound (found.More n) c s bytes d t → ended (run_stream d t (drop n bytes)) ≡ rests d t (drop n bytes) → FoundIs (found.More n) c s bytes fin d t
stays_found n c s bytes fin d t e h is = record {
  fits = h.fits;
  finds = λ more. rw e (ended_finds (found.More n) c s bytes d t h);
  goes = λ l. h.finds;
  settled = λ x. is;
  alone = h.alone;
}

-- the end is found
end_found : (n : ℕ) (c : Connection) (s : Stream) (bytes : List ℕ) (fin : Bool) (d : Connection) (t : Stream) (o : Result (Unit {0}) StreamFault) → fin ≡ true → StepIsFound (found.More n) c s bytes d t → ended (run_stream d t (drop n bytes)) ≡ by_fault d o → FoundIs (finish_by d o).0 c s bytes fin (finish_by d o).1 (finish_by d o).2
end_found n c s bytes fin d t (Ok u) e h is = record {
  fits = tt;
  finds = λ more. rw e (
      ended_finds (found.More n) c s bytes d t h
      ∙ is
      ∙ ap (λ (y : StreamRun). followed (Ended ∷ []) y) (sym (ended_over d)));
  goes = λ l. absurd l;
  settled = λ x. tt;
  alone = tt;
}
end_found n c s bytes fin d t (Err f) e h is = record {
  fits = tt;
  finds = λ more. rw e (
      ended_finds (found.More n) c s bytes d t h
      ∙ is
      ∙ ap (λ (y : StreamRun). followed (Broke (fault.Stream f) ∷ []) y) (sym (ended_by f (closed_by d (fault.Stream f)))));
  goes = λ l. absurd l;
  settled = λ x. tt;
  alone = tt;
}

-- by the stream that ends
end_open : (n : ℕ) (left : List ℕ) (c : Connection) (s : Stream) (bytes : List ℕ) (fin : Bool) (d : Connection) (t : Stream) → fin ≡ true → d.over ≡ false → left ≡ drop n bytes → StepIsFound (found.More n) c s bytes d t → ended (run_stream d t (drop n bytes)) ≡ ending d t (drop n bytes) → FoundIs (finish_open d t left n).0 c s bytes fin (finish_open d t left n).1 (finish_open d t left n).2
end_open n left c s bytes fin d Uni e i l h is = end_found n c s bytes fin d Uni (Ok tt) e h is
end_open n left c s bytes fin d Bi e i l h is = rw l (end_found n c s bytes fin d Bi (end_of d Bi (drop n bytes)) e h is)
end_open n left c s bytes fin d (Frames r g) e i l h is = rw l (end_found n c s bytes fin d (Frames r g) (end_of d (Frames r g) (drop n bytes)) e h is)
end_open n left c s bytes fin d (Joining k) e i l h is = stays_found n c s bytes fin d (Joining k) e h is
end_open n left c s bytes fin d (Waiting k) e i l h is = stays_found n c s bytes fin d (Waiting k) e h is
end_open n left c s bytes fin d (Session k) e i l h is = end_found n c s bytes fin d (Session k) (Ok tt) e h is
end_open n left c s bytes fin d Encoder e i l h is = end_found n c s bytes fin d Encoder (end_of d Encoder left) e h is
end_open n left c s bytes fin d (Decoder place) e i l h is = end_found n c s bytes fin d (Decoder place) (end_of d (Decoder place) left) e h is
end_open n left c s bytes fin d Ignored e i l h is = end_found n c s bytes fin d Ignored (Ok tt) e h is
end_open n left c s bytes fin d Incomplete e i l h is = stays_found n c s bytes fin d Incomplete e h (is ∙ ap (λ (k : List ℕ). rests d Incomplete k) (no_rest h.fits.1))
  where
    no_rest : Idle d Incomplete (drop n bytes) → [] ≡ drop n bytes
    no_rest w = ap (λ (y : StreamRun). y.left) (sym (incomplete_given d (drop n bytes)) ∙ w.idle)
end_open n left c s bytes fin d Over e i l h is = stays_found n c s bytes fin d Over e h (is ∙ ap (λ (k : List ℕ). rests d Over k) (over_rest h.fits.1))
  where
    over_rest : Idle d Over (drop n bytes) → [] ≡ drop n bytes
    over_rest w = ap (λ (y : StreamRun). y.left) (sym (over_given d (drop n bytes)) ∙ w.idle)

pub found_end : (x : Found) (n : ℕ) (c : Connection) (s : Stream) (bytes : List ℕ) (fin : Bool) (d e : Connection) (t u : Stream) (y : Found) (left : List ℕ) → fin ≡ true → more_in x ≡ Some n → StepIsFound x c s bytes d t → left ≡ drop n bytes → (y, e, u) ≡ finish_of d t left n → FoundIs y c s bytes fin e u
found_end (found.Opened p k) n c s bytes fin d e t u y left f m h at is = absurd (cc)
found_end found.End n c s bytes fin d e t u y left f m h at is = absurd (cc)
found_end (found.Settings v start end) n c s bytes fin d e t u y left f m h at is = absurd (cc)
found_end (found.Frame kind start end) n c s bytes fin d e t u y left f m h at is = absurd (cc)
found_end (found.Data start end) n c s bytes fin d e t u y left f m h at is = absurd (cc)
found_end (found.TooLarge size k) n c s bytes fin d e t u y left f m h at is = absurd (cc)
found_end (found.Fault k) n c s bytes fin d e t u y left f m h at is = absurd (cc)
found_end (found.More k) n c s bytes fin d e t u y left f m h at is =
    let same : k ≡ n = some_is k n m in
    elim (cases_Bool d.over) [
      | inl over ↦
          let out : (y, e, u) ≡ (found.More n, d, t) = is ∙ cond_left {A = Found × Connection × Stream} d.over (found.More n, d, t) (finish_open d t left n) over in
          subst (λ (z : Found × Connection × Stream). FoundIs z.0 c s bytes fin z.1 z.2) (sym out) (
          subst (λ (i : ℕ). FoundIs (found.More i) c s bytes fin d t) same (
          stays_found k c s bytes fin d t f h (
          ap (λ (z : StreamRun). ended z) h.fits.1.idle
          ∙ cond_left d.over (rests d t (drop k bytes)) (ending d t (drop k bytes)) over)))
      | inr intact ↦
          let out : (y, e, u) ≡ finish_open d t left n = is ∙ cond_right {A = Found × Connection × Stream} d.over (found.More n, d, t) (finish_open d t left n) intact in
          subst (λ (z : Found × Connection × Stream). FoundIs z.0 c s bytes fin z.1 z.2) (sym out) (
          subst (λ (i : ℕ). FoundIs (finish_open d t left i).0 c s bytes fin (finish_open d t left i).1 (finish_open d t left i).2) same (
          end_open k left c s bytes fin d t f intact (at ∙ ap (λ (i : ℕ). drop i bytes) (sym same)) h (idle_end d t (drop k bytes) intact h.fits.1.idle)))
    ]
  where
    some_is : (a b : ℕ) → Some a ≡ Some b → a ≡ b
    some_is a b e = cc

-- More leaves bytes of those that came
pub more_within : (x : Found) (n : ℕ) (c : Connection) (s : Stream) (bytes : List ℕ) (d : Connection) (t : Stream) → more_in x ≡ Some n → StepIsFound x c s bytes d t → n ≤ length bytes
more_within (found.More k) n c s bytes d t m h = subst (λ (i : ℕ). i ≤ length bytes) (some_same k n m) h.fits.0
  where
    some_same : (a b : ℕ) → Some a ≡ Some b → a ≡ b
    some_same a b e = cc
more_within (found.Opened p k) n c s bytes d t m h = absurd (cc)
more_within (found.Settings v start end) n c s bytes d t m h = absurd (cc)
more_within (found.Frame kind start end) n c s bytes d t m h = absurd (cc)
more_within (found.Data start end) n c s bytes d t m h = absurd (cc)
more_within (found.TooLarge size k) n c s bytes d t m h = absurd (cc)
more_within (found.Fault k) n c s bytes d t m h = absurd (cc)
more_within found.End n c s bytes d t m h = absurd (cc)
