-- What opens a stream, and that it stays the same from poll to poll.
use Rattle.std.proofs.Common.{◌≡◌, ◌≢◌, ℕ, Bool, true, false, List, [], refl, sym, ap, subst, ◌∙◌, arith, Option, Some, None, inl, inr}
use Rattle.std.proofs.lemmas.Bool.{cases_lt}
use Rattle.wtp_core.specs.declared.error.ErrorCode.{ErrorCode}
use Rattle.wtp_core.specs.declared.error.ErrorCode.TheVariants.{Id, ExcessiveLoad, FrameUnexpected}
use Rattle.wtp_core.specs.declared.bytes.poll.Polled.TheVariants.{Pending}
use Rattle.wtp_core.specs.Source.{Source, HasModel}
use Rattle.wtp_core.specs.Polled.{PollsAtMost}
use Rattle.wtp_core.proofs.TellingLemmas.{telling_map, telling_both}
use Rattle.wtp_wire.specs.declared.frame.kind.FrameKind.{FrameKind}
use Rattle.wtp_wire.specs.declared.frame.kind.FrameKind.TheVariants.{Data, Headers, WebTransport, Exercise}
use Rattle.wtp_wire.specs.Content.{Content, PlainOf, WebTransportOf, DataOf, HeadersOf, ExerciseOf, kind_in, payload_in, session_in}
use Rattle.wtp_wire.specs.Front.{Front, Framed, Unknown, BadId, TooBig, Short, front}
use Rattle.wtp_wire.specs.Held.{Held, new_held, front_held, IsUnfinished, Leaves}
use Rattle.wtp_wire.specs.FramePolling.{Answered}
use Rattle.wtp_wire.proofs.FramePollLemmas.{front_none}
use Rattle.wtransport_proto.specs.declared.stream.accepting.BiAccepted.{BiAccepted}
use Rattle.wtransport_proto.specs.declared.stream.accepting.BiAccepted.TheVariants as accepted
use Rattle.wtransport_proto.specs.declared.stream.accepting.BiAccepting.{BiAccepting}
use Rattle.wtransport_proto.specs.declared.stream.error.IoReadError.{IoReadError}
use Rattle.wtransport_proto.specs.declared.stream.error.IoReadError.TheVariants as stream
use Rattle.wtp_wire.specs.Rule.{RemoteBi, rule}
use Rattle.wtp_wire.specs.Run.{Run, Tail, MayGoOn, H3, follows, skip_unknown, run}
use Rattle.wtransport_proto.specs.HeldRun.{tail_of, stop_of, count_held, run_held, run_of}
use Rattle.wtransport_proto.specs.StreamPolling.{StreamTakesFrame, Faults, SkipsUnknown, LacksMemory, StreamPolled}
use Rattle.wtransport_proto.specs.Streams.{first_of, session_of}
use Rattle.wtransport_proto.specs.Accepting.{Opening, Session, Request, Nothing, request_in, opening_by, known_by, opening, opening_of, TakesSession, TakesRequest, SameOpening, SkipsFrame, FailsToOpen, BiAcceptPolled, BiAcceptGiven, held_in, Judges}
use Rattle.wtp_wire.proofs.RunLemmas.{skip_unknown-unknown, skip_unknown-framed, skip_unknown-bad, skip_unknown-big, skip_unknown-short}
use Rattle.wtransport_proto.proofs.HeldRunLemmas.{run_framed, run_refused, run_case, run_held-run, leaves_run, unknown_run, unknown_size, frame_run, framed_size}

-- ---- by the first frame

opening_case : (first : Bool) (h : Held) (xs : List ℕ) (tail : Tail) (c : Front) → front_held h xs ≡ c → opening first h xs tail ≡ opening_by first (known_by c) (run_held RemoteBi first h xs tail)
unfolding opening
opening_case first h xs tail c e = ap (λ (x : Front). opening_by first (known_by x) (run_held RemoteBi first h xs tail)) e

abbrev requested : Run → Opening
requested r = request_in r.frames r.ending

by_plain : (first : Bool) (kind : FrameKind) (payload rest : List ℕ) (r : Run) → opening_by first (Framed (PlainOf kind payload) rest) r ≡ requested r
by_plain true kind payload rest r = refl
by_plain false kind payload rest r = refl

by_bad : (first : Bool) (rest : List ℕ) (r : Run) → opening_by first (BadId rest) r ≡ requested r
by_bad true rest r = refl
by_bad false rest r = refl

by_big : (first : Bool) (rest : List ℕ) (r : Run) → opening_by first (TooBig rest) r ≡ requested r
by_big true rest r = refl
by_big false rest r = refl

by_short : (first : Bool) (r : Run) → opening_by first Short r ≡ requested r
by_short true r = refl
by_short false r = refl

-- a first frame of another kind than WebTransport
plain_run : (first : Bool) (h : Held) (xs rest payload : List ℕ) (tail : Tail) (kind : FrameKind) (r : Run) → front_held h xs ≡ Framed (PlainOf kind payload) rest → run_held RemoteBi first h xs tail ≡ r → opening first h xs tail ≡ requested r
plain_run first h xs rest payload tail kind r e is =
    opening_case first h xs tail (Framed (PlainOf kind payload) rest) e
    ∙ by_plain first kind payload rest (run_held RemoteBi first h xs tail)
    ∙ ap (λ (x : Run). requested x) is

-- if a frame was read before
late : (h : Held) (xs : List ℕ) (tail : Tail) → opening false h xs tail ≡ requested (run_held RemoteBi false h xs tail)
late h xs tail = opening_case false h xs tail (front_held h xs) refl

pub opening-session : (h : Held) (xs rest : List ℕ) (tail : Tail) (id : ℕ) → front_held h xs ≡ Framed (WebTransportOf id) rest → opening true h xs tail ≡ Session id rest
opening-session h xs rest tail id e = opening_case true h xs tail (Framed (WebTransportOf id) rest) e

pub opening-request : (first : Bool) (h : Held) (xs rest payload : List ℕ) (tail : Tail) → front_held h xs ≡ Framed (HeadersOf payload) rest → opening first h xs tail ≡ Request payload (run RemoteBi false rest tail)
opening-request first h xs rest payload tail e = plain_run first h xs rest payload tail Headers _ e (run_framed RemoteBi first h xs rest tail (HeadersOf payload) e refl)

pub opening-data : (first : Bool) (h : Held) (xs rest payload : List ℕ) (tail : Tail) → front_held h xs ≡ Framed (DataOf payload) rest → opening first h xs tail ≡ Nothing (H3 FrameUnexpected)
opening-data first h xs rest payload tail e = plain_run first h xs rest payload tail Data _ e (run_framed RemoteBi first h xs rest tail (DataOf payload) e refl)

pub opening-reserved : (first : Bool) (h : Held) (xs rest payload : List ℕ) (tail : Tail) (number : ℕ) → tail ≢ MayGoOn → front_held h xs ≡ Framed (ExerciseOf number payload) rest → opening first h xs tail ≡ opening false new_held rest tail
opening-reserved first h xs rest payload tail number stops e =
    plain_run first h xs rest payload tail (Exercise number) _ e (run_framed RemoteBi first h xs rest tail (ExerciseOf number payload) e refl)
    ∙ ap (λ (x : Run). requested x) (sym (run_held-run RemoteBi false new_held rest tail stops refl))
    ∙ sym (late new_held rest tail)

known : (bytes : List ℕ) (c : Front) → front bytes ≡ c → front (skip_unknown bytes) ≡ known_by c
known bytes (Framed f rest) e = ap front (skip_unknown-framed bytes rest f e) ∙ e
known bytes (Unknown rest) e = ap front (skip_unknown-unknown bytes rest e)
known bytes (BadId rest) e = ap front (skip_unknown-bad bytes rest e) ∙ e
known bytes (TooBig rest) e = ap front (skip_unknown-big bytes rest e) ∙ e
known bytes Short e = ap front (skip_unknown-short bytes e) ∙ e

known_new : (bytes : List ℕ) → front (skip_unknown bytes) ≡ known_by (front_held new_held bytes)
known_new bytes = known bytes (front bytes) refl ∙ ap known_by (sym (front_none [] 0 bytes refl))

pub opening-unknown : (first : Bool) (h : Held) (xs rest : List ℕ) (tail : Tail) → tail ≢ MayGoOn → front_held h xs ≡ Unknown rest → opening first h xs tail ≡ opening first new_held rest tail
opening-unknown first h xs rest tail stops e =
    opening_case first h xs tail (Unknown rest) e
    ∙ ap (λ (c : Front). opening_by first c (run_held RemoteBi first h xs tail)) (known_new rest)
    ∙ ap (λ (r : Run). opening_by first (known_by (front_held new_held rest)) r) (run_case RemoteBi first h xs tail (Unknown rest) e ∙ sym (run_held-run RemoteBi first new_held rest tail stops refl))
    ∙ sym (opening_case first new_held rest tail (front_held new_held rest) refl)

refused_by : (first : Bool) (f : Content) (rest : List ℕ) (c : ErrorCode) (r : Run) → rule RemoteBi first (kind_in f) ≡ Some c → opening_by first (Framed f rest) r ≡ requested r
refused_by first (PlainOf kind payload) rest c r e = by_plain first kind payload rest r
refused_by true (WebTransportOf id) rest c r e = absurd (cc)
refused_by false (WebTransportOf id) rest c r e = refl

pub opening-refused : (first : Bool) (h : Held) (xs rest : List ℕ) (tail : Tail) (f : Content) (c : ErrorCode) → front_held h xs ≡ Framed f rest → rule RemoteBi first (kind_in f) ≡ Some c → opening first h xs tail ≡ Nothing (H3 c)
opening-refused first h xs rest tail f c e refused =
    opening_case first h xs tail (Framed f rest) e
    ∙ refused_by first f rest c (run_held RemoteBi first h xs tail) refused
    ∙ ap (λ (x : Run). requested x) (run_refused RemoteBi first h xs rest tail f c e refused)

pub opening-bad_id : (first : Bool) (h : Held) (xs rest : List ℕ) (tail : Tail) → front_held h xs ≡ BadId rest → opening first h xs tail ≡ Nothing (H3 Id)
opening-bad_id first h xs rest tail e =
    opening_case first h xs tail (BadId rest) e
    ∙ by_bad first rest (run_held RemoteBi first h xs tail)
    ∙ ap (λ (x : Run). requested x) (run_case RemoteBi first h xs tail (BadId rest) e)

pub opening-too_big : (first : Bool) (h : Held) (xs rest : List ℕ) (tail : Tail) → front_held h xs ≡ TooBig rest → opening first h xs tail ≡ Nothing (H3 ExcessiveLoad)
opening-too_big first h xs rest tail e =
    opening_case first h xs tail (TooBig rest) e
    ∙ by_big first rest (run_held RemoteBi first h xs tail)
    ∙ ap (λ (x : Run). requested x) (run_case RemoteBi first h xs tail (TooBig rest) e)

pub opening-short : (first : Bool) (h : Held) (xs : List ℕ) (tail : Tail) → front_held h xs ≡ Short → opening first h xs tail ≡ Nothing (stop_of (count_held h xs) tail)
opening-short first h xs tail e =
    opening_case first h xs tail Short e
    ∙ by_short first (run_held RemoteBi first h xs tail)
    ∙ ap (λ (x : Run). requested x) (run_case RemoteBi first h xs tail Short e)

-- ---- polls leave the opening as it is

same_opening : (first next : Bool) (old new : Held) (a b : Source) → next ≡ first → known_by (front_held new b.ahead) ≡ known_by (front_held old a.ahead) → run_of RemoteBi first old a ≡ run_of RemoteBi next new b → SameOpening first next old new a b
same_opening first next old new a b n k r =
    opening_case next new b.ahead (tail_of b.ending) (front_held new b.ahead) refl
    ∙ ap (λ (x : Run). opening_by next (known_by (front_held new b.ahead)) x) (sym r)
    ∙ ap (λ (c : Front). opening_by next c (run_of RemoteBi first old a)) k
    ∙ ap (λ (x : Bool). opening_by x (known_by (front_held old a.ahead)) (run_of RemoteBi first old a)) n
    ∙ sym (opening_case first old a.ahead (tail_of a.ending) (front_held old a.ahead) refl)

pub leaves_opening : (first next : Bool) (old new : Held) (a b : Source) → next ≡ first → Leaves old new a b → b.ending ≡ a.ending → SameOpening first next old new a b
leaves_opening first next old new a b n v ending =
    same_opening first next old new a b n (ap known_by v.same) (leaves_run RemoteBi first old new a b v ending ∙ ap (λ (x : Bool). run_of RemoteBi x new b) (sym n))

unknown_known : (first next : Bool) (old new : Held) (a b : Source) → SkipsUnknown first next old new a b → known_by (front_held new b.ahead) ≡ known_by (front_held old a.ahead)
unknown_known first next old new a b p = elim (cases_lt 0 new.skip_remaining) [
  | inl l ↦ let w = p.part l in ap known_by w.0
  | inr l ↦ let d = p.whole (omega arith) in ap (λ (h : Held). known_by (front_held h b.ahead)) d.empty ∙ sym (known_new b.ahead) ∙ ap known_by (sym d.front)
]

pub unknown_opening : (first next : Bool) (old new : Held) (a b : Source) → SkipsUnknown first next old new a b → b.ending ≡ a.ending → SameOpening first next old new a b
unknown_opening first next old new a b p ending =
    same_opening first next old new a b p.flag (unknown_known first next old new a b p) (unknown_run RemoteBi first next old new a b p ending)

reserved_opening : (first next : Bool) (old new : Held) (number : ℕ) (payload : List ℕ) (a b : Source) → StreamTakesFrame RemoteBi first next old new (ExerciseOf number payload) a b → b.ending ≡ a.ending → SameOpening first next old new a b
reserved_opening first next old new number payload a b t ending =
    ap (λ (x : Bool). opening_of x new b) t.flag
    ∙ late new b.ahead (tail_of b.ending)
    ∙ sym (plain_run first old a.ahead b.ahead payload (tail_of a.ending) (Exercise number) _ t.decided.front (frame_run RemoteBi first next old new (ExerciseOf number payload) a b t ending)
    ∙ ap (λ (x : Bool). requested (run_of RemoteBi x new b)) t.flag)

-- ---- faults

no_opening : (first next : Bool) (old new : Held) (x : IoReadError) (a b : Source) (c : Front) → front_held old a.ahead ≡ c → Faults RemoteBi first next old new x a b → opening_by first (known_by c) (run_of RemoteBi first old a) ≡ requested (run_of RemoteBi first old a)
no_opening first next old new x a b (Framed (PlainOf kind payload) rest) e t = by_plain first kind payload rest (run_of RemoteBi first old a)
no_opening true next old new x a b (Framed (WebTransportOf id) rest) e t =
    let frames = ap (λ (r : Run). r.frames) (run_framed RemoteBi true old a.ahead rest (tail_of a.ending) (WebTransportOf id) e refl) in
    let none = t.ends.frames in
    absurd (cc (frames, none))
no_opening false next old new x a b (Framed (WebTransportOf id) rest) e t = refl
no_opening first next old new x a b (Unknown rest) e t = absurd (rw e at t.place)
no_opening first next old new x a b (BadId rest) e t = by_bad first rest (run_of RemoteBi first old a)
no_opening first next old new x a b (TooBig rest) e t = by_big first rest (run_of RemoteBi first old a)
no_opening first next old new x a b Short e t = by_short first (run_of RemoteBi first old a)

faults_fail : (first next : Bool) (old new : Held) (x : IoReadError) (a b : Source) → Faults RemoteBi first next old new x a b → FailsToOpen first next old new x a b
faults_fail first next old new x a b t = record {
  fails = record {
    ending = (run_of RemoteBi first old a).ending;
    opening =
        opening_case first old a.ahead (tail_of a.ending) (front_held old a.ahead) refl
        ∙ no_opening first next old new x a b (front_held old a.ahead) refl t
        ∙ ap (λ (fs : List Content). request_in fs (run_of RemoteBi first old a).ending) t.ends.frames;
    fault = t.ends.fault;
  };
  why = inl t;
  size = t.size;
  flag = t.flag;
  place = t.place;
  dry = t.dry;
}

data_fails : (first next : Bool) (old new : Held) (payload : List ℕ) (a b : Source) → StreamTakesFrame RemoteBi first next old new (DataOf payload) a b → FailsToOpen first next old new (stream.H3 FrameUnexpected) a b
data_fails first next old new payload a b t = record {
  fails = record {
    ending = H3 FrameUnexpected;
    opening = opening-data first old a.ahead b.ahead payload (tail_of a.ending) t.decided.front;
    fault = refl;
  };
  why = inr (refl, (payload, t));
  size = omega (arith, framed_size old new (DataOf payload) a b t.decided);
  flag = rw t.decided.front t.flag;
  place = rw t.decided.front (t.decided.empty, refl);
  dry = tt;
}

-- ---- a frame

takes_session : (first next : Bool) (old new : Held) (id : ℕ) (a b : Source) → StreamTakesFrame RemoteBi first next old new (WebTransportOf id) a b → TakesSession first old id a b
takes_session true next old new id a b t = record {
  opening = opening-session old a.ahead b.ahead (tail_of a.ending) id t.decided.front;
  none_before = refl;
  front = t.decided.front;
}
takes_session false next old new id a b t = let no = t.allowed in absurd (cc)

takes_request : (first next : Bool) (old new : Held) (f : Content) (a b : Source) → f ≡ HeadersOf (payload_in f) → StreamTakesFrame RemoteBi first next old new f a b → b.ending ≡ a.ending → TakesRequest first next old new f a b
takes_request first next old new f a b e t ending = record {
  opening =
      plain_run first old a.ahead b.ahead (payload_in f) (tail_of a.ending) Headers _ (t.decided.front ∙ ap (λ (x : Content). Framed x b.ahead) e) (frame_run RemoteBi first next old new f a b t ending)
      ∙ ap (λ (x : Content). requested (follows x (run_of RemoteBi next new b))) e;
  headers = e;
  takes = t;
}

skips_reserved : (first next : Bool) (old new : Held) (number : ℕ) (payload : List ℕ) (a b : Source) → StreamTakesFrame RemoteBi first next old new (ExerciseOf number payload) a b → b.ending ≡ a.ending → SkipsFrame first next old new a b
skips_reserved first next old new number payload a b t ending = record {
  opening = reserved_opening first next old new number payload a b t ending;
  size = framed_size old new (ExerciseOf number payload) a b t.decided;
  skipped = inr (number, payload, t);
}

skips_unknown : (first next : Bool) (old new : Held) (a b : Source) → SkipsUnknown first next old new a b → b.ending ≡ a.ending → SkipsFrame first next old new a b
skips_unknown first next old new a b p ending = record {
  opening = unknown_opening first next old new a b p ending;
  size = unknown_size first next old new a b p;
  skipped = inl p;
}

-- ---- one poll

-- what was judged, by the contents of the frame
pub frame_told : (s t : Option Source) (r : BiAccepted) (f : Content) (first : Bool) (old : Held) (p : BiAccepting) → Judges r p f
    → HasModel s t (StreamTakesFrame RemoteBi first (first_of p.stream) old p.reading f) → HasModel s t (PollsAtMost 4112) → HasModel s t (BiAcceptPolled r first old)
frame_told s t (accepted.WebTransport u) f first old p j q k = telling_map s t (StreamTakesFrame RemoteBi first (first_of p.stream) old p.reading f) (TakesSession first old (session_of u))
    (λ a b d. takes_session first (first_of p.stream) old p.reading (session_of u) a b (rw j at d)) q
frame_told s t (accepted.Request u reading g) f first old p j q k = rw (j.0, j.1, j.2) (
    telling_map s t (λ a b. StreamTakesFrame RemoteBi first (first_of p.stream) old p.reading f a b × PollsAtMost 4112 a b) (TakesRequest first (first_of p.stream) old p.reading f)
    (λ a b d. takes_request first (first_of p.stream) old p.reading f a b j.3 d.0 d.1.ending)
    (telling_both s t (StreamTakesFrame RemoteBi first (first_of p.stream) old p.reading f) (PollsAtMost 4112) q k))
frame_told s t (accepted.Again u) f first old p (same, (number, payload, e)) q k = rw same (
    telling_map s t (λ a b. StreamTakesFrame RemoteBi first (first_of p.stream) old p.reading f a b × PollsAtMost 4112 a b) (SkipsFrame first (first_of p.stream) old p.reading)
    (λ a b d. skips_reserved first (first_of p.stream) old p.reading number payload a b (rw e at d.0) d.1.ending)
    (telling_both s t (StreamTakesFrame RemoteBi first (first_of p.stream) old p.reading f) (PollsAtMost 4112) q k))
frame_told s t (accepted.Pending u) f first old p j q k = absurd j
frame_told s t (accepted.NoMemory u) f first old p j q k = absurd j
frame_told s t (accepted.Failed u x) f first old p (same, is, (payload, e)) q k = rw (same, is) (
    telling_map s t (StreamTakesFrame RemoteBi first (first_of p.stream) old p.reading f) (FailsToOpen first (first_of p.stream) old p.reading (stream.H3 FrameUnexpected))
    (λ a b d. data_fails first (first_of p.stream) old p.reading payload a b (rw e at d)) q)

pub again_told : (s t : Option Source) (first next : Bool) (old new : Held)
    → HasModel s t (SkipsUnknown first next old new) → HasModel s t (PollsAtMost 4112) → HasModel s t (SkipsFrame first next old new)
again_told s t first next old new q k = telling_map s t (λ a b. SkipsUnknown first next old new a b × PollsAtMost 4112 a b) (SkipsFrame first next old new)
    (λ a b d. skips_unknown first next old new a b d.0 d.1.ending) (telling_both s t (SkipsUnknown first next old new) (PollsAtMost 4112) q k)

pub pending_told : (s t : Option Source) (first : Bool) (old : Held) (p : BiAccepting)
    → HasModel s t (StreamPolled RemoteBi Pending first (first_of p.stream) old p.reading) → HasModel s t (PollsAtMost 4112) → HasModel s t (BiAcceptPolled (accepted.Pending p) first old)
pending_told s t first old p q k =
    telling_map s t (λ a b. StreamPolled RemoteBi Pending first (first_of p.stream) old p.reading a b × PollsAtMost 4112 a b) (BiAcceptPolled (accepted.Pending p) first old)
    (λ a b d. (leaves_opening first (first_of p.stream) old p.reading a b d.0.1 d.0.0 d.1.ending, d.0.0, d.0.1, d.0.2))
    (telling_both s t (StreamPolled RemoteBi Pending first (first_of p.stream) old p.reading) (PollsAtMost 4112) q k)

pub no_memory_told : (s t : Option Source) (first : Bool) (old : Held) (p : BiAccepting)
    → HasModel s t (LacksMemory first (first_of p.stream) old p.reading) → HasModel s t (PollsAtMost 4112) → HasModel s t (BiAcceptPolled (accepted.NoMemory p) first old)
no_memory_told s t first old p q k =
    telling_map s t (λ a b. LacksMemory first (first_of p.stream) old p.reading a b × PollsAtMost 4112 a b) (BiAcceptPolled (accepted.NoMemory p) first old)
    (λ a b d. (leaves_opening first (first_of p.stream) old p.reading a b d.0.flag d.0.leaves d.1.ending, d.0))
    (telling_both s t (LacksMemory first (first_of p.stream) old p.reading) (PollsAtMost 4112) q k)

pub fault_told : (s t : Option Source) (first next : Bool) (old new : Held) (x : IoReadError)
    → HasModel s t (Faults RemoteBi first next old new x) → HasModel s t (FailsToOpen first next old new x)
fault_told s t first next old new x q = telling_map s t (Faults RemoteBi first next old new x) (FailsToOpen first next old new x)
    (λ a b d. faults_fail first next old new x a b d) q

-- ---- of every source

new_answered : (old new : Held) (case : List ℕ → Front) → Answered old new case → Answered old new_held case
new_answered old new case g = record { given = g.given; front = g.front; empty = refl }

first_session : (first : Bool) (f : Content) (id : ℕ) → f ≡ WebTransportOf id → rule RemoteBi first (kind_in f) ≡ None → first ≡ true
first_session true f id e allowed = refl
first_session false f id e allowed = let no : rule RemoteBi false WebTransport ≡ None = rw e at allowed in absurd (cc)

pub frame_given : (r : BiAccepted) (f : Content) (first : Bool) (old : Held) (p : BiAccepting) → Judges r p f
    → Answered old p.reading (Framed f) → rule RemoteBi first (kind_in f) ≡ None → first_of p.stream ≡ false → BiAcceptGiven r first old
frame_given (accepted.WebTransport u) f first old p j g allowed n = (new_answered old p.reading (Framed (WebTransportOf (session_of u))) (rw j at g), first_session first f (session_of u) j allowed)
frame_given (accepted.Request u reading h) f first old p j g allowed n = (rw (j.1, j.2) g, rw j.2 j.3, ap first_of j.0 ∙ n)
frame_given (accepted.Again u) f first old p (same, (number, payload, e)) g allowed n = rw same (inr (number, payload, rw e at g, n))
frame_given (accepted.Pending u) f first old p j g allowed n = absurd j
frame_given (accepted.NoMemory u) f first old p j g allowed n = absurd j
frame_given (accepted.Failed u x) f first old p (same, is, (payload, e)) g allowed n = subst (λ (y : IoReadError). BiAcceptGiven (accepted.Failed u y) first old) (sym is) (rw same (inr (refl, (payload, rw e at g), n)))

pub frame_unfinished : (r : BiAccepted) (f : Content) (p : BiAccepting) → Judges r p f → p.reading ≡ new_held → IsUnfinished p.reading → IsUnfinished (held_in r)
frame_unfinished (accepted.WebTransport u) f p j n h = rw n at h
frame_unfinished (accepted.Request u reading g) f p j n h = rw j.1 h
frame_unfinished (accepted.Again u) f p j n h = rw j.0 h
frame_unfinished (accepted.Pending u) f p j n h = absurd j
frame_unfinished (accepted.NoMemory u) f p j n h = absurd j
frame_unfinished (accepted.Failed u x) f p j n h = rw j.0 h

-- ---- contents of frames

pub session_content : (f : Content) (id : ℕ) → session_in f ≡ Some id → f ≡ WebTransportOf id
session_content (PlainOf kind payload) id e = absurd (cc)
session_content (WebTransportOf n) id e = let same : n ≡ id = cc in ap WebTransportOf same

pub plain_content : (f : Content) (kind : FrameKind) → kind ≢ WebTransport → kind_in f ≡ kind → f ≡ PlainOf kind (payload_in f)
plain_content (PlainOf k payload) kind plain e = ap (λ (x : FrameKind). PlainOf x payload) e
plain_content (WebTransportOf n) kind plain e = absurd (plain (sym e))
