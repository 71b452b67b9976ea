-- The result of a stream, for the result of its reading.
use Rattle.std.proofs.Common.{◌≡◌, ℕ, Bool, false, [], ◌++◌, refl, ap, arith, Option, Some, None, Result, Ok, Err, MatchResult, IsErrAnd, inl, inr}
use Rattle.std.proofs.lemmas.Bool.{cases_lt, ne_eqb}
use Rattle.wtp_core.specs.declared.error.ErrorCode.{ErrorCode}
use Rattle.wtp_core.specs.declared.error.ErrorCode.TheVariants.{Id, ExcessiveLoad}
use Rattle.wtp_core.specs.declared.bytes.poll.Polled.{Polled}
use Rattle.wtp_core.specs.declared.bytes.poll.Polled.TheVariants.{Ready, Again}
use Rattle.wtp_core.specs.declared.bytes.error.IoReadError as bytes
use Rattle.wtp_core.specs.declared.bytes.error.IoReadError.TheVariants as io
use Rattle.wtp_core.specs.Source.{Source, AtEnd, AtReset, AtDisconnection, HasModel}
use Rattle.wtp_core.specs.Source as source
use Rattle.wtp_core.specs.Polled.{stop, polled_waits}
use Rattle.wtp_core.proofs.TellingLemmas.{telling_map}
use Rattle.wtp_wire.specs.declared.frame.ParseError.{ParseError}
use Rattle.wtp_wire.specs.declared.frame.ParseError.TheVariants as parse
use Rattle.wtp_wire.specs.Codes.{frame_code}
use Rattle.wtp_wire.specs.declared.frame.reading.IoReadError.{IoReadError}
use Rattle.wtp_wire.specs.declared.frame.reading.IoReadError.TheVariants as reading
use Rattle.wtp_wire.specs.Content.{Content, kind_in}
use Rattle.wtp_wire.specs.Front.{Framed, Unknown, BadId, TooBig, Short}
use Rattle.wtp_wire.specs.Held.{Held, Skips}
use Rattle.wtp_wire.specs.FramePolling.{Decided, Stopped, FramePolled}
use Rattle.wtransport_proto.specs.declared.stream.error.IoReadError as fault
use Rattle.wtransport_proto.specs.declared.stream.error.IoReadError.TheVariants as stream
use Rattle.wtp_wire.specs.Rule.{Role, rule}
use Rattle.wtp_wire.specs.Run.{Run, H3, ends}
use Rattle.wtransport_proto.specs.HeldRun.{tail_of, stop_of, count_held, run_of}
use Rattle.wtransport_proto.specs.StreamPolling.{IsStreamFault, Exhausted, stream_fault, EndsWithFault, Faults, SkipsUnknown, StreamTakesFrame, StreamPolled, JudgesPolled, first_after, without_frame}
use Rattle.wtransport_proto.specs.Reading.{permitted}
use Rattle.wtransport_proto.proofs.HeldRunLemmas.{read_front, framed_size, bad_size, big_size, size_new, leaves_size, run_refused, run_case}

-- ---- faults

ends_h3 : (r : Run) (c : ErrorCode) → r ≡ ends (H3 c) → EndsWithFault r [] (stream.H3 c)
ends_h3 r c e = record { frames = ap (λ (x : Run). x.frames) e; fault = ap (λ (x : Run). x.ending) e }

pub refused_ends : (role : Role) (first next : Bool) (old new : Held) (f : Content) (c : ErrorCode) (a b : Source) → rule role first (kind_in f) ≡ Some c → next ≡ false → Decided old new a b (Framed f) → Faults role first next old new (stream.H3 c) a b
refused_ends role first next old new f c a b r n d = record {
  ends = ends_h3 (run_of role first old a) c (run_refused role first old a.ahead b.ahead (tail_of a.ending) f c d.front r);
  size = omega (arith, framed_size old new f a b d);
  flag = rw d.front n;
  place = rw d.front (d.empty, refl);
  dry = tt;
}

pub bad_ends : (role : Role) (first : Bool) (old new : Held) (a b : Source) → Decided old new a b BadId → Faults role first first old new (stream.H3 Id) a b
bad_ends role first old new a b d = record {
  ends = ends_h3 (run_of role first old a) Id (run_case role first old a.ahead (tail_of a.ending) (BadId b.ahead) d.front);
  size = omega (arith, size_new new b d.empty, bad_size (old.taken ++ a.ahead) b.ahead (read_front old a.ahead (BadId b.ahead) d.front tt));
  flag = rw d.front refl;
  place = rw d.front (d.empty, refl);
  dry = tt;
}

pub big_ends : (role : Role) (first : Bool) (old new : Held) (a b : Source) → Decided old new a b TooBig → Faults role first first old new (stream.H3 ExcessiveLoad) a b
big_ends role first old new a b d = record {
  ends = ends_h3 (run_of role first old a) ExcessiveLoad (run_case role first old a.ahead (tail_of a.ending) (TooBig b.ahead) d.front);
  size = omega (arith, size_new new b d.empty, big_size (old.taken ++ a.ahead) b.ahead (read_front old a.ahead (TooBig b.ahead) d.front tt));
  flag = rw d.front refl;
  place = rw d.front (d.empty, refl);
  dry = tt;
}

fault_at : (e : source.SourceEnding) (n : ℕ) → IsStreamFault (stream_fault (stop n e)) (stop_of n (tail_of e))
fault_at AtEnd n = elim (cases_lt 0 n) [ inl l ↦ rw (ne_eqb n 0 (λ z. omega arith)) refl | inr l ↦ let z : n ≡ 0 = omega arith in rw z refl ]
fault_at AtReset n = refl
fault_at AtDisconnection n = refl

is_dry : (e : bytes.IoReadError) (b : Source) → b.ahead ≡ [] → Exhausted (stream_fault e) b
is_dry io.ImmediateFin b e = e
is_dry io.UnexpectedFin b e = tt
is_dry io.Reset b e = e
is_dry io.NotConnected b e = e

pub io_ends : (role : Role) (first : Bool) (old new : Held) (e : bytes.IoReadError) (a b : Source) → Stopped old new a b (reading.IO e) → Faults role first first old new (stream_fault e) a b
io_ends role first old new e a b s =
    let is : e ≡ stop (count_held old a.ahead) a.ending = let why = s.why in cc in
    let r = run_case role first old a.ahead (tail_of a.ending) Short s.short in
    record {
      ends = record { frames = ap (λ (x : Run). x.frames) r; fault = rw (r, is) (fault_at a.ending (count_held old a.ahead)) };
      size = leaves_size old new a b s.leaves;
      flag = rw s.short refl;
      place = rw s.short (s.leaves, s.none_ahead);
      dry = is_dry e b s.none_ahead;
    }

-- ---- the result of a stream for the result of its reading

allowed_judges : (role : Role) (f : Content) (first : Bool) → rule role first (kind_in f) ≡ None → JudgesPolled role (Ready (Ok f)) (Ready (Ok f)) first false
allowed_judges role f first is = λ s t old new p. telling_map s t (λ a b. Decided old new a b (Framed f)) (StreamTakesFrame role first false old new f)
    (λ a b d. record { decided = d; allowed = is; flag = refl }) p

refused_judges : (role : Role) (f : Content) (c : ErrorCode) (first : Bool) → rule role first (kind_in f) ≡ Some c → JudgesPolled role (Ready (Ok f)) (Ready (Err (stream.H3 c))) first false
refused_judges role f c first is = λ s t old new p. telling_map s t (λ a b. Decided old new a b (Framed f)) (StreamPolled role (Ready (Err (stream.H3 c))) first false old new)
    (λ a b d. refused_ends role first false old new f c a b is refl d) p

-- the code of the fault by which the rule refuses a frame is a fault of the stream
is_fault : (m : Result Content fault.IoReadError) (c : ErrorCode) → IsErrAnd m (λ d. d ≡ stream.H3 c) → m ≡ Err (stream.H3 c)
is_fault (Ok f) c h = absurd h
is_fault (Err d) c h = ap Err h

ruled : (role : Role) (f : Content) (first : Bool) (o : Option ErrorCode) (p : Result Content ErrorCode) (m : Result Content fault.IoReadError) → rule role first (kind_in f) ≡ o → p ≡ permitted o f
    → MatchResult p (λ x. m ≡ Ok x) (λ c. IsErrAnd m (λ d. d ≡ stream.H3 c)) → JudgesPolled role (Ready (Ok f)) (Ready m) first false
ruled role f first None p m is e h = let same : m ≡ Ok f = rw e at h in rw same (allowed_judges role f first is)
ruled role f first (Some c) p m is e h = let same : m ≡ Err (stream.H3 c) = is_fault m c (rw e at h) in rw same (refused_judges role f c first is)

pub ruled_judges : (role : Role) (r : Polled (Result Content IoReadError)) (f : Content) (first : Bool) (p : Result Content ErrorCode) (m : Result Content fault.IoReadError) → r ≡ Ready (Ok f) → p ≡ permitted (rule role first (kind_in f)) f
    → MatchResult p (λ x. m ≡ Ok x) (λ c. IsErrAnd m (λ d. d ≡ stream.H3 c)) → JudgesPolled role r (Ready m) first (first_after first r)
ruled_judges role r f first p m e is h = rw e (ruled role f first (rule role first (kind_in f)) p m refl is h)

bad_judges : (role : Role) (r : Polled (Result Content IoReadError)) (first : Bool) → r ≡ Ready (Err (reading.Parse parse.InvalidSessionId)) → JudgesPolled role r (Ready (Err (stream.H3 Id))) first first
bad_judges role r first e = λ s t old new p. telling_map s t (λ a b. Decided old new a b BadId) (StreamPolled role (Ready (Err (stream.H3 Id))) first first old new)
    (λ a b d. bad_ends role first old new a b d) (rw e at p)

big_judges : (role : Role) (r : Polled (Result Content IoReadError)) (first : Bool) → r ≡ Ready (Err (reading.Parse parse.PayloadTooBig)) → JudgesPolled role r (Ready (Err (stream.H3 ExcessiveLoad))) first first
big_judges role r first e = λ s t old new p. telling_map s t (λ a b. Decided old new a b TooBig) (StreamPolled role (Ready (Err (stream.H3 ExcessiveLoad))) first first old new)
    (λ a b d. big_ends role first old new a b d) (rw e at p)

pub io_judges : (role : Role) (r : Polled (Result Content IoReadError)) (x : bytes.IoReadError) (first : Bool) → r ≡ Ready (Err (reading.IO x)) → JudgesPolled role r (Ready (Err (stream_fault x))) first (first_after first r)
io_judges role r x first e = rw e (λ s t old new p. telling_map s t (FramePolled (Ready (Err (reading.IO x))) old new) (StreamPolled role (Ready (Err (stream_fault x))) first first old new)
    (λ a b d. io_ends role first old new x a b d) p)

pub again_judges : (role : Role) (r : Polled (Result Content IoReadError)) (first : Bool) → r ≡ Again → JudgesPolled role r Again first (first_after first r)
again_judges role r first e = rw e (λ s t old new p. telling_map s t (FramePolled Again old new) (SkipsUnknown first first old new)
    (λ a b d. record { skips = d.skips; whole = λ z. let some = d.skip_remaining in absurd (omega arith); part = λ _. (d.same, d.most); flag = refl }) p)

unknown_judges : (role : Role) (r : Polled (Result Content IoReadError)) (first : Bool) → r ≡ Ready (Err (reading.Parse parse.UnknownFrame)) → JudgesPolled role r Again first first
unknown_judges role r first e = λ s t old new p. telling_map s t (λ a b. Decided old new a b Unknown × Skips old new a b) (SkipsUnknown first first old new)
    (λ a b d. record { skips = d.1; whole = λ z. d.0; part = λ some. let none : new.skip_remaining ≡ 0 = ap (λ (h : Held). h.skip_remaining) d.0.empty in absurd (omega arith); flag = refl }) (rw e at p)

-- by the code of bytes that are no frame
code_same : (role : Role) (r : Polled (Result Content IoReadError)) (fault : ParseError) (first : Bool) → r ≡ Ready (Err (reading.Parse fault)) → JudgesPolled role r (without_frame (frame_code fault)) first first
code_same role r parse.UnknownFrame first e = unknown_judges role r first e
code_same role r parse.InvalidSessionId first e = bad_judges role r first e
code_same role r parse.PayloadTooBig first e = big_judges role r first e

pub code_judges : (role : Role) (r : Polled (Result Content IoReadError)) (fault : ParseError) (first : Bool) → r ≡ Ready (Err (reading.Parse fault)) → JudgesPolled role r (without_frame (frame_code fault)) first (first_after first r)
code_judges role r fault first e = let same : first_after first r ≡ first = rw e refl in rw same (code_same role r fault first e)

pub code_waits : (code : Option ErrorCode) → polled_waits (without_frame code) ≡ 0
code_waits None = refl
code_waits (Some c) = refl
