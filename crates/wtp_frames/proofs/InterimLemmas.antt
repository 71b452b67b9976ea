-- Interim responses are read.
use Rattle.std.proofs.Common.{◌≡◌, ◌&&◌, not, ℕ, ◌+◌, ◌<◌, ◌≤◌, Bool, true, false, List, [], ◌∷◌, ◌++◌, length, Some, None, Result, Ok, refl, sym, ap, ◌∙◌, arith, append_assoc}
use Rattle.std.proofs.lemmas.Bool.{le-ltb, lt-ltb, ne_eqb}
use Rattle.wtp_frames.specs.declared.endpoint.Endpoint.{Endpoint}
use Rattle.wtp_frames.specs.declared.endpoint.Side.{Side}
use Rattle.wtp_frames.specs.declared.endpoint.Side.TheVariants.{Client, Server}
use Rattle.wtp_frames.specs.declared.fault.Fault.{Fault}
use Rattle.wtp_frames.specs.declared.fault.Fault.TheVariants as fault
use Rattle.wtp_frames.specs.declared.frame_type.FrameType.{FrameType}
use Rattle.wtp_frames.specs.declared.reader.Step.TheVariants as step
use Rattle.wtp_frames.specs.Reading.{slice, StepIs}
use Rattle.wtp_frames.specs.Rules.{accepted}
use Rattle.wtp_frames.specs.declared.reader.Place.{Place}
use Rattle.wtp_frames.specs.declared.reader.Place.TheVariants.{BeforeHeaders, Body}
use Rattle.wtp_frames.specs.declared.reader.Reader.{Reader}
use Rattle.wtp_frames.specs.Grammar.{written, Interim, InterimHeaders, InterimUnknown, interim_bytes, ValidInterim, ValidInterims}
use Rattle.wtp_frames.specs.Interim.{after_interim, GivesSection, ReadsInterims, is_client, is_body, IsAwaiting}
use Rattle.wtp_frames.specs.Run.{failed, run}
use Rattle.wtp_frames.specs.Start.{awaiting, between}
use Rattle.wtp_frames.proofs.GrammarLemmas.{Section, section_run, unknown_skipped}

-- one of them, from a reader that may have skipped frames
section_given : (e : Endpoint) (k : ℕ) (i : Interim) (b : Bool) (n : ℕ) → ValidInterim e.webtransport e.max_section n i → GivesSection (between e k BeforeHeaders b n) i (between e k Body false 0)
section_given e k (InterimHeaders f) b n (is, fits) more =
    let s : Section e k BeforeHeaders Body b n f more = section_run e k BeforeHeaders Body b n f more refl refl is refl refl refl in
    s.is ∙ rw (le-ltb e.max_section (length f.payload) fits) refl
section_given e k (InterimUnknown id f i) b n (u, is, l, v) more =
    ap (λ (x : List ℕ). run (between e k BeforeHeaders b n) x) (append_assoc (written f) (interim_bytes i) more)
    ∙ unknown_skipped e k BeforeHeaders b n id f (interim_bytes i ++ more) refl u is l refl refl
    ∙ section_given e k i false (n + 1) v more

pub gives_section : (e : Endpoint) (k : ℕ) (i : Interim) → ValidInterim e.webtransport e.max_section 0 i → GivesSection (awaiting e k) i (between e k Body false 0)
gives_section e k i v = section_given e k i false 0 v

pub one_more : (e : Endpoint) (k : ℕ) → e.side ≡ Client → k < 64 → after_interim (between e k Body false 0) ≡ (awaiting e (k + 1), None)
one_more e k c l = rw (c, lt-ltb k 64 l) refl

pub one_too_many : (e : Endpoint) → e.side ≡ Client → after_interim (between e 64 Body false 0) ≡ (failed (between e 64 Body false 0) fault.TooManyInterim, Some fault.TooManyInterim)
one_too_many e c = rw c refl

reads_from : (e : Endpoint) (k : ℕ) (is : List Interim) → e.side ≡ Client → ValidInterims e.webtransport e.max_section is → k + length is ≤ 64 → ReadsInterims (awaiting e k) is (awaiting e (k + length is))
reads_from e k [] c v l = ap (λ (n : ℕ). awaiting e n) (omega arith)
reads_from e k (i ∷ is) c (v, w) l =
    let size : (k + 1) + length is ≡ k + length (i ∷ is) = omega arith in (
      between e k Body false 0,
      awaiting e (k + 1),
      gives_section e k i v,
      one_more e k c (omega (arith, l)),
      rw size at (reads_from e (k + 1) is c w (omega (arith, l))),
    )

pub reads_interims : (e : Endpoint) (is : List Interim) → e.side ≡ Client → ValidInterims e.webtransport e.max_section is → length is ≤ 64 → ReadsInterims (awaiting e 0) is (awaiting e (length is))
reads_interims e is c v l =
    let none : 0 + length is ≡ length is = omega arith in
    rw none at (reads_from e 0 is c v (omega (arith, l)))

-- ---- what is none

pub no_request : (r : Reader) → r.endpoint.side ≡ Server → after_interim r ≡ (r, None)
no_request r s = rw s refl

and_false : (b : Bool) → (b && false) ≡ false
and_false true = refl
and_false false = refl

pub no_section : (e : Endpoint) (k : ℕ) (place : Place) (s : Bool) (n : ℕ) → is_body place ≡ false → after_interim (between e k place s n) ≡ (between e k place s n, None)
no_section e k place s n h = rw (h, and_false (is_client e.side)) refl

pub after_content : (e : Endpoint) (k n : ℕ) → after_interim (between e k Body true n) ≡ (between e k Body true n, None)
after_content e k n = rw (and_false (is_client e.side)) refl

pub after_unknown : (e : Endpoint) (k : ℕ) (s : Bool) (n : ℕ) → after_interim (between e k Body s (n + 1)) ≡ (between e k Body s (n + 1), None)
after_unknown e k s n = rw (ne_eqb (n + 1) 0 (λ z. omega (arith, z)), and_false (not s), and_false (is_client e.side)) refl

-- ---- in pieces

abbrev ok_at : Place → Result Place Fault
ok_at place = Ok place

pub awaits_more : (e : Endpoint) (k n : ℕ) (bytes : List ℕ) (old new : Reader) → IsAwaiting e k old → StepIs (step.More n) old bytes new → IsAwaiting e k new
awaits_more e k n bytes old new h s = record {
  endpoint = s.endpoint ∙ h.endpoint;
  place = s.next.place ∙ h.place;
  interims = s.next.interims ∙ h.interims;
}

ok_is : (x y : Place) → ok_at x ≡ ok_at y → x ≡ y
ok_is x y e = cc

in_body : (side : Side) (place next : Place) (t : FrameType) (payload : List ℕ) → place ≡ BeforeHeaders → accepted side place t payload ≡ Ok next → next ≡ Body
in_body side place next t payload p a =
    let first : accepted side BeforeHeaders t payload ≡ Ok next = rw p at a in
    sym (ok_is Body next first)

pub told_headers : (e : Endpoint) (k a b : ℕ) (bytes : List ℕ) (t : FrameType) (old new : Reader) → IsAwaiting e k old → StepIs (step.Frame t a b) old bytes new → e.side ≡ Client → k < 64 → after_interim new ≡ (awaiting e (k + 1), None)
told_headers e k a b bytes t old new h s c l =
    let place : new.place ≡ Body = in_body old.endpoint.side old.place new.place t (slice a b bytes) h.place s.next.place in
    let is : new ≡ between e k Body false 0 =
    s.next.reader
    ∙ ap (λ (p : Place). between old.endpoint old.interims p false 0) place
    ∙ ap (λ (x : Endpoint). between x old.interims Body false 0) h.endpoint
    ∙ ap (λ (n : ℕ). between e n Body false 0) h.interims
    in
    ap after_interim is ∙ one_more e k c l
