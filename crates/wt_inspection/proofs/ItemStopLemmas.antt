-- Where bytes are not read as a frame, the run ends, but for a WebTransport stream.
use Rattle.std.proofs.Common.{◌≡◌, ◌≢◌, ℕ, ◌%◌, ◌<◌, Bool, true, false, List, Option, Some, None, refl, sym, ap, subst, ◌∙◌, arith, inl, inr, ◌⊎◌, drop}
use Rattle.std.proofs.lemmas.Bool.{cases_lt}
use Rattle.std.proofs.lemmas.Bool.Decides.{eqb_tells}
use Rattle.std.specs.Prelude.{◌==◌, ◌&&◌}
use Rattle.wtp_core.specs.declared.error.ErrorCode.{ErrorCode}
use Rattle.wtp_core.specs.declared.error.ErrorCode.TheVariants as code-is
use Rattle.wtp_wire.specs.Front.{Framed, BadId, Short, front_after, front}
use Rattle.wtp_wire.specs.FramePrefix.{announcement_of}
use Rattle.wtp_wire.specs.declared.frame.kind.FrameKind.{FrameKind}
use Rattle.wtp_wire.specs.declared.frame.kind.FrameKind.TheVariants as kind-is
use Rattle.wtp_wire.proofs.FrontLemmas.{front-headless}
use Rattle.wtp_wire.proofs.HeadPairLemmas.{head_at-no_pair}
use Rattle.wtp_wire.specs.Content.{WebTransportOf}
use Rattle.wtp_wire.specs.Role.{role_of}
use Rattle.wtp_wire.specs.Rule.{rule}
use Rattle.wtp_wire.specs.Run.{Tail, H3, run, ends, follows, run_stop}
use Rattle.wtp_wire.specs.declared.rules.StreamRole.{StreamRole}
use Rattle.wtp_wire.specs.declared.rules.StreamRole.TheVariants as role-is
use Rattle.wtp_wire.proofs.RunLaws.{run-allowed, run-refused, run-bad_id, run-short}
use Rattle.wt_inspection_model.specs.declared.item.Content.TheVariants.{Session, Unread}
use Rattle.wt_inspection.specs.declared.reading.Next.TheVariants.{Frames}
use Rattle.wtp_wire.specs.Settings.{pair_at}
use Rattle.wt_inspection.specs.ItemFrames.{IsLateSession}
use Rattle.wt_inspection.specs.Recording.{Then, IsNext, IsNoFrame, IsRefused, StopsWith, session_fault}
use Rattle.wt_inspection.proofs.ItemFrameLemmas.{front_of_pair}
use Rattle.wt_inspection.proofs.RecordingLemmas.{session_kind}

-- ---- too few bytes

front_short : (bytes : List ℕ) → pair_at bytes ≡ None → front bytes ≡ Short
front_short bytes e = front-headless bytes (head_at-no_pair bytes e)

-- ---- the head of a WebTransport stream that is refused

even_front : (id : ℕ) (rest : List ℕ) → (id % 4 == 0) ≡ true → front_after (announcement_of (Some kind-is.WebTransport) id) rest ≡ Framed (WebTransportOf id) rest
even_front id rest even = rw even refl

odd_front : (id : ℕ) (rest : List ℕ) → (id % 4 == 0) ≡ false → front_after (announcement_of (Some kind-is.WebTransport) id) rest ≡ BadId rest
odd_front id rest odd = rw odd refl

-- a fault of the rules, or a WebTransport stream after unknown frames, which they allow
data Fault (role : StreamRole) (first : Bool) (place : ℕ) (c : ErrorCode) : Type 0 where
  OfRules : rule (role_of role) first kind-is.WebTransport ≡ Some c → Fault role first place c
  Late : role ≡ role-is.BiRemote → first ≡ true → 0 < place → c ≡ code-is.Frame → Fault role first place c

-- the fault of a stream of the peer, by whether nothing comes before
of_flag : (b is : Bool) → b ≡ is → rule (role_of role-is.BiRemote) (true && b) kind-is.WebTransport ≡ rule (role_of role-is.BiRemote) is kind-is.WebTransport
of_flag b true e = rw e refl
of_flag b false e = rw e refl

above_zero : (place : ℕ) → place ≢ 0 → 0 < place
above_zero place h = elim (cases_lt 0 place) [
  | inl less ↦ less
  | inr most ↦ absurd (h (omega (arith, most)))
]

fault_is : (role : StreamRole) (first : Bool) (place : ℕ) (c : ErrorCode) → session_fault role first place ≡ Some c → Fault role first place c
fault_is role-is.BiLocal first place c e = OfRules e
fault_is role-is.UniRemote first place c e = OfRules e
fault_is role-is.Session first place c e = OfRules e
fault_is role-is.BiRemote false place c e = OfRules e
fault_is role-is.BiRemote true place c e = elim (eqb_tells place 0) [
  | inl h ↦
      let never : ◌≡◌ {A = Option ErrorCode} None (Some c) = sym (of_flag (place == 0) true h.0) ∙ e in
      absurd (cc never)
  | inr h ↦
      let code : ◌≡◌ {A = Option ErrorCode} (Some code-is.Frame) (Some c) = sym (of_flag (place == 0) false h.0) ∙ e in
      Late refl refl (above_zero place h.1) (sym (cc code))
]

-- the run has no frame, or a WebTransport stream after unknown frames
abbrev HasNone : StreamRole → Bool → ℕ → List ℕ → Tail → Then → Type 0
HasNone role first place bytes tail after =
    (run (role_of role) first bytes tail ≡ ends (run_stop bytes bytes tail))
    ⊎ ((c : ErrorCode) × (run (role_of role) first bytes tail ≡ ends (H3 c)) × StopsWith place c after)
    ⊎ IsLateSession role first place bytes tail after

allowed : (role : StreamRole) (first : Bool) → role ≡ role-is.BiRemote → first ≡ true → rule (role_of role) first kind-is.WebTransport ≡ None
allowed role first r f = rw (r, f) refl

stopped : (c : ErrorCode) (role : StreamRole) (first : Bool) (place : ℕ) (bytes rest : List ℕ) (id : ℕ) (after : Then) (tail : Tail) → front bytes ≡ Framed (WebTransportOf id) rest → StopsWith place c after → Fault role first place c → HasNone role first place bytes tail after
stopped c role first place bytes rest id after tail begins stops (OfRules e) =
    inr (inl (c, run-refused (role_of role) first bytes rest tail (WebTransportOf id) c begins e, stops))
stopped c role first place bytes rest id after tail begins stops (Late request unknown late code) = inr (inr record {
  id = id;
  rest = rest;
  request = request;
  unknown = unknown;
  late = late;
  begins = begins;
  found = run-allowed (role_of role) first bytes rest tail (WebTransportOf id) begins (allowed role first request unknown);
  stops = subst (λ (x : ErrorCode). StopsWith place x after) code stops;
})

refused : (even : Bool) (fault : Option ErrorCode) (role : StreamRole) (first : Bool) (place : ℕ) (bytes rest : List ℕ) (id : ℕ) (after : Then) (tail : Tail) → (id % 4 == 0) ≡ even → session_fault role first place ≡ fault → front bytes ≡ front_after (announcement_of (Some kind-is.WebTransport) id) rest → IsRefused place even fault after → HasNone role first place bytes tail after
refused false fault role first place bytes rest id after tail e is begins stops =
    inr (inl (code-is.Id, run-bad_id (role_of role) first bytes rest tail (begins ∙ odd_front id rest e), stops))
refused true (Some c) role first place bytes rest id after tail e is begins stops =
    stopped c role first place bytes rest id after tail (begins ∙ even_front id rest e) stops (fault_is role first place c is)
refused true None role first place bytes rest id after tail e is begins stops = absurd stops

no_frame : (pair : Option ((ℕ × ℕ) × List ℕ)) (role : StreamRole) (first : Bool) (place : ℕ) (bytes : List ℕ) (after : Then) (tail : Tail) → pair_at bytes ≡ pair → IsNoFrame role first place bytes pair after → HasNone role first place bytes tail after
no_frame None role first place bytes after tail e stops = inl (run-short (role_of role) first bytes tail (front_short bytes e))
no_frame (Some ((number, id), rest)) role first place bytes after tail e (session, stops) =
    let begins : front bytes ≡ front_after (announcement_of (Some kind-is.WebTransport) id) rest =
    front_of_pair bytes rest number id e
    ∙ ap (λ (k : Option FrameKind). front_after (announcement_of k id) rest) (session_kind number session) in
    refused (id % 4 == 0) (session_fault role first place) role first place bytes rest id after tail refl refl begins stops

pub unread_stops : (role : StreamRole) (first : Bool) (place : ℕ) (bytes : List ℕ) (len : ℕ) (after : Then) (tail : Tail) → IsNext (Frames role first) place bytes len Unread after → HasNone role first place bytes tail after
unread_stops role first place bytes len after tail (all, none) = no_frame (pair_at bytes) role first place bytes after tail refl none

-- ---- the head of a WebTransport stream that is read

first_is : (role : StreamRole) (first : Bool) (place : ℕ) → session_fault role first place ≡ None → (role ≡ role-is.BiRemote) × (place ≡ 0) × (rule (role_of role) first kind-is.WebTransport ≡ None)
first_is role-is.BiLocal first place e = absurd (cc e)
first_is role-is.UniRemote first place e = absurd (cc e)
first_is role-is.Session first place e = absurd (cc e)
first_is role-is.BiRemote false place e = absurd (cc e)
first_is role-is.BiRemote true place e = elim (eqb_tells place 0) [
  | inl h ↦ (refl, h.1, refl)
  | inr h ↦
      let never : ◌≡◌ {A = Option ErrorCode} (Some code-is.Frame) None = sym (of_flag (place == 0) false h.0) ∙ e in
      absurd (cc never)
]

pub session_begins : (role : StreamRole) (first : Bool) (place : ℕ) (bytes : List ℕ) (len id : ℕ) (after : Then) (tail : Tail) → IsNext (Frames role first) place bytes len (Session id) after → (role ≡ role-is.BiRemote) × (place ≡ 0) × (run (role_of role) first bytes tail ≡ follows (WebTransportOf id) (run (role_of role) false (drop len bytes) tail))
session_begins role first place bytes len id after tail (head, none, goes) =
    let (request, start, fits) = first_is role first place none in
    let begins : front bytes ≡ Framed (WebTransportOf id) (drop len bytes) =
    front_of_pair bytes (drop len bytes) head.number id head.numbers
    ∙ ap (λ (k : Option FrameKind). front_after (announcement_of k id) (drop len bytes)) head.kind
    ∙ even_front id (drop len bytes) (ap (λ (n : ℕ). n == 0) head.session) in
    (request, start, run-allowed (role_of role) first bytes (drop len bytes) tail (WebTransportOf id) begins fits)
