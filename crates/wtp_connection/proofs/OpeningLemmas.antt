-- What a stream is for stays the same when bytes follow.
use Rattle.std.proofs.Common.{◌≡◌, ℕ, suc, ◌+◌, ◌%◌, ◌<◌, ◌≤◌, ◌==◌, ◌&&◌, Bool, true, false, cond, eqb, List, [], ◌∷◌, ◌++◌, length, drop, Option, Some, None, Result, Ok, Err, refl, sym, ap, ◌∙◌, arith}
use Rattle.std.proofs.lemmas.Bool.{ne_eqb}
use Rattle.std.proofs.lemmas.List.{drop-drop}
use Rattle.wtp_core.specs.Varint.{number_at}
use Rattle.wtp_core.proofs.EncodingLemmas.{number_at-more}
use Rattle.wtp_frames.specs.declared.endpoint.Endpoint.{Endpoint}
use Rattle.wtp_frames.specs.declared.endpoint.Side.{Side}
use Rattle.wtp_frames.specs.declared.endpoint.Side.TheVariants.{Client, Server}
use Rattle.wtp_frames.specs.declared.fault.Fault.{Fault}
use Rattle.wtp_frames.specs.declared.fault.Fault.TheVariants as fault
use Rattle.wtp_frames.proofs.HeadLemmas.{number_none, number_size}
use Rattle.wtp_connection.specs.declared.stream.Purpose.{Purpose}
use Rattle.wtp_connection.specs.declared.stream.Purpose.TheVariants as «for»
use Rattle.wtp_connection.specs.declared.stream.Stream.{Stream}
use Rattle.wtp_connection.specs.declared.stream.Stream.TheVariants.{Uni, Bi}
use Rattle.wtp_connection.specs.Opening.{with_session, type_purpose, uni_by, uni_at, frames_purpose, bi_by, bi_at, may_open, allows_bidirectional, forbidden_at, end_by_number, end_unopened}
use Rattle.wtp_connection.specs.Receiving.{IsFirst, opening_of, AreFew}

abbrev pub extended : List ℕ → Option (Purpose × List ℕ) → Option (Purpose × List ℕ)
extended more None = None
extended more (Some o) = Some (o.0, o.1 ++ more)

session_more : (s : ℕ × List ℕ) (more : List ℕ) → with_session (Some (s.0, s.1 ++ more)) ≡ extended more (with_session (Some s))
session_more s more = elim (eqb (s.0 % 4) 0) as (λ b. cond b (Some («for».Session s.0, s.1 ++ more)) (Some («for».InvalidSession, s.1 ++ more)) ≡ extended more (cond b (Some («for».Session s.0, s.1)) (Some («for».InvalidSession, s.1)))) [ true ↦ refl | false ↦ refl ]

number_more : (bytes more : List ℕ) (x : ℕ × List ℕ) → number_at bytes ≡ Some x → number_at (bytes ++ more) ≡ Some (x.0, x.1 ++ more)
number_more bytes more x e = number_at-more x.0 bytes x.1 more e

-- a session's number
then_session : (bytes more : List ℕ) (o : Option (ℕ × List ℕ)) (y : Purpose × List ℕ) → number_at bytes ≡ o → with_session o ≡ Some y → with_session (number_at (bytes ++ more)) ≡ Some (y.0, y.1 ++ more)
then_session bytes more None y e is = absurd (cc)
then_session bytes more (Some s) y e is = ap with_session (number_more bytes more s e) ∙ session_more s more ∙ ap (extended more) is

uni_case : (more : List ℕ) (x : ℕ × List ℕ) (b : Bool) (y : Purpose × List ℕ) → cond b (with_session (number_at x.1)) (Some (type_purpose x.0, x.1)) ≡ Some y → cond b (with_session (number_at (x.1 ++ more))) (Some (type_purpose x.0, x.1 ++ more)) ≡ Some (y.0, y.1 ++ more)
uni_case more x true y is = then_session x.1 more (number_at x.1) y refl is
uni_case more x false y is = ap (extended more) is

uni_some : (e : Endpoint) (bytes more : List ℕ) (o : Option (ℕ × List ℕ)) (y : Purpose × List ℕ) → number_at bytes ≡ o → uni_by e o ≡ Some y → uni_by e (number_at (bytes ++ more)) ≡ Some (y.0, y.1 ++ more)
uni_some e bytes more None y h is = absurd (cc)
uni_some e bytes more (Some x) y h is = ap (uni_by e) (number_more bytes more x h) ∙ uni_case more x (x.0 == 0x54 && e.webtransport) y is

bi_case : (e : Endpoint) (bytes more : List ℕ) (x : ℕ × List ℕ) (b : Bool) (y : Purpose × List ℕ) → cond b (with_session (number_at x.1)) (Some (frames_purpose e.side, bytes)) ≡ Some y → cond b (with_session (number_at (x.1 ++ more))) (Some (frames_purpose e.side, bytes ++ more)) ≡ Some (y.0, y.1 ++ more)
bi_case e bytes more x true y is = then_session x.1 more (number_at x.1) y refl is
bi_case e bytes more x false y is = ap (extended more) is

bi_some : (e : Endpoint) (bytes more : List ℕ) (o : Option (ℕ × List ℕ)) (y : Purpose × List ℕ) → number_at bytes ≡ o → bi_by e bytes o ≡ Some y → bi_by e (bytes ++ more) (number_at (bytes ++ more)) ≡ Some (y.0, y.1 ++ more)
bi_some e bytes more None y h is = absurd (cc)
bi_some e bytes more (Some x) y h is = ap (bi_by e (bytes ++ more)) (number_more bytes more x h) ∙ bi_case e bytes more x (x.0 == 0x41 && e.webtransport) y is

forbidden_some : (bytes more : List ℕ) (y : Purpose × List ℕ) → forbidden_at bytes ≡ Some y → forbidden_at (bytes ++ more) ≡ Some (y.0, y.1 ++ more)
forbidden_some [] more y h = absurd (cc)
forbidden_some (b ∷ bytes) more y h = ap (extended more) h

bi_allowed : (e : Endpoint) (bytes more : List ℕ) (b : Bool) (y : Purpose × List ℕ) → cond b (bi_by e bytes (number_at bytes)) (forbidden_at bytes) ≡ Some y → cond b (bi_by e (bytes ++ more) (number_at (bytes ++ more))) (forbidden_at (bytes ++ more)) ≡ Some (y.0, y.1 ++ more)
bi_allowed e bytes more true y h = bi_some e bytes more (number_at bytes) y refl h
bi_allowed e bytes more false y h = forbidden_some bytes more y h

pub opening_more : (e : Endpoint) (s : Stream) (bytes more : List ℕ) (y : Purpose × List ℕ) → opening_of e s bytes ≡ Some y → opening_of e s (bytes ++ more) ≡ Some (y.0, y.1 ++ more)
unfolding uni_at bi_at
opening_more e Uni bytes more y h = uni_some e bytes more (number_at bytes) y refl h
opening_more e Bi bytes more y h = bi_allowed e bytes more (allows_bidirectional e) y h
opening_more e other bytes more y h = absurd (cc)

-- ---- a bidirectional stream that may not be opened

pub forbidden_none : (bytes : List ℕ) → length bytes ≡ 0 → forbidden_at bytes ≡ None
forbidden_none [] e = refl
forbidden_none (b ∷ bytes) e = absurd (omega (arith, e))

pub forbidden_first : (bytes : List ℕ) → ¬ (length bytes ≡ 0) → forbidden_at bytes ≡ Some («for».Foreign, bytes)
forbidden_first [] e = absurd (e refl)
forbidden_first (b ∷ bytes) e = refl

pub ruleset forbidden = (forbidden_none, forbidden_first)

-- no byte says what a stream is for
pub bi_none : (e : Endpoint) → bi_at e [] ≡ None
unfolding bi_at number_at
bi_none e = elim (allows_bidirectional e) as (λ b. cond b (bi_by e [] (number_at [])) (forbidden_at []) ≡ None) [ true ↦ refl | false ↦ refl ]

-- one that may be opened
pub bi_open : (e : Endpoint) (bytes : List ℕ) → allows_bidirectional e ≡ true → bi_at e bytes ≡ bi_by e bytes (number_at bytes)
unfolding bi_at
bi_open e bytes h = ap (λ (b : Bool). cond b (bi_by e bytes (number_at bytes)) (forbidden_at bytes)) h

pub bi_forbidden : (e : Endpoint) (bytes : List ℕ) → allows_bidirectional e ≡ false → bi_at e bytes ≡ forbidden_at bytes
unfolding bi_at
bi_forbidden e bytes h = ap (λ (b : Bool). cond b (bi_by e bytes (number_at bytes)) (forbidden_at bytes)) h

-- where WebTransport is enabled, and at a server
pub webtransport_allows : (side : Side) (on : Bool) → on ≡ true → may_open side on ≡ true
webtransport_allows Client on h = h
webtransport_allows Server on h = refl

pub server_allows : (e : Endpoint) → e.side ≡ Server → allows_bidirectional e ≡ true
server_allows e side = ap (λ (x : Side). may_open x e.webtransport) side

pub client_forbids : (e : Endpoint) → e.side ≡ Client → e.webtransport ≡ false → allows_bidirectional e ≡ false
client_forbids e side off = ap (λ (x : Side). may_open x e.webtransport) side ∙ off

-- ---- as it is read

pub session_found : (bytes mid : List ℕ) (n a b : ℕ) (p : Purpose) → mid ≡ drop a bytes → number_at mid ≡ Some (n, drop b mid) → with_session (Some (n, drop (a + b) bytes)) ≡ Some (p, drop (a + b) bytes) → with_session (number_at (drop a bytes)) ≡ Some (p, drop (a + b) bytes)
session_found bytes mid n a b p m e is =
    let found : number_at (drop a bytes) ≡ Some (n, drop (a + b) bytes) = ap number_at (sym m) ∙ e ∙ ap (λ (l : List ℕ). Some (n, l)) (ap (λ (l : List ℕ). drop b l) m ∙ drop-drop b a bytes) in
    ap with_session found ∙ is

pub session_missing : (bytes mid : List ℕ) (a : ℕ) → mid ≡ drop a bytes → number_at mid ≡ None → with_session (number_at (drop a bytes)) ≡ None
session_missing bytes mid a m e = ap with_session (ap number_at (sym m) ∙ e)

pub ruleset sessions = (session_found, session_missing)

-- ---- an end before it is known what the stream is for

pub unopened_forbidden : (e : Endpoint) (left : List ℕ) → allows_bidirectional e ≡ false → end_unopened e left ≡ Err fault.StreamCreation
unopened_forbidden e left h = ap (λ (b : Bool). cond b (end_by_number e.side left (number_at left)) (Err fault.StreamCreation)) h

unopened_open : (e : Endpoint) (left : List ℕ) → allows_bidirectional e ≡ true → end_unopened e left ≡ end_by_number e.side left (number_at left)
unopened_open e left h = ap (λ (b : Bool). cond b (end_by_number e.side left (number_at left)) (Err fault.StreamCreation)) h

pub unopened_whole : (e : Endpoint) (left rest : List ℕ) (n : ℕ) → allows_bidirectional e ≡ true → number_at left ≡ Some (n, rest) → end_unopened e left ≡ Err fault.Frame
unopened_whole e left rest n a h = unopened_open e left a ∙ ap (λ (o : Option (ℕ × List ℕ)). end_by_number e.side left o) h

-- the end by whether a byte came
abbrev end_by : Side → Bool → Result (Unit {0}) Fault
end_by Client none = cond none (Ok tt) (Err fault.StreamCreation)
end_by Server none = cond none (Err fault.RequestIncomplete) (Err fault.Frame)

by_length : (side : Side) (left : List ℕ) (none : Bool) → none ≡ (length left == 0) → end_by_number side left None ≡ end_by side none
by_length Client [] none h = ap (λ (b : Bool). end_by Client b) (sym h)
by_length Server [] none h = ap (λ (b : Bool). end_by Server b) (sym h)
by_length Client (b ∷ left) none h = ap (λ (b : Bool). end_by Client b) (sym (h ∙ ne_eqb (suc (length left)) 0 (λ e. omega (arith, e))))
by_length Server (b ∷ left) none h = ap (λ (b : Bool). end_by Server b) (sym (h ∙ ne_eqb (suc (length left)) 0 (λ e. omega (arith, e))))

pub unopened_part : (e : Endpoint) (left : List ℕ) (side : Side) (none : Bool) → allows_bidirectional e ≡ true → number_at left ≡ None → e.side ≡ side → none ≡ (length left == 0) → end_unopened e left ≡ end_by side none
unopened_part e left side none a h is n =
    unopened_open e left a
    ∙ ap (λ (o : Option (ℕ × List ℕ)). end_by_number e.side left o) h
    ∙ ap (λ (x : Side). end_by_number x left None) is
    ∙ by_length side left none n

-- no byte has no number
pub empty_first : (e : Endpoint) → end_unopened e [] ≡ cond (allows_bidirectional e) (end_by_number e.side [] None) (Err fault.StreamCreation)
unfolding number_at
empty_first e = refl

pub ruleset unopened = (unopened_forbidden, unopened_whole, unopened_part)

-- ---- too few first bytes

session_few : (bytes : List ℕ) (o : Option (ℕ × List ℕ)) → number_at bytes ≡ o → with_session o ≡ None → length bytes < 8
session_few bytes None e is = number_none bytes e
session_few bytes (Some s) e is = absurd (session_some s (eqb (s.0 % 4) 0) is)
  where
    session_some : (s : ℕ × List ℕ) (b : Bool) → cond {A = Option (Purpose × List ℕ)} b (Some («for».Session s.0, s.1)) (Some («for».InvalidSession, s.1)) ≡ None → ⊥
    session_some s true h = cc
    session_some s false h = cc

test_few : (b : Bool) (x : ℕ × List ℕ) (y : Purpose × List ℕ) → cond b (with_session (number_at x.1)) (Some y) ≡ None → length x.1 < 8
test_few true x y is = session_few x.1 (number_at x.1) refl is
test_few false x y is = absurd (cc)

uni_few : (e : Endpoint) (bytes : List ℕ) (o : Option (ℕ × List ℕ)) → number_at bytes ≡ o → uni_by e o ≡ None → length bytes ≤ 15
uni_few e bytes None h is = omega (arith, number_none bytes h)
uni_few e bytes (Some x) h is = omega (arith, number_size x.0 bytes x.1 h, test_few (x.0 == 0x54 && e.webtransport) x (type_purpose x.0, x.1) is)

bi_few : (e : Endpoint) (bytes : List ℕ) (o : Option (ℕ × List ℕ)) → number_at bytes ≡ o → bi_by e bytes o ≡ None → length bytes ≤ 15
bi_few e bytes None h is = omega (arith, number_none bytes h)
bi_few e bytes (Some x) h is = omega (arith, number_size x.0 bytes x.1 h, test_few (x.0 == 0x41 && e.webtransport) x (frames_purpose e.side, bytes) is)

forbidden_few : (bytes : List ℕ) → forbidden_at bytes ≡ None → length bytes ≤ 15
forbidden_few [] h = omega arith
forbidden_few (b ∷ bytes) h = absurd (cc)

allowed_few : (e : Endpoint) (bytes : List ℕ) (b : Bool) → cond b (bi_by e bytes (number_at bytes)) (forbidden_at bytes) ≡ None → length bytes ≤ 15
allowed_few e bytes true h = bi_few e bytes (number_at bytes) refl h
allowed_few e bytes false h = forbidden_few bytes h

pub opening_few : (e : Endpoint) (s : Stream) (bytes : List ℕ) → IsFirst s → opening_of e s bytes ≡ None → AreFew s bytes
unfolding uni_at bi_at
opening_few e Uni bytes f h = uni_few e bytes (number_at bytes) refl h
opening_few e Bi bytes f h = allowed_few e bytes (allows_bidirectional e) h
opening_few e other bytes f h = absurd f
