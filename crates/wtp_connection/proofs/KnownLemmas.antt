-- What a server knows of sessions, by the streams that it accepted.
use Rattle.std.proofs.Common.{◌≡◌, ◌==◌, ℕ, ◌+◌, ◌*◌, ◌/◌, ◌%◌, ◌<◌, Bool, cond, true, false, List, [], ◌∷◌, refl, sym, ap, ◌∙◌, arith, eq-eqb, inl, inr}
use Rattle.std.proofs.lemmas.Bool.{cases_Bool, ne_eqb, eqb-true}
use Rattle.wtp_frames.specs.declared.endpoint.Endpoint.{Endpoint}
use Rattle.wtp_frames.specs.declared.endpoint.Side.{Side}
use Rattle.wtp_frames.specs.declared.endpoint.Side.TheVariants.{Client, Server}
use Rattle.wtp_connection.specs.declared.connection.Connection.{Connection}
use Rattle.wtp_connection.specs.declared.connection.Known.TheVariants as known
use Rattle.wtp_connection.specs.declared.requests.Begun.{Begun}
use Rattle.wtp_connection.specs.declared.requests.Beginning.{Beginning}
use Rattle.wtp_connection.specs.declared.requests.Beginning.TheVariants as beginning
use Rattle.wtp_connection.specs.Requests.{has_begun, requests_in, IsNotFarBehind, beginning_of, beginning_at, with_request, begun_by}
use Rattle.wtp_connection.specs.Streams.{with_stream, accepted_all, over_if, known_by, known_at, known_alone}
use Rattle.wtp_connection.proofs.RequestLemmas.{requests_known, few_lost, never_begun}

-- ---- the streams of requests

same_request : (id s : ℕ) → id % 4 ≡ 0 → s % 4 ≡ 0 → (id / 4 == s / 4) ≡ (id == s)
same_request id s a b = elim (cases_Bool (id == s)) [
  | inl same ↦ eq-eqb (id / 4) (s / 4) (ap (λ (n : ℕ). n / 4) (eqb-true id s same)) ∙ sym same
  | inr other ↦ ne_eqb (id / 4) (s / 4) (λ e. cc (sym other ∙ eq-eqb id s (omega (arith, e, a, b)))) ∙ sym other
]

has_request : (ids : List ℕ) (s : ℕ) → s % 4 ≡ 0 → has_begun (requests_in ids) (s / 4) ≡ has_begun ids s
has_request [] s z = refl
has_request (id ∷ ids) s z = elim (cases_Bool (id % 4 == 0)) [
  | inl is ↦ rw (is, has_request ids s z, same_request id s (eqb-true (id % 4) 0 is) z) refl
  | inr other ↦ rw (other, has_request ids s z, ne_eqb id s (λ e. cc (sym other ∙ eq-eqb (id % 4) 0 (omega (arith, e, z))))) refl
]

-- ---- what a server remembers

with_endpoint : (side : Side) (c : Connection) (id : ℕ) → (with_stream side c id).endpoint ≡ c.endpoint
with_endpoint Client c id = refl
with_endpoint Server c id = elim (cases_Bool (id % 4 == 0)) [
  | inl is ↦ rw is refl
  | inr other ↦ rw other refl
]

accepted_endpoint : (e : Endpoint) (ids : List ℕ) → (accepted_all e ids).endpoint ≡ e
accepted_endpoint e [] = refl
accepted_endpoint e (id ∷ ids) = with_endpoint (accepted_all e ids).endpoint.side (accepted_all e ids) id ∙ accepted_endpoint e ids

with_begun : (c : Connection) (id : ℕ) → (with_stream Server c id).begun ≡ cond (id % 4 == 0) (with_request c.begun (id / 4)) c.begun
with_begun c id = elim (cases_Bool (id % 4 == 0)) [
  | inl is ↦ rw is refl
  | inr other ↦ rw other refl
]

one_stream : (b : Bool) (n : ℕ) (ns : List ℕ) → cond b (with_request (begun_by ns) n) (begun_by ns) ≡ begun_by (cond b (n ∷ ns) ns)
one_stream true n ns = refl
one_stream false n ns = refl

accepted_begun : (e : Endpoint) (ids : List ℕ) → e.side ≡ Server → (accepted_all e ids).begun ≡ begun_by (requests_in ids)
accepted_begun e [] side = refl
accepted_begun e (id ∷ ids) side =
    ap (λ (x : Side). (with_stream x (accepted_all e ids) id).begun) (ap (λ (x : Endpoint). x.side) (accepted_endpoint e ids) ∙ side)
    ∙ with_begun (accepted_all e ids) id
    ∙ ap (λ (b : Begun). cond (id % 4 == 0) (with_request b (id / 4)) b) (accepted_begun e ids side)
    ∙ one_stream (id % 4 == 0) (id / 4) (requests_in ids)

known_server : (e : Endpoint) (ids : List ℕ) (s : ℕ) → e.side ≡ Server → known_alone (accepted_all e ids) s ≡ known_at Server (begun_by (requests_in ids)) s
known_server e ids s side =
    ap (λ (x : Side). known_at x (accepted_all e ids).begun s) (ap (λ (x : Endpoint). x.side) (accepted_endpoint e ids) ∙ side)
    ∙ ap (λ (b : Begun). known_at Server b s) (accepted_begun e ids side)

-- ---- the laws

is_over : (b : Beginning) → known_by b ≡ known.Over → b ≡ beginning.Begun
is_over beginning.Begun h = refl
is_over beginning.NotBegun h = absurd (cc)
is_over beginning.Lost h = absurd (cc)

begun_at : (ids : List ℕ) (s : ℕ) → s % 4 ≡ 0 → beginning_at (begun_by (requests_in ids)) (s / 4) ≡ beginning.Begun → has_begun ids s ≡ true
begun_at ids s z h = elim (cases_Bool (has_begun ids s)) [
  | inl came ↦ came
  | inr none ↦ absurd (never_begun (requests_in ids) (s / 4) (has_request ids s z ∙ none) h)
]

over_at : (ids : List ℕ) (s : ℕ) → known_at Server (begun_by (requests_in ids)) s ≡ known.Over → has_begun ids s ≡ true
over_at ids s h = elim (cases_Bool (s % 4 == 0)) [
  | inl is ↦ begun_at ids s (eqb-true (s % 4) 0 is) (is_over (beginning_at (begun_by (requests_in ids)) (s / 4)) (rw is at h))
  | inr other ↦ absurd (cc (rw other at h))
]

over_by : (side : Side) (e : Endpoint) (ids : List ℕ) (s : ℕ) → e.side ≡ side → known_alone (accepted_all e ids) s ≡ known.Over → has_begun ids s ≡ true
over_by Client e ids s side h =
    let none : known.Impossible ≡ known.Over = sym (ap (λ (x : Side). known_at x (accepted_all e ids).begun s) (ap (λ (x : Endpoint). x.side) (accepted_endpoint e ids) ∙ side)) ∙ h in
    absurd (cc none)
over_by Server e ids s side h = over_at ids s (sym (known_server e ids s side) ∙ h)

pub over_after_request : (e : Endpoint) (ids : List ℕ) (s : ℕ) → known_alone (accepted_all e ids) s ≡ known.Over → has_begun ids s ≡ true
over_after_request e ids s h = over_by e.side e ids s refl h

near : (ids : List ℕ) (s : ℕ) → s % 4 ≡ 0 → ((id : ℕ) → has_begun ids id ≡ true → id % 4 ≡ 0 → id < s + 2048) → IsNotFarBehind (requests_in ids) (s / 4)
near ids s z h m is =
    let place : 4 * m / 4 ≡ m = omega arith in
    let first : 4 * m % 4 ≡ 0 = omega arith in
    let came : has_begun ids (4 * m) ≡ true = sym (has_request ids (4 * m) first) ∙ ap (λ (n : ℕ). has_begun (requests_in ids) n) place ∙ is in
    let bound : 4 * m < s + 2048 = h (4 * m) came first in
    omega (arith, bound, z)

over_or_coming : (b : Bool) → known_by (beginning_of b) ≡ over_if b
over_or_coming true = refl
over_or_coming false = refl

pub known_exactly : (e : Endpoint) (ids : List ℕ) (s : ℕ) → e.side ≡ Server → s % 4 ≡ 0 → ((id : ℕ) → has_begun ids id ≡ true → id % 4 ≡ 0 → id < s + 2048) → known_alone (accepted_all e ids) s ≡ over_if (has_begun ids s)
known_exactly e ids s side z h =
    known_server e ids s side
    ∙ ap (λ (b : Bool). cond b (known_by (beginning_at (begun_by (requests_in ids)) (s / 4))) known.Impossible) (eq-eqb (s % 4) 0 z)
    ∙ ap known_by (requests_known (requests_in ids) (s / 4) (few_lost (requests_in ids) (s / 4) (near ids s z h)))
    ∙ over_or_coming (has_begun (requests_in ids) (s / 4))
    ∙ ap over_if (has_request ids s z)
