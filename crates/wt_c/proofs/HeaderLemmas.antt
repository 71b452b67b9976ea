-- Stream headers that C represents as a type and a session ID.
use Rattle.std.proofs.Common.{◌≡◌, ◌≢◌, ℕ, ◌<◌, ◌≤◌, ◌^◌, List, [], ◌∷◌, ◌++◌, true, false, Some}
use Rattle.std.proofs.Common.{None, refl, sym, ap, ◌∙◌, arith}
use Rattle.wtp_core.specs.Varint.{shortest}
use Rattle.wtp_wire.specs.declared.stream_header.StreamKind.{StreamKind}
use Rattle.wtp_wire.specs.declared.stream_header.StreamKind.TheVariants.{WebTransport}
use Rattle.wtp_wire.specs.declared.stream_header.StreamKind.TheVariants.{Exercise}
use Rattle.wtp_wire.specs.Kind.{is_exercise}
use Rattle.wtp_wire.specs.StreamKind.{IsStreamKind, IsKnownStream, has_session, stream_number_of}
use Rattle.wtp_wire.specs.StreamKind.{stream_kind_of}
use Rattle.wtp_wire.specs.Header.{Header, PlainHeader, WebTransportHeader, header_kind}
use Rattle.wtp_wire.specs.HeaderWire.{header_wire}
use Rattle.wtp_wire.proofs.StreamKindLemmas.{stream_kind_of-is, is-stream_kind_of}
use Rattle.wtp_wire.proofs.KindLemmas.{test_exercise, exercise_test}
use Rattle.wt_c.specs.declared.stream_headers.WtStreamHeader.{WtStreamHeader}
use Rattle.wt_c.specs.Numbers.{IsSessionNumber}
use Rattle.wt_c.specs.StreamHeaders.{IsHeaderIn}

kind_is : (kind : StreamKind) → IsKnownStream kind → IsStreamKind kind (stream_number_of kind)
kind_is (Exercise number) h = (refl, test_exercise number h)
kind_is kind h = refl

number_is : (kind : StreamKind) (id : ℕ) → IsStreamKind kind id → id ≡ stream_number_of kind
number_is (Exercise number) id h = sym h.0
number_is kind id h = h

known_is : (kind : StreamKind) (id : ℕ) → IsStreamKind kind id → IsKnownStream kind
known_is (Exercise number) id h = ap is_exercise h.0 ∙ exercise_test id h.1
known_is kind id h = tt

plain_kind : (kind : StreamKind) → kind ≢ WebTransport → has_session kind ≡ false
plain_kind WebTransport other = absurd (other refl)
plain_kind kind other = refl

append_none : (s : List ℕ) → s ++ [] ≡ s
append_none [] = refl
append_none (x ∷ s) = ap (λ (l : List ℕ). x ∷ l) (append_none s)

kind_eq : (c : WtStreamHeader) (h : Header) → IsHeaderIn c h → c.kind ≡ stream_number_of (header_kind h)
kind_eq c h is = ap (λ (x : WtStreamHeader). x.kind) is.same

kind_found : (c : WtStreamHeader) (h : Header) → IsHeaderIn c h → stream_kind_of c.kind ≡ Some (header_kind h)
kind_found c (PlainHeader kind) is = ap stream_kind_of (kind_eq c (PlainHeader kind) is) ∙ stream_kind_of-is kind (stream_number_of kind) (kind_is kind is.proper.0)
kind_found c (WebTransportHeader id) is = ap stream_kind_of (kind_eq c (WebTransportHeader id) is) ∙ stream_kind_of-is WebTransport (stream_number_of WebTransport) refl

-- ---- numbers that are not a header

pub none_above : (c : WtStreamHeader) → 2 ^ 62 ≤ c.kind → (h : Header) → ¬ (IsHeaderIn c h)
none_above c big (PlainHeader kind) is =
    let low = is.proper.2 in
    let e : c.kind ≡ stream_number_of kind = kind_eq c (PlainHeader kind) is in
    absurd (omega (arith, low, e, big))
none_above c big (WebTransportHeader id) is =
    let e : c.kind ≡ 0x54 = kind_eq c (WebTransportHeader id) is in
    absurd (omega (arith, e, big))

pub none_unknown : (c : WtStreamHeader) → stream_kind_of c.kind ≡ None → (h : Header) → ¬ (IsHeaderIn c h)
none_unknown c e h is = let bad : None ≡ Some (header_kind h) = sym e ∙ kind_found c h is in absurd (cc)

session_kind : (c : WtStreamHeader) (kind : StreamKind) → IsHeaderIn c (PlainHeader kind) → stream_kind_of c.kind ≡ Some WebTransport → ⊥
session_kind c kind is e =
    let f : Some WebTransport ≡ Some kind = sym e ∙ kind_found c (PlainHeader kind) is in
    let same : kind ≡ WebTransport = cc in
    let t : has_session kind ≡ true = ap has_session same in
    let n : has_session kind ≡ false = is.proper.1 in
    absurd (cc)

pub none_session : (c : WtStreamHeader) → stream_kind_of c.kind ≡ Some WebTransport → ¬ (IsSessionNumber c.session) → (h : Header) → ¬ (IsHeaderIn c h)
none_session c e bad (PlainHeader kind) is = session_kind c kind is e
none_session c e bad (WebTransportHeader id) is =
    let s : c.session ≡ id = ap (λ (x : WtStreamHeader). x.session) is.same in
    let p = is.proper in
    bad (record { below = omega (arith, s, p.0); session = rw s p.1 })

pub none_plain : (c : WtStreamHeader) (k : StreamKind) → stream_kind_of c.kind ≡ Some k → k ≢ WebTransport → c.session ≢ 0 → (h : Header) → ¬ (IsHeaderIn c h)
none_plain c k e other some (PlainHeader kind) is = some (ap (λ (x : WtStreamHeader). x.session) is.same)
none_plain c k e other some (WebTransportHeader id) is =
    let f : Some k ≡ Some WebTransport = sym e ∙ kind_found c (WebTransportHeader id) is in
    let same : k ≡ WebTransport = cc in
    other same

-- ---- the header with these numbers

made : (c : WtStreamHeader) (kind session : ℕ) → c.kind ≡ kind → c.session ≡ session → c ≡ record { kind = kind; session = session }
made c kind session p q =
    let by_kind : ℕ → WtStreamHeader = λ k. record { kind = k; session = c.session } in
    let by_session : ℕ → WtStreamHeader = λ s. record { kind = kind; session = s } in
    ap by_kind p ∙ ap by_session q

pub plain_header : (c : WtStreamHeader) (k : StreamKind) → c.kind < 2 ^ 62 → stream_kind_of c.kind ≡ Some k → k ≢ WebTransport → c.session ≡ 0 → (h : Header) × IsHeaderIn c h
plain_header c k low e other none =
    let is = is-stream_kind_of k c.kind e in
    let n : c.kind ≡ stream_number_of k = number_is k c.kind is in
    (PlainHeader k, record { same = made c (stream_number_of k) 0 n none; proper = (known_is k c.kind is, plain_kind k other, omega (arith, n, low)) })

pub session_header : (c : WtStreamHeader) → c.kind < 2 ^ 62 → stream_kind_of c.kind ≡ Some WebTransport → IsSessionNumber c.session → (h : Header) × IsHeaderIn c h
session_header c low e id =
    let is = is-stream_kind_of WebTransport c.kind e in
    (WebTransportHeader c.session, record { same = made c 0x54 c.session is refl; proper = (id.below, id.session) })

pub ruleset c_headers = (none_above, none_unknown, none_session, none_plain, plain_header, session_header)

-- ---- its bytes

pub kind_low : (c : WtStreamHeader) (h : Header) → IsHeaderIn c h → c.kind < 2 ^ 62
kind_low c (PlainHeader kind) is =
    let low = is.proper.2 in
    let e : c.kind ≡ stream_number_of kind = kind_eq c (PlainHeader kind) is in
    omega (arith, low, e)
kind_low c (WebTransportHeader id) is =
    let e : c.kind ≡ 0x54 = kind_eq c (WebTransportHeader id) is in
    omega (arith, e)

no_plain : (c : WtStreamHeader) (kind : StreamKind) → IsHeaderIn c (PlainHeader kind) → c.kind ≡ 0x54 → ⊥
no_plain c kind is e = session_kind c kind is (ap stream_kind_of e ∙ stream_kind_of-is WebTransport 0x54 refl)

pub session_low : (c : WtStreamHeader) (h : Header) → IsHeaderIn c h → c.kind ≡ 0x54 → c.session < 2 ^ 62
session_low c (PlainHeader kind) is e = absurd (no_plain c kind is e)
session_low c (WebTransportHeader id) is e =
    let s : c.session ≡ id = ap (λ (x : WtStreamHeader). x.session) is.same in
    let p = is.proper in
    omega (arith, s, p.0)

pub plain_wire : (c : WtStreamHeader) (h : Header) → IsHeaderIn c h → c.kind ≢ 0x54 → shortest c.kind ≡ header_wire h
plain_wire c (PlainHeader kind) is other = ap shortest (kind_eq c (PlainHeader kind) is) ∙ sym (append_none (shortest (stream_number_of kind)))
plain_wire c (WebTransportHeader id) is other = absurd (other (kind_eq c (WebTransportHeader id) is))

pub session_wire : (c : WtStreamHeader) (h : Header) → IsHeaderIn c h → c.kind ≡ 0x54 → shortest c.kind ++ shortest c.session ≡ header_wire h
session_wire c (PlainHeader kind) is e = absurd (no_plain c kind is e)
session_wire c (WebTransportHeader id) is e =
    let s : c.session ≡ id = ap (λ (x : WtStreamHeader). x.session) is.same in
    rw (e, s) (ap (λ (l : List ℕ). shortest 0x54 ++ l) (sym (append_none (shortest id))))
