-- The computed header of a stream is the header of the grammar.
use Rattle.std.proofs.Common.{◌≡◌, ◌≢◌, ℕ, ◌^◌, ◌<◌, ◌%◌, List, [], ◌++◌, false, Option, Some, None, refl, sym, ap, subst, ◌∙◌, append_assoc, append-nil, lit<, inl, inr, ◌⊎◌}
use Rattle.std.proofs.lemmas.Bool.{cases_Bool, cases_eq, eq-eqb, ne_eqb}
use Rattle.wtp_core.specs.Varint.{Encodes, number_at, shortest}
use Rattle.wtp_core.proofs.EncodingLemmas.{number_at-encoding, number_at-encodes}
use Rattle.wtp_core.proofs.ShortLemmas.{shortest-encodes}
use Rattle.wtp_wire.specs.declared.stream_header.StreamKind.{StreamKind}
use Rattle.wtp_wire.specs.declared.stream_header.StreamKind.TheVariants.{WebTransport, Exercise}
use Rattle.wtp_wire.specs.StreamKind.{IsStreamKind, IsKnownStream, has_session, stream_number_of, stream_kind_of}
use Rattle.wtp_wire.specs.Front.{EncodesPair}
use Rattle.wtp_wire.specs.Header.{Header, PlainHeader, WebTransportHeader}
use Rattle.wtp_wire.specs.HeaderFront.{HeaderFront, Headed, Unknown, BadId, Short, IsHeader, StreamBegins, header_extended, session_header_front, kind_header_front, typed_header_front, header_front}
use Rattle.wtp_wire.specs.HeaderWire.{header_wire, IsReadableHeader}
use Rattle.wtp_wire.proofs.KindLemmas.{test_exercise}
use Rattle.wtp_wire.proofs.FrontLemmas.{found}
use Rattle.wtp_wire.proofs.HeaderLemmas.{has_session-true}
use Rattle.wtp_wire.proofs.StreamKindLemmas.{stream_kind_of-is, is-stream_kind_of, stream_kind_of-none}

-- ---- from the grammar to the computation

header_front-typed : (bytes rest : List ℕ) (id : ℕ) → number_at bytes ≡ Some (id, rest) → header_front bytes ≡ typed_header_front (stream_kind_of id) rest
unfolding header_front
header_front-typed bytes rest id e = rw e refl

header_front-encoded : (bytes s rest : List ℕ) (id : ℕ) → Encodes id s → bytes ≡ s ++ rest → header_front bytes ≡ typed_header_front (stream_kind_of id) rest
header_front-encoded bytes s rest id h parts = header_front-typed bytes rest id (rw parts (number_at-encoding id s rest h))

session_header_front-id : (bytes rest : List ℕ) (id : ℕ) → number_at bytes ≡ Some (id, rest) → id % 4 ≡ 0 → session_header_front bytes ≡ Headed (WebTransportHeader id) rest
unfolding session_header_front
session_header_front-id bytes rest id e h = rw (e, eq-eqb (id % 4) 0 h) refl

session_header_front-bad : (bytes rest : List ℕ) (id : ℕ) → number_at bytes ≡ Some (id, rest) → id % 4 ≢ 0 → session_header_front bytes ≡ BadId rest
unfolding session_header_front
session_header_front-bad bytes rest id e h = rw (e, ne_eqb (id % 4) 0 h) refl

-- a type of this kind
header_front-kind : (kind : StreamKind) (bytes s rest : List ℕ) (id : ℕ) → IsStreamKind kind id → Encodes id s → bytes ≡ s ++ rest → header_front bytes ≡ kind_header_front kind rest
header_front-kind kind bytes s rest id is_kind h parts = header_front-encoded bytes s rest id h parts ∙ ap (λ (k : Option StreamKind). typed_header_front k rest) (stream_kind_of-is kind id is_kind)

plain_front : (kind : StreamKind) (rest : List ℕ) → has_session kind ≡ false → kind_header_front kind rest ≡ Headed (PlainHeader kind) rest
plain_front kind rest plain = rw plain refl

-- the WebTransport type, and a number after it
header_front-session : (bytes s rest : List ℕ) (id : ℕ) (h : EncodesPair 84 id s) → bytes ≡ s ++ rest → (header_front bytes ≡ session_header_front (h.second ++ rest)) × (number_at (h.second ++ rest) ≡ Some (id, rest))
header_front-session bytes s rest id h parts = (
  header_front-kind WebTransport bytes h.first (h.second ++ rest) 84 refl h.type_number (parts ∙ ap (λ (x : List ℕ). x ++ rest) h.parts ∙ append_assoc h.first h.second rest),
  number_at-encoding id h.second rest h.number,
)

pub header_front-begins : (bytes : List ℕ) (c : HeaderFront) → StreamBegins bytes c → header_front bytes ≡ c
header_front-begins bytes Short h = absurd h
header_front-begins bytes (Unknown rest) (s, (id, none, encoded), parts) = header_front-encoded bytes s rest id encoded parts ∙ ap (λ (k : Option StreamKind). typed_header_front k rest) (stream_kind_of-none id none)
header_front-begins bytes (BadId rest) (s, (id, encoded, odd), parts) =
    let (to_session, number) = header_front-session bytes s rest id encoded parts in
    to_session ∙ session_header_front-bad (encoded.second ++ rest) rest id number odd
header_front-begins bytes (Headed (PlainHeader kind) rest) (s, (id, is_kind, plain, encoded), parts) = header_front-kind kind bytes s rest id is_kind encoded parts ∙ plain_front kind rest plain
header_front-begins bytes (Headed (WebTransportHeader id) rest) (s, (encoded, even), parts) =
    let (to_session, number) = header_front-session bytes s rest id encoded parts in
    to_session ∙ session_header_front-id (encoded.second ++ rest) rest id number even

-- ---- from the computation to the grammar

-- the bytes start with the case, or the case is Short
abbrev Holds : List ℕ → HeaderFront → Type 0
Holds bytes c = (c ≡ Short) ⊎ StreamBegins bytes c

holds-along : (bytes : List ℕ) (c d : HeaderFront) → c ≡ d → Holds bytes d → Holds bytes c
holds-along bytes c d e h = subst (λ (x : HeaderFront). Holds bytes x) (sym e) h

session_header_front-none : (bytes : List ℕ) → number_at bytes ≡ None → session_header_front bytes ≡ Short
unfolding session_header_front
session_header_front-none bytes e = rw e refl

session_holds : (bytes first rest : List ℕ) → Encodes 84 first → bytes ≡ first ++ rest → Holds bytes (session_header_front rest)
session_holds bytes first rest typed parts = elim (found (number_at rest)) [
  | inl none ↦ inl (session_header_front-none rest none)
  | inr ((id, behind), e) ↦
      let (second, number, more) = number_at-encodes id rest behind e in
      let head : EncodesPair 84 id (first ++ second) = record { first = first; second = second; parts = refl; type_number = typed; number = number } in
      let whole : bytes ≡ (first ++ second) ++ behind = parts ∙ ap (λ (x : List ℕ). first ++ x) more ∙ sym (append_assoc first second behind) in
      elim (cases_eq (id % 4) 0) [
        | inl even ↦ holds-along bytes (session_header_front rest) (Headed (WebTransportHeader id) behind) (session_header_front-id rest behind id e even) (inr (first ++ second, (head, even), whole))
        | inr odd ↦ holds-along bytes (session_header_front rest) (BadId behind) (session_header_front-bad rest behind id e odd) (inr (first ++ second, (id, head, odd), whole))
      ]
]

kind_holds : (kind : StreamKind) (id : ℕ) (bytes first rest : List ℕ) → IsStreamKind kind id → Encodes id first → bytes ≡ first ++ rest → Holds bytes (kind_header_front kind rest)
kind_holds kind id bytes first rest h typed parts = elim (cases_Bool (has_session kind)) [
  | inl opens ↦
      let k : kind ≡ WebTransport = has_session-true kind opens in
      let number : id ≡ stream_number_of WebTransport = rw k at h in
      rw k (session_holds bytes first rest (rw number at typed) parts)
  | inr plain ↦ holds-along bytes (kind_header_front kind rest) (Headed (PlainHeader kind) rest) (plain_front kind rest plain) (inr (first, (id, h, plain, typed), parts))
]

typed_holds : (o : Option StreamKind) (id : ℕ) (bytes first rest : List ℕ) → stream_kind_of id ≡ o → Encodes id first → bytes ≡ first ++ rest → Holds bytes (typed_header_front o rest)
typed_holds None id bytes first rest e typed parts = inr (first, (id, λ kind h. none_some kind (stream_kind_of-is kind id h), typed), parts)
  where
    none_some : (kind : StreamKind) → stream_kind_of id ≡ Some kind → ⊥
    none_some kind s = cc
typed_holds (Some kind) id bytes first rest e typed parts = kind_holds kind id bytes first rest (is-stream_kind_of kind id e) typed parts

header_front-none : (bytes : List ℕ) → number_at bytes ≡ None → header_front bytes ≡ Short
unfolding header_front
header_front-none bytes e = rw e refl

pub header_front_holds : (bytes : List ℕ) → Holds bytes (header_front bytes)
header_front_holds bytes = elim (found (number_at bytes)) [
  | inl none ↦ inl (header_front-none bytes none)
  | inr ((id, rest), e) ↦
      let (first, typed, parts) = number_at-encodes id bytes rest e in
      holds-along bytes (header_front bytes) (typed_header_front (stream_kind_of id) rest) (header_front-typed bytes rest id e) (typed_holds (stream_kind_of id) id bytes first rest refl typed parts)
]

-- ---- bytes appended

-- Short exactly if the bytes start with no case
pub header_front-short : (bytes : List ℕ) → header_front bytes ≡ Short → (c : HeaderFront) → StreamBegins bytes c → ⊥
header_front-short bytes short c h = subst (λ (x : HeaderFront). StreamBegins bytes x) (sym (header_front-begins bytes c h) ∙ short) h

begins-more : (bytes more : List ℕ) (c : HeaderFront) → StreamBegins bytes c → StreamBegins (bytes ++ more) (header_extended c more)
begins-more bytes more (Headed f rest) (s, h, parts) = (s, h, ap (λ (x : List ℕ). x ++ more) parts ∙ append_assoc s rest more)
begins-more bytes more (Unknown rest) (s, h, parts) = (s, h, ap (λ (x : List ℕ). x ++ more) parts ∙ append_assoc s rest more)
begins-more bytes more (BadId rest) (s, h, parts) = (s, h, ap (λ (x : List ℕ). x ++ more) parts ∙ append_assoc s rest more)
begins-more bytes more Short h = absurd h

-- appending bytes does not change a case other than Short
pub header_front-more : (bytes more : List ℕ) → header_front bytes ≢ Short → header_front (bytes ++ more) ≡ header_extended (header_front bytes) more
header_front-more bytes more whole = elim (header_front_holds bytes) [
  | inl short ↦ absurd (whole short)
  | inr h ↦ header_front-begins (bytes ++ more) (header_extended (header_front bytes) more) (begins-more bytes more (header_front bytes) h)
]

-- ---- written headers are read back

encodes-wire : (n : ℕ) → n < 2 ^ 62 → Encodes n (shortest n ++ [])
encodes-wire n fits = rw (append-nil (shortest n)) (shortest-encodes n fits)

number_is_kind : (kind : StreamKind) → IsKnownStream kind → IsStreamKind kind (stream_number_of kind)
number_is_kind (Exercise number) known = (refl, test_exercise number known)
number_is_kind kind known = refl

header_wire_is_header : (h : Header) → IsReadableHeader h → IsHeader h (header_wire h)
header_wire_is_header (PlainHeader kind) (known, plain, fits) = (stream_number_of kind, number_is_kind kind known, plain, encodes-wire (stream_number_of kind) fits)
header_wire_is_header (WebTransportHeader id) r = (record { first = shortest 84; second = shortest id ++ []; parts = refl; type_number = shortest-encodes 84 (lit< tt); number = encodes-wire id r.0 }, r.1)

pub header_front-wire : (h : Header) (rest : List ℕ) → IsReadableHeader h → header_front (header_wire h ++ rest) ≡ Headed h rest
header_front-wire h rest r = header_front-begins (header_wire h ++ rest) (Headed h rest) (header_wire h, header_wire_is_header h r, refl)
