-- The computed first frame is the first frame of the grammar.
use Rattle.std.proofs.Common.{◌≡◌, ◌≢◌, ℕ, ◌+◌, ◌-◌, ◌%◌, ◌≤◌, ◌<◌, List, [], ◌++◌, length, drop, Option, Some, None, refl, sym, ap, subst, ◌∙◌, append_assoc, arith, inl, inr, ◌⊎◌}
use Rattle.std.proofs.lemmas.Bool.{cases_eq, cases_lt, eq-eqb, ne_eqb, lt-ltb, le-ltb}
use Rattle.std.proofs.lemmas.List.{length-append}
use Rattle.std.proofs.Math.Seq.{drop-append_seam}
use Rattle.wtp_core.specs.Varint.{number_at, bytes_at}
use Rattle.wtp_core.proofs.EncodingLemmas.{number_at-encoding, number_at-encodes, encoding_not_empty, bytes_at-parts, bytes_at-append}
use Rattle.wtp_wire.specs.declared.frame.kind.FrameKind.{FrameKind}
use Rattle.wtp_wire.specs.declared.frame.kind.FrameKind.TheVariants.{WebTransport}
use Rattle.wtp_wire.specs.declared.frame.head.Announcement.{Announcement}
use Rattle.wtp_wire.specs.declared.frame.head.Announcement.TheVariants as announces
use Rattle.wtp_wire.specs.Kind.{frame_type_of, IsKind, kind_of}
use Rattle.wtp_wire.specs.Content.{Content, PlainOf, WebTransportOf}
use Rattle.wtp_wire.specs.FramePrefix.{announcement_of, head_at}
use Rattle.wtp_wire.specs.Front.{Front, Framed, Unknown, BadId, TooBig, Short, EncodesPair, IsPlainFrame, IsFrame, Begins, front_after, front, extended}
use Rattle.wtp_wire.proofs.KindLemmas.{kind_of-is, is-kind_of, kind_of-none}

-- ---- the first two numbers

pub head_at-numbers : (bytes mid rest : List ℕ) (id n : ℕ) → number_at bytes ≡ Some (id, mid) → number_at mid ≡ Some (n, rest) → head_at bytes ≡ Some (announcement_of (kind_of id) n, rest)
unfolding head_at
head_at-numbers bytes mid rest id n e f = rw (e, f) refl

pub front-head : (bytes rest : List ℕ) (s : Announcement) → head_at bytes ≡ Some (s, rest) → front bytes ≡ front_after s rest
unfolding front
front-head bytes rest s e = rw e refl

pub front-headless : (bytes : List ℕ) → head_at bytes ≡ None → front bytes ≡ Short
unfolding front
front-headless bytes e = rw e refl

-- the second number is missing, or the first
pub front-none : (bytes : List ℕ) → number_at bytes ≡ None → front bytes ≡ Short
unfolding front head_at
front-none bytes e = rw e refl

pub front-cut : (bytes mid : List ℕ) (id : ℕ) → number_at bytes ≡ Some (id, mid) → number_at mid ≡ None → front bytes ≡ Short
unfolding front head_at
front-cut bytes mid id e f = rw (e, f) refl

-- ---- the second number

second-session : (id : ℕ) → id % 4 ≡ 0 → announcement_of (Some WebTransport) id ≡ announces.Session id
second-session id h = rw (eq-eqb (id % 4) 0 h) refl

second-bad : (id : ℕ) → id % 4 ≢ 0 → announcement_of (Some WebTransport) id ≡ announces.BadSession
second-bad id h = rw (ne_eqb (id % 4) 0 h) refl

second-big : (kind : FrameKind) (n : ℕ) → kind ≢ WebTransport → 4096 < n → announcement_of (Some kind) n ≡ announces.TooLong
second-big WebTransport n plain h = absurd (plain refl)
second-big kind n plain h = rw (lt-ltb 4096 n h) refl

second-plain : (kind : FrameKind) (n : ℕ) → kind ≢ WebTransport → n ≤ 4096 → announcement_of (Some kind) n ≡ announces.Payload kind n
second-plain WebTransport n plain h = absurd (plain refl)
second-plain kind n plain h = rw (le-ltb 4096 n h) refl

-- ---- the bytes after the head

pub after-payload : (kind : FrameKind) (n : ℕ) (payload rest bytes : List ℕ) → bytes_at n bytes ≡ Some (payload, rest) → front_after (announces.Payload kind n) bytes ≡ Framed (PlainOf kind payload) rest
after-payload kind n payload rest bytes e = rw e refl

pub after-skip : (n : ℕ) (payload rest bytes : List ℕ) → bytes_at n bytes ≡ Some (payload, rest) → front_after (announces.Skip n) bytes ≡ Unknown rest
after-skip n payload rest bytes e = rw e refl

pub after_payload-cut : (kind : FrameKind) (n : ℕ) (bytes : List ℕ) → bytes_at n bytes ≡ None → front_after (announces.Payload kind n) bytes ≡ Short
after_payload-cut kind n bytes e = rw e refl

pub after_skip-cut : (n : ℕ) (bytes : List ℕ) → bytes_at n bytes ≡ None → front_after (announces.Skip n) bytes ≡ Short
after_skip-cut n bytes e = rw e refl

-- ---- from the grammar to the computation

-- the encoding of a complete head at the start of the bytes
front-encoded : (bytes head rest : List ℕ) (id n : ℕ) (o : Option FrameKind) (s : Announcement) → kind_of id ≡ o → EncodesPair id n head → announcement_of o n ≡ s → bytes ≡ head ++ rest → front bytes ≡ front_after s rest
front-encoded bytes head rest id n o s kind h says parts =
    let whole : bytes ≡ h.first ++ (h.second ++ rest) = parts ∙ ap (λ (x : List ℕ). x ++ rest) h.parts ∙ append_assoc h.first h.second rest in
    let one : number_at bytes ≡ Some (id, h.second ++ rest) = rw whole (number_at-encoding id h.first (h.second ++ rest) h.type_number) in
    front-head bytes rest (announcement_of (kind_of id) n) (head_at-numbers bytes (h.second ++ rest) rest id n one (number_at-encoding n h.second rest h.number))
    ∙ ap (λ (k : Option FrameKind). front_after (announcement_of k n) rest) kind
    ∙ ap (λ (x : Announcement). front_after x rest) says

pub front-begins : (bytes : List ℕ) (c : Front) → Begins bytes c → front bytes ≡ c
front-begins bytes Short h = absurd h
front-begins bytes (Unknown rest) (s, (id, head, payload, none, encoded, whole), parts) =
    front-encoded bytes head (payload ++ rest) id (length payload) None (announces.Skip (length payload)) (kind_of-none id none) encoded refl (parts ∙ ap (λ (x : List ℕ). x ++ rest) whole ∙ append_assoc head payload rest)
    ∙ after-skip (length payload) payload rest (payload ++ rest) (bytes_at-append payload rest)
front-begins bytes (BadId rest) (s, (id, encoded, odd), parts) =
    front-encoded bytes s rest (frame_type_of WebTransport) id (Some WebTransport) announces.BadSession (kind_of-is WebTransport (frame_type_of WebTransport) refl) encoded (second-bad id odd) parts
front-begins bytes (TooBig rest) (s, (kind, id, len, is_kind, plain, big, encoded), parts) =
    front-encoded bytes s rest id len (Some kind) announces.TooLong (kind_of-is kind id is_kind) encoded (second-big kind len plain big) parts
front-begins bytes (Framed (WebTransportOf id) rest) (s, (encoded, even), parts) =
    front-encoded bytes s rest (frame_type_of WebTransport) id (Some WebTransport) (announces.Session id) (kind_of-is WebTransport (frame_type_of WebTransport) refl) encoded (second-session id even) parts
front-begins bytes (Framed (PlainOf kind payload) rest) (s, h, parts) =
    front-encoded bytes h.head (payload ++ rest) h.id (length payload) (Some kind) (announces.Payload kind (length payload)) (kind_of-is kind h.id h.is_kind) h.encoded (second-plain kind (length payload) h.plain h.small) (parts ∙ ap (λ (x : List ℕ). x ++ rest) h.parts ∙ append_assoc h.head payload rest)
    ∙ after-payload kind (length payload) payload rest (payload ++ rest) (bytes_at-append payload rest)

-- ---- from the computation to the grammar

-- the bytes start with the case, or the case is Short
abbrev Holds : List ℕ → Front → Type 0
Holds bytes c = (c ≡ Short) ⊎ Begins bytes c

holds-along : (bytes : List ℕ) (c d : Front) → c ≡ d → Holds bytes d → Holds bytes c
holds-along bytes c d e h = subst (λ (x : Front). Holds bytes x) (sym e) h

pub found : {A : Type 0} (o : Option A) → (o ≡ None) ⊎ ((x : A) × (o ≡ Some x))
found None = inl refl
found (Some x) = inr (x, refl)

-- the bytes start with two numbers
pub record HasHead (bytes : List ℕ) : Type 0 where
  pub id : ℕ
  pub n : ℕ
  pub head : List ℕ
  pub rest : List ℕ
  pub encoded : EncodesPair id n head
  pub parts : bytes ≡ head ++ rest
  pub front : front bytes ≡ front_after (announcement_of (kind_of id) n) rest

head_holds : (bytes : List ℕ) → (front bytes ≡ Short) ⊎ HasHead bytes
head_holds bytes = elim (found (number_at bytes)) [
  | inl none ↦ inl (front-none bytes none)
  | inr ((id, mid), e) ↦ elim (found (number_at mid)) [
    | inl none ↦ inl (front-cut bytes mid id e none)
    | inr ((n, rest), f) ↦
        let (first, typed, one) = number_at-encodes id bytes mid e in
        let (second, number, two) = number_at-encodes n mid rest f in
        inr (record {
          id = id;
          n = n;
          head = first ++ second;
          rest = rest;
          encoded = record { first = first; second = second; parts = refl; type_number = typed; number = number };
          parts = one ∙ ap (λ (x : List ℕ). first ++ x) two ∙ sym (append_assoc first second rest);
          front = front-head bytes rest (announcement_of (kind_of id) n) (head_at-numbers bytes mid rest id n e f);
        })
  ]
]

-- n bytes after a head
sized : (bytes head rest payload left : List ℕ) (id n : ℕ) → EncodesPair id n head → bytes ≡ head ++ rest → bytes_at n rest ≡ Some (payload, left) → (length payload ≡ n) × EncodesPair id (length payload) head × (bytes ≡ (head ++ payload) ++ left)
sized bytes head rest payload left id n h parts got =
    let (len, halves) = bytes_at-parts n rest payload left got in
    (len, subst (λ (k : ℕ). EncodesPair id k head) (sym len) h, parts ∙ ap (λ (x : List ℕ). head ++ x) halves ∙ sym (append_assoc head payload left))

skip_holds : (bytes head rest : List ℕ) (id n : ℕ) → ((kind : FrameKind) → IsKind kind id → ⊥) → EncodesPair id n head → bytes ≡ head ++ rest → Holds bytes (front_after (announces.Skip n) rest)
skip_holds bytes head rest id n no_kind h parts = elim (found (bytes_at n rest)) [
  | inl cut ↦ inl (after_skip-cut n rest cut)
  | inr ((payload, left), got) ↦
      let (len, encoded, all) = sized bytes head rest payload left id n h parts got in
      holds-along bytes (front_after (announces.Skip n) rest) (Unknown left) (after-skip n payload left rest got) (inr (head ++ payload, (id, head, payload, no_kind, encoded, refl), all))
]

payload_holds : (kind : FrameKind) (bytes head rest : List ℕ) (id n : ℕ) → IsKind kind id → kind ≢ WebTransport → n ≤ 4096 → EncodesPair id n head → bytes ≡ head ++ rest → Holds bytes (front_after (announces.Payload kind n) rest)
payload_holds kind bytes head rest id n is_kind plain small h parts = elim (found (bytes_at n rest)) [
  | inl cut ↦ inl (after_payload-cut kind n rest cut)
  | inr ((payload, left), got) ↦
      let (len, encoded, all) = sized bytes head rest payload left id n h parts got in
      let frame : IsPlainFrame kind payload (head ++ payload) = record { id = id; head = head; is_kind = is_kind; plain = plain; encoded = encoded; small = omega arith; parts = refl } in
      holds-along bytes (front_after (announces.Payload kind n) rest) (Framed (PlainOf kind payload) left) (after-payload kind n payload left rest got) (inr (head ++ payload, frame, all))
]

after-along : (s t : Announcement) (rest : List ℕ) → s ≡ t → front_after s rest ≡ front_after t rest
after-along s t rest e = ap (λ (x : Announcement). front_after x rest) e

plain_holds : (kind : FrameKind) (bytes head rest : List ℕ) (id n : ℕ) → IsKind kind id → kind ≢ WebTransport → EncodesPair id n head → bytes ≡ head ++ rest → Holds bytes (front_after (announcement_of (Some kind) n) rest)
plain_holds kind bytes head rest id n is_kind plain h parts = elim (cases_lt 4096 n) [
  | inl big ↦ holds-along bytes (front_after (announcement_of (Some kind) n) rest) (TooBig rest) (after-along (announcement_of (Some kind) n) announces.TooLong rest (second-big kind n plain big)) (inr (head, (kind, id, n, is_kind, plain, big, h), parts))
  | inr small ↦ holds-along bytes (front_after (announcement_of (Some kind) n) rest) (front_after (announces.Payload kind n) rest) (after-along (announcement_of (Some kind) n) (announces.Payload kind n) rest (second-plain kind n plain small)) (payload_holds kind bytes head rest id n is_kind plain small h parts)
]

session_holds : (bytes head rest : List ℕ) (id : ℕ) → EncodesPair (frame_type_of WebTransport) id head → bytes ≡ head ++ rest → Holds bytes (front_after (announcement_of (Some WebTransport) id) rest)
session_holds bytes head rest id h parts = elim (cases_eq (id % 4) 0) [
  | inl even ↦ holds-along bytes (front_after (announcement_of (Some WebTransport) id) rest) (Framed (WebTransportOf id) rest) (after-along (announcement_of (Some WebTransport) id) (announces.Session id) rest (second-session id even)) (inr (head, (h, even), parts))
  | inr odd ↦ holds-along bytes (front_after (announcement_of (Some WebTransport) id) rest) (BadId rest) (after-along (announcement_of (Some WebTransport) id) announces.BadSession rest (second-bad id odd)) (inr (head, (id, h, odd), parts))
]

kind_holds : (kind : FrameKind) (bytes head rest : List ℕ) (id n : ℕ) → IsKind kind id → EncodesPair id n head → bytes ≡ head ++ rest → Holds bytes (front_after (announcement_of (Some kind) n) rest)
kind_holds WebTransport bytes head rest id n is_kind h parts = session_holds bytes head rest n (subst (λ (i : ℕ). EncodesPair i n head) is_kind h) parts
kind_holds kind bytes head rest id n is_kind h parts = plain_holds kind bytes head rest id n is_kind (λ e. cc) h parts

after_holds : (o : Option FrameKind) (bytes head rest : List ℕ) (id n : ℕ) → kind_of id ≡ o → EncodesPair id n head → bytes ≡ head ++ rest → Holds bytes (front_after (announcement_of o n) rest)
after_holds None bytes head rest id n e h parts = skip_holds bytes head rest id n (λ kind is. none_some kind (kind_of-is kind id is)) h parts
  where
    none_some : (kind : FrameKind) → kind_of id ≡ Some kind → ⊥
    none_some kind s = cc
after_holds (Some kind) bytes head rest id n e h parts = kind_holds kind bytes head rest id n (is-kind_of kind id e) h parts

pub front_holds : (bytes : List ℕ) → Holds bytes (front bytes)
front_holds bytes = elim (head_holds bytes) [
  | inl short ↦ inl short
  | inr h ↦ holds-along bytes (front bytes) (front_after (announcement_of (kind_of h.id) h.n) h.rest) h.front (after_holds (kind_of h.id) bytes h.head h.rest h.id h.n refl h.encoded h.parts)
]

-- ---- bytes appended

-- Short exactly if the bytes start with no case
pub front-short : (bytes : List ℕ) → front bytes ≡ Short → (c : Front) → Begins bytes c → ⊥
front-short bytes short c h = subst (λ (x : Front). Begins bytes x) (sym (front-begins bytes c h) ∙ short) h

begins-more : (bytes more : List ℕ) (c : Front) → Begins bytes c → Begins (bytes ++ more) (extended c more)
begins-more bytes more (Framed f rest) (s, h, parts) = (s, h, ap (λ (x : List ℕ). x ++ more) parts ∙ append_assoc s rest more)
begins-more bytes more (Unknown rest) (s, h, parts) = (s, h, ap (λ (x : List ℕ). x ++ more) parts ∙ append_assoc s rest more)
begins-more bytes more (BadId rest) (s, h, parts) = (s, h, ap (λ (x : List ℕ). x ++ more) parts ∙ append_assoc s rest more)
begins-more bytes more (TooBig rest) (s, h, parts) = (s, h, ap (λ (x : List ℕ). x ++ more) parts ∙ append_assoc s rest more)
begins-more bytes more Short h = absurd h

-- appending bytes does not change a case other than Short
pub front-more : (bytes more : List ℕ) → front bytes ≢ Short → front (bytes ++ more) ≡ extended (front bytes) more
front-more bytes more whole = elim (front_holds bytes) [
  | inl short ↦ absurd (whole short)
  | inr h ↦ front-begins (bytes ++ more) (extended (front bytes) more) (begins-more bytes more (front bytes) h)
]

-- the bytes after a frame are a suffix of the bytes
pub front-framed_rest : (bytes rest : List ℕ) (f : Content) → front bytes ≡ Framed f rest → (s : List ℕ) × (bytes ≡ s ++ rest)
front-framed_rest bytes rest f e = elim (front_holds bytes) [
  | inl short ↦ absurd (cc)
  | inr h ↦ let (s, is, parts) = subst (λ (x : Front). Begins bytes x) e h in (s, parts)
]

pub end_is_drop : (bytes s rest : List ℕ) → bytes ≡ s ++ rest → (length rest ≤ length bytes) × (drop (length bytes - length rest) bytes ≡ rest)
end_is_drop bytes s rest parts =
    let sum : length bytes ≡ length s + length rest = ap length parts ∙ length-append s rest in
    let size : length bytes - length rest ≡ length s = omega arith in
    (omega arith, rw (size, parts) (drop-append_seam s rest))

-- ---- the remainder is shorter

shorter : (bytes s rest : List ℕ) → bytes ≡ s ++ rest → 0 < length s → length rest < length bytes
shorter bytes s rest parts h = omega (arith, ap length parts ∙ length-append s rest)

pub head_not_empty : (id n : ℕ) (s : List ℕ) → EncodesPair id n s → 0 < length s
head_not_empty id n s h = omega (arith, ap length h.parts ∙ length-append h.first h.second, encoding_not_empty id h.first h.type_number)

plain_not_empty : (kind : FrameKind) (payload s : List ℕ) (h : IsPlainFrame kind payload s) → 0 < length s
plain_not_empty kind payload s h = omega (arith, ap length h.parts ∙ length-append h.head payload, head_not_empty h.id (length payload) h.head h.encoded)

frame_not_empty : (f : Content) (s : List ℕ) → IsFrame f s → 0 < length s
frame_not_empty (PlainOf kind payload) s h = plain_not_empty kind payload s h
frame_not_empty (WebTransportOf id) s h = head_not_empty (frame_type_of WebTransport) id s h.0

pub framed-shorter : (bytes rest : List ℕ) (f : Content) → front bytes ≡ Framed f rest → length rest < length bytes
framed-shorter bytes rest f e = elim (front_holds bytes) [
  | inl short ↦ absurd (cc)
  | inr h ↦ let (s, is, parts) = subst (λ (x : Front). Begins bytes x) e h in shorter bytes s rest parts (frame_not_empty f s is)
]

pub unknown-shorter : (bytes rest : List ℕ) → front bytes ≡ Unknown rest → length rest < length bytes
unknown-shorter bytes rest e = elim (front_holds bytes) [
  | inl short ↦ absurd (cc)
  | inr h ↦ let (s, (id, head, payload, none, encoded, whole), parts) = subst (λ (x : Front). Begins bytes x) e h in shorter bytes s rest parts (omega (arith, ap length whole ∙ length-append head payload, head_not_empty id (length payload) head encoded))
]

pub front-empty : front [] ≡ Short
front-empty = elim (front_holds []) [ inl short ↦ short | inr h ↦ nothing_begins (front []) refl h ]
  where
    nothing_begins : (c : Front) → front [] ≡ c → Begins [] c → front [] ≡ Short
    nothing_begins Short e h = e
    nothing_begins (Framed f rest) e h = absurd (omega (arith, framed-shorter [] rest f e))
    nothing_begins (Unknown rest) e h = absurd (omega (arith, unknown-shorter [] rest e))
    nothing_begins (BadId rest) e (s, (id, encoded, odd), parts) = absurd (omega (arith, shorter [] s rest parts (head_not_empty (frame_type_of WebTransport) id s encoded)))
    nothing_begins (TooBig rest) e (s, (kind, id, len, is_kind, plain, big, encoded), parts) = absurd (omega (arith, shorter [] s rest parts (head_not_empty id len s encoded)))
