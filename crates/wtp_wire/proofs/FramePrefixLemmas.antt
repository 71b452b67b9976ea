-- The head of a frame, and what follows it.
use Rattle.std.proofs.Common.{◌≡◌, ◌≢◌, ℕ, ◌+◌, ◌%◌, ◌==◌, ◌<◌, ◌≤◌, nat_lt, List, [], ◌++◌, length, drop, Option, Some, None, refl, sym, ap, subst, ◌∙◌, arith, inl, inr, false, length-append, length-drop, append_assoc, append-nil}
use Rattle.std.proofs.lemmas.Bool.{cases_lt, ltb-false, cases_Bool}
use Rattle.wtp_core.specs.Varint.{Encodes, number_at}
use Rattle.wtp_core.specs.VarintLenNeeded.{varint_len_needed}
use Rattle.wtp_core.proofs.NeedLemmas.{number_at-cut, number_at-full, number_at-whole}
use Rattle.wtp_core.proofs.EncodingLemmas.{number_at-more, number_at-encodes}
use Rattle.wtp_core.specs.Source.{Source}
use Rattle.wtp_wire.specs.declared.frame.kind.FrameKind.{FrameKind}
use Rattle.wtp_wire.specs.declared.frame.kind.FrameKind.TheVariants.{WebTransport}
use Rattle.wtp_wire.specs.declared.frame.head.Announcement.{Announcement}
use Rattle.wtp_wire.specs.declared.frame.head.Announcement.TheVariants as announces
use Rattle.wtp_wire.specs.Kind.{IsKnown, kind_of}
use Rattle.wtp_wire.specs.Front.{Short, EncodesPair, IsUnknown, front_after, front}
use Rattle.wtp_wire.specs.FramePrefix.{announcement_at, announcement_of}
use Rattle.wtp_wire.specs.FrameNeed.{frame_need, frame_need_is, frame_need_least}
use Rattle.wtp_wire.specs.Held.{Held, IsUnknownHead, IsPayloadHead, Skips}
use Rattle.wtp_wire.proofs.KindLemmas.{is-kind_of, kind_of-is, is_kind-known}
use Rattle.wtp_wire.proofs.FrontLemmas.{head_at-numbers, front-head, front-none, front-cut}

-- the two numbers of a complete head
pub record Parts (h : List ℕ) : Type 0 where
  pub id : ℕ
  pub n : ℕ
  pub behind : List ℕ
  pub first : number_at h ≡ Some (id, behind)
  pub second : number_at behind ≡ Some (n, [])

pub parts_of : (h : List ℕ) → frame_need h ≡ length h → Parts h
parts_of h w =
    let l : varint_len_needed h ≤ length h = omega (arith, frame_need_least h) in
    let r = drop (varint_len_needed h) h in
    let one = number_at-full h l in
    let two = number_at-whole r (omega (arith, frame_need_is h, length-drop (varint_len_needed h) h)) in
    record { id = one.0; n = two.0; behind = r; first = one.1; second = two.1 }

pub announcement_numbers : (bytes r rest : List ℕ) (id n : ℕ) → number_at bytes ≡ Some (id, r) → number_at r ≡ Some (n, rest) → announcement_at bytes ≡ announcement_of (kind_of id) n
unfolding announcement_at
announcement_numbers bytes r rest id n e f = rw (head_at-numbers bytes r rest id n e f) refl

pub announcement_more : (h xs : List ℕ) → frame_need h ≡ length h → announcement_at (h ++ xs) ≡ announcement_at h
announcement_more h xs w =
    let p = parts_of h w in
    announcement_numbers (h ++ xs) (p.behind ++ xs) xs p.id p.n (number_at-more p.id h p.behind xs p.first) (number_at-more p.n p.behind [] xs p.second)
    ∙ sym (announcement_numbers h p.behind [] p.id p.n p.first p.second)

-- ---- the first frame

-- after a complete head
pub front_announcement : (h xs : List ℕ) → frame_need h ≡ length h → front (h ++ xs) ≡ front_after (announcement_at h) xs
front_announcement h xs w =
    let p = parts_of h w in
    front-head (h ++ xs) xs (announcement_of (kind_of p.id) p.n) (head_at-numbers (h ++ xs) (p.behind ++ xs) xs p.id p.n (number_at-more p.id h p.behind xs p.first) (number_at-more p.n p.behind [] xs p.second))
    ∙ ap (λ (s : Announcement). front_after s xs) (sym (announcement_numbers h p.behind [] p.id p.n p.first p.second))

pub front_part : (h : List ℕ) → length h < frame_need h → front h ≡ Short
front_part h f = elim (cases_lt (length h) (varint_len_needed h)) [
  | inl l ↦ front-none h (number_at-cut h l)
  | inr l ↦
      let r = drop (varint_len_needed h) h in
      let one = number_at-full h l in
      let cut : length r < varint_len_needed r = omega (arith, frame_need_is h, length-drop (varint_len_needed h) h) in
      front-cut h r one.0 one.1 (number_at-cut r cut)
]

-- ---- the two numbers

second_whole : (k : Option FrameKind) (n : ℕ) → announcement_of k n ≡ announces.Unfinished → ⊥
second_whole None n e = cc
second_whole (Some WebTransport) n e = elim (cases_Bool (n % 4 == 0)) [ inl t ↦ cc (rw t at e) | inr t ↦ cc (rw t at e) ]
second_whole (Some kind) n e = elim (cases_Bool (nat_lt 4096 n)) [ inl t ↦ cc (rw t at e) | inr t ↦ cc (rw t at e) ]

pub announcement_whole : (h : List ℕ) → frame_need h ≡ length h → announcement_at h ≡ announces.Unfinished → ⊥
announcement_whole h w e = let p = parts_of h w in second_whole (kind_of p.id) p.n (sym (announcement_numbers h p.behind [] p.id p.n p.first p.second) ∙ e)

-- a payload has one of these kinds, and at most 4096 bytes
pub record SecondIs (o : Option FrameKind) (k : FrameKind) (n m : ℕ) : Type 0 where
  pub size : n ≡ m
  pub kind : o ≡ Some k
  pub plain : k ≢ WebTransport
  pub bound : m ≤ 4096

small : (o : FrameKind) (k : FrameKind) (n m : ℕ) → o ≢ WebTransport → nat_lt 4096 n ≡ false → announces.Payload o n ≡ announces.Payload k m → SecondIs (Some o) k n m
small o k n m plain t e = let same : o ≡ k = cc in let size : n ≡ m = cc in record {
  size = size;
  kind = ap (λ (x : FrameKind). Some x) same;
  plain = λ w. plain (same ∙ w);
  bound = omega (arith, ltb-false 4096 n t);
}

second_payload : (o : Option FrameKind) (k : FrameKind) (n m : ℕ) → announcement_of o n ≡ announces.Payload k m → SecondIs o k n m
second_payload None k n m e = absurd (cc)
second_payload (Some WebTransport) k n m e = elim (cases_Bool (n % 4 == 0)) [ inl t ↦ absurd (cc (rw t at e)) | inr t ↦ absurd (cc (rw t at e)) ]
second_payload (Some kind) k n m e = elim (cases_Bool (nat_lt 4096 n)) [ inl t ↦ absurd (cc (rw t at e)) | inr t ↦ small kind k n m (λ w. cc) t (rw t at e) ]

pub announcement_payload : (h : List ℕ) (k : FrameKind) (m : ℕ) → frame_need h ≡ length h → announcement_at h ≡ announces.Payload k m → (m ≤ 4096) × IsKnown k × (k ≢ WebTransport)
announcement_payload h k m w e =
    let p = parts_of h w in
    let s = second_payload (kind_of p.id) k p.n m (sym (announcement_numbers h p.behind [] p.id p.n p.first p.second) ∙ e) in
    (s.bound, is_kind-known k p.id (is-kind_of k p.id s.kind), s.plain)

pub payload_head : (h : List ℕ) (k : FrameKind) (m : ℕ) → frame_need h ≡ length h → announcement_at h ≡ announces.Payload k m → IsPayloadHead k m h
payload_head h k m w e =
    let p = parts_of h w in
    let s = second_payload (kind_of p.id) k p.n m (sym (announcement_numbers h p.behind [] p.id p.n p.first p.second) ∙ e) in
    let (first, typed, parts) = number_at-encodes p.id h p.behind p.first in
    let (second, number, more) = number_at-encodes p.n p.behind [] p.second in
    record {
      id = p.id;
      is_kind = is-kind_of k p.id s.kind;
      plain = s.plain;
      encoded = record {
        first = first;
        second = second;
        parts = parts ∙ ap (λ (x : List ℕ). first ++ x) (more ∙ append-nil second);
        type_number = typed;
        number = subst (λ (k : ℕ). Encodes k second) s.size number;
      };
      bound = s.bound;
    }

second_skip : (o : Option FrameKind) (n m : ℕ) → announcement_of o n ≡ announces.Skip m → (o ≡ None) × (n ≡ m)
second_skip None n m e = (refl, cc)
second_skip (Some WebTransport) n m e = elim (cases_Bool (n % 4 == 0)) [ inl t ↦ absurd (cc (rw t at e)) | inr t ↦ absurd (cc (rw t at e)) ]
second_skip (Some kind) n m e = elim (cases_Bool (nat_lt 4096 n)) [ inl t ↦ absurd (cc (rw t at e)) | inr t ↦ absurd (cc (rw t at e)) ]

none_some : (k : FrameKind) (o : Option FrameKind) → o ≡ None → o ≡ Some k → ⊥
none_some k o e f = cc

pub announcement_skip : (h : List ℕ) (m : ℕ) → frame_need h ≡ length h → announcement_at h ≡ announces.Skip m → IsUnknownHead m h
announcement_skip h m w e =
    let p = parts_of h w in
    let s = second_skip (kind_of p.id) p.n m (sym (announcement_numbers h p.behind [] p.id p.n p.first p.second) ∙ e) in
    let (first, typed, parts) = number_at-encodes p.id h p.behind p.first in
    let (second, number, more) = number_at-encodes p.n p.behind [] p.second in
    record {
      id = p.id;
      no_kind = λ kind is. none_some kind (kind_of p.id) s.0 (kind_of-is kind p.id is);
      encoded = record {
        first = first;
        second = second;
        parts = parts ∙ ap (λ (x : List ℕ). first ++ x) (more ∙ append-nil second);
        type_number = typed;
        number = subst (λ (k : ℕ). Encodes k second) s.1 number;
      };
    }

-- the skipped bytes, followed by any bytes in the number left to skip
pub skipped_unknown : (old new : Held) (a b : Source) (s : Skips old new a b) (z : List ℕ) → length z ≡ new.skip_remaining → (old.skip_remaining ≡ 0 → IsUnknown ((s.head ++ s.payload) ++ z)) × (0 < old.skip_remaining → length ((s.head ++ s.payload) ++ z) ≡ old.skip_remaining)
skipped_unknown old new a b s z e = (
  λ d. let h = s.begun d in let size : length s.payload + new.skip_remaining ≡ length (s.payload ++ z) = omega (arith, length-append s.payload z) in
      (h.id, s.head, s.payload ++ z, h.no_kind, subst (λ (n : ℕ). EncodesPair h.id n s.head) size h.encoded, append_assoc s.head s.payload z),
  λ l. let w = s.going l in let whole = w.1 in omega (arith, length-append (s.head ++ s.payload) z, length-append s.head s.payload, ap length w.0),
)
