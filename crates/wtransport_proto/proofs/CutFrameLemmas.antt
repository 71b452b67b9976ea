-- Unknown frames that the bytes cut, and how few bytes start with no case otherwise.
use Rattle.std.proofs.Common.{◌≡◌, ◌≢◌, ℕ, ◌+◌, ◌-◌, ◌<◌, ◌≤◌, ◌==◌, ◌%◌, Bool, true, false, List, length, drop, take, refl, sym, ◌∙◌, arith, Option, Some, None, inl, inr, length-drop, subst, append_assoc, append-nil, ap, ◌++◌, []}
use Rattle.std.proofs.lemmas.Bool.{cases_lt, le-ltb, lt-ltb}
use Rattle.wtp_core.specs.Varint.{Encodes, bytes_at, number_at}
use Rattle.wtp_core.specs.VarintLenNeeded.{varint_len_needed, varint_need_range}
use Rattle.wtp_core.proofs.EncodingLemmas.{number_at-encoding, number_at-encodes}
use Rattle.wtp_core.proofs.NeedLemmas.{number_at-full}
use Rattle.wtp_wire.specs.declared.frame.kind.FrameKind.{FrameKind}
use Rattle.wtp_wire.specs.declared.frame.kind.FrameKind.TheVariants.{WebTransport}
use Rattle.wtp_wire.specs.Content.{Content, PlainOf, WebTransportOf}
use Rattle.wtp_wire.specs.Front.{Framed, Unknown, BadId, TooBig, Short, front}
use Rattle.wtp_wire.specs.Held.{skip_front}
use Rattle.wtp_wire.specs.Kind.{kind_of}
use Rattle.wtp_wire.proofs.FrontLemmas.{front-head, head_at-numbers}
use Rattle.wtp_wire.proofs.KindLemmas.{kind_of-is, kind_of-none}
use Rattle.wtransport_proto.specs.Place.{BeginsUnknown}
use Rattle.wtransport_proto.specs.CutFrame.{due_in, due_first, due_second}

-- the type and the length of a frame
pub record HasNumbers (bytes : List ℕ) (id n : ℕ) (mid rest : List ℕ) : Type 0 where
  pub first : number_at bytes ≡ Some (id, mid)
  pub second : number_at mid ≡ Some (n, rest)

-- ---- an unknown frame

pub unknown_front : (bytes mid rest : List ℕ) (id n : ℕ) → HasNumbers bytes id n mid rest → kind_of id ≡ None → front bytes ≡ skip_front n rest
unknown_front bytes mid rest id n h none = front-head bytes rest _ (head_at-numbers bytes mid rest id n h.first h.second) ∙ rw none refl

-- an unknown frame begins, and n bytes of its payload are missing
pub record TooShort (bytes : List ℕ) (n : ℕ) : Type 0 where
  pub id : ℕ
  pub size : ℕ
  pub mid : List ℕ
  pub rest : List ℕ
  pub numbers : HasNumbers bytes id size mid rest
  pub no_kind : kind_of id ≡ None
  pub skip_remaining : length rest + n ≡ size

pub lacks_due : (bytes : List ℕ) → 0 < due_in bytes → TooShort bytes (due_in bytes)
unfolding due_in
lacks_due bytes l = first (number_at bytes) refl l
  where
    second : (id : ℕ) (mid : List ℕ) (k : Option FrameKind) (o : Option (ℕ × List ℕ)) → number_at bytes ≡ Some (id, mid) → kind_of id ≡ k → number_at mid ≡ o → 0 < due_second k o → TooShort bytes (due_second k o)
    second id mid k None e f g l = absurd (omega (arith, l))
    second id mid (Some kind) (Some size) e f g l = absurd (omega (arith, l))
    second id mid None (Some size) e f g l = record { id = id; size = size.0; mid = mid; rest = size.1; numbers = record { first = e; second = g }; no_kind = f; skip_remaining = omega (arith, l) }

    first : (o : Option (ℕ × List ℕ)) → number_at bytes ≡ o → 0 < due_first o → TooShort bytes (due_first o)
    first None e l = absurd (omega (arith, l))
    first (Some id) e l = second id.0 id.1 (kind_of id.0) (number_at id.1) e refl refl l

pub due_is : (bytes mid rest : List ℕ) (id n : ℕ) → HasNumbers bytes id n mid rest → kind_of id ≡ None → due_in bytes ≡ n - length rest
unfolding due_in
due_is bytes mid rest id n h none = rw (h.first, none, h.second) refl

-- ---- what is computed is what the grammar says

lacks_begins : (bytes : List ℕ) (n : ℕ) → TooShort bytes n → BeginsUnknown bytes n []
lacks_begins bytes n h =
    let (first, typed, one) = number_at-encodes h.id bytes h.mid h.numbers.first in
    let (second, number, two) = number_at-encodes h.size h.mid h.rest h.numbers.second in
    record {
      head = first ++ second;
      payload = h.rest;
      parts = one ∙ ap (λ (x : List ℕ). first ++ x) two ∙ sym (append_assoc first second h.rest) ∙ sym (append-nil ((first ++ second) ++ h.rest));
      is_head = record {
        id = h.id;
        no_kind = λ kind is. none_some kind (kind_of h.id) h.no_kind (kind_of-is kind h.id is);
        encoded = record { first = first; second = second; parts = refl; type_number = typed; number = subst (λ (k : ℕ). Encodes k second) (sym h.skip_remaining) number };
      };
    }
  where
    none_some : (kind : FrameKind) (o : Option FrameKind) → o ≡ None → o ≡ Some kind → ⊥
    none_some kind o e f = cc

pub due_begins : (bytes : List ℕ) → 0 < due_in bytes → BeginsUnknown bytes (due_in bytes) []
due_begins bytes l = lacks_begins bytes (due_in bytes) (lacks_due bytes l)

pub begins_due : (bytes : List ℕ) (n : ℕ) → BeginsUnknown bytes n [] → due_in bytes ≡ n
begins_due bytes n h =
    let e = h.is_head.encoded in
    let whole : bytes ≡ e.first ++ (e.second ++ h.payload) =
    h.parts ∙ append-nil (h.head ++ h.payload) ∙ ap (λ (x : List ℕ). x ++ h.payload) e.parts ∙ append_assoc e.first e.second h.payload in
    let numbers : HasNumbers bytes h.is_head.id (length h.payload + n) (e.second ++ h.payload) h.payload =
    record {
      first = rw whole (number_at-encoding h.is_head.id e.first (e.second ++ h.payload) e.type_number);
      second = number_at-encoding (length h.payload + n) e.second h.payload e.number;
    } in
    omega (arith, due_is bytes (e.second ++ h.payload) h.payload h.is_head.id (length h.payload + n) numbers (kind_of-none h.is_head.id h.is_head.no_kind))

-- ---- bytes that are too few are few

big_short : (rest : List ℕ) → TooBig rest ≡ Short → ⊥
big_short rest h = cc

framed_short : (f : Content) (rest : List ℕ) → Framed f rest ≡ Short → ⊥
framed_short f rest h = cc

unknown_short : (rest : List ℕ) → Unknown rest ≡ Short → ⊥
unknown_short rest h = cc

big_is : (kind : FrameKind) (bytes mid rest : List ℕ) (id n : ℕ) → HasNumbers bytes id n mid rest → kind_of id ≡ Some kind → kind ≢ WebTransport → 4096 < n → front bytes ≡ TooBig rest
big_is WebTransport bytes mid rest id n h k plain l = absurd (plain refl)
big_is kind bytes mid rest id n h k plain l = front-head bytes rest _ (head_at-numbers bytes mid rest id n h.first h.second) ∙ rw (k, lt-ltb 4096 n l) refl

framed_is : (kind : FrameKind) (bytes mid rest : List ℕ) (id n : ℕ) → HasNumbers bytes id n mid rest → kind_of id ≡ Some kind → kind ≢ WebTransport → n ≤ 4096 → n ≤ length rest → front bytes ≡ Framed (PlainOf kind (take n rest)) (drop n rest)
unfolding bytes_at
framed_is WebTransport bytes mid rest id n h k plain l m = absurd (plain refl)
framed_is kind bytes mid rest id n h k plain l m = front-head bytes rest _ (head_at-numbers bytes mid rest id n h.first h.second) ∙ rw (k, le-ltb 4096 n l) (rw (le-ltb (length rest) n m) refl)

unknown_is : (bytes mid rest : List ℕ) (id n : ℕ) → HasNumbers bytes id n mid rest → kind_of id ≡ None → n ≤ length rest → front bytes ≡ Unknown (drop n rest)
unfolding bytes_at
unknown_is bytes mid rest id n h none m = unknown_front bytes mid rest id n h none ∙ rw (le-ltb (length rest) n m) refl

session_is : (bytes mid rest : List ℕ) (id n : ℕ) → HasNumbers bytes id n mid rest → kind_of id ≡ Some WebTransport → front bytes ≡ Short → ⊥
session_is bytes mid rest id n h k s = by (n % 4 == 0) refl
  where
    by : (b : Bool) → (n % 4 == 0) ≡ b → ⊥
    by true e = framed_short (WebTransportOf n) rest (sym (front-head bytes rest _ (head_at-numbers bytes mid rest id n h.first h.second) ∙ rw (k, e) refl) ∙ s)
    by false e = bad_short (sym (front-head bytes rest _ (head_at-numbers bytes mid rest id n h.first h.second) ∙ rw (k, e) refl) ∙ s)
      where
        bad_short : BadId rest ≡ Short → ⊥
        bad_short z = cc

few_plain : (kind : FrameKind) (bytes mid rest : List ℕ) (id n : ℕ) → HasNumbers bytes id n mid rest → kind_of id ≡ Some kind → kind ≢ WebTransport → front bytes ≡ Short → length rest < 4096
few_plain kind bytes mid rest id n h k plain s = elim (cases_lt 4096 n) [
  | inl big ↦ absurd (big_short rest (sym (big_is kind bytes mid rest id n h k plain big) ∙ s))
  | inr small ↦ elim (cases_lt (length rest) n) [
    | inl less ↦ omega (arith, less, small)
    | inr all ↦ absurd (framed_short (PlainOf kind (take n rest)) (drop n rest) (sym (framed_is kind bytes mid rest id n h k plain small all) ∙ s))
  ]
]

few_second : (o : Option FrameKind) (bytes mid rest : List ℕ) (id n : ℕ) → HasNumbers bytes id n mid rest → kind_of id ≡ o → front bytes ≡ Short → due_in bytes ≡ 0 → length rest < 4096
few_second None bytes mid rest id n h k s d = absurd (unknown_short (drop n rest) (sym (unknown_is bytes mid rest id n h k (omega (arith, d, due_is bytes mid rest id n h k))) ∙ s))
few_second (Some WebTransport) bytes mid rest id n h k s d = absurd (session_is bytes mid rest id n h k s)
few_second (Some kind) bytes mid rest id n h k s d = few_plain kind bytes mid rest id n h k (λ e. cc) s

pub few_left : (bytes : List ℕ) → front bytes ≡ Short → due_in bytes ≡ 0 → length bytes ≤ 4111
few_left bytes s d = elim (cases_lt (length bytes) (varint_len_needed bytes)) [
  | inl cut ↦ omega (arith, cut, (varint_need_range bytes).1)
  | inr full ↦
      let mid = drop (varint_len_needed bytes) bytes in
      let (id, e) = number_at-full bytes full in
      elim (cases_lt (length mid) (varint_len_needed mid)) [
        | inl cut ↦ omega (arith, cut, (varint_need_range mid).1, (varint_need_range bytes).1, length-drop (varint_len_needed bytes) bytes)
        | inr there ↦
            let (n, f) = number_at-full mid there in
            let less = few_second (kind_of id) bytes mid (drop (varint_len_needed mid) mid) id n (record { first = e; second = f }) refl s d in
            omega (arith, less, (varint_need_range mid).1, (varint_need_range bytes).1, length-drop (varint_len_needed mid) mid, length-drop (varint_len_needed bytes) bytes)
      ]
]
