-- The result of reading a string, and the relation.
use Rattle.std.proofs.Common.{◌≡◌, ℕ, ◌+◌, ◌*◌, ◌<◌, ◌≤◌, ◌==◌, inl, inr, Bool, true, false, nat_lt, List, [], ◌∷◌, ◌++◌, length, take, drop, refl, sym, ◌∙◌, ap, subst, arith, append_assoc, append-nil, length-take-le, Option, Some, None, Ok, Err, Result, IsUtf8, cond}
use Rattle.std.specs.Bool.{MatchBool}
use Rattle.std.specs.Str.{is_utf8}
use Rattle.std.proofs.lemmas.Bool.{cases_lt, lt-ltb, le-ltb, ltb-false}
use Rattle.std.proofs.lemmas.Str.{is_utf8-from_IsUtf8, IsUtf8-from_is_utf8}
use Rattle.std.proofs.lemmas.List.{length-append, take-append-drop}
use Rattle.std.proofs.Math.Seq.{drop-append_seam, take-append_seam}
use Rattle.wtp_qpack.specs.declared.qpack.DecodingError.{DecodingError}
use Rattle.wtp_qpack.specs.declared.qpack.DecodingError.TheVariants.{UnexpectedFin, InvalidString}
use Rattle.wtp_qpack.specs.declared.qpack.string_literal.Texts.{Texts}
use Rattle.wtp_qpack.specs.declared.qpack.string_literal.Texts.TheVariants.{Utf8}
use Rattle.wtp_huffman.specs.Huffman.{IsHuffman}
use Rattle.wtp_qpack.specs.Field.{IsText}
use Rattle.wtp_qpack.specs.Qpack.{◌>>=◌}
use Rattle.wtp_qpack.specs.Integer.{IsInt, integer_at, shortest_int}
use Rattle.wtp_qpack.specs.StringLiteral.{flag_above, IsString, or_invalid, huffman_text, utf8_text, checked, text_of, string_in, string_at, huffman_bytes, encoded_string}
use Rattle.wtp_huffman.proofs.Chosen.{chosen}
use Rattle.wtp_qpack.proofs.Chosen.{bind_ok, bind_err, same_value, same_rest}
use Rattle.wtp_qpack.proofs.IntegerLaws.{int_read, int_found, short_int}
use Rattle.wtp_qpack.proofs.StringBits.{huffman_found, huffman_only}
use Rattle.wtp_qpack.proofs.StringWriting.{text_bytes, huffman_is}
use Rattle.wtp_qpack.proofs.RoundTrip.{flag_of}

-- ---- the text of the bytes

content_is : (b : Bool) (t body : List ℕ) → MatchBool b (IsHuffman t body) (t ≡ body) → IsUtf8 t → text_of Utf8 b body ≡ Ok t
unfolding utf8_text
content_is true t body h good = rw (huffman_only t body h, is_utf8-from_IsUtf8 t good) refl
content_is false t body h good = rw (← h, is_utf8-from_IsUtf8 t good) refl

utf8_found : (bytes t : List ℕ) → utf8_text bytes ≡ Ok t → (bytes ≡ t) × IsUtf8 t
unfolding utf8_text
utf8_found bytes t e = elim (chosen (is_utf8 bytes) (Ok bytes) (Err InvalidString) (Ok t) e) [
  | inl good ↦
      let same : bytes ≡ t = cc good.1 in
      (same, subst (λ z. IsUtf8 z) same (IsUtf8-from_is_utf8 bytes good.0))
  | inr bad ↦ cc bad.1
]

pub some_text : (o : Option (List ℕ)) (t : List ℕ) → or_invalid o ≡ Ok t → o ≡ Some t
some_text None t e = cc e
some_text (Some u) t e = cc e

content_found : (b : Bool) (t body : List ℕ) → text_of Utf8 b body ≡ Ok t → MatchBool b (IsHuffman t body) (t ≡ body) × IsUtf8 t
content_found true t body e =
    let decoded = bind_ok (or_invalid (huffman_text body)) (checked Utf8) t e in
    let good = utf8_found decoded.0 t decoded.2 in
    (huffman_found t body (some_text (huffman_text body) t (decoded.1 ∙ ap Ok good.0)), good.1)
content_found false t body e =
    let good = utf8_found body t e in
    (sym good.0, good.1)

utf8_fault : (bytes : List ℕ) (e : DecodingError) → utf8_text bytes ≡ Err e → e ≡ InvalidString
unfolding utf8_text
utf8_fault bytes f e = elim (chosen (is_utf8 bytes) (Ok bytes) (Err InvalidString) (Err f) e) [
  | inl good ↦ cc good.1
  | inr bad ↦ cc bad.1
]

none_text : (o : Option (List ℕ)) (e : DecodingError) → or_invalid o ≡ Err e → e ≡ InvalidString
none_text None e h = cc h
none_text (Some u) e h = cc h

content_fault : (b : Bool) (body : List ℕ) (e : DecodingError) → text_of Utf8 b body ≡ Err e → e ≡ InvalidString
content_fault true body f e = elim (bind_err (or_invalid (huffman_text body)) (checked Utf8) f e) [
  | inl bad ↦ none_text (huffman_text body) f bad
  | inr decoded ↦ utf8_fault decoded.0 f decoded.2
]
content_fault false body f e = utf8_fault body f e

-- ---- strings

flag_front : (n v : ℕ) (size more : List ℕ) → IsInt n v size → flag_above n (size ++ more) ≡ flag_above n size
unfolding flag_above
flag_front n v [] more h = absurd h
flag_front n v (b ∷ bs) more h = refl

-- a complete string is read by its content
whole_read : (n : ℕ) (size body rest : List ℕ) → IsInt n (length body) size
    → string_at n ((size ++ body) ++ rest) ≡ (text_of Utf8 (flag_above n size) body >>= λ text. Ok (text, rest))
unfolding string_in
whole_read n size body rest is =
    let grouped : (size ++ body) ++ rest ≡ size ++ (body ++ rest) = append_assoc size body rest in
    let read : integer_at n (size ++ (body ++ rest)) ≡ Ok (length body, body ++ rest) = int_read n (length body) size (body ++ rest) is in
    let enough : nat_lt (length (body ++ rest)) (length body) ≡ false = le-ltb (length (body ++ rest)) (length body) (omega (arith, length-append body rest)) in
    rw (grouped, read, enough, flag_front n (length body) size (body ++ rest) is, take-append_seam body rest, drop-append_seam body rest) refl

pub string_read : (n : ℕ) (t s rest : List ℕ) → IsString n t s → string_at n (s ++ rest) ≡ Ok (t, rest)
string_read n t s rest h =
    ap (λ z. string_at n (z ++ rest)) h.parts ∙ whole_read n h.size h.body rest h.is_size ∙ rw (content_is (flag_above n h.size) t h.body h.is_text h.utf8) refl

-- what was read of the length and the text
pub record Parts (texts : Texts) (n : ℕ) (bytes t rest : List ℕ) : Type 0 where
  pub count : ℕ
  pub behind : List ℕ
  pub size : integer_at n bytes ≡ Ok (count, behind)
  pub enough : count ≤ length behind
  pub text : text_of texts (flag_above n bytes) (take count behind) ≡ Ok t
  pub left : drop count behind ≡ rest

pub parts_of : (texts : Texts) (n : ℕ) (bytes t rest : List ℕ) → string_in texts n bytes ≡ Ok (t, rest) → Parts texts n bytes t rest
unfolding string_in
parts_of texts n bytes t rest e =
    let size = bind_ok (integer_at n bytes) (λ (m : ℕ × List ℕ). cond (nat_lt (length m.1) m.0) (Err UnexpectedFin) (text_of texts (flag_above n bytes) (take m.0 m.1) >>= λ t. Ok (t, drop m.0 m.1))) (t, rest) e in
    let m : ℕ × List ℕ = size.0 in
    elim (chosen (nat_lt (length m.1) m.0) (Err UnexpectedFin) (text_of texts (flag_above n bytes) (take m.0 m.1) >>= λ t. Ok (t, drop m.0 m.1)) (Ok (t, rest)) size.2) [
      | inl few ↦ cc few.1
      | inr enough ↦
          let text = bind_ok (text_of texts (flag_above n bytes) (take m.0 m.1)) (λ t. Ok (t, drop m.0 m.1)) (t, rest) enough.1 in
          record {
            count = m.0;
            behind = m.1;
            size = size.1;
            enough = ltb-false (length m.1) m.0 enough.0;
            text = text.1 ∙ ap Ok (same_value text.0 t (drop m.0 m.1) rest text.2);
            left = same_rest text.0 t (drop m.0 m.1) rest text.2;
          }
    ]

pub string_found : (n : ℕ) (t bytes rest : List ℕ) → n ≤ 8 → string_at n bytes ≡ Ok (t, rest) → (s : List ℕ) × IsString n t s × (bytes ≡ s ++ rest)
string_found n t bytes rest few e =
    let p = parts_of Utf8 n bytes t rest e in
    let size = int_found n p.count bytes p.behind few p.size in
    let body : List ℕ = take p.count p.behind in
    let long : length body ≡ p.count = length-take-le p.count p.behind p.enough in
    let flag : flag_above n bytes ≡ flag_above n size.0 = ap (flag_above n) size.2 ∙ flag_front n p.count size.0 p.behind size.1 in
    let text = content_found (flag_above n size.0) t body (ap (λ b. text_of Utf8 b body) (sym flag) ∙ p.text) in (
      size.0 ++ body,
      record {
        size = size.0;
        body = body;
        parts = refl;
        is_size = subst (λ k. IsInt n k size.0) (sym long) size.1;
        is_text = text.0;
        utf8 = text.1;
      },
      size.2 ∙ ap (λ z. size.0 ++ z) (sym (take-append-drop p.count p.behind) ∙ ap (λ z. body ++ z) p.left) ∙ sym (append_assoc size.0 body rest),
    )

-- ---- faults

pub string_size_fault : (n : ℕ) (bytes : List ℕ) (e : DecodingError) → integer_at n bytes ≡ Err e → string_at n bytes ≡ Err e
unfolding string_in
string_size_fault n bytes e fault = rw fault refl

pub string_short : (n count : ℕ) (size behind : List ℕ) → IsInt n count size → length behind < count → string_at n (size ++ behind) ≡ Err UnexpectedFin
unfolding string_in
string_short n count size behind is short = rw (int_read n count size behind is, lt-ltb (length behind) count short) refl

pub string_invalid : (n : ℕ) (size body rest : List ℕ) → IsInt n (length body) size → ((t : List ℕ) → IsString n t (size ++ body) → ⊥) → string_at n ((size ++ body) ++ rest) ≡ Err InvalidString
string_invalid n size body rest is none = whole_read n size body rest is ∙ by_content (text_of Utf8 (flag_above n size) body) refl
  where
    behind : List ℕ → Result (List ℕ × List ℕ) DecodingError
    behind text = Ok (text, rest)

    by_content : (r : Result (List ℕ) DecodingError) → text_of Utf8 (flag_above n size) body ≡ r → (r >>= λ text. behind text) ≡ Err InvalidString
    by_content (Ok t) e =
        let text = content_found (flag_above n size) t body e in
        absurd (none t (record { size = size; body = body; parts = refl; is_size = is; is_text = text.0; utf8 = text.1 }))
    by_content (Err f) e = ap Err (content_fault (flag_above n size) body f e)

-- ---- what is written

flag_is : (n f h v : ℕ) → h < 2 → flag_above n (shortest_int n (f * 2 + h) v) ≡ (h == 1)
flag_is n f h v small = ap (flag_above n) (sym (append-nil (shortest_int n (f * 2 + h) v))) ∙ flag_of n f h v [] small

pub string_written : (n flags : ℕ) (t : List ℕ) → IsText t → IsString n t (encoded_string n flags t)
unfolding encoded_string
string_written n flags t text = elim (cases_lt (length (huffman_bytes t)) (length t)) [
  | inl less ↦
      let size : List ℕ = shortest_int n (flags * 2 + 1) (length (huffman_bytes t)) in
      rw (lt-ltb (length (huffman_bytes t)) (length t) less) (record {
        size = size;
        body = huffman_bytes t;
        parts = refl;
        is_size = short_int n (flags * 2 + 1) (length (huffman_bytes t)) (omega (arith, text.few));
        is_text = rw (flag_is n flags 1 (length (huffman_bytes t)) (omega arith)) (huffman_is t (text_bytes t text.utf8));
        utf8 = text.utf8;
      })
  | inr more ↦
      let zeros : flags * 2 ≡ flags * 2 + 0 = omega arith in
      rw (le-ltb (length (huffman_bytes t)) (length t) more) (record {
        size = shortest_int n (flags * 2) (length t);
        body = t;
        parts = refl;
        is_size = short_int n (flags * 2) (length t) text.few;
        is_text = rw (zeros, flag_is n flags 0 (length t) (omega arith)) refl;
        utf8 = text.utf8;
      })
]
