-- The computed close payload agrees with the definition.
use Rattle.std.proofs.Common.{◌≡◌, ◌≢◌, ℕ, ◌+◌, ◌≤◌, ◌<◌, List, [], length, take, drop, true, false, ltb, Option, Some, None, IsUtf8, refl, sym, ap, ◌∙◌, arith, inl, inr, length-append, length-drop}
use Rattle.std.proofs.lemmas.Bool.{cases_Bool, le-ltb, ltb-false, false_from_ne_true, not_from_true, not_from_false, not-false, or_from, or_parts, or_right}
use Rattle.std.proofs.lemmas.List.{take-append-drop, length-take}
use Rattle.std.proofs.Math.Seq.{take-append_seam, drop-append_seam}
use Rattle.std.proofs.lemmas.Str.{IsUtf8-from_is_utf8, is_utf8-from_IsUtf8}
use Rattle.std.specs.Int.{w32, from_be_bytes}
use Rattle.std.specs.Str.{is_utf8}
use Rattle.wtp_wire.specs.CloseSession.{IsClose, is_no_close, close_in}

close_in-none : (payload : List ℕ) → is_no_close payload ≡ true → close_in payload ≡ None
unfolding close_in
close_in-none payload h = rw h refl

close_in-some : (payload : List ℕ) → is_no_close payload ≡ false → close_in payload ≡ Some (from_be_bytes w32 (take 4 payload), drop 4 payload)
unfolding close_in
close_in-some payload h = rw h refl

-- the text after the code is not UTF-8
pub close_in-bad_text : (payload text : List ℕ) → text ≡ drop 4 payload → (IsUtf8 text → ⊥) → close_in payload ≡ None
close_in-bad_text payload text is bad =
    let no : is_utf8 (drop 4 payload) ≡ false = false_from_ne_true (is_utf8 (drop 4 payload)) (λ t. bad (rw is (IsUtf8-from_is_utf8 (drop 4 payload) t))) in
    close_in-none payload (or_right (ltb (length payload) 4) _ (or_right (ltb 1028 (length payload)) _ (not_from_false (is_utf8 (drop 4 payload)) no)))

-- a code and a text that is not too long
pub close_in-text : (payload text : List ℕ) → text ≡ drop 4 payload → length text + 4 ≡ length payload → length text ≤ 1024 → IsUtf8 text → close_in payload ≡ Some (from_be_bytes w32 (take 4 payload), text)
close_in-text payload text is size short utf8 =
    let good : is_utf8 (drop 4 payload) ≡ true = is_utf8-from_IsUtf8 (drop 4 payload) (rw is at utf8) in
    let fine : is_no_close payload ≡ false = or_from (ltb (length payload) 4) _ (le-ltb (length payload) 4 (omega arith)) (or_from (ltb 1028 (length payload)) _ (le-ltb 1028 (length payload) (omega arith)) (not_from_true (is_utf8 (drop 4 payload)) good)) in
    close_in-some payload fine ∙ ap (λ (t : List ℕ). Some (from_be_bytes w32 (take 4 payload), t)) (sym is)

-- ---- both directions

pub close_in-is : (code : ℕ) (reason payload : List ℕ) (h : IsClose code reason payload) → close_in payload ≡ Some (code, reason)
close_in-is code reason payload h =
    let front : take 4 payload ≡ h.head = ap (λ (n : ℕ). take n payload) (sym h.size) ∙ ap (λ (x : List ℕ). take (length h.head) x) h.parts ∙ take-append_seam h.head reason in
    let behind : reason ≡ drop 4 payload = sym (ap (λ (n : ℕ). drop n payload) (sym h.size) ∙ ap (λ (x : List ℕ). drop (length h.head) x) h.parts ∙ drop-append_seam h.head reason) in
    close_in-text payload reason behind (omega (arith, ap length h.parts ∙ length-append h.head reason, h.size)) h.short h.text ∙ ap (λ (n : ℕ). Some (n, reason)) (ap (λ (x : List ℕ). from_be_bytes w32 x) front ∙ sym h.number)

some_is : (x y : ℕ × List ℕ) → Some x ≡ Some y → x ≡ y
some_is x y e = cc

none_some : (x : ℕ × List ℕ) (o : Option (ℕ × List ℕ)) → o ≡ None → o ≡ Some x → ⊥
none_some x o d e = cc

pub is-close_in : (code : ℕ) (reason payload : List ℕ) → close_in payload ≡ Some (code, reason) → IsClose code reason payload
is-close_in code reason payload e = elim (cases_Bool (is_no_close payload)) [
  | inl bad ↦ absurd (none_some (code, reason) (close_in payload) (close_in-none payload bad) e)
  | inr fine ↦
      let sizes = or_parts (ltb (length payload) 4) _ fine in
      let rest = or_parts (ltb 1028 (length payload)) _ sizes.1 in
      let enough : 4 ≤ length payload = ltb-false (length payload) 4 sizes.0 in
      let most : length payload ≤ 1028 = ltb-false 1028 (length payload) rest.0 in
      let same = some_is (from_be_bytes w32 (take 4 payload), drop 4 payload) (code, reason) (sym (close_in-some payload fine) ∙ e) in
      let number : from_be_bytes w32 (take 4 payload) ≡ code = ap (λ (x : ℕ × List ℕ). x.0) same in
      let text : drop 4 payload ≡ reason = ap (λ (x : ℕ × List ℕ). x.1) same in
      record {
        head = take 4 payload;
        parts = rw (← text) (sym (take-append-drop 4 payload));
        size = omega (arith, length-take 4 payload);
        number = sym number;
        short = omega (arith, ap length text, length-drop 4 payload);
        text = rw (← text) (IsUtf8-from_is_utf8 (drop 4 payload) (not-false (is_utf8 (drop 4 payload)) rest.1));
      }
]

-- a text of more than n bytes is not empty
pub some_text : (text : List ℕ) (n : ℕ) → n < length text → text ≢ []
some_text text n h e = omega (arith, ap length e)

-- the payload, read in parts: the head, the text after it, and a copy of the text
pub close_in-read : (all payload head text : List ℕ) (code : ℕ) (reason : List ℕ) → payload ≡ all → head ≡ take 4 payload → text ≡ drop 4 payload → length text + 4 ≡ length payload → length text ≤ 1024 → IsUtf8 text → code ≡ from_be_bytes w32 head → reason ≡ text → close_in all ≡ Some (code, reason)
close_in-read all payload head text code reason is front behind size short utf8 number copy =
    ap close_in (sym is) ∙ close_in-text payload text behind size short utf8 ∙ ap (λ (n : ℕ). Some (n, text)) (ap (λ (x : List ℕ). from_be_bytes w32 x) (sym front) ∙ sym number) ∙ ap (λ (x : List ℕ). Some (code, x)) (sym copy)
