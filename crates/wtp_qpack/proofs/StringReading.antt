-- The texts of strings.
use Rattle.std.proofs.Common.{◌≡◌, ℕ, ◌+◌, ◌<◌, ◌≤◌, ◌==◌, nat_lt, nat_le, ◌^◌, ◌/◌, ◌%◌, ◌*◌, ◌-◌, suc, Bool, true, false, cond, inl, inr, List, [], ◌∷◌, ◌++◌, length, take, drop, get_or, length-drop, refl, sym, ◌∙◌, ap, arith, pow_mono, Result, Ok, Err, IsUtf8}
use Rattle.std.proofs.lemmas.Str.{IsUtf8-from_is_utf8, IsUtf8-from_ascii, is_utf8-from_IsUtf8}
use Rattle.std.specs.Str.{is_utf8, IsAscii}
use Rattle.wtp_qpack.specs.declared.qpack.DecodingError.{DecodingError}
use Rattle.wtp_qpack.specs.declared.qpack.DecodingError.TheVariants.{UnexpectedFin, IntegerOverflow, InvalidString, Memory}
use Rattle.wtp_huffman.specs.Huffman.{IsHuffman}
use Rattle.wtp_qpack.specs.Qpack.{Gives, GivesUnlessMemory, ◌>>=◌}
use Rattle.wtp_qpack.specs.Integer.{groups_at, integer_at}
use Rattle.wtp_qpack.specs.declared.qpack.string_literal.Texts.{Texts}
use Rattle.wtp_qpack.specs.declared.qpack.string_literal.Texts.TheVariants.{Octets, Utf8}
use Rattle.wtp_qpack.specs.StringLiteral.{utf8_text, checked, text_of, flag_above, string_by, string_in}
use Rattle.std.proofs.Transfers.{drop-appended}
use Rattle.wtp_huffman.proofs.Chosen.{chosen}
use Rattle.wtp_qpack.proofs.StringBits.{huffman_only}
use Rattle.wtp_qpack.proofs.Chosen.{bind_ok, same_rest}

not_test : (bs : List ℕ) → (IsUtf8 bs → ⊥) → is_utf8 bs ≡ false
not_test bs bad = by_cases (is_utf8 bs) refl
  where
    by_cases : (b : Bool) → is_utf8 bs ≡ b → is_utf8 bs ≡ false
    by_cases true e = absurd (bad (IsUtf8-from_is_utf8 bs e))
    by_cases false e = e

pub text_good : (bs t : List ℕ) → t ≡ bs → IsUtf8 bs → utf8_text bs ≡ Ok t
unfolding utf8_text
text_good bs t e good = rw (is_utf8-from_IsUtf8 bs good) (ap Ok (sym e))

pub text_bad : (bs : List ℕ) → (IsUtf8 bs → ⊥) → utf8_text bs ≡ Err InvalidString
unfolding utf8_text
text_bad bs bad = rw (not_test bs bad) refl

pub ascii_good : (texts : Texts) (t : List ℕ) → IsAscii t → checked texts t ≡ Ok t
ascii_good Octets t all = refl
ascii_good Utf8 t all = text_good t t refl (IsUtf8-from_ascii t all)

-- ---- a decoded text, which was appended

pub ascii_decoded : (texts : Texts) (body old new text : List ℕ) → IsHuffman text body → new ≡ old ++ text → IsAscii text → text_of texts true body ≡ Ok (drop (length old) new)
ascii_decoded texts body old new text is e all = rw (huffman_only text body is) (ascii_good texts text all ∙ ap Ok (sym (drop-appended _ _ _ e)))

pub checked_decoded : {A : Type 0} (texts : Texts) (body old new text part : List ℕ) (r : Result A DecodingError) → IsHuffman text body → new ≡ old ++ text → part ≡ drop (length old) new
    → Gives (λ _. part) r (checked texts part) → GivesUnlessMemory (λ _. drop (length old) new) r (text_of texts true body)
checked_decoded {A} texts body old new text part r is e same read = rw (huffman_only text body is, ← drop-appended old new text e, ← same) (by_result r read)
  where
    by_result : (r : Result A DecodingError) → Gives (λ _. part) r (checked texts part) → GivesUnlessMemory (λ _. part) r (checked texts part)
    by_result (Ok x) given = given
    by_result (Err f) given = λ other. given

-- ---- the flag above a prefix

pub flag_of : (n first : ℕ) (bytes : List ℕ) → n ≤ 7 → first ≡ get_or bytes 0 0 → (first / ((1 * 2 ^ n) % 18446744073709551616) % 2 == 1) ≡ flag_above n bytes
unfolding flag_above
flag_of n first bytes few e =
    let small : 2 ^ n ≤ 2 ^ 7 = pow_mono {i = n} {j = 7} few in
    let same : (1 * 2 ^ n) % 18446744073709551616 ≡ 2 ^ n = omega arith in
    ap (λ power. first / power % 2 == 1) same ∙ ap (λ byte. byte / 2 ^ n % 2 == 1) e

-- ---- what is read is shorter

groups_shorter : (bytes : List ℕ) (sum k v : ℕ) (rest : List ℕ) → groups_at sum k bytes ≡ Ok (v, rest) → length rest < length bytes
unfolding groups_at
groups_shorter [] sum k v rest e = cc
groups_shorter (g ∷ gs) sum k v rest e =
    let more : ℕ = sum + g % 128 * 2 ^ (7 * k) in
    elim (chosen (nat_le (2 ^ 64) more) (Err IntegerOverflow) (cond (nat_lt g 128) (Ok (more, gs)) (groups_at more (suc k) gs)) (Ok (v, rest)) e) [
      | inl over ↦ cc over.1
      | inr fine ↦ elim (chosen (nat_lt g 128) (Ok (more, gs)) (groups_at more (suc k) gs) (Ok (v, rest)) fine.1) [
        | inl last ↦ omega (arith, ap length (same_rest more v gs rest last.1))
        | inr on ↦ omega (arith, groups_shorter gs more (suc k) v rest on.1)
      ]
    ]

pub int_shorter : (n : ℕ) (bytes : List ℕ) (v : ℕ) (rest : List ℕ) → integer_at n bytes ≡ Ok (v, rest) → length rest < length bytes
unfolding integer_at
int_shorter n [] v rest e = cc
int_shorter n (b ∷ bs) v rest e =
    elim (chosen (b % 2 ^ n == 2 ^ n - 1) (groups_at (2 ^ n - 1) 0 bs) (Ok (b % 2 ^ n, bs)) (Ok (v, rest)) e) [
      | inl long ↦ omega (arith, groups_shorter bs (2 ^ n - 1) 0 v rest long.1)
      | inr short ↦ omega (arith, ap length (same_rest (b % 2 ^ n) v bs rest short.1))
    ]

-- however the bytes of the string are read
string_by_shorter : {X : Type 0} (contents : Bool → List ℕ → Result X DecodingError) (n : ℕ) (bytes : List ℕ) (t : X) (rest : List ℕ) → string_by contents n bytes ≡ Ok (t, rest) → length rest < length bytes
string_by_shorter contents n bytes t rest e =
    let size = bind_ok (integer_at n bytes) (λ (m : ℕ × List ℕ). cond (nat_lt (length m.1) m.0) (Err UnexpectedFin) (contents (flag_above n bytes) (take m.0 m.1) >>= λ t. Ok (t, drop m.0 m.1))) (t, rest) e in
    let m : ℕ × List ℕ = size.0 in
    let less : length m.1 < length bytes = int_shorter n bytes m.0 m.1 size.1 in
    elim (chosen (nat_lt (length m.1) m.0) (Err UnexpectedFin) (contents (flag_above n bytes) (take m.0 m.1) >>= λ t. Ok (t, drop m.0 m.1)) (Ok (t, rest)) size.2) [
      | inl few ↦ cc few.1
      | inr enough ↦
          let text = bind_ok (contents (flag_above n bytes) (take m.0 m.1)) (λ t. Ok (t, drop m.0 m.1)) (t, rest) enough.1 in
          let behind : drop m.0 m.1 ≡ rest = same_rest text.0 t (drop m.0 m.1) rest text.2 in
          omega (arith, ap length behind, length-drop m.0 m.1)
    ]

pub string_shorter : (texts : Texts) (n : ℕ) (bytes t rest : List ℕ) → string_in texts n bytes ≡ Ok (t, rest) → length rest < length bytes
unfolding string_in
string_shorter texts n bytes t rest e = string_by_shorter (text_of texts) n bytes t rest e

-- ---- an integer's fault is not a failed allocation

groups_not_memory : (bytes : List ℕ) (sum k : ℕ) → groups_at sum k bytes ≡ Err Memory → ⊥
unfolding groups_at
groups_not_memory [] sum k e = cc e
groups_not_memory (g ∷ gs) sum k e =
    let more : ℕ = sum + g % 128 * 2 ^ (7 * k) in
    elim (chosen (nat_le (2 ^ 64) more) (Err IntegerOverflow) (cond (nat_lt g 128) (Ok (more, gs)) (groups_at more (suc k) gs)) (Err Memory) e) [
      | inl over ↦ cc over.1
      | inr fine ↦ elim (chosen (nat_lt g 128) (Ok (more, gs)) (groups_at more (suc k) gs) (Err Memory) fine.1) [
        | inl last ↦ cc last.1
        | inr on ↦ groups_not_memory gs more (suc k) on.1
      ]
    ]

pub int_not_memory : (n : ℕ) (bytes : List ℕ) → integer_at n bytes ≡ Err Memory → ⊥
unfolding integer_at
int_not_memory n [] e = cc e
int_not_memory n (b ∷ bs) e =
    elim (chosen (b % 2 ^ n == 2 ^ n - 1) (groups_at (2 ^ n - 1) 0 bs) (Ok (b % 2 ^ n, bs)) (Err Memory) e) [
      | inl long ↦ groups_not_memory bs (2 ^ n - 1) 0 long.1
      | inr short ↦ cc short.1
    ]
