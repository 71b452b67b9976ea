-- Different bytes have different displayed forms.
use Rattle.std.proofs.Common.{arith, suc, inl, inr, ◌≡◌, ℕ, ◌+◌, ◌<◌, ◌/◌, ◌%◌, ◌^◌, cond, Bool, true, false, nat_eq, nat_lt, List, [], ◌∷◌, ◌++◌, get_or, drop, All, refl, sym, ap, ap₂, ◌∙◌, subst}
use Rattle.std.specs.List.{flat_map}
use Rattle.std.proofs.lemmas.Bool.{or_parts, ltb-true}
use Rattle.wt_inspection_views.specs.Escaped.{IsShown, HasNoBackslash, escaped_byte, is_plain_byte, digit_of}

free_parts : (b : ℕ) (p : Bool) (y : List ℕ) → (HasNoBackslash (flat_map escaped_byte y) → flat_map escaped_byte y ≡ y) → HasNoBackslash (cond p (b ∷ []) (92 ∷ 120 ∷ digit_of (b / 16) ∷ digit_of (b % 16) ∷ []) ++ flat_map escaped_byte y) → cond p (b ∷ []) (92 ∷ 120 ∷ digit_of (b / 16) ∷ digit_of (b % 16) ∷ []) ++ flat_map escaped_byte y ≡ b ∷ y
free_parts b true y more free = ap (λ (l : List ℕ). b ∷ l) (more (or_parts (nat_eq b 92) _ free).1)
free_parts b false y more free = grind arith

as_they_are : (y : List ℕ) → HasNoBackslash (flat_map escaped_byte y) → flat_map escaped_byte y ≡ y
as_they_are [] free = refl
as_they_are (b ∷ y) free = free_parts b (is_plain_byte b) y (as_they_are y) free

digits_told_apart : (m n : ℕ) (p q : Bool) → nat_lt m 10 ≡ p → nat_lt n 10 ≡ q → m < 16 → n < 16 → cond p (48 + m) (87 + m) ≡ cond q (48 + n) (87 + n) → m ≡ n
digits_told_apart m n true true a b l h e = omega (arith, e)
digits_told_apart m n true false a b l h e = let low = ltb-true m 10 a in omega (arith, e, low)
digits_told_apart m n false true a b l h e = let low = ltb-true n 10 b in omega (arith, e, low)
digits_told_apart m n false false a b l h e = omega (arith, e)

digit_told_apart : (m n : ℕ) → m < 16 → n < 16 → digit_of m ≡ digit_of n → m ≡ n
digit_told_apart m n l h e = digits_told_apart m n (nat_lt m 10) (nat_lt n 10) refl refl l h e

byte_told_apart : (b c : ℕ) → b < 256 → c < 256 → digit_of (b / 16) ≡ digit_of (c / 16) → digit_of (b % 16) ≡ digit_of (c % 16) → b ≡ c
byte_told_apart b c l h high low =
    let e = digit_told_apart (b / 16) (c / 16) (omega arith) (omega arith) high in
    let f = digit_told_apart (b % 16) (c % 16) (omega arith) (omega arith) low in
    omega (arith, e, f)

head_same : (b c : ℕ) (m n : List ℕ) → b ∷ m ≡ c ∷ n → b ≡ c
head_same b c m n e = ap (λ (l : List ℕ). get_or l 0 0) e

tail_same : (b c : ℕ) (m n : List ℕ) → b ∷ m ≡ c ∷ n → m ≡ n
tail_same b c m n e = ap (λ (l : List ℕ). drop 1 l) e

-- the plain or escaped form of a byte, followed by more bytes
abbrev shown_before : ℕ → Bool → List ℕ → List ℕ
shown_before b p more = cond p (b ∷ []) (92 ∷ 120 ∷ digit_of (b / 16) ∷ digit_of (b % 16) ∷ []) ++ more

not_nothing : (b : ℕ) (p : Bool) (more : List ℕ) → [] ≡ shown_before b p more → ⊥
not_nothing b true more e = grind arith
not_nothing b false more e = grind arith

no_plain_backslash : (b : ℕ) → is_plain_byte b ≡ true → b ≡ 92 → ⊥
no_plain_backslash b p e = grind arith

first_told_apart : (b c : ℕ) (p q : Bool) (m n : List ℕ) → is_plain_byte b ≡ p → is_plain_byte c ≡ q → b < 256 → c < 256 → shown_before b p m ≡ shown_before c q n → (b ≡ c) × (m ≡ n)
first_told_apart b c true true m n f g l h e = (head_same b c m n e, tail_same b c m n e)
first_told_apart b c true false m n f g l h e = absurd (no_plain_backslash b f (head_same b 92 m _ e))
first_told_apart b c false true m n f g l h e = absurd (no_plain_backslash c g (sym (head_same 92 c _ n e)))
first_told_apart b c false false m n f g l h e =
    let one = tail_same 92 92 _ _ e in
    let two = tail_same 120 120 _ _ one in
    let three = tail_same _ _ _ _ two in
    (byte_told_apart b c l h (head_same _ _ _ _ two) (head_same _ _ _ _ three), tail_same _ _ _ _ three)

pub escaped_told_apart : (x y : List ℕ) → All (λ b. b < 2 ^ 8) x → All (λ b. b < 2 ^ 8) y → flat_map escaped_byte x ≡ flat_map escaped_byte y → x ≡ y
escaped_told_apart [] [] a b e = refl
escaped_told_apart [] (c ∷ y) a b e = absurd (not_nothing c (is_plain_byte c) (flat_map escaped_byte y) e)
escaped_told_apart (b ∷ x) [] a d e = absurd (not_nothing b (is_plain_byte b) (flat_map escaped_byte x) (sym e))
escaped_told_apart (b ∷ x) (c ∷ y) a d e =
    let both = first_told_apart b c (is_plain_byte b) (is_plain_byte c) (flat_map escaped_byte x) (flat_map escaped_byte y) refl refl (a 0 0 (omega arith)) (d 0 0 (omega arith)) e in
    ap₂ (λ (h : ℕ) (l : List ℕ). h ∷ l) both.0 (escaped_told_apart x y (λ k e l. a (suc k) e (omega (arith, l))) (λ k e l. d (suc k) e (omega (arith, l))) both.1)

pub shown_told_apart : (x y shown : List ℕ) → All (λ b. b < 2 ^ 8) x → All (λ b. b < 2 ^ 8) y → IsShown x shown → IsShown y shown → x ≡ y
shown_told_apart x y shown a b (inl s) (inl t) = sym s.0 ∙ t.0
shown_told_apart x y shown a b (inl s) (inr t) =
    let free = subst HasNoBackslash (sym s.0 ∙ t.0) s.1.2 in
    sym s.0 ∙ (t.0 ∙ as_they_are y free)
shown_told_apart x y shown a b (inr s) (inl t) =
    let free = subst HasNoBackslash (sym t.0 ∙ s.0) t.1.2 in
    sym (as_they_are x free) ∙ (sym s.0 ∙ t.0)
shown_told_apart x y shown a b (inr s) (inr t) = escaped_told_apart x y a b (sym s.0 ∙ t.0)
