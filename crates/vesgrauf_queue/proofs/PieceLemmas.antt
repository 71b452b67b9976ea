-- What is shown and given of pieces.
use Rattle.std.proofs.Common.{◌≡◌, Bool, true, false, ℕ, zero, suc, ◌+◌, ◌-◌, ◌<◌, ◌≤◌, ◌==◌, if◌then◌else◌, List, [], ◌∷◌, ◌++◌, length, take, drop, refl, sym, ap, ◌∙◌, arith, length-take, length-append, append_assoc}
use Rattle.std.specs.Prelude.{min}
use Rattle.std.proofs.lemmas.List.{drop_all, drop_at, take-append-le, drop-append-le, drop-drop, take_min}
use Rattle.std.proofs.Math.Seq.{take-add}
use Rattle.std.specs.List.{concat}
use borrow.Author.Tests.{eqb-true}
use Rattle.vesgrauf_queue.specs.Pieces.{first, second, after_first, shown_first, shown_second, shown}
use Rattle.vesgrauf_queue.proofs.BlockLemmas.{after_first-whole}

pub length-first-concat : (xs : List (List ℕ)) → length (first xs) ≤ length (concat xs)
length-first-concat [] = omega arith
length-first-concat (x ∷ xs) = omega (arith, length-append x (concat xs))

pub take-concat : (xs : List (List ℕ)) (n : ℕ) → n ≤ length (first xs) → take n (concat xs) ≡ take n (first xs)
take-concat [] n within = refl
take-concat (x ∷ xs) n within = take-append-le n x (concat xs) within

pub concat-after_first : (xs : List (List ℕ)) (n : ℕ) → n ≤ length (first xs) → concat (after_first n xs) ≡ drop n (concat xs)
concat-after_first [] n within = sym (drop_all n [] (omega arith))
concat-after_first (x ∷ []) n within = sym (drop-append-le n x [] within)
concat-after_first (x ∷ y ∷ xs) n within = by (n == length x) refl
  where
    by : (b : Bool) → (n == length x) ≡ b → concat (if b then y ∷ xs else drop n x ∷ y ∷ xs) ≡ drop n (x ++ concat (y ∷ xs))
    by true e = sym (drop_at x (concat (y ∷ xs)) n (sym (eqb-true n (length x) e)))
    by false e = sym (drop-append-le n x (concat (y ∷ xs)) within)

-- more than the first piece is given only if the second is shown
pub second-within : (xs : List (List ℕ)) (n : ℕ) → length (first xs) < n → n ≤ length (shown xs)
    → n - length (first xs) ≤ length (first (after_first (length (first xs)) xs))
second-within [] n more within = absurd (omega (arith, within))
second-within (x ∷ []) n more within =
    absurd (omega (
      arith,
      more,
      within,
      length-append (take 16384 x) (take (16384 - length x) []),
      length-take 16384 x,
      length-take {A = ℕ} (16384 - length x) [],
    ))
second-within (x ∷ y ∷ xs) n more within =
    omega (
      arith,
      more,
      within,
      ap (λ (zs : List (List ℕ)). length (first zs)) (after_first-whole (length x) x y xs refl),
      length-append (take 16384 x) (take (16384 - length x) y),
      length-take 16384 x,
      length-take (16384 - length x) y,
    )

-- all of the first piece is given, and then bytes of the second
pub given-twice : (xs : List (List ℕ)) (n : ℕ) → length (first xs) < n → n ≤ length (shown xs)
    → concat (after_first (n - length (first xs)) (after_first (length (first xs)) xs)) ≡ drop n (concat xs)
given-twice xs n more within =
    let k = length (first xs) in
    concat-after_first (after_first k xs) (n - k) (second-within xs n more within)
    ∙ ap (drop (n - k)) (concat-after_first xs k (omega arith))
    ∙ drop-drop (n - k) k (concat xs)
    ∙ ap (λ m. drop m (concat xs)) (let e : k + (n - k) ≡ n = omega arith in e)

pub kept-twice : (kept : List ℕ) (xs : List (List ℕ)) (n : ℕ) → length (first xs) < n → n ≤ length (shown xs)
    → (kept ++ take (length (first xs)) (first xs)) ++ take (n - length (first xs)) (first (after_first (length (first xs)) xs))
    ≡ kept ++ take n (concat xs)
kept-twice kept xs n more within =
    let k = length (first xs) in
    append_assoc kept (take k (first xs)) (take (n - k) (first (after_first k xs)))
    ∙ ap (λ b. kept ++ (b ++ take (n - k) (first (after_first k xs)))) (sym (take-concat xs k (omega arith)))
    ∙ ap (λ b. kept ++ (take k (concat xs) ++ b))
    (sym (take-concat (after_first k xs) (n - k) (second-within xs n more within))
    ∙ ap (take (n - k)) (concat-after_first xs k (omega arith)))
    ∙ ap (λ b. kept ++ b) (sym (take-add k (n - k) (concat xs)))
    ∙ ap (λ m. kept ++ take m (concat xs)) (let e : k + (n - k) ≡ n = omega arith in e)

pub length-shown : (xs : List (List ℕ)) → length (shown xs) ≤ 16384
length-shown xs =
    omega (
      arith,
      length-append (shown_first xs) (shown_second xs),
      length-take 16384 (first xs),
      length-take (16384 - length (first xs)) (second xs),
    )

pub length-shown-concat : (xs : List (List ℕ)) → length (shown xs) ≤ length (concat xs)
length-shown-concat [] = omega arith
length-shown-concat (x ∷ []) =
    omega (
      arith,
      length-append (take 16384 x) (take (16384 - length x) []),
      length-take 16384 x,
      length-take {A = ℕ} (16384 - length x) [],
      length-append x [],
    )
length-shown-concat (x ∷ y ∷ xs) =
    omega (
      arith,
      length-append (take 16384 x) (take (16384 - length x) y),
      length-take 16384 x,
      length-take (16384 - length x) y,
      length-append x (y ++ concat xs),
      length-append y (concat xs),
    )

pub take-least : (n m : ℕ) (xs : List ℕ) → m ≡ min (length xs) n → take m xs ≡ take n xs
take-least n m xs e = ap (λ k. take k xs) (e ∙ omega arith) ∙ take_min n xs

-- what is shown is empty only if the piece is
pub shown-empty : (n : ℕ) (xs : List ℕ) → 0 < n → take n xs ≡ [] → xs ≡ []
shown-empty zero xs more e = absurd (omega arith)
shown-empty (suc n) [] more e = refl
shown-empty (suc n) (x ∷ xs) more e = cc

pub no-bytes : (xs : List ℕ) → length xs ≤ 0 → xs ≡ []
no-bytes [] none = refl
no-bytes (x ∷ xs) none = absurd (omega arith)

pub shown-within : (xs : List (List ℕ)) (bytes more : List ℕ) (n : ℕ) → bytes ≡ shown_first xs → more ≡ shown_second xs
    → n ≤ length bytes + length more → n ≤ length (shown xs)
shown-within xs bytes more n e f within =
    omega (arith, within, ap length e, ap length f, length-append (shown_first xs) (shown_second xs))
