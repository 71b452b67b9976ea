-- Numbers that are written one after the other over the start of a buffer.
use Rattle.std.proofs.Common.{◌≡◌, ℕ, ◌+◌, List, ◌++◌, length, take, refl, sym, ◌∙◌, append_assoc, length-append, arith}
use Rattle.std.proofs.Math.Seq.{take-append-add, take-append_seam}

pub two_encoded : (a b xs ys tail one two : List ℕ) (m n : ℕ) → one ≡ a ++ xs → m ≡ length a → two ≡ b ++ ys → n ≡ length b → take (m + n) (take m one ++ (two ++ tail)) ≡ a ++ b
two_encoded a b xs ys tail one two m n e i f j =
    rw (e, i, f, j, take-append_seam a xs, append_assoc b ys tail, take-append-add a (b ++ (ys ++ tail)) (length b), take-append_seam b (ys ++ tail)) refl

two_parts : (a b xs ys tail one two : List ℕ) (m : ℕ) → one ≡ a ++ xs → m ≡ length a → two ≡ b ++ ys → take m one ++ (two ++ tail) ≡ (a ++ b) ++ (ys ++ tail)
two_parts a b xs ys tail one two m e i f =
    rw (e, i, f, take-append_seam a xs, append_assoc b ys tail) (sym (append_assoc a b (ys ++ tail)))

pub three_encoded : (a b x xs ys zs tail end one two three : List ℕ) (m n p : ℕ) → one ≡ a ++ xs → m ≡ length a → two ≡ b ++ ys → n ≡ length b → three ≡ x ++ zs → p ≡ length x → take ((m + n) + p) (take (m + n) (take m one ++ (two ++ tail)) ++ (three ++ end)) ≡ a ++ (b ++ x)
three_encoded a b x xs ys zs tail end one two three m n p e i f j g k =
    let size : m + n ≡ length (a ++ b) = omega (arith, length-append a b) in
    two_encoded (a ++ b) x (ys ++ tail) zs end (take m one ++ (two ++ tail)) three (m + n) p (two_parts a b xs ys tail one two m e i f) size g k
    ∙ append_assoc a b x
