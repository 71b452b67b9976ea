-- Content is judged by its frames, and sections by their prefix.
use Rattle.std.proofs.Common.{◌≡◌, ℕ, ◌+◌, ◌-◌, ◌<◌, ◌≤◌, nat_le, true, false, List, [], ◌∷◌, ◌++◌, Option, Some, None, refl, ap, arith}
use Rattle.std.proofs.lemmas.Bool.{ne_eqb}
use Rattle.std.proofs.lemmas.Bool.Decides.{nat_tests}
use Rattle.wtp_qpack.specs.Integer.{IsInt}
use Rattle.wtp_messages.specs.Content.{fits, left_after}
use Rattle.wtp_webtransport.specs.Prefix.{names_table}

-- ---- content

pub judged_alike : (left : Option ℕ) (a b rest : ℕ) → fits left ((a + b) + rest) ≡ fits left (a + (b + rest))
judged_alike left a b rest = ap (λ (n : ℕ). fits left n) (omega arith)

fits_some : (l a rest : ℕ) → nat_le (a + rest) l ≡ true → nat_le rest (l - a) ≡ true
fits_some l a rest e = grind (arith, nat_tests)

pub fits_later : (left : Option ℕ) (a rest : ℕ) → fits left (a + rest) ≡ true → fits (left_after left a) rest ≡ true
fits_later None a rest e = refl
fits_later (Some l) a rest e = fits_some l a rest e

pub counted_alike : (left : Option ℕ) (a b : ℕ) → left_after (left_after left a) b ≡ left_after left (a + b)
counted_alike None a b = refl
counted_alike (Some l) a b = ap (λ (n : ℕ). Some n) (omega arith)

-- ---- prefixes

first_names : (b : ℕ) (more : List ℕ) → (b ≡ 0 → ⊥) → names_table (b ∷ more) ≡ true
first_names b [] h = rw (ne_eqb b 0 h) refl
first_names b (c ∷ more) h = rw (ne_eqb b 0 h) refl

pub count_names : (count : ℕ) (s more : List ℕ) → IsInt 8 count s → 0 < count → names_table (s ++ more) ≡ true
count_names count [] more is l = absurd is
count_names count (b ∷ []) more is l = first_names b more (λ z. omega (arith, z, is.0, l))
count_names count (b ∷ g ∷ gs) more is l = first_names b (g ∷ (gs ++ more)) (λ z. omega (arith, z, is.0))

le_true : (a b : ℕ) → a ≤ b → nat_le a b ≡ true
le_true a b l = grind (arith, nat_tests)

le_false : (a b : ℕ) → b < a → nat_le a b ≡ false
le_false a b l = grind (arith, nat_tests)

pub sign_names : (b : ℕ) (more : List ℕ) → 128 ≤ b → names_table (0 ∷ b ∷ more) ≡ true
sign_names b more l = le_true 128 b l

pub static_prefix : (b : ℕ) (more : List ℕ) → b < 128 → names_table (0 ∷ b ∷ more) ≡ false
static_prefix b more l = le_false 128 b l
