-- Numbers that are reserved are in no table.
use Rattle.std.proofs.Common.{◌≡◌, ℕ, ◌+◌, ◌-◌, ◌*◌, ◌%◌, Bool, true, refl, arith, ◌∙◌, ap}
use Rattle.std.specs.Prelude.{◌&&◌, nat_le, ◌==◌}
use Rattle.std.proofs.Math.Nat.{mul-mod_right}
use Rattle.std.proofs.lemmas.Bool.Decides.{nat_tests}

-- the number has the form step * n + first
abbrev pub has_form : ℕ → ℕ → ℕ → Bool
has_form step first n = nat_le first n && ((n - first) % step == 0)

form_rest : (step first n : ℕ) → ((step * n + first) - first) % step ≡ 0
form_rest step first n = ap (λ (x : ℕ). x % step) (minus (step * n) first) ∙ mul-mod_right step n
  where
    minus : (a b : ℕ) → (a + b) - b ≡ a
    minus a b = omega arith

pub form_is : (step first n : ℕ) → has_form step first (step * n + first) ≡ true
form_is step first n = let e : ((step * n + first) - first) % step ≡ 0 = form_rest step first n in let l : nat_le first (step * n + first) ≡ true = above (step * n) first in rw (l, e) refl
  where
    above : (a b : ℕ) → nat_le b (a + b) ≡ true
    above a b = grind (arith, nat_tests)
