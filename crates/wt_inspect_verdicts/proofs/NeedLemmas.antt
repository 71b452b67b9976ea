-- Numbers with the same remainder.
use Rattle.std.proofs.Common.{◌≡◌, ℕ, ◌+◌, ◌*◌, ◌%◌, ◌∙◌}
use Rattle.std.proofs.Math.Nat.{add-mul-mod_self_left, add-mod_right, mod-mod}

pub rounds : (a range n : ℕ) → (a % range + range * n) % range ≡ a % range
rounds a range n = add-mul-mod_self_left (a % range) range n ∙ mod-mod a range

pub one_round_more : (a range n : ℕ) → (a % range + range * n + range) % range ≡ a % range
one_round_more a range n = add-mod_right (a % range + range * n) range ∙ rounds a range n
