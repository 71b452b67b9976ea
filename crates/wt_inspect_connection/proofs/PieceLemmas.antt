-- The first stream of several.
use Rattle.std.proofs.Common.{◌≡◌, ℕ, nat_lt, Bool, true, false, cond, List, Option, Some, None, refl, arith}
use Rattle.std.proofs.lemmas.Bool.{ltb-false, ltb-true}
use Rattle.wt_inspect_connection.specs.Pieces.{first_of}

pub first_alone : (one : Option (ℕ × List ℕ)) → first_of one None ≡ one
first_alone None = refl
first_alone (Some one) = refl

-- one of two, and no other
either_alone : (b : Bool) (one other : ℕ × List ℕ)
    → cond b (Some other) (Some one) ≡ first_of (cond b (Some other) (Some one)) None
either_alone true one other = refl
either_alone false one other = refl

-- by the answers of the comparisons of the second with the first, and of the third with both
of_three : (a b c : ℕ × List ℕ) (p q r : Bool) → nat_lt b.0 a.0 ≡ p → nat_lt c.0 b.0 ≡ q → nat_lt c.0 a.0 ≡ r
    → first_of (Some a) (cond q (Some c) (Some b)) ≡ first_of (cond p (Some b) (Some a)) (Some c)
of_three a b c true true true e f g = rw (g, f) refl
of_three a b c true true false e f g = absurd (omega (arith, ltb-true b.0 a.0 e, ltb-true c.0 b.0 f, ltb-false c.0 a.0 g))
of_three a b c true false r e f g = rw (e, f) refl
of_three a b c false true r e f g = refl
of_three a b c false false true e f g = absurd (omega (arith, ltb-false b.0 a.0 e, ltb-false c.0 b.0 f, ltb-true c.0 a.0 g))
of_three a b c false false false e f g = rw (e, g) refl

pub first_assoc : (a b c : Option (ℕ × List ℕ)) → first_of a (first_of b c) ≡ first_of (first_of a b) c
first_assoc None b c = refl
first_assoc (Some a) None c = refl
first_assoc (Some a) (Some b) None = either_alone (nat_lt b.0 a.0) a b
first_assoc (Some a) (Some b) (Some c) =
    of_three a b c (nat_lt b.0 a.0) (nat_lt c.0 b.0) (nat_lt c.0 a.0) refl refl refl
