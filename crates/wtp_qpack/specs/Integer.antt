-- Integers with a prefix of n bits (RFC 7541, section 5.1; RFC 9204, section 4.1.1).
use Rattle.std.specs.Prelude.{◌≡◌, ℕ, zero, suc, ◌+◌, ◌-◌, ◌*◌, ◌/◌, ◌%◌, ◌^◌, ◌<◌, ◌≤◌, ◌==◌}
use Rattle.std.specs.Prelude.{nat_lt, nat_le, if◌then◌else◌, List, [], ◌∷◌, ◌++◌, Result, Ok, Err}
use Rattle.wtp_qpack.specs.declared.qpack.DecodingError.{DecodingError}
use Rattle.wtp_qpack.specs.declared.qpack.DecodingError.TheVariants.{UnexpectedFin}
use Rattle.wtp_qpack.specs.declared.qpack.DecodingError.TheVariants.{IntegerOverflow}

-- groups after which another must follow: the top bit of each is set
abbrev pub AreOpen : List ℕ → Type 0
AreOpen [] = Unit {0}
AreOpen (g ∷ gs) = (128 ≤ g) × AreOpen gs

-- groups up to the last, whose top bit is clear
abbrev pub AreClosed : List ℕ → Type 0
AreClosed [] = ⊥
AreClosed (g ∷ []) = g < 128
AreClosed (g ∷ h ∷ gs) = (128 ≤ g) × AreClosed (h ∷ gs)

-- the low seven bits of each group, the low group first
abbrev pub groups_value : List ℕ → ℕ
groups_value [] = 0
groups_value (g ∷ gs) = g % 128 + 128 * groups_value gs

-- s is an encoding of the integer v: in the low n bits of one byte, which are not all ones; or
-- these are all ones, and the groups after them have the remainder. It is at most 2^64 - 1.
abbrev pub IsInt : ℕ → ℕ → List ℕ → Type 0
IsInt n v [] = ⊥
IsInt n v (b ∷ []) = (v ≡ b % 2 ^ n) × (v < 2 ^ n - 1)
IsInt n v (b ∷ g ∷ gs) =
    (b % 2 ^ n ≡ 2 ^ n - 1) × AreClosed (g ∷ gs) × (v ≡ 2 ^ n - 1 + groups_value (g ∷ gs))
    × (v < 2 ^ 64)

-- the last byte of s is the first with which the integer exceeds 2^64 - 1
pub record IsOverflow (n : ℕ) (s : List ℕ) : Type 0 where
  pub first : ℕ
  pub groups : List ℕ
  pub last : ℕ
  pub parts : s ≡ first ∷ (groups ++ last ∷ [])
  pub ones : first % 2 ^ n ≡ 2 ^ n - 1
  pub open_groups : AreOpen groups
  pub within : 2 ^ n - 1 + groups_value groups < 2 ^ 64
  pub past : 2 ^ 64 ≤ 2 ^ n - 1 + groups_value (groups ++ last ∷ [])

-- the bytes end within an integer
abbrev pub IsCutInteger : ℕ → List ℕ → Type 0
IsCutInteger n [] = Unit {0}
IsCutInteger n (b ∷ gs) =
    (b % 2 ^ n ≡ 2 ^ n - 1) × AreOpen gs × (2 ^ n - 1 + groups_value gs < 2 ^ 64)

-- ---- reading: the value and the bytes after it, or the first fault

-- after k groups, which together with the prefix make sum
unfoldable pub groups_at : ℕ → ℕ → List ℕ → Result (ℕ × List ℕ) DecodingError
groups_at sum k [] = Err UnexpectedFin
groups_at sum k (g ∷ gs) =
    let more = sum + g % 128 * 2 ^ (7 * k) in
    if nat_le (2 ^ 64) more then Err IntegerOverflow
    else if nat_lt g 128 then Ok (more, gs)
    else groups_at more (suc k) gs

-- the integer at the start
unfoldable pub integer_at : ℕ → List ℕ → Result (ℕ × List ℕ) DecodingError
integer_at n [] = Err UnexpectedFin
integer_at n (b ∷ bs) =
    if b % 2 ^ n == 2 ^ n - 1 then groups_at (2 ^ n - 1) 0 bs else Ok (b % 2 ^ n, bs)

-- ---- writing

-- groups of the number m, as few as possible: at most k after the first
unfoldable pub shortest_groups : ℕ → ℕ → List ℕ
shortest_groups zero m = m ∷ []
shortest_groups (suc k) m =
    if nat_lt m 128 then m ∷ [] else (m % 128 + 128) ∷ shortest_groups k (m / 128)

-- the integer v in n bits under the flags, with no unnecessary group; ten groups hold 2^64 - 1
unfoldable pub shortest_int : ℕ → ℕ → ℕ → List ℕ
shortest_int n flags v =
    if nat_lt v (2 ^ n - 1) then (flags * 2 ^ n + v) ∷ []
    else (flags * 2 ^ n + (2 ^ n - 1)) ∷ shortest_groups 9 (v - (2 ^ n - 1))
