-- The state of reading hexadecimal text.
use Rattle.std.specs.Prelude.{◌≡◌, ◌≢◌, ℕ, List, [], ◌∷◌, ◌++◌, Option, Some, None}
use Rattle.wt_inspect.specs.HexText.{hex_value, pairs_bytes}
use Rattle.wt_inspect.specs.declared.failure.Failure.{Failure}
use Rattle.wt_inspect.specs.declared.failure.Failure.TheVariants as failure-is

-- after the pairs of a text, this is the value of the digit that is left, if one is
abbrev pub IsLeft : List ℕ → List ℕ → Option ℕ → Type 0
IsLeft pairs text None = text ≡ pairs
IsLeft pairs text (Some digit) =
    (c : ℕ) × (text ≡ pairs ++ c ∷ []) × (hex_value c ≡ Some digit)

-- a text without blanks has these bytes, and then half a byte, if there is one
pub record IsRead (text bytes : List ℕ) (half : Option ℕ) : Type 0 where
  pub pairs : List ℕ
  pub are : pairs_bytes pairs ≡ Some bytes
  pub left : IsLeft pairs text half

-- a text without blanks that has these bytes and half a byte is no hexadecimal text with these
-- characters after it, whatever follows
abbrev pub IsNoText : List ℕ → Option ℕ → List ℕ → Type 0
IsNoText bytes half more =
    (text rest : List ℕ) → IsRead text bytes half → pairs_bytes (text ++ (more ++ rest)) ≡ None

-- with these characters after it, it has at least one byte
abbrev pub IsSome : List ℕ → Option ℕ → List ℕ → Type 0
IsSome bytes half more =
    (text : List ℕ) → IsRead text bytes half
    → (found : List ℕ) × (pairs_bytes (text ++ more) ≡ Some found) × (found ≢ [])

-- why reading fails at these characters
abbrev pub FailsAt : Failure → List ℕ → Option ℕ → List ℕ → Type 0
FailsAt failure-is.NotHex bytes half more = IsNoText bytes half more
FailsAt failure-is.Memory bytes half more = IsSome bytes half more
FailsAt other bytes half more = ⊥
