-- Bytes written to an output of the caller.
use Rattle.std.specs.Prelude.{◌≡◌, ℕ, ◌<◌, List, ◌++◌, length, drop}

-- the bytes are at the start of the output, the rest of the output is unchanged, and `used` is
-- the number of bytes
pub record WritesPrefix (bytes old new : List ℕ) (used : ℕ) : Type 0 where
  pub size : used ≡ length bytes
  pub bytes_are : new ≡ bytes ++ drop used old

-- the output is shorter than the bytes and is unchanged, and `needed` is the number of bytes
pub record TooShort (bytes old new : List ℕ) (needed : ℕ) : Type 0 where
  pub short : length old < length bytes
  pub needed_is : needed ≡ length bytes
  pub unchanged : new ≡ old
