-- What was taken of an input that could not be read whole.
use Rattle.std.specs.Prelude.{ℕ, ◌+◌, ◌<◌, ◌≤◌, List, length, Option}
use Rattle.std.specs.Io.KnownBytes.{Consumes}
use Rattle.wt_inspect.specs.declared.failure.Failure.{Failure}
use Rattle.wt_inspect.specs.declared.failure.Failure.TheVariants as failure-is

-- as far as the bytes of the input are known, the first of them were taken, and their number has
-- this property
abbrev pub Takes : (ℕ → Type 0) → Option (List ℕ) → Option (List ℕ) → Type 0
Takes Number input left = (taken : List ℕ) × Consumes input left taken × Number (length taken)

-- at most as many bytes as an input may have
abbrev pub TakesFew : Option (List ℕ) → Option (List ℕ) → Type 0
TakesFew input left = Takes (λ n. n ≤ 67108864) input left

-- some bytes, at most 16384 at a time
abbrev pub TakesSome : Option (List ℕ) → Option (List ℕ) → Type 0
TakesSome input left = Takes (λ n. (0 < n) × (n ≤ 67108864 + 16384)) input left

-- too many bytes, and nothing more once they were too many
abbrev pub TakesTooMany : Option (List ℕ) → Option (List ℕ) → Type 0
TakesTooMany input left = Takes (λ n. (67108864 < n) × (n ≤ 67108864 + 16384)) input left

-- what was taken of an input that could not be read whole: memory is needed only for bytes that
-- were taken
abbrev pub InputFails : Failure → Option (List ℕ) → Option (List ℕ) → Type 0
InputFails failure-is.Input input left = TakesFew input left
InputFails failure-is.TooLong input left = TakesTooMany input left
InputFails failure-is.Memory input left = TakesSome input left
InputFails other input left = ⊥
