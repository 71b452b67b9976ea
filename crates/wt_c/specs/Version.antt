-- Versions as C has them.
use Rattle.std.specs.Prelude.{ℕ, ◌+◌, ◌*◌}

-- a version in one number, with a byte for each part
abbrev pub version_number : ℕ → ℕ → ℕ → ℕ
version_number major minor patch = (major * 256 + minor) * 256 + patch
