-- Numbers reserved to exercise the requirement that unknown ones are ignored: frame types (RFC
-- 9114, section 7.2.8), stream types (section 6.2.3), settings (section 7.2.4.1) and error codes
-- (section 8.1).
use Rattle.std.specs.Prelude.{◌≡◌, ℕ, ◌+◌, ◌*◌, ◌-◌, ◌%◌, Bool, ◌&&◌, nat_le, ◌==◌}

-- the number is reserved: it is 0x21 + 0x1f * n for some n
abbrev pub IsReserved : ℕ → Type 0
IsReserved id = (n : ℕ) × (id ≡ 0x21 + 0x1f * n)

-- whether a number is reserved, computed
abbrev pub is_reserved : ℕ → Bool
is_reserved id = nat_le 0x21 id && ((id - 0x21) % 0x1f == 0)
