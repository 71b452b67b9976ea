-- The prefix of a field section where no dynamic table is allowed (RFC 9204, section 4.5.1).
use Rattle.std.specs.Prelude.{ℕ, nat_le, ◌==◌, ◌||◌, not, Bool, false, List, [], ◌∷◌}

-- It refers to a table: the Required Insert Count, an integer with a prefix of 8 bits, is not 0, which
-- is the byte 0 alone (section 4.5.1.1); or the Sign bit, the first bit after it, is 1 (section
-- 4.5.1.2). Any Delta Base is allowed without it.
abbrev pub names_table : List ℕ → Bool
names_table [] = false
names_table (count ∷ []) = not (count == 0)
names_table (count ∷ base ∷ rest) = not (count == 0) || nat_le 128 base
