-- The streams of QPACK where the own settings allow no dynamic table (RFC 9204, section 3.2.3).
use Rattle.std.specs.Prelude.{◌≡◌, ℕ, ◌+◌, ◌*◌, ◌/◌, ◌%◌, ◌^◌, ◌<◌, ◌==◌, nat_lt, if◌then◌else◌, Bool, List, [], ◌∷◌, ◌++◌, Option, Some, None}
use Rattle.wtp_qpack.specs.Integer.{IsInt}
use Rattle.wtp_connection.specs.declared.instructions.DecoderPlace.{DecoderPlace}
use Rattle.wtp_connection.specs.declared.instructions.DecoderPlace.TheVariants.{Between, Within}

-- ---- the encoder stream (RFC 9204, section 4.3)

-- 001 and the capacity 0: Set Dynamic Table Capacity, which changes nothing (section 4.3.1)
abbrev pub sets_zero : ℕ → Bool
sets_zero byte = byte == 0x20

-- ---- the decoder stream (section 4.4)

-- the first two bits are 01
abbrev pub BeginsCancellation : List ℕ → Type 0
BeginsCancellation [] = ⊥
BeginsCancellation (b ∷ bytes) = b / 64 ≡ 1

-- s is the Stream Cancellation of this stream: 01, and the ID with a prefix of 6 bits (section
-- 4.4.2)
pub record IsCancellation (id : ℕ) (s : List ℕ) : Type 0 where
  pub kind : BeginsCancellation s
  pub integer : IsInt 6 id s
  pub below : id < 2 ^ 62

-- s is the cancellations of these streams
abbrev pub AreCancellations : List ℕ → List ℕ → Type 0
AreCancellations [] s = s ≡ []
AreCancellations (id ∷ ids) s =
    (first rest : List ℕ)
    × IsCancellation id first
    × AreCancellations ids rest
    × (s ≡ first ++ rest)

-- ---- the same, byte by byte

-- 01 and the ID of a stream with a prefix of 6 bits: Stream Cancellation (section 4.4.2). If all
-- bits of the prefix are ones, groups of seven bits follow.
abbrev pub after_first : ℕ → Option DecoderPlace
after_first byte =
    if byte / 64 == 1
    then Some (if byte % 64 == 63 then Within 63 1 else Between)
    else None

-- the weight of the next group; from 2 ^ 63 on it is more than any ID
abbrev pub next_weight : ℕ → ℕ
next_weight weight = if nat_lt weight (2 ^ 57) then weight * 128 else weight

-- the integer with this group; an ID is less than 2 ^ 62. The top bit of the last group is clear
-- (RFC 7541, section 5.1; RFC 9204, section 4.1.1).
abbrev pub after_value : ℕ → ℕ → ℕ → Option DecoderPlace
after_value value weight byte =
    if nat_lt value (2 ^ 62)
    then Some (if nat_lt byte 128 then Between else Within value (next_weight weight))
    else None

abbrev pub after_group : ℕ → ℕ → ℕ → Option DecoderPlace
after_group sum weight byte = after_value (byte % 128 * weight + sum) weight byte

-- the place after one more byte; None if an instruction is another one, or its ID is too large
abbrev pub after_byte : DecoderPlace → ℕ → Option DecoderPlace
after_byte Between byte = after_first byte
after_byte (Within sum weight) byte = after_group sum weight byte

abbrev pub then_bytes : (DecoderPlace → Option DecoderPlace) → Option DecoderPlace → Option DecoderPlace
then_bytes more None = None
then_bytes more (Some place) = more place

abbrev pub after_bytes : DecoderPlace → List ℕ → Option DecoderPlace
after_bytes place [] = Some place
after_bytes place (b ∷ bytes) = then_bytes (λ next. after_bytes next bytes) (after_byte place b)
