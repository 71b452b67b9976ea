-- The short words, indexed by the first eight bits of a window.
use Rattle.std.specs.Prelude.{ℕ, slice_index}
use Rattle.wtp_huffman.specs.declared.huffman.short.TheConstants.{SHORT_BITS, SHORT_BYTES}

-- the length in bits of the short word that eight bits begin with
unfoldable pub short_bits_at : ℕ → ℕ
short_bits_at i = slice_index SHORT_BITS i

-- the byte of the short word that eight bits begin with
unfoldable pub short_byte_at : ℕ → ℕ
short_byte_at i = slice_index SHORT_BYTES i
