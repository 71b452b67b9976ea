-- The error codes of the faults of field sections.
use Rattle.std.specs.Prelude.{Option, Some, None}
use Rattle.wtp_core.specs.declared.error.ErrorCode.{ErrorCode}
use Rattle.wtp_core.specs.declared.error.ErrorCode.TheVariants.{Decompression}
use Rattle.wtp_huffman.specs.declared.huffman.HuffmanError.{HuffmanError}
use Rattle.wtp_huffman.specs.declared.huffman.HuffmanError.TheVariants as huffman
use Rattle.wtp_qpack.specs.declared.qpack.DecodingError.{DecodingError}
use Rattle.wtp_qpack.specs.declared.qpack.DecodingError.TheVariants as decoding

-- each fault of a section is a fault of decompression (RFC 9204, section 6)
abbrev pub section_code : DecodingError → Option ErrorCode
section_code decoding.Memory = None
section_code _ = Some Decompression

-- the fault of a section that contains such a Huffman text
abbrev pub huffman_fault : HuffmanError → DecodingError
huffman_fault huffman.Invalid = decoding.InvalidString
huffman_fault huffman.Memory = decoding.Memory
