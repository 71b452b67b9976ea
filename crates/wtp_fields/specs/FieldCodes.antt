-- The error codes of invalid field sections and malformed messages.
use Rattle.std.specs.Prelude.{Option, Some, None}
use Rattle.wtp_core.specs.declared.error.ErrorCode.{ErrorCode}
use Rattle.wtp_core.specs.declared.error.ErrorCode.TheVariants.{Decompression, Message}
use Rattle.wtp_qpack.specs.declared.qpack.DecodingError.{DecodingError}
use Rattle.wtp_qpack.specs.declared.qpack.DecodingError.TheVariants as decoding
use Rattle.wtp_fields.specs.declared.fields.FieldSectionError.{FieldSectionError}
use Rattle.wtp_fields.specs.declared.fields.FieldSectionError.TheVariants as section
use Rattle.wtp_fields.specs.declared.session.HeadersParseError.{HeadersParseError}
use Rattle.wtp_fields.specs.declared.session.HeadersParseError.TheVariants as parsing
pub use Rattle.wtp_qpack.specs.SectionCodes.{section_code, huffman_fault}

-- the error code of an invalid request or response, which is a malformed message (RFC 9114, section
-- 4.1.2)
abbrev pub message_code : HeadersParseError → Option ErrorCode
message_code parsing.Memory = None
message_code _ = Some Message

-- the list error for a decoding error
abbrev pub section_error : DecodingError → FieldSectionError
section_error decoding.Memory = section.Memory
section_error fault = section.Decoding fault

-- the error code of a list error: a section that cannot be decoded is a decompression failure (RFC
-- 9204, section 6)
abbrev pub field_section_code : FieldSectionError → Option ErrorCode
field_section_code (section.Decoding fault) = Some Decompression
field_section_code section.TooLarge = None
field_section_code section.Memory = None
