-- The faults of sections and instructions, and their error codes (RFC 9204, section 6).
use Rattle.std.specs.Prelude.{◌≡◌, ◌≢◌, ℕ, MatchResult, Option, Some, None, Result, Ok, Err}
use Rattle.wtp_qpack.specs.declared.qpack.DecodingError.{DecodingError}
use Rattle.wtp_qpack.specs.declared.qpack.DecodingError.TheVariants as reading
use Rattle.wtp_dynamic.specs.declared.error.SectionError.{SectionError}
use Rattle.wtp_dynamic.specs.declared.error.SectionError.TheVariants as section
use Rattle.wtp_dynamic.specs.declared.error.EncoderStreamError.{EncoderStreamError}
use Rattle.wtp_dynamic.specs.declared.error.EncoderStreamError.TheVariants as encoder
use Rattle.wtp_dynamic.specs.declared.error.DecoderStreamError.{DecoderStreamError}
use Rattle.wtp_dynamic.specs.declared.error.DecoderStreamError.TheVariants as decoder

-- ---- sections

-- the fault of a section that has this fault of integers, strings and lines
abbrev pub section_fault : DecodingError → SectionError
section_fault reading.UnexpectedFin = section.UnexpectedEnd
section_fault reading.IntegerOverflow = section.IntegerOverflow
section_fault reading.InvalidString = section.InvalidString
section_fault reading.DynamicNotSupported = section.EntryNotFound
section_fault reading.IndexNotfound = section.IndexNotFound
section_fault reading.Memory = section.Memory

-- what was read of a section
abbrev pub of_section : {X : Type 0} → Result X DecodingError → Result X SectionError
of_section (Ok x) = Ok x
of_section (Err e) = Err (section_fault e)

-- what a call returned, viewed by view, is what is read
abbrev pub Reads : {X Y : Type 0} → (X → Y) → Result X SectionError → Result Y SectionError
    → Type 0
Reads view result read = MatchResult result (λ x. read ≡ Ok (view x)) (λ e. read ≡ Err e)

-- the same, unless allocation failed
abbrev pub ReadsUnlessMemory : {X Y : Type 0} → (X → Y) → Result X SectionError
    → Result Y SectionError → Type 0
ReadsUnlessMemory view result read =
    MatchResult result (λ x. read ≡ Ok (view x)) (λ e. e ≢ section.Memory → read ≡ Err e)

-- ---- error codes

abbrev pub section_code : SectionError → Option ℕ
section_code section.Memory = None
section_code _ = Some 512

abbrev pub encoder_stream_code : EncoderStreamError → Option ℕ
encoder_stream_code encoder.Memory = None
encoder_stream_code _ = Some 513

abbrev pub decoder_stream_code : DecoderStreamError → Option ℕ
decoder_stream_code decoder.Memory = None
decoder_stream_code _ = Some 514
