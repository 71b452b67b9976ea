-- Header maps and the payloads of their HEADERS frames (RFC 9114, sections 4.1 and 7.2.2).
use Rattle.std.specs.Prelude.{◌≡◌, ◌≢◌, ℕ, ◌==◌, Bool, true, false, not, List, [], ◌∷◌, ◌++◌}
use Rattle.std.specs.Prelude.{filter, MatchResult, Result, Ok, Err}
use Rattle.std.specs.List.{flat_map}
use Rattle.wtp_core.specs.declared.error.ErrorCode.TheVariants.{Decompression}
use Rattle.wtp_core.specs.declared.error.Refused.{Refused}
use Rattle.wtp_core.specs.declared.error.Refused.TheVariants.{Code, Memory}
use Rattle.wtp_qpack.specs.declared.qpack.DecodingError.{DecodingError}
use Rattle.wtp_qpack.specs.Field.{Field}
use Rattle.wtp_qpack.specs.FieldLine.{encoded_line}
use Rattle.wtp_qpack.specs.FieldSection.{SectionNeedsMemory, map_at, section_of}

-- the first byte of the name is a colon
abbrev pub begins_with_colon : List ℕ → Bool
begins_with_colon [] = false
begins_with_colon (b ∷ bs) = b == 58

-- the field is a pseudo-header field: its name starts with a colon (RFC 9114, section 4.3)
abbrev pub is_pseudo : Field → Bool
is_pseudo field = begins_with_colon field.0

-- the fields of a map in the order in which they are sent: pseudo-header fields before the others
-- (RFC 9114, section 4.3), each group in the map's order
unfoldable pub sent_order : List Field → List Field
sent_order m = filter is_pseudo m ++ filter (λ field. not (is_pseudo field)) m

-- the payload of the HEADERS frame of a map
unfoldable pub payload : List Field → List ℕ
payload m = section_of (sent_order m)

-- ---- reading

-- the map, or Decompression for every decoding error (RFC 9204, section 6)
abbrev pub or_decompression : Result (List Field) DecodingError → Result (List Field) Refused
or_decompression (Ok m) = Ok m
or_decompression (Err fault) = Err (Code Decompression)

-- the map of the payload of a HEADERS frame, or the error code
abbrev pub headers_at : List ℕ → Result (List Field) Refused
headers_at bytes = or_decompression (map_at bytes)

-- the result is the map or error that is read, unless allocation failed
abbrev pub GivesUnlessRefused : Result (List Field) Refused → Result (List Field) Refused → Type 0
GivesUnlessRefused result read =
    MatchResult result (λ m. read ≡ Ok m) (λ e. e ≢ Memory → read ≡ Err e)

-- after its prefix and valid lines, the section has a line that needs memory
abbrev pub PayloadNeedsMemory : List ℕ → Type 0
PayloadNeedsMemory = SectionNeedsMemory

-- ---- the two groups, as they are written

-- the field is a pseudo-header field, or is none, as the flag says
abbrev pub in_group : Bool → Field → Bool
in_group true field = is_pseudo field
in_group false field = not (is_pseudo field)

-- the encoded lines of a group
abbrev pub group_lines : Bool → List Field → List ℕ
group_lines pseudo fields = flat_map encoded_line (filter (in_group pseudo) fields)
