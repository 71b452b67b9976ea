-- The C form of requests and responses (RFC 9114, sections 4.1.2, 4.2 and 4.3).
use Rattle.std.specs.Prelude.{◌≡◌, ℕ, ◌≤◌, ◌^◌, ◌⊎◌, List, [], ◌∷◌, ◌++◌, length, codes, IsUtf8}
use Rattle.std.specs.Prelude.{Some, None, Err}
use Rattle.url.specs.Parser.{parse_url}
use Rattle.wtp_fields.specs.declared.session.request.UrlParseError.{UrlParseError}
use Rattle.wtp_fields.specs.declared.session.HeadersParseError.{HeadersParseError}
use Rattle.wtp_fields.specs.Field.{Field, last_value}
use Rattle.wtp_fields.specs.FieldMessages.{request_fault, status_of}
use Rattle.wtp_fields.specs.FieldWriting.{list_at, push_fault}
use Rattle.wtp_wire.specs.Content.{HeadersOf}
use Rattle.wtp_wire.specs.Wire.{wire}
use Rattle.wtp_fields.specs.FieldSection.{shortest_section}
use Rattle.wt_c.specs.Texts.{lines_in}
use Rattle.wt_c.specs.Fields.{field_in, AreLinesOf, HasSectionFault, IsWithin}
use Rattle.wt_c.specs.declared.fields.WtField.{WtField}

-- the field is valid in a message: it is within the texts, and its name and value are valid (RFC
-- 9114, sections 4.2 and 4.3; RFC 9110, section 5.5). Names of pseudo-header fields are not valid
-- here
pub record IsMessageField (texts : List ℕ) (w : WtField) : Type 0 where
  pub within : IsWithin (length texts) w
  pub faultless : push_fault (field_in texts w).0 (field_in texts w).1 ≡ None

-- each of these fields is valid in a message
abbrev pub AreMessageFields : List ℕ → List WtField → Type 0
AreMessageFields texts [] = Unit {0}
AreMessageFields texts (w ∷ ws) = IsMessageField texts w × AreMessageFields texts ws

-- the HEADERS frame of these fields, followed by the fields of C in order
abbrev pub message_frame : List Field → List ℕ → List WtField → List ℕ
message_frame m texts fields = wire (HeadersOf (shortest_section (m ++ lines_in texts fields)))

-- there is no request for this URL: it is not UTF-8, or has an error, or is so long (16 MiB or
-- more) that it may be rejected
abbrev pub IsNoUrl : List ℕ → Type 0
IsNoUrl url =
    (¬ (IsUtf8 url))
    ⊎ (((e : UrlParseError) × (list_at (parse_url None url) ≡ Err e)) ⊎ (2 ^ 24 ≤ length url))

-- these are the fields of the section, they are a valid request, and these are its authority and
-- path
pub record IsRequestOf (section : List ℕ) (m : List Field) (host path : List ℕ) : Type 0 where
  pub lines : AreLinesOf section m
  pub faultless : request_fault m ≡ None
  pub host_is : last_value (codes ":authority") m ≡ Some host
  pub path_is : last_value (codes ":path") m ≡ Some path

-- the section has an error, or its fields are not a valid request (RFC 9114, section 4.1.2), and
-- this is the error code
abbrev pub HasRequestFault : List ℕ → ℕ → Type 0
HasRequestFault section code =
    (HasSectionFault section × (code ≡ 0x200))
    ⊎ ((m : List Field) × (fault : HeadersParseError) × AreLinesOf section m
    × (request_fault m ≡ Some fault) × (code ≡ 0x10e))

-- the section has an error, or its fields are not a valid response (RFC 9114, section 4.1.2), and
-- this is the error code
abbrev pub HasResponseFault : List ℕ → ℕ → Type 0
HasResponseFault section code =
    (HasSectionFault section × (code ≡ 0x200))
    ⊎ ((m : List Field) × (fault : HeadersParseError) × AreLinesOf section m
    × (status_of m ≡ Err fault) × (code ≡ 0x10e))
