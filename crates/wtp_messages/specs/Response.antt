-- Responses (RFC 9114, sections 4.1 and 4.3.2; RFC 9110, section 15; RFC 9297, section 3.2).
use Rattle.std.specs.Prelude.{ℕ, ◌≡◌, ◌==◌, nat_lt, Bool, true, false, not, ◌&&◌, ◌||◌, if◌then◌else◌, List, codes}
use Rattle.std.specs.Prelude.{Option, Some, None, is_some}
use Rattle.wtp_qpack.specs.Field.{Field, field_value}
use Rattle.wtp_fields.specs.FieldMessages.{three_digits}
use Rattle.wtp_messages.specs.Names.{has_field, is_and_not}
use Rattle.wtp_messages.specs.Section.{section_breaks}
use Rattle.wtp_messages.specs.Length.{content_length}
use Rattle.wtp_messages.specs.Content.{content_of}
use Rattle.wtp_messages.specs.declared.section.SectionKind.{SectionKind}
use Rattle.wtp_messages.specs.declared.section.SectionKind.TheVariants as section
use Rattle.wtp_messages.specs.declared.response.Asked.{Asked}
use Rattle.wtp_messages.specs.declared.response.Asked.TheVariants as asked
use Rattle.wtp_messages.specs.declared.response.Response.{Response}
use Rattle.wtp_messages.specs.declared.malformed.Malformed.{Malformed}
use Rattle.wtp_messages.specs.declared.malformed.Malformed.TheVariants.{MissingStatus, InvalidStatus}
use Rattle.wtp_messages.specs.declared.malformed.Malformed.TheVariants.{UnexpectedStatus, ContentField}

-- ---- the status

-- the value of :status
abbrev pub status_text : List Field → Option (List ℕ)
status_text fields = field_value (codes ":status") fields

-- the number is a status of HTTP/3: from 100 on, and not 101 (RFC 9114, section 4.5)
abbrev pub is_status : Option ℕ → Bool
is_status None = false
is_status (Some code) = nat_lt 99 code && not (code == 101)

-- the text is a status: three digits
abbrev pub is_status_text : List ℕ → Bool
is_status_text text = is_status (three_digits text)

-- the status that a text denotes
abbrev pub status_in : Option (List ℕ) → Option ℕ
status_in None = None
status_in (Some text) = three_digits text

-- the status of the response
abbrev pub status_of : List Field → Option ℕ
status_of fields = status_in (status_text fields)

-- the response is successful: its status is from 200 to 299
abbrev pub is_success : Option ℕ → Bool
is_success None = false
is_success (Some code) = nat_lt 199 code && nat_lt code 300

-- the status does not go with a session
abbrev pub is_unexpected : Option ℕ → Bool
is_unexpected None = false
is_unexpected (Some code) = code == 204 || code == 205 || code == 206

-- ---- what was asked for

abbrev pub is_head : Asked → Bool
is_head asked.Head = true
is_head asked.Connect = false
is_head asked.Session = false
is_head asked.Other = false

-- the request was a CONNECT
abbrev pub is_tunnel : Asked → Bool
is_tunnel asked.Head = false
is_tunnel asked.Connect = true
is_tunnel asked.Session = true
is_tunnel asked.Other = false

-- the response accepts a session
abbrev pub accepts : Asked → List Field → Bool
accepts asked.Head fields = false
accepts asked.Connect fields = false
accepts asked.Session fields = is_success (status_of fields)
accepts asked.Other fields = false

-- the response opens a tunnel (RFC 9110, section 9.3.6)
abbrev pub opens_tunnel : Asked → List Field → Bool
opens_tunnel asked.Head fields = false
opens_tunnel asked.Connect fields = is_success (status_of fields)
opens_tunnel asked.Session fields = false
opens_tunnel asked.Other fields = false

abbrev pub kind_if : Bool → SectionKind
kind_if true = section.Tunnel
kind_if false = section.Response

-- the kind of its header section
abbrev pub section_kind : Asked → List Field → SectionKind
section_kind kind fields = kind_if (opens_tunnel kind fields)

-- ---- the table

-- The response breaks this rule of responses.
abbrev pub status_breaks : Asked → List Field → Malformed → Bool
status_breaks kind fields MissingStatus = not (is_some (status_text fields))
status_breaks kind fields InvalidStatus = is_and_not is_status_text (status_text fields)
status_breaks kind fields UnexpectedStatus =
    accepts kind fields && is_unexpected (status_of fields)
status_breaks kind fields ContentField =
    accepts kind fields
    && (has_field (codes "content-length") fields || has_field (codes "content-type") fields)
status_breaks kind fields _ = false

-- the response breaks no rule of sessions
pub record HasNoContent (kind : Asked) (fields : List Field) : Type 0 where
  pub status : status_breaks kind fields UnexpectedStatus ≡ false
  pub none : status_breaks kind fields ContentField ≡ false

-- The response breaks this rule, of every section or of responses.
unfoldable pub response_breaks : Asked → List Field → Malformed → Bool
response_breaks kind fields rule =
    section_breaks (section_kind kind fields) fields rule || status_breaks kind fields rule

-- ---- content

-- a response with this status has no content (RFC 9110, section 6.4.1)
abbrev pub has_no_content : ℕ → Bool
has_no_content code = nat_lt code 200 || code == 204 || code == 304

-- The length of the content that is to come, if it is known. After any 2xx response to a CONNECT
-- request come the bytes of a tunnel (RFC 9110, section 9.3.6).
abbrev pub expected : Asked → ℕ → Option ℕ → Option ℕ
expected kind code announced =
    if is_tunnel kind && is_success (Some code) then None else
    if is_head kind || has_no_content code then Some 0 else announced

-- what a well-formed response says
pub record IsResponse (kind : Asked) (fields : List Field) (response : Response) : Type 0 where
  pub well_formed : (rule : Malformed) → response_breaks kind fields rule ≡ false
  pub status : status_of fields ≡ Some response.status
  pub content : content_of (expected kind response.status (content_length fields)) ≡ response.content

-- ---- what is sent

-- A server must not send a content-length in a response with status 1xx or 204, nor in a 2xx response to
-- CONNECT (RFC 9110, sections 8.6 and 9.3.6).
abbrev pub forbids_length : Asked → ℕ → Bool
forbids_length kind code =
    nat_lt code 200 || code == 204 || (is_tunnel kind && is_success (Some code))

-- a response with this status has a content-length that a server must not send
abbrev pub has_forbidden_length : Asked → List Field → ℕ → Bool
has_forbidden_length kind fields code =
    forbids_length kind code && has_field (codes "content-length") fields
