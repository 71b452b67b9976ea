-- Field lists of messages to send: which fields may be appended (RFC 9114, sections 4.2, 4.3 and
-- 10.3; RFC 9110, sections 5.1, 5.5 and 5.6.2), and the lists of requests and responses.
use Rattle.std.specs.Prelude.{ℕ, ◌-◌, nat_lt, ◌==◌, Bool, false, not, ◌&&◌, ◌||◌, if◌then◌else◌}
use Rattle.std.specs.Prelude.{List}
use Rattle.std.specs.Prelude.{[], ◌∷◌, length, slice_get, codes, Option, Some, None, Result, Ok}
use Rattle.std.specs.Prelude.{Err}
use Rattle.std.specs.List.{list_all, list_any}
use Rattle.std.specs.Str.{bytes_eq}
use Rattle.url.specs.Parts.{Parts}
use Rattle.url.specs.Parser.{Parsed}
use Rattle.wtp_qpack.specs.Field.{Field}
use Rattle.wtp_fields.specs.declared.fields.writing.PushError.{PushError}
use Rattle.wtp_fields.specs.declared.fields.writing.PushError.TheVariants.{EmptyName, PseudoHeader}
use Rattle.wtp_fields.specs.declared.fields.writing.PushError.TheVariants.{UpperCase, NotAToken}
use Rattle.wtp_fields.specs.declared.fields.writing.PushError.TheVariants.{ForbiddenValue, Memory}
use Rattle.wtp_fields.specs.declared.session.request.UrlParseError.{UrlParseError}
use Rattle.wtp_fields.specs.declared.session.request.UrlParseError.TheVariants as answered
use Rattle.wtp_fields.specs.SessionRequest.{authority_of, with_query, url_error_of}

-- ---- names

-- the byte is an upper-case letter
abbrev pub is_upper : ℕ → Bool
is_upper byte = nat_lt 64 byte && nat_lt byte 91

-- the byte is a letter or a digit
abbrev pub is_alphanumeric : ℕ → Bool
is_alphanumeric byte =
    is_upper byte || (nat_lt 96 byte && nat_lt byte 123) || (nat_lt 47 byte && nat_lt byte 58)

-- the byte is allowed in a token (RFC 9110, section 5.6.2)
abbrev pub is_tchar : ℕ → Bool
is_tchar byte = is_alphanumeric byte || list_any (λ mark. mark == byte) (codes "!#$%&'*+-.^_`|~")

-- the first error of a name: it is empty, starts with a colon, has an upper-case letter, or is not
-- a token
abbrev pub name_fault : List ℕ → Option PushError
name_fault [] = Some EmptyName
name_fault (first ∷ others) =
    if first == 58 then Some PseudoHeader else
    if list_any is_upper (first ∷ others) then Some UpperCase else
    if list_all is_tchar (first ∷ others) then None else Some NotAToken

-- ---- values

-- the byte is a space or a tab
abbrev pub is_blank : ℕ → Bool
is_blank byte = byte == 32 || byte == 9

-- the byte is allowed in a field value: a tab, or any byte but a control character (RFC 9110,
-- section 5.5)
abbrev pub is_value_byte : ℕ → Bool
is_value_byte byte = byte == 9 || (nat_lt 31 byte && not (byte == 127))

-- there is a byte, and it is a space or a tab
abbrev pub is_blank_at : Option ℕ → Bool
is_blank_at None = false
is_blank_at (Some byte) = is_blank byte

-- the bytes are a valid field value (RFC 9110, section 5.5), which neither starts nor ends with a
-- space or a tab
abbrev pub is_field_value : List ℕ → Bool
is_field_value value =
    list_all is_value_byte value
    && (not (is_blank_at (slice_get value 0))
    && not (is_blank_at (slice_get value (length value - 1))))

-- ---- pushing

-- the error of a name, or else that of the value
abbrev pub or_value : Option PushError → List ℕ → Option PushError
or_value (Some fault) value = Some fault
or_value None value = if is_field_value value then None else Some ForbiddenValue

-- the first error of a field
unfoldable pub push_fault : List ℕ → List ℕ → Option PushError
push_fault name value = or_value (name_fault name) value

-- the error of the field, or None if allocation failed
abbrev pub fault_in : PushError → Option PushError
fault_in Memory = None
fault_in fault = Some fault

-- ---- requests

-- the five fields of a request
abbrev pub request_fields : List ℕ → List ℕ → List Field
request_fields authority path =
    (codes ":method", codes "CONNECT")
    ∷ (codes ":scheme", codes "https")
    ∷ (codes ":protocol", codes "webtransport")
    ∷ (codes ":authority", authority)
    ∷ (codes ":path", path)
    ∷ []

-- the list of a request for a URL; its scheme must be https
abbrev pub list_for : Parts → Result (List Field) UrlParseError
list_for url =
    if bytes_eq url.scheme (codes "https")
    then Ok (request_fields (authority_of url) (with_query url.path url.query))
    else Err answered.SchemeNotHttps

-- the list of a request for a parsed URL, or the error
abbrev pub list_at : Parsed Parts → Result (List Field) UrlParseError
list_at (Err fault) = Err (url_error_of fault)
list_at (Ok url) = list_for url
