-- The messages of a session as field lists (RFC 9114, sections 4.1.2 and 4.3; RFC 9220, section 3).
-- The last value of a repeated pseudo-header field counts, as in a header map.
use Rattle.std.specs.Prelude.{◌≡◌, ℕ, ◌+◌, ◌-◌, ◌*◌, ◌<◌, nat_lt, if◌then◌else◌, ◌&&◌, List, []}
use Rattle.std.specs.Prelude.{◌∷◌}
use Rattle.std.specs.Prelude.{codes, Option, Some, None, Result, Ok, Err, MatchResult, length}
use Rattle.wtp_qpack.specs.Field.{Field, last_value, field_map}
use Rattle.wtp_qpack.specs.FieldLines.{AreUtf8Fields}
use Rattle.wtp_fields.specs.declared.fields.message.RequestTarget.{RequestTarget}
use Rattle.wtp_fields.specs.declared.fields.message.ToHeadersError.{ToHeadersError}
use Rattle.wtp_fields.specs.declared.fields.message.ToHeadersError.TheVariants.{NotUtf8}
use Rattle.wtp_fields.specs.declared.fields.message.ToHeadersError.TheVariants as refused
use Rattle.wtp_fields.specs.declared.session.HeadersParseError.{HeadersParseError}
use Rattle.wtp_fields.specs.declared.session.HeadersParseError.TheVariants.{MissingMethod}
use Rattle.wtp_fields.specs.declared.session.HeadersParseError.TheVariants.{MethodNotConnect}
use Rattle.wtp_fields.specs.declared.session.HeadersParseError.TheVariants.{MissingScheme}
use Rattle.wtp_fields.specs.declared.session.HeadersParseError.TheVariants.{SchemeNotHttps}
use Rattle.wtp_fields.specs.declared.session.HeadersParseError.TheVariants.{MissingProtocol}
use Rattle.wtp_fields.specs.declared.session.HeadersParseError.TheVariants.{ProtocolNotWebTransport}
use Rattle.wtp_fields.specs.declared.session.HeadersParseError.TheVariants.{MissingAuthority}
use Rattle.wtp_fields.specs.declared.session.HeadersParseError.TheVariants.{MissingPath}
use Rattle.wtp_fields.specs.declared.session.HeadersParseError.TheVariants.{MissingStatusCode}
use Rattle.wtp_fields.specs.declared.session.HeadersParseError.TheVariants.{InvalidStatusCode}
use Rattle.wtp_core.specs.Ids.{IsStatusText, status_in}
use Rattle.wtp_fields.specs.SessionResponse.{status_value}
use Rattle.wtp_fields.specs.SessionRequest.{fault_unless, fault_without, first_fault}

-- ---- requests

-- the first error of a request's fields, in this order
unfoldable pub request_fault : List Field → Option HeadersParseError
request_fault fields = first_fault (
    fault_unless (codes "CONNECT") MissingMethod MethodNotConnect
    (last_value (codes ":method") fields)
    ∷ fault_unless (codes "https") MissingScheme SchemeNotHttps
    (last_value (codes ":scheme") fields)
    ∷ fault_unless (codes "webtransport") MissingProtocol ProtocolNotWebTransport
    (last_value (codes ":protocol") fields)
    ∷ fault_without MissingAuthority (last_value (codes ":authority") fields)
    ∷ fault_without MissingPath (last_value (codes ":path") fields)
    ∷ [])

-- the list is a valid request with this target
pub record IsTarget (fields : List Field) (target : RequestTarget) : Type 0 where
  pub faultless : request_fault fields ≡ None
  pub authority : last_value (codes ":authority") fields ≡ Some target.authority.now
  pub path : last_value (codes ":path") fields ≡ Some target.path.now

-- the result is the target of the request, or its first error
abbrev pub RequestIs : List Field → Result RequestTarget HeadersParseError → Type 0
RequestIs fields result =
    MatchResult result (IsTarget fields) (λ fault. request_fault fields ≡ Some fault)

-- ---- responses

-- the decimal digit that a byte is in ASCII
abbrev pub digit_of : ℕ → Option ℕ
digit_of byte = if nat_lt 47 byte && nat_lt byte 58 then Some (byte - 48) else None

-- the number with these three digits, or None if one is missing
abbrev pub of_digits : Option ℕ → Option ℕ → Option ℕ → Option ℕ
of_digits (Some a) (Some b) (Some c) = Some (a * 100 + b * 10 + c)
of_digits (Some a) (Some b) None = None
of_digits (Some a) None c = None
of_digits None b c = None

-- the number that exactly three decimal digits denote
abbrev pub three_digits : List ℕ → Option ℕ
three_digits (a ∷ b ∷ c ∷ []) = of_digits (digit_of a) (digit_of b) (digit_of c)
three_digits _ = None

-- the number, or an error if it is not from 100 to 599
abbrev pub in_range : Option ℕ → Result ℕ HeadersParseError
in_range None = Err InvalidStatusCode
in_range (Some code) =
    if nat_lt 99 code && nat_lt code 600 then Ok code else Err InvalidStatusCode

-- the status code that the value of a field denotes, three digits (RFC 9110, section 15; RFC 9114,
-- section 4.3.2)
unfoldable pub status_by : Option (List ℕ) → Result ℕ HeadersParseError
status_by None = Err MissingStatusCode
status_by (Some text) = in_range (three_digits text)

-- the status code of a response, or its error
abbrev pub status_of : List Field → Result ℕ HeadersParseError
status_of fields = status_by (last_value (codes ":status") fields)

-- the map has a `:status` field with this status code
pub record HasStatusOf (code : ℕ) (m : List Field) : Type 0 where
  pub text : List ℕ
  pub value : status_value m ≡ Some text
  pub is_text : IsStatusText text
  pub is : status_in text ≡ code

-- ---- the header map

-- a list has no map because it is not UTF-8, or because allocation failed at one of its fields
abbrev pub HasNoMap : List Field → ToHeadersError → Type 0
HasNoMap fields NotUtf8 = ¬ AreUtf8Fields fields
HasNoMap fields refused.Memory = AreUtf8Fields fields × (0 < length fields)

-- the result is the map of a list of UTF-8 names and values, or the error
abbrev pub MapIs : List Field → Result (List Field) ToHeadersError → Type 0
MapIs fields result =
    MatchResult result (λ m. AreUtf8Fields fields × (m ≡ field_map fields)) (HasNoMap fields)
