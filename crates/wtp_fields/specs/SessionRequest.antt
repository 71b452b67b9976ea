-- The request for a session: an extended CONNECT request (RFC 9220, section 3; WebTransport over
-- HTTP/3, "Creating a New Session"), as a header map.
use Rattle.std.specs.Prelude.{ℕ, ◌++◌, if◌then◌else◌, Bool, List, [], ◌∷◌, codes, Option, Some}
use Rattle.std.specs.Prelude.{None, Result, Ok, Err, not, is_some, unwrap_or, option_map, decimal}
use Rattle.std.specs.List.{list_any}
use Rattle.std.specs.Str.{bytes_eq}
use Rattle.url.specs.Parts.{Parts, has_credentials, host_or_empty}
use Rattle.url.specs.Host.{host_text}
use Rattle.url.specs.Input.{is_empty, when}
use Rattle.url.specs.Parser.{Parsed}
use Rattle.url.specs.declared.error.ParseError.{ParseError}
use Rattle.url.specs.declared.error.ParseError.TheVariants as parsing
use Rattle.wtp_core.specs.declared.error.ErrorCode.TheVariants.{FrameUnexpected, Message}
use Rattle.wtp_core.specs.declared.error.Refused.{Refused}
use Rattle.wtp_core.specs.declared.error.Refused.TheVariants.{Code}
use Rattle.wtp_wire.specs.declared.frame.kind.FrameKind.TheVariants.{Headers}
use Rattle.wtp_wire.specs.Content.{Content, PlainOf}
use Rattle.wtp_fields.specs.declared.session.HeadersParseError.{HeadersParseError}
use Rattle.wtp_fields.specs.declared.session.HeadersParseError.TheVariants.{MissingMethod}
use Rattle.wtp_fields.specs.declared.session.HeadersParseError.TheVariants.{MethodNotConnect}
use Rattle.wtp_fields.specs.declared.session.HeadersParseError.TheVariants.{MissingScheme}
use Rattle.wtp_fields.specs.declared.session.HeadersParseError.TheVariants.{SchemeNotHttps}
use Rattle.wtp_fields.specs.declared.session.HeadersParseError.TheVariants.{MissingProtocol}
use Rattle.wtp_fields.specs.declared.session.HeadersParseError.TheVariants.{ProtocolNotWebTransport}
use Rattle.wtp_fields.specs.declared.session.HeadersParseError.TheVariants.{MissingAuthority}
use Rattle.wtp_fields.specs.declared.session.HeadersParseError.TheVariants.{MissingPath}
use Rattle.wtp_fields.specs.declared.session.request.UrlParseError.{UrlParseError}
use Rattle.wtp_fields.specs.declared.session.request.UrlParseError.TheVariants as answered
use Rattle.wtp_qpack.specs.Field.{Field, field_map, field_value}
use Rattle.wtp_fields.specs.Headers.{headers_at}

-- ---- the fields that a request must have

-- the names of the fields that every request sets itself
abbrev pub reserved_names : List (List ℕ)
reserved_names =
    codes ":method" ∷ codes ":scheme" ∷ codes ":protocol" ∷ codes ":authority" ∷ codes ":path" ∷ []

-- the name is one of the five reserved names
abbrev pub is_reserved_name : List ℕ → Bool
is_reserved_name name = list_any (λ reserved. bytes_eq reserved name) reserved_names

-- the error of a field that must have this value
abbrev pub fault_unless : List ℕ → HeadersParseError → HeadersParseError → Option (List ℕ)
    → Option HeadersParseError
fault_unless text missing other None = Some missing
fault_unless text missing other (Some value) = if bytes_eq value text then None else Some other

-- the error of a field that must exist
abbrev pub fault_without : HeadersParseError → Option (List ℕ) → Option HeadersParseError
fault_without missing None = Some missing
fault_without missing (Some value) = None

-- the first error in the list
abbrev pub first_fault : List (Option HeadersParseError) → Option HeadersParseError
first_fault [] = None
first_fault (Some fault ∷ faults) = Some fault
first_fault (None ∷ faults) = first_fault faults

-- the first error of a request's fields, in this order; None for a valid request
unfoldable pub fault_of : List Field → Option HeadersParseError
fault_of m = first_fault (
    fault_unless (codes "CONNECT") MissingMethod MethodNotConnect
    (field_value (codes ":method") m)
    ∷ fault_unless (codes "https") MissingScheme SchemeNotHttps
    (field_value (codes ":scheme") m)
    ∷ fault_unless (codes "webtransport") MissingProtocol ProtocolNotWebTransport
    (field_value (codes ":protocol") m)
    ∷ fault_without MissingAuthority (field_value (codes ":authority") m)
    ∷ fault_without MissingPath (field_value (codes ":path") m)
    ∷ [])

-- ---- the request for a URL

-- the user part of an authority: user name and password, with their delimiters (RFC 3986, section
-- 3.2.1)
abbrev pub user_part : Parts → List ℕ
user_part url =
    url.username
    ++ (when (not (is_empty url.password)) (codes ":")
    ++ (url.password ++ when (has_credentials url) (codes "@")))

-- the port with its colon, if the URL has one, which is never the default port of its scheme
abbrev pub port_part : Parts → List ℕ
port_part url = when (is_some url.port) (codes ":") ++ unwrap_or (option_map decimal url.port) []

-- the authority of a URL (RFC 3986, section 3.2)
unfoldable pub authority_of : Parts → List ℕ
authority_of url = user_part url ++ (host_text (host_or_empty url) ++ port_part url)

-- the path, followed by a question mark and the query if there is one
abbrev pub with_query : List ℕ → Option (List ℕ) → List ℕ
with_query path None = path
with_query path (Some query) = path ++ 63 ∷ query

-- the map of the five fields of a request
unfoldable pub five_fields : List ℕ → List ℕ → List Field
five_fields authority path = field_map (
    (codes ":method", codes "CONNECT")
    ∷ (codes ":scheme", codes "https")
    ∷ (codes ":protocol", codes "webtransport")
    ∷ (codes ":authority", authority)
    ∷ (codes ":path", path)
    ∷ [])

-- the request for a URL, as a map; its scheme must be https
unfoldable pub request_for : Parts → Result (List Field) UrlParseError
request_for url =
    if bytes_eq url.scheme (codes "https")
    then Ok (five_fields (authority_of url) (with_query url.path url.query))
    else Err answered.SchemeNotHttps

-- the error for an error of the URL parser
abbrev pub url_error_of : ParseError → UrlParseError
url_error_of parsing.EmptyHost = answered.EmptyHost
url_error_of parsing.IdnaError = answered.IdnaError
url_error_of parsing.InvalidPort = answered.InvalidPort
url_error_of parsing.InvalidIpv4Address = answered.InvalidIpv4Address
url_error_of parsing.InvalidIpv6Address = answered.InvalidIpv6Address
url_error_of parsing.InvalidDomainCharacter = answered.InvalidDomainCharacter
url_error_of parsing.RelativeUrlWithoutBase = answered.RelativeUrlWithoutBase
url_error_of parsing.RelativeUrlWithCannotBeABaseBase = answered.RelativeUrlWithCannotBeABaseBase
url_error_of parsing.SetHostOnCannotBeABaseUrl = answered.SetHostOnCannotBeABaseUrl
url_error_of parsing.Overflow = answered.Overflow
url_error_of parsing.CannotSet = answered.Unknown
url_error_of parsing.OutOfMemory = answered.Memory

-- the request for a parsed URL, or the error
abbrev pub request_at : Parsed Parts → Result (List Field) UrlParseError
request_at (Err fault) = Err (url_error_of fault)
request_at (Ok url) = request_for url

-- ---- the request in a frame

-- the map, or Message if it has an error: the message is malformed (RFC 9114, section 4.1.2)
abbrev pub or_message : Option HeadersParseError → List Field → Result (List Field) Refused
or_message None m = Ok m
or_message (Some fault) m = Err (Code Message)

-- the request of a header map, or the error code
abbrev pub request_by : Result (List Field) Refused → Result (List Field) Refused
request_by (Ok m) = or_message (fault_of m) m
request_by (Err refused) = Err refused

-- the request in a frame, or the error code
abbrev pub request_in : Content → Result (List Field) Refused
request_in (PlainOf Headers payload) = request_by (headers_at payload)
request_in f = Err (Code FrameUnexpected)
