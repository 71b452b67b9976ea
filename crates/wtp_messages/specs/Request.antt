-- Requests (RFC 9114, sections 4.3.1 and 4.4; RFC 8441, section 4; RFC 9297, section 3.2).
use Rattle.std.specs.Prelude.{ℕ, ◌≡◌, ◌==◌, nat_lt, Bool, false, not, ◌&&◌, ◌||◌, List, [], ◌∷◌, length, codes}
use Rattle.std.specs.Prelude.{Option, Some, None, is_some}
use Rattle.std.specs.List.{list_all}
use Rattle.std.specs.Option.{option_copied}
use Rattle.std.specs.Str.{bytes_eq, str_eq_ignore_ascii_case}
use Rattle.wtp_qpack.specs.Field.{Field, field_value}
use Rattle.wtp_fields.specs.FieldWriting.{is_alphanumeric, is_upper}
use Rattle.wtp_fields.specs.FieldList.{values_of}
use Rattle.wtp_messages.specs.Names.{starts_with, is_some_text, is_whole_token, has_field, is_and, is_and_not, has_value}
use Rattle.wtp_messages.specs.Authority.{is_authority}
use Rattle.wtp_messages.specs.Section.{section_breaks}
use Rattle.wtp_messages.specs.Length.{content_length}
use Rattle.wtp_messages.specs.Content.{content_of}
use Rattle.wtp_messages.specs.declared.section.SectionKind.TheVariants as section
use Rattle.wtp_messages.specs.declared.request.Request.{Request}
use Rattle.wtp_messages.specs.declared.malformed.Malformed.{Malformed}
use Rattle.wtp_messages.specs.declared.malformed.Malformed.TheVariants.{MissingMethod, InvalidMethod}
use Rattle.wtp_messages.specs.declared.malformed.Malformed.TheVariants.{MissingScheme, InvalidScheme}
use Rattle.wtp_messages.specs.declared.malformed.Malformed.TheVariants.{MissingPath, InvalidPath}
use Rattle.wtp_messages.specs.declared.malformed.Malformed.TheVariants.{MissingAuthority}
use Rattle.wtp_messages.specs.declared.malformed.Malformed.TheVariants.{InvalidAuthority}
use Rattle.wtp_messages.specs.declared.malformed.Malformed.TheVariants.{ConnectWithTarget}
use Rattle.wtp_messages.specs.declared.malformed.Malformed.TheVariants.{UnexpectedProtocol}
use Rattle.wtp_messages.specs.declared.malformed.Malformed.TheVariants.{InvalidProtocol}
use Rattle.wtp_messages.specs.declared.malformed.Malformed.TheVariants.{ContentField}

-- ---- the pseudo-header fields

abbrev pub method_of : List Field → Option (List ℕ)
method_of fields = field_value (codes ":method") fields

abbrev pub scheme_of : List Field → Option (List ℕ)
scheme_of fields = field_value (codes ":scheme") fields

abbrev pub authority_of : List Field → Option (List ℕ)
authority_of fields = field_value (codes ":authority") fields

abbrev pub path_of : List Field → Option (List ℕ)
path_of fields = field_value (codes ":path") fields

abbrev pub protocol_of : List Field → Option (List ℕ)
protocol_of fields = field_value (codes ":protocol") fields

-- ---- the kinds of requests

-- the method is CONNECT
abbrev pub is_connect : List Field → Bool
is_connect fields = has_value (codes ":method") (codes "CONNECT") fields

-- the request is a CONNECT without :protocol (RFC 9114, section 4.4)
abbrev pub is_plain_connect : List Field → Bool
is_plain_connect fields = is_connect fields && not (is_some (protocol_of fields))

-- the request asks for a session of WebTransport
abbrev pub asks_for_session : List Field → Bool
asks_for_session fields = has_value (codes ":protocol") (codes "webtransport") fields

-- the scheme is this one, whatever the case of its letters (RFC 3986, section 3.1)
abbrev pub has_scheme : List ℕ → List Field → Bool
has_scheme scheme fields = is_and (λ value. str_eq_ignore_ascii_case value scheme) (scheme_of fields)

-- the scheme is http or https
abbrev pub is_http : List Field → Bool
is_http fields = has_scheme (codes "http") fields || has_scheme (codes "https") fields

-- the request must have an authority
abbrev pub needs_authority : List Field → Bool
needs_authority fields = is_connect fields || is_http fields

-- ---- schemes

-- the byte is a letter
abbrev pub is_letter : ℕ → Bool
is_letter byte = is_upper byte || (nat_lt 96 byte && nat_lt byte 123)

-- the byte is allowed in a scheme: a letter, a digit, a plus sign, a hyphen or a dot
abbrev pub is_scheme_byte : ℕ → Bool
is_scheme_byte byte = is_alphanumeric byte || byte == 43 || byte == 45 || byte == 46

-- the text is a scheme (RFC 3986, section 3.1)
abbrev pub is_scheme : List ℕ → Bool
is_scheme [] = false
is_scheme (first ∷ others) = is_letter first && list_all is_scheme_byte others

-- ---- paths

-- the byte is allowed in a path: no control character, space or number sign
abbrev pub is_path_byte : ℕ → Bool
is_path_byte byte = nat_lt 32 byte && not (byte == 127) && not (byte == 35)

-- the text is a path of a URI with the scheme http or https: it starts with a slash, or it is an
-- asterisk in an OPTIONS request (RFC 9114, section 4.3.1)
abbrev pub is_path : Bool → List ℕ → Bool
is_path options text =
    (starts_with 47 text && list_all is_path_byte text) || (options && bytes_eq text (codes "*"))

-- the method is OPTIONS
abbrev pub is_options : List Field → Bool
is_options fields = has_value (codes ":method") (codes "OPTIONS") fields

-- ---- authorities

-- the value of the first host field
abbrev pub host_of : List Field → Option (List ℕ)
host_of fields = field_value (codes "host") fields

-- there is no authority
abbrev pub has_no_authority : List Field → Bool
has_no_authority fields =
    not (is_some (authority_of fields))
    && (is_plain_connect fields || not (has_field (codes "host") fields))

-- there is no authority, or an empty one
abbrev pub lacks_authority : List Field → Bool
lacks_authority fields =
    has_no_authority fields
    || is_and_not is_some_text (authority_of fields)
    || is_and_not is_some_text (host_of fields)

-- both are there and differ, whatever the case of their letters
abbrev pub differ : Option (List ℕ) → Option (List ℕ) → Bool
differ None host = false
differ (Some authority) host =
    is_and (λ other. not (str_eq_ignore_ascii_case authority other)) host

-- There are two hosts, or the authority is invalid: it is none of RFC 3986, section 3.2, or it has user
-- information (RFC 9110, section 4.2.4), or it has no port in a CONNECT without :protocol (RFC 9114,
-- section 4.4), or :authority and host differ.
abbrev pub has_bad_authority : List Field → Bool
has_bad_authority fields =
    nat_lt 1 (length (values_of (codes "host") fields))
    || is_and_not (is_authority (is_plain_connect fields)) (authority_of fields)
    || is_and_not (is_authority (is_plain_connect fields)) (host_of fields)
    || differ (authority_of fields) (host_of fields)

-- ---- the table

-- The request breaks this rule of requests. The endpoint allows extended CONNECT, or not.
abbrev pub head_breaks : Bool → List Field → Malformed → Bool
head_breaks extended fields MissingMethod = not (is_some (method_of fields))
head_breaks extended fields InvalidMethod = is_and_not is_whole_token (method_of fields)
head_breaks extended fields MissingScheme =
    not (is_plain_connect fields) && not (is_some (scheme_of fields))
head_breaks extended fields InvalidScheme =
    is_and_not is_scheme (scheme_of fields)
    || (asks_for_session fields && not (has_scheme (codes "https") fields))
head_breaks extended fields MissingPath =
    not (is_plain_connect fields) && not (is_some (path_of fields))
head_breaks extended fields InvalidPath =
    is_http fields && is_and_not (is_path (is_options fields)) (path_of fields)
head_breaks extended fields MissingAuthority =
    needs_authority fields && lacks_authority fields
head_breaks extended fields InvalidAuthority =
    needs_authority fields && has_bad_authority fields
head_breaks extended fields ConnectWithTarget =
    is_plain_connect fields && (is_some (scheme_of fields) || is_some (path_of fields))
head_breaks extended fields UnexpectedProtocol =
    is_some (protocol_of fields) && not (extended && is_connect fields)
head_breaks extended fields InvalidProtocol = is_and_not is_whole_token (protocol_of fields)
head_breaks extended fields ContentField =
    asks_for_session fields
    && (has_field (codes "content-length") fields || has_field (codes "content-type") fields)
head_breaks extended fields _ = false

-- The request breaks this rule, of every section or of requests.
unfoldable pub request_breaks : Bool → List Field → Malformed → Bool
request_breaks extended fields rule =
    section_breaks section.Request fields rule || head_breaks extended fields rule

-- the request breaks no rule on its method and its protocol
pub record HasMethod (extended : Bool) (fields : List Field) : Type 0 where
  pub some : head_breaks extended fields MissingMethod ≡ false
  pub valid : head_breaks extended fields InvalidMethod ≡ false
  pub expected : head_breaks extended fields UnexpectedProtocol ≡ false
  pub protocol : head_breaks extended fields InvalidProtocol ≡ false

-- the request breaks no rule on its scheme and its path, but that of a session's scheme
pub record HasTarget (extended : Bool) (fields : List Field) : Type 0 where
  pub scheme : head_breaks extended fields MissingScheme ≡ false
  pub is_scheme : is_and_not is_scheme (scheme_of fields) ≡ false
  pub path : head_breaks extended fields MissingPath ≡ false
  pub is_path : head_breaks extended fields InvalidPath ≡ false
  pub connect : head_breaks extended fields ConnectWithTarget ≡ false

-- the request breaks no rule on its authority
pub record HasAuthority (extended : Bool) (fields : List Field) : Type 0 where
  pub some : head_breaks extended fields MissingAuthority ≡ false
  pub valid : head_breaks extended fields InvalidAuthority ≡ false

-- the request breaks no rule of sessions
pub record HasNoContentField (extended : Bool) (fields : List Field) : Type 0 where
  pub https : (asks_for_session fields && not (has_scheme (codes "https") fields)) ≡ false
  pub none : head_breaks extended fields ContentField ≡ false

-- The request breaks no rule.
abbrev pub IsWellFormed : Bool → List Field → Type 0
IsWellFormed extended fields = (rule : Malformed) → request_breaks extended fields rule ≡ false

-- The first one, or else the other.
abbrev pub or_host : Option (List ℕ) → Option (List ℕ) → Option (List ℕ)
or_host (Some authority) host = Some authority
or_host None host = host

-- what a well-formed request says
pub record IsRequest (extended : Bool) (fields : List Field) (request : Request) : Type 0 where
  pub well_formed : IsWellFormed extended fields
  pub method : method_of fields ≡ Some request.method.now
  pub scheme : scheme_of fields ≡ option_copied request.scheme
  pub authority : or_host (authority_of fields) (host_of fields) ≡ option_copied request.authority
  pub path : path_of fields ≡ option_copied request.path
  pub protocol : protocol_of fields ≡ option_copied request.protocol
  pub content : content_of (content_length fields) ≡ request.content
