-- Messages of plain fields: lists that are well formed whatever their values are, and what they say
-- (RFC 9114, section 4).
use Rattle.std.specs.Prelude.{◌≡◌, ◌==◌, ◌≤◌, ℕ, nat_lt, Bool, true, false, not, ◌&&◌, List, [], ◌∷◌, ◌++◌, codes}
use Rattle.std.specs.Prelude.{Option, Some, Result, MatchResult}
use Rattle.std.specs.Prelude.{◌<◌, ◌^◌, if◌then◌else◌}
use Rattle.std.specs.List.{list_all}
use Rattle.std.specs.Str.Parse.{digits_value}
use Rattle.std.specs.Option.{option_copied}
use Rattle.wtp_qpack.specs.Field.{Field}
use Rattle.wtp_fields.specs.FieldWriting.{is_field_value, request_fields}
use Rattle.wtp_fields.specs.FieldMessages.{three_digits}
use Rattle.wtp_messages.specs.declared.malformed.Malformed.{Malformed}
use Rattle.wtp_messages.specs.declared.request.Request.{Request}
use Rattle.wtp_messages.specs.declared.response.Asked.{Asked}
use Rattle.wtp_messages.specs.declared.response.Asked.TheVariants as asked
use Rattle.wtp_messages.specs.declared.response.Response.{Response}
use Rattle.wtp_messages.specs.Authority.{IsAuthority}
use Rattle.wtp_messages.specs.Content.{content_of}
use Rattle.wtp_messages.specs.Length.{is_digit}
use Rattle.wtp_messages.specs.Names.{starts_with, is_some_text, is_whole_token, is_field_name, is_one_of}
use Rattle.wtp_messages.specs.Request.{request_breaks, IsRequest}
use Rattle.wtp_messages.specs.Response.{expected, response_breaks, IsResponse}
use Rattle.wtp_messages.specs.Section.{is_connection_field}

-- ---- plain fields

-- names of regular fields to which rules of their own apply, besides those of connections; of fields
-- that may announce a length, without that of lengths
abbrev pub own_names : Bool → List (List ℕ)
own_names counted =
    codes "te"
    ∷ codes "host"
    ∷ codes "content-type"
    ∷ (if counted then [] else codes "content-length" ∷ [])

-- The name is a token without upper-case letters, the value is valid, and no rule of its own applies.
abbrev pub is_free : Bool → Field → Bool
is_free counted field =
    is_field_name field.0
    && is_field_value field.1
    && not (is_connection_field field)
    && not (is_one_of (own_names counted) field.0)

-- the same of a field that announces no length
abbrev pub is_plain : Field → Bool
is_plain = is_free false

-- decimal digits that denote this number, which is below 2^62
pub record IsNumber (text : List ℕ) (n : ℕ) : Type 0 where
  pub some : is_some_text text ≡ true
  pub digits : list_all is_digit text ≡ true
  pub value : digits_value 10 text ≡ n
  pub small : n < 2 ^ 62

-- ---- requests

-- an https request other than CONNECT
abbrev pub request_list : List ℕ → List ℕ → List ℕ → List Field → List Field
request_list method authority path others =
    (codes ":method", method)
    ∷ (codes ":scheme", codes "https")
    ∷ (codes ":authority", authority)
    ∷ (codes ":path", path)
    ∷ others

-- a request for a session of WebTransport, as a client writes it
abbrev pub session_list : List ℕ → List ℕ → List Field → List Field
session_list authority path others = request_fields authority path ++ others

-- a CONNECT without :protocol
abbrev pub tunnel_list : List ℕ → List Field → List Field
tunnel_list authority others =
    (codes ":method", codes "CONNECT") ∷ (codes ":authority", authority) ∷ others

-- The byte is allowed in a path: no control character, no space and no number sign.
abbrev pub is_in_path : ℕ → Bool
is_in_path byte = nat_lt 32 byte && not (byte == 127) && not (byte == 35)

-- an authority, and a path that starts with a slash
pub record IsTarget (authority path : List ℕ) : Type 0 where
  pub host : IsAuthority false authority
  pub slash : starts_with 47 path ≡ true
  pub bytes : list_all is_in_path path ≡ true

-- a method, which is another than CONNECT
pub record IsMethod (method : List ℕ) : Type 0 where
  pub token : is_whole_token method ≡ true
  pub other : method ≡ codes "CONNECT" → ⊥

-- The request has these values, and announces this length, or none.
pub record Says (m : List ℕ) (s : Option (List ℕ)) (a : List ℕ) (p t : Option (List ℕ))
    (announced : Option ℕ) (request : Request) : Type 0 where
  pub method : request.method.now ≡ m
  pub scheme : option_copied request.scheme ≡ s
  pub authority : option_copied request.authority ≡ Some a
  pub path : option_copied request.path ≡ p
  pub protocol : option_copied request.protocol ≡ t
  pub content : request.content ≡ content_of announced

-- each result that the contract of `Request::read` allows for these fields is a request of which
-- this holds
abbrev pub ReadsRequest : Bool → List Field → (Request → Type 0) → Type 0
ReadsRequest extended fields says =
    (r : Result Request Malformed)
    → MatchResult r (IsRequest extended fields) (λ rule. request_breaks extended fields rule ≡ true)
    → MatchResult r says (λ rule. ⊥)

-- ---- responses

abbrev pub response_list : List ℕ → List Field → List Field
response_list text others = (codes ":status", text) ∷ others

-- three digits that denote this status, which is from 100 on and not 101
pub record IsStatus (text : List ℕ) (code : ℕ) : Type 0 where
  pub digits : list_all is_digit text ≡ true
  pub is : three_digits text ≡ Some code
  pub low : 100 ≤ code
  pub other : code ≡ 101 → ⊥

-- A response to the request may have this status. A session is not accepted with 204, 205 or 206 (RFC
-- 9297, section 3.2).
abbrev pub IsAnswer : Asked → ℕ → Type 0
IsAnswer asked.Session code = (code ≡ 204 → ⊥) × (code ≡ 205 → ⊥) × (code ≡ 206 → ⊥)
IsAnswer asked.Head code = Unit {0}
IsAnswer asked.Connect code = Unit {0}
IsAnswer asked.Other code = Unit {0}

-- The response has this status, and the content that a response with it has to such a request.
pub record SaysStatus (kind : Asked) (code : ℕ) (announced : Option ℕ) (response : Response) : Type 0 where
  pub status : response.status ≡ code
  pub content : response.content ≡ content_of (expected kind code announced)

-- each result that the contract of `Response::read` allows for these fields is a response of which
-- this holds
abbrev pub ReadsResponse : Asked → List Field → (Response → Type 0) → Type 0
ReadsResponse kind fields says =
    (r : Result Response Malformed)
    → MatchResult r (IsResponse kind fields) (λ rule. response_breaks kind fields rule ≡ true)
    → MatchResult r says (λ rule. ⊥)

-- ---- worked fields

-- what a browser sends besides
abbrev pub browser_fields : List Field
browser_fields =
    (codes "user-agent", codes "Mozilla/5.0 (X11; Linux x86_64)")
    ∷ (codes "accept", codes "*/*")
    ∷ (codes "x-empty", [])
    ∷ (codes "cookie", codes "a=b")
    ∷ (codes "cookie", codes "c=d")
    ∷ []

-- and in a request for a session
abbrev pub session_fields : List Field
session_fields =
    (codes "sec-webtransport-http3-draft02", codes "1")
    ∷ (codes "origin", codes "https://localhost")
    ∷ []
