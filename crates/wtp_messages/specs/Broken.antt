-- The words in which laws say that a message is malformed (RFC 9114, sections 4.1.2 to 4.4).
use Rattle.std.specs.Prelude.{◌≡◌, ◌⊎◌, ℕ, ◌<◌, Bool, false, List, ◌∷◌, ◌++◌, Some, codes}
use Rattle.std.specs.Prelude.{◌==◌, ◌≤◌, ◌^◌, not, ◌&&◌}
use Rattle.std.specs.List.{list_all}
use Rattle.std.specs.Str.Parse.{digits_value}
use Rattle.wtp_messages.specs.Length.{is_digit}
use Rattle.wtp_qpack.specs.Field.{Field, field_value}
use Rattle.wtp_messages.specs.declared.malformed.Malformed.{Malformed}
use Rattle.wtp_messages.specs.declared.response.Asked.{Asked}
use Rattle.wtp_messages.specs.declared.section.SectionKind.{SectionKind}
use Rattle.wtp_messages.specs.Names.{is_some_text, has_field}
use Rattle.wtp_messages.specs.Request.{IsWellFormed}
use Rattle.wtp_messages.specs.Response.{response_breaks}
use Rattle.wtp_messages.specs.Section.{IsSection}

-- ---- lines

-- No section of this kind has a line with this name and this value, whatever is beside it.
abbrev pub RefusesLine : SectionKind → List ℕ → List ℕ → Type 0
RefusesLine kind name value =
    (before after : List Field) → IsSection kind (before ++ (name, value) ∷ after) → ⊥

-- a control character other than a tab
abbrev pub IsControl : ℕ → Type 0
IsControl byte = ((byte < 32) × (byte ≡ 9 → ⊥)) ⊎ (byte ≡ 127)

-- a space or a tab
abbrev pub IsBlank : ℕ → Type 0
IsBlank byte = (byte ≡ 32) ⊎ (byte ≡ 9)

-- no comma, space or tab
abbrev pub is_solid : ℕ → Bool
is_solid b = not (b == 44) && not (b == 32) && not (b == 9)

-- The text is no decimal number below 2^62.
abbrev pub IsNoNumber : List ℕ → Type 0
IsNoNumber text =
    (is_some_text text ≡ false)
    ⊎ ((list_all is_digit text ≡ false) ⊎ (2 ^ 62 ≤ digits_value 10 text))

-- ---- requests

-- the first field of this name has this value
abbrev pub Has : List ℕ → List ℕ → List Field → Type 0
Has name value fields = field_value name fields ≡ Some value

-- there is no field of this name
abbrev pub Lacks : List ℕ → List Field → Type 0
Lacks name fields = has_field name fields ≡ false

abbrev pub IsConnect : List Field → Type 0
IsConnect fields = Has (codes ":method") (codes "CONNECT") fields

abbrev pub IsHttp : List Field → Type 0
IsHttp fields =
    Has (codes ":scheme") (codes "http") fields ⊎ Has (codes ":scheme") (codes "https") fields

abbrev pub IsForSession : List Field → Type 0
IsForSession fields = Has (codes ":protocol") (codes "webtransport") fields

-- the request must have an authority
abbrev pub NeedsAuthority : List Field → Type 0
NeedsAuthority fields = IsConnect fields ⊎ IsHttp fields

-- No server takes these fields as a request, whether or not it allows extended CONNECT.
abbrev pub IsRefused : List Field → Type 0
IsRefused fields = (extended : Bool) → IsWellFormed extended fields → ⊥

-- ---- responses

-- The response breaks no rule.
abbrev pub IsWellFormedResponse : Asked → List Field → Type 0
IsWellFormedResponse kind fields = (rule : Malformed) → response_breaks kind fields rule ≡ false

-- No client takes these fields as a response to the request.
abbrev pub IsRefusedResponse : Asked → List Field → Type 0
IsRefusedResponse kind fields = IsWellFormedResponse kind fields → ⊥
