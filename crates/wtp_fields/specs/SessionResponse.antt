-- The response to the request for a session, as a header map (RFC 9114, section 4.3.2).
use Rattle.std.specs.Prelude.{◌≡◌, ◌⊎◌, ℕ, List, [], ◌∷◌, codes, decimal, Option, Some, None}
use Rattle.std.specs.Prelude.{IsSomeAnd, Result, Err, MatchResult}
use Rattle.wtp_core.specs.Ids.{IsStatusText, status_in}
use Rattle.wtp_fields.specs.declared.session.HeadersParseError.{HeadersParseError}
use Rattle.wtp_fields.specs.declared.session.HeadersParseError.TheVariants.{MissingStatusCode}
use Rattle.wtp_fields.specs.declared.session.HeadersParseError.TheVariants.{InvalidStatusCode}
use Rattle.wtp_fields.specs.declared.session.HeadersParseError.TheVariants.{Memory}
use Rattle.wtp_qpack.specs.Field.{Field, field_value}

-- the value of `:status`, if there is one
abbrev pub status_value : List Field → Option (List ℕ)
status_value m = field_value (codes ":status") m

-- the map has a `:status` field whose value is a status code
unfoldable pub HasStatus : List Field → Type 0
HasStatus m = IsSomeAnd (status_value m) IsStatusText

-- the map with only `:status`, with the code in decimal
abbrev pub status_alone : ℕ → List Field
status_alone code = (codes ":status", decimal code) ∷ []

-- the result is a response with only this status code, or the error
abbrev pub ByStatus : Option (List ℕ) → Result (List Field) HeadersParseError → Type 0
ByStatus None result = result ≡ Err MissingStatusCode
ByStatus (Some text) result =
    MatchResult result (λ response. IsStatusText text × (response ≡ status_alone (status_in text)))
    (λ e. ((e ≡ InvalidStatusCode) × ¬ IsStatusText text) ⊎ ((e ≡ Memory) × IsStatusText text))
