-- The fields of requests (RFC 9114, section 4.3.1).
use Rattle.std.specs.Prelude.{ℕ, List, [], ◌∷◌, codes}
use Rattle.wtp_qpack.specs.Field.{Field}

-- one of the scheme https
abbrev pub request_of : (method authority path : List ℕ) → List Field
request_of method authority path =
    (codes ":method", method) ∷ (codes ":scheme", codes "https")
    ∷ (codes ":authority", authority) ∷ (codes ":path", path) ∷ []
