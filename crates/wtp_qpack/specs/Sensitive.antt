-- Fields whose values an attacker who shares the connection could guess, so that they are never indexed
-- (RFC 9204, section 7.1.3). The names are those of nghttp3, and proxy-authorization and set-cookie.
use Rattle.std.specs.Prelude.{ℕ, nat_lt, Bool, ◌&&◌, ◌||◌, List, [], ◌∷◌, length, codes}
use Rattle.std.specs.List.{list_any}
use Rattle.std.specs.Str.{bytes_eq}
use Rattle.wtp_qpack.specs.Field.{Field}

-- credentials, and cookies that are set
abbrev pub secret_names : List (List ℕ)
secret_names =
    codes "authorization" ∷ codes "proxy-authorization" ∷ codes "set-cookie" ∷ []

-- a cookie of so few bytes that it can be guessed
abbrev pub is_short_cookie : Field → Bool
is_short_cookie field = bytes_eq field.0 (codes "cookie") && nat_lt (length field.1) 20

-- the field is never indexed
abbrev pub is_sensitive : Field → Bool
is_sensitive field =
    list_any (λ secret. bytes_eq field.0 secret) secret_names || is_short_cookie field
