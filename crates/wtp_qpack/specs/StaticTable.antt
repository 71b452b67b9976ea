-- The static table (RFC 9204, section 3.1 and Appendix A).
use Rattle.std.specs.Prelude.{◌≡◌, ◌≢◌, ℕ, ◌<◌, Bool, ◌&&◌, List, [], ◌∷◌, Option, Some, None, codes, position, slice_get}
use Rattle.std.specs.Str.{bytes_eq}
use Rattle.wtp_qpack.specs.Field.{Field}

-- names and values, by index
unfoldable pub static_table : List Field
static_table =
    -- from 0 on
    (codes ":authority", codes "")
    ∷ (codes ":path", codes "/")
    ∷ (codes "age", codes "0")
    ∷ (codes "content-disposition", codes "")
    ∷ (codes "content-length", codes "0")
    ∷ (codes "cookie", codes "")
    ∷ (codes "date", codes "")
    ∷ (codes "etag", codes "")
    ∷ (codes "if-modified-since", codes "")
    ∷ (codes "if-none-match", codes "")
    -- from 10 on
    ∷ (codes "last-modified", codes "")
    ∷ (codes "link", codes "")
    ∷ (codes "location", codes "")
    ∷ (codes "referer", codes "")
    ∷ (codes "set-cookie", codes "")
    ∷ (codes ":method", codes "CONNECT")
    ∷ (codes ":method", codes "DELETE")
    ∷ (codes ":method", codes "GET")
    ∷ (codes ":method", codes "HEAD")
    ∷ (codes ":method", codes "OPTIONS")
    -- from 20 on
    ∷ (codes ":method", codes "POST")
    ∷ (codes ":method", codes "PUT")
    ∷ (codes ":scheme", codes "http")
    ∷ (codes ":scheme", codes "https")
    ∷ (codes ":status", codes "103")
    ∷ (codes ":status", codes "200")
    ∷ (codes ":status", codes "304")
    ∷ (codes ":status", codes "404")
    ∷ (codes ":status", codes "503")
    ∷ (codes "accept", codes "*/*")
    -- from 30 on
    ∷ (codes "accept", codes "application/dns-message")
    ∷ (codes "accept-encoding", codes "gzip, deflate, br")
    ∷ (codes "accept-ranges", codes "bytes")
    ∷ (codes "access-control-allow-headers", codes "cache-control")
    ∷ (codes "access-control-allow-headers", codes "content-type")
    ∷ (codes "access-control-allow-origin", codes "*")
    ∷ (codes "cache-control", codes "max-age=0")
    ∷ (codes "cache-control", codes "max-age=2592000")
    ∷ (codes "cache-control", codes "max-age=604800")
    ∷ (codes "cache-control", codes "no-cache")
    -- from 40 on
    ∷ (codes "cache-control", codes "no-store")
    ∷ (codes "cache-control", codes "public, max-age=31536000")
    ∷ (codes "content-encoding", codes "br")
    ∷ (codes "content-encoding", codes "gzip")
    ∷ (codes "content-type", codes "application/dns-message")
    ∷ (codes "content-type", codes "application/javascript")
    ∷ (codes "content-type", codes "application/json")
    ∷ (codes "content-type", codes "application/x-www-form-urlencoded")
    ∷ (codes "content-type", codes "image/gif")
    ∷ (codes "content-type", codes "image/jpeg")
    -- from 50 on
    ∷ (codes "content-type", codes "image/png")
    ∷ (codes "content-type", codes "text/css")
    ∷ (codes "content-type", codes "text/html; charset=utf-8")
    ∷ (codes "content-type", codes "text/plain")
    ∷ (codes "content-type", codes "text/plain;charset=utf-8")
    ∷ (codes "range", codes "bytes=0-")
    ∷ (codes "strict-transport-security", codes "max-age=31536000")
    ∷ (codes "strict-transport-security", codes "max-age=31536000; includesubdomains")
    ∷ (codes "strict-transport-security", codes "max-age=31536000; includesubdomains; preload")
    ∷ (codes "vary", codes "accept-encoding")
    -- from 60 on
    ∷ (codes "vary", codes "origin")
    ∷ (codes "x-content-type-options", codes "nosniff")
    ∷ (codes "x-xss-protection", codes "1; mode=block")
    ∷ (codes ":status", codes "100")
    ∷ (codes ":status", codes "204")
    ∷ (codes ":status", codes "206")
    ∷ (codes ":status", codes "302")
    ∷ (codes ":status", codes "400")
    ∷ (codes ":status", codes "403")
    ∷ (codes ":status", codes "421")
    -- from 70 on
    ∷ (codes ":status", codes "425")
    ∷ (codes ":status", codes "500")
    ∷ (codes "accept-language", codes "")
    ∷ (codes "access-control-allow-credentials", codes "FALSE")
    ∷ (codes "access-control-allow-credentials", codes "TRUE")
    ∷ (codes "access-control-allow-headers", codes "*")
    ∷ (codes "access-control-allow-methods", codes "get")
    ∷ (codes "access-control-allow-methods", codes "get, post, options")
    ∷ (codes "access-control-allow-methods", codes "options")
    ∷ (codes "access-control-expose-headers", codes "content-length")
    -- from 80 on
    ∷ (codes "access-control-request-headers", codes "content-type")
    ∷ (codes "access-control-request-method", codes "get")
    ∷ (codes "access-control-request-method", codes "post")
    ∷ (codes "alt-svc", codes "clear")
    ∷ (codes "authorization", codes "")
    ∷ (codes "content-security-policy", codes "script-src 'none'; object-src 'none'; base-uri 'none'")
    ∷ (codes "early-data", codes "1")
    ∷ (codes "expect-ct", codes "")
    ∷ (codes "forwarded", codes "")
    ∷ (codes "if-range", codes "")
    -- from 90 on
    ∷ (codes "origin", codes "")
    ∷ (codes "purpose", codes "prefetch")
    ∷ (codes "server", codes "")
    ∷ (codes "timing-allow-origin", codes "*")
    ∷ (codes "upgrade-insecure-requests", codes "1")
    ∷ (codes "user-agent", codes "")
    ∷ (codes "x-forwarded-for", codes "")
    ∷ (codes "x-frame-options", codes "deny")
    ∷ (codes "x-frame-options", codes "sameorigin")
    ∷ []

-- the entry of an index
abbrev pub entry_at : ℕ → Option Field
entry_at k = slice_get static_table k

-- the index of the first entry of a name
abbrev pub first_entry : List ℕ → Option ℕ
first_entry name = position (λ (e : Field). bytes_eq e.0 name) static_table

-- the entry of an index has a name
abbrev pub IsNamed : ℕ → List ℕ → Type 0
IsNamed index name = (entry : Field) × (entry_at index ≡ Some entry) × (entry.0 ≡ name)

-- the first entry that is a field; nothing is found only if there is none
abbrev pub FindsStatic : Field → Option ℕ → Type 0
FindsStatic field None = (index : ℕ) → entry_at index ≢ Some field
FindsStatic field (Some index) =
    (entry_at index ≡ Some field) × ((lower : ℕ) → lower < index → entry_at lower ≢ Some field)

-- the entry has the name and the value of a field
abbrev pub is_entry : Field → Field → Bool
is_entry field entry = bytes_eq entry.0 field.0 && bytes_eq entry.1 field.1

-- the index of the entry that is a field, if there is one
abbrev pub exact_entry : Field → Option ℕ
exact_entry field = position (is_entry field) static_table
