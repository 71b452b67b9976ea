-- Field lists of messages to send.
use Rattle.std.proofs.Common.{◌≡◌, ◌⊎◌, inl, inr, ℕ, zero, suc, ◌+◌, ◌<◌, ◌≤◌, ◌==◌, ◌&&◌, Bool, true, false, cond, List, [], ◌∷◌, codes, decimal, refl, sym, ◌∙◌, ap, subst, arith, Option, Some, None, Result, Ok, Err, MatchResult}
use Rattle.std.specs.Result.{IsErrAnd}
use Rattle.std.specs.Str.{bytes_eq}
use Rattle.std.specs.Fmt.{digits}
use Rattle.std.specs.List.{flat_map}
use Rattle.std.proofs.lemmas.Bool.{and_parts, cases_eq, eqb-true}
use Rattle.wtp_core.specs.Ids.{IsStatus}
use Rattle.wtp_qpack.specs.declared.qpack.DecodingError.{DecodingError}
use Rattle.wtp_qpack.specs.FieldLine.{line_in, encoded_line, shortest_line}
use Rattle.wtp_qpack.specs.FieldSection.{section_of, shortest_section}
use Rattle.wtp_qpack.specs.FieldLines.{octet_line_at, AreOctetLines}
use Rattle.wtp_qpack.proofs.RoundTrip.{octet_lines_again, prefix_again, shortest_lines_again, shortest_prefix}
use Rattle.wtp_fields.specs.declared.session.HeadersParseError.{HeadersParseError}
use Rattle.wtp_fields.specs.SessionResponse.{status_alone}
use Rattle.wtp_fields.specs.FieldList.{Reaches, list_size}
use Rattle.wtp_fields.specs.FieldMessages.{request_fault, status_by, status_of}
use Rattle.url.specs.Parts.{Parts}
use Rattle.url.specs.Parser.{Parsed}
use Rattle.wtp_qpack.specs.Field.{Field, AreOctets, field_map, field_value}
use Rattle.wtp_qpack.proofs.FieldMaps.{map_last}
use Rattle.wtp_fields.specs.declared.session.request.UrlParseError.{UrlParseError}
use Rattle.wtp_fields.specs.declared.session.request.UrlParseError.TheVariants as answered
use Rattle.wtp_fields.specs.SessionRequest.{five_fields, request_for, request_at, authority_of, with_query}
use Rattle.wtp_fields.specs.FieldWriting.{request_fields, list_at}

-- ---- the request for a URL

same_fault : (b : Bool) (m n : List Field) (other e : UrlParseError) → cond b (Ok m) (Err other) ≡ Err e → cond b (Ok n) (Err other) ≡ Err e
same_fault true m n other e is = cc is
same_fault false m n other e is = is

pub list_fault : (parsed : Parsed Parts) (e : UrlParseError) → request_at parsed ≡ Err e → list_at parsed ≡ Err e
unfolding request_for
list_fault (Err fault) e is = cc is
list_fault (Ok url) e is = same_fault (bytes_eq url.scheme (codes "https")) (five_fields (authority_of url) (with_query url.path url.query)) (request_fields (authority_of url) (with_query url.path url.query)) _ e is

-- the error is that of the URL, Memory or Overflow
pub fault_given : (parsed : Parsed Parts) (e : UrlParseError) (r : Result (List Field) UrlParseError) → IsErrAnd r (λ x. x ≡ e)
    → (request_at parsed ≡ Err e) ⊎ ((e ≡ answered.Memory) ⊎ (e ≡ answered.Overflow))
    → MatchResult r (λ list. list_at parsed ≡ Ok list) (λ x. (list_at parsed ≡ Err x) ⊎ ((x ≡ answered.Memory) ⊎ (x ≡ answered.Overflow)))
fault_given parsed e (Ok list) is h = absurd is
fault_given parsed e (Err x) is (inl fault) = rw is (inl (list_fault parsed e fault))
fault_given parsed e (Err x) is (inr other) = rw is (inr other)

-- the authority and the path of the five fields
five_authority : (authority path : List ℕ) → field_value (codes ":authority") (five_fields authority path) ≡ Some authority
unfolding five_fields
five_authority authority path = map_last (request_fields authority path) (codes ":authority")

five_path : (authority path : List ℕ) → field_value (codes ":path") (five_fields authority path) ≡ Some path
unfolding five_fields
five_path authority path = map_last (request_fields authority path) (codes ":path")

found_fields : (b : Bool) (one two a p : List ℕ) (m : List Field) (other : UrlParseError) → cond b (Ok (five_fields one two)) (Err other) ≡ Ok m
    → field_value (codes ":authority") m ≡ Some a → field_value (codes ":path") m ≡ Some p → cond b (Ok (request_fields one two)) (Err other) ≡ Ok (request_fields a p)
found_fields true one two a p m other is authority path =
    let map : five_fields one two ≡ m = ok_same (five_fields one two) m is in
    let first : one ≡ a = some_same one a (sym (five_authority one two) ∙ ap (field_value (codes ":authority")) map ∙ authority) in
    let second : two ≡ p = some_same two p (sym (five_path one two) ∙ ap (field_value (codes ":path")) map ∙ path) in
    rw (first, second) refl
  where
    ok_same : (x y : List Field) → ◌≡◌ {A = Result (List Field) UrlParseError} (Ok x) (Ok y) → x ≡ y
    ok_same x y e = cc

    some_same : (x y : List ℕ) → ◌≡◌ {A = Option (List ℕ)} (Some x) (Some y) → x ≡ y
    some_same x y e = cc
found_fields false one two a p m other is authority path = cc is

-- the list of a request, given by the fields of its map
pub list_found : (parsed : Parsed Parts) (m : List Field) (a p : List ℕ) → request_at parsed ≡ Ok m
    → field_value (codes ":authority") m ≡ Some a → field_value (codes ":path") m ≡ Some p → list_at parsed ≡ Ok (request_fields a p)
unfolding request_for
list_found (Err fault) m a p is authority path = cc is
list_found (Ok url) m a p is authority path = found_fields (bytes_eq url.scheme (codes "https")) (authority_of url) (with_query url.path url.query) a p m _ is authority path

-- ---- decoding a written list

pub list_again : (limit : ℕ) (fields : List Field) → AreOctets fields → list_size fields ≤ limit → Reaches limit (shortest_section fields) fields []
list_again limit fields are fits = record { start = flat_map shortest_line fields; prefix = shortest_prefix fields; are = shortest_lines_again fields are; fits = fits }

-- the same of a section by the first entries of names, as header maps are written
pub fields_again : (limit : ℕ) (fields : List Field) → AreOctets fields → list_size fields ≤ limit → Reaches limit (section_of fields) fields []
fields_again limit fields are fits = record { start = flat_map encoded_line fields; prefix = prefix_again fields; are = octet_lines_again fields are; fits = fits }

no_line : (field : Field) (behind : List ℕ) → octet_line_at [] ≡ Ok (field, behind) → ⊥
unfolding line_in
no_line field behind e = cc e

same_lines : (bytes : List ℕ) (fields others : List Field) → AreOctetLines bytes fields [] → AreOctetLines bytes others [] → fields ≡ others
same_lines bytes [] [] a b = refl
same_lines bytes [] (other ∷ others) a (behind, line, more) = absurd (no_line other behind (ap octet_line_at (sym a) ∙ line))
same_lines bytes (field ∷ fields) [] (behind, line, more) b = absurd (no_line field behind (ap octet_line_at (sym b) ∙ line))
same_lines bytes (field ∷ fields) (other ∷ others) (after, line, more) (behind, other_line, rest) =
    let one = ok_pair field other after behind (sym line ∙ other_line) in
    rw (one.0, same_lines behind fields others (subst (λ z. AreOctetLines z fields []) one.1 more) rest) refl
  where
    ok_pair : (x y : Field) (s t : List ℕ) → ◌≡◌ {A = Result (Field × List ℕ) DecodingError} (Ok (x, s)) (Ok (y, t)) → (x ≡ y) × (s ≡ t)
    ok_pair x y s t e = let pair : ◌≡◌ {A = Field × List ℕ} (x, s) (y, t) = cc e in (ap (λ (p : Field × List ℕ). p.0) pair, ap (λ (p : Field × List ℕ). p.1) pair)

pub one_list : (limit bound : ℕ) (section : List ℕ) (fields others : List Field) → Reaches limit section fields [] → Reaches bound section others [] → fields ≡ others
one_list limit bound section fields others a b =
    let same : a.start ≡ b.start = ok_same a.start b.start (sym a.prefix ∙ b.prefix) in
    same_lines b.start fields others (subst (λ z. AreOctetLines z fields []) same a.are) b.are
  where
    ok_same : (x y : List ℕ) → ◌≡◌ {A = Result (List ℕ) DecodingError} (Ok x) (Ok y) → x ≡ y
    ok_same x y e = cc

-- ---- the lists of a request and of a response

pub request_good : (authority path : List ℕ) → request_fault (request_fields authority path) ≡ None
unfolding request_fault
request_good authority path = refl

pub request_map : (authority path : List ℕ) → field_map (request_fields authority path) ≡ five_fields authority path
unfolding five_fields
request_map authority path = refl

-- whether the status code is read back
is_code : Result ℕ HeadersParseError → ℕ → Bool
is_code (Ok n) code = n == code
is_code (Err e) code = false

is_code_from : (r : Result ℕ HeadersParseError) (code : ℕ) → is_code r code ≡ true → r ≡ Ok code
unfolding is_code
is_code_from (Ok n) code e = ap Ok (eqb-true n code e)
is_code_from (Err x) code e = cc e

codes_from : ℕ → ℕ → Bool
codes_from zero code = true
codes_from (suc n) code = is_code (status_by (Some (decimal code))) code && codes_from n (code + 1)

all_codes : codes_from 500 100 ≡ true
unfolding codes_from is_code status_by digits
all_codes = refl

code_among : (n first code : ℕ) → codes_from n first ≡ true → first ≤ code → code < first + n → status_by (Some (decimal code)) ≡ Ok code
unfolding codes_from
code_among zero first code all low high = absurd (omega arith)
code_among (suc n) first code all low high =
    let parts = and_parts (is_code (status_by (Some (decimal first))) first) (codes_from n (first + 1)) all in
    elim (cases_eq first code) [
      | inl same ↦ subst (λ k. status_by (Some (decimal k)) ≡ Ok k) same (is_code_from (status_by (Some (decimal first))) first parts.0)
      | inr other ↦ code_among n (first + 1) code parts.1 (omega arith) (omega arith)
    ]

pub status_again : (code : ℕ) → IsStatus code → status_of (status_alone code) ≡ Ok code
status_again code is = code_among 500 100 code all_codes is.0 (let high = is.1 in omega (arith, high))
