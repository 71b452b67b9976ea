-- Requests: the fields of a valid request, and changes that keep it valid.
use Rattle.std.proofs.Common.{◌≡◌, ℕ, Bool, true, false, cond, ◌||◌, List, [], ◌∷◌, drop, codes, refl, sym, ◌∙◌, ap, append_assoc, append-nil, Option, Some, None, IsSome}
use Rattle.std.proofs.lemmas.Map.Text.{is_eq-slice_cmp}
use Rattle.std.specs.Borrow.{Bor}
use Rattle.std.specs.List.{list_any}
use Rattle.std.specs.Option.{option_copied}
use Rattle.std.specs.Str.{bytes_eq}
use Rattle.url.specs.Parts.{Parts, text_between}
use Rattle.url.specs.declared.slicing.Position.TheVariants.{BeforeUsername, AfterPort}
use Rattle.wtp_fields.specs.declared.session.HeadersParseError.{HeadersParseError}
use Rattle.wtp_fields.specs.declared.session.HeadersParseError.TheVariants.{MissingMethod, MethodNotConnect, MissingScheme, SchemeNotHttps, MissingProtocol, ProtocolNotWebTransport, MissingAuthority, MissingPath}
use Rattle.wtp_qpack.specs.Field.{Field, put, field_value}
use Rattle.wtp_fields.specs.SessionRequest.{reserved_names, is_reserved_name, fault_unless, fault_without, first_fault, fault_of, authority_of, five_fields}
use Rattle.wtp_qpack.proofs.FieldMaps.{map_last, value_put}
use Rattle.wtp_fields.proofs.HeaderLemmas.{eq_turned}

-- ---- no error

first_none : (fault : Option HeadersParseError) (faults : List (Option HeadersParseError)) → first_fault (fault ∷ faults) ≡ None → (fault ≡ None) × (first_fault faults ≡ None)
first_none None faults e = (refl, e)
first_none (Some fault) faults e = cc e

has_value : (missing : HeadersParseError) (o : Option (List ℕ)) → fault_without missing o ≡ None → IsSome o
has_value missing None e = cc e
has_value missing (Some value) e = refl

-- the two fields with arbitrary values
pub record HasFields (m : List Field) : Type 0 where
  pub authority : IsSome (field_value (codes ":authority") m)
  pub path : IsSome (field_value (codes ":path") m)

pub faultless_has : (m : List Field) → fault_of m ≡ None → HasFields m
unfolding fault_of
faultless_has m e =
    let scheme = first_none (fault_unless (codes "CONNECT") MissingMethod MethodNotConnect (field_value (codes ":method") m)) _ e in
    let protocol = first_none (fault_unless (codes "https") MissingScheme SchemeNotHttps (field_value (codes ":scheme") m)) _ scheme.1 in
    let authority = first_none (fault_unless (codes "webtransport") MissingProtocol ProtocolNotWebTransport (field_value (codes ":protocol") m)) _ protocol.1 in
    let path = first_none (fault_without MissingAuthority (field_value (codes ":authority") m)) _ authority.1 in
    let last = first_none (fault_without MissingPath (field_value (codes ":path") m)) _ path.1 in
    record { authority = has_value MissingAuthority (field_value (codes ":authority") m) path.0; path = has_value MissingPath (field_value (codes ":path") m) last.0 }

-- a borrowed value exists if the value does
pub lent_some : (o : Option (Bor (List ℕ))) (value : Option (List ℕ)) → option_copied o ≡ value → IsSome value → IsSome o
lent_some None None e there = there
lent_some None (Some v) e there = cc e
lent_some (Some x) value e there = refl

-- ---- adding a field keeps a request valid

eq_sym : (xs ys : List ℕ) → bytes_eq xs ys ≡ bytes_eq ys xs
eq_sym xs ys = sym (is_eq-slice_cmp xs ys) ∙ eq_turned xs ys

or_left : (a b : Bool) → (a || b) ≡ false → a ≡ false
or_left true b e = e
or_left false b e = refl

or_right : (a b : Bool) → (a || b) ≡ false → b ≡ false
or_right true b e = cc e
or_right false b e = e

other_value : (m : List Field) (field : Field) (name : List ℕ) → bytes_eq name field.0 ≡ false → field_value name (put m field) ≡ field_value name m
other_value m field name other = value_put name field m ∙ ap (λ b. cond b (Some field.1) (field_value name m)) (eq_sym field.0 name ∙ other)

-- comparing a name with each of several names
first_other : (name reserved : List ℕ) (names : List (List ℕ)) → list_any (λ reserved. bytes_eq reserved name) (reserved ∷ names) ≡ false
    → (bytes_eq reserved name ≡ false) × (list_any (λ reserved. bytes_eq reserved name) names ≡ false)
first_other name reserved names e =
    (or_left (bytes_eq reserved name) (list_any (λ reserved. bytes_eq reserved name) names) e, or_right (bytes_eq reserved name) (list_any (λ reserved. bytes_eq reserved name) names) e)

pub fault_kept : (m : List Field) (field : Field) → is_reserved_name field.0 ≡ false → fault_of (put m field) ≡ fault_of m
unfolding fault_of
fault_kept m field other =
    let method = first_other field.0 (codes ":method") (drop 1 reserved_names) other in
    let scheme = first_other field.0 (codes ":scheme") (drop 2 reserved_names) method.1 in
    let protocol = first_other field.0 (codes ":protocol") (drop 3 reserved_names) scheme.1 in
    let authority = first_other field.0 (codes ":authority") (drop 4 reserved_names) protocol.1 in
    let path = first_other field.0 (codes ":path") [] authority.1 in
    rw (
      other_value m field (codes ":method") method.0,
      other_value m field (codes ":scheme") scheme.0,
      other_value m field (codes ":protocol") protocol.0,
      other_value m field (codes ":authority") authority.0,
      other_value m field (codes ":path") path.0,
    ) refl

-- ---- the request for a URL

pub five_faultless : (authority path : List ℕ) → fault_of (five_fields authority path) ≡ None
unfolding fault_of five_fields
five_faultless authority path =
    let five : List Field = (codes ":method", codes "CONNECT") ∷ (codes ":scheme", codes "https") ∷ (codes ":protocol", codes "webtransport") ∷ (codes ":authority", authority) ∷ (codes ":path", path) ∷ [] in
    rw (map_last five (codes ":method"), map_last five (codes ":scheme"), map_last five (codes ":protocol"), map_last five (codes ":authority"), map_last five (codes ":path")) refl

pub authority_text : (url : Parts) → text_between url BeforeUsername AfterPort ≡ authority_of url
unfolding authority_of
authority_text url = simp (append_assoc, append-nil)
