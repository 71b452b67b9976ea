-- Field lists and header maps.
use Rattle.std.proofs.Common.{◌≡◌, ◌+◌, ◌-◌, ◌*◌, ◌<◌, ◌==◌, false, ℕ, List, [], ◌∷◌, codes, refl, sym, ◌∙◌, ap, arith, inl, inr, ne_eqb, Option, Some, None, Result, Ok, Err}
use Rattle.std.proofs.lemmas.Bool.{cases_lt, lt-ltb, le-ltb}
use Rattle.std.proofs.lemmas.Str.{digit_value_digit}
use Rattle.std.specs.Char.{digit_value}
use Rattle.std.specs.Str.Parse.{digits_value}
use Rattle.wtp_core.specs.Ids.{IsStatusText, status_in}
use Rattle.wtp_fields.specs.declared.session.HeadersParseError.{HeadersParseError}
use Rattle.wtp_fields.specs.declared.session.HeadersParseError.TheVariants.{InvalidStatusCode}
use Rattle.wtp_fields.specs.SessionResponse.{status_value}
use Rattle.wtp_qpack.specs.Field.{Field, field_map, field_value, last_value}
use Rattle.wtp_qpack.specs.FieldLines.{AreUtf8Fields}
use Rattle.wtp_qpack.proofs.FieldMaps.{map_last}
use Rattle.wtp_qpack.proofs.LineTexts.{map_texts}
use Rattle.wtp_fields.specs.Headers.{or_decompression, headers_at}
use Rattle.wtp_fields.specs.SessionRequest.{fault_of}
use Rattle.wtp_fields.specs.FieldList.{Reaches}
use Rattle.wtp_fields.specs.FieldMessages.{request_fault, digit_of, of_digits, three_digits, in_range, status_by, status_of, HasStatusOf}

pub list_map : (limit : ℕ) (section : List ℕ) (fields : List Field) → Reaches limit section fields [] → AreUtf8Fields fields → headers_at section ≡ Ok (field_map fields)
list_map limit section fields reached texts = ap or_decompression (map_texts section reached.start fields reached.prefix reached.are texts)

pub list_fault : (fields : List Field) → request_fault fields ≡ fault_of (field_map fields)
unfolding request_fault fault_of
list_fault fields =
    rw (
      map_last fields (codes ":method"),
      map_last fields (codes ":scheme"),
      map_last fields (codes ":protocol"),
      map_last fields (codes ":authority"),
      map_last fields (codes ":path"),
    ) refl

pub list_value : (fields : List Field) (name : List ℕ) → last_value name fields ≡ field_value name (field_map fields)
list_value fields name = sym (map_last fields name)

-- ---- the status code

-- a byte is the digit d
record IsDigit (byte d : ℕ) : Type 0 where
  pub is : byte ≡ d + 48
  pub small : d < 10

digit_found : (byte d : ℕ) → digit_of byte ≡ Some d → IsDigit byte d
digit_found byte d e = elim (cases_lt 47 byte) [
  | inl low ↦ elim (cases_lt byte 58) [
    | inl high ↦
        let sub : byte - 48 ≡ d = some_same (byte - 48) d (sym (rw (lt-ltb 47 byte low, lt-ltb byte 58 high) refl) ∙ e) in
        record { is = omega arith; small = omega arith }
    | inr high ↦ none_not d (sym (rw (lt-ltb 47 byte low, le-ltb byte 58 high) refl) ∙ e)
  ]
  | inr low ↦ none_not d (sym (rw (le-ltb 47 byte low) refl) ∙ e)
]
  where
    some_same : (a b : ℕ) → ◌≡◌ {A = Option ℕ} (Some a) (Some b) → a ≡ b
    some_same a b same = cc

    none_not : {P : Type 0} (b : ℕ) → ◌≡◌ {A = Option ℕ} None (Some b) → P
    none_not b same = cc same

value_is : (byte d : ℕ) → IsDigit byte d → digit_value byte ≡ d
value_is byte d digit = let e = digit_value_digit byte (let is = digit.is in let small = digit.small in (omega arith, omega arith)) in let is = digit.is in omega (arith, e, is)

-- three digits are the text of a status code
text_of_status : (a b c x y z code : ℕ) → IsDigit a x → IsDigit b y → IsDigit c z → x * 100 + y * 10 + z ≡ code → 99 < code → code < 600
    → IsStatusText (a ∷ b ∷ c ∷ []) × (status_in (a ∷ b ∷ c ∷ []) ≡ code)
text_of_status a b c x y z code is_a is_b is_c sum low high =
    let no_plus : (a == 43) ≡ false = ne_eqb a 43 (let is = is_a.is in omega (arith, is)) in
    let value : digits_value 10 (a ∷ b ∷ c ∷ []) ≡ code = rw (value_is a x is_a, value_is b y is_b, value_is c z is_c) (omega (arith, sum)) in
    let small_a : digit_value a < 10 = rw (value_is a x is_a) is_a.small in
    let small_b : digit_value b < 10 = rw (value_is b y is_b) is_b.small in
    let small_c : digit_value c < 10 = rw (value_is c z is_c) is_c.small in
    rw no_plus (((omega arith, (small_a, (small_b, (small_c, tt)))), (omega (arith, value), omega (arith, value))), value)

in_range_found : (o : Option ℕ) (code : ℕ) → in_range o ≡ Ok code → (o ≡ Some code) × (99 < code) × (code < 600)
in_range_found None code e = cc e
in_range_found (Some n) code e = elim (cases_lt 99 n) [
  | inl low ↦ elim (cases_lt n 600) [
    | inl high ↦
        let same : n ≡ code = ok_same n code (sym (rw (lt-ltb 99 n low, lt-ltb n 600 high) refl) ∙ e) in
        (ap Some same, omega (arith, same, low), omega (arith, same, high))
    | inr high ↦ fault_not code (sym (rw (lt-ltb 99 n low, le-ltb n 600 high) refl) ∙ e)
  ]
  | inr low ↦ fault_not code (sym (rw (le-ltb 99 n low) refl) ∙ e)
]
  where
    ok_same : (a b : ℕ) → ◌≡◌ {A = Result ℕ HeadersParseError} (Ok a) (Ok b) → a ≡ b
    ok_same a b same = cc

    fault_not : {P : Type 0} (b : ℕ) → ◌≡◌ {A = Result ℕ HeadersParseError} (Err InvalidStatusCode) (Ok b) → P
    fault_not b same = cc same

digits_found : (a b c : ℕ) (p q r : Option ℕ) (code : ℕ) → digit_of a ≡ p → digit_of b ≡ q → digit_of c ≡ r → of_digits p q r ≡ Some code → 99 < code → code < 600
    → IsStatusText (a ∷ b ∷ c ∷ []) × (status_in (a ∷ b ∷ c ∷ []) ≡ code)
digits_found a b c (Some x) (Some y) (Some z) code e_a e_b e_c sum low high = text_of_status a b c x y z code (digit_found a x e_a) (digit_found b y e_b) (digit_found c z e_c) (some_same (x * 100 + y * 10 + z) code sum) low high
  where
    some_same : (a b : ℕ) → ◌≡◌ {A = Option ℕ} (Some a) (Some b) → a ≡ b
    some_same a b same = cc
digits_found a b c (Some x) (Some y) None code e_a e_b e_c sum low high = cc sum
digits_found a b c (Some x) None r code e_a e_b e_c sum low high = cc sum
digits_found a b c None q r code e_a e_b e_c sum low high = cc sum

text_found : (text : List ℕ) (code : ℕ) → three_digits text ≡ Some code → 99 < code → code < 600 → IsStatusText text × (status_in text ≡ code)
text_found [] code e low high = cc e
text_found (a ∷ []) code e low high = cc e
text_found (a ∷ b ∷ []) code e low high = cc e
text_found (a ∷ b ∷ c ∷ []) code e low high = digits_found a b c (digit_of a) (digit_of b) (digit_of c) code refl refl refl e low high
text_found (a ∷ b ∷ c ∷ d ∷ more) code e low high = cc e

status_found : (o : Option (List ℕ)) (m : List Field) (code : ℕ) → status_value m ≡ o → status_by o ≡ Ok code → HasStatusOf code m
unfolding status_by
status_found None m code there e = cc e
status_found (Some text) m code there e =
    let found = in_range_found (three_digits text) code e in
    let status = text_found text code found.0 found.1 found.2 in
    record { text = text; value = there; is_text = status.0; is = status.1 }

pub list_status : (fields : List Field) (code : ℕ) → status_of fields ≡ Ok code → HasStatusOf code (field_map fields)
list_status fields code e = status_found (last_value (codes ":status") fields) (field_map fields) code (map_last fields (codes ":status")) e
