-- The parts of a list, texts without blanks at their ends, and numbers.
use Rattle.std.proofs.Common.{◌≡◌, ℕ, zero, suc, ◌+◌, ◌*◌, ◌<◌, ◌≤◌, ◌==◌, nat_lt, ◌^◌, Bool, true, false, ◌&&◌, inl, inr, List, [], ◌∷◌, ◌++◌, length, take, drop, slice_index, Some, None, refl, ap, sym, arith, rules, ◌∙◌, if◌then◌else◌}
use Rattle.std.proofs.Math.ListN.{drop_of_length-le}
use Rattle.std.proofs.lemmas.List.{take_all}
use Rattle.std.specs.List.{list_all}
use Rattle.std.specs.Char.{digit_value}
use Rattle.std.specs.Str.Parse.{digits_value, digits_value_after}
use Rattle.wtp_fields.specs.FieldWriting.{is_blank}
use Rattle.wtp_messages.specs.Names.{is_some_text}
use Rattle.wtp_messages.specs.Length.{before_first, parts_of, without_end, is_digit, number_of, HasNoDigit}

-- ---- parts

-- the bytes, before the first of the parts
abbrev pub prepended : List ℕ → List (List ℕ) → List (List ℕ)
prepended [] parts = parts
prepended (byte ∷ bytes) parts = before_first byte (prepended bytes parts)

no_comma_by : (text : List ℕ) (i : ℕ) → i < length text → (slice_index text i == 44) ≡ false
    → prepended (take i text) (parts_of (drop i text)) ≡ prepended (take (suc i) text) (parts_of (drop (suc i) text))
no_comma_by [] i h e = absurd (omega (arith, h))
no_comma_by (byte ∷ bytes) zero h e = rw e refl
no_comma_by (byte ∷ bytes) (suc i) h e = ap (before_first byte) (no_comma_by bytes i (omega (arith, h)) e)

at_comma_by : (text : List ℕ) (i : ℕ) → i < length text → (slice_index text i == 44) ≡ true
    → prepended (take i text) (parts_of (drop i text)) ≡ take i text ∷ parts_of (drop (suc i) text)
at_comma_by [] i h e = absurd (omega (arith, h))
at_comma_by (byte ∷ bytes) zero h e = rw e refl
at_comma_by (byte ∷ bytes) (suc i) h e = ap (before_first byte) (at_comma_by bytes i (omega (arith, h)) e)

pub no_comma : (text : List ℕ) (i : ℕ) → i < length text → (slice_index text i == 44) ≡ false
    → prepended (take i text) (parts_of (drop i text)) ≡ prepended (take (i + 1) text) (parts_of (drop (i + 1) text))
no_comma text i h e = let next : suc i ≡ i + 1 = omega arith in rw next at (no_comma_by text i h e)

pub at_comma : (text : List ℕ) (i : ℕ) → i < length text → (slice_index text i == 44) ≡ true
    → prepended (take i text) (parts_of (drop i text)) ≡ take i text ∷ parts_of (drop (i + 1) text)
at_comma text i h e = let next : suc i ≡ i + 1 = omega arith in rw next at (at_comma_by text i h e)

pub last_part : (text : List ℕ) → prepended text ([] ∷ []) ≡ text ∷ []
last_part [] = refl
last_part (byte ∷ bytes) = ap (before_first byte) (last_part bytes)

-- after the last byte
pub whole_text : (text : List ℕ) (i : ℕ) → length text ≤ i → prepended (take i text) (parts_of (drop i text)) ≡ text ∷ []
whole_text text i h = rw (take_all i text h, drop_of_length-le text h) (last_part text)

-- ---- blanks

pub all_blank : (text : List ℕ) (byte : ℕ) → is_blank byte ≡ true → list_all is_blank (text ++ byte ∷ []) ≡ list_all is_blank text
all_blank [] byte e = rw e refl
all_blank (first ∷ text) byte e = ap (λ b. is_blank first && b) (all_blank text byte e)

pub none_blank : (text : List ℕ) (byte : ℕ) → is_blank byte ≡ false → list_all is_blank (text ++ byte ∷ []) ≡ false
none_blank [] byte e = rw e refl
none_blank (first ∷ text) byte e = rw (none_blank text byte e) (search rules)

pub end_blank : (text : List ℕ) (byte : ℕ) → is_blank byte ≡ true → without_end (text ++ byte ∷ []) ≡ without_end text
end_blank [] byte e = rw e refl
end_blank (first ∷ text) byte e = rw (all_blank text byte e, end_blank text byte e) refl

pub end_not_blank : (text : List ℕ) (byte : ℕ) → is_blank byte ≡ false → without_end (text ++ byte ∷ []) ≡ text ++ byte ∷ []
end_not_blank [] byte e = rw e refl
end_not_blank (first ∷ text) byte e = rw (none_blank (first ∷ text) byte e, end_not_blank text byte e) refl

-- ---- numbers

pub value_grows : (n : ℕ) (digits : List ℕ) → n ≤ digits_value_after 10 n digits
value_grows n [] = omega arith
value_grows n (digit ∷ digits) = let more = value_grows (n * 10 + digit_value digit) digits in omega (arith, more)

-- a text with a byte that is no digit denotes no number
pub not_digits : (some digits small : Bool) (value : ℕ) → digits ≡ false → (if some && digits && small then Some value else None) ≡ None
not_digits true digits small value e = rw e refl
not_digits false digits small value e = refl

-- nor does one whose value is too large
pub too_large : (some digits small : Bool) (value : ℕ) → small ≡ false → (if some && digits && small then Some value else None) ≡ None
too_large true true small value e = rw e refl
too_large true false small value e = refl
too_large false digits small value e = refl

-- with a byte that cannot follow the digits before
pub no_number : (text rest : List ℕ) (number byte : ℕ) → digits_value_after 10 number (byte ∷ rest) ≡ digits_value 10 text → list_all is_digit (byte ∷ rest) ≡ list_all is_digit text
    → HasNoDigit number byte → None ≡ number_of text
no_number text rest number byte value digits (inl e) =
    let none : list_all is_digit text ≡ false = sym digits ∙ ap (λ b. b && list_all is_digit rest) e in
    sym (not_digits (is_some_text text) (list_all is_digit text) _ (digits_value 10 text) none)
no_number text rest number byte value digits (inr big) =
    let more = value_grows (number * 10 + digit_value byte) rest in
    let large : nat_lt (digits_value 10 text) (2 ^ 62) ≡ false = grind (arith, value, more, big) in
    sym (too_large (is_some_text text) (list_all is_digit text) _ (digits_value 10 text) large)
