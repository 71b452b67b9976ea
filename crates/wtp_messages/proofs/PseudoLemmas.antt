-- Pseudo-header fields, which come first.
use Rattle.std.proofs.Common.{◌≡◌, ℕ, ◌==◌, ◌&&◌, nat_lt, Bool, true, false, not, List, [], ◌∷◌, length, refl, ◌∙◌, arith}
use Rattle.std.specs.List.{list_all}
use Rattle.std.specs.Str.{bytes_eq}
use Rattle.std.proofs.lemmas.Bool.{and_parts, eqb-true}
use Rattle.wtp_qpack.specs.Field.{Field}
use Rattle.wtp_fields.specs.FieldList.{values_of}
use Rattle.wtp_messages.specs.Names.{is_pseudo, starts_with}
use Rattle.wtp_messages.specs.Section.{are_pseudo_first}

-- whether two fields or more have this name, of which one came before or not
abbrev pub is_repeated_after : Bool → List ℕ → List Field → Bool
is_repeated_after true name fields = nat_lt 0 (length (values_of name fields))
is_repeated_after false name fields = nat_lt 1 (length (values_of name fields))

first_differs : (byte a b : ℕ) (rest same : Bool) → (a == b) ≡ same → (a == byte) ≡ false → (b == byte) ≡ true → (same && rest) ≡ false
first_differs byte a b rest false q e h = refl
first_differs byte a b rest true q e h = let s = eqb-true a b q in cc

-- texts of which one starts with this byte and the other does not are not equal
other_start : (byte : ℕ) (text name : List ℕ) → starts_with byte text ≡ false → starts_with byte name ≡ true → bytes_eq text name ≡ false
other_start byte [] (b ∷ name) e h = refl
other_start byte text [] e h = cc h
other_start byte (a ∷ text) (b ∷ name) e h = first_differs byte a b (bytes_eq text name) (a == b) refl e h

not_true : (b : Bool) → not b ≡ true → b ≡ false
not_true false e = refl
not_true true e = cc e

-- no field of a list without pseudo-header fields has the name of one
none_named : (name : List ℕ) (fields : List Field) → starts_with 58 name ≡ true → list_all (λ (other : Field). not (is_pseudo other)) fields ≡ true → values_of name fields ≡ []
none_named name [] h all = refl
none_named name (field ∷ fields) h all =
    let parts = and_parts (not (is_pseudo field)) (list_all (λ (other : Field). not (is_pseudo other)) fields) all in
    rw (other_start 58 field.0 name (not_true (is_pseudo field) parts.0) h) (none_named name fields h parts.1)

-- after a field of another name
pub other_name : (found : Bool) (name : List ℕ) (field : Field) (fields : List Field) → bytes_eq field.0 name ≡ false → is_repeated_after found name (field ∷ fields) ≡ is_repeated_after found name fields
other_name true name field fields e = rw e refl
other_name false name field fields e = rw e refl

-- after the first field of the name
pub first_named : (name : List ℕ) (field : Field) (fields : List Field) → bytes_eq field.0 name ≡ true → is_repeated_after false name (field ∷ fields) ≡ is_repeated_after true name fields
first_named name field fields e = rw e (grind arith)

-- after the second one
pub second_named : (name : List ℕ) (field : Field) (fields : List Field) → bytes_eq field.0 name ≡ true → is_repeated_after true name (field ∷ fields) ≡ true
second_named name field fields e = rw e (grind arith)

-- from the first field that is no pseudo-header field on
pub none_follow : (found : Bool) (name : List ℕ) (field : Field) (fields : List Field) → starts_with 58 name ≡ true → are_pseudo_first (field ∷ fields) ≡ true → is_pseudo field ≡ false
    → is_repeated_after found name (field ∷ fields) ≡ false
none_follow found name field fields h first e =
    let others : list_all (λ (other : Field). not (is_pseudo other)) fields ≡ true = rw e at first in
    other_name found name field fields (other_start 58 field.0 name e h) ∙ none_after found name fields (none_named name fields h others)
  where
    none_after : (found : Bool) (name : List ℕ) (fields : List Field) → values_of name fields ≡ [] → is_repeated_after found name fields ≡ false
    none_after true name fields none = rw none refl
    none_after false name fields none = rw none refl
