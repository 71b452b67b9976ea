-- Plain fields, and sections of them.
use Rattle.std.proofs.Common.{◌≡◌, ◌==◌, ℕ, zero, suc, ◌-◌, ◌<◌, nat_lt, Bool, true, false, not, ◌&&◌, ◌||◌, cond, if◌then◌else◌, List, [], ◌∷◌, map, filter, length, slice_get, Option, Some, None, refl, sym, ap, subst, ◌∙◌, arith, eqb-true, lt-ltb, ltb-true, codes, bytes_eq, flat_map}
use Rattle.std.proofs.lemmas.Bool.{and_from, and_parts, and_left, and_right, or_from, or_parts, or_cases, or_right, false≢true}
use Rattle.std.proofs.lemmas.Slice.Eq.{bytes_eq-Decides}
use Rattle.std.proofs.Common.{◌^◌, ◌++◌}
use Rattle.std.specs.List.{list_all, list_any}
use Rattle.std.specs.Str.Parse.{digits_value}
use mathlib.Core.Logic.{⊎_elim}
use Rattle.wtp_qpack.specs.Field.{Field, field_value}
use Rattle.wtp_fields.specs.FieldWriting.{is_tchar, is_blank_at, is_value_byte, is_field_value, is_blank}
use Rattle.wtp_fields.specs.FieldList.{has_name, values_of}
use Rattle.wtp_messages.specs.declared.section.SectionKind.{SectionKind}
use Rattle.wtp_messages.specs.declared.section.SectionKind.TheVariants as section
use Rattle.wtp_messages.specs.declared.malformed.Malformed.{Malformed}
use Rattle.wtp_messages.specs.declared.malformed.Malformed.TheVariants.{InvalidName, InvalidValue, ConnectionField, InvalidTe, UnknownPseudoHeader}
use Rattle.wtp_messages.specs.Names.{starts_with, is_some_text, is_pseudo, is_field_name, is_one_of, has_field}
use Rattle.wtp_messages.specs.Length.{before_first, parts_of, without_start, without_end, is_digit, number_of, lengths_in, lengths_of, all_agree, first_length, content_length}
use Rattle.wtp_messages.specs.Section.{connection_names, is_connection_field, pseudo_names, are_pseudo_first, is_repeated, announces, line_breaks, IsSection}
use Rattle.wtp_messages.specs.Request.{is_path_byte}
use Rattle.wtp_messages.specs.Broken.{is_solid}
use Rattle.wtp_messages.specs.Plain.{own_names, is_free, is_plain, IsNumber}
use Rattle.wtp_messages.proofs.AuthorityLemmas.{other, mark_passes, is_visible, alphanumeric_visible, digits_visible}
use Rattle.wtp_messages.proofs.LineLemmas.{whole_by_rows, no_rule}

-- ---- values

pub all_pass : (test more : ℕ → Bool) → ((b : ℕ) → test b ≡ true → more b ≡ true) → (text : List ℕ) → list_all test text ≡ true → list_all more text ≡ true
all_pass test more each [] h = refl
all_pass test more each (b ∷ text) h = and_from _ _ (each b (and_parts _ _ h).0) (all_pass test more each text (and_parts _ _ h).1)

pub tchar_visible : (b : ℕ) → is_tchar b ≡ true → is_visible b ≡ true
tchar_visible b h = ⊎_elim (alphanumeric_visible b) (mark_passes is_visible (codes "!#$%&'*+-.^_`|~") b refl) (or_cases _ _ h)

pub path_visible : (b : ℕ) → is_path_byte b ≡ true → is_visible b ≡ true
path_visible b h = (and_parts _ _ h).0

pub not_blank : (text : List ℕ) (i : ℕ) → list_all is_visible text ≡ true → is_blank_at (slice_get text i) ≡ false
not_blank [] i h = refl
not_blank (b ∷ text) zero h = or_from _ _ (other is_visible 32 b refl (and_parts _ _ h).0) (other is_visible 9 b refl (and_parts _ _ h).0)
not_blank (b ∷ text) (suc i) h = not_blank text i (and_parts _ _ h).1

pub value_byte : (b : ℕ) → is_visible b ≡ true → is_value_byte b ≡ true
value_byte b h =
    let above : 32 < b = ltb-true 32 b (and_parts _ _ h).0 in
    or_right (b == 9) _ (and_from _ _ (lt-ltb 31 b (omega (arith, above))) (and_parts _ _ h).1)

pub visible_value : (text : List ℕ) → list_all is_visible text ≡ true → is_field_value text ≡ true
visible_value text h =
    and_from _ _ (all_pass is_visible is_value_byte value_byte text h)
    (and_from _ _ (ap not (not_blank text 0 h)) (ap not (not_blank text (length text - 1) h)))

-- ---- plain fields

pub was_false : (x : Bool) → not x ≡ true → x ≡ false
was_false true h = absurd (false≢true h)
was_false false h = refl

pub record PlainField (counted : Bool) (field : Field) : Type 0 where
  pub name : is_field_name field.0 ≡ true
  pub value : is_field_value field.1 ≡ true
  pub connection : is_connection_field field ≡ false
  pub own : is_one_of (own_names counted) field.0 ≡ false

pub plain_parts : (counted : Bool) (field : Field) → is_free counted field ≡ true → PlainField counted field
plain_parts counted field h =
    let a = and_parts (is_field_name field.0 && is_field_value field.1 && not (is_connection_field field)) _ h in
    let b = and_parts (is_field_name field.0 && is_field_value field.1) _ a.0 in
    let c = and_parts (is_field_name field.0) _ b.0 in
    record { name = c.0; value = c.1; connection = was_false (is_connection_field field) b.1; own = was_false (is_one_of (own_names counted) field.0) a.1 }

pub not_a_name : (name : List ℕ) → starts_with 58 name ≡ true → is_field_name name ≡ false
not_a_name [] h = absurd (false≢true h)
not_a_name (b ∷ name) h = subst (λ (x : ℕ). is_field_name (x ∷ name) ≡ false) (sym (eqb-true b 58 h)) refl

-- a name that no plain field has
abbrev pub is_known : Bool → List ℕ → Bool
is_known counted name = starts_with 58 name || is_one_of (own_names counted) name

pub differs : (counted : Bool) (v : Bool) (field : Field) (name : List ℕ) → bytes_eq field.0 name ≡ v → is_known counted name ≡ true → is_free counted field ≡ true → v ≡ false
differs counted false field name e known h = refl
differs counted true field name e known h =
    let p = plain_parts counted field h in
    let same : field.0 ≡ name = (bytes_eq-Decides field.0 name).0 e in
    ⊎_elim (λ colon. sym p.name ∙ ap is_field_name same ∙ not_a_name name colon)
    (λ own. sym own ∙ ap (is_one_of (own_names counted)) (sym same) ∙ p.own)
    (or_cases (starts_with 58 name) _ known)

pub absent : (counted : Bool) (name : List ℕ) (fields : List Field) → is_known counted name ≡ true → list_all (is_free counted) fields ≡ true → has_field name fields ≡ false
absent counted name [] known h = refl
absent counted name (field ∷ fields) known h =
    or_from _ _ (differs counted (bytes_eq field.0 name) field name refl known (and_parts _ _ h).0) (absent counted name fields known (and_parts _ _ h).1)

pub no_values : (name : List ℕ) (fields : List Field) → has_field name fields ≡ false → values_of name fields ≡ []
no_values name [] h = refl
no_values name (field ∷ fields) h =
    let parts = or_parts (bytes_eq field.0 name) _ h in
    ap (λ (b : Bool). map (λ (x : Field). x.1) (cond b (field ∷ filter (has_name name) fields) (filter (has_name name) fields))) parts.0
    ∙ no_values name fields parts.1

pub no_value : (name : List ℕ) (fields : List Field) → has_field name fields ≡ false → field_value name fields ≡ None
no_value name [] h = refl
no_value name (field ∷ fields) h =
    let parts = or_parts (bytes_eq field.0 name) _ h in
    ap (λ (b : Bool). if b then Some field.1 else field_value name fields) parts.0 ∙ no_value name fields parts.1

pub not_pseudo_by : (counted : Bool) (v : Bool) (field : Field) → is_pseudo field ≡ v → is_free counted field ≡ true → v ≡ false
not_pseudo_by counted false field e h = refl
not_pseudo_by counted true field e h = let p = plain_parts counted field h in sym p.name ∙ not_a_name field.0 e

pub not_pseudo : (counted : Bool) (field : Field) → is_free counted field ≡ true → is_pseudo field ≡ false
not_pseudo counted field h = not_pseudo_by counted (is_pseudo field) field refl h

pub none_pseudo : (counted : Bool) (fields : List Field) → list_all (is_free counted) fields ≡ true → list_all (λ (x : Field). not (is_pseudo x)) fields ≡ true
none_pseudo counted [] h = refl
none_pseudo counted (field ∷ fields) h = and_from _ _ (ap not (not_pseudo counted field (and_parts _ _ h).0)) (none_pseudo counted fields (and_parts _ _ h).1)

pub plain_first : (counted : Bool) (fields : List Field) → list_all (is_free counted) fields ≡ true → are_pseudo_first fields ≡ true
plain_first counted [] h = refl
plain_first counted (field ∷ fields) h =
    ap (λ (b : Bool). if b then are_pseudo_first fields else list_all (λ (x : Field). not (is_pseudo x)) fields) (not_pseudo counted field (and_parts _ _ h).0)
    ∙ none_pseudo counted fields (and_parts _ _ h).1

pub plain_line : (counted : Bool) (kind : SectionKind) (rule : Malformed) (field : Field) → is_free counted field ≡ true → line_breaks kind rule field ≡ false
plain_line counted kind InvalidName field h = let p = plain_parts counted field h in and_right (not (is_pseudo field)) _ (ap not p.name)
plain_line counted kind InvalidValue field h = let p = plain_parts counted field h in ap not p.value
plain_line counted kind ConnectionField field h = let p = plain_parts counted field h in p.connection
plain_line counted kind InvalidTe field h = let p = plain_parts counted field h in and_left (bytes_eq field.0 (codes "te")) _ (or_parts (bytes_eq field.0 (codes "te")) _ p.own).0
plain_line counted kind UnknownPseudoHeader field h = and_left (is_pseudo field) _ (not_pseudo counted field h)
plain_line counted kind _ field h = refl

pub plain_lines : (counted : Bool) (kind : SectionKind) (rule : Malformed) (fields : List Field) → list_all (is_free counted) fields ≡ true → list_any (line_breaks kind rule) fields ≡ false
plain_lines counted kind rule [] h = refl
plain_lines counted kind rule (field ∷ fields) h = or_from _ _ (plain_line counted kind rule field (and_parts _ _ h).0) (plain_lines counted kind rule fields (and_parts _ _ h).1)

pub pseudo_line : (kind : SectionKind) (rule : Malformed) (name value : List ℕ) → starts_with 58 name ≡ true → is_one_of (pseudo_names kind) name ≡ true → is_one_of connection_names name ≡ false → bytes_eq name (codes "te") ≡ false → is_field_value value ≡ true
    → line_breaks kind rule (name, value) ≡ false
pseudo_line kind InvalidName name value s k c t v = and_left (not (is_pseudo (name, value))) _ (ap not s)
pseudo_line kind InvalidValue name value s k c t v = ap not v
pseudo_line kind ConnectionField name value s k c t v = c
pseudo_line kind InvalidTe name value s k c t v = and_left (bytes_eq name (codes "te")) _ t
pseudo_line kind UnknownPseudoHeader name value s k c t v = and_right (is_pseudo (name, value)) _ (ap not k)
pseudo_line kind _ name value s k c t v = refl

-- ---- sections

pub section_holds : (kind : SectionKind) (fields : List Field) → ((rule : Malformed) → list_any (line_breaks kind rule) fields ≡ false) → are_pseudo_first fields ≡ true → list_any (is_repeated fields) (pseudo_names kind) ≡ false
    → all_agree (lengths_of fields) ≡ true → IsSection kind fields
section_holds kind fields lines first once agree =
    no_rule kind fields lines (whole_by_rows kind fields first once (and_right (announces kind) _ (ap not agree)))

pub no_length : (fields : List Field) → values_of (codes "content-length") fields ≡ [] → content_length fields ≡ None
no_length fields none = ap (λ (vs : List (List ℕ)). first_length (flat_map lengths_in vs)) none

pub none_of : (counted : Bool) (name : List ℕ) (others : List Field) → is_known counted name ≡ true → list_all (is_free counted) others ≡ true → values_of name others ≡ []
none_of counted name others known h = no_values name others (absent counted name others known h)

pub nothing : (counted : Bool) (name : List ℕ) (others : List Field) → is_known counted name ≡ true → list_all (is_free counted) others ≡ true → field_value name others ≡ None
nothing counted name others known h = no_value name others (absent counted name others known h)

-- once in the list, or not at all
pub once_with : (counted : Bool) (name value : List ℕ) (others : List Field) → is_known counted name ≡ true → list_all (is_free counted) others ≡ true → nat_lt 1 (length (value ∷ values_of name others)) ≡ false
once_with counted name value others known h = ap (λ (vs : List (List ℕ)). nat_lt 1 (length (value ∷ vs))) (none_of counted name others known h)

pub never : (counted : Bool) (name : List ℕ) (others : List Field) → is_known counted name ≡ true → list_all (is_free counted) others ≡ true → nat_lt 1 (length (values_of name others)) ≡ false
never counted name others known h = ap (λ (vs : List (List ℕ)). nat_lt 1 (length vs)) (none_of counted name others known h)

-- fields without rules of their own, but maybe for lengths, which announce this
pub record Rest (counted : Bool) (others : List Field) (announced : Option ℕ) : Type 0 where
  pub free : list_all (is_free counted) others ≡ true
  pub agree : all_agree (lengths_of others) ≡ true
  pub length : content_length others ≡ announced

pub plain_rest : (others : List Field) → list_all is_plain others ≡ true → Rest false others None
plain_rest others h =
    let none = none_of false (codes "content-length") others refl h in
    record { free = h; agree = ap (λ (vs : List (List ℕ)). all_agree (flat_map lengths_in vs)) none; length = no_length others none }

pub trailers_hold : (fields : List Field) → list_all is_plain fields ≡ true → IsSection section.Trailers fields
trailers_hold fields h =
    let x = plain_rest fields h in
    section_holds section.Trailers fields (λ rule. plain_lines false section.Trailers rule fields h) (plain_first false fields h) refl x.agree

-- ---- lengths

pub digit_solid : (b : ℕ) → is_digit b ≡ true → is_solid b ≡ true
digit_solid b h = and_from _ _ (and_from _ _ (ap not (other is_digit 44 b refl h)) (ap not (other is_digit 32 b refl h))) (ap not (other is_digit 9 b refl h))

pub one_part : (text : List ℕ) → list_all is_solid text ≡ true → parts_of text ≡ text ∷ []
one_part [] h = refl
one_part (b ∷ text) h =
    rw (other is_solid 44 b refl (and_parts _ _ h).0) (ap (before_first b) (one_part text (and_parts _ _ h).1))

solid_not_blank : (b : ℕ) → is_solid b ≡ true → is_blank b ≡ false
solid_not_blank b h = or_from _ _ (other is_solid 32 b refl h) (other is_solid 9 b refl h)

start_kept : (text : List ℕ) → list_all is_solid text ≡ true → without_start text ≡ text
start_kept [] h = refl
start_kept (b ∷ text) h = ap (λ (c : Bool). if c then without_start text else b ∷ text) (solid_not_blank b (and_parts _ _ h).0)

end_kept : (text : List ℕ) → list_all is_solid text ≡ true → without_end text ≡ text
end_kept [] h = refl
end_kept (b ∷ text) h =
    ap (λ (c : Bool). if c && list_all is_blank text then [] else b ∷ without_end text) (solid_not_blank b (and_parts _ _ h).0)
    ∙ ap (λ (t : List ℕ). b ∷ t) (end_kept text (and_parts _ _ h).1)

pub length_alone : (text : List ℕ) → list_all is_solid text ≡ true → lengths_in text ≡ number_of text ∷ []
length_alone text h =
    ap (map (λ part. number_of (without_end (without_start part)))) (one_part text h)
    ∙ ap (λ (o : Option ℕ). o ∷ []) (ap (λ (t : List ℕ). number_of (without_end t)) (start_kept text h) ∙ ap number_of (end_kept text h))

pub number_by : (some digits small : Bool) (n : ℕ) → some ≡ true → digits ≡ true → small ≡ true → (if some && digits && small then Some n else None) ≡ Some n
number_by some digits small n a b c = rw (a, b, c) refl

pub number_found : (digits : List ℕ) (n : ℕ) → IsNumber digits n → number_of digits ≡ Some n
number_found digits n h =
    number_by (is_some_text digits) (list_all is_digit digits) (nat_lt (digits_value 10 digits) (2 ^ 62)) (digits_value 10 digits) h.some h.digits (lt-ltb (digits_value 10 digits) (2 ^ 62) (subst (λ (x : ℕ). x < 2 ^ 62) (sym h.value) h.small))
    ∙ ap Some h.value

pub one_length : (digits : List ℕ) (n : ℕ) → IsNumber digits n → lengths_in digits ≡ Some n ∷ []
one_length digits n h =
    length_alone digits (all_pass is_digit is_solid digit_solid digits h.digits) ∙ ap (λ (o : Option ℕ). o ∷ []) (number_found digits n h)

pub values_at : (name : List ℕ) (before : List Field) (x : Field) (after : List Field) → has_field name before ≡ false → bytes_eq x.0 name ≡ true → has_field name after ≡ false → values_of name (before ++ x ∷ after) ≡ x.1 ∷ []
values_at name [] x after b e a =
    ap (λ (c : Bool). map (λ (f : Field). f.1) (cond c (x ∷ filter (has_name name) after) (filter (has_name name) after))) e
    ∙ ap (λ (vs : List (List ℕ)). x.1 ∷ vs) (no_values name after a)
values_at name (y ∷ before) x after b e a =
    let parts = or_parts (bytes_eq y.0 name) _ b in
    ap (λ (c : Bool). map (λ (f : Field). f.1) (cond c (y ∷ filter (has_name name) (before ++ x ∷ after)) (filter (has_name name) (before ++ x ∷ after)))) parts.0
    ∙ values_at name before x after parts.1 e a

pub freed : (field : Field) → is_plain field ≡ true → is_free true field ≡ true
freed field h =
    let p = plain_parts false field h in
    let te = or_parts (bytes_eq field.0 (codes "te")) _ p.own in
    let host = or_parts (bytes_eq field.0 (codes "host")) _ te.1 in
    let type = or_parts (bytes_eq field.0 (codes "content-type")) _ host.1 in
    and_from _ _ (and_from _ _ (and_from _ _ p.name p.value) (ap not p.connection))
    (ap not (or_from (bytes_eq field.0 (codes "te")) _ te.0 (or_from (bytes_eq field.0 (codes "host")) _ host.0 (or_from (bytes_eq field.0 (codes "content-type")) _ type.0 refl))))

pub all_freed : (fields : List Field) → list_all is_plain fields ≡ true → list_all (is_free true) fields ≡ true
all_freed [] h = refl
all_freed (field ∷ fields) h = and_from _ _ (freed field (and_parts _ _ h).0) (all_freed fields (and_parts _ _ h).1)

pub all_between : (before : List Field) (x : Field) (after : List Field) → list_all (is_free true) before ≡ true → is_free true x ≡ true → list_all (is_free true) after ≡ true → list_all (is_free true) (before ++ x ∷ after) ≡ true
all_between [] x after b h a = and_from _ _ h a
all_between (y ∷ before) x after b h a = and_from _ _ (and_parts _ _ b).0 (all_between before x after (and_parts _ _ b).1 h a)

pub counted_rest : (before after : List Field) (digits : List ℕ) (n : ℕ) → list_all is_plain before ≡ true → list_all is_plain after ≡ true → IsNumber digits n → Rest true (before ++ (codes "content-length", digits) ∷ after) (Some n)
counted_rest before after digits n b a h =
    let values = values_at (codes "content-length") before (codes "content-length", digits) after (absent false (codes "content-length") before refl b) refl (absent false (codes "content-length") after refl a) in
    let value : is_field_value digits ≡ true = visible_value digits (digits_visible digits h.digits) in
    let free : is_free true (codes "content-length", digits) ≡ true = and_from (is_field_value digits && true) true (and_from (is_field_value digits) true value refl) refl in
    record {
      free = all_between before (codes "content-length", digits) after (all_freed before b) free (all_freed after a);
      agree = ap (λ (vs : List (List ℕ)). all_agree (flat_map lengths_in vs)) values ∙ ap (λ (ls : List (Option ℕ)). all_agree (ls ++ [])) (one_length digits n h);
      length = ap (λ (vs : List (List ℕ)). first_length (flat_map lengths_in vs)) values ∙ ap (λ (ls : List (Option ℕ)). first_length (ls ++ [])) (one_length digits n h);
    }
