-- Texts of the grammar are read.
use Rattle.std.proofs.Common.{◌≡◌, ◌==◌, ℕ, Bool, true, false, not, ◌||◌, List, [], ◌∷◌, ◌++◌, map, Option, Some, None, refl, sym, ap, subst, ◌∙◌, eqb-true}
use Rattle.std.proofs.lemmas.Bool.{and_parts, or_cases, false≢true}
use mathlib.Core.Logic.{⊎_elim}
use Rattle.std.proofs.lemmas.List.{append-nil, append_assoc}
use Rattle.std.specs.List.{list_all}
use Rattle.wtp_fields.specs.FieldWriting.{is_blank}
use Rattle.wtp_subprotocols.specs.declared.strings.State.TheVariants.{Start, Before, Inside, Closed, Key, InKey, InValue, Quoted, InDisplay, After}
use Rattle.wtp_subprotocols.specs.Strings.{Char, Plain, Escaped, Bare, Text, Display, Other, Parameter, Member, is_key_start, is_key_byte, is_value_byte, is_display_byte, bare_then, parameters_then, ValidBare, ValidParameters, is_space, is_escaped, is_string_byte, is_char, byte_of, value_of, chars_then, member_then, others_bytes, ValidMember, ValidOthers, IsList, Empty, Members, IsItem, is_after, strings_after, strings_of, string_of, one_string}

-- ---- bytes

pub other_by : (v : Bool) (test : ℕ → Bool) (n b : ℕ) → (b == n) ≡ v → test n ≡ false → test b ≡ true → v ≡ false
other_by false test n b e none some = refl
other_by true test n b e none some = sym some ∙ ap test (eqb-true b n e) ∙ none

-- a byte that passes a test is none that does not
pub other : (test : ℕ → Bool) (n b : ℕ) → test n ≡ false → test b ≡ true → (b == n) ≡ false
other test n b none some = other_by (b == n) test n b refl none some

-- ---- texts of the grammar are read

pub before_read : (list : Bool) (values : List (List ℕ)) (current blanks rest : List ℕ) → list_all is_blank blanks ≡ true
    → strings_after list Before values current (blanks ++ rest) ≡ strings_after list Before values current rest
before_read list values current [] rest h = refl
before_read list values current (b ∷ blanks) rest h =
    let both = and_parts (is_blank b) _ h in
    rw (other is_blank 34 b refl both.0, both.0) (before_read list values current blanks rest both.1)

pub start_read : (list : Bool) (values : List (List ℕ)) (current blanks rest : List ℕ) → list_all is_space blanks ≡ true
    → strings_after list Start values current (blanks ++ rest) ≡ strings_after list Start values current rest
start_read list values current [] rest h = refl
start_read list values current (b ∷ blanks) rest h =
    let both = and_parts (is_space b) _ h in
    rw (other is_space 34 b refl both.0, both.0) (start_read list values current blanks rest both.1)

pub after_read : (list : Bool) (values : List (List ℕ)) (current blanks rest : List ℕ) → list_all (is_after list) blanks ≡ true
    → strings_after list After values current (blanks ++ rest) ≡ strings_after list After values current rest
after_read list values current [] rest h = refl
after_read list values current (b ∷ blanks) rest h =
    let both = and_parts (is_after list b) _ h in
    rw both.0 (after_read list values current blanks rest both.1)

pub shifted : (current : List ℕ) (byte : ℕ) (more : List ℕ) → (current ++ byte ∷ []) ++ more ≡ current ++ byte ∷ more
shifted current byte more = append_assoc current (byte ∷ []) more

pub or_parts : (a b : Bool) → (a || b) ≡ false → (a ≡ false) × (b ≡ false)
or_parts true b h = absurd (false≢true (sym h))
or_parts false b h = (refl, h)

pub not_true : (b : Bool) → not b ≡ true → b ≡ false
not_true true h = sym h
not_true false h = refl

pub plain_parts : (b : ℕ) → is_char (Plain b) ≡ true → ((b == 34) ≡ false) × ((b == 92) ≡ false) × (is_string_byte b ≡ true)
plain_parts b h =
    let both = and_parts (is_string_byte b) _ h in
    (other (λ x. not (is_escaped x)) 34 b refl both.1, other (λ x. not (is_escaped x)) 92 b refl both.1, both.0)

pub chars_read : (list : Bool) (values : List (List ℕ)) (current : List ℕ) (chars : List Char) (rest : List ℕ) → list_all is_char chars ≡ true
    → strings_after list Inside values current (chars_then chars (34 ∷ rest)) ≡ strings_after list Closed (values ++ (current ++ map byte_of chars) ∷ []) [] rest
chars_read list values current [] rest h = rw (append-nil current) refl
chars_read list values current (Plain b ∷ chars) rest h =
    let both = and_parts (is_char (Plain b)) _ h in
    let p = plain_parts b both.0 in
    rw (p.0, p.1, p.2, sym (shifted current b (map byte_of chars))) (chars_read list values (current ++ b ∷ []) chars rest both.1)
chars_read list values current (Escaped b ∷ chars) rest h =
    let both = and_parts (is_escaped b) _ h in
    rw (both.0, sym (shifted current b (map byte_of chars))) (chars_read list values (current ++ b ∷ []) chars rest both.1)

-- ---- parameters are read

-- the text is empty, or its first byte fails the test
abbrev pub StartsNot : (ℕ → Bool) → List ℕ → Type 0
StartsNot test [] = Unit {0}
StartsNot test (byte ∷ rest) = test byte ≡ false

abbrev pub is_semicolon : ℕ → Bool
is_semicolon byte = byte == 59

pub blank_fails : (test : ℕ → Bool) (list : Bool) (b : ℕ) → test 32 ≡ false → test 9 ≡ false → is_after list b ≡ true → test b ≡ false
blank_fails test true b space tab h = ⊎_elim
    (λ e. subst (λ (x : ℕ). test x ≡ false) (sym (eqb-true b 32 e)) space)
    (λ e. subst (λ (x : ℕ). test x ≡ false) (sym (eqb-true b 9 e)) tab)
    (or_cases (b == 32) (b == 9) h)
blank_fails test false b space tab h = subst (λ (x : ℕ). test x ≡ false) (sym (eqb-true b 32 h)) space

pub after_fails : (test : ℕ → Bool) (list : Bool) (blanks rest : List ℕ) → test 32 ≡ false → test 9 ≡ false → list_all (is_after list) blanks ≡ true
    → StartsNot test rest → StartsNot test (blanks ++ rest)
after_fails test list [] rest space tab h e = e
after_fails test list (b ∷ blanks) rest space tab h e = blank_fails test list b space tab (and_parts (is_after list b) _ h).0

pub closed_after : (list : Bool) (values : List (List ℕ)) (rest : List ℕ) → StartsNot is_semicolon rest
    → strings_after list Closed values [] rest ≡ strings_after list After values [] rest
closed_after list values [] e = refl
closed_after list values (b ∷ rest) e = rw e refl

pub value_parts : (b : ℕ) → is_value_byte b ≡ false → (is_key_byte b ≡ false) × ((b == 61) ≡ false)
value_parts b h = let both = or_parts (is_key_byte b) _ h in (both.0, (or_parts (b == 61) _ both.1).0)

pub key_closed : (list : Bool) (values : List (List ℕ)) (rest : List ℕ) → StartsNot is_value_byte rest
    → strings_after list InKey values [] rest ≡ strings_after list Closed values [] rest
key_closed list values [] e = refl
key_closed list values (b ∷ rest) e = let p = value_parts b e in rw (p.0, p.1) refl

pub value_closed : (list : Bool) (values : List (List ℕ)) (rest : List ℕ) → StartsNot is_value_byte rest
    → strings_after list InValue values [] rest ≡ strings_after list Closed values [] rest
value_closed list values [] e = refl
value_closed list values (b ∷ rest) e = rw e refl

pub quoted_read : (list : Bool) (values : List (List ℕ)) (chars : List Char) (rest : List ℕ) → list_all is_char chars ≡ true
    → strings_after list Quoted values [] (chars_then chars (34 ∷ rest)) ≡ strings_after list Closed values [] rest
quoted_read list values [] rest h = refl
quoted_read list values (Plain b ∷ chars) rest h =
    let both = and_parts (is_char (Plain b)) _ h in
    let p = plain_parts b both.0 in
    rw (p.0, p.1, p.2) (quoted_read list values chars rest both.1)
quoted_read list values (Escaped b ∷ chars) rest h =
    let both = and_parts (is_escaped b) _ h in rw both.0 (quoted_read list values chars rest both.1)

pub display_read : (list : Bool) (values : List (List ℕ)) (bytes rest : List ℕ) → list_all is_display_byte bytes ≡ true
    → strings_after list InDisplay values [] (bytes ++ 34 ∷ rest) ≡ strings_after list Closed values [] rest
display_read list values [] rest h = refl
display_read list values (b ∷ bytes) rest h =
    let both = and_parts (is_display_byte b) _ h in
    let parts = and_parts (is_string_byte b) _ both.0 in
    rw (not_true (b == 34) parts.1, parts.0) (display_read list values bytes rest both.1)

pub others_value_read : (list : Bool) (values : List (List ℕ)) (bytes rest : List ℕ) → list_all is_value_byte bytes ≡ true
    → strings_after list InValue values [] (bytes ++ rest) ≡ strings_after list InValue values [] rest
others_value_read list values [] rest h = refl
others_value_read list values (b ∷ bytes) rest h =
    let both = and_parts (is_value_byte b) _ h in rw both.0 (others_value_read list values bytes rest both.1)

pub keys_read : (list : Bool) (values : List (List ℕ)) (bytes rest : List ℕ) → list_all is_key_byte bytes ≡ true
    → strings_after list InKey values [] (bytes ++ rest) ≡ strings_after list InKey values [] rest
keys_read list values [] rest h = refl
keys_read list values (b ∷ bytes) rest h =
    let both = and_parts (is_key_byte b) _ h in rw both.0 (keys_read list values bytes rest both.1)

pub bare_read : (list : Bool) (values : List (List ℕ)) (bare : Option Bare) (rest : List ℕ) → ValidBare bare → StartsNot is_value_byte rest
    → strings_after list InKey values [] (bare_then bare rest) ≡ strings_after list Closed values [] rest
bare_read list values None rest v e = key_closed list values rest e
bare_read list values (Some (Text chars)) rest v e = quoted_read list values chars rest v
bare_read list values (Some (Display bytes)) rest v e = display_read list values bytes rest v
bare_read list values (Some (Other first others)) rest v e =
    let both = and_parts (is_value_byte first) _ v.0 in
    rw (other is_value_byte 34 first refl both.0, not_true (first == 37) both.1, both.0) (others_value_read list values others rest v.1 ∙ value_closed list values rest e)

pub key_spaces_read : (list : Bool) (values : List (List ℕ)) (spaces rest : List ℕ) → list_all is_space spaces ≡ true
    → strings_after list Key values [] (spaces ++ rest) ≡ strings_after list Key values [] rest
key_spaces_read list values [] rest h = refl
key_spaces_read list values (b ∷ spaces) rest h =
    let both = and_parts (is_space b) _ h in
    rw (blank_fails is_key_start false b refl refl both.0, both.0) (key_spaces_read list values spaces rest both.1)

pub parameters_end : (parameters : List Parameter) (rest : List ℕ) → StartsNot is_value_byte rest → StartsNot is_value_byte (parameters_then parameters rest)
parameters_end [] rest e = e
parameters_end (p ∷ ps) rest e = refl

pub first_key_read : (list : Bool) (values : List (List ℕ)) (first : ℕ) (rest : List ℕ) → is_key_start first ≡ true
    → strings_after list Key values [] (first ∷ rest) ≡ strings_after list InKey values [] rest
first_key_read list values first rest h = rw h refl

pub parameters_read : (list : Bool) (values : List (List ℕ)) (parameters : List Parameter) (rest : List ℕ) → ValidParameters parameters
    → StartsNot is_value_byte rest → StartsNot is_semicolon rest
    → strings_after list Closed values [] (parameters_then parameters rest) ≡ strings_after list After values [] rest
parameters_read list values [] rest v e s = closed_after list values rest s
parameters_read list values (p ∷ ps) rest v e s =
    key_spaces_read list values p.spaces _ v.0.spaces
    ∙ first_key_read list values p.first _ v.0.first
    ∙ keys_read list values p.key _ v.0.key
    ∙ bare_read list values p.bare (parameters_then ps rest) v.0.bare (parameters_end ps rest e)
    ∙ parameters_read list values ps rest v.1 e s

-- the parameters of a member, and what follows them
pub member_end_read : (list : Bool) (values : List (List ℕ)) (parameters : List Parameter) (after rest : List ℕ) → ValidParameters parameters
    → list_all (is_after list) after ≡ true → StartsNot is_value_byte rest → StartsNot is_semicolon rest
    → strings_after list Closed values [] (parameters_then parameters (after ++ rest)) ≡ strings_after list After values [] rest
member_end_read list values parameters after rest v h e s =
    parameters_read list values parameters (after ++ rest) v (after_fails is_value_byte list after rest refl refl h e) (after_fails is_semicolon list after rest refl refl h s)
    ∙ after_read list values [] after rest h

pub others_fail : (test : ℕ → Bool) (others : List Member) → test 44 ≡ false → StartsNot test (others_bytes others)
others_fail test [] e = tt
others_fail test (m ∷ others) e = e

pub values_shifted : (values : List (List ℕ)) (value : List ℕ) (more : List (List ℕ)) → (values ++ value ∷ []) ++ more ≡ values ++ value ∷ more
values_shifted values value more = append_assoc values (value ∷ []) more

pub others_read : (values : List (List ℕ)) (others : List Member) → ValidOthers others
    → strings_after true After values [] (others_bytes others) ≡ Some (values ++ map value_of others)
others_read values [] v = ap Some (sym (append-nil values))
others_read values (m ∷ others) v =
    before_read true values [] m.before _ v.0.before
    ∙ chars_read true values [] m.chars (parameters_then m.parameters (m.after ++ others_bytes others)) v.0.chars
    ∙ member_end_read true (values ++ value_of m ∷ []) m.parameters m.after (others_bytes others) v.0.parameters v.0.after
    (others_fail is_value_byte others refl) (others_fail is_semicolon others refl)
    ∙ others_read (values ++ value_of m ∷ []) others v.1
    ∙ ap Some (values_shifted values (value_of m) (map value_of others))

pub first_read : (list : Bool) (m : Member) (rest : List ℕ) → ValidMember is_space (is_after list) m → StartsNot is_value_byte rest → StartsNot is_semicolon rest
    → strings_after list Start [] [] (member_then m rest) ≡ strings_after list After (value_of m ∷ []) [] rest
first_read list m rest v e s =
    start_read list [] [] m.before _ v.before
    ∙ chars_read list [] [] m.chars (parameters_then m.parameters (m.after ++ rest)) v.chars
    ∙ member_end_read list (value_of m ∷ []) m.parameters m.after rest v.parameters v.after e s

pub spaces_read : (text : List ℕ) → list_all is_space text ≡ true → strings_of text ≡ Some []
spaces_read text h = rw (sym (append-nil text)) (start_read true [] [] text [] h)

pub list_read : (text : List ℕ) (values : List (List ℕ)) → IsList text values → strings_of text ≡ Some values
list_read text values (Empty spaces none) = spaces_read text spaces ∙ ap Some (sym none)
list_read text values (Members first others v vs bytes is) =
    ap strings_of (sym bytes) ∙ first_read true first (others_bytes others) v (others_fail is_value_byte others refl) (others_fail is_semicolon others refl) ∙ others_read (value_of first ∷ []) others vs ∙ ap Some is

pub item_read : (text value : List ℕ) → IsItem text value → string_of text ≡ Some value
item_read text value i = ap string_of (sym i.bytes) ∙ ap one_string (first_read false i.member [] i.valid tt tt) ∙ ap Some i.is
