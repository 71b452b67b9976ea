-- Texts that are read are of the grammar, and so is what is written.
use Rattle.std.proofs.Common.{◌≡◌, ◌==◌, ℕ, zero, suc, ◌≤◌, ◌<◌, Bool, true, false, not, List, [], ◌∷◌, ◌++◌, length, map, Option, Some, None, refl, sym, ap, subst, ◌∙◌, arith, eqb-true}
use Rattle.std.proofs.lemmas.Bool.{and_from, and_parts, false≢true}
use Rattle.std.proofs.lemmas.List.{append-nil}
use Rattle.std.proofs.lemmas.Option.{none-some}
use Rattle.std.specs.List.{list_all}
use Rattle.wtp_fields.specs.FieldWriting.{is_blank}
use Rattle.wtp_subprotocols.specs.declared.strings.State.TheVariants.{Start, Before, Inside, Escape, Closed, After}
use Rattle.wtp_subprotocols.specs.Strings.{Char, Plain, Escaped, Parameter, Member, parameters_then, is_space, is_escaped, is_string_byte, is_char, byte_of, value_of, chars_then, others_bytes, ValidOthers, IsList, Empty, Members, IsItem, strings_after, strings_of, string_of, one_string, last_string, char_of, string_after, written_string, written_list, is_string}
use Rattle.wtp_subprotocols.proofs.ReadLemmas.{other, shifted, values_shifted, list_read, item_read}
use Rattle.wtp_subprotocols.proofs.ParameterLemmas.{parameters_found}

-- ---- the strings

-- a string's characters, its quote and what follows
record IsInner (list : Bool) (values : List (List ℕ)) (current text : List ℕ) (all : List (List ℕ)) : Type 0 where
  chars : List Char
  rest : List ℕ
  valid : list_all is_char chars ≡ true
  bytes : chars_then chars (34 ∷ rest) ≡ text
  goes : strings_after list Closed (values ++ (current ++ map byte_of chars) ∷ []) [] rest ≡ Some all
  shorter : length rest < length text

with_char : (list : Bool) (values : List (List ℕ)) (current : List ℕ) (char : Char) (text whole : List ℕ) (all : List (List ℕ))
    → is_char char ≡ true → chars_then (char ∷ []) text ≡ whole → length text < length whole
    → IsInner list values (current ++ byte_of char ∷ []) text all → IsInner list values current whole all
with_char list values current (Plain b) text whole all v e l i = record {
  chars = Plain b ∷ i.chars;
  rest = i.rest;
  valid = and_from _ _ v i.valid;
  bytes = ap (λ (t : List ℕ). b ∷ t) i.bytes ∙ e;
  goes = rw (sym (shifted current b (map byte_of i.chars))) i.goes;
  shorter = let more = i.shorter in omega (arith, more, l);
}
with_char list values current (Escaped b) text whole all v e l i = record {
  chars = Escaped b ∷ i.chars;
  rest = i.rest;
  valid = and_from _ _ v i.valid;
  bytes = ap (λ (t : List ℕ). 92 ∷ b ∷ t) i.bytes ∙ e;
  goes = rw (sym (shifted current b (map byte_of i.chars))) i.goes;
  shorter = let more = i.shorter in omega (arith, more, l);
}

abbrev InnerUpTo : ℕ → Bool → Type 0
InnerUpTo n list = (values : List (List ℕ)) (current text : List ℕ) (all : List (List ℕ)) → length text ≤ n
    → strings_after list Inside values current text ≡ Some all → IsInner list values current text all

escaped_inner : (v : Bool) (n : ℕ) (list : Bool) (values : List (List ℕ)) (current : List ℕ) (byte : ℕ) (rest : List ℕ) (all : List (List ℕ))
    → is_escaped byte ≡ v → InnerUpTo n list → length rest ≤ n
    → strings_after list Escape values current (byte ∷ rest) ≡ Some all → IsInner list values current (92 ∷ byte ∷ rest) all
escaped_inner true n list values current byte rest all e ih few h =
    with_char list values current (Escaped byte) rest (92 ∷ byte ∷ rest) all e refl (omega arith) (ih values (current ++ byte ∷ []) rest all few (rw e at h))
escaped_inner false n list values current byte rest all e ih few h = absurd (none-some all (rw e at h))

after_escape : (n : ℕ) (list : Bool) (values : List (List ℕ)) (current rest : List ℕ) (all : List (List ℕ))
    → InnerUpTo n list → length rest ≤ n
    → strings_after list Escape values current rest ≡ Some all → IsInner list values current (92 ∷ rest) all
after_escape n list values current [] all ih few h = absurd (none-some all h)
after_escape n list values current (byte ∷ rest) all ih few h = escaped_inner (is_escaped byte) n list values current byte rest all refl ih (omega (arith, few)) h

plain_inner : (v : Bool) (n : ℕ) (list : Bool) (values : List (List ℕ)) (current : List ℕ) (byte : ℕ) (rest : List ℕ) (all : List (List ℕ))
    → is_string_byte byte ≡ v → (byte == 34) ≡ false → (byte == 92) ≡ false → InnerUpTo n list → length rest ≤ n
    → strings_after list Inside values current (byte ∷ rest) ≡ Some all → IsInner list values current (byte ∷ rest) all
plain_inner true n list values current byte rest all e quote slash ih few h =
    with_char list values current (Plain byte) rest (byte ∷ rest) all (rw (e, quote, slash) refl) refl (omega arith) (ih values (current ++ byte ∷ []) rest all few (rw (quote, slash, e) at h))
plain_inner false n list values current byte rest all e quote slash ih few h = absurd (none-some all (rw (quote, slash, e) at h))

slash_inner : (v : Bool) (n : ℕ) (list : Bool) (values : List (List ℕ)) (current : List ℕ) (byte : ℕ) (rest : List ℕ) (all : List (List ℕ))
    → (byte == 92) ≡ v → (byte == 34) ≡ false → InnerUpTo n list → length rest ≤ n
    → strings_after list Inside values current (byte ∷ rest) ≡ Some all → IsInner list values current (byte ∷ rest) all
slash_inner true n list values current byte rest all slash quote ih few h =
    subst (λ (x : ℕ). IsInner list values current (x ∷ rest) all) (sym (eqb-true byte 92 slash)) (after_escape n list values current rest all ih few (rw (quote, slash) at h))
slash_inner false n list values current byte rest all slash quote ih few h = plain_inner (is_string_byte byte) n list values current byte rest all refl quote slash ih few h

quote_inner : (v : Bool) (n : ℕ) (list : Bool) (values : List (List ℕ)) (current : List ℕ) (byte : ℕ) (rest : List ℕ) (all : List (List ℕ))
    → (byte == 34) ≡ v → InnerUpTo n list → length rest ≤ n
    → strings_after list Inside values current (byte ∷ rest) ≡ Some all → IsInner list values current (byte ∷ rest) all
quote_inner true n list values current byte rest all quote ih few h = record {
  chars = [];
  rest = rest;
  valid = refl;
  bytes = ap (λ (x : ℕ). x ∷ rest) (sym (eqb-true byte 34 quote));
  goes = rw (append-nil current) (rw quote at h);
  shorter = omega arith;
}
quote_inner false n list values current byte rest all quote ih few h = slash_inner (byte == 92) n list values current byte rest all refl quote ih few h

inner_found : (n : ℕ) (list : Bool) → InnerUpTo n list
inner_found n list values current [] all few h = absurd (none-some all h)
inner_found zero list values current (byte ∷ rest) all few h = absurd (omega (arith, few))
inner_found (suc n) list values current (byte ∷ rest) all few h = quote_inner (byte == 34) n list values current byte rest all refl (inner_found n list) (omega (arith, few)) h

-- blanks and the quote of a string, in a state before it
record IsBegun (is_before : ℕ → Bool) (list : Bool) (values : List (List ℕ)) (text : List ℕ) (all : List (List ℕ)) : Type 0 where
  before : List ℕ
  rest : List ℕ
  valid : list_all is_before before ≡ true
  bytes : before ++ 34 ∷ rest ≡ text
  goes : strings_after list Inside values [] rest ≡ Some all
  shorter : length rest < length text

with_blank : (is_before : ℕ → Bool) (list : Bool) (values : List (List ℕ)) (byte : ℕ) (text : List ℕ) (all : List (List ℕ))
    → is_before byte ≡ true → IsBegun is_before list values text all → IsBegun is_before list values (byte ∷ text) all
with_blank is_before list values byte text all v b = record {
  before = byte ∷ b.before;
  rest = b.rest;
  valid = and_from _ _ v b.valid;
  bytes = ap (λ (t : List ℕ). byte ∷ t) b.bytes;
  goes = b.goes;
  shorter = let more = b.shorter in omega (arith, more);
}

at_quote : (is_before : ℕ → Bool) (list : Bool) (values : List (List ℕ)) (byte : ℕ) (text : List ℕ) (all : List (List ℕ))
    → (byte == 34) ≡ true → strings_after list Inside values [] text ≡ Some all → IsBegun is_before list values (byte ∷ text) all
at_quote is_before list values byte text all quote h = record {
  before = [];
  rest = text;
  valid = refl;
  bytes = ap (λ (x : ℕ). x ∷ text) (sym (eqb-true byte 34 quote));
  goes = h;
  shorter = omega arith;
}

before_blank : (v : Bool) (values : List (List ℕ)) (byte : ℕ) (rest : List ℕ) (all : List (List ℕ))
    → is_blank byte ≡ v → (byte == 34) ≡ false → (strings_after true Before values [] rest ≡ Some all → IsBegun is_blank true values rest all)
    → strings_after true Before values [] (byte ∷ rest) ≡ Some all → IsBegun is_blank true values (byte ∷ rest) all
before_blank true values byte rest all e quote ih h = with_blank is_blank true values byte rest all e (ih (rw (quote, e) at h))
before_blank false values byte rest all e quote ih h = absurd (none-some all (rw (quote, e) at h))

before_quote : (v : Bool) (values : List (List ℕ)) (byte : ℕ) (rest : List ℕ) (all : List (List ℕ))
    → (byte == 34) ≡ v → (strings_after true Before values [] rest ≡ Some all → IsBegun is_blank true values rest all)
    → strings_after true Before values [] (byte ∷ rest) ≡ Some all → IsBegun is_blank true values (byte ∷ rest) all
before_quote true values byte rest all quote ih h = at_quote is_blank true values byte rest all quote (rw quote at h)
before_quote false values byte rest all quote ih h = before_blank (is_blank byte) values byte rest all refl quote ih h

before_found : (values : List (List ℕ)) (text : List ℕ) (all : List (List ℕ)) → strings_after true Before values [] text ≡ Some all → IsBegun is_blank true values text all
before_found values [] all h = absurd (none-some all h)
before_found values (byte ∷ rest) all h = before_quote (byte == 34) values byte rest all refl (before_found values rest all) h

-- ---- after a string

-- blanks, and further members
record IsOthers (values : List (List ℕ)) (text : List ℕ) (all : List (List ℕ)) : Type 0 where
  after : List ℕ
  others : List Member
  blank : list_all is_blank after ≡ true
  valid : ValidOthers others
  bytes : after ++ others_bytes others ≡ text
  is : values ++ map value_of others ≡ all

abbrev OthersUpTo : ℕ → Type 0
OthersUpTo n = (values : List (List ℕ)) (text : List ℕ) (all : List (List ℕ)) → length text ≤ n
    → strings_after true After values [] text ≡ Some all → IsOthers values text all

member_bytes : (before : List ℕ) (chars : List Char) (ps : List Parameter) (after more end rest text : List ℕ) → after ++ more ≡ end
    → parameters_then ps end ≡ rest → before ++ 34 ∷ chars_then chars (34 ∷ rest) ≡ text
    → before ++ 34 ∷ chars_then chars (34 ∷ parameters_then ps (after ++ more)) ≡ text
member_bytes before chars ps after more end rest text e k h = rw (e, k) h

after_comma : (n : ℕ) (values : List (List ℕ)) (rest : List ℕ) (all : List (List ℕ)) → OthersUpTo n → length rest ≤ n
    → strings_after true Before values [] rest ≡ Some all → IsOthers values (44 ∷ rest) all
after_comma n values rest all ih few h =
    let b = before_found values rest all h in
    let i = inner_found (length b.rest) true values [] b.rest all (omega arith) b.goes in
    let p = parameters_found (length i.rest) true (values ++ map byte_of i.chars ∷ []) i.rest all (omega arith) i.goes in
    let o = ih (values ++ map byte_of i.chars ∷ []) p.rest all (let x = b.shorter in let y = i.shorter in let z = p.shorter in omega (arith, x, y, z, few)) p.goes in
    let m : Member = record { before = b.before; chars = i.chars; parameters = p.parameters; after = o.after } in
    record {
      after = [];
      others = m ∷ o.others;
      blank = refl;
      valid = (record { before = b.valid; chars = i.valid; parameters = p.valid; after = o.blank }, o.valid);
      bytes = ap (λ (t : List ℕ). 44 ∷ t) (member_bytes b.before i.chars p.parameters o.after (others_bytes o.others) p.rest i.rest rest o.bytes p.bytes
          (ap (λ (t : List ℕ). b.before ++ 34 ∷ t) i.bytes ∙ b.bytes));
      is = sym (values_shifted values (map byte_of i.chars) (map value_of o.others)) ∙ o.is;
    }

comma_others : (v : Bool) (n : ℕ) (values : List (List ℕ)) (byte : ℕ) (rest : List ℕ) (all : List (List ℕ)) → (byte == 44) ≡ v → is_blank byte ≡ false
    → OthersUpTo n → length rest ≤ n → strings_after true After values [] (byte ∷ rest) ≡ Some all → IsOthers values (byte ∷ rest) all
comma_others true n values byte rest all comma blank ih few h =
    subst (λ (x : ℕ). IsOthers values (x ∷ rest) all) (sym (eqb-true byte 44 comma)) (after_comma n values rest all ih few (rw (blank, comma) at h))
comma_others false n values byte rest all comma blank ih few h = absurd (none-some all (rw (blank, comma) at h))

blank_others : (v : Bool) (n : ℕ) (values : List (List ℕ)) (byte : ℕ) (rest : List ℕ) (all : List (List ℕ)) → is_blank byte ≡ v
    → OthersUpTo n → length rest ≤ n → strings_after true After values [] (byte ∷ rest) ≡ Some all → IsOthers values (byte ∷ rest) all
blank_others true n values byte rest all blank ih few h =
    let o = ih values rest all few (rw blank at h) in
    record { after = byte ∷ o.after; others = o.others; blank = and_from _ _ blank o.blank; valid = o.valid; bytes = ap (λ (t : List ℕ). byte ∷ t) o.bytes; is = o.is }
blank_others false n values byte rest all blank ih few h = comma_others (byte == 44) n values byte rest all refl blank ih few h

some_same : (values all : List (List ℕ)) → Some values ≡ Some all → values ≡ all
some_same values all e = cc e

others_found : (n : ℕ) → OthersUpTo n
others_found n values [] all few h =
    record { after = []; others = []; blank = refl; valid = tt; bytes = refl; is = append-nil values ∙ some_same values all h }
others_found zero values (byte ∷ rest) all few h = absurd (omega (arith, few))
others_found (suc n) values (byte ∷ rest) all few h = blank_others (is_blank byte) n values byte rest all refl (others_found n) (omega (arith, few)) h

-- ---- the whole text

-- spaces alone, or spaces before a string
data IsStarted (list : Bool) (text : List ℕ) (all : List (List ℕ)) : Type 0 where
  Alone : list ≡ true → list_all is_space text ≡ true → [] ≡ all → IsStarted list text all
  Begun : IsBegun is_space list [] text all → IsStarted list text all

started_at : (list : Bool) (byte : ℕ) (rest : List ℕ) (all : List (List ℕ)) → is_space byte ≡ true → IsStarted list rest all → IsStarted list (byte ∷ rest) all
started_at list byte rest all space (Alone is spaces none) = Alone is (and_from _ _ space spaces) none
started_at list byte rest all space (Begun b) = Begun (with_blank is_space list [] byte rest all space b)

start_space : (v list : Bool) (byte : ℕ) (rest : List ℕ) (all : List (List ℕ)) → is_space byte ≡ v → (byte == 34) ≡ false
    → (strings_after list Start [] [] rest ≡ Some all → IsStarted list rest all) → strings_after list Start [] [] (byte ∷ rest) ≡ Some all → IsStarted list (byte ∷ rest) all
start_space true list byte rest all space quote ih h = started_at list byte rest all space (ih (rw (quote, space) at h))
start_space false list byte rest all space quote ih h = absurd (none-some all (rw (quote, space) at h))

start_quote : (v list : Bool) (byte : ℕ) (rest : List ℕ) (all : List (List ℕ)) → (byte == 34) ≡ v
    → (strings_after list Start [] [] rest ≡ Some all → IsStarted list rest all) → strings_after list Start [] [] (byte ∷ rest) ≡ Some all → IsStarted list (byte ∷ rest) all
start_quote true list byte rest all quote ih h = Begun (at_quote is_space list [] byte rest all quote (rw quote at h))
start_quote false list byte rest all quote ih h = start_space (is_space byte) list byte rest all refl quote ih h

start_found : (list : Bool) (text : List ℕ) (all : List (List ℕ)) → strings_after list Start [] [] text ≡ Some all → IsStarted list text all
start_found true [] all h = Alone refl refl (some_same [] all h)
start_found false [] all h = absurd (none-some all h)
start_found list (byte ∷ rest) all h = start_quote (byte == 34) list byte rest all refl (start_found list rest all) h

list_begun : (text : List ℕ) (all : List (List ℕ)) → IsStarted true text all → IsList text all
list_begun text all (Alone is spaces none) = Empty spaces (sym none)
list_begun text all (Begun b) =
    let i = inner_found (length b.rest) true [] [] b.rest all (omega arith) b.goes in
    let p = parameters_found (length i.rest) true (map byte_of i.chars ∷ []) i.rest all (omega arith) i.goes in
    let o = others_found (length p.rest) (map byte_of i.chars ∷ []) p.rest all (omega arith) p.goes in
    Members (record { before = b.before; chars = i.chars; parameters = p.parameters; after = o.after }) o.others
    (record { before = b.valid; chars = i.valid; parameters = p.valid; after = o.blank }) o.valid
    (member_bytes b.before i.chars p.parameters o.after (others_bytes o.others) p.rest i.rest text o.bytes p.bytes (ap (λ (t : List ℕ). b.before ++ 34 ∷ t) i.bytes ∙ b.bytes))
    o.is

pub list_found : (text : List ℕ) (all : List (List ℕ)) → strings_of text ≡ Some all → IsList text all
list_found text all h = list_begun text all (start_found true text all h)

-- ---- one string

record IsLast (values : List (List ℕ)) (text : List ℕ) (all : List (List ℕ)) : Type 0 where
  spaces : list_all is_space text ≡ true
  is : values ≡ all

space_last : (v : Bool) (values : List (List ℕ)) (byte : ℕ) (rest : List ℕ) (all : List (List ℕ)) → is_space byte ≡ v
    → (strings_after false After values [] rest ≡ Some all → IsLast values rest all)
    → strings_after false After values [] (byte ∷ rest) ≡ Some all → IsLast values (byte ∷ rest) all
space_last true values byte rest all space ih h = let l = ih (rw space at h) in record { spaces = and_from _ _ space l.spaces; is = l.is }
space_last false values byte rest all space ih h = absurd (none-some all (rw space at h))

last_found : (values : List (List ℕ)) (text : List ℕ) (all : List (List ℕ)) → strings_after false After values [] text ≡ Some all → IsLast values text all
last_found values [] all h = record { spaces = refl; is = some_same values all h }
last_found values (byte ∷ rest) all h = space_last (is_space byte) values byte rest all refl (last_found values rest all) h

some_value : (value other : List ℕ) → Some value ≡ Some other → value ≡ other
some_value value other e = cc e

item_begun : (text : List ℕ) (all : List (List ℕ)) (value : List ℕ) → IsStarted false text all → last_string all ≡ Some value → IsItem text value
item_begun text all value (Alone is spaces none) h = absurd (false≢true is)
item_begun text all value (Begun b) h =
    let i = inner_found (length b.rest) false [] [] b.rest all (omega arith) b.goes in
    let p = parameters_found (length i.rest) false (map byte_of i.chars ∷ []) i.rest all (omega arith) i.goes in
    let l = last_found (map byte_of i.chars ∷ []) p.rest all p.goes in
    record {
      member = record { before = b.before; chars = i.chars; parameters = p.parameters; after = p.rest };
      valid = record { before = b.valid; chars = i.valid; parameters = p.valid; after = l.spaces };
      bytes = member_bytes b.before i.chars p.parameters p.rest [] p.rest i.rest text (append-nil p.rest) p.bytes (ap (λ (t : List ℕ). b.before ++ 34 ∷ t) i.bytes ∙ b.bytes);
      is = some_value (map byte_of i.chars) value (ap last_string l.is ∙ h);
    }

item_by : (found : Option (List (List ℕ))) (text value : List ℕ) → strings_after false Start [] [] text ≡ found → one_string found ≡ Some value → IsItem text value
item_by None text value e h = absurd (none-some value h)
item_by (Some all) text value e h = item_begun text all value (start_found false text all e) h

pub item_found : (text value : List ℕ) → string_of text ≡ Some value → IsItem text value
item_found text value h = item_by (strings_after false Start [] [] text) text value refl h

-- ---- what is written

char_by : (v : Bool) (byte : ℕ) → is_escaped byte ≡ v → is_string_byte byte ≡ true → is_char (char_of byte) ≡ true
char_by true byte e h = rw e e
char_by false byte e h = rw e (and_from _ _ h (ap not e))

byte_by : (v : Bool) (byte : ℕ) → is_escaped byte ≡ v → byte_of (char_of byte) ≡ byte
byte_by true byte e = rw e refl
byte_by false byte e = rw e refl

chars_valid : (value : List ℕ) → is_string value ≡ true → list_all is_char (map char_of value) ≡ true
chars_valid [] h = refl
chars_valid (byte ∷ value) h =
    let both = and_parts (is_string_byte byte) _ h in
    and_from _ _ (char_by (is_escaped byte) byte refl both.0) (chars_valid value both.1)

chars_value : (value : List ℕ) → map byte_of (map char_of value) ≡ value
chars_value [] = refl
chars_value (byte ∷ value) = rw (byte_by (is_escaped byte) byte refl, chars_value value) refl

pub string_kept : (value : List ℕ) → is_string value ≡ true → string_of (written_string value) ≡ Some value
string_kept value h = item_read (written_string value) value
    (record { member = string_after [] value; valid = record { before = refl; chars = chars_valid value h; parameters = tt; after = refl }; bytes = refl; is = chars_value value })

others_valid : (values : List (List ℕ)) → list_all is_string values ≡ true → ValidOthers (map (string_after (32 ∷ [])) values)
others_valid [] h = tt
others_valid (value ∷ values) h =
    let both = and_parts (is_string value) _ h in
    (record { before = refl; chars = chars_valid value both.0; parameters = tt; after = refl }, others_valid values both.1)

others_value : (values : List (List ℕ)) → map value_of (map (string_after (32 ∷ [])) values) ≡ values
others_value [] = refl
others_value (value ∷ values) = rw (chars_value value, others_value values) refl

pub list_kept : (values : List (List ℕ)) → list_all is_string values ≡ true → strings_of (written_list values) ≡ Some values
list_kept [] h = refl
list_kept (value ∷ values) h =
    let both = and_parts (is_string value) _ h in
    list_read (written_list (value ∷ values)) (value ∷ values)
    (Members (string_after [] value) (map (string_after (32 ∷ [])) values)
    (record { before = refl; chars = chars_valid value both.0; parameters = tt; after = refl }) (others_valid values both.1) refl
    (rw (chars_value value, others_value values) refl))
