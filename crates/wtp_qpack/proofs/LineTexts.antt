-- Lines as bytes and lines of texts.
use Rattle.std.proofs.Common.{◌≡◌, ◌⊎◌, inl, inr, ℕ, zero, suc, ◌<◌, Bool, true, false, ◌&&◌, cond, nat_lt, List, [], ◌∷◌, length, take, drop, refl, sym, ◌∙◌, ap, Option, Some, None, Result, Ok, Err, slice_get, slice_index, arith, IsUtf8}
use Rattle.std.proofs.lemmas.Bool.{ltb-true}
use Rattle.std.proofs.lemmas.Str.{IsUtf8-from_ascii, IsUtf8-from_is_utf8, is_utf8-from_IsUtf8}
use Rattle.std.specs.Str.{is_utf8}
use Rattle.wtp_qpack.specs.declared.qpack.DecodingError.{DecodingError}
use Rattle.wtp_qpack.specs.declared.qpack.DecodingError.TheVariants.{UnexpectedFin, InvalidString}
use Rattle.wtp_qpack.specs.declared.qpack.field_line.Table.TheVariants.{Static, Dynamic}
use Rattle.wtp_qpack.specs.declared.qpack.field_line.Representation.{Representation}
use Rattle.wtp_qpack.specs.declared.qpack.field_line.Representation.TheVariants.{Indexed, IndexedPostBase, NameReference, PostBaseNameReference, LiteralName}
use Rattle.wtp_qpack.specs.declared.qpack.string_literal.Texts.TheVariants.{Octets, Utf8}
use Rattle.wtp_qpack.specs.Field.{Field, field_map}
use Rattle.wtp_qpack.specs.Qpack.{◌>>=◌}
use Rattle.wtp_qpack.specs.Integer.{integer_at}
use Rattle.wtp_qpack.specs.StaticTable.{static_table, entry_at}
use Rattle.wtp_qpack.specs.StringLiteral.{utf8_text, octets, checked, text_of, flag_above, string_in, string_at, octets_at}
use Rattle.wtp_qpack.specs.FieldLine.{representation_of, or_not_found, indexed_at, name_reference_in, literal_name_in, line_by, line_in, line_at}
use Rattle.wtp_qpack.specs.FieldSection.{after_prefix, AreLines, section_at, map_at}
use Rattle.wtp_qpack.specs.FieldLines.{octet_line_at, AreOctetLines, is_utf8_field, AreUtf8Fields, as_texts}
use Rattle.wtp_qpack.proofs.Chosen.{bind_ok}
use Rattle.wtp_qpack.proofs.SectionLaws.{section_found}
use Rattle.wtp_qpack.proofs.SectionReading.{map_found, map_fault}

-- ---- strings

-- a text, and the bytes after its string
abbrev with_rest : List ℕ → List ℕ → Result (List ℕ × List ℕ) DecodingError
with_rest rest t = Ok (t, rest)

-- a name, and what was read of a value
abbrev with_name : List ℕ → List ℕ × List ℕ → Result (Field × List ℕ) DecodingError
with_name name v = Ok ((name, v.0), v.1)

-- a string of bytes as a string of text
utf8_string : List ℕ × List ℕ → Result (List ℕ × List ℕ) DecodingError
utf8_string s = utf8_text s.0 >>= with_rest s.1

pairs_checked : (r : Result (List ℕ) DecodingError) (rest : List ℕ) → ((r >>= checked Utf8) >>= with_rest rest) ≡ (((r >>= checked Octets) >>= with_rest rest) >>= utf8_string)
unfolding utf8_string
pairs_checked (Ok t) rest = refl
pairs_checked (Err e) rest = refl

text_checked : (few b : Bool) (body rest : List ℕ)
    → cond few (Err UnexpectedFin) (text_of Utf8 b body >>= with_rest rest) ≡ (cond few (Err UnexpectedFin) (text_of Octets b body >>= with_rest rest) >>= utf8_string)
text_checked true b body rest = refl
text_checked false b body rest = pairs_checked (octets b body) rest

size_checked : (b : Bool) (r : Result (ℕ × List ℕ) DecodingError)
    → (r >>= λ size. cond (nat_lt (length size.1) size.0) (Err UnexpectedFin) (text_of Utf8 b (take size.0 size.1) >>= with_rest (drop size.0 size.1)))
    ≡ ((r >>= λ size. cond (nat_lt (length size.1) size.0) (Err UnexpectedFin) (text_of Octets b (take size.0 size.1) >>= with_rest (drop size.0 size.1))) >>= utf8_string)
size_checked b (Err e) = refl
size_checked b (Ok size) = text_checked (nat_lt (length size.1) size.0) b (take size.0 size.1) (drop size.0 size.1)

string_octets : (n : ℕ) (bytes : List ℕ) → string_at n bytes ≡ (octets_at n bytes >>= utf8_string)
unfolding string_in
string_octets n bytes = size_checked (flag_above n bytes) (integer_at n bytes)

-- ---- the entries of the static table are texts

below_128 : List ℕ → Bool
below_128 [] = true
below_128 (b ∷ bs) = nat_lt b 128 && below_128 bs

ascii_field : Field → Bool
ascii_field field = below_128 field.0 && below_128 field.1

all_ascii : List Field → Bool
all_ascii [] = true
all_ascii (field ∷ fields) = ascii_field field && all_ascii fields

entries_ascii : all_ascii static_table ≡ true
unfolding static_table all_ascii ascii_field below_128
entries_ascii = refl

and_left : (a b : Bool) → (a && b) ≡ true → a ≡ true
and_left true b e = refl
and_left false b e = cc e

and_right : (a b : Bool) → (a && b) ≡ true → b ≡ true
and_right true b e = e
and_right false b e = cc e

same_field : (x y : Field) → Some x ≡ Some y → x ≡ y
same_field x y e = cc

all_at : (xs : List Field) (k : ℕ) (x : Field) → all_ascii xs ≡ true → slice_get xs k ≡ Some x → ascii_field x ≡ true
unfolding all_ascii
all_at [] k x all e = cc e
all_at (y ∷ ys) zero x all e = rw (← same_field y x e) (and_left (ascii_field y) (all_ascii ys) all)
all_at (y ∷ ys) (suc k) x all e = all_at ys k x (and_right (ascii_field y) (all_ascii ys) all) e

ascii_at : (bs : List ℕ) → below_128 bs ≡ true → (i : ℕ) → slice_index bs i < 128
unfolding below_128
ascii_at [] all i = omega arith
ascii_at (b ∷ bs) all zero = ltb-true b 128 (and_left (nat_lt b 128) (below_128 bs) all)
ascii_at (b ∷ bs) all (suc i) = ascii_at bs (and_right (nat_lt b 128) (below_128 bs) all) i

ascii_utf8 : (bs : List ℕ) → below_128 bs ≡ true → is_utf8 bs ≡ true
ascii_utf8 bs all = is_utf8-from_IsUtf8 bs (IsUtf8-from_ascii bs (ascii_at bs all))

pub entry_utf8 : (k : ℕ) (entry : Field) → entry_at k ≡ Some entry → (is_utf8 entry.0 ≡ true) × (is_utf8 entry.1 ≡ true)
unfolding ascii_field
entry_utf8 k entry e =
    let both = all_at static_table k entry entries_ascii e in
    (ascii_utf8 entry.0 (and_left (below_128 entry.0) (below_128 entry.1) both), ascii_utf8 entry.1 (and_right (below_128 entry.0) (below_128 entry.1) both))

-- ---- lines

-- what is read as a line of bytes, and as a line of texts: a name that is no text is a fault before
-- one of the value
pub Matches : Result (Field × List ℕ) DecodingError → Result (Field × List ℕ) DecodingError → Type 0
Matches (Ok line) texts = texts ≡ as_texts line
Matches (Err e) texts = (texts ≡ Err e) ⊎ (texts ≡ Err InvalidString)

test_value : (b : Bool) (name t rest : List ℕ)
    → ((cond b (Ok t) (Err InvalidString) >>= with_rest rest) >>= with_name name) ≡ cond b (Ok ((name, t), rest)) (Err InvalidString)
test_value true name t rest = refl
test_value false name t rest = refl

value_read : (name : List ℕ) → is_utf8 name ≡ true → (r : Result (List ℕ × List ℕ) DecodingError)
    → Matches (r >>= with_name name) ((r >>= utf8_string) >>= with_name name)
unfolding Matches utf8_string utf8_text
value_read name good (Err e) = inl refl
value_read name good (Ok v) = rw good (test_value (is_utf8 v.0) name v.0 v.1)

value_matches : (name : List ℕ) → is_utf8 name ≡ true → (bytes : List ℕ)
    → Matches (octets_at 7 bytes >>= with_name name) (string_at 7 bytes >>= with_name name)
value_matches name good bytes = rw (string_octets 7 bytes) (value_read name good (octets_at 7 bytes))

entry_matches : (k : ℕ) (o : Option Field) → entry_at k ≡ o → (bytes : List ℕ)
    → Matches (or_not_found o >>= λ entry. octets_at 7 bytes >>= with_name entry.0) (or_not_found o >>= λ entry. string_at 7 bytes >>= with_name entry.0)
unfolding Matches
entry_matches k None e bytes = inl refl
entry_matches k (Some entry) e bytes = value_matches entry.0 (entry_utf8 k entry e).0 bytes

index_matches : (r : Result (ℕ × List ℕ) DecodingError)
    → Matches (r >>= λ index. or_not_found (entry_at index.0) >>= λ entry. octets_at 7 index.1 >>= with_name entry.0)
    (r >>= λ index. or_not_found (entry_at index.0) >>= λ entry. string_at 7 index.1 >>= with_name entry.0)
unfolding Matches
index_matches (Err e) = inl refl
index_matches (Ok index) = entry_matches index.0 (entry_at index.0) refl index.1

reference_matches : (bytes : List ℕ) → Matches (name_reference_in Octets bytes) (name_reference_in Utf8 bytes)
unfolding name_reference_in
reference_matches bytes = index_matches (integer_at 4 bytes)

-- a name that is no text
refused : (name : List ℕ) → is_utf8 name ≡ false → (r : Result (List ℕ × List ℕ) DecodingError)
    → Matches (r >>= with_name name) (Err InvalidString)
unfolding Matches
refused name bad (Err e) = inr refl
refused name bad (Ok v) = rw bad refl

name_tested : (b : Bool) (name : List ℕ) → is_utf8 name ≡ b → (rest : List ℕ)
    → Matches (octets_at 7 rest >>= with_name name)
    ((cond b (Ok name) (Err InvalidString) >>= with_rest rest) >>= λ n. string_at 7 n.1 >>= with_name n.0)
name_tested true name good rest = value_matches name good rest
name_tested false name bad rest = refused name bad (octets_at 7 rest)

name_read : (r : Result (List ℕ × List ℕ) DecodingError)
    → Matches (r >>= λ n. octets_at 7 n.1 >>= with_name n.0)
    ((r >>= utf8_string) >>= λ n. string_at 7 n.1 >>= with_name n.0)
unfolding Matches utf8_string utf8_text
name_read (Err e) = inl refl
name_read (Ok n) = name_tested (is_utf8 n.0) n.0 refl n.1

name_matches : (bytes : List ℕ) → Matches (literal_name_in Octets bytes) (literal_name_in Utf8 bytes)
unfolding literal_name_in
name_matches bytes = rw (string_octets 3 bytes) (name_read (octets_at 3 bytes))

field_matches : (k : ℕ) (o : Option Field) → entry_at k ≡ o → (rest : List ℕ)
    → Matches (or_not_found o >>= λ entry. Ok (entry, rest)) (or_not_found o >>= λ entry. Ok (entry, rest))
unfolding Matches
field_matches k None e rest = inl refl
field_matches k (Some entry) e rest = rw ((entry_utf8 k entry e).0, (entry_utf8 k entry e).1) refl

whole_matches : (r : Result (ℕ × List ℕ) DecodingError)
    → Matches (r >>= λ index. or_not_found (entry_at index.0) >>= λ entry. Ok (entry, index.1)) (r >>= λ index. or_not_found (entry_at index.0) >>= λ entry. Ok (entry, index.1))
unfolding Matches
whole_matches (Err e) = inl refl
whole_matches (Ok index) = field_matches index.0 (entry_at index.0) refl index.1

indexed_matches : (bytes : List ℕ) → Matches (indexed_at bytes) (indexed_at bytes)
unfolding indexed_at
indexed_matches bytes = whole_matches (integer_at 6 bytes)

form_matches : (representation : Representation) (bytes : List ℕ) → Matches (line_by Octets representation bytes) (line_by Utf8 representation bytes)
unfolding Matches
form_matches (Indexed Static) bytes = indexed_matches bytes
form_matches (Indexed Dynamic) bytes = inl refl
form_matches IndexedPostBase bytes = inl refl
form_matches (NameReference Static) bytes = reference_matches bytes
form_matches (NameReference Dynamic) bytes = inl refl
form_matches PostBaseNameReference bytes = inl refl
form_matches LiteralName bytes = name_matches bytes

line_matches : (bytes : List ℕ) → Matches (octet_line_at bytes) (line_at bytes)
unfolding Matches line_in
line_matches [] = inl refl
line_matches (b ∷ bs) = form_matches (representation_of b) (b ∷ bs)

-- ---- the laws of one line

pub line_texts : (bytes rest : List ℕ) (line : Field) → octet_line_at bytes ≡ Ok (line, rest) → line_at bytes ≡ as_texts (line, rest)
unfolding Matches
line_texts bytes rest line e = rw e at (line_matches bytes)

pub line_fault : (bytes : List ℕ) (e : DecodingError) → octet_line_at bytes ≡ Err e → (line_at bytes ≡ Err e) ⊎ (line_at bytes ≡ Err InvalidString)
unfolding Matches
line_fault bytes f e = rw e at (line_matches bytes)

-- the same line, if texts were read
pub record Read (o : Result (Field × List ℕ) DecodingError) (line : Field) (rest : List ℕ) : Type 0 where
  pub same : o ≡ Ok (line, rest)
  pub texts : is_utf8_field line ≡ true

by_test : (b : Bool) (got line : Field × List ℕ) → is_utf8_field got.0 ≡ b → cond b (Ok got) (Err InvalidString) ≡ Ok line → Read (Ok got) line.0 line.1
by_test true got line good e =
    let same : got ≡ line = cc e in
    record { same = ap (λ (l : Field × List ℕ). Ok l) same; texts = rw (← same) good }
by_test false got line bad e = cc e

read_back : (o texts : Result (Field × List ℕ) DecodingError) → Matches o texts → (line : Field × List ℕ) → texts ≡ Ok line → Read o line.0 line.1
unfolding Matches
read_back (Ok got) texts m line e = by_test (is_utf8_field got.0) got line refl (sym m ∙ e)
read_back (Err f) texts (inl m) line e = cc (m, e)
read_back (Err f) texts (inr m) line e = cc (m, e)

pub line_octets : (bytes rest : List ℕ) (line : Field) → line_at bytes ≡ Ok (line, rest) → Read (octet_line_at bytes) line rest
line_octets bytes rest line e = read_back (octet_line_at bytes) (line_at bytes) (line_matches bytes) (line, rest) e

pub line_utf8 : (bytes rest : List ℕ) (line : Field) → line_at bytes ≡ Ok (line, rest) → IsUtf8 line.0 × IsUtf8 line.1
line_utf8 bytes rest line e =
    let read = line_octets bytes rest line e in
    let both : (is_utf8 line.0 && is_utf8 line.1) ≡ true = read.texts in
    (IsUtf8-from_is_utf8 line.0 (and_left (is_utf8 line.0) (is_utf8 line.1) both), IsUtf8-from_is_utf8 line.1 (and_right (is_utf8 line.0) (is_utf8 line.1) both))

-- ---- the laws of sections

line_good : (bytes rest : List ℕ) (line : Field) → octet_line_at bytes ≡ Ok (line, rest) → is_utf8_field line ≡ true → line_at bytes ≡ Ok (line, rest)
line_good bytes rest line e good = line_texts bytes rest line e ∙ rw good refl

pub lines_texts : (fields : List Field) (bytes rest : List ℕ) → AreOctetLines bytes fields rest → AreUtf8Fields fields → AreLines bytes fields rest
lines_texts [] bytes rest are good = are
lines_texts (field ∷ fields) bytes rest (behind, e, are) (good, more) = (behind, line_good bytes behind field e good, lines_texts fields behind rest are more)

pub lines_octets : (fields : List Field) (bytes rest : List ℕ) → AreLines bytes fields rest → AreOctetLines bytes fields rest × AreUtf8Fields fields
lines_octets [] bytes rest are = (are, tt)
lines_octets (field ∷ fields) bytes rest (behind, e, are) =
    let first = line_octets bytes behind field e in
    let more = lines_octets fields behind rest are in
    ((behind, first.same, more.0), (first.texts, more.1))

pub map_texts : (section lines : List ℕ) (fields : List Field) → after_prefix section ≡ Ok lines → AreOctetLines lines fields [] → AreUtf8Fields fields → map_at section ≡ Ok (field_map fields)
map_texts section lines fields prefix are good = map_found section lines fields prefix (lines_texts fields lines [] are good)

-- the lines of a section that has a map
pub record MapOf (section : List ℕ) (m : List Field) : Type 0 where
  pub lines : List ℕ
  pub fields : List Field
  pub prefix : after_prefix section ≡ Ok lines
  pub are : AreOctetLines lines fields []
  pub texts : AreUtf8Fields fields
  pub is : m ≡ field_map fields

pub map_lines : (section : List ℕ) (m : List Field) → map_at section ≡ Ok m → MapOf section m
unfolding map_at
map_lines section m e =
    let there = bind_ok (section_at section) (λ (fields : List Field). Ok (field_map fields)) m e in
    let found = section_found section there.0 there.1 in
    let octets = lines_octets there.0 found.0 [] found.2 in
    let same : m ≡ field_map there.0 = cc there.2 in
    record { lines = found.0; fields = there.0; prefix = found.1; are = octets.0; texts = octets.1; is = same }

pub map_line_fault : (section lines rest : List ℕ) (fields : List Field) (e : DecodingError) → after_prefix section ≡ Ok lines → AreOctetLines lines fields rest → AreUtf8Fields fields
    → 0 < length rest → octet_line_at rest ≡ Err e → (map_at section ≡ Err e) ⊎ (map_at section ≡ Err InvalidString)
map_line_fault section lines rest fields f prefix are good some e =
    let run = lines_texts fields lines rest are good in
    elim (line_fault rest f e) [
      | inl same ↦ inl (map_fault section lines fields rest f prefix run some same)
      | inr bad ↦ inr (map_fault section lines fields rest InvalidString prefix run some bad)
    ]

some_line : (rest behind : List ℕ) (line : Field) → octet_line_at rest ≡ Ok (line, behind) → 0 < length rest
unfolding line_in
some_line [] behind line e = cc e
some_line (b ∷ bs) behind line e = omega arith

pub map_not_text : (section lines rest behind : List ℕ) (fields : List Field) (line : Field) → after_prefix section ≡ Ok lines → AreOctetLines lines fields rest → AreUtf8Fields fields
    → octet_line_at rest ≡ Ok (line, behind) → as_texts (line, behind) ≡ Err InvalidString → map_at section ≡ Err InvalidString
map_not_text section lines rest behind fields line prefix are good e bad =
    map_fault section lines fields rest InvalidString prefix (lines_texts fields lines rest are good) (some_line rest behind line e) (line_texts rest behind line e ∙ bad)
