-- No other line is shorter than the shortest.
use Rattle.std.proofs.Common.{◌≡◌, ◌⊎◌, inl, inr, ℕ, zero, suc, ◌+◌, ◌-◌, ◌*◌, ◌/◌, ◌^◌, ◌<◌, ◌≤◌, nat_lt, Bool, true, false, List, [], ◌∷◌, length, take, get_or, refl, sym, ◌∙◌, ap, subst, arith, length-take-le, Option, Some, None, Ok}
use Rattle.std.specs.List.{list_all, flat_map}
use Rattle.std.specs.Str.{bytes_eq}
use Rattle.std.proofs.lemmas.Bool.{cases_lt, lt-ltb, le-ltb, ltb-true}
use Rattle.std.proofs.lemmas.List.{length-append, length-drop}
use Rattle.std.proofs.lemmas.List.Quantifiers.{position-Some}
use Rattle.std.proofs.lemmas.Option.{get_or_from_slice_get}
use Rattle.std.proofs.lemmas.Slice.Eq.{bytes_eq-Decides}
use Rattle.wtp_huffman.specs.Huffman.{code, text_code, coded_len}
use Rattle.wtp_huffman.proofs.HuffmanLengths.{huffman_length}
use Rattle.wtp_qpack.specs.declared.qpack.field_line.Table.TheVariants.{Static, Dynamic}
use Rattle.wtp_qpack.specs.declared.qpack.field_line.Representation.{Representation}
use Rattle.wtp_qpack.specs.declared.qpack.field_line.Representation.TheVariants.{Indexed, IndexedPostBase, NameReference, PostBaseNameReference, LiteralName}
use Rattle.wtp_qpack.specs.declared.qpack.string_literal.Texts.TheVariants.{Octets}
use Rattle.wtp_qpack.specs.Field.{Field}
use Rattle.wtp_qpack.specs.Qpack.{◌>>=◌}
use Rattle.wtp_qpack.specs.Integer.{integer_at, shortest_groups, shortest_int}
use Rattle.wtp_qpack.specs.Sensitive.{is_sensitive}
use Rattle.wtp_qpack.specs.StaticTable.{static_table, entry_at, first_entry, exact_entry, FindsStatic}
use Rattle.wtp_qpack.specs.StringLiteral.{flag_above, or_invalid, huffman_text, checked, text_of, octets_at, encoded_string, huffman_bytes}
use Rattle.wtp_qpack.specs.FieldLine.{representation_of, or_not_found, indexed_at, name_reference_in, literal_name_in, line_by, line_in, literal_line, line_with, shortest_line}
use Rattle.wtp_qpack.specs.FieldLines.{octet_line_at, AreOctetLines}
use Rattle.wtp_qpack.specs.FieldSection.{after_prefix, shortest_section}
use Rattle.wtp_qpack.proofs.Chosen.{bind_ok, same_value, same_rest}
use Rattle.wtp_qpack.proofs.IntegerLaws.{int_found, short_least}
use Rattle.wtp_qpack.proofs.StaticLemmas.{in_table, entry_below, named_not_at, first_found}
use Rattle.wtp_qpack.proofs.StringBits.{huffman_found, code_some}
use Rattle.wtp_qpack.proofs.StringWriting.{huffman_bytes_length, encoded_coded, encoded_raw}
use Rattle.wtp_qpack.proofs.StringLaws.{some_text, parts_of}
use Rattle.wtp_qpack.proofs.ShortestLines.{exact_found}

-- ---- integers: a smaller one is not longer, whatever the flags

groups_grow : (k a b : ℕ) → a ≤ b → length (shortest_groups k a) ≤ length (shortest_groups k b)
unfolding shortest_groups
groups_grow zero a b less = omega arith
groups_grow (suc k) a b less = elim (cases_lt b 128) [
  | inl few ↦ rw (lt-ltb b 128 few, lt-ltb a 128 (omega (arith, few, less))) (omega arith)
  | inr many ↦ elim (cases_lt a 128) [
    | inl few ↦ rw (le-ltb b 128 many, lt-ltb a 128 few) (omega arith)
    | inr both ↦ rw (le-ltb b 128 many, le-ltb a 128 both) (omega (arith, groups_grow k (a / 128) (b / 128) (omega arith)))
  ]
]

int_grows : (n f g a b : ℕ) → a ≤ b → length (shortest_int n f a) ≤ length (shortest_int n g b)
unfolding shortest_int
int_grows n f g a b less = elim (cases_lt b (2 ^ n - 1)) [
  | inl few ↦ rw (lt-ltb b (2 ^ n - 1) few, lt-ltb a (2 ^ n - 1) (omega (arith, few, less))) (omega arith)
  | inr many ↦ elim (cases_lt a (2 ^ n - 1)) [
    | inl few ↦ rw (le-ltb b (2 ^ n - 1) many, lt-ltb a (2 ^ n - 1) few) (omega arith)
    | inr both ↦ rw (le-ltb b (2 ^ n - 1) many, le-ltb a (2 ^ n - 1) both) (omega (arith, groups_grow 9 (a - (2 ^ n - 1)) (b - (2 ^ n - 1)) (omega arith)))
  ]
]

int_some : (n f v : ℕ) → 1 ≤ length (shortest_int n f v)
unfolding shortest_int
int_some n f v = elim (cases_lt v (2 ^ n - 1)) [
  | inl few ↦ rw (lt-ltb v (2 ^ n - 1) few) (omega arith)
  | inr many ↦ rw (le-ltb v (2 ^ n - 1) many) (omega arith)
]

int_two : (n f v : ℕ) → v < 128 → length (shortest_int n f v) ≤ 2
unfolding shortest_int shortest_groups
int_two n f v small = elim (cases_lt v (2 ^ n - 1)) [
  | inl few ↦ rw (lt-ltb v (2 ^ n - 1) few) (omega arith)
  | inr many ↦ rw (le-ltb v (2 ^ n - 1) many, lt-ltb (v - (2 ^ n - 1)) 128 (omega arith)) (omega arith)
]

-- ---- strings

-- a text after its length has no fewer bytes, in the Huffman code or not
string_bound : (n f : ℕ) (t : List ℕ) (count : ℕ) → (count ≡ coded_len t) ⊎ (count ≡ length t) → length (encoded_string n f t) ≤ length (shortest_int n 0 count) + count
string_bound n f t count kind = elim (cases_lt (coded_len t) (length t)) [
  | inl less ↦
      let within : coded_len t ≤ count = elim kind [ inl coded ↦ omega (arith, coded) | inr raw ↦ omega (arith, raw, less) ] in
      rw (encoded_coded n f t less) (omega (arith, length-append (shortest_int n (f * 2 + 1) (coded_len t)) (huffman_bytes t), huffman_bytes_length t, int_grows n (f * 2 + 1) 0 (coded_len t) count within, within))
  | inr more ↦
      let within : length t ≤ count = elim kind [ inl coded ↦ omega (arith, coded, more) | inr raw ↦ omega (arith, raw) ] in
      rw (encoded_raw n f t more) (omega (arith, length-append (shortest_int n (f * 2) (length t)) t, int_grows n (f * 2) 0 (length t) count within, within))
]

-- a text has at least a byte, and no name of the static table has fewer than two
string_some : (n f : ℕ) (t : List ℕ) → 1 ≤ length (encoded_string n f t)
string_some n f t = elim (cases_lt (coded_len t) (length t)) [
  | inl less ↦ rw (encoded_coded n f t less) (omega (arith, length-append (shortest_int n (f * 2 + 1) (coded_len t)) (huffman_bytes t), int_some n (f * 2 + 1) (coded_len t)))
  | inr more ↦ rw (encoded_raw n f t more) (omega (arith, length-append (shortest_int n (f * 2) (length t)) t, int_some n (f * 2) (length t)))
]

string_two : (n f : ℕ) (t : List ℕ) → 1 ≤ length t → 1 ≤ coded_len t → 2 ≤ length (encoded_string n f t)
string_two n f t some coded = elim (cases_lt (coded_len t) (length t)) [
  | inl less ↦ rw (encoded_coded n f t less) (omega (arith, length-append (shortest_int n (f * 2 + 1) (coded_len t)) (huffman_bytes t), huffman_bytes_length t, int_some n (f * 2 + 1) (coded_len t), coded))
  | inr more ↦ rw (encoded_raw n f t more) (omega (arith, length-append (shortest_int n (f * 2) (length t)) t, int_some n (f * 2) (length t), some))
]

begins : List ℕ → Bool
begins [] = false
begins (byte ∷ bytes) = nat_lt byte 257

names_begin : list_all (λ (e : Field). begins e.0) static_table ≡ true
unfolding static_table begins
names_begin = refl

begun_two : (n f : ℕ) (t : List ℕ) → begins t ≡ true → 2 ≤ length (encoded_string n f t)
unfolding begins text_code
begun_two n f [] e = cc e
begun_two n f (byte ∷ bytes) e =
    let word : 0 < length (code byte) = code_some byte (ltb-true byte 257 e) in
    let coded : 1 ≤ coded_len (byte ∷ bytes) = omega (arith, word, length-append (code byte) (text_code bytes)) in
    string_two n f (byte ∷ bytes) (omega arith) coded

named_two : (n f k : ℕ) (name : List ℕ) → first_entry name ≡ Some k → 2 ≤ length (encoded_string n f name)
named_two n f k name some =
    let e = first_found name k some in
    begun_two n f name (ap begins (sym e.2) ∙ in_table (λ (x : Field). begins x.0) names_begin k e.0 e.1)

content_kind : (coded : Bool) (t body : List ℕ) → text_of Octets coded body ≡ Ok t → (length body ≡ coded_len t) ⊎ (length body ≡ length t)
content_kind true t body e =
    let decoded = bind_ok (or_invalid (huffman_text body)) (checked Octets) t e in
    let same : decoded.0 ≡ t = cc decoded.2 in
    inl (huffman_length t body (huffman_found t body (some_text (huffman_text body) t (decoded.1 ∙ ap Ok same))))
content_kind false t body e = let same : body ≡ t = cc e in inr (ap length same)

-- no string of the text is shorter
string_least : (n f : ℕ) (t bytes rest : List ℕ) → n ≤ 8 → octets_at n bytes ≡ Ok (t, rest) → length (encoded_string n f t) + length rest ≤ length bytes
string_least n f t bytes rest few e =
    let p = parts_of Octets n bytes t rest e in
    let size = int_found n p.count bytes p.behind few p.size in
    let long : length (take p.count p.behind) ≡ p.count = length-take-le p.count p.behind p.enough in
    let kind : (p.count ≡ coded_len t) ⊎ (p.count ≡ length t) = elim (content_kind (flag_above n bytes) t (take p.count p.behind) p.text) [
      | inl coded ↦ inl (sym long ∙ coded)
      | inr raw ↦ inr (sym long ∙ raw)
    ] in
    omega (arith, string_bound n f t p.count kind, short_least n 0 p.count size.0 size.1, ap length size.2, length-append size.0 p.behind, ap length p.left, length-drop p.count p.behind, p.enough)

-- ---- lines

entry_is : (o : Option Field) (e : Field) → or_not_found o ≡ Ok e → o ≡ Some e
entry_is None e is = cc is
entry_is (Some x) e is = cc is

-- the first entry of a name is not after another
first_least : (name : List ℕ) (first k : ℕ) (e : Field) → first_entry name ≡ Some first → entry_at k ≡ Some e → e.0 ≡ name → first ≤ k
first_least name first k e some at named = elim (cases_lt k first) [
  | inl less ↦
      let fails = (position-Some (λ (x : Field). bytes_eq x.0 name) static_table first e some).2 k less in
      let same : get_or static_table k e ≡ e = get_or_from_slice_get static_table k e e at in
      let passes : bytes_eq (get_or static_table k e).0 name ≡ true = (bytes_eq-Decides (get_or static_table k e).0 name).1 (ap (λ (x : Field). x.0) same ∙ named) in
      cc (fails, passes)
  | inr least ↦ least
]

indexed_least : (bytes rest : List ℕ) (field : Field) → indexed_at bytes ≡ Ok (field, rest) → length (shortest_line field) + length rest ≤ length bytes
unfolding indexed_at shortest_line
indexed_least bytes rest field e =
    let index = bind_ok (integer_at 6 bytes) (λ (index : ℕ × List ℕ). or_not_found (entry_at index.0) >>= λ entry. Ok (entry, index.1)) (field, rest) e in
    let k : ℕ = index.0.0 in
    let entry = bind_ok (or_not_found (entry_at k)) (λ (entry : Field). Ok (entry, index.0.1)) (field, rest) index.2 in
    let there : entry_at k ≡ Some field = entry_is (entry_at k) entry.0 entry.1 ∙ ap Some (same_value entry.0 field index.0.1 rest entry.2) in
    let behind : index.0.1 ≡ rest = same_rest entry.0 field index.0.1 rest entry.2 in
    let size = int_found 6 k bytes index.0.1 (omega arith) index.1 in
    by_index (exact_entry field) (exact_found field) k there size.0 (short_least 6 3 k size.0 size.1) (omega (arith, ap length size.2, length-append size.0 index.0.1, ap length behind))
  where
    by_index : (o : Option ℕ) → FindsStatic field o → (k : ℕ) → entry_at k ≡ Some field → (s : List ℕ) → length (shortest_int 6 3 k) ≤ length s → length s + length rest ≡ length bytes
        → length (line_with o field) + length rest ≤ length bytes
    by_index None none k there s least whole = absurd (none k there)
    by_index (Some i) found k there s least whole =
        let first : i ≤ k = elim (cases_lt k i) [ inl less ↦ absurd (found.1 k less there) | inr ge ↦ ge ] in
        omega (arith, int_grows 6 3 3 i k first, least, whole)

reference_least : (bytes rest : List ℕ) (field : Field) → name_reference_in Octets bytes ≡ Ok (field, rest) → length (shortest_line field) + length rest ≤ length bytes
unfolding name_reference_in shortest_line
reference_least bytes rest field e =
    let index = bind_ok (integer_at 4 bytes) (λ (index : ℕ × List ℕ). or_not_found (entry_at index.0) >>= λ entry. octets_at 7 index.1 >>= λ value. Ok ((entry.0, value.0), value.1)) (field, rest) e in
    let k : ℕ = index.0.0 in
    let entry = bind_ok (or_not_found (entry_at k)) (λ (entry : Field). octets_at 7 index.0.1 >>= λ value. Ok ((entry.0, value.0), value.1)) (field, rest) index.2 in
    let value = bind_ok (octets_at 7 index.0.1) (λ (value : List ℕ × List ℕ). Ok ((entry.0.0, value.0), value.1)) (field, rest) entry.2 in
    let whole : ◌≡◌ {A = Field} (entry.0.0, value.0.0) field = same_value (entry.0.0, value.0.0) field value.0.1 rest value.2 in
    let behind : value.0.1 ≡ rest = same_rest (entry.0.0, value.0.0) field value.0.1 rest value.2 in
    let size = int_found 4 k bytes index.0.1 (omega arith) index.1 in
    let text = string_least 7 0 value.0.0 index.0.1 value.0.1 (omega arith) value.1 in
    let texts : length (encoded_string 7 0 field.1) + length rest ≤ length index.0.1 = subst (λ (v : List ℕ). length (encoded_string 7 0 v) + length rest ≤ length index.0.1) (ap (λ (x : Field). x.1) whole) (omega (arith, text, ap length behind)) in
    by_index (exact_entry field) (exact_found field) k entry.0 (entry_is (entry_at k) entry.0 entry.1) (ap (λ (x : Field). x.0) whole) size.0 index.0.1 (short_least 4 0 k size.0 size.1) texts (omega (arith, ap length size.2, length-append size.0 index.0.1))
  where
    by_first : (never : Bool) (o : Option ℕ) → first_entry field.0 ≡ o → (k : ℕ) (e : Field) → entry_at k ≡ Some e → e.0 ≡ field.0 → (s left : List ℕ) → length (shortest_int 4 0 k) ≤ length s
        → length (encoded_string 7 0 field.1) + length rest ≤ length left → length s + length left ≡ length bytes → length (literal_line never o field) + length rest ≤ length bytes
    by_first never None none k e there named s left least texts total = absurd (named_not_at field.0 e.1 k none (there ∙ ap (λ (n : List ℕ). Some (n, e.1)) named))
    by_first true (Some i) some k e there named s left least texts total =
        omega (arith, length-append (shortest_int 4 7 i) (encoded_string 7 0 field.1), int_grows 4 7 0 i k (first_least field.0 i k e some there named), least, texts, total)
    by_first false (Some i) some k e there named s left least texts total =
        omega (arith, length-append (shortest_int 4 5 i) (encoded_string 7 0 field.1), int_grows 4 5 0 i k (first_least field.0 i k e some there named), least, texts, total)

    by_index : (o : Option ℕ) → FindsStatic field o → (k : ℕ) (e : Field) → entry_at k ≡ Some e → e.0 ≡ field.0 → (s left : List ℕ) → length (shortest_int 4 0 k) ≤ length s
        → length (encoded_string 7 0 field.1) + length rest ≤ length left → length s + length left ≡ length bytes → length (line_with o field) + length rest ≤ length bytes
    by_index None none k e there named s left least texts total = by_first (is_sensitive field) (first_entry field.0) refl k e there named s left least texts total
    by_index (Some i) found k e there named s left least texts total =
        omega (arith, int_two 6 3 i (omega (arith, entry_below i field found.0)), int_some 4 0 k, string_some 7 0 field.1, least, texts, total)

literal_least : (bytes rest : List ℕ) (field : Field) → literal_name_in Octets bytes ≡ Ok (field, rest) → length (shortest_line field) + length rest ≤ length bytes
unfolding literal_name_in shortest_line
literal_least bytes rest field e =
    let name = bind_ok (octets_at 3 bytes) (λ (name : List ℕ × List ℕ). octets_at 7 name.1 >>= λ value. Ok ((name.0, value.0), value.1)) (field, rest) e in
    let value = bind_ok (octets_at 7 name.0.1) (λ (value : List ℕ × List ℕ). Ok ((name.0.0, value.0), value.1)) (field, rest) name.2 in
    let whole : ◌≡◌ {A = Field} (name.0.0, value.0.0) field = same_value (name.0.0, value.0.0) field value.0.1 rest value.2 in
    let behind : value.0.1 ≡ rest = same_rest (name.0.0, value.0.0) field value.0.1 rest value.2 in
    let named : (f : ℕ) → length (encoded_string 3 f field.0) + length name.0.1 ≤ length bytes = λ f.
    subst (λ (n : List ℕ). length (encoded_string 3 f n) + length name.0.1 ≤ length bytes) (ap (λ (x : Field). x.0) whole) (string_least 3 f name.0.0 bytes name.0.1 (omega arith) name.1) in
    let text = string_least 7 0 value.0.0 name.0.1 value.0.1 (omega arith) value.1 in
    let texts : length (encoded_string 7 0 field.1) + length rest ≤ length name.0.1 = subst (λ (v : List ℕ). length (encoded_string 7 0 v) + length rest ≤ length name.0.1) (ap (λ (x : Field). x.1) whole) (omega (arith, text, ap length behind)) in
    by_index (exact_entry field) (exact_found field) name.0.1 named texts
  where
    by_first : (never : Bool) (o : Option ℕ) → first_entry field.0 ≡ o → (left : List ℕ) → ((f : ℕ) → length (encoded_string 3 f field.0) + length left ≤ length bytes)
        → length (encoded_string 7 0 field.1) + length rest ≤ length left → length (literal_line never o field) + length rest ≤ length bytes
    by_first true None none left named texts = omega (arith, length-append (encoded_string 3 3 field.0) (encoded_string 7 0 field.1), named 3, texts)
    by_first false None none left named texts = omega (arith, length-append (encoded_string 3 2 field.0) (encoded_string 7 0 field.1), named 2, texts)
    by_first true (Some i) some left named texts =
        omega (arith, length-append (shortest_int 4 7 i) (encoded_string 7 0 field.1), int_two 4 7 i (omega (arith, (first_found field.0 i some).3)), named_two 3 0 i field.0 some, named 0, texts)
    by_first false (Some i) some left named texts =
        omega (arith, length-append (shortest_int 4 5 i) (encoded_string 7 0 field.1), int_two 4 5 i (omega (arith, (first_found field.0 i some).3)), named_two 3 0 i field.0 some, named 0, texts)

    by_index : (o : Option ℕ) → FindsStatic field o → (left : List ℕ) → ((f : ℕ) → length (encoded_string 3 f field.0) + length left ≤ length bytes)
        → length (encoded_string 7 0 field.1) + length rest ≤ length left → length (line_with o field) + length rest ≤ length bytes
    by_index None none left named texts = by_first (is_sensitive field) (first_entry field.0) refl left named texts
    by_index (Some i) found left named texts =
        omega (arith, int_two 6 3 i (omega (arith, entry_below i field found.0)), string_some 3 0 field.0, string_some 7 0 field.1, named 0, texts)

form_least : (form : Representation) (bytes rest : List ℕ) (field : Field) → line_by Octets form bytes ≡ Ok (field, rest) → length (shortest_line field) + length rest ≤ length bytes
form_least (Indexed Static) bytes rest field e = indexed_least bytes rest field e
form_least (Indexed Dynamic) bytes rest field e = cc e
form_least IndexedPostBase bytes rest field e = cc e
form_least (NameReference Static) bytes rest field e = reference_least bytes rest field e
form_least (NameReference Dynamic) bytes rest field e = cc e
form_least PostBaseNameReference bytes rest field e = cc e
form_least LiteralName bytes rest field e = literal_least bytes rest field e

pub line_least : (bytes rest : List ℕ) (field : Field) → octet_line_at bytes ≡ Ok (field, rest) → length (shortest_line field) + length rest ≤ length bytes
unfolding line_in
line_least [] rest field e = cc e
line_least (first ∷ bytes) rest field e = form_least (representation_of first) (first ∷ bytes) rest field e

-- ---- sections

lines_least : (bytes : List ℕ) (fields : List Field) → AreOctetLines bytes fields [] → length (flat_map shortest_line fields) ≤ length bytes
lines_least bytes [] are = omega arith
lines_least bytes (field ∷ fields) (behind, line, more) =
    omega (arith, line_least bytes behind field line, lines_least behind fields more, length-append (shortest_line field) (flat_map shortest_line fields))

pub section_least : (section lines : List ℕ) (fields : List Field) → after_prefix section ≡ Ok lines → AreOctetLines lines fields [] → length (shortest_section fields) ≤ length section
unfolding after_prefix shortest_section
section_least section lines fields prefix are =
    let count = bind_ok (integer_at 8 section) (λ (count : ℕ × List ℕ). integer_at 7 count.1 >>= λ base. Ok base.1) lines prefix in
    let base = bind_ok (integer_at 7 count.0.1) (λ (base : ℕ × List ℕ). Ok base.1) lines count.2 in
    let same : base.0.1 ≡ lines = cc base.2 in
    let one = int_found 8 count.0.0 section count.0.1 (omega arith) count.1 in
    let two = int_found 7 base.0.0 count.0.1 base.0.1 (omega arith) base.1 in
    omega (
      arith,
      lines_least lines fields are,
      short_least 8 0 count.0.0 one.0 one.1,
      int_some 8 0 count.0.0,
      short_least 7 0 base.0.0 two.0 two.1,
      int_some 7 0 base.0.0,
      ap length one.2,
      length-append one.0 count.0.1,
      ap length two.2,
      length-append two.0 base.0.1,
      ap length same,
    )
