-- What was written is read again.
use Rattle.std.proofs.Common.{◌≡◌, ℕ, ◌+◌, ◌-◌, ◌*◌, ◌/◌, ◌%◌, ◌^◌, ◌==◌, ◌<◌, inl, inr, Bool, true, false, cond, nat_lt, List, [], ◌∷◌, ◌++◌, length, refl, sym, ◌∙◌, ap, arith, append_assoc, Option, Some, None, Ok, Result, eq-eqb, ne_eqb}
use Rattle.std.specs.Str.{bytes_eq}
use Rattle.std.specs.List.{flat_map}
use Rattle.std.proofs.lemmas.Bool.{cases_lt, lt-ltb, le-ltb}
use Rattle.std.proofs.lemmas.Str.{is_utf8-from_IsUtf8}
use Rattle.std.proofs.lemmas.List.{length-append}
use Rattle.std.proofs.lemmas.Nat.{shr_high, pow_pos}
use Rattle.std.proofs.Math.Seq.{drop-append_seam, take-append_seam}
use Rattle.wtp_huffman.specs.Huffman.{IsBytes}
use Rattle.wtp_qpack.specs.declared.qpack.field_line.Table.TheVariants.{Static}
use Rattle.wtp_qpack.specs.declared.qpack.field_line.Representation.{Representation}
use Rattle.wtp_qpack.specs.declared.qpack.field_line.Representation.TheVariants.{Indexed, NameReference, LiteralName}
use Rattle.wtp_qpack.specs.declared.qpack.DecodingError.{DecodingError}
use Rattle.wtp_qpack.specs.declared.qpack.string_literal.Texts.{Texts}
use Rattle.wtp_qpack.specs.declared.qpack.string_literal.Texts.TheVariants.{Octets, Utf8}
use Rattle.wtp_qpack.specs.Field.{Field, IsText, AreTexts, IsOctets, AreOctets, field_map}
use Rattle.wtp_qpack.specs.Integer.{integer_at, shortest_groups, shortest_int}
use Rattle.wtp_qpack.specs.Sensitive.{is_sensitive}
use Rattle.wtp_qpack.specs.StaticTable.{entry_at, first_entry, exact_entry, FindsStatic}
use Rattle.wtp_qpack.specs.StringLiteral.{flag_above, utf8_text, checked, text_of, string_by, string_in, huffman_bytes, encoded_string}
use Rattle.wtp_qpack.specs.FieldLine.{representation_of, indexed_at, name_reference_in, literal_name_in, line_by, line_in, line_at, encoded_line, literal_line, line_with, shortest_line}
use Rattle.wtp_qpack.specs.FieldLines.{octet_line_at, AreOctetLines}
use Rattle.wtp_qpack.specs.FieldSection.{after_prefix, AreLines, section_at, map_at, section_of, shortest_section}
use Rattle.wtp_qpack.proofs.IntegerLaws.{int_read, short_int}
use Rattle.wtp_qpack.proofs.StaticLemmas.{same_bytes, first_found, entry_below}
use Rattle.wtp_qpack.proofs.ShortestLines.{exact_found}
use Rattle.wtp_qpack.proofs.StringBits.{huffman_only}
use Rattle.wtp_qpack.proofs.StringWriting.{text_bytes, huffman_is}
use Rattle.wtp_qpack.proofs.SectionReading.{lines_read}

-- the first byte
pub short_head : (n flags v : ℕ) (more : List ℕ) → (low : ℕ) × (low < 2 ^ n) × (rest : List ℕ) × (shortest_int n flags v ++ more ≡ (flags * 2 ^ n + low) ∷ rest)
unfolding shortest_int
short_head n flags v more = elim (cases_lt v (2 ^ n - 1)) [
  | inl below ↦ (v, omega arith, more, rw (lt-ltb v (2 ^ n - 1) below) refl)
  | inr above ↦ (2 ^ n - 1, omega (arith, pow_pos n), shortest_groups 9 (v - (2 ^ n - 1)) ++ more, rw (le-ltb v (2 ^ n - 1) above) refl)
]

-- ---- strings

-- a flag above the prefix
pub flag_of : (n f h v : ℕ) (more : List ℕ) → h < 2 → flag_above n (shortest_int n (f * 2 + h) v ++ more) ≡ (h == 1)
unfolding flag_above
flag_of n f h v more small =
    let head = short_head n (f * 2 + h) v more in
    let top : ((f * 2 + h) * 2 ^ n + head.0) / 2 ^ n ≡ f * 2 + h = shr_high (f * 2 + h) n head.0 head.1 in
    let bit : (f * 2 + h) % 2 ≡ h = omega arith in
    rw (head.3, top, bit) refl

-- however the bytes of the string are read
string_again : {X : Type 0} (contents : Bool → List ℕ → Result X DecodingError) (n f h : ℕ) (body : List ℕ) (x : X) (rest : List ℕ) → h < 2 → length body < 2 ^ 64 → contents (h == 1) body ≡ Ok x
    → string_by contents n ((shortest_int n (f * 2 + h) (length body) ++ body) ++ rest) ≡ Ok (x, rest)
string_again contents n f h body x rest small fits given =
    let s : List ℕ = shortest_int n (f * 2 + h) (length body) in
    let grouped : (s ++ body) ++ rest ≡ s ++ (body ++ rest) = append_assoc s body rest in
    let size : integer_at n (s ++ (body ++ rest)) ≡ Ok (length body, body ++ rest) = int_read n (length body) s (body ++ rest) (short_int n (f * 2 + h) (length body) fits) in
    let enough : nat_lt (length (body ++ rest)) (length body) ≡ false = le-ltb (length (body ++ rest)) (length body) (omega (arith, length-append body rest)) in
    rw (grouped, size, enough, flag_of n f h (length body) (body ++ rest) small, take-append_seam body rest, given, drop-append_seam body rest) refl

-- bytes that are read again as one of these texts
pub record IsReadable (texts : Texts) (t : List ℕ) : Type 0 where
  pub bytes : IsBytes t
  pub few : length t < 2 ^ 64
  pub is : checked texts t ≡ Ok t

pub text_readable : (t : List ℕ) → IsText t → IsReadable Utf8 t
unfolding utf8_text
text_readable t text = record { bytes = text_bytes t text.utf8; few = text.few; is = rw (is_utf8-from_IsUtf8 t text.utf8) refl }

pub octets_readable : (t : List ℕ) → IsOctets t → IsReadable Octets t
octets_readable t are = record { bytes = are.bytes; few = are.few; is = refl }

coded_again : (texts : Texts) (t : List ℕ) → IsReadable texts t → text_of texts true (huffman_bytes t) ≡ Ok t
coded_again texts t readable = rw (huffman_only t (huffman_bytes t) (huffman_is t readable.bytes)) readable.is

text_again : (texts : Texts) (n f : ℕ) (t rest : List ℕ) → IsReadable texts t → string_in texts n (encoded_string n f t ++ rest) ≡ Ok (t, rest)
unfolding encoded_string string_in
text_again texts n f t rest readable = elim (cases_lt (length (huffman_bytes t)) (length t)) [
  | inl less ↦ rw (lt-ltb (length (huffman_bytes t)) (length t) less) (string_again (text_of texts) n f 1 (huffman_bytes t) t rest (omega arith) (omega (arith, readable.few)) (coded_again texts t readable))
  | inr more ↦
      let zeros : f * 2 ≡ f * 2 + 0 = omega arith in
      rw (le-ltb (length (huffman_bytes t)) (length t) more, zeros) (string_again (text_of texts) n f 0 t t rest (omega arith) readable.few readable.is)
]

-- ---- lines

-- a line by its first byte
line_as : (texts : Texts) (text rest : List ℕ) (b : ℕ) (r : Representation) → text ≡ b ∷ rest → representation_of b ≡ r → line_in texts text ≡ line_by texts r text
unfolding line_in
line_as texts text rest b r e form = ap (line_in texts) e ∙ ap (λ z. line_by texts z (b ∷ rest)) form ∙ ap (line_by texts r) (sym e)

indexed_form : (low b : ℕ) → low < 2 ^ 6 → b ≡ 3 * 2 ^ 6 + low → representation_of b ≡ Indexed Static
indexed_form low b small e = rw (eq-eqb (b / 2 ^ 7 % 2) 1 (omega arith), eq-eqb (b / 2 ^ 6 % 2) 1 (omega arith)) refl

-- the bit N is any bit
name_form : (n low b : ℕ) → n < 2 → low < 2 ^ 4 → b ≡ (5 + 2 * n) * 2 ^ 4 + low → representation_of b ≡ NameReference Static
name_form n low b bit small e = rw (ne_eqb (b / 2 ^ 7 % 2) 1 (omega arith), eq-eqb (b / 2 ^ 6 % 2) 1 (omega arith), eq-eqb (b / 2 ^ 4 % 2) 1 (omega arith)) refl

literal_form : (n h low b : ℕ) → n < 2 → h < 2 → low < 2 ^ 3 → b ≡ ((2 + n) * 2 + h) * 2 ^ 3 + low → representation_of b ≡ LiteralName
literal_form n h low b never bit small e = rw (ne_eqb (b / 2 ^ 7 % 2) 1 (omega arith), ne_eqb (b / 2 ^ 6 % 2) 1 (omega arith), eq-eqb (b / 2 ^ 5 % 2) 1 (omega arith)) refl

indexed_again : (texts : Texts) (k : ℕ) (e : Field) (rest : List ℕ) → entry_at k ≡ Some e → k < 99 → line_in texts (shortest_int 6 3 k ++ rest) ≡ Ok (e, rest)
unfolding indexed_at
indexed_again texts k e rest there small =
    let head = short_head 6 3 k rest in
    let text : List ℕ = shortest_int 6 3 k ++ rest in
    let size : integer_at 6 text ≡ Ok (k, rest) = int_read 6 k (shortest_int 6 3 k) rest (short_int 6 3 k (omega arith)) in
    line_as texts text head.2 (3 * 2 ^ 6 + head.0) (Indexed Static) head.3 (indexed_form head.0 (3 * 2 ^ 6 + head.0) head.1 refl) ∙ rw (size, there) refl

name_again : (texts : Texts) (n k : ℕ) (e : Field) (v rest : List ℕ) → n < 2 → entry_at k ≡ Some e → k < 99 → IsReadable texts v → line_in texts ((shortest_int 4 (5 + 2 * n) k ++ encoded_string 7 0 v) ++ rest) ≡ Ok ((e.0, v), rest)
unfolding name_reference_in
name_again texts n k e v rest never there small readable =
    let flags : ℕ = 5 + 2 * n in
    let behind : List ℕ = encoded_string 7 0 v ++ rest in
    let head = short_head 4 flags k behind in
    let text : List ℕ = shortest_int 4 flags k ++ behind in
    let size : integer_at 4 text ≡ Ok (k, behind) = int_read 4 k (shortest_int 4 flags k) behind (short_int 4 flags k (omega arith)) in
    ap (line_in texts) (append_assoc (shortest_int 4 flags k) (encoded_string 7 0 v) rest)
    ∙ line_as texts text head.2 (flags * 2 ^ 4 + head.0) (NameReference Static) head.3 (name_form n head.0 (flags * 2 ^ 4 + head.0) never head.1 refl)
    ∙ rw (size, there, text_again texts 7 0 v rest readable) refl

pub text_head : (n f : ℕ) (t more : List ℕ) → (h : ℕ) × (h < 2) × (low : ℕ) × (low < 2 ^ n) × (rest : List ℕ) × (encoded_string n f t ++ more ≡ ((f * 2 + h) * 2 ^ n + low) ∷ rest)
unfolding encoded_string
text_head n f t more = elim (cases_lt (length (huffman_bytes t)) (length t)) [
  | inl less ↦
      let head = short_head n (f * 2 + 1) (length (huffman_bytes t)) (huffman_bytes t ++ more) in
      (1, omega arith, head.0, head.1, head.2, rw (lt-ltb (length (huffman_bytes t)) (length t) less) (append_assoc (shortest_int n (f * 2 + 1) (length (huffman_bytes t))) (huffman_bytes t) more ∙ head.3))
  | inr many ↦
      let head = short_head n (f * 2) (length t) (t ++ more) in
      let zeros : f * 2 + 0 ≡ f * 2 = omega arith in
      (0, omega arith, head.0, head.1, head.2, rw (le-ltb (length (huffman_bytes t)) (length t) many, zeros) (append_assoc (shortest_int n (f * 2) (length t)) t more ∙ head.3))
]

literal_again : (texts : Texts) (n : ℕ) (field : Field) (rest : List ℕ) → n < 2 → IsReadable texts field.0 → IsReadable texts field.1 → line_in texts ((encoded_string 3 (2 + n) field.0 ++ encoded_string 7 0 field.1) ++ rest) ≡ Ok (field, rest)
unfolding literal_name_in
literal_again texts n field rest never name value =
    let flags : ℕ = 2 + n in
    let behind : List ℕ = encoded_string 7 0 field.1 ++ rest in
    let head = text_head 3 flags field.0 behind in
    let text : List ℕ = encoded_string 3 flags field.0 ++ behind in
    ap (line_in texts) (append_assoc (encoded_string 3 flags field.0) (encoded_string 7 0 field.1) rest)
    ∙ line_as texts text head.4 ((flags * 2 + head.0) * 2 ^ 3 + head.2) LiteralName head.5 (literal_form n head.0 head.2 ((flags * 2 + head.0) * 2 ^ 3 + head.2) never head.1 head.3 refl)
    ∙ rw (text_again texts 3 flags field.0 behind name, text_again texts 7 0 field.1 rest value) refl

line_again : (texts : Texts) (field : Field) (rest : List ℕ) → IsReadable texts field.0 → IsReadable texts field.1 → line_in texts (encoded_line field ++ rest) ≡ Ok (field, rest)
unfolding encoded_line
line_again texts field rest name value = by_first (first_entry field.0) refl
  where
    by_value : (k : ℕ) (e : Field) → entry_at k ≡ Some e → e.0 ≡ field.0 → k < 99 → (b : Bool) → bytes_eq e.1 field.1 ≡ b
        → line_in texts (cond b (shortest_int 6 3 k) (shortest_int 4 5 k ++ encoded_string 7 0 field.1) ++ rest) ≡ Ok (field, rest)
    by_value k e there named small true same =
        let equal : e.1 ≡ field.1 = same_bytes e.1 field.1 same in
        indexed_again texts k e rest there small ∙ ap (λ (z : Field). Ok (z, rest)) (ap (λ n. (n, e.1)) named ∙ ap (λ v. (field.0, v)) equal)
    by_value k e there named small false other = name_again texts 0 k e field.1 rest (omega arith) there small value ∙ ap (λ n. Ok ((n, field.1), rest)) named

    by_first : (o : Option ℕ) → first_entry field.0 ≡ o → line_in texts (encoded_line field ++ rest) ≡ Ok (field, rest)
    by_first None none = rw none (literal_again texts 0 field rest (omega arith) name value)
    by_first (Some k) some =
        let e = first_found field.0 k some in
        rw (some, e.1) (by_value k e.0 e.1 e.2 e.3 (bytes_eq e.0.1 field.1) refl)

-- ---- lines of field lists

by_name : (texts : Texts) (n flags : ℕ) (field : Field) (k : ℕ) (rest : List ℕ) → n < 2 → flags ≡ 5 + 2 * n → first_entry field.0 ≡ Some k → IsReadable texts field.1
    → line_in texts ((shortest_int 4 flags k ++ encoded_string 7 0 field.1) ++ rest) ≡ Ok (field, rest)
by_name texts n flags field k rest never is some value =
    let e = first_found field.0 k some in
    rw is (name_again texts n k e.0 field.1 rest never e.1 e.3 value ∙ ap (λ (x : List ℕ). Ok ((x, field.1), rest)) e.2)

by_literal : (texts : Texts) (never : Bool) (field : Field) (o : Option ℕ) (rest : List ℕ) → first_entry field.0 ≡ o → IsReadable texts field.0 → IsReadable texts field.1
    → line_in texts (literal_line never o field ++ rest) ≡ Ok (field, rest)
by_literal texts true field (Some k) rest some name value = by_name texts 1 7 field k rest (omega arith) refl some value
by_literal texts false field (Some k) rest some name value = by_name texts 0 5 field k rest (omega arith) refl some value
by_literal texts true field None rest none name value = literal_again texts 1 field rest (omega arith) name value
by_literal texts false field None rest none name value = literal_again texts 0 field rest (omega arith) name value

shortest_again : (texts : Texts) (field : Field) (rest : List ℕ) → IsReadable texts field.0 → IsReadable texts field.1 → line_in texts (shortest_line field ++ rest) ≡ Ok (field, rest)
unfolding shortest_line
shortest_again texts field rest name value = by_index (exact_entry field) (exact_found field)
  where
    by_index : (o : Option ℕ) → FindsStatic field o → line_in texts (line_with o field ++ rest) ≡ Ok (field, rest)
    by_index (Some k) found = indexed_again texts k field rest found.0 (entry_below k field found.0)
    by_index None none = by_literal texts (is_sensitive field) field (first_entry field.0) rest refl name value

pub shortest_line_again : (field : Field) (rest : List ℕ) → IsOctets field.0 → IsOctets field.1 → octet_line_at (shortest_line field ++ rest) ≡ Ok (field, rest)
shortest_line_again field rest name value = shortest_again Octets field rest (octets_readable field.0 name) (octets_readable field.1 value)

pub text_line_again : (field : Field) (rest : List ℕ) → IsText field.0 → IsText field.1 → line_at (encoded_line field ++ rest) ≡ Ok (field, rest)
text_line_again field rest name value = line_again Utf8 field rest (text_readable field.0 name) (text_readable field.1 value)

pub octet_line_again : (field : Field) (rest : List ℕ) → IsOctets field.0 → IsOctets field.1 → octet_line_at (encoded_line field ++ rest) ≡ Ok (field, rest)
octet_line_again field rest name value = line_again Octets field rest (octets_readable field.0 name) (octets_readable field.1 value)

-- ---- sections

lines_again : (fields : List Field) → AreTexts fields → AreLines (flat_map encoded_line fields) fields []
lines_again [] h = refl
lines_again (field ∷ fields) (name, value, others) = (flat_map encoded_line fields, text_line_again field (flat_map encoded_line fields) name value, lines_again fields others)

pub section_again : (fields : List Field) → AreTexts fields → section_at (section_of fields) ≡ Ok fields
unfolding section_at section_of after_prefix integer_at
section_again fields h = lines_read fields (length (flat_map encoded_line fields)) (flat_map encoded_line fields) (omega arith) (lines_again fields h)

pub map_again : (fields : List Field) → AreTexts fields → map_at (section_of fields) ≡ Ok (field_map fields)
unfolding map_at
map_again fields h = rw (section_again fields h) refl

pub octet_lines_again : (fields : List Field) → AreOctets fields → AreOctetLines (flat_map encoded_line fields) fields []
octet_lines_again [] are = refl
octet_lines_again (field ∷ fields) (name, value, others) = (flat_map encoded_line fields, octet_line_again field (flat_map encoded_line fields) name value, octet_lines_again fields others)

pub prefix_again : (fields : List Field) → after_prefix (section_of fields) ≡ Ok (flat_map encoded_line fields)
unfolding section_of after_prefix integer_at
prefix_again fields = refl

pub shortest_lines_again : (fields : List Field) → AreOctets fields → AreOctetLines (flat_map shortest_line fields) fields []
shortest_lines_again [] are = refl
shortest_lines_again (field ∷ fields) (name, value, others) = (flat_map shortest_line fields, shortest_line_again field (flat_map shortest_line fields) name value, shortest_lines_again fields others)

pub shortest_prefix : (fields : List Field) → after_prefix (shortest_section fields) ≡ Ok (flat_map shortest_line fields)
unfolding shortest_section after_prefix integer_at
shortest_prefix fields = refl
