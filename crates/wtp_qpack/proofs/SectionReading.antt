-- Sections: the result of the lines is the result of the section.
use Rattle.std.proofs.Common.{◌≡◌, ◌≢◌, ℕ, zero, suc, ◌<◌, ◌≤◌, inl, inr, List, [], ◌∷◌, ◌++◌, length, refl, sym, ◌∙◌, ap, arith, Ok, Err, Result, IfOk, IfErr, map, string_bytes, String, Global}
use Rattle.std.proofs.lemmas.Grind.{fold-append}
use Rattle.std.specs.Ordering.{match_ordering}
use Rattle.std.specs.String.{string_cmp}
use Rattle.std.specs.BTreeMap.{insert_entry}
use Rattle.std.specs.declared.cmp.Ordering.{Ordering}
use Rattle.std.specs.declared.cmp.Ordering.TheVariants.{Less, Equal, Greater}
use Rattle.wtp_qpack.specs.declared.qpack.DecodingError.{DecodingError}
use Rattle.wtp_qpack.specs.declared.qpack.DecodingError.TheVariants.{Memory}
use Rattle.wtp_qpack.specs.declared.qpack.field_line.Table.TheVariants.{Static, Dynamic}
use Rattle.wtp_qpack.specs.declared.qpack.field_line.Representation.{Representation}
use Rattle.wtp_qpack.specs.declared.qpack.field_line.Representation.TheVariants.{Indexed, IndexedPostBase, NameReference, PostBaseNameReference, LiteralName}
use Rattle.wtp_qpack.specs.declared.qpack.string_literal.Texts.{Texts}
use Rattle.wtp_qpack.specs.declared.qpack.string_literal.Texts.TheVariants.{Utf8}
use Rattle.wtp_qpack.specs.Field.{Field, field_of, put, field_map}
use Rattle.wtp_qpack.specs.Qpack.{GivesUnlessMemory, ◌>>=◌}
use Rattle.wtp_qpack.specs.Integer.{integer_at}
use Rattle.wtp_qpack.specs.StaticTable.{entry_at}
use Rattle.wtp_qpack.specs.StringLiteral.{string_in}
use Rattle.wtp_qpack.specs.FieldLine.{representation_of, or_not_found, indexed_at, name_reference_in, literal_name_in, line_by, line_in, line_at}
use Rattle.wtp_qpack.specs.FieldSection.{after_prefix, AreLines, lines_at, section_at, map_at}
use Rattle.wtp_qpack.proofs.Chosen.{bind_ok, bind_err, same_rest}
use Rattle.wtp_qpack.proofs.StringReading.{int_shorter, string_shorter, int_not_memory}

-- ---- a map's entries as fields

map_chosen : {X Y : Type 0} (f : X → Y) (o : Ordering) (a b c : List X) → map f (match_ordering o a b c) ≡ match_ordering o (map f a) (map f b) (map f c)
map_chosen f Less a b c = refl
map_chosen f Equal a b c = refl
map_chosen f Greater a b c = refl

pub put_entry : (es : List (String Global × String Global)) (k v : String Global)
    → map field_of (insert_entry string_cmp es k v) ≡ put (map field_of es) (string_bytes k, string_bytes v)
put_entry [] k v = refl
put_entry (e ∷ es) k v =
    map_chosen field_of (string_cmp k e.0) ((k, v) ∷ e ∷ es) ((e.0, v) ∷ es) (e ∷ insert_entry string_cmp es k v)
    ∙ ap (λ z. match_ordering (string_cmp k e.0) ((string_bytes k, string_bytes v) ∷ field_of e ∷ map field_of es) ((string_bytes e.0, string_bytes v) ∷ map field_of es) (field_of e ∷ z)) (put_entry es k v)

-- ---- a line is shorter than the bytes that start with it

indexed_shorter : (bytes : List ℕ) (l : Field) (rest : List ℕ) → indexed_at bytes ≡ Ok (l, rest) → length rest < length bytes
unfolding indexed_at
indexed_shorter bytes l rest e =
    let k = bind_ok (integer_at 6 bytes) (λ (k : ℕ × List ℕ). or_not_found (entry_at k.0) >>= λ e. Ok (e, k.1)) (l, rest) e in
    let x = bind_ok (or_not_found (entry_at k.0.0)) (λ e. Ok (e, k.0.1)) (l, rest) k.2 in
    let behind : k.0.1 ≡ rest = same_rest x.0 l k.0.1 rest x.2 in
    omega (arith, ap length behind, int_shorter 6 bytes k.0.0 k.0.1 k.1)

named_shorter : (texts : Texts) (bytes : List ℕ) (l : Field) (rest : List ℕ) → name_reference_in texts bytes ≡ Ok (l, rest) → length rest < length bytes
unfolding name_reference_in
named_shorter texts bytes l rest e =
    let k = bind_ok (integer_at 4 bytes) (λ (k : ℕ × List ℕ). or_not_found (entry_at k.0) >>= λ e. string_in texts 7 k.1 >>= λ v. Ok ((e.0, v.0), v.1)) (l, rest) e in
    let x = bind_ok (or_not_found (entry_at k.0.0)) (λ e. string_in texts 7 k.0.1 >>= λ v. Ok ((e.0, v.0), v.1)) (l, rest) k.2 in
    let v = bind_ok (string_in texts 7 k.0.1) (λ v. Ok ((x.0.0, v.0), v.1)) (l, rest) x.2 in
    let behind : v.0.1 ≡ rest = same_rest (x.0.0, v.0.0) l v.0.1 rest v.2 in
    omega (arith, ap length behind, int_shorter 4 bytes k.0.0 k.0.1 k.1, string_shorter texts 7 k.0.1 v.0.0 v.0.1 v.1)

literal_shorter : (texts : Texts) (bytes : List ℕ) (l : Field) (rest : List ℕ) → literal_name_in texts bytes ≡ Ok (l, rest) → length rest < length bytes
unfolding literal_name_in
literal_shorter texts bytes l rest e =
    let n = bind_ok (string_in texts 3 bytes) (λ (n : List ℕ × List ℕ). string_in texts 7 n.1 >>= λ v. Ok ((n.0, v.0), v.1)) (l, rest) e in
    let v = bind_ok (string_in texts 7 n.0.1) (λ v. Ok ((n.0.0, v.0), v.1)) (l, rest) n.2 in
    let behind : v.0.1 ≡ rest = same_rest (n.0.0, v.0.0) l v.0.1 rest v.2 in
    omega (arith, ap length behind, string_shorter texts 3 bytes n.0.0 n.0.1 n.1, string_shorter texts 7 n.0.1 v.0.0 v.0.1 v.1)

by_shorter : (texts : Texts) (representation : Representation) (bytes : List ℕ) (line : Field) (rest : List ℕ) → line_by texts representation bytes ≡ Ok (line, rest) → length rest < length bytes
by_shorter texts (Indexed Static) bytes line rest e = indexed_shorter bytes line rest e
by_shorter texts (Indexed Dynamic) bytes line rest e = cc e
by_shorter texts IndexedPostBase bytes line rest e = cc e
by_shorter texts (NameReference Static) bytes line rest e = named_shorter texts bytes line rest e
by_shorter texts (NameReference Dynamic) bytes line rest e = cc e
by_shorter texts PostBaseNameReference bytes line rest e = cc e
by_shorter texts LiteralName bytes line rest e = literal_shorter texts bytes line rest e

pub line_shorter : (texts : Texts) (bytes : List ℕ) (line : Field) (rest : List ℕ) → line_in texts bytes ≡ Ok (line, rest) → length rest < length bytes
unfolding line_in
line_shorter texts [] line rest e = cc
line_shorter texts (b ∷ bs) line rest e = by_shorter texts (representation_of b) (b ∷ bs) line rest e

-- ---- lines, one after the other

pub lines_more : (text : List ℕ) (ls : List Field) (rest : List ℕ) (l : Field) (behind : List ℕ) → AreLines text ls rest → line_at rest ≡ Ok (l, behind) → AreLines text (ls ++ l ∷ []) behind
lines_more text [] rest l behind e line = (behind, rw e line, refl)
lines_more text (m ∷ ls) rest l behind (middle, first, more) line = (middle, first, lines_more middle ls rest l behind more line)

pub map_push : (ls : List Field) (l : Field) → field_map (ls ++ l ∷ []) ≡ put (field_map ls) l
unfolding field_map
map_push ls l = fold-append put [] ls (l ∷ [])

pub lines_read : (ls : List Field) (n : ℕ) (body : List ℕ) → length body ≤ n → AreLines body ls [] → lines_at n body ≡ Ok ls
unfolding lines_at line_in
lines_read [] n body few e = rw e refl
lines_read (l ∷ ls) n [] few (middle, e, more) = cc e
lines_read (l ∷ ls) zero (b ∷ bs) few run = absurd (omega arith)
lines_read (l ∷ ls) (suc n) (b ∷ bs) few (middle, e, more) = rw (e, lines_read ls n middle (omega (arith, line_shorter Utf8 (b ∷ bs) l middle e)) more) refl

no_line : (ls : List Field) (rest : List ℕ) → AreLines [] ls rest → 0 < length rest → ⊥
unfolding line_in
no_line [] rest same some = omega (arith, ap length same)
no_line (l ∷ ls) rest (middle, first, more) some = cc first

pub lines_fault : (ls : List Field) (n : ℕ) (body rest : List ℕ) (f : DecodingError) → length body ≤ n → AreLines body ls rest → 0 < length rest → line_at rest ≡ Err f → lines_at n body ≡ Err f
unfolding lines_at
lines_fault ls n [] rest f few run some e = absurd (no_line ls rest run some)
lines_fault ls zero (b ∷ bs) rest f few run some e = absurd (omega arith)
lines_fault [] (suc n) (b ∷ bs) rest f few same some e =
    let first : line_at (b ∷ bs) ≡ Err f = rw same e in
    rw first refl
lines_fault (l ∷ ls) (suc n) (b ∷ bs) rest f few (middle, first, more) some e =
    rw (first, lines_fault ls n middle rest f (omega (arith, line_shorter Utf8 (b ∷ bs) l middle first)) more some e) refl

pub map_found : (bytes body : List ℕ) (ls : List Field) → after_prefix bytes ≡ Ok body → AreLines body ls [] → map_at bytes ≡ Ok (field_map ls)
unfolding map_at section_at
map_found bytes body ls e run = rw (e, lines_read ls (length body) body (omega arith) run) refl

pub map_fault : (bytes body : List ℕ) (ls : List Field) (rest : List ℕ) (f : DecodingError) → after_prefix bytes ≡ Ok body → AreLines body ls rest → 0 < length rest → line_at rest ≡ Err f → map_at bytes ≡ Err f
unfolding map_at section_at
map_fault bytes body ls rest f e run some fault = rw (e, lines_fault ls (length body) body rest f (omega arith) run some fault) refl

pub prefix_not_memory : (bytes : List ℕ) → after_prefix bytes ≡ Err Memory → ⊥
unfolding after_prefix
prefix_not_memory bytes e = elim (bind_err (integer_at 8 bytes) (λ (count : ℕ × List ℕ). integer_at 7 count.1 >>= λ base. Ok base.1) Memory e) [
  | inl bad ↦ int_not_memory 8 bytes bad
  | inr first ↦ elim (bind_err (integer_at 7 first.0.1) (λ (base : ℕ × List ℕ). Ok base.1) Memory first.2) [
    | inl bad ↦ int_not_memory 7 first.0.1 bad
    | inr second ↦ cc second.2
  ]
]

pub map_no_lines : (bytes : List ℕ) (f : DecodingError) → after_prefix bytes ≡ Err f → map_at bytes ≡ Err f
unfolding map_at section_at
map_no_lines bytes f e = rw e refl

-- the result of the lines is the result of the section
pub section_given : {M : Type 0} (view : M → List Field) (r : Result M DecodingError) (bytes body : List ℕ) → after_prefix bytes ≡ Ok body
    → IfOk r (λ m. (ls : List Field) × AreLines body ls [] × (view m ≡ field_map ls))
    → IfErr r (λ e. (ls : List Field) × (rest : List ℕ) × AreLines body ls rest × (0 < length rest) × (e ≢ Memory → line_at rest ≡ Err e))
    → GivesUnlessMemory view r (map_at bytes)
section_given view (Ok m) bytes body e (ls, run, same) fault = map_found bytes body ls e run ∙ ap Ok (sym same)
section_given view (Err f) bytes body e ok (ls, rest, run, some, fault) = λ other. map_fault bytes body ls rest f e run some (fault other)
