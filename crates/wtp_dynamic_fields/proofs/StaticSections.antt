-- Sections whose prefix names no table, read with a decoder and without.
use Rattle.std.proofs.Common.{◌≡◌, inl, inr, ℕ, suc, ◌+◌, ◌-◌, ◌*◌, ◌%◌, ◌^◌, ◌<◌, ◌==◌, nat_lt, nat_le, cond, true, false, List, [], ◌∷◌, refl, sym, ◌∙◌, ap, subst, arith, Result, Ok, Err, IsTrue}
use Rattle.std.proofs.lemmas.Bool.{leb-false, lt-leb, le-ltb}
use Rattle.wtp_huffman.proofs.Chosen.{chosen}
use Rattle.wtp_qpack.specs.declared.qpack.DecodingError.{DecodingError}
use Rattle.wtp_qpack.specs.declared.qpack.DecodingError.TheVariants as reading
use Rattle.wtp_qpack.specs.Field.{Field}
use Rattle.wtp_qpack.specs.Qpack.{◌>>=◌ as bind}
use Rattle.wtp_qpack.specs.Integer.{groups_at, integer_at}
use Rattle.wtp_qpack.specs.StringLiteral.{flag_above}
use Rattle.wtp_qpack.specs.FieldSection.{after_prefix}
use Rattle.wtp_qpack.proofs.Chosen.{same_value}
use Rattle.wtp_qpack.specs.FieldLines.{octet_line_at, AreOctetLines}
use Rattle.wtp_fields.specs.FieldList as static
use Rattle.wtp_fields.specs.FieldList.{DecodesTo}
use Rattle.wtp_dynamic.specs.declared.error.SectionError.{SectionError}
use Rattle.wtp_dynamic.specs.Chain.{◌>>=◌}
use Rattle.wtp_dynamic.specs.Faults.{section_fault, of_section}
use Rattle.wtp_dynamic.specs.Table.{Table, insert_count}
use Rattle.wtp_dynamic.specs.Section.{Prefix, prefix_at, required_by, base_of, is_blocked, table_line_at, AreTableLines}
use Rattle.wtp_dynamic_decoder.specs.Decoder.{Decoder}
use Rattle.wtp_dynamic_fields.specs.declared.section.Decoded.{Decoded}
use Rattle.wtp_dynamic_fields.specs.declared.section.Decoded.TheVariants.{Fields, Blocked}
use Rattle.wtp_dynamic_fields.specs.declared.section.TableSectionError.{TableSectionError}
use Rattle.wtp_dynamic_fields.specs.declared.section.TableSectionError.TheVariants.{Section, TooLarge, Memory}
use Rattle.wtp_dynamic_fields.specs.Lists.{Reaches, HasFaultyLine, ExceedsLimit, NeedsMemory}
use Rattle.wtp_dynamic_fields.specs.Reading.{SectionGives}
use Rattle.wtp_dynamic_fields.specs.Static.{Corresponds, IsReadAlike, IsReadAlikeUnlessDynamic, NamesNoTable, IsPrefixOf, StaticGives}
use Rattle.wtp_dynamic_fields.proofs.StaticLines.{corresponds_self, any_line, none_line, coded_line}

-- ---- prefixes

groups_small : (bytes : List ℕ) (sum k v : ℕ) (rest : List ℕ) → groups_at sum k bytes ≡ Ok (v, rest) → v < 2 ^ 64
unfolding groups_at
groups_small [] sum k v rest e = cc e
groups_small (g ∷ gs) sum k v rest e =
    let more : ℕ = sum + g % 128 * 2 ^ (7 * k) in
    elim (chosen (nat_le (2 ^ 64) more) (Err reading.IntegerOverflow) (cond (nat_lt g 128) (Ok (more, gs)) (groups_at more (suc k) gs)) (Ok (v, rest)) e) [
      | inl over ↦ cc over.1
      | inr fine ↦ elim (chosen (nat_lt g 128) (Ok (more, gs)) (groups_at more (suc k) gs) (Ok (v, rest)) fine.1) [
        | inl last ↦ let same : more ≡ v = same_value more v gs rest last.1 in omega (arith, same, leb-false (2 ^ 64) more fine.0)
        | inr on ↦ groups_small gs more (suc k) v rest on.1
      ]
    ]

delta_small : (bytes : List ℕ) (v : ℕ) (rest : List ℕ) → integer_at 7 bytes ≡ Ok (v, rest) → v < 2 ^ 64
unfolding integer_at
delta_small [] v rest e = cc e
delta_small (b ∷ bs) v rest e =
    elim (chosen (b % 2 ^ 7 == 2 ^ 7 - 1) (groups_at (2 ^ 7 - 1) 0 bs) (Ok (b % 2 ^ 7, bs)) (Ok (v, rest)) e) [
      | inl long ↦ groups_small bs (2 ^ 7 - 1) 0 v rest long.1
      | inr short ↦ let same : b % 2 ^ 7 ≡ v = same_value (b % 2 ^ 7) v bs rest short.1 in omega (arith, same)
    ]

base_plain : (delta : ℕ) → delta < 2 ^ 64 → base_of false 0 delta ≡ Ok delta
base_plain delta small =
    let same : 0 + delta ≡ delta = omega arith in
    rw (lt-leb (2 ^ 64) (0 + delta) (omega (arith, small))) (ap Ok same)

-- the steps after the count, which is 0
by_delta : (table : Table) (bytes : List ℕ) → flag_above 7 bytes ≡ false
    → IsPrefixOf (bind (integer_at 7 bytes) (λ base. Ok base.1)) (of_section (integer_at 7 bytes) >>= λ delta. base_of (flag_above 7 bytes) 0 delta.0 >>= λ base. Ok (record { required = 0; base = base; lines = delta.1 }))
by_delta table bytes plain = by_result (integer_at 7 bytes) refl
  where
    by_result : (r : Result (ℕ × List ℕ) DecodingError) → integer_at 7 bytes ≡ r
        → IsPrefixOf (bind r (λ base. Ok base.1)) (of_section r >>= λ delta. base_of (flag_above 7 bytes) 0 delta.0 >>= λ base. Ok (record { required = 0; base = base; lines = delta.1 }))
    by_result (Ok delta) is = (delta.0, rw (plain, base_plain delta.0 (delta_small bytes delta.0 delta.1 is)) refl)
    by_result (Err f) is = refl

pub static_prefix : (table : Table) (section : List ℕ) → NamesNoTable section → IsPrefixOf (after_prefix section) (prefix_at table section)
unfolding after_prefix prefix_at
static_prefix table section none = by_count (integer_at 8 section) refl
  where
    by_count : (r : Result (ℕ × List ℕ) DecodingError) → integer_at 8 section ≡ r
        → IsPrefixOf (bind r (λ count. bind (integer_at 7 count.1) (λ base. Ok base.1))) (of_section r >>= λ count. required_by table count.0 >>= λ required. of_section (integer_at 7 count.1) >>= λ delta. base_of (flag_above 7 count.1) required delta.0 >>= λ base. Ok (record { required = required; base = base; lines = delta.1 }))
    by_count (Ok count) is = rw (none count is).0 (by_delta table count.1 (none count is).1)
    by_count (Err f) is = refl

-- a prefix that was read
pub record IsStatic (section : List ℕ) (prefix : Prefix) : Type 0 where
  pub after : after_prefix section ≡ Ok prefix.lines
  pub none : prefix.required ≡ 0

static_found : (r : Result (List ℕ) DecodingError) (section : List ℕ) (found : Result Prefix SectionError) (prefix : Prefix) → after_prefix section ≡ r → IsPrefixOf r found → found ≡ Ok prefix → IsStatic section prefix
static_found (Ok lines) section found prefix after (base, is) e =
    let same : ◌≡◌ {A = Prefix} (record { required = 0; base = base; lines = lines }) prefix = cc (is, e) in
    record { after = after ∙ ap (λ (p : Prefix). Ok p.lines) same; none = sym (ap (λ (p : Prefix). p.required) same) }
static_found (Err f) section found prefix after is e = cc (is, e)

static_fault : (r : Result (List ℕ) DecodingError) (section : List ℕ) (found : Result Prefix SectionError) (fault : SectionError) → after_prefix section ≡ r → IsPrefixOf r found → found ≡ Err fault → (f : DecodingError) × Corresponds f fault × (after_prefix section ≡ Err f)
static_fault (Ok lines) section found fault after (base, is) e = cc (is, e)
static_fault (Err f) section found fault after is e =
    let same : section_fault f ≡ fault = cc (is, e) in
    (f, subst (Corresponds f) same (corresponds_self f), after)

pub read_static : (table : Table) (section : List ℕ) (prefix : Prefix) → NamesNoTable section → prefix_at table section ≡ Ok prefix → IsStatic section prefix
read_static table section prefix none is = static_found (after_prefix section) section (prefix_at table section) prefix refl (static_prefix table section none) is

-- ---- lines

line_back : (r : Result (Field × List ℕ) DecodingError) (found : Result (Field × List ℕ) SectionError) (line : Field × List ℕ) → IsReadAlike r found → found ≡ Ok line → r ≡ Ok line
line_back (Ok x) found line is e = cc (is, e)
line_back (Err f) found line (fault, is, same) e = cc (is, e)

line_again : (r : Result (Field × List ℕ) DecodingError) (found : Result (Field × List ℕ) SectionError) (line : Field × List ℕ) → IsReadAlikeUnlessDynamic r found → r ≡ Ok line → found ≡ Ok line
line_again (Ok x) found line is e = is ∙ cc e
line_again (Err f) found line is e = cc e

fault_back : (r : Result (Field × List ℕ) DecodingError) (found : Result (Field × List ℕ) SectionError) (e : SectionError) → IsReadAlike r found → found ≡ Err e → (f : DecodingError) × (r ≡ Err f) × Corresponds f e
fault_back (Ok x) found e is bad = cc (is, bad)
fault_back (Err f) found e (fault, is, same) bad =
    let one : fault ≡ e = cc (is, bad) in
    (f, refl, subst (Corresponds f) one same)

pub lines_back : (table : Table) (prefix : Prefix) (bytes : List ℕ) (fields : List Field) (rest : List ℕ) → prefix.required ≡ 0 → AreTableLines table prefix bytes fields rest → AreOctetLines bytes fields rest
lines_back table prefix bytes [] rest none are = are
lines_back table prefix bytes (field ∷ fields) rest none (behind, line, more) =
    (behind, line_back (octet_line_at bytes) (table_line_at table prefix bytes) (field, behind) (none_line table prefix bytes none) line, lines_back table prefix behind fields rest none more)

-- lines that refer to no entry are read by any table, whatever the section may refer to
pub lines_again : (table : Table) (prefix : Prefix) (bytes : List ℕ) (fields : List Field) (rest : List ℕ) → AreOctetLines bytes fields rest → AreTableLines table prefix bytes fields rest
lines_again table prefix bytes [] rest are = are
lines_again table prefix bytes (field ∷ fields) rest (behind, line, more) =
    (behind, line_again (octet_line_at bytes) (table_line_at table prefix bytes) (field, behind) (any_line table prefix bytes) line, lines_again table prefix behind fields rest more)

reaches_back : (limit : ℕ) (table : Table) (section : List ℕ) (prefix : Prefix) (fields : List Field) (rest : List ℕ) → IsStatic section prefix → Reaches limit table prefix fields rest → static.Reaches limit section fields rest
reaches_back limit table section prefix fields rest is reached = record {
  start = prefix.lines;
  prefix = is.after;
  are = lines_back table prefix prefix.lines fields rest is.none reached.are;
  fits = reached.fits;
}

faulty_back : (limit : ℕ) (table : Table) (section : List ℕ) (prefix : Prefix) (e : SectionError) → IsStatic section prefix → HasFaultyLine limit table prefix e → (f : DecodingError) × Corresponds f e × static.HasFaultyLine limit section f
faulty_back limit table section prefix e is bad =
    let one = fault_back (octet_line_at bad.rest) (table_line_at table prefix bad.rest) e (none_line table prefix bad.rest is.none) bad.is in
    (one.0, one.2, record { fields = bad.fields; rest = bad.rest; reached = reaches_back limit table section prefix bad.fields bad.rest is bad.reached; some = bad.some; is = one.1 })

exceeds_back : (limit : ℕ) (table : Table) (section : List ℕ) (prefix : Prefix) → IsStatic section prefix → ExceedsLimit limit table prefix → static.ExceedsLimit limit section
exceeds_back limit table section prefix is more = record {
  fields = more.fields;
  rest = more.rest;
  field = more.field;
  behind = more.behind;
  reached = reaches_back limit table section prefix more.fields more.rest is more.reached;
  is = line_back (octet_line_at more.rest) (table_line_at table prefix more.rest) (more.field, more.behind) (none_line table prefix more.rest is.none) more.is;
  exceeds = more.exceeds;
}

needs_back : (limit : ℕ) (table : Table) (section : List ℕ) (prefix : Prefix) → IsStatic section prefix → NeedsMemory limit table prefix → static.NeedsMemory limit section
needs_back limit table section prefix is needs = record {
  fields = needs.fields;
  rest = needs.rest;
  reached = reaches_back limit table section prefix needs.fields needs.rest is needs.reached;
  needs = elim needs.needs [
    | inl coded ↦ inl (subst IsTrue (coded_line table prefix needs.rest is.none) coded)
    | inr fits ↦ inr (record {
      field = fits.field;
      behind = fits.behind;
      is = line_back (octet_line_at needs.rest) (table_line_at table prefix needs.rest) (fits.field, fits.behind) (none_line table prefix needs.rest is.none) fits.is;
      fits = fits.fits;
    })
  ];
}

-- ---- sections

never_blocked : (table : Table) (section : List ℕ) (prefix : Prefix) → NamesNoTable section → prefix_at table section ≡ Ok prefix → is_blocked table prefix ≡ true → ⊥
never_blocked table section prefix none is blocked =
    let zero : prefix.required ≡ 0 = (read_static table section prefix none is).none in
    let free : is_blocked table prefix ≡ false = rw zero (le-ltb (insert_count table) 0 (omega arith)) in
    cc (blocked, free)

pub section_back : (limit stream : ℕ) (section : List ℕ) (old new : Decoder) (result : Result Decoded TableSectionError) → NamesNoTable section → SectionGives limit stream section old new result → StaticGives limit section result
section_back limit stream section old new (Ok (Fields list required)) none has =
    let is = read_static old.table section has.prefix none has.opened.is in
    (reaches_back limit old.table section has.prefix list [] is has.give, has.needs ∙ is.none)
section_back limit stream section old new (Ok (Blocked required)) none waits = never_blocked old.table section waits.prefix none waits.is waits.blocked
section_back limit stream section old new (Err (Section fault)) none (inl (inl (same, is))) =
    let one = static_fault (after_prefix section) section (prefix_at old.table section) fault refl (static_prefix old.table section none) is in
    (one.0, one.1, inl one.2)
section_back limit stream section old new (Err (Section fault)) none (inl (inr (named, many))) = absurd (never_blocked old.table section many.prefix none many.is many.blocked)
section_back limit stream section old new (Err (Section fault)) none (inr (required, has)) =
    let is = read_static old.table section has.prefix none has.opened.is in
    let one = faulty_back limit old.table section has.prefix fault is has.give in
    (one.0, one.1, inr one.2)
section_back limit stream section old new (Err TooLarge) none (required, has) =
    exceeds_back limit old.table section has.prefix (read_static old.table section has.prefix none has.opened.is) has.give
section_back limit stream section old new (Err Memory) none (inl kept) = absurd (never_blocked old.table section kept.prefix none kept.is kept.blocked)
section_back limit stream section old new (Err Memory) none (inr (required, has)) =
    needs_back limit old.table section has.prefix (read_static old.table section has.prefix none has.opened.is) has.give

-- what a list was read of, each table reads as it
prefix_again : (r : Result (List ℕ) DecodingError) (found : Result Prefix SectionError) (lines : List ℕ) → IsPrefixOf r found → r ≡ Ok lines → (prefix : Prefix) × (found ≡ Ok prefix) × (prefix.lines ≡ lines)
prefix_again (Ok start) found lines (base, is) e = (record { required = 0; base = base; lines = start }, is, cc e)
prefix_again (Err f) found lines is e = cc e

pub list_again : (limit : ℕ) (table : Table) (section : List ℕ) (fields : List Field) → NamesNoTable section → static.Reaches limit section fields [] → (prefix : Prefix) × (prefix_at table section ≡ Ok prefix) × Reaches limit table prefix fields []
list_again limit table section fields none reached =
    let read = prefix_again (after_prefix section) (prefix_at table section) reached.start (static_prefix table section none) reached.prefix in
    (read.0, read.1, record { are = rw read.2 (lines_again table read.0 reached.start fields [] reached.are); fits = reached.fits })
