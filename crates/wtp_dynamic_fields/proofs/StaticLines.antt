-- Lines without references to the dynamic table, read with one and without.
use Rattle.std.proofs.Common.{◌≡◌, ◌⊎◌, inl, inr, ℕ, suc, ◌+◌, ◌-◌, ◌*◌, ◌%◌, ◌^◌, ◌==◌, nat_lt, nat_le, cond, Bool, true, false, ◌||◌, List, [], ◌∷◌, refl, ap, arith, Option, Some, None, Result, Ok, Err}
use Rattle.std.proofs.lemmas.Bool.{le-ltb}
use Rattle.wtp_huffman.proofs.Chosen.{chosen}
use Rattle.wtp_qpack.specs.declared.qpack.DecodingError.{DecodingError}
use Rattle.wtp_qpack.specs.declared.qpack.DecodingError.TheVariants as reading
use Rattle.wtp_qpack.specs.declared.qpack.string_literal.Texts.TheVariants.{Octets}
use Rattle.wtp_qpack.specs.Field.{Field}
use Rattle.wtp_qpack.specs.Qpack.{◌>>=◌ as bind}
use Rattle.wtp_qpack.specs.Integer.{groups_at, integer_at}
use Rattle.wtp_qpack.specs.StringLiteral.{octets_at, is_coded}
use Rattle.wtp_qpack.specs.StaticTable as static_table
use Rattle.wtp_qpack.specs.FieldLine as static_line
use Rattle.wtp_qpack.specs.FieldLine.{bit}
use Rattle.wtp_qpack.specs.FieldLines as static
use Rattle.wtp_qpack.specs.FieldLines.{octet_line_at}
use Rattle.wtp_dynamic.specs.declared.error.SectionError.{SectionError}
use Rattle.wtp_dynamic.specs.declared.error.SectionError.TheVariants.{UnexpectedEnd, IntegerOverflow, IndexNotFound, EntryNotFound}
use Rattle.wtp_dynamic.specs.declared.section.Reference.{Reference}
use Rattle.wtp_dynamic.specs.declared.section.Reference.TheVariants.{Static, Back, On}
use Rattle.wtp_dynamic.specs.Chain.{◌>>=◌, or_fault}
use Rattle.wtp_dynamic.specs.Faults.{section_fault, of_section}
use Rattle.wtp_dynamic.specs.Table.{Table}
use Rattle.wtp_dynamic.specs.Section.{Prefix, reached, place_back, entry_at, entry_line_at, name_line_at, literal_line_at, line_by, table_line_at, value_is_coded, coded_by, is_coded_line}
use Rattle.wtp_dynamic_fields.specs.Static.{RefersToNone, Corresponds, IsReadAlike, IsReadAlikeUnlessDynamic}

-- ---- integers: which faults they have

groups_fault : (bytes : List ℕ) (sum k : ℕ) (f : DecodingError) → groups_at sum k bytes ≡ Err f → (f ≡ reading.UnexpectedFin) ⊎ (f ≡ reading.IntegerOverflow)
unfolding groups_at
groups_fault [] sum k f e = inl (cc e)
groups_fault (g ∷ gs) sum k f e =
    let more : ℕ = sum + g % 128 * 2 ^ (7 * k) in
    elim (chosen (nat_le (2 ^ 64) more) (Err reading.IntegerOverflow) (cond (nat_lt g 128) (Ok (more, gs)) (groups_at more (suc k) gs)) (Err f) e) [
      | inl over ↦ inr (cc over.1)
      | inr fine ↦ elim (chosen (nat_lt g 128) (Ok (more, gs)) (groups_at more (suc k) gs) (Err f) fine.1) [
        | inl last ↦ cc last.1
        | inr on ↦ groups_fault gs more (suc k) f on.1
      ]
    ]

int_fault : (n : ℕ) (bytes : List ℕ) (f : DecodingError) → integer_at n bytes ≡ Err f → (f ≡ reading.UnexpectedFin) ⊎ (f ≡ reading.IntegerOverflow)
unfolding integer_at
int_fault n [] f e = inl (cc e)
int_fault n (b ∷ bs) f e =
    elim (chosen (b % 2 ^ n == 2 ^ n - 1) (groups_at (2 ^ n - 1) 0 bs) (Ok (b % 2 ^ n, bs)) (Err f) e) [
      | inl long ↦ groups_fault bs (2 ^ n - 1) 0 f long.1
      | inr short ↦ cc short.1
    ]

-- ---- entries of the static table

-- an entry and the bytes after its index; a name with a value
abbrev found : {E : Type 0} → List ℕ → Field → Result (Field × List ℕ) E
found rest entry = Ok (entry, rest)

abbrev valued : {E : Type 0} → List ℕ → List ℕ × List ℕ → Result (Field × List ℕ) E
valued name value = Ok ((name, value.0), value.1)

static_entry : (n : ℕ) (table : Table) (prefix : Prefix) (bytes : List ℕ)
    → entry_line_at Static n table prefix bytes ≡ of_section (bind (integer_at n bytes) (λ (index : ℕ × List ℕ). bind (static_line.or_not_found (static_table.entry_at index.0)) (found index.1)))
unfolding entry_line_at
static_entry n table prefix bytes = by_index (integer_at n bytes)
  where
    by_entry : (entry : Option Field) (rest : List ℕ) → (or_fault IndexNotFound entry >>= found rest) ≡ of_section (bind (static_line.or_not_found entry) (found rest))
    by_entry None rest = refl
    by_entry (Some entry) rest = refl

    by_index : (r : Result (ℕ × List ℕ) DecodingError) → (of_section r >>= λ (index : ℕ × List ℕ). entry_at Static table prefix index.0 >>= found index.1) ≡ of_section (bind r (λ (index : ℕ × List ℕ). bind (static_line.or_not_found (static_table.entry_at index.0)) (found index.1)))
    by_index (Ok index) = by_entry (static_table.entry_at index.0) index.1
    by_index (Err f) = refl

by_value : (name : List ℕ) (r : Result (List ℕ × List ℕ) DecodingError) → (of_section r >>= valued name) ≡ of_section (bind r (valued name))
by_value name (Ok value) = refl
by_value name (Err f) = refl

static_name : (table : Table) (prefix : Prefix) (bytes : List ℕ) → name_line_at Static 4 table prefix bytes ≡ of_section (static_line.name_reference_in Octets bytes)
unfolding name_line_at entry_line_at static_line.name_reference_in
static_name table prefix bytes = by_index (integer_at 4 bytes)
  where
    by_entry : (entry : Option Field) (rest : List ℕ) → ((or_fault IndexNotFound entry >>= found rest) >>= λ (line : Field × List ℕ). of_section (octets_at 7 line.1) >>= valued line.0.0) ≡ of_section (bind (static_line.or_not_found entry) (λ (entry : Field). bind (octets_at 7 rest) (valued entry.0)))
    by_entry None rest = refl
    by_entry (Some entry) rest = by_value entry.0 (octets_at 7 rest)

    by_index : (r : Result (ℕ × List ℕ) DecodingError) → ((of_section r >>= λ (index : ℕ × List ℕ). entry_at Static table prefix index.0 >>= found index.1) >>= λ (line : Field × List ℕ). of_section (octets_at 7 line.1) >>= valued line.0.0) ≡ of_section (bind r (λ (index : ℕ × List ℕ). bind (static_line.or_not_found (static_table.entry_at index.0)) (λ (entry : Field). bind (octets_at 7 index.1) (valued entry.0))))
    by_index (Ok index) = by_entry (static_table.entry_at index.0) index.1
    by_index (Err f) = refl

static_literal : (bytes : List ℕ) → literal_line_at bytes ≡ of_section (static_line.literal_name_in Octets bytes)
unfolding literal_line_at static_line.literal_name_in
static_literal bytes = by_name (octets_at 3 bytes)
  where
    by_name : (r : Result (List ℕ × List ℕ) DecodingError) → (of_section r >>= λ (name : List ℕ × List ℕ). of_section (octets_at 7 name.1) >>= valued name.0) ≡ of_section (bind r (λ (name : List ℕ × List ℕ). bind (octets_at 7 name.1) (valued name.0)))
    by_name (Ok name) = by_value name.0 (octets_at 7 name.1)
    by_name (Err f) = refl

static_indexed : (table : Table) (prefix : Prefix) (bytes : List ℕ) → entry_line_at Static 6 table prefix bytes ≡ of_section (static_line.indexed_at bytes)
unfolding static_line.indexed_at
static_indexed table prefix bytes = static_entry 6 table prefix bytes

-- ---- entries of the dynamic table that no line may refer to

none_below : (table : Table) (place : Option ℕ) → reached table 0 place ≡ None
none_below table None = refl
none_below table (Some place) = rw (le-ltb place 0 (omega arith)) refl

none_back : (table : Table) (prefix : Prefix) → prefix.required ≡ 0 → (index : ℕ) → entry_at Back table prefix index ≡ Err EntryNotFound
none_back table prefix none index = rw (none, none_below table (place_back prefix.base index)) refl

none_on : (table : Table) (prefix : Prefix) → prefix.required ≡ 0 → (index : ℕ) → entry_at On table prefix index ≡ Err EntryNotFound
none_on table prefix none index = rw (none, none_below table (Some (prefix.base + index))) refl

-- a line that has a fault, since it refers to no entry
abbrev IsNoLine : Result (Field × List ℕ) SectionError → Type 0
IsNoLine found = (e : SectionError) × (found ≡ Err e) × RefersToNone e

no_entry : (reference : Reference) (n : ℕ) (table : Table) (prefix : Prefix) (bytes : List ℕ) → ((index : ℕ) → entry_at reference table prefix index ≡ Err EntryNotFound) → IsNoLine (entry_line_at reference n table prefix bytes)
unfolding entry_line_at
no_entry reference n table prefix bytes none = by_index (integer_at n bytes) refl
  where
    by_index : (r : Result (ℕ × List ℕ) DecodingError) → integer_at n bytes ≡ r → IsNoLine (of_section r >>= λ (index : ℕ × List ℕ). entry_at reference table prefix index.0 >>= found index.1)
    by_index (Ok index) is = (EntryNotFound, rw (none index.0) refl, inr (inr refl))
    by_index (Err f) is = elim (int_fault n bytes f is) [
      | inl cut ↦ (UnexpectedEnd, rw cut refl, inl refl)
      | inr over ↦ (IntegerOverflow, rw over refl, inr (inl refl))
    ]

no_name : (reference : Reference) (n : ℕ) (table : Table) (prefix : Prefix) (bytes : List ℕ) → ((index : ℕ) → entry_at reference table prefix index ≡ Err EntryNotFound) → IsNoLine (name_line_at reference n table prefix bytes)
unfolding name_line_at
no_name reference n table prefix bytes none =
    let no = no_entry reference n table prefix bytes none in
    (no.0, rw no.1 refl, no.2)

-- ---- lines

pub corresponds_self : (f : DecodingError) → Corresponds f (section_fault f)
corresponds_self reading.UnexpectedFin = refl
corresponds_self reading.IntegerOverflow = refl
corresponds_self reading.InvalidString = refl
corresponds_self reading.DynamicNotSupported = inr (inr refl)
corresponds_self reading.IndexNotfound = refl
corresponds_self reading.Memory = refl

alike : (r : Result (Field × List ℕ) DecodingError) (found : Result (Field × List ℕ) SectionError) → found ≡ of_section r → IsReadAlike r found
alike (Ok line) found e = e
alike (Err f) found e = (section_fault f, e, corresponds_self f)

alike_unless : (r : Result (Field × List ℕ) DecodingError) (found : Result (Field × List ℕ) SectionError) → found ≡ of_section r → IsReadAlikeUnlessDynamic r found
alike_unless (Ok line) found e = e
alike_unless (Err reading.UnexpectedFin) found e = e
alike_unless (Err reading.IntegerOverflow) found e = e
alike_unless (Err reading.InvalidString) found e = e
alike_unless (Err reading.DynamicNotSupported) found e = tt
alike_unless (Err reading.IndexNotfound) found e = e
alike_unless (Err reading.Memory) found e = e

any_by : (a b c d : Bool) (table : Table) (prefix : Prefix) (bytes : List ℕ) → IsReadAlikeUnlessDynamic (static_line.line_by Octets (static_line.by_bits a b c d) bytes) (line_by a b c d table prefix bytes)
any_by true true c d table prefix bytes = alike_unless _ _ (static_indexed table prefix bytes)
any_by true false c d table prefix bytes = tt
any_by false true c true table prefix bytes = alike_unless _ _ (static_name table prefix bytes)
any_by false true c false table prefix bytes = tt
any_by false false true d table prefix bytes = alike_unless _ _ (static_literal bytes)
any_by false false false true table prefix bytes = tt
any_by false false false false table prefix bytes = tt

pub any_line : (table : Table) (prefix : Prefix) (bytes : List ℕ) → IsReadAlikeUnlessDynamic (octet_line_at bytes) (table_line_at table prefix bytes)
unfolding table_line_at static_line.line_in
any_line table prefix [] = refl
any_line table prefix (b ∷ bs) = any_by (bit 7 b) (bit 6 b) (bit 5 b) (bit 4 b) table prefix (b ∷ bs)

none_by : (a b c d : Bool) (table : Table) (prefix : Prefix) (bytes : List ℕ) → prefix.required ≡ 0 → IsReadAlike (static_line.line_by Octets (static_line.by_bits a b c d) bytes) (line_by a b c d table prefix bytes)
none_by true true c d table prefix bytes none = alike _ _ (static_indexed table prefix bytes)
none_by true false c d table prefix bytes none = no_entry Back 6 table prefix bytes (none_back table prefix none)
none_by false true c true table prefix bytes none = alike _ _ (static_name table prefix bytes)
none_by false true c false table prefix bytes none = no_name Back 4 table prefix bytes (none_back table prefix none)
none_by false false true d table prefix bytes none = alike _ _ (static_literal bytes)
none_by false false false true table prefix bytes none = no_entry On 4 table prefix bytes (none_on table prefix none)
none_by false false false false table prefix bytes none = no_name On 3 table prefix bytes (none_on table prefix none)

pub none_line : (table : Table) (prefix : Prefix) (bytes : List ℕ) → prefix.required ≡ 0 → IsReadAlike (octet_line_at bytes) (table_line_at table prefix bytes)
unfolding table_line_at static_line.line_in
none_line table prefix [] none = (UnexpectedEnd, refl, refl)
none_line table prefix (b ∷ bs) none = none_by (bit 7 b) (bit 6 b) (bit 5 b) (bit 4 b) table prefix (b ∷ bs) none

-- ---- lines with Huffman text

value_same : {X : Type 0} (r : Result (X × List ℕ) DecodingError) → value_is_coded r ≡ static_line.value_is_coded r
value_same (Ok before) = refl
value_same (Err f) = refl

value_again : (r : Result (Field × List ℕ) DecodingError) → value_is_coded (of_section r) ≡ static_line.value_is_coded r
value_again (Ok before) = refl
value_again (Err f) = refl

not_coded : (found : Result (Field × List ℕ) SectionError) → IsNoLine found → value_is_coded found ≡ false
not_coded found (e, is, none) = rw is refl

coded_lines : (a b c d : Bool) (table : Table) (prefix : Prefix) (bytes : List ℕ) → prefix.required ≡ 0 → coded_by a b c d table prefix bytes ≡ static_line.has_coded Octets (static_line.by_bits a b c d) bytes
coded_lines true true c d table prefix bytes none = refl
coded_lines true false c d table prefix bytes none = refl
coded_lines false true c true table prefix bytes none = rw (static_entry 4 table prefix bytes) (value_again (static_line.named_entry_at bytes))
coded_lines false true c false table prefix bytes none = not_coded _ (no_entry Back 4 table prefix bytes (none_back table prefix none))
coded_lines false false true d table prefix bytes none = ap (λ coded. is_coded 3 bytes || coded) (value_same (octets_at 3 bytes))
coded_lines false false false true table prefix bytes none = refl
coded_lines false false false false table prefix bytes none = not_coded _ (no_entry On 3 table prefix bytes (none_on table prefix none))

pub coded_line : (table : Table) (prefix : Prefix) (bytes : List ℕ) → prefix.required ≡ 0 → is_coded_line table prefix bytes ≡ static.is_coded_line bytes
unfolding is_coded_line static_line.is_coded_in
coded_line table prefix [] none = refl
coded_line table prefix (b ∷ bs) none = coded_lines (bit 7 b) (bit 6 b) (bit 5 b) (bit 4 b) table prefix (b ∷ bs) none
