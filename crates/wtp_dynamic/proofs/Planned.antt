-- Sections that were written are read again.
use Rattle.std.proofs.Common.{◌≡◌, ℕ, ◌+◌, ◌-◌, ◌*◌, ◌/◌, ◌%◌, ◌^◌, ◌==◌, ◌<◌, ◌≤◌, inl, inr, Bool, true, false, nat_lt, List, [], ◌∷◌, ◌++◌, length, refl, sym, ◌∙◌, ap, arith, append_assoc, Option, Some, None, Ok, eq-eqb, ne_eqb}
use Rattle.std.specs.List.{flat_map}
use Rattle.std.proofs.lemmas.Bool.{cases_lt, lt-ltb, le-ltb, lt-leb}
use Rattle.std.proofs.lemmas.List.{length-append}
use Rattle.std.proofs.Math.Seq.{drop-append_seam, take-append_seam}
use Rattle.wtp_qpack.specs.Field.{Field, IsOctets}
use Rattle.wtp_qpack.specs.Integer.{integer_at, shortest_int}
use Rattle.wtp_qpack.specs.StaticTable as static
use Rattle.wtp_qpack.specs.StringLiteral.{huffman_bytes, encoded_string}
use Rattle.wtp_qpack.specs.FieldLine.{bit}
use Rattle.wtp_qpack.specs.StringLiteral.{octets, octets_at, string_in}
use Rattle.wtp_qpack.proofs.RoundTrip.{short_head, flag_of, text_head}
use Rattle.wtp_qpack.proofs.StringBits.{huffman_only}
use Rattle.wtp_qpack.proofs.StringWriting.{huffman_is}
use Rattle.wtp_dynamic.specs.declared.error.SectionError.TheVariants.{EntryNotFound}
use Rattle.wtp_dynamic.specs.declared.section.Reference.{Reference}
use Rattle.wtp_dynamic.specs.declared.section.Reference.TheVariants.{Static, Back, On}
use Rattle.wtp_dynamic.specs.Chain.{or_fault}
use Rattle.wtp_dynamic.specs.Table.{Table, insert_count, entry_of}
use Rattle.wtp_dynamic.specs.InsertCount.{most_entries, IsMeant, encoded_count, count_of}
use Rattle.wtp_dynamic.specs.Section.{Prefix, base_of, prefix_at, place_back, reached, entry_at, entry_line_at, name_line_at, literal_line_at, line_by, table_line_at, AreTableLines, never_by, is_never}
use Rattle.wtp_dynamic.specs.Plans.{Plan, StaticField, TableField, StaticName, TableName, NewName, with_value, planned_field, planned_line, planned_prefix, never_bit, is_never_plan, CanPlan, ArePlans}
use Rattle.wtp_dynamic.proofs.InsertCounts.{judged, decoded_by}
use Rattle.wtp_dynamic.proofs.Written.{int_again}

-- ---- strings

octets_by : (n f h : ℕ) (body t rest : List ℕ) → h < 2 → length body < 2 ^ 64 → octets (h == 1) body ≡ Ok t → octets_at n ((shortest_int n (f * 2 + h) (length body) ++ body) ++ rest) ≡ Ok (t, rest)
unfolding string_in
octets_by n f h body t rest small fits given =
    let s : List ℕ = shortest_int n (f * 2 + h) (length body) in
    let grouped : (s ++ body) ++ rest ≡ s ++ (body ++ rest) = append_assoc s body rest in
    let size : integer_at n (s ++ (body ++ rest)) ≡ Ok (length body, body ++ rest) = int_again n (f * 2 + h) (length body) (body ++ rest) fits in
    let enough : nat_lt (length (body ++ rest)) (length body) ≡ false = le-ltb (length (body ++ rest)) (length body) (omega (arith, length-append body rest)) in
    rw (grouped, size, enough, flag_of n f h (length body) (body ++ rest) small, take-append_seam body rest, given, drop-append_seam body rest) refl

pub octets_again : (n f : ℕ) (t rest : List ℕ) → IsOctets t → octets_at n (encoded_string n f t ++ rest) ≡ Ok (t, rest)
unfolding encoded_string
octets_again n f t rest good = elim (cases_lt (length (huffman_bytes t)) (length t)) [
  | inl less ↦
      rw (lt-ltb (length (huffman_bytes t)) (length t) less)
      (octets_by n f 1 (huffman_bytes t) t rest (omega arith) (omega (arith, good.few)) (rw (huffman_only t (huffman_bytes t) (huffman_is t good.bytes)) refl))
  | inr more ↦
      let zeros : f * 2 ≡ f * 2 + 0 = omega arith in
      rw (le-ltb (length (huffman_bytes t)) (length t) more, zeros) (octets_by n f 0 t t rest (omega arith) good.few refl)
]

-- ---- lines by their first byte

-- the first four bits of a byte
record Bits (b : ℕ) (w x y z : Bool) : Type 0 where
  pub first : bit 7 b ≡ w
  pub second : bit 6 b ≡ x
  pub third : bit 5 b ≡ y
  pub fourth : bit 4 b ≡ z

line_as : (table : Table) (prefix : Prefix) (text rest : List ℕ) (b : ℕ) (w x y z : Bool) → text ≡ b ∷ rest → Bits b w x y z → table_line_at table prefix text ≡ line_by w x y z table prefix text
unfolding table_line_at
line_as table prefix text rest b w x y z e bits = ap (table_line_at table prefix) e ∙ rw (bits.first, bits.second, bits.third, bits.fourth) refl ∙ ap (line_by w x y z table prefix) (sym e)

never_as : (text rest : List ℕ) (b : ℕ) (w x y z : Bool) → text ≡ b ∷ rest → Bits b w x y z → is_never text ≡ never_by w x y z (bit 3 b)
unfolding is_never
never_as text rest b w x y z e bits = ap is_never e ∙ rw (bits.first, bits.second, bits.third, bits.fourth) refl

-- the bit N
bit_small : (never : Bool) → never_bit never < 2
bit_small true = omega arith
bit_small false = omega arith

bit_is : (never : Bool) (n v : ℕ) → n ≡ never_bit never → v ≡ n → (v == 1) ≡ never
bit_is true n v is e = eq-eqb v 1 (e ∙ is)
bit_is false n v is e = ne_eqb v 1 (omega (arith, e, is))

-- 11, 10, 0001, 01N1, 01N0, 0000N, 001N
static_form : (low b : ℕ) → low < 2 ^ 6 → b ≡ 3 * 2 ^ 6 + low → Bits b true true (bit 5 b) (bit 4 b)
static_form low b small e = record { first = eq-eqb (b / 2 ^ 7 % 2) 1 (omega arith); second = eq-eqb (b / 2 ^ 6 % 2) 1 (omega arith); third = refl; fourth = refl }

back_form : (low b : ℕ) → low < 2 ^ 6 → b ≡ 2 * 2 ^ 6 + low → Bits b true false (bit 5 b) (bit 4 b)
back_form low b small e = record { first = eq-eqb (b / 2 ^ 7 % 2) 1 (omega arith); second = ne_eqb (b / 2 ^ 6 % 2) 1 (omega arith); third = refl; fourth = refl }

on_form : (low b : ℕ) → low < 2 ^ 4 → b ≡ 1 * 2 ^ 4 + low → Bits b false false false true
on_form low b small e = record { first = ne_eqb (b / 2 ^ 7 % 2) 1 (omega arith); second = ne_eqb (b / 2 ^ 6 % 2) 1 (omega arith); third = ne_eqb (b / 2 ^ 5 % 2) 1 (omega arith); fourth = eq-eqb (b / 2 ^ 4 % 2) 1 (omega arith) }

static_name_form : (never : Bool) (n low b : ℕ) → n ≡ never_bit never → n < 2 → low < 2 ^ 4 → b ≡ (5 + 2 * n) * 2 ^ 4 + low → Bits b false true never true
static_name_form never n low b is bit small e = record { first = ne_eqb (b / 2 ^ 7 % 2) 1 (omega arith); second = eq-eqb (b / 2 ^ 6 % 2) 1 (omega arith); third = bit_is never n (b / 2 ^ 5 % 2) is (omega arith); fourth = eq-eqb (b / 2 ^ 4 % 2) 1 (omega arith) }

back_name_form : (never : Bool) (n low b : ℕ) → n ≡ never_bit never → n < 2 → low < 2 ^ 4 → b ≡ (4 + 2 * n) * 2 ^ 4 + low → Bits b false true never false
back_name_form never n low b is bit small e = record { first = ne_eqb (b / 2 ^ 7 % 2) 1 (omega arith); second = eq-eqb (b / 2 ^ 6 % 2) 1 (omega arith); third = bit_is never n (b / 2 ^ 5 % 2) is (omega arith); fourth = ne_eqb (b / 2 ^ 4 % 2) 1 (omega arith) }

on_name_form : (n low b : ℕ) → n < 2 → low < 2 ^ 3 → b ≡ n * 2 ^ 3 + low → Bits b false false false false
on_name_form n low b bit small e = record { first = ne_eqb (b / 2 ^ 7 % 2) 1 (omega arith); second = ne_eqb (b / 2 ^ 6 % 2) 1 (omega arith); third = ne_eqb (b / 2 ^ 5 % 2) 1 (omega arith); fourth = ne_eqb (b / 2 ^ 4 % 2) 1 (omega arith) }

new_form : (never : Bool) (n h low b : ℕ) → n ≡ never_bit never → n < 2 → h < 2 → low < 2 ^ 3 → b ≡ ((2 + n) * 2 + h) * 2 ^ 3 + low → Bits b false false true never
new_form never n h low b is bit flag small e = record { first = ne_eqb (b / 2 ^ 7 % 2) 1 (omega arith); second = ne_eqb (b / 2 ^ 6 % 2) 1 (omega arith); third = eq-eqb (b / 2 ^ 5 % 2) 1 (omega arith); fourth = bit_is never n (b / 2 ^ 4 % 2) is (omega arith) }

-- ---- entries

back_place : (base place : ℕ) → place < base → place_back base (base - 1 - place) ≡ Some place
back_place base place below =
    let there : base - 1 - (base - 1 - place) ≡ place = omega arith in
    rw (lt-ltb (base - 1 - place) base (omega arith), there) refl

found_back : (table : Table) (prefix : Prefix) (place : ℕ) (e : Field) → place < prefix.base → reached table prefix.required (Some place) ≡ Some e → entry_at Back table prefix (prefix.base - 1 - place) ≡ Ok e
found_back table prefix place e below is = ap (λ o. or_fault EntryNotFound (reached table prefix.required o)) (back_place prefix.base place below) ∙ ap (or_fault EntryNotFound) is

found_on : (table : Table) (prefix : Prefix) (place : ℕ) (e : Field) → prefix.base ≤ place → reached table prefix.required (Some place) ≡ Some e → entry_at On table prefix (place - prefix.base) ≡ Ok e
found_on table prefix place e above is =
    let there : prefix.base + (place - prefix.base) ≡ place = omega arith in
    ap (λ k. or_fault EntryNotFound (reached table prefix.required (Some k))) there ∙ ap (or_fault EntryNotFound) is

found_static : (table : Table) (prefix : Prefix) (index : ℕ) (e : Field) → static.entry_at index ≡ Some e → entry_at Static table prefix index ≡ Ok e
found_static table prefix index e is = rw is refl

entry_again : (reference : Reference) (n flags : ℕ) (table : Table) (prefix : Prefix) (index : ℕ) (e : Field) (rest : List ℕ) → index < 2 ^ 64 → entry_at reference table prefix index ≡ Ok e → entry_line_at reference n table prefix (shortest_int n flags index ++ rest) ≡ Ok (e, rest)
unfolding entry_line_at
entry_again reference n flags table prefix index e rest small is = rw (int_again n flags index rest small, is) refl

name_again : (reference : Reference) (n flags : ℕ) (table : Table) (prefix : Prefix) (index : ℕ) (e : Field) (value rest : List ℕ) → index < 2 ^ 64 → entry_at reference table prefix index ≡ Ok e → IsOctets value
    → name_line_at reference n table prefix (shortest_int n flags index ++ (encoded_string 7 0 value ++ rest)) ≡ Ok ((e.0, value), rest)
unfolding name_line_at
name_again reference n flags table prefix index e value rest small is good = rw (entry_again reference n flags table prefix index e (encoded_string 7 0 value ++ rest) small is, octets_again 7 0 value rest good) refl

-- ---- lines

-- a line of a plan is its field
abbrev Reads : Table → Prefix → Plan → Field → List ℕ → Type 0
Reads table prefix plan field rest = table_line_at table prefix (planned_line prefix.base plan ++ rest) ≡ Ok (field, rest)

static_reads : (table : Table) (prefix : Prefix) (index : ℕ) (e : Field) (rest : List ℕ) → index < 2 ^ 64 → static.entry_at index ≡ Some e → Reads table prefix (StaticField index) e rest
static_reads table prefix index e rest small is =
    let head = short_head 6 3 index rest in
    line_as table prefix (shortest_int 6 3 index ++ rest) head.2 (3 * 2 ^ 6 + head.0) true true (bit 5 (3 * 2 ^ 6 + head.0)) (bit 4 (3 * 2 ^ 6 + head.0)) head.3 (static_form head.0 (3 * 2 ^ 6 + head.0) head.1 refl)
    ∙ entry_again Static 6 3 table prefix index e rest small (found_static table prefix index e is)

field_reads : (table : Table) (prefix : Prefix) (place : ℕ) (e : Field) (rest : List ℕ) → prefix.base < 2 ^ 64 → place < 2 ^ 64 → reached table prefix.required (Some place) ≡ Some e → Reads table prefix (TableField place) e rest
field_reads table prefix place e rest few small is = elim (cases_lt place prefix.base) [
  | inl below ↦
      let index : ℕ = prefix.base - 1 - place in
      let head = short_head 6 2 index rest in
      rw (lt-ltb place prefix.base below)
      (line_as table prefix (shortest_int 6 2 index ++ rest) head.2 (2 * 2 ^ 6 + head.0) true false (bit 5 (2 * 2 ^ 6 + head.0)) (bit 4 (2 * 2 ^ 6 + head.0)) head.3 (back_form head.0 (2 * 2 ^ 6 + head.0) head.1 refl)
      ∙ entry_again Back 6 2 table prefix index e rest (omega arith) (found_back table prefix place e below is))
  | inr above ↦
      let index : ℕ = place - prefix.base in
      let head = short_head 4 1 index rest in
      rw (le-ltb place prefix.base above)
      (line_as table prefix (shortest_int 4 1 index ++ rest) head.2 (1 * 2 ^ 4 + head.0) false false false true head.3 (on_form head.0 (1 * 2 ^ 4 + head.0) head.1 refl)
      ∙ entry_again On 4 1 table prefix index e rest (omega arith) (found_on table prefix place e above is))
]

static_name_reads : (table : Table) (prefix : Prefix) (never : Bool) (index : ℕ) (e : Field) (value rest : List ℕ) → index < 2 ^ 64 → IsOctets value → static.entry_at index ≡ Some e → Reads table prefix (StaticName never index value) (e.0, value) rest
static_name_reads table prefix never index e value rest small good is =
    let n : ℕ = never_bit never in
    let flags : ℕ = 5 + 2 * n in
    let behind : List ℕ = encoded_string 7 0 value ++ rest in
    let head = short_head 4 flags index behind in
    ap (table_line_at table prefix) (append_assoc (shortest_int 4 flags index) (encoded_string 7 0 value) rest)
    ∙ line_as table prefix (shortest_int 4 flags index ++ behind) head.2 (flags * 2 ^ 4 + head.0) false true never true head.3 (static_name_form never n head.0 (flags * 2 ^ 4 + head.0) refl (bit_small never) head.1 refl)
    ∙ name_again Static 4 flags table prefix index e value rest small (found_static table prefix index e is) good

name_reads : (table : Table) (prefix : Prefix) (never : Bool) (place : ℕ) (e : Field) (value rest : List ℕ) → prefix.base < 2 ^ 64 → place < 2 ^ 64 → IsOctets value → reached table prefix.required (Some place) ≡ Some e
    → Reads table prefix (TableName never place value) (e.0, value) rest
name_reads table prefix never place e value rest few small good is = elim (cases_lt place prefix.base) [
  | inl below ↦
      let index : ℕ = prefix.base - 1 - place in
      let behind : List ℕ = encoded_string 7 0 value ++ rest in
      let n : ℕ = never_bit never in
      let flags : ℕ = 4 + 2 * n in
      let head = short_head 4 flags index behind in
      rw (lt-ltb place prefix.base below)
      (ap (table_line_at table prefix) (append_assoc (shortest_int 4 flags index) (encoded_string 7 0 value) rest)
      ∙ line_as table prefix (shortest_int 4 flags index ++ behind) head.2 (flags * 2 ^ 4 + head.0) false true never false head.3 (back_name_form never n head.0 (flags * 2 ^ 4 + head.0) refl (bit_small never) head.1 refl)
      ∙ name_again Back 4 flags table prefix index e value rest (omega arith) (found_back table prefix place e below is) good)
  | inr above ↦
      let index : ℕ = place - prefix.base in
      let behind : List ℕ = encoded_string 7 0 value ++ rest in
      let n : ℕ = never_bit never in
      let head = short_head 3 n index behind in
      rw (le-ltb place prefix.base above)
      (ap (table_line_at table prefix) (append_assoc (shortest_int 3 n index) (encoded_string 7 0 value) rest)
      ∙ line_as table prefix (shortest_int 3 n index ++ behind) head.2 (n * 2 ^ 3 + head.0) false false false false head.3 (on_name_form n head.0 (n * 2 ^ 3 + head.0) (bit_small never) head.1 refl)
      ∙ name_again On 3 n table prefix index e value rest (omega arith) (found_on table prefix place e above is) good)
]

new_reads : (table : Table) (prefix : Prefix) (never : Bool) (name value rest : List ℕ) → IsOctets name → IsOctets value → Reads table prefix (NewName never name value) (name, value) rest
unfolding literal_line_at
new_reads table prefix never name value rest good_name good_value =
    let n : ℕ = never_bit never in
    let flags : ℕ = 2 + n in
    let behind : List ℕ = encoded_string 7 0 value ++ rest in
    let head = text_head 3 flags name behind in
    ap (table_line_at table prefix) (append_assoc (encoded_string 3 flags name) (encoded_string 7 0 value) rest)
    ∙ line_as table prefix (encoded_string 3 flags name ++ behind) head.4 ((flags * 2 + head.0) * 2 ^ 3 + head.2) false false true never head.5 (new_form never n head.0 head.2 ((flags * 2 + head.0) * 2 ^ 3 + head.2) refl (bit_small never) head.1 head.3 refl)
    ∙ rw (octets_again 3 flags name behind good_name, octets_again 7 0 value rest good_value) refl

valued : (value : List ℕ) (o : Option Field) (f : Field) → with_value value o ≡ Some f → (e : Field) × (o ≡ Some e) × ((e.0, value) ≡ f)
valued value None f e = cc e
valued value (Some x) f e = (x, refl, cc e)

pub plan_reads : (table : Table) (prefix : Prefix) (plan : Plan) (field : Field) (rest : List ℕ) → prefix.base < 2 ^ 64 → CanPlan plan → planned_field table prefix.required plan ≡ Some field → Reads table prefix plan field rest
plan_reads table prefix (StaticField index) field rest few small is = static_reads table prefix index field rest small is
plan_reads table prefix (TableField place) field rest few small is = field_reads table prefix place field rest few small is
plan_reads table prefix (StaticName never index value) field rest few (small, good) is =
    let e = valued value (static.entry_at index) field is in
    static_name_reads table prefix never index e.0 value rest small good e.1 ∙ ap (λ (f : Field). Ok (f, rest)) e.2
plan_reads table prefix (TableName never place value) field rest few (small, good) is =
    let e = valued value (reached table prefix.required (Some place)) field is in
    name_reads table prefix never place e.0 value rest few small good e.1 ∙ ap (λ (f : Field). Ok (f, rest)) e.2
plan_reads table prefix (NewName never name value) field rest few (first, second) is =
    let same : (name, value) ≡ field = cc is in
    new_reads table prefix never name value rest first second ∙ ap (λ (f : Field). Ok (f, rest)) same

pub plans_read : (table : Table) (prefix : Prefix) (plans : List Plan) (fields : List Field) → prefix.base < 2 ^ 64 → ArePlans table prefix.required plans fields
    → AreTableLines table prefix (flat_map (planned_line prefix.base) plans) fields []
plans_read table prefix [] [] few same = refl
plans_read table prefix [] (field ∷ fields) few same = cc same
plans_read table prefix (plan ∷ plans) [] few bad = absurd bad
plans_read table prefix (plan ∷ plans) (field ∷ fields) few (can, is, others) =
    (flat_map (planned_line prefix.base) plans, plan_reads table prefix plan field (flat_map (planned_line prefix.base) plans) few can is, plans_read table prefix plans fields few others)

-- ---- the bit N

-- a line of a plan has its bit N
abbrev HasNever : ℕ → Plan → List ℕ → Type 0
HasNever base plan rest = is_never (planned_line base plan ++ rest) ≡ is_never_plan plan

field_never : (base place : ℕ) (rest : List ℕ) → HasNever base (TableField place) rest
field_never base place rest = elim (cases_lt place base) [
  | inl below ↦
      let index : ℕ = base - 1 - place in
      let head = short_head 6 2 index rest in
      rw (lt-ltb place base below)
      (never_as (shortest_int 6 2 index ++ rest) head.2 (2 * 2 ^ 6 + head.0) true false (bit 5 (2 * 2 ^ 6 + head.0)) (bit 4 (2 * 2 ^ 6 + head.0)) head.3 (back_form head.0 (2 * 2 ^ 6 + head.0) head.1 refl))
  | inr above ↦
      let index : ℕ = place - base in
      let head = short_head 4 1 index rest in
      rw (le-ltb place base above)
      (never_as (shortest_int 4 1 index ++ rest) head.2 (1 * 2 ^ 4 + head.0) false false false true head.3 (on_form head.0 (1 * 2 ^ 4 + head.0) head.1 refl))
]

name_never : (base : ℕ) (never : Bool) (place : ℕ) (value rest : List ℕ) → HasNever base (TableName never place value) rest
name_never base never place value rest = elim (cases_lt place base) [
  | inl below ↦
      let index : ℕ = base - 1 - place in
      let behind : List ℕ = encoded_string 7 0 value ++ rest in
      let n : ℕ = never_bit never in
      let flags : ℕ = 4 + 2 * n in
      let head = short_head 4 flags index behind in
      rw (lt-ltb place base below)
      (ap is_never (append_assoc (shortest_int 4 flags index) (encoded_string 7 0 value) rest)
      ∙ never_as (shortest_int 4 flags index ++ behind) head.2 (flags * 2 ^ 4 + head.0) false true never false head.3 (back_name_form never n head.0 (flags * 2 ^ 4 + head.0) refl (bit_small never) head.1 refl))
  | inr above ↦
      let index : ℕ = place - base in
      let behind : List ℕ = encoded_string 7 0 value ++ rest in
      let n : ℕ = never_bit never in
      let head = short_head 3 n index behind in
      let b : ℕ = n * 2 ^ 3 + head.0 in
      rw (le-ltb place base above)
      (ap is_never (append_assoc (shortest_int 3 n index) (encoded_string 7 0 value) rest)
      ∙ never_as (shortest_int 3 n index ++ behind) head.2 b false false false false head.3 (on_name_form n head.0 b (bit_small never) head.1 refl)
      ∙ bit_is never n (b / 2 ^ 3 % 2) refl (fifth n head.0 b (bit_small never) head.1 refl))
]
  where
    fifth : (n low b : ℕ) → n < 2 → low < 2 ^ 3 → b ≡ n * 2 ^ 3 + low → b / 2 ^ 3 % 2 ≡ n
    fifth n low b few small e = omega arith

pub plan_never : (base : ℕ) (plan : Plan) (rest : List ℕ) → HasNever base plan rest
plan_never base (StaticField index) rest =
    let head = short_head 6 3 index rest in
    never_as (shortest_int 6 3 index ++ rest) head.2 (3 * 2 ^ 6 + head.0) true true (bit 5 (3 * 2 ^ 6 + head.0)) (bit 4 (3 * 2 ^ 6 + head.0)) head.3 (static_form head.0 (3 * 2 ^ 6 + head.0) head.1 refl)
plan_never base (TableField place) rest = field_never base place rest
plan_never base (StaticName never index value) rest =
    let n : ℕ = never_bit never in
    let flags : ℕ = 5 + 2 * n in
    let behind : List ℕ = encoded_string 7 0 value ++ rest in
    let head = short_head 4 flags index behind in
    ap is_never (append_assoc (shortest_int 4 flags index) (encoded_string 7 0 value) rest)
    ∙ never_as (shortest_int 4 flags index ++ behind) head.2 (flags * 2 ^ 4 + head.0) false true never true head.3 (static_name_form never n head.0 (flags * 2 ^ 4 + head.0) refl (bit_small never) head.1 refl)
plan_never base (TableName never place value) rest = name_never base never place value rest
plan_never base (NewName never name value) rest =
    let n : ℕ = never_bit never in
    let flags : ℕ = 2 + n in
    let behind : List ℕ = encoded_string 7 0 value ++ rest in
    let head = text_head 3 flags name behind in
    ap is_never (append_assoc (encoded_string 3 flags name) (encoded_string 7 0 value) rest)
    ∙ never_as (encoded_string 3 flags name ++ behind) head.4 ((flags * 2 + head.0) * 2 ^ 3 + head.2) false false true never head.5 (new_form never n head.0 head.2 ((flags * 2 + head.0) * 2 ^ 3 + head.2) refl (bit_small never) head.1 head.3 refl)

-- ---- the prefix

prefix_by : (table : Table) (encoded required base h delta : ℕ) (lines : List ℕ) → encoded < 2 ^ 64 → delta < 2 ^ 64 → h < 2 → count_of (most_entries table.limit) (insert_count table) encoded ≡ Some required
    → base_of (h == 1) required delta ≡ Ok base
    → prefix_at table (shortest_int 8 0 encoded ++ (shortest_int 7 (0 * 2 + h) delta ++ lines)) ≡ Ok (record { required = required; base = base; lines = lines })
unfolding prefix_at
prefix_by table encoded required base h delta lines small few bit meant is =
    rw (
      int_again 8 0 encoded (shortest_int 7 (0 * 2 + h) delta ++ lines) small,
      meant,
      int_again 7 (0 * 2 + h) delta lines few,
      flag_of 7 0 h delta lines bit,
      is,
    )
    refl

pub prefix_reads : (table : Table) (required base : ℕ) (lines : List ℕ) → encoded_count (most_entries table.limit) required < 2 ^ 64 → base < 2 ^ 64 → required < 2 ^ 64
    → IsMeant (most_entries table.limit) (insert_count table) (encoded_count (most_entries table.limit) required) required
    → prefix_at table (planned_prefix (most_entries table.limit) required base ++ lines) ≡ Ok (record { required = required; base = base; lines = lines })
prefix_reads table required base lines small few fits meant =
    let most : ℕ = most_entries table.limit in
    let encoded : ℕ = encoded_count most required in
    let decoded : count_of most (insert_count table) encoded ≡ Some required = decoded_by most (insert_count table) encoded required (count_of most (insert_count table) encoded) (judged most (insert_count table) encoded) meant in
    elim (cases_lt base required) [
      | inl below ↦
          let back : required - (required - base - 1) - 1 ≡ base = omega arith in
          let is : base_of true required (required - base - 1) ≡ Ok base = rw (lt-ltb (required - base - 1) required (omega arith), back) refl in
          rw (lt-ltb base required below)
          (ap (prefix_at table) (append_assoc (shortest_int 8 0 encoded) (shortest_int 7 1 (required - base - 1)) lines)
          ∙ prefix_by table encoded required base 1 (required - base - 1) lines small (omega arith) (omega arith) decoded is)
      | inr above ↦
          let on : required + (base - required) ≡ base = omega arith in
          let is : base_of false required (base - required) ≡ Ok base = rw (on, lt-leb (2 ^ 64) base few) refl in
          rw (le-ltb base required above)
          (ap (prefix_at table) (append_assoc (shortest_int 8 0 encoded) (shortest_int 7 0 (base - required)) lines)
          ∙ prefix_by table encoded required base 0 (base - required) lines small (omega arith) (omega arith) decoded is)
    ]

-- ---- two tables

pub field_stays : (old new : Table) (required place : ℕ) → ((k : ℕ) → k < insert_count old → new.dropped ≤ k → entry_of new k ≡ entry_of old k) → required ≤ insert_count old → new.dropped ≤ place
    → reached new required (Some place) ≡ reached old required (Some place)
field_stays old new required place same within low = elim (cases_lt place required) [
  | inl below ↦ rw (lt-ltb place required below) (same place (omega arith) low)
  | inr above ↦ rw (le-ltb place required above) refl
]
