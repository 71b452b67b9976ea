-- A section says the same each time that it is read with the same table, unless memory is wanting.
use Rattle.std.proofs.Common.{◌≡◌, ◌⊎◌, ℕ, ◌+◌, ◌<◌, ◌≤◌, Bool, true, false, List, [], ◌∷◌, ◌++◌, length, Result, Ok, Err, refl, sym, ap, subst, ◌∙◌, arith, inl, inr}
use Rattle.std.proofs.lemmas.List.{append-nil}
use Rattle.std.proofs.lemmas.List.Sums.{sum_by-append}
use Rattle.wtp_qpack.specs.Field.{Field}
use Rattle.wtp_fields.specs.FieldList.{field_size, list_size}
use Rattle.wtp_dynamic.specs.declared.error.SectionError.{SectionError}
use Rattle.wtp_dynamic.specs.Table.{Table}
use Rattle.wtp_dynamic.specs.Section.{Prefix, prefix_at, table_line_at, AreTableLines, is_blocked}
use Rattle.wtp_dynamic_fields.specs.declared.section.Decoded.{Decoded}
use Rattle.wtp_dynamic_fields.specs.declared.section.Decoded.TheVariants.{Fields, Blocked}
use Rattle.wtp_dynamic_fields.specs.declared.section.TableSectionError.{TableSectionError}
use Rattle.wtp_dynamic_fields.specs.declared.section.TableSectionError.TheVariants.{Section, TooLarge, Memory}
use Rattle.wtp_dynamic_fields.specs.Lists.{Reaches, HasFaultyLine, ExceedsLimit, LinesGive}
use Rattle.wtp_dynamic_fields.specs.Reading.{HasLinesIn, IsBlockedIn, TableGives}

-- ---- lines

no_line : (table : Table) (prefix : Prefix) (field : Field) (behind : List ℕ) → table_line_at table prefix [] ≡ Ok (field, behind) → ⊥
unfolding table_line_at
no_line table prefix field behind e = cc e

ok_line : (o : Result (Field × List ℕ) SectionError) (x y : Field × List ℕ) → o ≡ Ok x → o ≡ Ok y → x ≡ y
ok_line o x y e f = cc

ok_not : (o : Result (Field × List ℕ) SectionError) (x : Field × List ℕ) (f : SectionError) → o ≡ Ok x → o ≡ Err f → ⊥
ok_not o x f e g = cc

err_is : (o : Result (Field × List ℕ) SectionError) (x y : SectionError) → o ≡ Err x → o ≡ Err y → x ≡ y
err_is o x y e f = cc

-- lines from the same start: the shorter ones are the first of the longer
record Further (table : Table) (prefix : Prefix) (xs ys : List Field) (r s : List ℕ) : Type 0 where
  more : List Field
  are : AreTableLines table prefix r more s
  is : ys ≡ xs ++ more

one_more : (table : Table) (prefix : Prefix) (x y : Field) (xs ys : List Field) (r s : List ℕ) → x ≡ y → Further table prefix xs ys r s → Further table prefix (x ∷ xs) (y ∷ ys) r s
one_more table prefix x y xs ys r s e h = record { more = h.more; are = h.are; is = ap (λ (l : List Field). y ∷ l) h.is ∙ ap (λ (z : Field). z ∷ (xs ++ h.more)) (sym e) }

compare : (table : Table) (prefix : Prefix) (xs ys : List Field) (start r s : List ℕ) → AreTableLines table prefix start xs r → AreTableLines table prefix start ys s → Further table prefix xs ys r s ⊎ Further table prefix ys xs s r
compare table prefix [] ys start r s e are = inl (record { more = ys; are = subst (λ (l : List ℕ). AreTableLines table prefix l ys s) e are; is = refl })
compare table prefix (x ∷ xs) [] start r s are e = inr (record { more = x ∷ xs; are = subst (λ (l : List ℕ). AreTableLines table prefix l (x ∷ xs) r) e are; is = refl })
compare table prefix (x ∷ xs) (y ∷ ys) start r s a b =
    let same : (x, a.0) ≡ (y, b.0) = ok_line (table_line_at table prefix start) (x, a.0) (y, b.0) a.1 b.1 in
    let head : x ≡ y = ap (λ (p : Field × List ℕ). p.0) same in
    let rest : AreTableLines table prefix b.0 xs r = subst (λ (l : List ℕ). AreTableLines table prefix l xs r) (ap (λ (p : Field × List ℕ). p.1) same) a.2 in
    elim (compare table prefix xs ys b.0 r s rest b.2) [
      | inl h ↦ inl (one_more table prefix x y xs ys r s head h)
      | inr h ↦ inr (one_more table prefix y x ys xs s r (sym head) h)
    ]

-- no line follows the last byte, nor bytes that are no line
none_after : (table : Table) (prefix : Prefix) (more : List Field) (s : List ℕ) → AreTableLines table prefix [] more s → s ≡ []
none_after table prefix [] s e = sym e
none_after table prefix (x ∷ more) s are = absurd (no_line table prefix x are.0 are.1)

none_of : (table : Table) (prefix : Prefix) (more : List Field) (s : List ℕ) → AreTableLines table prefix [] more s → more ≡ []
none_of table prefix [] s e = refl
none_of table prefix (x ∷ more) s are = absurd (no_line table prefix x are.0 are.1)

no_fault : (table : Table) (prefix : Prefix) (more : List Field) (r s : List ℕ) (f : SectionError) → table_line_at table prefix r ≡ Err f → AreTableLines table prefix r more s → s ≡ r
no_fault table prefix [] r s f e are = sym are
no_fault table prefix (x ∷ more) r s f e are = absurd (ok_not (table_line_at table prefix r) (x, are.0) f are.1 e)

empty_fault : (r : List ℕ) → 0 < length r → r ≡ [] → ⊥
empty_fault r l e = omega (arith, l, ap length e)

-- a line that is too much
too_much : (limit : ℕ) (table : Table) (prefix : Prefix) (xs ys more : List Field) (r s : List ℕ) (field : Field) (behind : List ℕ) → list_size xs ≤ limit → limit < list_size ys + field_size field → table_line_at table prefix r ≡ Ok (field, behind) → AreTableLines table prefix r more s → xs ≡ ys ++ more → (s ≡ r → ⊥) → ⊥
too_much limit table prefix xs ys [] r s field behind fits over is are e h = h (sym are)
too_much limit table prefix xs ys (x ∷ more) r s field behind fits over is are e h =
    let same : x ≡ field = ap (λ (p : Field × List ℕ). p.0) (ok_line (table_line_at table prefix r) (x, are.0) (field, behind) are.1 is) in
    omega (arith, fits, over, ap list_size e, sum_by-append field_size ys (x ∷ more), sum_by-append field_size (x ∷ []) more, ap field_size same, one_size x more)
  where
    one_size : (x : Field) (more : List Field) → list_size (x ∷ more) ≡ field_size x + list_size more
    one_size x more = let one : list_size (x ∷ []) ≡ field_size x = omega arith in omega (arith, sum_by-append field_size (x ∷ []) more, one)

-- ---- two results of the lines of one prefix

reached : (limit : ℕ) (table : Table) (prefix : Prefix) (xs ys : List Field) (r s : List ℕ) → Reaches limit table prefix xs r → Reaches limit table prefix ys s → Further table prefix xs ys r s ⊎ Further table prefix ys xs s r
reached limit table prefix xs ys r s a b = compare table prefix xs ys prefix.lines r s a.are b.are

fields_same : (limit : ℕ) (table : Table) (prefix : Prefix) (xs ys : List Field) → Reaches limit table prefix xs [] → Reaches limit table prefix ys [] → xs ≡ ys
fields_same limit table prefix xs ys a b = elim (reached limit table prefix xs ys [] [] a b) [
  | inl h ↦ sym (h.is ∙ ap (λ (l : List Field). xs ++ l) (none_of table prefix h.more [] h.are) ∙ append-nil xs)
  | inr h ↦ h.is ∙ ap (λ (l : List Field). ys ++ l) (none_of table prefix h.more [] h.are) ∙ append-nil ys
]

no_faulty : (limit : ℕ) (table : Table) (prefix : Prefix) (xs : List Field) (f : SectionError) → Reaches limit table prefix xs [] → HasFaultyLine limit table prefix f → ⊥
no_faulty limit table prefix xs f a b = elim (reached limit table prefix xs b.fields [] b.rest a b.reached) [
  | inl h ↦ empty_fault b.rest b.some (none_after table prefix h.more b.rest h.are)
  | inr h ↦ empty_fault b.rest b.some (sym (no_fault table prefix h.more b.rest [] f b.is h.are))
]

no_excess : (limit : ℕ) (table : Table) (prefix : Prefix) (xs : List Field) (s : List ℕ) → Reaches limit table prefix xs s → (b : ExceedsLimit limit table prefix) → (s ≡ b.rest → ⊥) → ((more : List Field) → AreTableLines table prefix s more b.rest → s ≡ b.rest) → ⊥
no_excess limit table prefix xs s a b differs stops = elim (reached limit table prefix xs b.fields s b.rest a b.reached) [
  | inl h ↦ differs (stops h.more h.are)
  | inr h ↦ too_much limit table prefix xs b.fields h.more b.rest s b.field b.behind a.fits b.exceeds b.is h.are h.is differs
]

full_excess : (limit : ℕ) (table : Table) (prefix : Prefix) (xs : List Field) → Reaches limit table prefix xs [] → ExceedsLimit limit table prefix → ⊥
full_excess limit table prefix xs a b = no_excess limit table prefix xs [] a b (λ e. no_line table prefix b.field b.behind (subst (λ (l : List ℕ). table_line_at table prefix l ≡ Ok (b.field, b.behind)) (sym e) b.is)) (λ more are. sym (none_after table prefix more b.rest are))

faulty_excess : (limit : ℕ) (table : Table) (prefix : Prefix) (f : SectionError) → HasFaultyLine limit table prefix f → ExceedsLimit limit table prefix → ⊥
faulty_excess limit table prefix f a b = no_excess limit table prefix a.fields a.rest a.reached b (λ e. ok_not (table_line_at table prefix b.rest) (b.field, b.behind) f b.is (subst (λ (l : List ℕ). table_line_at table prefix l ≡ Err f) e a.is)) (λ more are. sym (no_fault table prefix more a.rest b.rest f a.is are))

faults_same : (limit : ℕ) (table : Table) (prefix : Prefix) (f g : SectionError) → HasFaultyLine limit table prefix f → HasFaultyLine limit table prefix g → f ≡ g
faults_same limit table prefix f g a b = elim (reached limit table prefix a.fields b.fields a.rest b.rest a.reached b.reached) [
  | inl h ↦ err_is (table_line_at table prefix a.rest) f g a.is (subst (λ (l : List ℕ). table_line_at table prefix l ≡ Err g) (no_fault table prefix h.more a.rest b.rest f a.is h.are) b.is)
  | inr h ↦ err_is (table_line_at table prefix b.rest) f g (subst (λ (l : List ℕ). table_line_at table prefix l ≡ Err f) (no_fault table prefix h.more b.rest a.rest g b.is h.are) a.is) b.is
]

-- memory was wanting for a line
abbrev pub LacksLine : Result (List Field) TableSectionError → Type 0
LacksLine (Err Memory) = Unit {0}
LacksLine other = ⊥

lines_same : (limit : ℕ) (table : Table) (prefix : Prefix) (x y : Result (List Field) TableSectionError) → (LacksLine x → ⊥) → (LacksLine y → ⊥) → LinesGive limit table prefix x → LinesGive limit table prefix y → x ≡ y
lines_same limit table prefix (Ok xs) (Ok ys) m n a b = ap (λ (l : List Field). Ok l) (fields_same limit table prefix xs ys a b)
lines_same limit table prefix (Ok xs) (Err (Section f)) m n a b = absurd (no_faulty limit table prefix xs f a b)
lines_same limit table prefix (Ok xs) (Err TooLarge) m n a b = absurd (full_excess limit table prefix xs a b)
lines_same limit table prefix (Err (Section f)) (Ok ys) m n a b = absurd (no_faulty limit table prefix ys f b a)
lines_same limit table prefix (Err (Section f)) (Err (Section g)) m n a b = ap (λ (e : SectionError). Err (Section e)) (faults_same limit table prefix f g a b)
lines_same limit table prefix (Err (Section f)) (Err TooLarge) m n a b = absurd (faulty_excess limit table prefix f a b)
lines_same limit table prefix (Err TooLarge) (Ok ys) m n a b = absurd (full_excess limit table prefix ys b a)
lines_same limit table prefix (Err TooLarge) (Err (Section g)) m n a b = absurd (faulty_excess limit table prefix g b a)
lines_same limit table prefix (Err TooLarge) (Err TooLarge) m n a b = refl
lines_same limit table prefix (Err Memory) y m n a b = absurd (m tt)
lines_same limit table prefix x (Err Memory) m n a b = absurd (n tt)

-- ---- two results of one section

prefix_same : (o : Result Prefix SectionError) (x y : Prefix) → o ≡ Ok x → o ≡ Ok y → x ≡ y
prefix_same o x y e f = cc

refusal_same : (o : Result Prefix SectionError) (x y : SectionError) → o ≡ Err x → o ≡ Err y → x ≡ y
refusal_same o x y e f = cc

prefix_not : (o : Result Prefix SectionError) (x : Prefix) (f : SectionError) → o ≡ Ok x → o ≡ Err f → ⊥
prefix_not o x f e g = cc

not_both : (b : Bool) → b ≡ true → b ≡ false → ⊥
not_both b e f = cc

-- the lines of a section have one prefix
record Both (limit : ℕ) (table : Table) (r q : ℕ) (x y : Result (List Field) TableSectionError) : Type 0 where
  prefix : Prefix
  one : LinesGive limit table prefix x
  other : LinesGive limit table prefix y
  same : r ≡ q

both : (limit : ℕ) (table : Table) (section : List ℕ) (r q : ℕ) (x y : Result (List Field) TableSectionError) → HasLinesIn limit table section r x → HasLinesIn limit table section q y → Both limit table r q x y
both limit table section r q x y a b =
    let is : b.prefix ≡ a.prefix = prefix_same (prefix_at table section) b.prefix a.prefix b.is a.is in
    record {
      prefix = a.prefix;
      one = a.give;
      other = subst (λ (p : Prefix). LinesGive limit table p y) is b.give;
      same = a.needs ∙ sym (ap (λ (p : Prefix). p.required) is) ∙ sym b.needs;
    }

same_lines : (limit : ℕ) (table : Table) (section : List ℕ) (r q : ℕ) (x y : Result (List Field) TableSectionError) → (LacksLine x → ⊥) → (LacksLine y → ⊥) → HasLinesIn limit table section r x → HasLinesIn limit table section q y → x ≡ y
same_lines limit table section r q x y m n a b =
    let h : Both limit table r q x y = both limit table section r q x y a b in
    lines_same limit table h.prefix x y m n h.one h.other

blocked_not : (limit : ℕ) (table : Table) (section : List ℕ) (r q : ℕ) (x : Result (List Field) TableSectionError) → HasLinesIn limit table section r x → IsBlockedIn table section q → ⊥
blocked_not limit table section r q x a b =
    not_both (is_blocked table b.prefix) b.blocked (subst (λ (p : Prefix). is_blocked table p ≡ false) (prefix_same (prefix_at table section) a.prefix b.prefix a.is b.is) a.free)

abbrev all_read : List Field → Result (List Field) TableSectionError
all_read fields = Ok fields

ok_not_err : (fields : List Field) (e : TableSectionError) → all_read fields ≡ Err e → ⊥
ok_not_err fields e is = cc is

-- memory was wanting
abbrev pub LacksMemory : Result Decoded TableSectionError → Type 0
LacksMemory (Err Memory) = Unit {0}
LacksMemory other = ⊥

fault_same : (limit : ℕ) (table : Table) (section : List ℕ) (f g : SectionError) → TableGives limit table section (Err (Section f)) → TableGives limit table section (Err (Section g)) → f ≡ g
fault_same limit table section f g (inl a) (inl b) = refusal_same (prefix_at table section) f g a b
fault_same limit table section f g (inl a) (inr b) = absurd (prefix_not (prefix_at table section) b.1.prefix f b.1.is a)
fault_same limit table section f g (inr a) (inl b) = absurd (prefix_not (prefix_at table section) a.1.prefix g a.1.is b)
fault_same limit table section f g (inr a) (inr b) =
    let h : Both limit table a.0 b.0 (Err (Section f)) (Err (Section g)) = both limit table section a.0 b.0 (Err (Section f)) (Err (Section g)) a.1 b.1 in
    faults_same limit table h.prefix f g h.one h.other

fault_not : (limit : ℕ) (table : Table) (section : List ℕ) (r : ℕ) (f : SectionError) (x : Result (List Field) TableSectionError) → (LacksLine x → ⊥) → (x ≡ Err (Section f) → ⊥) → HasLinesIn limit table section r x → TableGives limit table section (Err (Section f)) → ⊥
fault_not limit table section r f x m n a (inl b) = prefix_not (prefix_at table section) a.prefix f a.is b
fault_not limit table section r f x m n a (inr b) = n (same_lines limit table section r b.0 x (Err (Section f)) m (λ l. l) a b.1)

blocked_fault : (limit : ℕ) (table : Table) (section : List ℕ) (r : ℕ) (f : SectionError) → IsBlockedIn table section r → TableGives limit table section (Err (Section f)) → ⊥
blocked_fault limit table section r f a (inl b) = prefix_not (prefix_at table section) a.prefix f a.is b
blocked_fault limit table section r f a (inr b) = blocked_not limit table section b.0 r (Err (Section f)) b.1 a

abbrev section_read : List Field → ℕ → Result Decoded TableSectionError
section_read fields required = Ok (Fields fields required)

fields_are : (limit : ℕ) (table : Table) (section : List ℕ) (xs ys : List Field) (r q : ℕ) → HasLinesIn limit table section r (Ok xs) → HasLinesIn limit table section q (Ok ys) → section_read xs r ≡ section_read ys q
fields_are limit table section xs ys r q a b =
    let h : Both limit table r q (Ok xs) (Ok ys) = both limit table section r q (Ok xs) (Ok ys) a b in
    ap (λ (n : ℕ). Ok (Fields xs n)) h.same ∙ ap (λ (l : List Field). Ok (Fields l q)) (fields_same limit table h.prefix xs ys h.one h.other)

pub read_same : (limit : ℕ) (table : Table) (section : List ℕ) (x y : Result Decoded TableSectionError) → (LacksMemory x → ⊥) → (LacksMemory y → ⊥) → TableGives limit table section x → TableGives limit table section y → x ≡ y
read_same limit table section (Ok (Fields xs r)) (Ok (Fields ys q)) m n a b = fields_are limit table section xs ys r q a b
read_same limit table section (Ok (Fields xs r)) (Ok (Blocked q)) m n a b = absurd (blocked_not limit table section r q (Ok xs) a b)
read_same limit table section (Ok (Fields xs r)) (Err (Section f)) m n a b = absurd (fault_not limit table section r f (Ok xs) (λ l. l) (ok_not_err xs (Section f)) a b)
read_same limit table section (Ok (Fields xs r)) (Err TooLarge) m n a b = absurd (ok_not_err xs TooLarge (same_lines limit table section r b.0 (Ok xs) (Err TooLarge) (λ l. l) (λ l. l) a b.1))
read_same limit table section (Ok (Blocked r)) (Ok (Fields ys q)) m n a b = absurd (blocked_not limit table section q r (Ok ys) b a)
read_same limit table section (Ok (Blocked r)) (Ok (Blocked q)) m n a b = ap (λ (n : ℕ). Ok (Blocked n)) (a.needs ∙ ap (λ (p : Prefix). p.required) (prefix_same (prefix_at table section) a.prefix b.prefix a.is b.is) ∙ sym b.needs)
read_same limit table section (Ok (Blocked r)) (Err (Section f)) m n a b = absurd (blocked_fault limit table section r f a b)
read_same limit table section (Ok (Blocked r)) (Err TooLarge) m n a b = absurd (blocked_not limit table section b.0 r (Err TooLarge) b.1 a)
read_same limit table section (Err (Section f)) (Ok (Fields ys q)) m n a b = absurd (fault_not limit table section q f (Ok ys) (λ l. l) (ok_not_err ys (Section f)) b a)
read_same limit table section (Err (Section f)) (Ok (Blocked q)) m n a b = absurd (blocked_fault limit table section q f b a)
read_same limit table section (Err (Section f)) (Err (Section g)) m n a b = ap (λ (e : SectionError). Err (Section e)) (fault_same limit table section f g a b)
read_same limit table section (Err (Section f)) (Err TooLarge) m n a b = absurd (fault_not limit table section b.0 f (Err TooLarge) (λ l. l) (λ e. cc e) b.1 a)
read_same limit table section (Err TooLarge) (Ok (Fields ys q)) m n a b = absurd (ok_not_err ys TooLarge (same_lines limit table section q a.0 (Ok ys) (Err TooLarge) (λ l. l) (λ l. l) b a.1))
read_same limit table section (Err TooLarge) (Ok (Blocked q)) m n a b = absurd (blocked_not limit table section a.0 q (Err TooLarge) a.1 b)
read_same limit table section (Err TooLarge) (Err (Section g)) m n a b = absurd (fault_not limit table section a.0 g (Err TooLarge) (λ l. l) (λ e. cc e) a.1 b)
read_same limit table section (Err TooLarge) (Err TooLarge) m n a b = refl
read_same limit table section (Err Memory) y m n a b = absurd (m tt)
read_same limit table section x (Err Memory) m n a b = absurd (n tt)
