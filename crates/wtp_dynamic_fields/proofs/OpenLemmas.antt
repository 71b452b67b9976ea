-- Sections that are opened, and those that are not.
use Rattle.std.proofs.Common.{◌≡◌, ◌≢◌, ◌⊎◌, inl, inr, ℕ, ◌+◌, ◌-◌, ◌^◌, nat_lt, nat_le, Bool, true, false, List, refl, ◌∙◌, ap, subst, Option, Some, None, Result, Ok, Err}
use Rattle.wtp_huffman.proofs.Chosen.{chosen}
use Rattle.wtp_qpack.specs.declared.qpack.DecodingError.{DecodingError}
use Rattle.wtp_qpack.specs.Integer.{integer_at}
use Rattle.wtp_qpack.specs.StringLiteral.{flag_above}
use Rattle.wtp_qpack.proofs.StringReading.{int_not_memory}
use Rattle.wtp_dynamic.specs.declared.error.SectionError.{SectionError}
use Rattle.wtp_dynamic.specs.declared.error.SectionError.TheVariants as error
use Rattle.wtp_dynamic.specs.Chain.{◌>>=◌, or_fault}
use Rattle.wtp_dynamic.specs.Faults.{section_fault, of_section}
use Rattle.wtp_dynamic.specs.Table.{Table, insert_count}
use Rattle.wtp_dynamic.specs.InsertCount.{most_entries, count_of}
use Rattle.wtp_dynamic.specs.Section.{Prefix, prefix_at, required_by, base_of, is_blocked}
use Rattle.wtp_dynamic.proofs.Chains.{memory_only}
use Rattle.wtp_dynamic_decoder.specs.Decoder.{Decoder, IsOpened, Refuses}
use Rattle.wtp_dynamic_fields.specs.declared.section.TableSectionError.{TableSectionError}
use Rattle.wtp_dynamic_fields.specs.declared.section.TableSectionError.TheVariants.{Section, TooLarge, Memory}
use Rattle.wtp_dynamic_fields.specs.Lists.{list_error, LinesGive}
use Rattle.wtp_dynamic_fields.specs.Reading.{SectionGives, TableGives}

-- ---- the fault of a prefix is not a failed allocation

step_err : {A B : Type 0} (r : Result A SectionError) (f : A → Result B SectionError) (d : SectionError) → (r >>= f) ≡ Err d → (r ≡ Err d) ⊎ ((x : A) × (r ≡ Ok x) × (f x ≡ Err d))
step_err (Ok x) f d e = inr (x, refl, e)
step_err (Err x) f d e = inl (cc e)

number_not_memory : (n : ℕ) (bytes : List ℕ) → of_section (integer_at n bytes) ≡ Err error.Memory → ⊥
number_not_memory n bytes e = by_result (integer_at n bytes) refl e
  where
    by_result : (r : Result (ℕ × List ℕ) DecodingError) → integer_at n bytes ≡ r → of_section r ≡ Err error.Memory → ⊥
    by_result (Ok x) is e = cc e
    by_result (Err f) is e =
        let same : section_fault f ≡ error.Memory = cc e in
        int_not_memory n bytes (is ∙ ap Err (memory_only f same))

count_not_memory : (count : Option ℕ) → or_fault error.InvalidInsertCount count ≡ Err error.Memory → ⊥
count_not_memory None e = cc e
count_not_memory (Some count) e = cc e

base_not_memory : (sign : Bool) (required delta : ℕ) → base_of sign required delta ≡ Err error.Memory → ⊥
base_not_memory true required delta e =
    elim (chosen (nat_lt delta required) (Ok (required - delta - 1)) (Err error.NegativeBase) (Err error.Memory) e) [
      | inl less ↦ cc less.1
      | inr more ↦ cc more.1
    ]
base_not_memory false required delta e =
    elim (chosen (nat_le (2 ^ 64) (required + delta)) (Err error.IntegerOverflow) (Ok (required + delta)) (Err error.Memory) e) [
      | inl over ↦ cc over.1
      | inr within ↦ cc within.1
    ]

pub prefix_not_memory : (table : Table) (bytes : List ℕ) → prefix_at table bytes ≡ Err error.Memory → ⊥
unfolding prefix_at
prefix_not_memory table bytes e = elim (step_err (of_section (integer_at 8 bytes)) (λ (count : ℕ × List ℕ). required_by table count.0 >>= λ required. (of_section (integer_at 7 count.1) >>= λ (delta : ℕ × List ℕ). (base_of (flag_above 7 count.1) required delta.0 >>= λ base. Ok (record { required = required; base = base; lines = delta.1 })))) error.Memory e) [
  | inl bad ↦ number_not_memory 8 bytes bad
  | inr (count, is_count, after_count) ↦ elim (step_err (required_by table count.0) (λ required. (of_section (integer_at 7 count.1) >>= λ (delta : ℕ × List ℕ). (base_of (flag_above 7 count.1) required delta.0 >>= λ base. Ok (record { required = required; base = base; lines = delta.1 })))) error.Memory after_count) [
    | inl bad ↦ count_not_memory (count_of (most_entries table.limit) (insert_count table) count.0) bad
    | inr (required, is_required, after_required) ↦ elim (step_err (of_section (integer_at 7 count.1)) (λ (delta : ℕ × List ℕ). (base_of (flag_above 7 count.1) required delta.0 >>= λ base. Ok (record { required = required; base = base; lines = delta.1 }))) error.Memory after_required) [
      | inl bad ↦ number_not_memory 7 count.1 bad
      | inr (delta, is_delta, after_delta) ↦ elim (step_err (base_of (flag_above 7 count.1) required delta.0) (λ base. Ok (record { required = required; base = base; lines = delta.1 })) error.Memory after_delta) [
        | inl bad ↦ base_not_memory (flag_above 7 count.1) required delta.0 bad
        | inr (base, is_base, after_base) ↦ cc after_base
      ]
    ]
  ]
]

-- ---- the result of a section

error_given : (limit stream : ℕ) (section : List ℕ) (old new : Decoder) (prefix : Prefix) (e : TableSectionError) → IsOpened stream section old new prefix → LinesGive limit old.table prefix (Err e) → SectionGives limit stream section old new (Err e)
error_given limit stream section old new prefix (Section fault) opened give = inr (prefix.required, record { prefix = prefix; opened = opened; needs = refl; give = give })
error_given limit stream section old new prefix TooLarge opened give = (prefix.required, record { prefix = prefix; opened = opened; needs = refl; give = give })
error_given limit stream section old new prefix Memory opened give = inr (prefix.required, record { prefix = prefix; opened = opened; needs = refl; give = give })

-- its lines have an error, by the table of the decoder after it was opened
pub error_after : (limit stream : ℕ) (section : List ℕ) (old new : Decoder) (table : Table) (prefix : Prefix) (e : TableSectionError) → IsOpened stream section old new prefix → table ≡ new.table → LinesGive limit table prefix (Err e) → SectionGives limit stream section old new (Err e)
error_after limit stream section old new table prefix e opened is give =
    let same : table ≡ old.table = is ∙ ap (λ (d : Decoder). d.table) opened.same in
    error_given limit stream section old new prefix e opened (subst (λ (t : Table). LinesGive limit t prefix (Err e)) same give)

refused_by : (limit stream : ℕ) (section : List ℕ) (old new : Decoder) (fault : SectionError) → fault ≢ error.Memory → Refuses stream section old new fault → SectionGives limit stream section old new (Err (Section fault))
refused_by limit stream section old new fault other (inl is) = inl (inl is)
refused_by limit stream section old new fault other (inr (inl many)) = inl (inr many)
refused_by limit stream section old new fault other (inr (inr (bad, kept))) = absurd (other bad)

-- it was not opened
pub refusal_given : (limit stream : ℕ) (section : List ℕ) (old new : Decoder) (fault : SectionError) → Refuses stream section old new fault → SectionGives limit stream section old new (Err (list_error fault))
refusal_given limit stream section old new error.UnexpectedEnd refuses = refused_by limit stream section old new error.UnexpectedEnd (λ bad. cc bad) refuses
refusal_given limit stream section old new error.IntegerOverflow refuses = refused_by limit stream section old new error.IntegerOverflow (λ bad. cc bad) refuses
refusal_given limit stream section old new error.InvalidString refuses = refused_by limit stream section old new error.InvalidString (λ bad. cc bad) refuses
refusal_given limit stream section old new error.IndexNotFound refuses = refused_by limit stream section old new error.IndexNotFound (λ bad. cc bad) refuses
refusal_given limit stream section old new error.EntryNotFound refuses = refused_by limit stream section old new error.EntryNotFound (λ bad. cc bad) refuses
refusal_given limit stream section old new error.InvalidInsertCount refuses = refused_by limit stream section old new error.InvalidInsertCount (λ bad. cc bad) refuses
refusal_given limit stream section old new error.NegativeBase refuses = refused_by limit stream section old new error.NegativeBase (λ bad. cc bad) refuses
refusal_given limit stream section old new error.TooManyBlocked refuses = refused_by limit stream section old new error.TooManyBlocked (λ bad. cc bad) refuses
refusal_given limit stream section old new error.Memory (inl (same, is)) = absurd (prefix_not_memory old.table section is)
refusal_given limit stream section old new error.Memory (inr (inl (named, many))) = cc named
refusal_given limit stream section old new error.Memory (inr (inr (named, kept))) = inl kept

-- ---- a table alone

-- the prefix has a fault
pub prefix_refused : (limit : ℕ) (table : Table) (section : List ℕ) (fault : SectionError) → prefix_at table section ≡ Err fault → TableGives limit table section (Err (list_error fault))
prefix_refused limit table section error.UnexpectedEnd is = inl is
prefix_refused limit table section error.IntegerOverflow is = inl is
prefix_refused limit table section error.InvalidString is = inl is
prefix_refused limit table section error.IndexNotFound is = inl is
prefix_refused limit table section error.EntryNotFound is = inl is
prefix_refused limit table section error.InvalidInsertCount is = inl is
prefix_refused limit table section error.NegativeBase is = inl is
prefix_refused limit table section error.TooManyBlocked is = inl is
prefix_refused limit table section error.Memory is = absurd (prefix_not_memory table section is)

-- the lines have an error
lines_error : (limit : ℕ) (table : Table) (section : List ℕ) (prefix : Prefix) (e : TableSectionError) → prefix_at table section ≡ Ok prefix → is_blocked table prefix ≡ false → LinesGive limit table prefix (Err e) → TableGives limit table section (Err e)
lines_error limit table section prefix (Section fault) is free give = inr (prefix.required, record { prefix = prefix; is = is; free = free; needs = refl; give = give })
lines_error limit table section prefix TooLarge is free give = (prefix.required, record { prefix = prefix; is = is; free = free; needs = refl; give = give })
lines_error limit table section prefix Memory is free give = (prefix.required, record { prefix = prefix; is = is; free = free; needs = refl; give = give })

pub error_there : (limit : ℕ) (table : Table) (section : List ℕ) (prefix : Prefix) (lines : Prefix × List ℕ) (rest : List ℕ) (e : TableSectionError) → prefix_at table section ≡ Ok prefix → is_blocked table prefix ≡ false → lines ≡ (prefix, rest) → LinesGive limit table lines.0 (Err e) → TableGives limit table section (Err e)
error_there limit table section prefix lines rest e is free same give = lines_error limit table section prefix e is free (subst (λ (x : Prefix × List ℕ). LinesGive limit table x.0 (Err e)) same give)
