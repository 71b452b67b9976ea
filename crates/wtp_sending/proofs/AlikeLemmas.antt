-- The lines of a field by an encoder, which refer to no entry of the dynamic table, and without one.
use Rattle.std.proofs.Common.{◌≡◌, ℕ, ◌+◌, ◌*◌, Bool, true, false, cond, List, ◌++◌, refl, sym, ◌∙◌, ap, Option, Some, None}
use Rattle.wtp_qpack.specs.Field.{Field}
use Rattle.wtp_qpack.specs.Integer.{shortest_int}
use Rattle.wtp_qpack.specs.Sensitive.{is_sensitive}
use Rattle.wtp_qpack.specs.StaticTable.{first_entry, FindsStatic}
use Rattle.wtp_qpack.specs.StringLiteral.{encoded_string}
use Rattle.wtp_qpack.specs.FieldLine.{literal_line, shortest_line}
use Rattle.wtp_qpack.proofs.ShortestLines.{line_found}
use Rattle.wtp_dynamic.specs.Plans.{Plan, StaticField, TableField, StaticName, TableName, NewName, planned_line, never_bit}
use Rattle.wtp_dynamic.specs.Table.{Table}
use Rattle.wtp_dynamic_encoder.specs.declared.proposal.Indexing.TheVariants.{ByPolicy, Without, Never}
use Rattle.wtp_dynamic_encoder.specs.declared.proposal.Proposal.{Proposal}
use Rattle.wtp_dynamic_encoder.specs.Choosing.{field_of, is_never, Chooses}
use Rattle.wtp_dynamic_encoder.specs.Encoding.{place_of}
use Rattle.wtp_messages.specs.Names.{is_one_of}
use Rattle.wtp_sending.specs.Indexing.{varying_names, indexing_of}

never_by : (sensitive varying : Bool) → is_never (cond sensitive Never (cond varying Without ByPolicy)) ≡ sensitive
never_by true varying = refl
never_by false true = refl
never_by false false = refl

-- a sensitive field is never indexed, and no other is
never_is : (field : Field) → is_never (indexing_of field) ≡ is_sensitive field
never_is field = never_by (is_sensitive field) (is_one_of varying_names field.0)

named_alike : (never : Bool) (index : ℕ) (field : Field) → shortest_int 4 (5 + 2 * never_bit never) index ++ encoded_string 7 0 field.1 ≡ literal_line never (Some index) field
named_alike true index field = refl
named_alike false index field = refl

new_alike : (never : Bool) (field : Field) → encoded_string 3 (2 + never_bit never) field.0 ++ encoded_string 7 0 field.1 ≡ literal_line never None field
new_alike true field = refl
new_alike false field = refl

literal_alike : (never : Bool) (field : Field) (o : Option ℕ) → FindsStatic field None → never ≡ is_sensitive field → first_entry field.0 ≡ o → literal_line never o field ≡ shortest_line field
literal_alike never field o none same first =
    ap (λ (b : Bool). literal_line b o field) same ∙ ap (λ (x : Option ℕ). literal_line (is_sensitive field) x field) (sym first) ∙ sym (line_found field None none)

pub line_alike : (table : Table) (low bound base : ℕ) (proposal : Proposal) (plan : Plan) → proposal.indexing ≡ indexing_of (field_of proposal) → Chooses table low bound proposal plan
    → place_of plan ≡ None → planned_line base plan ≡ shortest_line (field_of proposal)
line_alike table low bound base proposal (StaticField index) is found none = sym (line_found (field_of proposal) (Some index) found)
line_alike table low bound base proposal (TableField place) is chosen none = cc none
line_alike table low bound base proposal (StaticName never index value) is chosen none =
    let sensitive : never ≡ is_sensitive (field_of proposal) = chosen.1 ∙ ap is_never is ∙ never_is (field_of proposal) in
    ap (λ (v : List ℕ). shortest_int 4 (5 + 2 * never_bit never) index ++ encoded_string 7 0 v) chosen.2
    ∙ named_alike never index (field_of proposal)
    ∙ literal_alike never (field_of proposal) (Some index) chosen.0.0 sensitive chosen.3
line_alike table low bound base proposal (TableName never place value) is chosen none = cc none
line_alike table low bound base proposal (NewName never name value) is chosen none =
    let sensitive : never ≡ is_sensitive (field_of proposal) = chosen.1 ∙ ap is_never is ∙ never_is (field_of proposal) in
    ap (λ (f : Field). encoded_string 3 (2 + never_bit never) f.0 ++ encoded_string 7 0 f.1) chosen.2
    ∙ new_alike never (field_of proposal)
    ∙ literal_alike never (field_of proposal) None chosen.0.0 sensitive chosen.3

pub never_in_table : (table : Table) (low bound place : ℕ) (proposal : Proposal) → proposal.indexing ≡ indexing_of (field_of proposal) → is_sensitive (field_of proposal) ≡ true
    → ¬ Chooses table low bound proposal (TableField place)
never_in_table table low bound place proposal is sensitive chosen = cc (chosen.0, ap is_never is ∙ never_is (field_of proposal), sensitive)
