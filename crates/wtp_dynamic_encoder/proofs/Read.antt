-- What an encoder sends is read.
use Rattle.std.proofs.Common.{◌≡◌, ◌⊎◌, ℕ, zero, suc, ◌^◌, ◌<◌, ◌≤◌, inl, inr, map, List, [], ◌∷◌, ◌++◌, sym, ◌∙◌, ap, subst, arith, ne_eqb}
use Rattle.std.specs.List.{flat_map}
use Rattle.wtp_qpack.specs.Field.{Field}
use Rattle.wtp_dynamic.specs.Table.{Table, Later, insert_count, table_size}
use Rattle.wtp_dynamic.specs.Instruction.{Instruction}
use Rattle.wtp_dynamic.specs.Stream as encoder_stream
use Rattle.wtp_dynamic.specs.Writing.{written}
use Rattle.wtp_dynamic.specs.Plans.{Plan, StaticField, TableField, StaticName, TableName, NewName}
use Rattle.wtp_dynamic.specs.Pair.{IsKept, AreKept, section_of}
use Rattle.wtp_dynamic.specs.Answer.{HasFields}
use Rattle.wtp_dynamic.specs.EncoderState.{Encoder, Owes, IsOpen}
use Rattle.wtp_dynamic.proofs.Written.{orders_again}
use Rattle.wtp_dynamic.proofs.Paired.{pair_reads}
use Rattle.wtp_dynamic.proofs.Owed.{owed_reads}
use Rattle.wtp_dynamic_encoder.specs.declared.proposal.Policy.{Policy}
use Rattle.wtp_dynamic_encoder.specs.declared.proposal.Proposal.{Proposal}
use Rattle.wtp_dynamic_encoder.specs.Acknowledging.{Ledger}
use Rattle.wtp_dynamic_encoder.specs.Choosing.{field_of}
use Rattle.wtp_dynamic_encoder.specs.Encoding.{Ordered, IsSent, needs, needed, base_for, sent_of}

pub orders_read : (old new : Table) (before after rest : List ℕ) → Ordered old new before after
    → (bytes : List ℕ) × (after ≡ before ++ bytes) × (instructions : List Instruction) × encoder_stream.Leads instructions old (bytes ++ rest) new rest
orders_read old new before after rest ordered =
    let read = orders_again ordered.orders old new rest ordered.carries in
    (flat_map written ordered.orders, ordered.bytes, read.0, read.1)

-- lines that need nothing refer to no entry
one_kept : (t : Table) (plan : Plan) → needs plan ≡ 0 → IsKept t plan
one_kept t (StaticField index) none = tt
one_kept t (TableField place) none = absurd (omega (arith, none))
one_kept t (StaticName never index value) none = tt
one_kept t (TableName never place value) none = absurd (omega (arith, none))
one_kept t (NewName never name value) none = tt

none_kept : (t : Table) (plans : List Plan) → needed plans ≡ 0 → AreKept t plans
none_kept t [] none = tt
none_kept t (plan ∷ plans) none = (one_kept t plan (omega (arith, none)), none_kept t plans (omega (arith, none)))

base_few : (required count : ℕ) → count < 2 ^ 62 → base_for required count < 2 ^ 64
base_few zero count few = omega arith
base_few (suc n) count few = rw (ne_eqb (suc n) 0 (omega arith)) (omega arith)

pub sent_reads : (stream most : ℕ) (policy : Policy) (proposals : List Proposal) (written : Table) (before after : Ledger) (section : List ℕ) (sent : IsSent stream most policy proposals written before after [] section) (now : Encoder) (decoder : Table)
    → Owes now → (needed sent.plans ≡ 0) ⊎ IsOpen (sent_of stream sent.plans sent.lowest) now.sections → Later written now.table → Later decoder now.table → table_size now.table.live ≤ now.table.limit
    → now.known ≤ insert_count decoder → needed sent.plans ≤ insert_count decoder → insert_count written < 2 ^ 62 → decoder.limit < 2 ^ 62 → HasFields decoder section (map field_of proposals)
sent_reads stream most policy proposals written before after section sent now decoder owes state later behind fits known free small limited =
    let limits : written.limit ≡ decoder.limit = sym later.limit ∙ behind.limit in
    let bytes : section_of decoder.limit (needed sent.plans) base sent.plans ≡ section = ap (λ (n : ℕ). section_of n (needed sent.plans) base sent.plans) (sym limits) ∙ sym sent.bytes in
    subst (λ (z : List ℕ). HasFields decoder z fields) bytes (by_state state)
  where
    fields : List Field
    fields = map field_of proposals

    base : ℕ
    base = base_for (needed sent.plans) (insert_count written)

    base_small : base < 2 ^ 64
    base_small = base_few (needed sent.plans) (insert_count written) small

    by_state : (needed sent.plans ≡ 0) ⊎ IsOpen (sent_of stream sent.plans sent.lowest) now.sections → HasFields decoder (section_of decoder.limit (needed sent.plans) base sent.plans) fields
    by_state (inl none) =
        pair_reads written now.table decoder (needed sent.plans) base sent.plans fields
        (record {
          later = later;
          behind = behind;
          fits = fits;
          known = omega (arith, owes.received);
          counted = sent.few;
          latest = inl none;
          kept = none_kept now.table sent.plans none;
        })
        sent.are free base_small (omega (arith, small, sent.few)) limited
    by_state (inr still) =
        owed_reads now written decoder (sent_of stream sent.plans sent.lowest) base sent.plans fields owes still sent.from later behind fits known sent.few sent.are free base_small (omega (arith, small, sent.few)) limited
