use Rattle.wtp_qpack.proofs.StaticLemmas.{first_found, field_found, field_absent}
use Rattle.wtp_qpack.proofs.qpack.static_table.entry_of.Goals as goal

pub field_at-index-requires : goal.field_at-index-requires
field_at-index-requires c = (first_found c.args.name.now c.args.first c.requires).3

pub returns-then-is_entry : goal.returns-then-is_entry
returns-then-is_entry c =
    field_found c.args.first c.args.name.now c.args.value.now c.field_at-index.result c.requires c.field_at-index.ensures (c.is_entry.ensures.0 c.if-is_entry.true)

pub returns-else-is_entry : goal.returns-else-is_entry
returns-else-is_entry c =
    field_absent c.args.first c.args.name.now c.args.value.now c.field_at-index.result c.requires c.field_at-index.ensures
    (λ found. cc (c.is_entry.ensures.1 found, c.if-is_entry.false))
