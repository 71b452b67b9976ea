use Rattle.std.proofs.Common.{◌++◌, ap, ◌∙◌}
use Rattle.wtp_dynamic.specs.Table.{Table}
use Rattle.wtp_dynamic.specs.Stored.{entries_bytes}
use Rattle.wtp_dynamic_encoder.specs.Encoding.{State}
use Rattle.wtp_dynamic_encoder.specs.Stored.{sections_bytes}
use Rattle.wtp_dynamic_encoder.proofs.Remaking.{few_written}
use Rattle.wtp_dynamic_encoder.proofs.encoder.QpackEncoder.to_bytes.Goals as goal

pub returns-clause-size : goal.returns-clause-size
returns-clause-size c = few_written c.args.self.now c.head.result c.bounds.result c.new-out.result.items c.put.new.out.items c.put-2.new.out.items c.held_part-held.result.now c.extend_from_slice.new.self.items c.put_sections.new.out.items c.put_entries.new.out.items
    c.head.ensures.is c.bounds.ensures.is c.new-out.ensures.items c.in_ok-put.ensures c.in_ok-put-2.ensures c.held_part-held.ensures.is c.in_ok-extend_from_slice.ensures.items
    (c.in_ok-put_sections.ensures.bytes ∙ ap (λ (s : State). c.extend_from_slice.new.self.items ++ sections_bytes s.ledger.1) c.self.view_is)
    (c.in_ok-put_entries.ensures ∙ ap (λ (t : Table). c.put_sections.new.out.items ++ entries_bytes t.live) (c.table-table.ensures ∙ ap (λ (s : State). s.table) c.self.view_is))
    c.held_part-held.ensures.few c.head.ensures.size
