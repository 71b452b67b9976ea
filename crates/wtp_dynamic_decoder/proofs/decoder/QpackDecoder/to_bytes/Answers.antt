use Rattle.std.proofs.Common.{◌++◌, ap, ◌∙◌, arith}
use Rattle.wtp_dynamic.specs.Table.{Table}
use Rattle.wtp_dynamic_decoder.specs.Decoder.{Decoder}
use Rattle.wtp_dynamic.specs.Stored.{entries_bytes}
use Rattle.wtp_dynamic_decoder.proofs.Kept.{few_written}
use Rattle.wtp_dynamic_decoder.proofs.decoder.QpackDecoder.to_bytes.Goals as goal

pub returns-clause-size : goal.returns-clause-size
returns-clause-size c = few_written c.args.self.now c.head.result c.new-out.result.items c.put.new.out.items c.held_part-held.result.now c.extend_from_slice.new.self.items c.put_entries.new.out.items
    c.head.ensures.is c.new-out.ensures.items c.in_ok-put.ensures c.held_part-held.ensures.is c.in_ok-extend_from_slice.ensures.items (c.in_ok-put_entries.ensures ∙ ap (λ (t : Table). c.extend_from_slice.new.self.items ++ entries_bytes t.live) (c.table-table.ensures ∙ ap (λ (d : Decoder). d.table) c.self.view_is)) c.held_part-held.ensures.few (omega (arith, c.head.ensures.size, c.head.ensures.capacity))

pub returns-clause-is : goal.returns-clause-is
returns-clause-is c = λ waiting most. record {
  limit = c.head.ensures.limit;
  capacity = c.head.ensures.capacity;
  size = c.head.ensures.size;
  count = c.head.ensures.count;
  known = c.head.ensures.known;
  cut = c.held_part-held.ensures.cut;
  waiting = waiting;
  most = most;
}
