use Rattle.std.proofs.Common.{length, ap, sym, ◌∙◌, arith, length-append}
use Rattle.wtp_qpack.specs.Field.{Field}
use Rattle.wtp_dynamic.specs.Table.{Table, table_size}
use Rattle.wtp_dynamic.proofs.Tables.{size_push}
use Rattle.wtp_dynamic.proofs.Storing.{no_entry, no_fit, taken_more}
use Rattle.wtp_dynamic.specs.Stored.{entries_bytes}
use Rattle.std.proofs.Common.{◌++◌, ◌∷◌, [], List, ℕ}
use Rattle.wtp_dynamic.proofs.stored.take_table.Goals as goal

pub returns-in-Ok-None : goal.returns-in-Ok-None
returns-in-Ok-None c = no_entry c.args.bytes.now c.loop-count.rest.now c.loop-count.table.live c.args.head.now.count c.args.head.now.capacity c.loop-count.invariant.bytes
    (omega arith) (omega arith) (omega (arith, c.requires.limit, c.requires.capacity)) (rw c.in-Ok-None.field-0-is at c.in-Ok-None.ensures)

pub returns-then-not-has_room : goal.returns-then-not-has_room
returns-then-not-has_room c =
    let found = rw c.in-Ok-Some.field-0-is at c.in-Ok-Some.ensures in
    no_fit c.args.bytes.now c.loop-count.rest.now c.in-Ok-Some.found.1.now c.loop-count.table.live c.in-Ok-Some.found.0 c.args.head.now.count c.args.head.now.capacity c.loop-count.invariant.bytes
    (omega arith) (omega arith) (omega (arith, c.requires.limit, c.requires.capacity)) found.1 found.0 (omega (arith, c.if-not-has_room.ensures))

pub loop-count-preserved : goal.loop-count-preserved
loop-count-preserved c =
    let e = c.in_ok-append.ensures in
    let found = rw c.in-Ok-Some.field-0-is at c.in-Ok-Some.ensures in
    record {
      limit = ap (λ (t : Table). t.limit) e ∙ c.loop-count.invariant.limit;
      capacity = ap (λ (t : Table). t.capacity) e ∙ c.loop-count.invariant.capacity;
      dropped = ap (λ (t : Table). t.dropped) e ∙ c.loop-count.invariant.dropped;
      size = omega (arith, ap (λ (t : Table). table_size t.live) e, ap (λ (t : Table). t.capacity) e, size_push c.loop-count.table.live c.in-Ok-Some.found.0, c.if-not-has_room.ensures);
      count = ap (λ (t : Table). length t.live) e ∙ length-append c.loop-count.table.live (c.in-Ok-Some.found.0 ∷ []) ∙ omega (arith, c.loop-count.invariant.count);
      most = omega arith;
      bytes = taken_more c.args.bytes.now c.loop-count.rest.now c.in-Ok-Some.found.1.now c.loop-count.table.live c.in-Ok-Some.found.0 c.loop-count.invariant.bytes found.0
          ∙ ap (λ (t : Table). entries_bytes t.live ++ c.in-Ok-Some.found.1.now) (sym e);
    }

pub returns : goal.returns
returns c = record {
  limit = c.loop-count.invariant.limit;
  capacity = c.loop-count.invariant.capacity;
  dropped = c.loop-count.invariant.dropped;
  size = c.loop-count.invariant.size;
  count = omega (arith, c.loop-count.invariant.count);
  rest = c.loop-count.rest.now;
  entries = c.loop-count.invariant.bytes;
}
