use Rattle.std.proofs.Common.{ap, ◌∙◌, arith}
use Rattle.wtp_dynamic.proofs.Storing.{one_more, none_left}
use Rattle.wtp_dynamic.proofs.stored.put_entries.Goals as goal
use Rattle.wtp_dynamic.proofs.stored.put_entries.Goals.{in-Some+in_ok-put_entry, in_default}

pub loop-place-preserved : goal.loop-place-preserved
loop-place-preserved c =
    elim c.match-get.branch [
      | in-Some+in_ok-put_entry w ↦ record {
        low = omega (arith, c.loop-place.invariant.low);
        bytes = one_more c.args.table.now c.loop-place.place (w.in-Some.name.now, w.in-Some.value.now) c.args.out.now.items c.loop-place.out.items c.match-get.out.items c.loop-place.invariant.low w.in-Some.ensures c.loop-place.invariant.bytes (ap (λ x. x.items) w.out-is ∙ w.in_ok-put_entry.ensures);
      }
      | in_default w ↦ absurd (none_left c.args.table.now c.loop-place.place c.loop-place.invariant.low (omega arith) w.in_default.ensures)
    ]
