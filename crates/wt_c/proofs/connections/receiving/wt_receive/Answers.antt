use Rattle.std.proofs.Common.{◌≡◌, ◌==◌, ◌<◌, ◌≤◌, ◌^◌, not, length, refl, ap, inl, inr, rules}
use Rattle.wtp_webtransport.specs.Events.{Told, told_of}
use Rattle.wtp_webtransport.specs.Receiving.{Outcome}
use Rattle.wtp_webtransport.specs.Tables.{Call}
use Rattle.wtp_webtransport.proofs.KeptLemmas.{limits_kept}
use Rattle.wtp_webtransport.proofs.PlaceLemmas.{called_placed}
use Rattle.wt_c.specs.ConnectionCalls.{Gives}
use Rattle.wt_c.proofs.ReceivingLemmas.{event_is, leaves_is}
use Rattle.wt_c.proofs.TableLemmas.{leaves_table, none_put, table_fits, table_there}
use Rattle.wt_c.proofs.connections.receiving.wt_receive.Goals as goal

pub returns-in-NoMemory-clause-memory : goal.returns-in-NoMemory-clause-memory
returns-in-NoMemory-clause-memory g = λ _.
    let o : Outcome = (g.receive-received.result.consumed, told_of g.receive-received.result.event, g.receive-received.new.self, g.receive-received.new.stream) in
    let receives : Call g.args.connection.now.max_fields g.in-Ok.common g.in-Ok-stream.state g.args.bytes.now (not (g.args.fin == 0)) o = rw g.new-memory.ensures at g.receive-received.ensures.received in
    let gives : Gives g.args.connection.now g.args.stream.now g.args.held.now g.args.table.now g.args.bytes.now (not (g.args.fin == 0)) o = record { c = g.in-Ok.common; s = g.in-Ok-stream.state; connection_is = g.in-Ok.ensures.0; table_is = g.in-Ok.ensures.1; stream_is = g.in-Ok-stream.ensures; receives = receives } in
    inr (inr (o, gives, ap told_of g.in-NoMemory.is))

pub returns-in_default-table_of : goal.returns-in_default-table_of
returns-in_default-table_of g =
    let o : Outcome = (g.receive-received.result.consumed, told_of g.receive-received.result.event, g.receive-received.new.self, g.receive-received.new.stream) in
    let receives : Call g.args.connection.now.max_fields g.in-Ok.common g.in-Ok-stream.state g.args.bytes.now (not (g.args.fin == 0)) o = rw g.new-memory.ensures at g.receive-received.ensures.received in
    let keeps = limits_kept g.args.connection.now.max_fields g.in-Ok.common g.in-Ok-stream.state g.args.bytes.now (not (g.args.fin == 0)) o receives in
    record {
      answers = search rules;
      event = search rules;
      room = search rules;
      invalid = search rules;
      memory = λ _. inr (inl (table_there g.in-Ok.common.decoder o.2.decoder g.in-Ok.common.read g.args.table.now g.in-Ok.ensures.1 keeps g.in_default-table_of.ensures));
      same = search rules;
      event_same = search rules;
      without = search rules;
    }

pub put-requires-2 : goal.put-requires-2
put-requires-2 g =
    let o : Outcome = (g.receive-received.result.consumed, told_of g.receive-received.result.event, g.receive-received.new.self, g.receive-received.new.stream) in
    let receives : Call g.args.connection.now.max_fields g.in-Ok.common g.in-Ok-stream.state g.args.bytes.now (not (g.args.fin == 0)) o = rw g.new-memory.ensures at g.receive-received.ensures.received in
    let keeps = limits_kept g.args.connection.now.max_fields g.in-Ok.common g.in-Ok-stream.state g.args.bytes.now (not (g.args.fin == 0)) o receives in
    rw g.as_slice.ensures.value (table_fits g.in-Ok.common.decoder o.2.decoder g.in-Ok.common.read o.2.read g.args.table.now g.in-Ok-table_of.stored.items g.in-Ok.ensures.1 keeps g.in-Ok-table_of.ensures)

pub returns : goal.returns
returns g =
    let o : Outcome = (g.receive-received.result.consumed, told_of g.receive-received.result.event, g.receive-received.new.self, g.receive-received.new.stream) in
    let fin = not (g.args.fin == 0) in
    let receives : Call g.args.connection.now.max_fields g.in-Ok.common g.in-Ok-stream.state g.args.bytes.now fin o = rw g.new-memory.ensures at g.receive-received.ensures.received in
    let gives : Gives g.args.connection.now g.args.stream.now g.args.held.now g.args.table.now g.args.bytes.now fin o = record { c = g.in-Ok.common; s = g.in-Ok-stream.state; connection_is = g.in-Ok.ensures.0; table_is = g.in-Ok.ensures.1; stream_is = g.in-Ok-stream.ensures; receives = receives } in
    let keeps = limits_kept g.args.connection.now.max_fields g.in-Ok.common g.in-Ok-stream.state g.args.bytes.now fin o receives in
    let fits : length g.as_slice.result.now ≤ length g.args.table.now = rw g.as_slice.ensures.value (table_fits g.in-Ok.common.decoder o.2.decoder g.in-Ok.common.read o.2.read g.args.table.now g.in-Ok-table_of.stored.items g.in-Ok.ensures.1 keeps g.in-Ok-table_of.ensures) in
    let given = told_of g.within-given.result in
    let left = g.within.result.1.now in
    record {
      answers = inl refl;
      event = λ e. (
        o,
        gives,
        event_is g.args.connection.now.max_datagram o g.whole.result given left g.whole.ensures g.within-given.ensures g.within.ensures.held,
        leaves_is o g.args.connection.now g.set.new.self g.within.result.0 g.args.held.now g.put.new.out g.args.bytes.now left g.args.fields.now g.put_beside.new.fields g.args.out.now g.put_beside.new.out g.whole.result given
            g.whole.ensures g.within-given.ensures g.within.ensures.held g.set.ensures g.within.ensures.stream g.within.ensures.sound g.put.ensures
            (called_placed g.args.connection.now.max_fields g.in-Ok.common g.in-Ok-stream.state g.args.bytes.now fin o receives) g.put_beside.ensures,
        leaves_table g.in-Ok.common.decoder o.2.decoder g.in-Ok.common.read o.2.read g.args.table.now g.as_slice.result.now g.put-2.new.out g.in-Ok.ensures.1 keeps (rw g.as_slice.ensures.value g.in-Ok-table_of.ensures) g.put-2.ensures,
      );
      room = search rules;
      invalid = search rules;
      memory = search rules;
      same = search rules;
      event_same = search rules;
      without = λ e. none_put g.args.table.now g.as_slice.result.now g.put-2.new.out e fits g.put-2.ensures;
    }
