use Rattle.std.proofs.Common.{◌≡◌, ◌==◌, ◌&&◌, ◌≤◌, ◌+◌, ◌-◌, min, not, length, inl, inr, refl, sym, ap, ◌∙◌}
use Rattle.wt_c.specs.ConnectionCalls.{event_from}
use Rattle.wt_c.specs.Pushing.{held_of, read_by, reads_all, is_ended, event_in}
use Rattle.wt_c.proofs.PushingLemmas.{read_is, whole_is, are_read, consumed_within, consumed_of_chunk, consumed_of_array, gives_same, leaves_same, holds_same, memory_same, same_answer, is_ok}
use Rattle.wt_c.proofs.connections.pushing.wt_receive_pushed.Goals as goal

pub returns-then-answer-ne-OK-clause-room : goal.returns-then-answer-ne-OK-clause-room
returns-then-answer-ne-OK-clause-room c = λ is.
    let e = c.wt_receive-answer.ensures.room (sym (same_answer c.wt_receive-answer.result c.wt_receive-answer.ensures.answers) ∙ is) in
    let read : c.read_from-bytes.result.now ≡ read_by c.args.hold.now c.args.room.now c.args.chunk.now = read_is (held_of c.args.hold.now c.args.room.now) c.gather-kept.new.room c.fill-taken.new.room c.args.chunk.now c.read_from-bytes.result.now c.gather-kept.result c.fill-taken.result (length c.args.room.now)
    c.gather-kept.ensures.size c.gather-kept.ensures.held (λ m. c.fill-taken.ensures.size m ∙ ap (λ n. min (length c.args.chunk.now) (n - c.gather-kept.result)) c.gather-kept.auto.room) c.fill-taken.ensures.bytes c.read_from-bytes.ensures.chunk c.read_from-bytes.ensures.array in
    let whole : (c.fill-taken.result == length c.args.chunk.now) ≡ reads_all c.args.hold.now c.args.room.now c.args.chunk.now = whole_is (held_of c.args.hold.now c.args.room.now) c.args.chunk.now c.gather-kept.result c.fill-taken.result (length c.args.room.now) c.gather-kept.ensures.size c.gather-kept.ensures.within c.fill-taken.ensures.none (λ m. c.fill-taken.ensures.size m ∙ ap (λ n. min (length c.args.chunk.now) (n - c.gather-kept.result)) c.gather-kept.auto.room) in
    let last : not (c.last_of-last.result == 0) ≡ (is_ended c.args.hold.now c.args.fin && reads_all c.args.hold.now c.args.room.now c.args.chunk.now) = c.last_of-last.ensures ∙ ap (λ b. b && (c.fill-taken.result == length c.args.chunk.now)) c.is_ended-ended.ensures ∙ ap (λ b. is_ended c.args.hold.now c.args.fin && b) whole in
    (e.0, gives_same c.args.connection.now c.args.stream.now c.args.held.now c.args.table.now c.read_from-bytes.result.now (read_by c.args.hold.now c.args.room.now c.args.chunk.now) (not (c.last_of-last.result == 0)) (is_ended c.args.hold.now c.args.fin && reads_all c.args.hold.now c.args.room.now c.args.chunk.now) e.0 read last e.1, e.2, e.3)

pub returns-then-answer-ne-OK-clause-memory : goal.returns-then-answer-ne-OK-clause-memory
returns-then-answer-ne-OK-clause-memory c = λ is.
    let e = c.wt_receive-answer.ensures.memory (sym (same_answer c.wt_receive-answer.result c.wt_receive-answer.ensures.answers) ∙ is) in
    let read : c.read_from-bytes.result.now ≡ read_by c.args.hold.now c.args.room.now c.args.chunk.now = read_is (held_of c.args.hold.now c.args.room.now) c.gather-kept.new.room c.fill-taken.new.room c.args.chunk.now c.read_from-bytes.result.now c.gather-kept.result c.fill-taken.result (length c.args.room.now)
    c.gather-kept.ensures.size c.gather-kept.ensures.held (λ m. c.fill-taken.ensures.size m ∙ ap (λ n. min (length c.args.chunk.now) (n - c.gather-kept.result)) c.gather-kept.auto.room) c.fill-taken.ensures.bytes c.read_from-bytes.ensures.chunk c.read_from-bytes.ensures.array in
    let whole : (c.fill-taken.result == length c.args.chunk.now) ≡ reads_all c.args.hold.now c.args.room.now c.args.chunk.now = whole_is (held_of c.args.hold.now c.args.room.now) c.args.chunk.now c.gather-kept.result c.fill-taken.result (length c.args.room.now) c.gather-kept.ensures.size c.gather-kept.ensures.within c.fill-taken.ensures.none (λ m. c.fill-taken.ensures.size m ∙ ap (λ n. min (length c.args.chunk.now) (n - c.gather-kept.result)) c.gather-kept.auto.room) in
    let last : not (c.last_of-last.result == 0) ≡ (is_ended c.args.hold.now c.args.fin && reads_all c.args.hold.now c.args.room.now c.args.chunk.now) = c.last_of-last.ensures ∙ ap (λ b. b && (c.fill-taken.result == length c.args.chunk.now)) c.is_ended-ended.ensures ∙ ap (λ b. is_ended c.args.hold.now c.args.fin && b) whole in
    memory_same c.args.connection.now c.args.stream.now c.args.held.now c.args.table.now c.read_from-bytes.result.now (read_by c.args.hold.now c.args.room.now c.args.chunk.now) (not (c.last_of-last.result == 0)) (is_ended c.args.hold.now c.args.fin && reads_all c.args.hold.now c.args.room.now c.args.chunk.now) read last e

pub settle-requires-clause-of_chunk : goal.settle-requires-clause-of_chunk
settle-requires-clause-of_chunk c = λ none.
    let e = c.wt_receive-answer.ensures.event (is_ok c.wt_receive-answer.result c.wt_receive-answer.ensures.answers c.if-answer-ne-OK.false) in
    consumed_of_chunk c.wt_receive-answer.new.event.consumed c.read_from-bytes.result.now c.args.chunk.now (consumed_within c.args.connection.now c.args.stream.now c.args.held.now c.args.table.now c.read_from-bytes.result.now (not (c.last_of-last.result == 0)) e.0 c.wt_receive-answer.new.event e.1 e.2) (c.read_from-bytes.ensures.chunk none)

pub settle-requires-clause-of_array : goal.settle-requires-clause-of_array
settle-requires-clause-of_array c = λ some.
    let e = c.wt_receive-answer.ensures.event (is_ok c.wt_receive-answer.result c.wt_receive-answer.ensures.answers c.if-answer-ne-OK.false) in
    consumed_of_array c.wt_receive-answer.new.event.consumed (c.gather-kept.result + c.fill-taken.result) c.read_from-bytes.result.now c.fill-taken.new.room (consumed_within c.args.connection.now c.args.stream.now c.args.held.now c.args.table.now c.read_from-bytes.result.now (not (c.last_of-last.result == 0)) e.0 c.wt_receive-answer.new.event e.1 e.2) (c.read_from-bytes.ensures.array some)

pub returns-clause-event : goal.returns-clause-event
returns-clause-event c = λ _.
    let e = c.wt_receive-answer.ensures.event (is_ok c.wt_receive-answer.result c.wt_receive-answer.ensures.answers c.if-answer-ne-OK.false) in
    let read : c.read_from-bytes.result.now ≡ read_by c.args.hold.now c.args.room.now c.args.chunk.now = read_is (held_of c.args.hold.now c.args.room.now) c.gather-kept.new.room c.fill-taken.new.room c.args.chunk.now c.read_from-bytes.result.now c.gather-kept.result c.fill-taken.result (length c.args.room.now)
    c.gather-kept.ensures.size c.gather-kept.ensures.held (λ m. c.fill-taken.ensures.size m ∙ ap (λ n. min (length c.args.chunk.now) (n - c.gather-kept.result)) c.gather-kept.auto.room) c.fill-taken.ensures.bytes c.read_from-bytes.ensures.chunk c.read_from-bytes.ensures.array in
    let whole : (c.fill-taken.result == length c.args.chunk.now) ≡ reads_all c.args.hold.now c.args.room.now c.args.chunk.now = whole_is (held_of c.args.hold.now c.args.room.now) c.args.chunk.now c.gather-kept.result c.fill-taken.result (length c.args.room.now) c.gather-kept.ensures.size c.gather-kept.ensures.within c.fill-taken.ensures.none (λ m. c.fill-taken.ensures.size m ∙ ap (λ n. min (length c.args.chunk.now) (n - c.gather-kept.result)) c.gather-kept.auto.room) in
    let last : not (c.last_of-last.result == 0) ≡ (is_ended c.args.hold.now c.args.fin && reads_all c.args.hold.now c.args.room.now c.args.chunk.now) = c.last_of-last.ensures ∙ ap (λ b. b && (c.fill-taken.result == length c.args.chunk.now)) c.is_ended-ended.ensures ∙ ap (λ b. is_ended c.args.hold.now c.args.fin && b) whole in (
      e.0,
      gives_same c.args.connection.now c.args.stream.now c.args.held.now c.args.table.now c.read_from-bytes.result.now (read_by c.args.hold.now c.args.room.now c.args.chunk.now) (not (c.last_of-last.result == 0)) (is_ended c.args.hold.now c.args.fin && reads_all c.args.hold.now c.args.room.now c.args.chunk.now) e.0 read last e.1,
      c.settle.ensures.event ∙ ap (λ b. event_in b c.wt_receive-answer.new.event) whole ∙ ap (event_in (reads_all c.args.hold.now c.args.room.now c.args.chunk.now)) e.2,
      leaves_same e.0 c.args.connection.now c.wt_receive-answer.new.connection c.wt_receive-answer.new.stream c.args.held.now c.wt_receive-answer.new.held c.read_from-bytes.result.now (read_by c.args.hold.now c.args.room.now c.args.chunk.now)
          c.args.fields.now c.wt_receive-answer.new.fields c.args.out.now c.wt_receive-answer.new.out c.wt_receive-answer.new.event (event_from c.args.connection.now.max_datagram e.0) read e.2 e.3,
      e.4,
    )

pub returns-clause-holds : goal.returns-clause-holds
returns-clause-holds c = λ _. holds_same _ (held_of c.args.hold.now c.args.room.now) c.args.chunk.now (length c.fill-taken.new.room) (length c.args.room.now) c.settle.new.event.kind c.settle.new.event.consumed c.settle.new.self c.settle.new.room
    (c.fill-taken.ensures.held ∙ c.gather-kept.ensures.held) (c.fill-taken.auto.room ∙ c.gather-kept.auto.room) c.settle.ensures.holds

pub returns-clause-place : goal.returns-clause-place
returns-clause-place c = λ _.
    let read : c.read_from-bytes.result.now ≡ read_by c.args.hold.now c.args.room.now c.args.chunk.now = read_is (held_of c.args.hold.now c.args.room.now) c.gather-kept.new.room c.fill-taken.new.room c.args.chunk.now c.read_from-bytes.result.now c.gather-kept.result c.fill-taken.result (length c.args.room.now)
    c.gather-kept.ensures.size c.gather-kept.ensures.held (λ m. c.fill-taken.ensures.size m ∙ ap (λ n. min (length c.args.chunk.now) (n - c.gather-kept.result)) c.gather-kept.auto.room) c.fill-taken.ensures.bytes c.read_from-bytes.ensures.chunk c.read_from-bytes.ensures.array in
    are_read c.settle.new.self c.fill-taken.new.room c.settle.new.room c.args.chunk.now c.read_from-bytes.result.now (read_by c.args.hold.now c.args.room.now c.args.chunk.now) c.gather-kept.result c.fill-taken.result read
    c.read_from-bytes.ensures.chunk c.read_from-bytes.ensures.array c.settle.ensures.chunk c.settle.ensures.array
