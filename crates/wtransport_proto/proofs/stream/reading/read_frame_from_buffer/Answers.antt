use Rattle.std.proofs.Common.{ap, not, ◌∙◌}
use Rattle.wtp_core.specs.Cursor.{left_of}
use Rattle.wtransport_proto.proofs.ReadingLemmas.{moved_run, moved_place}
use Rattle.wtransport_proto.proofs.stream.reading.read_frame_from_buffer.Goals as goal

pub returns-clause-run : goal.returns-clause-run
returns-clause-run g c = moved_run g.K.Rule.role (not c.args.first_frame_done.now) (not c.read_frame-found.new.first_frame_done) _ _ _ _ _ _ (c.new-ahead.ensures.left ∙ c.buffer_remaining.ensures.bytes) (ap left_of c.buffer_remaining.ensures.unmoved) c.move_past.ensures.place c.read_frame-found.ensures.answer

pub returns-clause-place : goal.returns-clause-place
returns-clause-place g c = moved_place g.K.Rule.role (not c.args.first_frame_done.now) (not c.read_frame-found.new.first_frame_done) _ _ _ _ _ _ (c.new-ahead.ensures.left ∙ c.buffer_remaining.ensures.bytes) (ap left_of c.buffer_remaining.ensures.unmoved) c.move_past.ensures.place c.read_frame-found.ensures.answer
