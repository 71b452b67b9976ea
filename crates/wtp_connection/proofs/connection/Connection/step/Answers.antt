use Rattle.std.proofs.Common.{length}
use Rattle.wtp_connection.specs.declared.stream.Stream.TheVariants.{Encoder, Decoder}
use Rattle.wtp_connection.proofs.StreamLemmas.{step_inside, frames_judged, encoder_judged, decoder_judged}
use Rattle.wtp_connection.proofs.FirstLemmas.{frames_first, encoder_first, decoder_first}
use Rattle.wtp_connection.proofs.ProgressLemmas.{frames_nearer}
use Rattle.wtp_connection.proofs.KeptLemmas.{encoder_kept, decoder_kept, step_kept}
use Rattle.wtp_connection.proofs.connection.Connection.step.Goals as goal

pub judge-requires : goal.judge-requires
judge-requires c = step_inside c.next-step.result c.in-Frames.reader c.next-step.new.self c.args.bytes.now c.next-step.ensures.step

pub returns-in-Frames-clause-found : goal.returns-in-Frames-clause-found
returns-in-Frames-clause-found c = rw c.in-Frames.is (frames_judged c.next-step.result c.args.self.now c.judge.new.self c.in-Frames.reader c.next-step.new.self c.in-Frames.given c.judge.new.stream c.args.bytes.now c.judge.result c.if-self.false c.next-step.ensures.step (rw c.had_frame.ensures at c.judge.ensures))

pub returns-in-Encoder-clause-found : goal.returns-in-Encoder-clause-found
returns-in-Encoder-clause-found c = rw c.in-Encoder.is (encoder_judged c.args.self.now c.read_encoder.new.self c.read_encoder.new.stream c.args.bytes.now c.read_encoder.result c.if-self.false (rw c.in-Encoder.is at c.read_encoder.ensures))

pub returns-in-Decoder-clause-found : goal.returns-in-Decoder-clause-found
returns-in-Decoder-clause-found c = rw c.in-Decoder.is (decoder_judged c.args.self.now c.go_on.new.self c.in-Decoder.place c.go_on.new.stream c.args.bytes.now c.after-next.result c.go_on.result c.if-self.false c.after-next.ensures c.go_on.ensures)

pub returns-in-Frames-clause-progress : goal.returns-in-Frames-clause-progress
returns-in-Frames-clause-progress c = rw c.in-Frames.is (frames_nearer c.next-step.result c.args.self.now c.judge.new.self c.in-Frames.reader c.next-step.new.self c.in-Frames.given c.had_frame.result c.judge.new.stream c.args.bytes.now c.judge.result c.next-step.ensures.step c.judge.ensures)

pub returns-in-Frames-clause-settings : goal.returns-in-Frames-clause-settings
returns-in-Frames-clause-settings c = (step_kept c.next-step.result c.judge.result c.args.self.now c.judge.new.self c.in-Frames.reader c.next-step.new.self c.in-Frames.given c.judge.new.stream c.args.bytes.now (rw c.had_frame.ensures at c.judge.ensures)).settings

pub returns-in-Frames-clause-given : goal.returns-in-Frames-clause-given
returns-in-Frames-clause-given c = rw c.in-Frames.is (step_kept c.next-step.result c.judge.result c.args.self.now c.judge.new.self c.in-Frames.reader c.next-step.new.self c.in-Frames.given c.judge.new.stream c.args.bytes.now (rw c.had_frame.ensures at c.judge.ensures)).given

pub returns-in-Encoder-clause-settings : goal.returns-in-Encoder-clause-settings
returns-in-Encoder-clause-settings c = (encoder_kept c.read_encoder.result c.args.self.now c.read_encoder.new.self Encoder c.read_encoder.new.stream c.args.bytes.now (rw c.in-Encoder.is at c.read_encoder.ensures)).settings

pub returns-in-Encoder-clause-given : goal.returns-in-Encoder-clause-given
returns-in-Encoder-clause-given c = rw c.in-Encoder.is (encoder_kept c.read_encoder.result c.args.self.now c.read_encoder.new.self Encoder c.read_encoder.new.stream c.args.bytes.now (rw c.in-Encoder.is at c.read_encoder.ensures)).given

pub returns-in-Decoder-clause-settings : goal.returns-in-Decoder-clause-settings
returns-in-Decoder-clause-settings c = (decoder_kept c.go_on.result c.args.self.now c.go_on.new.self (Decoder c.in-Decoder.place) c.go_on.new.stream c.after-next.result (length c.args.bytes.now) c.go_on.ensures).settings

pub returns-in-Decoder-clause-given : goal.returns-in-Decoder-clause-given
returns-in-Decoder-clause-given c = rw c.in-Decoder.is (decoder_kept c.go_on.result c.args.self.now c.go_on.new.self (Decoder c.in-Decoder.place) c.go_on.new.stream c.after-next.result (length c.args.bytes.now) c.go_on.ensures).given

pub returns-in-Frames-clause-first : goal.returns-in-Frames-clause-first
returns-in-Frames-clause-first c = rw c.in-Frames.is (frames_first c.next-step.result c.args.self.now c.judge.new.self c.in-Frames.reader c.next-step.new.self c.in-Frames.given c.judge.new.stream c.args.bytes.now c.judge.result c.if-self.false c.next-step.ensures.first (rw c.had_frame.ensures at c.judge.ensures))

pub returns-in-Encoder-clause-first : goal.returns-in-Encoder-clause-first
returns-in-Encoder-clause-first c = rw c.in-Encoder.is (encoder_first c.args.self.now c.read_encoder.new.self c.read_encoder.new.stream c.args.bytes.now c.read_encoder.result c.if-self.false (rw c.in-Encoder.is at c.read_encoder.ensures))

pub returns-in-Decoder-clause-first : goal.returns-in-Decoder-clause-first
returns-in-Decoder-clause-first c = rw c.in-Decoder.is (decoder_first c.args.self.now c.go_on.new.self c.in-Decoder.place c.go_on.new.stream c.args.bytes.now c.after-next.result c.go_on.result c.if-self.false c.after-next.ensures c.go_on.ensures)
