use Rattle.std.proofs.Common.{◌≡◌, ◌++◌, ◌≤◌, length, drop}
use Rattle.wtp_core.specs.Source.{HasModel}
use Rattle.wtp_wire.specs.Held.{IsUnfinished}
use Rattle.std.specs.Vec.{vec_capacity}
use Rattle.wtransport_proto.specs.declared.stream.driving.Driven.TheVariants as driven
use Rattle.wtransport_proto.specs.Driving.{ChangesFirst, DriveWaits, Drove}
use Rattle.wtransport_proto.proofs.stream.driving.drive.Given as goal

abbrev pub invariant-loop-turn : goal.invariant-loop-turn
invariant-loop-turn g l = record {
  can : g.K.ReadsFrames.can l.stream;
  changes : ChangesFirst g.K.ReadsFrames.first l.fn.stream l.stream;
  unfinished : IsUnfinished l.fn.reading → IsUnfinished l.reading;
  appends : l.out.items ≡ l.fn.out.items ++ drop (length l.fn.out.items) l.out.items;
  most : length (drop (length l.fn.out.items) l.out.items) ≤ l._turn;
  model : HasModel (g.S.AsyncRead.model l.fn.source) (g.S.AsyncRead.model l.source) (Drove g.K.ReadsFrames.role (g.K.ReadsFrames.first l.fn.stream) (g.K.ReadsFrames.first l.stream)
      l.fn.reading l.reading (drop (length l.fn.out.items) l.out.items) l._turn);
  waits : HasModel (g.S.AsyncRead.model l.fn.source) (g.S.AsyncRead.model l.source) (DriveWaits driven.Spent);
  capacity : vec_capacity l.fn.out ≤ vec_capacity l.out;
  none : l._turn ≡ 0 → (l.stream ≡ l.fn.stream) × (l.reading ≡ l.fn.reading) × (l.source ≡ l.fn.source) × (l.out ≡ l.fn.out);
}
