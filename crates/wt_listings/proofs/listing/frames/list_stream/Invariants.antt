use Rattle.std.proofs.Common.{length}
use Rattle.wtransport_proto.specs.Cursor.{left_of}
use Rattle.wtransport_proto.specs.Run.{run, MayGoOn}
use Rattle.wt_listings.proofs.ListingLemmas.{IsBegun}
use Rattle.wt_listings.proofs.listing.frames.list_stream.Given as goal

abbrev pub invariant-frames : goal.invariant-frames
invariant-frames g l = record {
  begun : IsBegun l.lines (run g.S.ReadsFrames.role (g.S.ReadsFrames.first l.stream) (left_of l.reader) MayGoOn) (run g.S.ReadsFrames.role (g.S.ReadsFrames.first l.initial.stream) l.input MayGoOn);
  can : g.S.ReadsFrames.can l.stream;
}

abbrev pub decreases-frames : goal.decreases-frames
decreases-frames g l = length (run g.S.ReadsFrames.role (g.S.ReadsFrames.first l.stream) (left_of l.reader) MayGoOn).frames
