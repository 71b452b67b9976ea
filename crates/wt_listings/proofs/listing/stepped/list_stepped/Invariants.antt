use Rattle.std.proofs.Common.{◌≡◌, ◌+◌, ◌^◌, ◌<◌, []}
use Rattle.wtransport_proto.specs.HeldRun.{run_of, size_of}
use Rattle.wtransport_proto.specs.Rule.{RemoteBi}
use Rattle.wtransport_proto.specs.Streams.{first_of}
use Rattle.wt_listings.specs.CutSource.{source_of}
use Rattle.wt_listings.specs.Stepped.{stepped_run}
use Rattle.wt_listings.proofs.ListingLemmas.{IsBegun}
use Rattle.wt_listings.proofs.listing.stepped.list_stepped.Given as goal

abbrev pub invariant-drives : goal.invariant-drives
invariant-drives l = record {
  begun : IsBegun l.lines (run_of RemoteBi (first_of l.stream) l.reading (source_of l.source.rest.now l.source.waits_left)) (stepped_run l.input);
  none : l.frames.items ≡ [];
  fits : l.source.waits_left < 2 ^ 64;
}

-- the number of waits left, plus the bytes buffered and ahead: the source waits at most once more
-- than it has bytes
abbrev pub decreases-drives : goal.decreases-drives
decreases-drives l = l.source.waits_left + size_of l.reading (source_of l.source.rest.now l.source.waits_left)
