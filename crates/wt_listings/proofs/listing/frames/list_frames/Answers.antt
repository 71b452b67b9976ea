use Rattle.std.proofs.Common.{true, false}
use Rattle.wtransport_proto.specs.Rule.{LocalBi, RemoteUni}
use Rattle.wtransport_proto.specs.Run.{MayGoOn}
use Rattle.wtransport_proto.proofs.RunLaws.{run-first}
use Rattle.wt_listings.proofs.listing.frames.list_frames.Goals as goal

-- these streams do not treat the first frame differently
pub returns-in-BiLocal-clause-listing : goal.returns-in-BiLocal-clause-listing
returns-in-BiLocal-clause-listing c = rw (c.in-BiLocal.is, run-first LocalBi true false c.args.input.now MayGoOn (λ e. cc)) c.list_stream-in-BiLocal.ensures.listing

pub returns-in-Control-clause-listing : goal.returns-in-Control-clause-listing
returns-in-Control-clause-listing c = rw (c.in-Control.is, run-first RemoteUni true false c.args.input.now MayGoOn (λ e. cc)) c.list_stream-in-Control.ensures.listing
