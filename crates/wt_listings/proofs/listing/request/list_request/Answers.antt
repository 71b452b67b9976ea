use Rattle.std.proofs.Common.{true}
use Rattle.wt_listings.proofs.RequestLemmas.{listing_of_frame, listing_of_none, listing_of_fault}
use Rattle.wt_listings.proofs.listing.request.list_request.Goals as goal

pub returns-in-Ok-Some-clause-listing : goal.returns-in-Ok-Some-clause-listing
returns-in-Ok-Some-clause-listing c =
    rw (listing_of_frame _ _ c.args.input.now _ _ _ _ c.capacity.result c.upgrade-stream.ensures c.new-reader.ensures.left c.in-Ok-Some.field-0-is c.capacity.ensures c.in-Ok-Some.ensures.run c.in-Ok-Some.ensures.place) c.list_frame.ensures.listing

pub returns-in-Ok-None-clause-listing : goal.returns-in-Ok-None-clause-listing
returns-in-Ok-None-clause-listing c =
    rw (listing_of_none _ _ c.args.input.now _ _ _ c.capacity-in-Ok-None.result c.upgrade-stream.ensures c.new-reader.ensures.left c.in-Ok-None.field-0-is c.capacity-in-Ok-None.ensures c.in-Ok-None.ensures.run) (rw c.new.ensures at c.end.ensures)

pub returns-in-Err-clause-listing : goal.returns-in-Err-clause-listing
returns-in-Err-clause-listing c =
    rw (listing_of_fault _ true c.args.input.now _ _ c.in-Err.code c.upgrade-stream.ensures c.new-reader.ensures.left c.in-Err.ensures.run) (rw c.new-in-Err.ensures at c.fault.ensures)
