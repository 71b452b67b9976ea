use Rattle.std.proofs.Common.{arith}
use Rattle.wt_listings.proofs.RunEnds.{run_closed, fault_closes}
use Rattle.wt_listings.proofs.SteppedLemmas.{begun_whole, begun_lines, lines_of_all, says_listed, goes_on, less_left}
use Rattle.wt_listings.proofs.listing.stepped.list_stepped.Goals as goal

pub drives-init : goal.drives-init
drives-init c = record {
  begun = begun_whole _ _ _ _ c.new-source.result.waits_left _ c.new-lines.ensures c.upgrade-stream.ensures c.new-reading.ensures c.new-source.ensures.bytes;
  none = c.new-frames.ensures.items;
  fits = c.new-source.ensures.fits;
}

pub drives-preserved : goal.drives-preserved
drives-preserved c = record {
  begun = begun_lines _ _ _ _ _ _ c.drives.invariant.begun (goes_on _ _ _ _ _ _ _ _ _ _ c.drives.source.waits_left c.drive-driven.new.source.waits_left c.in-Waiting.is c.drive-driven.ensures.did)
      (lines_of_all _ _ _ _ _ c.drives.invariant.none c.as_slice.ensures.value c.in_ok-add_lines.ensures);
  none = c.clear.ensures.items;
  fits = let less = less_left _ _ _ _ _ _ _ _ _ _ c.drives.source.waits_left c.drive-driven.new.source.waits_left c.in-Waiting.is (omega arith) c.drives.invariant.fits c.drive-driven.ensures.did in let most = less.0 in omega arith;
}

pub drives-smaller : goal.drives-smaller
drives-smaller c = let less = less_left _ _ _ _ _ _ _ _ _ _ c.drives.source.waits_left c.drive-driven.new.source.waits_left c.in-Waiting.is (omega arith) c.drives.invariant.fits c.drive-driven.ensures.did in less.1

pub close-requires : goal.close-requires
close-requires c = fault_closes _ _ _ c.in-Ended.ensures.did.0.fault c.drives.invariant.begun.ending (run_closed _ _ _)

pub returns-in-Ended-clause-listing : goal.returns-in-Ended-clause-listing
returns-in-Ended-clause-listing c =
    let did = c.in-Ended.ensures.did in
    says_listed _ _ _ _ _ _ _ _ c.drives.invariant.begun did.0 (lines_of_all _ _ _ _ _ c.drives.invariant.none c.as_slice.ensures.value c.in_ok-add_lines.ensures)
    (c.close.ensures.listing _ did.0.fault)
