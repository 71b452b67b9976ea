use Rattle.wt_listings.proofs.ControlLemmas.{control_header, control_whole, control_good}
use Rattle.wt_listings.proofs.listing.frames.control_stream.Goals as goal

pub returns : goal.returns
returns c = control_header _ _ _ _ _ c.as_slice-type_number.ensures c.in-Ok-H3.field-0-is c.in-Ok-H3.ensures.answer

pub unreachable-requires : goal.unreachable-requires
unreachable-requires c = control_whole _ _ _ _ _ c.as_slice-type_number.ensures c.in-Ok-Quic.field-0-is c.in-Ok-Quic.ensures.answer

pub unreachable-requires-in-Err : goal.unreachable-requires-in-Err
unreachable-requires-in-Err c = control_good _ _ _ _ c.as_slice-type_number.ensures c.in-Err.ensures.answer
