use Rattle.std.proofs.Common.{◌≡◌, List, ℕ, arith, subst, take}
use Rattle.std.proofs.lemmas.List.{take_all}
use Rattle.wt_inspection_views.specs.Painting.{IsPaintedTo}
use Rattle.wt_inspection_views.proofs.PaintingLemmas.{painted_whole}
use Rattle.wt_inspection_views.proofs.painting.paint.Goals as goal

pub returns : goal.returns
returns c =
    let text = c.args.text.now in
    let all : take c.loop-byte.byte-index text ≡ text = take_all c.loop-byte.byte-index text (omega arith) in
    painted_whole text c.loop-byte.painted.items c.loop-byte.line c.requires
    (subst (λ (t : List ℕ). IsPaintedTo t c.loop-byte.line c.loop-byte.painted.items) all c.loop-byte.invariant.so_far)
