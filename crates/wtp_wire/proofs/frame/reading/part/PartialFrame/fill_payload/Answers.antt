use Rattle.std.proofs.Common.{◌≡◌, ◌≤◌, length, take, drop, List, ℕ, ap, ◌∙◌, arith}
use Rattle.wtp_wire.specs.PartialFrame.{Part}
use Rattle.wtp_wire.proofs.FrameReadingLemmas.{filled_grew, fill_within}
use Rattle.wtp_wire.proofs.frame.reading.part.PartialFrame.fill_payload.Goals as goal

pub returns-clause-grew : goal.returns-clause-grew
returns-clause-grew g c =
    let buf = c.fill.new.buf in
    let items = c.self.inside.payload.items in
    let held : take c.self.inside.filled buf ≡ c.args.self.now.payload =
    c.fill.ensures.front ∙ ap (λ (l : List ℕ). take c.self.inside.filled l) c.as_mut_slice.ensures.value ∙ ap (λ (x : Part). x.payload) c.self.view_is ∙ c.reserve.ensures.payload in
    let within : c.fill.new.at ≤ length buf = fill_within c.fill.result c.fill.new.at (length buf) c.fill.ensures.lengths in
    filled_grew c.args.self.now.payload buf (drop (length buf) items) c.self.inside.payload.len c.self.inside.filled c.fill.new.at c.fill.ensures.forward within
    (omega (arith, c.fill.auto.buf, c.as_mut_slice.ensures.len)) held
