use Rattle.wtp_wire.proofs.FramePollLemmas.{front_none}
use Rattle.wtp_wire.proofs.laws.polled.held_is_in_front.Goals as goal

pub returns : goal.returns
returns c = λ h ahead e. front_none h.taken h.skip_remaining ahead e
