use Rattle.std.proofs.Common.{◌≡◌, ◌∙◌, ◌++◌, List, ℕ, ap}
use Rattle.vesgrauf_queue.specs.State.{waiting}
use Rattle.wtp_sending.specs.Control.{settings_bytes}
use Rattle.vesgrauf.specs.Config.{announced}
use Rattle.vesgrauf.proofs.InstructionLemmas.{queued_by}
use Rattle.vesgrauf.proofs.connection.Connection.begin_control.Goals as goal

pub returns-in-Ok-clause-starts : goal.returns-in-Ok-clause-starts
returns-in-Ok-clause-starts c =
    let said : waiting c.push.new.self.queue ≡ waiting c.take_critical-self.new.self.control.queue ++ c.as_slice.result.now
    = queued_by c.as_slice.result.now (record c.take_critical-self.new.self.control { id = c.take_critical-self.result }) c.push.new.self
    c.in-Ok.ensures.ok.queued in
    let bytes : c.as_slice.result.now ≡ settings_bytes (announced c.args.self.now.config)
    = c.as_slice.ensures.value ∙ c.in_ok-bytes.ensures.bytes in
    let control : waiting c.take_critical-self.new.self.control.queue ≡ waiting c.args.self.now.control.queue
    = ap (λ x. waiting x.queue) c.take_critical-self.ensures.control
    ∙ ap (λ x. waiting x.control.queue) c.first_control_bytes.ensures.others in
    said ∙ (ap (λ (l : List ℕ). l ++ c.as_slice.result.now) control
    ∙ ap (λ (l : List ℕ). waiting c.args.self.now.control.queue ++ l) bytes)
