use Rattle.std.proofs.Common.{◌≡◌, ◌∙◌, ap}
use Rattle.vesgrauf.specs.declared.entry.Entry.{Entry}
use Rattle.vesgrauf.proofs.InstructionLemmas.{looked_and_said}
use Rattle.vesgrauf.proofs.entry.Entry.look.Goals as goal

pub returns-in-Ok-clause-reads : goal.returns-in-Ok-clause-reads
returns-in-Ok-clause-reads c =
    let same : c.hear.new.self.is_decoder ≡ c.args.self.now.is_decoder
    = ap (λ (e : Entry). e.is_decoder) c.hear.ensures.others in
    looked_and_said c.args.self.now c.hear.new.self c.said_of.result
    (c.is_read.ensures.reads c.if-not-is_read.false) (λ h. c.said_of.ensures.same (same ∙ h))
    (λ h. c.said_of.ensures.none (same ∙ h)) (ap (λ (e : Entry). e.peer) c.hear.ensures.others) same
    c.in-Ok.ensures.fresh c.hear.ensures.ended c.hear.ensures.rest c.in-Ok.ensures.ok
