use Rattle.std.proofs.Common.{◌≡◌, ◌∙◌, ap, sym}
use Rattle.vesgrauf.specs.declared.config.OnMalformed.TheVariants as chosen
use Rattle.vesgrauf.specs.Keeps.{KeptOwn}
use Rattle.vesgrauf.proofs.KeepsLemmas.{keeps_config, keeps_weak}
use Rattle.vesgrauf.proofs.KeepsOwnLemmas.{keeps_holds, holds_then}
use Rattle.vesgrauf.proofs.connection.Connection.answers.Goals as goal

pub returns-in-Ok-clause-keeps : goal.returns-in-Ok-clause-keeps
returns-in-Ok-clause-keeps c =
    let other : c.note_other.new.self.config.on_malformed ≡ chosen.Reset → ⊥
    = λ m. c.may_answer.ensures c.if-not-may_answer.false
    (ap (λ f. f.on_malformed) (sym (keeps_config c.note_other.ensures.keeps)) ∙ m) in
    holds_then (keeps_holds (keeps_weak c.args.id c.note_other.ensures.keeps))
    (KeptOwn (λ m. absurd (other m)) c.respond.ensures.goes c.respond.ensures.config c.respond.ensures.ends
    (λ m. absurd (other m)))

pub returns-in-Err-clause-keeps : goal.returns-in-Err-clause-keeps
returns-in-Err-clause-keeps c = keeps_holds (keeps_weak c.args.id c.note_other.ensures.keeps)
