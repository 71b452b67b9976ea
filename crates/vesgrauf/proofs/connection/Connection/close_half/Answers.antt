use Rattle.vesgrauf_stream.specs.Writing.{Ends as EndsHalf, Closes as ClosesHalf}
use Rattle.vesgrauf.specs.State.{Changes}
use Rattle.std.specs.Prelude.{MatchBool, OnOk}
use Rattle.std.proofs.Common.{◌∙◌, Bool, true, false, subst, sym}
use Rattle.vesgrauf.proofs.connection.Connection.close_half.Goals as goal

pub returns-clause-lasts : goal.returns-clause-lasts
returns-clause-lasts c = c.say_close.ensures.lasts

pub returns-clause-closes : goal.returns-clause-closes
returns-clause-closes c =
    subst (λ (b : Bool). OnOk c.say_close.result (Changes c.args.session
    (λ v w. MatchBool b (EndsHalf v w) (ClosesHalf c.args.code c.args.reason.now v w)) c.args.self.now c.say_close.new.self))
    (sym (sym c.says_nothing.ensures ∙ c.if-says_nothing.false)) c.say_close.ensures.closes

pub returns-then-says_nothing-clause-closes : goal.returns-then-says_nothing-clause-closes
returns-then-says_nothing-clause-closes c =
    subst (λ (b : Bool). OnOk c.end_half.result (Changes c.args.session
    (λ v w. MatchBool b (EndsHalf v w) (ClosesHalf c.args.code c.args.reason.now v w)) c.args.self.now c.end_half.new.self))
    (sym (sym c.says_nothing.ensures ∙ c.if-says_nothing.true)) c.end_half.ensures.ends
