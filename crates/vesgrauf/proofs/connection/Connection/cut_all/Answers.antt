use Rattle.std.proofs.Common.{subst, rules}
use Rattle.vesgrauf.proofs.KeepsLemmas.{keeps_then}
use Rattle.vesgrauf.proofs.CutLemmas.{Cutting, cutting_next, cutting_severed}
use Rattle.vesgrauf.proofs.connection.Connection.cut_all.Goals as goal

pub members-preserved : goal.members-preserved
members-preserved c = record {
  keeps = keeps_then c.members.invariant.keeps c.cut.ensures.keeps;
  cutting = cutting_next c.args.session c.in-Some.id c.args.self.now.ids c.members.self.ids c.cut.new.self.ids
      c.member_after-next.result c.members.self.streams.entries c.cut.new.self.streams.entries
      (subst (λ n. Cutting c.args.session c.args.self.now.ids n c.members.self.streams.entries c.members.self.ids)
      c.in-Some.is c.members.invariant.cutting)
      c.cut.ensures.alone c.in_ok-cut.ensures.cut c.member_after-next.ensures;
}

pub returns-clause-severed : goal.returns-clause-severed
returns-clause-severed c = rw c.wake.ensures
    (cutting_severed c.args.session c.args.self.now.ids c.members.self.ids c.members.self.streams.entries
    (search (rules)) c.members.self.joined)
