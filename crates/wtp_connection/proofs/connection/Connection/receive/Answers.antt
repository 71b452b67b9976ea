use Rattle.std.proofs.Common.{sym, ◌∙◌}
use Rattle.wtp_connection.proofs.FinishLemmas.{found_open, found_before, found_end, more_within}
use Rattle.wtp_connection.proofs.FirstLemmas.{goes_first, before_first, finish_first}
use Rattle.wtp_connection.proofs.ProgressLemmas.{finish_nearer}
use Rattle.wtp_connection.proofs.KeptLemmas.{finish_kept}
use Rattle.wtp_connection.proofs.connection.Connection.receive.Goals as goal

pub split_at-requires : goal.split_at-requires
split_at-requires c = more_within c.step-found.result c.in-Some.n c.args.self.now c.args.stream.now c.args.bytes.now c.step-found.new.self c.step-found.new.stream (sym c.consumed_by_more.ensures ∙ c.in-Some.is) c.step-found.ensures.found

pub returns-in-Some-clause-found : goal.returns-in-Some-clause-found
returns-in-Some-clause-found c = found_end c.step-found.result c.in-Some.n c.args.self.now c.args.stream.now c.args.bytes.now c.args.fin c.step-found.new.self c.finish.new.self c.step-found.new.stream c.finish.new.stream c.finish.result c.split_at.result.1.now c.if-fin.true (sym c.consumed_by_more.ensures ∙ c.in-Some.is) c.step-found.ensures.found c.split_at.ensures.back c.finish.ensures

pub returns-in-None-clause-found : goal.returns-in-None-clause-found
returns-in-None-clause-found c = found_before c.step-found.result c.args.self.now c.args.stream.now c.args.bytes.now c.args.fin c.step-found.new.self c.step-found.new.stream c.if-fin.true (sym c.consumed_by_more.ensures ∙ c.in-None.is) c.step-found.ensures.found

pub returns-clause-found : goal.returns-clause-found
returns-clause-found c = found_open c.step-found.result c.args.self.now c.args.stream.now c.args.bytes.now c.args.fin c.step-found.new.self c.step-found.new.stream c.if-fin.false c.step-found.ensures.found

pub returns-in-Some-clause-progress : goal.returns-in-Some-clause-progress
returns-in-Some-clause-progress c = finish_nearer c.step-found.result c.in-Some.n c.step-found.new.self c.finish.new.self c.step-found.new.stream c.finish.new.stream c.split_at.result.1.now c.args.stream.now c.args.bytes.now c.finish.result (sym c.consumed_by_more.ensures ∙ c.in-Some.is) c.step-found.ensures.progress c.finish.ensures

pub returns-in-Some-clause-settings : goal.returns-in-Some-clause-settings
returns-in-Some-clause-settings c = (finish_kept c.step-found.result c.in-Some.n c.finish.result c.args.self.now c.step-found.new.self c.finish.new.self c.args.stream.now c.step-found.new.stream c.finish.new.stream c.split_at.result.1.now (sym c.consumed_by_more.ensures ∙ c.in-Some.is) c.step-found.ensures.settings c.finish.ensures).settings

pub returns-in-Some-clause-given : goal.returns-in-Some-clause-given
returns-in-Some-clause-given c = (finish_kept c.step-found.result c.in-Some.n c.finish.result c.args.self.now c.step-found.new.self c.finish.new.self c.args.stream.now c.step-found.new.stream c.finish.new.stream c.split_at.result.1.now (sym c.consumed_by_more.ensures ∙ c.in-Some.is) c.step-found.ensures.settings c.finish.ensures).given

pub returns-in-Some-clause-first : goal.returns-in-Some-clause-first
returns-in-Some-clause-first c = finish_first c.step-found.result c.in-Some.n c.args.self.now c.args.stream.now c.args.bytes.now c.args.fin c.step-found.new.self c.finish.new.self c.step-found.new.stream c.finish.new.stream c.finish.result c.split_at.result.1.now c.if-fin.true (sym c.consumed_by_more.ensures ∙ c.in-Some.is) c.step-found.ensures.found c.step-found.ensures.first c.split_at.ensures.back c.finish.ensures

pub returns-in-None-clause-first : goal.returns-in-None-clause-first
returns-in-None-clause-first c = before_first c.step-found.result c.args.self.now c.args.stream.now c.args.bytes.now c.args.fin c.step-found.new.self c.step-found.new.stream c.if-fin.true (sym c.consumed_by_more.ensures ∙ c.in-None.is) c.step-found.ensures.found c.step-found.ensures.first

pub returns-clause-first : goal.returns-clause-first
returns-clause-first c = goes_first c.step-found.result c.args.self.now c.args.stream.now c.args.bytes.now c.args.fin c.step-found.new.self c.step-found.new.stream c.if-fin.false c.step-found.ensures.first
