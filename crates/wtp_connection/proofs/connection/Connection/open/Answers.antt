use Rattle.wtp_connection.proofs.FirstLemmas.{unopened_first, opened_first, failed_first}
use Rattle.wtp_connection.proofs.StreamLemmas.{open_found, open_failed, open_more}
use Rattle.wtp_connection.proofs.connection.Connection.open.Goals as goal

pub returns-in-None-clause-found : goal.returns-in-None-clause-found
returns-in-None-clause-found c = open_more c.args.self.now c.args.stream.now c.args.bytes.now c.requires.intact c.requires.first (rw c.in-None.is at c.requires.opening)

pub returns-in-Ok-clause-found : goal.returns-in-Ok-clause-found
returns-in-Ok-clause-found c = open_found c.args.self.now c.args.stream.now c.args.bytes.now c.in-Some.purpose c.in-Some.n _ c.in-Ok.next c.requires.intact c.requires.first (rw c.in-Some.is at c.requires.opening) (rw c.in-Some.is at c.requires.within) (rw c.in-Ok.is at c.opened.ensures.opened)

pub returns-in-Err-clause-found : goal.returns-in-Err-clause-found
returns-in-Err-clause-found c = open_failed c.args.self.now c.opened.new.self c.fail.new.self c.args.stream.now c.fail.new.stream c.args.bytes.now c.in-Some.purpose c.in-Some.n c.in-Err.fault c.fail.result c.requires.intact c.requires.first (rw c.in-Some.is at c.requires.opening) c.in-Err.ensures.opened c.in-Err.ensures.refused c.fail.ensures

pub returns-in-None-clause-first : goal.returns-in-None-clause-first
returns-in-None-clause-first c = unopened_first c.args.self.now c.args.stream.now c.args.bytes.now c.requires.intact c.requires.first (rw c.in-None.is at c.requires.opening)

pub returns-in-Ok-clause-first : goal.returns-in-Ok-clause-first
returns-in-Ok-clause-first c = opened_first c.args.self.now c.args.stream.now c.args.bytes.now c.in-Some.purpose c.in-Some.n _ c.in-Ok.next c.requires.intact c.requires.first (rw c.in-Some.is at c.requires.opening) (rw c.in-Ok.is at c.opened.ensures.opened)

pub returns-in-Err-clause-first : goal.returns-in-Err-clause-first
returns-in-Err-clause-first c = failed_first c.args.self.now c.opened.new.self c.fail.new.self c.args.stream.now c.fail.new.stream c.args.bytes.now c.in-Some.purpose c.in-Some.n c.in-Err.fault c.fail.result c.requires.intact c.requires.first (rw c.in-Some.is at c.requires.opening) c.in-Err.ensures.opened c.in-Err.ensures.refused c.fail.ensures
