use Rattle.std.proofs.Common.{◌≡◌, ◌∙◌}
use Rattle.wt_listings.specs.Program.{fault_text}
use Rattle.wt_listings.proofs.ProgramLemmas.{start-first, start-second}
use Rattle.wt_listings.proofs.program.report.Goals as goal

pub returns-in_err-write_start-clause-start : goal.returns-in_err-write_start-clause-start
returns-in_err-write_start-clause-start g c =
    let text : c.as_bytes.result.now ≡ fault_text c.args.fault = c.as_bytes.ensures.value ∙ c.as_str.ensures in
    start-first _ _ _ _ (rw text at c.in_err-write_start.ensures.start)

pub returns-clause-start : goal.returns-clause-start
returns-clause-start g c =
    let text : c.as_bytes.result.now ≡ fault_text c.args.fault = c.as_bytes.ensures.value ∙ c.as_str.ensures in
    start-second _ _ _ _ _ (rw text at c.in_ok-write_start.ensures.whole) c.write_start-2.ensures.start
