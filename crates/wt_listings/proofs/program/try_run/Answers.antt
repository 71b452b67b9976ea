use Rattle.std.proofs.Common.{◌≡◌, ◌≤◌, length, rules, Err}
use Rattle.wt_listings.specs.declared.program.Fault.TheVariants.{WriteFault}
use Rattle.wt_listings.specs.Program.{listing_of, texts_of, Names}
use Rattle.wt_listings.proofs.Faults.{in_writing}
use Rattle.wt_listings.proofs.program.try_run.Goals as goal

pub returns-in_err-write_output-clause-fails : goal.returns-in_err-write_output-clause-fails
returns-in_err-write_output-clause-fails g c =
    let same : c.from_residual-in_err-write_output.result ≡ Err WriteFault = search rules in
    let named : Names (texts_of c.args.arguments.now) c.in_ok-command.command = search rules in
    let few : length c.in_ok-bytes.bytes.items ≤ 1048576 = search rules in
    let text : c.as_slice-2.result.now ≡ (listing_of c.in_ok-command.command c.in_ok-bytes.bytes.items).text = search rules in
    rw same (in_writing c.in_ok-command.command _ _ _ _ _ _ _ named c.in_ok-bytes.ensures.whole few c.in_ok-bytes.ensures.ended text c.write_output.ensures.start)
