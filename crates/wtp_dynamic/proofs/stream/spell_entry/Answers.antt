use Rattle.std.proofs.Common.{◌≡◌, ◌||◌, ◌∙◌, false, refl, sym, ap, Err, arith}
use Rattle.std.proofs.lemmas.Result.{err_from_is_err_and}
use Rattle.wtp_dynamic.specs.InstructionView.{coded}
use Rattle.wtp_dynamic.specs.Steps.{is_decoded, insert_step}
use Rattle.wtp_dynamic.proofs.Needs.{plain_step, plain_fails, plain_lacks}
use Rattle.wtp_dynamic.proofs.stream.spell_entry.Goals as goal

pub returns-in-Err : goal.returns-in-Err
returns-in-Err c =
    let none : (is_decoded (coded c.args.name) || is_decoded (coded c.args.value)) ≡ false = grind (arith, c.has_text.ensures, c.if-not-has_text.true) in
    plain_fails (coded c.args.name) (coded c.args.value) c.args.table.now c.in-Err.fault none
    (c.in-Err.ensures.step ((coded c.args.name).1, (coded c.args.value).1) refl) (λ is. c.in-Err.ensures.memory (ap Err is))

pub returns-in_err-new-in-Ok : goal.returns-in_err-new-in-Ok
returns-in_err-new-in-Ok c =
    let none : (is_decoded (coded c.args.name) || is_decoded (coded c.args.value)) ≡ false = grind (arith, c.has_text.ensures, c.if-not-has_text.true) in
    let did = c.in-Ok.ensures.step ((coded c.args.name).1, (coded c.args.value).1) refl in
    let p = err_from_is_err_and c.from_residual.result c.from_residual.ensures.1 in
    plain_lacks (coded c.args.name) (coded c.args.value) c.args.table.now none did c.from_residual.result (p.1 ∙ ap Err p.2)

pub returns-in_ok-new-in-Ok : goal.returns-in_ok-new-in-Ok
returns-in_ok-new-in-Ok c =
    let none : (is_decoded (coded c.args.name) || is_decoded (coded c.args.value)) ≡ false = grind (arith, c.has_text.ensures, c.if-not-has_text.true) in
    plain_step (coded c.args.name) (coded c.args.value) c.args.table.now none ∙ ap (λ e. insert_step e c.args.table.now) (sym c.in_ok-new-in-Ok.ensures)
