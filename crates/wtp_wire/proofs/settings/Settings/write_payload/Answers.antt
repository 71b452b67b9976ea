use Rattle.std.proofs.Common.{◌≡◌, refl, sym, ◌∙◌}
use Rattle.std.proofs.lemmas.Result.{err_from_is_err_and}
use Rattle.wtp_wire.proofs.PartsLemmas.{puts-start, puts-pair, puts-refused, puts-refused_second, puts-end}
use Rattle.wtp_wire.proofs.settings.Settings.write_payload.Goals as goal

pub loop-number-init : goal.loop-number-init
loop-number-init g c =
    let all : c.args.self.now ≡ c.into_iter-number-iterator.result = sym c.self.view_is ∙ sym c.into_iter-number-iterator.ensures.into_iter_gives.0 in
    (rw (← all) (puts-start _ _ _ _), refl)

pub loop-number-preserved : goal.loop-number-preserved
loop-number-preserved g c =
    let here = rw c.in-Some.ensures.steps at c.loop-number.invariant.0 in
    (puts-pair _ _ _ _ _ _ _ _ _ _ _ _ _ here c.in_ok-put_varint.ensures.puts c.in_ok-put_varint-2.ensures.puts, c.in_ok-put_varint-2.ensures.target ∙ c.in_ok-put_varint.ensures.target ∙ c.loop-number.invariant.1)

pub returns-in_err-put_varint-clause-parts : goal.returns-in_err-put_varint-clause-parts
returns-in_err-put_varint-clause-parts g c =
    let p = err_from_is_err_and c.from_residual.result c.from_residual.ensures.1 in
    let here = rw c.in-Some.ensures.steps at c.loop-number.invariant.0 in
    rw (p.1, p.2) (puts-refused _ _ _ _ _ _ _ _ _ _ _ here c.in_err-put_varint.ensures.puts)

pub returns-in_err-put_varint-2-clause-parts : goal.returns-in_err-put_varint-2-clause-parts
returns-in_err-put_varint-2-clause-parts g c =
    let p = err_from_is_err_and c.from_residual-in_err-put_varint-2.result c.from_residual-in_err-put_varint-2.ensures.1 in
    let here = rw c.in-Some.ensures.steps at c.loop-number.invariant.0 in
    rw (p.1, p.2) (puts-refused_second _ _ _ _ _ _ _ _ _ _ _ _ _ _ here c.in_ok-put_varint.ensures.puts c.in_err-put_varint-2.ensures.puts)

pub returns-clause-parts : goal.returns-clause-parts
returns-clause-parts g c =
    let here = rw c.in-None.ensures.steps.0 at c.loop-number.invariant.0 in
    puts-end _ _ _ _ _ _ tt here

pub returns-in_err-put_varint-clause-target : goal.returns-in_err-put_varint-clause-target
returns-in_err-put_varint-clause-target g c = c.in_err-put_varint.ensures.target ∙ c.loop-number.invariant.1

pub returns-in_err-put_varint-2-clause-target : goal.returns-in_err-put_varint-2-clause-target
returns-in_err-put_varint-2-clause-target g c = c.in_err-put_varint-2.ensures.target ∙ c.in_ok-put_varint.ensures.target ∙ c.loop-number.invariant.1

pub returns-clause-target : goal.returns-clause-target
returns-clause-target g c = c.loop-number.invariant.1
