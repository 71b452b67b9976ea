use Rattle.std.specs.Prelude.{string_bytes}
use Rattle.wt_inspect.proofs.SheetLemmas.{ok_map, plain_lines, taken_lines}
use Rattle.wt_inspect.proofs.sheet.take_text.Goals as goal

pub returns-then-colors-clause-draws : goal.returns-then-colors-clause-draws
returns-then-colors-clause-draws c =
    ok_map _ _ c.take_painted.result
    (λ written taken n has. taken_lines c.args.colors n c.args.lines.now written.items c.if-colors.true taken has)
    c.take_painted.ensures.painted

pub returns-clause-draws : goal.returns-clause-draws
returns-clause-draws c = λ n has.
    rw c.into_bytes.ensures.value (plain_lines c.args.colors n (string_bytes c.in_ok-text.text) c.if-colors.false c.in_ok-text.ensures.lines (c.in_ok-text.ensures.count n has))
