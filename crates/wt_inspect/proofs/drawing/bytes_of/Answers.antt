use Rattle.std.proofs.Common.{refl, subst}
use Rattle.wt_inspection_views.specs.Escaped.{AreLines}
use Rattle.wt_inspect.proofs.SheetLemmas.{ok_map, painted_lines, plain_lines}
use Rattle.wt_inspect.proofs.drawing.bytes_of.Goals as goal

pub returns-then-colors : goal.returns-then-colors
returns-then-colors c =
    ok_map _ _ c.into_painted.result
    (λ written painted. painted_lines c.args.colors _ c.args.text written.items c.if-colors.true c.into_painted.ensures.lines refl painted)
    c.into_painted.ensures.painted

pub returns : goal.returns
returns c =
    rw (c.into_bytes.ensures.value, c.into_text.ensures.text) (plain_lines c.args.colors _ c.args.text c.if-colors.false (subst AreLines c.into_text.ensures.text c.into_text.ensures.lines) refl)
