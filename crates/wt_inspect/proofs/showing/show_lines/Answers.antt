use Rattle.std.proofs.Common.{[], ◌++◌, ◌∙◌, refl, ap}
use Rattle.wt_inspect.specs.Drawing.{has_colors}
use Rattle.wt_inspect.proofs.SheetLemmas.{draws_by, draws_none, draws_then, ok_map, so_far_none}
use Rattle.wt_inspect.proofs.showing.show_lines.Goals as goal

pub items-init : goal.items-init
items-init g c = (
  c.new.ensures.input,
  refl,
  [],
  draws_none (has_colors c.args.arguments.now) (g.W.Write.contents c.args.output.now),
  (
    [],
    [],
    record {
      items = c.new.ensures.none;
      bytes = ap (λ i. i.bytes) c.new.ensures.input;
      lines = so_far_none _ _ c.requires;
      breach = refl;
    },
  ),
)

pub items-preserved : goal.items-preserved
items-preserved g c =
    let next = c.in_ok-is_item.ensures.shows in
    let (more, added, shown) = next.shows c.items.invariant.2 c.items.invariant.4 in
    (next.same.input ∙ c.items.invariant.0, ap (λ b. b.now) next.same.arguments ∙ c.items.invariant.1, c.items.invariant.2 ++ more, draws_then _ _ _ _ c.items.invariant.2 more c.items.invariant.3 (draws_by _ _ _ _ more c.items.invariant.1 added), shown)

pub returns-then-not-is_item-clause-shows : goal.returns-then-not-is_item-clause-shows
returns-then-not-is_item-clause-shows g c =
    let next = c.in_ok-is_item.ensures.shows in
    let (more, added, shown) = next.shows c.items.invariant.2 c.items.invariant.4 in
    let text = c.items.invariant.2 ++ more in
    let input = next.same.input ∙ c.items.invariant.0 in
    let arguments = ap (λ b. b.now) next.same.arguments ∙ c.items.invariant.1 in
    ok_map _ _ c.finish.result
    (λ status shows.
    let (last, written, are) = shows text shown in
    (text ++ last, draws_then _ _ _ _ text last (draws_then _ _ _ _ c.items.invariant.2 more c.items.invariant.3 (draws_by _ _ _ _ more c.items.invariant.1 added)) (draws_by _ _ _ _ last arguments written), rw (input, arguments) at are))
    c.finish.ensures.shows
