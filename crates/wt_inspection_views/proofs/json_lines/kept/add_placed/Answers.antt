use Rattle.std.proofs.Common.{arith, IsAscii, sym, subst, ◌∙◌}
use Rattle.wt_inspection_views.proofs.KeptLemmas.{placed_added}
use Rattle.wt_inspection_views.proofs.json_lines.kept.add_placed.Goals as goal

pub returns-clause-added : goal.returns-clause-added
returns-clause-added c =
    placed_added _ _ _ c.as_bytes.result.now _ c.args.at (omega arith) (subst IsAscii (sym c.as_bytes.ensures.value) c.format.ensures.ascii) (c.as_bytes.ensures.value ∙ c.format.ensures.text) c.requires c.add_pieces.ensures.added
