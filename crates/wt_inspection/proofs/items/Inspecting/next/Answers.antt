use Rattle.std.proofs.Common.{◌≡◌, ◌∙◌, refl, sym, arith, length}
use Rattle.std.proofs.lemmas.Bool.{eqb-true}
use Rattle.wt_inspection_model.specs.declared.item.Item.{Item}
use Rattle.wt_inspection.proofs.RecordingLemmas.{reads_more}
use Rattle.wt_inspection.proofs.ResolvedLemmas.{items_more}
use Rattle.wt_inspection.proofs.TilesLemmas.{tiles_with}
use Rattle.wt_inspection.proofs.items.Inspecting.next.Goals as goal

pub returns-then-is_empty-clause-gives : goal.returns-then-is_empty-clause-gives
returns-then-is_empty-clause-gives c =
    let none : length c.rest-rest.result.now ≡ 0 = eqb-true _ _ (sym c.is_empty.ensures ∙ c.if-is_empty.true) in
    (omega (arith, none, c.rest-rest.ensures.size), λ items given. given)

pub returns-clause-gives : goal.returns-clause-gives
returns-clause-gives c =
    let step = c.in_ok-length.field-0 in
    let old = c.args.self.now in
    let item : Item = record { at = old.at; length = step.length; content = step.content } in (
      omega (arith, c.rest-rest.ensures.size, c.in_ok-length.ensures.within, c.in_ok-length.ensures.some),
      λ items given.
          let (next, moves, there) = c.in_ok-length.ensures.stage given.stage given.holds in
          record {
            within = omega (arith, c.rest-rest.ensures.size, c.in_ok-length.ensures.within);
            tiles = tiles_with 0 old.at items item given.tiles refl;
            stage = next;
            reads = reads_more items _ _ old.state step.after _ given.stage next old.bytes.now old.bytes.now c.rest-rest.result.now old.at _ item refl c.rest-rest.ensures.bytes refl refl given.reads (c.in_ok-length.ensures.some, c.in_ok-length.ensures.within) c.in_ok-length.ensures.read moves;
            holds = there;
            sections = items_more _ old.bytes.now old.bytes.now c.rest-rest.result.now items _ item refl c.rest-rest.ensures.bytes refl given.sections c.in_ok-length.ensures.sections;
          },
    )
