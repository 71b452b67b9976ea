use Rattle.std.proofs.Common.{refl}
use Rattle.wt_inspect.proofs.SheetLemmas.{appends_keeps}
use Rattle.wt_inspect.proofs.showing.show_page.Goals as goal

pub returns-clause-shows : goal.returns-clause-shows
returns-clause-shows g c =
    let found = c.in_ok-inspection.inspection in
    let breach = rw c.as_slice-2.ensures.value at c.is_breached_by-is_breached.ensures in (
      c.in_ok-page.page.items,
      record {
        written = c.in_ok-page.page.items;
        drawn = rw c.requires refl;
        appends = appends_keeps _ _ _ _ (rw c.as_slice.ensures.value at c.in_ok-write.ensures.writes) c.in_ok-flush.ensures.writes;
      },
      record {
        items = found.items.items;
        warnings = found.warnings.items;
        end = found.end;
        is = record {
          tiles = c.in_ok-inspection.ensures.tiles;
          read = c.in_ok-inspection.ensures.read;
          sections = c.in_ok-inspection.ensures.sections;
        };
        view = rw c.requires c.in_ok-page.ensures;
        ends = rw breach at c.status_of.ensures.status;
      },
    )
