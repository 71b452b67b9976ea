use Rattle.wt_inspect.proofs.SheetLemmas.{all_written, ok_map, so_far_written}
use Rattle.wt_inspect.proofs.showing.write_all_of.Goals as goal

pub returns-clause-some : goal.returns-clause-some
returns-clause-some g c =
    ok_map _ _ c.write.result
    (λ done added format k text far.
    let (drawn, none) = c.in_ok-text.ensures format far.kept far.rest in (
      drawn.text,
      record { written = c.in_ok-text.text.items; drawn = drawn.drawn; appends = rw c.as_slice.ensures.value at added },
      so_far_written format k text _ _ _ far drawn.lines none,
    ))
    c.write.ensures.writes

pub returns-clause-all : goal.returns-clause-all
returns-clause-all g c =
    ok_map _ _ c.write.result
    (λ done added format k text far.
    let (drawn, none) = c.in_ok-text.ensures format far.kept far.rest in (
      drawn.text,
      record { written = c.in_ok-text.text.items; drawn = drawn.drawn; appends = rw c.as_slice.ensures.value at added },
      all_written format k text _ _ far drawn.lines,
    ))
    c.write.ensures.writes
