use Rattle.wt_inspect.proofs.SheetLemmas.{ok_map, text_taken}
use Rattle.wt_inspect.proofs.sheet.Sheet.take.Goals as goal

pub returns-in-Text : goal.returns-in-Text
returns-in-Text c =
    ok_map _ _ c.take_text.result
    (λ written draws output n has.
    text_taken output c.args.colors n c.in-Text.lines c.take_text.new.lines written.items (rw c.in-Text.is at has) draws c.take_text.ensures.none)
    c.take_text.ensures.draws
