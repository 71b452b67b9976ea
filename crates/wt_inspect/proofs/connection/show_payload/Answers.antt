use Rattle.std.proofs.Common.{◌≡◌, ◌+◌, [], arith, refl, subst}
use Rattle.std.specs.Prelude.{sum_by}
use Rattle.wt_inspect.specs.ConnectionShown.{payload_items}
use Rattle.wt_inspect.specs.Sheets.{AreLinesOf, lines_for, lines_of}
use Rattle.wt_inspect.proofs.SheetLemmas.{so_far_more, so_far_none, view_with}
use Rattle.wt_inspect.proofs.connection.show_payload.Goals as goal

pub returns-clause-shows : goal.returns-clause-shows
returns-clause-shows g c = λ format has.
    let payload = c.args.arguments.now.has_payload in
    let bytes = c.args.bytes.now in
    let items = payload_items bytes in
    let sum = sum_by (lines_for format payload bytes) items in
    let added = so_far_more format 0 sum [] _ _ (so_far_none format c.args.sheet has) (c.add_payload.ensures format) in
    let ended = so_far_more format _ 1 [] _ _ added (c.add_end.ensures format) in
    let (more, written, are) = c.in_ok-write_all_of.ensures.all format _ [] ended in
    let count : 0 + sum + 1 ≡ lines_of format payload bytes items [] + 1 = omega arith in
    (more, written, view_with format payload bytes bytes items [] more refl (subst (λ n. AreLinesOf format n more) count are), refl)
