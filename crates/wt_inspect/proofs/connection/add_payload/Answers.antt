use Rattle.std.proofs.Common.{◌≡◌, ◌∙◌, eqb-true, length, sym}
use Rattle.wt_inspect.specs.Sheets.{lines_for}
use Rattle.wt_inspect.proofs.ConnectionLemmas.{not_empty, payload_adds, payload_adds_none}
use Rattle.wt_inspect.proofs.connection.add_payload.Goals as goal

pub returns-then-is_empty : goal.returns-then-is_empty
returns-then-is_empty c = λ output.
    let none : length c.args.bytes.now ≡ 0 = eqb-true _ _ (sym c.is_empty.ensures ∙ c.if-is_empty.true) in
    payload_adds_none output (lines_for output c.args.payload c.args.bytes.now) c.args.bytes.now c.args.sheet.now none

pub returns : goal.returns
returns c = λ output.
    let some = not_empty c.args.bytes.now c.is_empty.result c.is_empty.ensures c.if-is_empty.false in
    payload_adds output (lines_for output c.args.payload c.args.bytes.now) c.args.bytes.now c.args.sheet.now c.add_payload_item.new.sheet some (c.add_payload_item.ensures output)
