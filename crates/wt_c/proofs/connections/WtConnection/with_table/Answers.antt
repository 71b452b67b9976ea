use Rattle.std.proofs.Common.{inr}
use Rattle.wt_c.proofs.TableLemmas.{not_empty}
use Rattle.wt_c.proofs.connections.WtConnection.with_table.Goals as goal

pub returns-in-Err : goal.returns-in-Err
returns-in-Err c =
    let some = not_empty c.args.table.now c.is_empty.result c.is_empty.ensures c.if-is_empty.false in
    (λ e. inr (some, c.in-Err.ensures e), λ _. some)
