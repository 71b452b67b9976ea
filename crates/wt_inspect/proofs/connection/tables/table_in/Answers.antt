use Rattle.std.proofs.Common.{sym, subst}
use Rattle.wt_inspect.proofs.SheetLemmas.{ok_map}
use Rattle.wt_inspect.specs.Connections.{IsTableIn}
use Rattle.wt_inspect.specs.declared.connection.tables.Table.{Table}
use Rattle.wt_inspect.proofs.connection.tables.table_in.Goals as goal

pub returns-in-Err : goal.returns-in-Err
returns-in-Err c =
    ok_map _ _ c.broken.result
    (λ table is. subst (λ (t : Table). IsTableIn c.args.capacity c.args.bytes.now t) (sym is.0) (rw c.instructions_in.ensures at (c.in-Err.ensures is.1)))
    c.broken.ensures
