use Rattle.std.proofs.Common.{ℕ, List, subst}
use Rattle.wt_inspect.specs.SessionsShown.{SumUp}
use Rattle.wt_inspect.proofs.SheetLemmas.{ok_map}
use Rattle.wt_inspect.proofs.connection.Connection.summaries.Goals as goal

pub returns : goal.returns
returns c =
    ok_map _ _ c.summaries_of.result
    (λ summaries are. record {
      ids = c.in_ok-ids.ids.items;
      once = c.in_ok-ids.ensures;
      are = subst (λ (x : List ℕ). SumUp c.args.self.now x summaries.items) c.as_slice.ensures.value (are c.in_ok-named.ensures);
    })
    c.summaries_of.ensures
