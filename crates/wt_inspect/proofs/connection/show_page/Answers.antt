use Rattle.std.proofs.Common.{List, subst}
use Rattle.wt_inspect_connection.specs.declared.part.Part.{Part}
use Rattle.wt_inspect.specs.PageShown.{ShowsViews}
use Rattle.wt_inspect.proofs.SheetLemmas.{ok_map}
use Rattle.wt_inspect.proofs.connection.show_page.Goals as goal

pub returns-clause-shows : goal.returns-clause-shows
returns-clause-shows g c =
    ok_map _ _ c.show_page.result
    (λ status shown.
    let (text, added, shows) = shown in (
      text,
      added,
      record {
        known = c.in_ok-known.known;
        connection = c.connection-connection.result;
        verdicts = c.in_ok-verdicts.verdicts;
        known_is = c.in_ok-known.ensures;
        connection_is = c.connection-connection.ensures;
        server_ends = c.in_ok-verdicts.ensures.0;
        client_ends = c.in_ok-verdicts.ensures.1;
        shows = subst (λ (x : List Part). ShowsViews c.connection-connection.result c.in_ok-verdicts.verdicts x text status) c.as_slice.ensures.value shows;
      },
    ))
    c.show_page.ensures.shows
