use Rattle.std.proofs.Common.{ℕ, List, ◌++◌, None, refl, sym, subst}
use Rattle.std.specs.List.Sorted.{IsPermutation}
use Rattle.wt_inspect_connection.specs.declared.list.Sender.TheVariants as sender-is
use Rattle.wt_inspect_connection.specs.declared.part.Part.{Part}
use Rattle.wt_inspect.specs.ConnectionShown.{ShowsParts}
use Rattle.wt_inspect.specs.Connections.{AreSessions, IsTable, parts_from}
use Rattle.wt_inspect.specs.declared.connection.tables.Table.{Table}
use Rattle.wt_inspect.proofs.SheetLemmas.{draws_by, draws_then}
use Rattle.wt_inspect.proofs.connection.show_pieces.Goals as goal

pub returns-clause-shows : goal.returns-clause-shows
returns-clause-shows g c =
    let known = c.in_ok-known.known in
    let k = c.connection-connection.result in
    let is = c.in_ok-known.ensures in
    let of = c.connection-connection.ensures in
    let pieces = c.args.pieces.now in
    let (shown, drawn, parts) = c.in_ok-status.ensures.shows in
    let (rest, more, sums) = c.in_ok-show_sessions.ensures.shows in (
      shown ++ rest,
      draws_by k.arguments.now c.args.arguments.now _ _ (shown ++ rest) of.arguments_are (draws_then _ _ _ _ shown rest drawn more),
      record {
        known = k;
        parts = known.parts.items;
        arguments_are = of.arguments_are;
        pieces_are = of.pieces_are;
        client = subst (λ (t : Table). IsTable pieces sender-is.Client t) (sym of.client) is.client;
        server = subst (λ (t : Table). IsTable pieces sender-is.Server t) (sym of.server) is.server;
        sessions = subst (λ (ids : List ℕ). AreSessions pieces ids) (sym of.sessions) is.sessions;
        parts_are = subst (λ (ids : List ℕ). IsPermutation (parts_from 0 pieces ids pieces) known.parts.items) (sym of.sessions) is.parts;
        order = is.order;
        shown = shown;
        rest = rest;
        text_is = refl;
        shows = subst (λ (x : List Part). ShowsParts k None x shown c.in_ok-status.status) c.as_slice.ensures.value parts;
        sums = sums;
      },
    )
