use Rattle.std.proofs.Common.{◌≡◌, ◌++◌, codes}
use Rattle.std.specs.List.{flat_map}
use Rattle.wtp_subprotocols.specs.Strings.{strings_of}
use Rattle.wtp_subprotocols.specs.Subprotocols.{offered_in}
use Rattle.wtp_subprotocols.proofs.subprotocols.available_protocols.Given as goal

abbrev pub invariant-loop-line : goal.invariant-loop-line
invariant-loop-line l = strings_of (l.joined.items ++ flat_map (λ line. codes ", " ++ line) l.lines) ≡ offered_in l.request
