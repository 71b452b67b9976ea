use Rattle.std.proofs.Common.{◌≡◌, drop, map}
use Rattle.std.specs.List.{list_all}
use Rattle.wtp_subprotocols.specs.Strings.{is_string}
use Rattle.wtp_subprotocols.proofs.subprotocols.are_strings.Given as goal

abbrev pub invariant-loop-value : goal.invariant-loop-value
invariant-loop-value l =
    list_all is_string (map (λ v. v.now) (drop l.value-index l.values)) ≡ list_all is_string (map (λ v. v.now) l.values)
