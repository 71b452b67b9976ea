use Rattle.std.proofs.Common.{◌≡◌, drop, map}
use Rattle.std.specs.Prelude.{Some}
use Rattle.wtp_subprotocols.specs.Subprotocols.{is_fine}
use Rattle.wtp_subprotocols.proofs.subprotocols.check_protocol.Given as goal

abbrev pub invariant-loop-offer : goal.invariant-loop-offer
invariant-loop-offer l =
    is_fine (Some l.chosen) (map (λ o. o.now) (drop l.offer-index l.offered)) ≡ is_fine (Some l.chosen) (map (λ o. o.now) l.offered)
