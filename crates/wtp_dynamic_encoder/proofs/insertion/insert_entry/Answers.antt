use Rattle.std.proofs.Common.{arith}
use Rattle.wtp_dynamic_encoder.proofs.Orders.{ordered_by, owes_by}
use Rattle.wtp_dynamic_encoder.proofs.insertion.insert_entry.Goals as goal

pub returns-clause-orders : goal.returns-clause-orders
returns-clause-orders c =
    ordered_by _ _ _ _ _ _ c.insert_if_may.result c.are_octets.ensures c.are_octets-2.ensures (omega (arith, c.capacity.ensures.value, c.capacity.ensures.within)) c.insert_if_may.ensures

pub returns-clause-owes : goal.returns-clause-owes
returns-clause-owes c = owes_by _ _ _ _ _ _ c.insert_if_may.result c.insert_if_may.ensures
