use Rattle.std.proofs.Common.{arith, subst}
use Rattle.wtp_dynamic_encoder.specs.Encoding.{State, Ordered}
use Rattle.wtp_dynamic_encoder.proofs.Orders.{resized_by}
use Rattle.wtp_dynamic_encoder.proofs.encoder.QpackEncoder.set_capacity.Goals as goal

pub returns-clause-orders : goal.returns-clause-orders
returns-clause-orders c =
    subst (λ (s : State). Ordered s.table c.set_capacity.new.table c.args.encoder_stream.now.items c.set_capacity.new.out.items) c.self.view_is
    (resized_by c.args.capacity c.self.inside.ledger _ _ _ _ c.set_capacity.result (omega (arith, c.ranges.capacity.fits)) c.set_capacity.ensures)
