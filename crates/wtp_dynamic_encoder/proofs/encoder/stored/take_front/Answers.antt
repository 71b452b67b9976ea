use Rattle.std.proofs.Common.{arith}
use Rattle.wtp_dynamic_encoder.proofs.Remaking.{too_short, no_head, not_received, no_fault, no_bounds, no_held}
use Rattle.wtp_dynamic_encoder.proofs.encoder.stored.take_front.Goals as goal

pub returns-in_default : goal.returns-in_default
returns-in_default c = too_short c.args.bytes.now c.in_default.ensures

pub returns-then-not-is_valid : goal.returns-then-not-is_valid
returns-then-not-is_valid c = no_head c.args.bytes.now c.in-Some.rest.now c.in-Some.head c.in-Some.ensures.1 c.in-Some.ensures.0 c.if-not-is_valid.ensures

pub returns-then-head : goal.returns-then-head
returns-then-head c = not_received c.args.bytes.now c.in-Some.rest.now c.in-Some.head c.in-Some.ensures.1 c.in-Some.ensures.0 (omega arith)

pub returns-then-head-gt5 : goal.returns-then-head-gt5
returns-then-head-gt5 c = no_fault c.args.bytes.now c.in-Some.rest.now c.in-Some.head c.in-Some.ensures.1 c.in-Some.ensures.0 (omega arith)

pub returns-in_default-take : goal.returns-in_default-take
returns-in_default-take c = no_bounds c.args.bytes.now c.in-Some.rest.now c.in-Some.head c.in-Some.ensures.1 c.in-Some.ensures.0 c.in_default-take.ensures

pub returns-then-head-rest : goal.returns-then-head-rest
returns-then-head-rest c = no_held c.args.bytes.now c.in-Some.rest.now c.in-Some-take.rest.now c.in-Some.head c.in-Some-take.bounds c.in-Some.ensures.1 c.in-Some.ensures.0 c.in-Some-take.ensures.1 c.in-Some-take.ensures.0 (omega arith)
