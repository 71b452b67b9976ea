use Rattle.std.proofs.Common.{List, length}
use Rattle.wtp_dynamic.specs.declared.acknowledgment.Acknowledgment.{Acknowledgment}
use Rattle.wtp_dynamic_encoder.specs.Acknowledging.{Leads}
use Rattle.wtp_dynamic_encoder.proofs.decoder_stream.read_instructions.Given as goal

abbrev pub invariant-instructions : goal.invariant-instructions
invariant-instructions l = (is : List Acknowledgment) × Leads is l.inserted l.initial.ledger l.bytes l.ledger l.rest

abbrev pub decreases-instructions : goal.decreases-instructions
decreases-instructions l = length l.rest
