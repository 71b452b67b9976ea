use Rattle.std.proofs.Common.{◌∙◌}
use Rattle.wtp_dynamic_encoder.proofs.Lookups.{named_first}
use Rattle.wtp_dynamic_encoder.proofs.choice.literal_for.Goals as goal

pub returns-in-Some-clause-field : goal.returns-in-Some-clause-field
returns-in-Some-clause-field c =
    named_first c.args.proposal.name.now c.args.proposal.value.now c.in-Some.index (c.requires.key.named ∙ c.in-Some.is)
