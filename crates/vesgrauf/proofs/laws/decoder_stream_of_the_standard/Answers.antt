use Rattle.vesgrauf.proofs.InstructionLemmas.{row_section}
use Rattle.vesgrauf.proofs.laws.decoder_stream_of_the_standard.Goals as goal

pub returns-clause-section : goal.returns-clause-section
returns-clause-section c = row_section
