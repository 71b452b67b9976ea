use Rattle.wtp_dynamic_fields.proofs.StaticSections.{static_prefix, section_back, list_again}
use Rattle.wtp_dynamic_fields.proofs.laws.sections_without_a_table.Goals as goal

pub returns : goal.returns
returns c = record { prefix = static_prefix; section = section_back; again = list_again }
