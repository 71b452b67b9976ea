-- A prefix that was read, without where its lines are.
use Rattle.wtp_dynamic.specs.declared.section.Prefix as code
use Rattle.wtp_dynamic.specs.Section.{Prefix}

abbrev pub prefix_of : code.Prefix → Prefix
prefix_of prefix = record { required = prefix.required; base = prefix.base; lines = prefix.lines.now }
