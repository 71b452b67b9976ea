use Rattle.std.proofs.Common.{sym, ap, ◌∙◌}
use Rattle.wtp_wire.specs.StreamKind.{stream_kind_of}
use Rattle.wt_c.proofs.HeaderLemmas.{none_unknown}
use Rattle.wt_c.proofs.stream_headers.is_header.Goals as goal

pub returns-in_default-parse-clause-none : goal.returns-in_default-parse-clause-none
returns-in_default-parse-clause-none c = λ _. none_unknown c.args.header.now (ap stream_kind_of (sym c.in-Ok.ensures.1) ∙ sym c.parse.ensures.kind ∙ c.in_default-parse.is)
