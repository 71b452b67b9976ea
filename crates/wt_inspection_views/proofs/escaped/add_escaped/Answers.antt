use Rattle.std.proofs.Common.{string_bytes}
use Rattle.wt_inspection_views.proofs.FrontLemmas.{escaped_front, plain_front}
use Rattle.wt_inspection_views.proofs.escaped.add_escaped.Goals as goal

pub returns-in-Some-clause-begun : goal.returns-in-Some-clause-begun
returns-in-Some-clause-begun c =
    plain_front c.push_str.result c.args.bytes.now c.in-Some.text.now (string_bytes c.args.line.now) (string_bytes c.push_str.new.self) c.in-Some.ensures.plain.1 c.push_str.ensures.bytes

pub returns-in-None-clause-begun : goal.returns-in-None-clause-begun
returns-in-None-clause-begun c =
    escaped_front c.add_each.result c.args.bytes.now (string_bytes c.args.line.now) (string_bytes c.add_each.new.line) c.in-None.ensures.other c.add_each.ensures.begun
