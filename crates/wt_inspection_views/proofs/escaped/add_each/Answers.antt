use Rattle.std.proofs.Common.{arith, string_bytes}
use Rattle.wt_inspection_views.specs.Escaped.{escaped_byte}
use Rattle.wt_inspection_views.proofs.FrontLemmas.{front_later, on_err}
use Rattle.wt_inspection_views.proofs.escaped.add_each.Goals as goal

pub returns-in_err-add_byte-clause-begun : goal.returns-in_err-add_byte-clause-begun
returns-in_err-add_byte-clause-begun c =
    on_err _ _ (front_later escaped_byte c.args.bytes.now (string_bytes c.args.line.now) (string_bytes c.loop-byte.line) (string_bytes c.add_byte.new.line) c.loop-byte.byte-index (omega arith) c.loop-byte.invariant c.in_err-add_byte.ensures.begun)
