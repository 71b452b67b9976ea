use Rattle.std.proofs.Common.{rules}
use Rattle.wt_inspect.proofs.HexLemmas.{no_digit, prefix_read}
use Rattle.wt_inspect.proofs.input.take_character.Goals as goal
use Rattle.wt_inspect.proofs.input.take_character.Goals.{else-eq-via-then-eq+else-is_x, else-eq-via-else-eq}

pub returns-then-is_x-clause-read : goal.returns-then-is_x-clause-read
returns-then-is_x-clause-read c text r =
    prefix_read text c.args.bytes.now.items c.args.half c.args.byte (search rules) (search rules) r

pub returns-in-None-clause-failures : goal.returns-in-None-clause-failures
returns-in-None-clause-failures c text rest r =
    no_digit text c.args.bytes.now.items c.args.half c.args.byte rest (search rules) (elim c.else-eq.branch [
      | else-eq-via-then-eq+else-is_x w ↦ λ e. search rules
      | else-eq-via-else-eq w ↦ λ e. search rules
    ]) r
