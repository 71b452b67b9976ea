use Rattle.std.proofs.Common.{rules, ◌+◌, ◌*◌, ◌∷◌, [], ◌++◌, refl}
use Rattle.wt_inspect.proofs.HexLemmas.{second_digit, some_bytes, whole_read}
use Rattle.wt_inspect.proofs.input.take_digit.Goals as goal

pub returns-in-Ok-clause-read : goal.returns-in-Ok-clause-read
returns-in-Ok-clause-read c text r =
    second_digit text c.args.bytes.now.items c.push.new.self.items c.args.half c.args.byte c.args.digit c.in-Some.high c.requires.value (search rules) (search rules) r

pub returns-in-Err-clause-failures : goal.returns-in-Err-clause-failures
returns-in-Err-clause-failures c text r =
    let new = c.args.bytes.now.items ++ (16 * c.in-Some.high + c.args.digit) ∷ [] in
    (new, whole_read _ new (second_digit text c.args.bytes.now.items new c.args.half c.args.byte c.args.digit c.in-Some.high c.requires.value (search rules) refl r), some_bytes c.args.bytes.now.items (16 * c.in-Some.high + c.args.digit))
