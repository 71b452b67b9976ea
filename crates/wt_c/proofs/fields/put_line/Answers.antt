use Rattle.std.proofs.Common.{◌≡◌, rules, take, drop, length}
use Rattle.wt_c.proofs.FieldLemmas.{line_put, put_is}
use Rattle.wt_c.proofs.fields.put_line.Goals as goal

pub returns-clause-put : goal.returns-clause-put
returns-clause-put c = λ few short.
    let one = c.in-Some.ensures in
    let two = c.put_text-2.ensures in
    let text : take (length c.args.value.now) (drop c.in-Some.name_end c.put_text-2.new.out) ≡ c.args.value.now = search rules in
    line_put c.args.fields.now c.args.texts.now c.put_text.new.out c.put_text-2.new.out c.args.n c.args.at c.in-Some.name_end c.args.name.now c.args.value.now one.end.0
    (put_is _ _ _ _ one.front one.text one.after) (put_is _ _ _ _ two.front text two.after)
