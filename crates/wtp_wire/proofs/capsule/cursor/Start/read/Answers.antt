use Rattle.std.proofs.Common.{sym, ◌∙◌, arith}
use Rattle.wtp_wire.proofs.AnyCapsuleLemmas.{start_few, start_long, start_part, start_unknown, start_known}
use Rattle.wtp_wire.proofs.capsule.cursor.Start.read.Goals as goal

pub returns-in_default : goal.returns-in_default
returns-in_default c = start_few c.args.bytes.now c.in_default.ensures.found

pub returns-in_default-parse : goal.returns-in_default-parse
returns-in_default-parse c =
    start_unknown c.args.bytes.now _ _ _ c.in-Some.ensures.found c.in-Some.ensures.within c.in-Some.ensures.some
    (sym c.parse.ensures ∙ c.in_default-parse.is)

pub returns-in_default-value_len : goal.returns-in_default-value_len
returns-in_default-value_len c =
    start_long c.args.bytes.now _ _ _ c.in-Some-parse.kind c.in-Some.ensures.found c.in-Some.ensures.within
    (sym c.parse.ensures ∙ c.in-Some-parse.is) c.in_default-value_len.ensures

pub returns-then-len-bytes : goal.returns-then-len-bytes
returns-then-len-bytes c =
    start_part c.args.bytes.now _ _ _ c.in-Some-parse.kind c.in-Some.ensures.found c.in-Some.ensures.within
    (sym c.parse.ensures ∙ c.in-Some-parse.is) c.in-Some-value_len.ensures.1 (omega (arith, c.in-Some-value_len.ensures.0, c.if-len-bytes.true))

pub returns : goal.returns
returns c =
    rw c.in-Some-value_len.ensures.0 (start_known c.args.bytes.now _ _ _ c.in-Some-parse.kind c.in-Some.ensures.found c.in-Some.ensures.within
    (sym c.parse.ensures ∙ c.in-Some-parse.is) c.in-Some-value_len.ensures.1 (omega (arith, c.in-Some-value_len.ensures.0, c.if-len-bytes.false)))
