use Rattle.std.proofs.Common.{arith}
use Rattle.wtp_dynamic.proofs.Storing.{no_words, no_texts}
use Rattle.wtp_dynamic.proofs.stored.take_texts.Goals as goal

pub returns-in_default : goal.returns-in_default
returns-in_default c = no_words c.args.bytes.now (omega (arith, c.in_default.ensures))

pub returns-in_default-take_word : goal.returns-in_default-take_word
returns-in_default-take_word c = no_words c.args.bytes.now (omega (arith, c.in_default-take_word.ensures, c.in-Some.ensures.1))

pub returns-then-not-are_within : goal.returns-then-not-are_within
returns-then-not-are_within c = no_texts c.args.bytes.now c.in-Some.rest.now c.in-Some-take_word.rest.now c.in-Some.name_len c.in-Some-take_word.value_len c.in-Some.ensures.2 c.in-Some-take_word.ensures.2 c.in-Some.ensures.0 c.in-Some-take_word.ensures.0 (omega (arith, c.if-not-are_within.ensures))
