use Rattle.std.proofs.Common.{refl, rules, ap, ◌∙◌, ◌++◌}
use Rattle.std.proofs.lemmas.List.{take_rest}
use Rattle.wtp_qpack.proofs.StringBits.{huffman_none}
use Rattle.wtp_qpack.proofs.StringReading.{ascii_decoded, checked_decoded}
use Rattle.wtp_qpack.proofs.qpack.string_literal.decode.Goals as goal

pub returns-in-Ok-true-clause-read : goal.returns-in-Ok-true-clause-read
returns-in-Ok-true-clause-read c =
    let text = c.in-Ok-true.ensures.found in
    ascii_decoded c.args.texts c.args.body.now c.args.room.now.items _ text.text text.is_coded (text.appended ∙ ap (λ z. z ++ text.text) c.reserve.ensures.items) (rw c.in-Ok-true.field-0-test at text.ascii)

pub returns-in-Ok-false-clause-read : goal.returns-in-Ok-false-clause-read
returns-in-Ok-false-clause-read c =
    let text = c.in-Ok-false.ensures.found in
    checked_decoded c.args.texts c.args.body.now c.args.room.now.items _ text.text _ c.check.result text.is_coded (text.appended ∙ ap (λ z. z ++ text.text) c.reserve.ensures.items) (take_rest c.deref.result.now c.len-start.result ∙ rw (c.deref.ensures.value, c.len-start.ensures) (search rules)) c.check.ensures.read

pub returns-in-Err-Invalid-clause-read : goal.returns-in-Err-Invalid-clause-read
returns-in-Err-Invalid-clause-read c = λ other. rw (huffman_none c.args.body.now (λ t h. cc (c.in-Err-Invalid.ensures.only t h, c.in-Err-Invalid.field-0-is))) refl
