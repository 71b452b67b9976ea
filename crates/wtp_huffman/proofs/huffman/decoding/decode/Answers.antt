use Rattle.std.proofs.Common.{rules, ap, ◌++◌, ◌∙◌}
use Rattle.wtp_huffman.proofs.huffman.decoding.decode.Goals as goal

pub returns-in_err-decode_to-clause-only : goal.returns-in_err-decode_to-clause-only
returns-in_err-decode_to-clause-only c = λ t h.
    let never = c.in_err-decode_to.ensures.only t h in
    search rules

pub returns-clause-only : goal.returns-clause-only
returns-clause-only c = λ t h. c.in_ok-decode_to.ensures.only t h ∙ ap (λ z. z ++ t) c.in_ok-out.ensures.items
