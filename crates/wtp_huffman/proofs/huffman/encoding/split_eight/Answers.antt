use Rattle.std.proofs.Common.{◌≡◌, ◌+◌, arith, length}
use Rattle.wtp_huffman.proofs.HuffmanEncoding.{eight_parts}
use Rattle.wtp_huffman.proofs.huffman.encoding.split_eight.Goals as goal

pub returns : goal.returns
returns c =
    let first = c.in_ok-four.ensures.cases in
    let second = c.in_ok-next.ensures.cases in
    let size : length c.in_ok-next.others.now + 8 ≡ length c.args.text.now = omega (arith, first.2, second.2) in
    (eight_parts c.args.text.now c.in_ok-four.four.now c.in_ok-four.others.now c.in_ok-next.next.now c.in_ok-next.others.now first.0 first.1 second.0 second.1, size)
