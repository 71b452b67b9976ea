use Rattle.std.proofs.Common.{◌≡◌, ◌+◌, ◌/◌, ◌≤◌, arith, length}
use Rattle.wtp_huffman.proofs.HuffmanEncoding.{begins_cut, whole_out}
use Rattle.wtp_huffman.proofs.huffman.encoding.give_whole.Goals as goal

pub returns-clause-kept : goal.returns-clause-kept
returns-clause-kept c =
    let most : c.args.waiting.count ≤ 64 = c.requires.most in
    let end : c.saturating_sub.result ≡ length c.args.out.now.items + c.args.waiting.count / 8 = omega (arith, c.saturating_sub.ensures, c.len.ensures, c.in_ok-extend_from_slice.ensures.len) in
    rw (c.truncate.ensures.items, c.in_ok-extend_from_slice.ensures.items, c.to_be_bytes.ensures)
    (whole_out c.args.out.now.items c.args.waiting.count c.args.waiting.number c.saturating_sub.result most end)

pub returns-clause-front : goal.returns-clause-front
returns-clause-front c =
    let end : length c.args.out.now.items ≤ c.saturating_sub.result = omega (arith, c.saturating_sub.ensures, c.len.ensures, c.in_ok-extend_from_slice.ensures.len, c.requires.most) in
    rw (c.truncate.ensures.items, c.in_ok-extend_from_slice.ensures.items) (begins_cut c.args.out.now.items _ c.saturating_sub.result end)
