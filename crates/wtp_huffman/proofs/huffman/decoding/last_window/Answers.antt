use Rattle.std.proofs.Common.{◌≡◌, ◌*◌, ◌-◌, ◌%◌, ◌^◌, arith}
use Rattle.std.proofs.lemmas.Nat.{one_shl, pow_pos}
use Rattle.wtp_huffman.specs.HuffmanDecoding.{waiting_bits}
use Rattle.wtp_huffman.proofs.HuffmanBits.{window_below}
use Rattle.wtp_huffman.proofs.HuffmanWindows.{filled_window}
use Rattle.wtp_huffman.proofs.huffman.decoding.last_window.Goals as goal

pub returns-clause-value : goal.returns-clause-value
returns-clause-value c =
    let mask : 1 * 2 ^ (30 - c.args.held) % 4294967296 ≡ 2 ^ (30 - c.args.held) = one_shl (30 - c.args.held) 32 (omega arith) in
    omega (arith, mask, filled_window c.args.held c.args.waiting c.requires.few (omega arith) c.requires.clear, pow_pos (30 - c.args.held))

pub returns-clause-small : goal.returns-clause-small
returns-clause-small c =
    let mask : 1 * 2 ^ (30 - c.args.held) % 4294967296 ≡ 2 ^ (30 - c.args.held) = one_shl (30 - c.args.held) 32 (omega arith) in
    omega (arith, mask, filled_window c.args.held c.args.waiting c.requires.few (omega arith) c.requires.clear, window_below 30 (waiting_bits c.args.held c.args.waiting))
