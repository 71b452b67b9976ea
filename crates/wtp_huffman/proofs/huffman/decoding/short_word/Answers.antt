use Rattle.wtp_huffman.proofs.HuffmanWindows.{short_found}
use Rattle.wtp_huffman.proofs.huffman.decoding.short_word.Goals as goal

pub returns : goal.returns
returns c =
    rw (c.from.ensures, c.from-2.ensures, c.short_entry-bits.ensures.bits, c.short_entry-bits.ensures.byte) (short_found c.args.window c.requires)
