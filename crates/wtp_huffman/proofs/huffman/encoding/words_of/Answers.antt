use Rattle.std.proofs.Common.{arith, sym}
use Rattle.wtp_huffman.proofs.HuffmanEncoding.{coded_four}
use Rattle.wtp_huffman.proofs.huffman.encoding.words_of.Goals as goal

pub returns-clause-words : goal.returns-clause-words
returns-clause-words c = λ h.
    let first = c.join.ensures.bits (omega arith) in
    let second = c.join-2.ensures.bits (omega arith) in
    let whole = c.join-3.ensures.bits h in (
      rw (whole, first, second, c.word.ensures.bits, c.word-2.ensures.bits, c.word-3.ensures.bits, c.word-4.ensures.bits) (sym (coded_four c.args.four.now (omega arith))),
      c.join-3.ensures.fits h (c.join.ensures.fits (omega arith) c.word.ensures.fits),
    )
