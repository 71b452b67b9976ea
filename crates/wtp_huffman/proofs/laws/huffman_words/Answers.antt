use Rattle.wtp_huffman.proofs.HuffmanLaws.{apart, full, ones_long}
use Rattle.wtp_huffman.proofs.laws.huffman_words.Goals as goal

pub returns-clause-apart : goal.returns-clause-apart
returns-clause-apart c = apart

pub returns-clause-ones : goal.returns-clause-ones
returns-clause-ones c = ones_long

pub returns-clause-full : goal.returns-clause-full
returns-clause-full c = full
