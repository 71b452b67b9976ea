use Rattle.wtp_huffman.specs.Huffman.{bits_of}
use Rattle.wtp_huffman.proofs.HuffmanLaws.{one_text, one_string, each_text}
use Rattle.wtp_huffman.proofs.laws.huffman_texts.Goals as goal

pub returns-clause-one_text : goal.returns-clause-one_text
returns-clause-one_text c = λ s t u a b. one_text (bits_of s) t u a b

pub returns-clause-one_string : goal.returns-clause-one_string
returns-clause-one_string c = one_string

pub returns-clause-each_text : goal.returns-clause-each_text
returns-clause-each_text c = each_text
