use Rattle.wtp_qpack.proofs.StringBits.{huffman_found, huffman_only}
use Rattle.wtp_qpack.proofs.StringLaws.{string_read, string_found, string_size_fault, string_short, string_invalid, string_written}
use Rattle.wtp_qpack.proofs.laws.qpack.string_literals.Goals as goal

pub returns-clause-huffman : goal.returns-clause-huffman
returns-clause-huffman c = λ t s. (huffman_found t s, huffman_only t s)

pub returns-clause-read : goal.returns-clause-read
returns-clause-read c = string_read

pub returns-clause-found : goal.returns-clause-found
returns-clause-found c = string_found

pub returns-clause-length_fault : goal.returns-clause-length_fault
returns-clause-length_fault c = string_size_fault

pub returns-clause-cut : goal.returns-clause-cut
returns-clause-cut c = string_short

pub returns-clause-invalid : goal.returns-clause-invalid
returns-clause-invalid c = string_invalid

pub returns-clause-written : goal.returns-clause-written
returns-clause-written c = string_written
