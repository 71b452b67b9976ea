use Rattle.std.proofs.Common.{◌≡◌, ◌+◌, arith, rules, refl, length, take, drop}
use Rattle.wtp_huffman.specs.Huffman.{text_code, coded_len}
use Rattle.wtp_huffman.proofs.HuffmanLengths.{coded_split, no_words, huffman_length}
use Rattle.wtp_huffman.proofs.huffman.encoding.encoded_len.Goals as goal

pub loop-rest-preserved : goal.loop-rest-preserved
loop-rest-preserved c =
    let front : c.word_bits-bits.result ≡ length (text_code (take c.min.result c.loop-rest.rest.now)) = rw (← c.split_at.ensures.front) c.word_bits-bits.ensures.value in
    let behind : length (text_code c.split_at.result.1.now) ≡ length (text_code (drop c.min.result c.loop-rest.rest.now)) = rw c.split_at.ensures.back refl in
    record {
      so_far = omega (arith, coded_split c.loop-rest.rest.now c.min.result, front, behind, c.loop-rest.invariant.so_far, c.in_ok-bytes.ensures.1);
      few = omega arith;
      fits = omega (arith, c.in_ok-bytes.ensures.0, c.in_ok-bytes.ensures.1);
    }

pub returns-in_err-bytes-clause-value : goal.returns-in_err-bytes-clause-value
returns-in_err-bytes-clause-value c =
    let front : c.word_bits-bits.result ≡ length (text_code (take c.min.result c.loop-rest.rest.now)) = rw (← c.split_at.ensures.front) c.word_bits-bits.ensures.value in
    rw c.from_residual.ensures (λ fits. c.in_err-bytes.ensures
    (omega (arith, fits, coded_split c.loop-rest.rest.now c.min.result, front, c.loop-rest.invariant.so_far)))

pub returns-in_err-bytes-clause-length : goal.returns-in_err-bytes-clause-length
returns-in_err-bytes-clause-length c = huffman_length c.args.text.now

pub returns-then-bits-gt0-clause-value : goal.returns-then-bits-gt0-clause-value
returns-then-bits-gt0-clause-value c =
    let none = no_words c.loop-rest.rest.now (search rules) in
    let len : coded_len c.args.text.now ≡ c.loop-rest.bytes + 1 = omega (arith, none, c.loop-rest.invariant.so_far, c.loop-rest.invariant.few, c.if-bits-gt0.true) in
    rw len c.checked_add-then-bits-gt0.ensures

pub returns-then-bits-gt0-clause-length : goal.returns-then-bits-gt0-clause-length
returns-then-bits-gt0-clause-length c = huffman_length c.args.text.now

pub returns-else-bits-gt0-clause-value : goal.returns-else-bits-gt0-clause-value
returns-else-bits-gt0-clause-value c =
    let none = no_words c.loop-rest.rest.now (search rules) in
    let all = c.loop-rest.invariant.so_far in
    (omega (arith, none, all, c.if-bits-gt0.false, c.loop-rest.invariant.fits), omega (arith, none, all, c.if-bits-gt0.false))

pub returns-else-bits-gt0-clause-length : goal.returns-else-bits-gt0-clause-length
returns-else-bits-gt0-clause-length c = huffman_length c.args.text.now
