use Rattle.std.proofs.Common.{arith, refl}
use Rattle.wtp_huffman.specs.Huffman.{low_bits, text_code, IsBytes}
use Rattle.wtp_huffman.proofs.HuffmanEncoding.{IsBytes_from, appended, begins_on, begins_same, coded_eight, coded_next, coded_none, eight_length, ended, goes_on, on_err, whole_length}
use Rattle.wtp_huffman.proofs.huffman.encoding.append.Goals as goal

pub loop-four-init : goal.loop-four-init
unfolding low_bits
loop-four-init c = record { same = refl; few = omega arith; size = omega arith; none = λ e. refl; front = begins_same _ _ refl; capacity = omega arith }

pub loop-four-preserved : goal.loop-four-preserved
loop-four-preserved c =
    let parts = c.in-Some.ensures in
    let added = c.in_ok-waiting.ensures.added in
    record {
      same = goes_on _ _ _ _ _ _ _ _ _ _ _ c.loop-four.invariant.same (coded_eight c.loop-four.rest.now c.in-Some.four.now c.in-Some.next.now c.in-Some.others.now parts.0) added;
      front = begins_on _ _ _ c.loop-four.invariant.front c.add_eight.ensures.front;
      capacity = omega (arith, c.loop-four.invariant.capacity, c.add_eight.ensures.capacity);
      few = added.few;
      size = omega (arith, parts.1, c.loop-four.invariant.size);
      none = λ e. absurd (omega (arith, e, parts.1, c.loop-four.invariant.size));
    }

pub loop-byte-preserved : goal.loop-byte-preserved
loop-byte-preserved c =
    let added = c.in_ok-waiting-2.ensures.added in
    record {
      same = goes_on _ _ _ _ _ _ _ _ _ _ _ c.loop-byte.invariant.same (coded_next c.loop-byte.byte-index c.loop-four.rest.now c.loop-byte-test.true) added;
      front = begins_on _ _ _ c.loop-byte.invariant.front c.add_word.ensures.front;
      capacity = omega (arith, c.loop-byte.invariant.capacity, c.add_word.ensures.capacity);
      few = added.few;
      size = c.loop-byte.invariant.size;
      none = λ e. absurd (omega (arith, e, c.loop-byte-test.true, c.loop-byte.invariant.size));
    }

pub returns-clause-coded : goal.returns-clause-coded
returns-clause-coded c =
    let bytes : IsBytes c.args.text.now = IsBytes_from c.args.text.now (λ i. omega (arith, c.type_inv.text i)) in
    let before : IsBytes c.args.out.now.items = rw c.as_slice.ensures.value at c.are_bytes.ensures in
    let behind : IsBytes c.give_last.new.out.items = rw c.as_slice-2.ensures.value at c.are_bytes-2.ensures in
    let last = c.in_ok-give_last.ensures.last in
    let all = coded_none c.loop-byte.byte-index c.loop-four.rest.now (omega (arith, c.loop-byte-test.false)) in
    appended c.args.text.now c.args.out.now.items c.give_last.new.out.items last.0 bytes before behind last.1 (ended _ _ _ _ _ _ _ _ c.loop-byte.invariant.same all last.2)

pub returns-in_err-waiting-clause-full : goal.returns-in_err-waiting-clause-full
returns-in_err-waiting-clause-full c =
    let parts = c.in-Some.ensures in
    let words = coded_eight c.loop-four.rest.now c.in-Some.four.now c.in-Some.next.now c.in-Some.others.now parts.0 in
    let size = whole_length _ _ _ _ _ _ c.loop-four.invariant.same in
    on_err c.from_residual.result (omega (arith, size, eight_length (text_code c.loop-four.rest.now) (text_code c.in-Some.four.now) (text_code c.in-Some.next.now) (text_code c.in-Some.others.now) words, c.loop-four.invariant.capacity, c.in_err-waiting.ensures.full))

pub returns-in_err-waiting-2-clause-full : goal.returns-in_err-waiting-2-clause-full
returns-in_err-waiting-2-clause-full c =
    on_err c.from_residual-in_err-waiting-2.result (omega (arith, whole_length _ _ _ _ _ _ c.loop-byte.invariant.same, c.loop-byte.invariant.capacity, c.in_err-waiting-2.ensures.full))

pub returns-in_err-give_last-clause-full : goal.returns-in_err-give_last-clause-full
returns-in_err-give_last-clause-full c =
    on_err c.from_residual-in_err-give_last.result (omega (arith, whole_length _ _ _ _ _ _ c.loop-byte.invariant.same, c.loop-byte.invariant.capacity, c.in_err-give_last.ensures.full))
