use Rattle.std.proofs.Common.{rules, ◌≡◌, ◌+◌, ◌<◌, ◌-◌, ◌^◌, ◌∷◌, ◌++◌, length, arith, sym, ◌∙◌, ap}
use Rattle.std.proofs.lemmas.List.{take-append-drop}
use Rattle.wtp_huffman.specs.Huffman.{bits_of}
use Rattle.wtp_huffman.specs.HuffmanDecoding.{waiting_bits}
use Rattle.wtp_huffman.proofs.HuffmanDecoding.{byte_in, four_in}
use Rattle.wtp_huffman.proofs.HuffmanWindows.{shifted_in}
use Rattle.wtp_huffman.proofs.huffman.decoding.refill.Goals as goal

pub overflow_add-waiting : goal.overflow_add-waiting
overflow_add-waiting c =
    let fits : c.loop-held.waiting < 2 ^ 64 = omega arith in
    let sum = rw (← c.from.ensures) at (shifted_in c.loop-held.held 32 (32 - c.loop-held.held) c.loop-held.waiting c.number_of.result (omega arith) fits c.loop-held.invariant.clear c.number_of.type_inv).0 in
    omega (arith, sum)

pub loop-held-preserved-in-Some : goal.loop-held-preserved-in-Some
loop-held-preserved-in-Some c =
    let e = c.in-Some.ensures.cases in
    let whole : c.loop-held.rest.now ≡ c.in-Some.front.now ++ c.split_at.result.1.now = rw (e.same, c.split_at.ensures.back) (sym (take-append-drop 4 c.loop-held.rest.now)) in
    let fits : c.loop-held.waiting < 2 ^ 64 = omega arith in
    let total : c.loop-held.held + 32 + (32 - c.loop-held.held) ≡ 64 = omega arith in
    record {
      same = rw c.from.ensures (four_in c.loop-held.held (32 - c.loop-held.held) c.loop-held.waiting c.number_of.result c.in-Some.front.now c.split_at.result.1.now total fits c.loop-held.invariant.clear c.number_of.ensures c.number_of.type_inv)
          ∙ ap (λ z. waiting_bits c.loop-held.held c.loop-held.waiting ++ bits_of z) (sym whole) ∙ c.loop-held.invariant.same;
      clear = rw c.from.ensures (shifted_in c.loop-held.held 32 (32 - c.loop-held.held) c.loop-held.waiting c.number_of.result total fits c.loop-held.invariant.clear c.number_of.type_inv).1;
      few = omega arith;
      size = omega (arith, c.split_at.ensures.back_len, c.loop-held.invariant.size);
    }

pub overflow_add-waiting-in-Some-split_first : goal.overflow_add-waiting-in-Some-split_first
overflow_add-waiting-in-Some-split_first c =
    let small : c.in-Some-split_first.byte.now < 256 = search rules in
    let fits : c.loop-held.waiting < 2 ^ 64 = omega arith in
    let sum = rw (← c.from-in-Some-split_first.ensures) at (shifted_in c.loop-held.held 8 (56 - c.loop-held.held) c.loop-held.waiting c.in-Some-split_first.byte.now (omega arith) fits c.loop-held.invariant.clear small).0 in
    omega (arith, sum)

pub loop-held-preserved : goal.loop-held-preserved
loop-held-preserved c =
    let small : c.in-Some-split_first.byte.now < 256 = search rules in
    let rest : c.loop-held.rest.now ≡ c.in-Some-split_first.byte.now ∷ c.in-Some-split_first.others.now = c.in-Some-split_first.ensures.cases.0 in
    let fits : c.loop-held.waiting < 2 ^ 64 = omega arith in
    let total : c.loop-held.held + 8 + (56 - c.loop-held.held) ≡ 64 = omega arith in
    record {
      same = rw c.from-in-Some-split_first.ensures (byte_in c.loop-held.held (56 - c.loop-held.held) c.loop-held.waiting c.in-Some-split_first.byte.now c.in-Some-split_first.others.now total fits c.loop-held.invariant.clear small)
          ∙ ap (λ z. waiting_bits c.loop-held.held c.loop-held.waiting ++ bits_of z) (sym rest) ∙ c.loop-held.invariant.same;
      clear = rw c.from-in-Some-split_first.ensures (shifted_in c.loop-held.held 8 (56 - c.loop-held.held) c.loop-held.waiting c.in-Some-split_first.byte.now total fits c.loop-held.invariant.clear small).1;
      few = omega arith;
      size = omega (arith, ap length rest, c.loop-held.invariant.size);
    }
