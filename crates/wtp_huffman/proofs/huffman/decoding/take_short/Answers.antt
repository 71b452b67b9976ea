use Rattle.std.proofs.Common.{rules, arith, ℕ, ◌<◌, ◌/◌, refl}
use Rattle.wtp_huffman.specs.HuffmanShort.{short_byte_at}
use Rattle.wtp_huffman.specs.HuffmanPairs.{pair_count_at, pair_second_at}
use Rattle.wtp_huffman.proofs.HuffmanAscii.{pair_ascii, stays}
use Rattle.wtp_huffman.proofs.HuffmanPairs.{limits, takes_pair}
use Rattle.wtp_huffman.proofs.huffman.decoding.take_short.Goals as goal

pub push_some-requires : goal.push_some-requires
push_some-requires c =
    record {
      few = omega (arith, (limits (c.args.waiting / 4503599627370496) (omega (arith, c.requires.short))).some, c.pair_entry-bits.ensures.count);
      room = c.requires.room;
    }

pub overflow_shl-result : goal.overflow_shl-result
overflow_shl-result c = omega (arith, (limits (c.args.waiting / 4503599627370496) (omega (arith, c.requires.short))).most, c.pair_entry-bits.ensures.bits)

pub overflow_sub-result : goal.overflow_sub-result
overflow_sub-result c = omega (arith, (limits (c.args.waiting / 4503599627370496) (omega (arith, c.requires.short))).most, c.pair_entry-bits.ensures.bits, c.from.ensures, c.requires.enough)

pub returns-clause-most : goal.returns-clause-most
returns-clause-most c = omega (arith, (limits (c.args.waiting / 4503599627370496) (omega (arith, c.requires.short))).most, c.pair_entry-bits.ensures.bits, c.from.ensures)

pub returns-clause-taken : goal.returns-clause-taken
returns-clause-taken c = λ is_ascii.
    let i : ℕ = c.args.waiting / 4503599627370496 in
    let first_is = (limits (c.args.waiting / 4503599627370496) (omega (arith, c.requires.short))).first in
    let first : c.pair_entry-bits.result.2 < 256 = search rules in
    let second : c.pair_entry-bits.result.3 < 256 = search rules in
    let small : short_byte_at (c.args.waiting / 4503599627370496 / 16) < 256 = omega (arith, first, c.pair_entry-bits.ensures.first, first_is) in
    let small2 : pair_second_at (c.args.waiting / 4503599627370496) < 256 = omega (arith, second, c.pair_entry-bits.ensures.second) in
    let more = rw first_is at (pair_ascii (pair_count_at i) i (omega (arith, c.requires.short))) in
    rw (c.push_some.ensures.items, c.from.ensures, c.pair_entry-bits.ensures.first, first_is, c.pair_entry-bits.ensures.count, c.pair_entry-bits.ensures.second, c.pair_entry-bits.ensures.bits)
    (takes_pair c.args.out.now.items is_ascii c.args.held c.args.waiting i c.requires.enough c.requires.few c.requires.short c.requires.clear refl small small2 (λ t told. stays is_ascii t _ more told))

pub returns-clause-room : goal.returns-clause-room
returns-clause-room c =
    omega (arith, (limits (c.args.waiting / 4503599627370496) (omega (arith, c.requires.short))).each, (limits (c.args.waiting / 4503599627370496) (omega (arith, c.requires.short))).most, (limits (c.args.waiting / 4503599627370496) (omega (arith, c.requires.short))).some, c.pair_entry-bits.ensures.bits, c.pair_entry-bits.ensures.count, c.from.ensures, c.push_some.ensures.len, c.requires.enough)
