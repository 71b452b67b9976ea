use Rattle.std.proofs.Common.{arith, ◌∙◌, refl}
use Rattle.wtp_huffman.proofs.HuffmanTable.{row_facts, found}
use Rattle.wtp_huffman.proofs.huffman.decoding.word_in.Goals as goal

pub overflow_sub-rank : goal.overflow_sub-rank
overflow_sub-rank c = rw c.row_number-row.ensures (row_facts _ c.requires.row.below).most

pub overflow_sub-rank-2 : goal.overflow_sub-rank-2
overflow_sub-rank-2 c = rw c.row_number-row.ensures (found c.args.window _ c.requires.row).rank

pub symbol_number-requires : goal.symbol_number-requires
symbol_number-requires c = rw c.row_number-row.ensures (found c.args.window _ c.requires.row).facts.place

pub overflow_add-row : goal.overflow_add-row
overflow_add-row c = omega (arith, symbol_number-requires c)

pub returns : goal.returns
returns c =
    let f = row_facts _ c.requires.row.below in
    let p = (found c.args.window _ c.requires.row).facts in
    record {
      row = c.args.k;
      in_row = c.requires.row;
      bits_are = rw c.row_number-row.ensures refl;
      symbol_is = c.symbol_number.ensures ∙ rw c.row_number-row.ensures refl;
      least = rw c.row_number-row.ensures f.least;
      most = rw c.row_number-row.ensures f.most;
      known = rw (c.symbol_number.ensures, c.row_number-row.ensures) p.symbol;
    }
