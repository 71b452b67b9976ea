use Rattle.std.proofs.Common.{◌<◌, IfSome, take}
use Rattle.wt_inspect.specs.HexReading.{IsRead}
use Rattle.wt_inspect.specs.HexText.{without_blanks}
use Rattle.wt_inspect.proofs.input.read_hex.Given as goal

abbrev pub invariant-loop-byte : goal.invariant-loop-byte
invariant-loop-byte l = record {
  digit : IfSome l.half (λ digit. digit < 16);
  read : IsRead (without_blanks (take l.byte-index l.text)) l.bytes.items l.half;
}
