use Rattle.std.proofs.Common.{◌≡◌, drop}
use Rattle.std.specs.List.{list_all}
use Rattle.std.specs.Str.Parse.{digits_value, digits_value_after}
use Rattle.wtp_messages.specs.Length.{is_digit}
use Rattle.wtp_messages.proofs.length.number_in.Given as goal

abbrev pub invariant-loop-byte : goal.invariant-loop-byte
invariant-loop-byte l = record {
  value : digits_value_after 10 l.number (drop l.byte-index l.text) ≡ digits_value 10 l.text;
  digits : list_all is_digit (drop l.byte-index l.text) ≡ list_all is_digit l.text;
}
