use Rattle.std.proofs.Common.{◌≡◌, drop, map, []}
use Rattle.std.specs.Prelude.{◌∷◌, ◌++◌}
use Rattle.wtp_subprotocols.specs.Strings.{chars_then, char_of, written_string}
use Rattle.wtp_subprotocols.proofs.strings.write_string.Given as goal

abbrev pub invariant-loop-byte : goal.invariant-loop-byte
invariant-loop-byte l =
    l.text.items ++ chars_then (map char_of (drop l.byte-index l.value)) (34 ∷ [])
    ≡ l.fn.text.items ++ written_string l.value
