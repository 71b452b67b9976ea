use Rattle.std.proofs.Common.{◌≡◌, ◌++◌, ◌∷◌, take}
use Rattle.std.specs.List.{flat_map}
use Rattle.std.specs.String.{string_bytes}
use Rattle.wt_inspection_views.specs.Escaped.{hex_byte}
use Rattle.wt_inspection_views.proofs.text.parts.add_digits.Given as goal

abbrev pub invariant-loop-byte : goal.invariant-loop-byte
invariant-loop-byte l =
    string_bytes l.words ≡ string_bytes l.fn.words
    ++ flat_map (λ byte. 32 ∷ hex_byte byte) (take l.byte-index l.bytes)
