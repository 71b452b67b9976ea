use Rattle.std.proofs.Common.{◌≡◌, ◌++◌, take}
use Rattle.std.specs.List.{flat_map}
use Rattle.std.specs.String.{string_bytes}
use Rattle.wt_inspection_views.specs.Escaped.{name_byte}
use Rattle.wt_inspection_views.proofs.escaped.add_name.Given as goal

abbrev pub invariant-loop-byte : goal.invariant-loop-byte
invariant-loop-byte l =
    string_bytes l.line ≡ string_bytes l.fn.line ++ flat_map name_byte (take l.byte-index l.name)
