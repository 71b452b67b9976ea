use Rattle.std.proofs.Common.{◌≡◌, take}
use Rattle.std.specs.List.{flat_map}
use Rattle.std.specs.String.{string_bytes}
use Rattle.wt_inspection_views.specs.Escaped.{hex_byte}
use Rattle.wt_inspection_views.proofs.json_lines.object.digits_of.Given as goal

abbrev pub invariant-loop-byte : goal.invariant-loop-byte
invariant-loop-byte l = string_bytes l.digits ≡ flat_map hex_byte (take l.byte-index l.bytes)
