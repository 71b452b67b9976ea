use Rattle.std.proofs.Common.{string_bytes, arith}
use Rattle.std.proofs.lemmas.Str.{IsUtf8-string_bytes}
use Rattle.wt_inspection_views.proofs.DigitLemmas.{seen_digits}
use Rattle.wt_inspection_views.proofs.json_lines.object.Object.add_hex.Goals as goal

pub add_digits-requires : goal.add_digits-requires
add_digits-requires c =
    seen_digits c.args.bytes.now (string_bytes c.in-Ok.digits) (λ i. omega (arith, c.type_inv.bytes i)) (IsUtf8-string_bytes c.in-Ok.digits) c.in-Ok.ensures
