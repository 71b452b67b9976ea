use Rattle.std.proofs.Common.{◌/◌, ◌%◌, ◌∷◌, [], ◌++◌, Bool, cond, codes, string_bytes, sym, ap, ◌∙◌}
use Rattle.wt_inspection_views.specs.Escaped.{AppendsFront, digit_of, escaped_byte}
use Rattle.wt_inspection_views.proofs.FrontLemmas.{on_err}
use Rattle.wt_inspection_views.proofs.escaped.add_byte.Goals as goal

pub returns-in_err-push-2-clause-begun : goal.returns-in_err-push-2-clause-begun
returns-in_err-push-2-clause-begun c =
    let b = c.args.byte in
    let digits = digit_of (b / 16) ∷ digit_of (b % 16) ∷ [] in
    let begun : AppendsFront (escaped_byte b) (string_bytes c.args.line.now) (string_bytes c.push-2.new.self) = (codes "\\x", digits, ap (λ (t : Bool). cond t (b ∷ []) (codes "\\x" ++ digits)) (sym c.is_printable.ensures ∙ c.if-is_printable.false), c.in_err-push-2.ensures.bytes ∙ c.in_ok-push_str.ensures.bytes) in
    on_err c.from_residual-in_err-push-2.result _ begun
