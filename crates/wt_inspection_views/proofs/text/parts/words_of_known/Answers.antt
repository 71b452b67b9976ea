use Rattle.std.proofs.Common.{arith, ◌≡◌, ◌++◌, List, ℕ, string_bytes, codes, subst, ap}
use Rattle.std.proofs.lemmas.Grind.{common_steps}
use Rattle.std.specs.List.{flat_map}
use Rattle.wt_inspection_views.specs.Escaped.{IsShown, name_byte}
use Rattle.wt_inspection_views.proofs.text.parts.words_of_known.Goals as goal

pub returns : goal.returns
returns c =
    let value = c.in_ok-add_escaped.ensures.added in
    let name = ap (flat_map name_byte) c.as_slice.ensures.value in
    let words : string_bytes c.add_escaped.new.line ≡ codes "        " ++ flat_map name_byte c.args.field.now.name.items ++ codes " = " ++ value.0 = grind (arith, common_steps, name, value.2) in
    (value.0, subst (λ (bytes : List ℕ). IsShown bytes value.0) c.as_slice-2.ensures.value value.1, words)
