use Rattle.std.proofs.Common.{◌≡◌, drop, map, []}
use Rattle.std.specs.Prelude.{◌∷◌, ◌++◌}
use Rattle.wtp_subprotocols.specs.Strings.{others_bytes, string_after}
use Rattle.wtp_subprotocols.proofs.subprotocols.write_others.Given as goal

abbrev pub invariant-loop-other : goal.invariant-loop-other
invariant-loop-other l =
    l.text.items ++ others_bytes (map (string_after (32 ∷ [])) (map (λ p. p.now) (drop l.other-index l.others)))
    ≡ l.fn.text.items ++ others_bytes (map (string_after (32 ∷ [])) (map (λ p. p.now) l.others))
