use Rattle.std.proofs.Common.{◌≡◌, ◌++◌, codes}
use Rattle.std.specs.Prelude.{Some}
use Rattle.std.specs.List.{flat_map}
use Rattle.wtp_messages.specs.Cookie.{cookie_of}
use Rattle.wtp_messages.proofs.cookie.cookie.Given as goal

abbrev pub invariant-loop-value : goal.invariant-loop-value
invariant-loop-value l = Some (l.joined.items ++ flat_map (λ value. codes "; " ++ value) l.values) ≡ cookie_of l.list
