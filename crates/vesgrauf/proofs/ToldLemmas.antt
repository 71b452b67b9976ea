-- Events that are told.
use Rattle.std.proofs.Common.{◌≡◌, List, Bool, true, false, refl, ap, ◌∙◌}
use Rattle.std.specs.Prelude.{not}
use Rattle.std.specs.List.{filter}
use Rattle.std.proofs.lemmas.Map.Views.{any-filter_same}
use Rattle.vesgrauf.specs.declared.event.Event.{Event}
use Rattle.vesgrauf.specs.State.{closes_stream, go_on}

not_both : (b : Bool) → not b ≡ true → b ≡ false
not_both true p = absurd (let bad : false ≡ true = p in cc)
not_both false p = refl

-- what is left of events by this are last events of streams
closed_alone : (events : List Event) → go_on (filter closes_stream events) ≡ false
closed_alone events = any-filter_same (λ e. not (closes_stream e)) closes_stream false
    (λ e p. not_both (closes_stream e) p) events

pub closed_by : (xs ys : List Event) → ys ≡ filter closes_stream xs → go_on ys ≡ false
closed_by xs ys p = ap go_on p ∙ closed_alone xs
