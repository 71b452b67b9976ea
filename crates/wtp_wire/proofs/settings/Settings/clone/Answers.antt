use Rattle.std.proofs.Common.{◌≡◌, ℕ, List, ◌∷◌, ◌++◌, ap, subst, sym, ◌∙◌}
use Rattle.wtp_wire.specs.Settings.{IsSettings}
use Rattle.wtp_wire.proofs.SettingsLemmas.{known_middle, copied-more}
use Rattle.wtp_wire.proofs.settings.Settings.clone.Goals as goal

pub set-requires : goal.set-requires
set-requires c =
    let settings : IsSettings c.args.self.now = subst (λ (m : List (ℕ × ℕ)). IsSettings m) c.self.view_is c.self.invariant in
    let here : c.loop-number.settings ++ (c.in-Some.number.now, c.in-Some.value.now) ∷ c.next.new.self ≡ c.args.self.now = ap (λ (l : List (ℕ × ℕ)). c.loop-number.settings ++ l) (sym c.in-Some.ensures.steps) ∙ c.loop-number.invariant in
    known_middle c.args.self.now c.loop-number.settings c.next.new.self c.in-Some.number.now c.in-Some.value.now settings here

pub loop-number-preserved : goal.loop-number-preserved
loop-number-preserved c =
    let settings : IsSettings c.args.self.now = subst (λ (m : List (ℕ × ℕ)). IsSettings m) c.self.view_is c.self.invariant in
    let here : c.loop-number.settings ++ (c.in-Some.number.now, c.in-Some.value.now) ∷ c.next.new.self ≡ c.args.self.now = ap (λ (l : List (ℕ × ℕ)). c.loop-number.settings ++ l) (sym c.in-Some.ensures.steps) ∙ c.loop-number.invariant in
    copied-more c.args.self.now c.loop-number.settings c.next.new.self c.set.new.self c.in-Some.number.now c.in-Some.value.now settings here c.in_ok-set.ensures.ok.1
