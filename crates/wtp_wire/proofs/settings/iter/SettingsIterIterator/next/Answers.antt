use Rattle.std.proofs.Common.{ℕ, IsTrue, ap}
use Rattle.std.proofs.lemmas.List.Elements.{All-rest}
use Rattle.std.specs.Map.{keys_of}
use Rattle.wtp_wire.specs.SettingId.{is_setting}
use Rattle.wtp_wire.proofs.settings.iter.SettingsIterIterator.next.Goals as goal

pub invariant_of-self-2 : goal.invariant_of-self-2
invariant_of-self-2 c = All-rest (λ (id : ℕ). IsTrue (is_setting id)) c.in_ok-number.number.now (keys_of c.next.new.self) (keys_of c.self.inside.entries) (ap keys_of c.in_ok-number.ensures.steps) c.self.invariant
