use Rattle.std.proofs.Common.{◌≡◌, ℕ, ◌+◌, ◌*◌, true, Some, None, refl}
use Rattle.std.specs.Prelude.{not, IsTrue}
use Rattle.vesgrauf_registry.specs.declared.capsules.Capsule.{Capsule}
use Rattle.vesgrauf_registry.specs.Capsules.{capsule_of, capsules}
use Rattle.vesgrauf_registry.specs.Table.{Entry, IsEntry, are_distinct, all_entries}
use Rattle.vesgrauf_registry.proofs.TableLemmas.{among-is, among-misses}
use Rattle.vesgrauf_registry.proofs.ReservedLemmas.{has_form, form_is}
use Rattle.vesgrauf_registry.proofs.laws.capsule_types_are_registered.Goals as goal

found : (n : ℕ) (e : Entry Capsule) → capsule_of n ≡ Some e → (n ≡ e.number) × IsEntry e capsules
unfolding capsule_of
found n e h = among-is capsules n e h

distinct : IsTrue (are_distinct capsules)
unfolding capsules
distinct = refl

no_entry : all_entries (λ e. not (has_form 0x29 0x17 e.number)) capsules ≡ true
unfolding capsules
no_entry = refl

none_reserved : (n : ℕ) → capsule_of (0x29 * n + 0x17) ≡ None
unfolding capsule_of
none_reserved n = among-misses (has_form 0x29 0x17) capsules (0x29 * n + 0x17) no_entry (form_is 0x29 0x17 n)

pub returns-clause-found : goal.returns-clause-found
returns-clause-found c = found

pub returns-clause-one : goal.returns-clause-one
returns-clause-one c = distinct

pub returns-clause-none_reserved : goal.returns-clause-none_reserved
returns-clause-none_reserved c = none_reserved
