use Rattle.std.proofs.Common.{◌≡◌, ℕ, ◌+◌, ◌*◌, true, Some, None, refl}
use Rattle.std.specs.Prelude.{not, IsTrue}
use Rattle.vesgrauf_registry.specs.Streams.{UniStream}
use Rattle.vesgrauf_registry.specs.Streams.{stream_of, streams}
use Rattle.vesgrauf_registry.specs.Table.{Entry, IsEntry, are_distinct, all_entries}
use Rattle.vesgrauf_registry.proofs.TableLemmas.{among-is, among-misses}
use Rattle.vesgrauf_registry.proofs.ReservedLemmas.{has_form, form_is}
use Rattle.vesgrauf_registry.proofs.laws.stream_types_are_registered.Goals as goal

found : (n : ℕ) (e : Entry UniStream) → stream_of n ≡ Some e → (n ≡ e.number) × IsEntry e streams
unfolding stream_of
found n e h = among-is streams n e h

distinct : IsTrue (are_distinct streams)
unfolding streams
distinct = refl

no_entry : all_entries (λ e. not (has_form 0x1f 0x21 e.number)) streams ≡ true
unfolding streams
no_entry = refl

none_reserved : (n : ℕ) → stream_of (0x1f * n + 0x21) ≡ None
unfolding stream_of
none_reserved n = among-misses (has_form 0x1f 0x21) streams (0x1f * n + 0x21) no_entry (form_is 0x1f 0x21 n)

pub returns-clause-found : goal.returns-clause-found
returns-clause-found c = found

pub returns-clause-one : goal.returns-clause-one
returns-clause-one c = distinct

pub returns-clause-none_reserved : goal.returns-clause-none_reserved
returns-clause-none_reserved c = none_reserved
