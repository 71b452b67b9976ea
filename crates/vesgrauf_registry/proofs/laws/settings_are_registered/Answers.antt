use Rattle.std.proofs.Common.{◌≡◌, ℕ, ◌+◌, ◌*◌, true, Some, None, refl}
use Rattle.std.specs.Prelude.{not, IsTrue}
use Rattle.vesgrauf_registry.specs.declared.settings.Setting.{Setting}
use Rattle.vesgrauf_registry.specs.Settings.{setting_of, settings}
use Rattle.vesgrauf_registry.specs.Table.{Entry, IsEntry, are_distinct, all_entries}
use Rattle.vesgrauf_registry.proofs.TableLemmas.{among-is, among-misses}
use Rattle.vesgrauf_registry.proofs.ReservedLemmas.{has_form, form_is}
use Rattle.std.proofs.Common.{arith}
use Rattle.std.proofs.lemmas.Bool.Decides.{nat_tests}
use Rattle.vesgrauf_registry.specs.Settings.{is_http2_by, is_http2_setting, setting_columns}
use Rattle.vesgrauf_registry.specs.Table.{AtEach, IsOther}
use Rattle.vesgrauf_registry.proofs.TableLemmas.{by_entries}
use Rattle.vesgrauf_registry.proofs.laws.settings_are_registered.Goals as goal

found : (n : ℕ) (e : Entry Setting) → setting_of n ≡ Some e → (n ≡ e.number) × IsEntry e settings
unfolding setting_of
found n e h = among-is settings n e h

distinct : IsTrue (are_distinct settings)
unfolding settings
distinct = refl

no_entry : all_entries (λ e. not (has_form 0x1f 0x21 e.number)) settings ≡ true
unfolding settings
no_entry = refl

none_reserved : (n : ℕ) → setting_of (0x1f * n + 0x21) ≡ None
unfolding setting_of
none_reserved n = among-misses (has_form 0x1f 0x21) settings (0x1f * n + 0x21) no_entry (form_is 0x1f 0x21 n)

http2_at_each : AtEach (λ n. is_http2_by (setting_columns n) ≡ is_http2_setting n) settings
unfolding setting_of settings
http2_at_each = search

http2_others : (n : ℕ) → IsOther n settings → is_http2_by (setting_columns n) ≡ is_http2_setting n
unfolding setting_of settings
http2_others n h = grind (arith, nat_tests, h)

pub returns-clause-found : goal.returns-clause-found
returns-clause-found c = found

pub returns-clause-one : goal.returns-clause-one
returns-clause-one c = distinct

pub returns-clause-none_reserved : goal.returns-clause-none_reserved
returns-clause-none_reserved c = none_reserved

pub returns-clause-http2 : goal.returns-clause-http2
returns-clause-http2 c = λ n. by_entries (λ m. is_http2_by (setting_columns m) ≡ is_http2_setting m) settings n http2_at_each (http2_others n)
