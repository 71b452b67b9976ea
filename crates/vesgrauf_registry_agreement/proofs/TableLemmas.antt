-- Stream types, settings and capsule types, by their rows.
use Rattle.std.proofs.Common.{◌≡◌, ℕ, false, option_map, arith}
use Rattle.std.proofs.lemmas.Bool.Decides.{nat_tests}
use Rattle.vesgrauf_registry.specs.Capsules.{capsules, capsule_of}
use Rattle.vesgrauf_registry.specs.Settings.{settings, setting_of, setting_columns, is_http2_by}
use Rattle.vesgrauf_registry.specs.Streams.{streams, stream_of}
use Rattle.vesgrauf_registry.specs.Table.{AtEach, IsOther}
use Rattle.vesgrauf_registry.proofs.TableLemmas.{by_entries}
use Rattle.vesgrauf_registry_agreement.specs.Views.{stream_kind_by, setting_name_by, capsule_kind_by, longest_by}
use Rattle.wtp_wire.specs.Capsule.{capsule_kind_of, max_value_len}
use Rattle.wtp_wire.specs.Kind.{is_exercise}
use Rattle.wtp_wire.specs.SettingId.{is_reserved, setting_id_of, setting_name_of}
use Rattle.wtp_wire.specs.StreamKind.{stream_kind_of}

-- ---- streams

streams_at_each : AtEach (λ n. stream_kind_of n ≡ stream_kind_by (stream_of n)) streams
unfolding stream_of streams stream_kind_of
streams_at_each = search

streams_others : (n : ℕ) → is_exercise n ≡ false → IsOther n streams → stream_kind_of n ≡ stream_kind_by (stream_of n)
unfolding stream_of streams stream_kind_of
streams_others n x h = grind (arith, h, x)

pub same_stream : (n : ℕ) → is_exercise n ≡ false → stream_kind_of n ≡ stream_kind_by (stream_of n)
same_stream n x = by_entries (λ m. stream_kind_of m ≡ stream_kind_by (stream_of m)) streams n streams_at_each (streams_others n x)

-- ---- settings

http2_at_each : AtEach (λ n. is_reserved n ≡ is_http2_by (setting_columns n)) settings
unfolding setting_of settings
http2_at_each = search

http2_others : (n : ℕ) → IsOther n settings → is_reserved n ≡ is_http2_by (setting_columns n)
unfolding setting_of settings
http2_others n h = grind (arith, nat_tests, h)

pub same_http2 : (n : ℕ) → is_reserved n ≡ is_http2_by (setting_columns n)
same_http2 n = by_entries (λ m. is_reserved m ≡ is_http2_by (setting_columns m)) settings n http2_at_each (http2_others n)

abbrev SameName : ℕ → Type 0
SameName n = option_map (λ s. setting_name_of s) (setting_id_of n) ≡ setting_name_by (setting_of n)

names_at_each : AtEach SameName settings
unfolding setting_of settings setting_id_of
names_at_each = search

names_others : (n : ℕ) → is_exercise n ≡ false → IsOther n settings → SameName n
unfolding setting_of settings setting_id_of
names_others n exercise h = grind (arith, h, exercise)

pub same_name : (n : ℕ) → is_exercise n ≡ false → option_map (λ s. setting_name_of s) (setting_id_of n) ≡ setting_name_by (setting_of n)
same_name n exercise = by_entries SameName settings n names_at_each (names_others n exercise)

-- ---- capsules

capsules_at_each : AtEach (λ n. capsule_kind_of n ≡ capsule_kind_by (capsule_of n)) capsules
unfolding capsule_of capsules
capsules_at_each = search

capsules_others : (n : ℕ) → IsOther n capsules → capsule_kind_of n ≡ capsule_kind_by (capsule_of n)
unfolding capsule_of capsules
capsules_others n h = grind (arith, h)

pub same_capsule : (n : ℕ) → capsule_kind_of n ≡ capsule_kind_by (capsule_of n)
same_capsule n = by_entries (λ m. capsule_kind_of m ≡ capsule_kind_by (capsule_of m)) capsules n capsules_at_each (capsules_others n)

abbrev SameLongest : ℕ → Type 0
SameLongest n = option_map (λ k. max_value_len k) (capsule_kind_of n) ≡ longest_by (capsule_of n)

longest_at_each : AtEach SameLongest capsules
unfolding capsule_of capsules
longest_at_each = search

longest_others : (n : ℕ) → IsOther n capsules → SameLongest n
unfolding capsule_of capsules
longest_others n h = grind (arith, h)

pub same_longest : (n : ℕ) → option_map (λ k. max_value_len k) (capsule_kind_of n) ≡ longest_by (capsule_of n)
same_longest n = by_entries SameLongest capsules n longest_at_each (longest_others n)
