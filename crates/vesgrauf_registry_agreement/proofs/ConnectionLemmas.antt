-- Connections, by the rows of the tables.
use Rattle.std.proofs.Common.{◌≡◌, ℕ, arith, sym}
use Rattle.vesgrauf_registry.specs.Capsules.{capsule_of}
use Rattle.vesgrauf_registry.specs.Settings.{settings, setting_of, setting_columns}
use Rattle.vesgrauf_registry.specs.Streams.{streams, stream_of}
use Rattle.vesgrauf_registry.specs.Table.{AtEach, IsOther}
use Rattle.vesgrauf_registry.proofs.TableLemmas.{by_entries}
use Rattle.vesgrauf_registry_agreement.specs.Connections.{critical_by, is_supported_by}
use Rattle.wtp_connection.specs.Opening.{is_for_critical, type_purpose}
use Rattle.wtp_connection.specs.Rows.{is_flag_by, purpose_by}
use Rattle.wtp_connection.specs.Settings.{is_flag, is_understood}
use Rattle.wtp_connection.proofs.RowLemmas.{flag_is, purpose_is}
use Rattle.wtp_webtransport.specs.CapsuleRows.{sort_in}
use Rattle.wtp_webtransport.specs.Capsules.{sort_of}
use Rattle.wtp_webtransport.proofs.RowLemmas.{sort_is}

-- ---- streams

pub same_purpose : (n : ℕ) → type_purpose n ≡ purpose_by (stream_of n)
same_purpose n = sym (purpose_is n)

critical_at_each : AtEach (λ n. is_for_critical (type_purpose n) ≡ critical_by (stream_of n)) streams
unfolding stream_of streams
critical_at_each = search

critical_others : (n : ℕ) → IsOther n streams → is_for_critical (type_purpose n) ≡ critical_by (stream_of n)
unfolding stream_of streams
critical_others n h = grind (arith, h)

pub same_critical : (n : ℕ) → is_for_critical (type_purpose n) ≡ critical_by (stream_of n)
same_critical n = by_entries (λ m. is_for_critical (type_purpose m) ≡ critical_by (stream_of m)) streams n critical_at_each (critical_others n)

-- ---- settings

supported_at_each : AtEach (λ n. is_understood n ≡ is_supported_by (setting_columns n)) settings
unfolding setting_of settings
supported_at_each = search

supported_others : (n : ℕ) → IsOther n settings → is_understood n ≡ is_supported_by (setting_columns n)
unfolding setting_of settings
supported_others n h = grind (arith, h)

pub same_supported : (n : ℕ) → is_understood n ≡ is_supported_by (setting_columns n)
same_supported n = by_entries (λ m. is_understood m ≡ is_supported_by (setting_columns m)) settings n supported_at_each (supported_others n)

pub same_flag : (n : ℕ) → is_flag n ≡ is_flag_by (setting_columns n)
same_flag n = sym (flag_is n)

-- ---- capsules

pub same_sort : (n len : ℕ) → sort_of n len ≡ sort_in (capsule_of n) len
same_sort n len = sym (sort_is n len)
