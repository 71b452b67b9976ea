-- Which settings are flags, and what a stream is for, follow from the rows.
use Rattle.std.proofs.Common.{arith, ◌≡◌, ◌==◌, ℕ}
use Rattle.vesgrauf_registry.specs.Settings.{settings, setting_of}
use Rattle.vesgrauf_registry.specs.Streams.{streams, stream_of}
use Rattle.vesgrauf_registry.specs.Table.{AtEach, IsOther}
use Rattle.vesgrauf_registry.proofs.TableLemmas.{by_entries}
use Rattle.wtp_connection.specs.Opening.{type_purpose}
use Rattle.wtp_connection.specs.Rows.{is_flag_row, is_session_row, purpose_row}
use Rattle.wtp_connection.specs.Settings.{is_flag}

-- ---- settings

flag_at_each : AtEach (λ n. is_flag_row n ≡ is_flag n) settings
unfolding setting_of settings
flag_at_each = search

flag_others : (n : ℕ) → IsOther n settings → is_flag_row n ≡ is_flag n
unfolding setting_of settings
flag_others n h = grind (arith, h)

pub flag_is : (n : ℕ) → is_flag_row n ≡ is_flag n
flag_is n = by_entries (λ m. is_flag_row m ≡ is_flag m) settings n flag_at_each (flag_others n)

-- ---- streams

purpose_at_each : AtEach (λ n. purpose_row n ≡ type_purpose n) streams
unfolding stream_of streams
purpose_at_each = search

purpose_others : (n : ℕ) → IsOther n streams → purpose_row n ≡ type_purpose n
unfolding stream_of streams
purpose_others n h = grind (arith, h)

pub purpose_is : (n : ℕ) → purpose_row n ≡ type_purpose n
purpose_is n = by_entries (λ m. purpose_row m ≡ type_purpose m) streams n purpose_at_each (purpose_others n)

session_at_each : AtEach (λ n. is_session_row n ≡ (n == 0x54)) streams
unfolding stream_of streams
session_at_each = search

session_others : (n : ℕ) → IsOther n streams → is_session_row n ≡ (n == 0x54)
unfolding stream_of streams
session_others n h = grind (arith, h)

pub session_is : (n : ℕ) → is_session_row n ≡ (n == 0x54)
session_is n = by_entries (λ m. is_session_row m ≡ (m == 0x54)) streams n session_at_each (session_others n)
