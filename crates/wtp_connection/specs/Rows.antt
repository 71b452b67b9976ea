-- Settings and types of unidirectional streams, by the rows of the registry.
use Rattle.std.specs.Prelude.{ℕ, ◌&&◌, Bool, true, false, Option, Some, None}
use Rattle.vesgrauf_registry.specs.Settings.{setting_columns}
use Rattle.vesgrauf_registry.specs.Streams.{UniStream, stream_of}
use Rattle.vesgrauf_registry.specs.Table.{Entry}
use Rattle.vesgrauf_registry.specs.declared.settings.Range.{Range}
use Rattle.vesgrauf_registry.specs.declared.settings.Range.TheVariants.{Flag}
use Rattle.vesgrauf_registry.specs.declared.settings.Setting.{Setting}
use Rattle.vesgrauf_registry.specs.declared.streams.StreamContent.{StreamContent}
use Rattle.vesgrauf_registry.specs.declared.streams.StreamContent.TheVariants as content
use Rattle.wtp_connection.specs.declared.stream.Purpose.{Purpose}
use Rattle.wtp_connection.specs.declared.stream.Purpose.TheVariants as purpose

-- ---- settings

abbrev pub is_flag_in : Range → Bool
is_flag_in Flag = true
is_flag_in other = false

abbrev pub is_flag_by : Option Setting → Bool
is_flag_by None = false
is_flag_by (Some s) = s.supported && is_flag_in s.range

-- a setting whose value is used, and is 0 or 1
abbrev pub is_flag_row : ℕ → Bool
is_flag_row n = is_flag_by (setting_columns n)

-- ---- streams

-- a stream of any other content is of an unknown type, as that of a session is if WebTransport is not
-- enabled
abbrev pub purpose_in : StreamContent → Purpose
purpose_in content.Control = purpose.Control
purpose_in content.Push = purpose.Push
purpose_in content.Encoder = purpose.Encoder
purpose_in content.Decoder = purpose.Decoder
purpose_in other = purpose.Ignored

abbrev pub purpose_by : Option (Entry UniStream) → Purpose
purpose_by None = purpose.Ignored
purpose_by (Some e) = purpose_in e.columns.content

-- the purpose of a type
abbrev pub purpose_row : ℕ → Purpose
purpose_row n = purpose_by (stream_of n)

abbrev pub is_session_in : StreamContent → Bool
is_session_in content.Session = true
is_session_in other = false

abbrev pub is_session_by : Option (Entry UniStream) → Bool
is_session_by None = false
is_session_by (Some e) = is_session_in e.columns.content

-- a session ID follows the type
abbrev pub is_session_row : ℕ → Bool
is_session_row n = is_session_by (stream_of n)
