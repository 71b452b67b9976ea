-- What a stream is for, by its ID and its first bytes (RFC 9114, section 6; RFC 9204, section 4.2;
-- draft-ietf-webtrans-http3-02, sections 4.1 and 4.2).
use Rattle.std.specs.Prelude.{ℕ, ◌%◌, ◌==◌, if◌then◌else◌, List, Option, Some, None}
use Rattle.vesgrauf_registry.specs.Streams.{UniStream, stream_of}
use Rattle.vesgrauf_registry.specs.Table.{Entry}
use Rattle.vesgrauf_registry.specs.declared.streams.StreamContent.{StreamContent}
use Rattle.vesgrauf_registry.specs.declared.streams.StreamContent.TheVariants as content
use Rattle.wtp_core.specs.Varint.{number_at}
use Rattle.wt_inspect_connection.specs.Lists.{is_bidirectional}
use Rattle.wt_inspect_connection.specs.declared.purpose.Purpose.{Purpose}
use Rattle.wt_inspect_connection.specs.declared.purpose.Purpose.TheVariants.{Control, Push, Encoder, Decoder, Session, Request, Other}

-- a stream whose session ID is the first number of these bytes: a multiple of 4, since it is the ID
-- of a bidirectional stream that the client opened
abbrev pub session_by : Option (ℕ × List ℕ) → Purpose
session_by None = Other
session_by (Some (id, rest)) = if id % 4 == 0 then Session id else Other

-- a unidirectional stream with this content, without a session
abbrev pub purpose_with : StreamContent → Purpose
purpose_with content.Control = Control
purpose_with content.Push = Push
purpose_with content.Encoder = Encoder
purpose_with content.Decoder = Decoder
purpose_with other = Other

-- a unidirectional stream with this content, by what follows its type
abbrev pub purpose_in : StreamContent → List ℕ → Purpose
purpose_in content.Session rest = session_by (number_at rest)
purpose_in other rest = purpose_with other

abbrev pub purpose_by_entry : Option (Entry UniStream) → List ℕ → Purpose
purpose_by_entry None rest = Other
purpose_by_entry (Some e) rest = purpose_in e.columns.content rest

-- a unidirectional stream, by its type, which is the first number (RFC 9114, section 6.2)
abbrev pub purpose_by_type : Option (ℕ × List ℕ) → Purpose
purpose_by_type None = Other
purpose_by_type (Some (number, rest)) = purpose_by_entry (stream_of number) rest

-- a bidirectional stream without a session, by its ID: the client opens streams for requests, and the
-- server opens none (RFC 9114, section 6.1)
abbrev pub purpose_without : ℕ → Purpose
purpose_without id = if id % 2 == 0 then Request else Other

-- a bidirectional stream, by its first number, which is 0x41 before a session ID
abbrev pub purpose_by_signal : ℕ → Option (ℕ × List ℕ) → Purpose
purpose_by_signal id None = purpose_without id
purpose_by_signal id (Some (number, rest)) =
    if number == 0x41 then session_by (number_at rest) else purpose_without id

-- the stream with this ID, on which the end that opened it sent these bytes first
abbrev pub purpose_of : ℕ → List ℕ → Purpose
purpose_of id bytes =
    if is_bidirectional id then purpose_by_signal id (number_at bytes)
    else purpose_by_type (number_at bytes)
