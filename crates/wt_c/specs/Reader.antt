-- The C interface for reading frames: the reader, the offsets of a frame, and the effect of one
-- call.
use Rattle.std.specs.Prelude.{ℕ, ◌-◌, ◌<◌, ◌≤◌, ◌^◌, ◌==◌, if◌then◌else◌, not, Bool, List, unwrap_or}
use Rattle.wtp_wire.specs.Kind.{frame_type_of}
use Rattle.wtransport_proto.specs.FrameCursor.{StepIs, RunGoesOn}
use Rattle.wtp_wire.specs.declared.rules.StreamRole.{StreamRole}
use Rattle.wtp_wire.specs.declared.rules.StreamRole.TheVariants.{BiRemote, BiLocal}
use Rattle.wtp_wire.specs.declared.rules.StreamRole.TheVariants.{UniRemote, Session}
use Rattle.wtransport_proto.specs.declared.stream.cursor.FrameCursor.{FrameCursor}
use Rattle.wtransport_proto.specs.declared.stream.cursor.FrameSpan.{FrameSpan}
use Rattle.wtransport_proto.specs.declared.stream.cursor.CursorStep.{CursorStep}
use Rattle.wt_c.specs.declared.reader.TheConstants.{BI_REMOTE, BI_LOCAL, CONTROL, SESSION}
use Rattle.wt_c.specs.declared.reader.WtReader.{WtReader}
use Rattle.wt_c.specs.declared.reader.WtFrame.{WtFrame}

-- the reader is in a valid state: its kind and its flag are in range, and the number of payload
-- bytes left to skip is below 2^62, as every length is (RFC 9114, section 7.1). wt_reader_new and
-- wt_read_frame produce only such readers
pub record IsReader (r : WtReader) : Type 0 where
  pub kind : r.kind ≤ SESSION
  pub first : r.first ≤ 1
  pub skip_remaining : r.skip_remaining < 2 ^ 62

-- the role of a stream, by its number in C; a number above CONTROL is that of a session's stream
abbrev pub stream_role : ℕ → StreamRole
stream_role n =
    if n == BI_REMOTE then BiRemote
    else (if n == BI_LOCAL then BiLocal else (if n == CONTROL then UniRemote else Session))

-- the C flag is set: its number is not 0
abbrev pub is_first : ℕ → Bool
is_first n = not (n == 0)

-- the cursor that a C reader represents
abbrev pub cursor_of : WtReader → FrameCursor
cursor_of r = record { role = stream_role r.kind; first = is_first r.first; skip_remaining = r.skip_remaining }

-- the C form of a frame's offsets
abbrev pub c_frame : FrameSpan → WtFrame
c_frame p = record {
  kind = frame_type_of p.kind;
  session = unwrap_or p.session_id 0;
  offset = p.start;
  len = p.end - p.start;
}

-- this step took the reader from the old state to the new one. Whatever bytes follow, the run of
-- the stream is the frame of this step, if there is one, followed by the run of the bytes that
-- were not consumed; after an error, the run ends with its error code
pub record Stepped (step : CursorStep) (old : WtReader) (bytes : List ℕ) (new : WtReader)
    : Type 0 where
  pub step_is : StepIs step (cursor_of old) bytes (cursor_of new)
  pub goes_on : RunGoesOn step (cursor_of old) bytes (cursor_of new)
