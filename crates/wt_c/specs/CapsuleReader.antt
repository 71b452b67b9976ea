-- The C interface for reading capsules: the reader, the offsets of a capsule, and the effect of
-- one call.
use Rattle.std.specs.Prelude.{◌≡◌, ℕ, ◌-◌, List, length}
use Rattle.wtp_wire.specs.Capsule.{capsule_number_of}
use Rattle.wtp_wire.specs.CapsuleCursor.{StepIs, CapsulesGoOn}
use Rattle.wtp_wire.specs.declared.capsule.cursor.CapsuleCursor.{CapsuleCursor}
use Rattle.wtp_wire.specs.declared.capsule.cursor.CapsuleSpan.{CapsuleSpan}
use Rattle.wtp_wire.specs.declared.capsule.cursor.CapsuleStep.{CapsuleStep}
use Rattle.wt_c.specs.declared.capsule_reader.WtCapsuleReader.{WtCapsuleReader}
use Rattle.wt_c.specs.declared.capsule_reader.WtCapsule.{WtCapsule}

-- the cursor that a C reader represents
abbrev pub cursor_of : WtCapsuleReader → CapsuleCursor
cursor_of r = record { skip_remaining = r.skip_remaining }

-- the C form of a capsule's offsets
abbrev pub c_capsule : CapsuleSpan → WtCapsule
c_capsule p = record {
  kind = capsule_number_of p.kind;
  offset = p.start;
  len = p.end - p.start;
}

-- this step took the reader from the old state to the new one. Whatever bytes follow, the
-- capsules of the stream and its end are the capsule of this step, if there is one, followed by
-- those of the bytes that were not consumed; after an error, they end with it
pub record Stepped (step : CapsuleStep) (old : WtCapsuleReader) (bytes : List ℕ)
    (new : WtCapsuleReader) : Type 0 where
  pub step_is : StepIs step (cursor_of old) bytes (cursor_of new)
  pub goes_on : CapsulesGoOn step (cursor_of old) bytes (cursor_of new)

-- the reader is between two capsules, and no bytes are left
pub record IsEnd (r : WtCapsuleReader) (rest : List ℕ) : Type 0 where
  pub none_due : r.skip_remaining ≡ 0
  pub none_left : length rest ≡ 0
