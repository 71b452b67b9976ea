-- The bytes received of one frame.
use Rattle.std.specs.Prelude.{◌≡◌, ℕ, ◌<◌, ◌≤◌, List, [], ◌++◌, length}
use Rattle.wtp_wire.specs.declared.frame.kind.FrameKind.{FrameKind}
use Rattle.wtp_wire.specs.declared.frame.head.Announcement.TheVariants as announces
use Rattle.wtp_wire.specs.FrameNeed.{frame_need}
use Rattle.wtp_wire.specs.FramePrefix.{announcement_at}

-- the bytes received of the head, the size allocated for the payload, and the bytes received of the
-- payload
pub record Part : Type 0 where
  pub head : List ℕ
  pub room : ℕ
  pub payload : List ℕ

-- no bytes were received
abbrev pub new_part : Part
new_part = record { head = []; room = 0; payload = [] }

-- all bytes received, in the frame's order
abbrev pub bytes_in : Part → List ℕ
bytes_in p = p.head ++ p.payload

-- The frame is incomplete: if the head is incomplete, nothing is allocated for the payload; a
-- complete head is followed by a payload that is incomplete, and is allocated in full or not at
-- all.
pub record IsReading (p : Part) : Type 0 where
  pub within : length p.head ≤ frame_need p.head
  pub part : length p.payload ≤ p.room
  pub nothing : length p.head < frame_need p.head → p.room ≡ 0
  pub whole :
      frame_need p.head ≤ length p.head
      → (k : FrameKind)
      × (m : ℕ)
      × (announcement_at p.head ≡ announces.Payload k m)
      × (length p.payload < m)
      × (0 < p.room → p.room ≡ m)
