-- What a stream of frames gives.
use Rattle.std.specs.Prelude.{ℕ, List}
use Rattle.wtp_frames.specs.declared.frame_type.FrameType.{FrameType}
use Rattle.wtp_frames.specs.declared.fault.Fault.{Fault}

-- a frame that is given whole, with its payload; one byte of a DATA payload; a field section that
-- is skipped, with its size; or the fault of the stream
pub data Item : Type 0 where
  Whole : FrameType → List ℕ → Item
  Byte : ℕ → Item
  TooLarge : ℕ → Item
  Broken : Fault → Item
