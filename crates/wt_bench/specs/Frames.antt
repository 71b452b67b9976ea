-- The result of counting frames.
use Rattle.std.specs.Prelude.{ℕ, ℤ, pos, negsuc, length}
use Rattle.wtransport_proto.specs.Run.{Run, Ending, Open, H3, ImmediateFin, Reset, NotConnected}

-- the result after n frames: n if the run ends between frames or may continue, otherwise -1
abbrev pub count_at : Ending → ℕ → ℤ
count_at (Open left) n = pos n
count_at (H3 code) n = negsuc 0
count_at ImmediateFin n = pos n
count_at Reset n = negsuc 0
count_at NotConnected n = negsuc 0

-- the result of counting the frames of a run
abbrev pub count_of : Run → ℤ
count_of r = count_at r.ending (length r.frames)
