-- The run of a reading state and of the bytes ahead.
--
-- It is the run of the bytes held followed by the bytes ahead, where no more may follow. If payload
-- bytes of an unknown frame are left to skip, it is the run of the bytes after those. The law
-- `run_held_by_bytes` states exactly this.
use Rattle.std.specs.Prelude.{ℕ, ◌+◌, ◌==◌, Bool, false, List, ◌++◌, length, if◌then◌else◌}
use Rattle.wtp_core.specs.declared.error.ErrorCode.TheVariants.{Id, ExcessiveLoad, Frame}
use Rattle.wtp_core.specs.Source.{Source, AtEnd, AtReset, AtDisconnection}
use Rattle.wtp_core.specs.Source as source
use Rattle.wtp_wire.specs.Content.{kind_in}
use Rattle.wtp_wire.specs.Front.{Front, Framed, Unknown, BadId, TooBig, Short}
use Rattle.wtp_wire.specs.Held.{Held, front_held}
use Rattle.wtp_wire.specs.Rule.{Role, rule}
use Rattle.wtp_wire.specs.Run.{Run, Tail, MayGoOn, Ended, WasReset, Lost, Ending, Open, H3, ImmediateFin, Reset, NotConnected, ends, judged, run}

-- how the bytes of a source end
abbrev pub tail_of : source.SourceEnding → Tail
tail_of AtEnd = Ended
tail_of AtReset = WasReset
tail_of AtDisconnection = Lost

-- the ending if there are this many bytes and they are too few for a frame
abbrev pub stop_of : ℕ → Tail → Ending
stop_of n MayGoOn = Open n
stop_of n Ended = if n == 0 then ImmediateFin else H3 Frame
stop_of n WasReset = Reset
stop_of n Lost = NotConnected

-- the run, given the first frame
abbrev pub run_by : Role → Bool → Tail → ℕ → Front → Run
run_by role first tail n (Framed f rest) =
    judged (rule role first (kind_in f)) f (run role false rest tail)
run_by role first tail n (Unknown rest) = run role first rest tail
run_by role first tail n (BadId rest) = ends (H3 Id)
run_by role first tail n (TooBig rest) = ends (H3 ExcessiveLoad)
run_by role first tail n Short = ends (stop_of n tail)

-- the number of bytes held and ahead, plus the number left to skip
abbrev pub count_held : Held → List ℕ → ℕ
count_held h ahead = h.skip_remaining + length (h.taken ++ ahead)

-- the run of the bytes held and ahead
unfoldable pub run_held : Role → Bool → Held → List ℕ → Tail → Run
run_held role first h ahead tail = run_by role first tail (count_held h ahead) (front_held h ahead)

-- the same for the bytes ahead in a source
abbrev pub run_of : Role → Bool → Held → Source → Run
run_of role first h s = run_held role first h s.ahead (tail_of s.ending)

-- the number of bytes held and ahead in a source
abbrev pub size_of : Held → Source → ℕ
size_of h s = length (h.taken ++ s.ahead)
