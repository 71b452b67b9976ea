-- What is known of a stream that is judged.
use Rattle.std.specs.Prelude.{ℕ, ◌-◌, ◌==◌, ◌&&◌, nat_lt, if◌then◌else◌, Bool, List, length, take, Option, Some, None}
use Rattle.wtp_webtransport.specs.declared.event.Waits.{Waits}
use Rattle.wtp_webtransport.specs.declared.event.Waits.TheVariants as wait
use Rattle.wt_inspect_verdicts.specs.declared.stream.Stream.{Stream}
use Rattle.wt_inspect_verdicts.specs.declared.verdict.Finding.{Finding}
use Rattle.wt_inspect_verdicts.specs.declared.verdict.Finding.TheVariants as finding

-- the bytes that may be read now: all but those that are hidden at the end
abbrev pub unread_in : Stream → List ℕ
unread_in s = take (length s.rest.now - s.hidden) s.rest.now

-- the stream ends after them
abbrev pub ends_in : Stream → Bool
ends_in s = s.fin && s.hidden == 0

-- for how many insertions a stream waits, if for more than these
abbrev pub need_above : ℕ → Option Waits → Option ℕ
need_above inserted (Some (wait.Table need)) = if nat_lt inserted need then Some need else None
need_above inserted _ = None

-- what is found of a stream that still waits at the end: an answer is for the end that judges to give
abbrev pub found_waiting : Option Waits → Option Finding
found_waiting (Some (wait.Table need)) = Some (finding.Blocked need)
found_waiting (Some (wait.Session session)) = Some (finding.NoSession session)
found_waiting (Some wait.Settings) = Some finding.NoSettings
found_waiting _ = None
