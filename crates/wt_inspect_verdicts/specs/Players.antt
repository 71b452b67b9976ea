-- The end that judges.
use Rattle.std.specs.Prelude.{◌≡◌, ℕ, Option, Some, None}
use Rattle.std.specs.Ordering.{nat_cmp}
use Rattle.std.specs.Map.{lookup}
use Rattle.std.specs.BTreeMap.{is_at}
use Rattle.vesgrauf.specs.Inputs.{Brings}
use Rattle.vesgrauf.specs.declared.input.Input.{Input}
use Rattle.vesgrauf.specs.declared.input.Report.TheVariants as report
use Rattle.wt_inspect_verdicts.specs.Streams.{unread_in, ends_in}
use Rattle.wt_inspect_verdicts.specs.declared.player.Player.{Player}
use Rattle.wt_inspect_verdicts.specs.declared.stream.Stream.{Stream}

-- the stream with this ID
abbrev pub stream_in : Player → ℕ → Option Stream
stream_in p id = lookup (is_at (nat_cmp id)) p.streams.entries

-- what the connection is given of the stream with this ID, if there is one: the bytes that may be read now
abbrev pub Reads : ℕ → Option Stream → Option Input → Type 0
Reads id None given = given ≡ None
Reads id (Some s) None = ⊥
Reads id (Some s) (Some i) = Brings (report.Stream id) (unread_in s) (ends_in s) i
