-- In which order the streams of a recorded connection are judged.
use Rattle.std.specs.Prelude.{ℕ, if◌then◌else◌}
use Rattle.wt_inspect_connection.specs.Lists.{is_bidirectional}
use Rattle.wt_inspect_connection.specs.declared.purpose.Purpose.{Purpose}
use Rattle.wt_inspect_connection.specs.declared.purpose.Purpose.TheVariants as purpose-is
use Rattle.wt_inspect_verdicts.specs.declared.turn.Rank.{Rank}
use Rattle.wt_inspect_verdicts.specs.declared.turn.Rank.TheVariants.{Control, Unidirectional, Message, Session}

-- control streams come first, then those of QPACK and of no session, then messages, and then the
-- streams of sessions
abbrev pub rank_of : ℕ → Purpose → Rank
rank_of id purpose-is.Control = Control
rank_of id purpose-is.Encoder = Unidirectional
rank_of id purpose-is.Decoder = Unidirectional
rank_of id purpose-is.Push = Unidirectional
rank_of id purpose-is.Request = Message
rank_of id (purpose-is.Session session) = Session
rank_of id purpose-is.Other = if is_bidirectional id then Session else Unidirectional
