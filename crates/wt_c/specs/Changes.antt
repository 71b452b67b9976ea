-- What becomes of a stream, and the struct of one whose held bytes are not passed.
use Rattle.std.specs.Prelude.{◌==◌, nat_lt, ◌||◌, if◌then◌else◌, replicate}
use Rattle.wtp_webtransport.specs.declared.connection.Connection.{Connection}
use Rattle.wtp_webtransport.specs.declared.stream.Stream.{Stream}
use Rattle.wtp_webtransport.specs.declared.capsules.words.CapsuleWords.{CapsuleWords}
use Rattle.wtp_webtransport.specs.declared.stream.words.StreamWords.{StreamWords}
use Rattle.wtp_webtransport.specs.Words.{stream_words}
use Rattle.wt_c.specs.declared.connections.streams.WtStream.{WtStream}
use Rattle.wtp_webtransport.specs.Joining.{Outcome, joins, resets, stops_half, abandons, overflows}
use Rattle.wt_c.specs.declared.connections.changes.Change.{Change}
use Rattle.wt_c.specs.declared.connections.changes.Change.TheVariants as change

abbrev pub changed : Change → Connection → Stream → Outcome
changed (change.Join k) c s = joins c s k
changed change.Reset c s = resets c s
changed change.Stop c s = stops_half c s
changed change.Abandon c s = abandons c s
changed change.Overflow c s = overflows c s

-- a capsule that is cut, in place of whichever is
abbrev pub blank_capsules : CapsuleWords → CapsuleWords
blank_capsules w =
    if (w.kind == 0) || nat_lt 5 w.kind then w else record { kind = 2; missing = 1; held = 0 }

abbrev pub blank_words : StreamWords → StreamWords
blank_words w = record w { capsules = blank_capsules w.capsules }

-- the words of a stream that was made blank and changed: its capsules are those from before, if it
-- has any
abbrev pub restored_capsules : CapsuleWords → CapsuleWords → CapsuleWords
restored_capsules old w = if w.kind == 0 then w else old

abbrev pub restored : WtStream → Stream → WtStream
restored old s = record {
  words = record (stream_words s) {
    capsules = restored_capsules old.words.capsules (stream_words s).capsules;
  };
  reserved = replicate 3 0;
}
