-- The states of connections and their streams in numbers of a fixed size, and bytes of a capsule that
-- is cut, as a caller in C keeps them: a number for each variant, from 0 on, 1 and 0 for true and
-- false, and 0 where a variant has no number.
use Rattle.std.specs.Prelude.{◌≡◌, ℕ, ◌+◌, ◌==◌, ◌<◌, if◌then◌else◌, Bool, false, List, [], length, Option, Some, None}
use Rattle.wtp_wire.specs.Settings.{pair_at}
use Rattle.wtp_frames.specs.Words.{flag_number, flag_at, optional_words, optional_at, endpoint_words, endpoint_at}
use Rattle.wtp_connection.specs.Words.{connection_words as streams_words, connection_at as streams_at, stream_words as frames_words, stream_at as frames_at}
use Rattle.wtp_messages.specs.declared.message.Message.{Message}
use Rattle.wtp_messages.specs.declared.response.Asked.{Asked}
use Rattle.wtp_messages.specs.declared.response.Asked.TheVariants as asked
use Rattle.wtp_messages.specs.Words.{asked_number, message_words, message_at, no_message}
use Rattle.wtp_webtransport.specs.Capsules.{Place, Head, Value, Skipping}
use Rattle.wtp_webtransport.specs.declared.capsules.CapsuleType.{CapsuleType}
use Rattle.wtp_webtransport.specs.declared.capsules.CapsuleType.TheVariants as capsule
use Rattle.wtp_webtransport.specs.declared.capsules.words.CapsuleWords.{CapsuleWords}
use Rattle.wtp_webtransport.specs.declared.connection.Connection.{Connection}
use Rattle.wtp_webtransport.specs.declared.connection.words.ConnectionWords.{ConnectionWords}
use Rattle.wtp_webtransport.specs.declared.stream.Stream.{Stream}
use Rattle.wtp_webtransport.specs.declared.stream.Part.{Part}
use Rattle.wtp_webtransport.specs.declared.stream.Part.TheVariants as part
use Rattle.wtp_webtransport.specs.declared.stream.Delay.TheVariants as delay
use Rattle.wtp_webtransport.specs.declared.stream.Unread.{Unread}
use Rattle.wtp_webtransport.specs.declared.stream.Unread.TheVariants as unread
use Rattle.wtp_webtransport.specs.declared.stream.words.PartWords.{PartWords}
use Rattle.wtp_webtransport.specs.declared.stream.words.UnreadWords.{UnreadWords}
use Rattle.wtp_webtransport.specs.declared.stream.words.StreamWords.{StreamWords}

-- ---- the words of a state

-- those of a connection but for its dynamic table

abbrev pub connection_words : Connection → ConnectionWords
connection_words c = record {
  streams = streams_words c.streams;
  endpoint = endpoint_words c.endpoint;
  goaway = optional_words c.goaway;
  extended = flag_number c.extended;
  configured = flag_number c.configured;
  over = flag_number c.over;
  reserved = 0;
  reserved_word = 0;
}

abbrev pub bare_part : ℕ → PartWords
bare_part k = record { message = no_message; size = 0; kind = k; flag = 0 }

abbrev pub message_part : ℕ → Bool → Message → PartWords
message_part k flag m = record {
  message = message_words m;
  size = 0;
  kind = k;
  flag = flag_number flag;
}

abbrev pub part_words : Part → PartWords
part_words part.NoMessage = bare_part 0
part_words part.OfSession = bare_part 1
part_words (part.Head m) = message_part 2 false m
part_words (part.Body m) = message_part 3 false m
part_words (part.Unanswered session m) = message_part 4 session m
part_words part.Tunnel = bare_part 5
part_words (part.Session size) = record (bare_part 6) { size = size }
part_words (part.Closed more) = record (bare_part 7) { flag = flag_number more }
part_words part.Ending = bare_part 8
part_words part.Losing = bare_part 9
part_words part.Past = bare_part 10

abbrev pub unread_words : Unread → UnreadWords
unread_words unread.Nothing = record { size = 0; count = 0; kind = 0 }
unread_words (unread.Early size delay.Settings) = record { size = size; count = 0; kind = 1 }
unread_words (unread.Section size) = record { size = size; count = 0; kind = 2 }
unread_words (unread.Early size (delay.Table required)) =
    record { size = size; count = required; kind = 3 }

abbrev pub asked_words : Option Asked → ℕ
asked_words None = 0
asked_words (Some a) = 1 + asked_number a

abbrev pub type_number : CapsuleType → ℕ
type_number capsule.Datagram = 0
type_number capsule.Close = 1
type_number capsule.Drain = 2

abbrev pub no_capsules : CapsuleWords
no_capsules = record { kind = 0; missing = 0; held = 0 }

abbrev pub capsule_words : Option Place → CapsuleWords
capsule_words None = no_capsules
capsule_words (Some (Head h)) = record { kind = 1; missing = 0; held = length h }
capsule_words (Some (Skipping n)) = record { kind = 2; missing = n; held = 0 }
capsule_words (Some (Value k v n)) =
    record { kind = 3 + type_number k; missing = n; held = length v }

abbrev pub stream_words : Stream → StreamWords
stream_words s = record {
  frames = frames_words s.frames;
  part = part_words s.part;
  unread = unread_words s.unread;
  capsules = capsule_words s.capsules;
  asked = asked_words s.asked;
}

-- the bytes that are held
abbrev pub held_in : Option Place → List ℕ
held_in None = []
held_in (Some (Head h)) = h
held_in (Some (Skipping n)) = []
held_in (Some (Value k v n)) = v

-- no type and length are complete, and bytes of what is skipped are missing, as of every stream
abbrev pub IsSound : Option Place → Type 0
IsSound (Some (Head h)) = pair_at h ≡ None
IsSound (Some (Skipping n)) = 0 < n
IsSound other = Unit {0}

-- these are the words of a stream, and its bytes that are held
pub record AreWordsOf (s : Stream) (words : StreamWords) (held : List ℕ) : Type 0 where
  pub words_are : stream_words s ≡ words
  pub held_are : held_in s.capsules ≡ held

-- ---- the state of words, if they are those of one

abbrev pub connection_at : ConnectionWords → Connection
connection_at w = record {
  streams = streams_at w.streams;
  endpoint = endpoint_at w.endpoint;
  extended = flag_at w.extended;
  configured = flag_at w.configured;
  goaway = optional_at w.goaway;
  over = flag_at w.over;
  decoder = None;
  read = None;
}

-- the connection without its dynamic table
abbrev pub without_table : Connection → Connection
without_table c = record c { decoder = None; read = None }

abbrev pub part_at : PartWords → Part
part_at w =
    if w.kind == 0 then part.NoMessage
    else (if w.kind == 1 then part.OfSession
    else (if w.kind == 2 then part.Head (message_at w.message)
    else (if w.kind == 3 then part.Body (message_at w.message)
    else (if w.kind == 4 then part.Unanswered (flag_at w.flag) (message_at w.message)
    else (if w.kind == 5 then part.Tunnel
    else (if w.kind == 6 then part.Session w.size
    else (if w.kind == 7 then part.Closed (flag_at w.flag)
    else (if w.kind == 8 then part.Ending
    else (if w.kind == 9 then part.Losing
    else part.Past)))))))))

abbrev pub unread_at : UnreadWords → Unread
unread_at w =
    if w.kind == 0 then unread.Nothing
    else (if w.kind == 1 then unread.Early w.size delay.Settings
    else (if w.kind == 2 then unread.Section w.size
    else unread.Early w.size (delay.Table w.count)))

abbrev pub asked_option_at : ℕ → Option Asked
asked_option_at n =
    if n == 0 then None
    else (if n == 1 then Some asked.Head
    else (if n == 2 then Some asked.Connect
    else (if n == 3 then Some asked.Session
    else Some asked.Other)))

abbrev pub head_by : List ℕ → Option ((ℕ × ℕ) × List ℕ) → Option Place
head_by h None = Some (Head h)
head_by h (Some x) = None

abbrev pub head_at : List ℕ → Option Place
head_at h = head_by h (pair_at h)

abbrev pub skipped_at : ℕ → Option Place
skipped_at n = if n == 0 then None else Some (Skipping n)

abbrev pub capsules_at : CapsuleWords → List ℕ → Option Place
capsules_at w held =
    if w.kind == 1 then head_at held
    else (if w.kind == 2 then skipped_at w.missing
    else (if w.kind == 3 then Some (Value capsule.Datagram held w.missing)
    else (if w.kind == 4 then Some (Value capsule.Close held w.missing)
    else (if w.kind == 5 then Some (Value capsule.Drain held w.missing)
    else None))))

abbrev pub stream_at : StreamWords → List ℕ → Stream
stream_at w held = record {
  frames = frames_at w.frames;
  part = part_at w.part;
  asked = asked_option_at w.asked;
  unread = unread_at w.unread;
  capsules = capsules_at w.capsules held;
}
