-- The first thing that a call finds: the run of a stream's bytes as far as that.
use Rattle.std.specs.Prelude.{ℕ, nat_lt, ◌==◌, ◌&&◌, if◌then◌else◌, Bool, true, false, List, [], ◌∷◌, ◌++◌, length, Option, Some, None, Result, Ok, Err}
use Rattle.wtp_frames.specs.First.{first}
use Rattle.wtp_frames.specs.Item.{Byte}
use Rattle.wtp_connection.specs.declared.fault.Fault.{Fault}
use Rattle.wtp_connection.specs.declared.stream.Purpose.{Purpose}
use Rattle.wtp_connection.specs.declared.stream.Stream.{Stream}
use Rattle.wtp_connection.specs.declared.stream.Stream.TheVariants.{Uni, Bi, Frames, Session}
use Rattle.wtp_connection.specs.declared.connection.Connection.{Connection}
use Rattle.wtp_connection.specs.declared.connection.Found.{Found}
use Rattle.wtp_connection.specs.Opening.{uni_at, bi_at}
use Rattle.wtp_connection.specs.Streams.{Seen, Opened, Gave, Broke, StreamRun, rests, followed, all_given, breaks, opens, of_frames, run_open, ended}
use Rattle.wtp_connection.specs.Receiving.{seen_of, rest_after}

-- ---- where the stream goes on

-- what the stream is for
abbrev pub first_purpose : Connection → Purpose → List ℕ → Result (Connection × Stream) Fault → StreamRun
first_purpose c p rest (Ok x) = followed (Opened p ∷ []) (rests x.0 x.1 rest)
first_purpose c p rest (Err f) = breaks c f

abbrev pub first_opening : Connection → Stream → List ℕ → Option (Purpose × List ℕ) → StreamRun
first_opening c s bytes None = rests c s bytes
first_opening c s bytes (Some o) = first_purpose c o.0 o.1 (opens c o.0)

-- the first frame or piece of DATA; of any other stream all is found at once
abbrev pub first_intact : Connection → Stream → List ℕ → StreamRun
first_intact c Uni bytes = first_opening c Uni bytes (uni_at c.endpoint bytes)
first_intact c Bi bytes = first_opening c Bi bytes (bi_at c.endpoint bytes)
first_intact c (Frames r given) bytes = of_frames c given (first r bytes)
first_intact c other bytes = run_open c other bytes

abbrev pub first_seen : Connection → Stream → List ℕ → StreamRun
first_seen c s bytes = if c.over then all_given c s [] else first_intact c s bytes

-- ---- where it ends after these bytes

abbrev pub has_none : List Seen → Bool
has_none [] = true
has_none (x ∷ seen) = false

-- nothing else is found: then it is its end
abbrev pub at_end : Bool → StreamRun → StreamRun
at_end fin x = if fin && has_none x.seen then ended x else x

abbrev pub first_found : Bool → Connection → Stream → List ℕ → StreamRun
first_found fin c s bytes = at_end fin (first_seen c s bytes)

-- ---- what one call finds

abbrev pub found_by : Found → List ℕ → Connection → Stream → StreamRun
found_by x bytes d t =
    record { seen = seen_of x bytes; connection = d; stream = t; left = rest_after x bytes }

-- ---- what is found first, where more bytes follow

-- bytes of DATA, or of a stream of a session, that go on with the next byte
abbrev pub goes_on_in : Stream → Bool
goes_on_in (Frames r given) = nat_lt 0 r.remaining
goes_on_in (Session id) = true
goes_on_in other = false

abbrev pub in_piece : StreamRun → Bool
in_piece x = length x.left == 0 && goes_on_in x.stream

abbrev pub left_over : StreamRun → List ℕ → StreamRun
left_over x more = record {
  seen = x.seen;
  connection = x.connection;
  stream = x.stream;
  left = x.left ++ more;
}

abbrev pub longer : StreamRun → List ℕ → StreamRun
longer x more =
    if in_piece x
    then followed x.seen (first_seen x.connection x.stream more)
    else left_over x more

-- Nothing: then what is left and those bytes say. A piece is longer, if it goes on with them. An error
-- consumes them too.
abbrev pub by_seen : List Seen → StreamRun → List ℕ → StreamRun
by_seen [] x more = first_seen x.connection x.stream (x.left ++ more)
by_seen (Gave (Byte b) ∷ seen) x more = longer x more
by_seen (Broke f ∷ seen) x more = x
by_seen other x more = left_over x more

abbrev pub with_more : StreamRun → List ℕ → StreamRun
with_more x more = by_seen x.seen x more
