-- How many calls return something before one needs more bytes, waits, or says the last of a stream.
use Rattle.std.specs.Prelude.{◌≡◌, ℕ, ◌+◌, Bool, List, [], ◌∷◌, length, drop, Some}
use Rattle.wtp_connection.specs.Receiving.{free_calls}
use Rattle.wtp_webtransport.specs.declared.connection.Connection.{Connection}
use Rattle.wtp_webtransport.specs.declared.stream.Stream.{Stream}
use Rattle.wtp_webtransport.specs.declared.stream.Unread.{Unread}
use Rattle.wtp_webtransport.specs.declared.stream.Unread.TheVariants as unread
use Rattle.wtp_webtransport.specs.Capsules.{Place, IsWithin}
use Rattle.wtp_webtransport.specs.Receiving.{Outcome, Receives}
use Rattle.wtp_webtransport.specs.Calls.{Continues, course_of}

-- a section that could not be read before is returned once
abbrev pub unread_calls : Unread → ℕ
unread_calls unread.Nothing = 0
unread_calls other = 1

-- at most so many calls return something and leave the stream as one that goes on
abbrev pub calls_left : Stream → List ℕ → ℕ
calls_left s bytes = (unread_calls s.unread + free_calls s.frames) + length bytes

-- bytes of the capsule that is read are missing, as of every stream
abbrev pub IsSound : Stream → Type 0
IsSound s = (p : Place) → s.capsules ≡ Some p → IsWithin p

-- each call is on the bytes that the one before left, and goes on
abbrev pub GoOn : ℕ → List Outcome → Connection → Stream → List ℕ → Bool → Type 0
GoOn limit [] c s bytes fin = Unit {0}
GoOn limit (o ∷ os) c s bytes fin =
    Receives limit c s bytes fin o
    × (course_of o.1 ≡ Continues)
    × GoOn limit os o.2 o.3 (drop o.0 bytes) fin
