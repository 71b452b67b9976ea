-- The head of a frame, its first two numbers, and what follows it (RFC 9114, section 7.1).
use Rattle.std.specs.Prelude.{◌≡◌, ◌≢◌, ℕ, ◌%◌, ◌≤◌, List, Option, Some, None, nat_lt, ◌==◌, if◌then◌else◌}
use Rattle.wtp_core.specs.Varint.{number_at}
use Rattle.wtp_wire.specs.Limits.{max_payload}
use Rattle.wtp_wire.specs.declared.frame.kind.FrameKind.{FrameKind}
use Rattle.wtp_wire.specs.declared.frame.kind.FrameKind.TheVariants.{WebTransport}
use Rattle.wtp_wire.specs.declared.frame.head.Announcement.{Announcement}
use Rattle.wtp_wire.specs.declared.frame.head.Announcement.TheVariants as announces
use Rattle.wtp_wire.specs.Kind.{kind_of, IsKnown}

-- what follows a head with a type of this kind, or an unknown type, and this second number
abbrev pub announcement_of : Option FrameKind → ℕ → Announcement
announcement_of None n = announces.Skip n
announcement_of (Some WebTransport) n =
    if n % 4 == 0 then announces.Session n else announces.BadSession
announcement_of (Some kind) n =
    if nat_lt max_payload n then announces.TooLong else announces.Payload kind n

-- if a payload follows, its frame is of the given kind, which is known and not WebTransport, and
-- the payload is short enough to be read
abbrev pub AnnouncesKind : Option FrameKind → Announcement → Type 0
AnnouncesKind given (announces.Payload kind n) =
    (given ≡ Some kind) × IsKnown kind × (kind ≢ WebTransport) × (n ≤ max_payload)
AnnouncesKind given other = Unit {0}

-- the result of next for a value, or None
abbrev pub and_then : {A B : Type 0} → Option A → (A → Option B) → Option B
and_then None next = None
and_then (Some x) next = next x

-- what follows the head at the start of the bytes, and the bytes after the head; None if the head
-- is incomplete
unfoldable pub head_at : List ℕ → Option (Announcement × List ℕ)
head_at bytes =
    and_then (number_at bytes)
    (λ id. and_then (number_at id.1) (λ n. Some (announcement_of (kind_of id.0) n.0, n.1)))

-- what follows the head, or Unfinished if it is incomplete
abbrev pub announcement_in : Option (Announcement × List ℕ) → Announcement
announcement_in None = announces.Unfinished
announcement_in (Some x) = x.0

-- what follows the head at the start of the bytes
unfoldable pub announcement_at : List ℕ → Announcement
announcement_at bytes = announcement_in (head_at bytes)
