-- The field section that is to be acknowledged (RFC 9204, sections 2.2.2.2, 4.4.1 and 4.4.2).
use Rattle.std.specs.Prelude.{ℕ, ◌^◌, ◌==◌, nat_lt, if◌then◌else◌, Bool, false, Option, Some, None}
use Rattle.wtp_webtransport.specs.declared.unacknowledged.Unacknowledged.{Unacknowledged}

-- one that was read, and needed so many insertions
abbrev pub just_read : ℕ → Unacknowledged
just_read required = record { required = required; cancelled = None }

-- the stream with this ID was cancelled since it was read
abbrev pub is_cancelled : Option ℕ → ℕ → Bool
is_cancelled None id = false
is_cancelled (Some other) id = other == id

-- how many insertions the section needed that is to be acknowledged on this stream, which is
-- its own: none if it was cancelled since
abbrev pub due_on : Option Unacknowledged → ℕ → Option ℕ
due_on None id = None
due_on (Some u) id = if is_cancelled u.cancelled id then None else Some u.required

-- Which stream has the section is known once it is acknowledged. So of one stream that is cancelled the
-- ID is kept; of two others one may be its own, and it is not acknowledged.
abbrev pub cancelled_since : Option ℕ → Unacknowledged → ℕ → Option Unacknowledged
cancelled_since None u id = Some (record u { cancelled = Some id })
cancelled_since (Some before) u id = if before == id then Some u else None

-- the section after the cancellation of a stream with this ID, which is below 2^62 (RFC 9000, section 2.1)
abbrev pub after_cancellation : Unacknowledged → ℕ → Option Unacknowledged
after_cancellation u id = if nat_lt id (2 ^ 62) then cancelled_since u.cancelled u id else Some u

abbrev pub still_due : Option Unacknowledged → ℕ → Option Unacknowledged
still_due None id = None
still_due (Some u) id = after_cancellation u id
