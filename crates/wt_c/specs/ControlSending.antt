-- The own control stream of a caller in C after SETTINGS (RFC 9114, sections 5.2 and 7.2.6).
use Rattle.std.specs.Prelude.{◌≡◌, ℕ, ◌<◌, ◌≤◌, ◌==◌, ◌^◌, ◌-◌, ◌⊎◌, if◌then◌else◌, true, Option, Some, None, Result, Ok, Err}
use Rattle.wtp_frames.specs.declared.endpoint.Side.{Side}
use Rattle.wtp_frames.specs.declared.endpoint.Side.TheVariants.{Client, Server}
use Rattle.wtp_sending.specs.declared.control.ControlSending.{ControlSending}
use Rattle.wtp_sending.specs.declared.error.SendError.{SendError}
use Rattle.wtp_sending.specs.Control.{after_goaway}

-- the other side: of a client (0) the server, of a server (1) the client
abbrev pub peer_of : ℕ → Side
peer_of n = if n == 0 then Server else Client

-- the largest number of 64 bits says that no GOAWAY was sent
abbrev pub last_goaway : ℕ → Option ℕ
last_goaway n = if n == 2 ^ 64 - 1 then None else Some n

-- the stream after SETTINGS, and after GOAWAY with this ID
abbrev pub control_after : ℕ → ℕ → ControlSending
control_after side last = record { to = peer_of side; settled = true; goaway = last_goaway last }

-- GOAWAY with this ID may not be sent
abbrev pub IsError : Result ControlSending SendError → Type 0
IsError (Ok c) = ⊥
IsError (Err e) = Unit {0}

abbrev pub IsRefused : ℕ → ℕ → ℕ → Type 0
IsRefused side id last = (1 < side)
    ⊎ ((2 ^ 62 ≤ id) ⊎ IsError (after_goaway (control_after side last) id))
