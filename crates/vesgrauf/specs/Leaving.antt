-- GOAWAY of a connection (RFC 9114, section 5.2).
use Rattle.std.specs.Prelude.{◌^◌, ◌≤◌, ◌≡◌, ◌⊎◌, ◌||◌, ℕ, Bool, true, false, min, Option, None, Some, Ok, Err}
use Rattle.vesgrauf.specs.declared.connection.Connection.{Connection}
use Rattle.vesgrauf.specs.declared.connection.ids.Ids.{Ids}
use Rattle.vesgrauf.specs.declared.refused.Refused.{Refused}
use Rattle.vesgrauf.specs.declared.refused.Refused.TheVariants as refused
use Rattle.wtp_frames.specs.declared.endpoint.Side.{Side}
use Rattle.wtp_frames.specs.declared.endpoint.Side.TheVariants.{Client, Server}
use Rattle.vesgrauf.specs.Streams.{Says}
use Rattle.vesgrauf.specs.declared.output.Shutdown.{Shutdown}
use Rattle.vesgrauf.specs.declared.output.Shutdown.TheVariants as shutdown
use Rattle.wtp_sending.specs.Control.{after_goaway, goaway_bytes}
use Rattle.wtp_sending.specs.declared.error.SendError.{SendError}
use Rattle.wtp_sending.specs.declared.error.SendError.TheVariants as sending
use Rattle.wtp_sending.specs.declared.control.ControlSending.{ControlSending}
use Rattle.vesgrauf.specs.State.{view_of, refused_by}

abbrev pub is_final : Shutdown → Bool
is_final shutdown.Notice = false
is_final shutdown.Final = true

-- an ID, unless it is above that of the last GOAWAY, which none may be (RFC 9114, section 5.2): then that one
abbrev pub not_above : Option ℕ → ℕ → ℕ
not_above None id = id
not_above (Some last) id = min id last

-- The ID of a GOAWAY (RFC 9114, section 5.2): a push's at a client, which allows none; a request's at a server, of which
-- the greatest rejects none.
abbrev pub goaway_id : Side → Shutdown → Ids → (last : Option ℕ) → ℕ
goaway_id Client phase ids last = 0
goaway_id Server shutdown.Notice ids last = 4611686018427387900
goaway_id Server shutdown.Final ids last = not_above last ids.peer_bidirectional

abbrev pub goaway_for : Shutdown → Connection → ℕ
goaway_for phase c = goaway_id c.config.side phase c.ids c.goaways.goaway

-- GOAWAY is queued on the control stream, and nothing else changes; the last one is followed by the end.
pub record ShutsDown (phase : Shutdown) (c d : Connection) : Type 0 where
  pub may : after_goaway c.goaways (goaway_for phase c) ≡ Ok d.goaways
  pub queued : Says (goaway_bytes (goaway_for phase c)) c.control d.control
  pub view : view_of d ≡ record (view_of c) {
    control = d.control;
    goaways = d.goaways;
    is_leaving = c.is_leaving || is_final phase;
  }

-- Why it is not: an ID below 2^62 is refused by `after_goaway`.
abbrev pub RefusesGoaway : Bool → ControlSending → ℕ → Refused → Type 0
RefusesGoaway true g id e = e ≡ refused.Closed
RefusesGoaway false g id e =
    (e ≡ refused.Memory)
    ⊎ (((2 ^ 62 ≤ id) × (e ≡ refused.Send sending.InvalidId))
    ⊎ ((why : SendError) × (after_goaway g id ≡ Err why) × (e ≡ refused_by why)))
