-- A piece of DATA that is ahead in the bytes: that it is what a call gives, and the reader after it.
use Rattle.std.specs.Prelude.{◌≡◌, ℕ, ◌+◌, ◌-◌, ◌<◌, ◌==◌, min, if◌then◌else◌, true, List}
use Rattle.wtp_frames.specs.declared.reader.Place.{Place}
use Rattle.wtp_frames.specs.declared.reader.Place.TheVariants.{Body, Tunnel}
use Rattle.wtp_frames.specs.declared.reader.Reader.{Reader}
use Rattle.wtp_frames.specs.declared.reader.Step.TheVariants as step
use Rattle.wtp_frames.specs.declared.reader.ahead.Ahead.{Ahead}
use Rattle.wtp_frames.specs.Reading.{StepIs}
use Rattle.wtp_frames.specs.First.{first, given}

-- after the HEADERS of a message, and in a tunnel: DATA may follow
abbrev pub IsOpen : Place → Type 0
IsOpen Body = Unit {0}
IsOpen Tunnel = Unit {0}
IsOpen other = ⊥

-- the bytes of a payload from an offset on, as many of them as came in bytes of this length
pub record IsPart (at payload len : ℕ) (a : Ahead) : Type 0 where
  pub start : a.start ≡ at
  pub some : at < a.end
  pub end : a.end ≡ at + min payload (len - at)
  pub remaining : a.remaining ≡ payload - (len - at)

-- The reader after a piece, with so many bytes of its frame still to come: DATA with content counts the
-- frames without content from 0.
abbrev pub past_piece : ℕ → Reader → Reader
past_piece n r =
    if r.remaining == 0
    then record r { remaining = n; streamed = true; idle = 0 }
    else record r { remaining = n }

-- it is what the next call gives
pub record IsAhead (a : Ahead) (r : Reader) (bytes : List ℕ) : Type 0 where
  pub gives : StepIs (step.Data a.start a.end) r bytes (past_piece a.remaining r)
  pub exact : given (step.Data a.start a.end) bytes (past_piece a.remaining r) ≡ first r bytes
