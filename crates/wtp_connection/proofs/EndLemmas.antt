-- Which streams may not end.
use Rattle.std.proofs.Common.{◌≡◌, ℕ, ◌==◌, Bool, true, false, cond, Result, Ok, Err, refl}
use Rattle.wtp_frames.specs.declared.endpoint.Side.{Side}
use Rattle.wtp_frames.specs.declared.endpoint.Side.TheVariants.{Client, Server}
use Rattle.wtp_frames.specs.declared.fault.Fault.{Fault}
use Rattle.wtp_frames.specs.declared.fault.Fault.TheVariants as fault
use Rattle.wtp_frames.specs.declared.reader.Place.{Place}
use Rattle.wtp_frames.specs.declared.reader.Place.TheVariants.{BeforeHeaders, Body, AfterTrailers, Tunnel, BeforeSettings, AfterSettings, Failed}
use Rattle.wtp_frames.specs.Reading.{by_end, incomplete}
use Rattle.wtp_connection.specs.Opening.{is_control, is_closed}

missing_end : (b : Bool) (whole : Result (Unit {0}) Fault) → is_closed whole ≡ false → is_closed (cond b whole (Err fault.Frame)) ≡ false
missing_end true whole e = e
missing_end false whole e = refl

incomplete_end : (side : Side) → is_closed (Err (incomplete side)) ≡ false
incomplete_end Client = refl
incomplete_end Server = refl

-- the control streams are those whose end says so
pub critical_end : (side : Side) (p : Place) (n : ℕ) → is_closed (by_end side p n) ≡ is_control p
critical_end side BeforeHeaders n = missing_end (n == 0) (Err (incomplete side)) (incomplete_end side)
critical_end side Body n = missing_end (n == 0) (Ok tt) refl
critical_end side AfterTrailers n = missing_end (n == 0) (Ok tt) refl
critical_end side Tunnel n = missing_end (n == 0) (Ok tt) refl
critical_end side BeforeSettings n = refl
critical_end side (AfterSettings goaway push) n = refl
critical_end side (Failed f) n = refl
