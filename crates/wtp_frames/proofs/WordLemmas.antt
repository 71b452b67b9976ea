-- The words of a state are read as that state.
use Rattle.std.proofs.Common.{◌≡◌, ℕ, Bool, true, false, Option, Some, None, refl}
use Rattle.wtp_frames.specs.declared.endpoint.Endpoint.{Endpoint}
use Rattle.wtp_frames.specs.declared.endpoint.Side.{Side}
use Rattle.wtp_frames.specs.declared.endpoint.Side.TheVariants.{Client, Server}
use Rattle.wtp_frames.specs.declared.fault.Fault.{Fault}
use Rattle.wtp_frames.specs.declared.fault.Fault.TheVariants as fault
use Rattle.wtp_frames.specs.declared.reader.Place.{Place}
use Rattle.wtp_frames.specs.declared.reader.Place.TheVariants as place
use Rattle.wtp_frames.specs.declared.reader.Reader.{Reader}
use Rattle.wtp_frames.specs.Words.{flag_number, flag_at, optional_words, optional_at, side_number, side_at, fault_number, fault_at, endpoint_words, endpoint_at, place_words, place_at, reader_words, reader_at}

pub flag_is : (b : Bool) → flag_at (flag_number b) ≡ b
flag_is true = refl
flag_is false = refl

pub optional_is : (o : Option ℕ) → optional_at (optional_words o) ≡ o
optional_is (Some n) = refl
optional_is None = refl

side_is : (s : Side) → side_at (side_number s) ≡ s
side_is Client = refl
side_is Server = refl

pub fault_is : (f : Fault) → fault_at (fault_number f) ≡ f
fault_is fault.ClosedCriticalStream = refl
fault_is fault.FrameUnexpected = refl
fault_is fault.Frame = refl
fault_is fault.ExcessiveLoad = refl
fault_is fault.TooManyInterim = refl
fault_is fault.Id = refl
fault_is fault.MissingSettings = refl
fault_is fault.RequestIncomplete = refl
fault_is fault.Message = refl
fault_is fault.StreamCreation = refl
fault_is fault.BufferedStreamRejected = refl
fault_is fault.SessionGone = refl

pub endpoint_is : (e : Endpoint) → endpoint_at (endpoint_words e) ≡ e
endpoint_is e = rw (side_is e.side, flag_is e.webtransport, flag_is e.datagrams) refl

place_is : (p : Place) → place_at (place_words p) ≡ p
place_is place.BeforeHeaders = refl
place_is place.Body = refl
place_is place.AfterTrailers = refl
place_is place.Tunnel = refl
place_is place.BeforeSettings = refl
place_is (place.AfterSettings goaway push) = rw (optional_is goaway, optional_is push) refl
place_is (place.Failed f) = rw (fault_is f) refl

pub is_read : (r : Reader) → reader_at (reader_words r) ≡ r
is_read r = rw (endpoint_is r.endpoint, place_is r.place, flag_is r.streamed) refl
