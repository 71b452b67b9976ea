-- The states of readers in numbers of a fixed size, as a caller in C keeps them: a number for each
-- variant, from 0 on, 1 and 0 for true and false, and 0 where a variant has no number.
use Rattle.std.specs.Prelude.{ℕ, ◌==◌, not, if◌then◌else◌, Bool, true, false, Option, Some, None}
use Rattle.wtp_frames.specs.declared.endpoint.Endpoint.{Endpoint}
use Rattle.wtp_frames.specs.declared.endpoint.Side.{Side}
use Rattle.wtp_frames.specs.declared.endpoint.Side.TheVariants.{Client, Server}
use Rattle.wtp_frames.specs.declared.fault.Fault.{Fault}
use Rattle.wtp_frames.specs.declared.fault.Fault.TheVariants as fault
use Rattle.wtp_frames.specs.declared.reader.Place.{Place}
use Rattle.wtp_frames.specs.declared.reader.Place.TheVariants as place
use Rattle.wtp_frames.specs.declared.reader.Reader.{Reader}
use Rattle.wtp_frames.specs.declared.reader.words.OptionWords.{OptionWords}
use Rattle.wtp_frames.specs.declared.reader.words.EndpointWords.{EndpointWords}
use Rattle.wtp_frames.specs.declared.reader.words.PlaceWords.{PlaceWords}
use Rattle.wtp_frames.specs.declared.reader.words.ReaderWords.{ReaderWords}

-- ---- the words of a state

abbrev pub flag_number : Bool → ℕ
flag_number true = 1
flag_number false = 0

abbrev pub optional_words : Option ℕ → OptionWords
optional_words (Some n) = record { present = 1; value = n }
optional_words None = record { present = 0; value = 0 }

abbrev pub side_number : Side → ℕ
side_number Client = 0
side_number Server = 1

abbrev pub fault_number : Fault → ℕ
fault_number fault.ClosedCriticalStream = 0
fault_number fault.FrameUnexpected = 1
fault_number fault.Frame = 2
fault_number fault.ExcessiveLoad = 3
fault_number fault.TooManyInterim = 4
fault_number fault.Id = 5
fault_number fault.MissingSettings = 6
fault_number fault.RequestIncomplete = 7
fault_number fault.Message = 8
fault_number fault.StreamCreation = 9
fault_number fault.BufferedStreamRejected = 10
fault_number fault.SessionGone = 11

abbrev pub endpoint_words : Endpoint → EndpointWords
endpoint_words e = record {
  max_section = e.max_section;
  side = side_number e.side;
  webtransport = flag_number e.webtransport;
  datagrams = flag_number e.datagrams;
  reserved = 0;
}

-- a variant without numbers
abbrev pub bare_place : ℕ → PlaceWords
bare_place k = record {
  kind = k;
  fault = 0;
  goaway = optional_words None;
  push = optional_words None;
}

abbrev pub place_words : Place → PlaceWords
place_words place.BeforeHeaders = bare_place 0
place_words place.Body = bare_place 1
place_words place.AfterTrailers = bare_place 2
place_words place.Tunnel = bare_place 3
place_words place.BeforeSettings = bare_place 4
place_words (place.AfterSettings goaway push) = record {
  kind = 5;
  fault = 0;
  goaway = optional_words goaway;
  push = optional_words push;
}
place_words (place.Failed f) = record {
  kind = 6;
  fault = fault_number f;
  goaway = optional_words None;
  push = optional_words None;
}

abbrev pub reader_words : Reader → ReaderWords
reader_words r = record {
  endpoint = endpoint_words r.endpoint;
  place = place_words r.place;
  remaining = r.remaining;
  streamed = flag_number r.streamed;
  idle = r.idle;
  interims = r.interims;
}

-- where there is no reader
abbrev pub no_reader : ReaderWords
no_reader = record {
  endpoint = record { max_section = 0; side = 0; webtransport = 0; datagrams = 0; reserved = 0 };
  place = bare_place 0;
  remaining = 0;
  streamed = 0;
  idle = 0;
  interims = 0;
}

-- ---- the state of words, if they are those of one

abbrev pub flag_at : ℕ → Bool
flag_at n = not (n == 0)

abbrev pub optional_at : OptionWords → Option ℕ
optional_at w = if flag_at w.present then Some w.value else None

abbrev pub side_at : ℕ → Side
side_at n = if n == 0 then Client else Server

abbrev pub fault_at : ℕ → Fault
fault_at n =
    if n == 0 then fault.ClosedCriticalStream
    else (if n == 1 then fault.FrameUnexpected
    else (if n == 2 then fault.Frame
    else (if n == 3 then fault.ExcessiveLoad
    else (if n == 4 then fault.TooManyInterim
    else (if n == 5 then fault.Id
    else (if n == 6 then fault.MissingSettings
    else (if n == 7 then fault.RequestIncomplete
    else (if n == 8 then fault.Message
    else (if n == 9 then fault.StreamCreation
    else (if n == 10 then fault.BufferedStreamRejected
    else fault.SessionGone))))))))))

abbrev pub endpoint_at : EndpointWords → Endpoint
endpoint_at w = record {
  side = side_at w.side;
  webtransport = flag_at w.webtransport;
  datagrams = flag_at w.datagrams;
  max_section = w.max_section;
}

abbrev pub place_at : PlaceWords → Place
place_at w =
    if w.kind == 0 then place.BeforeHeaders
    else (if w.kind == 1 then place.Body
    else (if w.kind == 2 then place.AfterTrailers
    else (if w.kind == 3 then place.Tunnel
    else (if w.kind == 4 then place.BeforeSettings
    else (if w.kind == 5 then place.AfterSettings (optional_at w.goaway) (optional_at w.push)
    else place.Failed (fault_at w.fault))))))

abbrev pub reader_at : ReaderWords → Reader
reader_at w = record {
  endpoint = endpoint_at w.endpoint;
  place = place_at w.place;
  remaining = w.remaining;
  streamed = flag_at w.streamed;
  idle = w.idle;
  interims = w.interims;
}
