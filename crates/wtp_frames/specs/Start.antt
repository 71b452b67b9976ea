-- Readers between two frames.
use Rattle.std.specs.Prelude.{ℕ, Bool, false}
use Rattle.wtp_frames.specs.declared.endpoint.Endpoint.{Endpoint}
use Rattle.wtp_frames.specs.declared.reader.Reader.{Reader}
use Rattle.wtp_frames.specs.declared.reader.Place.{Place}
use Rattle.wtp_frames.specs.declared.reader.Place.TheVariants.{BeforeHeaders, Body, AfterTrailers, BeforeSettings}
use Rattle.wtp_frames.specs.Grammar.{Stage, NoHeaders, InContent, HasTrailers}

-- before the HEADERS of a message, after so many interim responses
abbrev pub awaiting : Endpoint → ℕ → Reader
awaiting e k = record {
  endpoint = e;
  place = BeforeHeaders;
  remaining = 0;
  streamed = false;
  idle = 0;
  interims = k;
}

-- before the first byte of a stream
abbrev pub message_reader : Endpoint → Reader
message_reader e = awaiting e 0

abbrev pub control_reader : Endpoint → Reader
control_reader e = record {
  endpoint = e;
  place = BeforeSettings;
  remaining = 0;
  streamed = false;
  idle = 0;
  interims = 0;
}

-- after so many interim responses, and a frame at this place, of whatever kind it was, and so many
-- frames without content
abbrev pub between : Endpoint → ℕ → Place → Bool → ℕ → Reader
between e k place streamed idle = record {
  endpoint = e;
  place = place;
  remaining = 0;
  streamed = streamed;
  idle = idle;
  interims = k;
}

-- the place after the frames of a message
abbrev pub place_of : Stage → Place
place_of NoHeaders = BeforeHeaders
place_of InContent = Body
place_of HasTrailers = AfterTrailers
