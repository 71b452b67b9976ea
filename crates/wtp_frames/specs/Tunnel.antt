-- The stream of a CONNECT request that is answered with a 2xx status (RFC 9114, section 4.4): of the
-- frames that are known DATA alone may come after the HEADERS.
use Rattle.std.specs.Prelude.{ℕ, List, [], ◌++◌, Bool}
use Rattle.wtp_core.specs.Varint.{Encodes}
use Rattle.wtp_core.specs.declared.error.scope.ErrorScope.{ErrorScope}
use Rattle.wtp_frames.specs.declared.endpoint.Endpoint.{Endpoint}
use Rattle.wtp_frames.specs.declared.reader.Place.{Place}
use Rattle.wtp_frames.specs.declared.reader.Place.TheVariants.{Body, Tunnel}
use Rattle.wtp_frames.specs.declared.reader.Reader.{Reader}
use Rattle.wtp_frames.specs.Codes.{Reports}
use Rattle.wtp_frames.specs.Run.{run}
use Rattle.wtp_frames.specs.Start.{between}

abbrev pub connected_at : Place → Place
connected_at Body = Tunnel
connected_at other = other

-- the HEADERS that came are those of such a request, or of the response to it
abbrev pub after_connect : Reader → Reader
after_connect r = record r { place = connected_at r.place }

-- On such a stream the head of a frame of this type, with any length, is this error, whatever
-- follows.
abbrev pub InTunnel : Endpoint → ℕ → ℕ → ErrorScope → Type 0
InTunnel e id code scope =
    (k idle n : ℕ) (streamed : Bool) (t u more : List ℕ) → Encodes id t → Encodes n u
    → Reports (run (between e k Tunnel streamed idle) (t ++ (u ++ more))) [] code scope
