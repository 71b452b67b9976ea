-- Connections and their streams in structs of C: the words of a state, the limits of the caller,
-- and words that are 0.
use Rattle.std.specs.Prelude.{◌≡◌, ℕ, ℤ, pos, ◌≤◌, ◌<◌, ◌==◌, ◌⊎◌, if◌then◌else◌, not, Bool, List, length, take, replicate}
use Rattle.wtp_frames.specs.declared.endpoint.Endpoint.{Endpoint}
use Rattle.wtp_frames.specs.declared.endpoint.Side.{Side}
use Rattle.wtp_frames.specs.declared.endpoint.Side.TheVariants.{Client, Server}
use Rattle.wtp_frames.specs.Words.{flag_number}
use Rattle.wtp_webtransport.specs.declared.connection.Connection.{Connection}
use Rattle.wtp_webtransport.specs.declared.stream.Stream.{Stream}
use Rattle.wtp_webtransport.specs.Words.{connection_words, stream_words, held_in, IsSound}
use Rattle.wt_c.specs.declared.connections.WtEndpoint.{WtEndpoint}
use Rattle.wt_c.specs.declared.connections.WtConnection.{WtConnection}
use Rattle.wt_c.specs.declared.connections.streams.WtStream.{WtStream}

-- ---- the own endpoint

abbrev pub side_with : ℕ → Side
side_with n = if n == 0 then Client else Server

abbrev pub endpoint_of : WtEndpoint → Endpoint
endpoint_of e = record {
  side = side_with e.side;
  webtransport = not (e.webtransport == 0);
  datagrams = not (e.datagrams == 0);
  max_section = e.max_section;
}

-- a struct of this version
pub record IsEndpoint (e : WtEndpoint) : Type 0 where
  pub side : e.side ≤ 1
  pub webtransport : e.webtransport ≤ 1
  pub datagrams : e.datagrams ≤ 1
  pub extended : e.extended ≤ 1
  pub max_datagram : e.max_datagram ≤ 65535
  pub reserved : e.reserved ≡ replicate 5 0

-- ---- connections

-- a connection with these limits
abbrev pub connection_with : Connection → ℕ → ℕ → WtConnection
connection_with c max_fields max_datagram = record {
  words = connection_words c;
  max_fields = max_fields;
  max_datagram = max_datagram;
  reserved = replicate 5 0;
}

-- the same limits with another connection
abbrev pub with_connection : WtConnection → Connection → WtConnection
with_connection w c = connection_with c w.max_fields w.max_datagram

-- this is the connection of the struct
abbrev pub HasConnection : Connection → WtConnection → Type 0
HasConnection c w = with_connection w c ≡ w

-- no connection has this struct
abbrev pub IsNoConnection : WtConnection → Type 0
IsNoConnection w = (c : Connection) → ¬ (HasConnection c w)

-- what a test says of the connection of a struct: 1 or 0
pub record Says (result : ℤ) (w : WtConnection) (test : Connection → Bool) : Type 0 where
  pub c : Connection
  pub connection_is : HasConnection c w
  pub says : result ≡ pos (flag_number (test c))

-- ---- streams

abbrev pub stream_with : Stream → WtStream
stream_with s = record { words = stream_words s; reserved = replicate 3 0 }

-- the bytes that are held, of an array of the caller: those of a capsule that is cut
abbrev pub held_by : WtStream → List ℕ → List ℕ
held_by w held = take w.words.capsules.held held

-- this is the stream of the struct, with these bytes
pub record HasStream (s : Stream) (w : WtStream) (held : List ℕ) : Type 0 where
  pub words_are : stream_with s ≡ w
  pub held_are : held_in s.capsules ≡ held_by w held

-- fewer bytes are passed than are held, or no stream has this struct and these bytes
abbrev pub IsNoStream : WtStream → List ℕ → Type 0
IsNoStream w held = (length held < w.words.capsules.held)
    ⊎ ((s : Stream) → IsSound s.capsules → ¬ (HasStream s w held))
