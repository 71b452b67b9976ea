-- The states of connections and their streams in numbers of a fixed size, as a caller in C keeps
-- them: a number for each variant, from 0 on, 1 and 0 for true and false, and 0 where a variant has no
-- number.
use Rattle.std.specs.Prelude.{ℕ, ◌==◌, if◌then◌else◌}
use Rattle.wtp_frames.specs.Words.{flag_number, flag_at, optional_words, optional_at, endpoint_words, endpoint_at, no_reader, reader_words, reader_at}
use Rattle.wtp_connection.specs.declared.connection.Connection.{Connection}
use Rattle.wtp_connection.specs.declared.connection.words.ConnectionWords.{ConnectionWords}
use Rattle.wtp_connection.specs.declared.instructions.DecoderPlace.{DecoderPlace}
use Rattle.wtp_connection.specs.declared.instructions.DecoderPlace.TheVariants.{Between, Within}
use Rattle.wtp_connection.specs.declared.requests.Begun.{Begun}
use Rattle.wtp_connection.specs.declared.requests.words.BegunWords.{BegunWords}
use Rattle.wtp_connection.specs.declared.settings.PeerSettings.{PeerSettings}
use Rattle.wtp_connection.specs.declared.settings.words.SettingsWords.{SettingsWords}
use Rattle.wtp_connection.specs.declared.stream.Stream.{Stream}
use Rattle.wtp_connection.specs.declared.stream.Stream.TheVariants as stream
use Rattle.wtp_connection.specs.declared.stream.words.StreamWords.{StreamWords}

-- ---- the words of a state

abbrev pub begun_words : Begun → BegunWords
begun_words b = record { first = b.first; lost = b.lost; words = b.words }

abbrev pub settings_words : PeerSettings → SettingsWords
settings_words v = record {
  qpack_max_table_capacity = v.qpack_max_table_capacity;
  max_field_section_size = optional_words v.max_field_section_size;
  qpack_blocked_streams = v.qpack_blocked_streams;
  webtransport_max_sessions = v.webtransport_max_sessions;
  wt_max_sessions = v.wt_max_sessions;
  enable_connect_protocol = flag_number v.enable_connect_protocol;
  h3_datagram = flag_number v.h3_datagram;
  enable_webtransport = flag_number v.enable_webtransport;
  reserved = 0;
  reserved_word = 0;
}

abbrev pub connection_words : Connection → ConnectionWords
connection_words c = record {
  endpoint = endpoint_words c.endpoint;
  control = flag_number c.control;
  encoder = flag_number c.encoder;
  decoder = flag_number c.decoder;
  resumed = flag_number c.resumed;
  waiting = c.waiting;
  peer = settings_words c.peer;
  begun = begun_words c.begun;
  over = flag_number c.over;
}

-- a variant without numbers
abbrev pub bare_stream : ℕ → StreamWords
bare_stream k = record {
  reader = no_reader;
  number = 0;
  weight = 0;
  kind = k;
  given = 0;
  reserved = 0;
  reserved_half = 0;
}

-- a variant with a session
abbrev pub session_stream_words : ℕ → ℕ → StreamWords
session_stream_words k id = record (bare_stream k) { number = id }

abbrev pub decoder_words : DecoderPlace → StreamWords
decoder_words Between = bare_stream 7
decoder_words (Within sum weight) = record (bare_stream 8) { number = sum; weight = weight }

abbrev pub stream_words : Stream → StreamWords
stream_words stream.Uni = bare_stream 0
stream_words stream.Bi = bare_stream 1
stream_words (stream.Frames r given) = record (bare_stream 2) {
  reader = reader_words r;
  given = flag_number given;
}
stream_words (stream.Joining id) = session_stream_words 3 id
stream_words (stream.Waiting id) = session_stream_words 4 id
stream_words (stream.Session id) = session_stream_words 5 id
stream_words stream.Encoder = bare_stream 6
stream_words (stream.Decoder place) = decoder_words place
stream_words stream.Ignored = bare_stream 9
stream_words stream.Incomplete = bare_stream 10
stream_words stream.Over = bare_stream 11

-- ---- the state of words, if they are those of one

abbrev pub begun_at : BegunWords → Begun
begun_at w = record { first = w.first; lost = w.lost; words = w.words }

abbrev pub settings_at : SettingsWords → PeerSettings
settings_at w = record {
  qpack_max_table_capacity = w.qpack_max_table_capacity;
  max_field_section_size = optional_at w.max_field_section_size;
  qpack_blocked_streams = w.qpack_blocked_streams;
  enable_connect_protocol = flag_at w.enable_connect_protocol;
  h3_datagram = flag_at w.h3_datagram;
  enable_webtransport = flag_at w.enable_webtransport;
  webtransport_max_sessions = w.webtransport_max_sessions;
  wt_max_sessions = w.wt_max_sessions;
}

abbrev pub connection_at : ConnectionWords → Connection
connection_at w = record {
  endpoint = endpoint_at w.endpoint;
  control = flag_at w.control;
  encoder = flag_at w.encoder;
  decoder = flag_at w.decoder;
  waiting = w.waiting;
  peer = settings_at w.peer;
  resumed = flag_at w.resumed;
  begun = begun_at w.begun;
  over = flag_at w.over;
}

abbrev pub stream_at : StreamWords → Stream
stream_at w =
    if w.kind == 0 then stream.Uni
    else (if w.kind == 1 then stream.Bi
    else (if w.kind == 2 then stream.Frames (reader_at w.reader) (flag_at w.given)
    else (if w.kind == 3 then stream.Joining w.number
    else (if w.kind == 4 then stream.Waiting w.number
    else (if w.kind == 5 then stream.Session w.number
    else (if w.kind == 6 then stream.Encoder
    else (if w.kind == 7 then stream.Decoder Between
    else (if w.kind == 8 then stream.Decoder (Within w.number w.weight)
    else (if w.kind == 9 then stream.Ignored
    else (if w.kind == 10 then stream.Incomplete
    else stream.Over))))))))))
