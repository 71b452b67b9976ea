-- The words of a state are read as that state.
use Rattle.std.proofs.Common.{◌≡◌, ℕ, eqb, true, List, [], ◌∷◌, refl, ap, subst}
use Rattle.std.proofs.lemmas.Bool.{eq-eqb}
use Rattle.std.specs.Cmp.Lexicographic.{pointwise}
use Rattle.wtp_frames.proofs.WordLemmas.{flag_is, optional_is, endpoint_is, is_read}
use Rattle.wtp_connection.specs.declared.connection.Connection.{Connection}
use Rattle.wtp_connection.specs.declared.instructions.DecoderPlace.TheVariants.{Between, Within}
use Rattle.wtp_connection.specs.declared.settings.PeerSettings.{PeerSettings}
use Rattle.wtp_connection.specs.declared.stream.Stream.{Stream}
use Rattle.wtp_connection.specs.declared.stream.Stream.TheVariants as stream
use Rattle.wtp_connection.specs.declared.connection.words.ConnectionWords.{ConnectionWords}
use Rattle.wtp_connection.specs.declared.stream.words.StreamWords.{StreamWords}
use Rattle.wtp_connection.specs.Words.{settings_words, settings_at, connection_words, connection_at, stream_words, stream_at}

pub itself : (n : ℕ) → eqb n n ≡ true
itself n = eq-eqb n n refl

pub all_itself : (ns : List ℕ) → pointwise eqb ns ns ≡ true
all_itself [] = refl
all_itself (n ∷ ns) = rw (itself n, all_itself ns) refl

pub settings_are : (v : PeerSettings) → settings_at (settings_words v) ≡ v
settings_are v = rw (optional_is v.max_field_section_size, flag_is v.enable_connect_protocol, flag_is v.h3_datagram, flag_is v.enable_webtransport) refl

pub connection_is_read : (c : Connection) → connection_at (connection_words c) ≡ c
connection_is_read c = rw (endpoint_is c.endpoint, flag_is c.control, flag_is c.encoder, flag_is c.decoder, settings_are c.peer, flag_is c.resumed, flag_is c.over) refl

pub stream_is_read : (s : Stream) → stream_at (stream_words s) ≡ s
stream_is_read stream.Uni = refl
stream_is_read stream.Bi = refl
stream_is_read (stream.Frames r given) = rw (is_read r, flag_is given) refl
stream_is_read (stream.Joining id) = refl
stream_is_read (stream.Waiting id) = refl
stream_is_read (stream.Session id) = refl
stream_is_read stream.Encoder = refl
stream_is_read (stream.Decoder Between) = refl
stream_is_read (stream.Decoder (Within sum weight)) = refl
stream_is_read stream.Ignored = refl
stream_is_read stream.Incomplete = refl
stream_is_read stream.Over = refl

-- words that are not those of the state that they give are those of none
pub no_stream : (w : StreamWords) → ¬ (stream_words (stream_at w) ≡ w) → (s : Stream) → ¬ (stream_words s ≡ w)
no_stream w differ s e = differ (subst (λ x. stream_words (stream_at x) ≡ x) e (ap stream_words (stream_is_read s)))

pub no_connection : (w : ConnectionWords) → ¬ (connection_words (connection_at w) ≡ w) → (c : Connection) → ¬ (connection_words c ≡ w)
no_connection w differ c e = differ (subst (λ x. connection_words (connection_at x) ≡ x) e (ap connection_words (connection_is_read c)))
