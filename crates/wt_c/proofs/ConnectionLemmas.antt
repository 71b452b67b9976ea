-- Structs of connections and streams: those of none, and those after a call.
use Rattle.std.proofs.Common.{◌≡◌, ℕ, ◌<◌, ◌++◌, List, length, take, drop, inl, inr, refl, sym, ap, ◌∙◌, replicate}
use Rattle.std.proofs.lemmas.List.{take_at}
use Rattle.wtp_webtransport.specs.declared.connection.Connection.{Connection}
use Rattle.wtp_webtransport.specs.declared.stream.Stream.{Stream}
use Rattle.wtp_webtransport.specs.Words.{connection_words, stream_words, capsule_words, held_in, IsSound, AreWordsOf}
use Rattle.wt_c.specs.declared.connections.WtConnection.{WtConnection}
use Rattle.wt_c.specs.declared.connections.streams.WtStream.{WtStream}
use Rattle.wt_c.specs.Connections.{HasConnection, IsNoConnection, stream_with, held_by, HasStream, IsNoStream}
use Rattle.wt_c.proofs.LimitLemmas.{held_size}

pub no_words : (w : WtConnection) → ((c : Connection) → ¬ (connection_words c ≡ w.words)) → IsNoConnection w
no_words w none c e = none c (ap (λ (v : WtConnection). v.words) e)

pub no_zeros : (w : WtConnection) → ¬ (w.reserved ≡ replicate 5 0) → IsNoConnection w
no_zeros w other c e = other (sym (ap (λ (v : WtConnection). v.reserved) e))

pub no_stream : (w : WtStream) (held : List ℕ) → ((s : Stream) → IsSound s.capsules → ¬ (AreWordsOf s w.words (held_by w held))) → IsNoStream w held
no_stream w held none = inr (λ s sound has. none s sound (record { words_are = ap (λ (v : WtStream). v.words) has.words_are; held_are = has.held_are }))

pub no_stream_zeros : (w : WtStream) (held : List ℕ) → ¬ (w.reserved ≡ replicate 3 0) → IsNoStream w held
no_stream_zeros w held other = inr (λ s sound has. other (sym (ap (λ (v : WtStream). v.reserved) has.words_are)))

pub one_stream : (s : Stream) (w : WtStream) (held : List ℕ) → w.reserved ≡ replicate 3 0 → AreWordsOf s w.words (held_by w held) → HasStream s w held
one_stream s w held zeros are = record { words_are = rw (are.words_are, zeros) refl; held_are = are.held_are }

-- what is put in front of an array are the bytes that are held
pub kept_after : (s : Stream) (rest : List ℕ) → held_by (stream_with s) (held_in s.capsules ++ rest) ≡ held_in s.capsules
kept_after s rest = take_at (held_in s.capsules) rest (capsule_words s.capsules).held (sym (held_size s.capsules))
