-- The words of a state are read as that state.
use Rattle.std.proofs.Common.{◌≡◌, ℕ, ◌<◌, List, Option, Some, None, refl, ap, subst, ◌∙◌, arith}
use Rattle.std.proofs.lemmas.Bool.{ne_eqb}
use Rattle.wtp_frames.proofs.WordLemmas.{flag_is, optional_is, endpoint_is}
use Rattle.wtp_connection.proofs.WordLemmas.{connection_is_read as streams_are_read, stream_is_read as frames_are_read}
use Rattle.wtp_messages.specs.declared.response.Asked.{Asked}
use Rattle.wtp_messages.specs.declared.response.Asked.TheVariants as asked
use Rattle.wtp_messages.proofs.WordLemmas.{message_is_read}
use Rattle.wtp_webtransport.specs.Capsules.{Place, Head, Value, Skipping}
use Rattle.wtp_webtransport.specs.declared.capsules.CapsuleType.TheVariants as capsule
use Rattle.wtp_webtransport.specs.declared.connection.Connection.{Connection}
use Rattle.wtp_webtransport.specs.declared.connection.words.ConnectionWords.{ConnectionWords}
use Rattle.wtp_webtransport.specs.declared.stream.Stream.{Stream}
use Rattle.wtp_webtransport.specs.declared.stream.Part.{Part}
use Rattle.wtp_webtransport.specs.declared.stream.Part.TheVariants as part
use Rattle.wtp_webtransport.specs.declared.stream.Delay.TheVariants as delay
use Rattle.wtp_webtransport.specs.declared.stream.Unread.{Unread}
use Rattle.wtp_webtransport.specs.declared.stream.Unread.TheVariants as unread
use Rattle.wtp_webtransport.specs.declared.stream.words.StreamWords.{StreamWords}
use Rattle.wtp_webtransport.specs.Words.{connection_words, connection_at, without_table, part_words, part_at, unread_words, unread_at, asked_words, asked_option_at, capsule_words, head_by, skipped_at, capsules_at, held_in, IsSound, stream_words, stream_at, AreWordsOf}

pub connection_is_read : (c : Connection) → connection_at (connection_words c) ≡ without_table c
connection_is_read c = rw (streams_are_read c.streams, endpoint_is c.endpoint, flag_is c.extended, flag_is c.configured, optional_is c.goaway, flag_is c.over) refl

part_is : (p : Part) → part_at (part_words p) ≡ p
part_is part.NoMessage = refl
part_is part.OfSession = refl
part_is (part.Head m) = rw (message_is_read m) refl
part_is (part.Body m) = rw (message_is_read m) refl
part_is (part.Unanswered session m) = rw (flag_is session, message_is_read m) refl
part_is part.Tunnel = refl
part_is (part.Session size) = refl
part_is (part.Closed more) = rw (flag_is more) refl
part_is part.Ending = refl
part_is part.Losing = refl
part_is part.Past = refl

unread_is : (u : Unread) → unread_at (unread_words u) ≡ u
unread_is unread.Nothing = refl
unread_is (unread.Early size delay.Settings) = refl
unread_is (unread.Early size (delay.Table required)) = refl
unread_is (unread.Section size) = refl

asked_is : (a : Option Asked) → asked_option_at (asked_words a) ≡ a
asked_is None = refl
asked_is (Some asked.Head) = refl
asked_is (Some asked.Connect) = refl
asked_is (Some asked.Session) = refl
asked_is (Some asked.Other) = refl

skipped_is : (n : ℕ) → 0 < n → skipped_at n ≡ Some (Skipping n)
skipped_is n more = rw (ne_eqb n 0 (λ e. omega (arith, e, more))) refl

capsules_are : (o : Option Place) → IsSound o → capsules_at (capsule_words o) (held_in o) ≡ o
capsules_are None sound = refl
capsules_are (Some (Head h)) sound = ap (head_by h) sound
capsules_are (Some (Skipping n)) sound = skipped_is n sound
capsules_are (Some (Value capsule.Datagram v n)) sound = refl
capsules_are (Some (Value capsule.Close v n)) sound = refl
capsules_are (Some (Value capsule.Drain v n)) sound = refl

pub stream_is_read : (s : Stream) → IsSound s.capsules → stream_at (stream_words s) (held_in s.capsules) ≡ s
stream_is_read s sound = rw (frames_are_read s.frames, part_is s.part, asked_is s.asked, unread_is s.unread, capsules_are s.capsules sound) refl

-- words that are not those of the state that they give are those of none
pub no_connection : (w : ConnectionWords) → ¬ (connection_words (connection_at w) ≡ w) → (c : Connection) → ¬ (connection_words c ≡ w)
no_connection w differ c e = differ (subst (λ x. connection_words (connection_at x) ≡ x) e (ap connection_words (connection_is_read c)))

pub as_read : (w : StreamWords) (held : List ℕ) (s : Stream) → IsSound s.capsules → AreWordsOf s w held → stream_at w held ≡ s
as_read w held s sound are = subst (λ h. stream_at w h ≡ s) are.held_are (subst (λ x. stream_at x (held_in s.capsules) ≡ s) are.words_are (stream_is_read s sound))

pub no_stream : (w : StreamWords) (held : List ℕ) → ¬ (stream_words (stream_at w held) ≡ w) → (s : Stream) → IsSound s.capsules → ¬ (AreWordsOf s w held)
no_stream w held differ s sound are = differ (ap stream_words (as_read w held s sound are) ∙ are.words_are)

pub no_bytes : (w : StreamWords) (held : List ℕ) → ¬ (held_in (stream_at w held).capsules ≡ held) → (s : Stream) → IsSound s.capsules → ¬ (AreWordsOf s w held)
no_bytes w held differ s sound are = differ (ap (λ t. held_in t.capsules) (as_read w held s sound are) ∙ are.held_are)
