-- A stream whose held bytes are not passed: which call does not depend on them, and its struct after it.
use Rattle.std.proofs.Common.{◌≡◌, ℕ, ◌<◌, ◌==◌, nat_lt, nat_le, ◌||◌, ◌⊎◌, if◌then◌else◌, Bool, true, false, List, [], ◌∷◌, length, Option, Some, None, is_some, MatchOption, inl, inr, refl, sym, ap, ◌∙◌, arith, replicate}
use Rattle.std.proofs.lemmas.Bool.{true≢false, cases_Bool, or_cases, eqb-true, ltb-true}
use Rattle.wtp_core.specs.declared.error.scope.ErrorScope.{ErrorScope}
use Rattle.wtp_core.specs.declared.error.scope.ErrorScope.TheVariants as scope
use Rattle.wtp_frames.specs.declared.endpoint.Side.{Side}
use Rattle.wtp_frames.specs.declared.endpoint.Side.TheVariants.{Client, Server}
use Rattle.wtp_connection.specs.declared.connection.Known.{Known}
use Rattle.wtp_connection.specs.declared.fault.Fault.{Fault as StreamsFault}
use Rattle.wtp_connection.specs.declared.instructions.DecoderPlace.{DecoderPlace}
use Rattle.wtp_connection.specs.declared.instructions.DecoderPlace.TheVariants.{Between, Within}
use Rattle.wtp_connection.specs.declared.stream.Stream.{Stream as Frames}
use Rattle.wtp_connection.specs.declared.stream.Stream.TheVariants as frames
use Rattle.wtp_connection.specs.Words.{stream_words as frames_words}
use Rattle.wtp_connection.specs.Fault.{scope_of as streams_scope}
use Rattle.wtp_connection.specs.Streams.{Joined as After, joins as joins_streams, resets as resets_frames, abandons as abandons_frames, overflows as overflows_frames}
use Rattle.wtp_messages.specs.declared.message.Message.{Message}
use Rattle.wtp_messages.specs.Response.{is_success}
use Rattle.wtp_webtransport.specs.Capsules.{Place, Head, Value, Skipping}
use Rattle.wtp_webtransport.specs.declared.capsules.CapsuleType.{CapsuleType}
use Rattle.wtp_webtransport.specs.declared.capsules.CapsuleType.TheVariants as capsule
use Rattle.wtp_webtransport.specs.declared.capsules.words.CapsuleWords.{CapsuleWords}
use Rattle.wtp_webtransport.specs.declared.connection.Connection.{Connection}
use Rattle.wtp_webtransport.specs.declared.stream.Part.{Part}
use Rattle.wtp_webtransport.specs.declared.stream.Part.TheVariants as part
use Rattle.wtp_webtransport.specs.declared.stream.Stream.{Stream}
use Rattle.wtp_webtransport.specs.declared.stream.words.StreamWords.{StreamWords}
use Rattle.wtp_webtransport.specs.Events.{Told, More}
use Rattle.wtp_webtransport.specs.Joining.{Outcome, joining_of, joined_by, joins, reset_in, reset_by, resets, abandons, overflowed_by, overflows, stops_half}
use Rattle.wtp_webtransport.specs.Sessions.{known_at_message, known_by_part, known_of}
use Rattle.wtp_webtransport.specs.Streams.{with_streams, with_frames, is_held, is_done, answered_with, answered_by, answered, connects, with_part, waits_for}
use Rattle.wtp_webtransport.specs.Words.{capsule_words, held_in, IsSound, stream_words, stream_at, AreWordsOf}
use Rattle.wtp_webtransport.proofs.WordLemmas.{stream_is_read}
use Rattle.wt_c.specs.declared.connections.WtConnection.{WtConnection}
use Rattle.wt_c.specs.declared.connections.changes.Change.{Change}
use Rattle.wt_c.specs.declared.connections.changes.Change.TheVariants as change
use Rattle.wt_c.specs.declared.connections.streams.WtStream.{WtStream}
use Rattle.wt_c.specs.Connections.{HasConnection, with_connection, stream_with}
use Rattle.wt_c.specs.ConnectionCalls.{blank_place, blank, IsWithoutStream, EachStream, change_event, IsChanged, Changes, member_of, member_at, known_number, KnownBy, IsOneWithoutStream}
use Rattle.wt_c.specs.ConnectionEvents.{wait_number, wait_session}
use Rattle.wt_c.specs.declared.connections.events.WtEvent.{WtEvent}
use Rattle.wt_c.specs.Changes.{changed, blank_capsules, blank_words, restored_capsules, restored}

-- ---- words

place_blank : (o : Option Place) → capsule_words (blank_place o) ≡ blank_capsules (capsule_words o)
place_blank None = refl
place_blank (Some (Head h)) = refl
place_blank (Some (Skipping n)) = refl
place_blank (Some (Value capsule.Datagram v n)) = refl
place_blank (Some (Value capsule.Close v n)) = refl
place_blank (Some (Value capsule.Drain v n)) = refl

words_blank : (s : Stream) → stream_words (blank s) ≡ blank_words (stream_words s)
words_blank s = ap (λ (w : CapsuleWords). record (stream_words s) { capsules = w }) (place_blank s.capsules)

none_held : (o : Option Place) → held_in (blank_place o) ≡ []
none_held None = refl
none_held (Some p) = refl

sound_blank : (o : Option Place) → IsSound (blank_place o)
sound_blank None = tt
sound_blank (Some p) = omega arith

-- words with another number than these are not blank ones
kinds : (w : CapsuleWords) (k : ℕ) → k ≡ (blank_capsules w).kind → 0 < k → k < 6 → k ≡ 2
kinds w k e some few = elim (cases_Bool ((w.kind == 0) || nat_lt 5 w.kind)) [
  | inl t ↦ (let same : k ≡ w.kind = rw t at e in elim (or_cases (w.kind == 0) (nat_lt 5 w.kind) t) [
    | inl z ↦ absurd (let is = eqb-true w.kind 0 z in omega (arith, same, is, some))
    | inr m ↦ absurd (let is = ltb-true 5 w.kind m in omega (arith, same, is, few))
  ])
  | inr f ↦ rw f at e
]

missing_one : (w : CapsuleWords) → (blank_capsules w).kind ≡ 2 → (blank_capsules w).missing ≡ 1
missing_one w e = elim (cases_Bool ((w.kind == 0) || nat_lt 5 w.kind)) [
  | inl t ↦ (let same : w.kind ≡ 2 = rw t at e in elim (or_cases (w.kind == 0) (nat_lt 5 w.kind) t) [
    | inl z ↦ absurd (let is = eqb-true w.kind 0 z in omega (arith, same, is))
    | inr m ↦ absurd (let is = ltb-true 5 w.kind m in omega (arith, same, is))
  ])
  | inr f ↦ rw f refl
]

sound_of : (o : Option Place) (w : CapsuleWords) → capsule_words o ≡ blank_capsules w → IsSound o
sound_of None w e = tt
sound_of (Some (Value k v n)) w e = tt
sound_of (Some (Head h)) w e = absurd (let two = kinds w 1 (ap (λ (x : CapsuleWords). x.kind) e) (omega arith) (omega arith) in omega (arith, two))
sound_of (Some (Skipping n)) w e =
    let one : n ≡ 1 = ap (λ (x : CapsuleWords). x.missing) e ∙ missing_one w (sym (ap (λ (x : CapsuleWords). x.kind) e)) in
    omega (arith, one)

-- ---- streams

same_words : (s t : Stream) → IsSound s.capsules → IsSound t.capsules → stream_words s ≡ stream_words t → held_in s.capsules ≡ held_in t.capsules → s ≡ t
same_words s t a b e h = sym (stream_is_read s a) ∙ ap (λ (w : StreamWords). stream_at w (held_in s.capsules)) e ∙ ap (λ (x : List ℕ). stream_at (stream_words t) x) h ∙ stream_is_read t b

pub is_blank : (w : WtStream) (t : Stream) → AreWordsOf t (blank_words w.words) [] → EachStream w (λ s. t ≡ blank s)
is_blank w t are s sound e = same_words t (blank s) (sound_of t.capsules w.words.capsules (ap (λ (x : StreamWords). x.capsules) are.words_are)) (sound_blank s.capsules)
    (are.words_are ∙ ap (λ (v : WtStream). blank_words v.words) (sym e) ∙ sym (words_blank s))
    (are.held_are ∙ sym (none_held s.capsules))

pub without_stream : (w : WtStream) → ((t : Stream) → IsSound t.capsules → ¬ (AreWordsOf t (blank_words w.words) [])) → IsWithoutStream w
without_stream w none s sound e = none (blank s) (sound_blank s.capsules) (record { words_are = words_blank s ∙ ap (λ (v : WtStream). blank_words v.words) e; held_are = none_held s.capsules })

pub without_zeros : (w : WtStream) → ¬ (w.reserved ≡ replicate 3 0) → IsWithoutStream w
without_zeros w other s sound e = other (sym (ap (λ (v : WtStream). v.reserved) e))

-- ---- changes

abbrev blank_outcome : Outcome → Outcome
blank_outcome o = (o.0, o.1, blank o.2)

-- a change does not depend on the bytes that are held, and they stay or are none after it
record IsBlind (o b : Outcome) (s : Stream) : Type 0 where
  same : b ≡ blank_outcome o
  kept : (o.2.capsules ≡ s.capsules) ⊎ (o.2.capsules ≡ None)

joined_blind : (x : After) (c : Connection) (s : Stream) (before : Option ℕ) → IsBlind (joined_by c s before x) (joined_by c (blank s) before x) s
joined_blind (d, t, None) c s before = record { same = refl; kept = inl refl }
joined_blind (d, t, Some f) c s before = record { same = refl; kept = inl refl }

overflowed_blind : (x : After) (c : Connection) (s : Stream) → IsBlind (overflowed_by c s x) (overflowed_by c (blank s) x) s
overflowed_blind (d, t, None) c s = record { same = refl; kept = inl refl }
overflowed_blind (d, t, Some f) c s = record { same = refl; kept = inl refl }

reset_in_blind : (x : ErrorScope) (held : Bool) (c : Connection) (s u : Stream) (f : StreamsFault) → s.capsules ≡ u.capsules → IsBlind (reset_in x held c s f) (reset_in x held c (blank s) f) u
reset_in_blind scope.Stream held c s u f e = record { same = refl; kept = inr refl }
reset_in_blind other held c s u f e = record { same = refl; kept = inl e }

reset_blind : (x : After) (held : Bool) (c : Connection) (s : Stream) → IsBlind (reset_by held c s x) (reset_by held c (blank s) x) s
reset_blind (d, t, None) held c s = record { same = refl; kept = inr refl }
reset_blind (d, t, Some f) held c s = reset_in_blind (streams_scope f) held (with_streams c d) (with_frames s t) s f refl

unless : (b : Bool) (c : Connection) (s : Stream) (o p : Outcome) → IsBlind o p s → IsBlind (if b then (More, c, s) else o) (if b then (More, c, blank s) else p) s
unless true c s o p blind = record { same = refl; kept = inl refl }
unless false c s o p blind = blind

only_if : (b : Bool) (c : Connection) (s : Stream) (o p : Outcome) → IsBlind o p s → IsBlind (if b then o else (More, c, s)) (if b then p else (More, c, blank s)) s
only_if true c s o p blind = blind
only_if false c s o p blind = record { same = refl; kept = inl refl }

abandon_blind : (c : Connection) (s : Stream) → IsBlind (abandons c s) (abandons c (blank s)) s
abandon_blind c s = unless c.over c s _ _ (record { same = refl; kept = inr refl })

change_blind : (k : Change) (c : Connection) (s : Stream) → IsBlind (changed k c s) (changed k c (blank s)) s
change_blind (change.Join k) c s = unless c.over c s _ _ (joined_blind (joins_streams c.streams s.frames k) c s (joining_of s.frames))
change_blind change.Reset c s = unless (c.over || is_done s.part s.frames) c s _ _ (reset_blind (resets_frames c.streams s.frames) (is_held s.part) c s)
change_blind change.Stop c s = only_if (is_held s.part) c s _ _ (abandon_blind c s)
change_blind change.Abandon c s = abandon_blind c s
change_blind change.Overflow c s = unless c.over c s _ _ (overflowed_blind (overflows_frames c.streams s.frames) c s)

-- ---- the struct after a change

restored_place : (o p : Option Place) → (p ≡ o) ⊎ (p ≡ None) → capsule_words p ≡ restored_capsules (capsule_words o) (capsule_words (blank_place p))
restored_place o None kept = refl
restored_place o (Some q) (inl e) = ap capsule_words e
restored_place o (Some q) (inr e) = absurd (true≢false (ap (λ (x : Option Place). is_some x) e))

-- of a stream after a change and one before it
restores : (w : WtStream) (s t u : Stream) → stream_with s ≡ w → (t.capsules ≡ s.capsules) ⊎ (t.capsules ≡ None) → u ≡ blank t → stream_with t ≡ restored w u
restores w s t u e kept is =
    rw (is, ← e) (ap (λ (x : CapsuleWords). stream_struct t x) (restored_place s.capsules t.capsules kept))
  where
    stream_struct : Stream → CapsuleWords → WtStream
    stream_struct v x = record { words = record (stream_words v) { capsules = x }; reserved = replicate 3 0 }

held_after : (o p : Option Place) → (p ≡ o) ⊎ (p ≡ None) → (held_in p ≡ held_in o) ⊎ (held_in p ≡ [])
held_after o p (inl e) = inl (ap held_in e)
held_after o p (inr e) = inr (ap held_in e)

pub change_is : (k : Change) (old : WtConnection) (w : WtStream) (c d : Connection) (t u : Stream) (told : Told)
    → HasConnection c old → EachStream w (λ s. t ≡ blank s) → (told, d, u) ≡ changed k c t
    → Changes (changed k) old (with_connection old d) w (restored w u) (change_event told (restored w u))
change_is k old w c d t u told has each is = record {
  c = c;
  connection_is = has;
  each = λ s sound e. (
      let blind = change_blind k c s in
      let all : (told, d, u) ≡ blank_outcome (changed k c s) = is ∙ ap (λ (x : Stream). changed k c x) (each s sound e) ∙ blind.same in
      record {
        event_is = ap (λ (x : Told). change_event x (restored w u)) (ap (λ (o : Outcome). o.0) all);
        connection_is = sym (ap (λ (o : Outcome). with_connection old o.1) all);
        stream_is = restores w s (changed k c s).2 u e blind.kept (ap (λ (o : Outcome). o.2) all);
        held_are = held_after s.capsules (changed k c s).2.capsules blind.kept;
      });
}

-- ---- answers, waits, and what is known

answered_if_blind : (b c : Bool) (s : Stream) (session : Bool) (m : Message) → (if b then connects (blank s) session else (if c then with_part (blank s) (part.Body m) else blank s)) ≡ blank (if b then connects s session else (if c then with_part s (part.Body m) else s))
answered_if_blind true c s session m = refl
answered_if_blind false true s session m = refl
answered_if_blind false false s session m = refl

answered_if_kept : (b c : Bool) (s : Stream) (session : Bool) (m : Message) → (if b then connects s session else (if c then with_part s (part.Body m) else s)).capsules ≡ s.capsules
answered_if_kept true c s session m = refl
answered_if_kept false true s session m = refl
answered_if_kept false false s session m = refl

answered_blind : (p : Part) (s : Stream) (status : ℕ) → answered_by (blank s) p status ≡ blank (answered_by s p status)
answered_blind (part.Unanswered session m) s status = answered_if_blind (is_success (Some status)) (nat_le 300 status) s session m
answered_blind _ s status = refl

answered_kept : (p : Part) (s : Stream) (status : ℕ) → (answered_by s p status).capsules ≡ s.capsules
answered_kept (part.Unanswered session m) s status = answered_if_kept (is_success (Some status)) (nat_le 300 status) s session m
answered_kept _ s status = refl

pub answer_restores : (w : WtStream) (t : Stream) (status : ℕ) → EachStream w (λ s. t ≡ blank s)
    → EachStream w (λ s. (stream_with (answered s status) ≡ restored w (answered t status)) × (held_in (answered s status).capsules ≡ held_in s.capsules))
answer_restores w t status each s sound e = (
  restores w s (answered s status) (answered t status) e (inl (answered_kept s.part s status)) (ap (λ (x : Stream). answered x status) (each s sound e) ∙ answered_blind s.part s status),
  ap held_in (answered_kept s.part s status),
)

message_alike : (side : Side) (s : Stream) (o : Option Place) → known_at_message side (record s { capsules = blank_place o }) ≡ known_at_message side (record s { capsules = o })
message_alike Server s None = refl
message_alike Server s (Some p) = refl
message_alike Client s o = refl

known_by_alike : (p : Part) (c : Connection) (s : Stream) → known_by_part p c (blank s) ≡ known_by_part p c s
known_by_alike (part.Unanswered true m) c s = refl
known_by_alike (part.Unanswered false m) c s = message_alike c.endpoint.side s s.capsules
known_by_alike (part.Body m) c s = message_alike c.endpoint.side s s.capsules
known_by_alike part.Tunnel c s = message_alike c.endpoint.side s s.capsules
known_by_alike other c s = refl

pub known_alike : (c : Connection) (s : Stream) → known_of c (blank s) ≡ known_of c s
known_alike c s = known_by_alike s.part c s

decoder_member : (p : DecoderPlace) → member_at (frames_words (frames.Decoder p)) ≡ None
decoder_member Between = refl
decoder_member (Within sum weight) = refl

pub member_is : (t : Frames) → member_at (frames_words t) ≡ member_of t
member_is (frames.Decoder p) = decoder_member p
member_is other = refl

-- ---- what the calls make of these

pub blank_option : (w : WtStream) (v : StreamWords) (o : Option Stream) → v ≡ blank_words w.words
    → MatchOption o ((t : Stream) → IsSound t.capsules → ¬ (AreWordsOf t v [])) (λ t. AreWordsOf t v [])
    → MatchOption o (IsWithoutStream w) (λ t. EachStream w (λ s. t ≡ blank s))
blank_option w v None e none = without_stream w (rw e at none)
blank_option w v (Some t) e are = is_blank w t (rw e at are)

pub change_done : (k : Change) (old new : WtConnection) (w v : WtStream) (event : WtEvent) (c d : Connection) (t u : Stream) (told : Told)
    → HasConnection c old → EachStream w (λ s. t ≡ blank s) → (told, d, u) ≡ changed k c t
    → new ≡ with_connection old d → v ≡ restored w u → event ≡ change_event told v
    → Changes (changed k) old new w v event
change_done k old new w v event c d t u told has each is n r e = rw (n, e, r) (change_is k old w c d t u told has each is)

pub answer_done : (w v : WtStream) (t u : Stream) (status : ℕ) → EachStream w (λ s. t ≡ blank s) → u ≡ answered t status → v ≡ restored w u
    → EachStream w (λ s. (stream_with (answered s status) ≡ v) × (held_in (answered s status).capsules ≡ held_in s.capsules))
answer_done w v t u status each is r = rw (r, is) (answer_restores w t status each)

pub waits_number : (w : WtStream) (t : Stream) (n : ℕ) → EachStream w (λ s. t ≡ blank s) → n ≡ wait_number (waits_for t) → EachStream w (λ s. n ≡ wait_number (waits_for s))
waits_number w t n each is s sound e = is ∙ ap (λ (x : Stream). wait_number (waits_for x)) (each s sound e)

pub waits_session : (w : WtStream) (t : Stream) (n : ℕ) → EachStream w (λ s. t ≡ blank s) → n ≡ wait_session (waits_for t) → EachStream w (λ s. n ≡ wait_session (waits_for s))
waits_session w t n each is s sound e = is ∙ ap (λ (x : Stream). wait_session (waits_for x)) (each s sound e)

pub known_one : (its others : List WtStream) (w : WtStream) (t : Stream) (id : ℕ) (c : Connection) (n : ℕ) → its ≡ w ∷ others → others ≡ []
    → EachStream w (λ s. t ≡ blank s) → n ≡ known_number (known_of c t) → KnownBy its id c n
known_one its others w t id c n e f each is =
    rw (e, f) (λ s sound h. is ∙ ap (λ (x : Stream). known_number (known_of c x)) (each s sound h) ∙ ap known_number (known_alike c s))

pub none_one : (its others : List WtStream) (w : WtStream) → its ≡ w ∷ others → others ≡ [] → IsWithoutStream w → IsOneWithoutStream its
none_one its others w e f none = rw (e, f) none

pub several : (its others : List WtStream) (w : WtStream) → its ≡ w ∷ others → ¬ (others ≡ []) → 1 < length its
several its [] w e some = absurd (some refl)
several its (v ∷ others) w e some = rw e (omega arith)

pub known_found : (its others : List WtStream) (w : WtStream) (t : Stream) (id : ℕ) (c : Connection) (k : Known) (n : ℕ) (none : Bool) → its ≡ w ∷ others → none ≡ (length others == 0) → none ≡ true
    → EachStream w (λ s. t ≡ blank s) → k ≡ known_of c t → n ≡ known_number k → KnownBy its id c n
known_found its others w t id c k n none e when is each known number = known_one its others w t id c n e (empty others (eqb-true (length others) 0 (sym when ∙ is))) each (number ∙ ap known_number known)
  where
    empty : (ws : List WtStream) → length ws ≡ 0 → ws ≡ []
    empty [] z = refl
    empty (v ∷ ws) z = absurd (omega (arith, z))
