-- A stream of a session, from its first byte to its end.
use Rattle.std.proofs.Common.{◌≡◌, ℕ, ◌%◌, Bool, true, false, List, [], ◌∷◌, ◌++◌, Option, Some, None, refl, sym, ap, subst, ◌∙◌, eq-eqb}
use Rattle.std.proofs.lemmas.List.{append-nil}
use Rattle.wtp_core.specs.Varint.{Encodes, number_at}
use Rattle.wtp_core.proofs.EncodingLemmas.{number_at-encoding}
use Rattle.wtp_frames.specs.declared.endpoint.Endpoint.{Endpoint}
use Rattle.wtp_connection.specs.declared.connection.Known.{Known}
use Rattle.wtp_connection.specs.declared.connection.Known.TheVariants as known
use Rattle.wtp_connection.specs.declared.stream.Purpose.{Purpose}
use Rattle.wtp_connection.specs.declared.stream.Purpose.TheVariants as «for»
use Rattle.wtp_connection.specs.declared.stream.Stream.{Stream}
use Rattle.wtp_connection.specs.declared.stream.Stream.TheVariants.{Uni, Bi, Joining, Session}
use Rattle.wtp_connection.specs.Opening.{with_session, uni_by, uni_at, bi_by, bi_at}
use Rattle.wtp_connection.specs.Streams.{connection_of, Seen, Opened, StreamRun, rests, followed, bytes_seen, by_opening, run_stream, ended}
use Rattle.wtp_transcripts.specs.Transcript.{read, Held, Came, Told, after_seen, alone, bytes_in, end_in, last_said, said, at_once, end_seen, IsRead, IsStill, Table, Transcript, begin, after, seen_in, on_stream, events_of, places, HasPlaces}
use Rattle.wtp_connection.proofs.OpeningLemmas.{bi_none, bi_open, webtransport_allows}
use Rattle.wtp_transcripts.proofs.OrderLemmas.{all_once}
use Rattle.wtp_transcripts.proofs.WaitLemmas.{open_gives}

-- ---- what it is for

session_is : (s : ℕ) (u bytes : List ℕ) → Encodes s u → s % 4 ≡ 0 → with_session (number_at (u ++ bytes)) ≡ Some («for».Session s, bytes)
session_is s u bytes h e = ap with_session (number_at-encoding s u bytes h) ∙ rw (eq-eqb (s % 4) 0 e) refl

uni_is : (e : Endpoint) (s : ℕ) (t u bytes : List ℕ) → e.webtransport ≡ true → Encodes 0x54 t → Encodes s u → s % 4 ≡ 0 → uni_at e (t ++ (u ++ bytes)) ≡ Some («for».Session s, bytes)
unfolding uni_at
uni_is e s t u bytes w h k m = ap (uni_by e) (number_at-encoding 0x54 t (u ++ bytes) h) ∙ rw w (session_is s u bytes k m)

bi_is : (e : Endpoint) (s : ℕ) (t u bytes : List ℕ) → e.webtransport ≡ true → Encodes 0x41 t → Encodes s u → s % 4 ≡ 0 → bi_at e (t ++ (u ++ bytes)) ≡ Some («for».Session s, bytes)
bi_is e s t u bytes w h k m =
    bi_open e (t ++ (u ++ bytes)) (webtransport_allows e.side e.webtransport w)
    ∙ ap (bi_by e (t ++ (u ++ bytes))) (number_at-encoding 0x41 t (u ++ bytes) h)
    ∙ rw w (session_is s u bytes k m)

uni_none : (e : Endpoint) → uni_at e [] ≡ None
unfolding uni_at number_at
uni_none e = refl

-- ---- what it gives

-- it is to be joined, after its first bytes
abbrev to_join : Endpoint → ℕ → List ℕ → StreamRun
to_join e s bytes = followed (Opened («for».Session s) ∷ []) (rests (connection_of e) (Joining s) bytes)

reads_first : (fin : Bool) (e : Endpoint) (s : ℕ) (x : Stream) (all bytes : List ℕ) → run_stream (connection_of e) x all ≡ to_join e s bytes → read fin (connection_of e) x all ≡ to_join e s bytes
reads_first true e s x all bytes h = ap (λ (y : StreamRun). ended y) h
reads_first false e s x all bytes h = h

gives : (fin : Bool) (e : Endpoint) (s : ℕ) (x : Stream) (all bytes : List ℕ) → run_stream (connection_of e) x all ≡ to_join e s bytes → (alone (connection_of e) (record { stream = x; left = []; fin = false }) (Came all fin ∷ Told known.Open ∷ [])).seen ≡ Opened («for».Session s) ∷ (bytes_seen bytes ++ end_seen fin)
gives fin e s x all bytes h =
    ap (λ (y : StreamRun). (after_seen y.seen (alone y.connection (record { stream = y.stream; left = y.left; fin = fin }) (Told known.Open ∷ []))).seen) (reads_first fin e s x all bytes h)
    ∙ ap (λ (l : List Seen). Opened («for».Session s) ∷ l) (append-nil (read fin (connection_of e) (Session s) bytes).seen ∙ open_gives fin (connection_of e) s bytes refl)

uni_run : (e : Endpoint) (s : ℕ) (t u bytes : List ℕ) → e.webtransport ≡ true → Encodes 0x54 t → Encodes s u → s % 4 ≡ 0 → run_stream (connection_of e) Uni (t ++ (u ++ bytes)) ≡ to_join e s bytes
uni_run e s t u bytes w h k m = ap (λ (o : Option (Purpose × List ℕ)). by_opening (connection_of e) Uni (t ++ (u ++ bytes)) o) (uni_is e s t u bytes w h k m)

bi_run : (e : Endpoint) (s : ℕ) (t u bytes : List ℕ) → e.webtransport ≡ true → Encodes 0x41 t → Encodes s u → s % 4 ≡ 0 → run_stream (connection_of e) Bi (t ++ (u ++ bytes)) ≡ to_join e s bytes
bi_run e s t u bytes w h k m = ap (λ (o : Option (Purpose × List ℕ)). by_opening (connection_of e) Bi (t ++ (u ++ bytes)) o) (bi_is e s t u bytes w h k m)

-- ---- in any transcript

-- a stream that is still before its first byte, and that gives this if all of its bytes come at once
whole : (e : Endpoint) (t : Table) (n s : ℕ) (steps : Transcript) (x : Stream) (all bytes : List ℕ) → run_stream (connection_of e) x [] ≡ rests (connection_of e) x [] → places x ≡ 0 → run_stream (connection_of e) x all ≡ to_join e s bytes → t n ≡ record { stream = x; left = []; fin = false } → (after (begin e t) steps).connection.over ≡ false → HasPlaces n (begin e t) steps → IsRead (connection_of e) (t n) (events_of n steps) → bytes_in (events_of n steps) ≡ all → last_said None (events_of n steps) ≡ Some known.Open → on_stream n (seen_in (begin e t) steps) ≡ Opened («for».Session s) ∷ (bytes_seen bytes ++ end_seen (end_in (events_of n steps)))
whole e t n s steps x all bytes none free run is o h r b k =
    let first : Held = record { stream = x; left = []; fin = false } in
    let fin : Bool = end_in (events_of n steps) in
    all_once e t n steps (ap (λ (z : Held). places z.stream) is ∙ free) o h (subst (λ (z : Held). IsStill (connection_of e) z) (sym is) (record { still = none; unended = refl })) r
    ∙ ap (λ (z : Held). (alone (connection_of e) z (at_once (events_of n steps))).seen) is
    ∙ ap (λ (l : List ℕ). (alone (connection_of e) first (Came l fin ∷ said (last_said None (events_of n steps)))).seen) b
    ∙ ap (λ (q : Option Known). (alone (connection_of e) first (Came all fin ∷ said q)).seen) k
    ∙ gives fin e s x all bytes run

pub uni_whole : (e : Endpoint) (t : Table) (n s : ℕ) (steps : Transcript) (a u bytes : List ℕ) → e.webtransport ≡ true → Encodes 0x54 a → Encodes s u → s % 4 ≡ 0 → t n ≡ record { stream = Uni; left = []; fin = false } → (after (begin e t) steps).connection.over ≡ false → HasPlaces n (begin e t) steps → IsRead (connection_of e) (t n) (events_of n steps) → bytes_in (events_of n steps) ≡ a ++ (u ++ bytes) → last_said None (events_of n steps) ≡ Some known.Open → on_stream n (seen_in (begin e t) steps) ≡ Opened («for».Session s) ∷ (bytes_seen bytes ++ end_seen (end_in (events_of n steps)))
uni_whole e t n s steps a u bytes w i j m = whole e t n s steps Uni (a ++ (u ++ bytes)) bytes (ap (λ (o : Option (Purpose × List ℕ)). by_opening (connection_of e) Uni [] o) (uni_none e)) refl (uni_run e s a u bytes w i j m)

pub bi_whole : (e : Endpoint) (t : Table) (n s : ℕ) (steps : Transcript) (a u bytes : List ℕ) → e.webtransport ≡ true → Encodes 0x41 a → Encodes s u → s % 4 ≡ 0 → t n ≡ record { stream = Bi; left = []; fin = false } → (after (begin e t) steps).connection.over ≡ false → HasPlaces n (begin e t) steps → IsRead (connection_of e) (t n) (events_of n steps) → bytes_in (events_of n steps) ≡ a ++ (u ++ bytes) → last_said None (events_of n steps) ≡ Some known.Open → on_stream n (seen_in (begin e t) steps) ≡ Opened («for».Session s) ∷ (bytes_seen bytes ++ end_seen (end_in (events_of n steps)))
bi_whole e t n s steps a u bytes w i j m = whole e t n s steps Bi (a ++ (u ++ bytes)) bytes (ap (λ (o : Option (Purpose × List ℕ)). by_opening (connection_of e) Bi [] o) (bi_none e)) refl (bi_run e s a u bytes w i j m)
