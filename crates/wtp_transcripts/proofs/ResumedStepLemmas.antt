-- What happens where a session is resumed, and where none is.
use Rattle.std.proofs.Common.{◌≡◌, ℕ, ◌+◌, ◌-◌, ◌%◌, ◌/◌, ◌&&◌, ◌||◌, not, nat_lt, Bool, true, false, cond, eqb, List, [], ◌∷◌, ◌++◌, Option, Some, None, Ok, Err, refl, sym, ap, subst, ◌∙◌, eq-eqb, inl, inr, ◌⊎◌}
use Rattle.std.proofs.lemmas.Bool.{cases_Bool, false≢true}
use Rattle.wtp_frames.specs.declared.endpoint.Endpoint.{Endpoint}
use Rattle.wtp_frames.specs.declared.endpoint.Side.{Side}
use Rattle.wtp_frames.specs.declared.endpoint.Side.TheVariants.{Client, Server}
use Rattle.wtp_frames.specs.declared.fault.Fault.{Fault as StreamFault}
use Rattle.wtp_frames.specs.declared.fault.Fault.TheVariants as stream
use Rattle.wtp_frames.specs.declared.reader.Reader.{Reader}
use Rattle.wtp_frames.specs.Interim.{after_interim}
use Rattle.wtp_connection.specs.declared.connection.Connection.{Connection}
use Rattle.wtp_connection.specs.declared.connection.Known.{Known}
use Rattle.wtp_connection.specs.declared.connection.Known.TheVariants as known
use Rattle.wtp_connection.specs.declared.fault.Fault.{Fault}
use Rattle.wtp_connection.specs.declared.fault.Fault.TheVariants as fault
use Rattle.wtp_connection.specs.declared.settings.PeerSettings.{PeerSettings}
use Rattle.wtp_connection.specs.declared.stream.Purpose.{Purpose}
use Rattle.wtp_connection.specs.declared.stream.Stream.{Stream}
use Rattle.wtp_connection.specs.declared.stream.Stream.TheVariants.{Frames, Joining, Waiting, Session, Over, Incomplete}
use Rattle.wtp_connection.specs.Datagrams.{Taken, taken, after_taken}
use Rattle.wtp_connection.specs.Opening.{connected, is_critical, is_for_critical, is_forbidden, over_from}
use Rattle.wtp_connection.specs.Requests.{with_request}
use Rattle.wtp_connection.specs.Streams.{connection_of, resuming_at, resuming_of, without_resumption, with_stream, closed_by, Seen, StreamRun, most_waiting, Joined, other_fault, refuses, settles, waits, freed, joins_open, by_interim, tells_open, without, reset_answer, overflows_open}
use Rattle.wtp_transcripts.specs.Transcript.{read, loses, loses_any, resumes, Held, Event, Came, Told, Interim, Tunnelled, Reset, Overflowed, Abandoned, Outcome, outcome_of, after_seen, answered, called, unread, ends, reads_on, happens, Table, Accepted, Stopped, Datagram, On, Transcript, State, begin, at_stream, next, after, marked, seen_in, on_stream, StopsNone, AreTaken, KeepsRules, AllHavePlaces, NoneWaits, SameOn, KeepsRemembered}
use Rattle.wtp_transcripts.proofs.DatagramLemmas.{taken_same}
use Rattle.wtp_transcripts.proofs.OrderLemmas.{order_over, order_seen, rules_kept}
use Rattle.wtp_transcripts.proofs.OverLemmas.{after_over}
use Rattle.wtp_transcripts.proofs.TranscriptLemmas.{table_same}
use Rattle.wtp_transcripts.proofs.ResumedLemmas.{Beside, same_over, same_endpoint, loses_in, Both, closed_beside, lost_later, read_both}

-- ---- calls

-- a call does the same to both
record SameCall (old : PeerSettings) (x y : Joined) : Type 0 where
  stream : y.1 ≡ x.1
  answer : y.2 ≡ x.2
  beside : Beside old x.0 y.0

count_beside : (old : PeerSettings) (c d : Connection) (f : ℕ → ℕ) → Beside old c d → Beside old (record c { waiting = f c.waiting }) (record d { waiting = f d.waiting })
count_beside old c d f h = record { bare = ap (λ (x : Connection). record x { waiting = f x.waiting }) h.bare; plain = h.plain; kept = h.kept }

freed_beside : (old : PeerSettings) (c d : Connection) → Beside old c d → Beside old (freed c) (freed d)
freed_beside old c d h = count_beside old c d (λ n. n - 1) h

kept_call : (old : PeerSettings) (c d : Connection) (s : Stream) (o : Option Fault) → Beside old c d → SameCall old (c, s, o) (d, s, o)
kept_call old c d s o h = record { stream = refl; answer = refl; beside = h }

refused_call : (old : PeerSettings) (c d : Connection) (f : StreamFault) → Beside old c d → SameCall old (refuses c f) (refuses d f)
refused_call old c d f h = record { stream = refl; answer = refl; beside = closed_beside old c d (fault.Stream f) h }

cond_call : (a b : Bool) (old : PeerSettings) (x y v w : Joined) → b ≡ a → SameCall old x y → SameCall old v w → SameCall old (cond a x v) (cond b y w)
cond_call true true old x y v w e f g = f
cond_call false false old x y v w e f g = g
cond_call true false old x y v w e f g = absurd (false≢true e)
cond_call false true old x y v w e f g = absurd (false≢true (sym e))

settled_call : (k : Known) (old : PeerSettings) (c d : Connection) (s : ℕ) → Beside old c d → SameCall old (settles c s k) (settles d s k)
settled_call known.Coming old c d s h = kept_call old c d (Waiting s) None h
settled_call known.Open old c d s h = kept_call old c d (Session s) None h
settled_call known.Over old c d s h = refused_call old c d _ h
settled_call known.Refused old c d s h = refused_call old c d _ h
settled_call known.Other old c d s h = subst (λ (x : Endpoint). SameCall old (refuses c (other_fault c.endpoint.side)) (refuses d (other_fault x.side))) (sym (same_endpoint old c d h)) (refused_call old c d (other_fault c.endpoint.side) h)
settled_call known.Impossible old c d s h = refused_call old c d _ h

waiting_call : (old : PeerSettings) (c d : Connection) (s : ℕ) → Beside old c d → SameCall old (waits c s) (waits d s)
waiting_call old c d s h = cond_call (nat_lt c.waiting most_waiting) (nat_lt d.waiting most_waiting) old (record c { waiting = c.waiting + 1 }, Waiting s, None) (record d { waiting = d.waiting + 1 }, Waiting s, None) (refuses c stream.BufferedStreamRejected) (refuses d stream.BufferedStreamRejected) (ap (λ (x : Connection). nat_lt x.waiting most_waiting) h.bare) (record { stream = refl; answer = refl; beside = count_beside old c d (λ n. n + 1) h }) (refused_call old c d stream.BufferedStreamRejected h)

joining_call : (s : Stream) (k : Known) (old : PeerSettings) (c d : Connection) → Beside old c d → SameCall old (joins_open c s k) (joins_open d s k)
joining_call (Joining n) known.Coming old c d h = waiting_call old c d n h
joining_call (Joining n) k old c d h = settled_call k old c d n h
joining_call (Waiting n) known.Coming old c d h = kept_call old c d (Waiting n) None h
joining_call (Waiting n) k old c d h = settled_call k old (freed c) (freed d) n (freed_beside old c d h)
joining_call (Session n) known.Over old c d h = refused_call old c d stream.SessionGone h
joining_call other k old c d h = kept_call old c d other None h

without_beside : (s : Stream) (old : PeerSettings) (c d : Connection) → Beside old c d → Beside old (without c s) (without d s)
without_beside (Waiting n) old c d h = freed_beside old c d h
without_beside other old c d h = h

interim_call : (x : Reader × Option StreamFault) (old : PeerSettings) (c d : Connection) (given : Bool) → Beside old c d → SameCall old (by_interim c given x) (by_interim d given x)
interim_call (r, None) old c d given h = kept_call old c d (Frames r given) None h
interim_call (r, Some f) old c d given h = refused_call old c d f h

told_call : (s : Stream) (old : PeerSettings) (c d : Connection) → Beside old c d → SameCall old (tells_open c s) (tells_open d s)
told_call (Frames r given) old c d h = interim_call (after_interim r) old c d given h
told_call other old c d h = kept_call old c d other None h

overflow_call : (s : Stream) (old : PeerSettings) (c d : Connection) → Beside old c d → SameCall old (overflows_open c s) (overflows_open d s)
overflow_call (Joining n) old c d h = refused_call old c d stream.BufferedStreamRejected h
overflow_call (Waiting n) old c d h = refused_call old (freed c) (freed d) stream.BufferedStreamRejected (freed_beside old c d h)
overflow_call Incomplete old c d h = kept_call old c d Incomplete None h
overflow_call Over old c d h = kept_call old c d Over None h
overflow_call other old c d h = refused_call old c d stream.ExcessiveLoad h

abandon_call : (b : Bool) (s : Stream) (old : PeerSettings) (c d : Connection) → Beside old c d → SameCall old ((cond {A = Connection × Stream} b (c, s) (without c s, over_from s)).0, (cond {A = Connection × Stream} b (c, s) (without c s, over_from s)).1, None) ((cond {A = Connection × Stream} b (d, s) (without d s, over_from s)).0, (cond {A = Connection × Stream} b (d, s) (without d s, over_from s)).1, None)
abandon_call true s old c d h = kept_call old c d s None h
abandon_call false s old c d h = record { stream = refl; answer = refl; beside = without_beside s old c d h }

-- a reset of a stream that is not critical
abbrev left_by : Connection → Stream → Joined
left_by c s = cond (is_forbidden c.endpoint s && not c.over) (refuses c stream.StreamCreation) (without c s, over_from s, reset_answer c s)

left_call : (s : Stream) (old : PeerSettings) (c d : Connection) → Beside old c d → SameCall old (left_by c s) (left_by d s)
left_call s old c d h = cond_call (is_forbidden c.endpoint s && not c.over) (is_forbidden d.endpoint s && not d.over) old (refuses c stream.StreamCreation) (refuses d stream.StreamCreation) (without c s, over_from s, reset_answer c s) (without d s, over_from s, reset_answer d s)
    (ap (λ (x : Connection). is_forbidden x.endpoint s && not x.over) h.bare)
    (refused_call old c d stream.StreamCreation h) (record { stream = refl; answer = ap (λ (x : Connection). reset_answer x s) h.bare; beside = without_beside s old c d h })

both_called : (e : Event) (s : Stream) (old : PeerSettings) (c d : Connection) → Beside old c d → SameCall old (called c s e) (called d s e)
both_called (Came bytes fin) s old c d h = kept_call old c d s None h
both_called (Told k) s old c d h = cond_call c.over d.over old (c, s, None) (d, s, None) (joins_open c s k) (joins_open d s k) (same_over old c d h) (kept_call old c d s None h) (joining_call s k old c d h)
both_called Interim s old c d h = cond_call c.over d.over old (c, s, None) (d, s, None) (tells_open c s) (tells_open d s) (same_over old c d h) (kept_call old c d s None h) (told_call s old c d h)
both_called Tunnelled s old c d h = kept_call old c d (connected s) None h
both_called Reset s old c d h = cond_call (is_critical s && not c.over) (is_critical s && not d.over) old (refuses c stream.ClosedCriticalStream) (refuses d stream.ClosedCriticalStream) (left_by c s) (left_by d s) (ap (λ (b : Bool). is_critical s && not b) (same_over old c d h)) (refused_call old c d stream.ClosedCriticalStream h) (left_call s old c d h)
both_called Overflowed s old c d h = cond_call c.over d.over old (c, s, None) (d, s, None) (overflows_open c s) (overflows_open d s) (same_over old c d h) (kept_call old c d s None h) (overflow_call s old c d h)
both_called Abandoned s old c d h = abandon_call (is_critical s) s old c d h

-- ---- events

record SameOutcome (old : PeerSettings) (x y : Outcome) : Type 0 where
  seen : y.seen ≡ x.seen
  held : y.held ≡ x.held
  beside : Beside old x.connection y.connection

record RefusesEvent (old : PeerSettings) (x y : Outcome) : Type 0 where
  over : x.connection.over ≡ true
  lost : loses_in old y.seen ≡ true

abbrev EitherOutcome : PeerSettings → Outcome → Outcome → Type 0
EitherOutcome old x y = SameOutcome old x y ⊎ RefusesEvent old x y

abbrev held_of : Bool → Stream → List ℕ → Held
held_of fin s l = record { stream = s; left = l; fin = fin }

held_is : (fin : Bool) (s t : Stream) (l m : List ℕ) → t ≡ s → m ≡ l → held_of fin t m ≡ held_of fin s l
held_is fin s t l m e f = ap (λ (u : Stream). held_of fin u m) e ∙ ap (λ (k : List ℕ). held_of fin s k) f

read_outcome : (fin : Bool) (o : Option Fault) (old : PeerSettings) (x y : StreamRun) → Both old x y → EitherOutcome old (after_seen (answered o) (outcome_of fin x)) (after_seen (answered o) (outcome_of fin y))
read_outcome fin o old x y (inl h) = inl (record {
  seen = ap (λ (l : List Seen). answered o ++ l) h.seen;
  held = held_is fin x.stream y.stream x.left y.left h.stream h.left;
  beside = h.beside;
})
read_outcome fin o old x y (inr h) = inr (record { over = h.over; lost = lost_later old (answered o) y.seen h.lost })

reads_both : (fin : Bool) (left : List ℕ) (old : PeerSettings) (x y : Joined) → SameCall old x y → EitherOutcome old (reads_on fin left x) (reads_on fin left y)
reads_both fin left old x y h =
    subst (λ (o : Option Fault). EitherOutcome old (reads_on fin left x) (after_seen (answered o) (outcome_of fin (read fin y.0 y.1 left)))) (sym h.answer) (
    subst (λ (s : Stream). EitherOutcome old (reads_on fin left x) (after_seen (answered x.2) (outcome_of fin (read fin y.0 s left)))) (sym h.stream) (
    read_outcome fin x.2 old (read fin x.0 x.1 left) (read fin y.0 x.1 left) (read_both fin x.1 left old x.0 y.0 h.beside)))

event_both : (e : Event) (h : Held) (old : PeerSettings) (c d : Connection) → Beside old c d → EitherOutcome old (happens c h e) (happens d h e)
event_both e h old c d b = reads_both (ends h e) (unread h e) old (called c h.stream e) (called d h.stream e) (both_called e h.stream old c d b)

-- ---- the whole connection

record SameState (old : PeerSettings) (x y : State) : Type 0 where
  beside : Beside old x.connection y.connection
  streams : (k : ℕ) → y.streams k ≡ x.streams k

accepted_beside : (side other : Side) (n : ℕ) (old : PeerSettings) (c d : Connection) → other ≡ side → Beside old c d → Beside old (with_stream side c n) (with_stream other d n)
accepted_beside side other n old c d e h = subst (λ (s : Side). Beside old (with_stream side c n) (with_stream s d n)) (sym e) (by_side side)
  where
    begun : (b : Bool) → Beside old (cond b (record c { begun = with_request c.begun (n / 4) }) c) (cond b (record d { begun = with_request d.begun (n / 4) }) d)
    begun true = record { bare = ap (λ (x : Connection). record x { begun = with_request x.begun (n / 4) }) h.bare; plain = h.plain; kept = h.kept }
    begun false = h

    by_side : (s : Side) → Beside old (with_stream s c n) (with_stream s d n)
    by_side Client = h
    by_side Server = begun (eqb (n % 4) 0)

stopped_beside : (a b : Bool) (f : Fault) (old : PeerSettings) (c d : Connection) → b ≡ a → Beside old c d → Beside old (cond {A = Connection × Option Fault} a (closed_by c f, Some f) (c, None)).0 (cond {A = Connection × Option Fault} b (closed_by d f, Some f) (d, None)).0
stopped_beside true true f old c d e h = closed_beside old c d f h
stopped_beside false false f old c d e h = h
stopped_beside true false f old c d e h = absurd (false≢true e)
stopped_beside false true f old c d e h = absurd (false≢true (sym e))

next_accepted : (m : ℕ) (old : PeerSettings) (x y : State) → SameState old x y → SameState old (next x (Accepted m)) (next y (Accepted m))
next_accepted m old x y h = record {
  beside = accepted_beside x.connection.endpoint.side y.connection.endpoint.side m old x.connection y.connection (ap (λ (e : Endpoint). e.side) (same_endpoint old x.connection y.connection h.beside)) h.beside;
  streams = h.streams;
}

next_stopped : (p : Purpose) (old : PeerSettings) (x y : State) → SameState old x y → SameState old (next x (Stopped p)) (next y (Stopped p))
next_stopped p old x y h = record {
  beside = stopped_beside (is_for_critical p && not x.connection.over) (is_for_critical p && not y.connection.over) (fault.Stream stream.ClosedCriticalStream) old x.connection y.connection (ap (λ (b : Bool). is_for_critical p && not b) (same_over old x.connection y.connection h.beside)) h.beside;
  streams = h.streams;
}

next_datagram : (bytes : List ℕ) (old : PeerSettings) (x y : State) → SameState old x y → SameState old (next x (Datagram bytes)) (next y (Datagram bytes))
next_datagram bytes old x y h = record {
  beside =
      subst (λ (r : Taken). Beside old (after_taken x.connection (taken x.connection bytes)) (after_taken y.connection r)) (sym (taken_same x.connection y.connection bytes (same_over old x.connection y.connection h.beside) (same_endpoint old x.connection y.connection h.beside))) (
      taken_beside (taken x.connection bytes) old x.connection y.connection h.beside);
  streams = h.streams;
}
  where
    taken_beside : (r : Taken) (old : PeerSettings) (c d : Connection) → Beside old c d → Beside old (after_taken c r) (after_taken d r)
    taken_beside (Ok o) old c d h = h
    taken_beside (Err f) old c d h = closed_beside old c d f h

-- an event of stream m
at_both : (m : ℕ) (e : Event) (old : PeerSettings) (x y : State) → SameState old x y → EitherOutcome old (at_stream x m e) (at_stream y m e)
at_both m e old x y h = subst (λ (k : Held). EitherOutcome old (at_stream x m e) (happens y.connection k e)) (sym (h.streams m)) (event_both e (x.streams m) old x.connection y.connection h.beside)

next_event : (m : ℕ) (e : Event) (old : PeerSettings) (x y : State) → SameState old x y → SameOutcome old (at_stream x m e) (at_stream y m e) → SameState old (next x (On m e)) (next y (On m e))
next_event m e old x y h o = record {
  beside = o.beside;
  streams = table_same y.streams x.streams m (at_stream y m e).held (at_stream x m e).held o.held h.streams;
}

-- what all steps find is the same, and so is what they lead to
record SameSteps (old : PeerSettings) (x y : State) (steps : Transcript) : Type 0 where
  seen : seen_in x steps ≡ seen_in y steps
  streams : (k : ℕ) → (after x steps).streams k ≡ (after y steps).streams k
  over : (after y steps).connection.over ≡ false

-- where no error ends the first one
same_steps : (steps : Transcript) (old : PeerSettings) (x y : State) → SameState old x y → (after x steps).connection.over ≡ false → SameSteps old x y steps
same_steps [] old x y h i = record { seen = refl; streams = λ k. sym (h.streams k); over = same_over old x.connection y.connection h.beside ∙ i }
same_steps (Accepted m ∷ steps) old x y h i =
    let s : SameSteps old (next x (Accepted m)) (next y (Accepted m)) steps = same_steps steps old (next x (Accepted m)) (next y (Accepted m)) (next_accepted m old x y h) i in
    record { seen = s.seen; streams = s.streams; over = s.over }
same_steps (Stopped p ∷ steps) old x y h i =
    let s : SameSteps old (next x (Stopped p)) (next y (Stopped p)) steps = same_steps steps old (next x (Stopped p)) (next y (Stopped p)) (next_stopped p old x y h) i in
    record { seen = s.seen; streams = s.streams; over = s.over }
same_steps (Datagram bytes ∷ steps) old x y h i =
    let s : SameSteps old (next x (Datagram bytes)) (next y (Datagram bytes)) steps = same_steps steps old (next x (Datagram bytes)) (next y (Datagram bytes)) (next_datagram bytes old x y h) i in
    record { seen = s.seen; streams = s.streams; over = s.over }
same_steps (On m e ∷ steps) old x y h i = by_event (at_both m e old x y h) (λ o. same_steps steps old (next x (On m e)) (next y (On m e)) (next_event m e old x y h o) i)
  where
    by_event : EitherOutcome old (at_stream x m e) (at_stream y m e) → (SameOutcome old (at_stream x m e) (at_stream y m e) → SameSteps old (next x (On m e)) (next y (On m e)) steps) → SameSteps old x y (On m e ∷ steps)
    by_event (inl o) later =
        let s : SameSteps old (next x (On m e)) (next y (On m e)) steps = later o in
        record {
          seen =
              ap (λ (l : List Seen). marked m l ++ seen_in (next x (On m e)) steps) (sym o.seen)
              ∙ ap (λ (l : List (ℕ × Seen)). marked m (at_stream y m e).seen ++ l) s.seen;
          streams = s.streams;
          over = s.over;
        }
    by_event (inr r) later = absurd (false≢true (sym i ∙ after_over steps (next x (On m e)) r.over))

-- ---- SETTINGS that keep what is remembered

or_right : (a b : Bool) → (a || b) ≡ false → b ≡ false
or_right true b e = absurd (false≢true (sym e))
or_right false b e = e

or_left : (a b : Bool) → (a || b) ≡ false → a ≡ false
or_left true b e = e
or_left false b e = refl

lost_marked : (old : PeerSettings) (n : ℕ) (seen : List Seen) (more : List (ℕ × Seen)) → loses_any old (marked n seen ++ more) ≡ false → (loses_in old seen ≡ false) × (loses_any old more ≡ false)
lost_marked old n [] more e = (refl, e)
lost_marked old n (i ∷ seen) more e =
    let rest = lost_marked old n seen more (or_right (loses old i) (loses_any old (marked n seen ++ more)) e) in
    (ap (λ (b : Bool). b || loses_in old seen) (or_left (loses old i) (loses_any old (marked n seen ++ more)) e) ∙ rest.0, rest.1)

-- where no error ends the second one
kept_steps : (steps : Transcript) (old : PeerSettings) (x y : State) → SameState old x y → (after y steps).connection.over ≡ false → loses_any old (seen_in y steps) ≡ false → (after x steps).connection.over ≡ false
kept_steps [] old x y h i k = sym (same_over old x.connection y.connection h.beside) ∙ i
kept_steps (Accepted m ∷ steps) old x y h i k = kept_steps steps old (next x (Accepted m)) (next y (Accepted m)) (next_accepted m old x y h) i k
kept_steps (Stopped p ∷ steps) old x y h i k = kept_steps steps old (next x (Stopped p)) (next y (Stopped p)) (next_stopped p old x y h) i k
kept_steps (Datagram bytes ∷ steps) old x y h i k = kept_steps steps old (next x (Datagram bytes)) (next y (Datagram bytes)) (next_datagram bytes old x y h) i k
kept_steps (On m e ∷ steps) old x y h i k = by_event (at_both m e old x y h) (lost_marked old m (at_stream y m e).seen (seen_in (next y (On m e)) steps) k) (λ o l. kept_steps steps old (next x (On m e)) (next y (On m e)) (next_event m e old x y h o) i l)
  where
    by_event : EitherOutcome old (at_stream x m e) (at_stream y m e) → (loses_in old (at_stream y m e).seen ≡ false) × (loses_any old (seen_in (next y (On m e)) steps) ≡ false) → (SameOutcome old (at_stream x m e) (at_stream y m e) → loses_any old (seen_in (next y (On m e)) steps) ≡ false → (after x (On m e ∷ steps)).connection.over ≡ false) → (after x (On m e ∷ steps)).connection.over ≡ false
    by_event (inl o) l later = later o l.1
    by_event (inr r) l later = absurd (false≢true (sym l.0 ∙ r.lost))

-- ---- from the first byte on

first_beside : (side : Side) (e : Endpoint) (v : PeerSettings) → Beside v (resuming_at side e v) (connection_of e)
first_beside Client e v = record { bare = refl; plain = refl; kept = λ is. refl }
first_beside Server e v = record { bare = refl; plain = refl; kept = λ is. absurd (false≢true is) }

first_state : (e : Endpoint) (v : PeerSettings) (t : Table) → SameState v (resumes e v t) (begin e t)
first_state e v t = record { beside = first_beside e.side e v; streams = λ k. refl }

pub resumed_seen : (e : Endpoint) (v : PeerSettings) (t : Table) (steps : Transcript) → (after (resumes e v t) steps).connection.over ≡ false → seen_in (resumes e v t) steps ≡ seen_in (begin e t) steps
resumed_seen e v t steps i = (same_steps steps v (resumes e v t) (begin e t) (first_state e v t) i).seen

pub resumed_streams : (e : Endpoint) (v : PeerSettings) (t : Table) (steps : Transcript) (n : ℕ) → (after (resumes e v t) steps).connection.over ≡ false → (after (resumes e v t) steps).streams n ≡ (after (begin e t) steps).streams n
resumed_streams e v t steps n i = (same_steps steps v (resumes e v t) (begin e t) (first_state e v t) i).streams n

pub resumed_over : (e : Endpoint) (v : PeerSettings) (t : Table) (steps : Transcript) → (after (resumes e v t) steps).connection.over ≡ false → (after (begin e t) steps).connection.over ≡ false
resumed_over e v t steps i = (same_steps steps v (resumes e v t) (begin e t) (first_state e v t) i).over

pub resumed_kept : (e : Endpoint) (v : PeerSettings) (t : Table) (steps : Transcript) → (after (begin e t) steps).connection.over ≡ false → KeepsRemembered e v t steps → (after (resumes e v t) steps).connection.over ≡ false
resumed_kept e v t steps i k = kept_steps steps v (resumes e v t) (begin e t) (first_state e v t) i k

-- ---- in another order

or_some : (a b c : Bool) → (b ≡ true → c ≡ true) → (a || b) ≡ true → (a || c) ≡ true
or_some true b c f e = refl
or_some false b c f e = f e

or_later : (a b : Bool) → b ≡ true → (a || b) ≡ true
or_later true b e = refl
or_later false b e = e

lost_among : (old : PeerSettings) (n : ℕ) (seen : List (ℕ × Seen)) → loses_in old (on_stream n seen) ≡ true → loses_any old seen ≡ true
lost_among old n [] e = e
lost_among old n (x ∷ seen) e = by_stream (eqb x.0 n) e (lost_among old n seen)
  where
    by_stream : (b : Bool) → loses_in old (cond b (x.1 ∷ on_stream n seen) (on_stream n seen)) ≡ true → (loses_in old (on_stream n seen) ≡ true → loses_any old seen ≡ true) → (loses old x.1 || loses_any old seen) ≡ true
    by_stream true e later = or_some (loses old x.1) (loses_in old (on_stream n seen)) (loses_any old seen) later e
    by_stream false e later = or_later (loses old x.1) (loses_any old seen) (later e)

first_on : (n : ℕ) (i : Seen) (seen : List (ℕ × Seen)) → on_stream n ((n, i) ∷ seen) ≡ i ∷ on_stream n seen
first_on n i seen = rw (eq_same n) refl
  where
    eq_same : (k : ℕ) → eqb k k ≡ true
    eq_same k = eq-eqb k k refl

lost_on : (old : PeerSettings) (seen : List (ℕ × Seen)) → loses_any old seen ≡ true → (n : ℕ) × (loses_in old (on_stream n seen) ≡ true)
lost_on old [] e = absurd (false≢true e)
lost_on old (x ∷ seen) e = elim (cases_Bool (loses old x.1)) [
  | inl lost ↦ (x.0, ap (λ (l : List Seen). loses_in old l) (first_on x.0 x.1 seen) ∙ ap (λ (b : Bool). b || loses_in old (on_stream x.0 seen)) lost)
  | inr none ↦
      let later : (n : ℕ) × (loses_in old (on_stream n seen) ≡ true) = lost_on old seen (ap (λ (b : Bool). b || loses_any old seen) (sym none) ∙ e) in
      (later.0, by_stream later.0 (eqb x.0 later.0) later.1)
]
  where
    by_stream : (n : ℕ) (b : Bool) → loses_in old (on_stream n seen) ≡ true → loses_in old (cond b (x.1 ∷ on_stream n seen) (on_stream n seen)) ≡ true
    by_stream n true h = or_later (loses old x.1) (loses_in old (on_stream n seen)) h
    by_stream n false h = h

kept_same : (old : PeerSettings) (xs ys : List (ℕ × Seen)) → ((n : ℕ) → on_stream n ys ≡ on_stream n xs) → loses_any old xs ≡ false → loses_any old ys ≡ false
kept_same old xs ys h k = elim (cases_Bool (loses_any old ys)) [
  | inr none ↦ none
  | inl lost ↦
      let on : (n : ℕ) × (loses_in old (on_stream n ys) ≡ true) = lost_on old ys lost in
      absurd (false≢true (sym k ∙ lost_among old on.0 xs (ap (λ (l : List Seen). loses_in old l) (sym (h on.0)) ∙ on.1)))
]

second_kept : (e : Endpoint) (v : PeerSettings) (t : Table) (first second : Transcript) → NoneWaits t → KeepsRules e t first → ((k : ℕ) → SameOn e t k first second) → StopsNone second → AreTaken e second → AllHavePlaces (begin e t) first → AllHavePlaces (begin e t) second → KeepsRemembered e v t first → KeepsRemembered e v t second
second_kept e v t first second z r s none valid p q k = kept_same v (seen_in (begin e t) first) (seen_in (begin e t) second) (λ n. order_seen e t n first second z r s none valid p q) k

pub resumed_order_over : (e : Endpoint) (v : PeerSettings) (t : Table) (first second : Transcript) → NoneWaits t → KeepsRules e t first → ((k : ℕ) → SameOn e t k first second) → StopsNone second → AreTaken e second → AllHavePlaces (begin e t) first → AllHavePlaces (begin e t) second → KeepsRemembered e v t first → (after (resumes e v t) second).connection.over ≡ false
resumed_order_over e v t first second z r s none valid p q k = resumed_kept e v t second (order_over e t first second z r s none valid q) (second_kept e v t first second z r s none valid p q k)

pub resumed_order_seen : (e : Endpoint) (v : PeerSettings) (t : Table) (n : ℕ) (first second : Transcript) → NoneWaits t → KeepsRules e t first → ((k : ℕ) → SameOn e t k first second) → StopsNone second → AreTaken e second → AllHavePlaces (begin e t) first → AllHavePlaces (begin e t) second → KeepsRemembered e v t first → on_stream n (seen_in (resumes e v t) second) ≡ on_stream n (seen_in (resumes e v t) first)
resumed_order_seen e v t n first second z r s none valid p q k =
    ap (λ (l : List (ℕ × Seen)). on_stream n l) (resumed_seen e v t second (resumed_order_over e v t first second z r s none valid p q k))
    ∙ order_seen e t n first second z r s none valid p q
    ∙ ap (λ (l : List (ℕ × Seen)). on_stream n l) (sym (resumed_seen e v t first (resumed_kept e v t first (rules_kept e t first z r p) k)))

-- ---- 0-RTT is not accepted

forgets : (side : Side) (e : Endpoint) (v : PeerSettings) → without_resumption (resuming_at side e v) ≡ connection_of e
forgets Client e v = refl
forgets Server e v = refl

pub refused_forgets : (e : Endpoint) (v : PeerSettings) → without_resumption (resuming_of e v) ≡ connection_of e
refused_forgets e v = forgets e.side e v
