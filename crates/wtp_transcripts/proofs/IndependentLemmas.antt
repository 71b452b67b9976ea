-- What a stream gives does not depend on the others.
use Rattle.std.proofs.Common.{◌≡◌, ℕ, ◌+◌, ◌%◌, ◌/◌, ◌&&◌, not, nat_lt, Bool, true, false, cond, eqb, List, [], ◌∷◌, ◌++◌, Option, Some, None, Ok, Err, refl, sym, ap, subst, ◌∙◌, arith, inl, inr}
use Rattle.std.proofs.lemmas.Bool.{cases_Bool, eqb-true, lt-ltb, false≢true}
use Rattle.std.proofs.lemmas.List.{append-nil}
use Rattle.wtp_frames.specs.declared.endpoint.Endpoint.{Endpoint}
use Rattle.wtp_frames.specs.declared.endpoint.Side.{Side}
use Rattle.wtp_frames.specs.declared.endpoint.Side.TheVariants.{Client, Server}
use Rattle.wtp_frames.specs.declared.fault.Fault.{Fault as StreamFault}
use Rattle.wtp_frames.specs.declared.fault.Fault.TheVariants as stream
use Rattle.wtp_frames.specs.declared.reader.Reader.{Reader}
use Rattle.wtp_frames.specs.Interim.{after_interim}
use Rattle.wtp_connection.specs.declared.connection.Connection.{Connection}
use Rattle.wtp_connection.specs.declared.connection.Known.{Known}
use Rattle.wtp_connection.specs.declared.connection.Known.TheVariants as known
use Rattle.wtp_connection.specs.declared.fault.Fault.{Fault}
use Rattle.wtp_connection.specs.declared.fault.Fault.TheVariants as fault
use Rattle.wtp_connection.specs.declared.stream.Purpose.{Purpose}
use Rattle.wtp_connection.specs.declared.stream.Purpose.TheVariants as «for»
use Rattle.wtp_connection.specs.declared.stream.Stream.{Stream}
use Rattle.wtp_connection.specs.declared.stream.Stream.TheVariants.{Frames, Joining, Waiting, Session, Over, Incomplete}
use Rattle.wtp_connection.specs.Datagrams.{Taken, taken, after_taken}
use Rattle.wtp_connection.specs.Opening.{connected, is_critical, is_for_critical, is_forbidden, has_no_headers, over_from}
use Rattle.wtp_connection.specs.Requests.{with_request}
use Rattle.wtp_connection.specs.Streams.{connection_of, with_stream, closed_by, Seen, StreamRun, most_waiting, Joined, other_fault, refuses, settles, waits, freed, joins_open, by_interim, tells_open, without, reset_answer_at, reset_answer, overflows_open}
use Rattle.wtp_transcripts.specs.Transcript.{read, Held, Event, Came, Told, Interim, Tunnelled, Reset, Overflowed, Abandoned, Outcome, answered, called, unread, ends, reads_on, happens, alone, Table, Step, Accepted, Stopped, Datagram, On, Transcript, State, begin, at_stream, next, after, marked, found_by, seen_in, on_stream, events_of, places, HasPlace, HasPlaces, is_opened as flag}
use Rattle.wtp_transcripts.proofs.AlikeLemmas.{Flags, Goes, goes_then, goes_same, closed_goes, closed_over, RunsAlike, AgreesOn, read_alike, opened_first, Agree, plain_agree}
use Rattle.wtp_transcripts.proofs.OverLemmas.{read_from, before_steps, nothing_seen, seen_append}
use Rattle.wtp_transcripts.proofs.WaitLemmas.{EventCounts, event_counts, held_at, held_other}

-- ---- calls

-- a call does the same to two connections
pub record CallsAlike (c d : Connection) (x y : Joined) : Type 0 where
  pub stream : y.1 ≡ x.1
  pub answer : y.2 ≡ x.2
  pub over : y.0.over ≡ x.0.over
  pub goes : Goes c d x.0 y.0

count_flags : (c : Connection) (n : ℕ) (p : Purpose) → flag (record c { waiting = n }) p ≡ flag c p
count_flags c n «for».Control = refl
count_flags c n «for».Encoder = refl
count_flags c n «for».Decoder = refl
count_flags c n other = refl

count_goes : (c d : Connection) (n m : ℕ) → Goes c d (record c { waiting = n }) (record d { waiting = m })
count_goes c d n m = record { endpoint = refl; other = refl; flags = λ p. inl (count_flags c n p, count_flags d m p); plain = λ e. e; other_plain = λ e. e }

calls_from : (c d e f : Connection) (x y : Joined) → Goes c d e f → CallsAlike e f x y → CallsAlike c d x y
calls_from c d e f x y g h = record { stream = h.stream; answer = h.answer; over = h.over; goes = goes_then c d e f x.0 y.0 g h.goes }

same_alike : (c d : Connection) (s : Stream) (o : Option Fault) → d.over ≡ c.over → CallsAlike c d (c, s, o) (d, s, o)
same_alike c d s o e = record { stream = refl; answer = refl; over = e; goes = goes_same c d }

refuses_alike : (c d : Connection) (f : StreamFault) → d.over ≡ c.over → CallsAlike c d (refuses c f) (refuses d f)
refuses_alike c d f e = record { stream = refl; answer = refl; over = closed_over c d (fault.Stream f) e; goes = closed_goes c d (fault.Stream f) }

settles_alike : (k : Known) (c d : Connection) (s : ℕ) → d.endpoint ≡ c.endpoint → d.over ≡ c.over → CallsAlike c d (settles c s k) (settles d s k)
settles_alike known.Coming c d s e i = same_alike c d (Waiting s) None i
settles_alike known.Open c d s e i = same_alike c d (Session s) None i
settles_alike known.Over c d s e i = refuses_alike c d _ i
settles_alike known.Refused c d s e i = refuses_alike c d _ i
settles_alike known.Other c d s e i = subst (λ (x : Endpoint). CallsAlike c d (refuses c (other_fault c.endpoint.side)) (refuses d (other_fault x.side))) (sym e) (refuses_alike c d (other_fault c.endpoint.side) i)
settles_alike known.Impossible c d s e i = refuses_alike c d _ i

cond_calls : (a b : Bool) (c d : Connection) (x y v w : Joined) → b ≡ a → CallsAlike c d x y → CallsAlike c d v w → CallsAlike c d (cond a x v) (cond b y w)
cond_calls true true c d x y v w e f g = f
cond_calls true false c d x y v w e f g = absurd (false≢true e)
cond_calls false true c d x y v w e f g = absurd (false≢true (sym e))
cond_calls false false c d x y v w e f g = g

-- both have a place for the stream to wait, or none has
abbrev pub SamePlace : Connection → Connection → Stream → Event → Type 0
SamePlace c d (Joining s) (Told known.Coming) = nat_lt d.waiting most_waiting ≡ nat_lt c.waiting most_waiting
SamePlace c d other e = Unit {0}

waits_alike : (c d : Connection) (s : ℕ) → d.over ≡ c.over → nat_lt d.waiting most_waiting ≡ nat_lt c.waiting most_waiting → CallsAlike c d (waits c s) (waits d s)
waits_alike c d s i e = cond_calls (nat_lt c.waiting most_waiting) (nat_lt d.waiting most_waiting) c d (record c { waiting = c.waiting + 1 }, Waiting s, None) (record d { waiting = d.waiting + 1 }, Waiting s, None) (refuses c stream.BufferedStreamRejected) (refuses d stream.BufferedStreamRejected) e (record { stream = refl; answer = refl; over = i; goes = count_goes c d (c.waiting + 1) (d.waiting + 1) }) (refuses_alike c d stream.BufferedStreamRejected i)

freed_alike : (k : Known) (c d : Connection) (s : ℕ) → d.endpoint ≡ c.endpoint → d.over ≡ c.over → CallsAlike c d (settles (freed c) s k) (settles (freed d) s k)
freed_alike k c d s e i = calls_from c d (freed c) (freed d) (settles (freed c) s k) (settles (freed d) s k) (count_goes c d _ _) (settles_alike k (freed c) (freed d) s e i)

joins_alike : (s : Stream) (k : Known) (c d : Connection) → d.endpoint ≡ c.endpoint → d.over ≡ c.over → SamePlace c d s (Told k) → CallsAlike c d (joins_open c s k) (joins_open d s k)
joins_alike (Joining n) known.Coming c d e i p = waits_alike c d n i p
joins_alike (Joining n) k c d e i p = settles_alike k c d n e i
joins_alike (Waiting n) known.Coming c d e i p = same_alike c d (Waiting n) None i
joins_alike (Waiting n) k c d e i p = freed_alike k c d n e i
joins_alike (Session n) known.Over c d e i p = refuses_alike c d stream.SessionGone i
joins_alike other k c d e i p = same_alike c d other None i

leaves_alike : (s t : Stream) (c d : Connection) (o q : Option Fault) → d.over ≡ c.over → q ≡ o → CallsAlike c d (without c s, t, o) (without d s, t, q)
leaves_alike (Waiting n) t c d o q i e = record { stream = refl; answer = e; over = i; goes = count_goes c d _ _ }
leaves_alike other t c d o q i e = record { stream = refl; answer = e; over = i; goes = goes_same c d }

answer_same : (s : Stream) (c d : Connection) → d.endpoint ≡ c.endpoint → d.over ≡ c.over → reset_answer d s ≡ reset_answer c s
answer_same s c d e i =
    ap (λ (x : Endpoint). reset_answer_at x.side (has_no_headers s && not d.over)) e
    ∙ ap (λ (b : Bool). reset_answer_at c.endpoint.side (has_no_headers s && not b)) i

overflow_alike : (s : Stream) (c d : Connection) → d.over ≡ c.over → CallsAlike c d (overflows_open c s) (overflows_open d s)
overflow_alike (Joining n) c d i = refuses_alike c d stream.BufferedStreamRejected i
overflow_alike (Waiting n) c d i = calls_from c d (freed c) (freed d) (refuses (freed c) stream.BufferedStreamRejected) (refuses (freed d) stream.BufferedStreamRejected) (count_goes c d _ _) (refuses_alike (freed c) (freed d) stream.BufferedStreamRejected i)
overflow_alike Incomplete c d i = same_alike c d Incomplete None i
overflow_alike Over c d i = same_alike c d Over None i
overflow_alike other c d i = refuses_alike c d stream.ExcessiveLoad i

abandon_alike : (b : Bool) (s : Stream) (c d : Connection) → d.over ≡ c.over → CallsAlike c d ((cond {A = Connection × Stream} b (c, s) (without c s, over_from s)).0, (cond {A = Connection × Stream} b (c, s) (without c s, over_from s)).1, None) ((cond {A = Connection × Stream} b (d, s) (without d s, over_from s)).0, (cond {A = Connection × Stream} b (d, s) (without d s, over_from s)).1, None)
abandon_alike true s c d i = same_alike c d s None i
abandon_alike false s c d i = leaves_alike s (over_from s) c d None None i refl

interim_alike : (x : Reader × Option StreamFault) (c d : Connection) (given : Bool) → d.over ≡ c.over → CallsAlike c d (by_interim c given x) (by_interim d given x)
interim_alike (r, None) c d given i = same_alike c d (Frames r given) None i
interim_alike (r, Some f) c d given i = refuses_alike c d f i

tells_alike : (s : Stream) (c d : Connection) → d.over ≡ c.over → CallsAlike c d (tells_open c s) (tells_open d s)
tells_alike (Frames r given) c d i = interim_alike (after_interim r) c d given i
tells_alike other c d i = same_alike c d other None i

-- a reset of a stream that is not critical
abbrev left_by : Connection → Stream → Joined
left_by c s = cond (is_forbidden c.endpoint s && not c.over) (refuses c stream.StreamCreation) (without c s, over_from s, reset_answer c s)

left_alike : (s : Stream) (c d : Connection) → d.endpoint ≡ c.endpoint → d.over ≡ c.over → CallsAlike c d (left_by c s) (left_by d s)
left_alike s c d e i = cond_calls (is_forbidden c.endpoint s && not c.over) (is_forbidden d.endpoint s && not d.over) c d (refuses c stream.StreamCreation) (refuses d stream.StreamCreation) (without c s, over_from s, reset_answer c s) (without d s, over_from s, reset_answer d s)
    (ap (λ (x : Endpoint). is_forbidden x s && not d.over) e ∙ ap (λ (b : Bool). is_forbidden c.endpoint s && not b) i)
    (refuses_alike c d stream.StreamCreation i) (leaves_alike s (over_from s) c d (reset_answer c s) (reset_answer d s) i (answer_same s c d e i))

pub call_alike : (e : Event) (s : Stream) (c d : Connection) → d.endpoint ≡ c.endpoint → d.over ≡ c.over → SamePlace c d s e → CallsAlike c d (called c s e) (called d s e)
call_alike (Came bytes fin) s c d e i p = same_alike c d s None i
call_alike (Told k) s c d e i p = cond_calls c.over d.over c d (c, s, None) (d, s, None) (joins_open c s k) (joins_open d s k) i (same_alike c d s None i) (joins_alike s k c d e i p)
call_alike Interim s c d e i p = cond_calls c.over d.over c d (c, s, None) (d, s, None) (tells_open c s) (tells_open d s) i (same_alike c d s None i) (tells_alike s c d i)
call_alike Tunnelled s c d e i p = same_alike c d (connected s) None i
call_alike Reset s c d e i p = cond_calls (is_critical s && not c.over) (is_critical s && not d.over) c d (refuses c stream.ClosedCriticalStream) (refuses d stream.ClosedCriticalStream) (left_by c s) (left_by d s) (ap (λ (b : Bool). is_critical s && not b) i) (refuses_alike c d stream.ClosedCriticalStream i) (left_alike s c d e i)
call_alike Overflowed s c d e i p = cond_calls c.over d.over c d (c, s, None) (d, s, None) (overflows_open c s) (overflows_open d s) i (same_alike c d s None i) (overflow_alike s c d i)
call_alike Abandoned s c d e i p = abandon_alike (is_critical s) s c d i

-- ---- events

pub record EventsAlike (c d : Connection) (x y : Outcome) : Type 0 where
  pub seen : y.seen ≡ x.seen
  pub held : y.held ≡ x.held
  pub over : y.connection.over ≡ x.connection.over
  pub goes : Goes c d x.connection y.connection

abbrev held : Bool → Stream → List ℕ → Held
held fin s l = record { stream = s; left = l; fin = fin }

held_alike : (fin : Bool) (s t : Stream) (l m : List ℕ) → t ≡ s → m ≡ l → held fin t m ≡ held fin s l
held_alike fin s t l m e f = ap (λ (u : Stream). held fin u m) e ∙ ap (λ (k : List ℕ). held fin s k) f

-- the stream is read after calls that did the same
read_both : (fin : Bool) (left : List ℕ) (c d : Connection) (x y : Joined) → CallsAlike c d x y → RunsAlike x.0 y.0 (read fin x.0 x.1 left) (read fin y.0 x.1 left) → EventsAlike c d (reads_on fin left x) (reads_on fin left y)
read_both fin left c d x y h r =
    let same : read fin y.0 y.1 left ≡ read fin y.0 x.1 left = ap (λ (s : Stream). read fin y.0 s left) h.stream in
    record {
      seen =
          ap (λ (o : Option Fault). answered o ++ (read fin y.0 y.1 left).seen) h.answer
          ∙ ap (λ (z : StreamRun). answered x.2 ++ z.seen) same
          ∙ ap (λ (l : List Seen). answered x.2 ++ l) r.seen;
      held = held_alike fin (read fin x.0 x.1 left).stream (read fin y.0 y.1 left).stream (read fin x.0 x.1 left).left (read fin y.0 y.1 left).left (ap (λ (z : StreamRun). z.stream) same ∙ r.stream) (ap (λ (z : StreamRun). z.left) same ∙ r.left);
      over = ap (λ (z : StreamRun). z.connection.over) same ∙ r.over;
      goes = goes_then c d x.0 y.0 (read fin x.0 x.1 left).connection (read fin y.0 y.1 left).connection h.goes (subst (λ (z : StreamRun). Goes x.0 y.0 (read fin x.0 x.1 left).connection z.connection) (sym same) r.goes);
    }

-- what may be opened after the call, each has opened or has not
abbrev pub AgreesAt : Connection → Connection → Held → Event → Type 0
AgreesAt c d h e =
    AgreesOn (called c h.stream e).0 (called d h.stream e).0 (called c h.stream e).1 (unread h e)

pub event_alike : (e : Event) (h : Held) (c d : Connection) → d.endpoint ≡ c.endpoint → d.over ≡ c.over → SamePlace c d h.stream e → Agree (called c h.stream e).0 (called d h.stream e).0 → AgreesAt c d h e → EventsAlike c d (happens c h e) (happens d h e)
event_alike e h c d same i p g a =
    let x : Joined = called c h.stream e in
    let y : Joined = called d h.stream e in
    let k : CallsAlike c d (called c h.stream e) (called d h.stream e) = call_alike e h.stream c d same i p in
    read_both (ends h e) (unread h e) c d x y k (read_alike (ends h e) x.1 (unread h e) x.0 y.0 (k.goes.other ∙ same ∙ sym k.goes.endpoint) k.over g a)

-- what an event does to one connection
pub its_place : (c : Connection) (s : Stream) (e : Event) → SamePlace c c s e
its_place c (Joining s) (Told known.Coming) = refl
its_place c other e = tt

pub event_goes : (e : Event) (h : Held) (c : Connection) → Goes c c (happens c h e).connection (happens c h e).connection
event_goes e h c = (event_alike e h c c refl refl (its_place c h.stream e) (λ payload. refl) (λ p rest is. refl)).goes

-- ---- a connection that has opened no more than another one

pub record Within (c d : Connection) : Type 0 where
  pub endpoint : d.endpoint ≡ c.endpoint
  pub intact : c.over ≡ false
  pub other : d.over ≡ false
  pub flags : (p : Purpose) → flag c p ≡ false → flag d p ≡ false
  pub plain : c.resumed ≡ false
  pub other_plain : d.resumed ≡ false

flags_within : (c d x y : Connection) (p : Purpose) → Flags c d x y p → (flag c p ≡ false → flag d p ≡ false) → flag x p ≡ false → flag y p ≡ false
flags_within c d x y p (inl (f, g)) h e = g ∙ h (sym f ∙ e)
flags_within c d x y p (inr (f, g)) h e = absurd (false≢true (sym e ∙ f))

within_goes : (c d x y : Connection) → Within c d → Goes c d x y → x.over ≡ false → y.over ≡ x.over → Within x y
within_goes c d x y w g e i = record {
  endpoint = g.other ∙ w.endpoint ∙ sym g.endpoint;
  intact = e;
  other = i ∙ e;
  flags = λ p. flags_within c d x y p (g.flags p) (w.flags p);
  plain = g.plain w.plain;
  other_plain = g.other_plain w.other_plain;
}

pub event_within : (e : Event) (h : Held) (c d : Connection) → Within c d → SamePlace c d h.stream e → (happens c h e).connection.over ≡ false → EventsAlike c d (happens c h e) (happens d h e)
event_within e h c d w p o =
    let x : Joined = called c h.stream e in
    let y : Joined = called d h.stream e in
    let k : CallsAlike c d (called c h.stream e) (called d h.stream e) = call_alike e h.stream c d w.endpoint (w.other ∙ sym w.intact) p in
    let i : x.0.over ≡ false = read_from (ends h e) x.0 x.1 (unread h e) o in
    let v : Within x.0 y.0 = within_goes c d x.0 y.0 w k.goes i k.over in
    event_alike e h c d w.endpoint (w.other ∙ sym w.intact) p (plain_agree x.0 y.0 v.plain v.other_plain) (λ q rest is.
    let first : flag x.0 q ≡ false = opened_first (ends h e) x.1 (unread h e) x.0 q rest i o is in
    v.flags q first ∙ sym first)

-- ---- what is found on one stream

on_append : (n : ℕ) (xs ys : List (ℕ × Seen)) → on_stream n (xs ++ ys) ≡ on_stream n xs ++ on_stream n ys
on_append n [] ys = refl
on_append n (x ∷ xs) ys = elim (eqb x.0 n) as (λ b. cond b (x.1 ∷ on_stream n (xs ++ ys)) (on_stream n (xs ++ ys)) ≡ cond b (x.1 ∷ on_stream n xs) (on_stream n xs) ++ on_stream n ys) [
  | true ↦ ap (λ (l : List Seen). x.1 ∷ l) (on_append n xs ys)
  | false ↦ on_append n xs ys
]

on_same : (n m : ℕ) (seen : List Seen) → eqb m n ≡ true → on_stream n (marked m seen) ≡ seen
on_same n m [] e = refl
on_same n m (i ∷ seen) e = rw e (ap (λ (l : List Seen). i ∷ l) (on_same n m seen e))

on_other : (n m : ℕ) (seen : List Seen) → eqb m n ≡ false → on_stream n (marked m seen) ≡ []
on_other n m [] e = refl
on_other n m (i ∷ seen) e = rw e (on_other n m seen e)

-- the stream gives what it gives alone, and the same is held of it
pub record IsAlone (n : ℕ) (x : State) (d : Connection) (steps : Transcript) : Type 0 where
  pub seen : on_stream n (seen_in x steps) ≡ (alone d (x.streams n) (events_of n steps)).seen
  pub held : (after x steps).streams n ≡ (alone d (x.streams n) (events_of n steps)).held
  pub over : (alone d (x.streams n) (events_of n steps)).connection.over ≡ false

-- where the next step is one of another stream
passes : (n : ℕ) (a : Step) (x : State) (d : Connection) (steps : Transcript) → on_stream n (found_by x a) ≡ [] → (next x a).streams n ≡ x.streams n → events_of n (a ∷ steps) ≡ events_of n steps → IsAlone n (next x a) d steps → IsAlone n x d (a ∷ steps)
passes n a x d steps none same rest h = record {
  seen =
      on_append n (found_by x a) (seen_in (next x a) steps)
      ∙ ap (λ (l : List Seen). l ++ on_stream n (seen_in (next x a) steps)) none
      ∙ h.seen
      ∙ ap (λ (k : Held). (alone d k (events_of n steps)).seen) same
      ∙ ap (λ (l : List Event). (alone d (x.streams n) l).seen) (sym rest);
  held =
      h.held
      ∙ ap (λ (k : Held). (alone d k (events_of n steps)).held) same
      ∙ ap (λ (l : List Event). (alone d (x.streams n) l).held) (sym rest);
  over =
      ap (λ (l : List Event). (alone d (x.streams n) l).connection.over) rest
      ∙ ap (λ (k : Held). (alone d k (events_of n steps)).connection.over) (sym same)
      ∙ h.over;
}

-- where it is one of this stream
goes_on : (n m : ℕ) (e : Event) (x : State) (d : Connection) (steps : Transcript) → EventsAlike x.connection d (at_stream x m e) (happens d (x.streams m) e) → eqb m n ≡ true → IsAlone n (next x (On m e)) (happens d (x.streams m) e).connection steps → IsAlone n x d (On m e ∷ steps)
goes_on n m e x d steps k is h =
    let y : Outcome = happens d (x.streams m) e in
    let same : (next x (On m e)).streams n ≡ y.held = held_at m n (at_stream x m e).held x.streams is ∙ sym k.held in
    let events : events_of n (On m e ∷ steps) ≡ e ∷ events_of n steps = rw is refl in
    let one : m ≡ n = eqb-true m n is in
    record {
      seen =
          on_append n (found_by x (On m e)) (seen_in (next x (On m e)) steps)
          ∙ ap (λ (l : List Seen). l ++ on_stream n (seen_in (next x (On m e)) steps)) (on_same n m (at_stream x m e).seen is ∙ sym k.seen)
          ∙ ap (λ (l : List Seen). y.seen ++ l) (h.seen ∙ ap (λ (z : Held). (alone y.connection z (events_of n steps)).seen) same)
          ∙ ap (λ (i : ℕ). (alone d (x.streams i) (e ∷ events_of n steps)).seen) one
          ∙ ap (λ (l : List Event). (alone d (x.streams n) l).seen) (sym events);
      held =
          h.held
          ∙ ap (λ (z : Held). (alone y.connection z (events_of n steps)).held) same
          ∙ ap (λ (i : ℕ). (alone d (x.streams i) (e ∷ events_of n steps)).held) one
          ∙ ap (λ (l : List Event). (alone d (x.streams n) l).held) (sym events);
      over =
          ap (λ (l : List Event). (alone d (x.streams n) l).connection.over) events
          ∙ ap (λ (i : ℕ). (alone d (x.streams i) (e ∷ events_of n steps)).connection.over) (sym one)
          ∙ ap (λ (z : Held). (alone y.connection z (events_of n steps)).connection.over) (sym same)
          ∙ h.over;
    }

-- ---- all streams

-- another step changes nothing of what was opened
pub record Opens (c e : Connection) : Type 0 where
  pub endpoint : e.endpoint ≡ c.endpoint
  pub flags : (p : Purpose) → flag e p ≡ false → flag c p ≡ false
  pub plain : c.resumed ≡ false → e.resumed ≡ false

pub flags_open : (c x : Connection) (p : Purpose) → Flags c c x x p → flag x p ≡ false → flag c p ≡ false
flags_open c x p (inl (f, g)) e = sym f ∙ e
flags_open c x p (inr (f, g)) e = absurd (false≢true (sym e ∙ f))

event_opens : (e : Event) (h : Held) (c : Connection) → Opens c (happens c h e).connection
event_opens e h c = record { endpoint = (event_goes e h c).endpoint; flags = λ p. flags_open c (happens c h e).connection p ((event_goes e h c).flags p); plain = (event_goes e h c).plain }

pub begun_flags : (c : Connection) (n : ℕ) (p : Purpose) → flag (record c { begun = with_request c.begun (n / 4) }) p ≡ flag c p
begun_flags c n «for».Control = refl
begun_flags c n «for».Encoder = refl
begun_flags c n «for».Decoder = refl
begun_flags c n other = refl

pub accepted_opens : (side : Side) (c : Connection) (n : ℕ) → Opens c (with_stream side c n)
accepted_opens Client c n = record { endpoint = refl; flags = λ p e. e; plain = λ e. e }
accepted_opens Server c n = begun (eqb (n % 4) 0)
  where
    begun : (b : Bool) → Opens c (cond b (record c { begun = with_request c.begun (n / 4) }) c)
    begun true = record { endpoint = refl; flags = λ p e. sym (begun_flags c n p) ∙ e; plain = λ e. e }
    begun false = record { endpoint = refl; flags = λ p e. e; plain = λ e. e }

pub stopped_opens : (b : Bool) (c : Connection) (f : Fault) (o : Option Fault) → Opens c (cond {A = Connection × Option Fault} b (closed_by c f, o) (c, None)).0
stopped_opens true c f o = record { endpoint = (closed_goes c c f).endpoint; flags = λ p. flags_open c (closed_by c f) p ((closed_goes c c f).flags p); plain = (closed_goes c c f).plain }
stopped_opens false c f o = record { endpoint = refl; flags = λ p e. e; plain = λ e. e }

pub datagram_opens : (c : Connection) (x : Taken) → Opens c (after_taken c x)
datagram_opens c (Ok d) = record { endpoint = refl; flags = λ p e. e; plain = λ e. e }
datagram_opens c (Err f) = stopped_opens true c f None

-- no step changes the endpoint
pub step_endpoint : (a : Step) (x : State) → (next x a).connection.endpoint ≡ x.connection.endpoint
step_endpoint (Accepted n) x = (accepted_opens x.connection.endpoint.side x.connection n).endpoint
step_endpoint (Stopped p) x = (stopped_opens (is_for_critical p && not x.connection.over) x.connection (fault.Stream stream.ClosedCriticalStream) (Some (fault.Stream stream.ClosedCriticalStream))).endpoint
step_endpoint (Datagram bytes) x = (datagram_opens x.connection (taken x.connection bytes)).endpoint
step_endpoint (On n e) x = (event_goes e (x.streams n) x.connection).endpoint

within_opens : (c e d : Connection) → Within c d → Opens c e → e.over ≡ false → Within e d
within_opens c e d w h o = record {
  endpoint = w.endpoint ∙ sym h.endpoint;
  intact = o;
  other = w.other;
  flags = λ p f. w.flags p (h.flags p f);
  plain = h.plain w.plain;
  other_plain = w.other_plain;
}

-- a stream alone always has a place
pub both_places : (c d : Connection) (s : Stream) (e : Event) → HasPlace c s e → d.waiting ≡ places s → SamePlace c d s e
both_places c d (Joining s) (Told known.Coming) h e = ap (λ (k : ℕ). nat_lt k most_waiting) e ∙ sym (lt-ltb c.waiting 16 h)
both_places c d other e h k = tt

pub still_counted : (e : Event) (h : Held) (d : Connection) (k : Held) → (happens d h e).held ≡ k → d.waiting ≡ places h.stream → (happens d h e).connection.waiting ≡ places k.stream
still_counted e h d k is w =
    let y : EventCounts d h.stream (happens d h e) = event_counts e d h (omega (arith, w)) in
    omega (arith, y.sum, w, ap (λ (z : Held). places z.stream) is)

pub stays_alone : (steps : Transcript) (n : ℕ) (x : State) (d : Connection) → Within x.connection d → d.waiting ≡ places (x.streams n).stream → (after x steps).connection.over ≡ false → HasPlaces n x steps → IsAlone n x d steps
stays_alone [] n x d w k o h = record { seen = refl; held = refl; over = w.other }
stays_alone (Accepted m ∷ steps) n x d w k o h =
    passes n (Accepted m) x d steps refl refl refl (
    stays_alone steps n (next x (Accepted m)) d (within_opens x.connection (next x (Accepted m)).connection d w (accepted_opens x.connection.endpoint.side x.connection m) (before_steps steps (next x (Accepted m)) o)) k o h.1)
stays_alone (Stopped p ∷ steps) n x d w k o h =
    passes n (Stopped p) x d steps refl refl refl (
    stays_alone steps n (next x (Stopped p)) d (within_opens x.connection (next x (Stopped p)).connection d w (stopped_opens (is_for_critical p && not x.connection.over) x.connection (fault.Stream stream.ClosedCriticalStream) (Some (fault.Stream stream.ClosedCriticalStream))) (before_steps steps (next x (Stopped p)) o)) k o h.1)
stays_alone (Datagram bytes ∷ steps) n x d w k o h =
    passes n (Datagram bytes) x d steps refl refl refl (
    stays_alone steps n (next x (Datagram bytes)) d (within_opens x.connection (next x (Datagram bytes)).connection d w (datagram_opens x.connection (taken x.connection bytes)) (before_steps steps (next x (Datagram bytes)) o)) k o h.1)
stays_alone (On m e ∷ steps) n x d w k o h =
    let goes : (next x (On m e)).connection.over ≡ false = before_steps steps (next x (On m e)) o in
    elim (cases_Bool (eqb m n)) [
      | inl same ↦
          let one : m ≡ n = eqb-true m n same in
          let mine : d.waiting ≡ places (x.streams m).stream = k ∙ ap (λ (i : ℕ). places (x.streams i).stream) (sym one) in
          let a : EventsAlike x.connection d (at_stream x m e) (happens d (x.streams m) e) = event_within e (x.streams m) x.connection d w (both_places x.connection d (x.streams m).stream e (h.0 one) mine) goes in
          let is : (happens d (x.streams m) e).held ≡ (next x (On m e)).streams n = a.held ∙ sym (held_at m n (at_stream x m e).held x.streams same) in
          goes_on n m e x d steps a same (
          stays_alone steps n (next x (On m e)) (happens d (x.streams m) e).connection (within_goes x.connection d (at_stream x m e).connection (happens d (x.streams m) e).connection w a.goes goes a.over) (still_counted e (x.streams m) d ((next x (On m e)).streams n) is mine) o h.1)
      | inr other ↦
          passes n (On m e) x d steps (on_other n m (at_stream x m e).seen other) (held_other m n (at_stream x m e).held x.streams other) (rw other refl) (
          stays_alone steps n (next x (On m e)) d (within_opens x.connection (next x (On m e)).connection d w (event_opens e (x.streams m) x.connection) goes) (k ∙ ap (λ (z : Held). places z.stream) (sym (held_other m n (at_stream x m e).held x.streams other))) o h.1)
    ]

-- from the first byte on
fresh_within : (e : Endpoint) → Within (connection_of e) (connection_of e)
fresh_within e = record { endpoint = refl; intact = refl; other = refl; flags = λ p f. f; plain = refl; other_plain = refl }

pub stands_alone : (e : Endpoint) (t : Table) (n : ℕ) (steps : Transcript) → places (t n).stream ≡ 0 → (after (begin e t) steps).connection.over ≡ false → HasPlaces n (begin e t) steps → IsAlone n (begin e t) (connection_of e) steps
stands_alone e t n steps k o h = stays_alone steps n (begin e t) (connection_of e) (fresh_within e) (sym k) o h

-- up to the first error
pub first_error : (e : Endpoint) (t : Table) (n : ℕ) (first rest : Transcript) (a : Step) → places (t n).stream ≡ 0 → (after (begin e t) first).connection.over ≡ false → HasPlaces n (begin e t) first → (next (after (begin e t) first) a).connection.over ≡ true → on_stream n (seen_in (begin e t) (first ++ (a ∷ rest))) ≡ (alone (connection_of e) (t n) (events_of n first)).seen ++ on_stream n (found_by (after (begin e t) first) a)
first_error e t n first rest a k o h over =
    let x : State = after (begin e t) first in
    let s : IsAlone n (begin e t) (connection_of e) first = stands_alone e t n first k o h in
    ap (λ (l : List (ℕ × Seen)). on_stream n l) (
    seen_append first (a ∷ rest) (begin e t)
    ∙ ap (λ (l : List (ℕ × Seen)). seen_in (begin e t) first ++ (found_by x a ++ l)) (nothing_seen rest (next x a) over)
    ∙ ap (λ (l : List (ℕ × Seen)). seen_in (begin e t) first ++ l) (append-nil (found_by x a)))
    ∙ on_append n (seen_in (begin e t) first) (found_by x a)
    ∙ ap (λ (l : List Seen). l ++ on_stream n (found_by x a)) s.seen
