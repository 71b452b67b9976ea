-- A peer that keeps the rules is not refused, in whatever order its bytes come.
use Rattle.std.proofs.Common.{◌≡◌, ℕ, ◌%◌, ◌/◌, ◌&&◌, not, Bool, true, false, cond, eqb, List, [], ◌∷◌, Option, Some, None, Ok, refl, sym, ap, subst, ◌∙◌, eq-eqb, inl, inr}
use Rattle.std.proofs.lemmas.Bool.{cases_Bool, eqb-true, false≢true}
use Rattle.wtp_frames.specs.declared.endpoint.Endpoint.{Endpoint}
use Rattle.wtp_frames.specs.declared.endpoint.Side.{Side}
use Rattle.wtp_frames.specs.declared.endpoint.Side.TheVariants.{Client, Server}
use Rattle.wtp_frames.specs.declared.fault.Fault.TheVariants as stream
use Rattle.wtp_connection.specs.declared.connection.Connection.{Connection}
use Rattle.wtp_connection.specs.declared.connection.Known.{Known}
use Rattle.wtp_connection.specs.declared.fault.Fault.{Fault}
use Rattle.wtp_connection.specs.declared.fault.Fault.TheVariants as fault
use Rattle.wtp_connection.specs.declared.stream.Purpose.{Purpose}
use Rattle.wtp_connection.specs.declared.stream.Purpose.TheVariants as «for»
use Rattle.wtp_connection.specs.declared.stream.Stream.{Stream}
use Rattle.wtp_connection.specs.Datagrams.{Taken, taken, after_taken}
use Rattle.wtp_connection.specs.Opening.{is_for_critical}
use Rattle.wtp_connection.specs.Receiving.{opening_of}
use Rattle.wtp_connection.specs.Requests.{with_request}
use Rattle.wtp_connection.specs.Streams.{connection_of, with_stream, closed_by, Joined, stops}
use Rattle.wtp_transcripts.specs.Transcript.{Held, Event, Came, Outcome, called, unread, ends, happens, alone, bytes_in, end_in, last_said, said, at_once, IsRead, IsStill, Table, Accepted, Stopped, Datagram, On, Transcript, State, begin, at_stream, next, after, seen_in, on_stream, events_of, places, HasPlace, HasPlaces, is_opened as flag, alone_on, StopsNone, AreTaken, KeepsRules, AllHavePlaces, NoneWaits, SameBytes, SameOn}
use Rattle.wtp_transcripts.proofs.AlikeLemmas.{Flags, opened_first, opened_then, plain_agree}
use Rattle.wtp_transcripts.proofs.DatagramLemmas.{taken_same}
use Rattle.wtp_transcripts.proofs.WaitLemmas.{held_at, held_other}
use Rattle.wtp_transcripts.proofs.OverLemmas.{read_from, accepted_over}
use Rattle.wtp_transcripts.proofs.OnceLemmas.{alone_from, once, once_back}
use Rattle.wtp_transcripts.proofs.JoinedLemmas.{joined_alone}
use Rattle.wtp_transcripts.proofs.IndependentLemmas.{SamePlace, CallsAlike, call_alike, EventsAlike, event_alike, event_goes, AgreesAt, both_places, still_counted, begun_flags, accepted_opens, step_endpoint, IsAlone, stands_alone}

-- ---- what is opened stays so

stays_open : (c d : Connection) (p : Purpose) → Flags c c d d p → flag c p ≡ true → flag d p ≡ true
stays_open c d p (inl (f, g)) e = f ∙ e
stays_open c d p (inr (f, g)) e = f

alone_open : (events : List Event) (c : Connection) (h : Held) (p : Purpose) → flag c p ≡ true → flag (alone c h events).connection p ≡ true
alone_open [] c h p e = e
alone_open (e ∷ events) c h p o = alone_open events (happens c h e).connection (happens c h e).held p (stays_open c (happens c h e).connection p ((event_goes e h c).flags p) o)

-- ---- all streams alone

-- the connection of each stream alone
abbrev Alone : Type 0
Alone = ℕ → Connection

abbrev with_alone : ℕ → Connection → Alone → Alone
with_alone n c d = λ k. cond (eqb n k) c (d k)

abbrev last : State → Alone → Transcript → ℕ → Connection
last x d steps n = (alone (d n) (x.streams n) (events_of n steps)).connection

-- what is opened was opened by a stream, and what is to come is allowed
record IsAllowed (x : State) (d : Alone) (steps : Transcript) : Type 0 where
  intact : x.connection.over ≡ false
  endpoint : (n : ℕ) → (d n).endpoint ≡ x.connection.endpoint
  plain : x.connection.resumed ≡ false
  plains : (n : ℕ) → (d n).resumed ≡ false
  counted : (n : ℕ) → (d n).waiting ≡ places (x.streams n).stream
  opened : (p : Purpose) → flag x.connection p ≡ true → (k : ℕ) × (flag (d k) p ≡ true)
  sound : (n : ℕ) → (last x d steps n).over ≡ false
  once : (p : Purpose) (n m : ℕ) → flag (last x d steps n) p ≡ true → flag (last x d steps m) p ≡ true → n ≡ m

same_alone : (n m : ℕ) (c : Connection) (d : Alone) → eqb m n ≡ true → with_alone m c d n ≡ c
same_alone n m c d e = rw e refl

other_alone : (n m : ℕ) (c : Connection) (d : Alone) → eqb m n ≡ false → with_alone m c d n ≡ d n
other_alone n m c d e = rw e refl

-- ---- an event of a stream

its_events : (n m : ℕ) (e : Event) (steps : Transcript) → eqb m n ≡ true → events_of n (On m e ∷ steps) ≡ e ∷ events_of n steps
its_events n m e steps same = rw same refl

other_events : (n m : ℕ) (e : Event) (steps : Transcript) → eqb m n ≡ false → events_of n (On m e ∷ steps) ≡ events_of n steps
other_events n m e steps other = rw other refl

-- the connection of a stream alone after its event
last_of : (x : State) (d : Alone) (m : ℕ) (e : Event) (steps : Transcript) → last x d (On m e ∷ steps) m ≡ (alone (happens (d m) (x.streams m) e).connection (happens (d m) (x.streams m) e).held (events_of m steps)).connection
last_of x d m e steps = ap (λ (l : List Event). (alone (d m) (x.streams m) l).connection) (its_events m m e steps (eq-eqb m m refl))

-- what a stream opens no other one opened
not_opened : (x : State) (d : Alone) (m : ℕ) (e : Event) (steps : Transcript) → IsAllowed x d (On m e ∷ steps) → CallsAlike x.connection (d m) (called x.connection (x.streams m).stream e) (called (d m) (x.streams m).stream e) → (happens (d m) (x.streams m) e).connection.over ≡ false → AgreesAt x.connection (d m) (x.streams m) e
not_opened x d m e steps w k o p rest is =
    let a : Joined = called x.connection (x.streams m).stream e in
    let b : Joined = called (d m) (x.streams m).stream e in
    let fin : Bool = ends (x.streams m) e in
    let l : List ℕ = unread (x.streams m) e in
    let same : b.0.endpoint ≡ a.0.endpoint = k.goes.other ∙ w.endpoint m ∙ sym k.goes.endpoint in
    let at : opening_of b.0.endpoint b.1 l ≡ Some (p, rest) =
    ap (λ (z : Endpoint). opening_of z b.1 l) same ∙ ap (λ (s : Stream). opening_of a.0.endpoint s l) k.stream ∙ is in
    let i : b.0.over ≡ false = read_from fin b.0 b.1 l o in
    let first : flag b.0 p ≡ false = opened_first fin b.1 l b.0 p rest i o at in
    elim (cases_Bool (flag a.0 p)) [
      | inl opened ↦ absurd (false≢true (sym first ∙ by_flags p opened (k.goes.flags p) (
          ap (λ (c : Connection). flag c p) (last_of x d m e steps)
          ∙ alone_open (events_of m steps) (happens (d m) (x.streams m) e).connection (happens (d m) (x.streams m) e).held p (opened_then fin b.1 l b.0 a.0 p rest i o at opened))))
      | inr none ↦ first ∙ sym none
    ]
  where
    by_flags : (p : Purpose) → flag (called x.connection (x.streams m).stream e).0 p ≡ true → Flags x.connection (d m) (called x.connection (x.streams m).stream e).0 (called (d m) (x.streams m).stream e).0 p → flag (last x d (On m e ∷ steps) m) p ≡ true → flag (called (d m) (x.streams m).stream e).0 p ≡ true
    by_flags p opened (inl (f, g)) then =
        let j : (i : ℕ) × (flag (d i) p ≡ true) = w.opened p (sym f ∙ opened) in
        let one : m ≡ j.0 = w.once p m j.0 then (alone_open (events_of j.0 (On m e ∷ steps)) (d j.0) (x.streams j.0) p j.1) in
        g ∙ ap (λ (i : ℕ). flag (d i) p) one ∙ j.1
    by_flags p opened (inr (f, g)) then = g

-- the streams alone after the event
abbrev alone_after : State → Alone → ℕ → Event → Alone
alone_after x d m e = with_alone m (happens (d m) (x.streams m) e).connection d

last_same : (x : State) (d : Alone) (m : ℕ) (e : Event) (steps : Transcript) (n : ℕ) → EventsAlike x.connection (d m) (at_stream x m e) (happens (d m) (x.streams m) e) → last (next x (On m e)) (alone_after x d m e) steps n ≡ last x d (On m e ∷ steps) n
last_same x d m e steps n a = elim (cases_Bool (eqb m n)) [
  | inl same ↦
      let y : Outcome = happens (d m) (x.streams m) e in
      let one : m ≡ n = eqb-true m n same in
      ap (λ (c : Connection). (alone c ((next x (On m e)).streams n) (events_of n steps)).connection) (same_alone n m y.connection d same)
      ∙ ap (λ (h : Held). (alone y.connection h (events_of n steps)).connection) (held_at m n (at_stream x m e).held x.streams same ∙ sym a.held)
      ∙ ap (λ (i : ℕ). (alone (d i) (x.streams i) (e ∷ events_of n steps)).connection) one
      ∙ ap (λ (l : List Event). (alone (d n) (x.streams n) l).connection) (sym (its_events n m e steps same))
  | inr other ↦
      ap (λ (c : Connection). (alone c ((next x (On m e)).streams n) (events_of n steps)).connection) (other_alone n m (happens (d m) (x.streams m) e).connection d other)
      ∙ ap (λ (h : Held). (alone (d n) h (events_of n steps)).connection) (held_other m n (at_stream x m e).held x.streams other)
      ∙ ap (λ (l : List Event). (alone (d n) (x.streams n) l).connection) (sym (other_events n m e steps other))
]

allowed_event : (x : State) (d : Alone) (m : ℕ) (e : Event) (steps : Transcript) → IsAllowed x d (On m e ∷ steps) → HasPlace x.connection (x.streams m).stream e → IsAllowed (next x (On m e)) (alone_after x d m e) steps
allowed_event x d m e steps w h =
    let y : Outcome = happens (d m) (x.streams m) e in
    let intact : (d m).over ≡ false = alone_from (events_of m (On m e ∷ steps)) (d m) (x.streams m) (w.sound m) in
    let then : y.connection.over ≡ false = alone_from (events_of m steps) y.connection y.held (ap (λ (c : Connection). c.over) (sym (last_of x d m e steps)) ∙ w.sound m) in
    let over : (d m).over ≡ x.connection.over = intact ∙ sym w.intact in
    let place : SamePlace x.connection (d m) (x.streams m).stream e = both_places x.connection (d m) (x.streams m).stream e h (w.counted m) in
    let k : CallsAlike x.connection (d m) (called x.connection (x.streams m).stream e) (called (d m) (x.streams m).stream e) = call_alike e (x.streams m).stream x.connection (d m) (w.endpoint m) over place in
    let a : EventsAlike x.connection (d m) (at_stream x m e) (happens (d m) (x.streams m) e) = event_alike e (x.streams m) x.connection (d m) (w.endpoint m) over place (plain_agree (called x.connection (x.streams m).stream e).0 (called (d m) (x.streams m).stream e).0 (k.goes.plain w.plain) (k.goes.other_plain (w.plains m))) (not_opened x d m e steps w k then) in
    record {
      intact = sym a.over ∙ then;
      plain = a.goes.plain w.plain;
      plains = λ n. elim (cases_Bool (eqb m n)) [
        | inl same ↦ ap (λ (c : Connection). c.resumed) (same_alone n m y.connection d same) ∙ a.goes.other_plain (w.plains m)
        | inr other ↦ ap (λ (c : Connection). c.resumed) (other_alone n m y.connection d other) ∙ w.plains n
      ];
      endpoint = λ n. elim (cases_Bool (eqb m n)) [
        | inl same ↦ ap (λ (c : Connection). c.endpoint) (same_alone n m y.connection d same) ∙ a.goes.other ∙ w.endpoint m ∙ sym a.goes.endpoint
        | inr other ↦ ap (λ (c : Connection). c.endpoint) (other_alone n m y.connection d other) ∙ w.endpoint n ∙ sym a.goes.endpoint
      ];
      counted = λ n. elim (cases_Bool (eqb m n)) [
        | inl same ↦ ap (λ (c : Connection). c.waiting) (same_alone n m y.connection d same) ∙ still_counted e (x.streams m) (d m) ((next x (On m e)).streams n) (a.held ∙ sym (held_at m n (at_stream x m e).held x.streams same)) (w.counted m)
        | inr other ↦ ap (λ (c : Connection). c.waiting) (other_alone n m y.connection d other) ∙ w.counted n ∙ ap (λ (z : Held). places z.stream) (sym (held_other m n (at_stream x m e).held x.streams other))
      ];
      opened = λ p f. opened_by p f (a.goes.flags p);
      sound = λ n. ap (λ (c : Connection). c.over) (last_same x d m e steps n a) ∙ w.sound n;
      once = λ p n i f g. w.once p n i (ap (λ (c : Connection). flag c p) (sym (last_same x d m e steps n a)) ∙ f) (ap (λ (c : Connection). flag c p) (sym (last_same x d m e steps i a)) ∙ g);
    }
  where
    opened_by : (p : Purpose) → flag (at_stream x m e).connection p ≡ true → Flags x.connection (d m) (at_stream x m e).connection (happens (d m) (x.streams m) e).connection p → (k : ℕ) × (flag (alone_after x d m e k) p ≡ true)
    opened_by p f (inl (h, g)) =
        let j : (i : ℕ) × (flag (d i) p ≡ true) = w.opened p (sym h ∙ f) in (
          j.0,
          elim (cases_Bool (eqb m j.0)) [
            | inl same ↦ ap (λ (c : Connection). flag c p) (same_alone j.0 m (happens (d m) (x.streams m) e).connection d same) ∙ g ∙ ap (λ (i : ℕ). flag (d i) p) (eqb-true m j.0 same) ∙ j.1
            | inr other ↦ ap (λ (c : Connection). flag c p) (other_alone j.0 m (happens (d m) (x.streams m) e).connection d other) ∙ j.1
          ],
        )
    opened_by p f (inr (h, g)) = (m, ap (λ (c : Connection). flag c p) (same_alone m m (happens (d m) (x.streams m) e).connection d (eq-eqb m m refl)) ∙ g)

-- ---- other steps

accepted_flags : (side : Side) (c : Connection) (n : ℕ) (p : Purpose) → flag (with_stream side c n) p ≡ flag c p
accepted_flags Client c n p = refl
accepted_flags Server c n p = begun (eqb (n % 4) 0)
  where
    begun : (b : Bool) → flag (cond b (record c { begun = with_request c.begun (n / 4) }) c) p ≡ flag c p
    begun true = begun_flags c n p
    begun false = refl

allowed_accepted : (x : State) (d : Alone) (m : ℕ) (steps : Transcript) → IsAllowed x d (Accepted m ∷ steps) → IsAllowed (next x (Accepted m)) d steps
allowed_accepted x d m steps w = record {
  intact = accepted_over x.connection.endpoint.side x.connection m ∙ w.intact;
  endpoint = λ n. w.endpoint n ∙ sym (accepted_opens x.connection.endpoint.side x.connection m).endpoint;
  plain = (accepted_opens x.connection.endpoint.side x.connection m).plain w.plain;
  plains = w.plains;
  counted = w.counted;
  opened = λ p f. w.opened p (sym (accepted_flags x.connection.endpoint.side x.connection m p) ∙ f);
  sound = w.sound;
  once = w.once;
}

stopped_none : (b over : Bool) (x y : Connection × Option Fault) → b ≡ false → cond (b && not over) x y ≡ y
stopped_none true over x y e = absurd (false≢true (sym e))
stopped_none false over x y e = refl

allowed_stopped : (x : State) (d : Alone) (p : Purpose) (steps : Transcript) → is_for_critical p ≡ false → IsAllowed x d (Stopped p ∷ steps) → IsAllowed (next x (Stopped p)) d steps
allowed_stopped x d p steps none w =
    let same : (stops x.connection p).0 ≡ x.connection = ap (λ (z : Connection × Option Fault). z.0) (stopped_none (is_for_critical p) x.connection.over (closed_by x.connection (fault.Stream stream.ClosedCriticalStream), Some (fault.Stream stream.ClosedCriticalStream)) (x.connection, None) none) in
    subst (λ (c : Connection). IsAllowed (record { connection = c; streams = x.streams }) d steps) (sym same) (record {
      intact = w.intact;
      endpoint = w.endpoint;
      plain = w.plain;
      plains = w.plains;
      counted = w.counted;
      opened = w.opened;
      sound = w.sound;
      once = w.once;
    })

allowed_datagram : (e : Endpoint) (x : State) (d : Alone) (bytes : List ℕ) (steps : Transcript) → x.connection.endpoint ≡ e → (o : Option (ℕ × List ℕ)) × (taken (connection_of e) bytes ≡ Ok o) → IsAllowed x d (Datagram bytes ∷ steps) → IsAllowed (next x (Datagram bytes)) d steps
allowed_datagram e x d bytes steps is valid w =
    let same : after_taken x.connection (taken x.connection bytes) ≡ x.connection = ap (λ (y : Taken). after_taken x.connection y) (taken_same (connection_of e) x.connection bytes w.intact is ∙ valid.1) in
    subst (λ (c : Connection). IsAllowed (record { connection = c; streams = x.streams }) d steps) (sym same) (record {
      intact = w.intact;
      endpoint = w.endpoint;
      plain = w.plain;
      plains = w.plains;
      counted = w.counted;
      opened = w.opened;
      sound = w.sound;
      once = w.once;
    })

-- ---- all events

no_error : (steps : Transcript) (e : Endpoint) (x : State) (d : Alone) → x.connection.endpoint ≡ e → IsAllowed x d steps → StopsNone steps → AreTaken e steps → AllHavePlaces x steps → (after x steps).connection.over ≡ false
no_error [] e x d is w s v h = w.intact
no_error (Accepted m ∷ steps) e x d is w s v h = no_error steps e (next x (Accepted m)) d (step_endpoint (Accepted m) x ∙ is) (allowed_accepted x d m steps w) s v (λ n. (h n).1)
no_error (Stopped p ∷ steps) e x d is w s v h = no_error steps e (next x (Stopped p)) d (step_endpoint (Stopped p) x ∙ is) (allowed_stopped x d p steps s.0 w) s.1 v (λ n. (h n).1)
no_error (Datagram bytes ∷ steps) e x d is w s v h = no_error steps e (next x (Datagram bytes)) d (step_endpoint (Datagram bytes) x ∙ is) (allowed_datagram e x d bytes steps is v.0 w) s v.1 (λ n. (h n).1)
no_error (On m a ∷ steps) e x d is w s v h = no_error steps e (next x (On m a)) (alone_after x d m a) (step_endpoint (On m a) x ∙ is) (allowed_event x d m a steps w ((h m).0 refl)) s v (λ n. (h n).1)

none_opened : (e : Endpoint) (p : Purpose) → flag (connection_of e) p ≡ false
none_opened e «for».Control = refl
none_opened e «for».Encoder = refl
none_opened e «for».Decoder = refl
none_opened e other = refl

pub rules_kept : (e : Endpoint) (t : Table) (steps : Transcript) → NoneWaits t → KeepsRules e t steps → AllHavePlaces (begin e t) steps → (after (begin e t) steps).connection.over ≡ false
rules_kept e t steps z r h = no_error steps e (begin e t) (λ n. connection_of e) refl (record {
  intact = refl;
  endpoint = λ n. refl;
  plain = refl;
  plains = λ n. refl;
  counted = λ n. sym (z n);
  opened = λ p f. absurd (false≢true (sym (none_opened e p) ∙ f));
  sound = r.sound;
  once = r.once;
}) r.stops r.datagrams h

-- ---- all bytes at once

pub all_once : (e : Endpoint) (t : Table) (n : ℕ) (steps : Transcript) → places (t n).stream ≡ 0 → (after (begin e t) steps).connection.over ≡ false → HasPlaces n (begin e t) steps → IsStill (connection_of e) (t n) → IsRead (connection_of e) (t n) (events_of n steps) → on_stream n (seen_in (begin e t) steps) ≡ (alone (connection_of e) (t n) (at_once (events_of n steps))).seen
all_once e t n steps z o h s r =
    let a : IsAlone n (begin e t) (connection_of e) steps = stands_alone e t n steps z o h in
    a.seen ∙ ap (λ (x : Outcome). x.seen) (once (connection_of e) (t n) (events_of n steps) s r a.over)

-- ---- two orders

at_once_same : (e : Endpoint) (t : Table) (n : ℕ) (first second : Transcript) → SameBytes e t n first second → at_once (events_of n second) ≡ at_once (events_of n first)
at_once_same e t n first second s =
    ap (λ (l : List ℕ). Came l (end_in (events_of n second)) ∷ said (last_said None (events_of n second))) s.bytes
    ∙ ap (λ (k : Bool). Came (bytes_in (events_of n first)) k ∷ said (last_said None (events_of n second))) s.end
    ∙ ap (λ (o : Option Known). Came (bytes_in (events_of n first)) (end_in (events_of n first)) ∷ said o) s.said

alone_same : (e : Endpoint) (t : Table) (n : ℕ) (first second : Transcript) → (alone_on e t n first).connection.over ≡ false → SameOn e t n first second → alone_on e t n second ≡ alone_on e t n first
alone_same e t n first second i (inl same) = ap (λ (l : List Event). alone (connection_of e) (t n) l) same
alone_same e t n first second i (inr (inr s)) =
    sym (joined_alone (events_of n second) (connection_of e) (t n) s.once_second)
    ∙ ap (λ (l : List Event). alone (connection_of e) (t n) l) s.same
    ∙ joined_alone (events_of n first) (connection_of e) (t n) s.once_first
alone_same e t n first second i (inr (inl s)) =
    let one : alone_on e t n first ≡ alone (connection_of e) (t n) (at_once (events_of n first)) = once (connection_of e) (t n) (events_of n first) s.still s.read_first i in
    let both : alone (connection_of e) (t n) (at_once (events_of n second)) ≡ alone_on e t n first = ap (λ (l : List Event). alone (connection_of e) (t n) l) (at_once_same e t n first second s) ∙ sym one in
    once_back (connection_of e) (t n) (events_of n second) s.still s.read_second (ap (λ (x : Outcome). x.connection.over) both ∙ i) ∙ both

rules_same : (e : Endpoint) (t : Table) (first second : Transcript) → KeepsRules e t first → ((n : ℕ) → SameOn e t n first second) → StopsNone second → AreTaken e second → KeepsRules e t second
rules_same e t first second r s none valid =
    let same : (n : ℕ) → alone_on e t n first ≡ alone_on e t n second = λ n. sym (alone_same e t n first second (r.sound n) (s n)) in
    record {
      sound = λ n. ap (λ (x : Outcome). x.connection.over) (sym (same n)) ∙ r.sound n;
      once = λ p n m f g. r.once p n m (ap (λ (x : Outcome). flag x.connection p) (same n) ∙ f) (ap (λ (x : Outcome). flag x.connection p) (same m) ∙ g);
      stops = none;
      datagrams = valid;
    }

pub order_over : (e : Endpoint) (t : Table) (first second : Transcript) → NoneWaits t → KeepsRules e t first → ((n : ℕ) → SameOn e t n first second) → StopsNone second → AreTaken e second → AllHavePlaces (begin e t) second → (after (begin e t) second).connection.over ≡ false
order_over e t first second z r s none valid h = rules_kept e t second z (rules_same e t first second r s none valid) h

pub order_seen : (e : Endpoint) (t : Table) (n : ℕ) (first second : Transcript) → NoneWaits t → KeepsRules e t first → ((k : ℕ) → SameOn e t k first second) → StopsNone second → AreTaken e second → AllHavePlaces (begin e t) first → AllHavePlaces (begin e t) second → on_stream n (seen_in (begin e t) second) ≡ on_stream n (seen_in (begin e t) first)
order_seen e t n first second z r s none valid g h =
    (stands_alone e t n second (z n) (order_over e t first second z r s none valid h) (h n)).seen
    ∙ ap (λ (x : Outcome). x.seen) (alone_same e t n first second (r.sound n) (s n))
    ∙ sym (stands_alone e t n first (z n) (rules_kept e t first z r g) (g n)).seen
