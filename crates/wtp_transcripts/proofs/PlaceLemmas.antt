-- Streams that are not too many have places to wait.
use Rattle.std.proofs.Common.{◌≡◌, ℕ, ◌<◌, ◌≤◌, ◌&&◌, ◌||◌, not, Bool, true, false, cond, eqb, List, [], ◌∷◌, length, Option, Some, None, refl, sym, ap, ◌∙◌, arith, inl, inr, ◌⊎◌}
use Rattle.std.proofs.lemmas.Bool.{cases_Bool, eqb-true, false≢true}
use Rattle.wtp_frames.specs.declared.endpoint.Endpoint.{Endpoint}
use Rattle.wtp_frames.specs.declared.fault.Fault.{Fault as StreamFault}
use Rattle.wtp_frames.specs.declared.fault.Fault.TheVariants as stream
use Rattle.wtp_frames.specs.declared.reader.Reader.{Reader}
use Rattle.wtp_frames.specs.Interim.{after_interim}
use Rattle.wtp_connection.specs.declared.connection.Connection.{Connection}
use Rattle.wtp_connection.specs.declared.connection.Known.{Known}
use Rattle.wtp_connection.specs.declared.connection.Known.TheVariants as known
use Rattle.wtp_connection.specs.declared.fault.Fault.TheVariants as fault
use Rattle.wtp_connection.specs.declared.stream.Stream.{Stream}
use Rattle.wtp_connection.specs.declared.stream.Stream.TheVariants.{Frames, Joining, Waiting, Session, Over, Incomplete}
use Rattle.wtp_connection.specs.Datagrams.{taken}
use Rattle.wtp_connection.specs.Opening.{is_critical, is_for_critical, is_forbidden, over_from}
use Rattle.wtp_connection.specs.Streams.{most_waiting, Joined, settles, joins_open, by_interim, tells_open, overflows_open, without}
use Rattle.wtp_transcripts.specs.Transcript.{Held, Event, Came, Told, Interim, Tunnelled, Reset, Overflowed, Abandoned, called, unread, ends, happens, Table, Accepted, Stopped, Datagram, On, Transcript, State, begin, at_stream, next, places, waiting_among, is_among, AreDistinct, HasPlace, HasPlaces, AllHavePlaces, WaitAmong, NoneWaits}
use Rattle.wtp_transcripts.proofs.WaitLemmas.{read_waits, EventCounts, event_counts, held_at, held_other, other_waiting, its_waiting, its_places, accepted_waiting, stopped_waiting, datagram_waiting, over_from_none, connected_places}

-- it is not said that the session is to come
abbrev NotComing : Event → Type 0
NotComing (Told known.Coming) = ⊥
NotComing other = Unit {0}

-- ---- a stream that does not wait

settled : (k : Known) (c : Connection) (n : ℕ) → NotComing (Told k) → places (settles c n k).1 ≡ 0
settled known.Coming c n h = absurd h
settled known.Open c n h = refl
settled known.Over c n h = refl
settled known.Refused c n h = refl
settled known.Other c n h = refl
settled known.Impossible c n h = refl

joined_none : (s : Stream) (k : Known) (c : Connection) → places s ≡ 0 → NotComing (Told k) → places (joins_open c s k).1 ≡ 0
joined_none (Joining n) known.Coming c e h = absurd h
joined_none (Joining n) k c e h = settled k c n h
joined_none (Waiting n) k c e h = absurd (omega (arith, e))
joined_none (Session n) known.Over c e h = refl
joined_none other k c e h = e

cond_none : (b : Bool) (x y : Joined) → places x.1 ≡ 0 → places y.1 ≡ 0 → places (cond b x y).1 ≡ 0
cond_none true x y e f = e
cond_none false x y e f = f

overflow_none : (s : Stream) (c : Connection) → places s ≡ 0 → places (overflows_open c s).1 ≡ 0
overflow_none (Joining n) c e = refl
overflow_none (Waiting n) c e = refl
overflow_none Incomplete c e = refl
overflow_none Over c e = refl
overflow_none other c e = refl

abandon_none : (b : Bool) (s : Stream) (c : Connection) → places s ≡ 0 → places (cond {A = Connection × Stream} b (c, s) (without c s, over_from s)).1 ≡ 0
abandon_none true s c e = e
abandon_none false s c e = over_from_none s

interim_none : (c : Connection) (given : Bool) (x : Reader × Option StreamFault) → places (by_interim c given x).1 ≡ 0
interim_none c given (next, None) = refl
interim_none c given (next, Some f) = refl

told_none : (s : Stream) (c : Connection) → places s ≡ 0 → places (tells_open c s).1 ≡ 0
told_none (Frames r given) c e = interim_none c given (after_interim r)
told_none other c e = e

call_none : (e : Event) (s : Stream) (c : Connection) → places s ≡ 0 → NotComing e → places (called c s e).1 ≡ 0
call_none (Came bytes fin) s c p h = p
call_none (Told k) s c p h = cond_none c.over (c, s, None) (joins_open c s k) p (joined_none s k c p h)
call_none Interim s c p h = cond_none c.over (c, s, None) (tells_open c s) p (told_none s c p)
call_none Tunnelled s c p h = connected_places s ∙ p
call_none Reset s c p h = cond_none (is_critical s && not c.over) _ _ refl (cond_none (is_forbidden c.endpoint s && not c.over) _ _ refl (over_from_none s))
call_none Overflowed s c p h = cond_none c.over (c, s, None) (overflows_open c s) p (overflow_none s c p)
call_none Abandoned s c p h = abandon_none (is_critical s) s c p

event_none : (e : Event) (c : Connection) (h : Held) → places h.stream ≡ 0 → NotComing e → places (happens c h e).held.stream ≡ 0
event_none e c h p n =
    let x : Joined = called c h.stream e in
    (read_waits (ends h e) x.1 (unread h e) x.0).places ∙ call_none e h.stream c p n

-- ---- all streams

-- the connection counts these streams that wait, and no others do
record IsAmong (ns : List ℕ) (x : State) : Type 0 where
  count : x.connection.waiting ≡ waiting_among ns x.streams
  others : (n : ℕ) → is_among n ns ≡ false → places (x.streams n).stream ≡ 0

same_among : (ns : List ℕ) (c d : Connection) (t : Table) → d.waiting ≡ c.waiting → IsAmong ns (record { connection = c; streams = t }) → IsAmong ns (record { connection = d; streams = t })
same_among ns c d t e h = record { count = e ∙ h.count; others = h.others }

event_among : (ns : List ℕ) (x : State) (m : ℕ) (e : Event) → AreDistinct ns → (is_among m ns ≡ true) ⊎ NotComing e → IsAmong ns x → IsAmong ns (next x (On m e))
event_among ns x m e d h a = elim (cases_Bool (is_among m ns)) [
  | inl among ↦
      let y : EventCounts x.connection (x.streams m).stream (at_stream x m e) = event_counts e x.connection (x.streams m) (omega (arith, its_places ns m x.streams among, a.count)) in
      record {
        count = omega (arith, y.sum, a.count, its_waiting ns m (at_stream x m e).held x.streams d among);
        others = λ n f. elim (cases_Bool (eqb m n)) [
          | inl same ↦ absurd (false≢true (sym f ∙ ap (λ (k : ℕ). is_among k ns) (sym (eqb-true m n same)) ∙ among))
          | inr other ↦ ap (λ (z : Held). places z.stream) (held_other m n (at_stream x m e).held x.streams other) ∙ a.others n f
        ];
      }
  | inr outside ↦
      let none : places (x.streams m).stream ≡ 0 = a.others m outside in
      let still : places (at_stream x m e).held.stream ≡ 0 = event_none e x.connection (x.streams m) none (not_coming h outside) in
      let y : EventCounts x.connection (x.streams m).stream (at_stream x m e) = event_counts e x.connection (x.streams m) (omega (arith, none)) in
      record {
        count = omega (arith, y.sum, a.count, none, still, other_waiting ns m (at_stream x m e).held x.streams outside);
        others = λ n f. elim (cases_Bool (eqb m n)) [
          | inl same ↦ ap (λ (z : Held). places z.stream) (held_at m n (at_stream x m e).held x.streams same) ∙ still
          | inr other ↦ ap (λ (z : Held). places z.stream) (held_other m n (at_stream x m e).held x.streams other) ∙ a.others n f
        ];
      }
]
  where
    not_coming : (is_among m ns ≡ true) ⊎ NotComing e → is_among m ns ≡ false → NotComing e
    not_coming (inl among) outside = absurd (false≢true (sym outside ∙ among))
    not_coming (inr n) outside = n

-- ---- places

one_each : (s : Stream) → places s ≤ 1
one_each (Waiting n) = omega arith
one_each other = omega arith

at_most : (ns : List ℕ) (t : Table) → waiting_among ns t ≤ length ns
at_most [] t = omega arith
at_most (n ∷ ns) t = omega (arith, one_each (t n).stream, at_most ns t)

or_rest : (a b : Bool) → a ≡ false → (a || b) ≡ true → b ≡ true
or_rest true b f e = absurd (false≢true (sym f))
or_rest false b f e = e

-- one of them does not wait
one_less : (ns : List ℕ) (n : ℕ) (t : Table) → is_among n ns ≡ true → places (t n).stream ≡ 0 → waiting_among ns t < length ns
one_less [] n t e p = absurd (false≢true e)
one_less (m ∷ ns) n t e p = elim (cases_Bool (eqb n m)) [
  | inl same ↦ omega (arith, ap (λ (k : ℕ). places (t k).stream) (eqb-true n m same), p, at_most ns t)
  | inr other ↦ omega (arith, one_each (t m).stream, one_less ns n t (or_rest (eqb n m) (is_among n ns) other e) p)
]

joining_place : (s : Stream) (c : Connection) → (places s ≡ 0 → c.waiting < most_waiting) → HasPlace c s (Told known.Coming)
joining_place (Joining n) c h = h refl
joining_place other c h = tt

no_place : (s : Stream) (e : Event) (c : Connection) → NotComing e → HasPlace c s e
no_place (Joining n) (Told known.Coming) c h = absurd h
no_place s e c h = tt

all_places : (steps : Transcript) (ns : List ℕ) (x : State) (k : ℕ) → AreDistinct ns → length ns ≤ most_waiting → WaitAmong ns steps → IsAmong ns x → HasPlaces k x steps
all_places [] ns x k d l w a = tt
all_places (Accepted n ∷ steps) ns x k d l w a = (tt, all_places steps ns (next x (Accepted n)) k d l w (same_among ns x.connection (next x (Accepted n)).connection x.streams (accepted_waiting x.connection.endpoint.side x.connection n) a))
all_places (Stopped p ∷ steps) ns x k d l w a = (tt, all_places steps ns (next x (Stopped p)) k d l w (same_among ns x.connection (next x (Stopped p)).connection x.streams (stopped_waiting (is_for_critical p && not x.connection.over) x.connection (fault.Stream stream.ClosedCriticalStream) (Some (fault.Stream stream.ClosedCriticalStream))) a))
all_places (Datagram bytes ∷ steps) ns x k d l w a = (tt, all_places steps ns (next x (Datagram bytes)) k d l w (same_among ns x.connection (next x (Datagram bytes)).connection x.streams (datagram_waiting x.connection (taken x.connection bytes)) a))
all_places (On m (Told known.Coming) ∷ steps) ns x k d l w a = (
  λ is. joining_place (x.streams m).stream x.connection (λ none. omega (arith, one_less ns m x.streams w.0 none, a.count, l)),
  all_places steps ns (next x (On m (Told known.Coming))) k d l w.1 (event_among ns x m (Told known.Coming) d (inl w.0) a),
)
all_places (On m e ∷ steps) ns x k d l w a = (
  λ is. no_place (x.streams m).stream e x.connection tt,
  all_places steps ns (next x (On m e)) k d l w (event_among ns x m e d (inr tt) a),
)

none_waiting : (ns : List ℕ) (t : Table) → NoneWaits t → waiting_among ns t ≡ 0
none_waiting [] t h = refl
none_waiting (n ∷ ns) t h = omega (arith, h n, none_waiting ns t h)

pub sixteen_places : (e : Endpoint) (t : Table) (ns : List ℕ) (steps : Transcript) → NoneWaits t → AreDistinct ns → length ns ≤ 16 → WaitAmong ns steps → AllHavePlaces (begin e t) steps
sixteen_places e t ns steps z d l w = λ k. all_places steps ns (begin e t) k d l w (record { count = sym (none_waiting ns t z); others = λ n f. z n })
