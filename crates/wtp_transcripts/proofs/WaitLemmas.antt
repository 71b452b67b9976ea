-- How many streams wait.
use Rattle.std.proofs.Common.{◌≡◌, ℕ, ◌+◌, ◌≤◌, ◌%◌, ◌/◌, ◌&&◌, ◌||◌, not, Bool, true, false, cond, eqb, List, [], ◌∷◌, ◌++◌, Option, Some, None, Result, Ok, Err, refl, sym, ap, ◌∙◌, arith, inl, inr}
use Rattle.std.proofs.lemmas.Bool.{cases_Bool, cases_lt, lt-ltb, le-ltb, false≢true, eqb-true}
use Rattle.std.proofs.lemmas.List.{append-nil}
use Rattle.std.specs.List.{list_all}
use Rattle.wtp_core.specs.declared.error.scope.ErrorScope.{ErrorScope}
use Rattle.wtp_core.specs.declared.error.scope.ErrorScope.TheVariants as scope
use Rattle.wtp_frames.specs.declared.endpoint.Side.{Side}
use Rattle.wtp_frames.specs.declared.endpoint.Side.TheVariants.{Client, Server}
use Rattle.wtp_frames.specs.declared.fault.Fault.{Fault as StreamFault}
use Rattle.wtp_frames.specs.declared.fault.Fault.TheVariants as stream
use Rattle.wtp_frames.specs.declared.frame_type.FrameType.TheVariants as kind
use Rattle.wtp_frames.specs.Item.{Item, Whole, Broken}
use Rattle.wtp_frames.specs.declared.reader.Reader.{Reader}
use Rattle.wtp_frames.specs.Interim.{after_interim}
use Rattle.wtp_frames.specs.Run.{run}
use Rattle.wtp_frames.specs.Start.{message_reader}
use Rattle.wtp_connection.specs.declared.connection.Connection.{Connection}
use Rattle.wtp_connection.specs.declared.connection.Known.{Known}
use Rattle.wtp_connection.specs.declared.connection.Known.TheVariants as known
use Rattle.wtp_connection.specs.declared.fault.Fault.{Fault}
use Rattle.wtp_connection.specs.declared.fault.Fault.TheVariants as fault
use Rattle.wtp_connection.specs.declared.instructions.DecoderPlace.{DecoderPlace}
use Rattle.wtp_connection.specs.declared.settings.PeerSettings.{PeerSettings}
use Rattle.wtp_connection.specs.declared.stream.Purpose.{Purpose}
use Rattle.wtp_connection.specs.declared.stream.Purpose.TheVariants as «for»
use Rattle.wtp_connection.specs.declared.stream.Stream.{Stream}
use Rattle.wtp_connection.specs.declared.stream.Stream.TheVariants.{Uni, Bi, Frames, Joining, Waiting, Session, Encoder, Decoder, Ignored, Over, Incomplete}
use Rattle.wtp_connection.specs.Datagrams.{Taken, taken, after_taken}
use Rattle.wtp_connection.specs.Fault.{scope_of}
use Rattle.wtp_connection.specs.Instructions.{sets_zero, after_bytes}
use Rattle.wtp_frames.specs.declared.endpoint.Endpoint.{Endpoint}
use Rattle.wtp_connection.specs.Opening.{connected, uni_at, bi_at, is_critical, is_for_critical, is_forbidden, over_from, over_by}
use Rattle.wtp_connection.specs.Requests.{with_request}
use Rattle.wtp_connection.specs.Streams.{with_stream, opens, opens_once, closed_in, closed_by, StreamRun, rests, all_given, breaks, by_settings, of_items, has_frames, bytes_seen, by_capacity, by_place, run_open, by_purpose, by_opening, run_intact, run_stream, by_fault, end_of, ending, ended, most_waiting, Joined, refuses, settles, waits, freed, joins_open, joins, by_interim, tells_open, without, reset_answer, overflows_open, configured, received_settings}
use Rattle.wtp_transcripts.specs.Transcript.{read, Held, Event, Came, Told, Interim, Tunnelled, Reset, Overflowed, Abandoned, Outcome, outcome_of, called, unread, ends, reads_on, happens, end_seen, Table, with_held, Accepted, Stopped, Datagram, On, Transcript, State, at_stream, next, after, places, waiting_among, is_among, AreDistinct, AreOf}

-- ---- runs

-- so many streams wait after a run, and its stream takes so many places
pub record WaitsAs (n k : ℕ) (x : StreamRun) : Type 0 where
  pub waiting : x.connection.waiting ≡ n
  pub places : places x.stream ≡ k

scope_waiting : (s : ErrorScope) (c : Connection) → (closed_in c s).waiting ≡ c.waiting
scope_waiting scope.Stream c = refl
scope_waiting other c = refl

closed_waiting : (c : Connection) (f : Fault) → (closed_by c f).waiting ≡ c.waiting
closed_waiting c f = scope_waiting (scope_of f) c

breaks_wait : (c : Connection) (f : Fault) → WaitsAs c.waiting 0 (breaks c f)
breaks_wait c f = record { waiting = closed_waiting c f; places = refl }

settings_wait : (o : Result PeerSettings Fault) (n : ℕ) (c : Connection) (payload : List ℕ) (f : Connection → StreamRun) → c.waiting ≡ n → ((d : Connection) → d.waiting ≡ n → WaitsAs n 0 (f d)) → WaitsAs n 0 (by_settings c payload f o)
settings_wait (Ok v) n c payload f e h = record { waiting = (h (configured c v) e).waiting; places = (h (configured c v) e).places }
settings_wait (Err x) n c payload f e h = record { waiting = closed_waiting c x ∙ e; places = refl }

items_wait : (items : List Item) (n : ℕ) (c : Connection) (f : Connection → StreamRun) → c.waiting ≡ n → ((d : Connection) → d.waiting ≡ n → WaitsAs n 0 (f d)) → WaitsAs n 0 (of_items c f items)
items_wait [] n c f e h = h c e
items_wait (Whole kind.Settings payload ∷ items) n c f e h = settings_wait (received_settings c payload) n c payload (λ d. of_items d f items) e (λ d i. items_wait items n d f i h)
items_wait (Broken x ∷ items) n c f e h =
    let y : WaitsAs n 0 (of_items (closed_by c (fault.Stream x)) f items) = items_wait items n (closed_by c (fault.Stream x)) f (closed_waiting c (fault.Stream x) ∙ e) h in
    record { waiting = y.waiting; places = y.places }
items_wait (other ∷ items) n c f e h = record { waiting = (items_wait items n c f e h).waiting; places = (items_wait items n c f e h).places }

capacity_waits : (x : Bool) (c : Connection) → WaitsAs c.waiting 0 (by_capacity c x)
capacity_waits true c = record { waiting = refl; places = refl }
capacity_waits false c = breaks_wait c fault.EncoderStream

place_waits : (o : Option DecoderPlace) (c : Connection) → WaitsAs c.waiting 0 (by_place c o)
place_waits (Some p) c = record { waiting = refl; places = refl }
place_waits None c = breaks_wait c fault.DecoderStream

open_waits : (s : Stream) (c : Connection) (bytes : List ℕ) → WaitsAs c.waiting (places s) (run_open c s bytes)
open_waits (Frames r given) c bytes = items_wait (run r bytes).items c.waiting c (λ d. rests d (Frames (run r bytes).reader (has_frames (run r bytes).items || given)) (run r bytes).left) refl (λ d e. record { waiting = e; places = refl })
open_waits Encoder c bytes = capacity_waits (list_all sets_zero bytes) c
open_waits (Decoder place) c bytes = place_waits (after_bytes place bytes) c
open_waits other c bytes = record { waiting = refl; places = refl }

once_waits : (b : Bool) (p : Purpose) (rest : List ℕ) (c d : Connection) (s : Stream) → d.waiting ≡ c.waiting → places s ≡ 0 → WaitsAs c.waiting 0 (by_purpose c p rest (opens_once b d s))
once_waits true p rest c d s e f = breaks_wait c _
once_waits false p rest c d s e f = record { waiting = (open_waits s d rest).waiting ∙ e; places = (open_waits s d rest).places ∙ f }

opened_waits : (p : Purpose) (rest : List ℕ) (c : Connection) (s : Stream) → places s ≡ 0 → WaitsAs c.waiting 0 (by_purpose c p rest (Ok (c, s)))
opened_waits p rest c s e = record { waiting = (open_waits s c rest).waiting; places = (open_waits s c rest).places ∙ e }

purpose_waits : (p : Purpose) (rest : List ℕ) (c : Connection) → WaitsAs c.waiting 0 (by_purpose c p rest (opens c p))
purpose_waits «for».Control rest c = once_waits c.control «for».Control rest c _ _ refl refl
purpose_waits «for».Encoder rest c = once_waits c.encoder «for».Encoder rest c _ _ refl refl
purpose_waits «for».Decoder rest c = once_waits c.decoder «for».Decoder rest c _ _ refl refl
purpose_waits «for».Push rest c = breaks_wait c _
purpose_waits («for».Session s) rest c = opened_waits («for».Session s) rest c (Joining s) refl
purpose_waits «for».InvalidSession rest c = breaks_wait c _
purpose_waits «for».Message rest c = opened_waits «for».Message rest c (Frames (message_reader c.endpoint) false) refl
purpose_waits «for».Foreign rest c = breaks_wait c _
purpose_waits «for».Ignored rest c = opened_waits «for».Ignored rest c Ignored refl

opening_waits : (o : Option (Purpose × List ℕ)) (s : Stream) (bytes : List ℕ) (c : Connection) → places s ≡ 0 → WaitsAs c.waiting 0 (by_opening c s bytes o)
opening_waits None s bytes c e = record { waiting = refl; places = e }
opening_waits (Some o) s bytes c e = purpose_waits o.0 o.1 c

intact_waits : (s : Stream) (bytes : List ℕ) (c : Connection) → WaitsAs c.waiting (places s) (run_intact c s bytes)
intact_waits Uni bytes c = opening_waits (uni_at c.endpoint bytes) Uni bytes c refl
intact_waits Bi bytes c = opening_waits (bi_at c.endpoint bytes) Bi bytes c refl
intact_waits other bytes c = open_waits other c bytes

cond_waits : (b : Bool) (n k : ℕ) (x y : StreamRun) → WaitsAs n k x → WaitsAs n k y → WaitsAs n k (cond b x y)
cond_waits true n k x y f g = f
cond_waits false n k x y f g = g

run_waits : (s : Stream) (bytes : List ℕ) (c : Connection) → WaitsAs c.waiting (places s) (run_stream c s bytes)
run_waits s bytes c = cond_waits c.over c.waiting (places s) (all_given c s []) (run_intact c s bytes) (record { waiting = refl; places = refl }) (intact_waits s bytes c)

over_by_none : (f : StreamFault) → places (over_by f) ≡ 0
over_by_none stream.RequestIncomplete = refl
over_by_none other = refl

fault_waits : (o : Result (Unit {0}) StreamFault) (c : Connection) → WaitsAs c.waiting 0 (by_fault c o)
fault_waits (Ok u) c = record { waiting = refl; places = refl }
fault_waits (Err f) c = record { waiting = closed_waiting c (fault.Stream f); places = over_by_none f }

ending_waits : (s : Stream) (l : List ℕ) (c : Connection) → WaitsAs c.waiting (places s) (ending c s l)
ending_waits (Joining n) l c = record { waiting = refl; places = refl }
ending_waits (Waiting n) l c = record { waiting = refl; places = refl }
ending_waits Incomplete l c = record { waiting = refl; places = refl }
ending_waits Over l c = record { waiting = refl; places = refl }
ending_waits other l c = fault_waits (end_of c other l) c

ended_waits : (n k : ℕ) (x : StreamRun) → WaitsAs n k x → WaitsAs n k (ended x)
ended_waits n k x h =
    let y : WaitsAs x.connection.waiting (places x.stream) (ending x.connection x.stream x.left) = ending_waits x.stream x.left x.connection in
    cond_waits x.connection.over n k x _ h (record { waiting = y.waiting ∙ h.waiting; places = y.places ∙ h.places })

pub read_waits : (fin : Bool) (s : Stream) (bytes : List ℕ) (c : Connection) → WaitsAs c.waiting (places s) (read fin c s bytes)
read_waits true s bytes c = ended_waits c.waiting (places s) (run_stream c s bytes) (run_waits s bytes c)
read_waits false s bytes c = run_waits s bytes c

-- ---- calls

-- the connection counts as many more or fewer as the stream takes places
record Counts (c : Connection) (s : Stream) (x : Joined) : Type 0 where
  sum : x.0.waiting + places s ≡ c.waiting + places x.1
  bound : c.waiting ≤ most_waiting → x.0.waiting ≤ most_waiting

refuses_counts : (c d : Connection) (s : Stream) (f : StreamFault) → d.waiting + places s ≡ c.waiting → Counts c s (refuses d f)
refuses_counts c d s f e = record {
  sum = omega (arith, closed_waiting d (fault.Stream f), e);
  bound = λ b. omega (arith, closed_waiting d (fault.Stream f), e, b);
}

same_counts : (c : Connection) (s : Stream) (o : Option Fault) → Counts c s (c, s, o)
same_counts c s o = record { sum = refl; bound = λ b. b }

-- it takes no place then
leaves_counts : (c d : Connection) (s t : Stream) (o : Option Fault) → d.waiting + places s ≡ c.waiting → places t ≡ 0 → Counts c s (d, t, o)
leaves_counts c d s t o e f = record { sum = omega (arith, e, f); bound = λ b. omega (arith, e, b) }

settles_counts : (k : Known) (c d : Connection) (s : Stream) (n : ℕ) → (k ≡ known.Coming → ⊥) → d.waiting + places s ≡ c.waiting → Counts c s (settles d n k)
settles_counts known.Coming c d s n not e = absurd (not refl)
settles_counts known.Open c d s n not e = leaves_counts c d s (Session n) None e refl
settles_counts known.Over c d s n not e = refuses_counts c d s _ e
settles_counts known.Refused c d s n not e = refuses_counts c d s _ e
settles_counts known.Other c d s n not e = refuses_counts c d s _ e
settles_counts known.Impossible c d s n not e = refuses_counts c d s _ e

waits_counts : (c : Connection) (s n : ℕ) → Counts c (Joining n) (waits c s)
waits_counts c s n = elim (cases_lt c.waiting 16) [
  | inl less ↦ rw (lt-ltb c.waiting 16 less) (record { sum = omega arith; bound = λ b. omega (arith, less) })
  | inr full ↦ rw (le-ltb c.waiting 16 full) (refuses_counts c c (Joining n) stream.BufferedStreamRejected (omega arith))
]

joins_counts : (s : Stream) (k : Known) (c : Connection) → places s ≤ c.waiting → Counts c s (joins_open c s k)
joins_counts (Joining n) known.Coming c h = waits_counts c n n
joins_counts (Joining n) known.Open c h = settles_counts known.Open c c (Joining n) n (λ e. cc) (omega arith)
joins_counts (Joining n) known.Over c h = settles_counts known.Over c c (Joining n) n (λ e. cc) (omega arith)
joins_counts (Joining n) known.Refused c h = settles_counts known.Refused c c (Joining n) n (λ e. cc) (omega arith)
joins_counts (Joining n) known.Other c h = settles_counts known.Other c c (Joining n) n (λ e. cc) (omega arith)
joins_counts (Joining n) known.Impossible c h = settles_counts known.Impossible c c (Joining n) n (λ e. cc) (omega arith)
joins_counts (Waiting n) known.Coming c h = same_counts c (Waiting n) None
joins_counts (Waiting n) known.Open c h = settles_counts known.Open c (freed c) (Waiting n) n (λ e. cc) (omega (arith, h))
joins_counts (Waiting n) known.Over c h = settles_counts known.Over c (freed c) (Waiting n) n (λ e. cc) (omega (arith, h))
joins_counts (Waiting n) known.Refused c h = settles_counts known.Refused c (freed c) (Waiting n) n (λ e. cc) (omega (arith, h))
joins_counts (Waiting n) known.Other c h = settles_counts known.Other c (freed c) (Waiting n) n (λ e. cc) (omega (arith, h))
joins_counts (Waiting n) known.Impossible c h = settles_counts known.Impossible c (freed c) (Waiting n) n (λ e. cc) (omega (arith, h))
joins_counts (Session n) known.Over c h = refuses_counts c c (Session n) stream.SessionGone (omega arith)
joins_counts other k c h = same_counts c other None

cond_counts : (b : Bool) (c : Connection) (s : Stream) (x y : Joined) → Counts c s x → Counts c s y → Counts c s (cond b x y)
cond_counts true c s x y f g = f
cond_counts false c s x y f g = g

without_waiting : (c : Connection) (s : Stream) → places s ≤ c.waiting → (without c s).waiting + places s ≡ c.waiting
without_waiting c (Waiting n) h = omega (arith, h)
without_waiting c other h = omega arith

overflow_counts : (s : Stream) (c : Connection) → places s ≤ c.waiting → Counts c s (overflows_open c s)
overflow_counts (Joining n) c h = refuses_counts c c (Joining n) stream.BufferedStreamRejected (omega arith)
overflow_counts (Waiting n) c h = refuses_counts c (freed c) (Waiting n) stream.BufferedStreamRejected (omega (arith, h))
overflow_counts Incomplete c h = same_counts c Incomplete None
overflow_counts Over c h = same_counts c Over None
overflow_counts other c h = refuses_counts c c other stream.ExcessiveLoad (omega arith)

pub over_from_none : (s : Stream) → places (over_from s) ≡ 0
over_from_none Bi = refl
over_from_none (Frames r false) = refl
over_from_none Incomplete = refl
over_from_none other = refl

abandon_counts : (b : Bool) (c : Connection) (s : Stream) → places s ≤ c.waiting → Counts c s ((cond {A = Connection × Stream} b (c, s) (without c s, over_from s)).0, (cond {A = Connection × Stream} b (c, s) (without c s, over_from s)).1, None)
abandon_counts true c s h = same_counts c s None
abandon_counts false c s h = leaves_counts c (without c s) s (over_from s) None (without_waiting c s h) (over_from_none s)

critical_none : (s : Stream) → is_critical s ≡ true → places s ≡ 0
critical_none (Waiting n) e = absurd (false≢true e)
critical_none other e = refl

forbidden_none : (e : Endpoint) (s : Stream) → is_forbidden e s ≡ true → places s ≡ 0
forbidden_none e (Waiting n) h = absurd (false≢true h)
forbidden_none e other h = refl

reset_counts : (b : Bool) (c : Connection) (s : Stream) (f : StreamFault) (x : Joined) → (b ≡ true → places s ≡ 0) → Counts c s x → Counts c s (cond b (refuses c f) x)
reset_counts true c s f x e h = refuses_counts c c s f (omega (arith, e refl))
reset_counts false c s f x e h = h

first_true : (a b : Bool) → (a && b) ≡ true → a ≡ true
first_true true b e = refl
first_true false b e = e

interim_counts : (c : Connection) (r : Reader) (given : Bool) (x : Reader × Option StreamFault) → Counts c (Frames r given) (by_interim c given x)
interim_counts c r given (next, None) = record { sum = refl; bound = λ b. b }
interim_counts c r given (next, Some f) = refuses_counts c c (Frames r given) f (omega arith)

tells_counts : (s : Stream) (c : Connection) → Counts c s (tells_open c s)
tells_counts (Frames r given) c = interim_counts c r given (after_interim r)
tells_counts other c = same_counts c other None

pub connected_places : (s : Stream) → places (connected s) ≡ places s
connected_places (Frames r given) = refl
connected_places other = refl

call_counts : (e : Event) (c : Connection) (s : Stream) → places s ≤ c.waiting → Counts c s (called c s e)
call_counts (Came bytes fin) c s h = same_counts c s None
call_counts (Told k) c s h = cond_counts c.over c s (c, s, None) (joins_open c s k) (same_counts c s None) (joins_counts s k c h)
call_counts Interim c s h = cond_counts c.over c s (c, s, None) (tells_open c s) (same_counts c s None) (tells_counts s c)
call_counts Tunnelled c s h = record { sum = omega (arith, connected_places s); bound = λ b. b }
call_counts Reset c s h = reset_counts (is_critical s && not c.over) c s stream.ClosedCriticalStream _ (λ e. critical_none s (first_true (is_critical s) (not c.over) e)) (
    reset_counts (is_forbidden c.endpoint s && not c.over) c s stream.StreamCreation _ (λ e. forbidden_none c.endpoint s (first_true (is_forbidden c.endpoint s) (not c.over) e))
    (leaves_counts c (without c s) s (over_from s) (reset_answer c s) (without_waiting c s h) (over_from_none s)))
call_counts Overflowed c s h = cond_counts c.over c s (c, s, None) (overflows_open c s) (same_counts c s None) (overflow_counts s c h)
call_counts Abandoned c s h = abandon_counts (is_critical s) c s h

-- ---- events

pub record EventCounts (c : Connection) (s : Stream) (x : Outcome) : Type 0 where
  pub sum : x.connection.waiting + places s ≡ c.waiting + places x.held.stream
  pub bound : c.waiting ≤ most_waiting → x.connection.waiting ≤ most_waiting

pub event_counts : (e : Event) (c : Connection) (h : Held) → places h.stream ≤ c.waiting → EventCounts c h.stream (happens c h e)
event_counts e c h l =
    let x : Joined = called c h.stream e in
    let n : Counts c h.stream (called c h.stream e) = call_counts e c h.stream l in
    let r : WaitsAs x.0.waiting (places x.1) (read (ends h e) x.0 x.1 (unread h e)) = read_waits (ends h e) x.1 (unread h e) x.0 in
    record {
      sum = omega (arith, n.sum, r.waiting, r.places);
      bound = λ b. omega (arith, n.bound b, r.waiting);
    }

-- ---- the streams of a table

or_first : (a b : Bool) → (a || b) ≡ false → a ≡ false
or_first true b e = e
or_first false b e = refl

or_second : (a b : Bool) → (a || b) ≡ false → b ≡ false
or_second true b e = absurd (false≢true (sym e))
or_second false b e = e

or_false : (a b : Bool) → a ≡ false → (a || b) ≡ true → b ≡ true
or_false true b f e = absurd (false≢true (sym f))
or_false false b f e = e

pub held_at : (n m : ℕ) (h : Held) (t : Table) → eqb n m ≡ true → with_held n h t m ≡ h
held_at n m h t e = rw e refl

pub held_other : (n m : ℕ) (h : Held) (t : Table) → eqb n m ≡ false → with_held n h t m ≡ t m
held_other n m h t e = rw e refl

pub other_waiting : (ns : List ℕ) (n : ℕ) (h : Held) (t : Table) → is_among n ns ≡ false → waiting_among ns (with_held n h t) ≡ waiting_among ns t
other_waiting [] n h t e = refl
other_waiting (m ∷ ns) n h t e =
    ap (λ (x : Held). places x.stream + waiting_among ns (with_held n h t)) (held_other n m h t (or_first (eqb n m) (is_among n ns) e))
    ∙ ap (λ (k : ℕ). places (t m).stream + k) (other_waiting ns n h t (or_second (eqb n m) (is_among n ns) e))

pub its_waiting : (ns : List ℕ) (n : ℕ) (h : Held) (t : Table) → AreDistinct ns → is_among n ns ≡ true → waiting_among ns (with_held n h t) + places (t n).stream ≡ waiting_among ns t + places h.stream
its_waiting [] n h t d e = absurd (false≢true e)
its_waiting (m ∷ ns) n h t d e = elim (cases_Bool (eqb n m)) [
  | inl same ↦
      let is : n ≡ m = eqb-true n m same in
      let at : with_held n h t m ≡ h = held_at n m h t same in
      let rest : waiting_among ns (with_held n h t) ≡ waiting_among ns t = other_waiting ns n h t (ap (λ (k : ℕ). is_among k ns) is ∙ d.0) in
      let its : places (t n).stream ≡ places (t m).stream = ap (λ (k : ℕ). places (t k).stream) is in
      omega (arith, ap (λ (x : Held). places x.stream) at, rest, its)
  | inr other ↦
      let at : with_held n h t m ≡ t m = held_other n m h t other in
      let rest : waiting_among ns (with_held n h t) + places (t n).stream ≡ waiting_among ns t + places h.stream = its_waiting ns n h t d.1 (or_false (eqb n m) (is_among n ns) other e) in
      omega (arith, ap (λ (x : Held). places x.stream) at, rest)
]

pub its_places : (ns : List ℕ) (n : ℕ) (t : Table) → is_among n ns ≡ true → places (t n).stream ≤ waiting_among ns t
its_places [] n t e = absurd (false≢true e)
its_places (m ∷ ns) n t e = elim (cases_Bool (eqb n m)) [
  | inl same ↦ omega (arith, ap (λ (k : ℕ). places (t k).stream) (eqb-true n m same))
  | inr other ↦ omega (arith, its_places ns n t (or_false (eqb n m) (is_among n ns) other e))
]

-- ---- the whole connection

pub accepted_waiting : (side : Side) (c : Connection) (n : ℕ) → (with_stream side c n).waiting ≡ c.waiting
accepted_waiting Client c n = refl
accepted_waiting Server c n = begun (eqb (n % 4) 0)
  where
    begun : (b : Bool) → (cond b (record c { begun = with_request c.begun (n / 4) }) c).waiting ≡ c.waiting
    begun true = refl
    begun false = refl

pub stopped_waiting : (b : Bool) (c : Connection) (f : Fault) (o : Option Fault) → (cond {A = Connection × Option Fault} b (closed_by c f, o) (c, None)).0.waiting ≡ c.waiting
stopped_waiting true c f o = closed_waiting c f
stopped_waiting false c f o = refl

pub datagram_waiting : (c : Connection) (x : Taken) → (after_taken c x).waiting ≡ c.waiting
datagram_waiting c (Ok d) = refl
datagram_waiting c (Err f) = closed_waiting c f

-- the connection counts the streams that wait, which are not too many
record IsCounted (ns : List ℕ) (x : State) : Type 0 where
  count : x.connection.waiting ≡ waiting_among ns x.streams
  bound : x.connection.waiting ≤ most_waiting

counted : (ns : List ℕ) (c d : Connection) (t : Table) → d.waiting ≡ c.waiting → IsCounted ns (record { connection = c; streams = t }) → IsCounted ns (record { connection = d; streams = t })
counted ns c d t e h = record { count = e ∙ h.count; bound = omega (arith, e, h.bound) }

steps_counted : (steps : Transcript) (ns : List ℕ) (x : State) → AreDistinct ns → AreOf ns steps → IsCounted ns x → IsCounted ns (after x steps)
steps_counted [] ns x d o h = h
steps_counted (Accepted n ∷ steps) ns x d o h = steps_counted steps ns (next x (Accepted n)) d o (counted ns x.connection (next x (Accepted n)).connection x.streams (accepted_waiting x.connection.endpoint.side x.connection n) h)
steps_counted (Stopped p ∷ steps) ns x d o h = steps_counted steps ns (next x (Stopped p)) d o (counted ns x.connection (next x (Stopped p)).connection x.streams (stopped_waiting (is_for_critical p && not x.connection.over) x.connection (fault.Stream stream.ClosedCriticalStream) (Some (fault.Stream stream.ClosedCriticalStream))) h)
steps_counted (Datagram bytes ∷ steps) ns x d o h = steps_counted steps ns (next x (Datagram bytes)) d o (counted ns x.connection (next x (Datagram bytes)).connection x.streams (datagram_waiting x.connection (taken x.connection bytes)) h)
steps_counted (On n e ∷ steps) ns x d o h =
    let fits : places (x.streams n).stream ≤ x.connection.waiting = omega (arith, its_places ns n x.streams o.0, h.count) in
    let y : EventCounts x.connection (x.streams n).stream (at_stream x n e) = event_counts e x.connection (x.streams n) fits in
    steps_counted steps ns (next x (On n e)) d o.1 (record {
      count = omega (arith, y.sum, h.count, its_waiting ns n (at_stream x n e).held x.streams d o.0);
      bound = y.bound h.bound;
    })

pub waiting_counted : (steps : Transcript) (ns : List ℕ) (x : State) → AreDistinct ns → AreOf ns steps → x.connection.waiting ≡ waiting_among ns x.streams → x.connection.waiting ≤ most_waiting → (after x steps).connection.waiting ≡ waiting_among ns (after x steps).streams
waiting_counted steps ns x d o e b = (steps_counted steps ns x d o (record { count = e; bound = b })).count

pub few_wait : (steps : Transcript) (ns : List ℕ) (x : State) → AreDistinct ns → AreOf ns steps → x.connection.waiting ≡ waiting_among ns x.streams → x.connection.waiting ≤ most_waiting → (after x steps).connection.waiting ≤ most_waiting
few_wait steps ns x d o e b = (steps_counted steps ns x d o (record { count = e; bound = b })).bound

-- ---- nothing is lost

-- a stream waits, and nothing is found on it
pub keeps_waiting : (fin : Bool) (c : Connection) (s : ℕ) (bytes : List ℕ) → c.over ≡ false → read fin c (Waiting s) bytes ≡ rests c (Waiting s) bytes
keeps_waiting true c s bytes e = rw e refl
keeps_waiting false c s bytes e = rw e refl

pub waits_whole : (c : Connection) (s : ℕ) (left bytes : List ℕ) (old fin : Bool) → c.over ≡ false → happens c (record { stream = Waiting s; left = left; fin = old }) (Came bytes fin) ≡ record {
  seen = [];
  connection = c;
  held = record { stream = Waiting s; left = left ++ bytes; fin = old || fin };
}
waits_whole c s left bytes old fin e = ap (λ (x : StreamRun). outcome_of (old || fin) x) (keeps_waiting (old || fin) c s (left ++ bytes) e)

pub open_gives : (fin : Bool) (c : Connection) (s : ℕ) (bytes : List ℕ) → c.over ≡ false → (read fin c (Session s) bytes).seen ≡ bytes_seen bytes ++ end_seen fin
open_gives true c s bytes e = rw e refl
open_gives false c s bytes e = rw e (sym (append-nil (bytes_seen bytes)))

pub waited_given : (c : Connection) (s : ℕ) (left : List ℕ) (fin : Bool) → c.over ≡ false → (happens c (record { stream = Waiting s; left = left; fin = fin }) (Told known.Open)).seen ≡ bytes_seen left ++ end_seen fin
waited_given c s left fin e =
    ap (λ (x : Joined). (reads_on fin left x).seen) (joined_open c s e)
    ∙ open_gives fin (freed c) s left e
  where
    joined_open : (c : Connection) (s : ℕ) → c.over ≡ false → joins c (Waiting s) known.Open ≡ (freed c, Session s, None)
    joined_open c s e = rw e refl
