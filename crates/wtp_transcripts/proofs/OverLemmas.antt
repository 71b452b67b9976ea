-- After an error of the connection nothing is found.
use Rattle.std.proofs.Common.{◌≡◌, ℕ, ◌%◌, ◌/◌, ◌&&◌, not, Bool, true, false, cond, eqb, List, [], ◌∷◌, ◌++◌, Option, None, refl, sym, ap, ◌∙◌, append_assoc, inl, inr}
use Rattle.std.proofs.lemmas.Bool.{cases_Bool, false≢true}
use Rattle.wtp_frames.specs.declared.endpoint.Side.{Side}
use Rattle.wtp_frames.specs.declared.endpoint.Side.TheVariants.{Client, Server}
use Rattle.wtp_connection.specs.declared.connection.Connection.{Connection}
use Rattle.wtp_connection.specs.declared.fault.Fault.{Fault}
use Rattle.wtp_connection.specs.declared.stream.Stream.{Stream}
use Rattle.wtp_connection.specs.declared.stream.Stream.TheVariants.{Waiting}
use Rattle.wtp_connection.specs.Opening.{is_critical, is_for_critical, is_forbidden, has_no_headers}
use Rattle.wtp_connection.specs.Requests.{with_request}
use Rattle.wtp_connection.specs.Streams.{with_stream, Seen, StreamRun, all_given, ended, Joined, without, reset_answer_at}
use Rattle.wtp_connection.proofs.StreamLemmas.{over_run}
use Rattle.wtp_transcripts.specs.Transcript.{read, Held, Event, Came, Told, Interim, Tunnelled, Reset, Overflowed, Abandoned, Outcome, answered, called, unread, ends, reads_on, happens, Step, Accepted, Stopped, Datagram, On, Transcript, State, next, after, marked, found_by, seen_in}
use Rattle.wtp_transcripts.proofs.DatagramLemmas.{datagram_over}

pub over_read : (fin : Bool) (c : Connection) (s : Stream) (bytes : List ℕ) → c.over ≡ true → read fin c s bytes ≡ all_given c s []
over_read true c s bytes e = ap (λ (x : StreamRun). ended x) (over_run c s bytes e) ∙ rw e refl
over_read false c s bytes e = over_run c s bytes e

-- where a connection goes on after a stream was read it went on before
pub read_from : (fin : Bool) (c : Connection) (s : Stream) (bytes : List ℕ) → (read fin c s bytes).connection.over ≡ false → c.over ≡ false
read_from fin c s bytes e = elim (cases_Bool c.over) [
  | inl over ↦ absurd (false≢true (sym e ∙ ap (λ (x : StreamRun). x.connection.over) (over_read fin c s bytes over) ∙ over))
  | inr intact ↦ intact
]

-- a call that returns no error, and after which the connection is over
record IsSilent (x : Joined) : Type 0 where
  over : x.0.over ≡ true
  none : x.2 ≡ None

without_over : (c : Connection) (s : Stream) → (without c s).over ≡ c.over
without_over c (Waiting s) = refl
without_over c other = refl

no_answer : (side : Side) (b over : Bool) → over ≡ true → reset_answer_at side (b && not over) ≡ None
no_answer Client b over e = refl
no_answer Server true over e = rw e refl
no_answer Server false over e = refl

cond_silent : (b : Bool) (x y : Joined) → b ≡ false → IsSilent y → IsSilent (cond b x y)
cond_silent true x y e h = absurd (false≢true (sym e))
cond_silent false x y e h = h

and_over : (b over : Bool) → over ≡ true → (b && not over) ≡ false
and_over true over e = rw e refl
and_over false over e = refl

same_silent : (b : Bool) (c : Connection) (s : Stream) (x : Joined) → b ≡ true → c.over ≡ true → IsSilent (cond b (c, s, None) x)
same_silent true c s x e h = record { over = h; none = refl }
same_silent false c s x e h = absurd (false≢true e)

abandoned_over : (b : Bool) (c : Connection) (s t : Stream) → c.over ≡ true → (cond {A = Connection × Stream} b (c, s) (without c s, t)).0.over ≡ true
abandoned_over true c s t e = e
abandoned_over false c s t e = without_over c s ∙ e

call_silent : (e : Event) (c : Connection) (s : Stream) → c.over ≡ true → IsSilent (called c s e)
call_silent (Came bytes fin) c s o = record { over = o; none = refl }
call_silent (Told k) c s o = same_silent c.over c s _ o o
call_silent Interim c s o = same_silent c.over c s _ o o
call_silent Tunnelled c s o = record { over = o; none = refl }
call_silent Reset c s o = cond_silent (is_critical s && not c.over) _ _ (and_over (is_critical s) c.over o) (cond_silent (is_forbidden c.endpoint s && not c.over) _ _ (and_over (is_forbidden c.endpoint s) c.over o) (record { over = without_over c s ∙ o; none = no_answer c.endpoint.side (has_no_headers s) c.over o }))
call_silent Overflowed c s o = same_silent c.over c s _ o o
call_silent Abandoned c s o = record { over = abandoned_over (is_critical s) c s _ o; none = refl }

pub call_over : (e : Event) (c : Connection) (s : Stream) → c.over ≡ true → (called c s e).0.over ≡ true
call_over e c s o = (call_silent e c s o).over

-- nothing is found by an event, and the connection stays over
record IsQuiet (x : Outcome) : Type 0 where
  none : x.seen ≡ []
  over : x.connection.over ≡ true

quiet_read : (fin : Bool) (left : List ℕ) (x : Joined) → IsSilent x → IsQuiet (reads_on fin left x)
quiet_read fin left x h = record {
  none =
      ap (λ (o : Option Fault). answered o ++ (read fin x.0 x.1 left).seen) h.none
      ∙ ap (λ (y : StreamRun). y.seen) (over_read fin x.0 x.1 left h.over);
  over = ap (λ (y : StreamRun). y.connection.over) (over_read fin x.0 x.1 left h.over) ∙ h.over;
}

event_quiet : (e : Event) (c : Connection) (h : Held) → c.over ≡ true → IsQuiet (happens c h e)
event_quiet e c h o = quiet_read (ends h e) (unread h e) (called c h.stream e) (call_silent e c h.stream o)

pub event_over : (e : Event) (c : Connection) (h : Held) → c.over ≡ true → (happens c h e).connection.over ≡ true
event_over e c h o = (event_quiet e c h o).over

-- ---- the whole connection

pub accepted_over : (side : Side) (c : Connection) (n : ℕ) → (with_stream side c n).over ≡ c.over
accepted_over Client c n = refl
accepted_over Server c n = begun (eqb (n % 4) 0)
  where
    begun : (b : Bool) → (cond b (record c { begun = with_request c.begun (n / 4) }) c).over ≡ c.over
    begun true = refl
    begun false = refl

pub stopped_over : (b over : Bool) (c d : Connection) (f : Option Fault) → over ≡ true → (cond {A = Connection × Option Fault} (b && not over) (d, f) (c, None)).0 ≡ c
stopped_over true over c d f e = rw e refl
stopped_over false over c d f e = refl

pub next_over : (a : Step) (x : State) → x.connection.over ≡ true → (next x a).connection.over ≡ true
next_over (Accepted n) x o = accepted_over x.connection.endpoint.side x.connection n ∙ o
next_over (Stopped p) x o = ap (λ (c : Connection). c.over) (stopped_over (is_for_critical p) x.connection.over x.connection _ _ o) ∙ o
next_over (Datagram bytes) x o = datagram_over x.connection bytes o
next_over (On n e) x o = (event_quiet e x.connection (x.streams n) o).over

none_found : (a : Step) (x : State) → x.connection.over ≡ true → found_by x a ≡ []
none_found (Accepted n) x o = refl
none_found (Stopped p) x o = refl
none_found (Datagram bytes) x o = refl
none_found (On n e) x o = ap (λ (l : List Seen). marked n l) (event_quiet e x.connection (x.streams n) o).none

pub after_over : (steps : Transcript) (x : State) → x.connection.over ≡ true → (after x steps).connection.over ≡ true
after_over [] x o = o
after_over (a ∷ steps) x o = after_over steps (next x a) (next_over a x o)

pub nothing_seen : (steps : Transcript) (x : State) → x.connection.over ≡ true → seen_in x steps ≡ []
nothing_seen [] x o = refl
nothing_seen (a ∷ steps) x o = ap (λ (l : List (ℕ × Seen)). l ++ seen_in (next x a) steps) (none_found a x o) ∙ nothing_seen steps (next x a) (next_over a x o)

pub seen_before : (first rest : Transcript) (x : State) → (after x first).connection.over ≡ true → seen_in x (first ++ rest) ≡ seen_in x first
seen_before [] rest x o = nothing_seen rest x o
seen_before (a ∷ first) rest x o = ap (λ (l : List (ℕ × Seen)). found_by x a ++ l) (seen_before first rest (next x a) o)

-- it went on before each step
pub before_step : (a : Step) (x : State) → (next x a).connection.over ≡ false → x.connection.over ≡ false
before_step a x e = elim (cases_Bool x.connection.over) [
  | inl over ↦ absurd (false≢true (sym e ∙ next_over a x over))
  | inr intact ↦ intact
]

pub before_steps : (steps : Transcript) (x : State) → (after x steps).connection.over ≡ false → x.connection.over ≡ false
before_steps steps x e = elim (cases_Bool x.connection.over) [
  | inl over ↦ absurd (false≢true (sym e ∙ after_over steps x over))
  | inr intact ↦ intact
]

pub seen_append : (first rest : Transcript) (x : State) → seen_in x (first ++ rest) ≡ seen_in x first ++ seen_in (after x first) rest
seen_append [] rest x = refl
seen_append (a ∷ first) rest x =
    ap (λ (l : List (ℕ × Seen)). found_by x a ++ l) (seen_append first rest (next x a))
    ∙ sym (append_assoc (found_by x a) (seen_in (next x a) first) (seen_in (after (next x a) first) rest))
