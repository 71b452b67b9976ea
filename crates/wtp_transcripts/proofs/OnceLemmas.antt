-- The events of one stream, as if all of its bytes came at once.
use Rattle.std.proofs.Common.{◌≡◌, ℕ, ◌+◌, ◌<◌, ◌||◌, Bool, true, false, cond, List, [], ◌∷◌, ◌++◌, Option, Some, None, Result, Ok, Err, refl, sym, ap, subst, ◌∙◌, append_assoc, arith, inl, inr, ◌⊎◌}
use Rattle.std.proofs.lemmas.Bool.{cases_Bool, cases_lt, lt-ltb, le-ltb, false≢true}
use Rattle.std.proofs.lemmas.List.{append-nil}
use Rattle.wtp_frames.specs.declared.fault.Fault.{Fault as StreamFault}
use Rattle.wtp_frames.specs.declared.fault.Fault.TheVariants as stream
use Rattle.wtp_connection.specs.Opening.{over_by}
use Rattle.wtp_connection.specs.declared.connection.Connection.{Connection}
use Rattle.wtp_connection.specs.declared.connection.Known.{Known}
use Rattle.wtp_connection.specs.declared.connection.Known.TheVariants as known
use Rattle.wtp_connection.specs.declared.fault.Fault.TheVariants as fault
use Rattle.wtp_connection.specs.declared.stream.Stream.{Stream}
use Rattle.wtp_connection.specs.declared.stream.Stream.TheVariants.{Joining, Waiting, Session, Over, Incomplete}
use Rattle.wtp_connection.specs.Streams.{closed_by, Seen, StreamRun, rests, followed, all_given, bytes_seen, run_stream, by_fault, end_of, ending, ended, Joined, refuses, settles, freed, joins_open, joins}
use Rattle.wtp_connection.proofs.StreamLemmas.{over_given, over_run}
use Rattle.wtp_transcripts.specs.Transcript.{read, Held, Event, Came, Told, Interim, Tunnelled, Reset, Overflowed, Abandoned, Outcome, outcome_of, after_seen, answered, reads_on, happens, alone, bytes_in, end_in, last_said, said, at_once, IsToJoin, IsRead, IsStill}
use Rattle.wtp_transcripts.proofs.CutLemmas.{read_cut, run_still}
use Rattle.wtp_transcripts.proofs.OverLemmas.{over_read, event_over}
use Rattle.wtp_transcripts.proofs.TranscriptLemmas.{and_then}
use Rattle.wtp_transcripts.proofs.WaitLemmas.{keeps_waiting}

-- ---- a stream is read again

-- after its end nothing is found
over_none : (c : Connection) → ended (run_stream c Over []) ≡ rests c Over []
over_none c = ap (λ (x : StreamRun). ended x) (over_given c []) ∙ (elim c.over as (λ b. cond b (all_given c Over []) (all_given c Over []) ≡ all_given c Over []) [ true ↦ refl | false ↦ refl ])

incomplete_none : (c : Connection) → ended (run_stream c Incomplete []) ≡ rests c Incomplete []
incomplete_none c = elim (cases_Bool c.over) [
  | inl over ↦ ap (λ (x : StreamRun). ended x) (over_run c Incomplete [] over) ∙ rw over refl
  | inr intact ↦ rw intact refl
]

over_by_none : (f : StreamFault) (c : Connection) → ended (run_stream c (over_by f) []) ≡ rests c (over_by f) []
over_by_none stream.RequestIncomplete c = incomplete_none c
over_by_none other c = over_none c

fault_none : (o : Result (Unit {0}) StreamFault) (c : Connection) → ended (run_stream (by_fault c o).connection (by_fault c o).stream (by_fault c o).left) ≡ rests (by_fault c o).connection (by_fault c o).stream (by_fault c o).left
fault_none (Ok u) c = over_none c
fault_none (Err f) c = over_by_none f (closed_by c (fault.Stream f))

by_over : (b : Bool) (x y : StreamRun) → b ≡ true → cond b x y ≡ x
by_over true x y e = refl
by_over false x y e = absurd (false≢true e)

by_intact : (b : Bool) (x y : StreamRun) → b ≡ false → cond b x y ≡ y
by_intact true x y e = absurd (false≢true (sym e))
by_intact false x y e = refl

-- a stream that rests, and has no end yet
resting : (c : Connection) (s : Stream) (l : List ℕ) → c.over ≡ false → run_stream c s l ≡ rests c s l → ending c s l ≡ rests c s l → ended (run_stream c s l) ≡ rests c s l
resting c s l i e f = ap (λ (x : StreamRun). ended x) e ∙ by_intact c.over (rests c s l) (followed [] (ending c s l)) i ∙ ap (λ (x : StreamRun). followed [] x) f

ending_none : (s : Stream) (l : List ℕ) (c : Connection) → c.over ≡ false → run_stream c s l ≡ rests c s l → ended (run_stream (ending c s l).connection (ending c s l).stream (ending c s l).left) ≡ rests (ending c s l).connection (ending c s l).stream (ending c s l).left
ending_none (Joining n) l c i e = resting c (Joining n) l i e refl
ending_none (Waiting n) l c i e = resting c (Waiting n) l i e refl
ending_none Incomplete l c i e = incomplete_none c
ending_none Over l c i e = over_none c
ending_none other l c i e = fault_none (end_of c other l) c

over_still : (c : Connection) (s : Stream) (l : List ℕ) → c.over ≡ true → run_stream c s l ≡ rests c s l → ended (run_stream c s l) ≡ rests c s l
over_still c s l o e = ap (λ (x : StreamRun). ended x) e ∙ rw o refl

-- what is read once is not found again
again : (x : StreamRun) → run_stream x.connection x.stream x.left ≡ rests x.connection x.stream x.left → ended (run_stream (ended x).connection (ended x).stream (ended x).left) ≡ rests (ended x).connection (ended x).stream (ended x).left
again x e = elim (cases_Bool x.connection.over) [
  | inl over ↦
      let same : ended x ≡ x = by_over x.connection.over x (followed x.seen (ending x.connection x.stream x.left)) over in
      subst (λ (y : StreamRun). ended (run_stream y.connection y.stream y.left) ≡ rests y.connection y.stream y.left) (sym same) (over_still x.connection x.stream x.left over e)
  | inr intact ↦
      let same : ended x ≡ followed x.seen (ending x.connection x.stream x.left) = by_intact x.connection.over x (followed x.seen (ending x.connection x.stream x.left)) intact in
      subst (λ (y : StreamRun). ended (run_stream y.connection y.stream y.left) ≡ rests y.connection y.stream y.left) (sym same) (ending_none x.stream x.left x.connection intact e)
]

pub read_still : (fin : Bool) (c : Connection) (s : Stream) (l : List ℕ) → read fin (read fin c s l).connection (read fin c s l).stream (read fin c s l).left ≡ rests (read fin c s l).connection (read fin c s l).stream (read fin c s l).left
read_still true c s l = again (run_stream c s l) (run_still c s l)
read_still false c s l = run_still c s l

-- more bytes, none of which come after the end
none_after : (xs : List Seen) (x : StreamRun) → x ≡ followed x.seen (rests x.connection x.stream x.left)
none_after xs x = ap (λ (l : List Seen). record { seen = l; connection = x.connection; stream = x.stream; left = x.left }) (sym (append-nil x.seen))

read_more : (old fin : Bool) (c : Connection) (s : Stream) (l b : List ℕ) → (old ≡ true → b ≡ []) → read (old || fin) c s (l ++ b) ≡ followed (read old c s l).seen (read (old || fin) (read old c s l).connection (read old c s l).stream ((read old c s l).left ++ b))
read_more false fin c s l b h = read_cut fin c s l b
read_more true fin c s l b h =
    let x : StreamRun = read true c s l in
    let none : b ≡ [] = h refl in
    ap (λ (k : List ℕ). read true c s k) (ap (λ (k : List ℕ). l ++ k) none ∙ append-nil l)
    ∙ none_after [] x
    ∙ ap (λ (y : StreamRun). followed x.seen y) (sym (read_still true c s l))
    ∙ ap (λ (k : List ℕ). followed x.seen (read true x.connection x.stream k)) (sym (ap (λ (k : List ℕ). x.left ++ k) none ∙ append-nil x.left))

pub after_twice : (xs ys : List Seen) (x : Outcome) → after_seen (xs ++ ys) x ≡ after_seen xs (after_seen ys x)
after_twice xs ys x = ap (λ (l : List Seen). record { seen = l; connection = x.connection; held = x.held }) (append_assoc xs ys x.seen)

-- after a call
reads_more : (old fin : Bool) (l b : List ℕ) (x : Joined) → (old ≡ true → b ≡ []) → reads_on (old || fin) (l ++ b) x ≡ and_then (reads_on old l x) (Came b fin)
reads_more old fin l b x h =
    let y : StreamRun = read old x.0 x.1 l in
    ap (λ (z : StreamRun). after_seen (answered x.2) (outcome_of (old || fin) z)) (read_more old fin x.0 x.1 l b h)
    ∙ sym (after_twice (answered x.2) y.seen (outcome_of (old || fin) (read (old || fin) y.connection y.stream (y.left ++ b))))

pub or_twice : (a b c : Bool) → ((a || b) || c) ≡ (a || (b || c))
or_twice true b c = refl
or_twice false b c = refl

-- ---- bytes come again

-- what all bytes so far give
abbrev pub came : Connection → Held → List ℕ → Bool → Outcome
came c h bytes fin = happens c h (Came bytes fin)

pub came_more : (c : Connection) (h : Held) (a b : List ℕ) (old fin : Bool) → ((h.fin || old) ≡ true → b ≡ []) → came c h (a ++ b) (old || fin) ≡ and_then (came c h a old) (Came b fin)
came_more c h a b old fin e =
    ap (λ (k : Bool). reads_on k (h.left ++ (a ++ b)) (c, h.stream, None)) (sym (or_twice h.fin old fin))
    ∙ ap (λ (l : List ℕ). reads_on ((h.fin || old) || fin) l (c, h.stream, None)) (sym (append_assoc h.left a b))
    ∙ reads_more (h.fin || old) fin (h.left ++ a) b (c, h.stream, None) e

-- ---- a stream that is to be joined

keeps_joining : (fin : Bool) (c : Connection) (s : ℕ) (bytes : List ℕ) → c.over ≡ false → read fin c (Joining s) bytes ≡ rests c (Joining s) bytes
keeps_joining true c s bytes e = rw e refl
keeps_joining false c s bytes e = rw e refl

-- it keeps its bytes, and gives nothing
keeps : (fin : Bool) (s : Stream) (c : Connection) (bytes : List ℕ) → IsToJoin s → c.over ≡ false → read fin c s bytes ≡ rests c s bytes
keeps fin (Joining n) c bytes j e = keeps_joining fin c n bytes e
keeps fin (Waiting n) c bytes j e = keeps_waiting fin c n bytes e
keeps fin other c bytes j e = absurd j

-- bytes that come before something is said of the session may come after it
said_before : (c : Connection) (h : Held) (b : List ℕ) (fin : Bool) (k : Known) → IsToJoin h.stream → c.over ≡ false → (h.fin ≡ true → b ≡ []) → and_then (happens c h (Told k)) (Came b fin) ≡ and_then (happens c h (Came b fin)) (Told k)
said_before c h b fin k j i e =
    sym (reads_more h.fin fin h.left b (joins c h.stream k) e)
    ∙ ap (λ (x : StreamRun). and_then (outcome_of (h.fin || fin) x) (Told k)) (sym (keeps (h.fin || fin) h.stream c (h.left ++ b) j i))

-- ---- something is said twice

-- a stream that is not to be joined any more
abbrev IsJoined : Stream → Type 0
IsJoined (Session s) = Unit {0}
IsJoined Over = Unit {0}
IsJoined other = ⊥

-- it waits, and what is said then is as if it were said at first; or it is joined, or over
record StillWaits (c : Connection) (s : Stream) (k j : Known) : Type 0 where
  id : ℕ
  connection : Connection
  waits : joins c s k ≡ (connection, Waiting id, None)
  intact : connection.over ≡ false
  same : joins connection (Waiting id) j ≡ joins c s j

abbrev Retold : Connection → Stream → Known → Known → Type 0
Retold c s k j = StillWaits c s k j ⊎ IsJoined (joins c s k).1

intact_joins : (c : Connection) (s : Stream) (k : Known) → c.over ≡ false → joins c s k ≡ joins_open c s k
intact_joins c s k e = rw e refl

freed_again : (c : Connection) → freed (record c { waiting = c.waiting + 1 }) ≡ c
freed_again c = ap (λ (n : ℕ). record c { waiting = n }) (omega arith)

-- the session is to come, and there is a place
placed : (j : Known) (c : Connection) (n : ℕ) → c.over ≡ false → c.waiting < 16 → joins (record c { waiting = c.waiting + 1 }) (Waiting n) j ≡ joins c (Joining n) j
placed known.Coming c n i l = intact_joins (record c { waiting = c.waiting + 1 }) (Waiting n) known.Coming i ∙ sym (intact_joins c (Joining n) known.Coming i ∙ rw (lt-ltb c.waiting 16 l) refl)
placed k c n i l = intact_joins (record c { waiting = c.waiting + 1 }) (Waiting n) k i ∙ ap (λ (d : Connection). settles d n k) (freed_again c) ∙ sym (intact_joins c (Joining n) k i)

retold_joining : (k j : Known) (c : Connection) (n : ℕ) → c.over ≡ false → Retold c (Joining n) k j
retold_joining known.Coming j c n i = elim (cases_lt c.waiting 16) [
  | inl less ↦ inl (record {
    id = n;
    connection = record c { waiting = c.waiting + 1 };
    waits = intact_joins c (Joining n) known.Coming i ∙ rw (lt-ltb c.waiting 16 less) refl;
    intact = i;
    same = placed j c n i less;
  })
  | inr full ↦
      let same : joins c (Joining n) known.Coming ≡ refuses c stream.BufferedStreamRejected = intact_joins c (Joining n) known.Coming i ∙ rw (le-ltb c.waiting 16 full) refl in
      inr (subst (λ (x : Joined). IsJoined x.1) (sym same) tt)
]
retold_joining known.Open j c n i = inr (subst (λ (x : Joined). IsJoined x.1) (sym (intact_joins c (Joining n) known.Open i)) tt)
retold_joining known.Over j c n i = inr (subst (λ (x : Joined). IsJoined x.1) (sym (intact_joins c (Joining n) known.Over i)) tt)
retold_joining known.Refused j c n i = inr (subst (λ (x : Joined). IsJoined x.1) (sym (intact_joins c (Joining n) known.Refused i)) tt)
retold_joining known.Other j c n i = inr (subst (λ (x : Joined). IsJoined x.1) (sym (intact_joins c (Joining n) known.Other i)) tt)
retold_joining known.Impossible j c n i = inr (subst (λ (x : Joined). IsJoined x.1) (sym (intact_joins c (Joining n) known.Impossible i)) tt)

retold_waiting : (k j : Known) (c : Connection) (n : ℕ) → c.over ≡ false → Retold c (Waiting n) k j
retold_waiting known.Coming j c n i = inl (record { id = n; connection = c; waits = intact_joins c (Waiting n) known.Coming i; intact = i; same = refl })
retold_waiting known.Open j c n i = inr (subst (λ (x : Joined). IsJoined x.1) (sym (intact_joins c (Waiting n) known.Open i)) tt)
retold_waiting known.Over j c n i = inr (subst (λ (x : Joined). IsJoined x.1) (sym (intact_joins c (Waiting n) known.Over i)) tt)
retold_waiting known.Refused j c n i = inr (subst (λ (x : Joined). IsJoined x.1) (sym (intact_joins c (Waiting n) known.Refused i)) tt)
retold_waiting known.Other j c n i = inr (subst (λ (x : Joined). IsJoined x.1) (sym (intact_joins c (Waiting n) known.Other i)) tt)
retold_waiting known.Impossible j c n i = inr (subst (λ (x : Joined). IsJoined x.1) (sym (intact_joins c (Waiting n) known.Impossible i)) tt)

retold : (s : Stream) (k j : Known) (c : Connection) → IsToJoin s → c.over ≡ false → Retold c s k j
retold (Joining n) k j c t i = retold_joining k j c n i
retold (Waiting n) k j c t i = retold_waiting k j c n i
retold other k j c t i = absurd t

-- a stream that was joined is not to be joined after it is read
session_run : (c : Connection) (n : ℕ) (l : List ℕ) → c.over ≡ false → run_stream c (Session n) l ≡ all_given c (Session n) (bytes_seen l)
session_run c n l e = rw e refl

session_end : (c : Connection) (n : ℕ) (l : List ℕ) → c.over ≡ false → (ended (run_stream c (Session n) l)).stream ≡ Over
session_end c n l e = ap (λ (x : StreamRun). (ended x).stream) (session_run c n l e) ∙ rw e refl

over_stream : (fin : Bool) (c : Connection) (l : List ℕ) → (read fin c Over l).stream ≡ Over
over_stream true c l = ap (λ (x : StreamRun). (ended x).stream) (over_given c l) ∙ (elim c.over as (λ b. (cond b (all_given c Over []) (all_given c Over [])).stream ≡ Over) [ true ↦ refl | false ↦ refl ])
over_stream false c l = ap (λ (x : StreamRun). x.stream) (over_given c l)

session_read : (fin : Bool) (c : Connection) (n : ℕ) (l : List ℕ) → c.over ≡ false → IsJoined (read fin c (Session n) l).stream
session_read true c n l e = subst (λ (u : Stream). IsJoined u) (sym (session_end c n l e)) tt
session_read false c n l e = subst (λ (x : StreamRun). IsJoined x.stream) (sym (session_run c n l e)) tt

joined_read : (fin : Bool) (s : Stream) (c : Connection) (l : List ℕ) → IsJoined s → IsJoined (read fin c s l).stream
joined_read fin (Session n) c l j = elim (cases_Bool c.over) [
  | inl over ↦ subst (λ (x : StreamRun). IsJoined x.stream) (sym (over_read fin c (Session n) l over)) tt
  | inr intact ↦ session_read fin c n l intact
]
joined_read fin Over c l j = subst (λ (u : Stream). IsJoined u) (sym (over_stream fin c l)) tt
joined_read fin other c l j = absurd j

not_both : (s : Stream) → IsJoined s → IsToJoin s → ⊥
not_both (Session n) j t = t
not_both Over j t = t
not_both other j t = j

told_again : (c : Connection) (h : Held) (k j : Known) → IsToJoin h.stream → c.over ≡ false → IsToJoin (happens c h (Told k)).held.stream → and_then (happens c h (Told k)) (Told j) ≡ happens c h (Told j)
told_again c h k j t i after = elim (retold h.stream k j c t i) [
  | inl w ↦
      ap (λ (x : Joined). and_then (reads_on h.fin h.left x) (Told j)) w.waits
      ∙ ap (λ (x : StreamRun). and_then (outcome_of h.fin x) (Told j)) (keeps_waiting h.fin w.connection w.id h.left w.intact)
      ∙ ap (λ (x : Joined). reads_on h.fin h.left x) w.same
  | inr gone ↦ absurd (not_both (happens c h (Told k)).held.stream (joined_read h.fin (joins c h.stream k).1 (joins c h.stream k).0 h.left gone) after)
]

-- ---- all events

-- all bytes so far, and then what was said last
abbrev canon : Connection → Held → List ℕ → Bool → Option Known → Outcome
canon c h a f None = came c h a f
canon c h a f (Some k) = and_then (came c h a f) (Told k)

abbrev IsValid : Connection → Held → List ℕ → Bool → Option Known → Type 0
IsValid c h a f None = Unit {0}
IsValid c h a f (Some k) = IsToJoin (came c h a f).held.stream

canon_fin : (c : Connection) (h : Held) (a : List ℕ) (f : Bool) (o : Option Known) → (canon c h a f o).held.fin ≡ (h.fin || f)
canon_fin c h a f None = refl
canon_fin c h a f (Some k) = refl

alone_over : (events : List Event) (c : Connection) (h : Held) → c.over ≡ true → (alone c h events).connection.over ≡ true
alone_over [] c h o = o
alone_over (e ∷ events) c h o = alone_over events (happens c h e).connection (happens c h e).held (event_over e c h o)

pub alone_from : (events : List Event) (c : Connection) (h : Held) → (alone c h events).connection.over ≡ false → c.over ≡ false
alone_from events c h e = elim (cases_Bool c.over) [
  | inl over ↦ absurd (false≢true (sym e ∙ alone_over events c h over))
  | inr intact ↦ intact
]

event_from : (e : Event) (c : Connection) (h : Held) → (happens c h e).connection.over ≡ false → c.over ≡ false
event_from e c h o = elim (cases_Bool c.over) [
  | inl over ↦ absurd (false≢true (sym o ∙ event_over e c h over))
  | inr intact ↦ intact
]

canon_from : (c : Connection) (h : Held) (a : List ℕ) (f : Bool) (o : Option Known) → (canon c h a f o).connection.over ≡ false → (came c h a f).connection.over ≡ false
canon_from c h a f None e = e
canon_from c h a f (Some k) e = event_from (Told k) (came c h a f).connection (came c h a f).held e

two_after : (x : Outcome) (d e : Event) → and_then (and_then x d) e ≡ after_seen x.seen (and_then (happens x.connection x.held d) e)
two_after x d e =
    let y : Outcome = happens x.connection x.held d in
    after_twice x.seen y.seen (happens y.connection y.held e)

step_came : (o : Option Known) (c : Connection) (h : Held) (a b : List ℕ) (f fin : Bool) → IsValid c h a f o → (came c h a f).connection.over ≡ false → ((h.fin || f) ≡ true → b ≡ []) → and_then (canon c h a f o) (Came b fin) ≡ canon c h (a ++ b) (f || fin) o
step_came None c h a b f fin v i e = sym (came_more c h a b f fin e)
step_came (Some k) c h a b f fin v i e =
    let x : Outcome = came c h a f in
    two_after x (Told k) (Came b fin)
    ∙ ap (λ (y : Outcome). after_seen x.seen y) (said_before x.connection x.held b fin k v i e)
    ∙ sym (two_after x (Came b fin) (Told k))
    ∙ ap (λ (y : Outcome). and_then y (Told k)) (sym (came_more c h a b f fin e))

step_told : (o : Option Known) (c : Connection) (h : Held) (a : List ℕ) (f : Bool) (j : Known) → IsValid c h a f o → (came c h a f).connection.over ≡ false → IsToJoin (canon c h a f o).held.stream → and_then (canon c h a f o) (Told j) ≡ canon c h a f (Some j)
step_told None c h a f j v i t = refl
step_told (Some k) c h a f j v i t =
    let x : Outcome = came c h a f in
    two_after x (Told k) (Told j)
    ∙ ap (λ (y : Outcome). after_seen x.seen y) (told_again x.connection x.held k j v i t)

valid_came : (o : Option Known) (c : Connection) (h : Held) (a b : List ℕ) (f fin : Bool) → IsValid c h a f o → (came c h a f).connection.over ≡ false → ((h.fin || f) ≡ true → b ≡ []) → IsValid c h (a ++ b) (f || fin) o
valid_came None c h a b f fin v i e = tt
valid_came (Some k) c h a b f fin v i e =
    let x : Outcome = came c h a f in
    subst (λ (y : Outcome). IsToJoin y.held.stream) (sym (came_more c h a b f fin e)) (
    subst (λ (y : StreamRun). IsToJoin y.stream) (sym (keeps (x.held.fin || fin) x.held.stream x.connection (x.held.left ++ b) v i)) v)

valid_told : (o : Option Known) (c : Connection) (h : Held) (a : List ℕ) (f : Bool) (j : Known) → IsValid c h a f o → IsToJoin (canon c h a f o).held.stream → IsValid c h a f (Some j)
valid_told None c h a f j v t = t
valid_told (Some k) c h a f j v t = v

pub or_none : (f : Bool) → (f || false) ≡ f
or_none true = refl
or_none false = refl

outcome_alone : (x : Outcome) → after_seen x.seen (record { seen = []; connection = x.connection; held = x.held }) ≡ x
outcome_alone x = ap (λ (l : List Seen). record { seen = l; connection = x.connection; held = x.held }) (append-nil x.seen)

-- after the end no bytes come
ends_once : (events : List Event) (c : Connection) (h : Held) → IsRead c h events → h.fin ≡ true → bytes_in events ≡ []
ends_once [] c h r e = refl
ends_once (Came b fin ∷ events) c h r e =
    ap (λ (l : List ℕ). l ++ bytes_in events) (r.0 e)
    ∙ ends_once events (happens c h (Came b fin)).connection (happens c h (Came b fin)).held r.1 (ap (λ (k : Bool). k || fin) e)
ends_once (Told k ∷ events) c h r e = ends_once events (happens c h (Told k)).connection (happens c h (Told k)).held r.1 e
ends_once (Interim ∷ events) c h r e = absurd r
ends_once (Tunnelled ∷ events) c h r e = absurd r
ends_once (Reset ∷ events) c h r e = absurd r
ends_once (Overflowed ∷ events) c h r e = absurd r
ends_once (Abandoned ∷ events) c h r e = absurd r

-- no error ends the connection, as the events come or where all bytes come at once
abbrev GoesOn : Connection → Held → List ℕ → Bool → Outcome → List Event → Type 0
GoesOn c h a f y events =
    ((alone y.connection y.held events).connection.over ≡ false)
    ⊎ ((came c h (a ++ bytes_in events) (f || end_in events)).connection.over ≡ false)

goes_from : (c : Connection) (h : Held) (a : List ℕ) (f : Bool) (o : Option Known) (y : Outcome) (events : List Event) → y ≡ canon c h a f o → IsRead y.connection y.held events → GoesOn c h a f y events → (came c h a f).connection.over ≡ false
goes_from c h a f o y events e r (inl i) = canon_from c h a f o (subst (λ (z : Outcome). z.connection.over ≡ false) e (alone_from events y.connection y.held i))
goes_from c h a f o y events e r (inr i) =
    let end : (h.fin || f) ≡ true → bytes_in events ≡ [] = λ is. ends_once events y.connection y.held r (ap (λ (z : Outcome). z.held.fin) e ∙ canon_fin c h a f o ∙ is) in
    event_from (Came (bytes_in events) (end_in events)) (came c h a f).connection (came c h a f).held (subst (λ (z : Outcome). z.connection.over ≡ false) (came_more c h a (bytes_in events) f (end_in events) end) i)

goes_came : (c : Connection) (h : Held) (a b : List ℕ) (f fin : Bool) (y : Outcome) (events : List Event) → GoesOn c h a f y (Came b fin ∷ events) → GoesOn c h (a ++ b) (f || fin) (and_then y (Came b fin)) events
goes_came c h a b f fin y events (inl i) = inl i
goes_came c h a b f fin y events (inr i) = inr (
    ap (λ (l : List ℕ). (came c h l ((f || fin) || end_in events)).connection.over) (append_assoc a b (bytes_in events))
    ∙ ap (λ (k : Bool). (came c h (a ++ (b ++ bytes_in events)) k).connection.over) (or_twice f fin (end_in events))
    ∙ i)

goes_told : (c : Connection) (h : Held) (a : List ℕ) (f : Bool) (j : Known) (y : Outcome) (events : List Event) → GoesOn c h a f y (Told j ∷ events) → GoesOn c h a f (and_then y (Told j)) events
goes_told c h a f j y events (inl i) = inl i
goes_told c h a f j y events (inr i) = inr i

all_at_once : (events : List Event) (c : Connection) (h : Held) (a : List ℕ) (f : Bool) (o : Option Known) (y : Outcome) → y ≡ canon c h a f o → IsValid c h a f o → IsRead y.connection y.held events → GoesOn c h a f y events → after_seen y.seen (alone y.connection y.held events) ≡ canon c h (a ++ bytes_in events) (f || end_in events) (last_said o events)
all_at_once [] c h a f o y e v r i =
    outcome_alone y
    ∙ e
    ∙ ap (λ (l : List ℕ). canon c h l f o) (sym (append-nil a))
    ∙ ap (λ (b : Bool). canon c h (a ++ []) b o) (sym (or_none f))
all_at_once (Came b fin ∷ events) c h a f o y e v r i =
    let w : Outcome = happens y.connection y.held (Came b fin) in
    let open_x : (came c h a f).connection.over ≡ false = goes_from c h a f o y (Came b fin ∷ events) e r i in
    let end : (h.fin || f) ≡ true → b ≡ [] = λ is. r.0 (ap (λ (z : Outcome). z.held.fin) e ∙ canon_fin c h a f o ∙ is) in
    sym (after_twice y.seen w.seen (alone w.connection w.held events))
    ∙ all_at_once events c h (a ++ b) (f || fin) o (and_then y (Came b fin)) (ap (λ (z : Outcome). and_then z (Came b fin)) e ∙ step_came o c h a b f fin v open_x end) (valid_came o c h a b f fin v open_x end) r.1 (goes_came c h a b f fin y events i)
    ∙ ap (λ (l : List ℕ). canon c h l ((f || fin) || end_in events) (last_said o events)) (append_assoc a b (bytes_in events))
    ∙ ap (λ (k : Bool). canon c h (a ++ (b ++ bytes_in events)) k (last_said o events)) (or_twice f fin (end_in events))
all_at_once (Told j ∷ events) c h a f o y e v r i =
    let w : Outcome = happens y.connection y.held (Told j) in
    let open_x : (came c h a f).connection.over ≡ false = goes_from c h a f o y (Told j ∷ events) e r i in
    let joining : IsToJoin (canon c h a f o).held.stream = subst (λ (z : Outcome). IsToJoin z.held.stream) e r.0 in
    sym (after_twice y.seen w.seen (alone w.connection w.held events))
    ∙ all_at_once events c h a f (Some j) (and_then y (Told j)) (ap (λ (z : Outcome). and_then z (Told j)) e ∙ step_told o c h a f j v open_x joining) (valid_told o c h a f j v joining) r.1 (goes_told c h a f j y events i)
all_at_once (Interim ∷ events) c h a f o y e v r i = absurd r
all_at_once (Tunnelled ∷ events) c h a f o y e v r i = absurd r
all_at_once (Reset ∷ events) c h a f o y e v r i = absurd r
all_at_once (Overflowed ∷ events) c h a f o y e v r i = absurd r
all_at_once (Abandoned ∷ events) c h a f o y e v r i = absurd r

canon_is : (o : Option Known) (c : Connection) (h : Held) (a : List ℕ) (f : Bool) → alone c h (Came a f ∷ said o) ≡ canon c h a f o
canon_is None c h a f = outcome_alone (came c h a f)
canon_is (Some k) c h a f =
    let x : Outcome = came c h a f in
    ap (λ (z : Outcome). after_seen x.seen z) (outcome_alone (happens x.connection x.held (Told k)))

nothing_came : (c : Connection) (h : Held) → IsStill c h → record { seen = []; connection = c; held = h } ≡ came c h [] false
nothing_came c h s = sym (
    ap (λ (k : Bool). outcome_of (k || false) (read (k || false) c h.stream (h.left ++ []))) s.unended
    ∙ ap (λ (l : List ℕ). outcome_of false (run_stream c h.stream l)) (append-nil h.left)
    ∙ ap (λ (x : StreamRun). outcome_of false x) s.still
    ∙ ap (λ (k : Bool). held_with k) (sym s.unended))
  where
    held_with : Bool → Outcome
    held_with k = record { seen = []; connection = c; held = record { stream = h.stream; left = h.left; fin = k } }

pub once : (c : Connection) (h : Held) (events : List Event) → IsStill c h → IsRead c h events → (alone c h events).connection.over ≡ false → alone c h events ≡ alone c h (at_once events)
once c h events s r i =
    all_at_once events c h [] false None (record { seen = []; connection = c; held = h }) (nothing_came c h s) tt r (inl i)
    ∙ sym (canon_is (last_said None events) c h (bytes_in events) (end_in events))

-- the same, where no error ends the connection if all bytes come at once
pub once_back : (c : Connection) (h : Held) (events : List Event) → IsStill c h → IsRead c h events → (alone c h (at_once events)).connection.over ≡ false → alone c h events ≡ alone c h (at_once events)
once_back c h events s r i =
    let is : alone c h (at_once events) ≡ canon c h (bytes_in events) (end_in events) (last_said None events) = canon_is (last_said None events) c h (bytes_in events) (end_in events) in
    let first : (came c h (bytes_in events) (end_in events)).connection.over ≡ false = canon_from c h (bytes_in events) (end_in events) (last_said None events) (subst (λ (z : Outcome). z.connection.over ≡ false) is i) in
    all_at_once events c h [] false None (record { seen = []; connection = c; held = h }) (nothing_came c h s) tt r (inr first)
    ∙ sym is
