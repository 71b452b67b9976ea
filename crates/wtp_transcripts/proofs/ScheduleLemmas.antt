-- Calls on many streams, one by one, in any order.
use Rattle.std.proofs.Common.{◌≡◌, ℕ, ◌&&◌, ◌||◌, not, Bool, true, false, cond, eqb, List, [], ◌∷◌, ◌++◌, Some, None, Ok, Err, refl, sym, ap, subst, ◌∙◌, append_assoc, inl, inr}
use Rattle.std.proofs.lemmas.Bool.{cases_Bool, eqb-true, false≢true}
use Rattle.std.proofs.lemmas.List.{append-nil}
use Rattle.wtp_frames.specs.declared.fault.Fault.TheVariants as stream
use Rattle.wtp_connection.specs.declared.connection.Connection.{Connection}
use Rattle.wtp_connection.specs.declared.connection.Found.{Found}
use Rattle.wtp_connection.specs.declared.connection.Found.TheVariants as found
use Rattle.wtp_connection.specs.declared.fault.Fault.TheVariants as fault
use Rattle.wtp_connection.specs.declared.settings.PeerSettings.{PeerSettings}
use Rattle.wtp_connection.specs.declared.stream.Purpose.{Purpose}
use Rattle.wtp_connection.specs.declared.stream.Stream.{Stream}
use Rattle.wtp_connection.specs.declared.stream.Stream.TheVariants.{Waiting, Session}
use Rattle.wtp_connection.specs.Datagrams.{taken, after_taken}
use Rattle.wtp_connection.specs.Opening.{is_for_critical}
use Rattle.wtp_connection.specs.Receiving.{seen_of, rest_after, FoundIs, settings_of, settings_after}
use Rattle.wtp_connection.specs.Streams.{without_resumption, configured, accepts, closed_by, Seen, bytes_seen, StreamRun, rests, followed, run_stream, ended, Joined, stops}
use Rattle.wtp_connection.specs.Settings.{values_of, with_defaults}
use Rattle.wtp_connection.proofs.FinishLemmas.{ended_followed}
use Rattle.wtp_transcripts.specs.Transcript.{read, Held, called, end_seen, Table, with_held, is_opened as flag}
use Rattle.wtp_transcripts.specs.Calls.{Call, Arrived, Returned, Made, CallIs, CallStep, Accepts, Stops, Datagram, EarlyDataRefused, At, Leads, calls_on, AreReads, arrived, end_arrived, found_in, IsIdle}
use Rattle.wtp_transcripts.proofs.AlikeLemmas.{Goes, goes_same, closed_goes, RunsAlike, read_alike, opened_first, peer_flags, plain_agree}
use Rattle.wtp_transcripts.proofs.CallLemmas.{call_finds}
use Rattle.wtp_transcripts.proofs.DatagramLemmas.{datagram_over}
use Rattle.wtp_transcripts.proofs.IndependentLemmas.{call_alike, its_place, flags_open, Opens, accepted_opens, stopped_opens, datagram_opens}
use Rattle.wtp_transcripts.proofs.OnceLemmas.{or_twice, or_none}
use Rattle.wtp_transcripts.proofs.OverLemmas.{over_read, read_from, call_over, accepted_over, stopped_over}
use Rattle.wtp_transcripts.proofs.ShowLemmas.{has_broke, has_opening, opening_later, read_shows, read_hides}
use Rattle.wtp_transcripts.proofs.WaitLemmas.{held_at, held_other, keeps_waiting, open_gives}

-- ---- what any call does to the connection

-- what was opened stays so, and where the connection goes on it went on before
record Follows (c d : Connection) : Type 0 where
  endpoint : d.endpoint ≡ c.endpoint
  intact : d.over ≡ false → c.over ≡ false
  flags : d.over ≡ false → (p : Purpose) → flag d p ≡ false → flag c p ≡ false
  plain : c.resumed ≡ false → d.resumed ≡ false

read_endpoint : (fin : Bool) (s : Stream) (bytes : List ℕ) (c : Connection) → (read fin c s bytes).connection.endpoint ≡ c.endpoint
read_endpoint fin s bytes c = (read_alike fin s bytes c c refl refl (λ payload. refl) (λ p rest is. refl)).goes.endpoint

read_opened : (fin : Bool) (s : Stream) (bytes : List ℕ) (c : Connection) (p : Purpose) → flag c p ≡ true → flag (read fin c s bytes).connection p ≡ true
read_opened fin s bytes c p e = elim (cases_Bool (flag (read fin c s bytes).connection p)) [
  | inl is ↦ is
  | inr none ↦ absurd (false≢true (sym (flags_open c (read fin c s bytes).connection p ((read_alike fin s bytes c c refl refl (λ payload. refl) (λ q rest is. refl)).goes.flags p) none) ∙ e))
]

no_seen : (xs ys : List Seen) → xs ++ ys ≡ [] → ys ≡ []
no_seen [] ys e = e
no_seen (x ∷ xs) ys e = absurd (cc)

-- no call resumes a session
none_resumed : (x : Found) (c d : Connection) → settings_of d ≡ settings_after x c → c.resumed ≡ false → d.resumed ≡ false
none_resumed (found.Settings v start end) c d e plain = ap (λ (p : PeerSettings × Bool). p.1) e
none_resumed other c d e plain = ap (λ (p : PeerSettings × Bool). p.1) e ∙ plain

found_follows : (x : Found) (c d : Connection) (s t : Stream) (bytes : List ℕ) (fin : Bool) → FoundIs x c s bytes fin d t → settings_of d ≡ settings_after x c → Follows c d
found_follows x c d s t bytes fin is kept =
    let same : read fin c s bytes ≡ followed (seen_of x bytes) (read fin d t (rest_after x bytes)) = call_finds x fin c d s t bytes is in
    record {
      endpoint =
          sym (read_endpoint fin t (rest_after x bytes) d)
          ∙ ap (λ (y : StreamRun). y.connection.endpoint) (sym same)
          ∙ read_endpoint fin s bytes c;
      intact = λ o. its_over o same;
      flags = λ o p f. its_flags p f same;
      plain = none_resumed x c d kept;
    }
  where
    its_over : d.over ≡ false → read fin c s bytes ≡ followed (seen_of x bytes) (read fin d t (rest_after x bytes)) → c.over ≡ false
    its_over o same = elim (cases_Bool c.over) [
      | inr intact ↦ intact
      | inl over ↦
          let q : StreamRun = read fin d t (rest_after x bytes) in
          let nothing : (read fin d t (rest_after x bytes)).seen ≡ [] = no_seen (seen_of x bytes) (read fin d t (rest_after x bytes)).seen (ap (λ (y : StreamRun). y.seen) (sym same ∙ over_read fin c s bytes over)) in
          let over_then : (read fin d t (rest_after x bytes)).connection.over ≡ true = ap (λ (y : StreamRun). y.connection.over) (sym same ∙ over_read fin c s bytes over) ∙ over in
          absurd (false≢true (ap (λ (l : List Seen). has_broke l) (sym nothing) ∙ (read_shows fin t (rest_after x bytes) d).over over_then o))
    ]

    its_flags : (p : Purpose) → flag d p ≡ false → read fin c s bytes ≡ followed (seen_of x bytes) (read fin d t (rest_after x bytes)) → flag c p ≡ false
    its_flags p f same = elim (cases_Bool (flag c p)) [
      | inr none ↦ none
      | inl opened ↦
          let now : flag (read fin d t (rest_after x bytes)).connection p ≡ true = ap (λ (y : StreamRun). flag y.connection p) (sym same) ∙ read_opened fin s bytes c p opened in
          let shown : has_opening p (read fin c s bytes).seen ≡ true = ap (λ (y : StreamRun). has_opening p y.seen) same ∙ opening_later p (seen_of x bytes) (read fin d t (rest_after x bytes)).seen ((read_shows fin t (rest_after x bytes) d).flags p now f) in
          absurd (false≢true (sym ((read_hides fin s bytes c).none p opened) ∙ shown))
    ]

goes_follows : (c d : Connection) → Goes c c d d → (c.over ≡ true → d.over ≡ true) → Follows c d
goes_follows c d g o = record {
  endpoint = g.endpoint;
  intact = λ e. elim (cases_Bool c.over) [ inl over ↦ absurd (false≢true (sym e ∙ o over)) | inr intact ↦ intact ];
  flags = λ e p f. flags_open c d p (g.flags p) f;
  plain = g.plain;
}

call_follows : (x : Call) (c d : Connection) (h k : Held) → CallIs x c h d k → Follows c d
call_follows (Arrived bytes fin) c d h k is = subst (λ (e : Connection). Follows c e) (sym is.0) (goes_follows c c (goes_same c c) (λ o. o))
call_follows (Returned x) c d h k is = found_follows x c d h.stream k.stream h.left h.fin is.0 is.3
call_follows (Made e f) c d h k is = subst (λ (z : Connection). Follows c z) (sym (ap (λ (z : Joined). z.0) is)) (goes_follows c (called c h.stream e).0 (call_alike e h.stream c c refl refl (its_place c h.stream e)).goes (λ o. call_over e c h.stream o))

opens_follows : (c d : Connection) → Opens c d → (c.over ≡ true → d.over ≡ true) → Follows c d
opens_follows c d h o = record {
  endpoint = h.endpoint;
  intact = λ e. elim (cases_Bool c.over) [ inl over ↦ absurd (false≢true (sym e ∙ o over)) | inr intact ↦ intact ];
  flags = λ e p f. h.flags p f;
  plain = h.plain;
}

-- a datagram
datagram_follows : (c : Connection) (bytes : List ℕ) → Follows c (after_taken c (taken c bytes))
datagram_follows c bytes = opens_follows c (after_taken c (taken c bytes)) (datagram_opens c (taken c bytes)) (datagram_over c bytes)

-- a session that is resumed without 0-RTT
refused_opens : (c : Connection) → Opens c (without_resumption c)
refused_opens c = elim c.resumed as (λ b. Opens c (cond b (configured c (with_defaults (values_of []))) c)) [
  | true ↦ record { endpoint = refl; flags = λ p e. sym (peer_flags c (with_defaults (values_of [])) p) ∙ e; plain = λ e. refl }
  | false ↦ record { endpoint = refl; flags = λ p e. e; plain = λ e. e }
]

refused_over : (c : Connection) → (without_resumption c).over ≡ c.over
refused_over c = elim c.resumed as (λ b. (cond b (configured c (with_defaults (values_of []))) c).over ≡ c.over) [ true ↦ refl | false ↦ refl ]

refused_follows : (c : Connection) → Follows c (without_resumption c)
refused_follows c = opens_follows c (without_resumption c) (refused_opens c) (λ e. refused_over c ∙ e)

-- ---- one stream

-- all that is found on a stream from here on, if it is read at once
abbrev total : Connection → Held → List Call → StreamRun
total c h calls = read (h.fin || end_arrived calls) c h.stream (h.left ++ arrived calls)

pub record ReadsAs (c : Connection) (h : Held) (calls : List Call) (k : Held) : Type 0 where
  pub seen : (read (h.fin || end_arrived calls) c h.stream (h.left ++ arrived calls)).seen ≡ found_in calls h.left
  pub stream : (read (h.fin || end_arrived calls) c h.stream (h.left ++ arrived calls)).stream ≡ k.stream
  pub left : (read (h.fin || end_arrived calls) c h.stream (h.left ++ arrived calls)).left ≡ k.left
  pub over : (read (h.fin || end_arrived calls) c h.stream (h.left ++ arrived calls)).connection.over ≡ false

-- under another connection, which the next one follows
reads_before : (c d : Connection) (h : Held) (calls : List Call) (k : Held) → c.resumed ≡ false → Follows c d → ReadsAs d h calls k → ReadsAs c h calls k
reads_before c d h calls k q f r =
    let fin : Bool = h.fin || end_arrived calls in
    let l : List ℕ = h.left ++ arrived calls in
    let intact : d.over ≡ false = read_from (h.fin || end_arrived calls) d h.stream (h.left ++ arrived calls) r.over in
    let a : RunsAlike d c (total d h calls) (total c h calls) = read_alike (h.fin || end_arrived calls) h.stream (h.left ++ arrived calls) d c (sym f.endpoint) (f.intact intact ∙ sym intact) (plain_agree d c (f.plain q) q) (λ p rest is.
    let first : flag d p ≡ false = opened_first fin h.stream l d p rest intact r.over is in
    f.flags intact p first ∙ sym first) in
    record {
      seen = a.seen ∙ r.seen;
      stream = a.stream ∙ r.stream;
      left = a.left ∙ r.left;
      over = a.over ∙ r.over;
    }

ends_once : (calls : List Call) → AreReads true calls → arrived calls ≡ []
ends_once [] r = refl
ends_once (Arrived bytes fin ∷ calls) r = ap (λ (l : List ℕ). l ++ arrived calls) (r.0 refl) ∙ ends_once calls r.1
ends_once (Returned x ∷ calls) r = ends_once calls r
ends_once (Made e f ∷ calls) r = absurd r

-- a call, and what is found after it
call_total : (x : Found) (c d : Connection) (s t : Stream) (bytes more : List ℕ) (old end : Bool) → FoundIs x c s bytes old d t → (old ≡ true → more ≡ []) → read (old || end) c s (bytes ++ more) ≡ followed (seen_of x bytes) (read (old || end) d t (rest_after x bytes ++ more))
call_total x c d s t bytes more true end is none =
    ap (λ (l : List ℕ). read true c s l) (ap (λ (l : List ℕ). bytes ++ l) (none refl) ∙ append-nil bytes)
    ∙ is.finds []
    ∙ ap (λ (l : List ℕ). followed (seen_of x bytes) (read true d t l)) (sym (ap (λ (l : List ℕ). rest_after x bytes ++ l) (none refl) ∙ append-nil (rest_after x bytes)))
call_total x c d s t bytes more false true is none = ap (λ (y : StreamRun). ended y) (is.finds more) ∙ ended_followed (seen_of x bytes) (run_stream d t (rest_after x bytes ++ more))
call_total x c d s t bytes more false false is none = is.finds more

reads_arrived : (c : Connection) (h : Held) (bytes : List ℕ) (fin : Bool) (calls : List Call) (k : Held) → ReadsAs c (record { stream = h.stream; left = h.left ++ bytes; fin = h.fin || fin }) calls k → ReadsAs c h (Arrived bytes fin ∷ calls) k
reads_arrived c h bytes fin calls k r =
    let same : total c h (Arrived bytes fin ∷ calls) ≡ total c (record { stream = h.stream; left = h.left ++ bytes; fin = h.fin || fin }) calls =
    ap (λ (b : Bool). read b c h.stream (h.left ++ (bytes ++ arrived calls))) (sym (or_twice h.fin fin (end_arrived calls)))
    ∙ ap (λ (l : List ℕ). read ((h.fin || fin) || end_arrived calls) c h.stream l) (sym (append_assoc h.left bytes (arrived calls))) in
    record {
      seen = ap (λ (y : StreamRun). y.seen) same ∙ r.seen;
      stream = ap (λ (y : StreamRun). y.stream) same ∙ r.stream;
      left = ap (λ (y : StreamRun). y.left) same ∙ r.left;
      over = ap (λ (y : StreamRun). y.connection.over) same ∙ r.over;
    }

reads_returned : (x : Found) (c d : Connection) (h m : Held) (calls : List Call) (k : Held) → FoundIs x c h.stream h.left h.fin d m.stream → m.left ≡ rest_after x h.left → m.fin ≡ h.fin → AreReads h.fin calls → ReadsAs d m calls k → ReadsAs c h (Returned x ∷ calls) k
reads_returned x c d h m calls k is e f a r =
    let none : h.fin ≡ true → arrived calls ≡ [] = λ o. ends_once calls (subst (λ (b : Bool). AreReads b calls) o a) in
    let after : read (h.fin || end_arrived calls) d m.stream (rest_after x h.left ++ arrived calls) ≡ total d m calls =
    ap (λ (b : Bool). read (b || end_arrived calls) d m.stream (rest_after x h.left ++ arrived calls)) (sym f)
    ∙ ap (λ (l : List ℕ). read (m.fin || end_arrived calls) d m.stream (l ++ arrived calls)) (sym e) in
    let same : total c h calls ≡ followed (seen_of x h.left) (total d m calls) =
    call_total x c d h.stream m.stream h.left (arrived calls) h.fin (end_arrived calls) is none
    ∙ ap (λ (y : StreamRun). followed (seen_of x h.left) y) after in
    record {
      seen = ap (λ (y : StreamRun). y.seen) same ∙ ap (λ (l : List Seen). seen_of x h.left ++ l) (r.seen ∙ ap (λ (l : List ℕ). found_in calls l) e);
      stream = ap (λ (y : StreamRun). y.stream) same ∙ r.stream;
      left = ap (λ (y : StreamRun). y.left) same ∙ r.left;
      over = ap (λ (y : StreamRun). y.connection.over) same ∙ r.over;
    }

-- a call on this stream
reads_its : (x : Call) (c d : Connection) (h m : Held) (calls : List Call) (k : Held) → CallIs x c h d m → AreReads h.fin (x ∷ calls) → (AreReads m.fin calls → ReadsAs d m calls k) → ReadsAs c h (x ∷ calls) k
reads_its (Arrived bytes fin) c d h m calls k is a r = reads_arrived c h bytes fin calls k (
    subst (λ (z : Held). ReadsAs c z calls k) is.1 (
    subst (λ (e : Connection). ReadsAs e m calls k) is.0 (
    r (subst (λ (z : Held). AreReads z.fin calls) (sym is.1) a.1))))
reads_its (Returned x) c d h m calls k is a r = reads_returned x c d h m calls k is.0 is.1 is.2 a (r (subst (λ (b : Bool). AreReads b calls) (sym is.2) a))
reads_its (Made e f) c d h m calls k is a r = absurd a

-- ---- all streams

reads_none : (c : Connection) (h : Held) → c.over ≡ false → IsIdle c h → ReadsAs c h [] h
reads_none c h o i =
    let same : total c h [] ≡ rests c h.stream h.left =
    ap (λ (b : Bool). read b c h.stream (h.left ++ [])) (or_none h.fin)
    ∙ ap (λ (l : List ℕ). read h.fin c h.stream l) (append-nil h.left)
    ∙ i.idle in
    record {
      seen = ap (λ (y : StreamRun). y.seen) same;
      stream = ap (λ (y : StreamRun). y.stream) same;
      left = ap (λ (y : StreamRun). y.left) same;
      over = ap (λ (y : StreamRun). y.connection.over) same ∙ o;
    }

pub interleaved : (steps : List CallStep) (c d : Connection) (t u : Table) (n : ℕ) → c.resumed ≡ false → Leads steps c t d u → d.over ≡ false → AreReads (t n).fin (calls_on n steps) → IsIdle d (u n) → ReadsAs c (t n) (calls_on n steps) (u n)
interleaved [] c d t u n q l o a i =
    subst (λ (z : Held). ReadsAs c (t n) [] z) (sym (l.1 n)) (
    reads_none c (t n) (ap (λ (e : Connection). e.over) (sym l.0) ∙ o) (
    subst (λ (e : Connection). IsIdle e (t n)) l.0 (subst (λ (z : Held). IsIdle d z) (l.1 n) i)))
interleaved (Accepts m ∷ steps) c d t u n q l o a i =
    reads_before c (accepts c m).0 (t n) (calls_on n steps) (u n) q (opens_follows c (accepts c m).0 (accepted_opens c.endpoint.side c m) (λ e. accepted_over c.endpoint.side c m ∙ e)) (
    interleaved steps (accepts c m).0 d t u n ((accepted_opens c.endpoint.side c m).plain q) l o a i)
interleaved (Stops p ∷ steps) c d t u n q l o a i =
    reads_before c (stops c p).0 (t n) (calls_on n steps) (u n) q (opens_follows c (stops c p).0 (stopped_opens (is_for_critical p && not c.over) c (fault.Stream stream.ClosedCriticalStream) (Some (fault.Stream stream.ClosedCriticalStream))) (λ e. ap (λ (z : Connection). z.over) (stopped_over (is_for_critical p) c.over c (closed_by c (fault.Stream stream.ClosedCriticalStream)) (Some (fault.Stream stream.ClosedCriticalStream)) e) ∙ e)) (
    interleaved steps (stops c p).0 d t u n ((stopped_opens (is_for_critical p && not c.over) c (fault.Stream stream.ClosedCriticalStream) (Some (fault.Stream stream.ClosedCriticalStream))).plain q) l o a i)
interleaved (Datagram bytes ∷ steps) c d t u n q l o a i =
    reads_before c (after_taken c (taken c bytes)) (t n) (calls_on n steps) (u n) q (datagram_follows c bytes) (
    interleaved steps (after_taken c (taken c bytes)) d t u n ((datagram_follows c bytes).plain q) l o a i)
interleaved (EarlyDataRefused ∷ steps) c d t u n q l o a i =
    reads_before c (without_resumption c) (t n) (calls_on n steps) (u n) q (refused_follows c) (
    interleaved steps (without_resumption c) d t u n ((refused_follows c).plain q) l o a i)
interleaved (At m x ∷ steps) c d t u n q (e, k, is, l) o a i = elim (cases_Bool (eqb m n)) [
  | inl same ↦
      let one : m ≡ n = eqb-true m n same in
      let calls : calls_on n (At m x ∷ steps) ≡ x ∷ calls_on n steps = rw same refl in
      let held : with_held m k t n ≡ k = held_at m n k t same in
      subst (λ (z : List Call). ReadsAs c (t n) z (u n)) (sym calls) (
      reads_its x c e (t n) k (calls_on n steps) (u n) (subst (λ (j : ℕ). CallIs x c (t j) e k) one is) (subst (λ (z : List Call). AreReads (t n).fin z) calls a) (λ b.
      subst (λ (z : Held). ReadsAs e z (calls_on n steps) (u n)) held (
      interleaved steps e d (with_held m k t) u n ((call_follows x c e (t m) k is).plain q) l o (subst (λ (z : Held). AreReads z.fin (calls_on n steps)) (sym held) b) i)))
  | inr other ↦
      let calls : calls_on n (At m x ∷ steps) ≡ calls_on n steps = rw other refl in
      let held : with_held m k t n ≡ t n = held_other m n k t other in
      subst (λ (z : List Call). ReadsAs c (t n) z (u n)) (sym calls) (
      reads_before c e (t n) (calls_on n steps) (u n) q (call_follows x c e (t m) k is) (
      subst (λ (z : Held). ReadsAs e z (calls_on n steps) (u n)) held (
      interleaved steps e d (with_held m k t) u n ((call_follows x c e (t m) k is).plain q) l o (subst (λ (z : Held). AreReads z.fin (calls_on n steps)) (sym held) (subst (λ (z : List Call). AreReads (t n).fin z) calls a)) i)))
]

-- ---- a stream of a session

pub session_calls : (c : Connection) (h : Held) (calls : List Call) (k : Held) (s : ℕ) → ReadsAs c h calls k → h.stream ≡ Session s → found_in calls h.left ≡ bytes_seen (h.left ++ arrived calls) ++ end_seen (h.fin || end_arrived calls)
session_calls c h calls k s r e =
    let fin : Bool = h.fin || end_arrived calls in
    let l : List ℕ = h.left ++ arrived calls in
    sym r.seen
    ∙ ap (λ (u : Stream). (read fin c u l).seen) e
    ∙ open_gives fin c s l (read_from fin c h.stream l r.over)

waiting_read : (c : Connection) (h : Held) (calls : List Call) (k : Held) (s : ℕ) → ReadsAs c h calls k → h.stream ≡ Waiting s → total c h calls ≡ rests c (Waiting s) (h.left ++ arrived calls)
waiting_read c h calls k s r e =
    let fin : Bool = h.fin || end_arrived calls in
    let l : List ℕ = h.left ++ arrived calls in
    ap (λ (u : Stream). read fin c u l) e ∙ keeps_waiting fin c s l (read_from fin c h.stream l r.over)

pub waiting_found : (c : Connection) (h : Held) (calls : List Call) (k : Held) (s : ℕ) → ReadsAs c h calls k → h.stream ≡ Waiting s → found_in calls h.left ≡ []
waiting_found c h calls k s r e = sym r.seen ∙ ap (λ (x : StreamRun). x.seen) (waiting_read c h calls k s r e)

pub waiting_left : (c : Connection) (h : Held) (calls : List Call) (k : Held) (s : ℕ) → ReadsAs c h calls k → h.stream ≡ Waiting s → k.left ≡ h.left ++ arrived calls
waiting_left c h calls k s r e = sym r.left ∙ ap (λ (x : StreamRun). x.left) (waiting_read c h calls k s r e)
