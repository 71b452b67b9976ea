-- The exchange of a header map: what the polls of sending and of receiving add up to, and that the
-- map comes back.
use Rattle.std.proofs.Common.{◌≡◌, ◌≢◌, ℕ, ◌+◌, ◌*◌, ◌<◌, ◌≤◌, Bool, false, List, [], ◌∷◌, ◌++◌, length, refl, sym, ap, ◌∙◌, arith, inl, inr, Option, None, Result, Ok, Err}
use Rattle.std.proofs.lemmas.Bool.{cases_lt}
use Rattle.wtp_core.specs.declared.bytes.poll.Polled.{Polled}
use Rattle.wtp_core.specs.declared.bytes.poll.Polled.TheVariants.{Ready, Pending, Again, NoMemory}
use Rattle.wtp_core.specs.Source.{Source, HasModel}
use Rattle.wtp_core.specs.Polled.{PollsAtMost, WaitsAs}
use Rattle.wtp_core.proofs.TellingLemmas.{telling_map, telling_same, telling_then}
use Rattle.wtp_wire.specs.declared.frame.kind.FrameKind.{FrameKind}
use Rattle.wtp_wire.specs.declared.frame.kind.FrameKind.TheVariants.{Headers}
use Rattle.wtp_core.specs.declared.error.Refused.{Refused}
use Rattle.wtp_core.specs.declared.error.Refused.TheVariants as refused
use Rattle.wtp_wire.specs.Content.{Content, PlainOf, HeadersOf, WebTransportOf, kind_in, payload_in}
use Rattle.wtp_wire.specs.Front.{Front, Framed, Unknown, BadId, TooBig, Short, front}
use Rattle.wtp_wire.specs.FramePolling.{HoldsHead}
use Rattle.wtp_wire.specs.Held.{Held, new_held, front_held, IsUnfinished, Leaves}
use Rattle.wtp_wire.proofs.FrontLemmas.{front-empty}
use Rattle.wtp_wire.specs.Wire.{wire}
use Rattle.wtp_fields.specs.Field.{Field, IsMap, AreTexts}
use Rattle.wtp_fields.specs.Headers.{payload, headers_at, or_decompression, PayloadNeedsMemory}
use Rattle.wtp_wire.proofs.FramePollLemmas.{front_none, front_due}
use Rattle.wtp_wire.proofs.WireLemmas.{front-wire}
use Rattle.wtp_fields.proofs.Payloads.{payload_again}
use Rattle.wtransport_proto.specs.declared.stream.error.IoReadError.{IoReadError}
use Rattle.wtransport_proto.specs.declared.exchange.ReceiveError.{ReceiveError}
use Rattle.wtransport_proto.specs.declared.exchange.ReceiveError.TheVariants as receive
use Rattle.wtp_wire.specs.Rule.{Role, RemoteBi, LocalBi, RemoteUni, InSession, rule}
use Rattle.wtp_wire.specs.Run.{Run, Tail, skip_unknown, run, follows}
use Rattle.wtransport_proto.specs.HeldRun.{tail_of, run_of}
use Rattle.wtransport_proto.specs.Reading.{FirstAfter}
use Rattle.wtransport_proto.specs.StreamPolling.{SourceIsAfter, SkipsUnknown}
use Rattle.wtransport_proto.specs.Exchange.{WaitsAtMost, past_front, KeptPlace, Turned, Lacked, EndsWith, Takes, LeftIsAfter, Breaks, FrameDid, MapDid, CameBack, ReadsBack}
use Rattle.wtp_wire.proofs.RunLemmas.{skip_unknown-unknown, skip_unknown-framed, skip_unknown-bad, skip_unknown-big, skip_unknown-short}
use Rattle.wtp_wire.proofs.RunLaws.{run-allowed}
use Rattle.wtransport_proto.proofs.HeldRunLemmas.{skip_not_read, leaves_run, leaves_size, unknown_run, unknown_size, run_new}
use Rattle.wtransport_proto.specs.Polls.{GivesNone, PollDid}
use Rattle.wtransport_proto.proofs.PollsLemmas.{series_start, series_end, series_on}
use Rattle.wtransport_proto.proofs.DriveLemmas.{asks_more, asks_last}

-- ---- the frame of a header map

headers_allowed : (role : Role) (first : Bool) → role ≢ RemoteUni → rule role first Headers ≡ None
headers_allowed RemoteBi first h = refl
headers_allowed LocalBi first h = refl
headers_allowed RemoteUni first h = absurd (h refl)
headers_allowed InSession first h = refl

pub headers-run : (role : Role) (first : Bool) (p rest : List ℕ) (tail : Tail) → role ≢ RemoteUni → length p ≤ 4096 → run role first (wire (HeadersOf p) ++ rest) tail ≡ follows (HeadersOf p) (run role false rest tail)
headers-run role first p rest tail h small = run-allowed role first (wire (HeadersOf p) ++ rest) rest tail (HeadersOf p) (front-wire (HeadersOf p) rest small) (headers_allowed role first h)

-- ---- the first frame after unknown frames

past_case : (bytes : List ℕ) (c : Front) → front bytes ≡ c → past_front c ≡ front (skip_unknown bytes)
past_case bytes (Framed f rest) e = sym (ap front (skip_unknown-framed bytes rest f e) ∙ e)
past_case bytes (Unknown rest) e = ap front (sym (skip_unknown-unknown bytes rest e))
past_case bytes (BadId rest) e = sym (ap front (skip_unknown-bad bytes rest e) ∙ e)
past_case bytes (TooBig rest) e = sym (ap front (skip_unknown-big bytes rest e) ∙ e)
past_case bytes Short e = sym (ap front (skip_unknown-short bytes e) ∙ e)

past_new : (new : Held) (bytes : List ℕ) → new ≡ new_held → past_front (front_held new bytes) ≡ front (skip_unknown bytes)
past_new new bytes e = rw e (ap past_front (front_none [] 0 bytes refl) ∙ past_case bytes (front bytes) refl)

-- ---- turns of a reading

kept_start : (role : Role) (first : Bool) (h : Held) (a : Source) → h ≡ new_held → KeptPlace role first first h a a
kept_start role first h a e = record { run = sym (run_new role first h a e); known = past_new h a.ahead e; flag = refl }

kept_still : (role : Role) (f0 f1 f2 : Bool) (mid new : Held) (a b c : Source) → KeptPlace role f0 f1 mid a b → Leaves mid new b c → f2 ≡ f1 → c.ending ≡ b.ending → KeptPlace role f0 f2 new a c
kept_still role f0 f1 f2 mid new a b c g v e ending = record {
  run = g.run ∙ leaves_run role f1 mid new b c v ending ∙ ap (λ (x : Bool). run_of role x new c) (sym e);
  known = ap past_front v.same ∙ g.known;
  flag = e ∙ g.flag;
}

kept_unknown : (role : Role) (f0 f1 f2 : Bool) (mid new : Held) (a b c : Source) → KeptPlace role f0 f1 mid a b → SkipsUnknown f1 f2 mid new b c → c.ending ≡ b.ending → KeptPlace role f0 f2 new a c
kept_unknown role f0 f1 f2 mid new a b c g p ending = record {
  run = g.run ∙ unknown_run role f1 f2 mid new b c p ending;
  known = elim (cases_lt 0 new.skip_remaining) [
    | inl l ↦ let w = p.part l in ap past_front w.0 ∙ g.known
    | inr l ↦ let d = p.whole (omega arith) in past_new new c.ahead d.empty ∙ sym (ap past_front d.front) ∙ g.known
  ];
  flag = p.flag ∙ g.flag;
}

turned_start : (role : Role) (first : Bool) (h : Held) (a : Source) → h ≡ new_held → Turned role first first 0 h a a
turned_start role first h a e = record {
  kept = kept_start role first h a e;
  series = rw e (series_start GivesNone role first new_held [] a refl);
  moved = rw e (omega arith);
  waited = λ f rest is. (rw e (front_none [] 0 a.ahead refl ∙ is), omega arith);
}

turned_waiting : (role : Role) (f0 f1 f2 : Bool) (n : ℕ) (mid new : Held) (a b c : Source) → Turned role f0 f1 n mid a b → PollDid role Pending f1 f2 mid new b c → Turned role f0 f2 (n + 1) new a c
turned_waiting role f0 f1 f2 n mid new a b c g h = let v = h.0.0 in let w = h.0.2 in record {
  kept = kept_still role f0 f1 f2 mid new a b c g.kept v h.0.1 h.2.ending;
  series = series_on GivesNone role [] [] n Pending f0 f1 f2 new_held mid new a b c refl tt g.series h;
  moved = let one = g.moved in omega (arith, leaves_size mid new b c v);
  waited = λ f rest is. let one = g.waited f rest is in let more = one.1 in (v.same ∙ one.0, omega arith);
}

no_unknown : (f1 f2 : Bool) (mid new : Held) (b c : Source) (f : Content) (rest : List ℕ) → SkipsUnknown f1 f2 mid new b c → front_held mid b.ahead ≡ Framed f rest → ⊥
no_unknown f1 f2 mid new b c f rest p is = elim (cases_lt 0 new.skip_remaining) [
  | inl l ↦ let w = p.part l in skip_not_read new.skip_remaining c.ahead (Framed f rest) (sym (front_due new.taken new.skip_remaining c.ahead l) ∙ w.0 ∙ is) tt
  | inr l ↦ let d = p.whole (omega arith) in let e = d.front in absurd (cc)
]

turned_unknown : (role : Role) (f0 f1 f2 : Bool) (n : ℕ) (mid new : Held) (a b c : Source) → Turned role f0 f1 n mid a b → PollDid role Again f1 f2 mid new b c → Turned role f0 f2 (n + 1) new a c
turned_unknown role f0 f1 f2 n mid new a b c g h = let p = h.0 in record {
  kept = kept_unknown role f0 f1 f2 mid new a b c g.kept p h.2.ending;
  series = series_on GivesNone role [] [] n Again f0 f1 f2 new_held mid new a b c refl tt g.series h;
  moved = let one = g.moved in let two = h.2.waits in omega (arith, unknown_size f1 f2 mid new b c p);
  waited = λ f rest is. let one = g.waited f rest is in absurd (no_unknown f1 f2 mid new b c f rest p one.0);
}

-- ---- the same for models

pub told_start : (s : Option Source) (role : Role) (first : Bool) (h : Held) → h ≡ new_held → HasModel s s (Turned role first first 0 h)
told_start s role first h e = telling_same s (Turned role first first 0 h) (λ a. turned_start role first h a e)

pub told_waiting : (s t u : Option Source) (role : Role) (f0 f1 f2 : Bool) (n : ℕ) (mid new : Held)
    → HasModel s t (Turned role f0 f1 n mid) → HasModel t u (PollDid role Pending f1 f2 mid new) → HasModel s u (Turned role f0 f2 (n + 1) new)
told_waiting s t u role f0 f1 f2 n mid new p q =
    telling_then s t u (Turned role f0 f1 n mid) (PollDid role Pending f1 f2 mid new) (Turned role f0 f2 (n + 1) new) (λ a b c g h. turned_waiting role f0 f1 f2 n mid new a b c g h) p q

pub told_unknown : (s t u : Option Source) (role : Role) (f0 f1 f2 : Bool) (n : ℕ) (mid new : Held)
    → HasModel s t (Turned role f0 f1 n mid) → HasModel t u (PollDid role Again f1 f2 mid new) → HasModel s u (Turned role f0 f2 (n + 1) new)
told_unknown s t u role f0 f1 f2 n mid new p q =
    telling_then s t u (Turned role f0 f1 n mid) (PollDid role Again f1 f2 mid new) (Turned role f0 f2 (n + 1) new) (λ a b c g h. turned_unknown role f0 f1 f2 n mid new a b c g h) p q

lacked : (role : Role) (f0 f1 f2 : Bool) (n turns : ℕ) (mid new : Held) (a b c : Source) → n < turns → HoldsHead new.taken → Turned role f0 f1 n mid a b → PollDid role NoMemory f1 f2 mid new b c → Lacked role f0 f2 turns new a c
lacked role f0 f1 f2 n turns mid new a b c fewer head g h = record {
  head = head;
  kept = kept_still role f0 f1 f2 mid new a b c g.kept h.0.leaves h.0.flag h.2.ending;
  before = n;
  fewer = fewer;
  series = series_end GivesNone role [] n NoMemory f0 f1 f2 new_held mid new a b c g.series h;
}

pub told_memory : (s t u : Option Source) (role : Role) (f0 f1 f2 : Bool) (n turns : ℕ) (mid new : Held)
    → n < turns → IsUnfinished new → HoldsHead new.taken → HasModel s t (Turned role f0 f1 n mid) → HasModel t u (PollDid role NoMemory f1 f2 mid new) → HasModel s u (FrameDid role f0 f2 turns (Err receive.Memory))
told_memory s t u role f0 f1 f2 n turns mid new fewer unfinished head p q =
    telling_then s t u (Turned role f0 f1 n mid) (PollDid role NoMemory f1 f2 mid new) (FrameDid role f0 f2 turns (Err receive.Memory))
    (λ a b c g h. (new, unfinished, lacked role f0 f1 f2 n turns mid new a b c fewer head g h)) p q

ended : (role : Role) (f0 f1 f2 : Bool) (n turns : ℕ) (mid new : Held) (last : Polled (Result Content IoReadError)) (a b c : Source) → n < turns → Turned role f0 f1 n mid a b → PollDid role last f1 f2 mid new b c → EndsWith role f0 f2 turns last a c
ended role f0 f1 f2 n turns mid new last a b c fewer g h = record {
  before = n;
  fewer = fewer;
  held = new;
  series = series_end GivesNone role [] n last f0 f1 f2 new_held mid new a b c g.series h;
}

taken : (role : Role) (f0 f1 f2 : Bool) (n turns : ℕ) (mid new : Held) (f : Content) (a b c : Source) → n < turns → Turned role f0 f1 n mid a b → PollDid role (Ready (Ok f)) f1 f2 mid new b c → Takes role f0 f2 turns f a c
taken role f0 f1 f2 n turns mid new f a b c fewer g h = let t = h.0 in record {
  known = sym g.kept.known ∙ ap past_front t.decided.front;
  allowed = rw (← g.kept.flag) t.allowed;
  flag = t.flag;
  turned = ended role f0 f1 f2 n turns mid new (Ready (Ok f)) a b c fewer g h;
}

pub told_taken : (s t u : Option Source) (role : Role) (f0 f1 f2 : Bool) (n turns : ℕ) (mid new : Held) (f : Content)
    → n < turns → HasModel s t (Turned role f0 f1 n mid) → HasModel t u (PollDid role (Ready (Ok f)) f1 f2 mid new) → HasModel s u (FrameDid role f0 f2 turns (Ok f))
told_taken s t u role f0 f1 f2 n turns mid new f fewer p q =
    telling_then s t u (Turned role f0 f1 n mid) (PollDid role (Ready (Ok f)) f1 f2 mid new) (Takes role f0 f2 turns f) (λ a b c g h. taken role f0 f1 f2 n turns mid new f a b c fewer g h) p q

-- by the front that decided
left_by : (role : Role) (f0 f1 f2 : Bool) (mid new : Held) (b c : Source) (k : Front) → f1 ≡ f0 → FirstAfter role f1 k f2 → SourceIsAfter k mid new b c → FirstAfter role f0 (past_front k) f2 × LeftIsAfter (past_front k) c.ahead
left_by role f0 f1 f2 mid new b c (Framed f rest) same flag place = (flag, sym place.1)
left_by role f0 f1 f2 mid new b c (Unknown rest) same flag place = absurd place
left_by role f0 f1 f2 mid new b c (BadId rest) same flag place = (flag ∙ same, sym place.1)
left_by role f0 f1 f2 mid new b c (TooBig rest) same flag place = (flag ∙ same, sym place.1)
left_by role f0 f1 f2 mid new b c Short same flag place = (flag ∙ same, place.1)

broken : (role : Role) (f0 f1 f2 : Bool) (n turns : ℕ) (mid new : Held) (x : IoReadError) (a b c : Source) → n < turns → Turned role f0 f1 n mid a b → PollDid role (Ready (Err x)) f1 f2 mid new b c → Breaks role f0 f2 turns x a c
broken role f0 f1 f2 n turns mid new x a b c fewer g h =
    let t = h.0 in
    let left = left_by role f0 f1 f2 mid new b c (front_held mid b.ahead) g.kept.flag t.flag t.place in
    record {
      ends = record { frames = ap (λ (r : Run). r.frames) g.kept.run ∙ t.ends.frames; fault = rw (ap (λ (r : Run). r.ending) g.kept.run) t.ends.fault };
      flag = rw (← g.kept.known) left.0;
      place = rw (← g.kept.known) left.1;
      dry = t.dry;
      turned = ended role f0 f1 f2 n turns mid new (Ready (Err x)) a b c fewer g h;
    }

pub told_broken : (s t u : Option Source) (role : Role) (f0 f1 f2 : Bool) (n turns : ℕ) (mid new : Held) (x : IoReadError)
    → n < turns → HasModel s t (Turned role f0 f1 n mid) → HasModel t u (PollDid role (Ready (Err x)) f1 f2 mid new) → HasModel s u (FrameDid role f0 f2 turns (Err (receive.Stream x)))
told_broken s t u role f0 f1 f2 n turns mid new x fewer p q =
    telling_then s t u (Turned role f0 f1 n mid) (PollDid role (Ready (Err x)) f1 f2 mid new) (Breaks role f0 f2 turns x) (λ a b c g h. broken role f0 f1 f2 n turns mid new x a b c fewer g h) p q

pub told_waited : (s t : Option Source) (role : Role) (f0 f1 : Bool) (turns : ℕ) (mid : Held)
    → IsUnfinished mid → HasModel s t (Turned role f0 f1 turns mid) → HasModel s t (FrameDid role f0 f1 turns (Err receive.Waiting))
told_waited s t role f0 f1 turns mid unfinished p = telling_map s t (Turned role f0 f1 turns mid) (FrameDid role f0 f1 turns (Err receive.Waiting)) (λ a b g. (mid, unfinished, g)) p

pub nothing_held : (h : Held) → h ≡ new_held → IsUnfinished h
nothing_held h e = rw e (record { short = front_none [] 0 [] refl ∙ front-empty; alone = λ l. refl })

-- ---- calls

pub asks_start : (s : Option Source) → HasModel s s (PollsAtMost (4112 * 0))
asks_start s = telling_same s (PollsAtMost (4112 * 0)) (λ a. record { asked = omega arith; no_less = omega arith; ending = refl; waits = omega arith })

pub asks_on : (s t u : Option Source) (n : ℕ) → HasModel s t (PollsAtMost (4112 * n)) → HasModel t u (PollsAtMost 4112) → HasModel s u (PollsAtMost (4112 * (n + 1)))
asks_on s t u n p k = telling_then s t u (PollsAtMost (4112 * n)) (PollsAtMost 4112) (PollsAtMost (4112 * (n + 1))) (λ a b c g h. asks_more n a b c g h) p k

pub asks_end : (s t u : Option Source) (n turns : ℕ) → n < turns → HasModel s t (PollsAtMost (4112 * n)) → HasModel t u (PollsAtMost 4112) → HasModel s u (PollsAtMost (4112 * turns))
asks_end s t u n turns l p k = telling_then s t u (PollsAtMost (4112 * n)) (PollsAtMost 4112) (PollsAtMost (4112 * turns)) (λ a b c g h. asks_last n turns a b c l g h) p k

polled_once : {T : Type 0} (r : Polled T) (a b : Source) → WaitsAs r a b → b.waits ≤ a.waits + 1
polled_once (Ready x) a b h = omega (arith, h)
polled_once Pending a b h = omega (arith, h)
polled_once Again a b h = omega (arith, h)
polled_once NoMemory a b h = omega (arith, h)

pub waits_start : (s : Option Source) → HasModel s s (WaitsAtMost 0)
waits_start s = telling_same s (WaitsAtMost 0) (λ a. omega arith)

pub waits_on : {T : Type 0} (r : Polled T) (s t u : Option Source) (n : ℕ) → HasModel s t (WaitsAtMost n) → HasModel t u (WaitsAs r) → HasModel s u (WaitsAtMost (n + 1))
waits_on r s t u n p k = telling_then s t u (WaitsAtMost n) (WaitsAs r) (WaitsAtMost (n + 1)) (λ a b c g h. let one = polled_once r b c h in omega (arith, g, one)) p k

pub waits_end : (s t u : Option Source) (n turns : ℕ) → n < turns → HasModel s t (WaitsAtMost n) → HasModel t u (λ a b. b.waits ≡ a.waits + 0) → HasModel s u (WaitsAtMost turns)
waits_end s t u n turns l p k = telling_then s t u (WaitsAtMost n) (λ a b. b.waits ≡ a.waits + 0) (WaitsAtMost turns) (λ a b c g h. omega (arith, l, g, h)) p k

-- ---- the map comes back

pub is_headers : (f : Content) → kind_in f ≡ Headers → f ≡ HeadersOf (payload_in f)
is_headers (PlainOf kind p) e = ap (λ (k : FrameKind). PlainOf k p) e
is_headers (WebTransportOf id) e = absurd (cc)

-- the frame that was taken is the first frame of the input
found : (role : Role) (first next : Bool) (turns : ℕ) (f g : Content) (rest : List ℕ) (a b : Source) → front a.ahead ≡ Framed g rest → Takes role first next turns f a b → (f ≡ g) × (b.ahead ≡ rest)
found role first next turns f g rest a b is t =
    let both : Framed f b.ahead ≡ Framed g rest = sym t.known ∙ ap front (skip_unknown-framed a.ahead rest g is) ∙ is in
    (cc both, cc both)

no_frames : (r s : Run) (f : Content) → r ≡ follows f s → r.frames ≡ [] → ⊥
no_frames r s f e none = let h : f ∷ s.frames ≡ [] = sym (ap (λ (x : Run). x.frames) e) ∙ none in absurd (cc)

section_good : (p : List ℕ) (m : List Field) (rest : List ℕ) (turns : ℕ) (e : Refused) (a b : Source) → headers_at p ≡ Ok m → (e ≢ refused.Memory → headers_at p ≡ Err e) → CameBack m rest turns (Err (receive.Section e)) a b
section_good p m rest turns (refused.Code c) a b good bad = let h = bad (λ z. cc) in absurd (cc)
section_good p m rest turns refused.Memory a b good bad = tt

reads_back : (role : Role) (first next : Bool) (turns : ℕ) (m : List Field) (result : Result (List Field) ReceiveError) (a b : Source) → IsMap m → AreTexts m → MapDid role first next turns result a b → ReadsBack role m turns result a b
reads_back role first next turns m (Ok n) a b ordered texts (p, t, read) rest allowed small is =
    let at : front a.ahead ≡ Framed (HeadersOf (payload m)) rest = ap front is ∙ front-wire (HeadersOf (payload m)) rest small in
    let same = found role first next turns (HeadersOf p) (HeadersOf (payload m)) rest a b at t in
    let good : headers_at (payload m) ≡ Ok m = ap or_decompression (payload_again m ordered texts) in
    let one = same.0 in (cc, same.1)
reads_back role first next turns m (Err receive.Waiting) a b ordered texts (held, u, g) rest allowed small is =
    let at : front a.ahead ≡ Framed (HeadersOf (payload m)) rest = ap front is ∙ front-wire (HeadersOf (payload m)) rest small in
    (g.waited (HeadersOf (payload m)) rest at).1
reads_back role first next turns m (Err (receive.Stream x)) a b ordered texts g rest allowed small is =
    no_frames (run role first a.ahead (tail_of a.ending)) (run role false rest (tail_of a.ending)) (HeadersOf (payload m))
    (ap (λ (l : List ℕ). run role first l (tail_of a.ending)) is ∙ headers-run role first (payload m) rest (tail_of a.ending) allowed small) g.ends.frames
reads_back role first next turns m (Err (receive.OtherKind kind)) a b ordered texts (f, t, of, other) rest allowed small is =
    let at : front a.ahead ≡ Framed (HeadersOf (payload m)) rest = ap front is ∙ front-wire (HeadersOf (payload m)) rest small in
    let same = found role first next turns f (HeadersOf (payload m)) rest a b at t in
    other (sym of ∙ ap kind_in same.0)
reads_back role first next turns m (Err (receive.Section e)) a b ordered texts (p, t, bad, memory) rest allowed small is =
    let at : front a.ahead ≡ Framed (HeadersOf (payload m)) rest = ap front is ∙ front-wire (HeadersOf (payload m)) rest small in
    let same = found role first next turns (HeadersOf p) (HeadersOf (payload m)) rest a b at t in
    let one : p ≡ payload m = let e = same.0 in cc in
    section_good p m rest turns e a b (ap headers_at one ∙ ap or_decompression (payload_again m ordered texts)) bad
reads_back role first next turns m (Err receive.Memory) a b ordered texts did rest allowed small is = tt

pub told_back : (s t : Option Source) (role : Role) (first next : Bool) (turns : ℕ) (m : List Field) (result : Result (List Field) ReceiveError) → IsMap m → AreTexts m
    → HasModel s t (MapDid role first next turns result) → HasModel s t (ReadsBack role m turns result)
told_back s t role first next turns m result ordered texts p = telling_map s t (MapDid role first next turns result) (ReadsBack role m turns result) (λ a b did. reads_back role first next turns m result a b ordered texts did) p

-- ---- the map of the frame that was taken

pub told_read : (s t : Option Source) (role : Role) (first next : Bool) (turns : ℕ) (f : Content) (n : List Field) → kind_in f ≡ Headers → headers_at (payload_in f) ≡ Ok n
    → HasModel s t (FrameDid role first next turns (Ok f)) → HasModel s t (MapDid role first next turns (Ok n))
told_read s t role first next turns f n kind read p = telling_map s t (Takes role first next turns f) (MapDid role first next turns (Ok n)) (λ a b k. (payload_in f, rw (← is_headers f kind) k, read)) p

pub told_section : (s t : Option Source) (role : Role) (first next : Bool) (turns : ℕ) (f : Content) (e : Refused) → kind_in f ≡ Headers → (e ≢ refused.Memory → headers_at (payload_in f) ≡ Err e) → (e ≡ refused.Memory → PayloadNeedsMemory (payload_in f))
    → HasModel s t (FrameDid role first next turns (Ok f)) → HasModel s t (MapDid role first next turns (Err (receive.Section e)))
told_section s t role first next turns f e kind bad memory p = telling_map s t (Takes role first next turns f) (MapDid role first next turns (Err (receive.Section e))) (λ a b k. (payload_in f, rw (← is_headers f kind) k, bad, memory)) p

pub told_other : (s t : Option Source) (role : Role) (first next : Bool) (turns : ℕ) (f : Content) (kind : FrameKind) → kind ≡ kind_in f → kind ≢ Headers
    → HasModel s t (FrameDid role first next turns (Ok f)) → HasModel s t (MapDid role first next turns (Err (receive.OtherKind kind)))
told_other s t role first next turns f kind of other p = telling_map s t (Takes role first next turns f) (MapDid role first next turns (Err (receive.OtherKind kind))) (λ a b k. (f, k, sym of, other)) p

pub told_failed : (s t : Option Source) (role : Role) (first next : Bool) (turns : ℕ) (e : ReceiveError) → HasModel s t (FrameDid role first next turns (Err e)) → HasModel s t (MapDid role first next turns (Err e))
told_failed s t role first next turns receive.Waiting p = p
told_failed s t role first next turns (receive.Stream x) p = p
told_failed s t role first next turns (receive.OtherKind kind) p = telling_map s t (λ a b. ⊥) (MapDid role first next turns (Err (receive.OtherKind kind))) (λ a b k. absurd k) p
told_failed s t role first next turns (receive.Section e) p = telling_map s t (λ a b. ⊥) (MapDid role first next turns (Err (receive.Section e))) (λ a b k. absurd k) p
told_failed s t role first next turns receive.Memory p = p
