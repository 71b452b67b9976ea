-- Sessions by the settings of both ends, requests for them and their answers; and requests after GOAWAY.
use Rattle.std.proofs.Common.{◌≡◌, ℕ, ◌<◌, ◌≤◌, ◌&&◌, ◌||◌, not, Bool, true, false, cond, ltb, leb, List, Option, Some, None, unwrap_or, ◌⊎◌, refl, sym, ap, ◌∙◌, arith, inl, inr}
use Rattle.std.proofs.lemmas.Bool.{and_from, or_left, or_right, eqb-true, ltb-true, lt-ltb, le-ltb, le-leb, lt-leb, false≢true}
use Rattle.wtp_qpack.specs.Field.{Field}
use Rattle.wtp_frames.specs.declared.endpoint.Side.{Side}
use Rattle.wtp_frames.specs.declared.endpoint.Side.TheVariants.{Client, Server}
use Rattle.wtp_connection.specs.declared.settings.PeerSettings.{PeerSettings}
use Rattle.wtp_connection.specs.declared.connection.Known.TheVariants as known
use Rattle.wtp_connection.specs.declared.stream.Stream.{Stream as Frames}
use Rattle.wtp_connection.specs.Settings.{value_of, values_of, is_on, with_defaults}
use Rattle.wtp_connection.specs.Streams.{abandons as abandons_frames}
use Rattle.wtp_connection.specs.declared.stream.Stream.TheVariants as frames
use Rattle.wtp_messages.specs.declared.message.Message.{Message}
use Rattle.wtp_messages.specs.declared.response.Asked.{Asked}
use Rattle.wtp_messages.specs.declared.response.Asked.TheVariants as asked
use Rattle.wtp_messages.specs.Request.{is_connect, asks_for_session}
use Rattle.wtp_webtransport.specs.declared.connection.Connection.{Connection}
use Rattle.wtp_webtransport.specs.declared.connection.messages.Asks.TheVariants as asks
use Rattle.wtp_webtransport.specs.declared.fault.Fault.TheVariants as fault
use Rattle.wtp_webtransport.specs.declared.stream.Stream.{Stream}
use Rattle.wtp_webtransport.specs.declared.stream.Part.{Part}
use Rattle.wtp_webtransport.specs.declared.stream.Part.TheVariants as part
use Rattle.wtp_webtransport.specs.Capsules.{Place}
use Rattle.wtp_webtransport.specs.Calls.{IsSession}
use Rattle.wtp_webtransport.specs.Events.{StreamError, More}
use Rattle.wtp_webtransport.specs.Joining.{is_request, is_beyond, rejected_by, rejects}
use Rattle.wtp_webtransport.specs.Sessions.{enables_webtransport, allows_connect, enables_sessions, allows_sessions, asks_session, asks_connect, asks_by, asks_of, known_by_part, known_of, message_at_server, message_at_client, known_at_message, head_at_client, known_of_head, known_of_request, none_at_client, none_at, known_by_frames}
use Rattle.wtp_webtransport.specs.Streams.{answered_by, answered, with_part, connects}
use Rattle.wtp_webtransport.specs.Enabling.{EnablesWebTransport, EnablesConnect, EnableSessions, IsRequest}

-- ---- booleans

first_of : (a b : Bool) → (a && b) ≡ true → a ≡ true
first_of true b e = refl
first_of false b e = e

second_of : (a b : Bool) → (a && b) ≡ true → b ≡ true
second_of true b e = e
second_of false b e = absurd (false≢true e)

one_of : (a b : Bool) → (a || b) ≡ true → (a ≡ true) ⊎ (b ≡ true)
one_of true b e = inl refl
one_of false b e = inr e

-- ---- settings

on_is : (o : Option ℕ) → is_on o ≡ true → o ≡ Some 1
on_is None e = absurd (false≢true e)
on_is (Some n) e = ap (λ (k : ℕ). Some k) (eqb-true n 1 e)

is_then_on : (o : Option ℕ) → o ≡ Some 1 → is_on o ≡ true
is_then_on o e = ap is_on e

positive_is : (o : Option ℕ) → ltb 0 (unwrap_or o 0) ≡ true → (n : ℕ) × (o ≡ Some n) × (0 < n)
positive_is None e = absurd (omega (arith, ltb-true 0 0 e))
positive_is (Some n) e = (n, refl, ltb-true 0 n e)

is_then_positive : (o : Option ℕ) (n : ℕ) → o ≡ Some n → 0 < n → ltb 0 (unwrap_or o 0) ≡ true
is_then_positive o n e l = ap (λ (x : Option ℕ). ltb 0 (unwrap_or x 0)) e ∙ lt-ltb 0 n l

-- by the three settings
enabled_by : (a b c : Option ℕ) → ((is_on a || ltb 0 (unwrap_or b 0)) || ltb 0 (unwrap_or c 0)) ≡ true → (a ≡ Some 1) ⊎ (((n : ℕ) × (b ≡ Some n) × (0 < n)) ⊎ ((n : ℕ) × (c ≡ Some n) × (0 < n)))
enabled_by a b c e = elim (one_of (is_on a || ltb 0 (unwrap_or b 0)) (ltb 0 (unwrap_or c 0)) e) [
  | inr last ↦ inr (inr (positive_is c last))
  | inl other ↦ elim (one_of (is_on a) (ltb 0 (unwrap_or b 0)) other) [
    | inl first ↦ inl (on_is a first)
    | inr second ↦ inr (inl (positive_is b second))
  ]
]

enabled_is : (ps : List (ℕ × ℕ)) → enables_webtransport (with_defaults (values_of ps)) ≡ true → EnablesWebTransport ps
enabled_is ps e = enabled_by (value_of 0x2b603742 ps) (value_of 0xc671706a ps) (value_of 0x14e9cd29 ps) e

then_enabled : (a b c : Option ℕ) → ((a ≡ Some 1) ⊎ (((n : ℕ) × (b ≡ Some n) × (0 < n)) ⊎ ((n : ℕ) × (c ≡ Some n) × (0 < n)))) → ((is_on a || ltb 0 (unwrap_or b 0)) || ltb 0 (unwrap_or c 0)) ≡ true
then_enabled a b c (inl h) = or_left (is_on a || ltb 0 (unwrap_or b 0)) (ltb 0 (unwrap_or c 0)) (or_left (is_on a) (ltb 0 (unwrap_or b 0)) (is_then_on a h))
then_enabled a b c (inr (inl (n, h, l))) = or_left (is_on a || ltb 0 (unwrap_or b 0)) (ltb 0 (unwrap_or c 0)) (or_right (is_on a) (ltb 0 (unwrap_or b 0)) (is_then_positive b n h l))
then_enabled a b c (inr (inr (n, h, l))) = or_right (is_on a || ltb 0 (unwrap_or b 0)) (ltb 0 (unwrap_or c 0)) (is_then_positive c n h l)

is_then_enabled : (ps : List (ℕ × ℕ)) → EnablesWebTransport ps → enables_webtransport (with_defaults (values_of ps)) ≡ true
is_then_enabled ps h = then_enabled (value_of 0x2b603742 ps) (value_of 0xc671706a ps) (value_of 0x14e9cd29 ps) h

connect_is : (side : Side) (own : Bool) (ps : List (ℕ × ℕ)) → allows_connect side own (with_defaults (values_of ps)) ≡ true → EnablesConnect side own ps
connect_is Client own ps e = on_is (value_of 0x08 ps) e
connect_is Server own ps e = e

is_then_connect : (side : Side) (own : Bool) (ps : List (ℕ × ℕ)) → EnablesConnect side own ps → allows_connect side own (with_defaults (values_of ps)) ≡ true
is_then_connect Client own ps h = is_then_on (value_of 0x08 ps) h
is_then_connect Server own ps h = h

-- what allows sessions, beside that SETTINGS came
abbrev allowing : Connection → PeerSettings → Bool
allowing c v = enables_sessions c.endpoint && (v.h3_datagram && (enables_webtransport v && allows_connect c.endpoint.side c.extended v))

allowing_with : (c : Connection) (v : PeerSettings) → c.configured ≡ true → c.streams.peer ≡ v → allows_sessions c ≡ allowing c v
allowing_with c v came is = ap (λ (b : Bool). b && allowing c c.streams.peer) came ∙ ap (λ (x : PeerSettings). allowing c x) is

pub sessions_allowed : (c : Connection) (ps : List (ℕ × ℕ)) → c.configured ≡ true → c.streams.peer ≡ with_defaults (values_of ps) → EnableSessions c.endpoint c.extended ps → allows_sessions c ≡ true
sessions_allowed c ps came is h =
    let v : PeerSettings = with_defaults (values_of ps) in
    allowing_with c v came is
    ∙ and_from (enables_sessions c.endpoint) (v.h3_datagram && (enables_webtransport v && allows_connect c.endpoint.side c.extended v))
    (and_from c.endpoint.webtransport c.endpoint.datagrams h.own_webtransport h.own_datagrams)
    (and_from v.h3_datagram (enables_webtransport v && allows_connect c.endpoint.side c.extended v) (is_then_on (value_of 0x33 ps) h.datagrams)
    (and_from (enables_webtransport v) (allows_connect c.endpoint.side c.extended v) (is_then_enabled ps h.webtransport) (is_then_connect c.endpoint.side c.extended ps h.connect)))

pub sessions_need : (c : Connection) (ps : List (ℕ × ℕ)) → c.configured ≡ true → c.streams.peer ≡ with_defaults (values_of ps) → allows_sessions c ≡ true → EnableSessions c.endpoint c.extended ps
sessions_need c ps came is e =
    let v : PeerSettings = with_defaults (values_of ps) in
    let rest : Bool = enables_webtransport v && allows_connect c.endpoint.side c.extended v in
    let all : allowing c v ≡ true = sym (allowing_with c v came is) ∙ e in
    let own : enables_sessions c.endpoint ≡ true = first_of (enables_sessions c.endpoint) (v.h3_datagram && rest) all in
    let peer : (v.h3_datagram && rest) ≡ true = second_of (enables_sessions c.endpoint) (v.h3_datagram && rest) all in
    let both : rest ≡ true = second_of v.h3_datagram rest peer in
    record {
      own_webtransport = first_of c.endpoint.webtransport c.endpoint.datagrams own;
      own_datagrams = second_of c.endpoint.webtransport c.endpoint.datagrams own;
      datagrams = on_is (value_of 0x33 ps) (first_of v.h3_datagram rest peer);
      webtransport = enabled_is ps (first_of (enables_webtransport v) (allows_connect c.endpoint.side c.extended v) both);
      connect = connect_is c.endpoint.side c.extended ps (second_of (enables_webtransport v) (allows_connect c.endpoint.side c.extended v) both);
    }

pub none_before_settings : (c : Connection) → c.configured ≡ false → allows_sessions c ≡ false
none_before_settings c early = ap (λ (b : Bool). b && allowing c c.streams.peer) early

-- ---- requests

came_before : (c : Connection) → allows_sessions c ≡ true → c.configured ≡ true
came_before c e = first_of c.configured (allowing c c.streams.peer) e

enabled_own : (c : Connection) → allows_sessions c ≡ true → c.endpoint.webtransport ≡ true
enabled_own c e = first_of c.endpoint.webtransport c.endpoint.datagrams (first_of (enables_sessions c.endpoint) (c.streams.peer.h3_datagram && (enables_webtransport c.streams.peer && allows_connect c.endpoint.side c.extended c.streams.peer)) (second_of c.configured (allowing c c.streams.peer) e))

-- what a request asks for, by what it has
asks_with : (c : Connection) (fields : List Field) (connect session : Bool) → is_connect fields ≡ connect → asks_for_session fields ≡ session → asks_of c fields ≡ asks_by c connect session
asks_with c fields connect session a b = ap (λ (x : Bool). asks_by c x (asks_for_session fields)) a ∙ ap (λ (x : Bool). asks_by c connect x) b

pub session_asked : (c : Connection) (fields : List Field) → is_connect fields ≡ true → asks_for_session fields ≡ true → allows_sessions c ≡ true → asks_of c fields ≡ asks.Session
session_asked c fields a b e =
    asks_with c fields true true a b
    ∙ ap (λ (x : Bool). asks_connect c (x && true)) (enabled_own c e)
    ∙ ap (λ (x : Bool). asks_session x (allows_sessions c)) (came_before c e)
    ∙ ap (λ (x : Bool). asks_session true x) e

-- only such a request asks for one
session_by : (came allowed : Bool) → asks_session came allowed ≡ asks.Session → allowed ≡ true
session_by false allowed e = absurd (cc e)
session_by true true e = refl
session_by true false e = absurd (cc e)

session_needs : (connect own session : Bool) (c : Connection) → c.endpoint.webtransport ≡ own → asks_by c connect session ≡ asks.Session → (connect ≡ true) × (session ≡ true) × (allows_sessions c ≡ true)
session_needs false own session c is e = absurd (cc e)
session_needs true true true c is e = (refl, refl, session_by c.configured (allows_sessions c) (sym (ap (λ (x : Bool). asks_connect c (x && true)) is) ∙ e))
session_needs true true false c is e = absurd (cc (sym (ap (λ (x : Bool). asks_connect c (x && false)) is) ∙ e))
session_needs true false session c is e = absurd (cc (sym (ap (λ (x : Bool). asks_connect c (x && session)) is) ∙ e))

pub asked_session : (c : Connection) (fields : List Field) → asks_of c fields ≡ asks.Session → (is_connect fields ≡ true) × (asks_for_session fields ≡ true) × (allows_sessions c ≡ true)
asked_session c fields e = session_needs (is_connect fields) c.endpoint.webtransport (asks_for_session fields) c refl e

pub asked_early : (c : Connection) (fields : List Field) → is_connect fields ≡ true → asks_for_session fields ≡ true → c.endpoint.webtransport ≡ true → c.configured ≡ false → asks_of c fields ≡ asks.TooEarly
asked_early c fields a b own early =
    asks_with c fields true true a b
    ∙ ap (λ (x : Bool). asks_connect c (x && true)) own
    ∙ ap (λ (x : Bool). asks_session x (allows_sessions c)) early

pub asked_other : (c : Connection) (fields : List Field) → is_connect fields ≡ true → asks_for_session fields ≡ false → asks_of c fields ≡ asks.Tunnel
asked_other c fields a b = asks_with c fields true false a b ∙ off c.endpoint.webtransport
  where
    off : (on : Bool) → asks_connect c (on && false) ≡ asks.Tunnel
    off true = refl
    off false = refl

pub asked_disabled : (c : Connection) (fields : List Field) → is_connect fields ≡ true → c.endpoint.webtransport ≡ false → asks_of c fields ≡ asks.Tunnel
asked_disabled c fields a off =
    asks_with c fields true (asks_for_session fields) a refl
    ∙ ap (λ (x : Bool). asks_connect c (x && asks_for_session fields)) off

tunnel_by : (c : Connection) (session : Bool) → c.configured ≡ true → allows_sessions c ≡ false → asks_connect c session ≡ asks.Tunnel
tunnel_by c false came not_allowed = refl
tunnel_by c true came not_allowed = ap (λ (x : Bool). asks_session x (allows_sessions c)) came ∙ ap (λ (x : Bool). asks_session true x) not_allowed

pub asked_in_vain : (c : Connection) (fields : List Field) → is_connect fields ≡ true → c.configured ≡ true → allows_sessions c ≡ false → asks_of c fields ≡ asks.Tunnel
asked_in_vain c fields a came not_allowed = asks_with c fields true (asks_for_session fields) a refl ∙ tunnel_by c (c.endpoint.webtransport && asks_for_session fields) came not_allowed

pub asked_plain : (c : Connection) (fields : List Field) → is_connect fields ≡ false → asks_of c fields ≡ asks.Plain
asked_plain c fields a = asks_with c fields false (asks_for_session fields) a refl

-- ---- requests after GOAWAY

goes_on : (p : Part) → IsRequest p → is_request Server p ≡ true
goes_on (part.Head m) h = refl
goes_on (part.Unanswered session m) h = refl
goes_on (part.Body m) h = refl
goes_on part.NoMessage h = absurd h
goes_on part.OfSession h = absurd h
goes_on part.Tunnel h = absurd h
goes_on (part.Session size) h = absurd h
goes_on (part.Closed more) h = absurd h
goes_on part.Ending h = absurd h
goes_on part.Losing h = absurd h
goes_on part.Past h = absurd h

goes_not : (p : Part) → (IsRequest p → ⊥) → is_request Server p ≡ false
goes_not (part.Head m) h = absurd (h tt)
goes_not (part.Unanswered session m) h = absurd (h tt)
goes_not (part.Body m) h = absurd (h tt)
goes_not other h = refl

rejecting : (over going beyond : Bool) (c : Connection) (s : Stream) → over ≡ false → going ≡ true → beyond ≡ true → (cond (not over && (going && beyond)) (rejected_by c s (abandons_frames c.streams s.frames)) (More, c, s)).0 ≡ StreamError fault.Rejected
rejecting over going beyond c s a b d = ap (λ (x : Bool). (cond (not x && (going && beyond)) (rejected_by c s (abandons_frames c.streams s.frames)) (More, c, s)).0) a ∙ ap (λ (x : Bool). (cond (x && beyond) (rejected_by c s (abandons_frames c.streams s.frames)) (More, c, s)).0) b ∙ ap (λ (x : Bool). (cond x (rejected_by c s (abandons_frames c.streams s.frames)) (More, c, s)).0) d

pub request_rejected : (c : Connection) (s : Stream) (id first : ℕ) → c.over ≡ false → c.endpoint.side ≡ Server → IsRequest s.part → first ≤ id → (rejects c s id (Some first)).0 ≡ StreamError fault.Rejected
request_rejected c s id first over side going l = rejecting c.over (is_request c.endpoint.side s.part) (is_beyond (Some first) id) c s over (ap (λ (x : Side). is_request x s.part) side ∙ goes_on s.part going) (le-leb first id l)

left_alone : (a b d : Bool) (c : Connection) (s : Stream) → (b ≡ false) ⊎ (d ≡ false) → cond (a && (b && d)) (rejected_by c s (abandons_frames c.streams s.frames)) (More, c, s) ≡ (More, c, s)
left_alone false b d c s h = refl
left_alone true false d c s h = refl
left_alone true true false c s h = refl
left_alone true true true c s (inl h) = absurd (false≢true (sym h))
left_alone true true true c s (inr h) = absurd (false≢true (sym h))

pub request_processed : (c : Connection) (s : Stream) (id first : ℕ) → id < first → rejects c s id (Some first) ≡ (More, c, s)
request_processed c s id first l = left_alone (not c.over) (is_request c.endpoint.side s.part) (is_beyond (Some first) id) c s (inr (lt-leb first id l))

pub no_goaway : (c : Connection) (s : Stream) (id : ℕ) → rejects c s id None ≡ (More, c, s)
no_goaway c s id = left_alone (not c.over) (is_request c.endpoint.side s.part) false c s (inr refl)

pub no_request : (c : Connection) (s : Stream) (id : ℕ) (goaway : Option ℕ) → (IsRequest s.part → ⊥) → rejects c s id goaway ≡ (More, c, s)
no_request c s id goaway h = left_alone (not c.over) (is_request c.endpoint.side s.part) (is_beyond goaway id) c s (inl (by_side c.endpoint.side))
  where
    by_side : (side : Side) → is_request side s.part ≡ false
    by_side Client = refl
    by_side Server = goes_not s.part h

pub no_server : (c : Connection) (s : Stream) (id : ℕ) (goaway : Option ℕ) → c.endpoint.side ≡ Client → rejects c s id goaway ≡ (More, c, s)
no_server c s id goaway side = left_alone (not c.over) (is_request c.endpoint.side s.part) (is_beyond goaway id) c s (inl (ap (λ (x : Side). is_request x s.part) side))

-- ---- what is known by the answer

answered_is : (s : Stream) (p : Part) (status : ℕ) → s.part ≡ p → answered s status ≡ answered_by s p status
answered_is s p status e = ap (λ (x : Part). answered_by s x status) e

pub open_by_answer : (c : Connection) (s : Stream) (m : Message) (status : ℕ) → s.part ≡ part.Unanswered true m → 200 ≤ status → status < 300 → known_of c (answered s status) ≡ known.Open
open_by_answer c s m status e l h =
    ap (λ (x : Stream). known_of c x) (answered_is s (part.Unanswered true m) status e)
    ∙ rw (lt-ltb 199 status (omega (arith, l)), lt-ltb status 300 h) refl

abbrev refusing : Stream → Message → ℕ → Stream
refusing s m status = cond (leb 300 status) (with_part s (part.Body m)) s

not_success : (a b : Bool) (x y : Stream) → (a ≡ false) ⊎ (b ≡ false) → cond (a && b) x y ≡ y
not_success false b x y h = refl
not_success true false x y h = refl
not_success true true x y (inl h) = absurd (false≢true (sym h))
not_success true true x y (inr h) = absurd (false≢true (sym h))

pub refused_by_answer : (c : Connection) (s : Stream) (session : Bool) (m : Message) (status : ℕ) → s.part ≡ part.Unanswered session m → 300 ≤ status → (answered s status) ≡ with_part s (part.Body m)
refused_by_answer c s session m status e l =
    answered_is s (part.Unanswered session m) status e
    ∙ not_success (ltb 199 status) (ltb status 300) (connects s session) (refusing s m status) (inr (le-ltb status 300 l))
    ∙ ap (λ (b : Bool). cond b (with_part s (part.Body m)) s) (le-leb 300 status l)

pub refused_session : (c : Connection) (s : Stream) (m : Message) (p : Place) (status : ℕ) → c.endpoint.side ≡ Server → s.part ≡ part.Unanswered true m → s.capsules ≡ Some p → 300 ≤ status → known_of c (answered s status) ≡ known.Refused
refused_session c s m p status side e capsules l =
    ap (λ (x : Stream). known_of c x) (refused_by_answer c s true m status e l)
    ∙ ap (λ (x : Side). known_at_message x (with_part s (part.Body m))) side
    ∙ ap message_at_server capsules

pub known_as_other : (c : Connection) (s : Stream) (m : Message) → c.endpoint.side ≡ Server → s.capsules ≡ None → (s.part ≡ part.Body m) ⊎ (s.part ≡ part.Unanswered false m) → known_of c s ≡ known.Other
known_as_other c s m side none (inl e) = ap (λ (x : Part). known_by_part x c s) e ∙ ap (λ (x : Side). known_at_message x s) side ∙ ap message_at_server none
known_as_other c s m side none (inr e) = ap (λ (x : Part). known_by_part x c s) e ∙ ap (λ (x : Side). known_at_message x s) side ∙ ap message_at_server none

pub known_as_member : (c : Connection) (s : Stream) → s.part ≡ part.OfSession → known_of c s ≡ known.Impossible
known_as_member c s e = ap (λ (x : Part). known_by_part x c s) e

-- only an open session is known as such
server_message : (x : Option Place) → message_at_server x ≡ known.Open → ⊥
server_message None e = cc e
server_message (Some p) e = cc e

client_message : (a : Option Asked) → message_at_client a ≡ known.Open → ⊥
client_message None e = cc e
client_message (Some asked.Session) e = cc e
client_message (Some other) e = cc e

no_message : (side : Side) (s : Stream) → known_at_message side s ≡ known.Open → ⊥
no_message Server s e = server_message s.capsules e
no_message Client s e = client_message s.asked e

client_head : (a : Option Asked) → head_at_client a ≡ known.Open → ⊥
client_head None e = cc e
client_head (Some asked.Session) e = cc e
client_head (Some other) e = client_message (Some other) e

no_head : (side : Side) (a : Option Asked) → known_of_head side a ≡ known.Open → ⊥
no_head Server a e = cc e
no_head Client a e = client_head a e

client_none : (a : Option Asked) → none_at_client a ≡ known.Open → ⊥
client_none None e = cc e
client_none (Some asked.Session) e = cc e
client_none (Some other) e = cc e

no_stream : (side : Side) (a : Option Asked) → none_at side a ≡ known.Open → ⊥
no_stream Server a e = cc e
no_stream Client a e = client_none a e

no_other : (t : Frames) (side : Side) (a : Option Asked) → known_by_frames t side a ≡ known.Open → ⊥
no_other frames.Bi Server a e = cc e
no_other frames.Bi Client a e = client_none a e
no_other t side a e = no_stream side a e

no_request_open : (session : Bool) (c : Connection) (s : Stream) → known_of_request session c s ≡ known.Open → ⊥
no_request_open true c s e = cc e
no_request_open false c s e = no_message c.endpoint.side s e

open_by : (p : Part) (c : Connection) (s : Stream) → known_by_part p c s ≡ known.Open → IsSession p
open_by (part.Session size) c s e = tt
open_by (part.Closed more) c s e = absurd (cc e)
open_by part.Ending c s e = absurd (cc e)
open_by part.Losing c s e = absurd (cc e)
open_by part.Past c s e = absurd (cc e)
open_by (part.Unanswered session m) c s e = absurd (no_request_open session c s e)
open_by (part.Head m) c s e = absurd (no_head c.endpoint.side s.asked e)
open_by part.OfSession c s e = absurd (cc e)
open_by part.NoMessage c s e = absurd (no_other s.frames c.endpoint.side s.asked e)
open_by (part.Body m) c s e = absurd (no_message c.endpoint.side s e)
open_by part.Tunnel c s e = absurd (no_message c.endpoint.side s e)

pub open_alone : (c : Connection) (s : Stream) → known_of c s ≡ known.Open → IsSession s.part
open_alone c s e = open_by s.part c s e
