-- The heads of messages, as the other end receives them.
use Rattle.std.proofs.Common.{◌≡◌, ℕ, ◌+◌, ◌<◌, ◌&&◌, Bool, true, false, cond, List, Option, Some, None, Ok, refl, sym, ap, subst, ◌∙◌, arith}
use Rattle.wtp_qpack.specs.Field.{Field}
use Rattle.wtp_frames.specs.declared.endpoint.Endpoint.{Endpoint}
use Rattle.wtp_frames.specs.declared.endpoint.Side.TheVariants.{Client}
use Rattle.wtp_frames.specs.declared.fault.Fault.{Fault as StreamFault}
use Rattle.wtp_frames.specs.declared.reader.Place.TheVariants as reading
use Rattle.wtp_frames.specs.declared.reader.Reader.{Reader}
use Rattle.wtp_frames.specs.Start.{awaiting}
use Rattle.wtp_frames.proofs.InterimLemmas.{one_more}
use Rattle.wtp_connection.specs.declared.stream.Stream.TheVariants as frames
use Rattle.wtp_connection.specs.Streams.{by_interim, tells_open}
use Rattle.wtp_messages.specs.declared.message.Message.{Message}
use Rattle.wtp_messages.specs.declared.message.Role.{Role}
use Rattle.wtp_messages.specs.declared.message.Role.TheVariants as role
use Rattle.wtp_messages.specs.declared.message.Section.{Section}
use Rattle.wtp_messages.specs.declared.message.Section.TheVariants as found
use Rattle.wtp_messages.specs.declared.response.Asked.{Asked}
use Rattle.wtp_messages.specs.declared.response.Asked.TheVariants as asked
use Rattle.wtp_messages.specs.Request.{is_connect, asks_for_session}
use Rattle.wtp_messages.specs.Response.{is_success, status_of}
use Rattle.wtp_sending.specs.declared.message.Place.{Place}
use Rattle.wtp_sending.specs.declared.message.Place.TheVariants as sent
use Rattle.wtp_sending.specs.declared.message.Sending.{Sending}
use Rattle.wtp_sending.specs.Encoded.{SendsHeadAs}
use Rattle.wtp_sending.specs.Message.{IsAllowed, interims_of, is_head, after_head, after_response}
use Rattle.wtp_sending.specs.Sent.{reads_data}
use Rattle.wtp_webtransport.specs.declared.connection.Connection.{Connection}
use Rattle.wtp_webtransport.specs.declared.stream.Stream.{Stream}
use Rattle.wtp_webtransport.specs.declared.stream.Part.TheVariants as part
use Rattle.wtp_webtransport.specs.declared.event.HeadersKind.TheVariants as headers
use Rattle.wtp_webtransport.specs.Events.{Told, Headers, SessionRequested}
use Rattle.wtp_webtransport.specs.Sessions.{asks_by, asks_connect, asks_session, allows_sessions}
use Rattle.wtp_webtransport.specs.Streams.{with_frames, with_part, with_session, connects}
use Rattle.wtp_webtransport.specs.Receiving.{span_in, takes, taken_of, request_by, interim_by, response_in, in_connection}
use Rattle.wtp_webtransport.specs.Calls.{Continues, course_of}
use Rattle.wtp_messages.specs.Message.{SectionComes}
use Rattle.wtp_pairs.specs.Reads.{IsGoing}
use Rattle.wtp_pairs.specs.Encoded.{noted_in, IsReadable, IsEncodedRead}
use Rattle.wtp_pairs.specs.Messages.{AgreesAt, IsFor, Agrees, response_told}
use Rattle.wtp_pairs.proofs.MessageLemmas.{IsAnswer, Early, Final, BeforeIt, request_found, response_comes, level, at_head, head_agrees, section_reads}
use Rattle.wtp_pairs.proofs.ReaderLemmas.{head_first, head_part}

-- ---- requests

abbrev pub head_stream : Endpoint → ℕ → Stream → Stream
head_stream e k t = with_frames t (frames.Frames (reads_data e k reading.Body false 0) true)

pub content_at : (e : Endpoint) (k : ℕ) (m : Message) (t : Stream) → AgreesAt e sent.Content 0 m (with_part (head_stream e k t) (part.Body m))
content_at e k m t = record {
  interims = k;
  streamed = false;
  given = true;
  message = m;
  frames = refl;
  part = refl;
  behind = level m;
  streaming = λ l. absurd (omega (arith, l));
}

-- the call, by what it takes
pub taken_call : (limit : ℕ) (e : Endpoint) (c : Connection) (old new : Sending) (section : List ℕ) (fields : List Field) (need : Option ℕ) (t u : Stream) (y : Section) (told : Told) (a : Agrees e old t) (h : SendsHeadAs section old fields new) → IsGoing c → IsReadable e limit c section fields need → h.head.found ≡ y → course_of told ≡ Continues
    → ((start end : ℕ) (bytes : List ℕ) → takes c (head_stream e (interims_of old.place) t) new.message fields (span_in start end bytes) (taken_of (Ok y)) ≡ (end, told, c, u))
    → IsEncodedRead e limit c t section told (noted_in need c) u
taken_call limit e c old new section fields need t u y told a h going within is continues gives =
    let at = (at_head e old section fields new t a h).0 in
    section_reads limit e c t (awaiting e (interims_of old.place)) (reads_data e (interims_of old.place) reading.Body false 0) at.given old.message new.message y section fields need told u going within a.read at.frames (BeforeIt at.part)
    (λ more. head_first e (interims_of old.place) section more h.framed within.encoded)
    (λ x b parts some. head_part e (interims_of old.place) section x b h.framed within.encoded parts some)
    (subst (λ (z : Section). SectionComes old.message.stage old.message fields (Ok z) new.message) is h.head.comes) continues gives

-- a request that is no CONNECT
pub request_read : (limit : ℕ) (e : Endpoint) (c : Connection) (old new : Sending) (section : List ℕ) (fields : List Field) (need : Option ℕ) (t : Stream) (extended : Bool) → IsGoing c → IsReadable e limit c section fields need → Agrees e old t → old.role ≡ role.Request extended → SendsHeadAs section old fields new → is_connect fields ≡ false
    → (u : Stream) × IsEncodedRead e limit c t section (Headers headers.Request fields) (noted_in need c) u × Agrees e new u
request_read limit e c old new section fields need t extended going within a is h plain =
    let found_is = request_found old.message.stage extended old.message new.message fields h.head.found old.peer (interims_of old.place) (a.own ∙ is) h.head.comes h.head.allowed in
    let u : Stream = with_part (head_stream e (interims_of old.place) t) (part.Body new.message) in (
      u,
      taken_call limit e c old new section fields need t u (found.Request (found_is.0)) (Headers headers.Request fields) a h going within (found_is.1) refl
          (λ start end bytes. ap (λ (b : Bool). request_by (asks_by c b (asks_for_session fields)) c (head_stream e (interims_of old.place) t) new.message fields (span_in start end bytes)) plain),
      head_agrees e old new section fields t u sent.Content a h
          (sym h.head.leads ∙ ap (λ (y : Section). after_head old.role (interims_of old.place) fields y) (found_is.1) ∙ ap (λ (b : Bool). cond b (sent.Connecting (asks_for_session fields)) sent.Content) plain)
          a.read refl (content_at e (interims_of old.place) new.message t),
    )

-- a request for a session, which the settings of both ends allow
pub session_read : (limit : ℕ) (e : Endpoint) (c : Connection) (old new : Sending) (section : List ℕ) (fields : List Field) (need : Option ℕ) (t : Stream) (extended : Bool) → IsGoing c → IsReadable e limit c section fields need → Agrees e old t → old.role ≡ role.Request extended → SendsHeadAs section old fields new → is_connect fields ≡ true → asks_for_session fields ≡ true → allows_sessions c ≡ true
    → (u : Stream) × IsEncodedRead e limit c t section (SessionRequested fields) (noted_in need c) u × Agrees e new u
session_read limit e c old new section fields need t extended going within a is h connects_it asks_it allows =
    let found_is = request_found old.message.stage extended old.message new.message fields h.head.found old.peer (interims_of old.place) (a.own ∙ is) h.head.comes h.head.allowed in
    let u : Stream = with_session (with_part (head_stream e (interims_of old.place) t) (part.Unanswered true new.message)) in (
      u,
      taken_call limit e c old new section fields need t u (found.Request (found_is.0)) (SessionRequested fields) a h going within (found_is.1) refl
          (λ start end bytes.
          ap (λ (b : Bool). request_by (asks_by c b (asks_for_session fields)) c (head_stream e (interims_of old.place) t) new.message fields (span_in start end bytes)) connects_it
          ∙ ap (λ (b : Bool). request_by (asks_connect c (c.endpoint.webtransport && b)) c (head_stream e (interims_of old.place) t) new.message fields (span_in start end bytes)) asks_it
          ∙ ap (λ (b : Bool). request_by (asks_connect c (b && true)) c (head_stream e (interims_of old.place) t) new.message fields (span_in start end bytes)) (enabled_by c allows)
          ∙ ap (λ (b : Bool). request_by (asks_session b (allows_sessions c)) c (head_stream e (interims_of old.place) t) new.message fields (span_in start end bytes)) (configured_by c allows)
          ∙ ap (λ (b : Bool). request_by (asks_session true b) c (head_stream e (interims_of old.place) t) new.message fields (span_in start end bytes)) allows),
      head_agrees e old new section fields t u (sent.Connecting true) a h
          (sym h.head.leads ∙ ap (λ (y : Section). after_head old.role (interims_of old.place) fields y) (found_is.1) ∙ rw (connects_it, asks_it) refl)
          a.read refl (
            record {
              interims = interims_of old.place;
              streamed = false;
              given = true;
              frames = refl;
              part = refl;
              capsules = λ e. refl;
            },
            refl,
          ),
    )
  where
    first_of : (a b : Bool) → (a && b) ≡ true → a ≡ true
    first_of true b e = refl
    first_of false b e = absurd cc

    second_of : (a b : Bool) → (a && b) ≡ true → b ≡ true
    second_of true b e = e
    second_of false b e = absurd cc

    configured_by : (c : Connection) → allows_sessions c ≡ true → c.configured ≡ true
    configured_by c h = first_of c.configured _ h

    enabled_by : (c : Connection) → allows_sessions c ≡ true → c.endpoint.webtransport ≡ true
    enabled_by c h = first_of c.endpoint.webtransport c.endpoint.datagrams (first_of (c.endpoint.webtransport && c.endpoint.datagrams) _ (second_of c.configured _ h))

-- any other CONNECT request
pub connect_read : (limit : ℕ) (e : Endpoint) (c : Connection) (old new : Sending) (section : List ℕ) (fields : List Field) (need : Option ℕ) (t : Stream) (extended : Bool) → IsGoing c → IsReadable e limit c section fields need → Agrees e old t → old.role ≡ role.Request extended → SendsHeadAs section old fields new → is_connect fields ≡ true → asks_for_session fields ≡ false
    → (u : Stream) × IsEncodedRead e limit c t section (Headers headers.Request fields) (noted_in need c) u × Agrees e new u
connect_read limit e c old new section fields need t extended going within a is h connects_it asks_it =
    let found_is = request_found old.message.stage extended old.message new.message fields h.head.found old.peer (interims_of old.place) (a.own ∙ is) h.head.comes h.head.allowed in
    let u : Stream = with_part (head_stream e (interims_of old.place) t) (part.Unanswered false new.message) in (
      u,
      taken_call limit e c old new section fields need t u (found.Request (found_is.0)) (Headers headers.Request fields) a h going within (found_is.1) refl
          (λ start end bytes.
          ap (λ (b : Bool). request_by (asks_by c b (asks_for_session fields)) c (head_stream e (interims_of old.place) t) new.message fields (span_in start end bytes)) connects_it
          ∙ ap (λ (b : Bool). request_by (asks_connect c (c.endpoint.webtransport && b)) c (head_stream e (interims_of old.place) t) new.message fields (span_in start end bytes)) asks_it
          ∙ ap (λ (b : Bool). request_by (asks_connect c b) c (head_stream e (interims_of old.place) t) new.message fields (span_in start end bytes)) (and_false c.endpoint.webtransport)),
      head_agrees e old new section fields t u (sent.Connecting false) a h
          (sym h.head.leads ∙ ap (λ (y : Section). after_head old.role (interims_of old.place) fields y) (found_is.1) ∙ rw (connects_it, asks_it) refl)
          a.read refl (
            record {
              interims = interims_of old.place;
              streamed = false;
              given = true;
              frames = refl;
              part = refl;
              capsules = λ e. absurd (no_true e);
            },
            refl,
          ),
    )
  where
    and_false : (b : Bool) → (b && false) ≡ false
    and_false true = refl
    and_false false = refl

    no_true : false ≡ true → ⊥
    no_true e = cc

-- ---- responses

-- an interim one, to a client
pub interim_read : (limit : ℕ) (e : Endpoint) (c : Connection) (old new : Sending) (section : List ℕ) (fields : List Field) (need : Option ℕ) (t : Stream) (asked : Asked) (status k : ℕ) → IsGoing c → IsReadable e limit c section fields need → e.side ≡ Client → Agrees e old t → old.role ≡ role.Response asked → SendsHeadAs section old fields new → status_of fields ≡ Some status → new.place ≡ sent.Head k
    → (u : Stream) × IsEncodedRead e limit c t section (Headers (headers.Interim status) fields) (noted_in need c) u × Agrees e new u
interim_read limit e c old new section fields need t a status k going within client agrees is h s head =
    interim_by_answer limit e c old new section fields need t a status k going within client agrees h head
    (response_comes old.message.stage a old.message new.message fields h.head.found old.peer (interims_of old.place) status (agrees.own ∙ is) s h.head.comes h.head.allowed)
  where
    no_head : (r : Role) (status k : ℕ) → after_response r status ≡ sent.Head k → ⊥
    no_head (role.Request extended) status k e = cc
    no_head (role.Response asked.Head) status k e = cc
    no_head (role.Response asked.Connect) status k e = by_bool (is_success (Some status)) sent.Tunnel e
      where
        by_bool : (b : Bool) (p : Place) → cond b sent.Tunnel sent.Content ≡ sent.Head k → ⊥
        by_bool true p e = cc
        by_bool false p e = cc
    no_head (role.Response asked.Session) status k e = by_bool (is_success (Some status)) sent.Session e
      where
        by_bool : (b : Bool) (p : Place) → cond b sent.Session sent.Content ≡ sent.Head k → ⊥
        by_bool true p e = cc
        by_bool false p e = cc
    no_head (role.Response asked.Other) status k e = cc

    interim_by_answer : (limit : ℕ) (e : Endpoint) (c : Connection) (old new : Sending) (section : List ℕ) (fields : List Field) (need : Option ℕ) (t : Stream) (a : Asked) (status k : ℕ) → IsGoing c → IsReadable e limit c section fields need → e.side ≡ Client → Agrees e old t → (h : SendsHeadAs section old fields new) → new.place ≡ sent.Head k → IsAnswer status old.message new.message h.head.found
        → (u : Stream) × IsEncodedRead e limit c t section (Headers (headers.Interim status) fields) (noted_in need c) u × Agrees e new u
    interim_by_answer limit e c old new section fields need t a status k going within client agrees h head (Early r f is same) =
        let n = interims_of old.place in
        let u : Stream = with_frames t (frames.Frames (awaiting e (n + 1)) true) in
        let allowed : n < 64 = subst (λ (y : Section). IsAllowed old.peer n fields y) f h.head.allowed in (
          u,
          taken_call limit e c old new section fields need t u (found.Interim r) (Headers (headers.Interim status) fields) agrees h going within f refl
              (λ start end bytes.
              ap (λ (b : Bool). interim_by c (head_stream e n t) r.status fields (span_in start end bytes) (cond b (c.streams, frames.Frames (reads_data e n reading.Body false 0) true, None) (tells_open c.streams (frames.Frames (reads_data e n reading.Body false 0) true)))) going.streams
              ∙ ap (λ (x : Reader × Option StreamFault). interim_by c (head_stream e n t) r.status fields (span_in start end bytes) (by_interim c.streams true x)) (one_more e n client allowed)
              ∙ ap (λ (w : ℕ). (end, Headers (headers.Interim w) fields, c, u)) is),
          head_agrees e old new section fields t u (sent.Head (n + 1)) agrees h
              (sym h.head.leads ∙ ap (λ (y : Section). after_head old.role n fields y) f)
              agrees.read refl (
                record {
                  given = true;
                  frames = refl;
                  part = (at_head e old section fields new t agrees h).0.part ∙ ap (λ (m : Message). part.Head m) (sym same);
                },
                refl,
              ),
        )
    interim_by_answer limit e c old new section fields need t a status k going within client agrees h head (Final r f is) =
        absurd (no_head old.role r.status k (ap (λ (y : Section). after_head old.role (interims_of old.place) fields y) (sym f) ∙ h.head.leads ∙ head))

-- a final one

abbrev final_stream : Asked → Bool → Stream → Message → Stream
final_stream asked.Session true t m = with_session (connects t true)
final_stream asked.Connect true t m = connects t false
final_stream _ b t m = with_part t (part.Body m)

abbrev final_place : Asked → Bool → Place
final_place asked.Session true = sent.Session
final_place asked.Connect true = sent.Tunnel
final_place _ b = sent.Content

final_gives : (a : Asked) (b : Bool) (c : Connection) (t : Stream) (m : Message) (status : ℕ) (fields : List Field) (start end : ℕ) (bytes : List ℕ) → in_connection c (response_in (Some a) b t m status fields (span_in start end bytes)) ≡ (end, response_told a b status fields, c, final_stream a b t m)
final_gives asked.Head b c t m status fields start end bytes = refl
final_gives asked.Connect true c t m status fields start end bytes = refl
final_gives asked.Connect false c t m status fields start end bytes = refl
final_gives asked.Session true c t m status fields start end bytes = refl
final_gives asked.Session false c t m status fields start end bytes = refl
final_gives asked.Other b c t m status fields start end bytes = refl

final_continues : (a : Asked) (b : Bool) (status : ℕ) (fields : List Field) → course_of (response_told a b status fields) ≡ Continues
final_continues asked.Head b status fields = refl
final_continues asked.Connect b status fields = refl
final_continues asked.Session true status fields = refl
final_continues asked.Session false status fields = refl
final_continues asked.Other b status fields = refl

final_leads : (a : Asked) (status : ℕ) → after_response (role.Response a) status ≡ final_place a (is_success (Some status))
final_leads asked.Head status = refl
final_leads asked.Connect status = elim (is_success (Some status)) as (λ b. cond b sent.Tunnel sent.Content ≡ final_place asked.Connect b) [ true ↦ refl | false ↦ refl ]
final_leads asked.Session status = elim (is_success (Some status)) as (λ b. cond b sent.Session sent.Content ≡ final_place asked.Session b) [ true ↦ refl | false ↦ refl ]
final_leads asked.Other status = refl

final_read : (a : Asked) (b : Bool) (t : Stream) (m : Message) → (final_stream a b t m).unread ≡ t.unread
final_read asked.Head b t m = refl
final_read asked.Connect true t m = refl
final_read asked.Connect false t m = refl
final_read asked.Session true t m = refl
final_read asked.Session false t m = refl
final_read asked.Other b t m = refl

final_asked : (a : Asked) (b : Bool) (t : Stream) (m : Message) → (final_stream a b t m).asked ≡ t.asked
final_asked asked.Head b t m = refl
final_asked asked.Connect true t m = refl
final_asked asked.Connect false t m = refl
final_asked asked.Session true t m = refl
final_asked asked.Session false t m = refl
final_asked asked.Other b t m = refl

tunnel_at : (e : Endpoint) (k : ℕ) (m : Message) (t : Stream) → AgreesAt e sent.Tunnel 0 m (connects (head_stream e k t) false)
tunnel_at e k m t = record {
  interims = k;
  streamed = false;
  given = true;
  frames = refl;
  part = refl;
  streaming = λ l. absurd (omega (arith, l));
}

session_at : (e : Endpoint) (k : ℕ) (m : Message) (t : Stream) → AgreesAt e sent.Session 0 m (with_session (connects (head_stream e k t) true))
session_at e k m t = (
  record {
    interims = k;
    streamed = false;
    given = true;
    frames = refl;
    part = refl;
    capsules = refl;
  },
  refl,
)

final_at : (a : Asked) (b : Bool) (e : Endpoint) (k : ℕ) (m : Message) (t : Stream) → AgreesAt e (final_place a b) 0 m (final_stream a b (head_stream e k t) m)
final_at asked.Head b e k m t = content_at e k m t
final_at asked.Connect true e k m t = tunnel_at e k m t
final_at asked.Connect false e k m t = content_at e k m t
final_at asked.Session true e k m t = session_at e k m t
final_at asked.Session false e k m t = content_at e k m t
final_at asked.Other b e k m t = content_at e k m t

not_interim : (k : ℕ) (place : Place) → place ≡ sent.Head k → is_head place ≡ true
not_interim k place e = ap is_head e

pub response_read : (limit : ℕ) (e : Endpoint) (c : Connection) (old new : Sending) (section : List ℕ) (fields : List Field) (need : Option ℕ) (t : Stream) (a : Asked) (status : ℕ) → IsGoing c → IsReadable e limit c section fields need → Agrees e old t → old.role ≡ role.Response a → SendsHeadAs section old fields new → status_of fields ≡ Some status → is_head new.place ≡ false
    → (u : Stream) × IsEncodedRead e limit c t section (response_told a (is_success (Some status)) status fields) (noted_in need c) u × Agrees e new u
response_read limit e c old new section fields need t a status going within agrees is h s final =
    by_answer (response_comes old.message.stage a old.message new.message fields h.head.found old.peer (interims_of old.place) status (agrees.own ∙ is) s h.head.comes h.head.allowed)
  where
    by_answer : IsAnswer status old.message new.message h.head.found → (u : Stream) × IsEncodedRead e limit c t section (response_told a (is_success (Some status)) status fields) (noted_in need c) u × Agrees e new u
    by_answer (Early r f same m) =
        absurd (both (is_head new.place) (not_interim (interims_of old.place + 1) new.place (sym h.head.leads ∙ ap (λ (y : Section). after_head old.role (interims_of old.place) fields y) f)) final)
      where
        both : (b : Bool) → b ≡ true → b ≡ false → ⊥
        both b x y = cc
    by_answer (Final r f same) =
        let k = interims_of old.place in
        let t2 = head_stream e k t in
        let u : Stream = final_stream a (is_success (Some status)) t2 new.message in
        let asks : t.asked ≡ Some a = subst (λ (q : Role). IsFor q t.asked) is agrees.asked in (
          u,
          taken_call limit e c old new section fields need t u (found.Response r) (response_told a (is_success (Some status)) status fields) agrees h going within f (final_continues a (is_success (Some status)) status fields)
              (λ start end bytes.
              ap (λ (w : ℕ). in_connection c (response_in t.asked (is_success (Some w)) t2 new.message w fields (span_in start end bytes))) same
              ∙ ap (λ (o : Option Asked). in_connection c (response_in o (is_success (Some status)) t2 new.message status fields (span_in start end bytes))) asks
              ∙ final_gives a (is_success (Some status)) c t2 new.message status fields start end bytes),
          head_agrees e old new section fields t u (final_place a (is_success (Some status))) agrees h
              (sym h.head.leads ∙ ap (λ (y : Section). after_head old.role k fields y) f ∙ ap (λ (q : Role). after_response q r.status) is ∙ ap (λ (w : ℕ). after_response (role.Response a) w) same ∙ final_leads a status)
              (final_read a (is_success (Some status)) t2 new.message ∙ agrees.read) (final_asked a (is_success (Some status)) t2 new.message)
              (final_at a (is_success (Some status)) e k new.message t),
        )
