-- Each call says something.
use Rattle.std.proofs.Common.{◌≡◌, ℕ, Bool, true, false, cond, List, ◌∷◌, ◌++◌, length, Result, Ok, Err, refl, sym, ap, subst, ◌∙◌}
use Rattle.wtp_qpack.specs.Field.{Field}
use Rattle.wtp_sending.specs.declared.message.Sending.{Sending}
use Rattle.wtp_sending.specs.declared.peer.Peer.{Peer}
use Rattle.wtp_sending.specs.declared.error.SendError.{SendError}
use Rattle.wtp_sending.specs.Session.{in_session, after_close}
use Rattle.wtp_sending.specs.Encoded.{SendsHeadAs, SendsTrailersAs}
use Rattle.vesgrauf_queue.specs.State.{State}
use Rattle.vesgrauf_queue.specs.Steps.{Queues, Leads}
use Rattle.vesgrauf_stream.specs.declared.error.NotSent.{NotSent}
use Rattle.vesgrauf_stream.specs.declared.error.NotSent.TheVariants as error
use Rattle.vesgrauf_stream.specs.declared.tools.Tools.{Tools}
use Rattle.vesgrauf_stream.specs.declared.writing.half.Half.{Half}
use Rattle.vesgrauf_stream.specs.declared.writing.half.Half.TheVariants as half
use Rattle.vesgrauf_stream.specs.declared.writing.Writing.{Writing}
use Rattle.vesgrauf_stream.specs.Errors.{and_then, sending}
use Rattle.vesgrauf_stream.specs.Writing.{is_none, is_idle, is_open, open_if, message_of, message_at, raw_of, end_if, frame_head, after_content, session_of, Sends, Ends, Pushes, Drains, Closes}
use Rattle.vesgrauf_stream.specs.Headers.{Leading, request_of, request_at, response_of, response_at, SendsFrame, SendsBy, SendsHeaders, SendsTrailers}
use Rattle.vesgrauf_stream.specs.Said.{Said, Headers, Data, Trailers, Drain, Close, Bytes, Call, Says, Calls, content_of, IsMessage, HalfGoes, steps_of}
use Rattle.vesgrauf_stream.specs.Said as said

-- ---- what a verdict says

abbrev Is : {A E : Type 0} → Result A E → A → Type 0
Is r y = r ≡ Ok y

ok_is : {A E : Type 0} {x y : A} → Is {A = A} {E = E} (Ok x) y → x ≡ y
ok_is e = cc e

ok_not : {A E P : Type 0} {e : E} {y : A} → Err e ≡ Ok y → P
ok_not e = cc e

pub by_ok : {A B E P : Type 0} (f : A → Result B E) (r : Result A E) (y : B) → and_then f r ≡ Ok y → ((x : A) → r ≡ Ok x → f x ≡ Ok y → P) → P
by_ok f (Ok x) y e g = g x refl e
by_ok f (Err e) y is g = ok_not is

open_by : (b : Bool) (h k : Half) → cond b (Ok h) (Err error.Over) ≡ Ok k → k ≡ h
open_by true h k e = sym (ok_is e)
open_by false h k e = ok_not e

open_is : (b : Bool) (w : Writing) (h : Half) → open_if b w ≡ Ok h → h ≡ w.half
open_is true w h e = ok_not e
open_is false w h e = open_by (is_open w.queue.ending) w.half h e

-- what is said of the half that is open is said of that of the stream
of_half : {B P : Type 0} (b : Bool) (w : Writing) (f : Half → Result B NotSent) (y : B) → and_then f (open_if b w) ≡ Ok y → (f w.half ≡ Ok y → P) → P
of_half b w f y e g =
    by_ok f (open_if b w) y e (λ h at is. g (subst (λ (x : Half). f x ≡ Ok y) (open_is b w h at) is))

-- ---- content

content_said : (h new : Half) (bytes : List ℕ) (fin room : Bool) (q r : State) → after_content (length bytes) fin h ≡ Ok new
    → Leads (Queues (frame_head h (length bytes) ++ bytes) room ∷ end_if fin) q r
    → HalfGoes (Says (content_of h bytes) room fin) h new × Leads (steps_of (Says (content_of h bytes) room fin)) q r
content_said half.None new bytes fin room q r may l = ok_not may
content_said half.Idle new bytes fin room q r may l = ok_not may
content_said (half.Asked asked) new bytes fin room q r may l = ok_not may
content_said (half.Message s) new bytes fin room q r may l = (may, l)
content_said half.Raw new bytes fin room q r may l = (sym (ok_is may), l)

pub send_said : (bytes : List ℕ) (fin room : Bool) (w v : Writing) → Sends bytes fin room w v → Calls (Says (content_of w.half bytes) room fin) w v
send_said bytes fin room w v does =
    of_half (is_idle w.half) w (after_content (length bytes) fin) v.half does.may (λ may.
    let x = content_said w.half v.half bytes fin room w.queue v.queue may does.queued in
    record { half = x.0; queue = x.1 })

pub finish_said : (w v : Writing) → Ends w v → Calls said.Ends w v
finish_said w v does =
    of_half (is_idle w.half) w (after_content 0 true) v.half does.may (λ may. record { half = may; queue = does.queued })

raw_is : (h : Half) → raw_of h ≡ Ok tt → h ≡ half.Raw
raw_is half.None e = ok_not e
raw_is half.Idle e = ok_not e
raw_is (half.Asked asked) e = ok_not e
raw_is (half.Message s) e = ok_not e
raw_is half.Raw e = refl

pub push_said : (bytes : List ℕ) (w v : Writing) → Pushes bytes w v → (room : Bool) × Calls (Says (Bytes bytes) room false) w v
push_said bytes w v does =
    of_half (is_idle w.half) w raw_of tt does.may (λ may.
    let raw = raw_is w.half may in (
      does.room,
      record {
        half = subst (λ (h : Half). HalfGoes (Says (Bytes bytes) does.room false) h v.half) (sym raw) (does.half ∙ raw);
        queue = does.queued;
      },
    ))

-- ---- HEADERS

by_message : {P : Type 0} (r : Result Sending NotSent) (F : Leading) (fields : List Field) (fin : Bool) (t u : Tools) (w v : Writing)
    → SendsBy r F fields fin t u w v → ((first : Sending) → r ≡ Ok first → SendsFrame F first fields fin t u w v → P) → P
by_message (Ok first) F fields fin t u w v does g = g first refl does
by_message (Err e) F fields fin t u w v does g = absurd does

request_begins : (h : Half) (id : ℕ) (peer : Peer) (s : Sending) → request_of id peer h ≡ Ok s → IsMessage h s
request_begins half.None id peer s e = ok_not e
request_begins half.Idle id peer s e = (id, peer, sym (ok_is e))
request_begins (half.Asked asked) id peer s e = ok_not e
request_begins (half.Message first) id peer s e = ok_not e
request_begins half.Raw id peer s e = ok_not e

response_goes : (h : Half) (id : ℕ) (peer : Peer) (s : Sending) → response_of id peer h ≡ Ok s → IsMessage h s
response_goes half.None id peer s e = ok_not e
response_goes half.Idle id peer s e = ok_not e
response_goes (half.Asked asked) id peer s e = (id, peer, sym (ok_is e))
response_goes (half.Message first) id peer s e = sym (ok_is e)
response_goes half.Raw id peer s e = ok_not e

head_said : (first : Sending) (fields : List Field) (fin : Bool) (t u : Tools) (w v : Writing) → IsMessage w.half first → SendsFrame SendsHeadAs first fields fin t u w v
    → (section : List ℕ) × (room : Bool) × Calls (Says (Headers section) room fin) w v
head_said first fields fin t u w v begins does = (
  does.section,
  does.room,
  record {
    half = (fields, first, does.next, begins, does.leads, (does.last, does.ends, does.now));
    queue = does.queued;
  },
)

pub request_said : (id : ℕ) (peer : Peer) (fields : List Field) (fin : Bool) (t u : Tools) (w v : Writing) → SendsHeaders (request_at w id peer) fields fin t u w v
    → (section : List ℕ) × (room : Bool) × Calls (Says (Headers section) room fin) w v
request_said id peer fields fin t u w v does =
    by_message (request_at w id peer) SendsHeadAs fields fin t u w v does (λ first is frame.
    of_half (is_none w.half) w (request_of id peer) first is (λ may. head_said first fields fin t u w v (request_begins w.half id peer first may) frame))

pub response_said : (id : ℕ) (peer : Peer) (fields : List Field) (fin : Bool) (t u : Tools) (w v : Writing) → SendsHeaders (response_at w id peer) fields fin t u w v
    → (section : List ℕ) × (room : Bool) × Calls (Says (Headers section) room fin) w v
response_said id peer fields fin t u w v does =
    by_message (response_at w id peer) SendsHeadAs fields fin t u w v does (λ first is frame.
    of_half (is_idle w.half) w (response_of id peer) first is (λ may. head_said first fields fin t u w v (response_goes w.half id peer first may) frame))

-- ---- a message

message_is : (h : Half) (s : Sending) → message_of h ≡ Ok s → h ≡ half.Message s
message_is half.None s e = ok_not e
message_is half.Idle s e = ok_not e
message_is (half.Asked asked) s e = ok_not e
message_is (half.Message first) s e = ap half.Message (ok_is e)
message_is half.Raw s e = ok_not e

half_is : (w : Writing) (s : Sending) → message_at w ≡ Ok s → w.half ≡ half.Message s
half_is w s e = of_half (is_idle w.half) w message_of s e (λ may. message_is w.half s may)

pub trailers_said : (fields : List Field) (t u : Tools) (w v : Writing) → SendsTrailers fields t u w v
    → (section : List ℕ) × (room : Bool) × Calls (Says (Trailers section) room true) w v
trailers_said fields t u w v does =
    by_message (message_at w) SendsTrailersAs fields true t u w v does (λ first is frame. (
      frame.section,
      frame.room,
      record {
        half = subst (λ (h : Half). HalfGoes (Says (Trailers frame.section) frame.room true) h v.half) (sym (half_is w first is))
            (fields, frame.next, frame.leads, (frame.last, frame.ends, frame.now));
        queue = frame.queued;
      },
    ))

pub sent_ok : {A : Type 0} (r : Result A SendError) (x : A) → sending r ≡ Ok x → r ≡ Ok x
sent_ok (Ok y) x e = ap Ok (ok_is e)
sent_ok (Err y) x e = ok_not e

pub drain_said : (w v : Writing) → Drains w v → (room : Bool) × Calls (Says Drain room false) w v
drain_said w v does =
    by_ok session_of (message_at w) tt does.may (λ s is in_it.
    let at = half_is w s is in (
      does.room,
      record {
        half = subst (λ (h : Half). HalfGoes (Says Drain does.room false) h v.half) (sym at) (sent_ok (in_session s.place) tt in_it, does.half ∙ at);
        queue = does.queued;
      },
    ))

pub close_said : (code : ℕ) (reason : List ℕ) (w v : Writing) → Closes code reason w v → (room : Bool) × Calls (Says (Close code reason) room true) w v
close_said code reason w v does =
    by_ok (λ s. sending (after_close s reason)) (message_at w) does.last does.may (λ s is closes.
    let at = half_is w s is in (
      does.room,
      record {
        half = subst (λ (h : Half). HalfGoes (Says (Close code reason) does.room true) h v.half) (sym at) (does.last, sent_ok (after_close s reason) does.last closes, does.now);
        queue = does.queued;
      },
    ))
