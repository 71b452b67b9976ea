-- CONNECT requests that are answered, tunnels, and the end of sessions.
use Rattle.std.proofs.Common.{◌≡◌, ℕ, ◌+◌, ◌-◌, ◌==◌, ◌^◌, ◌<◌, ◌≤◌, nat_le, Bool, true, false, cond, ltb, List, [], ◌∷◌, ◌++◌, length, Option, Some, Result, Ok, Err, refl, sym, ap, subst, ◌∙◌, arith, length-append}
use Rattle.std.proofs.lemmas.Bool.{ltb-false, ltb-true, eqb-false}
use Rattle.std.proofs.lemmas.List.{append-nil}
use Rattle.wtp_frames.specs.declared.endpoint.Endpoint.{Endpoint}
use Rattle.wtp_frames.specs.declared.reader.Place.TheVariants as reading
use Rattle.wtp_frames.specs.declared.reader.Reader.{Reader}
use Rattle.wtp_frames.specs.Run.{Run}
use Rattle.wtp_frames.specs.First.{first}
use Rattle.wtp_frames.proofs.FirstLemmas.{first_none}
use Rattle.wtp_frames.proofs.FirstCutLemmas.{NextPiece, next_piece}
use Rattle.wtp_connection.specs.declared.stream.Stream.{Stream as Frames}
use Rattle.wtp_connection.specs.declared.stream.Stream.TheVariants as frames
use Rattle.wtp_connection.specs.Opening.{connected}
use Rattle.wtp_connection.specs.Streams.{Ended, rests, all_given, of_frames}
use Rattle.wtp_connection.specs.First.{first_seen}
use Rattle.wtp_messages.specs.declared.message.Message.{Message}
use Rattle.wtp_messages.specs.Response.{is_success}
use Rattle.wtp_sending.specs.declared.error.SendError.{SendError}
use Rattle.wtp_sending.specs.declared.error.SendError.TheVariants as error
use Rattle.wtp_sending.specs.declared.message.Place.{Place}
use Rattle.wtp_sending.specs.declared.message.Place.TheVariants as sent
use Rattle.wtp_sending.specs.declared.message.Sending.{Sending}
use Rattle.wtp_sending.specs.Message.{data_head, announces, with_data, data_at, after_data, end_at, after_end, opens, placed}
use Rattle.wtp_sending.specs.Sent.{SentBytes, Leads, reads_data}
use Rattle.wtp_sending.proofs.SentLemmas.{ok_then, ok_else}
use Rattle.wtp_webtransport.specs.declared.connection.Connection.{Connection}
use Rattle.wtp_webtransport.specs.declared.stream.Stream.{Stream}
use Rattle.wtp_webtransport.specs.declared.stream.Part.{Part}
use Rattle.wtp_webtransport.specs.declared.stream.Part.TheVariants as part
use Rattle.wtp_webtransport.specs.declared.stream.Unread.TheVariants as unread
use Rattle.wtp_webtransport.specs.Capsules.{Place as CapsulePlace, between}
use Rattle.wtp_webtransport.specs.Events.{SessionClosed, Data, End, More}
use Rattle.wtp_webtransport.specs.Receiving.{Outcome, Receives, DataBy, EndBy, SessionEndGives, Between, Within, told_more, last}
use Rattle.wtp_webtransport.specs.Streams.{EndsBetween, with_frames, with_part, answered, answered_by, connects, due_by}
use Rattle.wtp_webtransport.proofs.CallLemmas.{goes_of}
use Rattle.wtp_pairs.specs.Reads.{IsGoing}
use Rattle.wtp_pairs.specs.Messages.{IsAsking, IsTunnel, IsSession, AgreesAt, IsFor, Agrees, IsPieceOf, IsContentRead, IsDataRead}
use Rattle.wtp_pairs.proofs.CallLemmas.{Finds, find, found_none, frames_seen}
use Rattle.wtp_pairs.proofs.ReaderLemmas.{tunnel_first, tunnel_part}
use Rattle.wtp_pairs.proofs.MessageLemmas.{agrees_at}
use Rattle.wtp_pairs.proofs.ContentLemmas.{Piece, piece_of, piece_call, start_of, last_of, after_piece}
use Rattle.wtp_pairs.proofs.DataLemmas.{end_seen, piece_leads}

-- ---- a CONNECT request that is answered with a 2xx status

ok_is : (x y : Sending) → ◌≡◌ {A = Result Sending SendError} (Ok x) (Ok y) → x ≡ y
ok_is x y h = cc

asking_at : (e : Endpoint) (s : Sending) (t : Stream) (session : Bool) → Agrees e s t → s.place ≡ sent.Connecting session → IsAsking e session s.message t × (s.owed ≡ 0)
asking_at e s t session a is = subst (λ (p : Place). AgreesAt e p s.owed s.message t) is a.at

connected_at : (session : Bool) (e : Endpoint) (s : Sending) (t : Stream) → IsAsking e session s.message t → AgreesAt e (cond session sent.Session sent.Tunnel) 0 s.message (connects t session)
connected_at true e s t at = (
  record {
    interims = at.interims;
    streamed = at.streamed;
    given = at.given;
    frames = ap connected at.frames;
    part = refl;
    capsules = at.capsules refl;
  },
  refl,
)
connected_at false e s t at = record {
  interims = at.interims;
  streamed = at.streamed;
  given = at.given;
  frames = ap connected at.frames;
  part = refl;
  streaming = λ l. absurd (omega (arith, l));
}

refused : Stream → Bool → Message → ℕ → Stream
refused t session m status = cond (nat_le 300 status) (with_part t (part.Body m)) t

answer_is : (t : Stream) (session : Bool) (m : Message) (status : ℕ) → t.part ≡ part.Unanswered session m → is_success (Some status) ≡ true → answered t status ≡ connects t session
unfolding refused
answer_is t session m status is success =
    ap (λ (p : Part). answered_by t p status) is
    ∙ ap (λ (b : Bool). cond b (connects t session) (refused t session m status)) success

pub accepted : (e : Endpoint) (old new : Sending) (t : Stream) (session : Bool) (status : ℕ) → Agrees e old t → old.place ≡ sent.Connecting session → placed old (opens old.place) ≡ Ok new → is_success (Some status) ≡ true → Agrees e new (answered t status)
accepted e old new t session status a place h success =
    let at = asking_at e old t session a place in
    let is : record old { place = cond session sent.Session sent.Tunnel } ≡ new = ok_is (record old { place = cond session sent.Session sent.Tunnel }) new (sym (ap (λ (p : Place). placed old (opens p)) place) ∙ h) in
    let same : answered t status ≡ connects t session = answer_is t session old.message status (at.0).part success in
    subst (λ (s : Sending). Agrees e s (answered t status)) is (subst (λ (u : Stream). Agrees e (record old { place = cond session sent.Session sent.Tunnel }) u) (sym same)
    (agrees_at e (record old { place = cond session sent.Session sent.Tunnel }) (connects t session) (cond session sent.Session sent.Tunnel) 0 old.message a.own refl (at.1) refl a.read a.asked (connected_at session e old t (at.0))))

-- ---- tunnels

tunnel_at : (e : Endpoint) (s : Sending) (t : Stream) → Agrees e s t → s.place ≡ sent.Tunnel → IsTunnel e s.owed t
tunnel_at e s t a is = subst (λ (p : Place). AgreesAt e p s.owed s.message t) is a.at

tunnel_piece : (limit : ℕ) (e : Endpoint) (c : Connection) (s : Sending) (t : Stream) (k before_it : ℕ) (given : Bool) (r : Reader) (piece rest bytes : List ℕ) (fin : Bool) (o : Outcome) → IsGoing c → s.place ≡ sent.Tunnel → s.message.role ≡ s.role → t.unread ≡ unread.Nothing → IsFor s.role t.asked → t.frames ≡ frames.Frames r given → t.part ≡ part.Tunnel → first r bytes ≡ piece_of piece (reads_data e k reading.Tunnel true (s.owed - length piece)) rest → 0 < length piece → length piece ≤ s.owed → length bytes ≡ before_it + (length piece + length rest) → Receives limit c t bytes fin o
    → (o ≡ (before_it + length piece, Data piece, c, with_frames t (frames.Frames (reads_data e k reading.Tunnel true (s.owed - length piece)) given))) × Agrees e (after_piece s (length piece)) o.3
tunnel_piece limit e c s t k before_it given r piece rest bytes fin o going place own read for is has at some within size h =
    let next : Reader = reads_data e k reading.Tunnel true (s.owed - length piece) in
    let u : Stream = with_frames t (frames.Frames next given) in
    let p : Piece limit c t piece rest bytes next given o = piece_call limit c t r next given piece rest bytes fin o going read (ap (λ (x : Part). due_by x (length bytes == 0)) has) is at some h in
    let end : last_of bytes rest ≡ before_it + length piece = omega (arith, size) in
    let one : DataBy part.Tunnel c u (start_of bytes piece rest) (last_of bytes rest) bytes o = subst (λ (x : Part). DataBy x c u (start_of bytes piece rest) (last_of bytes rest) bytes o) has p.gives in
    let eq : o ≡ (before_it + length piece, Data piece, c, u) =
    one
    ∙ ap (λ (l : List ℕ). (last_of bytes rest, Data l, c, u)) p.same
    ∙ ap (λ (n : ℕ). (n, Data piece, c, u)) end in
    let good : Agrees e (after_piece s (length piece)) u = agrees_at e (after_piece s (length piece)) u sent.Tunnel (s.owed - length piece) s.message own place refl refl read for (record {
      interims = k;
      streamed = true;
      given = given;
      frames = refl;
      part = has;
      streaming = λ l. refl;
    }) in
    (eq, subst (λ (x : Outcome). Agrees e (after_piece s (length piece)) x.3) (sym eq) good)

pub tunnel_read : (limit : ℕ) (e : Endpoint) (c : Connection) (s : Sending) (t : Stream) → IsGoing c → Agrees e s t → s.place ≡ sent.Tunnel → 0 < s.owed → IsContentRead limit e c t s
tunnel_read limit e c s t going a is some = λ bytes fin o more h.
    let at = tunnel_at e s t a is in
    let r : Reader = reads_data e at.interims reading.Tunnel true s.owed in
    let frames_is : t.frames ≡ frames.Frames r at.given = at.frames ∙ ap (λ (b : Bool). frames.Frames (reads_data e at.interims reading.Tunnel b s.owed) at.given) (at.streaming some) in
    let p : NextPiece r bytes = next_piece r bytes (record { payload = record { intact = refl; some = some }; streamed = refl }) more in
    let size : length bytes ≡ 0 + (length p.piece + length p.rest) = omega (arith, ap length p.parts, length-append p.piece p.rest) in
    let x = tunnel_piece limit e c s t at.interims 0 at.given r p.piece p.rest bytes fin o going is a.own a.read a.asked frames_is at.part p.is p.some p.within size h in (
      record {
        piece = p.piece;
        rest = p.rest;
        parts = p.parts;
        some = p.some;
        within = p.within;
        consumed = ap (λ (y : Outcome). y.0) (x.0);
        told = ap (λ (y : Outcome). y.1) (x.0);
        connection = ap (λ (y : Outcome). y.2) (x.0);
      },
      after_piece s (length p.piece),
      piece_leads s p.piece p.within,
      x.1,
    )

-- the head of a DATA frame
record Announces (old : Sending) (n : ℕ) (new : Sending) : Type 0 where
  none : old.owed ≡ 0
  some : 0 < n
  few : n < 2 ^ 62
  is : announces old n ≡ new

tunnel_announces : (old new : Sending) (n : ℕ) → old.place ≡ sent.Tunnel → after_data old n ≡ Ok new → Announces old n new
tunnel_announces old new n place h =
    let a = ok_then (ltb n (2 ^ 62)) (data_at old n) error.TooLarge new h in
    let b = ok_else (ltb 0 old.owed) (cond (n == 0) (Err error.EmptyData) (with_data old.place old n)) error.DataMissing new (a.1) in
    let d = ok_else (n == 0) (with_data old.place old n) error.EmptyData new (b.1) in
    record {
      none = omega (arith, ltb-false 0 old.owed (b.0));
      some = omega (arith, eqb-false n 0 (d.0));
      few = ltb-true n (2 ^ 62) (a.0);
      is = ok_is (announces old n) new (sym (ap (λ (p : Place). with_data p old n) place) ∙ d.1);
    }

tunnel_alone : (limit : ℕ) (e : Endpoint) (c : Connection) (old : Sending) (n : ℕ) (t : Stream) (o : Outcome) → IsGoing c → Agrees e old t → old.place ≡ sent.Tunnel → 0 < n → n < 2 ^ 62 → IsTunnel e 0 t → Receives limit c t (data_head n) false o
    → (o.0 ≡ length (data_head n)) × (o.1 ≡ More) × (o.2 ≡ c) × Agrees e (announces old n) o.3
tunnel_alone limit e c old n t o going a place some few at h =
    let next : Reader = reads_data e at.interims reading.Tunnel true n in
    let u : Stream = with_frames t (frames.Frames next at.given) in
    let seen : first_seen c.streams t.frames (data_head n) ≡ rests c.streams (frames.Frames next at.given) [] =
    frames_seen c.streams t.frames (reads_data e at.interims reading.Tunnel at.streamed 0) at.given (data_head n) going.streams at.frames
    ∙ ap (λ (x : Run). of_frames c.streams at.given x) (
    ap (λ (l : List ℕ). first (reads_data e at.interims reading.Tunnel at.streamed 0) l) (sym (append-nil (data_head n)))
    ∙ tunnel_first e at.interims n at.streamed [] some few ∙ first_none next) in
    let f : Finds limit c t (data_head n) (rests c.streams (frames.Frames next at.given) []) o =
    find limit c t (data_head n) false (rests c.streams (frames.Frames next at.given) []) o
    (goes_of limit c t (data_head n) false o h going.events a.read (ap (λ (p : Part). due_by p (length (data_head n) == 0)) at.part)) seen in
    let eq : o ≡ (length (data_head n), More, c, u) = f.gives ∙ ap (λ (k : ℕ). (k, More, c, u)) (omega arith) in
    let good : Agrees e (announces old n) u = agrees_at e (announces old n) u sent.Tunnel n old.message a.own place refl refl a.read a.asked (record {
      interims = at.interims;
      streamed = true;
      given = at.given;
      frames = refl;
      part = at.part;
      streaming = λ l. refl;
    }) in (
      ap (λ (y : Outcome). y.0) eq,
      ap (λ (y : Outcome). y.1) eq,
      ap (λ (y : Outcome). y.2) eq,
      subst (λ (y : Outcome). Agrees e (announces old n) y.3) (sym eq) good,
    )

tunnel_pieces : (limit : ℕ) (e : Endpoint) (c : Connection) (old : Sending) (n : ℕ) (t : Stream) (more : List ℕ) (fin : Bool) (o : Outcome) → IsGoing c → Agrees e old t → old.place ≡ sent.Tunnel → 0 < n → n < 2 ^ 62 → IsTunnel e 0 t → 0 < length more → Receives limit c t (data_head n ++ more) fin o
    → (p : IsPieceOf more n (length (data_head n)) c o) × (next : Sending) × Leads (SentBytes p.piece) (announces old n) next × Agrees e next o.3
tunnel_pieces limit e c old n t more fin o going a place some few at l h =
    let r : Reader = reads_data e at.interims reading.Tunnel true n in
    let p : NextPiece r more = next_piece r more (record { payload = record { intact = refl; some = some }; streamed = refl }) l in
    let size : length (data_head n ++ more) ≡ length (data_head n) + (length p.piece + length p.rest) = omega (arith, length-append (data_head n) more, ap length p.parts, length-append p.piece p.rest) in
    let x = tunnel_piece limit e c (announces old n) t at.interims (length (data_head n)) at.given (reads_data e at.interims reading.Tunnel at.streamed 0) p.piece p.rest (data_head n ++ more) fin o going place a.own a.read a.asked at.frames at.part (tunnel_first e at.interims n at.streamed more some few ∙ p.is) p.some p.within size h in (
      record {
        piece = p.piece;
        rest = p.rest;
        parts = p.parts;
        some = p.some;
        within = p.within;
        consumed = ap (λ (y : Outcome). y.0) (x.0);
        told = ap (λ (y : Outcome). y.1) (x.0);
        connection = ap (λ (y : Outcome). y.2) (x.0);
      },
      after_piece (announces old n) (length p.piece),
      piece_leads (announces old n) p.piece p.within,
      x.1,
    )

tunnel_waits : (limit : ℕ) (e : Endpoint) (c : Connection) (old : Sending) (n : ℕ) (t : Stream) (a b : List ℕ) (o : Outcome) → IsGoing c → Agrees e old t → n < 2 ^ 62 → IsTunnel e 0 t → a ++ b ≡ data_head n → 0 < length b → Receives limit c t a false o → o ≡ (0, More, c, t)
tunnel_waits limit e c old n t a b o going agrees few at parts some h =
    found_none limit c t a o (goes_of limit c t a false o h going.events agrees.read (ap (λ (p : Part). due_by p (length a == 0)) at.part))
    (frames_seen c.streams t.frames (reads_data e at.interims reading.Tunnel at.streamed 0) at.given a going.streams at.frames
    ∙ ap (λ (x : Run). of_frames c.streams at.given x) (tunnel_part e at.interims n at.streamed a b few parts some)
    ∙ ap (λ (f : Frames). rests c.streams f a) (sym at.frames))
    ∙ ap (λ (f : Frames). (0, told_more f, c, t)) at.frames

pub tunnel_data : (limit : ℕ) (e : Endpoint) (c : Connection) (old new : Sending) (n : ℕ) (t : Stream) → IsGoing c → Agrees e old t → old.place ≡ sent.Tunnel → after_data old n ≡ Ok new → IsDataRead limit e c t n new
tunnel_data limit e c old new n t going a place h =
    let x = tunnel_announces old new n place h in
    let at : IsTunnel e 0 t = subst (λ (k : ℕ). IsTunnel e k t) x.none (tunnel_at e old t a place) in
    subst (λ (s : Sending). IsDataRead limit e c t n s) x.is (record {
      alone = λ o g. tunnel_alone limit e c old n t o going a place x.some x.few at g;
      pieces = λ more fin o l g. tunnel_pieces limit e c old n t more fin o going a place x.some x.few at l g;
      part = λ y b o parts some g. tunnel_waits limit e c old n t y b o going a x.few at parts some g;
    })

-- ---- their ends

none_owed : (s new : Sending) → after_end s ≡ Ok new → s.owed ≡ 0
none_owed s new h = let x = ok_else (ltb 0 s.owed) (end_at s.place s) error.DataMissing new h in omega (arith, ltb-false 0 s.owed (x.0))

pub tunnel_end : (limit : ℕ) (e : Endpoint) (c : Connection) (old new : Sending) (t : Stream) (o : Outcome) → IsGoing c → Agrees e old t → old.place ≡ sent.Tunnel → after_end old ≡ Ok new → Receives limit c t [] true o → o ≡ last c (with_frames t frames.Over) End 0
tunnel_end limit e c old new t o going a place h g =
    let at : IsTunnel e 0 t = subst (λ (k : ℕ). IsTunnel e k t) (none_owed old new h) (tunnel_at e old t a place) in
    let f : Finds limit c t [] (all_given c.streams frames.Over (Ended ∷ [])) o =
    find limit c t [] true (all_given c.streams frames.Over (Ended ∷ [])) o (goes_of limit c t [] true o g going.events a.read (ap (λ (p : Part). due_by p true) at.part)) (end_seen c.streams t.frames (reads_data e at.interims reading.Tunnel at.streamed 0) at.given going.streams at.frames refl) in
    subst (λ (p : Part). EndBy p c (with_frames t frames.Over) 0 o) at.part f.gives

session_at : (e : Endpoint) (s : Sending) (t : Stream) → Agrees e s t → s.place ≡ sent.Session → IsSession e t × (s.owed ≡ 0)
session_at e s t a is = subst (λ (p : Place). AgreesAt e p s.owed s.message t) is a.at

closes : (c : Connection) (t : Stream) (o : Outcome) → t.capsules ≡ Some between → SessionEndGives c (with_frames t frames.Over) 0 o → o ≡ (0, SessionClosed (0, []), c, with_part (with_frames t frames.Over) part.Ending)
closes c t o is (Between h g) = g
closes c t o is (Within h g) = absurd (h (subst (λ (p : Option CapsulePlace). EndsBetween p) (sym is) refl))

-- the own stream of a session that ends without CLOSE closes it with code 0
pub session_end : (limit : ℕ) (e : Endpoint) (c : Connection) (old new : Sending) (t : Stream) (o : Outcome) → IsGoing c → Agrees e old t → old.place ≡ sent.Session → after_end old ≡ Ok new → Receives limit c t [] true o → o ≡ (0, SessionClosed (0, []), c, with_part (with_frames t frames.Over) part.Ending)
session_end limit e c old new t o going a place h g =
    let at = (session_at e old t a place).0 in
    let f : Finds limit c t [] (all_given c.streams frames.Over (Ended ∷ [])) o =
    find limit c t [] true (all_given c.streams frames.Over (Ended ∷ [])) o (goes_of limit c t [] true o g going.events a.read (ap (λ (p : Part). due_by p true) at.part)) (end_seen c.streams t.frames (reads_data e at.interims reading.Tunnel at.streamed 0) at.given going.streams at.frames refl) in
    closes c t o at.capsules (subst (λ (p : Part). EndBy p c (with_frames t frames.Over) 0 o) at.part f.gives)

-- an open session on which capsules are read
pub session_open : (e : Endpoint) (s : Sending) (t : Stream) → Agrees e s t → s.place ≡ sent.Session → IsSession e t
session_open e s t a is = (session_at e s t a is).0
