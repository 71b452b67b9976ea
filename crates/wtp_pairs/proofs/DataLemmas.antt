-- DATA frames, trailers and the end of messages, as the other end receives them.
use Rattle.std.proofs.Common.{◌≡◌, ℕ, ◌+◌, ◌==◌, ◌^◌, ◌<◌, ◌≤◌, Bool, true, false, cond, ltb, List, [], ◌∷◌, ◌++◌, length, Option, Result, Ok, Err, refl, sym, ap, subst, ◌∙◌, arith, length-append}
use Rattle.std.proofs.lemmas.Bool.{ltb-false, ltb-true, eqb-false, le-ltb}
use Rattle.std.proofs.lemmas.List.{append-nil}
use Rattle.wtp_qpack.specs.Field.{Field}
use Rattle.wtp_frames.specs.declared.endpoint.Endpoint.{Endpoint}
use Rattle.wtp_frames.specs.declared.fault.Fault.{Fault as StreamFault}
use Rattle.wtp_frames.specs.declared.reader.Place.{Place as Reading}
use Rattle.wtp_frames.specs.declared.reader.Place.TheVariants as reading
use Rattle.wtp_frames.specs.declared.reader.Reader.{Reader}
use Rattle.wtp_frames.specs.Reading.{by_end}
use Rattle.wtp_frames.specs.Run.{Run}
use Rattle.wtp_frames.specs.First.{first}
use Rattle.wtp_frames.proofs.FirstLemmas.{first_none}
use Rattle.wtp_frames.proofs.FirstCutLemmas.{NextPiece, next_piece}
use Rattle.wtp_connection.specs.declared.connection.Connection.{Connection as Streams}
use Rattle.wtp_connection.specs.declared.stream.Stream.{Stream as Frames}
use Rattle.wtp_connection.specs.declared.stream.Stream.TheVariants as frames
use Rattle.wtp_connection.specs.Streams.{Ended, StreamRun, rests, all_given, of_frames, by_fault}
use Rattle.wtp_connection.specs.First.{first_seen, first_found, at_end}
use Rattle.wtp_messages.specs.declared.malformed.Malformed.{Malformed}
use Rattle.wtp_messages.specs.declared.message.Message.{Message}
use Rattle.wtp_messages.specs.declared.message.Section.TheVariants as found
use Rattle.wtp_messages.specs.Content.{fits}
use Rattle.wtp_messages.specs.Message.{end_of}
use Rattle.wtp_sending.specs.declared.error.SendError.{SendError}
use Rattle.wtp_sending.specs.declared.error.SendError.TheVariants as error
use Rattle.wtp_sending.specs.declared.message.Place.{Place}
use Rattle.wtp_sending.specs.declared.message.Place.TheVariants as sent
use Rattle.wtp_sending.specs.declared.message.Sending.{Sending}
use Rattle.wtp_messages.specs.declared.malformed.Malformed.TheVariants.{ContentTooLong}
use Rattle.wtp_sending.specs.Encoded.{SendsTrailersAs}
use Rattle.wtp_sending.specs.Message.{data_head, with_content, counts, with_data, data_at, after_data, by_rule, end_at, after_end}
use Rattle.wtp_sending.specs.Sent.{SentBytes, Leads, reads_data}
use Rattle.wtp_sending.proofs.SentLemmas.{ok_then, ok_else}
use Rattle.wtp_webtransport.specs.declared.connection.Connection.{Connection}
use Rattle.wtp_webtransport.specs.declared.stream.Stream.{Stream}
use Rattle.wtp_webtransport.specs.declared.stream.Part.{Part}
use Rattle.wtp_webtransport.specs.declared.stream.Part.TheVariants as part
use Rattle.wtp_webtransport.specs.declared.stream.Unread.TheVariants as unread
use Rattle.wtp_webtransport.specs.declared.event.HeadersKind.TheVariants as headers
use Rattle.wtp_webtransport.specs.Events.{Headers, End, More}
use Rattle.wtp_webtransport.specs.Streams.{with_frames, with_part, due_by}
use Rattle.wtp_webtransport.specs.Receiving.{Outcome, Receives, counted, EndBy, ends_by, last}
use Rattle.wtp_webtransport.proofs.CallLemmas.{goes_of}
use Rattle.wtp_pairs.specs.Reads.{IsGoing}
use Rattle.wtp_pairs.specs.Encoded.{noted_in, IsReadable, IsEncodedRead}
use Rattle.wtp_pairs.specs.Messages.{IsBehind, IsInContent, AgreesAt, IsFor, Agrees, IsPieceOf, IsDataRead, IsContentRead, IsMessage, WithContent, WithTrailers}
use Rattle.wtp_pairs.proofs.CallLemmas.{Finds, find, frames_seen}
use Rattle.wtp_pairs.proofs.ReaderLemmas.{data_first, data_part, trailers_first, trailers_part}
use Rattle.wtp_pairs.proofs.MessageLemmas.{AfterIt, agrees_at, level, same_message, section_reads, section_waits, section_role}
use Rattle.wtp_pairs.proofs.ContentLemmas.{after_piece, content_piece}

-- ---- in the content

in_content : (e : Endpoint) (s : Sending) (t : Stream) → Agrees e s t → s.place ≡ sent.Content → IsInContent e reading.Body s.owed s.message t
in_content e s t a is = subst (λ (p : Place). AgreesAt e p s.owed s.message t) is a.at

-- the bytes of a piece are sent
pub piece_leads : (s : Sending) (piece : List ℕ) → length piece ≤ s.owed → Leads (SentBytes piece) s (after_piece s (length piece))
piece_leads s piece l = rw (le-ltb s.owed (length piece) l) refl

-- within a frame
pub content_read : (limit : ℕ) (e : Endpoint) (c : Connection) (s : Sending) (t : Stream) → IsGoing c → Agrees e s t → s.place ≡ sent.Content → 0 < s.owed → IsContentRead limit e c t s
content_read limit e c s t going a is some = λ bytes fin o more h.
    let at = in_content e s t a is in
    let streaming : at.streamed ≡ true = at.streaming some in
    let r : Reader = reads_data e at.interims reading.Body true s.owed in
    let frames_is : t.frames ≡ frames.Frames r at.given = at.frames ∙ ap (λ (b : Bool). frames.Frames (reads_data e at.interims reading.Body b s.owed) at.given) streaming in
    let p : NextPiece r bytes = next_piece r bytes (record { payload = record { intact = refl; some = some }; streamed = refl }) more in
    let size : length bytes ≡ 0 + (length p.piece + length p.rest) = omega (arith, ap length p.parts, length-append p.piece p.rest) in
    let x = content_piece limit e c s t at.interims 0 at.given at.message r p.piece p.rest bytes fin o going is a.own a.read a.asked frames_is at.part at.behind p.is p.some p.within size h in (
      record {
        piece = p.piece;
        rest = p.rest;
        parts = p.parts;
        some = p.some;
        within = p.within;
        consumed = ap (λ (y : Outcome). y.0) (x.0);
        told = ap (λ (y : Outcome). y.1) (x.0);
        connection = ap (λ (y : Outcome). y.2) (x.0);
      },
      after_piece s (length p.piece),
      piece_leads s p.piece p.within,
      x.1,
    )

-- ---- the head of a DATA frame

-- the sender after it
record Announces (old : Sending) (n : ℕ) (new : Sending) : Type 0 where
  none : old.owed ≡ 0
  some : 0 < n
  few : n < 2 ^ 62
  fit : fits old.message.content.left n ≡ true
  is : record old { message = with_content old.message n; owed = n } ≡ new

ok_is : (x y : Sending) → ◌≡◌ {A = Result Sending SendError} (Ok x) (Ok y) → x ≡ y
ok_is x y h = cc

announces : (old new : Sending) (n : ℕ) → old.place ≡ sent.Content → after_data old n ≡ Ok new → Announces old n new
announces old new n place h =
    let a = ok_then (ltb n (2 ^ 62)) (data_at old n) error.TooLarge new h in
    let b = ok_else (ltb 0 old.owed) (cond (n == 0) (Err error.EmptyData) (with_data old.place old n)) error.DataMissing new (a.1) in
    let d = ok_else (n == 0) (with_data old.place old n) error.EmptyData new (b.1) in
    let counted_is : counts old n ≡ Ok new = sym (ap (λ (p : Place). with_data p old n) place) ∙ d.1 in
    let f = ok_then (fits old.message.content.left n) (Ok (record old { message = with_content old.message n; owed = n })) (error.Malformed ContentTooLong) new counted_is in
    record {
      none = omega (arith, ltb-false 0 old.owed (b.0));
      some = omega (arith, eqb-false n 0 (d.0));
      few = ltb-true n (2 ^ 62) (a.0);
      fit = f.0;
      is = ok_is (record old { message = with_content old.message n; owed = n }) new (f.1);
    }

abbrev announced : Sending → ℕ → Sending
announced old n = record old { message = with_content old.message n; owed = n }

-- where it is read
record AtData (e : Endpoint) (old : Sending) (n : ℕ) (t : Stream) : Type 0 where
  interims : ℕ
  streamed : Bool
  given : Bool
  message : Message
  frames : t.frames ≡ frames.Frames (reads_data e interims reading.Body streamed 0) given
  part : t.part ≡ part.Body message
  behind : IsBehind message n (with_content old.message n)

at_data : (e : Endpoint) (old new : Sending) (n : ℕ) (t : Stream) → Agrees e old t → old.place ≡ sent.Content → Announces old n new → AtData e old n t
at_data e old new n t a place x =
    let at = in_content e old t a place in
    let m : at.message ≡ old.message = same_message at.message old.message (subst (λ (k : ℕ). IsBehind at.message k old.message) x.none at.behind) in
    record {
      interims = at.interims;
      streamed = at.streamed;
      given = at.given;
      message = at.message;
      frames = at.frames ∙ ap (λ (k : ℕ). frames.Frames (reads_data e at.interims reading.Body at.streamed k) at.given) x.none;
      part = at.part;
      behind = (ap (λ (y : Message). fits y.content.left n) m ∙ x.fit, ap (λ (y : Message). counted y n) m);
    }

-- no byte of its payload came yet
data_alone : (limit : ℕ) (e : Endpoint) (c : Connection) (old : Sending) (n : ℕ) (t : Stream) (o : Outcome) → IsGoing c → Agrees e old t → old.place ≡ sent.Content → 0 < n → n < 2 ^ 62 → AtData e old n t → Receives limit c t (data_head n) false o
    → (o.0 ≡ length (data_head n)) × (o.1 ≡ More) × (o.2 ≡ c) × Agrees e (announced old n) o.3
data_alone limit e c old n t o going a place some few at h =
    let next : Reader = reads_data e at.interims reading.Body true n in
    let u : Stream = with_frames t (frames.Frames next at.given) in
    let seen : first_seen c.streams t.frames (data_head n) ≡ rests c.streams (frames.Frames next at.given) [] =
    frames_seen c.streams t.frames (reads_data e at.interims reading.Body at.streamed 0) at.given (data_head n) going.streams at.frames
    ∙ ap (λ (x : Run). of_frames c.streams at.given x) (
    ap (λ (l : List ℕ). first (reads_data e at.interims reading.Body at.streamed 0) l) (sym (append-nil (data_head n)))
    ∙ data_first e at.interims n at.streamed [] some few ∙ first_none next) in
    let f : Finds limit c t (data_head n) (rests c.streams (frames.Frames next at.given) []) o =
    find limit c t (data_head n) false (rests c.streams (frames.Frames next at.given) []) o
    (goes_of limit c t (data_head n) false o h going.events a.read (ap (λ (p : Part). due_by p (length (data_head n) == 0)) at.part)) seen in
    let eq : o ≡ (length (data_head n), More, c, u) = f.gives ∙ ap (λ (k : ℕ). (k, More, c, u)) (omega arith) in
    let good : Agrees e (announced old n) u = agrees_at e (announced old n) u sent.Content n (with_content old.message n) a.own place refl refl a.read a.asked (record {
      interims = at.interims;
      streamed = true;
      given = at.given;
      message = at.message;
      frames = refl;
      part = at.part;
      behind = at.behind;
      streaming = λ l. refl;
    }) in (
      ap (λ (y : Outcome). y.0) eq,
      ap (λ (y : Outcome). y.1) eq,
      ap (λ (y : Outcome). y.2) eq,
      subst (λ (y : Outcome). Agrees e (announced old n) y.3) (sym eq) good,
    )

data_pieces : (limit : ℕ) (e : Endpoint) (c : Connection) (old : Sending) (n : ℕ) (t : Stream) (more : List ℕ) (fin : Bool) (o : Outcome) → IsGoing c → Agrees e old t → old.place ≡ sent.Content → 0 < n → n < 2 ^ 62 → AtData e old n t → 0 < length more → Receives limit c t (data_head n ++ more) fin o
    → (p : IsPieceOf more n (length (data_head n)) c o) × (next : Sending) × Leads (SentBytes p.piece) (announced old n) next × Agrees e next o.3
data_pieces limit e c old n t more fin o going a place some few at l h =
    let r : Reader = reads_data e at.interims reading.Body true n in
    let p : NextPiece r more = next_piece r more (record { payload = record { intact = refl; some = some }; streamed = refl }) l in
    let size : length (data_head n ++ more) ≡ length (data_head n) + (length p.piece + length p.rest) = omega (arith, length-append (data_head n) more, ap length p.parts, length-append p.piece p.rest) in
    let x = content_piece limit e c (announced old n) t at.interims (length (data_head n)) at.given at.message (reads_data e at.interims reading.Body at.streamed 0) p.piece p.rest (data_head n ++ more) fin o going place a.own a.read a.asked at.frames at.part at.behind (data_first e at.interims n at.streamed more some few ∙ p.is) p.some p.within size h in (
      record {
        piece = p.piece;
        rest = p.rest;
        parts = p.parts;
        some = p.some;
        within = p.within;
        consumed = ap (λ (y : Outcome). y.0) (x.0);
        told = ap (λ (y : Outcome). y.1) (x.0);
        connection = ap (λ (y : Outcome). y.2) (x.0);
      },
      after_piece (announced old n) (length p.piece),
      piece_leads (announced old n) p.piece p.within,
      x.1,
    )

data_waits : (limit : ℕ) (e : Endpoint) (c : Connection) (old : Sending) (n : ℕ) (t : Stream) (a b : List ℕ) (o : Outcome) → IsGoing c → Agrees e old t → n < 2 ^ 62 → AtData e old n t → a ++ b ≡ data_head n → 0 < length b → Receives limit c t a false o → o ≡ (0, More, c, t)
data_waits limit e c old n t a b o going agrees few at parts some h =
    section_waits limit c t (reads_data e at.interims reading.Body at.streamed 0) at.given at.message a o going agrees.read at.frames (AfterIt at.part)
    (data_part e at.interims n at.streamed a b few parts some) h

pub data_read : (limit : ℕ) (e : Endpoint) (c : Connection) (old new : Sending) (n : ℕ) (t : Stream) → IsGoing c → Agrees e old t → old.place ≡ sent.Content → after_data old n ≡ Ok new → IsDataRead limit e c t n new
data_read limit e c old new n t going a place h =
    let x = announces old new n place h in
    let at = at_data e old new n t a place x in
    subst (λ (s : Sending). IsDataRead limit e c t n s) x.is (record {
      alone = λ o g. data_alone limit e c old n t o going a place x.some x.few at g;
      pieces = λ more fin o l g. data_pieces limit e c old n t more fin o going a place x.some x.few at l g;
      part = λ y b o parts some g. data_waits limit e c old n t y b o going a x.few at parts some g;
    })

-- ---- trailers

pub trailers_read : (limit : ℕ) (e : Endpoint) (c : Connection) (old new : Sending) (section : List ℕ) (fields : List Field) (need : Option ℕ) (t : Stream) → IsGoing c → IsReadable e limit c section fields need → Agrees e old t → SendsTrailersAs section old fields new
    → (u : Stream) × IsEncodedRead e limit c t section (Headers headers.Trailers fields) (noted_in need c) u × Agrees e new u
trailers_read limit e c old new section fields need t going within a h =
    let at = in_content e old t a h.at in
    let m : at.message ≡ old.message = same_message at.message old.message (subst (λ (k : ℕ). IsBehind at.message k old.message) h.none at.behind) in
    let frames_is : t.frames ≡ frames.Frames (reads_data e at.interims reading.Body at.streamed 0) at.given = at.frames ∙ ap (λ (k : ℕ). frames.Frames (reads_data e at.interims reading.Body at.streamed k) at.given) h.none in
    let part_is : t.part ≡ part.Body old.message = at.part ∙ ap (λ (y : Message). part.Body y) m in
    let next : Reader = reads_data e at.interims reading.AfterTrailers false 0 in
    let u : Stream = with_part (with_frames t (frames.Frames next true)) (part.Body new.message) in
    let role_is : new.role ≡ old.role = ap (λ (s : Sending). s.role) h.others in (
      u,
      section_reads limit e c t (reads_data e at.interims reading.Body at.streamed 0) next at.given old.message new.message found.Trailers section fields need (Headers headers.Trailers fields) u going within a.read frames_is (AfterIt part_is)
          (λ more. trailers_first e at.interims at.streamed section more h.framed within.encoded)
          (λ x b parts some. trailers_part e at.interims at.streamed section x b h.framed within.encoded parts some)
          h.are.comes refl (λ start end bytes. refl),
      agrees_at e new u sent.Trailers 0 new.message
          (section_role old.message.stage old.message new.message fields found.Trailers h.are.comes ∙ a.own ∙ sym role_is)
          (ap (λ (s : Sending). s.place) h.others) (ap (λ (s : Sending). s.owed) h.others ∙ h.none) refl a.read
          (subst (λ (q : Rattle.wtp_messages.specs.declared.message.Role.Role). IsFor q t.asked) (sym role_is) a.asked) (
            record {
              interims = at.interims;
              streamed = false;
              given = true;
              message = new.message;
              frames = refl;
              part = refl;
              behind = level new.message;
              streaming = λ l. absurd (omega (arith, l));
            },
            refl,
          ),
    )

-- ---- the end

-- the message is complete, and its frames may end
record Ends (e : Endpoint) (s : Sending) (t : Stream) : Type 0 where
  reader : Reader
  given : Bool
  frames : t.frames ≡ frames.Frames reader given
  part : t.part ≡ part.Body s.message
  may : by_end reader.endpoint.side reader.place (reader.remaining + 0) ≡ Ok tt
  whole : end_of s.message.stage s.message.content.left ≡ Ok tt

pub end_seen : (c : Streams) (f : Frames) (r : Reader) (given : Bool) → c.over ≡ false → f ≡ frames.Frames r given → by_end r.endpoint.side r.place (r.remaining + 0) ≡ Ok tt → first_found true c f [] ≡ all_given c frames.Over (Ended ∷ [])
end_seen c f r given over is may =
    ap (λ (x : StreamRun). at_end true x) (frames_seen c f r given [] over is ∙ ap (λ (x : Run). of_frames c given x) (first_none r))
    ∙ ap (λ (b : Bool). cond b (rests c (frames.Frames r given) []) (by_fault c (by_end r.endpoint.side r.place (r.remaining + 0)))) over
    ∙ ap (λ (v : Result (Unit {0}) StreamFault). by_fault c v) may

end_call : (limit : ℕ) (e : Endpoint) (c : Connection) (s : Sending) (t : Stream) (o : Outcome) → IsGoing c → t.unread ≡ unread.Nothing → Ends e s t → Receives limit c t [] true o → o ≡ last c (with_frames t frames.Over) End 0
end_call limit e c s t o going read at h =
    let f : Finds limit c t [] (all_given c.streams frames.Over (Ended ∷ [])) o =
    find limit c t [] true (all_given c.streams frames.Over (Ended ∷ [])) o (goes_of limit c t [] true o h going.events read (ap (λ (p : Part). due_by p true) at.part)) (end_seen c.streams t.frames at.reader at.given going.streams at.frames at.may) in
    let one : EndBy (part.Body s.message) c (with_frames t frames.Over) 0 o = subst (λ (p : Part). EndBy p c (with_frames t frames.Over) 0 o) at.part f.gives in
    one ∙ ap (λ (v : Result (Unit {0}) Malformed). ends_by c (with_frames t frames.Over) 0 v) at.whole

rule_is : (s new : Sending) (v : Result (Unit {0}) Malformed) → by_rule s v ≡ Ok new → v ≡ Ok tt
rule_is s new (Ok u) h = refl
rule_is s new (Err rule) h = absurd cc

ends_in : (e : Endpoint) (place : Reading) (s : Sending) (t : Stream) → IsInContent e place 0 s.message t → by_end e.side place 0 ≡ Ok tt → end_of s.message.stage s.message.content.left ≡ Ok tt → Ends e s t
ends_in e place s t at may whole = record {
  reader = reads_data e at.interims place at.streamed 0;
  given = at.given;
  frames = at.frames;
  part = at.part ∙ ap (λ (m : Message). part.Body m) (same_message at.message s.message at.behind);
  may = may;
  whole = whole;
}

ends_at_place : (e : Endpoint) (s new : Sending) (t : Stream) → Agrees e s t → s.owed ≡ 0 → IsMessage s.place → end_at s.place s ≡ Ok new → Ends e s t
ends_at_place e s new t a none (WithContent is) h =
    ends_in e reading.Body s t (subst (λ (n : ℕ). IsInContent e reading.Body n s.message t) none (in_content e s t a is)) refl
    (rule_is s new (end_of s.message.stage s.message.content.left) (sym (ap (λ (p : Place). end_at p s) is) ∙ h))
ends_at_place e s new t a none (WithTrailers is) h =
    let at = subst (λ (p : Place). AgreesAt e p s.owed s.message t) is a.at in
    ends_in e reading.AfterTrailers s t (subst (λ (n : ℕ). IsInContent e reading.AfterTrailers n s.message t) none at.0) refl
    (rule_is s new (end_of s.message.stage s.message.content.left) (sym (ap (λ (p : Place). end_at p s) is) ∙ h))

pub end_read : (limit : ℕ) (e : Endpoint) (c : Connection) (old new : Sending) (t : Stream) (o : Outcome) → IsGoing c → Agrees e old t → IsMessage old.place → after_end old ≡ Ok new → Receives limit c t [] true o → o ≡ last c (with_frames t frames.Over) End 0
end_read limit e c old new t o going a is h g =
    let x = ok_else (ltb 0 old.owed) (end_at old.place old) error.DataMissing new h in
    let none : old.owed ≡ 0 = omega (arith, ltb-false 0 old.owed (x.0)) in
    end_call limit e c old t o going a.read (ends_at_place e old new t a none is (x.1)) g
