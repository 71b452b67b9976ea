-- Streams of sessions and datagrams, as the other end receives them.
use Rattle.std.proofs.Common.{◌≡◌, ℕ, ◌-◌, ◌*◌, ◌/◌, ◌%◌, ◌^◌, ◌<◌, Bool, true, false, cond, List, [], ◌∷◌, ◌++◌, length, Option, Some, None, Ok, refl, sym, ap, ◌∙◌, arith, lit<, append_assoc, eq-eqb}
use Rattle.std.proofs.lemmas.List.{append-nil}
use Rattle.wtp_core.specs.Varint.{shortest, number_at}
use Rattle.wtp_core.proofs.EncodingLemmas.{number_at-encoding}
use Rattle.wtp_core.proofs.ShortLemmas.{shortest-encodes}
use Rattle.wtp_frames.specs.declared.endpoint.Endpoint.{Endpoint}
use Rattle.wtp_connection.specs.declared.connection.Connection.{Connection as Streams}
use Rattle.wtp_connection.specs.declared.connection.Known.TheVariants as known
use Rattle.wtp_connection.specs.declared.stream.Purpose.{Purpose}
use Rattle.wtp_connection.specs.declared.stream.Purpose.TheVariants as «for»
use Rattle.wtp_connection.specs.declared.stream.Stream.{Stream as Frames}
use Rattle.wtp_connection.specs.declared.stream.Stream.TheVariants as frames
use Rattle.wtp_connection.specs.Opening.{with_session, type_purpose, frames_purpose, uni_by, uni_at, bi_by, bi_at}
use Rattle.wtp_connection.specs.Receiving.{opening_of}
use Rattle.wtp_connection.specs.Streams.{Opened, Ended, StreamRun, rests, followed, all_given, bytes_seen}
use Rattle.wtp_connection.specs.First.{first_opening, first_seen, first_intact, first_found, at_end}
use Rattle.wtp_connection.proofs.FirstLemmas.{first_open}
use Rattle.wtp_connection.proofs.OpeningLemmas.{opening_more, bi_open, webtransport_allows}
use Rattle.wtp_webtransport.specs.declared.connection.Connection.{Connection}
use Rattle.wtp_webtransport.specs.Events.{Joins, Joined, StreamData, End}
use Rattle.wtp_webtransport.specs.Streams.{stream_of, session_stream, with_frames}
use Rattle.wtp_webtransport.specs.Joining.{takes, after_datagram, joins}
use Rattle.wtp_webtransport.specs.Receiving.{Outcome, Receives, last}
use Rattle.wtp_sending.specs.Session.{uni_head, bi_head, datagram_head}
use Rattle.wtp_sending.proofs.SessionLemmas.{datagram_read}
use Rattle.wtp_pairs.specs.Reads.{IsGoing, IsReadAs, joining_stream}
use Rattle.wtp_pairs.proofs.FrameLemmas.{none_left}
use Rattle.wtp_webtransport.proofs.CallLemmas.{goes_of}
use Rattle.wtp_pairs.proofs.CallLemmas.{Finds, find, found_some, found_none, before, same_bytes}

-- ---- what a stream of a session is for

abbrev named : ℕ → List ℕ → Option (Purpose × List ℕ)
named id more = Some («for».Session id, more)

session_named : (id : ℕ) (more : List ℕ) → id < 2 ^ 62 → id % 4 ≡ 0 → with_session (number_at (shortest id ++ more)) ≡ named id more
session_named id more fits is =
    ap with_session (number_at-encoding id (shortest id) more (shortest-encodes id fits))
    ∙ ap (λ (b : Bool). cond b (named id more) (Some («for».InvalidSession, more))) (eq-eqb (id % 4) 0 is)

uni_named : (e : Endpoint) (id : ℕ) (more : List ℕ) → e.webtransport ≡ true → id < 2 ^ 62 → id % 4 ≡ 0 → uni_at e (uni_head id ++ more) ≡ named id more
unfolding uni_at
uni_named e id more on fits is =
    ap (λ (l : List ℕ). uni_by e (number_at l)) (append_assoc (shortest 0x54) (shortest id) more)
    ∙ ap (uni_by e) (number_at-encoding 0x54 (shortest 0x54) (shortest id ++ more) (shortest-encodes 0x54 (lit< tt)))
    ∙ ap (λ (b : Bool). cond b (with_session (number_at (shortest id ++ more))) (Some (type_purpose 0x54, shortest id ++ more))) on
    ∙ session_named id more fits is

bi_named : (e : Endpoint) (id : ℕ) (more : List ℕ) → e.webtransport ≡ true → id < 2 ^ 62 → id % 4 ≡ 0 → bi_at e (bi_head id ++ more) ≡ named id more
bi_named e id more on fits is =
    bi_open e (bi_head id ++ more) (webtransport_allows e.side e.webtransport on)
    ∙ ap (λ (l : List ℕ). bi_by e (bi_head id ++ more) (number_at l)) (append_assoc (shortest 0x41) (shortest id) more)
    ∙ ap (bi_by e (bi_head id ++ more)) (number_at-encoding 0x41 (shortest 0x41) (shortest id ++ more) (shortest-encodes 0x41 (lit< tt)))
    ∙ ap (λ (b : Bool). cond b (with_session (number_at (shortest id ++ more))) (Some (frames_purpose e.side, bi_head id ++ more))) on
    ∙ session_named id more fits is

-- before all of the bytes came it is not known
unnamed_by : (e : Endpoint) (s : Frames) (p : Purpose) (a b sent : List ℕ) (o : Option (Purpose × List ℕ)) → opening_of e s sent ≡ Some (p, []) → a ++ b ≡ sent → 0 < length b → opening_of e s a ≡ o → o ≡ None
unnamed_by e s p a b sent None is parts some h = refl
unnamed_by e s p a b sent (Some y) is parts some h =
    let both : Some (y.0, y.1 ++ b) ≡ Some (p, []) = sym (opening_more e s a b y h) ∙ ap (opening_of e s) parts ∙ is in
    absurd (none_left y.1 b (ap (λ (x : Purpose × List ℕ). x.1) (some_is (y.0, y.1 ++ b) (p, []) both)) some)
  where
    some_is : (x y : Purpose × List ℕ) → Some x ≡ Some y → x ≡ y
    some_is x y h = cc

pub unnamed : (e : Endpoint) (s : Frames) (p : Purpose) (a b sent : List ℕ) → opening_of e s sent ≡ Some (p, []) → a ++ b ≡ sent → 0 < length b → opening_of e s a ≡ None
unnamed e s p a b sent is parts some = unnamed_by e s p a b sent (opening_of e s a) is parts some refl

-- ---- the calls on its first bytes

-- whatever follows them
named_seen : (c : Streams) (s : Frames) (bytes more : List ℕ) (id : ℕ) → c.over ≡ false → first_intact c s bytes ≡ first_opening c s bytes (named id more) → first_seen c s bytes ≡ followed (Opened («for».Session id) ∷ []) (rests c (frames.Joining id) more)
named_seen c s bytes more id over e = first_open c s bytes over ∙ e

opened_gives : (limit id : ℕ) (c : Connection) (f : Frames) (sent more : List ℕ) (fin : Bool) (o : Outcome) → IsGoing c → first_intact c.streams f (sent ++ more) ≡ first_opening c.streams f (sent ++ more) (named id more) → Receives limit c (stream_of f) (sent ++ more) fin o → o ≡ (length sent, Joins id, c, joining_stream id)
opened_gives limit id c f sent more fin o going e h =
    let g : Finds limit c (stream_of f) (sent ++ more) (followed (Opened («for».Session id) ∷ []) (rests c.streams (frames.Joining id) more)) o =
    found_some limit c (stream_of f) (sent ++ more) fin (followed (Opened («for».Session id) ∷ []) (rests c.streams (frames.Joining id) more)) o
    (goes_of limit c (stream_of f) (sent ++ more) fin o h going.events refl refl) (named_seen c.streams f (sent ++ more) more id going.streams e) refl in
    g.gives ∙ ap (λ (n : ℕ). (n, Joins id, c, joining_stream id)) (before sent more)

pub uni_read : (limit id : ℕ) (c : Connection) → IsGoing c → c.streams.endpoint.webtransport ≡ true → id < 2 ^ 62 → id % 4 ≡ 0 → IsReadAs limit c (stream_of frames.Uni) (uni_head id) (Joins id) c (joining_stream id)
uni_read limit id c going on fits is = record {
  whole = λ more fin o h. opened_gives limit id c frames.Uni (uni_head id) more fin o going (ap (first_opening c.streams frames.Uni (uni_head id ++ more)) (uni_named c.streams.endpoint id more on fits is)) h;
  part = λ a b o parts some h. found_none limit c (stream_of frames.Uni) a o (goes_of limit c (stream_of frames.Uni) a false o h going.events refl refl)
      (first_open c.streams frames.Uni a going.streams ∙ (ap (first_opening c.streams frames.Uni a) (unnamed c.streams.endpoint frames.Uni («for».Session id) a b (uni_head id) (ap (uni_at c.streams.endpoint) (sym (append-nil (uni_head id))) ∙ uni_named c.streams.endpoint id [] on fits is) parts some)));
}

pub bi_read : (limit id : ℕ) (c : Connection) → IsGoing c → c.streams.endpoint.webtransport ≡ true → id < 2 ^ 62 → id % 4 ≡ 0 → IsReadAs limit c (stream_of frames.Bi) (bi_head id) (Joins id) c (joining_stream id)
bi_read limit id c going on fits is = record {
  whole = λ more fin o h. opened_gives limit id c frames.Bi (bi_head id) more fin o going (ap (first_opening c.streams frames.Bi (bi_head id ++ more)) (bi_named c.streams.endpoint id more on fits is)) h;
  part = λ a b o parts some h. found_none limit c (stream_of frames.Bi) a o (goes_of limit c (stream_of frames.Bi) a false o h going.events refl refl)
      (first_open c.streams frames.Bi a going.streams ∙ (ap (first_opening c.streams frames.Bi a) (unnamed c.streams.endpoint frames.Bi («for».Session id) a b (bi_head id) (ap (bi_at c.streams.endpoint) (sym (append-nil (bi_head id))) ∙ bi_named c.streams.endpoint id [] on fits is) parts some)));
}

-- ---- then it is joined with its session

pub joined : (id : ℕ) (c : Connection) → IsGoing c → joins c (joining_stream id) known.Open ≡ (Joined id, c, session_stream id)
joined id c going = rw (going.events, going.streams) refl

-- ---- its bytes and its end

session_seen : (c : Streams) (id : ℕ) (bytes : List ℕ) → c.over ≡ false → first_seen c (frames.Session id) bytes ≡ all_given c (frames.Session id) (bytes_seen bytes)
session_seen c id bytes over = first_open c (frames.Session id) bytes over

bytes_given : (limit id : ℕ) (c : Connection) (bytes : List ℕ) (fin : Bool) (o : Outcome) → IsGoing c → 0 < length bytes → Receives limit c (session_stream id) bytes fin o → o ≡ (length bytes, StreamData bytes, c, session_stream id)
bytes_given limit id c [] fin o going some h = absurd (omega (arith, some))
bytes_given limit id c (x ∷ bytes) fin o going some h =
    let all = x ∷ bytes in
    let g : Finds limit c (session_stream id) all (all_given c.streams (frames.Session id) (bytes_seen all)) o =
    found_some limit c (session_stream id) all fin (all_given c.streams (frames.Session id) (bytes_seen all)) o
    (goes_of limit c (session_stream id) all fin o h going.events refl refl) (session_seen c.streams id all going.streams) refl in
    let whole = same_bytes _ all g.seen in
    g.gives ∙ ap (λ (l : List ℕ). (length all - 0, StreamData l, c, session_stream id)) whole ∙ ap (λ (n : ℕ). (n, StreamData all, c, session_stream id)) (omega arith)

pub stream_bytes : (limit id : ℕ) (c : Connection) (bytes : List ℕ) (fin : Bool) (o : Outcome) → IsGoing c → 0 < length bytes → Receives limit c (session_stream id) bytes fin o → o ≡ (length bytes, StreamData bytes, c, session_stream id)
stream_bytes = bytes_given

end_found : (c : Streams) (id : ℕ) → c.over ≡ false → first_found true c (frames.Session id) [] ≡ all_given c frames.Over (Ended ∷ [])
end_found c id over =
    ap (λ (x : StreamRun). at_end true x) (first_open c (frames.Session id) [] over)
    ∙ ap (λ (b : Bool). cond b (all_given c (frames.Session id) []) (all_given c frames.Over (Ended ∷ []))) over

pub stream_end : (limit id : ℕ) (c : Connection) (o : Outcome) → IsGoing c → Receives limit c (session_stream id) [] true o → o ≡ last c (with_frames (session_stream id) frames.Over) End 0
stream_end limit id c o going h =
    let g : Finds limit c (session_stream id) [] (all_given c.streams frames.Over (Ended ∷ [])) o =
    find limit c (session_stream id) [] true (all_given c.streams frames.Over (Ended ∷ [])) o
    (goes_of limit c (session_stream id) [] true o h going.events refl refl) (end_found c.streams id going.streams) in
    g.gives

-- ---- datagrams

pub datagram_taken : (c : Connection) (id : ℕ) (payload : List ℕ) → IsGoing c → c.streams.endpoint.datagrams ≡ true → id < 2 ^ 62 → id % 4 ≡ 0 → takes c (datagram_head id ++ payload) ≡ Ok (Some (id, payload))
datagram_taken c id payload going on fits is =
    let quarter : 4 * (id / 4) ≡ id = omega arith in
    rw (going.events, going.streams, on, datagram_read id payload fits, quarter) refl

pub datagram_kept : (c : Connection) (id : ℕ) (payload : List ℕ) → IsGoing c → c.streams.endpoint.datagrams ≡ true → id < 2 ^ 62 → after_datagram c (datagram_head id ++ payload) ≡ c
datagram_kept c id payload going on fits =
    rw (going.events, going.streams, on, datagram_read id payload fits) refl
