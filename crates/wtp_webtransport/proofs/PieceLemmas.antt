-- A call that returns a piece, and one over its bytes and more.
use Rattle.std.proofs.Common.{◌≡◌, ℕ, ◌+◌, ◌-◌, ◌==◌, ◌<◌, ◌≤◌, nat_lt, Bool, true, false, cond, ◌&&◌, ◌⊎◌, List, [], ◌∷◌, ◌++◌, length, take, drop, Option, refl, sym, ap, subst, ◌∙◌, arith, length-drop, length-append, inl, inr}
use Rattle.std.proofs.lemmas.Bool.{cases_Bool, cases_lt, ne_eqb}
use Rattle.wtp_messages.specs.declared.message.Message.{Message}
use Rattle.wtp_connection.specs.Opening.{remaining_of}
use Rattle.wtp_messages.specs.Content.{fits, left_after}
use Rattle.wtp_messages.specs.declared.malformed.Malformed.TheVariants.{ContentTooLong}
use Rattle.std.proofs.lemmas.List.{append-nil, drop-append-le, map-append}
use Rattle.std.proofs.Math.Seq.{take-append-add, take-length, take-append_seam}
use Rattle.wtp_frames.specs.Reading.{slice}
use Rattle.wtp_connection.specs.Opening.{over_from, is_critical}
use Rattle.wtp_connection.specs.Streams.{without, followed, rests}
use Rattle.wtp_connection.specs.First.{in_piece, longer}
use Rattle.wtp_connection.proofs.FirstLemmas.{first_over, piece_seen as some_piece}
use Rattle.wtp_connection.proofs.FirstCutLemmas.{piece_seen, IsFrames, NextPiece, piece_next, frames_stay}
use Rattle.wtp_connection.proofs.StreamLemmas.{seen_append}
use Rattle.wtp_webtransport.proofs.ContentLemmas.{fits_later, counted_alike}
use Rattle.wtp_webtransport.proofs.FoundLemmas.{data_from, slice_length}
use Rattle.wtp_webtransport.specs.Events.{Told, Data, StreamData, Malformed}
use Rattle.wtp_webtransport.specs.Streams.{with_part, with_message}
use Rattle.wtp_webtransport.specs.Receiving.{malformed, counted, content_found, left_by}
use Rattle.wtp_webtransport.specs.Calls.{Repeats, joined_told, joined, Grown, Whole, Longer, HasFrames, Continues, Stops, Rests, spread, each_byte}
use Rattle.wtp_connection.specs.declared.stream.Stream.TheVariants as frames
use Rattle.wtp_connection.specs.Streams.{bytes_seen}
use Rattle.wtp_connection.specs.declared.connection.Connection.{Connection as Streams}
use Rattle.wtp_connection.specs.declared.connection.Found.{Found}
use Rattle.wtp_connection.specs.declared.connection.Found.TheVariants as found
use Rattle.wtp_connection.specs.declared.stream.Stream.{Stream as Frames}
use Rattle.wtp_connection.specs.Receiving.{Fits, rest_after}
use Rattle.wtp_connection.specs.Streams.{StreamRun, Seen}
use Rattle.wtp_connection.specs.First.{first_seen, at_end, found_by, has_none, left_over, with_more}
use Rattle.wtp_connection.proofs.FirstCutLemmas.{seen_more}
use Rattle.wtp_webtransport.specs.declared.connection.Connection.{Connection}
use Rattle.wtp_webtransport.specs.declared.stream.Stream.{Stream}
use Rattle.wtp_webtransport.specs.declared.stream.Part.{Part}
use Rattle.wtp_webtransport.specs.declared.stream.Part.TheVariants as part
use Rattle.wtp_webtransport.specs.declared.stream.Unread.{Unread}
use Rattle.wtp_webtransport.specs.declared.stream.Unread.TheVariants as unread
use Rattle.wtp_webtransport.specs.declared.stream.Due.{Due}
use Rattle.wtp_webtransport.specs.declared.stream.Due.TheVariants as due
use Rattle.wtp_webtransport.specs.Streams.{with_streams, with_frames, due_by}
use Rattle.wtp_webtransport.specs.Receiving.{Outcome, content_by, DataBy, told_more, FoundGives, GoesOn, DueGives, StreamGives, ReceivesIf, Receives}
use Rattle.wtp_webtransport.specs.Calls.{IsPiece, Stops, course_of, plain, moved, IsSession, HasMemory}
use Rattle.wtp_webtransport.proofs.FoundLemmas.{found_from, found_is}
use Rattle.wtp_webtransport.proofs.CallLemmas.{goes_of, due_still, some_bytes, seen_empty, content_due}
use Rattle.wtp_webtransport.proofs.StopLemmas.{keeps_end}
use Rattle.wtp_webtransport.proofs.GivenLemmas.{fault_given, end_given, left_given, empty_given, unread_given, more_course}

-- ---- bytes

no_rest : (l : List ℕ) → length l ≡ 0 → l ≡ []
no_rest [] e = refl
no_rest (x ∷ l) e = absurd (omega (arith, e))

-- the piece that two pieces are
whole_slice : (start end : ℕ) (a b z rest : List ℕ) → start ≤ end → end ≡ length a → b ≡ z ++ rest → slice start (end + length z) (a ++ b) ≡ slice start end a ++ z
whole_slice start end a b z rest l e parts =
    let tail : List ℕ = drop start a in
    let size : length tail ≡ end - start = omega (arith, length-drop start a, e) in
    let more : (end + length z) - start ≡ length tail + length z = omega (arith, size, l) in
    let own : slice start end a ≡ tail = ap (λ (n : ℕ). take n tail) (sym size) ∙ take-length tail in
    ap (λ (n : ℕ). take n (drop start (a ++ b))) more
    ∙ ap (λ (k : List ℕ). take (length tail + length z) k) (drop-append-le start a b (omega (arith, l, e)))
    ∙ take-append-add tail b (length z)
    ∙ ap (λ (k : List ℕ). tail ++ take (length z) k) parts
    ∙ ap (λ (k : List ℕ). tail ++ k) (take-append_seam z rest)
    ∙ ap (λ (k : List ℕ). k ++ z) (sym own)

first_slice : (b z rest : List ℕ) → b ≡ z ++ rest → slice 0 (length z) b ≡ z
first_slice b z rest parts =
    let size : length z - 0 ≡ length z = omega arith in
    ap (λ (n : ℕ). take n b) size ∙ ap (λ (k : List ℕ). take (length z) k) parts ∙ take-append_seam z rest

-- ---- the next call finds the next piece

next_found : (limit : ℕ) (c : Connection) (s : Stream) (b : List ℕ) (fin : Bool) (p : Outcome) → c.over ≡ false → s.unread ≡ unread.Nothing → due_by s.part false ≡ due.Nothing → (n : NextPiece c.streams s.frames b) → Receives limit c s b fin p → DataBy s.part c (with_frames s n.stream) 0 (length n.piece) b p
next_found limit c s b fin p intact none idle n h =
    let x : GoesOn limit c s b fin p = goes_of limit c s b fin p h intact none (due_still s.part (length b == 0) idle) in
    let z : StreamRun = record { seen = bytes_seen n.piece; connection = c.streams; stream = n.stream; left = n.rest } in
    let all : found_by x.x b x.d x.t ≡ z = x.first ∙ ap (λ (r : StreamRun). at_end fin r) n.is ∙ keeps_end fin z (none_seen n.piece n.some) in
    let size : length b ≡ length n.piece + length n.rest = ap length n.parts ∙ length-append n.piece n.rest in
    let is : x.x ≡ found.Data 0 (length n.piece) =
    found_is x.x b x.d x.t x.found.fits
    ∙ ap (λ (l : List Seen). found_from l (length b) (length (rest_after x.x b))) (ap (λ (r : StreamRun). r.seen) all)
    ∙ ap (λ (k : ℕ). found_from (bytes_seen n.piece) (length b) k) (ap (λ (r : StreamRun). length r.left) all)
    ∙ data_from n.piece (length b) (length n.rest) n.some
    ∙ ap (λ (k : ℕ). found.Data (k - length n.piece) k) (omega (arith, size))
    ∙ ap (λ (k : ℕ). found.Data k (length n.piece)) (omega arith) in
    let gives : FoundGives limit (found.Data 0 (length n.piece)) (with_streams c x.d) (with_frames s x.t) b p = subst (λ (y : Found). FoundGives limit y (with_streams c x.d) (with_frames s x.t) b p) is x.gives in
    subst (λ (d : Streams). DataBy s.part (with_streams c d) (with_frames s n.stream) 0 (length n.piece) b p) (ap (λ (r : StreamRun). r.connection) all) (
    subst (λ (t : Frames). DataBy s.part (with_streams c x.d) (with_frames s t) 0 (length n.piece) b p) (ap (λ (r : StreamRun). r.stream) all) gives)
  where
    none_seen : (p : List ℕ) → 0 < length p → has_none (bytes_seen p) ≡ false
    none_seen [] l = absurd (omega (arith, l))
    none_seen (x ∷ p) l = refl

-- ---- what the pieces are together

-- without bytes a call changes nothing
record RestsAt (c : Connection) (s : Stream) (r : Outcome) : Type 0 where
  stops : course_of r.1 ≡ Stops
  none : r.0 ≡ 0
  connection : r.2 ≡ c
  stream : r.3 ≡ s

rests_of : (o r : Outcome) (c : Connection) (s : Stream) → o.2 ≡ c → o.3 ≡ s → RestsAt c s r → Rests o r
rests_of o r c s e f h = record { stops = h.stops; none = h.none; connection = h.connection ∙ sym e; stream = h.stream ∙ sym f }

found_rests : (x : Found) (limit : ℕ) (c : Connection) (s : Stream) (r : Outcome) (d : Streams) (t : Frames) → Fits x [] d t → found_by x [] d t ≡ rests c.streams s.frames [] → FoundGives limit x (with_streams c d) (with_frames s t) [] r → RestsAt c s r
found_rests (found.More n) limit c s r d t w e g = record {
  stops = ap (λ (z : Outcome). course_of z.1) g ∙ more_course t;
  none = ap (λ (z : Outcome). z.0) g ∙ omega (arith, w.0);
  connection = ap (λ (z : Outcome). z.2) g ∙ ap (λ (z : StreamRun). with_streams c z.connection) e;
  stream = ap (λ (z : Outcome). z.3) g ∙ ap (λ (z : StreamRun). with_frames s z.stream) e;
}
found_rests (found.Data start end) limit c s r d t w e g = absurd (none_size w.0 w.1)
  where
    none_size : {m k : ℕ} → m < k → k ≤ 0 → ⊥
    none_size l n = omega (arith, l, n)
found_rests (found.Opened p n) limit c s r d t w e g = absurd (cc (ap (λ (z : StreamRun). z.seen) e))
found_rests (found.Settings k start end) limit c s r d t w e g = absurd (cc (ap (λ (z : StreamRun). z.seen) e))
found_rests (found.Frame k start end) limit c s r d t w e g = absurd (cc (ap (λ (z : StreamRun). z.seen) e))
found_rests (found.TooLarge size n) limit c s r d t w e g = absurd (cc (ap (λ (z : StreamRun). z.seen) e))
found_rests (found.Fault f) limit c s r d t w e g = absurd (cc (ap (λ (z : StreamRun). z.seen) e))
found_rests found.End limit c s r d t w e g = absurd (cc (ap (λ (z : StreamRun). z.seen) e))

empty_rests : (limit : ℕ) (c : Connection) (s : Stream) (r : Outcome) → c.over ≡ false → s.unread ≡ unread.Nothing → due_by s.part false ≡ due.Nothing → Receives limit c s [] false r → RestsAt c s r
empty_rests limit c s r intact none idle h =
    let x : GoesOn limit c s [] false r = goes_of limit c s [] false r h intact none (due_still s.part true idle) in
    found_rests x.x limit c s r x.d x.t x.found.fits (x.first ∙ seen_empty c.streams s.frames) x.gives

-- bytes that are not counted
bytes_grown : (f : List ℕ → Told) (limit : ℕ) (c : Connection) (s : Stream) (a b : List ℕ) (fin : Bool) (start end : ℕ) (o q : Outcome) → ((l : List ℕ) → course_of (f l) ≡ Continues) → ((l : List ℕ) → spread (f l) ≡ each_byte f l) → ((x y : List ℕ) → joined_told (f x) (f y) ≡ f (x ++ y)) → start ≤ end → end ≡ length a → (n : NextPiece c.streams s.frames b) → ((p : Outcome) → Receives limit c s b fin p → p ≡ (length n.piece, f (slice 0 (length n.piece) b), c, with_frames s n.stream)) → ((r : Outcome) → Receives limit c s [] false r → RestsAt c s r) → o ≡ (end, f (slice start end a), c, s) → q ≡ (end + length n.piece, f (slice start (end + length n.piece) (a ++ b)), c, with_frames s n.stream) → Grown limit a b fin o q
bytes_grown f limit c s a b fin start end o q goes spreads joins l e n next rests g h =
    let x : List ℕ = slice start end a in
    let y : List ℕ = slice 0 (length n.piece) b in
    let both : slice start (end + length n.piece) (a ++ b) ≡ x ++ y = whole_slice start end a b n.piece n.rest l e n.parts ∙ ap (λ (k : List ℕ). slice start end a ++ k) (sym (first_slice b n.piece n.rest n.parts)) in
    Longer (ap (λ (z : Outcome). z.0) g ∙ e) (ap (λ (z : Outcome). course_of z.1) g ∙ goes x) (λ p r.
    let is : p ≡ (length n.piece, f y, c, with_frames s n.stream) = next p (subst (λ (z : Outcome). Receives limit z.2 z.3 b fin p) g r) in
    record {
      goes = ap (λ (z : Outcome). course_of z.1) is ∙ goes y;
      is =
          h
          ∙ ap (λ (k : List ℕ). (end + length n.piece, f k, c, with_frames s n.stream)) both
          ∙ ap (λ (t : Told). (end + length n.piece, t, c, with_frames s n.stream)) (sym (joins x y))
          ∙ ap (λ (z : Outcome). joined (end, f x, c, s) z) (sym is)
          ∙ ap (λ (z : Outcome). joined z p) (sym g);
      bytes =
          ap (λ (z : Outcome). spread z.1) h
          ∙ ap (λ (k : List ℕ). spread (f k)) both
          ∙ spreads (x ++ y)
          ∙ map-append (λ (k : ℕ). f (k ∷ [])) x y
          ∙ ap (λ (k : List Told). k ++ each_byte f y) (sym (spreads x))
          ∙ ap (λ (k : List Told). spread (f x) ++ k) (sym (spreads y))
          ∙ ap (λ (z : Outcome). spread z.1 ++ spread (f y)) (sym g)
          ∙ ap (λ (z : Outcome). spread o.1 ++ spread z.1) (sym is);
    }) (λ r k. rests_of o r c s (ap (λ (z : Outcome). z.2) g) (ap (λ (z : Outcome). z.3) g) (rests r (subst (λ (z : Outcome). Receives limit z.2 z.3 [] false r) g k)))

-- content, which is counted
message_twice : (k : Part) (m n : Message) → with_message (with_message k m) n ≡ with_message k n
message_twice (part.Head x) m n = refl
message_twice other m n = refl

due_message : (k : Part) (m : Message) → due_by (with_message k m) false ≡ due.Nothing
due_message (part.Head x) m = refl
due_message other m = refl

content_data : (k : Part) (m : Message) (c : Connection) (s : Stream) (start end : ℕ) (bytes : List ℕ) (o : Outcome) → DataBy (with_message k m) c s start end bytes o → o ≡ content_found c s m start end bytes
content_data (part.Head x) m c s start end bytes o h = h
content_data (part.Body x) m c s start end bytes o h = h
content_data (part.Session x) m c s start end bytes o h = h
content_data part.OfSession m c s start end bytes o h = h
content_data (part.Unanswered x y) m c s start end bytes o h = h
content_data part.Tunnel m c s start end bytes o h = h
content_data part.NoMessage m c s start end bytes o h = h
content_data (part.Closed x) m c s start end bytes o h = h
content_data part.Ending m c s start end bytes o h = h
content_data part.Losing m c s start end bytes o h = h
content_data part.Past m c s start end bytes o h = h

content_true : (b : Bool) (c : Connection) (s : Stream) (m : Message) (start end : ℕ) (bytes : List ℕ) (o : Outcome) → o ≡ content_by b c s m start end bytes → b ≡ true → o ≡ content_by true c s m start end bytes
content_true b c s m start end bytes o g e = g ∙ ap (λ (k : Bool). content_by k c s m start end bytes) e

-- the content is too long
critical_case : (k : Bool) (d : Streams) (t : Frames) (x : Streams × Frames) → is_critical t ≡ k → is_critical (cond {A = Streams × Frames} k (d, t) x).1 ≡ false → is_critical t ≡ false
critical_case true d t x e h = h
critical_case false d t x e h = e

refused_grown : (limit : ℕ) (c : Connection) (s : Stream) (a b : List ℕ) (fin : Bool) (o q : Outcome) (n : NextPiece c.streams s.frames b) → is_critical s.frames ≡ false → o ≡ malformed c s ContentTooLong (length a) → q ≡ malformed c (with_frames s n.stream) ContentTooLong (length (a ++ b)) → Grown limit a b fin o q
refused_grown limit c s a b fin o q n e g h = Whole (
    ap plain h
    ∙ ap (λ (x : Streams × Frames). plain (length (a ++ b), Malformed ContentTooLong, (left_by c s x).0, with_part (left_by c s x).1 part.NoMessage)) (n.abandoned e)
    ∙ ap (λ (z : Outcome). moved 0 (length (a ++ b)) z) (sym g))

abbrev Content : Bool → Connection → Stream → Message → List ℕ → List ℕ → ℕ → ℕ → ℕ → Frames → Outcome → Outcome → Type 0
Content k c s m a b start end size u o q =
    (o ≡ content_by k c s m start end a) × (q ≡ content_by k c (with_frames s u) m start (end + size) (a ++ b))

-- the piece is within the announced length
counted_grown : (limit : ℕ) (c : Connection) (s : Stream) (m : Message) (a b : List ℕ) (fin : Bool) (start end : ℕ) (o q : Outcome) → c.over ≡ false → s.unread ≡ unread.Nothing → start ≤ end → end ≡ length a → (n : NextPiece c.streams s.frames b) → remaining_of s.frames ≡ length n.piece + remaining_of n.stream → fits m.content.left ((end - start) + remaining_of s.frames) ≡ true → Content true c s m a b start end (length n.piece) n.stream o q → Grown limit a b fin o q
counted_grown limit c s m a b fin start end o q intact none l e n left is (g, h) =
    let m1 : Message = counted m (end - start) in
    let s1 : Stream = with_part s (with_message s.part m1) in
    let size : ℕ = length n.piece in
    let both : List ℕ = slice start end a ++ slice 0 size b in
    Longer (ap (λ (z : Outcome). z.0) g ∙ e) (ap (λ (z : Outcome). course_of z.1) g) (λ p r.
    let found : DataBy s1.part c (with_frames s1 n.stream) 0 size b p = next_found limit c s1 b fin p intact none (due_message s.part m1) n (subst (λ (z : Outcome). Receives limit z.2 z.3 b fin p) g r) in
    let by : p ≡ content_found c (with_frames s1 n.stream) m1 0 size b = content_data s.part m1 c (with_frames s1 n.stream) 0 size b p found in
    let fits_more : fits m1.content.left ((size - 0) + remaining_of n.stream) ≡ true =
    ap (λ (i : ℕ). fits m1.content.left i) (omega (arith, left)) ∙ fits_later m.content.left (end - start) (remaining_of s.frames) is in
    let whole : p ≡ content_by true c (with_frames s1 n.stream) m1 0 size b = by ∙ ap (λ (k : Bool). content_by k c (with_frames s1 n.stream) m1 0 size b) fits_more in
    record {
      goes = ap (λ (z : Outcome). course_of z.1) whole;
      bytes =
          ap (λ (z : Outcome). spread z.1) h
          ∙ ap (λ (k : List ℕ). each_byte Data k) (whole_slice start end a b n.piece n.rest l e n.parts ∙ ap (λ (x : List ℕ). slice start end a ++ x) (sym (first_slice b n.piece n.rest n.parts)))
          ∙ map-append (λ (k : ℕ). Data (k ∷ [])) (slice start end a) (slice 0 size b)
          ∙ ap (λ (z : Outcome). spread z.1 ++ each_byte Data (slice 0 size b)) (sym g)
          ∙ ap (λ (z : Outcome). spread o.1 ++ spread z.1) (sym whole);
      is =
          h
          ∙ ap (λ (x : List ℕ). (end + size, Data x, c, with_part (with_frames s n.stream) (with_message s.part (counted m ((end + size) - start))))) (whole_slice start end a b n.piece n.rest l e n.parts ∙ ap (λ (x : List ℕ). slice start end a ++ x) (sym (first_slice b n.piece n.rest n.parts)))
          ∙ ap (λ (x : Option ℕ). (end + size, Data both, c, with_part (with_frames s n.stream) (with_message s.part (record m { content = record { left = x } }))))
          (ap (λ (i : ℕ). left_after m.content.left i) (omega (arith, l)) ∙ sym (counted_alike m.content.left (end - start) (size - 0)))
          ∙ ap (λ (x : Part). (end + size, Data both, c, with_part (with_frames s n.stream) x)) (sym (message_twice s.part m1 (counted m1 (size - 0))))
          ∙ ap (λ (z : Outcome). joined (end, Data (slice start end a), c, s1) z) (sym whole)
          ∙ ap (λ (z : Outcome). joined z p) (sym g);
    }) (λ r k. rests_of o r c s1 (ap (λ (z : Outcome). z.2) g) (ap (λ (z : Outcome). z.3) g) (empty_rests limit c s1 r intact none (due_message s.part m1) (subst (λ (z : Outcome). Receives limit z.2 z.3 [] false r) g k)))

content_grown : (k : Bool) (limit : ℕ) (c : Connection) (s : Stream) (m : Message) (a b : List ℕ) (fin : Bool) (start end : ℕ) (o q : Outcome) → c.over ≡ false → s.unread ≡ unread.Nothing → start ≤ end → end ≡ length a → (n : NextPiece c.streams s.frames b) → remaining_of s.frames ≡ length n.piece + remaining_of n.stream → fits m.content.left ((end - start) + remaining_of s.frames) ≡ k → Content k c s m a b start end (length n.piece) n.stream o q → is_critical o.3.frames ≡ false → Grown limit a b fin o q
content_grown true limit c s m a b fin start end o q intact none l e n left is g free = counted_grown limit c s m a b fin start end o q intact none l e n left is g
content_grown false limit c s m a b fin start end o q intact none l e n left is g free =
    refused_grown limit c s a b fin o q n (critical_case (is_critical s.frames) c.streams s.frames (without c.streams s.frames, over_from s.frames) refl (subst (λ (z : Outcome). is_critical z.3.frames ≡ false) g.0 free)) g.0 g.1

-- ---- by the part of the stream

-- the piece that was found in all bytes
later_size : (start end rest size : ℕ) → start ≤ end → ((end + size) - start) + rest ≡ (end - start) + (size + rest)
later_size start end rest size l = omega (arith, l)

frames_of : (p : Part) (t : Frames) (m : Message) → HasFrames p t → p ≡ part.Head m ⊎ p ≡ part.Body m → IsFrames t
frames_of (part.Head x) (frames.Frames r g) m h k = tt
frames_of (part.Body x) (frames.Frames r g) m h k = tt
frames_of (part.Head x) other m h k = absurd h
frames_of (part.Body x) other m h k = absurd h
frames_of other t m h k = elim k [
  | inl e ↦ absurd (cc e)
  | inr e ↦ absurd (cc e)
]

part_grown : (k : Part) (limit : ℕ) (c : Connection) (s : Stream) (a b : List ℕ) (fin : Bool) (start end : ℕ) (o q : Outcome) → s.part ≡ k → (IsSession k → ⊥) → due_by k false ≡ due.Nothing → c.over ≡ false → s.unread ≡ unread.Nothing → start ≤ end → end ≡ length a → (n : NextPiece c.streams s.frames b) → (((m : Message) → s.part ≡ part.Head m ⊎ s.part ≡ part.Body m → IsFrames s.frames)) → DataBy k c s start end a o → DataBy k c (with_frames s n.stream) start (end + length n.piece) (a ++ b) q → is_critical o.3.frames ≡ false → Grown limit a b fin o q
part_grown (part.Head m) limit c s a b fin start end o q is ns idle intact none l e n frames g h free =
    let left : remaining_of s.frames ≡ length n.piece + remaining_of n.stream = n.left (frames m (inl is)) in
    content_grown (fits m.content.left ((end - start) + remaining_of s.frames)) limit c s m a b fin start end o q intact none l e n left refl
    (g, h ∙ ap (λ (i : ℕ). content_by (fits m.content.left i) c (with_frames s n.stream) m start (end + length n.piece) (a ++ b)) (later_size start end (remaining_of n.stream) (length n.piece) l ∙ ap (λ (i : ℕ). (end - start) + i) (sym left))) free
part_grown (part.Body m) limit c s a b fin start end o q is ns idle intact none l e n frames g h free =
    let left : remaining_of s.frames ≡ length n.piece + remaining_of n.stream = n.left (frames m (inr is)) in
    content_grown (fits m.content.left ((end - start) + remaining_of s.frames)) limit c s m a b fin start end o q intact none l e n left refl
    (g, h ∙ ap (λ (i : ℕ). content_by (fits m.content.left i) c (with_frames s n.stream) m start (end + length n.piece) (a ++ b)) (later_size start end (remaining_of n.stream) (length n.piece) l ∙ ap (λ (i : ℕ). (end - start) + i) (sym left))) free
part_grown (part.Session size) limit c s a b fin start end o q is ns idle intact none l e n frames g h free = absurd (ns tt)
part_grown part.OfSession limit c s a b fin start end o q is ns idle intact none l e n frames g h free =
    bytes_grown StreamData limit c s a b fin start end o q (λ x. refl) (λ x. refl) (λ x y. refl) l e n
    (λ p r. subst (λ (k : Part). DataBy k c (with_frames s n.stream) 0 (length n.piece) b p) is (next_found limit c s b fin p intact none (subst (λ (k : Part). due_by k false ≡ due.Nothing) (sym is) idle) n r)) (λ r k. empty_rests limit c s r intact none (subst (λ (k : Part). due_by k false ≡ due.Nothing) (sym is) idle) k) g h
part_grown k limit c s a b fin start end o q is ns idle intact none l e n frames g h free =
    bytes_grown Data limit c s a b fin start end o q (λ x. refl) (λ x. refl) (λ x y. refl) l e n
    (λ p r. subst (λ (k : Part). DataBy k c (with_frames s n.stream) 0 (length n.piece) b p) is (next_found limit c s b fin p intact none (subst (λ (k : Part). due_by k false ≡ due.Nothing) (sym is) idle) n r)) (λ r k. empty_rests limit c s r intact none (subst (λ (k : Part). due_by k false ≡ due.Nothing) (sym is) idle) k) g h

-- ---- by whether the piece goes on

some_slice : (start end : ℕ) (a : List ℕ) → start < end → end ≤ length a → 0 < length (slice start end a)
some_slice start end a l w = omega (arith, l, w, slice_length start end a (omega (arith, l)) w)

ends_here : (limit : ℕ) (c : Connection) (s : Stream) (a b : List ℕ) (fin : Bool) (o q : Outcome) (start end : ℕ) (d : Streams) (t : Frames) → (IsSession s.part → ⊥) → HasMemory o → c.over ≡ false → s.unread ≡ unread.Nothing → due_by s.part false ≡ due.Nothing → (start < end) × (end ≤ length a) → found_by (found.Data start end) a d t ≡ first_seen c.streams s.frames a → DataBy s.part (with_streams c d) (with_frames s t) start end a o → longer (found_by (found.Data start end) a d t) b ≡ left_over (found_by (found.Data start end) a d t) b → Receives limit c s (a ++ b) fin q → HasMemory q → Grown limit a b fin o q
ends_here limit c s a b fin o q start end d t ns v intact none idle w first g is h m = Whole (
    left_given limit c s a b fin o q (found.Data start end) d t ns v intact none idle w first g
    (piece_seen (slice start end a) (found_by (found.Data start end) a d t) b (some_slice start end a w.0 w.1) ∙ is)
    (some_piece start end a w.0 w.1) h m)

-- the connection goes on where a piece is found
streams_open : (c : Streams) (s : Frames) (a p : List ℕ) → 0 < length p → (first_seen c s a).seen ≡ bytes_seen p → c.over ≡ false
streams_open c s a p l e = elim (cases_Bool c.over) [
  | inl over ↦ absurd (none_left p l (sym (ap (λ (r : StreamRun). r.seen) (first_over c s a over)) ∙ e))
  | inr intact ↦ intact
]
  where
    none_left : (p : List ℕ) → 0 < length p → [] ≡ bytes_seen p → ⊥
    none_left [] l e = omega (arith, l)
    none_left (x ∷ p) l e = cc e

zero_if : (n : ℕ) → (n == 0) ≡ true → n ≡ 0
zero_if n e = elim (cases_lt 0 n) [
  | inl some ↦ absurd (cc (sym (ne_eqb n 0 (λ z. omega (arith, z, some))) ∙ e))
  | inr none ↦ omega (arith, none)
]

first_true : (x y : Bool) → (x && y) ≡ true → x ≡ true
first_true true y e = refl
first_true false y e = absurd (cc e)

all_taken : (end : ℕ) (a : List ℕ) (k : Bool) → end ≤ length a → ((length (drop end a) == 0) && k) ≡ true → end ≡ length a
all_taken end a k l e = omega (arith, l, length-drop end a, zero_if (length (drop end a)) (first_true (length (drop end a) == 0) k e))

none_with : (p : List ℕ) (l : List Seen) → 0 < length p → has_none (bytes_seen p ++ l) ≡ false
none_with [] l h = absurd (omega (arith, h))
none_with (x ∷ p) l h = refl

longer_in : (x : StreamRun) (b : List ℕ) → in_piece x ≡ true → longer x b ≡ followed x.seen (first_seen x.connection x.stream b)
longer_in x b e = ap (λ (k : Bool). cond k (followed x.seen (first_seen x.connection x.stream b)) (left_over x b)) e

longer_out : (x : StreamRun) (b : List ℕ) → in_piece x ≡ false → longer x b ≡ left_over x b
longer_out x b e = ap (λ (k : Bool). cond k (followed x.seen (first_seen x.connection x.stream b)) (left_over x b)) e

goes_on_here : (limit : ℕ) (c : Connection) (s : Stream) (a b : List ℕ) (fin : Bool) (o q : Outcome) (start end : ℕ) (d : Streams) (t : Frames) → (IsSession s.part → ⊥) → HasFrames s.part s.frames → c.over ≡ false → s.unread ≡ unread.Nothing → due_by s.part false ≡ due.Nothing → (start < end) × (end ≤ length a) → found_by (found.Data start end) a d t ≡ first_seen c.streams s.frames a → in_piece (found_by (found.Data start end) a d t) ≡ true → 0 < length b → DataBy s.part (with_streams c d) (with_frames s t) start end a o → is_critical o.3.frames ≡ false → Receives limit c s (a ++ b) fin q → Grown limit a b fin o q
goes_on_here limit c s a b fin o q start end d t ns hf intact none idle w first inside some g free h =
    let p : List ℕ = slice start end a in
    let x : StreamRun = found_by (found.Data start end) a d t in
    let full : 0 < length p = some_slice start end a w.0 w.1 in
    let seen : (first_seen c.streams s.frames a).seen ≡ bytes_seen p = ap (λ (r : StreamRun). r.seen) (sym first) in
    let going : c.streams.over ≡ false = streams_open c.streams s.frames a p full seen in
    let n : NextPiece d t b = subst (λ (r : StreamRun). NextPiece r.connection r.stream b) (sym first) (piece_next s.frames c.streams a b p going some full seen (ap in_piece (sym first) ∙ inside)) in
    let z : StreamRun = record { seen = bytes_seen p ++ bytes_seen n.piece; connection = d; stream = n.stream; left = n.rest } in
    let y : GoesOn limit c s (a ++ b) fin q = goes_of limit c s (a ++ b) fin q h intact none (due_still s.part (length (a ++ b) == 0) idle) in
    let all : found_by y.x (a ++ b) y.d y.t ≡ z =
    y.first
    ∙ ap (λ (r : StreamRun). at_end fin r) (
    seen_more c.streams s.frames a b
    ∙ ap (λ (r : StreamRun). with_more r b) (sym first)
    ∙ piece_seen p x b full
    ∙ longer_in x b inside
    ∙ ap (λ (r : StreamRun). followed (bytes_seen p) r) n.is)
    ∙ keeps_end fin z (none_with p (bytes_seen n.piece) full) in
    let last : end ≡ length a = all_taken end a _ w.1 inside in
    let sizes : length (a ++ b) ≡ (end + length n.piece) + length n.rest = omega (arith, last, length-append a b, ap length n.parts, length-append n.piece n.rest) in
    let is : y.x ≡ found.Data start (end + length n.piece) =
    found_is y.x (a ++ b) y.d y.t y.found.fits
    ∙ ap (λ (l : List Seen). found_from l (length (a ++ b)) (length (rest_after y.x (a ++ b)))) (ap (λ (r : StreamRun). r.seen) all ∙ sym (seen_append p n.piece))
    ∙ ap (λ (k : ℕ). found_from (bytes_seen (p ++ n.piece)) (length (a ++ b)) k) (ap (λ (r : StreamRun). length r.left) all)
    ∙ data_from (p ++ n.piece) (length (a ++ b)) (length n.rest) (omega (arith, full, length-append p n.piece))
    ∙ ap (λ (k : ℕ). found.Data (k - length (p ++ n.piece)) k) (omega (arith, sizes))
    ∙ ap (λ (k : ℕ). found.Data k (end + length n.piece)) (omega (arith, length-append p n.piece, slice_length start end a (omega (arith, w.0)) w.1, w.0)) in
    let found : FoundGives limit (found.Data start (end + length n.piece)) (with_streams c y.d) (with_frames s y.t) (a ++ b) q = subst (λ (k : Found). FoundGives limit k (with_streams c y.d) (with_frames s y.t) (a ++ b) q) is y.gives in
    let later : DataBy s.part (with_streams c d) (with_frames s n.stream) start (end + length n.piece) (a ++ b) q =
    subst (λ (k : Streams). DataBy s.part (with_streams c k) (with_frames s n.stream) start (end + length n.piece) (a ++ b) q) (ap (λ (r : StreamRun). r.connection) all) (
    subst (λ (k : Frames). DataBy s.part (with_streams c y.d) (with_frames s k) start (end + length n.piece) (a ++ b) q) (ap (λ (r : StreamRun). r.stream) all) found) in
    part_grown s.part limit (with_streams c d) (with_frames s t) a b fin start end o q refl ns idle intact none (omega (arith, w.0)) last n
    (λ m k. subst (λ (r : StreamRun). IsFrames r.stream) (sym first) (frames_stay s.frames c.streams a p going full seen (frames_of s.part s.frames m hf k)))
    g later free

nothing_more : (c : Streams) (t : Frames) (p left : List ℕ) → length left ≡ 0 → followed (bytes_seen p) (first_seen c t []) ≡ record { seen = bytes_seen p; connection = c; stream = t; left = left ++ [] }
nothing_more c t p left e =
    ap (λ (r : StreamRun). followed (bytes_seen p) r) (seen_empty c t)
    ∙ ap (λ (l : List Seen). record { seen = l; connection = c; stream = t; left = [] }) (append-nil (bytes_seen p))
    ∙ ap (λ (l : List ℕ). record { seen = bytes_seen p; connection = c; stream = t; left = l }) (sym (append-nil left ∙ no_rest left e))

found_piece : (limit : ℕ) (c : Connection) (s : Stream) (a b : List ℕ) (fin : Bool) (o q : Outcome) (start end : ℕ) (d : Streams) (t : Frames) → (IsSession s.part → ⊥) → HasFrames s.part s.frames → HasMemory o → c.over ≡ false → s.unread ≡ unread.Nothing → due_by s.part false ≡ due.Nothing → (start < end) × (end ≤ length a) → found_by (found.Data start end) a d t ≡ first_seen c.streams s.frames a → DataBy s.part (with_streams c d) (with_frames s t) start end a o → is_critical o.3.frames ≡ false → Receives limit c s (a ++ b) fin q → HasMemory q → Grown limit a b fin o q
found_piece limit c s a [] fin o q start end d t ns hf v intact none idle w first g free h m =
    let x : StreamRun = found_by (found.Data start end) a d t in
    ends_here limit c s a [] fin o q start end d t ns v intact none idle w first g (elim (cases_Bool (in_piece x)) [
      | inl inside ↦ longer_in x [] inside ∙ nothing_more d t (slice start end a) (drop end a) (zero_if (length (drop end a)) (first_true (length (drop end a) == 0) _ inside))
      | inr out ↦ longer_out x [] out
    ]) h m
found_piece limit c s a (y ∷ b) fin o q start end d t ns hf v intact none idle w first g free h m =
    let x : StreamRun = found_by (found.Data start end) a d t in
    elim (cases_Bool (in_piece x)) [
      | inl inside ↦ goes_on_here limit c s a (y ∷ b) fin o q start end d t ns hf intact none idle w first inside (omega arith) g free h
      | inr out ↦ ends_here limit c s a (y ∷ b) fin o q start end d t ns v intact none idle w first g (longer_out x (y ∷ b) out) h m
    ]

-- ---- by what was found

piece_goes : (t : Told) → IsPiece t → course_of t ≡ Stops → ⊥
piece_goes (Data x) i e = cc e
piece_goes (StreamData x) i e = cc e
piece_goes (Malformed rule) i e = cc e
piece_goes other i e = i

more_is_none : (f : Frames) → IsPiece (told_more f) → ⊥
more_is_none (frames.Waiting id) i = i
more_is_none other i = i

abbrev Pieces : ℕ → Connection → Stream → List ℕ → List ℕ → Bool → Outcome → Outcome → Type 0
Pieces limit c s a b fin o q =
    IsPiece o.1 → is_critical o.3.frames ≡ false → Receives limit c s (a ++ b) fin q → HasMemory q → Grown limit a b fin o q

found_pieces : (x : Found) (limit : ℕ) (c : Connection) (s : Stream) (a b : List ℕ) (fin : Bool) (o q : Outcome) (d : Streams) (t : Frames) → (IsSession s.part → ⊥) → HasFrames s.part s.frames → HasMemory o → c.over ≡ false → s.unread ≡ unread.Nothing → due_by s.part false ≡ due.Nothing → Fits x a d t → found_by x a d t ≡ first_seen c.streams s.frames a → FoundGives limit x (with_streams c d) (with_frames s t) a o → Pieces limit c s a b fin o q
found_pieces (found.Data start end) limit c s a b fin o q d t ns hf v intact none idle w first g i free h m = found_piece limit c s a b fin o q start end d t ns hf v intact none idle w first g free h m
found_pieces (found.More n) limit c s a b fin o q d t ns hf v intact none idle w first g i free h m = absurd (more_is_none t (subst (λ (z : Outcome). IsPiece z.1) g i))
found_pieces (found.Opened p n) limit c s a b fin o q d t ns hf v intact none idle w first g i free h m = Whole (left_given limit c s a b fin o q (found.Opened p n) d t ns v intact none idle w first g refl refl h m)
found_pieces (found.Settings k start end) limit c s a b fin o q d t ns hf v intact none idle w first g i free h m = Whole (left_given limit c s a b fin o q (found.Settings k start end) d t ns v intact none idle w first g refl refl h m)
found_pieces (found.Frame k start end) limit c s a b fin o q d t ns hf v intact none idle w first g i free h m = Whole (left_given limit c s a b fin o q (found.Frame k start end) d t ns v intact none idle w first g refl refl h m)
found_pieces (found.TooLarge size n) limit c s a b fin o q d t ns hf v intact none idle w first g i free h m = Whole (left_given limit c s a b fin o q (found.TooLarge size n) d t ns v intact none idle w first g refl refl h m)
found_pieces (found.Fault f) limit c s a b fin o q d t ns hf v intact none idle w first g i free h m = Whole (fault_given limit c s a b fin o q f d t ns v intact none idle first g h m)
found_pieces found.End limit c s a b fin o q d t ns hf v intact none idle w first g i free h m = Whole (end_given limit c s a b fin o q d t ns v intact none idle first g h m)

goes_pieces : (limit : ℕ) (c : Connection) (s : Stream) (a b : List ℕ) (fin : Bool) (o q : Outcome) → (IsSession s.part → ⊥) → HasFrames s.part s.frames → HasMemory o → c.over ≡ false → s.unread ≡ unread.Nothing → due_by s.part (length a == 0) ≡ due.Nothing → GoesOn limit c s a false o → Pieces limit c s a b fin o q
goes_pieces limit c s [] b fin o q ns hf v intact none idle g i free h m =
    absurd (piece_goes o.1 i (empty_given g.x limit c s o g.d g.t g.found.fits (ap (λ (r : StreamRun). r.seen) (g.first ∙ seen_empty c.streams s.frames)) g.gives))
goes_pieces limit c s (y ∷ a) b fin o q ns hf v intact none idle g i free h m =
    found_pieces g.x limit c s (y ∷ a) b fin o q g.d g.t ns hf v intact none (subst (λ (e : Bool). due_by s.part e ≡ due.Nothing) (some_bytes (y ∷ a) (omega arith)) idle) g.found.fits g.first g.gives i free h m

due_pieces : (x : Due) (limit : ℕ) (c : Connection) (s : Stream) (a b : List ℕ) (fin : Bool) (o q : Outcome) → (IsSession s.part → ⊥) → HasFrames s.part s.frames → HasMemory o → c.over ≡ false → s.unread ≡ unread.Nothing → due_by s.part (length a == 0) ≡ x → DueGives x limit c s a false o → Pieces limit c s a b fin o q
due_pieces due.Nothing limit c s a b fin o q ns hf v intact none is g i free h m = goes_pieces limit c s a b fin o q ns hf v intact none is g i free h m
due_pieces due.Wait limit c s a b fin o q ns hf v intact none is g i free h m = absurd (subst (λ (z : Outcome). IsPiece z.1) g i)
due_pieces (due.Content size) limit c s a b fin o q ns hf v intact none is g i free h m = absurd (ns (content_due s.part (length a == 0) size is))
due_pieces due.Spoiled limit c s a b fin o q ns hf v intact none is g i free h m = absurd (subst (λ (z : Outcome). IsPiece z.1) g i)
due_pieces due.End limit c s a b fin o q ns hf v intact none is g i free h m = absurd (subst (λ (z : Outcome). IsPiece z.1) g i)
due_pieces due.Lost limit c s a b fin o q ns hf v intact none is g i free h m = absurd (subst (λ (z : Outcome). IsPiece z.1) g i)

stream_pieces : (u : Unread) (limit : ℕ) (c : Connection) (s : Stream) (a b : List ℕ) (fin : Bool) (o q : Outcome) → (IsSession s.part → ⊥) → HasFrames s.part s.frames → HasMemory o → c.over ≡ false → s.unread ≡ u → StreamGives u limit c s a false o → Pieces limit c s a b fin o q
stream_pieces (unread.Early size why) limit c s a b fin o q ns hf v intact is g i free h m = Whole (unread_given (nat_lt (length a) size) size limit c s a b o q refl g (subst (λ (x : Unread). StreamGives x limit c s (a ++ b) fin q) is (subst (λ (k : Bool). ReceivesIf k limit c s (a ++ b) fin q) intact h)) v m (piece_goes o.1 i))
stream_pieces (unread.Section size) limit c s a b fin o q ns hf v intact is g i free h m = Whole (unread_given (nat_lt (length a) size) size limit c s a b o q refl g (subst (λ (x : Unread). StreamGives x limit c s (a ++ b) fin q) is (subst (λ (k : Bool). ReceivesIf k limit c s (a ++ b) fin q) intact h)) v m (piece_goes o.1 i))
stream_pieces unread.Nothing limit c s a b fin o q ns hf v intact is g i free h m = due_pieces (due_by s.part (length a == 0)) limit c s a b fin o q ns hf v intact is refl g i free h m

pub calls_give_pieces : (limit : ℕ) (c : Connection) (s : Stream) (a b : List ℕ) (fin : Bool) (o q : Outcome) → (IsSession s.part → ⊥) → HasFrames s.part s.frames → Receives limit c s a false o → IsPiece o.1 → is_critical o.3.frames ≡ false → Receives limit c s (a ++ b) fin q → HasMemory q → Grown limit a b fin o q
calls_give_pieces limit c s a b fin o q ns hf g i free h m = elim (cases_Bool c.over) [
  | inl over ↦ absurd (subst (λ (z : Outcome). IsPiece z.1) (subst (λ (x : Bool). ReceivesIf x limit c s a false o) over g) i)
  | inr intact ↦ stream_pieces s.unread limit c s a b fin o q ns hf (piece_memory o.1 i) intact refl (subst (λ (x : Bool). ReceivesIf x limit c s a false o) intact g) i free h m
]
  where
    piece_memory : (t : Told) → IsPiece t → course_of t ≡ Repeats → ⊥
    piece_memory (Data x) i e = cc e
    piece_memory (StreamData x) i e = cc e
    piece_memory (Malformed rule) i e = cc e
    piece_memory other i e = i
