-- What a call gives for what it found: the same wherever its bytes begin, and whatever follows them.
use Rattle.std.proofs.Common.{◌≡◌, ℕ, ◌+◌, ◌-◌, ◌<◌, ◌≤◌, Bool, true, false, List, [], ◌∷◌, map, length, drop, Option, Some, None, Result, Ok, Err, refl, sym, ap, subst, ◌∙◌, arith, length-drop}
use Rattle.std.proofs.lemmas.List.{length-map, length-take-le}
use Rattle.wtp_core.specs.Varint.{number_at}
use Rattle.wtp_core.specs.declared.error.scope.ErrorScope.{ErrorScope}
use Rattle.wtp_core.specs.declared.error.scope.ErrorScope.TheVariants as scope
use Rattle.wtp_qpack.specs.Field.{Field}
use Rattle.wtp_frames.specs.declared.frame_type.FrameType.{FrameType}
use Rattle.wtp_frames.specs.declared.frame_type.FrameType.TheVariants as kind
use Rattle.wtp_frames.specs.Item.{Whole, Byte, TooLarge as TooLargeItem, Broken}
use Rattle.wtp_frames.specs.Reading.{slice}
use Rattle.wtp_connection.specs.declared.connection.Connection.{Connection as Streams}
use Rattle.wtp_connection.specs.declared.connection.Found.{Found}
use Rattle.wtp_connection.specs.declared.connection.Found.TheVariants as found
use Rattle.wtp_connection.specs.declared.stream.Stream.{Stream as Frames}
use Rattle.wtp_connection.specs.declared.stream.Stream.TheVariants as frames
use Rattle.wtp_connection.specs.declared.stream.Purpose.{Purpose}
use Rattle.wtp_connection.specs.declared.stream.Purpose.TheVariants as «for»
use Rattle.wtp_connection.specs.Opening.{remaining_of}
use Rattle.wtp_connection.specs.Receiving.{seen_of, rest_after, Fits}
use Rattle.wtp_connection.specs.Streams.{Seen, Opened as SeenOpened, Configured, Gave, Broke, Ended, bytes_seen, Joined, tells_interim}
use Rattle.wtp_fields.specs.declared.fields.FieldSectionError.{FieldSectionError}
use Rattle.wtp_fields.specs.declared.fields.FieldSectionError.TheVariants as section_error
use Rattle.wtp_fields.specs.FieldList.{DecodesTo}
use Rattle.wtp_messages.specs.declared.malformed.Malformed.{Malformed}
use Rattle.wtp_messages.specs.declared.message.Message.{Message}
use Rattle.wtp_messages.specs.declared.response.Asked.{Asked}
use Rattle.wtp_messages.specs.declared.response.Asked.TheVariants as asked
use Rattle.wtp_messages.specs.Content.{fits}
use Rattle.wtp_messages.specs.Message.{end_of}
use Rattle.wtp_messages.specs.Response.{is_success}
use Rattle.wtp_dynamic_decoder.specs.Decoder.{Decoder}
use Rattle.wtp_dynamic_fields.specs.declared.section.Decoded.{Decoded}
use Rattle.wtp_dynamic_fields.specs.declared.section.Decoded.TheVariants as decoded
use Rattle.wtp_dynamic_fields.specs.declared.section.TableSectionError.{TableSectionError}
use Rattle.wtp_dynamic_fields.specs.declared.section.TableSectionError.TheVariants as table_error
use Rattle.wtp_dynamic_fields.specs.Reading.{TableGives as SectionReads}
use Rattle.wtp_dynamic_fields.proofs.AgainLemmas.{LacksMemory, read_same}
use Rattle.wtp_webtransport.specs.declared.stream.Delay.{Delay}
use Rattle.wtp_webtransport.specs.declared.stream.Delay.TheVariants as delay
use Rattle.wtp_webtransport.specs.declared.fault.Fault.{Fault}
use Rattle.wtp_webtransport.specs.declared.fault.Fault.TheVariants as fault
use Rattle.wtp_webtransport.specs.declared.connection.Connection.{Connection}
use Rattle.wtp_webtransport.specs.declared.connection.messages.Taken.{Taken}
use Rattle.wtp_webtransport.specs.declared.connection.messages.Taken.TheVariants as taken
use Rattle.wtp_webtransport.specs.declared.connection.messages.Asks.{Asks}
use Rattle.wtp_webtransport.specs.declared.connection.messages.Asks.TheVariants as asks
use Rattle.wtp_webtransport.specs.declared.connection.messages.Span.{Span}
use Rattle.wtp_webtransport.specs.declared.stream.Stream.{Stream}
use Rattle.wtp_webtransport.specs.declared.stream.Part.{Part}
use Rattle.wtp_webtransport.specs.declared.stream.Part.TheVariants as part
use Rattle.wtp_webtransport.specs.declared.stream.Unread.TheVariants as unread
use Rattle.wtp_webtransport.specs.Fault.{scope_of}
use Rattle.wtp_webtransport.specs.Prefix.{names_table}
use Rattle.wtp_webtransport.specs.Events.{Told, Malformed as MalformedBy, Settings, Frame, Headers, SessionRequested, SessionReady, Rejected, Data, StreamData, End, Waits}
use Rattle.wtp_webtransport.specs.declared.event.HeadersKind.TheVariants as headers
use Rattle.wtp_webtransport.specs.Sessions.{asks_of}
use Rattle.wtp_webtransport.specs.Streams.{with_streams, with_frames, with_part, with_message, with_session, connects, wait_for}
use Rattle.wtp_webtransport.specs.Receiving.{Outcome, closed_in, fails, failed_by, malformed, last, found_opened, goaway_in, goaway_found, in_stream, counted, content_by, content_found, DataBy, ends_by, EndBy, too_large_by, too_large, interim_by, request_by, response_in, in_connection, takes, taken_of, ReadGives, ResultGives, PrefixGives, DecodedGives, span_in, SectionBy, told_more, FoundGives, early, read_after, noted, OverGives, TableGives}
use Rattle.wtp_webtransport.specs.Calls.{ruleless, ruleless_taken, Course, Continues, course_of, at_length, plain, moved, IsSession, HasMemory}
use Rattle.wtp_webtransport.proofs.SectionLemmas.{Lacks, decoded_same, Alike, section_same}

-- ---- what was found, by what was seen and how many bytes are left of how many

abbrev pub found_from : List Seen → ℕ → ℕ → Found
found_from [] len left = found.More (len - left)
found_from (SeenOpened p ∷ seen) len left = found.Opened p (len - left)
found_from (Configured v payload ∷ seen) len left = found.Settings v ((len - left) - length payload) (len - left)
found_from (Gave (Whole k payload) ∷ seen) len left = found.Frame k ((len - left) - length payload) (len - left)
found_from (Gave (Byte b) ∷ seen) len left = found.Data ((len - left) - (1 + length seen)) (len - left)
found_from (Gave (TooLargeItem size) ∷ seen) len left = found.TooLarge size (len - left)
found_from (Gave (Broken f) ∷ seen) len left = found.End
found_from (Broke f ∷ seen) len left = found.Fault f
found_from (Ended ∷ seen) len left = found.End

pub slice_length : (start end : ℕ) (bytes : List ℕ) → start ≤ end → end ≤ length bytes → length (slice start end bytes) ≡ end - start
slice_length start end bytes l m = length-take-le (end - start) (drop start bytes) (omega (arith, l, m, length-drop start bytes))

pub data_from : (p : List ℕ) (len left : ℕ) → 0 < length p → found_from (bytes_seen p) len left ≡ found.Data ((len - left) - length p) (len - left)
data_from [] len left l = absurd (omega (arith, l))
data_from (b ∷ p) len left l = ap (λ (n : ℕ). found.Data ((len - left) - n) (len - left)) (omega (arith, length-map (map Byte p) Gave, length-map p Byte))

pub found_is : (x : Found) (bytes : List ℕ) (d : Streams) (t : Frames) → Fits x bytes d t → x ≡ found_from (seen_of x bytes) (length bytes) (length (rest_after x bytes))
found_is (found.Opened p n) bytes d t h = ap (λ (k : ℕ). found.Opened p k) (omega (arith, h, length-drop n bytes))
found_is (found.Settings v start end) bytes d t h =
    ap (λ (k : ℕ). found.Settings v k end) (omega (arith, h.1, h.2, length-drop end bytes, slice_length start end bytes h.1 h.2))
    ∙ ap (λ (k : ℕ). found.Settings v ((length bytes - length (drop end bytes)) - length (slice start end bytes)) k) (omega (arith, h.2, length-drop end bytes))
found_is (found.Frame k start end) bytes d t h =
    ap (λ (n : ℕ). found.Frame k n end) (omega (arith, h.1, h.2, length-drop end bytes, slice_length start end bytes h.1 h.2))
    ∙ ap (λ (n : ℕ). found.Frame k ((length bytes - length (drop end bytes)) - length (slice start end bytes)) n) (omega (arith, h.2, length-drop end bytes))
found_is (found.Data start end) bytes d t h =
    let size : length (slice start end bytes) ≡ end - start = slice_length start end bytes (omega (arith, h.0)) h.1 in
    ap (λ (n : ℕ). found.Data n end) (omega (arith, h.0, h.1, length-drop end bytes, size))
    ∙ ap (λ (n : ℕ). found.Data ((length bytes - length (drop end bytes)) - length (slice start end bytes)) n) (omega (arith, h.1, length-drop end bytes))
    ∙ sym (data_from (slice start end bytes) (length bytes) (length (drop end bytes)) (omega (arith, size, h.0)))
found_is (found.TooLarge size n) bytes d t h = ap (λ (k : ℕ). found.TooLarge size k) (omega (arith, h.1, length-drop n bytes))
found_is (found.More n) bytes d t h = ap (λ (k : ℕ). found.More k) (omega (arith, h.0, length-drop n bytes))
found_is (found.Fault f) bytes d t h = refl
found_is found.End bytes d t h = refl

-- the same, where n bytes are before
abbrev pub shifted : ℕ → Found → Found
shifted n (found.Opened p k) = found.Opened p (n + k)
shifted n (found.Settings v start end) = found.Settings v (n + start) (n + end)
shifted n (found.Frame k start end) = found.Frame k (n + start) (n + end)
shifted n (found.Data start end) = found.Data (n + start) (n + end)
shifted n (found.TooLarge size k) = found.TooLarge size (n + k)
shifted n (found.More k) = found.More (n + k)
shifted n (found.Fault f) = found.Fault f
shifted n found.End = found.End

-- with n bytes before, and m more that are left
pub found_at : (x : Found) (n m : ℕ) (bytes : List ℕ) (d : Streams) (t : Frames) → Fits x bytes d t → found_from (seen_of x bytes) ((n + length bytes) + m) (length (rest_after x bytes) + m) ≡ shifted n x
found_at (found.Opened p k) n m bytes d t h = ap (λ (i : ℕ). found.Opened p i) (omega (arith, h, length-drop k bytes))
found_at (found.Settings v start end) n m bytes d t h =
    let last : ((n + length bytes) + m) - (length (drop end bytes) + m) ≡ n + end = omega (arith, h.2, length-drop end bytes) in
    ap (λ (k : ℕ). found.Settings v (k - length (slice start end bytes)) k) last
    ∙ ap (λ (k : ℕ). found.Settings v k (n + end)) (omega (arith, h.1, slice_length start end bytes h.1 h.2))
found_at (found.Frame k start end) n m bytes d t h =
    let last : ((n + length bytes) + m) - (length (drop end bytes) + m) ≡ n + end = omega (arith, h.2, length-drop end bytes) in
    ap (λ (i : ℕ). found.Frame k (i - length (slice start end bytes)) i) last
    ∙ ap (λ (i : ℕ). found.Frame k i (n + end)) (omega (arith, h.1, slice_length start end bytes h.1 h.2))
found_at (found.Data start end) n m bytes d t h =
    let size : length (slice start end bytes) ≡ end - start = slice_length start end bytes (omega (arith, h.0)) h.1 in
    let last : ((n + length bytes) + m) - (length (drop end bytes) + m) ≡ n + end = omega (arith, h.1, length-drop end bytes) in
    data_from (slice start end bytes) ((n + length bytes) + m) (length (drop end bytes) + m) (omega (arith, size, h.0))
    ∙ ap (λ (i : ℕ). found.Data (i - length (slice start end bytes)) i) last
    ∙ ap (λ (i : ℕ). found.Data i (n + end)) (omega (arith, h.0, size))
found_at (found.TooLarge size k) n m bytes d t h = ap (λ (i : ℕ). found.TooLarge size i) (omega (arith, h.1, length-drop k bytes))
found_at (found.More k) n m bytes d t h = ap (λ (i : ℕ). found.More i) (omega (arith, h.0, length-drop k bytes))
found_at (found.Fault f) n m bytes d t h = refl
found_at found.End n m bytes d t h = refl

-- the second bytes have the first ones after n others
pub record Has (n : ℕ) (a b : List ℕ) : Type 0 where
  pub slices : (start end : ℕ) → end ≤ length a → slice (n + start) (n + end) b ≡ slice start end a

-- ---- one outcome for what was found

-- the outcome of the second call is that of the first
abbrev Moves : ℕ → ℕ → Outcome → Outcome → Type 0
Moves n len o p = plain p ≡ moved n len o

by_moved : (n len : ℕ) (o p u v : Outcome) → o ≡ u → p ≡ v → Moves n len u v → Moves n len o p
by_moved n len o p u v e f h = ap plain f ∙ h ∙ ap (λ (w : Outcome). moved n len w) (sym e)

opened_moved : (purpose : Purpose) (n len k : ℕ) (c : Connection) (s : Stream) → Moves n len (found_opened c s purpose k) (found_opened c s purpose (n + k))
opened_moved («for».Session id) n len k c s = refl
opened_moved «for».Message n len k c s = refl
opened_moved other n len k c s = refl

closed_moved : (x : ErrorScope) (n len size : ℕ) (c : Connection) (s : Stream) (f : Fault) → Moves n len (failed_by s size (closed_in c f x)) (failed_by s len (closed_in c f x))
closed_moved scope.Stream n len size c s f = refl
closed_moved other n len size c s f = refl

pub fails_moved : (n len size : ℕ) (c : Connection) (s : Stream) (f : Fault) → Moves n len (fails c s f size) (fails c s f len)
fails_moved n len size c s f = closed_moved (scope_of f) n len size c s f

goaway_moved : (x : Option (ℕ × List ℕ)) (n len end : ℕ) (c : Connection) (s : Stream) (payload : List ℕ) → Moves n len (in_stream s (goaway_in x c end payload)) (in_stream s (goaway_in x c (n + end) payload))
goaway_moved None n len end c s payload = refl
goaway_moved (Some x) n len end c s payload = refl

shift_size : (n start end : ℕ) → (n + end) - (n + start) ≡ end - start
shift_size n start end = omega arith

content_moved : (b : Bool) (n start end : ℕ) (c : Connection) (s : Stream) (m : Message) (x y : List ℕ) → slice (n + start) (n + end) y ≡ slice start end x → Moves n (length y) (content_by b c s m start end x) (content_by b c s m (n + start) (n + end) y)
content_moved true n start end c s m x y e =
    ap (λ (l : List ℕ). (n + end, Data l, c, with_part s (with_message s.part (counted m ((n + end) - (n + start)))))) e
    ∙ ap (λ (k : ℕ). (n + end, Data (slice start end x), c, with_part s (with_message s.part (counted m k)))) (shift_size n start end)
content_moved false n start end c s m x y e = refl

content_found_moved : (n start end : ℕ) (c : Connection) (s : Stream) (m : Message) (x y : List ℕ) → slice (n + start) (n + end) y ≡ slice start end x → Moves n (length y) (content_found c s m start end x) (content_found c s m (n + start) (n + end) y)
content_found_moved n start end c s m x y e =
    ap (λ (k : ℕ). plain (content_by (fits m.content.left (k + remaining_of s.frames)) c s m (n + start) (n + end) y)) (shift_size n start end)
    ∙ content_moved (fits m.content.left ((end - start) + remaining_of s.frames)) n start end c s m x y e

-- other bytes
bytes_moved : (f : List ℕ → Told) (n start end : ℕ) (c : Connection) (s : Stream) (x y : List ℕ) → ((l : List ℕ) → course_of (f l) ≡ Continues) → slice (n + start) (n + end) y ≡ slice start end x → Moves n (length y) (end, f (slice start end x), c, s) (n + end, f (slice (n + start) (n + end) y), c, s)
bytes_moved f n start end c s x y h e =
    ap (λ (l : List ℕ). plain (n + end, f l, c, s)) e
    ∙ ap (λ (k : ℕ). (k, ruleless (f (slice start end x)), c, s)) (sym (ap (λ (k : Course). at_length k n (length y) end) (h (slice start end x))))

data_moved : (p : Part) (n start end : ℕ) (c : Connection) (s : Stream) (x y : List ℕ) (o q : Outcome) → (IsSession p → ⊥) → slice (n + start) (n + end) y ≡ slice start end x → DataBy p c s start end x o → DataBy p c s (n + start) (n + end) y q → Moves n (length y) o q
data_moved (part.Head m) n start end c s x y o q i e g h = by_moved n (length y) o q (content_found c s m start end x) (content_found c s m (n + start) (n + end) y) g h (content_found_moved n start end c s m x y e)
data_moved (part.Body m) n start end c s x y o q i e g h = by_moved n (length y) o q (content_found c s m start end x) (content_found c s m (n + start) (n + end) y) g h (content_found_moved n start end c s m x y e)
data_moved (part.Session size) n start end c s x y o q i e g h = absurd (i tt)
data_moved part.OfSession n start end c s x y o q i e g h = by_moved n (length y) o q (end, StreamData (slice start end x), c, s) (n + end, StreamData (slice (n + start) (n + end) y), c, s) g h (bytes_moved StreamData n start end c s x y (λ l. refl) e)
data_moved other n start end c s x y o q i e g h = by_moved n (length y) o q (end, Data (slice start end x), c, s) (n + end, Data (slice (n + start) (n + end) y), c, s) g h (bytes_moved Data n start end c s x y (λ l. refl) e)

too_large_moved : (p : Part) (n len k : ℕ) (c : Connection) (s : Stream) (size : Option ℕ) → Moves n len (too_large_by p c s size k) (too_large_by p c s size (n + k))
too_large_moved (part.Head m) n len k c s size = refl
too_large_moved other n len k c s size = refl

more_moved : (f : Frames) (n len k : ℕ) (c : Connection) (s : Stream) → Moves n len (k, told_more f, c, s) (n + k, told_more f, c, s)
more_moved (frames.Waiting id) n len k c s = refl
more_moved other n len k c s = refl

ends_moved : (r : Result (Unit {0}) Malformed) (n len size : ℕ) (c : Connection) (s : Stream) → Moves n len (ends_by c s size r) (ends_by c s len r)
ends_moved (Ok u) n len size c s = refl
ends_moved (Err rule) n len size c s = refl

end_moved : (p : Part) (n len size : ℕ) (c : Connection) (s : Stream) (o q : Outcome) → (IsSession p → ⊥) → EndBy p c s size o → EndBy p c s len q → Moves n len o q
end_moved (part.Head m) n len size c s o q i g h = by_moved n len o q (ends_by c s size (end_of m.stage m.content.left)) (ends_by c s len (end_of m.stage m.content.left)) g h (ends_moved (end_of m.stage m.content.left) n len size c s)
end_moved (part.Body m) n len size c s o q i g h = by_moved n len o q (ends_by c s size (end_of m.stage m.content.left)) (ends_by c s len (end_of m.stage m.content.left)) g h (ends_moved (end_of m.stage m.content.left) n len size c s)
end_moved (part.Session k) n len size c s o q i g h = absurd (i tt)
end_moved other n len size c s o q i g h = by_moved n len o q (last c s End size) (last c s End len) g h refl

-- ---- field sections

interim_moved : (j : Joined) (n len status : ℕ) (c : Connection) (s : Stream) (fields : List Field) (at by : Span) → by.end ≡ n + at.end → by.len ≡ len → Moves n len (interim_by c s status fields at j) (interim_by c s status fields by j)
interim_moved (d, t, None) n len status c s fields at by e l = ap (λ (k : ℕ). plain (k, Headers (headers.Interim status) fields, with_streams c d, with_frames s t)) e
interim_moved (d, t, Some f) n len status c s fields at by e l =
    ap (λ (k : ℕ). plain (fails (with_streams c d) (with_frames s t) (fault.Streams f) k)) l
    ∙ fails_moved n len at.len (with_streams c d) (with_frames s t) (fault.Streams f)

early_moved : (n len : ℕ) (c : Connection) (s : Stream) (at by : Span) (why : Delay) → by.start ≡ n + at.start → by.end ≡ n + at.end → Moves n len (early c s at why) (early c s by why)
early_moved n len c s at by why f e =
    ap (λ (k : ℕ). plain (k, Waits (wait_for why), c, record s { unread = unread.Early (by.end - by.start) why })) f
    ∙ ap (λ (k : ℕ). plain (n + at.start, Waits (wait_for why), c, record s { unread = unread.Early k why })) (omega (arith, e, f))

request_moved : (a : Asks) (n len : ℕ) (c : Connection) (s : Stream) (m : Message) (fields : List Field) (at by : Span) → by.start ≡ n + at.start → by.end ≡ n + at.end → Moves n len (request_by a c s m fields at) (request_by a c s m fields by)
request_moved asks.Plain n len c s m fields at by f e = ap (λ (k : ℕ). plain (k, Headers headers.Request fields, c, with_part s (part.Body m))) e
request_moved asks.Tunnel n len c s m fields at by f e = ap (λ (k : ℕ). plain (k, Headers headers.Request fields, c, with_part s (part.Unanswered false m))) e
request_moved asks.TooEarly n len c s m fields at by f e = early_moved n len c s at by delay.Settings f e
request_moved asks.Session n len c s m fields at by f e = ap (λ (k : ℕ). plain (k, SessionRequested fields, c, with_session (with_part s (part.Unanswered true m)))) e

response_moved : (a : Option Asked) (success : Bool) (n len status : ℕ) (c : Connection) (s : Stream) (m : Message) (fields : List Field) (at by : Span) → by.end ≡ n + at.end → Moves n len (in_connection c (response_in a success s m status fields at)) (in_connection c (response_in a success s m status fields by))
response_moved (Some asked.Session) true n len status c s m fields at by e = ap (λ (k : ℕ). plain (k, SessionReady status fields, c, with_session (connects s true))) e
response_moved (Some asked.Session) false n len status c s m fields at by e = ap (λ (k : ℕ). plain (k, Rejected status fields, c, with_part s (part.Body m))) e
response_moved (Some asked.Connect) true n len status c s m fields at by e = ap (λ (k : ℕ). plain (k, Headers (headers.Response status) fields, c, connects s false)) e
response_moved a success n len status c s m fields at by e = ap (λ (k : ℕ). plain (k, Headers (headers.Response status) fields, c, with_part s (part.Body m))) e

takes_moved : (t : Taken) (n len : ℕ) (c : Connection) (s : Stream) (m : Message) (fields : List Field) (at by : Span) → by.start ≡ n + at.start → by.end ≡ n + at.end → by.len ≡ len → Moves n len (takes c s m fields at t) (takes c s m fields by t)
takes_moved taken.Request n len c s m fields at by f e l = request_moved (asks_of c fields) n len c s m fields at by f e
takes_moved (taken.Interim status) n len c s m fields at by f e l = interim_moved (tells_interim c.streams s.frames) n len status c s fields at by e l
takes_moved (taken.Response status) n len c s m fields at by f e l = response_moved s.asked (is_success (Some status)) n len status c s m fields at by e
takes_moved taken.Trailers n len c s m fields at by f e l = ap (λ (k : ℕ). plain (k, Headers headers.Trailers fields, c, with_part s (part.Body m))) e
takes_moved (taken.Malformed rule) n len c s m fields at by f e l = ap (λ (k : ℕ). plain (malformed c s rule k)) l

-- the rule makes no difference
plain_ruleless : (t : Taken) (c : Connection) (s : Stream) (m : Message) (fields : List Field) (at : Span) → plain (takes c s m fields at t) ≡ plain (takes c s m fields at (ruleless_taken t))
plain_ruleless (taken.Malformed rule) c s m fields at = refl
plain_ruleless other c s m fields at = refl

moved_ruleless : (t : Taken) (n len : ℕ) (c : Connection) (s : Stream) (m : Message) (fields : List Field) (at : Span) → moved n len (takes c s m fields at t) ≡ moved n len (takes c s m fields at (ruleless_taken t))
moved_ruleless (taken.Malformed rule) n len c s m fields at = refl
moved_ruleless other n len c s m fields at = refl

read_moved : (n len : ℕ) (c : Connection) (s : Stream) (m : Message) (fields : List Field) (at by : Span) (o q : Outcome) → by.start ≡ n + at.start → by.end ≡ n + at.end → by.len ≡ len → ReadGives c s m fields at o → ReadGives c s m fields by q → Moves n len o q
read_moved n len c s m fields at by o q f e l (x, k, comes, is) (y, j, again, are) =
    let same : Alike (taken_of x) (taken_of y) k j = section_same m.stage m fields x y k j comes again in
    by_moved n len o q (takes c s k fields at (taken_of x)) (takes c s j fields by (taken_of y)) is are (
    plain_ruleless (taken_of y) c s j fields by
    ∙ ap (λ (t : Taken). plain (takes c s j fields by t)) (sym same.taken)
    ∙ takes_moved (ruleless_taken (taken_of x)) n len c s j fields at by f e l
    ∙ ap (λ (p : Message). moved n len (takes c s p fields at (ruleless_taken (taken_of x)))) (sym same.message)
    ∙ sym (moved_ruleless (taken_of x) n len c s k fields at))

result_moved : (r : Result (List Field) FieldSectionError) (n len : ℕ) (c : Connection) (s : Stream) (m : Message) (at by : Span) (o q : Outcome) → by.start ≡ n + at.start → by.end ≡ n + at.end → by.len ≡ len → (Lacks r → ⊥) → ResultGives c s m at r o → ResultGives c s m by r q → Moves n len o q
result_moved (Ok fields) n len c s m at by o q f e l w g h = read_moved n len c s m fields at by o q f e l g h
result_moved (Err section_error.TooLarge) n len c s m at by o q f e l w g h =
    by_moved n len o q (too_large c s None at.end) (too_large c s None by.end) g h (
    ap (λ (k : ℕ). plain (too_large_by s.part c s None k)) e ∙ too_large_moved s.part n len at.end c s None)
result_moved (Err section_error.Memory) n len c s m at by o q f e l w g h = absurd (w tt)
result_moved (Err (section_error.Decoding x)) n len c s m at by o q f e l w g h =
    by_moved n len o q (fails c s (fault.Section x) at.len) (fails c s (fault.Section x) by.len) g h (
    ap (λ (k : ℕ). plain (fails c s (fault.Section x) k)) l ∙ fails_moved n len at.len c s (fault.Section x))

no_memory : (r : Result (List Field) FieldSectionError) (c : Connection) (s : Stream) (m : Message) (at : Span) (o : Outcome) → HasMemory o → ResultGives c s m at r o → Lacks r → ⊥
no_memory (Err section_error.Memory) c s m at o h g l = h (ap (λ (w : Outcome). course_of w.1) g)
no_memory other c s m at o h g l = l

-- a section that was read is noted, and the rule that it breaks makes no difference
noted_ruleless : (t : Told) (required : ℕ) (c : Connection) → read_after (ruleless t) required c ≡ read_after t required c
noted_ruleless (MalformedBy rule) required c = refl
noted_ruleless t required c = refl

noted_moved : (required n len : ℕ) (o q p w : Outcome) → o ≡ noted required p → q ≡ noted required w → Moves n len p w → Moves n len o q
noted_moved required n len o q p w e f h =
    by_moved n len o q (noted required p) (noted required w) e f (
    ap (λ (d : Connection). (w.0, ruleless w.1, d, w.3)) (sym (noted_ruleless w.1 required w.2))
    ∙ ap (λ (z : Outcome). noted required z) h
    ∙ ap (λ (d : Connection). (at_length (course_of p.1) n len p.0, ruleless p.1, d, p.3)) (noted_ruleless p.1 required p.2))

over_moved : (r : Result Decoded TableSectionError) (n len : ℕ) (c : Connection) (s : Stream) (m : Message) (at by : Span) (o q : Outcome) → by.start ≡ n + at.start → by.end ≡ n + at.end → by.len ≡ len → (LacksMemory r → ⊥) → OverGives c s m at r o → OverGives c s m by r q → Moves n len o q
over_moved (Ok (decoded.Fields fields required)) n len c s m at by o q f e l w (p, gives, is) (z, does, are) = noted_moved required n len o q p z is are (read_moved n len c s m fields at by p z f e l gives does)
over_moved (Ok (decoded.Blocked required)) n len c s m at by o q f e l w g h = by_moved n len o q (early c s at (delay.Table required)) (early c s by (delay.Table required)) g h (early_moved n len c s at by (delay.Table required) f e)
over_moved (Err table_error.TooLarge) n len c s m at by o q f e l w g h =
    by_moved n len o q (too_large c s None at.end) (too_large c s None by.end) g h (
    ap (λ (k : ℕ). plain (too_large_by s.part c s None k)) e ∙ too_large_moved s.part n len at.end c s None)
over_moved (Err table_error.Memory) n len c s m at by o q f e l w g h = absurd (w tt)
over_moved (Err (table_error.Section x)) n len c s m at by o q f e l w g h =
    by_moved n len o q (fails c s (fault.TableSection x) at.len) (fails c s (fault.TableSection x) by.len) g h (
    ap (λ (k : ℕ). plain (fails c s (fault.TableSection x) k)) l ∙ fails_moved n len at.len c s (fault.TableSection x))

has_memory : (r : Result Decoded TableSectionError) (c : Connection) (s : Stream) (m : Message) (at : Span) (o : Outcome) → HasMemory o → OverGives c s m at r o → LacksMemory r → ⊥
has_memory (Err table_error.Memory) c s m at o h g l = h (ap (λ (w : Outcome). course_of w.1) g)
has_memory other c s m at o h g l = l

table_moved : (d : Option Decoder) (limit n len : ℕ) (c : Connection) (s : Stream) (m : Message) (at by : Span) (x y : List ℕ) (o q : Outcome) → by.start ≡ n + at.start → by.end ≡ n + at.end → by.len ≡ len → slice by.start by.end y ≡ slice at.start at.end x → HasMemory o → HasMemory q → TableGives d limit c s m at x o → TableGives d limit c s m by y q → Moves n len o q
table_moved None limit n len c s m at by x y o q f e l same u v g h =
    by_moved n len o q (fails c s fault.SectionPrefix at.len) (fails c s fault.SectionPrefix by.len) g h (
    ap (λ (k : ℕ). plain (fails c s fault.SectionPrefix k)) l ∙ fails_moved n len at.len c s fault.SectionPrefix)
table_moved (Some d) limit n len c s m at by x y o q f e l same u v (r, decodes, gives) (t, again, does) =
    let w : LacksMemory r → ⊥ = has_memory r c s m at o u gives in
    let equal : t ≡ r = read_same limit d.table (slice at.start at.end x) t r (has_memory t c s m by q v does) w (subst (λ (k : List ℕ). SectionReads limit d.table k t) same again) decodes in
    over_moved r n len c s m at by o q f e l w gives (subst (λ (k : Result Decoded TableSectionError). OverGives c s m by k q) equal does)

prefix_moved : (b : Bool) (limit n len : ℕ) (c : Connection) (s : Stream) (m : Message) (at by : Span) (x y : List ℕ) (o q : Outcome) → by.start ≡ n + at.start → by.end ≡ n + at.end → by.len ≡ len → slice by.start by.end y ≡ slice at.start at.end x → HasMemory o → HasMemory q → PrefixGives b limit c s m at x o → PrefixGives b limit c s m by y q → Moves n len o q
prefix_moved true limit n len c s m at by x y o q f e l same u v g h = table_moved c.decoder limit n len c s m at by x y o q f e l same u v g h
prefix_moved false limit n len c s m at by x y o q f e l same u v (r, decodes, gives) (t, again, does) =
    let w : Lacks r → ⊥ = no_memory r c s m at o u gives in
    let equal : t ≡ r = decoded_same limit (slice at.start at.end x) t r (no_memory t c s m by q v does) w (subst (λ (k : List ℕ). DecodesTo limit k t) same again) decodes in
    result_moved r n len c s m at by o q f e l w gives (subst (λ (k : Result (List Field) FieldSectionError). ResultGives c s m by k q) equal does)

decoded_moved : (limit n : ℕ) (c : Connection) (s : Stream) (m : Message) (start end first last : ℕ) (x y : List ℕ) (o q : Outcome) → first ≡ n + start → last ≡ n + end → slice first last y ≡ slice start end x → HasMemory o → HasMemory q → DecodedGives limit c s m (span_in start end x) x o → DecodedGives limit c s m (span_in first last y) y q → Moves n (length y) o q
decoded_moved limit n c s m start end first last x y o q f e same u v g h =
    prefix_moved (names_table (slice start end x)) limit n (length y) c s m (span_in start end x) (span_in first last y) x y o q f e refl same u v g
    (subst (λ (k : List ℕ). PrefixGives (names_table k) limit c s m (span_in first last y) y q) same h)

pub section_moved : (p : Part) (limit n : ℕ) (c : Connection) (s : Stream) (start end first last : ℕ) (x y : List ℕ) (o q : Outcome) → first ≡ n + start → last ≡ n + end → slice first last y ≡ slice start end x → HasMemory o → HasMemory q → SectionBy p limit c s start end x o → SectionBy p limit c s first last y q → Moves n (length y) o q
section_moved (part.Head m) limit n c s start end first last x y o q f e same u v g h = decoded_moved limit n c s m start end first last x y o q f e same u v g h
section_moved (part.Body m) limit n c s start end first last x y o q f e same u v g h = decoded_moved limit n c s m start end first last x y o q f e same u v g h
section_moved other limit n c s start end first last x y o q f e same u v g h =
    by_moved n (length y) o q (end, Frame kind.Headers (slice start end x), c, s) (last, Frame kind.Headers (slice first last y), c, s) g h (
    ap (λ (k : ℕ). plain (k, Frame kind.Headers (slice first last y), c, s)) e
    ∙ ap (λ (l : List ℕ). plain (n + end, Frame kind.Headers l, c, s)) same)

-- ---- whatever was found

frame_moved : (k : FrameType) (limit n start end : ℕ) (c : Connection) (s : Stream) (x y : List ℕ) (o q : Outcome) → slice (n + start) (n + end) y ≡ slice start end x → HasMemory o → HasMemory q → FoundGives limit (found.Frame k start end) c s x o → FoundGives limit (found.Frame k (n + start) (n + end)) c s y q → Moves n (length y) o q
frame_moved kind.Headers limit n start end c s x y o q e u v g h = section_moved s.part limit n c s start end (n + start) (n + end) x y o q refl refl e u v g h
frame_moved kind.GoAway limit n start end c s x y o q e u v g h =
    by_moved n (length y) o q (in_stream s (goaway_found c start end x)) (in_stream s (goaway_found c (n + start) (n + end) y)) g h (
    ap (λ (l : List ℕ). plain (in_stream s (goaway_in (number_at l) c (n + end) l))) e
    ∙ goaway_moved (number_at (slice start end x)) n (length y) end c s (slice start end x))
frame_moved k limit n start end c s x y o q e u v g h =
    by_moved n (length y) o q (end, Frame k (slice start end x), c, s) (n + end, Frame k (slice (n + start) (n + end) y), c, s) g h (bytes_moved (λ l. Frame k l) n start end c s x y (λ l. refl) e)

pub found_moved : (x : Found) (limit n : ℕ) (c : Connection) (s : Stream) (a b : List ℕ) (o q : Outcome) (d : Streams) (t : Frames) → Fits x a d t → Has n a b → (IsSession s.part → ⊥) → HasMemory o → HasMemory q → FoundGives limit x c s a o → FoundGives limit (shifted n x) c s b q → Moves n (length b) o q
found_moved (found.Opened p k) limit n c s a b o q d t w e i u v g h = by_moved n (length b) o q (found_opened c s p k) (found_opened c s p (n + k)) g h (opened_moved p n (length b) k c s)
found_moved (found.Settings v start end) limit n c s a b o q d t w e i u m g h =
    by_moved n (length b) o q (end, Settings v (slice start end a), record c { configured = true }, s) (n + end, Settings v (slice (n + start) (n + end) b), record c { configured = true }, s) g h (bytes_moved (λ l. Settings v l) n start end (record c { configured = true }) s a b (λ l. refl) (e.slices start end w.2))
found_moved (found.Frame k start end) limit n c s a b o q d t w e i u v g h = frame_moved k limit n start end c s a b o q (e.slices start end w.2) u v g h
found_moved (found.Data start end) limit n c s a b o q d t w e i u v g h = data_moved s.part n start end c s a b o q i (e.slices start end w.1) g h
found_moved (found.TooLarge size k) limit n c s a b o q d t w e i u v g h = by_moved n (length b) o q (too_large c s (Some size) k) (too_large c s (Some size) (n + k)) g h (too_large_moved s.part n (length b) k c s (Some size))
found_moved (found.More k) limit n c s a b o q d t w e i u v g h = by_moved n (length b) o q (k, told_more s.frames, c, s) (n + k, told_more s.frames, c, s) g h (more_moved s.frames n (length b) k c s)
found_moved (found.Fault f) limit n c s a b o q d t w e i u v g h = by_moved n (length b) o q (fails c s (fault.Streams f) (length a)) (fails c s (fault.Streams f) (length b)) g h (fails_moved n (length b) (length a) c s (fault.Streams f))
found_moved found.End limit n c s a b o q d t w e i u v g h = end_moved s.part n (length b) (length a) c s o q i g h
