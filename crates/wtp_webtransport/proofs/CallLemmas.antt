-- A call over some bytes, and one over these and more.
use Rattle.std.proofs.Common.{◌≡◌, ℕ, ◌+◌, ◌-◌, ◌==◌, ◌<◌, ◌≤◌, ◌||◌, not, nat_lt, Bool, true, false, List, [], ◌++◌, length, drop, Option, Some, None, Result, Ok, Err, refl, sym, ap, subst, ◌∙◌, arith, length-drop, inl, inr}
use Rattle.std.proofs.lemmas.Bool.{cases_Bool, cases_lt, le-ltb, ne_eqb}
use Rattle.std.proofs.lemmas.List.{drop-drop, drop-append-le, take-append-le}
use Rattle.wtp_core.specs.declared.error.scope.ErrorScope.{ErrorScope}
use Rattle.wtp_core.specs.declared.error.scope.ErrorScope.TheVariants as scope
use Rattle.wtp_core.specs.Varint.{number_at}
use Rattle.wtp_qpack.specs.Field.{Field}
use Rattle.wtp_frames.specs.declared.endpoint.Endpoint.{Endpoint}
use Rattle.wtp_frames.specs.declared.frame_type.FrameType.TheVariants as kind
use Rattle.wtp_frames.specs.Run.{Run}
use Rattle.wtp_frames.specs.Reading.{slice}
use Rattle.wtp_frames.proofs.FirstLemmas.{first_none}
use Rattle.wtp_fields.specs.declared.fields.FieldSectionError.{FieldSectionError}
use Rattle.wtp_fields.specs.declared.fields.FieldSectionError.TheVariants as section_error
use Rattle.wtp_messages.specs.declared.message.Message.{Message}
use Rattle.wtp_messages.specs.declared.response.Asked.{Asked}
use Rattle.wtp_messages.specs.declared.response.Asked.TheVariants as asked
use Rattle.wtp_messages.specs.Response.{is_success}
use Rattle.wtp_connection.specs.declared.stream.Purpose.{Purpose}
use Rattle.wtp_connection.specs.declared.stream.Stream.TheVariants as frames
use Rattle.wtp_connection.specs.Opening.{uni_at}
use Rattle.wtp_connection.proofs.OpeningLemmas.{bi_none}
use Rattle.wtp_connection.specs.Streams.{Joined, tells_interim, rests, of_frames}
use Rattle.wtp_connection.specs.First.{first_intact, first_opening}
use Rattle.wtp_connection.proofs.FirstLemmas.{first_open, first_over}
use Rattle.wtp_dynamic_decoder.specs.Decoder.{Decoder}
use Rattle.wtp_dynamic_fields.specs.declared.section.Decoded.{Decoded}
use Rattle.wtp_dynamic_fields.specs.declared.section.Decoded.TheVariants as decoded
use Rattle.wtp_dynamic_fields.specs.declared.section.TableSectionError.{TableSectionError}
use Rattle.wtp_dynamic_fields.specs.declared.section.TableSectionError.TheVariants as table_error
use Rattle.wtp_webtransport.specs.declared.stream.Delay.{Delay}
use Rattle.wtp_webtransport.specs.declared.stream.Delay.TheVariants as delay
use Rattle.wtp_webtransport.specs.declared.connection.messages.Taken.{Taken}
use Rattle.wtp_webtransport.specs.declared.connection.messages.Taken.TheVariants as taken
use Rattle.wtp_webtransport.specs.declared.connection.messages.Asks.{Asks}
use Rattle.wtp_webtransport.specs.declared.connection.messages.Asks.TheVariants as asks
use Rattle.wtp_webtransport.specs.declared.connection.messages.Span.{Span}
use Rattle.wtp_webtransport.specs.declared.fault.Fault.TheVariants as fault
use Rattle.wtp_webtransport.specs.Fault.{scope_of}
use Rattle.wtp_webtransport.specs.Prefix.{names_table}
use Rattle.wtp_webtransport.specs.Sessions.{asks_of}
use Rattle.wtp_connection.specs.declared.connection.Connection.{Connection as Streams}
use Rattle.wtp_connection.specs.declared.connection.Found.{Found}
use Rattle.wtp_connection.specs.declared.stream.Stream.{Stream as Frames}
use Rattle.wtp_connection.specs.Receiving.{Fits, seen_of, rest_after}
use Rattle.wtp_connection.specs.Streams.{StreamRun, Seen}
use Rattle.wtp_connection.specs.First.{first_seen, found_by}
use Rattle.wtp_webtransport.specs.declared.connection.Connection.{Connection}
use Rattle.wtp_webtransport.specs.declared.fault.Fault.{Fault}
use Rattle.wtp_webtransport.specs.declared.stream.Stream.{Stream}
use Rattle.wtp_webtransport.specs.declared.stream.Part.{Part}
use Rattle.wtp_webtransport.specs.declared.stream.Part.TheVariants as part
use Rattle.wtp_webtransport.specs.declared.stream.Unread.{Unread}
use Rattle.wtp_webtransport.specs.declared.stream.Unread.TheVariants as unread
use Rattle.wtp_webtransport.specs.declared.stream.Due.{Due}
use Rattle.wtp_webtransport.specs.declared.stream.Due.TheVariants as due
use Rattle.wtp_webtransport.specs.Events.{Frame, End, SessionLost, More}
use Rattle.wtp_webtransport.specs.Streams.{with_streams, with_frames, spoiled_if, due_by}
use Rattle.wtp_webtransport.specs.Receiving.{Outcome, closed_in, failed_by, fails, spoiled, last, too_large_by, too_large, interim_by, request_by, response_in, in_connection, takes, taken_of, ResultGives, PrefixGives, span_in, SectionBy, FoundGives, UnreadBy, GoesOn, DueGives, StreamGives, ReceivesIf, Receives, early, noted, OverGives, TableGives}
use Rattle.wtp_webtransport.specs.Calls.{Stops, Finishes, Continues, course_of, plain, moved, IsSession, HasMemory}
use Rattle.wtp_webtransport.proofs.FoundLemmas.{found_from, found_is, found_at, shifted, Has, found_moved, section_moved}

-- ---- bytes before, and bytes after

pub front_slice : (start end : ℕ) (a b : List ℕ) → end ≤ length a → slice start end (a ++ b) ≡ slice start end a
front_slice start end a b l = elim (cases_lt end start) [
  | inl none ↦ let same : end - start ≡ 0 = omega (arith, none) in rw same refl
  | inr some ↦ rw (drop-append-le start a b (omega (arith, some, l))) (take-append-le (end - start) (drop start a) b (omega (arith, some, l, length-drop start a)))
]

-- bytes with more after them
pub has_front : (a b : List ℕ) → Has 0 a (a ++ b)
has_front a b = record {
  slices = λ start end l.
      let from : 0 + start ≡ start = omega arith in
      let to : 0 + end ≡ end = omega arith in
      rw (from, to) (front_slice start end a b l);
}

-- the same bytes
has_same : (a : List ℕ) → Has 0 a a
has_same a = record {
  slices = λ start end l.
      let from : 0 + start ≡ start = omega arith in
      let to : 0 + end ≡ end = omega arith in
      rw (from, to) refl;
}

-- bytes after others
pub rest_slice : (n start end : ℕ) (b : List ℕ) → slice (n + start) (n + end) b ≡ slice start end (drop n b)
rest_slice n start end b = let size : (n + end) - (n + start) ≡ end - start = omega arith in rw (size, drop-drop start n b) refl

pub has_rest : (n : ℕ) (a b : List ℕ) → a ≡ drop n b → Has n a b
has_rest n a b e = record { slices = λ start end l. rest_slice n start end b ∙ ap (λ (x : List ℕ). slice start end x) (sym e) }

-- ---- what two calls found

-- in other bytes, with n before them and m more that are left
pub found_there : (x y : Found) (n m : ℕ) (a b : List ℕ) (d e : Streams) (t u : Frames) → Fits x a d t → Fits y b e u → length b ≡ (n + length a) + m → seen_of y b ≡ seen_of x a → length (rest_after y b) ≡ length (rest_after x a) + m → y ≡ shifted n x
found_there x y n m a b d e t u h g size seen left =
    found_is y b e u g
    ∙ ap (λ (l : List Seen). found_from l (length b) (length (rest_after y b))) seen
    ∙ ap (λ (k : ℕ). found_from (seen_of x a) (length b) k) left
    ∙ ap (λ (k : ℕ). found_from (seen_of x a) k (length (rest_after x a) + m)) size
    ∙ found_at x n m a d t h

-- the call found this
pub record Gave (limit : ℕ) (x : Found) (c : Connection) (s : Stream) (d : Streams) (t : Frames) (bytes : List ℕ) (o : Outcome) : Type 0 where
  pub fits : Fits x bytes d t
  pub gives : FoundGives limit x (with_streams c d) (with_frames s t) bytes o

-- what the second call found is what the first one did
pub gave_moved : (limit n : ℕ) (x y : Found) (c : Connection) (s : Stream) (d e : Streams) (t u : Frames) (a b : List ℕ) (o q : Outcome) → Gave limit x c s d t a o → Gave limit y c s e u b q → y ≡ shifted n x → e ≡ d → u ≡ t → Has n a b → (IsSession s.part → ⊥) → HasMemory o → HasMemory q → plain q ≡ moved n (length b) o
gave_moved limit n x y c s d e t u a b o q h g same f k at ns v w =
    found_moved x limit n (with_streams c d) (with_frames s t) a b o q d t h.fits at ns v w h.gives (
    subst (λ (z : Found). FoundGives limit z (with_streams c d) (with_frames s t) b q) same (
    subst (λ (z : Streams). FoundGives limit y (with_streams c z) (with_frames s t) b q) f (
    subst (λ (z : Frames). FoundGives limit y (with_streams c e) (with_frames s z) b q) k g.gives)))

pub gave_of : (limit : ℕ) (c : Connection) (s : Stream) (bytes : List ℕ) (fin : Bool) (o : Outcome) (h : GoesOn limit c s bytes fin o) → Gave limit h.x c s h.d h.t bytes o
gave_of limit c s bytes fin o h = record { fits = h.found.fits; gives = h.gives }

-- ---- the same call twice

goes_again : (limit : ℕ) (c : Connection) (s : Stream) (bytes : List ℕ) (fin : Bool) (o q : Outcome) → (IsSession s.part → ⊥) → HasMemory o → HasMemory q → GoesOn limit c s bytes fin o → GoesOn limit c s bytes fin q → plain q ≡ moved 0 (length bytes) o
goes_again limit c s bytes fin o q ns v w h g =
    let same : found_by g.x bytes g.d g.t ≡ found_by h.x bytes h.d h.t = g.first ∙ sym h.first in
    gave_moved limit 0 h.x g.x c s h.d g.d h.t g.t bytes bytes o q (gave_of limit c s bytes fin o h) (gave_of limit c s bytes fin q g)
    (found_there h.x g.x 0 0 bytes bytes h.d g.d h.t g.t h.found.fits g.found.fits (omega arith) (ap (λ (z : StreamRun). z.seen) same) (ap (λ (z : StreamRun). length z.left) same ∙ omega arith))
    (ap (λ (z : StreamRun). z.connection) same) (ap (λ (z : StreamRun). z.stream) same) (has_same bytes) ns v w

-- an outcome that is fixed
fixed_again : (len : ℕ) (o q u : Outcome) → o ≡ u → q ≡ u → plain u ≡ moved 0 len u → plain q ≡ moved 0 len o
fixed_again len o q u e f h = ap plain f ∙ h ∙ ap (λ (z : Outcome). moved 0 len z) (sym e)

closed_again : (x : ErrorScope) (len : ℕ) (c : Connection) (s : Stream) (f : Fault) → plain (failed_by s len (closed_in c f x)) ≡ moved 0 len (failed_by s len (closed_in c f x))
closed_again scope.Stream len c s f = refl
closed_again other len c s f = refl

section_again : (limit : ℕ) (c : Connection) (s : Stream) (size : ℕ) (bytes : List ℕ) (o q : Outcome) → HasMemory o → HasMemory q → SectionBy s.part limit c s 0 size bytes o → SectionBy s.part limit c s 0 size bytes q → plain q ≡ moved 0 (length bytes) o
section_again limit c s size bytes o q v w h g = section_moved s.part limit 0 c s 0 size 0 size bytes bytes o q refl (omega arith) refl v w h g

unread_again : (b : Bool) (limit : ℕ) (c : Connection) (s : Stream) (size : ℕ) (bytes : List ℕ) (o q : Outcome) → HasMemory o → HasMemory q → UnreadBy b limit c s size bytes o → UnreadBy b limit c s size bytes q → plain q ≡ moved 0 (length bytes) o
unread_again true limit c s size bytes o q v w h g = fixed_again (length bytes) o q _ h g refl
unread_again false limit c s size bytes o q v w h g = section_again limit c (record s { unread = unread.Nothing }) size bytes o q v w h g

-- content that is due is that of a session
pub content_due : (p : Part) (empty : Bool) (size : ℕ) → due_by p empty ≡ due.Content size → IsSession p
content_due (part.Session k) empty size e = tt
content_due (part.Closed more) empty size e = spoiled_content (more || not empty) size e
  where
    spoiled_content : (b : Bool) (size : ℕ) → spoiled_if b ≡ due.Content size → IsSession (part.Closed more)
    spoiled_content true size e = absurd (cc)
    spoiled_content false size e = absurd (cc)
content_due (part.Unanswered session m) empty size e = absurd (cc)
content_due part.Ending empty size e = absurd (cc)
content_due part.Losing empty size e = absurd (cc)
content_due other empty size e = absurd (cc)

due_again : (w : Due) (limit : ℕ) (c : Connection) (s : Stream) (bytes : List ℕ) (fin : Bool) (o q : Outcome) → due_by s.part (length bytes == 0) ≡ w → (IsSession s.part → ⊥) → HasMemory o → HasMemory q → DueGives w limit c s bytes fin o → DueGives w limit c s bytes fin q → plain q ≡ moved 0 (length bytes) o
due_again due.Wait limit c s bytes fin o q e ns v w h g = fixed_again (length bytes) o q _ h g refl
due_again (due.Content size) limit c s bytes fin o q e ns v w h g = absurd (ns (content_due s.part (length bytes == 0) size e))
due_again due.Spoiled limit c s bytes fin o q e ns v w h g = fixed_again (length bytes) o q (spoiled c s (length bytes)) h g refl
due_again due.End limit c s bytes fin o q e ns v w h g = fixed_again (length bytes) o q (last c s End (length bytes)) h g refl
due_again due.Lost limit c s bytes fin o q e ns v w h g = fixed_again (length bytes) o q (last c s SessionLost (length bytes)) h g refl
due_again due.Nothing limit c s bytes fin o q e ns v w h g = goes_again limit c s bytes fin o q ns v w h g

stream_again : (x : Unread) (limit : ℕ) (c : Connection) (s : Stream) (bytes : List ℕ) (fin : Bool) (o q : Outcome) → (IsSession s.part → ⊥) → HasMemory o → HasMemory q → StreamGives x limit c s bytes fin o → StreamGives x limit c s bytes fin q → plain q ≡ moved 0 (length bytes) o
stream_again (unread.Early size why) limit c s bytes fin o q ns v w h g = unread_again (nat_lt (length bytes) size) limit c s size bytes o q v w h g
stream_again (unread.Section size) limit c s bytes fin o q ns v w h g = unread_again (nat_lt (length bytes) size) limit c s size bytes o q v w h g
stream_again unread.Nothing limit c s bytes fin o q ns v w h g = due_again (due_by s.part (length bytes == 0)) limit c s bytes fin o q refl ns v w h g

over_again : (b : Bool) (limit : ℕ) (c : Connection) (s : Stream) (bytes : List ℕ) (fin : Bool) (o q : Outcome) → (IsSession s.part → ⊥) → HasMemory o → HasMemory q → ReceivesIf b limit c s bytes fin o → ReceivesIf b limit c s bytes fin q → plain q ≡ moved 0 (length bytes) o
over_again true limit c s bytes fin o q ns v w h g =
    ap plain g ∙ ap (λ (k : ℕ). plain (k, More, c, s)) (omega arith) ∙ ap (λ (z : Outcome). moved 0 (length bytes) z) (sym h)
over_again false limit c s bytes fin o q ns v w h g = stream_again s.unread limit c s bytes fin o q ns v w h g

-- With memory the same call returns the same.
pub receives_again : (limit : ℕ) (c : Connection) (s : Stream) (bytes : List ℕ) (fin : Bool) (o q : Outcome) → (IsSession s.part → ⊥) → HasMemory o → HasMemory q → Receives limit c s bytes fin o → Receives limit c s bytes fin q → plain q ≡ moved 0 (length bytes) o
receives_again limit c s bytes fin o q ns v w h g = over_again c.over limit c s bytes fin o q ns v w h g

-- ---- a section that waits for the settings of the peer, or for the dynamic table

abbrev pub IsEarly : Connection → Stream → Span → Outcome → Type 0
IsEarly c s at o = (why : Delay) × (o ≡ early c s at why)

-- an event with which the caller does not stop
pub goes_not : (o u : Outcome) → o ≡ u → course_of u.1 ≡ Continues → course_of o.1 ≡ Stops → ⊥
goes_not o u e f g = cc (sym f ∙ ap (λ (z : Outcome). course_of z.1) (sym e) ∙ g)

pub ends_not : (o u : Outcome) → o ≡ u → course_of u.1 ≡ Finishes → course_of o.1 ≡ Stops → ⊥
ends_not o u e f g = cc (sym f ∙ ap (λ (z : Outcome). course_of z.1) (sym e) ∙ g)

pub closed_ends : (x : ErrorScope) (len : ℕ) (c : Connection) (s : Stream) (f : Fault) → course_of (failed_by s len (closed_in c f x)).1 ≡ Finishes
closed_ends scope.Stream len c s f = refl
closed_ends other len c s f = refl

pub fails_ends : (len : ℕ) (c : Connection) (s : Stream) (f : Fault) → course_of (fails c s f len).1 ≡ Finishes
fails_ends len c s f = closed_ends (scope_of f) len c s f

request_stops : (a : Asks) (c : Connection) (s : Stream) (m : Message) (fields : List Field) (at : Span) → course_of (request_by a c s m fields at).1 ≡ Stops → request_by a c s m fields at ≡ early c s at delay.Settings
request_stops asks.Plain c s m fields at e = absurd (cc e)
request_stops asks.Tunnel c s m fields at e = absurd (cc e)
request_stops asks.TooEarly c s m fields at e = refl
request_stops asks.Session c s m fields at e = absurd (cc e)

interim_stops : (j : Joined) (c : Connection) (s : Stream) (status : ℕ) (fields : List Field) (at : Span) → course_of (interim_by c s status fields at j).1 ≡ Stops → interim_by c s status fields at j ≡ early c s at delay.Settings
interim_stops (d, t, None) c s status fields at e = absurd (cc e)
interim_stops (d, t, Some f) c s status fields at e = absurd (cc (sym (fails_ends at.len (with_streams c d) (with_frames s t) (fault.Streams f)) ∙ e))

response_stops : (a : Option Asked) (success : Bool) (c : Connection) (s : Stream) (m : Message) (status : ℕ) (fields : List Field) (at : Span) → course_of (in_connection c (response_in a success s m status fields at)).1 ≡ Stops → in_connection c (response_in a success s m status fields at) ≡ early c s at delay.Settings
response_stops (Some asked.Session) true c s m status fields at e = absurd (cc e)
response_stops (Some asked.Session) false c s m status fields at e = absurd (cc e)
response_stops (Some asked.Connect) true c s m status fields at e = absurd (cc e)
response_stops a success c s m status fields at e = absurd (cc e)

takes_stops : (t : Taken) (c : Connection) (s : Stream) (m : Message) (fields : List Field) (at : Span) → course_of (takes c s m fields at t).1 ≡ Stops → takes c s m fields at t ≡ early c s at delay.Settings
takes_stops taken.Request c s m fields at e = request_stops (asks_of c fields) c s m fields at e
takes_stops (taken.Interim status) c s m fields at e = interim_stops (tells_interim c.streams s.frames) c s status fields at e
takes_stops (taken.Response status) c s m fields at e = response_stops s.asked (is_success (Some status)) c s m status fields at e
takes_stops taken.Trailers c s m fields at e = absurd (cc e)
takes_stops (taken.Malformed rule) c s m fields at e = absurd (cc e)

pub too_large_goes : (p : Part) (n : ℕ) (c : Connection) (s : Stream) (size : Option ℕ) → course_of (too_large_by p c s size n).1 ≡ Continues
too_large_goes (part.Head m) n c s size = refl
too_large_goes other n c s size = refl

result_stops : (r : Result (List Field) FieldSectionError) (c : Connection) (s : Stream) (m : Message) (at : Span) (o : Outcome) → ResultGives c s m at r o → course_of o.1 ≡ Stops → o ≡ early c s at delay.Settings
result_stops (Ok fields) c s m at o (x, n, comes, is) e = is ∙ takes_stops (taken_of x) c s n fields at (ap (λ (z : Outcome). course_of z.1) (sym is) ∙ e)
result_stops (Err section_error.TooLarge) c s m at o g e = absurd (goes_not o (too_large c s None at.end) g (too_large_goes s.part at.end c s None) e)
result_stops (Err section_error.Memory) c s m at o g e = absurd (cc (ap (λ (z : Outcome). course_of z.1) (sym g) ∙ e))
result_stops (Err (section_error.Decoding x)) c s m at o g e = absurd (ends_not o (fails c s (fault.Section x) at.len) g (fails_ends at.len c s (fault.Section x)) e)

-- that a section was read is not noted of one that waits
over_stops : (r : Result Decoded TableSectionError) (c : Connection) (s : Stream) (m : Message) (at : Span) (o : Outcome) → OverGives c s m at r o → course_of o.1 ≡ Stops → IsEarly c s at o
over_stops (Ok (decoded.Fields fields required)) c s m at o (p, gives, is) e =
    let early_is : p ≡ early c s at delay.Settings = result_stops (Ok fields) c s m at p gives (sym (ap (λ (z : Outcome). course_of z.1) is) ∙ e) in
    (delay.Settings, is ∙ ap (λ (z : Outcome). noted required z) early_is)
over_stops (Ok (decoded.Blocked required)) c s m at o g e = (delay.Table required, g)
over_stops (Err table_error.TooLarge) c s m at o g e = absurd (goes_not o (too_large c s None at.end) g (too_large_goes s.part at.end c s None) e)
over_stops (Err table_error.Memory) c s m at o g e = absurd (cc (ap (λ (z : Outcome). course_of z.1) (sym g) ∙ e))
over_stops (Err (table_error.Section x)) c s m at o g e = absurd (ends_not o (fails c s (fault.TableSection x) at.len) g (fails_ends at.len c s (fault.TableSection x)) e)

table_stops : (d : Option Decoder) (limit : ℕ) (c : Connection) (s : Stream) (m : Message) (at : Span) (bytes : List ℕ) (o : Outcome) → TableGives d limit c s m at bytes o → course_of o.1 ≡ Stops → IsEarly c s at o
table_stops None limit c s m at bytes o g e = absurd (ends_not o (fails c s fault.SectionPrefix at.len) g (fails_ends at.len c s fault.SectionPrefix) e)
table_stops (Some d) limit c s m at bytes o (r, decodes, gives) e = over_stops r c s m at o gives e

prefix_stops : (b : Bool) (limit : ℕ) (c : Connection) (s : Stream) (m : Message) (at : Span) (bytes : List ℕ) (o : Outcome) → PrefixGives b limit c s m at bytes o → course_of o.1 ≡ Stops → IsEarly c s at o
prefix_stops true limit c s m at bytes o g e = table_stops c.decoder limit c s m at bytes o g e
prefix_stops false limit c s m at bytes o (r, decodes, gives) e = (delay.Settings, result_stops r c s m at o gives e)

pub section_stops : (p : Part) (limit : ℕ) (c : Connection) (s : Stream) (start end : ℕ) (bytes : List ℕ) (o : Outcome) → SectionBy p limit c s start end bytes o → course_of o.1 ≡ Stops → IsEarly c s (span_in start end bytes) o
section_stops (part.Head m) limit c s start end bytes o g e = prefix_stops (names_table (slice start end bytes)) limit c s m (span_in start end bytes) bytes o g e
section_stops (part.Body m) limit c s start end bytes o g e = prefix_stops (names_table (slice start end bytes)) limit c s m (span_in start end bytes) bytes o g e
section_stops other limit c s start end bytes o g e = absurd (goes_not o (end, Frame kind.Headers (slice start end bytes), c, s) g refl e)

-- ---- calls on a stream that goes on

pub goes_of : (limit : ℕ) (c : Connection) (s : Stream) (bytes : List ℕ) (fin : Bool) (o : Outcome) → Receives limit c s bytes fin o → c.over ≡ false → s.unread ≡ unread.Nothing → due_by s.part (length bytes == 0) ≡ due.Nothing → GoesOn limit c s bytes fin o
goes_of limit c s bytes fin o h e f g =
    let one : StreamGives s.unread limit c s bytes fin o = subst (λ (b : Bool). ReceivesIf b limit c s bytes fin o) e h in
    let two : DueGives (due_by s.part (length bytes == 0)) limit c s bytes fin o = subst (λ (u : Unread). StreamGives u limit c s bytes fin o) f one in
    subst (λ (w : Due). DueGives w limit c s bytes fin o) g two

pub unread_of : (u : Unread) (why : Delay) (size limit : ℕ) (c : Connection) (s : Stream) (bytes : List ℕ) (fin : Bool) (o : Outcome) → StreamGives u limit c s bytes fin o → u ≡ unread.Early size why → size ≤ length bytes → SectionBy s.part limit c (record s { unread = unread.Nothing }) 0 size bytes o
unread_of u why size limit c s bytes fin o h e l = subst (λ (b : Bool). UnreadBy b limit c s size bytes o) (le-ltb (length bytes) size l) (subst (λ (x : Unread). StreamGives x limit c s bytes fin o) e h)

pub early_of : (why : Delay) (size limit : ℕ) (c : Connection) (s : Stream) (bytes : List ℕ) (fin : Bool) (o : Outcome) → Receives limit c (record s { unread = unread.Early size why }) bytes fin o → c.over ≡ false → size ≤ length bytes → SectionBy s.part limit c (record s { unread = unread.Nothing }) 0 size bytes o
early_of why size limit c s bytes fin o h e l = subst (λ (b : Bool). UnreadBy b limit c (record s { unread = unread.Early size why }) size bytes o) (le-ltb (length bytes) size l) (subst (λ (b : Bool). ReceivesIf b limit c (record s { unread = unread.Early size why }) bytes fin o) e h)

-- with bytes nothing is due, whether more of them come or not
pub due_still : (p : Part) (empty : Bool) → due_by p false ≡ due.Nothing → due_by p empty ≡ due.Nothing
due_still (part.Closed true) empty e = absurd (cc e)
due_still (part.Closed false) empty e = absurd (cc e)
due_still (part.Unanswered session m) empty e = absurd (cc e)
due_still (part.Session k) empty e = e
due_still part.Ending empty e = absurd (cc e)
due_still part.Losing empty e = absurd (cc e)
due_still other empty e = refl

pub some_bytes : (a : List ℕ) → 0 < length a → (length a == 0) ≡ false
some_bytes a l = ne_eqb (length a) 0 (λ z. omega (arith, z, l))

-- ---- no bytes give nothing

uni_empty : (e : Endpoint) → uni_at e [] ≡ None
unfolding uni_at number_at
uni_empty e = refl

frames_empty : (s : Frames) (c : Streams) → first_intact c s [] ≡ rests c s []
frames_empty frames.Uni c = ap (λ (o : Option (Purpose × List ℕ)). first_opening c frames.Uni [] o) (uni_empty c.endpoint)
frames_empty frames.Bi c = ap (λ (o : Option (Purpose × List ℕ)). first_opening c frames.Bi [] o) (bi_none c.endpoint)
frames_empty (frames.Frames r g) c = ap (λ (x : Run). of_frames c g x) (first_none r)
frames_empty (frames.Joining n) c = refl
frames_empty (frames.Waiting n) c = refl
frames_empty (frames.Session n) c = refl
frames_empty frames.Encoder c = refl
frames_empty (frames.Decoder place) c = refl
frames_empty frames.Ignored c = refl
frames_empty frames.Incomplete c = refl
frames_empty frames.Over c = refl

pub seen_empty : (c : Streams) (s : Frames) → first_seen c s [] ≡ rests c s []
seen_empty c s = elim (cases_Bool c.over) [
  | inl over ↦ first_over c s [] over
  | inr intact ↦ first_open c s [] intact ∙ frames_empty s c
]
