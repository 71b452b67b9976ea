-- A call that needs more bytes, or waits, and one with what it left and more.
use Rattle.std.proofs.Common.{◌≡◌, ℕ, ◌+◌, ◌-◌, ◌==◌, ◌≤◌, nat_lt, cond, Bool, true, false, List, [], ◌∷◌, ◌++◌, length, drop, Option, Some, None, Result, Ok, Err, refl, sym, ap, subst, ◌∙◌, arith, length-append, length-drop, inl, inr}
use Rattle.std.proofs.lemmas.Bool.{cases_Bool, cases_lt, le-ltb, lt-ltb}
use Rattle.std.proofs.lemmas.List.{drop-append-le}
use Rattle.wtp_core.specs.Varint.{number_at}
use Rattle.wtp_frames.specs.declared.frame_type.FrameType.TheVariants as kind
use Rattle.wtp_frames.specs.Reading.{slice}
use Rattle.wtp_messages.specs.declared.message.Message.{Message}
use Rattle.wtp_connection.specs.declared.stream.Purpose.{Purpose}
use Rattle.wtp_connection.specs.declared.stream.Purpose.TheVariants as «for»
use Rattle.wtp_connection.specs.Opening.{remaining_of}
use Rattle.wtp_messages.specs.Content.{fits}
use Rattle.wtp_messages.specs.Message.{end_of}
use Rattle.wtp_messages.specs.declared.malformed.Malformed.{Malformed}
use Rattle.wtp_connection.specs.Streams.{rests}
use Rattle.wtp_webtransport.specs.declared.stream.Delay.{Delay}
use Rattle.wtp_webtransport.specs.declared.event.Waits.TheVariants as wait
use Rattle.wtp_webtransport.specs.declared.fault.Fault.TheVariants as fault
use Rattle.wtp_connection.specs.declared.connection.Connection.{Connection as Streams}
use Rattle.wtp_connection.specs.declared.connection.Found.{Found}
use Rattle.wtp_connection.specs.declared.connection.Found.TheVariants as found
use Rattle.wtp_connection.specs.declared.stream.Stream.{Stream as Frames}
use Rattle.wtp_connection.specs.Receiving.{Fits}
use Rattle.wtp_connection.specs.Streams.{StreamRun, ended}
use Rattle.wtp_connection.specs.First.{first_seen, at_end, found_by, has_none, left_over, with_more}
use Rattle.wtp_connection.proofs.FirstCutLemmas.{seen_more}
use Rattle.wtp_webtransport.specs.declared.connection.Connection.{Connection}
use Rattle.wtp_webtransport.specs.declared.stream.Stream.{Stream}
use Rattle.wtp_webtransport.specs.declared.stream.Part.{Part}
use Rattle.wtp_webtransport.specs.declared.stream.Part.TheVariants as part
use Rattle.wtp_webtransport.specs.declared.stream.Unread.{Unread}
use Rattle.wtp_webtransport.specs.declared.stream.Unread.TheVariants as unread
use Rattle.wtp_webtransport.specs.declared.stream.Due.{Due}
use Rattle.wtp_webtransport.specs.declared.stream.Due.TheVariants as due
use Rattle.wtp_webtransport.specs.Events.{Frame, Data, StreamData, End, SessionLost, Waits, More}
use Rattle.wtp_webtransport.specs.Streams.{with_streams, with_frames, due_by}
use Rattle.wtp_webtransport.specs.Receiving.{Outcome, found_opened, goaway_in, goaway_found, in_stream, content_by, DataBy, ends_by, EndBy, fails, spoiled, last, too_large, span_in, SectionBy, told_more, FoundGives, UnreadBy, GoesOn, DueGives, StreamGives, ReceivesIf, Receives, early}
use Rattle.wtp_webtransport.specs.Calls.{Stops, Finishes, Continues, course_of, plain, moved, IsSession, HasMemory}
use Rattle.wtp_webtransport.proofs.FoundLemmas.{section_moved}
use Rattle.wtp_webtransport.proofs.CallLemmas.{gave_moved, gave_of, found_there, has_rest, rest_slice, fails_ends, goes_not, ends_not, section_stops, IsEarly, too_large_goes, goes_of, early_of, due_still, some_bytes, seen_empty, content_due, receives_again}

-- what a later call found in these bytes and more, where nothing grows
pub keeps_end : (fin : Bool) (x : StreamRun) → has_none x.seen ≡ false → at_end fin x ≡ x
keeps_end true x e = ap (λ (b : Bool). cond b (ended x) x) e
keeps_end false x e = refl

abbrev StopsRight : ℕ → Connection → Stream → List ℕ → List ℕ → Bool → Outcome → Outcome → Outcome → Type 0
StopsRight limit c s a b fin o p q =
    Receives limit o.2 o.3 (drop o.0 a ++ b) fin p → HasMemory p → Receives limit c s (a ++ b) fin q → HasMemory q → plain q ≡ moved o.0 (length (a ++ b)) p

-- a call that changed nothing
same_stops : (limit : ℕ) (c : Connection) (s : Stream) (a b : List ℕ) (fin : Bool) (o p q u : Outcome) → (IsSession s.part → ⊥) → o ≡ u → u.0 ≡ 0 → u.2 ≡ c → u.3 ≡ s → StopsRight limit c s a b fin o p q
same_stops limit c s a b fin o p q u ns is zero same still h v g w =
    let from : o.0 ≡ 0 = ap (λ (z : Outcome). z.0) is ∙ zero in
    let one : Receives limit c o.3 (drop o.0 a ++ b) fin p = subst (λ (z : Connection). Receives limit z o.3 (drop o.0 a ++ b) fin p) (ap (λ (z : Outcome). z.2) is ∙ same) h in
    let two : Receives limit c s (drop o.0 a ++ b) fin p = subst (λ (z : Stream). Receives limit c z (drop o.0 a ++ b) fin p) (ap (λ (z : Outcome). z.3) is ∙ still) one in
    let three : Receives limit c s (a ++ b) fin p = subst (λ (n : ℕ). Receives limit c s (drop n a ++ b) fin p) from two in
    receives_again limit c s (a ++ b) fin p q ns v w three g ∙ ap (λ (n : ℕ). moved n (length (a ++ b)) p) (sym from)

dropped_size : (n : ℕ) (a b : List ℕ) → n ≤ length a → length (a ++ b) ≡ (n + length (drop n a ++ b)) + 0
dropped_size n a b l = omega (arith, l, length-append a b, length-append (drop n a) b, length-drop n a)

more_stops : (limit : ℕ) (c : Connection) (s : Stream) (a b : List ℕ) (fin : Bool) (o p q : Outcome) (n : ℕ) (d : Streams) (t : Frames) → (IsSession s.part → ⊥) → c.over ≡ false → s.unread ≡ unread.Nothing → due_by s.part false ≡ due.Nothing → n ≤ length a → found_by (found.More n) a d t ≡ first_seen c.streams s.frames a → o ≡ (n, told_more t, with_streams c d, with_frames s t) → StopsRight limit c s a b fin o p q
more_stops limit c s a b fin o p q n d t ns intact none idle w first is h v g m =
    let c2 : Connection = with_streams c d in
    let s2 : Stream = with_frames s t in
    let rest : List ℕ = drop n a ++ b in
    let again : Receives limit c2 s2 rest fin p = subst (λ (z : Outcome). Receives limit z.2 z.3 (drop z.0 a ++ b) fin p) is h in
    let x : GoesOn limit c2 s2 rest fin p = goes_of limit c2 s2 rest fin p again intact none (due_still s.part (length rest == 0) idle) in
    let y : GoesOn limit c s (a ++ b) fin q = goes_of limit c s (a ++ b) fin q g intact none (due_still s.part (length (a ++ b) == 0) idle) in
    let same : found_by y.x (a ++ b) y.d y.t ≡ found_by x.x rest x.d x.t =
    y.first
    ∙ ap (λ (z : StreamRun). at_end fin z) (seen_more c.streams s.frames a b ∙ ap (λ (z : StreamRun). with_more z b) (sym first))
    ∙ sym x.first in
    gave_moved limit n x.x y.x c s x.d y.d x.t y.t rest (a ++ b) p q (record { fits = x.found.fits; gives = x.gives }) (gave_of limit c s (a ++ b) fin q y)
    (found_there x.x y.x n 0 rest (a ++ b) x.d y.d x.t y.t x.found.fits y.found.fits (dropped_size n a b w) (ap (λ (z : StreamRun). z.seen) same) (ap (λ (z : StreamRun). length z.left) same ∙ omega arith))
    (ap (λ (z : StreamRun). z.connection) same) (ap (λ (z : StreamRun). z.stream) same) (has_rest n rest (a ++ b) (sym (drop-append-le n a b w))) ns v m
    ∙ ap (λ (k : ℕ). moved k (length (a ++ b)) p) (sym (ap (λ (z : Outcome). z.0) is))

-- no bytes came, and none were consumed
empty_stops : (limit : ℕ) (c : Connection) (s : Stream) (b : List ℕ) (fin : Bool) (o p q : Outcome) (n : ℕ) (d : Streams) (t : Frames) → (IsSession s.part → ⊥) → n ≤ 0 → found_by (found.More n) [] d t ≡ first_seen c.streams s.frames [] → o ≡ (n, told_more t, with_streams c d, with_frames s t) → StopsRight limit c s [] b fin o p q
empty_stops limit c s b fin o p q n d t ns w first is =
    let same : found_by (found.More n) [] d t ≡ rests c.streams s.frames [] = first ∙ seen_empty c.streams s.frames in
    same_stops limit c s [] b fin o p q (n, told_more t, with_streams c d, with_frames s t) ns is (omega (arith, w))
    (ap (λ (z : StreamRun). with_streams c z.connection) same) (ap (λ (z : StreamRun). with_frames s z.stream) same)

-- by whether bytes came
rest_stops : (limit : ℕ) (c : Connection) (s : Stream) (a b : List ℕ) (fin : Bool) (o p q : Outcome) (n : ℕ) (d : Streams) (t : Frames) → (IsSession s.part → ⊥) → c.over ≡ false → s.unread ≡ unread.Nothing → due_by s.part (length a == 0) ≡ due.Nothing → n ≤ length a → found_by (found.More n) a d t ≡ first_seen c.streams s.frames a → o ≡ (n, told_more t, with_streams c d, with_frames s t) → StopsRight limit c s a b fin o p q
rest_stops limit c s [] b fin o p q n d t ns intact none idle w first is = empty_stops limit c s b fin o p q n d t ns w first is
rest_stops limit c s (y ∷ a) b fin o p q n d t ns intact none idle w first is =
    more_stops limit c s (y ∷ a) b fin o p q n d t ns intact none (subst (λ (e : Bool). due_by s.part e ≡ due.Nothing) (some_bytes (y ∷ a) (omega arith)) idle) w first is

-- a section that waits for the settings of the peer, and is read again
left_slice : (start end : ℕ) (a b : List ℕ) → start ≤ end → end ≤ length a → slice (0 + start) (0 + end) (a ++ b) ≡ slice 0 (end - start) (drop start a ++ b)
left_slice start end a b l m =
    let from : 0 + start ≡ start + 0 = omega arith in
    let to : 0 + end ≡ start + (end - start) = omega (arith, l) in
    rw (from, to) (rest_slice start 0 (end - start) (a ++ b) ∙ ap (λ (z : List ℕ). slice 0 (end - start) z) (drop-append-le start a b (omega (arith, l, m))))

same_unread : (s : Stream) (t : Frames) → s.unread ≡ unread.Nothing → record (with_frames s t) { unread = unread.Nothing } ≡ with_frames s t
same_unread s t e = ap (λ (u : Unread). record (with_frames s t) { unread = u }) (sym e)

waits_stops : (why : Delay) (limit : ℕ) (c : Connection) (s : Stream) (a b : List ℕ) (fin : Bool) (o p q : Outcome) (start end : ℕ) (d : Streams) (t : Frames) → (IsSession s.part → ⊥) → c.over ≡ false → s.unread ≡ unread.Nothing → due_by s.part false ≡ due.Nothing → Fits (found.Frame kind.Headers start end) a d t → found_by (found.Frame kind.Headers start end) a d t ≡ first_seen c.streams s.frames a → o ≡ early (with_streams c d) (with_frames s t) (span_in start end a) why → StopsRight limit c s a b fin o p q
waits_stops why limit c s a b fin o p q start end d t ns intact none idle fits first is h v g m =
    let c2 : Connection = with_streams c d in
    let s2 : Stream = with_frames s t in
    let rest : List ℕ = drop start a ++ b in
    let size : end - start ≤ length rest = omega (arith, fits.1, fits.2, length-append (drop start a) b, length-drop start a) in
    let again : Receives limit c2 (record s2 { unread = unread.Early (end - start) why }) rest fin p = subst (λ (z : Outcome). Receives limit z.2 z.3 (drop z.0 a ++ b) fin p) is h in
    let one : SectionBy s.part limit c2 s2 0 (end - start) rest p = subst (λ (z : Stream). SectionBy s.part limit c2 z 0 (end - start) rest p) (same_unread s t none) (early_of why (end - start) limit c2 s2 rest fin p again intact size) in
    let y : GoesOn limit c s (a ++ b) fin q = goes_of limit c s (a ++ b) fin q g intact none (due_still s.part (length (a ++ b) == 0) idle) in
    let same : found_by y.x (a ++ b) y.d y.t ≡ left_over (found_by (found.Frame kind.Headers start end) a d t) b =
    y.first
    ∙ ap (λ (z : StreamRun). at_end fin z) (seen_more c.streams s.frames a b ∙ ap (λ (z : StreamRun). with_more z b) (sym first))
    ∙ keeps_end fin (left_over (found_by (found.Frame kind.Headers start end) a d t) b) refl in
    let is_x : y.x ≡ found.Frame kind.Headers (0 + start) (0 + end) =
    found_there (found.Frame kind.Headers start end) y.x 0 (length b) a (a ++ b) d y.d t y.t fits y.found.fits (omega (arith, length-append a b)) (ap (λ (z : StreamRun). z.seen) same) (ap (λ (z : StreamRun). length z.left) same ∙ length-append (drop end a) b) in
    let two : FoundGives limit (found.Frame kind.Headers (0 + start) (0 + end)) c2 s2 (a ++ b) q =
    subst (λ (z : Found). FoundGives limit z c2 s2 (a ++ b) q) is_x (
    subst (λ (z : Streams). FoundGives limit y.x (with_streams c z) s2 (a ++ b) q) (ap (λ (z : StreamRun). z.connection) same) (
    subst (λ (z : Frames). FoundGives limit y.x (with_streams c y.d) (with_frames s z) (a ++ b) q) (ap (λ (z : StreamRun). z.stream) same) y.gives)) in
    section_moved s.part limit start c2 s2 0 (end - start) (0 + start) (0 + end) rest (a ++ b) p q (omega arith) (omega (arith, fits.1)) (left_slice start end a b fits.1 fits.2) v m one two
    ∙ ap (λ (k : ℕ). moved k (length (a ++ b)) p) (sym (ap (λ (z : Outcome). z.0) is))

-- by whether bytes came: a section has some
section_waits : (limit : ℕ) (c : Connection) (s : Stream) (a b : List ℕ) (fin : Bool) (o p q : Outcome) (start end : ℕ) (d : Streams) (t : Frames) → (IsSession s.part → ⊥) → c.over ≡ false → s.unread ≡ unread.Nothing → due_by s.part (length a == 0) ≡ due.Nothing → Fits (found.Frame kind.Headers start end) a d t → found_by (found.Frame kind.Headers start end) a d t ≡ first_seen c.streams s.frames a → IsEarly (with_streams c d) (with_frames s t) (span_in start end a) o → StopsRight limit c s a b fin o p q
section_waits limit c s a b fin o p q start end d t ns intact none idle fits first is =
    waits_stops is.0 limit c s a b fin o p q start end d t ns intact none (subst (λ (e : Bool). due_by s.part e ≡ due.Nothing) (some_bytes a (omega (arith, fits.0, fits.1, fits.2))) idle) fits first is.1

pub opened_goes : (p : Purpose) (n : ℕ) (c : Connection) (s : Stream) → course_of (found_opened c s p n).1 ≡ Continues
opened_goes («for».Session id) n c s = refl
opened_goes «for».Message n c s = refl
opened_goes other n c s = refl

goaway_goes : (x : Option (ℕ × List ℕ)) (end : ℕ) (c : Connection) (s : Stream) (payload : List ℕ) → course_of (in_stream s (goaway_in x c end payload)).1 ≡ Continues
goaway_goes None end c s payload = refl
goaway_goes (Some x) end c s payload = refl

content_stops : (b : Bool) (c : Connection) (s : Stream) (m : Message) (start end : ℕ) (bytes : List ℕ) (o : Outcome) → o ≡ content_by b c s m start end bytes → course_of o.1 ≡ Stops → ⊥
content_stops true c s m start end bytes o g e = goes_not o (content_by true c s m start end bytes) g refl e
content_stops false c s m start end bytes o g e = ends_not o (content_by false c s m start end bytes) g refl e

data_stops : (p : Part) (c : Connection) (s : Stream) (start end : ℕ) (bytes : List ℕ) (o : Outcome) → (IsSession p → ⊥) → DataBy p c s start end bytes o → course_of o.1 ≡ Stops → ⊥
data_stops (part.Head m) c s start end bytes o ns g e = content_stops (fits m.content.left ((end - start) + remaining_of s.frames)) c s m start end bytes o g e
data_stops (part.Body m) c s start end bytes o ns g e = content_stops (fits m.content.left ((end - start) + remaining_of s.frames)) c s m start end bytes o g e
data_stops (part.Session k) c s start end bytes o ns g e = ns tt
data_stops part.OfSession c s start end bytes o ns g e = goes_not o (end, StreamData (slice start end bytes), c, s) g refl e
data_stops other c s start end bytes o ns g e = goes_not o (end, Data (slice start end bytes), c, s) g refl e

pub ends_by_ends : (r : Result (Unit {0}) Malformed) (c : Connection) (s : Stream) (len : ℕ) → course_of (ends_by c s len r).1 ≡ Finishes
ends_by_ends (Ok u) c s len = refl
ends_by_ends (Err rule) c s len = refl

end_stops : (p : Part) (c : Connection) (s : Stream) (len : ℕ) (o : Outcome) → (IsSession p → ⊥) → EndBy p c s len o → course_of o.1 ≡ Stops → ⊥
end_stops (part.Head m) c s len o ns g e = ends_not o (ends_by c s len (end_of m.stage m.content.left)) g (ends_by_ends (end_of m.stage m.content.left) c s len) e
end_stops (part.Body m) c s len o ns g e = ends_not o (ends_by c s len (end_of m.stage m.content.left)) g (ends_by_ends (end_of m.stage m.content.left) c s len) e
end_stops (part.Session k) c s len o ns g e = ns tt
end_stops other c s len o ns g e = ends_not o (last c s End len) g refl e

found_stops : (x : Found) (limit : ℕ) (c : Connection) (s : Stream) (a b : List ℕ) (fin : Bool) (o p q : Outcome) (d : Streams) (t : Frames) → (IsSession s.part → ⊥) → c.over ≡ false → s.unread ≡ unread.Nothing → due_by s.part (length a == 0) ≡ due.Nothing → Fits x a d t → found_by x a d t ≡ first_seen c.streams s.frames a → FoundGives limit x (with_streams c d) (with_frames s t) a o → course_of o.1 ≡ Stops → StopsRight limit c s a b fin o p q
found_stops (found.Opened u n) limit c s a b fin o p q d t ns intact none idle w first g e = absurd (goes_not o (found_opened (with_streams c d) (with_frames s t) u n) g (opened_goes u n (with_streams c d) (with_frames s t)) e)
found_stops (found.Settings v start end) limit c s a b fin o p q d t ns intact none idle w first g e = absurd (goes_not o _ g refl e)
found_stops (found.Frame kind.Headers start end) limit c s a b fin o p q d t ns intact none idle w first g e = section_waits limit c s a b fin o p q start end d t ns intact none idle w first (section_stops s.part limit (with_streams c d) (with_frames s t) start end a o g e)
found_stops (found.Frame kind.GoAway start end) limit c s a b fin o p q d t ns intact none idle w first g e = absurd (goes_not o (in_stream (with_frames s t) (goaway_found (with_streams c d) start end a)) g (goaway_goes (number_at (slice start end a)) end (with_streams c d) (with_frames s t) (slice start end a)) e)
found_stops (found.Frame k start end) limit c s a b fin o p q d t ns intact none idle w first g e = absurd (goes_not o (end, Frame k (slice start end a), with_streams c d, with_frames s t) g refl e)
found_stops (found.Data start end) limit c s a b fin o p q d t ns intact none idle w first g e = absurd (data_stops s.part (with_streams c d) (with_frames s t) start end a o ns g e)
found_stops (found.TooLarge size n) limit c s a b fin o p q d t ns intact none idle w first g e = absurd (goes_not o (too_large (with_streams c d) (with_frames s t) (Some size) n) g (too_large_goes s.part n (with_streams c d) (with_frames s t) (Some size)) e)
found_stops (found.More n) limit c s a b fin o p q d t ns intact none idle w first g e = rest_stops limit c s a b fin o p q n d t ns intact none idle w.0 first g
found_stops (found.Fault f) limit c s a b fin o p q d t ns intact none idle w first g e = absurd (ends_not o (fails (with_streams c d) (with_frames s t) (fault.Streams f) (length a)) g (fails_ends (length a) (with_streams c d) (with_frames s t) (fault.Streams f)) e)
found_stops found.End limit c s a b fin o p q d t ns intact none idle w first g e = absurd (end_stops s.part (with_streams c d) (with_frames s t) (length a) o ns g e)

due_stops : (x : Due) (limit : ℕ) (c : Connection) (s : Stream) (a b : List ℕ) (fin : Bool) (o p q : Outcome) → (IsSession s.part → ⊥) → c.over ≡ false → s.unread ≡ unread.Nothing → due_by s.part (length a == 0) ≡ x → DueGives x limit c s a false o → course_of o.1 ≡ Stops → StopsRight limit c s a b fin o p q
due_stops due.Wait limit c s a b fin o p q ns intact none is g e = same_stops limit c s a b fin o p q (0, Waits wait.Answer, c, s) ns g refl refl refl
due_stops (due.Content size) limit c s a b fin o p q ns intact none is g e = absurd (ns (content_due s.part (length a == 0) size is))
due_stops due.Spoiled limit c s a b fin o p q ns intact none is g e = absurd (ends_not o (spoiled c s (length a)) g refl e)
due_stops due.End limit c s a b fin o p q ns intact none is g e = absurd (ends_not o (last c s End (length a)) g refl e)
due_stops due.Lost limit c s a b fin o p q ns intact none is g e = absurd (ends_not o (last c s SessionLost (length a)) g refl e)
due_stops due.Nothing limit c s a b fin o p q ns intact none is g e = found_stops g.x limit c s a b fin o p q g.d g.t ns intact none is g.found.fits g.first g.gives e

-- a section that could not be read before
section_left : (u : Unread) (size limit : ℕ) (c : Connection) (s : Stream) (a b : List ℕ) (fin : Bool) (o p q : Outcome) → c.over ≡ false → size ≤ length a → ((bytes : List ℕ) (z : Outcome) → size ≤ length bytes → Receives limit c s bytes fin z → SectionBy s.part limit c (record s { unread = unread.Nothing }) 0 size bytes z) → IsEarly c (record s { unread = unread.Nothing }) (span_in 0 size a) o → StopsRight limit c s a b fin o p q
section_left u size limit c s a b fin o p q intact l reads (why, is) h v g m =
    let k : size - 0 ≡ size = omega arith in
    let more : size ≤ length (a ++ b) = omega (arith, l, length-append a b) in
    let again : Receives limit c (record s { unread = unread.Early (size - 0) why }) (a ++ b) fin p = subst (λ (z : Outcome). Receives limit z.2 z.3 (drop z.0 a ++ b) fin p) is h in
    let one : SectionBy s.part limit c (record s { unread = unread.Nothing }) 0 size (a ++ b) p = early_of why size limit c (record s { unread = unread.Nothing }) (a ++ b) fin p (subst (λ (n : ℕ). Receives limit c (record s { unread = unread.Early n why }) (a ++ b) fin p) k again) intact more in
    section_moved s.part limit 0 c (record s { unread = unread.Nothing }) 0 size 0 size (a ++ b) (a ++ b) p q refl (omega arith) refl v m one (reads (a ++ b) q more g)
    ∙ ap (λ (n : ℕ). moved n (length (a ++ b)) p) (sym (ap (λ (z : Outcome). z.0) is))

unread_stops : (n : Bool) (size limit : ℕ) (c : Connection) (s : Stream) (a b : List ℕ) (fin : Bool) (o p q : Outcome) → (IsSession s.part → ⊥) → c.over ≡ false → nat_lt (length a) size ≡ n → ((bytes : List ℕ) (z : Outcome) → size ≤ length bytes → Receives limit c s bytes fin z → SectionBy s.part limit c (record s { unread = unread.Nothing }) 0 size bytes z) → UnreadBy n limit c s size a o → course_of o.1 ≡ Stops → StopsRight limit c s a b fin o p q
unread_stops true size limit c s a b fin o p q ns intact is reads g e = same_stops limit c s a b fin o p q (0, More, c, s) ns g refl refl refl
unread_stops false size limit c s a b fin o p q ns intact is reads g e =
    section_left unread.Nothing size limit c s a b fin o p q intact (not_less (length a) size is) reads (section_stops s.part limit c (record s { unread = unread.Nothing }) 0 size a o g e)
  where
    not_less : (m k : ℕ) → nat_lt m k ≡ false → k ≤ m
    not_less m k e = elim (cases_lt m k) [
      | inl less ↦ absurd (cc (sym (lt-ltb m k less) ∙ e))
      | inr all ↦ all
    ]

-- what a call reads of a section that could not be read before
reads_early : (u : Unread) (size limit : ℕ) (c : Connection) (s : Stream) (fin : Bool) → c.over ≡ false → s.unread ≡ u → ((bytes : List ℕ) (z : Outcome) → StreamGives u limit c s bytes fin z → UnreadBy (nat_lt (length bytes) size) limit c s size bytes z) → (bytes : List ℕ) (z : Outcome) → size ≤ length bytes → Receives limit c s bytes fin z → SectionBy s.part limit c (record s { unread = unread.Nothing }) 0 size bytes z
reads_early u size limit c s fin intact is by bytes z l h =
    subst (λ (b : Bool). UnreadBy b limit c s size bytes z) (le-ltb (length bytes) size l) (by bytes z (
    subst (λ (x : Unread). StreamGives x limit c s bytes fin z) is (
    subst (λ (b : Bool). ReceivesIf b limit c s bytes fin z) intact h)))

stream_stops : (u : Unread) (limit : ℕ) (c : Connection) (s : Stream) (a b : List ℕ) (fin : Bool) (o p q : Outcome) → (IsSession s.part → ⊥) → c.over ≡ false → s.unread ≡ u → StreamGives u limit c s a false o → course_of o.1 ≡ Stops → StopsRight limit c s a b fin o p q
stream_stops (unread.Early size why) limit c s a b fin o p q ns intact is g e = unread_stops (nat_lt (length a) size) size limit c s a b fin o p q ns intact refl (reads_early (unread.Early size why) size limit c s fin intact is (λ bytes z h. h)) g e
stream_stops (unread.Section size) limit c s a b fin o p q ns intact is g e = unread_stops (nat_lt (length a) size) size limit c s a b fin o p q ns intact refl (reads_early (unread.Section size) size limit c s fin intact is (λ bytes z h. h)) g e
stream_stops unread.Nothing limit c s a b fin o p q ns intact is g e = due_stops (due_by s.part (length a == 0)) limit c s a b fin o p q ns intact is refl g e

-- after an error of the connection
over_stops : (limit : ℕ) (c : Connection) (s : Stream) (a b : List ℕ) (fin : Bool) (o p q : Outcome) → c.over ≡ true → Receives limit c s a false o → StopsRight limit c s a b fin o p q
over_stops limit c s a b fin o p q over h g v k w =
    let is : o ≡ (length a, More, c, s) = subst (λ (x : Bool). ReceivesIf x limit c s a false o) over h in
    let rest : List ℕ = drop (length a) a ++ b in
    let again : Receives limit c s rest fin p = subst (λ (z : Outcome). Receives limit z.2 z.3 (drop z.0 a ++ b) fin p) is g in
    let left : p ≡ (length rest, More, c, s) = subst (λ (x : Bool). ReceivesIf x limit c s rest fin p) over again in
    let all : q ≡ (length (a ++ b), More, c, s) = subst (λ (x : Bool). ReceivesIf x limit c s (a ++ b) fin q) over k in
    ap plain all
    ∙ ap (λ (n : ℕ). plain (n, More, c, s)) (omega (arith, length-append a b, length-append (drop (length a) a) b, length-drop (length a) a))
    ∙ ap (λ (z : Outcome). moved (length a) (length (a ++ b)) z) (sym left)
    ∙ ap (λ (n : ℕ). moved n (length (a ++ b)) p) (sym (ap (λ (z : Outcome). z.0) is))

pub calls_stop : (limit : ℕ) (c : Connection) (s : Stream) (a b : List ℕ) (fin : Bool) (o p q : Outcome) → (IsSession s.part → ⊥) → Receives limit c s a false o → course_of o.1 ≡ Stops → StopsRight limit c s a b fin o p q
calls_stop limit c s a b fin o p q ns h e = elim (cases_Bool c.over) [
  | inl over ↦ over_stops limit c s a b fin o p q over h
  | inr intact ↦ stream_stops s.unread limit c s a b fin o p q ns intact refl (subst (λ (x : Bool). ReceivesIf x limit c s a false o) intact h) e
]
