-- A call that returns something, and one over its bytes and more.
use Rattle.std.proofs.Common.{◌≡◌, ℕ, ◌+◌, ◌-◌, ◌==◌, ◌<◌, ◌≤◌, ◌||◌, not, nat_lt, Bool, true, false, List, [], ◌∷◌, ◌++◌, length, refl, sym, ap, subst, ◌∙◌, arith, length-append, inl, inr}
use Rattle.std.proofs.lemmas.Bool.{cases_Bool, cases_lt, le-ltb, lt-ltb}
use Rattle.wtp_messages.specs.declared.message.Message.{Message}
use Rattle.wtp_connection.specs.Opening.{remaining_of}
use Rattle.wtp_messages.specs.Content.{fits}
use Rattle.wtp_connection.specs.declared.stream.Stream.TheVariants as frames
use Rattle.wtp_connection.specs.Streams.{bytes_seen}
use Rattle.wtp_connection.specs.declared.connection.Connection.{Connection as Streams}
use Rattle.wtp_connection.specs.declared.connection.Found.{Found}
use Rattle.wtp_connection.specs.declared.connection.Found.TheVariants as found
use Rattle.wtp_connection.specs.declared.stream.Stream.{Stream as Frames}
use Rattle.wtp_connection.specs.declared.fault.Fault.{Fault}
use Rattle.wtp_connection.specs.Receiving.{Fits, seen_of, rest_after}
use Rattle.wtp_connection.specs.Streams.{StreamRun, Seen}
use Rattle.wtp_connection.specs.First.{first_seen, at_end, found_by, has_none, left_over, with_more}
use Rattle.wtp_connection.proofs.FirstCutLemmas.{seen_more}
use Rattle.wtp_webtransport.specs.declared.connection.Connection.{Connection}
use Rattle.wtp_webtransport.specs.declared.stream.Stream.{Stream}
use Rattle.wtp_webtransport.specs.declared.stream.Part.{Part}
use Rattle.wtp_webtransport.specs.declared.stream.Part.TheVariants as part
use Rattle.wtp_webtransport.specs.declared.stream.Unread.{Unread}
use Rattle.wtp_webtransport.specs.declared.stream.Unread.TheVariants as unread
use Rattle.wtp_webtransport.specs.declared.stream.Due.{Due}
use Rattle.wtp_webtransport.specs.declared.stream.Due.TheVariants as due
use Rattle.wtp_webtransport.specs.Events.{End, SessionLost}
use Rattle.wtp_webtransport.specs.Streams.{with_streams, with_frames, spoiled_if, due_by}
use Rattle.wtp_webtransport.specs.Receiving.{Outcome, content_by, DataBy, spoiled, last, SectionBy, told_more, FoundGives, UnreadBy, GoesOn, DueGives, StreamGives, ReceivesIf, Receives}
use Rattle.wtp_webtransport.specs.Calls.{IsPiece, Stops, course_of, plain, moved, IsSession, HasMemory}
use Rattle.wtp_webtransport.proofs.FoundLemmas.{found_from, found_is, shifted, section_moved}
use Rattle.wtp_webtransport.proofs.CallLemmas.{gave_moved, gave_of, found_there, has_front, front_slice, goes_of, due_still, some_bytes, seen_empty, content_due}
use Rattle.wtp_webtransport.proofs.StopLemmas.{keeps_end}

-- ---- what is due comes first

pub due_of : (w : Due) (limit : ℕ) (c : Connection) (s : Stream) (bytes : List ℕ) (fin : Bool) (o : Outcome) → Receives limit c s bytes fin o → c.over ≡ false → s.unread ≡ unread.Nothing → due_by s.part (length bytes == 0) ≡ w → DueGives w limit c s bytes fin o
due_of w limit c s bytes fin o h e f g =
    subst (λ (w : Due). DueGives w limit c s bytes fin o) g (
    subst (λ (u : Unread). StreamGives u limit c s bytes fin o) f (
    subst (λ (b : Bool). ReceivesIf b limit c s bytes fin o) e h))

-- more bytes leave it due
pub spoiled_still : (p : Part) (e f : Bool) → (e ≡ false → f ≡ false) → due_by p e ≡ due.Spoiled → due_by p f ≡ due.Spoiled
spoiled_still (part.Closed true) e f h is = refl
spoiled_still (part.Closed false) true f h is = absurd (cc is)
spoiled_still (part.Closed false) false f h is = ap (λ (b : Bool). spoiled_if (not b)) (h refl)
spoiled_still (part.Unanswered session m) e f h is = absurd (cc is)
spoiled_still (part.Session size) e f h is = is
spoiled_still part.Ending e f h is = absurd (cc is)
spoiled_still part.Losing e f h is = absurd (cc is)
spoiled_still other e f h is = absurd (cc is)

pub end_still : (p : Part) (e f : Bool) → due_by p e ≡ due.End → due_by p f ≡ due.End
end_still (part.Closed more) e f is = absurd (closed_end (more || not e) is)
  where
    closed_end : (b : Bool) → spoiled_if b ≡ due.End → ⊥
    closed_end true is = cc is
    closed_end false is = cc is
end_still (part.Unanswered session m) e f is = absurd (cc is)
end_still (part.Session size) e f is = is
end_still part.Ending e f is = is
end_still part.Losing e f is = absurd (cc is)
end_still other e f is = absurd (cc is)

pub lost_still : (p : Part) (e f : Bool) → due_by p e ≡ due.Lost → due_by p f ≡ due.Lost
lost_still (part.Closed more) e f is = absurd (closed_lost (more || not e) is)
  where
    closed_lost : (b : Bool) → spoiled_if b ≡ due.Lost → ⊥
    closed_lost true is = cc is
    closed_lost false is = cc is
lost_still (part.Unanswered session m) e f is = absurd (cc is)
lost_still (part.Session size) e f is = is
lost_still part.Ending e f is = absurd (cc is)
lost_still part.Losing e f is = is
lost_still other e f is = absurd (cc is)

pub empty_still : (a b : List ℕ) → (length a == 0) ≡ false → (length (a ++ b) == 0) ≡ false
empty_still [] b e = absurd (cc e)
empty_still (x ∷ a) b e = some_bytes ((x ∷ a) ++ b) (omega arith)

-- ---- what is found

abbrev Given : ℕ → Connection → Stream → List ℕ → List ℕ → Bool → Outcome → Outcome → Type 0
Given limit c s a b fin o q = Receives limit c s (a ++ b) fin q → HasMemory q → plain q ≡ moved 0 (length (a ++ b)) o

-- with bytes, the later call found the same
same_given : (limit : ℕ) (c : Connection) (s : Stream) (a b : List ℕ) (fin : Bool) (o q : Outcome) (x : Found) (d : Streams) (t : Frames) (z : StreamRun) → (IsSession s.part → ⊥) → HasMemory o → c.over ≡ false → s.unread ≡ unread.Nothing → due_by s.part false ≡ due.Nothing → Fits x a d t → found_by x a d t ≡ first_seen c.streams s.frames a → FoundGives limit x (with_streams c d) (with_frames s t) a o → with_more (found_by x a d t) b ≡ z → has_none z.seen ≡ false → z.connection ≡ d → z.stream ≡ t → ((y : Found) (e : Streams) (u : Frames) → Fits y (a ++ b) e u → found_by y (a ++ b) e u ≡ z → y ≡ shifted 0 x) → Given limit c s a b fin o q
same_given limit c s a b fin o q x d t z ns v intact none idle w first gives is some keeps stays same h m =
    let y : GoesOn limit c s (a ++ b) fin q = goes_of limit c s (a ++ b) fin q h intact none (due_still s.part (length (a ++ b) == 0) idle) in
    let all : found_by y.x (a ++ b) y.d y.t ≡ z =
    y.first
    ∙ ap (λ (r : StreamRun). at_end fin r) (seen_more c.streams s.frames a b ∙ ap (λ (r : StreamRun). with_more r b) (sym first) ∙ is)
    ∙ keeps_end fin z some in
    gave_moved limit 0 x y.x c s d y.d t y.t a (a ++ b) o q (record { fits = w; gives = gives }) (gave_of limit c s (a ++ b) fin q y) (same y.x y.d y.t y.found.fits all)
    (ap (λ (r : StreamRun). r.connection) all ∙ keeps) (ap (λ (r : StreamRun). r.stream) all ∙ stays) (has_front a b) ns v m

-- where the bytes that follow are left over
pub left_given : (limit : ℕ) (c : Connection) (s : Stream) (a b : List ℕ) (fin : Bool) (o q : Outcome) (x : Found) (d : Streams) (t : Frames) → (IsSession s.part → ⊥) → HasMemory o → c.over ≡ false → s.unread ≡ unread.Nothing → due_by s.part false ≡ due.Nothing → Fits x a d t → found_by x a d t ≡ first_seen c.streams s.frames a → FoundGives limit x (with_streams c d) (with_frames s t) a o → with_more (found_by x a d t) b ≡ left_over (found_by x a d t) b → has_none (seen_of x a) ≡ false → Given limit c s a b fin o q
left_given limit c s a b fin o q x d t ns v intact none idle w first gives is some =
    same_given limit c s a b fin o q x d t (left_over (found_by x a d t) b) ns v intact none idle w first gives is some refl refl
    (λ y e u g all. found_there x y 0 (length b) a (a ++ b) d e t u w g (omega (arith, length-append a b)) (ap (λ (r : StreamRun). r.seen) all) (ap (λ (r : StreamRun). length r.left) all ∙ length-append (rest_after x a) b))

pub more_course : (f : Frames) → course_of (told_more f) ≡ Stops
more_course (frames.Waiting id) = refl
more_course other = refl

data_is_piece : (p : Part) (c : Connection) (s : Stream) (start end : ℕ) (bytes : List ℕ) (o : Outcome) → (IsSession p → ⊥) → DataBy p c s start end bytes o → IsPiece o.1
data_is_piece (part.Head m) c s start end bytes o ns g = content_is_piece (fits m.content.left ((end - start) + remaining_of s.frames)) c s m start end bytes o g
  where
    content_is_piece : (b : Bool) (c : Connection) (s : Stream) (m : Message) (start end : ℕ) (bytes : List ℕ) (o : Outcome) → o ≡ content_by b c s m start end bytes → IsPiece o.1
    content_is_piece true c s m start end bytes o g = subst (λ (z : Outcome). IsPiece z.1) (sym g) tt
    content_is_piece false c s m start end bytes o g = subst (λ (z : Outcome). IsPiece z.1) (sym g) tt
data_is_piece (part.Body m) c s start end bytes o ns g = body_is_piece (fits m.content.left ((end - start) + remaining_of s.frames)) c s m start end bytes o g
  where
    body_is_piece : (b : Bool) (c : Connection) (s : Stream) (m : Message) (start end : ℕ) (bytes : List ℕ) (o : Outcome) → o ≡ content_by b c s m start end bytes → IsPiece o.1
    body_is_piece true c s m start end bytes o g = subst (λ (z : Outcome). IsPiece z.1) (sym g) tt
    body_is_piece false c s m start end bytes o g = subst (λ (z : Outcome). IsPiece z.1) (sym g) tt
data_is_piece (part.Session k) c s start end bytes o ns g = absurd (ns tt)
data_is_piece part.OfSession c s start end bytes o ns g = subst (λ (z : Outcome). IsPiece z.1) (sym g) tt
data_is_piece other c s start end bytes o ns g = subst (λ (z : Outcome). IsPiece z.1) (sym g) tt

pub fault_given : (limit : ℕ) (c : Connection) (s : Stream) (a b : List ℕ) (fin : Bool) (o q : Outcome) (f : Fault) (d : Streams) (t : Frames) → (IsSession s.part → ⊥) → HasMemory o → c.over ≡ false → s.unread ≡ unread.Nothing → due_by s.part false ≡ due.Nothing → found_by (found.Fault f) a d t ≡ first_seen c.streams s.frames a → FoundGives limit (found.Fault f) (with_streams c d) (with_frames s t) a o → Given limit c s a b fin o q
fault_given limit c s a b fin o q f d t ns v intact none idle first g =
    same_given limit c s a b fin o q (found.Fault f) d t (found_by (found.Fault f) a d t) ns v intact none idle tt first g refl refl refl refl
    (λ y e u h all. found_is y (a ++ b) e u h ∙ ap (λ (l : List Seen). found_from l (length (a ++ b)) (length (rest_after y (a ++ b)))) (ap (λ (r : StreamRun). r.seen) all))

pub end_given : (limit : ℕ) (c : Connection) (s : Stream) (a b : List ℕ) (fin : Bool) (o q : Outcome) (d : Streams) (t : Frames) → (IsSession s.part → ⊥) → HasMemory o → c.over ≡ false → s.unread ≡ unread.Nothing → due_by s.part false ≡ due.Nothing → found_by found.End a d t ≡ first_seen c.streams s.frames a → FoundGives limit found.End (with_streams c d) (with_frames s t) a o → Given limit c s a b fin o q
end_given limit c s a b fin o q d t ns v intact none idle first g =
    same_given limit c s a b fin o q found.End d t (left_over (found_by found.End a d t) b) ns v intact none idle tt first g refl refl refl refl
    (λ y e u h all. found_is y (a ++ b) e u h ∙ ap (λ (l : List Seen). found_from l (length (a ++ b)) (length (rest_after y (a ++ b)))) (ap (λ (r : StreamRun). r.seen) all))

pub found_given : (x : Found) (limit : ℕ) (c : Connection) (s : Stream) (a b : List ℕ) (fin : Bool) (o q : Outcome) (d : Streams) (t : Frames) → (IsSession s.part → ⊥) → HasMemory o → c.over ≡ false → s.unread ≡ unread.Nothing → due_by s.part false ≡ due.Nothing → Fits x a d t → found_by x a d t ≡ first_seen c.streams s.frames a → FoundGives limit x (with_streams c d) (with_frames s t) a o → (course_of o.1 ≡ Stops → ⊥) → (IsPiece o.1 → ⊥) → Given limit c s a b fin o q
found_given (found.Opened p n) limit c s a b fin o q d t ns v intact none idle w first g goes whole = left_given limit c s a b fin o q (found.Opened p n) d t ns v intact none idle w first g refl refl
found_given (found.Settings k start end) limit c s a b fin o q d t ns v intact none idle w first g goes whole = left_given limit c s a b fin o q (found.Settings k start end) d t ns v intact none idle w first g refl refl
found_given (found.Frame k start end) limit c s a b fin o q d t ns v intact none idle w first g goes whole = left_given limit c s a b fin o q (found.Frame k start end) d t ns v intact none idle w first g refl refl
found_given (found.Data start end) limit c s a b fin o q d t ns v intact none idle w first g goes whole = absurd (whole (data_is_piece s.part (with_streams c d) (with_frames s t) start end a o ns g))
found_given (found.TooLarge size n) limit c s a b fin o q d t ns v intact none idle w first g goes whole = left_given limit c s a b fin o q (found.TooLarge size n) d t ns v intact none idle w first g refl refl
found_given (found.More n) limit c s a b fin o q d t ns v intact none idle w first g goes whole = absurd (goes (ap (λ (z : Outcome). course_of z.1) g ∙ more_course t))
found_given (found.Fault f) limit c s a b fin o q d t ns v intact none idle w first g goes whole = fault_given limit c s a b fin o q f d t ns v intact none idle first g
found_given found.End limit c s a b fin o q d t ns v intact none idle w first g goes whole = end_given limit c s a b fin o q d t ns v intact none idle first g

-- without bytes nothing is found
none_seen : (p : List ℕ) → 0 < length p → bytes_seen p ≡ [] → ⊥
none_seen [] l e = omega (arith, l)
none_seen (b ∷ p) l e = cc e

pub empty_given : (x : Found) (limit : ℕ) (c : Connection) (s : Stream) (o : Outcome) (d : Streams) (t : Frames) → Fits x [] d t → seen_of x [] ≡ [] → FoundGives limit x (with_streams c d) (with_frames s t) [] o → course_of o.1 ≡ Stops
empty_given (found.Opened p n) limit c s o d t w e g = absurd (cc e)
empty_given (found.Settings k start end) limit c s o d t w e g = absurd (cc e)
empty_given (found.Frame k start end) limit c s o d t w e g = absurd (cc e)
empty_given (found.Data start end) limit c s o d t w e g = absurd (none_size w.0 w.1)
  where
    none_size : {m k : ℕ} → m < k → k ≤ 0 → ⊥
    none_size l n = omega (arith, l, n)
empty_given (found.TooLarge size n) limit c s o d t w e g = absurd (cc e)
empty_given (found.More n) limit c s o d t w e g = ap (λ (z : Outcome). course_of z.1) g ∙ more_course t
empty_given (found.Fault f) limit c s o d t w e g = absurd (cc e)
empty_given found.End limit c s o d t w e g = absurd (cc e)

goes_given : (limit : ℕ) (c : Connection) (s : Stream) (a b : List ℕ) (fin : Bool) (o q : Outcome) → (IsSession s.part → ⊥) → HasMemory o → c.over ≡ false → s.unread ≡ unread.Nothing → due_by s.part (length a == 0) ≡ due.Nothing → GoesOn limit c s a false o → (course_of o.1 ≡ Stops → ⊥) → (IsPiece o.1 → ⊥) → Given limit c s a b fin o q
goes_given limit c s [] b fin o q ns v intact none idle g goes whole =
    absurd (goes (empty_given g.x limit c s o g.d g.t g.found.fits (ap (λ (r : StreamRun). r.seen) (g.first ∙ seen_empty c.streams s.frames)) g.gives))
goes_given limit c s (y ∷ a) b fin o q ns v intact none idle g goes whole =
    found_given g.x limit c s (y ∷ a) b fin o q g.d g.t ns v intact none (subst (λ (e : Bool). due_by s.part e ≡ due.Nothing) (some_bytes (y ∷ a) (omega arith)) idle) g.found.fits g.first g.gives goes whole

-- ---- by what comes first

fixed_given : (n len : ℕ) (o q u z : Outcome) → o ≡ u → q ≡ z → plain z ≡ moved 0 len u → plain q ≡ moved 0 len o
fixed_given n len o q u z e f h = ap plain f ∙ h ∙ ap (λ (w : Outcome). moved 0 len w) (sym e)

pub due_given : (x : Due) (limit : ℕ) (c : Connection) (s : Stream) (a b : List ℕ) (fin : Bool) (o q : Outcome) → (IsSession s.part → ⊥) → HasMemory o → c.over ≡ false → s.unread ≡ unread.Nothing → due_by s.part (length a == 0) ≡ x → DueGives x limit c s a false o → (course_of o.1 ≡ Stops → ⊥) → (IsPiece o.1 → ⊥) → Given limit c s a b fin o q
due_given due.Wait limit c s a b fin o q ns v intact none is g goes whole h m = absurd (goes (ap (λ (z : Outcome). course_of z.1) g))
due_given (due.Content size) limit c s a b fin o q ns v intact none is g goes whole h m = absurd (ns (content_due s.part (length a == 0) size is))
due_given due.Spoiled limit c s a b fin o q ns v intact none is g goes whole h m =
    let later : due_by s.part (length (a ++ b) == 0) ≡ due.Spoiled = spoiled_still s.part (length a == 0) (length (a ++ b) == 0) (empty_still a b) is in
    fixed_given 0 (length (a ++ b)) o q (spoiled c s (length a)) (spoiled c s (length (a ++ b))) g (due_of due.Spoiled limit c s (a ++ b) fin q h intact none later) refl
due_given due.End limit c s a b fin o q ns v intact none is g goes whole h m =
    fixed_given 0 (length (a ++ b)) o q (last c s End (length a)) (last c s End (length (a ++ b))) g (due_of due.End limit c s (a ++ b) fin q h intact none (end_still s.part (length a == 0) (length (a ++ b) == 0) is)) refl
due_given due.Lost limit c s a b fin o q ns v intact none is g goes whole h m =
    fixed_given 0 (length (a ++ b)) o q (last c s SessionLost (length a)) (last c s SessionLost (length (a ++ b))) g (due_of due.Lost limit c s (a ++ b) fin q h intact none (lost_still s.part (length a == 0) (length (a ++ b) == 0) is)) refl
due_given due.Nothing limit c s a b fin o q ns v intact none is g goes whole h m = goes_given limit c s a b fin o q ns v intact none is g goes whole h m

pub unread_given : (n : Bool) (size limit : ℕ) (c : Connection) (s : Stream) (a b : List ℕ) (o q : Outcome) → nat_lt (length a) size ≡ n → UnreadBy n limit c s size a o → UnreadBy (nat_lt (length (a ++ b)) size) limit c s size (a ++ b) q → HasMemory o → HasMemory q → (course_of o.1 ≡ Stops → ⊥) → plain q ≡ moved 0 (length (a ++ b)) o
unread_given true size limit c s a b o q is g h v m goes = absurd (goes (ap (λ (z : Outcome). course_of z.1) g))
unread_given false size limit c s a b o q is g h v m goes =
    let l : size ≤ length a = not_less (length a) size is in
    let read : SectionBy s.part limit c (record s { unread = unread.Nothing }) 0 size (a ++ b) q = subst (λ (k : Bool). UnreadBy k limit c s size (a ++ b) q) (le-ltb (length (a ++ b)) size (omega (arith, l, length-append a b))) h in
    section_moved s.part limit 0 c (record s { unread = unread.Nothing }) 0 size 0 size a (a ++ b) o q refl (omega arith) (front_slice 0 size a b l) v m g read
  where
    not_less : (m k : ℕ) → nat_lt m k ≡ false → k ≤ m
    not_less m k e = elim (cases_lt m k) [
      | inl less ↦ absurd (cc (sym (lt-ltb m k less) ∙ e))
      | inr all ↦ all
    ]

stream_given : (u : Unread) (limit : ℕ) (c : Connection) (s : Stream) (a b : List ℕ) (fin : Bool) (o q : Outcome) → (IsSession s.part → ⊥) → HasMemory o → c.over ≡ false → s.unread ≡ u → StreamGives u limit c s a false o → (course_of o.1 ≡ Stops → ⊥) → (IsPiece o.1 → ⊥) → Given limit c s a b fin o q
stream_given (unread.Early size why) limit c s a b fin o q ns v intact is g goes whole h m = unread_given (nat_lt (length a) size) size limit c s a b o q refl g (subst (λ (x : Unread). StreamGives x limit c s (a ++ b) fin q) is (subst (λ (k : Bool). ReceivesIf k limit c s (a ++ b) fin q) intact h)) v m goes
stream_given (unread.Section size) limit c s a b fin o q ns v intact is g goes whole h m = unread_given (nat_lt (length a) size) size limit c s a b o q refl g (subst (λ (x : Unread). StreamGives x limit c s (a ++ b) fin q) is (subst (λ (k : Bool). ReceivesIf k limit c s (a ++ b) fin q) intact h)) v m goes
stream_given unread.Nothing limit c s a b fin o q ns v intact is g goes whole h m = due_given (due_by s.part (length a == 0)) limit c s a b fin o q ns v intact is refl g goes whole h m

pub calls_give : (limit : ℕ) (c : Connection) (s : Stream) (a b : List ℕ) (fin : Bool) (o q : Outcome) → (IsSession s.part → ⊥) → HasMemory o → Receives limit c s a false o → (course_of o.1 ≡ Stops → ⊥) → (IsPiece o.1 → ⊥) → Given limit c s a b fin o q
calls_give limit c s a b fin o q ns v g goes whole = elim (cases_Bool c.over) [
  | inl over ↦ λ h m. absurd (goes (ap (λ (z : Outcome). course_of z.1) (subst (λ (x : Bool). ReceivesIf x limit c s a false o) over g)))
  | inr intact ↦ stream_given s.unread limit c s a b fin o q ns v intact refl (subst (λ (x : Bool). ReceivesIf x limit c s a false o) intact g) goes whole
]
