-- The calls of a session's own stream, one after the other, say what all of its bytes say.
use Rattle.std.proofs.Common.{◌≡◌, ◌⊎◌, ℕ, ◌==◌, ◌<◌, ◌≤◌, nat_lt, Bool, true, false, List, [], ◌∷◌, ◌++◌, length, take, drop, Option, Some, None, refl, sym, ap, subst, ◌∙◌, arith, inl, inr, append_assoc, append-nil, length-append}
use Rattle.std.proofs.lemmas.Bool.{cases_lt, lt-ltb, le-ltb}
use Rattle.std.proofs.lemmas.List.{take-append-le, drop-append-le}
use Rattle.wtp_core.specs.Varint.{number_at}
use Rattle.wtp_core.specs.declared.error.scope.ErrorScope.{ErrorScope}
use Rattle.wtp_core.specs.declared.error.scope.ErrorScope.TheVariants as scope
use Rattle.wtp_frames.specs.Reading.{slice}
use Rattle.wtp_frames.specs.declared.frame_type.FrameType.{FrameType}
use Rattle.wtp_frames.specs.declared.frame_type.FrameType.TheVariants as kind
use Rattle.wtp_connection.specs.declared.connection.Connection.{Connection as Streams}
use Rattle.wtp_connection.specs.declared.connection.Found.{Found as Finding}
use Rattle.wtp_connection.specs.declared.connection.Found.TheVariants as found
use Rattle.wtp_connection.specs.declared.stream.Purpose.{Purpose}
use Rattle.wtp_connection.specs.declared.stream.Purpose.TheVariants as «for»
use Rattle.wtp_connection.specs.declared.stream.Stream.{Stream as Frames}
use Rattle.wtp_connection.specs.declared.stream.Stream.TheVariants as frames
use Rattle.wtp_connection.specs.Streams.{StreamRun, Broke, Ended, run_stream, followed, rests as rests_at, ended as ended_run}
use Rattle.wtp_connection.specs.Receiving.{Fits, FoundIs, Settled, seen_of, rest_after}
use Rattle.wtp_connection.proofs.FinishLemmas.{ended_followed}
use Rattle.wtp_webtransport.specs.declared.connection.Connection.{Connection}
use Rattle.wtp_webtransport.specs.declared.fault.Fault.{Fault}
use Rattle.wtp_webtransport.specs.declared.fault.Fault.TheVariants as fault
use Rattle.wtp_webtransport.specs.declared.stream.Part.{Part}
use Rattle.wtp_webtransport.specs.declared.stream.Part.TheVariants as part
use Rattle.wtp_webtransport.specs.declared.stream.Stream.{Stream}
use Rattle.wtp_webtransport.specs.declared.stream.Unread.{Unread}
use Rattle.wtp_webtransport.specs.declared.stream.Unread.TheVariants as unread
use Rattle.wtp_webtransport.specs.declared.stream.Due.{Due}
use Rattle.wtp_webtransport.specs.declared.stream.Due.TheVariants as due
use Rattle.wtp_webtransport.specs.Capsules.{Place, Head, Value, Skipping, between, IsWithin}
use Rattle.wtp_webtransport.specs.Cuts.{Run}
use Rattle.wtp_webtransport.specs.Events.{Told, Joins, Opened, Settings, GoAway, Frame, SessionClosed, StreamError, TooLarge}
use Rattle.wtp_webtransport.specs.Fault.{scope_of}
use Rattle.wtp_messages.specs.declared.message.Role.TheVariants as role
use Rattle.wtp_webtransport.specs.Streams.{with_streams, with_frames, with_part, with_head, head_if, with_session_id, member_if, due_by, content_due, EndsBetween}
use Rattle.wtp_webtransport.specs.Receiving.{Outcome, closed_in, failed_by, CapsulesGive, ContentBy, DataBy, SessionEndGives, EndBy, SectionBy, found_opened, goaway_in, in_stream, told_more, too_large_by, FoundGives, GoesOn, DueGives, StreamGives, ReceivesIf, Receives}
use Rattle.wtp_webtransport.specs.Calls.{IsSession, Stops, course_of, left_of}
use Rattle.wtp_webtransport.specs.Said.{of_session, error_told, ending_told, place_told, capsules_told, Said, said_by, said_from, run_to, said, preceded, IsOpen, SaysBy, Says, Follow, SessionReads, session_told, AreAlike}
use Rattle.wtp_webtransport.proofs.SaidLemmas.{run_rests, located, front_located, said_piece, Rested, CallSays, over_says, quiet_says, lost_part, spoiled_says, capsules_say}

-- ---- whatever was found

-- an error of the frames
error_course : (k : ErrorScope) (f : Fault) → course_of (error_told k f) ≡ Stops → ⊥
error_course scope.Stream f e = cc e
error_course other f e = cc e

failed_says : (k : ErrorScope) (fin end : Bool) (c : Connection) (s : Stream) (f : Fault) (bytes more : List ℕ) (o : Outcome) (all : Said) → s.part ≡ part.Session 0 → all.told ≡ error_told k f ∷ [] → o ≡ failed_by s (length bytes) (closed_in c f k) → CallSays fin end bytes more o all
failed_says scope.Stream fin end c s f bytes more o all is h g =
    subst (λ (z : Outcome). CallSays fin end bytes more z all) (sym g)
    (over_says part.Losing fin end bytes more (failed_by s (length bytes) (closed_in c f scope.Stream)) all (lost_part s.part 0 is) (λ i. i) (λ st. cc st) h)
failed_says k fin end c s f bytes more o all is h g =
    subst (λ (z : Outcome). CallSays fin end bytes more z all) (sym g)
    (over_says part.Losing fin end bytes more (failed_by s (length bytes) (closed_in c f k)) all (lost_part s.part 0 is) (λ i. i) (λ st. cc st) h)

-- the end of the stream
within_told : (p : Place) → (p ≡ between → ⊥) → ending_told (Some Ended) p ≡ StreamError fault.Capsule ∷ []
within_told (Head []) n = absurd (n refl)
within_told (Head (b ∷ h)) n = refl
within_told (Value k v n) m = refl
within_told (Skipping n) m = refl

end_says : (fin end : Bool) (c : Connection) (s : Stream) (p : Place) (bytes more : List ℕ) (o : Outcome) (all : Said) → s.part ≡ part.Session 0 → s.capsules ≡ Some p → all.told ≡ ending_told (Some Ended) p → SessionEndGives c s (length bytes) o → CallSays fin end bytes more o all
end_says fin end c s p bytes more o all is cap h (SessionEndGives.Between b g) =
    let at : p ≡ between = subst EndsBetween cap b in
    subst (λ (z : Outcome). CallSays fin end bytes more z all) (sym g)
    (over_says part.Ending fin end bytes more (length bytes, SessionClosed (0, []), c, with_part s part.Ending) all refl (λ i. i) (λ st. cc st) (h ∙ ap (λ (k : Place). ending_told (Some Ended) k) at))
end_says fin end c s p bytes more o all is cap h (SessionEndGives.Within b g) =
    spoiled_says fin end c s 0 bytes more o all is (h ∙ within_told p (λ e. b (subst EndsBetween (sym cap) e))) g

-- what it is after the state of its frames changed
abbrev Quiet : Bool → Bool → Connection → Stream → Place → List ℕ → List ℕ → ℕ → Said → Type 0
Quiet fin end c s p bytes more n all =
    (c.over ≡ false)
    × (s.unread ≡ unread.Nothing)
    × (s.part ≡ part.Session 0)
    × (s.capsules ≡ Some p)
    × IsWithin p
    × (n ≤ length bytes)
    × (all ≡ said_from (Some p) [] (run_to end c.streams s.frames (drop n bytes ++ more)))

silent_says : (fin end : Bool) (c : Connection) (s : Stream) (p : Place) (bytes more : List ℕ) (n : ℕ) (told : Told) (o : Outcome) (all : Said) → Quiet fin end c s p bytes more n all → of_session told ≡ [] → (course_of told ≡ Stops → ⊥) → o ≡ (n, told, c, s) → CallSays fin end bytes more o all
silent_says fin end c s p bytes more n told o all x silent goes g =
    quiet_says fin end c s p bytes more n told o all x.0 x.1 x.2 x.3 x.4 x.5 silent (λ st. absurd (goes st)) x.6 g

more_silent : (t : Frames) → of_session (told_more t) ≡ []
more_silent (frames.Waiting id) = refl
more_silent other = refl

opened_says : (q : Purpose) (fin end : Bool) (c : Connection) (s : Stream) (p : Place) (bytes more : List ℕ) (n : ℕ) (o : Outcome) (all : Said) → Quiet fin end c s p bytes more n all → o ≡ found_opened c s q n → CallSays fin end bytes more o all
opened_says («for».Session id) fin end c s p bytes more n o all x g =
    silent_says fin end c (with_session_id s) p bytes more n (Joins id) o all (x.0, x.1, ap member_if x.2, x.3, x.4, x.5, x.6) refl (λ st. cc st) g
opened_says «for».Message fin end c s p bytes more n o all x g =
    silent_says fin end c (with_head s (role.Request c.extended)) p bytes more n (Opened «for».Message) o all (x.0, x.1, ap (λ (k : Part). head_if k (role.Request c.extended)) x.2, x.3, x.4, x.5, x.6) refl (λ st. cc st) g
opened_says q fin end c s p bytes more n o all x g =
    silent_says fin end c s p bytes more n (Opened q) o all x refl (λ st. cc st) g

goaway_says : (k : Option (ℕ × List ℕ)) (fin end : Bool) (c : Connection) (s : Stream) (p : Place) (bytes more : List ℕ) (n : ℕ) (payload : List ℕ) (o : Outcome) (all : Said) → Quiet fin end c s p bytes more n all → o ≡ in_stream s (goaway_in k c n payload) → CallSays fin end bytes more o all
goaway_says None fin end c s p bytes more n payload o all x g =
    silent_says fin end c s p bytes more n (Frame kind.GoAway payload) o all x refl (λ st. cc st) g
goaway_says (Some i) fin end c s p bytes more n payload o all x g =
    silent_says fin end (record c { goaway = Some i.0 }) s p bytes more n (GoAway i.0) o all x refl (λ st. cc st) g

frame_says : (k : FrameType) (limit : ℕ) (fin end : Bool) (c : Connection) (s : Stream) (p : Place) (bytes more : List ℕ) (start n : ℕ) (o : Outcome) (all : Said) → Quiet fin end c s p bytes more n all → FoundGives limit (found.Frame k start n) c s bytes o → CallSays fin end bytes more o all
frame_says kind.Headers limit fin end c s p bytes more start n o all x g =
    silent_says fin end c s p bytes more n (Frame kind.Headers (slice start n bytes)) o all x refl (λ st. cc st) (subst (λ (k : Part). SectionBy k limit c s start n bytes o) x.2 g)
frame_says kind.GoAway limit fin end c s p bytes more start n o all x g =
    goaway_says (number_at (slice start n bytes)) fin end c s p bytes more n (slice start n bytes) o all x g
frame_says k limit fin end c s p bytes more start n o all x g =
    silent_says fin end c s p bytes more n (Frame k (slice start n bytes)) o all x refl (λ st. cc st) g

-- what was found, and the run of the rest
abbrev Rest : Finding → Bool → Connection → Stream → Place → List ℕ → List ℕ → Said → Type 0
Rest x end c s p bytes more all =
    all ≡ said_from (Some p) [] (followed (seen_of x bytes) (run_to end c.streams s.frames (rest_after x bytes ++ more)))

none_left : (fin : Bool) (n : ℕ) (bytes : List ℕ) (d : Streams) (t : Frames) → Fits (found.More n) bytes d t → (fin ≡ true → Settled (found.More n) bytes d t) → run_to fin d t (drop n bytes) ≡ rests_at d t (drop n bytes)
none_left true n bytes d t w settled = settled refl
none_left false n bytes d t w settled = w.1.idle

found_says : (x : Finding) (limit : ℕ) (fin end : Bool) (c : Connection) (s : Stream) (p : Place) (bytes more : List ℕ) (o : Outcome) (all : Said) → c.over ≡ false → s.unread ≡ unread.Nothing → s.part ≡ part.Session 0 → s.capsules ≡ Some p → IsWithin p → Fits x bytes c.streams s.frames → (fin ≡ true → Settled x bytes c.streams s.frames) → Rest x end c s p bytes more all → FoundGives limit x c s bytes o → CallSays fin end bytes more o all
found_says (found.Opened q n) limit fin end c s p bytes more o all intact none is cap w fit settled h g =
    opened_says q fin end c s p bytes more n o all (intact, none, is, cap, w, fit, h) g
found_says (found.Settings v start last) limit fin end c s p bytes more o all intact none is cap w fit settled h g =
    silent_says fin end (record c { configured = true }) s p bytes more last (Settings v (slice start last bytes)) o all (intact, none, is, cap, w, fit.2, h) refl (λ st. cc st) g
found_says (found.Frame k start last) limit fin end c s p bytes more o all intact none is cap w fit settled h g =
    frame_says k limit fin end c s p bytes more start last o all (intact, none, is, cap, w, fit.2, h) g
found_says (found.Data start last) limit fin end c s p bytes more o all intact none is cap w fit settled h g =
    let piece : List ℕ = slice start last bytes in
    capsules_say fin end c s 0 p bytes more piece last o all intact none is cap w fit.1 (located start last bytes (omega (arith, fit.0)) fit.1)
    (h ∙ said_piece p piece (run_to end c.streams s.frames (drop last bytes ++ more)))
    (subst (λ (k : Part). DataBy k c s start last bytes o) is g)
found_says (found.TooLarge size n) limit fin end c s p bytes more o all intact none is cap w fit settled h g =
    silent_says fin end c s p bytes more n (TooLarge (Some size)) o all (intact, none, is, cap, w, fit.1, h) refl (λ st. cc st)
    (g ∙ ap (λ (k : Part). too_large_by k c s (Some size) n) is)
found_says (found.More n) limit fin end c s p bytes more o all intact none is cap w fit settled h g =
    quiet_says fin end c s p bytes more n (told_more s.frames) o all intact none is cap w fit.0 (more_silent s.frames) (λ st. none_left fin n bytes c.streams s.frames fit settled) h g
found_says (found.Fault f) limit fin end c s p bytes more o all intact none is cap w fit settled h g =
    failed_says (scope_of (fault.Streams f)) fin end c s (fault.Streams f) bytes more o all is
    (ap (λ (x : Said). x.told) h
    ∙ ap (λ (x : Run). capsules_told x.capsules (place_told (Some (Broke f)) x.place)) (run_rests p w)) g
found_says found.End limit fin end c s p bytes more o all intact none is cap w fit settled h g =
    end_says fin end c s p bytes more o all is cap
    (ap (λ (x : Said). x.told) h
    ∙ ap (λ (x : Run). capsules_told x.capsules (place_told (Some Ended) x.place)) (run_rests p w))
    (subst (λ (k : Part). EndBy k c s (length bytes) o) is g)

-- ---- the run of all bytes

rest_found : (fin end : Bool) (x : Finding) (c d : Streams) (s t : Frames) (bytes more : List ℕ) → Follow fin more end → FoundIs x c s bytes fin d t → run_to end c s (bytes ++ more) ≡ followed (seen_of x bytes) (run_to end d t (rest_after x bytes ++ more))
rest_found true end x c d s t bytes more (none, is) h =
    let now : ended_run (run_stream c s bytes) ≡ followed (seen_of x bytes) (ended_run (run_stream d t (rest_after x bytes))) = h.finds [] in
    ap (λ (l : List ℕ). run_to end c s (bytes ++ l)) none
    ∙ ap (λ (l : List ℕ). run_to end c s l) (append-nil bytes)
    ∙ ap (λ (k : Bool). run_to k c s bytes) is
    ∙ now
    ∙ ap (λ (k : Bool). followed (seen_of x bytes) (run_to k d t (rest_after x bytes))) (sym is)
    ∙ ap (λ (l : List ℕ). followed (seen_of x bytes) (run_to end d t l)) (sym (append-nil (rest_after x bytes)))
    ∙ ap (λ (l : List ℕ). followed (seen_of x bytes) (run_to end d t (rest_after x bytes ++ l))) (sym none)
rest_found false true x c d s t bytes more follows h =
    ap ended_run (h.finds more) ∙ ended_followed (seen_of x bytes) (run_stream d t (rest_after x bytes ++ more))
rest_found false false x c d s t bytes more follows h = h.finds more

-- ---- a call

some_due : (size : ℕ) → 0 < size → content_due size ≡ due.Content size
some_due size some = rw (lt-ltb 0 size some) refl

none_due : (size : ℕ) → size ≡ 0 → content_due size ≡ due.Nothing
none_due size none = ap content_due none

read_says : (limit : ℕ) (c : Connection) (s : Stream) (bytes more : List ℕ) (fin end : Bool) (o : Outcome) (h : IsOpen c s bytes) → Follow fin more end → DueGives (due_by s.part (length bytes == 0)) limit c s bytes fin o → CallSays fin end bytes more o (said end h.size c s (bytes ++ more))
read_says limit c s bytes more fin end o h follows g = elim (cases_lt 0 h.size) [
  | inl some ↦
      let size : ℕ = h.size in
      let due_is : due_by s.part (length bytes == 0) ≡ due.Content size = ap (λ (k : Part). due_by k (length bytes == 0)) h.part ∙ some_due size some in
      let content : ContentBy (nat_lt (length bytes) size) c s size bytes o = subst (λ (k : Due). DueGives k limit c s bytes fin o) due_is g in
      let gives : CapsulesGive c s (take size bytes) size (length bytes) o = subst (λ (k : Bool). ContentBy k c s size bytes o) (le-ltb (length bytes) size h.came) content in
      let all : said end size c s (bytes ++ more) ≡ said_from (Some h.place) (take size bytes) (run_to end c.streams s.frames (drop size bytes ++ more)) =
      ap (λ (k : Option Place). said_from k (take size (bytes ++ more)) (run_to end c.streams s.frames (drop size (bytes ++ more)))) h.capsules
      ∙ ap (λ (l : List ℕ). said_from (Some h.place) l (run_to end c.streams s.frames (drop size (bytes ++ more)))) (take-append-le size bytes more h.came)
      ∙ ap (λ (l : List ℕ). said_from (Some h.place) (take size bytes) (run_to end c.streams s.frames l)) (drop-append-le size bytes more h.came) in
      capsules_say fin end c s size h.place bytes more (take size bytes) size o (said end size c s (bytes ++ more)) h.intact h.read h.part h.capsules h.within h.came (front_located size bytes h.came) all gives
  | inr few ↦
      let zero_size : h.size ≡ 0 = omega (arith, few) in
      let is : s.part ≡ part.Session 0 = h.part ∙ ap (λ (n : ℕ). part.Session n) zero_size in
      let due_is : due_by s.part (length bytes == 0) ≡ due.Nothing = ap (λ (k : Part). due_by k (length bytes == 0)) h.part ∙ none_due h.size zero_size in
      let x : GoesOn limit c s bytes fin o = subst (λ (k : Due). DueGives k limit c s bytes fin o) due_is g in
      let all : said end h.size c s (bytes ++ more) ≡ said_from (Some h.place) [] (followed (seen_of x.x bytes) (run_to end x.d x.t (rest_after x.x bytes ++ more))) =
      ap (λ (n : ℕ). said end n c s (bytes ++ more)) zero_size
      ∙ ap (λ (k : Option Place). said_from k [] (run_to end c.streams s.frames (bytes ++ more))) h.capsules
      ∙ ap (λ (z : StreamRun). said_from (Some h.place) [] z) (rest_found fin end x.x c.streams x.d s.frames x.t bytes more follows x.found) in
      found_says x.x limit fin end (with_streams c x.d) (with_frames s x.t) h.place bytes more o (said end h.size c s (bytes ++ more)) h.intact h.read is h.capsules h.within x.found.fits x.found.settled all x.gives
]

none_follow : (fin : Bool) → Follow fin [] fin
none_follow true = (refl, refl)
none_follow false = tt

call_says : (limit : ℕ) (c : Connection) (s : Stream) (bytes more : List ℕ) (fin end : Bool) (o : Outcome) (h : IsOpen c s bytes) → Follow fin more end → Receives limit c s bytes fin o → CallSays fin end bytes more o (said end h.size c s (bytes ++ more))
call_says limit c s bytes more fin end o h follows g =
    read_says limit c s bytes more fin end o h follows (
    subst (λ (k : Unread). StreamGives k limit c s bytes fin o) h.read (
    subst (λ (k : Bool). ReceivesIf k limit c s bytes fin o) h.intact g))

pub call_told : (limit : ℕ) (c : Connection) (s : Stream) (bytes more : List ℕ) (fin end : Bool) (o : Outcome) (h : IsOpen c s bytes) → Follow fin more end → Receives limit c s bytes fin o → Says end (drop o.0 bytes ++ more) (of_session o.1) o (said end h.size c s (bytes ++ more))
call_told limit c s bytes more fin end o h follows g = (call_says limit c s bytes more fin end o h follows g).says

pub call_stays : (limit : ℕ) (c : Connection) (s : Stream) (bytes : List ℕ) (fin : Bool) (o : Outcome) → IsOpen c s bytes → Receives limit c s bytes fin o → IsSession o.3.part → IsOpen o.2 o.3 (drop o.0 bytes)
call_stays limit c s bytes fin o h g i = (call_says limit c s bytes [] fin fin o h (none_follow fin) g).stays i

-- ---- one call after the other

says_then : (k : Part) (end : Bool) (x : List ℕ) (first told : List Told) (o : Outcome) (next all : Said) → all ≡ preceded first next → SaysBy k end x told o next → SaysBy k end x (first ++ told) o all
says_then (part.Session size) end x first told o next all e h =
    e
    ∙ ap (λ (y : Said). preceded first y) h
    ∙ ap (λ (l : List Told). record (said end size o.2 o.3 x) { told = l }) (sym (append_assoc first told (said end size o.2 o.3 x).told))
says_then other end x first told o next all e h = ap (λ (y : Said). y.told) e ∙ ap (λ (l : List Told). first ++ l) h

all_say : (limit : ℕ) (os : List Outcome) (z : Outcome) (c : Connection) (s : Stream) (bytes more : List ℕ) (fin end : Bool) (h : IsOpen c s bytes) → Follow fin more end → SessionReads limit os z c s bytes fin → Says end (left_of os z bytes ++ more) (session_told os z) z (said end h.size c s (bytes ++ more))
all_say limit [] z c s bytes more fin end h follows r = call_told limit c s bytes more fin end z h follows r.0
all_say limit (o ∷ os) z c s bytes more fin end h follows r =
    let one : CallSays fin end bytes more o (said end h.size c s (bytes ++ more)) = call_says limit c s bytes more fin end o h follows r.0 in
    let after : IsOpen o.2 o.3 (drop o.0 bytes) = one.stays r.1 in
    says_then z.3.part end (left_of os z (drop o.0 bytes) ++ more) (of_session o.1) (session_told os z) z
    (said end after.size o.2 o.3 (drop o.0 bytes ++ more)) (said end h.size c s (bytes ++ more))
    (subst (λ (k : Part). SaysBy k end (drop o.0 bytes ++ more) (of_session o.1) o (said end h.size c s (bytes ++ more))) after.part one.says)
    (all_say limit os z o.2 o.3 (drop o.0 bytes) more fin end after follows r.2)

-- the session after them
record LastSays (fin : Bool) (bytes : List ℕ) (z : Outcome) : Type 0 where
  stays : IsSession z.3.part → IsOpen z.2 z.3 bytes
  idle : course_of z.1 ≡ Stops → Rested fin bytes z

last_says : (limit : ℕ) (os : List Outcome) (z : Outcome) (c : Connection) (s : Stream) (bytes : List ℕ) (fin : Bool) → IsOpen c s bytes → SessionReads limit os z c s bytes fin → LastSays fin (left_of os z bytes) z
last_says limit [] z c s bytes fin h r =
    let one : CallSays fin fin bytes [] z (said fin h.size c s (bytes ++ [])) = call_says limit c s bytes [] fin fin z h (none_follow fin) r.0 in
    record { stays = one.stays; idle = one.idle }
last_says limit (o ∷ os) z c s bytes fin h r =
    last_says limit os z o.2 o.3 (drop o.0 bytes) fin ((call_says limit c s bytes [] fin fin o h (none_follow fin) r.0).stays r.1) r.2

all_inside : (limit : ℕ) (os : List Outcome) (z : Outcome) (c : Connection) (s : Stream) (bytes : List ℕ) (fin : Bool) → SessionReads limit os z c s bytes fin → (course_of z.1 ≡ Stops) ⊎ (IsSession z.3.part → ⊥)
all_inside limit [] z c s bytes fin r = r.1
all_inside limit (o ∷ os) z c s bytes fin r = all_inside limit os z o.2 o.3 (drop o.0 bytes) fin r.2

-- an idle session says nothing more
abbrev resting : Outcome → Place → List ℕ → Said
resting z p left = record { told = []; place = Some p; streams = z.2.streams; frames = z.3.frames; left = left }

rested_says : (fin : Bool) (z : Outcome) (bytes : List ℕ) (p : Place) → z.3.capsules ≡ Some p → IsWithin p → Rested fin bytes z → said fin 0 z.2 z.3 bytes ≡ resting z p bytes
rested_says fin z bytes p cap w (is, none) =
    ap (λ (k : Option Place). said_from k [] (run_to fin z.2.streams z.3.frames bytes)) cap
    ∙ ap (λ (x : StreamRun). said_from (Some p) [] x) none
    ∙ ap (λ (x : Run). said_by x (rests_at z.2.streams z.3.frames bytes)) (run_rests p w)

-- what all bytes say is what their calls told
record WholeTold (fin : Bool) (told : List Told) (z : Outcome) (left : List ℕ) (all : Said) : Type 0 where
  told_is : all.told ≡ told
  rest : IsSession z.3.part → (p : Place) × (z.3.capsules ≡ Some p) × (all ≡ record (resting z p left) { told = told })

whole_told : (k : Part) (fin : Bool) (told : List Told) (z : Outcome) (left : List ℕ) (all : Said) → z.3.part ≡ k → LastSays fin left z → (course_of z.1 ≡ Stops) ⊎ (IsSession z.3.part → ⊥) → SaysBy k fin (left ++ []) told z all → WholeTold fin told z left all
whole_told (part.Session size) fin told z left all e last (inr over) h = absurd (over (subst IsSession (sym e) tt))
whole_told (part.Session size) fin told z left all e last (inl st) h =
    let stays : IsOpen z.2 z.3 left = last.stays (subst IsSession (sym e) tt) in
    let rested : Rested fin left z = last.idle st in
    let none : size ≡ 0 = session_size (sym e ∙ rested.0) in
    let now : all ≡ record (resting z stays.place left) { told = told } =
    h
    ∙ ap (λ (l : List ℕ). preceded told (said fin size z.2 z.3 l)) (append-nil left)
    ∙ ap (λ (n : ℕ). preceded told (said fin n z.2 z.3 left)) none
    ∙ ap (λ (y : Said). preceded told y) (rested_says fin z left stays.place stays.capsules stays.within rested)
    ∙ ap (λ (l : List Told). record (resting z stays.place left) { told = l }) (append-nil told) in
    record { told_is = ap (λ (y : Said). y.told) now; rest = λ i. (stays.place, stays.capsules, now) }
  where
    session_size : {m n : ℕ} → part.Session m ≡ part.Session n → m ≡ n
    session_size e = cc e
whole_told other fin told z left all e last st h = record { told_is = h; rest = λ i. absurd (subst IsSession e i) }

all_told : (limit : ℕ) (os : List Outcome) (z : Outcome) (c : Connection) (s : Stream) (bytes : List ℕ) (fin : Bool) (h : IsOpen c s bytes) → SessionReads limit os z c s bytes fin → WholeTold fin (session_told os z) z (left_of os z bytes) (said fin h.size c s bytes)
all_told limit os z c s bytes fin h r =
    subst (λ (l : List ℕ). WholeTold fin (session_told os z) z (left_of os z bytes) (said fin h.size c s l)) (append-nil bytes) (
    whole_told z.3.part fin (session_told os z) z (left_of os z bytes) (said fin h.size c s (bytes ++ [])) refl
    (last_says limit os z c s bytes fin h r) (all_inside limit os z c s bytes fin r)
    (all_say limit os z c s bytes [] fin fin h (none_follow fin) r))

-- ---- the bytes cut elsewhere

abbrev wider : (c : Connection) (s : Stream) (a b : List ℕ) → IsOpen c s a → IsOpen c s (a ++ b)
wider c s a b h = record {
  intact = h.intact;
  read = h.read;
  size = h.size;
  part = h.part;
  came = omega (arith, h.came, length-append a b);
  place = h.place;
  capsules = h.capsules;
  within = h.within;
}

some_injective : {p q : Place} → Some p ≡ Some q → p ≡ q
some_injective e = cc e

pub session_stops : (limit : ℕ) (os fs gs : List Outcome) (z w y : Outcome) (c : Connection) (s : Stream) (a b : List ℕ) (fin : Bool) → IsOpen c s a → SessionReads limit os z c s a false → IsSession z.3.part → SessionReads limit fs w z.2 z.3 (left_of os z a ++ b) fin → SessionReads limit gs y c s (a ++ b) fin → session_told gs y ≡ session_told os z ++ session_told fs w
session_stops limit os fs gs z w y c s a b fin h r i f g =
    let after : IsOpen z.2 z.3 (left_of os z a) = (last_says limit os z c s a false h r).stays i in
    let first : said fin h.size c s (a ++ b) ≡ preceded (session_told os z) (said fin after.size z.2 z.3 (left_of os z a ++ b)) =
    subst (λ (k : Part). SaysBy k fin (left_of os z a ++ b) (session_told os z) z (said fin h.size c s (a ++ b))) after.part (all_say limit os z c s a b false fin h tt r) in
    let next = all_told limit fs w z.2 z.3 (left_of os z a ++ b) fin (wider z.2 z.3 (left_of os z a) b after) f in
    let whole = all_told limit gs y c s (a ++ b) fin (wider c s a b h) g in
    sym whole.told_is
    ∙ ap (λ (x : Said). x.told) first
    ∙ ap (λ (l : List Told). session_told os z ++ l) next.told_is

-- a session that is still open when the calls end has no content that was not read
at_rest : (fin : Bool) (z : Outcome) (left : List ℕ) → IsSession z.3.part → LastSays fin left z → (course_of z.1 ≡ Stops) ⊎ (IsSession z.3.part → ⊥) → z.3.part ≡ part.Session 0
at_rest fin z left i last (inl st) = (last.idle st).0
at_rest fin z left i last (inr over) = absurd (over i)

pub session_alike : (limit : ℕ) (os fs gs : List Outcome) (z w y : Outcome) (c : Connection) (s : Stream) (a b : List ℕ) (fin : Bool) → IsOpen c s a → SessionReads limit os z c s a false → IsSession z.3.part → SessionReads limit fs w z.2 z.3 (left_of os z a ++ b) fin → SessionReads limit gs y c s (a ++ b) fin → IsSession w.3.part → IsSession y.3.part → AreAlike w y (left_of fs w (left_of os z a ++ b)) (left_of gs y (a ++ b))
session_alike limit os fs gs z w y c s a b fin h r i f g wi yi =
    let after : IsOpen z.2 z.3 (left_of os z a) = (last_says limit os z c s a false h r).stays i in
    let first : said fin h.size c s (a ++ b) ≡ preceded (session_told os z) (said fin after.size z.2 z.3 (left_of os z a ++ b)) =
    subst (λ (k : Part). SaysBy k fin (left_of os z a ++ b) (session_told os z) z (said fin h.size c s (a ++ b))) after.part (all_say limit os z c s a b false fin h tt r) in
    let next = (all_told limit fs w z.2 z.3 (left_of os z a ++ b) fin (wider z.2 z.3 (left_of os z a) b after) f).rest wi in
    let whole = (all_told limit gs y c s (a ++ b) fin (wider c s a b h) g).rest yi in
    let same : said fin h.size c s (a ++ b) ≡ preceded (session_told os z) (record (resting w next.0 (left_of fs w (left_of os z a ++ b))) { told = session_told fs w }) =
    first ∙ ap (λ (x : Said). preceded (session_told os z) x) next.2 in
    let inner : w.3.part ≡ part.Session 0 =
    at_rest fin w (left_of fs w (left_of os z a ++ b)) wi
    (last_says limit fs w z.2 z.3 (left_of os z a ++ b) fin (wider z.2 z.3 (left_of os z a) b after) f)
    (all_inside limit fs w z.2 z.3 (left_of os z a ++ b) fin f) in
    let outer : y.3.part ≡ part.Session 0 =
    at_rest fin y (left_of gs y (a ++ b)) yi
    (last_says limit gs y c s (a ++ b) fin (wider c s a b h) g)
    (all_inside limit gs y c s (a ++ b) fin g) in
    let both : record (resting y whole.0 (left_of gs y (a ++ b))) { told = session_told gs y } ≡ preceded (session_told os z) (record (resting w next.0 (left_of fs w (left_of os z a ++ b))) { told = session_told fs w }) =
    sym whole.2 ∙ same in
    record {
      part = inner ∙ sym outer;
      capsules = next.1 ∙ sym (ap (λ (x : Said). x.place) both) ∙ sym whole.1;
      frames = sym (ap (λ (x : Said). x.frames) both);
      streams = sym (ap (λ (x : Said). x.streams) both);
      bytes = sym (ap (λ (x : Said). x.left) both);
    }

pub session_ends : (limit : ℕ) (os gs : List Outcome) (z y : Outcome) (c : Connection) (s : Stream) (a b : List ℕ) (fin : Bool) → IsOpen c s a → SessionReads limit os z c s a false → (IsSession z.3.part → ⊥) → SessionReads limit gs y c s (a ++ b) fin → session_told gs y ≡ session_told os z
session_ends limit os gs z y c s a b fin h r over g =
    let whole = all_told limit gs y c s (a ++ b) fin (wider c s a b h) g in
    sym whole.told_is ∙ ended_told z.3.part over (all_say limit os z c s a b false fin h tt r)
  where
    ended_told : (k : Part) → (IsSession k → ⊥) → SaysBy k fin (left_of os z a ++ b) (session_told os z) z (said fin h.size c s (a ++ b)) → (said fin h.size c s (a ++ b)).told ≡ session_told os z
    ended_told (part.Session size) n x = absurd (n tt)
    ended_told other n x = x
