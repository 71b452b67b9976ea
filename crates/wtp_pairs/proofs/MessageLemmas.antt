-- Messages, as the other end receives them: their field sections.
use Rattle.std.proofs.Common.{◌≡◌, ℕ, ◌-◌, ◌==◌, ◌<◌, ◌≤◌, nat_le, nat_lt, Bool, true, false, List, [], ◌∷◌, ◌++◌, length, take, drop, Option, Some, None, Ok, refl, sym, ap, subst, ◌∙◌, arith, append_assoc, length-append}
use Rattle.std.proofs.lemmas.Bool.{le-ltb, lt-ltb}
use Rattle.std.proofs.Math.Seq.{take-append_seam, drop-append_seam}
use Rattle.wtp_core.specs.Varint.{shortest}
use Rattle.std.proofs.lemmas.Bool.Decides.{nat_tests}
use Rattle.wtp_qpack.specs.Field.{Field}
use Rattle.wtp_frames.specs.declared.endpoint.Endpoint.{Endpoint}
use Rattle.wtp_frames.specs.declared.frame_type.FrameType.TheVariants as kind
use Rattle.wtp_frames.specs.declared.reader.Reader.{Reader}
use Rattle.wtp_frames.specs.Item.{Whole}
use Rattle.wtp_frames.specs.Reading.{slice}
use Rattle.wtp_frames.specs.Run.{Run, stays}
use Rattle.wtp_frames.specs.First.{first}
use Rattle.wtp_connection.specs.declared.connection.Connection.{Connection as Streams}
use Rattle.wtp_connection.specs.declared.stream.Stream.{Stream as Frames}
use Rattle.wtp_connection.specs.declared.stream.Stream.TheVariants as frames
use Rattle.wtp_connection.specs.Streams.{Gave, StreamRun, rests, followed, of_frames}
use Rattle.wtp_connection.specs.First.{first_seen}
use Rattle.wtp_messages.specs.declared.message.Message.{Message}
use Rattle.wtp_messages.specs.declared.message.Role.{Role}
use Rattle.wtp_messages.specs.declared.message.Role.TheVariants as role
use Rattle.wtp_messages.specs.declared.message.Section.{Section}
use Rattle.wtp_messages.specs.declared.message.Section.TheVariants as found
use Rattle.wtp_messages.specs.declared.message.Stage.{Stage}
use Rattle.wtp_messages.specs.declared.message.Stage.TheVariants as stage
use Rattle.wtp_messages.specs.declared.request.Request.{Request}
use Rattle.wtp_messages.specs.declared.response.Asked.{Asked}
use Rattle.wtp_messages.specs.declared.response.Response.{Response}
use Rattle.wtp_messages.specs.Content.{fits, left_after}
use Rattle.wtp_messages.specs.Message.{RequestComes, ResponseComes, TrailersCome, HeadComes, SectionComes}
use Rattle.wtp_messages.specs.Response.{status_of}
use Rattle.wtp_sending.specs.declared.message.Place.{Place}
use Rattle.wtp_sending.specs.declared.message.Sending.{Sending}
use Rattle.wtp_sending.specs.declared.peer.Peer.{Peer}
use Rattle.wtp_sending.specs.Encoded.{section_wire, SendsHeadAs}
use Rattle.wtp_sending.specs.Message.{IsAllowed, interims_of}
use Rattle.wtp_webtransport.specs.declared.connection.Connection.{Connection}
use Rattle.wtp_webtransport.specs.declared.stream.Stream.{Stream}
use Rattle.wtp_webtransport.specs.declared.stream.Part.{Part}
use Rattle.wtp_webtransport.specs.declared.stream.Part.TheVariants as part
use Rattle.wtp_webtransport.specs.declared.stream.Unread.TheVariants as unread
use Rattle.wtp_webtransport.specs.Calls.{Course, Continues, Repeats, course_of, HasMemory}
use Rattle.wtp_webtransport.specs.declared.event.Waits.TheVariants as wait
use Rattle.wtp_webtransport.specs.Events.{More, NoMemory, Told, Waits}
use Rattle.wtp_webtransport.specs.Streams.{with_frames, due_by}
use Rattle.wtp_webtransport.specs.declared.stream.Unread.{Unread}
use Rattle.wtp_webtransport.specs.Receiving.{Outcome, Receives, ReceivesIf, UnreadBy, SectionBy, DecodedGives, ReadGives, span_in, takes, taken_of, told_more}
use Rattle.wtp_webtransport.proofs.CallLemmas.{goes_of}
use Rattle.wtp_pairs.specs.Reads.{IsGoing}
use Rattle.wtp_pairs.specs.Encoded.{noted_in, IsReadable, IsAhead, IsEncodedRead, waiting_at}
use Rattle.wtp_pairs.specs.Messages.{IsBehind, IsBeforeHead, AgreesAt, IsFor, Agrees, IsUnread}
use Rattle.wtp_pairs.proofs.CallLemmas.{Finds, found_some, found_none, frames_seen, before}
use Rattle.wtp_pairs.proofs.ReaderLemmas.{headers_wire_is}
use Rattle.wtp_pairs.proofs.SectionLemmas.{Comes, Reads, Lacking, told_as, told_in, section_comes, section_early, section_taken}

-- ---- a call that finds a field section

abbrev given_run : Streams → List ℕ → Reader → List ℕ → StreamRun
given_run c payload r more = followed (Gave (Whole kind.Headers payload) ∷ []) (rests c (frames.Frames r true) more)

abbrev whole_run : List ℕ → Reader → List ℕ → Run
whole_run payload r more = record { items = Whole kind.Headers payload ∷ []; reader = r; left = more }

section_seen : (c : Streams) (f : Frames) (payload more bytes : List ℕ) (r next : Reader) (given : Bool) → c.over ≡ false → f ≡ frames.Frames r given → first r bytes ≡ whole_run payload next more → first_seen c f bytes ≡ given_run c payload next more
section_seen c f payload more bytes r next given over is e = frames_seen c f r given bytes over is ∙ ap (λ (x : Run). of_frames c given x) e

given_payload : (a b : List ℕ) → Gave (Whole kind.Headers a) ∷ [] ≡ Gave (Whole kind.Headers b) ∷ [] → a ≡ b
given_payload a b e = cc

-- where the section is in the bytes
abbrev pub starts_at : List ℕ → List ℕ → List ℕ → ℕ
starts_at sent more payload = (length (sent ++ more) - length more) - length payload

abbrev pub ends_at : List ℕ → List ℕ → ℕ
ends_at sent more = length (sent ++ more) - length more

-- the message of the stream, before its head or after it
pub data HasMessage (m : Message) (p : Part) : Type 0 where
  BeforeIt : p ≡ part.Head m → HasMessage m p
  AfterIt : p ≡ part.Body m → HasMessage m p

none_due : (m : Message) (p : Part) (empty : Bool) (limit : ℕ) (c : Connection) (t : Stream) (bytes : List ℕ) (fin : Bool) (o : Outcome) → HasMessage m p → due_by p empty ≡ due_by part.NoMessage empty
none_due m p empty limit c t bytes fin o (BeforeIt is) = ap (λ (x : Part). due_by x empty) is
none_due m p empty limit c t bytes fin o (AfterIt is) = ap (λ (x : Part). due_by x empty) is

decoded_by : (m : Message) (p : Part) (limit : ℕ) (c : Connection) (t : Stream) (start end : ℕ) (bytes : List ℕ) (o : Outcome) → HasMessage m p → SectionBy p limit c t start end bytes o → DecodedGives limit c t m (span_in start end bytes) bytes o
decoded_by m p limit c t start end bytes o (BeforeIt is) h = subst (λ (x : Part). SectionBy x limit c t start end bytes o) is h
decoded_by m p limit c t start end bytes o (AfterIt is) h = subst (λ (x : Part). SectionBy x limit c t start end bytes o) is h

-- the section is in the bytes, and this is what comes of it
record IsFound (limit : ℕ) (c : Connection) (s : Stream) (m : Message) (section sent more : List ℕ) (o : Outcome) : Type 0 where
  same : slice (starts_at sent more section) (ends_at sent more) (sent ++ more) ≡ section
  gives : DecodedGives limit c s m (span_in (starts_at sent more section) (ends_at sent more) (sent ++ more)) (sent ++ more) o

section_found : (limit : ℕ) (c : Connection) (t : Stream) (r next : Reader) (given : Bool) (m : Message) (section sent more : List ℕ) (fin : Bool) (o : Outcome) → IsGoing c → t.unread ≡ unread.Nothing → t.frames ≡ frames.Frames r given → HasMessage m t.part → first r (sent ++ more) ≡ whole_run section next more → Receives limit c t (sent ++ more) fin o
    → IsFound limit c (with_frames t (frames.Frames next true)) m section sent more o
section_found limit c t r next given m section sent more fin o going read is has at h =
    let g : Finds limit c t (sent ++ more) (given_run c.streams section next more) o =
    found_some limit c t (sent ++ more) fin (given_run c.streams section next more) o
    (goes_of limit c t (sent ++ more) fin o h going.events read (none_due m t.part (length (sent ++ more) == 0) limit c t (sent ++ more) fin o has))
    (section_seen c.streams t.frames section more (sent ++ more) r next given going.streams is at) refl in
    record {
      same = given_payload _ section g.seen;
      gives = decoded_by m t.part limit c (with_frames t (frames.Frames next true)) (starts_at sent more section) (ends_at sent more) (sent ++ more) o has g.gives;
    }

section_call : (limit : ℕ) (e : Endpoint) (c : Connection) (t : Stream) (r next : Reader) (given : Bool) (m : Message) (section : List ℕ) (fields : List Field) (need : Option ℕ) (sent more : List ℕ) (fin : Bool) (o : Outcome) → IsGoing c → IsReadable e limit c section fields need → t.unread ≡ unread.Nothing → t.frames ≡ frames.Frames r given → HasMessage m t.part → first r (sent ++ more) ≡ whole_run section next more → Receives limit c t (sent ++ more) fin o
    → Comes need c (with_frames t (frames.Frames next true)) m fields (starts_at sent more section) (ends_at sent more) (sent ++ more) o
section_call limit e c t r next given m section fields need sent more fin o going within read is has at h =
    let found_it = section_found limit c t r next given m section sent more fin o going read is has at h in
    section_comes limit c (with_frames t (frames.Frames next true)) m (starts_at sent more section) (ends_at sent more) (sent ++ more) section fields need o within.has found_it.same found_it.gives

-- before all of its bytes came
pub section_waits : (limit : ℕ) (c : Connection) (t : Stream) (r : Reader) (given : Bool) (m : Message) (a : List ℕ) (o : Outcome) → IsGoing c → t.unread ≡ unread.Nothing → t.frames ≡ frames.Frames r given → HasMessage m t.part → first r a ≡ stays r a → Receives limit c t a false o → o ≡ (0, More, c, t)
section_waits limit c t r given m a o going read is has e h =
    found_none limit c t a o (goes_of limit c t a false o h going.events read (none_due m t.part (length a == 0) limit c t a false o has))
    (frames_seen c.streams t.frames r given a going.streams is ∙ ap (λ (x : Run). of_frames c.streams given x) e ∙ ap (λ (f : Frames). rests c.streams f a) (sym is))
    ∙ ap (λ (f : Frames). (0, told_more f, c, t)) is

-- ---- a section that was not decoded

abbrev unread_stream : Stream → ℕ → Stream
unread_stream s size = record s { unread = unread.Section size }

abbrev read_stream : Stream → Stream
read_stream s = record s { unread = unread.Nothing }

unread_call : (limit size : ℕ) (c : Connection) (s : Stream) (bytes : List ℕ) (fin : Bool) (o : Outcome) → c.over ≡ false → Receives limit c (unread_stream s size) bytes fin o → UnreadBy (nat_lt (length bytes) size) limit c (unread_stream s size) size bytes o
unread_call limit size c s bytes fin o over h = subst (λ (b : Bool). ReceivesIf b limit c (unread_stream s size) bytes fin o) over h

early_call : (limit size required : ℕ) (c : Connection) (s : Stream) (bytes : List ℕ) (fin : Bool) (o : Outcome) → c.over ≡ false → Receives limit c (waiting_at s size required) bytes fin o → UnreadBy (nat_lt (length bytes) size) limit c (waiting_at s size required) size bytes o
early_call limit size required c s bytes fin o over h = subst (λ (b : Bool). ReceivesIf b limit c (waiting_at s size required) bytes fin o) over h

rest_comes : (limit : ℕ) (e : Endpoint) (c : Connection) (s : Stream) (m : Message) (section : List ℕ) (fields : List Field) (need : Option ℕ) (more : List ℕ) (o : Outcome) → IsReadable e limit c section fields need → HasMessage m s.part → SectionBy s.part limit c (read_stream s) 0 (length section) (section ++ more) o → Comes need c (read_stream s) m fields 0 (length section) (section ++ more) o
rest_comes limit e c s m section fields need more o within has g =
    let size = length section in
    let same : slice 0 size (section ++ more) ≡ section = ap (λ (n : ℕ). take n (section ++ more)) (minus_zero size) ∙ take-append_seam section more in
    section_comes limit c (read_stream s) m 0 size (section ++ more) section fields need o within.has same (decoded_by m s.part limit c (read_stream s) 0 size (section ++ more) o has g)
  where
    minus_zero : (n : ℕ) → n - 0 ≡ n
    minus_zero n = omega arith

all_there : (section more : List ℕ) → nat_lt (length (section ++ more)) (length section) ≡ false
all_there section more = le-ltb (length (section ++ more)) (length section) (omega (arith, length-append section more))

unread_comes : (limit : ℕ) (e : Endpoint) (c : Connection) (s : Stream) (m : Message) (section : List ℕ) (fields : List Field) (need : Option ℕ) (more : List ℕ) (fin : Bool) (o : Outcome) → IsGoing c → IsReadable e limit c section fields need → HasMessage m s.part → Receives limit c (unread_stream s (length section)) (section ++ more) fin o → Comes need c (read_stream s) m fields 0 (length section) (section ++ more) o
unread_comes limit e c s m section fields need more fin o going within has h =
    rest_comes limit e c s m section fields need more o within has
    (subst (λ (b : Bool). UnreadBy b limit c (unread_stream s (length section)) (length section) (section ++ more) o) (all_there section more) (unread_call limit (length section) c s (section ++ more) fin o going.events h))

early_comes : (limit : ℕ) (e : Endpoint) (c : Connection) (s : Stream) (m : Message) (section : List ℕ) (fields : List Field) (need : Option ℕ) (required : ℕ) (more : List ℕ) (fin : Bool) (o : Outcome) → IsGoing c → IsReadable e limit c section fields need → HasMessage m s.part → Receives limit c (waiting_at s (length section) required) (section ++ more) fin o → Comes need c (read_stream s) m fields 0 (length section) (section ++ more) o
early_comes limit e c s m section fields need required more fin o going within has h =
    rest_comes limit e c s m section fields need more o within has
    (subst (λ (b : Bool). UnreadBy b limit c (waiting_at s (length section) required) (length section) (section ++ more) o) (all_there section more) (early_call limit (length section) required c s (section ++ more) fin o going.events h))

unread_waits : (limit size : ℕ) (c : Connection) (s : Stream) (a : List ℕ) (fin : Bool) (o : Outcome) → c.over ≡ false → length a < size → Receives limit c (unread_stream s size) a fin o → o ≡ (0, More, c, unread_stream s size)
unread_waits limit size c s a fin o over few h = subst (λ (b : Bool). UnreadBy b limit c (unread_stream s size) size a o) (lt-ltb (length a) size few) (unread_call limit size c s a fin o over h)

-- ---- all of it

-- what is taken is this event, which goes on
record Gives (c : Connection) (s : Stream) (new : Message) (fields : List Field) (y : Section) (told : Told) (u : Stream) : Type 0 where
  goes : course_of told ≡ Continues
  is : (start end : ℕ) (bytes : List ℕ) → takes c s new fields (span_in start end bytes) (taken_of (Ok y)) ≡ (end, told, c, u)

read_gives : (need : Option ℕ) (c : Connection) (s : Stream) (m new : Message) (fields : List Field) (y : Section) (told : Told) (u : Stream) (start end : ℕ) (bytes : List ℕ) (o p : Outcome) → SectionComes m.stage m fields (Ok y) new → Gives c s new fields y told u → ReadGives c s m fields (span_in start end bytes) p → o ≡ told_as need p → o ≡ (end, told, noted_in need c, u)
read_gives need c s m new fields y told u start end bytes o p comes g h is =
    is
    ∙ ap (told_as need) (section_taken c s m new start end bytes fields y p comes h ∙ g.is start end bytes)
    ∙ told_in need end told c u g.goes

-- the event is one with memory
told_has : (o : Outcome) (n : ℕ) (told : Told) (c : Connection) (u : Stream) → course_of told ≡ Continues → o ≡ (n, told, c, u) → HasMemory o
told_has o n told c u goes is = λ r. no (course_of told) goes (ap (λ (x : Outcome). course_of x.1) (sym is) ∙ r)
  where
    no : (x : Course) → x ≡ Continues → x ≡ Repeats → ⊥
    no x a b = cc

lacks_has : (o : Outcome) (n : ℕ) (c : Connection) (u : Stream) → o ≡ (n, NoMemory, c, u) → HasMemory o → ⊥
lacks_has o n c u is h = h (ap (λ (x : Outcome). course_of x.1) is)

-- the payload is at the end of the frame
tail_is : (q p sent : List ℕ) → sent ≡ q ++ p → drop (length sent - length p) sent ≡ p
tail_is q p sent is =
    let size : length sent - length p ≡ length q = omega (arith, ap length is, length-append q p) in
    ap (λ (n : ℕ). drop n sent) size ∙ ap (λ (l : List ℕ). drop (length q) l) is ∙ drop-append_seam q p

tail_small : (q p sent : List ℕ) → sent ≡ q ++ p → length p ≤ length sent
tail_small q p sent is = omega (arith, ap length is, length-append q p)

wire_parts : (section : List ℕ) → section_wire section ≡ (shortest 1 ++ shortest (length section)) ++ section
wire_parts section = headers_wire_is section ∙ sym (append_assoc (shortest 1) (shortest (length section)) section)

abbrev pre_of : List ℕ → ℕ
pre_of section = length (section_wire section) - length section

unread_is : (limit : ℕ) (e : Endpoint) (c : Connection) (s : Stream) (m new : Message) (section : List ℕ) (fields : List Field) (need : Option ℕ) (y : Section) (told : Told) (u : Stream) → IsGoing c → IsReadable e limit c section fields need → s.unread ≡ unread.Nothing → HasMessage m s.part → SectionComes m.stage m fields (Ok y) new → Gives c s new fields y told u → IsUnread limit c (section_wire section) told (noted_in need c) u (pre_of section, NoMemory, c, unread_stream s (length section))
unread_is limit e c s m new section fields need y told u going within read has comes g =
    let size = length section in
    let tail = tail_is (shortest 1 ++ shortest size) section (section_wire section) (wire_parts section) in
    let small = tail_small (shortest 1 ++ shortest size) section (section_wire section) (wire_parts section) in
    let left : length (section_wire section) - pre_of section ≡ size = omega (arith, small) in
    let same : s ≡ read_stream s = ap (λ (x : Unread). record s { unread = x }) read in
    let gives : Gives c (read_stream s) new fields y told u = subst (λ (x : Stream). Gives c x new fields y told u) same g in
    record {
      event = refl;
      connection = refl;
      within = omega (arith, small);
      again = λ more fin p h memory.
          again_by (section_wire section) size left gives more p
          (unread_comes limit e c s m section fields need more fin p going within has (subst (λ (l : List ℕ). Receives limit c (unread_stream s size) (l ++ more) fin p) tail h)) memory;
      still = λ more fin p h lacks.
          still_by gives more p
          (unread_comes limit e c s m section fields need more fin p going within has (subst (λ (l : List ℕ). Receives limit c (unread_stream s size) (l ++ more) fin p) tail h)) lacks;
      part = λ a b fin p parts some h. unread_waits limit size c s a fin p going.events (omega (arith, some, ap length (parts ∙ tail), length-append a b)) h;
    }
  where
    again_by : (sent : List ℕ) (size : ℕ) → length sent - pre_of section ≡ size → Gives c (read_stream s) new fields y told u → (more : List ℕ) (p : Outcome) → Comes need c (read_stream s) m fields 0 (length section) (section ++ more) p → HasMemory p → p ≡ (length (section_wire section) - pre_of section, told, noted_in need c, u)
    again_by sent size left gives more p (Reads q r is) memory =
        read_gives need c (read_stream s) m new fields y told u 0 (length section) (section ++ more) p q comes gives r is
        ∙ ap (λ (n : ℕ). (n, told, noted_in need c, u)) (sym (omega (arith, tail_small (shortest 1 ++ shortest (length section)) section (section_wire section) (wire_parts section))))
    again_by sent size left gives more p (Lacking is) memory = absurd (lacks_has p 0 c (record (read_stream s) { unread = unread.Section (length section - 0) }) is memory)

    still_by : Gives c (read_stream s) new fields y told u → (more : List ℕ) (p : Outcome) → Comes need c (read_stream s) m fields 0 (length section) (section ++ more) p → (HasMemory p → ⊥) → p ≡ (0, NoMemory, c, unread_stream s (length section))
    still_by gives more p (Reads q r is) lacks =
        absurd (lacks (told_has p (length section) told (noted_in need c) u g.goes (read_gives need c (read_stream s) m new fields y told u 0 (length section) (section ++ more) p q comes gives r is)))
    still_by gives more p (Lacking is) lacks = is ∙ ap (λ (n : ℕ). (0, NoMemory, c, unread_stream s n)) (omega arith)

pub section_reads : (limit : ℕ) (e : Endpoint) (c : Connection) (t : Stream) (r next : Reader) (given : Bool) (m new : Message) (y : Section) (section : List ℕ) (fields : List Field) (need : Option ℕ) (told : Told) (u : Stream) → IsGoing c → IsReadable e limit c section fields need → t.unread ≡ unread.Nothing → t.frames ≡ frames.Frames r given → HasMessage m t.part → ((more : List ℕ) → first r (section_wire section ++ more) ≡ whole_run section next more) → ((a b : List ℕ) → a ++ b ≡ section_wire section → 0 < length b → first r a ≡ stays r a) → SectionComes m.stage m fields (Ok y) new → course_of told ≡ Continues
    → ((start end : ℕ) (bytes : List ℕ) → takes c (with_frames t (frames.Frames next true)) new fields (span_in start end bytes) (taken_of (Ok y)) ≡ (end, told, c, u))
    → IsEncodedRead e limit c t section told (noted_in need c) u
section_reads limit e c t r next given m new y section fields need told u going within read is has at waits comes continues gives =
    let s : Stream = with_frames t (frames.Frames next true) in
    let g : Gives c s new fields y told u = record { goes = continues; is = gives } in
    let same : s ≡ read_stream s = ap (λ (x : Unread). record s { unread = x }) read in
    record {
      read = record {
        whole = λ more fin o h memory. whole_by g more o (section_call limit e c t r next given m section fields need (section_wire section) more fin o going within read is has (at more) h) memory;
        lacking = λ more fin o h lacks. lacking_by g more o (section_call limit e c t r next given m section fields need (section_wire section) more fin o going within read is has (at more) h) lacks;
        part = λ a b o parts some h. section_waits limit c t r given m a o going read is has (waits a b parts some) h;
      };
      held = s;
      waits = λ before required more fin o goes ahead h. waits_by before required more o ahead (section_found limit before t r next given m section (section_wire section) more fin o goes read is has (at more) h);
      resumed = λ required more fin o h memory. resumed_by (subst (λ (x : Stream). Gives c x new fields y told u) same g) more o (early_comes limit e c s m section fields need required more fin o going within has h) memory;
    }
  where
    waits_by : (before : Connection) (required : ℕ) (more : List ℕ) (o : Outcome) → IsAhead e before section required → IsFound limit before (with_frames t (frames.Frames next true)) m section (section_wire section) more o
        → o ≡ (length (section_wire section) - length section, Waits (wait.Table required), before, waiting_at (with_frames t (frames.Frames next true)) (length section) required)
    waits_by before required more o ahead found_it =
        let small = tail_small (shortest 1 ++ shortest (length section)) section (section_wire section) (wire_parts section) in
        let start : starts_at (section_wire section) more section ≡ length (section_wire section) - length section = omega (arith, length-append (section_wire section) more) in
        let size : ends_at (section_wire section) more - starts_at (section_wire section) more section ≡ length section = omega (arith, small, length-append (section_wire section) more) in
        section_early limit e before (with_frames t (frames.Frames next true)) m (starts_at (section_wire section) more section) (ends_at (section_wire section) more) (section_wire section ++ more) section required o ahead found_it.same found_it.gives
        ∙ ap (λ (n : ℕ). (n, Waits (wait.Table required), before, waiting_at (with_frames t (frames.Frames next true)) (ends_at (section_wire section) more - starts_at (section_wire section) more section) required)) start
        ∙ ap (λ (n : ℕ). (length (section_wire section) - length section, Waits (wait.Table required), before, waiting_at (with_frames t (frames.Frames next true)) n required)) size

    resumed_by : Gives c (read_stream (with_frames t (frames.Frames next true))) new fields y told u → (more : List ℕ) (o : Outcome) → Comes need c (read_stream (with_frames t (frames.Frames next true))) m fields 0 (length section) (section ++ more) o → HasMemory o → o ≡ (length section, told, noted_in need c, u)
    resumed_by g more o (Reads q x is) memory = read_gives need c (read_stream (with_frames t (frames.Frames next true))) m new fields y told u 0 (length section) (section ++ more) o q comes g x is
    resumed_by g more o (Lacking x) memory = absurd (lacks_has o 0 c _ x memory)

    whole_by : Gives c (with_frames t (frames.Frames next true)) new fields y told u → (more : List ℕ) (o : Outcome) → Comes need c (with_frames t (frames.Frames next true)) m fields (starts_at (section_wire section) more section) (ends_at (section_wire section) more) (section_wire section ++ more) o → HasMemory o → o ≡ (length (section_wire section), told, noted_in need c, u)
    whole_by g more o (Reads q x is) memory =
        read_gives need c (with_frames t (frames.Frames next true)) m new fields y told u (starts_at (section_wire section) more section) (ends_at (section_wire section) more) (section_wire section ++ more) o q comes g x is
        ∙ ap (λ (n : ℕ). (n, told, noted_in need c, u)) (before (section_wire section) more)
    whole_by g more o (Lacking x) memory = absurd (lacks_has o (starts_at (section_wire section) more section) c _ x memory)

    lacking_by : Gives c (with_frames t (frames.Frames next true)) new fields y told u → (more : List ℕ) (o : Outcome) → Comes need c (with_frames t (frames.Frames next true)) m fields (starts_at (section_wire section) more section) (ends_at (section_wire section) more) (section_wire section ++ more) o → (HasMemory o → ⊥) → IsUnread limit c (section_wire section) told (noted_in need c) u o
    lacking_by g more o (Reads q x is) lacks =
        absurd (lacks (told_has o (ends_at (section_wire section) more) told (noted_in need c) u continues (read_gives need c (with_frames t (frames.Frames next true)) m new fields y told u (starts_at (section_wire section) more section) (ends_at (section_wire section) more) (section_wire section ++ more) o q comes g x is)))
    lacking_by g more o (Lacking x) lacks =
        let small = tail_small (shortest 1 ++ shortest (length section)) section (section_wire section) (wire_parts section) in
        let start : starts_at (section_wire section) more section ≡ pre_of section = omega (arith, length-append (section_wire section) more) in
        let size : ends_at (section_wire section) more - starts_at (section_wire section) more section ≡ length section = omega (arith, small, length-append (section_wire section) more) in
        let eq : o ≡ (pre_of section, NoMemory, c, unread_stream (with_frames t (frames.Frames next true)) (length section)) =
        x
        ∙ ap (λ (n : ℕ). (n, NoMemory, c, unread_stream (with_frames t (frames.Frames next true)) (ends_at (section_wire section) more - starts_at (section_wire section) more section))) start
        ∙ ap (λ (n : ℕ). (pre_of section, NoMemory, c, unread_stream (with_frames t (frames.Frames next true)) n)) size in
        subst (λ (w : Outcome). IsUnread limit c (section_wire section) told (noted_in need c) u w) (sym eq) (unread_is limit e c (with_frames t (frames.Frames next true)) m new section fields need y told u going within read has comes g)

-- ---- agreement

le_zero : (l : ℕ) → nat_le 0 l ≡ true
le_zero l = grind (arith, nat_tests)

zero_fits : (left : Option ℕ) → fits left 0 ≡ true
zero_fits None = refl
zero_fits (Some l) = le_zero l

zero_left : (left : Option ℕ) → left_after left 0 ≡ left
zero_left None = refl
zero_left (Some l) = ap (λ (n : ℕ). Some n) (omega arith)

-- nothing is still to come
pub level : (m : Message) → IsBehind m 0 m
level m = (zero_fits m.content.left, ap (λ (l : Option ℕ). record m { content = record { left = l } }) (zero_left m.content.left))

pub same_message : (m n : Message) → IsBehind m 0 n → m ≡ n
same_message m n h = sym ((level m).1) ∙ h.1

pub agrees_at : (e : Endpoint) (new : Sending) (u : Stream) (place : Place) (owed : ℕ) (m : Message) → new.message.role ≡ new.role → new.place ≡ place → new.owed ≡ owed → new.message ≡ m → u.unread ≡ unread.Nothing → IsFor new.role u.asked → AgreesAt e place owed m u → Agrees e new u
agrees_at e new u place owed m own p o is read for at = record {
  own = own;
  read = read;
  asked = for;
  at = subst (λ (x : Message). AgreesAt e new.place new.owed x u) (sym is) (
      subst (λ (n : ℕ). AgreesAt e new.place n m u) (sym o) (
      subst (λ (q : Place). AgreesAt e q owed m u) (sym p) at));
}

-- before its head
pub at_head : (e : Endpoint) (old : Sending) (section : List ℕ) (fields : List Field) (new : Sending) (t : Stream) → Agrees e old t → SendsHeadAs section old fields new → IsBeforeHead e (interims_of old.place) old.message t × (old.owed ≡ 0)
at_head e old section fields new t a h = subst (λ (p : Place). AgreesAt e p old.owed old.message t) h.at a.at

-- ---- what the head is

-- the role of a message stays
head_role : (r : Role) (m n : Message) (fields : List Field) (y : Section) → HeadComes r m fields (Ok y) n → n.role ≡ m.role
head_role (role.Request extended) m n fields (found.Request q) h = ap (λ (x : Message). x.role) h.1
head_role (role.Request extended) m n fields (found.Interim q) h = absurd h
head_role (role.Request extended) m n fields (found.Response q) h = absurd h
head_role (role.Request extended) m n fields found.Trailers h = absurd h
head_role (role.Response a) m n fields (found.Request q) h = absurd h
head_role (role.Response a) m n fields (found.Interim q) h = ap (λ (x : Message). x.role) h.2
head_role (role.Response a) m n fields (found.Response q) h = ap (λ (x : Message). x.role) h.2
head_role (role.Response a) m n fields found.Trailers h = absurd h

trailers_role : (m n : Message) (fields : List Field) (y : Section) → TrailersCome m fields (Ok y) n → n.role ≡ m.role
trailers_role m n fields (found.Request q) h = absurd h
trailers_role m n fields (found.Interim q) h = absurd h
trailers_role m n fields (found.Response q) h = absurd h
trailers_role m n fields found.Trailers h = ap (λ (x : Message). x.role) h.1

pub section_role : (st : Stage) (m n : Message) (fields : List Field) (y : Section) → SectionComes st m fields (Ok y) n → n.role ≡ m.role
section_role stage.Head m n fields y h = head_role m.role m n fields y h
section_role stage.Body m n fields y h = trailers_role m n fields y h
section_role stage.End m n fields y h = trailers_role m n fields y h

no_trailers : {A : Type 0} (m n : Message) (fields : List Field) (y : Section) (peer : Peer) (k : ℕ) → TrailersCome m fields (Ok y) n → IsAllowed peer k fields y → A
no_trailers m n fields (found.Request q) peer k h a = absurd h
no_trailers m n fields (found.Interim q) peer k h a = absurd h
no_trailers m n fields (found.Response q) peer k h a = absurd h
no_trailers m n fields found.Trailers peer k h a = absurd a

-- the head of a request
abbrev pub IsRequest : Section → Type 0
IsRequest y = (q : Request) × (y ≡ found.Request q)

request_head : (extended : Bool) (m n : Message) (fields : List Field) (y : Section) → RequestComes extended m fields (Ok y) n → IsRequest y
request_head extended m n fields (found.Request q) h = (q, refl)
request_head extended m n fields (found.Interim q) h = absurd h
request_head extended m n fields (found.Response q) h = absurd h
request_head extended m n fields found.Trailers h = absurd h

pub request_found : (st : Stage) (extended : Bool) (m n : Message) (fields : List Field) (y : Section) (peer : Peer) (k : ℕ) → m.role ≡ role.Request extended → SectionComes st m fields (Ok y) n → IsAllowed peer k fields y → IsRequest y
request_found stage.Head extended m n fields y peer k is h a = request_head extended m n fields y (subst (λ (r : Role). HeadComes r m fields (Ok y) n) is h)
request_found stage.Body extended m n fields y peer k is h a = no_trailers m n fields y peer k h a
request_found stage.End extended m n fields y peer k is h a = no_trailers m n fields y peer k h a

-- the head of a response with this status: it is interim, or final
pub data IsAnswer (status : ℕ) (m n : Message) (y : Section) : Type 0 where
  Early : (r : Response) → y ≡ found.Interim r → r.status ≡ status → n ≡ m → IsAnswer status m n y
  Final : (r : Response) → y ≡ found.Response r → r.status ≡ status → IsAnswer status m n y

status_is : (a b : ℕ) (o : Option ℕ) → o ≡ Some a → o ≡ Some b → a ≡ b
status_is a b o e f = cc

response_head : (a : Asked) (m n : Message) (fields : List Field) (y : Section) (status : ℕ) → status_of fields ≡ Some status → ResponseComes a m fields (Ok y) n → IsAnswer status m n y
response_head a m n fields (found.Request q) status s h = absurd h
response_head a m n fields (found.Interim q) status s h = Early q refl (status_is q.status status (status_of fields) h.0.status s) h.2
response_head a m n fields (found.Response q) status s h = Final q refl (status_is q.status status (status_of fields) h.0.status s)
response_head a m n fields found.Trailers status s h = absurd h

pub response_comes : (st : Stage) (a : Asked) (m n : Message) (fields : List Field) (y : Section) (peer : Peer) (k status : ℕ) → m.role ≡ role.Response a → status_of fields ≡ Some status → SectionComes st m fields (Ok y) n → IsAllowed peer k fields y → IsAnswer status m n y
response_comes stage.Head a m n fields y peer k status is s h w = response_head a m n fields y status s (subst (λ (r : Role). HeadComes r m fields (Ok y) n) is h)
response_comes stage.Body a m n fields y peer k status is s h w = no_trailers m n fields y peer k h w
response_comes stage.End a m n fields y peer k status is s h w = no_trailers m n fields y peer k h w

-- ---- agreement after a head

-- the sender after it
record Goes (old new : Sending) : Type 0 where
  own : new.message.role ≡ new.role
  role : new.role ≡ old.role
  owed : new.owed ≡ old.owed

goes : (e : Endpoint) (old new : Sending) (section : List ℕ) (fields : List Field) (t : Stream) → Agrees e old t → SendsHeadAs section old fields new → Goes old new
goes e old new section fields t a h =
    let role_is : new.role ≡ old.role = ap (λ (s : Sending). s.role) h.others in
    record {
      own = section_role old.message.stage old.message new.message fields h.head.found h.head.comes ∙ a.own ∙ sym role_is;
      role = role_is;
      owed = ap (λ (s : Sending). s.owed) h.others;
    }

pub head_agrees : (e : Endpoint) (old new : Sending) (section : List ℕ) (fields : List Field) (t u : Stream) (place : Place) → Agrees e old t → SendsHeadAs section old fields new → new.place ≡ place → u.unread ≡ unread.Nothing → u.asked ≡ t.asked → AgreesAt e place 0 new.message u → Agrees e new u
head_agrees e old new section fields t u place a h p read same at =
    let g = goes e old new section fields t a h in
    agrees_at e new u place 0 new.message g.own p (g.owed ∙ (at_head e old section fields new t a h).1) refl read (still old.role new.role (sym g.role) a.asked) at
  where
    still : (r q : Role) → r ≡ q → IsFor r t.asked → IsFor q u.asked
    still r q e f = subst (λ (x : Role). IsFor x u.asked) e (subst (λ (o : Option Asked). IsFor r o) (sym same) f)
