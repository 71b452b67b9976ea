-- What a call finds first.
use Rattle.std.proofs.Common.{◌≡◌, ℕ, zero, suc, ◌-◌, ◌<◌, ◌≤◌, ◌||◌, Bool, true, false, cond, List, [], ◌∷◌, map, length, take, drop, Option, Some, None, Result, Ok, Err, refl, sym, ap, subst, ◌∙◌, arith, length-drop}
use Rattle.std.proofs.lemmas.List.{append-nil}
use Rattle.std.proofs.Math.Seq.{take-length, drop-length}
use Rattle.std.specs.List.{list_all}
use Rattle.wtp_frames.specs.declared.fault.Fault.{Fault as StreamFault}
use Rattle.wtp_frames.specs.declared.frame_type.FrameType.{FrameType}
use Rattle.wtp_frames.specs.declared.frame_type.FrameType.TheVariants as kind
use Rattle.wtp_frames.specs.declared.reader.Reader.{Reader}
use Rattle.wtp_frames.specs.declared.reader.Step.{Step}
use Rattle.wtp_frames.specs.declared.reader.Step.TheVariants as step
use Rattle.wtp_frames.specs.Item.{Whole, Byte}
use Rattle.wtp_frames.specs.Run.{Run}
use Rattle.wtp_frames.specs.Reading.{slice}
use Rattle.wtp_frames.specs.First.{first, given}
use Rattle.wtp_connection.specs.declared.fault.Fault.{Fault}
use Rattle.wtp_connection.specs.declared.settings.PeerSettings.{PeerSettings}
use Rattle.wtp_connection.specs.declared.instructions.DecoderPlace.{DecoderPlace}
use Rattle.wtp_connection.specs.declared.stream.Purpose.{Purpose}
use Rattle.wtp_connection.specs.declared.stream.Stream.{Stream}
use Rattle.wtp_connection.specs.declared.stream.Stream.TheVariants.{Uni, Bi, Frames, Joining, Waiting, Session, Encoder, Decoder, Ignored, Incomplete, Over}
use Rattle.wtp_connection.specs.declared.connection.Connection.{Connection}
use Rattle.wtp_connection.specs.declared.connection.Found.{Found}
use Rattle.wtp_connection.specs.declared.connection.Found.TheVariants as found
use Rattle.wtp_connection.specs.Instructions.{sets_zero, after_bytes}
use Rattle.wtp_connection.specs.Streams.{opens, received_settings, Seen, StreamRun, rests, followed, all_given, by_settings, by_item, has_frames, of_frames, bytes_seen, by_capacity, by_place, end_of, by_fault, ending, ended}
use Rattle.wtp_connection.specs.Receiving.{IsFirst, opening_of, Outcome, has_frame, fails, settings_found, frame_found, step_found, with_capacity, encoder_found, decoder_found, more_in, finish_by, finish_open, finish_of, StepIsFound, Idle}
use Rattle.wtp_connection.specs.First.{first_purpose, first_opening, first_intact, first_seen, has_none, at_end, first_found, found_by}
use Rattle.wtp_connection.proofs.StreamLemmas.{items_bytes, no_frames, over_given, incomplete_given}

-- ---- a connection that an error did not end, and one that is over

pub first_open : (c : Connection) (s : Stream) (bytes : List ℕ) → c.over ≡ false → first_seen c s bytes ≡ first_intact c s bytes
first_open c s bytes e = rw e refl

pub first_over : (c : Connection) (s : Stream) (bytes : List ℕ) → c.over ≡ true → first_seen c s bytes ≡ all_given c s []
first_over c s bytes e = rw e refl

-- all bytes are consumed
rests_all : (c : Connection) (s : Stream) (bytes : List ℕ) → found_by (found.More (length bytes)) bytes c s ≡ all_given c s []
rests_all c s bytes = ap (λ (l : List ℕ). rests c s l) (drop-length bytes)

pub over_first : (c : Connection) (s : Stream) (bytes : List ℕ) → c.over ≡ true → found_by (found.More (length bytes)) bytes c s ≡ first_seen c s bytes
over_first c s bytes e = rests_all c s bytes ∙ sym (first_over c s bytes e)

pub ignored_first : (c : Connection) (bytes : List ℕ) → c.over ≡ false → found_by (found.More (length bytes)) bytes c Ignored ≡ first_seen c Ignored bytes
ignored_first c bytes e = rests_all c Ignored bytes ∙ sym (first_open c Ignored bytes e)

pub ended_first : (c : Connection) (bytes : List ℕ) → c.over ≡ false → found_by (found.More (length bytes)) bytes c Over ≡ first_seen c Over bytes
ended_first c bytes e = rests_all c Over bytes ∙ sym (first_open c Over bytes e)

pub incomplete_first : (c : Connection) (bytes : List ℕ) → c.over ≡ false → found_by (found.More (length bytes)) bytes c Incomplete ≡ first_seen c Incomplete bytes
incomplete_first c bytes e = rests_all c Incomplete bytes ∙ sym (first_open c Incomplete bytes e)

pub joining_first : (c : Connection) (n : ℕ) (bytes : List ℕ) → c.over ≡ false → found_by (found.More 0) bytes c (Joining n) ≡ first_seen c (Joining n) bytes
joining_first c n bytes e = sym (first_open c (Joining n) bytes e)

pub waiting_first : (c : Connection) (n : ℕ) (bytes : List ℕ) → c.over ≡ false → found_by (found.More 0) bytes c (Waiting n) ≡ first_seen c (Waiting n) bytes
waiting_first c n bytes e = sym (first_open c (Waiting n) bytes e)

-- ---- the application's bytes

no_bytes : (bytes : List ℕ) → length bytes ≡ 0 → bytes ≡ []
no_bytes [] e = refl
no_bytes (b ∷ bytes) e = absurd (omega (arith, e))

pub data_first : (c : Connection) (n : ℕ) (bytes : List ℕ) → c.over ≡ false → found_by (found.Data 0 (length bytes)) bytes c (Session n) ≡ first_seen c (Session n) bytes
data_first c n bytes e =
    let size : length bytes - 0 ≡ length bytes = omega arith in
    rw (size, take-length bytes, drop-length bytes) (sym (first_open c (Session n) bytes e))

pub empty_first : (c : Connection) (n : ℕ) (bytes : List ℕ) → c.over ≡ false → length bytes ≡ 0 → found_by (found.More 0) bytes c (Session n) ≡ first_seen c (Session n) bytes
empty_first c n bytes e l = rw (no_bytes bytes l) (sym (first_open c (Session n) [] e))

-- ---- frames

abbrev IsFound : Outcome → Connection → Stream → List ℕ → Type 0
IsFound o c s bytes = found_by o.0 bytes o.1 o.2 ≡ first_seen c s bytes

settings_first : (o : Result PeerSettings Fault) (start end : ℕ) (c : Connection) (r : Reader) (bytes : List ℕ) → (settings_found c (Frames r true) start end o).0 ≡ (settings_found c (Frames r true) start end o).0 → found_by (settings_found c (Frames r true) start end o).0 bytes (settings_found c (Frames r true) start end o).1 (settings_found c (Frames r true) start end o).2 ≡ by_settings c (slice start end bytes) (λ d. rests d (Frames r true) (drop end bytes)) o
settings_first (Ok v) start end c r bytes e = refl
settings_first (Err f) start end c r bytes e = refl

frame_first : (k : FrameType) (start end : ℕ) (c : Connection) (r : Reader) (bytes : List ℕ) → found_by (frame_found c (Frames r true) k start end (slice start end bytes)).0 bytes (frame_found c (Frames r true) k start end (slice start end bytes)).1 (frame_found c (Frames r true) k start end (slice start end bytes)).2 ≡ by_item c (λ d. rests d (Frames r true) (drop end bytes)) (Whole k (slice start end bytes))
frame_first kind.Settings start end c r bytes = settings_first (received_settings c (slice start end bytes)) start end c r bytes refl
frame_first other start end c r bytes = refl

-- the step's items are what is found
step_first : (x : Step) (c : Connection) (r : Reader) (g : Bool) (bytes : List ℕ) → found_by (step_found c (Frames r (has_frame x || g)) x bytes).0 bytes (step_found c (Frames r (has_frame x || g)) x bytes).1 (step_found c (Frames r (has_frame x || g)) x bytes).2 ≡ of_frames c g (given x bytes r)
step_first (step.Frame k start end) c r g bytes = frame_first k start end c r bytes
step_first (step.Data start end) c r g bytes =
    ap (λ (l : List Seen). record { seen = l; connection = c; stream = Frames r g; left = drop end bytes }) (sym (append-nil (bytes_seen (slice start end bytes))))
    ∙ ap (λ (b : Bool). followed (bytes_seen (slice start end bytes)) (rests c (Frames r (b || g)) (drop end bytes))) (sym (no_frames (slice start end bytes)))
    ∙ sym (items_bytes (slice start end bytes) c (λ d. rests d (Frames r (has_frames (map Byte (slice start end bytes)) || g)) (drop end bytes)))
step_first (step.TooLarge size n) c r g bytes = refl
step_first (step.More n) c r g bytes = refl
step_first (step.Fault f) c r g bytes = refl

pub frames_first : (x : Step) (c d : Connection) (old new : Reader) (g : Bool) (t : Stream) (bytes : List ℕ) (y : Found) → c.over ≡ false → given x bytes new ≡ first old bytes → (y, d, t) ≡ step_found c (Frames new (has_frame x || g)) x bytes → found_by y bytes d t ≡ first_seen c (Frames old g) bytes
frames_first x c d old new g t bytes y e h is =
    ap (λ (o : Outcome). found_by o.0 bytes o.1 o.2) is
    ∙ step_first x c new g bytes
    ∙ ap (λ (z : Run). of_frames c g z) h
    ∙ sym (first_open c (Frames old g) bytes e)

-- ---- the streams of QPACK

encoder_case : (b : Bool) (c : Connection) (bytes : List ℕ) → found_by (with_capacity c Encoder (length bytes) b).0 bytes (with_capacity c Encoder (length bytes) b).1 (with_capacity c Encoder (length bytes) b).2 ≡ by_capacity c b
encoder_case true c bytes = rests_all c Encoder bytes
encoder_case false c bytes = refl

pub encoder_first : (c d : Connection) (t : Stream) (bytes : List ℕ) (y : Found) → c.over ≡ false → (y, d, t) ≡ encoder_found c Encoder bytes → found_by y bytes d t ≡ first_seen c Encoder bytes
encoder_first c d t bytes y e is =
    ap (λ (o : Outcome). found_by o.0 bytes o.1 o.2) is
    ∙ encoder_case (list_all sets_zero bytes) c bytes
    ∙ sym (first_open c Encoder bytes e)

decoder_case : (o : Option DecoderPlace) (c : Connection) (bytes : List ℕ) → found_by (decoder_found c o (length bytes)).0 bytes (decoder_found c o (length bytes)).1 (decoder_found c o (length bytes)).2 ≡ by_place c o
decoder_case None c bytes = refl
decoder_case (Some place) c bytes = rests_all c (Decoder place) bytes

pub decoder_first : (c d : Connection) (place : DecoderPlace) (t : Stream) (bytes : List ℕ) (o : Option DecoderPlace) (y : Found) → c.over ≡ false → o ≡ after_bytes place bytes → (y, d, t) ≡ decoder_found c o (length bytes) → found_by y bytes d t ≡ first_seen c (Decoder place) bytes
decoder_first c d place t bytes o y e was is =
    ap (λ (z : Outcome). found_by z.0 bytes z.1 z.2) is
    ∙ decoder_case o c bytes
    ∙ ap (λ (z : Option DecoderPlace). by_place c z) was
    ∙ sym (first_open c (Decoder place) bytes e)

-- ---- a stream that is opened

pub first_by : (c : Connection) (s : Stream) (bytes : List ℕ) → c.over ≡ false → IsFirst s → first_seen c s bytes ≡ first_opening c s bytes (opening_of c.endpoint s bytes)
first_by c Uni bytes e f = first_open c Uni bytes e
first_by c Bi bytes e f = first_open c Bi bytes e
first_by c (Frames r g) bytes e f = absurd f
first_by c (Joining n) bytes e f = absurd f
first_by c (Waiting n) bytes e f = absurd f
first_by c (Session n) bytes e f = absurd f
first_by c Encoder bytes e f = absurd f
first_by c (Decoder place) bytes e f = absurd f
first_by c Ignored bytes e f = absurd f
first_by c Incomplete bytes e f = absurd f
first_by c Over bytes e f = absurd f

opening_first : (c : Connection) (s : Stream) (bytes : List ℕ) (p : Purpose) (n : ℕ) (o : Result (Connection × Stream) Fault) → c.over ≡ false → IsFirst s → opening_of c.endpoint s bytes ≡ Some (p, drop n bytes) → opens c p ≡ o → first_purpose c p (drop n bytes) o ≡ first_seen c s bytes
opening_first c s bytes p n o i f e is = sym (
    first_by c s bytes i f
    ∙ ap (λ (x : Option (Purpose × List ℕ)). first_opening c s bytes x) e
    ∙ ap (λ (x : Result (Connection × Stream) Fault). first_purpose c p (drop n bytes) x) is)

pub opened_first : (c : Connection) (s : Stream) (bytes : List ℕ) (p : Purpose) (n : ℕ) (d : Connection) (t : Stream) → c.over ≡ false → IsFirst s → opening_of c.endpoint s bytes ≡ Some (p, drop n bytes) → opens c p ≡ Ok (d, t) → found_by (found.Opened p n) bytes d t ≡ first_seen c s bytes
opened_first c s bytes p n d t i f e is = opening_first c s bytes p n (Ok (d, t)) i f e is

pub failed_first : (c d e : Connection) (s t : Stream) (bytes : List ℕ) (p : Purpose) (n : ℕ) (x : Fault) (y : Found) → c.over ≡ false → IsFirst s → opening_of c.endpoint s bytes ≡ Some (p, drop n bytes) → opens c p ≡ Err x → d ≡ c → (y, e, t) ≡ fails d x → found_by y bytes e t ≡ first_seen c s bytes
failed_first c d e s t bytes p n x y i f o is same out =
    ap (λ (z : Outcome). found_by z.0 bytes z.1 z.2) (out ∙ ap (λ (k : Connection). fails k x) same)
    ∙ opening_first c s bytes p n (Err x) i f o is

pub unopened_first : (c : Connection) (s : Stream) (bytes : List ℕ) → c.over ≡ false → IsFirst s → opening_of c.endpoint s bytes ≡ None → found_by (found.More 0) bytes c s ≡ first_seen c s bytes
unopened_first c s bytes i f e = sym (first_by c s bytes i f ∙ ap (λ (o : Option (Purpose × List ℕ)). first_opening c s bytes o) e)

-- ---- where the stream may end

pub goes_first : (x : Found) (c : Connection) (s : Stream) (bytes : List ℕ) (fin : Bool) (d : Connection) (t : Stream) → fin ≡ false → found_by x bytes d t ≡ first_seen c s bytes → found_by x bytes d t ≡ first_found fin c s bytes
goes_first x c s bytes fin d t e h = rw e h

pub piece_seen : (start end : ℕ) (bytes : List ℕ) → start < end → end ≤ length bytes → has_none (bytes_seen (slice start end bytes)) ≡ false
piece_seen start end bytes l m = taken_seen (end - start) (drop start bytes) (omega (arith, l)) (omega (arith, l, m, length-drop start bytes))
  where
    taken_seen : (n : ℕ) (rest : List ℕ) → 0 < n → n ≤ length rest → has_none (bytes_seen (take n rest)) ≡ false
    taken_seen zero rest l m = absurd (omega (arith, l))
    taken_seen (suc n) [] l m = absurd (omega (arith, m))
    taken_seen (suc n) (b ∷ rest) l m = refl

some_seen : (x : Found) (c : Connection) (s : Stream) (bytes : List ℕ) (d : Connection) (t : Stream) → more_in x ≡ None → StepIsFound x c s bytes d t → found_by x bytes d t ≡ at_end true (found_by x bytes d t)
some_seen (found.More n) c s bytes d t e h = absurd (cc)
some_seen (found.Settings v start end) c s bytes d t e h = refl
some_seen (found.Frame kind start end) c s bytes d t e h = refl
some_seen (found.Data start end) c s bytes d t e h =
    let x : StreamRun = found_by (found.Data start end) bytes d t in
    sym (ap (λ (b : Bool). cond b (ended x) x) (piece_seen start end bytes h.fits.0 h.fits.1))
some_seen (found.TooLarge size n) c s bytes d t e h = refl
some_seen (found.Fault f) c s bytes d t e h = refl
some_seen (found.Opened p n) c s bytes d t e h = refl
some_seen found.End c s bytes d t e h = refl

pub before_first : (x : Found) (c : Connection) (s : Stream) (bytes : List ℕ) (fin : Bool) (d : Connection) (t : Stream) → fin ≡ true → more_in x ≡ None → StepIsFound x c s bytes d t → found_by x bytes d t ≡ first_seen c s bytes → found_by x bytes d t ≡ first_found fin c s bytes
before_first x c s bytes fin d t e none h is =
    some_seen x c s bytes d t none h
    ∙ ap (λ (y : StreamRun). at_end true y) is
    ∙ ap (λ (b : Bool). first_found b c s bytes) (sym e)

finish_case : (o : Result (Unit {0}) StreamFault) (d : Connection) (bytes : List ℕ) → found_by (finish_by d o).0 bytes (finish_by d o).1 (finish_by d o).2 ≡ by_fault d o
finish_case (Ok u) d bytes = refl
finish_case (Err f) d bytes = refl

open_end : (t : Stream) (d : Connection) (bytes : List ℕ) (n : ℕ) → d.over ≡ false → Idle d t (drop n bytes) → found_by (finish_open d t (drop n bytes) n).0 bytes (finish_open d t (drop n bytes) n).1 (finish_open d t (drop n bytes) n).2 ≡ ending d t (drop n bytes)
open_end Uni d bytes n e h = finish_case (end_of d Uni (drop n bytes)) d bytes
open_end Bi d bytes n e h = finish_case (end_of d Bi (drop n bytes)) d bytes
open_end (Frames r g) d bytes n e h = finish_case (end_of d (Frames r g) (drop n bytes)) d bytes
open_end (Joining k) d bytes n e h = refl
open_end (Waiting k) d bytes n e h = refl
open_end (Session k) d bytes n e h = finish_case (end_of d (Session k) (drop n bytes)) d bytes
open_end Encoder d bytes n e h = finish_case (end_of d Encoder (drop n bytes)) d bytes
open_end (Decoder place) d bytes n e h = finish_case (end_of d (Decoder place) (drop n bytes)) d bytes
open_end Ignored d bytes n e h = finish_case (end_of d Ignored (drop n bytes)) d bytes
open_end Incomplete d bytes n e h = ap (λ (l : List ℕ). rests d Incomplete l) (ap (λ (y : StreamRun). y.left) (sym h.idle ∙ incomplete_given d (drop n bytes)))
open_end Over d bytes n e h = ap (λ (l : List ℕ). rests d Over l) (ap (λ (y : StreamRun). y.left) (sym h.idle ∙ over_given d (drop n bytes)))

-- by whether the connection is over
abbrev finish_if : Bool → Connection → Stream → List ℕ → ℕ → Outcome
finish_if b d t left n = cond b (found.More n, d, t) (finish_open d t left n)

end_if : (b : Bool) (d : Connection) (t : Stream) (bytes : List ℕ) (n : ℕ) → (b ≡ false → found_by (finish_open d t (drop n bytes) n).0 bytes (finish_open d t (drop n bytes) n).1 (finish_open d t (drop n bytes) n).2 ≡ ending d t (drop n bytes)) → found_by (finish_if b d t (drop n bytes) n).0 bytes (finish_if b d t (drop n bytes) n).1 (finish_if b d t (drop n bytes) n).2 ≡ cond b (rests d t (drop n bytes)) (ending d t (drop n bytes))
end_if true d t bytes n h = refl
end_if false d t bytes n h = h refl

end_case : (d : Connection) (t : Stream) (bytes : List ℕ) (n : ℕ) → Idle d t (drop n bytes) → found_by (finish_of d t (drop n bytes) n).0 bytes (finish_of d t (drop n bytes) n).1 (finish_of d t (drop n bytes) n).2 ≡ ended (rests d t (drop n bytes))
end_case d t bytes n h = end_if d.over d t bytes n (λ e. open_end t d bytes n e h)

pub finish_first : (x : Found) (n : ℕ) (c : Connection) (s : Stream) (bytes : List ℕ) (fin : Bool) (d e : Connection) (t u : Stream) (y : Found) (left : List ℕ) → fin ≡ true → more_in x ≡ Some n → StepIsFound x c s bytes d t → found_by x bytes d t ≡ first_seen c s bytes → left ≡ drop n bytes → (y, e, u) ≡ finish_of d t left n → found_by y bytes e u ≡ first_found fin c s bytes
finish_first (found.Opened p k) n c s bytes fin d e t u y left f m h is at out = absurd (cc)
finish_first found.End n c s bytes fin d e t u y left f m h is at out = absurd (cc)
finish_first (found.Settings v start end) n c s bytes fin d e t u y left f m h is at out = absurd (cc)
finish_first (found.Frame kind start end) n c s bytes fin d e t u y left f m h is at out = absurd (cc)
finish_first (found.Data start end) n c s bytes fin d e t u y left f m h is at out = absurd (cc)
finish_first (found.TooLarge size k) n c s bytes fin d e t u y left f m h is at out = absurd (cc)
finish_first (found.Fault k) n c s bytes fin d e t u y left f m h is at out = absurd (cc)
finish_first (found.More k) n c s bytes fin d e t u y left f m h is at out =
    let same : k ≡ n = some_is k n m in
    let idle : Idle d t (drop n bytes) = subst (λ (i : ℕ). Idle d t (drop i bytes)) same h.fits.1 in
    ap (λ (o : Outcome). found_by o.0 bytes o.1 o.2) (out ∙ ap (λ (l : List ℕ). finish_of d t l n) at)
    ∙ end_case d t bytes n idle
    ∙ ap (λ (i : ℕ). at_end true (rests d t (drop i bytes))) (sym same)
    ∙ ap (λ (z : StreamRun). at_end true z) is
    ∙ ap (λ (b : Bool). first_found b c s bytes) (sym f)
  where
    some_is : (a b : ℕ) → Some a ≡ Some b → a ≡ b
    some_is a b e = cc
