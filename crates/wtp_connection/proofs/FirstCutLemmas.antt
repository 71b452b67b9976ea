-- What is found first, where more bytes follow.
use Rattle.std.proofs.Common.{◌≡◌, ℕ, ◌+◌, ◌<◌, ◌==◌, ◌&&◌, ◌||◌, Bool, true, false, cond, ltb, List, [], ◌∷◌, ◌++◌, map, length, Option, Some, None, Result, Ok, Err, refl, subst, sym, ap, ◌∙◌, arith, inl, inr}
use Rattle.std.proofs.lemmas.Bool.{cases_Bool, ltb-true}
use Rattle.std.proofs.lemmas.List.{append-nil}
use Rattle.std.specs.List.{list_all}
use Rattle.std.proofs.lemmas.List.Folds.{list_all-append}
use Rattle.wtp_frames.specs.declared.frame_type.FrameType.{FrameType}
use Rattle.wtp_frames.specs.declared.frame_type.FrameType.TheVariants as kind
use Rattle.wtp_frames.specs.declared.reader.Reader.{Reader}
use Rattle.wtp_frames.specs.Item.{Item, Whole, Byte, TooLarge, Broken}
use Rattle.wtp_frames.specs.Run.{Run, stays, preceded}
use Rattle.wtp_frames.specs.First.{first, longer as frames_longer, with_more as frames_more}
use Rattle.wtp_frames.proofs.FirstCutLemmas.{first_more, Shape, Nothing, Frame, Section, Fails, Piece, first_shape, is_piece, after, InData, first_in_data, NextPiece as Data, next_piece}
use Rattle.wtp_connection.specs.declared.fault.Fault.{Fault}
use Rattle.wtp_connection.specs.declared.settings.PeerSettings.{PeerSettings}
use Rattle.wtp_connection.specs.declared.instructions.DecoderPlace.{DecoderPlace}
use Rattle.wtp_connection.specs.declared.stream.Purpose.{Purpose}
use Rattle.wtp_connection.specs.declared.stream.Stream.{Stream}
use Rattle.wtp_connection.specs.declared.stream.Stream.TheVariants.{Uni, Bi, Frames, Joining, Waiting, Session, Encoder, Decoder, Ignored, Incomplete, Over}
use Rattle.wtp_connection.specs.declared.connection.Connection.{Connection}
use Rattle.wtp_connection.specs.Instructions.{sets_zero, then_bytes, after_bytes}
use Rattle.wtp_connection.specs.Streams.{abandons, opens, received_settings, Seen, Gave, StreamRun, rests, followed, all_given, by_settings, of_items, has_frames, of_frames, bytes_seen, by_capacity, by_place}
use Rattle.wtp_connection.specs.Opening.{remaining_of, over_from, is_control, is_critical}
use Rattle.wtp_connection.specs.Receiving.{IsFirst, opening_of}
use Rattle.wtp_connection.specs.First.{first_purpose, first_opening, first_seen, in_piece, longer, by_seen, with_more}
use Rattle.wtp_connection.proofs.InstructionLemmas.{after_append}
use Rattle.wtp_connection.proofs.OpeningLemmas.{opening_more}
use Rattle.wtp_connection.proofs.StreamLemmas.{items_append, items_bytes, frames_append, no_frames, seen_append}
use Rattle.wtp_connection.proofs.FirstLemmas.{first_open, first_over, first_by}

-- ---- frames

bytes_frames : (bytes : List ℕ) (c : Connection) (g : Bool) (x : Run) → of_frames c g (preceded (map Byte bytes) x) ≡ followed (bytes_seen bytes) (of_frames c g x)
bytes_frames bytes c g x =
    ap (λ (b : Bool). of_items c (λ d. rests d (Frames x.reader b) x.left) (map Byte bytes ++ x.items)) (frames_append (map Byte bytes) x.items g ∙ ap (λ (b : Bool). has_frames x.items || (b || g)) (no_frames bytes))
    ∙ items_append (map Byte bytes) x.items c (λ d. rests d (Frames x.reader (has_frames x.items || g)) x.left)
    ∙ items_bytes bytes c (λ d. of_items d (λ e. rests e (Frames x.reader (has_frames x.items || g)) x.left) x.items)

-- a piece that is given alone
piece_frames : (bytes : List ℕ) (c : Connection) (g : Bool) (r : Reader) (left : List ℕ) → of_frames c g (record { items = map Byte bytes; reader = r; left = left }) ≡ record { seen = bytes_seen bytes; connection = c; stream = Frames r g; left = left }
piece_frames bytes c g r left =
    ap (λ (i : List Item). of_frames c g (record { items = i; reader = r; left = left })) (sym (append-nil (map Byte bytes)))
    ∙ bytes_frames bytes c g (stays r left)
    ∙ ap (λ (l : List Seen). record { seen = l; connection = c; stream = Frames r g; left = left }) (append-nil (bytes_seen bytes))

pub piece_seen : (bytes : List ℕ) (x : StreamRun) (b : List ℕ) → 0 < length bytes → by_seen (bytes_seen bytes) x b ≡ longer x b
piece_seen [] x b l = absurd (omega (arith, l))
piece_seen (c ∷ bytes) x b l = refl

frames_piece : (bytes : List ℕ) (x : Run) (b : List ℕ) → 0 < length bytes → frames_more (record { items = map Byte bytes; reader = x.reader; left = x.left }) b ≡ frames_longer (record { items = map Byte bytes; reader = x.reader; left = x.left }) b
frames_piece [] x b l = absurd (omega (arith, l))
frames_piece (c ∷ bytes) x b l = refl

longer_case : (p : Bool) (bytes : List ℕ) (c : Connection) (g : Bool) (r : Reader) (left b : List ℕ) → c.over ≡ false → of_frames c g (cond p (preceded (map Byte bytes) (first r b)) (record { items = map Byte bytes; reader = r; left = left ++ b })) ≡ cond p (followed (bytes_seen bytes) (first_seen c (Frames r g) b)) (record { seen = bytes_seen bytes; connection = c; stream = Frames r g; left = left ++ b })
longer_case true bytes c g r left b e = bytes_frames bytes c g (first r b) ∙ ap (λ (y : StreamRun). followed (bytes_seen bytes) y) (sym (first_open c (Frames r g) b e))
longer_case false bytes c g r left b e = piece_frames bytes c g r (left ++ b)

settings_more : (o : Result PeerSettings Fault) (payload : List ℕ) (c : Connection) (g : Bool) (r : Reader) (left b : List ℕ) → by_settings c payload (λ d. rests d (Frames r true) (left ++ b)) o ≡ with_more (by_settings c payload (λ d. rests d (Frames r true) left) o) b
settings_more (Ok v) payload c g r left b = refl
settings_more (Err f) payload c g r left b = refl

frame_more : (k : FrameType) (payload : List ℕ) (c : Connection) (g : Bool) (r : Reader) (left b : List ℕ) → of_frames c g (record { items = Whole k payload ∷ []; reader = r; left = left ++ b }) ≡ with_more (of_frames c g (record { items = Whole k payload ∷ []; reader = r; left = left })) b
frame_more kind.Settings payload c g r left b = settings_more (received_settings c payload) payload c g r left b
frame_more other payload c g r left b = refl

shape_more : (items : List Item) (c : Connection) (g : Bool) (r : Reader) (left b : List ℕ) → c.over ≡ false → Shape items → of_frames c g (frames_more (record { items = items; reader = r; left = left }) b) ≡ with_more (of_frames c g (record { items = items; reader = r; left = left })) b
shape_more _ c g r left b e Nothing = sym (first_open c (Frames r g) (left ++ b) e)
shape_more _ c g r left b e (Frame k payload) = frame_more k payload c g r left b
shape_more _ c g r left b e (Section n) = refl
shape_more _ c g r left b e (Fails f) = refl
shape_more _ c g r left b e (Piece bytes some) =
    ap (λ (x : Run). of_frames c g x) (frames_piece bytes (record { items = []; reader = r; left = left }) b some)
    ∙ longer_case ((length left == 0) && ltb 0 r.remaining) bytes c g r left b e
    ∙ sym (piece_seen bytes (record { seen = bytes_seen bytes; connection = c; stream = Frames r g; left = left }) b some)
    ∙ ap (λ (x : StreamRun). with_more x b) (sym (piece_frames bytes c g r left))

frames_seen_more : (c : Connection) (r : Reader) (g : Bool) (a b : List ℕ) → c.over ≡ false → first_seen c (Frames r g) (a ++ b) ≡ with_more (first_seen c (Frames r g) a) b
frames_seen_more c r g a b e =
    first_open c (Frames r g) (a ++ b) e
    ∙ ap (λ (x : Run). of_frames c g x) (first_more r a b)
    ∙ shape_more (first r a).items c g (first r a).reader (first r a).left b e (first_shape r a)
    ∙ ap (λ (x : StreamRun). with_more x b) (sym (first_open c (Frames r g) a e))

-- ---- other streams

session_more : (c : Connection) (n : ℕ) (a b : List ℕ) → c.over ≡ false → first_seen c (Session n) (a ++ b) ≡ with_more (first_seen c (Session n) a) b
session_more c n [] b e = first_open c (Session n) b e ∙ sym (first_open c (Session n) b e) ∙ ap (λ (x : StreamRun). with_more x b) (sym (first_open c (Session n) [] e))
session_more c n (x ∷ a) b e =
    first_open c (Session n) ((x ∷ a) ++ b) e
    ∙ ap (λ (l : List Seen). all_given c (Session n) l) (seen_append (x ∷ a) b)
    ∙ ap (λ (y : StreamRun). followed (bytes_seen (x ∷ a)) y) (sym (first_open c (Session n) b e))
    ∙ ap (λ (y : StreamRun). with_more y b) (sym (first_open c (Session n) (x ∷ a) e))

capacity_more : (p : Bool) (c : Connection) (b : List ℕ) → c.over ≡ false → by_capacity c (p && list_all sets_zero b) ≡ with_more (by_capacity c p) b
capacity_more true c b e = sym (first_open c Encoder b e)
capacity_more false c b e = refl

place_more : (o : Option DecoderPlace) (c : Connection) (b : List ℕ) → c.over ≡ false → by_place c (then_bytes (λ p. after_bytes p b) o) ≡ with_more (by_place c o) b
place_more None c b e = refl
place_more (Some place) c b e = sym (first_open c (Decoder place) b e)

-- a stream that discards its bytes
discards_more : (c : Connection) (s : Stream) (a b : List ℕ) → ((bytes : List ℕ) → first_seen c s bytes ≡ all_given c s []) → first_seen c s (a ++ b) ≡ with_more (first_seen c s a) b
discards_more c s a b h = h (a ++ b) ∙ sym (h b) ∙ ap (λ (x : StreamRun). with_more x b) (sym (h a))

-- one that waits
waits_more : (c : Connection) (s : Stream) (a b : List ℕ) → first_seen c s a ≡ rests c s a → first_seen c s (a ++ b) ≡ with_more (first_seen c s a) b
waits_more c s a b h = ap (λ (x : StreamRun). with_more x b) (sym h)

-- one that is opened
purpose_more : (o : Result (Connection × Stream) Fault) (c : Connection) (p : Purpose) (rest b : List ℕ) → first_purpose c p (rest ++ b) o ≡ with_more (first_purpose c p rest o) b
purpose_more (Ok x) c p rest b = refl
purpose_more (Err f) c p rest b = refl

opening_more_seen : (o : Option (Purpose × List ℕ)) (c : Connection) (s : Stream) (a b : List ℕ) → c.over ≡ false → IsFirst s → opening_of c.endpoint s a ≡ o → first_seen c s (a ++ b) ≡ with_more (first_seen c s a) b
opening_more_seen None c s a b e f is = waits_more c s a b (first_by c s a e f ∙ ap (λ (o : Option (Purpose × List ℕ)). first_opening c s a o) is)
opening_more_seen (Some o) c s a b e f is =
    first_by c s (a ++ b) e f
    ∙ ap (λ (x : Option (Purpose × List ℕ)). first_opening c s (a ++ b) x) (opening_more c.endpoint s a b o is)
    ∙ purpose_more (opens c o.0) c o.0 o.1 b
    ∙ ap (λ (x : StreamRun). with_more x b) (sym (first_by c s a e f ∙ ap (λ (x : Option (Purpose × List ℕ)). first_opening c s a x) is))

open_more : (s : Stream) (c : Connection) (a b : List ℕ) → c.over ≡ false → first_seen c s (a ++ b) ≡ with_more (first_seen c s a) b
open_more Uni c a b e = opening_more_seen (opening_of c.endpoint Uni a) c Uni a b e tt refl
open_more Bi c a b e = opening_more_seen (opening_of c.endpoint Bi a) c Bi a b e tt refl
open_more (Frames r g) c a b e = frames_seen_more c r g a b e
open_more (Joining n) c a b e = waits_more c (Joining n) a b (first_open c (Joining n) a e)
open_more (Waiting n) c a b e = waits_more c (Waiting n) a b (first_open c (Waiting n) a e)
open_more (Session n) c a b e = session_more c n a b e
open_more Encoder c a b e =
    first_open c Encoder (a ++ b) e
    ∙ ap (λ (p : Bool). by_capacity c p) (list_all-append sets_zero a b)
    ∙ capacity_more (list_all sets_zero a) c b e
    ∙ ap (λ (x : StreamRun). with_more x b) (sym (first_open c Encoder a e))
open_more (Decoder place) c a b e =
    first_open c (Decoder place) (a ++ b) e
    ∙ ap (λ (o : Option DecoderPlace). by_place c o) (after_append place a b)
    ∙ place_more (after_bytes place a) c b e
    ∙ ap (λ (x : StreamRun). with_more x b) (sym (first_open c (Decoder place) a e))
open_more Ignored c a b e = discards_more c Ignored a b (λ l. first_open c Ignored l e)
open_more Incomplete c a b e = discards_more c Incomplete a b (λ l. first_open c Incomplete l e)
open_more Over c a b e = discards_more c Over a b (λ l. first_open c Over l e)

pub seen_more : (c : Connection) (s : Stream) (a b : List ℕ) → first_seen c s (a ++ b) ≡ with_more (first_seen c s a) b
seen_more c s a b = elim (cases_Bool c.over) [
  | inl over ↦ discards_more c s a b (λ l. first_over c s l over)
  | inr intact ↦ open_more s c a b intact
]

-- ---- a piece that goes on with the next byte

abbrev pub IsFrames : Stream → Type 0
IsFrames (Frames r g) = Unit {0}
IsFrames other = ⊥

-- the bytes of it that are next, and the state after them
pub record NextPiece (c : Connection) (t : Stream) (b : List ℕ) : Type 0 where
  pub piece : List ℕ
  pub rest : List ℕ
  pub stream : Stream
  pub some : 0 < length piece
  pub parts : b ≡ piece ++ rest
  pub is : first_seen c t b ≡ record { seen = bytes_seen piece; connection = c; stream = stream; left = rest }
  pub left : IsFrames t → remaining_of t ≡ length piece + remaining_of stream
  pub abandoned : is_critical t ≡ false → abandons c stream ≡ abandons c t

no_piece : (p : List ℕ) → 0 < length p → bytes_seen p ≡ [] → ⊥
no_piece [] l e = omega (arith, l)
no_piece (b ∷ p) l e = cc e

abbrev PieceNext : StreamRun → List ℕ → Type 0
PieceNext x b = (p : List ℕ) → 0 < length p → x.seen ≡ bytes_seen p → in_piece x ≡ true → NextPiece x.connection x.stream b

-- where something else is found first
abbrev is_byte : List Seen → Bool
is_byte (Gave (Byte b) ∷ seen) = true
is_byte other = false

byte_first : (p : List ℕ) → 0 < length p → is_byte (bytes_seen p) ≡ true
byte_first [] l = absurd (omega (arith, l))
byte_first (b ∷ p) l = refl

no_byte : (x : StreamRun) (b : List ℕ) → is_byte x.seen ≡ false → PieceNext x b
no_byte x b n p l e i = absurd (cc (sym n ∙ ap is_byte e ∙ byte_first p l))

in_stream : (x y : StreamRun) (b : List ℕ) → x ≡ y → PieceNext y b → PieceNext x b
in_stream x y b e h = subst (λ (z : StreamRun). PieceNext z b) (sym e) h

over_frames : (r s : Reader) (g : Bool) → over_from (Frames r g) ≡ over_from (Frames s g)
over_frames r s true = refl
over_frames r s false = refl

abbrev gone_if : Bool → Connection → Stream → Connection × Stream
gone_if k c t = cond k (c, t) (c, over_from t)

abandoned_if : (k : Bool) (c : Connection) (r s : Reader) (g : Bool) → k ≡ false → gone_if k c (Frames r g) ≡ gone_if k c (Frames s g)
abandoned_if true c r s g e = absurd (cc e)
abandoned_if false c r s g e = ap (λ (t : Stream). gone_if true c t) (over_frames r s g)

frames_next : (c : Connection) (r : Reader) (g : Bool) (b : List ℕ) → c.over ≡ false → InData r → 0 < length b → NextPiece c (Frames r g) b
frames_next c r g b e h some =
    let n : Data r b = next_piece r b h some in
    record {
      piece = n.piece;
      rest = n.rest;
      stream = Frames (after r (length n.piece)) g;
      some = n.some;
      parts = n.parts;
      is =
          first_open c (Frames r g) b e
          ∙ ap (λ (x : Run). of_frames c g x) n.is
          ∙ piece_frames n.piece c g (after r (length n.piece)) n.rest;
      left = λ u. omega (arith, n.within);
      abandoned = λ u. abandoned_if (is_control r.place) c (after r (length n.piece)) r g u;
    }

both_true : (a b : Bool) → (a && b) ≡ true → b ≡ true
both_true true b e = e
both_true false b e = absurd (cc e)

settings_piece : (o : Result PeerSettings Fault) (payload : List ℕ) (c : Connection) (r : Reader) (left b : List ℕ) → PieceNext (by_settings c payload (λ d. rests d (Frames r true) left) o) b
settings_piece (Ok v) payload c r left b = no_byte (by_settings c payload (λ d. rests d (Frames r true) left) (Ok v)) b refl
settings_piece (Err f) payload c r left b = no_byte (by_settings c payload (λ d. rests d (Frames r true) left) (Err f)) b refl

frame_piece : (k : FrameType) (payload : List ℕ) (c : Connection) (g : Bool) (r : Reader) (left b : List ℕ) → PieceNext (of_frames c g (record { items = Whole k payload ∷ []; reader = r; left = left })) b
frame_piece kind.Settings payload c g r left b = settings_piece (received_settings c payload) payload c r left b
frame_piece other payload c g r left b = no_byte (of_frames c g (record { items = Whole other payload ∷ []; reader = r; left = left })) b refl

shape_next : (items : List Item) (c : Connection) (g : Bool) (r : Reader) (left b : List ℕ) → c.over ≡ false → 0 < length b → Shape items → (is_piece items ≡ true → 0 < r.remaining → InData r) → PieceNext (of_frames c g (record { items = items; reader = r; left = left })) b
shape_next _ c g r left b e some Nothing h = no_byte (of_frames c g (record { items = []; reader = r; left = left })) b refl
shape_next _ c g r left b e some (Frame k payload) h = frame_piece k payload c g r left b
shape_next _ c g r left b e some (Section n) h = no_byte (of_frames c g (record { items = TooLarge n ∷ []; reader = r; left = left })) b refl
shape_next _ c g r left b e some (Fails f) h = no_byte (of_frames c g (record { items = Broken f ∷ []; reader = r; left = left })) b refl
shape_next _ c g r left b e some (Piece bytes full) h =
    in_stream (of_frames c g (record { items = map Byte bytes; reader = r; left = left })) (record { seen = bytes_seen bytes; connection = c; stream = Frames r g; left = left }) b (piece_frames bytes c g r left)
    (λ p l s i. frames_next c r g b e (h (piece_is bytes full) (ltb-true 0 r.remaining (both_true (length left == 0) (ltb 0 r.remaining) i))) some)
  where
    piece_is : (bytes : List ℕ) → 0 < length bytes → is_piece (map Byte bytes) ≡ true
    piece_is [] l = absurd (omega (arith, l))
    piece_is (x ∷ bytes) l = refl

session_next : (c : Connection) (n : ℕ) (a b : List ℕ) → c.over ≡ false → 0 < length b → PieceNext (all_given c (Session n) (bytes_seen a)) b
session_next c n a b e some p l s i = record {
  piece = b;
  rest = [];
  stream = Session n;
  some = some;
  parts = sym (append-nil b);
  is = first_open c (Session n) b e;
  left = λ u. absurd u;
  abandoned = λ u. refl;
}

capacity_next : (p : Bool) (c : Connection) (b : List ℕ) → PieceNext (by_capacity c p) b
capacity_next true c b = no_byte (by_capacity c true) b refl
capacity_next false c b = no_byte (by_capacity c false) b refl

place_next : (o : Option DecoderPlace) (c : Connection) (b : List ℕ) → PieceNext (by_place c o) b
place_next None c b = no_byte (by_place c None) b refl
place_next (Some place) c b = no_byte (by_place c (Some place)) b refl

purpose_next : (o : Result (Connection × Stream) Fault) (c : Connection) (p : Purpose) (rest b : List ℕ) → PieceNext (first_purpose c p rest o) b
purpose_next (Ok x) c p rest b = no_byte (first_purpose c p rest (Ok x)) b refl
purpose_next (Err f) c p rest b = no_byte (first_purpose c p rest (Err f)) b refl

opening_next : (o : Option (Purpose × List ℕ)) (c : Connection) (s : Stream) (a b : List ℕ) → PieceNext (first_opening c s a o) b
opening_next None c s a b = no_byte (rests c s a) b refl
opening_next (Some o) c s a b = purpose_next (opens c o.0) c o.0 o.1 b

open_next : (s : Stream) (c : Connection) (a b : List ℕ) → c.over ≡ false → 0 < length b → PieceNext (first_seen c s a) b
open_next Uni c a b e some = in_stream (first_seen c Uni a) (first_opening c Uni a (opening_of c.endpoint Uni a)) b (first_by c Uni a e tt) (opening_next (opening_of c.endpoint Uni a) c Uni a b)
open_next Bi c a b e some = in_stream (first_seen c Bi a) (first_opening c Bi a (opening_of c.endpoint Bi a)) b (first_by c Bi a e tt) (opening_next (opening_of c.endpoint Bi a) c Bi a b)
open_next (Frames r g) c a b e some = in_stream (first_seen c (Frames r g) a) (of_frames c g (first r a)) b (first_open c (Frames r g) a e) (shape_next (first r a).items c g (first r a).reader (first r a).left b e some (first_shape r a) (first_in_data r a))
open_next (Session n) c a b e some = in_stream (first_seen c (Session n) a) (all_given c (Session n) (bytes_seen a)) b (first_open c (Session n) a e) (session_next c n a b e some)
open_next Encoder c a b e some = in_stream (first_seen c Encoder a) (by_capacity c (list_all sets_zero a)) b (first_open c Encoder a e) (capacity_next (list_all sets_zero a) c b)
open_next (Decoder place) c a b e some = in_stream (first_seen c (Decoder place) a) (by_place c (after_bytes place a)) b (first_open c (Decoder place) a e) (place_next (after_bytes place a) c b)
open_next (Joining n) c a b e some = in_stream (first_seen c (Joining n) a) (rests c (Joining n) a) b (first_open c (Joining n) a e) (no_byte (rests c (Joining n) a) b refl)
open_next (Waiting n) c a b e some = in_stream (first_seen c (Waiting n) a) (rests c (Waiting n) a) b (first_open c (Waiting n) a e) (no_byte (rests c (Waiting n) a) b refl)
open_next Ignored c a b e some = in_stream (first_seen c Ignored a) (all_given c Ignored []) b (first_open c Ignored a e) (no_byte (all_given c Ignored []) b refl)
open_next Incomplete c a b e some = in_stream (first_seen c Incomplete a) (all_given c Incomplete []) b (first_open c Incomplete a e) (no_byte (all_given c Incomplete []) b refl)
open_next Over c a b e some = in_stream (first_seen c Over a) (all_given c Over []) b (first_open c Over a e) (no_byte (all_given c Over []) b refl)

pub piece_next : (s : Stream) (c : Connection) (a b p : List ℕ) → c.over ≡ false → 0 < length b → 0 < length p → (first_seen c s a).seen ≡ bytes_seen p → in_piece (first_seen c s a) ≡ true → NextPiece (first_seen c s a).connection (first_seen c s a).stream b
piece_next s c a b p e some l seen i = open_next s c a b e some p l seen i

-- a stream of frames is one after a piece of DATA
abbrev StaysFrames : StreamRun → Type 0
StaysFrames x = is_byte x.seen ≡ true → IsFrames x.stream

no_frames_after : (x : StreamRun) → is_byte x.seen ≡ false → StaysFrames x
no_frames_after x n e = absurd (cc (sym n ∙ e))

stays_in : (x y : StreamRun) → x ≡ y → StaysFrames y → StaysFrames x
stays_in x y e h = subst (λ (z : StreamRun). StaysFrames z) (sym e) h

settings_stay : (o : Result PeerSettings Fault) (payload : List ℕ) (c : Connection) (r : Reader) (left : List ℕ) → StaysFrames (by_settings c payload (λ d. rests d (Frames r true) left) o)
settings_stay (Ok v) payload c r left e = absurd (cc e)
settings_stay (Err f) payload c r left e = absurd (cc e)

frame_stays : (k : FrameType) (payload : List ℕ) (c : Connection) (g : Bool) (r : Reader) (left : List ℕ) → StaysFrames (of_frames c g (record { items = Whole k payload ∷ []; reader = r; left = left }))
frame_stays kind.Settings payload c g r left = settings_stay (received_settings c payload) payload c r left
frame_stays other payload c g r left = λ e. absurd (cc e)

shape_stays : (items : List Item) (c : Connection) (g : Bool) (r : Reader) (left : List ℕ) → Shape items → StaysFrames (of_frames c g (record { items = items; reader = r; left = left }))
shape_stays _ c g r left Nothing = λ e. absurd (cc e)
shape_stays _ c g r left (Frame k payload) = frame_stays k payload c g r left
shape_stays _ c g r left (Section n) = λ e. absurd (cc e)
shape_stays _ c g r left (Fails f) = λ e. absurd (cc e)
shape_stays _ c g r left (Piece bytes full) =
    stays_in (of_frames c g (record { items = map Byte bytes; reader = r; left = left })) (record { seen = bytes_seen bytes; connection = c; stream = Frames r g; left = left }) (piece_frames bytes c g r left) (λ e. tt)

pub frames_stay : (s : Stream) (c : Connection) (a p : List ℕ) → c.over ≡ false → 0 < length p → (first_seen c s a).seen ≡ bytes_seen p → IsFrames s → IsFrames (first_seen c s a).stream
frames_stay (Frames r g) c a p e l seen is =
    stays_in (first_seen c (Frames r g) a) (of_frames c g (first r a)) (first_open c (Frames r g) a e) (shape_stays (first r a).items c g (first r a).reader (first r a).left (first_shape r a)) (ap is_byte seen ∙ byte_first p l)
frames_stay Uni c a p e l seen is = absurd is
frames_stay Bi c a p e l seen is = absurd is
frames_stay (Joining n) c a p e l seen is = absurd is
frames_stay (Waiting n) c a p e l seen is = absurd is
frames_stay (Session n) c a p e l seen is = absurd is
frames_stay Encoder c a p e l seen is = absurd is
frames_stay (Decoder place) c a p e l seen is = absurd is
frames_stay Ignored c a p e l seen is = absurd is
frames_stay Incomplete c a p e l seen is = absurd is
frames_stay Over c a p e l seen is = absurd is
