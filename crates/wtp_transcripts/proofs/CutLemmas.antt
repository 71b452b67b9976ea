-- A stream is cut anywhere, under any state of the connection.
use Rattle.std.proofs.Common.{◌≡◌, ℕ, ◌&&◌, ◌||◌, Bool, true, false, List, [], ◌∷◌, ◌++◌, map, Option, Some, None, Result, Ok, Err, refl, sym, ap, subst, ◌∙◌, inl, inr}
use Rattle.std.proofs.lemmas.Bool.{cases_Bool, false≢true}
use Rattle.std.proofs.lemmas.List.{append-nil, map-append}
use Rattle.std.proofs.lemmas.List.Folds.{list_all-append}
use Rattle.std.specs.List.{list_all}
use Rattle.wtp_frames.specs.declared.frame_type.FrameType.TheVariants as kind
use Rattle.wtp_frames.specs.declared.reader.Reader.{Reader}
use Rattle.wtp_frames.specs.Item.{Item, Whole, Byte, TooLarge, Broken}
use Rattle.wtp_frames.specs.Run.{Run, run, is_failed}
use Rattle.wtp_frames.proofs.RunLemmas.{run_failed}
use Rattle.wtp_frames.proofs.CutLemmas.{cut}
use Rattle.wtp_frames.proofs.FaultLemmas.{has_broken, run_fails}
use Rattle.wtp_connection.specs.declared.connection.Connection.{Connection}
use Rattle.wtp_connection.specs.declared.fault.Fault.{Fault}
use Rattle.wtp_connection.specs.declared.fault.Fault.TheVariants as fault
use Rattle.wtp_connection.specs.declared.instructions.DecoderPlace.{DecoderPlace}
use Rattle.wtp_connection.specs.declared.settings.PeerSettings.{PeerSettings}
use Rattle.wtp_connection.specs.declared.stream.Purpose.{Purpose}
use Rattle.wtp_connection.specs.declared.stream.Purpose.TheVariants as «for»
use Rattle.wtp_connection.specs.declared.stream.Stream.{Stream}
use Rattle.wtp_connection.specs.declared.stream.Stream.TheVariants.{Uni, Bi, Frames, Joining, Waiting, Session, Encoder, Decoder, Ignored}
use Rattle.wtp_connection.specs.Instructions.{sets_zero, then_bytes, after_bytes}
use Rattle.wtp_connection.specs.Receiving.{opening_of}
use Rattle.wtp_connection.specs.Streams.{opens, opens_once, closed_by, Seen, Opened, Configured, Gave, Broke, StreamRun, rests, followed, all_given, breaks, by_settings, by_item, of_items, has_frames, of_frames, bytes_seen, by_capacity, by_place as by_decoder, run_open, by_purpose, by_opening, run_intact, run_stream, ended, configured, received_settings}
use Rattle.wtp_connection.proofs.InstructionLemmas.{after_append}
use Rattle.wtp_connection.proofs.OpeningLemmas.{opening_more}
use Rattle.wtp_connection.proofs.StreamLemmas.{over_run, frames_run, over_given, or_true}
use Rattle.wtp_connection.proofs.FinishLemmas.{ended_followed}
use Rattle.wtp_transcripts.specs.Transcript.{read}

-- ---- a stream of frames

item_same : (i : Item) (c : Connection) (f g : Connection → StreamRun) → ((d : Connection) → f d ≡ g d) → by_item c f i ≡ by_item c g i
item_same (Whole kind.Settings payload) c f g h = settings_same (received_settings c payload) c payload f g h
  where
    settings_same : (o : Result PeerSettings Fault) (c : Connection) (payload : List ℕ) (f g : Connection → StreamRun) → ((d : Connection) → f d ≡ g d) → by_settings c payload f o ≡ by_settings c payload g o
    settings_same (Ok v) c payload f g h = ap (λ (x : StreamRun). followed (Configured v payload ∷ []) x) (h (configured c v))
    settings_same (Err x) c payload f g h = refl
item_same (Broken x) c f g h = ap (λ (y : StreamRun). followed (Broke (fault.Stream x) ∷ []) y) (h (closed_by c (fault.Stream x)))
item_same other c f g h = ap (λ (y : StreamRun). followed (Gave other ∷ []) y) (h c)

items_append : (xs ys : List Item) (c : Connection) (f : Connection → StreamRun) → of_items c f (xs ++ ys) ≡ of_items c (λ d. of_items d f ys) xs
items_append [] ys c f = refl
items_append (i ∷ xs) ys c f = item_same i c (λ d. of_items d f (xs ++ ys)) (λ d. of_items d (λ e. of_items e f ys) xs) (λ d. items_append xs ys d f)

frames_append : (xs ys : List Item) (g : Bool) → (has_frames (xs ++ ys) || g) ≡ (has_frames ys || (has_frames xs || g))
frames_append [] ys g = refl
frames_append (Whole k payload ∷ xs) ys g = or_true (has_frames ys)
frames_append (TooLarge n ∷ xs) ys g = or_true (has_frames ys)
frames_append (Byte b ∷ xs) ys g = frames_append xs ys g
frames_append (Broken f ∷ xs) ys g = frames_append xs ys g

-- what follows the run of some bytes, where more of them come
abbrev pub then_more : StreamRun → List ℕ → StreamRun
then_more x b = followed x.seen (run_stream x.connection x.stream (x.left ++ b))

broken_cut : (c : Connection) (f : Fault) (b : List ℕ) → breaks c f ≡ then_more (breaks c f) b
broken_cut c f b = ap (λ (y : StreamRun). followed (Broke f ∷ []) y) (sym (over_given (closed_by c f) b))

settings_cut : (o : Result PeerSettings Fault) (c : Connection) (payload b : List ℕ) (f g : Connection → StreamRun) → ((v : PeerSettings) → f (configured c v) ≡ then_more (g (configured c v)) b) → by_settings c payload f o ≡ then_more (by_settings c payload g o) b
settings_cut (Ok v) c payload b f g h = ap (λ (x : StreamRun). followed (Configured v payload ∷ []) x) (h v)
settings_cut (Err x) c payload b f g h = broken_cut c x b

reader_cut : (c : Connection) (g : Bool) (r : Reader) (l : List ℕ) → (c.over ≡ true → is_failed r.place ≡ true) → of_frames c g (run r l) ≡ run_stream c (Frames r g) l
reader_cut c g r l h = elim (cases_Bool c.over) [
  | inl over ↦ ap (λ (x : Run). of_frames c g x) (run_failed r l (h over)) ∙ sym (over_run c (Frames r g) l over)
  | inr intact ↦ sym (frames_run c r g l intact)
]

items_cut : (xs : List Item) (c : Connection) (g : Bool) (r : Reader) (l b : List ℕ) → (c.over ≡ true → is_failed r.place ≡ true) → (has_broken xs ≡ true → is_failed r.place ≡ true) → of_items c (λ d. of_frames d g (run r (l ++ b))) xs ≡ then_more (of_items c (λ d. rests d (Frames r g) l) xs) b
items_cut [] c g r l b h k = reader_cut c g r (l ++ b) h
items_cut (Whole kind.Settings payload ∷ xs) c g r l b h k = settings_cut (received_settings c payload) c payload b (λ d. of_items d (λ e. of_frames e g (run r (l ++ b))) xs) (λ d. of_items d (λ e. rests e (Frames r g) l) xs) (λ v. items_cut xs (configured c v) g r l b h k)
items_cut (Broken f ∷ xs) c g r l b h k = ap (λ (x : StreamRun). followed (Broke (fault.Stream f) ∷ []) x) (items_cut xs (closed_by c (fault.Stream f)) g r l b (λ e. k refl) (λ e. k refl))
items_cut (other ∷ xs) c g r l b h k = ap (λ (x : StreamRun). followed (Gave other ∷ []) x) (items_cut xs c g r l b h k)

frames_cut : (c : Connection) (r : Reader) (g : Bool) (a b : List ℕ) → c.over ≡ false → of_frames c g (run r (a ++ b)) ≡ then_more (of_frames c g (run r a)) b
frames_cut c r g a b e =
    let x : Run = run r a in
    let z : Run = run (run r a).reader ((run r a).left ++ b) in
    ap (λ (y : Run). of_frames c g y) (cut r a b)
    ∙ ap (λ (k : Bool). of_items c (λ d. rests d (Frames z.reader k) z.left) (x.items ++ z.items)) (frames_append x.items z.items g)
    ∙ items_append x.items z.items c (λ d. rests d (Frames z.reader (has_frames z.items || (has_frames x.items || g))) z.left)
    ∙ items_cut x.items c (has_frames x.items || g) x.reader x.left b (λ over. absurd (false≢true (sym e ∙ over))) (run_fails r a).last

-- ---- a stream whose purpose is known

-- its run is that of its state
record IsKnown (c : Connection) (s : Stream) : Type 0 where
  runs : (l : List ℕ) → run_stream c s l ≡ run_open c s l

intact_run_is : (c : Connection) (s : Stream) (bytes : List ℕ) → c.over ≡ false → run_stream c s bytes ≡ run_intact c s bytes
intact_run_is c s bytes e = rw e refl

seen_append : (xs ys : List ℕ) → bytes_seen (xs ++ ys) ≡ bytes_seen xs ++ bytes_seen ys
seen_append xs ys = ap (λ (l : List Item). map Gave l) (map-append Byte xs ys) ∙ map-append Gave (map Byte xs) (map Byte ys)

capacity_cut : (x : Bool) (c : Connection) (a b : List ℕ) → list_all sets_zero a ≡ x → IsKnown c Encoder → by_capacity c (list_all sets_zero (a ++ b)) ≡ then_more (by_capacity c x) b
capacity_cut true c a b e k = ap (λ (y : Bool). by_capacity c y) (list_all-append sets_zero a b ∙ ap (λ (y : Bool). y && list_all sets_zero b) e) ∙ sym (k.runs b)
capacity_cut false c a b e k = ap (λ (y : Bool). by_capacity c y) (list_all-append sets_zero a b ∙ ap (λ (y : Bool). y && list_all sets_zero b) e) ∙ broken_cut c fault.EncoderStream b

place_cut : (o : Option DecoderPlace) (c : Connection) (place : DecoderPlace) (a b : List ℕ) → c.over ≡ false → after_bytes place a ≡ o → by_decoder c (after_bytes place (a ++ b)) ≡ then_more (by_decoder c o) b
place_cut (Some next) c place a b e is = ap (λ (y : Option DecoderPlace). by_decoder c y) (after_append place a b ∙ ap (λ (y : Option DecoderPlace). then_bytes (λ p. after_bytes p b) y) is) ∙ sym (intact_run_is c (Decoder next) b e)
place_cut None c place a b e is = ap (λ (y : Option DecoderPlace). by_decoder c y) (after_append place a b ∙ ap (λ (y : Option DecoderPlace). then_bytes (λ p. after_bytes p b) y) is) ∙ broken_cut c fault.DecoderStream b

known_cut : (c : Connection) (s : Stream) (a b : List ℕ) → c.over ≡ false → IsKnown c s → run_open c s (a ++ b) ≡ then_more (run_open c s a) b
known_cut c (Frames r g) a b e k = frames_cut c r g a b e
known_cut c (Session n) a b e k = ap (λ (l : List Seen). all_given c (Session n) l) (seen_append a b) ∙ ap (λ (x : StreamRun). followed (bytes_seen a) x) (sym (k.runs b))
known_cut c Encoder a b e k = capacity_cut (list_all sets_zero a) c a b refl k
known_cut c (Decoder place) a b e k = place_cut (after_bytes place a) c place a b e refl
known_cut c (Joining n) a b e k = sym (k.runs (a ++ b))
known_cut c (Waiting n) a b e k = sym (k.runs (a ++ b))
known_cut c other a b e k = sym (k.runs b)

-- ---- a stream that is opened

abbrev ok_to : Connection × Stream → Result (Connection × Stream) Fault
ok_to x = Ok x

ok_pair : (x y : Connection × Stream) → ok_to x ≡ Ok y → x ≡ y
ok_pair x y e = cc

-- it is known then, and no error ended the connection
record HasOpened (x : Connection × Stream) : Type 0 where
  known : IsKnown x.0 x.1
  intact : x.0.over ≡ false

opened_to : (y x : Connection × Stream) → y ≡ x → HasOpened y → HasOpened x
opened_to y x e h = subst (λ (z : Connection × Stream). HasOpened z) e h

once_opened : (b : Bool) (c : Connection) (s : Stream) (x : Connection × Stream) → opens_once b c s ≡ Ok x → HasOpened (c, s) → HasOpened x
once_opened true c s x e h = absurd (cc)
once_opened false c s x e h = opened_to (c, s) x (ok_pair (c, s) x e) h

has_opened : (c : Connection) (p : Purpose) (x : Connection × Stream) → c.over ≡ false → opens c p ≡ Ok x → HasOpened x
has_opened c «for».Control x i e = once_opened c.control _ _ x e (record { known = record { runs = λ l. intact_run_is _ _ l i }; intact = i })
has_opened c «for».Encoder x i e = once_opened c.encoder _ _ x e (record { known = record { runs = λ l. intact_run_is _ _ l i }; intact = i })
has_opened c «for».Decoder x i e = once_opened c.decoder _ _ x e (record { known = record { runs = λ l. intact_run_is _ _ l i }; intact = i })
has_opened c («for».Session s) x i e = opened_to (c, Joining s) x (ok_pair _ x e) (record { known = record { runs = λ l. intact_run_is c (Joining s) l i }; intact = i })
has_opened c «for».Message x i e = opened_to _ x (ok_pair _ x e) (record { known = record { runs = λ l. intact_run_is _ _ l i }; intact = i })
has_opened c «for».Ignored x i e = opened_to (c, Ignored) x (ok_pair _ x e) (record { known = record { runs = λ l. intact_run_is c Ignored l i }; intact = i })
has_opened c «for».Push x i e = absurd (cc)
has_opened c «for».InvalidSession x i e = absurd (cc)
has_opened c «for».Foreign x i e = absurd (cc)

purpose_cut : (c : Connection) (p : Purpose) (rest b : List ℕ) (o : Result (Connection × Stream) Fault) → c.over ≡ false → opens c p ≡ o → by_purpose c p (rest ++ b) o ≡ then_more (by_purpose c p rest o) b
purpose_cut c p rest b (Ok x) i e =
    let h : HasOpened x = has_opened c p x i e in
    ap (λ (y : StreamRun). followed (Opened p ∷ []) y) (known_cut x.0 x.1 rest b h.intact h.known)
purpose_cut c p rest b (Err f) i e = broken_cut c f b

first_run : (c : Connection) (s : Stream) (a b : List ℕ) (o : Option (Purpose × List ℕ)) → c.over ≡ false → ((l : List ℕ) → run_stream c s l ≡ by_opening c s l (opening_of c.endpoint s l)) → opening_of c.endpoint s a ≡ o → run_stream c s (a ++ b) ≡ then_more (by_opening c s a o) b
first_run c s a b None i h e = refl
first_run c s a b (Some y) i h e =
    h (a ++ b)
    ∙ ap (λ (o : Option (Purpose × List ℕ)). by_opening c s (a ++ b) o) (opening_more c.endpoint s a b y e)
    ∙ purpose_cut c y.0 y.1 b (opens c y.0) i refl

first_cut : (c : Connection) (s : Stream) (a b : List ℕ) → c.over ≡ false → ((l : List ℕ) → run_stream c s l ≡ by_opening c s l (opening_of c.endpoint s l)) → run_stream c s (a ++ b) ≡ then_more (run_stream c s a) b
first_cut c s a b i h = first_run c s a b (opening_of c.endpoint s a) i h refl ∙ ap (λ (x : StreamRun). then_more x b) (sym (h a))

-- ---- any stream

open_cut : (c : Connection) (s : Stream) (a b : List ℕ) → c.over ≡ false → ((l : List ℕ) → run_stream c s l ≡ run_open c s l) → run_stream c s (a ++ b) ≡ then_more (run_stream c s a) b
open_cut c s a b i h = h (a ++ b) ∙ known_cut c s a b i (record { runs = h }) ∙ ap (λ (x : StreamRun). then_more x b) (sym (h a))

intact_cut : (c : Connection) (s : Stream) (a b : List ℕ) → c.over ≡ false → run_stream c s (a ++ b) ≡ then_more (run_stream c s a) b
intact_cut c Uni a b i = first_cut c Uni a b i (λ l. intact_run_is c Uni l i)
intact_cut c Bi a b i = first_cut c Bi a b i (λ l. intact_run_is c Bi l i)
intact_cut c other a b i = open_cut c other a b i (λ l. intact_run_is c other l i)

over_cut : (c : Connection) (s : Stream) (a b : List ℕ) → c.over ≡ true → run_stream c s (a ++ b) ≡ then_more (run_stream c s a) b
over_cut c s a b o =
    over_run c s (a ++ b) o
    ∙ sym (ap (λ (x : StreamRun). then_more x b) (over_run c s a o) ∙ over_run c s b o)

pub stream_cut : (c : Connection) (s : Stream) (a b : List ℕ) → run_stream c s (a ++ b) ≡ then_more (run_stream c s a) b
stream_cut c s a b = elim (cases_Bool c.over) [
  | inl over ↦ over_cut c s a b over
  | inr intact ↦ intact_cut c s a b intact
]

-- the same of a stream that may end
pub read_cut : (fin : Bool) (c : Connection) (s : Stream) (a b : List ℕ) → read fin c s (a ++ b) ≡ followed (run_stream c s a).seen (read fin (run_stream c s a).connection (run_stream c s a).stream ((run_stream c s a).left ++ b))
read_cut true c s a b = ap (λ (x : StreamRun). ended x) (stream_cut c s a b) ∙ ended_followed (run_stream c s a).seen (run_stream (run_stream c s a).connection (run_stream c s a).stream ((run_stream c s a).left ++ b))
read_cut false c s a b = stream_cut c s a b

-- ---- what is left gives nothing

no_more : (xs ys : List Seen) → xs ≡ xs ++ ys → ys ≡ []
no_more [] ys e = sym e
no_more (x ∷ xs) ys e = no_more xs ys (ap (λ (l : List Seen). tail_of l) e)
  where
    tail_of : List Seen → List Seen
    tail_of [] = []
    tail_of (i ∷ l) = l

run_parts : (y : StreamRun) (c : Connection) (s : Stream) (l : List ℕ) → y.seen ≡ [] → y.connection ≡ c → y.stream ≡ s → y.left ≡ l → y ≡ rests c s l
run_parts y c s l e f g h =
    ap (λ (i : List Seen). record { seen = i; connection = y.connection; stream = y.stream; left = y.left }) e
    ∙ ap (λ (d : Connection). record { seen = []; connection = d; stream = y.stream; left = y.left }) f
    ∙ ap (λ (t : Stream). record { seen = []; connection = c; stream = t; left = y.left }) g
    ∙ ap (λ (k : List ℕ). rests c s k) h

pub run_still : (c : Connection) (s : Stream) (a : List ℕ) → run_stream (run_stream c s a).connection (run_stream c s a).stream (run_stream c s a).left ≡ rests (run_stream c s a).connection (run_stream c s a).stream (run_stream c s a).left
run_still c s a =
    let x : StreamRun = run_stream c s a in
    let y : StreamRun = run_stream (run_stream c s a).connection (run_stream c s a).stream (run_stream c s a).left in
    let same : run_stream c s a ≡ followed (run_stream c s a).seen (run_stream (run_stream c s a).connection (run_stream c s a).stream (run_stream c s a).left) =
    ap (λ (l : List ℕ). run_stream c s l) (sym (append-nil a)) ∙ stream_cut c s a [] ∙ ap (λ (l : List ℕ). followed (run_stream c s a).seen (run_stream (run_stream c s a).connection (run_stream c s a).stream l)) (append-nil (run_stream c s a).left) in
    run_parts y x.connection x.stream x.left (no_more x.seen y.seen (ap (λ (z : StreamRun). z.seen) same)) (sym (ap (λ (z : StreamRun). z.connection) same)) (sym (ap (λ (z : StreamRun). z.stream) same)) (sym (ap (λ (z : StreamRun). z.left) same))
