-- What a call finds.
use Rattle.std.proofs.Common.{◌≡◌, ℕ, ◌-◌, ◌<◌, ◌≤◌, ◌&&◌, ◌||◌, Bool, true, false, List, [], ◌∷◌, ◌++◌, map, length, take, drop, Option, Some, None, Result, Ok, Err, refl, sym, ap, subst, ◌∙◌, arith, inl, inr}
use Rattle.std.proofs.lemmas.Bool.{cases_Bool}
use Rattle.std.proofs.lemmas.List.{map-append}
use Rattle.std.proofs.Math.Seq.{take-length, drop-length}
use Rattle.std.specs.List.{list_all}
use Rattle.std.proofs.lemmas.List.Folds.{list_all-append}
use Rattle.wtp_frames.specs.declared.fault.Fault.{Fault as StreamFault}
use Rattle.wtp_frames.specs.declared.frame_type.FrameType.{FrameType}
use Rattle.wtp_frames.specs.declared.frame_type.FrameType.TheVariants as kind
use Rattle.wtp_frames.specs.declared.reader.Place.TheVariants.{Failed}
use Rattle.wtp_frames.specs.declared.reader.Reader.{Reader}
use Rattle.wtp_frames.specs.declared.reader.Step.{Step}
use Rattle.wtp_frames.specs.declared.reader.Step.TheVariants as step
use Rattle.wtp_frames.specs.Item.{Item, Whole, Byte, TooLarge, Broken}
use Rattle.wtp_frames.specs.Run.{Run, is_failed, run}
use Rattle.wtp_frames.specs.Reading.{Gives, StepIs, IsPast, slice}
use Rattle.wtp_frames.specs.Start.{between}
use Rattle.wtp_frames.specs.declared.endpoint.Endpoint.{Endpoint}
use Rattle.wtp_connection.specs.declared.fault.Fault.{Fault}
use Rattle.wtp_connection.specs.declared.fault.Fault.TheVariants as fault
use Rattle.wtp_connection.specs.declared.settings.PeerSettings.{PeerSettings}
use Rattle.wtp_connection.specs.declared.instructions.DecoderPlace.{DecoderPlace}
use Rattle.wtp_connection.specs.Instructions.{sets_zero, then_bytes, after_bytes}
use Rattle.wtp_connection.proofs.InstructionLemmas.{after_append}
use Rattle.wtp_frames.proofs.RunLemmas.{run_failed}
use Rattle.wtp_connection.specs.declared.stream.Purpose.{Purpose}
use Rattle.wtp_connection.specs.declared.stream.Purpose.TheVariants as «for»
use Rattle.wtp_connection.specs.declared.stream.Stream.{Stream}
use Rattle.wtp_connection.specs.declared.stream.Stream.TheVariants.{Uni, Bi, Frames, Joining, Waiting, Session, Encoder, Decoder, Ignored, Incomplete, Over}
use Rattle.wtp_connection.specs.declared.connection.Connection.{Connection}
use Rattle.wtp_connection.specs.declared.connection.Found.{Found}
use Rattle.wtp_connection.specs.declared.connection.Found.TheVariants as found
use Rattle.wtp_connection.specs.Streams.{opens, opens_once, configured, received_settings, closed_by, Seen, Opened, Configured, Gave, Broke, StreamRun, rests, followed, all_given, by_settings, by_item, of_items, has_frames, of_frames, bytes_seen, by_capacity, by_place, breaks, run_open, by_purpose, by_opening, run_intact, run_stream}
use Rattle.wtp_connection.specs.Receiving.{IsFirst, opening_of, AreFew, IsBetween, Finds, StepIsFound, Outcome, has_frame, IsInside, fails, settings_found, frame_found, step_found, with_capacity, encoder_found, decoder_found}
use Rattle.wtp_connection.proofs.OpeningLemmas.{opening_more, opening_few}

-- ---- a connection that an error did not end, and one that is over

pub intact_run : (c : Connection) (s : Stream) (bytes : List ℕ) → c.over ≡ false → run_stream c s bytes ≡ run_intact c s bytes
intact_run c s bytes e = rw e refl

pub over_run : (c : Connection) (s : Stream) (bytes : List ℕ) → c.over ≡ true → run_stream c s bytes ≡ all_given c s []
over_run c s bytes e = rw e refl

no_bytes : (bytes : List ℕ) → length bytes ≡ 0 → bytes ≡ []
no_bytes [] e = refl
no_bytes (b ∷ bytes) e = absurd (omega (arith, e))

nothing_left : (bytes : List ℕ) → drop (length bytes) bytes ≡ []
nothing_left bytes = drop-length bytes

few_none : (s : Stream) → AreFew s []
few_none Uni = omega arith
few_none Bi = omega arith
few_none (Frames r given) = omega arith
few_none (Joining n) = tt
few_none (Waiting n) = tt
few_none (Session n) = omega arith
few_none Encoder = omega arith
few_none (Decoder place) = omega arith
few_none Ignored = omega arith
few_none Incomplete = omega arith
few_none Over = omega arith

-- a stream whose bytes are all consumed, and give nothing
discards : (c : Connection) (s : Stream) (bytes : List ℕ) → ((more : List ℕ) → run_stream c s more ≡ all_given c s []) → StepIsFound (found.More (length bytes)) c s bytes c s
discards c s bytes h = record {
  fits = (
    omega arith,
    record {
      idle = h (drop (length bytes) bytes) ∙ ap (λ (l : List ℕ). rests c s l) (sym (nothing_left bytes));
      few = subst (λ (l : List ℕ). AreFew s l) (sym (nothing_left bytes)) (few_none s);
    },
  );
  finds = λ more. h (bytes ++ more) ∙ sym (h (drop (length bytes) bytes ++ more));
  alone = λ more. h (take (length bytes) bytes ++ more) ∙ sym (h more);
}

pub over_found : (c : Connection) (s : Stream) (bytes : List ℕ) → c.over ≡ true → StepIsFound (found.More (length bytes)) c s bytes c s
over_found c s bytes e = discards c s bytes (λ more. over_run c s more e)

pub ignored_found : (c : Connection) (bytes : List ℕ) → c.over ≡ false → StepIsFound (found.More (length bytes)) c Ignored bytes c Ignored
ignored_found c bytes e = discards c Ignored bytes (λ more. intact_run c Ignored more e)

pub ended_found : (c : Connection) (bytes : List ℕ) → c.over ≡ false → StepIsFound (found.More (length bytes)) c Over bytes c Over
ended_found c bytes e = discards c Over bytes (λ more. intact_run c Over more e)

pub incomplete_found : (c : Connection) (bytes : List ℕ) → c.over ≡ false → StepIsFound (found.More (length bytes)) c Incomplete bytes c Incomplete
incomplete_found c bytes e = discards c Incomplete bytes (λ more. intact_run c Incomplete more e)

-- a stream whose bytes wait
pub joining_found : (c : Connection) (n : ℕ) (bytes : List ℕ) → c.over ≡ false → StepIsFound (found.More 0) c (Joining n) bytes c (Joining n)
joining_found c n bytes e = record { fits = (omega arith, record { idle = intact_run c (Joining n) bytes e; few = tt }); finds = λ more. refl; alone = λ more. refl }

pub waiting_found : (c : Connection) (n : ℕ) (bytes : List ℕ) → c.over ≡ false → StepIsFound (found.More 0) c (Waiting n) bytes c (Waiting n)
waiting_found c n bytes e = record { fits = (omega arith, record { idle = intact_run c (Waiting n) bytes e; few = tt }); finds = λ more. refl; alone = λ more. refl }

-- ---- the application's bytes

pub seen_append : (xs ys : List ℕ) → bytes_seen (xs ++ ys) ≡ bytes_seen xs ++ bytes_seen ys
seen_append xs ys = ap (λ (l : List Item). map Gave l) (map-append Byte xs ys) ∙ map-append Gave (map Byte xs) (map Byte ys)

session_run : (c : Connection) (n : ℕ) (bytes : List ℕ) → c.over ≡ false → run_stream c (Session n) bytes ≡ all_given c (Session n) (bytes_seen bytes)
session_run c n bytes e = intact_run c (Session n) bytes e

session_finds : (c : Connection) (n : ℕ) (bytes : List ℕ) → c.over ≡ false → Finds c (Session n) bytes (bytes_seen bytes) c (Session n) []
session_finds c n bytes e more =
    session_run c n (bytes ++ more) e
    ∙ ap (λ (l : List Seen). all_given c (Session n) l) (seen_append bytes more)
    ∙ ap (λ (x : StreamRun). followed (bytes_seen bytes) x) (sym (session_run c n more e))

pub data_found : (c : Connection) (n : ℕ) (bytes : List ℕ) → c.over ≡ false → 0 < length bytes → StepIsFound (found.Data 0 (length bytes)) c (Session n) bytes c (Session n)
data_found c n bytes e some =
    let size : length bytes - 0 ≡ length bytes = omega arith in
    record {
      fits = (some, omega arith);
      finds = λ more. session_finds c n bytes e more ∙ rw (size, take-length bytes, drop-length bytes) refl;
      alone = rw (size, take-length bytes) (session_finds c n bytes e);
    }

pub data_none : (c : Connection) (n : ℕ) (bytes : List ℕ) → c.over ≡ false → length bytes ≡ 0 → StepIsFound (found.More 0) c (Session n) bytes c (Session n)
data_none c n bytes e l = rw (no_bytes bytes l) (record {
  fits = (omega arith, record { idle = session_run c n [] e; few = omega arith });
  finds = λ more. refl;
  alone = λ more. refl;
})

-- ---- frames

pub frames_run : (c : Connection) (r : Reader) (g : Bool) (bytes : List ℕ) → c.over ≡ false → run_stream c (Frames r g) bytes ≡ of_frames c g (run r bytes)
frames_run c r g bytes e = intact_run c (Frames r g) bytes e

item_same : (i : Item) (c : Connection) (f g : Connection → StreamRun) → ((d : Connection) → f d ≡ g d) → by_item c f i ≡ by_item c g i
item_same (Whole kind.Settings payload) c f g h = settings_same (received_settings c payload) c payload f g h
  where
    settings_same : (o : Result PeerSettings Fault) (c : Connection) (payload : List ℕ) (f g : Connection → StreamRun) → ((d : Connection) → f d ≡ g d) → by_settings c payload f o ≡ by_settings c payload g o
    settings_same (Ok v) c payload f g h = ap (λ (x : StreamRun). followed (Configured v payload ∷ []) x) (h (configured c v))
    settings_same (Err x) c payload f g h = refl
item_same (Broken x) c f g h = ap (λ (y : StreamRun). followed (Broke (fault.Stream x) ∷ []) y) (h (closed_by c (fault.Stream x)))
item_same other c f g h = ap (λ (y : StreamRun). followed (Gave other ∷ []) y) (h c)

pub items_append : (xs ys : List Item) (c : Connection) (f : Connection → StreamRun) → of_items c f (xs ++ ys) ≡ of_items c (λ d. of_items d f ys) xs
items_append [] ys c f = refl
items_append (i ∷ xs) ys c f = item_same i c (λ d. of_items d f (xs ++ ys)) (λ d. of_items d (λ e. of_items e f ys) xs) (λ d. items_append xs ys d f)

pub items_bytes : (bytes : List ℕ) (c : Connection) (f : Connection → StreamRun) → of_items c f (map Byte bytes) ≡ followed (bytes_seen bytes) (f c)
items_bytes [] c f = refl
items_bytes (b ∷ bytes) c f = ap (λ (y : StreamRun). followed (Gave (Byte b) ∷ []) y) (items_bytes bytes c f)

pub or_true : (b : Bool) → true ≡ (b || true)
or_true true = refl
or_true false = refl

pub frames_append : (xs ys : List Item) (g : Bool) → (has_frames (xs ++ ys) || g) ≡ (has_frames ys || (has_frames xs || g))
frames_append [] ys g = refl
frames_append (Whole k payload ∷ xs) ys g = or_true (has_frames ys)
frames_append (TooLarge n ∷ xs) ys g = or_true (has_frames ys)
frames_append (Byte b ∷ xs) ys g = frames_append xs ys g
frames_append (Broken f ∷ xs) ys g = frames_append xs ys g

pub no_frames : (bytes : List ℕ) → has_frames (map Byte bytes) ≡ false
no_frames [] = refl
no_frames (b ∷ bytes) = no_frames bytes

-- what follows items that a reader gives
frames_give : (items : List Item) (c : Connection) (old new : Reader) (g : Bool) (bytes rest : List ℕ) → c.over ≡ false → Gives old bytes items new rest → (more : List ℕ) → run_stream c (Frames old g) (bytes ++ more) ≡ of_items c (λ d. of_frames d (has_frames items || g) (run new (rest ++ more))) items
frames_give items c old new g bytes rest e h more =
    let y : Run = run new (rest ++ more) in
    frames_run c old g (bytes ++ more) e
    ∙ ap (λ (z : Run). of_frames c g z) (h more)
    ∙ ap (λ (k : Bool). of_items c (λ d. rests d (Frames y.reader k) y.left) (items ++ y.items)) (frames_append items y.items g)
    ∙ items_append items y.items c (λ d. rests d (Frames y.reader (has_frames y.items || (has_frames items || g))) y.left)

-- SETTINGS
settings_give : (c : Connection) (old new : Reader) (g : Bool) (payload bytes rest : List ℕ) (o : Result PeerSettings Fault) → c.over ≡ false → received_settings c payload ≡ o → Gives old bytes (Whole kind.Settings payload ∷ []) new rest → (more : List ℕ) → run_stream c (Frames old g) (bytes ++ more) ≡ by_settings c payload (λ d. of_frames d true (run new (rest ++ more))) o
settings_give c old new g payload bytes rest o e is h more =
    frames_give (Whole kind.Settings payload ∷ []) c old new g bytes rest e h more
    ∙ ap (λ (o : Result PeerSettings Fault). by_settings c payload (λ d. of_frames d true (run new (rest ++ more))) o) is

settings_find : (v : PeerSettings) (c : Connection) (old new : Reader) (g : Bool) (payload bytes rest : List ℕ) → c.over ≡ false → received_settings c payload ≡ Ok v → Gives old bytes (Whole kind.Settings payload ∷ []) new rest → Finds c (Frames old g) bytes (Configured v payload ∷ []) (configured c v) (Frames new true) rest
settings_find v c old new g payload bytes rest e is h more =
    settings_give c old new g payload bytes rest (Ok v) e is h more
    ∙ ap (λ (y : StreamRun). followed (Configured v payload ∷ []) y) (sym (frames_run (configured c v) new true (rest ++ more) e))

-- another frame
frame_finds : (i : Item) (c : Connection) (old new : Reader) (g : Bool) (bytes rest : List ℕ) → has_frames (i ∷ []) ≡ true → ((f : Connection → StreamRun) → by_item c f i ≡ followed (Gave i ∷ []) (f c)) → c.over ≡ false → Gives old bytes (i ∷ []) new rest → Finds c (Frames old g) bytes (Gave i ∷ []) c (Frames new true) rest
frame_finds i c old new g bytes rest has is e h more =
    frames_give (i ∷ []) c old new g bytes rest e h more
    ∙ is (λ d. of_frames d (has_frames (i ∷ []) || g) (run new (rest ++ more)))
    ∙ ap (λ (k : Bool). followed (Gave i ∷ []) (of_frames c (k || g) (run new (rest ++ more)))) has
    ∙ ap (λ (y : StreamRun). followed (Gave i ∷ []) y) (sym (frames_run c new true (rest ++ more) e))

-- bytes of DATA
bytes_find : (payload : List ℕ) (c : Connection) (old new : Reader) (g : Bool) (bytes rest : List ℕ) → c.over ≡ false → Gives old bytes (map Byte payload) new rest → Finds c (Frames old g) bytes (bytes_seen payload) c (Frames new g) rest
bytes_find payload c old new g bytes rest e h more =
    frames_give (map Byte payload) c old new g bytes rest e h more
    ∙ items_bytes payload c (λ d. of_frames d (has_frames (map Byte payload) || g) (run new (rest ++ more)))
    ∙ ap (λ (k : Bool). followed (bytes_seen payload) (of_frames c (k || g) (run new (rest ++ more)))) (no_frames payload)
    ∙ ap (λ (y : StreamRun). followed (bytes_seen payload) y) (sym (frames_run c new g (rest ++ more) e))

-- nothing
nothing_finds : (c : Connection) (old new : Reader) (g : Bool) (bytes rest : List ℕ) → c.over ≡ false → Gives old bytes [] new rest → Finds c (Frames old g) bytes [] c (Frames new g) rest
nothing_finds c old new g bytes rest e h more = frames_give [] c old new g bytes rest e h more ∙ sym (frames_run c new g (rest ++ more) e)

-- after a fault of it a stream gives nothing, whether the connection is over or not
failed_frames : (d : Connection) (r : Reader) (g : Bool) (f : StreamFault) (more : List ℕ) → r.place ≡ Failed f → of_frames d g (run r more) ≡ run_stream d (Frames r g) more
failed_frames d r g f more p = elim (cases_Bool d.over) [
  | inl over ↦ ap (λ (y : Run). of_frames d g y) (run_failed r more (ap is_failed p)) ∙ sym (over_run d (Frames r g) more over)
  | inr intact ↦ sym (frames_run d r g more intact)
]

pub over_given : (d : Connection) (more : List ℕ) → run_stream d Over more ≡ all_given d Over []
over_given d more = elim (cases_Bool d.over) [
  | inl over ↦ over_run d Over more over
  | inr intact ↦ intact_run d Over more intact
]

pub incomplete_given : (d : Connection) (more : List ℕ) → run_stream d Incomplete more ≡ all_given d Incomplete []
incomplete_given d more = elim (cases_Bool d.over) [
  | inl over ↦ over_run d Incomplete more over
  | inr intact ↦ intact_run d Incomplete more intact
]

-- what a step is for the connection
abbrev IsOutcome : Outcome → Connection → Stream → List ℕ → Type 0
IsOutcome o c s bytes = StepIsFound o.0 c s bytes o.1 o.2

settings_case : (o : Result PeerSettings Fault) (start end : ℕ) (c : Connection) (old new : Reader) (g : Bool) (bytes : List ℕ) → received_settings c (slice start end bytes) ≡ o → c.over ≡ false → StepIs (step.Frame kind.Settings start end) old bytes new → IsOutcome (settings_found c (Frames new true) start end o) c (Frames old g) bytes
settings_case (Ok v) start end c old new g bytes is e h = record {
  fits = (h.within.0, h.within.1, h.within.2, refl);
  finds = settings_find v c old new g (slice start end bytes) bytes (drop end bytes) e is h.gives;
  alone = settings_find v c old new g (slice start end bytes) (take end bytes) [] e is h.alone;
}
settings_case (Err x) start end c old new g bytes is e h = record {
  fits = tt;
  finds = λ more.
      settings_give c old new g (slice start end bytes) bytes (drop end bytes) (Err x) e is h.gives more
      ∙ ap (λ (y : StreamRun). followed (Broke x ∷ []) y) (sym (over_given (closed_by c x) more));
  alone = tt;
}

-- the reader is before the next frame
stands_between : (old new : Reader) (k : FrameType) (payload : List ℕ) → IsPast k payload old new → IsBetween (Frames new true)
stands_between old new k payload h =
    let kept : new.endpoint ≡ old.endpoint = ap (λ (r : Reader). r.endpoint) h.reader in
    let counted : new.interims ≡ old.interims = ap (λ (r : Reader). r.interims) h.reader in
    h.reader
    ∙ ap (λ (e : Endpoint). between e old.interims new.place false 0) (sym kept)
    ∙ ap (λ (n : ℕ). between new.endpoint n new.place false 0) (sym counted)

-- another frame
other_case : (k : FrameType) (start end : ℕ) (c : Connection) (old new : Reader) (g : Bool) (bytes : List ℕ) → ((f : Connection → StreamRun) → by_item c f (Whole k (slice start end bytes)) ≡ followed (Gave (Whole k (slice start end bytes)) ∷ []) (f c)) → c.over ≡ false → StepIs (step.Frame k start end) old bytes new → StepIsFound (found.Frame k start end) c (Frames old g) bytes c (Frames new true)
other_case k start end c old new g bytes is e h = record {
  fits = (h.within.0, h.within.1, h.within.2, stands_between old new k (slice start end bytes) h.next);
  finds = frame_finds (Whole k (slice start end bytes)) c old new g bytes (drop end bytes) refl is e h.gives;
  alone = frame_finds (Whole k (slice start end bytes)) c old new g (take end bytes) [] refl is e h.alone;
}

frame_case : (k : FrameType) (start end : ℕ) (c : Connection) (old new : Reader) (g : Bool) (bytes : List ℕ) → c.over ≡ false → StepIs (step.Frame k start end) old bytes new → IsOutcome (frame_found c (Frames new true) k start end (slice start end bytes)) c (Frames old g) bytes
frame_case kind.Settings start end c old new g bytes e h = settings_case (received_settings c (slice start end bytes)) start end c old new g bytes refl e h
frame_case other start end c old new g bytes e h = other_case other start end c old new g bytes (λ f. refl) e h

pub frames_found : (x : Step) (c : Connection) (old new : Reader) (g : Bool) (bytes : List ℕ) → c.over ≡ false → StepIs x old bytes new → IsOutcome (step_found c (Frames new (has_frame x || g)) x bytes) c (Frames old g) bytes
frames_found (step.Frame k start end) c old new g bytes e h = frame_case k start end c old new g bytes e h
frames_found (step.Data start end) c old new g bytes e h = record {
  fits = h.within;
  finds = bytes_find (slice start end bytes) c old new g bytes (drop end bytes) e h.gives;
  alone = bytes_find (slice start end bytes) c old new g (take end bytes) [] e h.alone;
}
frames_found (step.TooLarge size n) c old new g bytes e h = record {
  fits = h.within;
  finds = frame_finds (TooLarge size) c old new g bytes (drop n bytes) refl (λ f. refl) e h.gives;
  alone = frame_finds (TooLarge size) c old new g (take n bytes) [] refl (λ f. refl) e h.alone;
}
frames_found (step.More n) c old new g bytes e h = record {
  fits = (
    h.within.0,
    record {
      idle = frames_run c new g (drop n bytes) e ∙ ap (λ (y : Run). of_frames c g y) h.within.1.run;
      few = h.within.1.few;
    },
  );
  finds = nothing_finds c old new g bytes (drop n bytes) e h.gives;
  alone = nothing_finds c old new g (take n bytes) [] e h.alone;
}
frames_found (step.Fault f) c old new g bytes e h = record {
  fits = tt;
  finds = λ more.
      frames_give (Broken f ∷ []) c old new g bytes [] e h.gives more
      ∙ ap (λ (y : StreamRun). followed (Broke (fault.Stream f) ∷ []) y) (failed_frames (closed_by c (fault.Stream f)) new g f more h.next.place);
  alone = tt;
}

pub step_inside : (x : Step) (old new : Reader) (bytes : List ℕ) → StepIs x old bytes new → IsInside x bytes
step_inside (step.Frame k start end) old new bytes h = (h.within.1, h.within.2)
step_inside (step.Data start end) old new bytes h = tt
step_inside (step.TooLarge size n) old new bytes h = tt
step_inside (step.More n) old new bytes h = tt
step_inside (step.Fault f) old new bytes h = tt

-- the same, as it is computed
pub frames_judged : (x : Step) (c d : Connection) (old new : Reader) (g : Bool) (t : Stream) (bytes : List ℕ) (y : Found) → c.over ≡ false → StepIs x old bytes new → (y, d, t) ≡ step_found c (Frames new (has_frame x || g)) x bytes → StepIsFound y c (Frames old g) bytes d t
frames_judged x c d old new g t bytes y e h is = subst (λ (z : Outcome). IsOutcome z c (Frames old g) bytes) (sym is) (frames_found x c old new g bytes e h)

-- ---- the streams of QPACK

-- all bytes are consumed, and nothing is given
consumes : (c : Connection) (s t : Stream) (bytes : List ℕ) → run_stream c t [] ≡ all_given c t [] → ((more : List ℕ) → run_stream c s (bytes ++ more) ≡ run_stream c t more) → StepIsFound (found.More (length bytes)) c s bytes c t
consumes c s t bytes none h = record {
  fits = (
    omega arith,
    record {
      idle = ap (λ (l : List ℕ). run_stream c t l) (nothing_left bytes) ∙ none ∙ ap (λ (l : List ℕ). rests c t l) (sym (nothing_left bytes));
      few = subst (λ (l : List ℕ). AreFew t l) (sym (nothing_left bytes)) (few_none t);
    },
  );
  finds = λ more. h more ∙ ap (λ (l : List ℕ). run_stream c t (l ++ more)) (sym (nothing_left bytes));
  alone = λ more. ap (λ (l : List ℕ). run_stream c s (l ++ more)) (take-length bytes) ∙ h more;
}

-- an error ends the stream
failing : (c : Connection) (s : Stream) (bytes : List ℕ) (x : Fault) → ((more : List ℕ) → run_stream c s (bytes ++ more) ≡ breaks c x) → StepIsFound (found.Fault x) c s bytes (closed_by c x) Over
failing c s bytes x h = record {
  fits = tt;
  finds = λ more. h more ∙ ap (λ (y : StreamRun). followed (Broke x ∷ []) y) (sym (over_given (closed_by c x) more));
  alone = tt;
}

encoder_case : (b : Bool) (c : Connection) (bytes : List ℕ) → list_all sets_zero bytes ≡ b → c.over ≡ false → IsOutcome (with_capacity c Encoder (length bytes) b) c Encoder bytes
encoder_case true c bytes is e = consumes c Encoder Encoder bytes (intact_run c Encoder [] e) (λ more.
    intact_run c Encoder (bytes ++ more) e
    ∙ ap (λ (b : Bool). by_capacity c b) (list_all-append sets_zero bytes more ∙ ap (λ (b : Bool). b && list_all sets_zero more) is)
    ∙ sym (intact_run c Encoder more e))
encoder_case false c bytes is e = failing c Encoder bytes fault.EncoderStream (λ more.
    intact_run c Encoder (bytes ++ more) e
    ∙ ap (λ (b : Bool). by_capacity c b) (list_all-append sets_zero bytes more ∙ ap (λ (b : Bool). b && list_all sets_zero more) is))

pub encoder_judged : (c d : Connection) (t : Stream) (bytes : List ℕ) (y : Found) → c.over ≡ false → (y, d, t) ≡ encoder_found c Encoder bytes → StepIsFound y c Encoder bytes d t
encoder_judged c d t bytes y e is = subst (λ (z : Outcome). IsOutcome z c Encoder bytes) (sym is) (encoder_case (list_all sets_zero bytes) c bytes refl e)

decoder_case : (o : Option DecoderPlace) (c : Connection) (place : DecoderPlace) (bytes : List ℕ) → after_bytes place bytes ≡ o → c.over ≡ false → IsOutcome (decoder_found c o (length bytes)) c (Decoder place) bytes
decoder_case (Some next) c place bytes is e = consumes c (Decoder place) (Decoder next) bytes (intact_run c (Decoder next) [] e) (λ more.
    intact_run c (Decoder place) (bytes ++ more) e
    ∙ ap (λ (o : Option DecoderPlace). by_place c o) (after_append place bytes more ∙ ap (λ (o : Option DecoderPlace). then_bytes (λ p. after_bytes p more) o) is)
    ∙ sym (intact_run c (Decoder next) more e))
decoder_case None c place bytes is e = failing c (Decoder place) bytes fault.DecoderStream (λ more.
    intact_run c (Decoder place) (bytes ++ more) e
    ∙ ap (λ (o : Option DecoderPlace). by_place c o) (after_append place bytes more ∙ ap (λ (o : Option DecoderPlace). then_bytes (λ p. after_bytes p more) o) is))

pub decoder_judged : (c d : Connection) (place : DecoderPlace) (t : Stream) (bytes : List ℕ) (o : Option DecoderPlace) (y : Found) → c.over ≡ false → o ≡ after_bytes place bytes → (y, d, t) ≡ decoder_found c o (length bytes) → StepIsFound y c (Decoder place) bytes d t
decoder_judged c d place t bytes o y e was is = subst (λ (z : Outcome). IsOutcome z c (Decoder place) bytes) (sym is) (decoder_case o c place bytes (sym was) e)

-- ---- a stream that is opened

first_run : (c : Connection) (s : Stream) (bytes : List ℕ) → c.over ≡ false → IsFirst s → run_stream c s bytes ≡ by_opening c s bytes (opening_of c.endpoint s bytes)
first_run c Uni bytes e f = intact_run c Uni bytes e
first_run c Bi bytes e f = intact_run c Bi bytes e
first_run c (Frames r g) bytes e f = absurd f
first_run c (Joining n) bytes e f = absurd f
first_run c (Waiting n) bytes e f = absurd f
first_run c (Session n) bytes e f = absurd f
first_run c Encoder bytes e f = absurd f
first_run c (Decoder place) bytes e f = absurd f
first_run c Ignored bytes e f = absurd f
first_run c Incomplete bytes e f = absurd f
first_run c Over bytes e f = absurd f

abbrev ok_to : Connection × Stream → Result (Connection × Stream) Fault
ok_to x = Ok x

ok_pair : (x y : Connection × Stream) → ok_to x ≡ Ok y → x ≡ y
ok_pair x y e = cc

once_case : (b : Bool) (c : Connection) (s : Stream) (x : Connection × Stream) → opens_once b c s ≡ Ok x → (c, s) ≡ x
once_case true c s x e = absurd (cc)
once_case false c s x e = ok_pair (c, s) x e

-- it has no more first bytes, and the connection is not over
abbrev IsOpened : Stream → Type 0
IsOpened Uni = ⊥
IsOpened Bi = ⊥
IsOpened other = Unit {0}

record HasOpened (c : Connection) (x : Connection × Stream) : Type 0 where
  opened : IsOpened x.1
  intact : c.over ≡ false → x.0.over ≡ false

opened_to : (c d : Connection) (s : Stream) (x : Connection × Stream) → (d, s) ≡ x → IsOpened s → (c.over ≡ false → d.over ≡ false) → HasOpened c x
opened_to c d s x e o i = subst (λ (y : Connection × Stream). HasOpened c y) e (record { opened = o; intact = i })

has_opened : (c : Connection) (p : Purpose) (x : Connection × Stream) → opens c p ≡ Ok x → HasOpened c x
has_opened c «for».Control x e = opened_to c _ _ x (once_case c.control _ _ x e) tt (λ i. i)
has_opened c «for».Encoder x e = opened_to c _ _ x (once_case c.encoder _ _ x e) tt (λ i. i)
has_opened c «for».Decoder x e = opened_to c _ _ x (once_case c.decoder _ _ x e) tt (λ i. i)
has_opened c «for».Push x e = absurd (cc)
has_opened c («for».Session s) x e = opened_to c c (Joining s) x (ok_pair (c, Joining s) x e) tt (λ i. i)
has_opened c «for».InvalidSession x e = absurd (cc)
has_opened c «for».Message x e = opened_to c _ _ x (ok_pair _ x e) tt (λ i. i)
has_opened c «for».Foreign x e = absurd (cc)
has_opened c «for».Ignored x e = opened_to c c Ignored x (ok_pair (c, Ignored) x e) tt (λ i. i)

opened_run : (c : Connection) (s : Stream) (bytes : List ℕ) → c.over ≡ false → IsOpened s → run_stream c s bytes ≡ run_open c s bytes
opened_run c Uni bytes e o = absurd o
opened_run c Bi bytes e o = absurd o
opened_run c (Frames r g) bytes e o = intact_run c (Frames r g) bytes e
opened_run c (Joining n) bytes e o = intact_run c (Joining n) bytes e
opened_run c (Waiting n) bytes e o = intact_run c (Waiting n) bytes e
opened_run c (Session n) bytes e o = intact_run c (Session n) bytes e
opened_run c Encoder bytes e o = intact_run c Encoder bytes e
opened_run c (Decoder place) bytes e o = intact_run c (Decoder place) bytes e
opened_run c Ignored bytes e o = intact_run c Ignored bytes e
opened_run c Incomplete bytes e o = intact_run c Incomplete bytes e
opened_run c Over bytes e o = intact_run c Over bytes e

opening_run : (c : Connection) (s : Stream) (bytes more : List ℕ) (p : Purpose) (n : ℕ) (o : Result (Connection × Stream) Fault) → c.over ≡ false → IsFirst s → opening_of c.endpoint s bytes ≡ Some (p, drop n bytes) → opens c p ≡ o → run_stream c s (bytes ++ more) ≡ by_purpose c p (drop n bytes ++ more) o
opening_run c s bytes more p n o i f e is =
    first_run c s (bytes ++ more) i f
    ∙ ap (λ (x : Option (Purpose × List ℕ)). by_opening c s (bytes ++ more) x) (opening_more c.endpoint s bytes more (p, drop n bytes) e)
    ∙ ap (λ (x : Result (Connection × Stream) Fault). by_purpose c p (drop n bytes ++ more) x) is

pub open_found : (c : Connection) (s : Stream) (bytes : List ℕ) (p : Purpose) (n : ℕ) (d : Connection) (t : Stream) → c.over ≡ false → IsFirst s → opening_of c.endpoint s bytes ≡ Some (p, drop n bytes) → n ≤ length bytes → opens c p ≡ Ok (d, t) → StepIsFound (found.Opened p n) c s bytes d t
open_found c s bytes p n d t i f e l is =
    let h : HasOpened c (d, t) = has_opened c p (d, t) is in
    record {
      fits = l;
      finds = λ more.
          opening_run c s bytes more p n (Ok (d, t)) i f e is
          ∙ ap (λ (y : StreamRun). followed (Opened p ∷ []) y) (sym (opened_run d t (drop n bytes ++ more) (h.intact i) h.opened));
      alone = is;
    }

open_fault : (c : Connection) (s : Stream) (bytes : List ℕ) (p : Purpose) (n : ℕ) (x : Fault) → c.over ≡ false → IsFirst s → opening_of c.endpoint s bytes ≡ Some (p, drop n bytes) → opens c p ≡ Err x → StepIsFound (found.Fault x) c s bytes (closed_by c x) Over
open_fault c s bytes p n x i f e is = record {
  fits = tt;
  finds = λ more.
      opening_run c s bytes more p n (Err x) i f e is
      ∙ ap (λ (y : StreamRun). followed (Broke x ∷ []) y) (sym (over_given (closed_by c x) more));
  alone = tt;
}

pub open_failed : (c d e : Connection) (s t : Stream) (bytes : List ℕ) (p : Purpose) (n : ℕ) (x : Fault) (y : Found) → c.over ≡ false → IsFirst s → opening_of c.endpoint s bytes ≡ Some (p, drop n bytes) → opens c p ≡ Err x → d ≡ c → (y, e, t) ≡ fails d x → StepIsFound y c s bytes e t
open_failed c d e s t bytes p n x y i f o is same out = subst (λ (z : Outcome). IsOutcome z c s bytes) (sym (out ∙ ap (λ (k : Connection). fails k x) same)) (open_fault c s bytes p n x i f o is)

pub open_more : (c : Connection) (s : Stream) (bytes : List ℕ) → c.over ≡ false → IsFirst s → opening_of c.endpoint s bytes ≡ None → StepIsFound (found.More 0) c s bytes c s
open_more c s bytes i f e = record {
  fits = (
    omega arith,
    record {
      idle = first_run c s bytes i f ∙ ap (λ (o : Option (Purpose × List ℕ)). by_opening c s bytes o) e;
      few = opening_few c.endpoint s bytes f e;
    },
  );
  finds = λ more. refl;
  alone = λ more. refl;
}
