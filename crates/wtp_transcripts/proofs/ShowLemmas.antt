-- What a run changes of the connection it shows.
use Rattle.std.proofs.Common.{◌≡◌, ℕ, ◌||◌, Bool, true, false, cond, List, [], ◌∷◌, ◌++◌, Option, Some, None, Result, Ok, Err, refl, sym, ap, subst, ◌∙◌, inl, inr}
use Rattle.std.proofs.lemmas.Bool.{cases_Bool, false≢true}
use Rattle.std.specs.List.{list_all}
use Rattle.wtp_core.specs.declared.error.scope.ErrorScope.{ErrorScope}
use Rattle.wtp_core.specs.declared.error.scope.ErrorScope.TheVariants as scope
use Rattle.wtp_frames.specs.declared.fault.Fault.{Fault as StreamFault}
use Rattle.wtp_frames.specs.declared.frame_type.FrameType.TheVariants as kind
use Rattle.wtp_frames.specs.Item.{Item, Whole, Broken}
use Rattle.wtp_frames.specs.Run.{run}
use Rattle.wtp_frames.specs.Start.{message_reader, control_reader}
use Rattle.wtp_connection.specs.declared.connection.Connection.{Connection}
use Rattle.wtp_connection.specs.declared.fault.Fault.{Fault}
use Rattle.wtp_connection.specs.declared.fault.Fault.TheVariants as fault
use Rattle.wtp_connection.specs.declared.instructions.DecoderPlace.{DecoderPlace}
use Rattle.wtp_connection.specs.declared.settings.PeerSettings.{PeerSettings}
use Rattle.wtp_connection.specs.declared.stream.Purpose.{Purpose}
use Rattle.wtp_connection.specs.declared.stream.Purpose.TheVariants as «for»
use Rattle.wtp_connection.specs.declared.stream.Stream.{Stream}
use Rattle.wtp_connection.specs.declared.stream.Stream.TheVariants.{Uni, Bi, Frames, Joining, Waiting, Session, Encoder, Decoder, Ignored, Over, Incomplete}
use Rattle.wtp_connection.specs.Fault.{scope_of}
use Rattle.wtp_connection.specs.Instructions.{sets_zero, after_bytes}
use Rattle.wtp_connection.specs.Opening.{uni_at, bi_at}
use Rattle.wtp_connection.specs.Streams.{opens, opens_once, closed_in, closed_by, Seen, Opened, Configured, Gave, Broke, StreamRun, rests, followed, all_given, breaks, by_settings, of_items, has_frames, bytes_seen, by_capacity, by_place, run_open, by_purpose, by_opening, run_intact, run_stream, by_fault, end_of, ending, ended, configured, received_settings}
use Rattle.wtp_transcripts.specs.Transcript.{read, is_opened as flag}
use Rattle.wtp_transcripts.proofs.AlikeLemmas.{over_flags, peer_flags}

-- ---- what is seen

abbrev is_broke : Seen → Bool
is_broke (Broke f) = true
is_broke other = false

abbrev pub has_broke : List Seen → Bool
has_broke [] = false
has_broke (i ∷ seen) = is_broke i || has_broke seen

-- a stream for this purpose, of which the peer may open one
abbrev opens_for : Purpose → Purpose → Bool
opens_for «for».Control «for».Control = true
opens_for «for».Encoder «for».Encoder = true
opens_for «for».Decoder «for».Decoder = true
opens_for p q = false

abbrev is_opening : Purpose → Seen → Bool
is_opening p (Opened q) = opens_for p q
is_opening p other = false

abbrev pub has_opening : Purpose → List Seen → Bool
has_opening p [] = false
has_opening p (i ∷ seen) = is_opening p i || has_opening p seen

or_some : (a b : Bool) → b ≡ true → (a || b) ≡ true
or_some true b e = refl
or_some false b e = e

or_neither : (a b : Bool) → a ≡ false → b ≡ false → (a || b) ≡ false
or_neither true b e f = absurd (false≢true (sym e))
or_neither false b e f = f

pub opening_later : (p : Purpose) (xs ys : List Seen) → has_opening p ys ≡ true → has_opening p (xs ++ ys) ≡ true
opening_later p [] ys e = e
opening_later p (i ∷ xs) ys e = or_some (is_opening p i) (has_opening p (xs ++ ys)) (opening_later p xs ys e)

opening_first : (p : Purpose) (xs ys : List Seen) → has_opening p xs ≡ true → has_opening p (xs ++ ys) ≡ true
opening_first p [] ys e = absurd (false≢true e)
opening_first p (i ∷ xs) ys e = elim (cases_Bool (is_opening p i)) [
  | inl is ↦ ap (λ (b : Bool). b || has_opening p (xs ++ ys)) is
  | inr other ↦ or_some (is_opening p i) (has_opening p (xs ++ ys)) (opening_first p xs ys (ap (λ (b : Bool). b || has_opening p xs) (sym other) ∙ e))
]

pub opening_none : (p : Purpose) (xs ys : List Seen) → has_opening p xs ≡ false → has_opening p ys ≡ false → has_opening p (xs ++ ys) ≡ false
opening_none p [] ys e f = f
opening_none p (i ∷ xs) ys e f = or_neither (is_opening p i) (has_opening p (xs ++ ys)) (first (is_opening p i) (has_opening p xs) e) (opening_none p xs ys (rest (is_opening p i) (has_opening p xs) e) f)
  where
    first : (a b : Bool) → (a || b) ≡ false → a ≡ false
    first true b e = absurd (false≢true (sym e))
    first false b e = refl

    rest : (a b : Bool) → (a || b) ≡ false → b ≡ false
    rest true b e = absurd (false≢true (sym e))
    rest false b e = e

broke_later : (xs ys : List Seen) → has_broke ys ≡ true → has_broke (xs ++ ys) ≡ true
broke_later [] ys e = e
broke_later (i ∷ xs) ys e = or_some (is_broke i) (has_broke (xs ++ ys)) (broke_later xs ys e)

-- ---- what a run shows

-- an error that ends the connection is seen, and so is a stream that is opened
pub record Shows (c : Connection) (x : StreamRun) : Type 0 where
  pub over : x.connection.over ≡ true → c.over ≡ false → has_broke x.seen ≡ true
  pub flags : (p : Purpose) → flag x.connection p ≡ true → flag c p ≡ false → has_opening p x.seen ≡ true

-- one that was opened before is not
pub record Hides (c : Connection) (x : StreamRun) : Type 0 where
  pub none : (p : Purpose) → flag c p ≡ true → has_opening p x.seen ≡ false

-- no stream is opened at all
record OpensNone (x : StreamRun) : Type 0 where
  none : (p : Purpose) → has_opening p x.seen ≡ false

scope_flags : (s : ErrorScope) (c : Connection) (p : Purpose) → flag (closed_in c s) p ≡ flag c p
scope_flags scope.Stream c p = refl
scope_flags other c p = over_flags c p

pub closed_flags : (c : Connection) (f : Fault) (p : Purpose) → flag (closed_by c f) p ≡ flag c p
closed_flags c f p = scope_flags (scope_of f) c p

same_shows : (c : Connection) (x : StreamRun) → x.connection ≡ c → Shows c x
same_shows c x e = record {
  over = λ o i. absurd (false≢true (sym i ∙ ap (λ (d : Connection). d.over) (sym e) ∙ o));
  flags = λ p o i. absurd (false≢true (sym i ∙ ap (λ (d : Connection). flag d p) (sym e) ∙ o));
}

breaks_shows : (c : Connection) (f : Fault) → Shows c (breaks c f)
breaks_shows c f = record {
  over = λ o i. refl;
  flags = λ p o i. absurd (false≢true (sym i ∙ sym (closed_flags c f p) ∙ o));
}

seen_shows : (seen : List Seen) (c d : Connection) (x : StreamRun) → (c.over ≡ false → d.over ≡ false) → ((p : Purpose) → flag d p ≡ flag c p) → Shows d x → Shows c (followed seen x)
seen_shows seen c d x e f h = record {
  over = λ o i. broke_later seen x.seen (h.over o (e i));
  flags = λ p o i. opening_later p seen x.seen (h.flags p o (f p ∙ i));
}

-- after an error that is seen
broke_shows : (f : Fault) (c : Connection) (x : StreamRun) → Shows (closed_by c f) x → Shows c (followed (Broke f ∷ []) x)
broke_shows f c x h = record {
  over = λ o i. refl;
  flags = λ p o i. opening_later p (Broke f ∷ []) x.seen (h.flags p o (closed_flags c f p ∙ i));
}

settings_show : (o : Result PeerSettings Fault) (c : Connection) (payload : List ℕ) (f : Connection → StreamRun) → ((d : Connection) → Shows d (f d)) → Shows c (by_settings c payload f o)
settings_show (Ok v) c payload f h = seen_shows (Configured v payload ∷ []) c (configured c v) (f (configured c v)) (λ i. i) (peer_flags c v) (h (configured c v))
settings_show (Err x) c payload f h = breaks_shows c x

items_show : (items : List Item) (c : Connection) (f : Connection → StreamRun) → ((d : Connection) → Shows d (f d)) → Shows c (of_items c f items)
items_show [] c f h = h c
items_show (Whole kind.Settings payload ∷ items) c f h = settings_show (received_settings c payload) c payload (λ d. of_items d f items) (λ d. items_show items d f h)
items_show (Broken x ∷ items) c f h = broke_shows (fault.Stream x) c (of_items (closed_by c (fault.Stream x)) f items) (items_show items (closed_by c (fault.Stream x)) f h)
items_show (other ∷ items) c f h = seen_shows (Gave other ∷ []) c c (of_items c f items) (λ i. i) (λ p. refl) (items_show items c f h)

capacity_shows : (x : Bool) (c : Connection) → Shows c (by_capacity c x)
capacity_shows true c = same_shows c (by_capacity c true) refl
capacity_shows false c = breaks_shows c fault.EncoderStream

place_shows : (o : Option DecoderPlace) (c : Connection) → Shows c (by_place c o)
place_shows (Some p) c = same_shows c (by_place c (Some p)) refl
place_shows None c = breaks_shows c fault.DecoderStream

open_shows : (s : Stream) (c : Connection) (bytes : List ℕ) → Shows c (run_open c s bytes)
open_shows (Frames r given) c bytes = items_show (run r bytes).items c (λ d. rests d (Frames (run r bytes).reader (has_frames (run r bytes).items || given)) (run r bytes).left) (λ d. same_shows d (rests d (Frames (run r bytes).reader (has_frames (run r bytes).items || given)) (run r bytes).left) refl)
open_shows Encoder c bytes = capacity_shows (list_all sets_zero bytes) c
open_shows (Decoder place) c bytes = place_shows (after_bytes place bytes) c
open_shows (Session n) c bytes = same_shows c (run_open c (Session n) bytes) refl
open_shows (Joining n) c bytes = same_shows c (run_open c (Joining n) bytes) refl
open_shows (Waiting n) c bytes = same_shows c (run_open c (Waiting n) bytes) refl
open_shows other c bytes = same_shows c (run_open c other bytes) refl

-- the flags after a stream for this purpose was opened
opened_shows : (q : Purpose) (rest : List ℕ) (c d : Connection) (s : Stream) → d.over ≡ c.over → ((p : Purpose) → flag d p ≡ true → flag c p ≡ false → opens_for p q ≡ true) → Shows c (by_purpose c q rest (Ok (d, s)))
opened_shows q rest c d s e f = record {
  over = λ o i. broke_later (Opened q ∷ []) (run_open d s rest).seen ((open_shows s d rest).over o (e ∙ i));
  flags = λ p o i. elim (cases_Bool (flag d p)) [
    | inl now ↦ first p (f p now i)
    | inr not_yet ↦ opening_later p (Opened q ∷ []) (run_open d s rest).seen ((open_shows s d rest).flags p o not_yet)
  ];
}
  where
    first : (p : Purpose) → opens_for p q ≡ true → has_opening p ((Opened q ∷ []) ++ (run_open d s rest).seen) ≡ true
    first p e = ap (λ (b : Bool). b || has_opening p (run_open d s rest).seen) e

once_shows : (b : Bool) (q : Purpose) (rest : List ℕ) (c d : Connection) (s : Stream) → d.over ≡ c.over → ((p : Purpose) → flag d p ≡ true → flag c p ≡ false → opens_for p q ≡ true) → Shows c (by_purpose c q rest (opens_once b d s))
once_shows true q rest c d s e f = breaks_shows c _
once_shows false q rest c d s e f = opened_shows q rest c d s e f

-- nothing new
no_flag : (c : Connection) (q p : Purpose) → flag c p ≡ true → flag c p ≡ false → opens_for p q ≡ true
no_flag c q p e f = absurd (false≢true (sym f ∙ e))

control_flag : (c : Connection) (p : Purpose) → flag (record c { control = true }) p ≡ true → flag c p ≡ false → opens_for p «for».Control ≡ true
control_flag c «for».Control e f = refl
control_flag c «for».Encoder e f = absurd (false≢true (sym f ∙ e))
control_flag c «for».Decoder e f = absurd (false≢true (sym f ∙ e))
control_flag c other e f = absurd (false≢true e)

encoder_flag : (c : Connection) (p : Purpose) → flag (record c { encoder = true }) p ≡ true → flag c p ≡ false → opens_for p «for».Encoder ≡ true
encoder_flag c «for».Control e f = absurd (false≢true (sym f ∙ e))
encoder_flag c «for».Encoder e f = refl
encoder_flag c «for».Decoder e f = absurd (false≢true (sym f ∙ e))
encoder_flag c other e f = absurd (false≢true e)

decoder_flag : (c : Connection) (p : Purpose) → flag (record c { decoder = true }) p ≡ true → flag c p ≡ false → opens_for p «for».Decoder ≡ true
decoder_flag c «for».Control e f = absurd (false≢true (sym f ∙ e))
decoder_flag c «for».Encoder e f = absurd (false≢true (sym f ∙ e))
decoder_flag c «for».Decoder e f = refl
decoder_flag c other e f = absurd (false≢true e)

purpose_shows : (q : Purpose) (rest : List ℕ) (c : Connection) → Shows c (by_purpose c q rest (opens c q))
purpose_shows «for».Control rest c = once_shows c.control «for».Control rest c (record c { control = true }) _ refl (control_flag c)
purpose_shows «for».Encoder rest c = once_shows c.encoder «for».Encoder rest c (record c { encoder = true }) _ refl (encoder_flag c)
purpose_shows «for».Decoder rest c = once_shows c.decoder «for».Decoder rest c (record c { decoder = true }) _ refl (decoder_flag c)
purpose_shows «for».Push rest c = breaks_shows c _
purpose_shows («for».Session s) rest c = opened_shows («for».Session s) rest c c (Joining s) refl (no_flag c («for».Session s))
purpose_shows «for».InvalidSession rest c = breaks_shows c _
purpose_shows «for».Message rest c = opened_shows «for».Message rest c c (Frames (message_reader c.endpoint) false) refl (no_flag c «for».Message)
purpose_shows «for».Foreign rest c = breaks_shows c _
purpose_shows «for».Ignored rest c = opened_shows «for».Ignored rest c c Ignored refl (no_flag c «for».Ignored)

opening_shows : (o : Option (Purpose × List ℕ)) (s : Stream) (bytes : List ℕ) (c : Connection) → Shows c (by_opening c s bytes o)
opening_shows None s bytes c = same_shows c (by_opening c s bytes None) refl
opening_shows (Some o) s bytes c = purpose_shows o.0 o.1 c

intact_shows : (s : Stream) (bytes : List ℕ) (c : Connection) → Shows c (run_intact c s bytes)
intact_shows Uni bytes c = opening_shows (uni_at c.endpoint bytes) Uni bytes c
intact_shows Bi bytes c = opening_shows (bi_at c.endpoint bytes) Bi bytes c
intact_shows other bytes c = open_shows other c bytes

cond_shows : (b : Bool) (c : Connection) (x y : StreamRun) → Shows c x → Shows c y → Shows c (cond b x y)
cond_shows true c x y f g = f
cond_shows false c x y f g = g

run_shows : (s : Stream) (bytes : List ℕ) (c : Connection) → Shows c (run_stream c s bytes)
run_shows s bytes c = cond_shows c.over c (all_given c s []) (run_intact c s bytes) (same_shows c (all_given c s []) refl) (intact_shows s bytes c)

fault_shows : (o : Result (Unit {0}) StreamFault) (c : Connection) → Shows c (by_fault c o)
fault_shows (Ok u) c = same_shows c (by_fault c (Ok u)) refl
fault_shows (Err f) c = record {
  over = λ o i. refl;
  flags = λ p o i. absurd (false≢true (sym i ∙ sym (closed_flags c (fault.Stream f) p) ∙ o));
}

ending_shows : (s : Stream) (l : List ℕ) (c : Connection) → Shows c (ending c s l)
ending_shows (Joining n) l c = same_shows c (ending c (Joining n) l) refl
ending_shows (Waiting n) l c = same_shows c (ending c (Waiting n) l) refl
ending_shows Incomplete l c = same_shows c (ending c Incomplete l) refl
ending_shows Over l c = same_shows c (ending c Over l) refl
ending_shows other l c = fault_shows (end_of c other l) c

ended_shows : (c : Connection) (x : StreamRun) → Shows c x → Shows c (ended x)
ended_shows c x h = elim (cases_Bool x.connection.over) [
  | inl over ↦ subst (λ (b : Bool). Shows c (cond b x (followed x.seen (ending x.connection x.stream x.left)))) (sym over) h
  | inr intact ↦ subst (λ (b : Bool). Shows c (cond b x (followed x.seen (ending x.connection x.stream x.left)))) (sym intact) (then_shows intact)
]
  where
    then_shows : x.connection.over ≡ false → Shows c (followed x.seen (ending x.connection x.stream x.left))
    then_shows intact = record {
      over = λ o i. broke_later x.seen (ending x.connection x.stream x.left).seen ((ending_shows x.stream x.left x.connection).over o intact);
      flags = λ p o i. elim (cases_Bool (flag x.connection p)) [
        | inl before ↦ opening_first p x.seen (ending x.connection x.stream x.left).seen (h.flags p before i)
        | inr not_yet ↦ opening_later p x.seen (ending x.connection x.stream x.left).seen ((ending_shows x.stream x.left x.connection).flags p o not_yet)
      ];
    }

pub read_shows : (fin : Bool) (s : Stream) (bytes : List ℕ) (c : Connection) → Shows c (read fin c s bytes)
read_shows true s bytes c = ended_shows c (run_stream c s bytes) (run_shows s bytes c)
read_shows false s bytes c = run_shows s bytes c

-- ---- what was opened before is not opened

items_none : (items : List Item) (c : Connection) (f : Connection → StreamRun) → ((d : Connection) → OpensNone (f d)) → OpensNone (of_items c f items)
items_none [] c f h = h c
items_none (Whole kind.Settings payload ∷ items) c f h = settings_none (received_settings c payload) c payload (λ d. of_items d f items) (λ d. items_none items d f h)
  where
    settings_none : (o : Result PeerSettings Fault) (c : Connection) (payload : List ℕ) (f : Connection → StreamRun) → ((d : Connection) → OpensNone (f d)) → OpensNone (by_settings c payload f o)
    settings_none (Ok v) c payload f h = record { none = λ p. opening_none p (Configured v payload ∷ []) (f (configured c v)).seen (other_none p) ((h (configured c v)).none p) }
      where
        other_none : (p : Purpose) → has_opening p (Configured v payload ∷ []) ≡ false
        other_none p = refl
    settings_none (Err x) c payload f h = record { none = λ p. refl }
items_none (Broken x ∷ items) c f h = record { none = λ p. opening_none p (Broke (fault.Stream x) ∷ []) (of_items (closed_by c (fault.Stream x)) f items).seen refl ((items_none items (closed_by c (fault.Stream x)) f h).none p) }
items_none (other ∷ items) c f h = record { none = λ p. opening_none p (Gave other ∷ []) (of_items c f items).seen refl ((items_none items c f h).none p) }

bytes_none : (p : Purpose) (bytes : List ℕ) → has_opening p (bytes_seen bytes) ≡ false
bytes_none p [] = refl
bytes_none p (b ∷ bytes) = bytes_none p bytes

capacity_none : (x : Bool) (c : Connection) → OpensNone (by_capacity c x)
capacity_none true c = record { none = λ p. refl }
capacity_none false c = record { none = λ p. refl }

place_none : (o : Option DecoderPlace) (c : Connection) → OpensNone (by_place c o)
place_none (Some q) c = record { none = λ p. refl }
place_none None c = record { none = λ p. refl }

open_none : (s : Stream) (c : Connection) (bytes : List ℕ) → OpensNone (run_open c s bytes)
open_none (Frames r given) c bytes = items_none (run r bytes).items c (λ d. rests d (Frames (run r bytes).reader (has_frames (run r bytes).items || given)) (run r bytes).left) (λ d. record { none = λ p. refl })
open_none (Session n) c bytes = record { none = λ p. bytes_none p bytes }
open_none Encoder c bytes = capacity_none (list_all sets_zero bytes) c
open_none (Decoder place) c bytes = place_none (after_bytes place bytes) c
open_none (Joining n) c bytes = record { none = λ p. refl }
open_none (Waiting n) c bytes = record { none = λ p. refl }
open_none other c bytes = record { none = λ p. refl }

opened_hides : (q : Purpose) (rest : List ℕ) (c d : Connection) (s : Stream) → ((p : Purpose) → flag c p ≡ true → opens_for p q ≡ false) → Hides c (by_purpose c q rest (Ok (d, s)))
opened_hides q rest c d s h = record { none = λ p e. opening_none p (Opened q ∷ []) (run_open d s rest).seen (or_neither (opens_for p q) false (h p e) refl) ((open_none s d rest).none p) }

once_hides : (b : Bool) (q : Purpose) (rest : List ℕ) (c d : Connection) (s : Stream) → (b ≡ false → (p : Purpose) → flag c p ≡ true → opens_for p q ≡ false) → Hides c (by_purpose c q rest (opens_once b d s))
once_hides true q rest c d s h = record { none = λ p e. refl }
once_hides false q rest c d s h = opened_hides q rest c d s (h refl)

control_hidden : (c : Connection) → c.control ≡ false → (p : Purpose) → flag c p ≡ true → opens_for p «for».Control ≡ false
control_hidden c f «for».Control e = absurd (false≢true (sym f ∙ e))
control_hidden c f «for».Encoder e = refl
control_hidden c f «for».Decoder e = refl
control_hidden c f other e = refl

encoder_hidden : (c : Connection) → c.encoder ≡ false → (p : Purpose) → flag c p ≡ true → opens_for p «for».Encoder ≡ false
encoder_hidden c f «for».Control e = refl
encoder_hidden c f «for».Encoder e = absurd (false≢true (sym f ∙ e))
encoder_hidden c f «for».Decoder e = refl
encoder_hidden c f other e = refl

decoder_hidden : (c : Connection) → c.decoder ≡ false → (p : Purpose) → flag c p ≡ true → opens_for p «for».Decoder ≡ false
decoder_hidden c f «for».Control e = refl
decoder_hidden c f «for».Encoder e = refl
decoder_hidden c f «for».Decoder e = absurd (false≢true (sym f ∙ e))
decoder_hidden c f other e = refl

session_hidden : (n : ℕ) (p : Purpose) → opens_for p («for».Session n) ≡ false
session_hidden n «for».Control = refl
session_hidden n «for».Encoder = refl
session_hidden n «for».Decoder = refl
session_hidden n other = refl

message_hidden : (p : Purpose) → opens_for p «for».Message ≡ false
message_hidden «for».Control = refl
message_hidden «for».Encoder = refl
message_hidden «for».Decoder = refl
message_hidden other = refl

ignored_hidden : (p : Purpose) → opens_for p «for».Ignored ≡ false
ignored_hidden «for».Control = refl
ignored_hidden «for».Encoder = refl
ignored_hidden «for».Decoder = refl
ignored_hidden other = refl

purpose_hides : (q : Purpose) (rest : List ℕ) (c : Connection) → Hides c (by_purpose c q rest (opens c q))
purpose_hides «for».Control rest c = once_hides c.control «for».Control rest c (record c { control = true }) (Frames (control_reader c.endpoint) false) (control_hidden c)
purpose_hides «for».Encoder rest c = once_hides c.encoder «for».Encoder rest c (record c { encoder = true }) Encoder (encoder_hidden c)
purpose_hides «for».Decoder rest c = once_hides c.decoder «for».Decoder rest c (record c { decoder = true }) _ (decoder_hidden c)
purpose_hides «for».Push rest c = record { none = λ p e. refl }
purpose_hides («for».Session s) rest c = opened_hides («for».Session s) rest c c (Joining s) (λ p e. session_hidden s p)
purpose_hides «for».InvalidSession rest c = record { none = λ p e. refl }
purpose_hides «for».Message rest c = opened_hides «for».Message rest c c (Frames (message_reader c.endpoint) false) (λ p e. message_hidden p)
purpose_hides «for».Foreign rest c = record { none = λ p e. refl }
purpose_hides «for».Ignored rest c = opened_hides «for».Ignored rest c c Ignored (λ p e. ignored_hidden p)

opening_hides : (o : Option (Purpose × List ℕ)) (s : Stream) (bytes : List ℕ) (c : Connection) → Hides c (by_opening c s bytes o)
opening_hides None s bytes c = record { none = λ p e. refl }
opening_hides (Some o) s bytes c = purpose_hides o.0 o.1 c

intact_hides : (s : Stream) (bytes : List ℕ) (c : Connection) → Hides c (run_intact c s bytes)
intact_hides Uni bytes c = opening_hides (uni_at c.endpoint bytes) Uni bytes c
intact_hides Bi bytes c = opening_hides (bi_at c.endpoint bytes) Bi bytes c
intact_hides other bytes c = record { none = λ p e. (open_none other c bytes).none p }

cond_hides : (b : Bool) (c : Connection) (x y : StreamRun) → Hides c x → Hides c y → Hides c (cond b x y)
cond_hides true c x y f g = f
cond_hides false c x y f g = g

run_hides : (s : Stream) (bytes : List ℕ) (c : Connection) → Hides c (run_stream c s bytes)
run_hides s bytes c = cond_hides c.over c (all_given c s []) (run_intact c s bytes) (record { none = λ p e. refl }) (intact_hides s bytes c)

fault_none : (o : Result (Unit {0}) StreamFault) (c : Connection) → OpensNone (by_fault c o)
fault_none (Ok u) c = record { none = λ p. refl }
fault_none (Err f) c = record { none = λ p. refl }

ending_none : (s : Stream) (l : List ℕ) (c : Connection) → OpensNone (ending c s l)
ending_none (Joining n) l c = record { none = λ p. refl }
ending_none (Waiting n) l c = record { none = λ p. refl }
ending_none Incomplete l c = record { none = λ p. refl }
ending_none Over l c = record { none = λ p. refl }
ending_none other l c = fault_none (end_of c other l) c

ended_hides : (c : Connection) (x : StreamRun) → Hides c x → Hides c (ended x)
ended_hides c x h = cond_hides x.connection.over c x (followed x.seen (ending x.connection x.stream x.left)) h (record { none = λ p e. opening_none p x.seen (ending x.connection x.stream x.left).seen (h.none p e) ((ending_none x.stream x.left x.connection).none p) })

pub read_hides : (fin : Bool) (s : Stream) (bytes : List ℕ) (c : Connection) → Hides c (read fin c s bytes)
read_hides true s bytes c = ended_hides c (run_stream c s bytes) (run_hides s bytes c)
read_hides false s bytes c = run_hides s bytes c
