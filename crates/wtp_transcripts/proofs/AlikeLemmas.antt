-- What a stream gives is the same under two connections, if neither has opened what the other has not.
use Rattle.std.proofs.Common.{◌≡◌, ℕ, ◌||◌, Bool, true, false, cond, List, [], ◌∷◌, ◌++◌, Option, Some, None, Result, Ok, Err, refl, sym, ap, subst, ◌∙◌, inl, inr, ◌⊎◌}
use Rattle.std.proofs.lemmas.Bool.{cases_Bool, false≢true}
use Rattle.std.specs.List.{list_all}
use Rattle.wtp_core.specs.declared.error.scope.ErrorScope.{ErrorScope}
use Rattle.wtp_core.specs.declared.error.scope.ErrorScope.TheVariants as scope
use Rattle.wtp_frames.specs.declared.endpoint.Endpoint.{Endpoint}
use Rattle.wtp_frames.specs.declared.fault.Fault.{Fault as StreamFault}
use Rattle.wtp_frames.specs.declared.frame_type.FrameType.TheVariants as kind
use Rattle.wtp_frames.specs.Item.{Item, Whole, Broken}
use Rattle.wtp_frames.specs.Run.{Run, run}
use Rattle.wtp_frames.specs.Start.{message_reader, control_reader}
use Rattle.wtp_connection.specs.Resumption.{accepted_if}
use Rattle.wtp_connection.specs.declared.connection.Connection.{Connection}
use Rattle.wtp_connection.specs.declared.fault.Fault.{Fault}
use Rattle.wtp_connection.specs.declared.fault.Fault.TheVariants as fault
use Rattle.wtp_connection.specs.declared.instructions.DecoderPlace.{DecoderPlace}
use Rattle.wtp_connection.specs.declared.settings.PeerSettings.{PeerSettings}
use Rattle.wtp_connection.specs.declared.stream.Purpose.{Purpose}
use Rattle.wtp_connection.specs.declared.stream.Purpose.TheVariants as «for»
use Rattle.wtp_connection.specs.declared.stream.Stream.{Stream}
use Rattle.wtp_connection.specs.declared.stream.Stream.TheVariants.{Uni, Bi, Frames, Joining, Waiting, Session, Encoder, Decoder, Ignored, Over, Incomplete}
use Rattle.wtp_connection.specs.Fault.{scope_of}
use Rattle.wtp_connection.specs.Instructions.{sets_zero, after_bytes}
use Rattle.wtp_connection.specs.Opening.{uni_at, bi_at}
use Rattle.wtp_connection.specs.Receiving.{opening_of}
use Rattle.wtp_connection.specs.Settings.{settings_in}
use Rattle.wtp_connection.specs.Streams.{opens, opens_once, push_fault, closed_in, closed_by, Seen, Opened, Configured, Gave, Broke, Ended, StreamRun, rests, followed, all_given, breaks, by_settings, of_items, has_frames, bytes_seen, by_capacity, by_place, run_open, by_purpose, by_opening, run_intact, run_stream, by_fault, end_of, ending, ended, configured, received_settings}
use Rattle.wtp_connection.proofs.StreamLemmas.{over_run}
use Rattle.wtp_transcripts.specs.Transcript.{read, is_opened as flag}

-- ---- what two connections have in common

-- each is as before, or both have opened one
abbrev pub Flags : Connection → Connection → Connection → Connection → Purpose → Type 0
Flags c d x y p =
    ((flag x p ≡ flag c p) × (flag y p ≡ flag d p)) ⊎ ((flag x p ≡ true) × (flag y p ≡ true))

-- from c and d to x and y
pub record Goes (c d x y : Connection) : Type 0 where
  pub endpoint : x.endpoint ≡ c.endpoint
  pub other : y.endpoint ≡ d.endpoint
  pub flags : (p : Purpose) → Flags c d x y p
  pub plain : c.resumed ≡ false → x.resumed ≡ false
  pub other_plain : d.resumed ≡ false → y.resumed ≡ false

flags_then : (c d x y v w : Connection) (p : Purpose) → Flags c d x y p → Flags x y v w p → Flags c d v w p
flags_then c d x y v w p (inl (f, g)) (inl (h, k)) = inl (h ∙ f, k ∙ g)
flags_then c d x y v w p (inr (f, g)) (inl (h, k)) = inr (h ∙ f, k ∙ g)
flags_then c d x y v w p e (inr k) = inr k

pub goes_then : (c d x y v w : Connection) → Goes c d x y → Goes x y v w → Goes c d v w
goes_then c d x y v w f g = record {
  endpoint = g.endpoint ∙ f.endpoint;
  other = g.other ∙ f.other;
  flags = λ p. flags_then c d x y v w p (f.flags p) (g.flags p);
  plain = λ e. g.plain (f.plain e);
  other_plain = λ e. g.other_plain (f.other_plain e);
}

pub goes_same : (c d : Connection) → Goes c d c d
goes_same c d = record { endpoint = refl; other = refl; flags = λ p. inl (refl, refl); plain = λ e. e; other_plain = λ e. e }

pub peer_flags : (c : Connection) (v : PeerSettings) (p : Purpose) → flag (configured c v) p ≡ flag c p
peer_flags c v «for».Control = refl
peer_flags c v «for».Encoder = refl
peer_flags c v «for».Decoder = refl
peer_flags c v other = refl

pub over_flags : (c : Connection) (p : Purpose) → flag (record c { over = true }) p ≡ flag c p
over_flags c «for».Control = refl
over_flags c «for».Encoder = refl
over_flags c «for».Decoder = refl
over_flags c other = refl

peer_goes : (c d : Connection) (v : PeerSettings) → Goes c d (configured c v) (configured d v)
peer_goes c d v = record { endpoint = refl; other = refl; flags = λ p. inl (peer_flags c v p, peer_flags d v p); plain = λ e. refl; other_plain = λ e. refl }

scope_goes : (s : ErrorScope) (c d : Connection) → Goes c d (closed_in c s) (closed_in d s)
scope_goes scope.Stream c d = goes_same c d
scope_goes other c d = record { endpoint = refl; other = refl; flags = λ p. inl (over_flags c p, over_flags d p); plain = λ e. e; other_plain = λ e. e }

pub closed_goes : (c d : Connection) (f : Fault) → Goes c d (closed_by c f) (closed_by d f)
closed_goes c d f = scope_goes (scope_of f) c d

scope_over : (s : ErrorScope) (c d : Connection) → d.over ≡ c.over → (closed_in d s).over ≡ (closed_in c s).over
scope_over scope.Stream c d e = e
scope_over other c d e = refl

pub closed_over : (c d : Connection) (f : Fault) → d.over ≡ c.over → (closed_by d f).over ≡ (closed_by c f).over
closed_over c d f e = scope_over (scope_of f) c d e

-- they make the same of SETTINGS
abbrev pub Agree : Connection → Connection → Type 0
Agree c d = (payload : List ℕ) → received_settings d payload ≡ received_settings c payload

scope_agrees : (s : ErrorScope) (c d : Connection) → Agree c d → Agree (closed_in c s) (closed_in d s)
scope_agrees scope.Stream c d a = a
scope_agrees other c d a = a

closed_agree : (c d : Connection) (f : Fault) → Agree c d → Agree (closed_by c f) (closed_by d f)
closed_agree c d f a = scope_agrees (scope_of f) c d a

-- so it is where no session is resumed
pub plain_agree : (c d : Connection) → c.resumed ≡ false → d.resumed ≡ false → Agree c d
plain_agree c d e f = λ payload.
    ap (λ (b : Bool). accepted_if b d.peer (settings_in payload)) f
    ∙ sym (ap (λ (b : Bool). accepted_if b c.peer (settings_in payload)) e)

control_goes : (c d : Connection) → Goes c d (record c { control = true }) (record d { control = true })
control_goes c d = record { endpoint = refl; other = refl; flags = λ p. control_flags p; plain = λ e. e; other_plain = λ e. e }
  where
    control_flags : (p : Purpose) → Flags c d (record c { control = true }) (record d { control = true }) p
    control_flags «for».Control = inr (refl, refl)
    control_flags «for».Encoder = inl (refl, refl)
    control_flags «for».Decoder = inl (refl, refl)
    control_flags other = inl (refl, refl)

encoder_goes : (c d : Connection) → Goes c d (record c { encoder = true }) (record d { encoder = true })
encoder_goes c d = record { endpoint = refl; other = refl; flags = λ p. encoder_flags p; plain = λ e. e; other_plain = λ e. e }
  where
    encoder_flags : (p : Purpose) → Flags c d (record c { encoder = true }) (record d { encoder = true }) p
    encoder_flags «for».Control = inl (refl, refl)
    encoder_flags «for».Encoder = inr (refl, refl)
    encoder_flags «for».Decoder = inl (refl, refl)
    encoder_flags other = inl (refl, refl)

decoder_goes : (c d : Connection) → Goes c d (record c { decoder = true }) (record d { decoder = true })
decoder_goes c d = record { endpoint = refl; other = refl; flags = λ p. decoder_flags p; plain = λ e. e; other_plain = λ e. e }
  where
    decoder_flags : (p : Purpose) → Flags c d (record c { decoder = true }) (record d { decoder = true }) p
    decoder_flags «for».Control = inl (refl, refl)
    decoder_flags «for».Encoder = inl (refl, refl)
    decoder_flags «for».Decoder = inr (refl, refl)
    decoder_flags other = inl (refl, refl)

-- ---- runs

pub record RunsAlike (c d : Connection) (x y : StreamRun) : Type 0 where
  pub seen : y.seen ≡ x.seen
  pub stream : y.stream ≡ x.stream
  pub left : y.left ≡ x.left
  pub over : y.connection.over ≡ x.connection.over
  pub goes : Goes c d x.connection y.connection

pub alike_from : (c d e f : Connection) (x y : StreamRun) → Goes c d e f → RunsAlike e f x y → RunsAlike c d x y
alike_from c d e f x y g h = record {
  seen = h.seen;
  stream = h.stream;
  left = h.left;
  over = h.over;
  goes = goes_then c d e f x.connection y.connection g h.goes;
}

followed_alike : (seen : List Seen) (c d : Connection) (x y : StreamRun) → RunsAlike c d x y → RunsAlike c d (followed seen x) (followed seen y)
followed_alike seen c d x y h = record {
  seen = ap (λ (l : List Seen). seen ++ l) h.seen;
  stream = h.stream;
  left = h.left;
  over = h.over;
  goes = h.goes;
}

rests_alike : (c d : Connection) (s : Stream) (l : List ℕ) → d.over ≡ c.over → RunsAlike c d (rests c s l) (rests d s l)
rests_alike c d s l e = record { seen = refl; stream = refl; left = refl; over = e; goes = goes_same c d }

given_alike : (c d : Connection) (s : Stream) (seen : List Seen) → d.over ≡ c.over → RunsAlike c d (all_given c s seen) (all_given d s seen)
given_alike c d s seen e = record { seen = refl; stream = refl; left = refl; over = e; goes = goes_same c d }

breaks_alike : (c d : Connection) (f : Fault) → d.over ≡ c.over → RunsAlike c d (breaks c f) (breaks d f)
breaks_alike c d f e = record { seen = refl; stream = refl; left = refl; over = closed_over c d f e; goes = closed_goes c d f }

settings_alike : (o : Result PeerSettings Fault) (c d : Connection) (payload : List ℕ) (f g : Connection → StreamRun) → d.over ≡ c.over → ((a b : Connection) → b.over ≡ a.over → Agree a b → RunsAlike a b (f a) (g b)) → RunsAlike c d (by_settings c payload f o) (by_settings d payload g o)
settings_alike (Ok v) c d payload f g e h =
    followed_alike (Configured v payload ∷ []) c d (f (configured c v)) (g (configured d v)) (
    alike_from c d (configured c v) (configured d v) (f (configured c v)) (g (configured d v)) (peer_goes c d v) (h (configured c v) (configured d v) e (λ payload. refl)))
settings_alike (Err x) c d payload f g e h = breaks_alike c d x e

items_alike : (items : List Item) (c d : Connection) (f g : Connection → StreamRun) → d.over ≡ c.over → Agree c d → ((a b : Connection) → b.over ≡ a.over → RunsAlike a b (f a) (g b)) → RunsAlike c d (of_items c f items) (of_items d g items)
items_alike [] c d f g e k h = h c d e
items_alike (Whole kind.Settings payload ∷ items) c d f g e k h =
    subst (λ (o : Result PeerSettings Fault). RunsAlike c d (by_settings c payload (λ a. of_items a f items) (received_settings c payload)) (by_settings d payload (λ a. of_items a g items) o)) (sym (k payload)) (
    settings_alike (received_settings c payload) c d payload (λ a. of_items a f items) (λ a. of_items a g items) e (λ a b i j. items_alike items a b f g i j h))
items_alike (Broken x ∷ items) c d f g e k h =
    let a : Connection = closed_by c (fault.Stream x) in
    let b : Connection = closed_by d (fault.Stream x) in
    followed_alike (Broke (fault.Stream x) ∷ []) c d (of_items a f items) (of_items b g items) (
    alike_from c d a b (of_items a f items) (of_items b g items) (closed_goes c d (fault.Stream x)) (items_alike items a b f g (closed_over c d (fault.Stream x) e) (closed_agree c d (fault.Stream x) k) h))
items_alike (other ∷ items) c d f g e k h = followed_alike (Gave other ∷ []) c d (of_items c f items) (of_items d g items) (items_alike items c d f g e k h)

capacity_alike : (x : Bool) (c d : Connection) → d.over ≡ c.over → RunsAlike c d (by_capacity c x) (by_capacity d x)
capacity_alike true c d e = given_alike c d Encoder [] e
capacity_alike false c d e = breaks_alike c d fault.EncoderStream e

place_alike : (o : Option DecoderPlace) (c d : Connection) → d.over ≡ c.over → RunsAlike c d (by_place c o) (by_place d o)
place_alike (Some p) c d e = given_alike c d (Decoder p) [] e
place_alike None c d e = breaks_alike c d fault.DecoderStream e

open_alike : (s : Stream) (c d : Connection) (bytes : List ℕ) → d.over ≡ c.over → Agree c d → RunsAlike c d (run_open c s bytes) (run_open d s bytes)
open_alike (Frames r given) c d bytes e k =
    let x : Run = run r bytes in
    items_alike x.items c d (λ a. rests a (Frames x.reader (has_frames x.items || given)) x.left) (λ a. rests a (Frames x.reader (has_frames x.items || given)) x.left) e k (λ a b i. rests_alike a b (Frames x.reader (has_frames x.items || given)) x.left i)
open_alike (Session n) c d bytes e k = given_alike c d (Session n) (bytes_seen bytes) e
open_alike (Joining n) c d bytes e k = rests_alike c d (Joining n) bytes e
open_alike (Waiting n) c d bytes e k = rests_alike c d (Waiting n) bytes e
open_alike Encoder c d bytes e k = capacity_alike (list_all sets_zero bytes) c d e
open_alike (Decoder place) c d bytes e k = place_alike (after_bytes place bytes) c d e
open_alike other c d bytes e k = given_alike c d other [] e

-- ---- a stream that is opened

-- from c and d the connections are these after it, and so is the stream
opened_alike : (p : Purpose) (rest : List ℕ) (c d e f : Connection) (s : Stream) → Goes c d e f → f.over ≡ e.over → Agree e f → RunsAlike c d (by_purpose c p rest (Ok (e, s))) (by_purpose d p rest (Ok (f, s)))
opened_alike p rest c d e f s g i k = followed_alike (Opened p ∷ []) c d (run_open e s rest) (run_open f s rest) (alike_from c d e f (run_open e s rest) (run_open f s rest) g (open_alike s e f rest i k))

once_alike : (b : Bool) (p : Purpose) (rest : List ℕ) (c d e f : Connection) (s : Stream) → Goes c d e f → d.over ≡ c.over → f.over ≡ e.over → Agree e f → RunsAlike c d (by_purpose c p rest (opens_once b e s)) (by_purpose d p rest (opens_once b f s))
once_alike true p rest c d e f s g i j k = breaks_alike c d _ i
once_alike false p rest c d e f s g i j k = opened_alike p rest c d e f s g j k

-- the same, where what each has opened is the same
once_both : (p : Purpose) (rest : List ℕ) (a b : Bool) (c d e f : Connection) (s t : Stream) → b ≡ a → t ≡ s → Goes c d e f → d.over ≡ c.over → f.over ≡ e.over → Agree e f → RunsAlike c d (by_purpose c p rest (opens_once a e s)) (by_purpose d p rest (opens_once b f t))
once_both p rest a b c d e f s t same is g i j k =
    subst (λ (x : Bool). RunsAlike c d (by_purpose c p rest (opens_once a e s)) (by_purpose d p rest (opens_once x f t))) (sym same) (
    subst (λ (u : Stream). RunsAlike c d (by_purpose c p rest (opens_once a e s)) (by_purpose d p rest (opens_once a f u))) (sym is) (
    once_alike a p rest c d e f s g i j k))

purpose_alike : (p : Purpose) (rest : List ℕ) (c d : Connection) → d.endpoint ≡ c.endpoint → d.over ≡ c.over → Agree c d → flag d p ≡ flag c p → RunsAlike c d (by_purpose c p rest (opens c p)) (by_purpose d p rest (opens d p))
purpose_alike «for».Control rest c d e i k h = once_both «for».Control rest c.control d.control c d (record c { control = true }) (record d { control = true }) (Frames (control_reader c.endpoint) false) (Frames (control_reader d.endpoint) false) h (ap (λ (x : Endpoint). Frames (control_reader x) false) e) (control_goes c d) i i k
purpose_alike «for».Encoder rest c d e i k h = once_both «for».Encoder rest c.encoder d.encoder c d (record c { encoder = true }) (record d { encoder = true }) Encoder Encoder h refl (encoder_goes c d) i i k
purpose_alike «for».Decoder rest c d e i k h = once_both «for».Decoder rest c.decoder d.decoder c d (record c { decoder = true }) (record d { decoder = true }) _ _ h refl (decoder_goes c d) i i k
purpose_alike «for».Push rest c d e i k h = subst (λ (x : Endpoint). RunsAlike c d (breaks c (push_fault c.endpoint.side)) (breaks d (push_fault x.side))) (sym e) (breaks_alike c d (push_fault c.endpoint.side) i)
purpose_alike («for».Session s) rest c d e i k h = opened_alike («for».Session s) rest c d c d (Joining s) (goes_same c d) i k
purpose_alike «for».InvalidSession rest c d e i k h = breaks_alike c d _ i
purpose_alike «for».Message rest c d e i k h = subst (λ (x : Endpoint). RunsAlike c d (by_purpose c «for».Message rest (Ok (c, Frames (message_reader c.endpoint) false))) (by_purpose d «for».Message rest (Ok (d, Frames (message_reader x) false)))) (sym e) (opened_alike «for».Message rest c d c d (Frames (message_reader c.endpoint) false) (goes_same c d) i k)
purpose_alike «for».Foreign rest c d e i k h = breaks_alike c d _ i
purpose_alike «for».Ignored rest c d e i k h = opened_alike «for».Ignored rest c d c d Ignored (goes_same c d) i k

-- what may be opened, each has opened or has not
abbrev pub AgreesOn : Connection → Connection → Stream → List ℕ → Type 0
AgreesOn c d s bytes =
    (p : Purpose) (rest : List ℕ) → opening_of c.endpoint s bytes ≡ Some (p, rest)
    → flag d p ≡ flag c p

opening_alike : (o : Option (Purpose × List ℕ)) (s : Stream) (bytes : List ℕ) (c d : Connection) → d.endpoint ≡ c.endpoint → d.over ≡ c.over → Agree c d → ((p : Purpose) (rest : List ℕ) → o ≡ Some (p, rest) → flag d p ≡ flag c p) → RunsAlike c d (by_opening c s bytes o) (by_opening d s bytes o)
opening_alike None s bytes c d e i k h = rests_alike c d s bytes i
opening_alike (Some o) s bytes c d e i k h = purpose_alike o.0 o.1 c d e i k (h o.0 o.1 refl)

intact_alike : (s : Stream) (bytes : List ℕ) (c d : Connection) → d.endpoint ≡ c.endpoint → d.over ≡ c.over → Agree c d → AgreesOn c d s bytes → RunsAlike c d (run_intact c s bytes) (run_intact d s bytes)
intact_alike Uni bytes c d e i k h = subst (λ (x : Endpoint). RunsAlike c d (by_opening c Uni bytes (uni_at c.endpoint bytes)) (by_opening d Uni bytes (uni_at x bytes))) (sym e) (opening_alike (uni_at c.endpoint bytes) Uni bytes c d e i k h)
intact_alike Bi bytes c d e i k h = subst (λ (x : Endpoint). RunsAlike c d (by_opening c Bi bytes (bi_at c.endpoint bytes)) (by_opening d Bi bytes (bi_at x bytes))) (sym e) (opening_alike (bi_at c.endpoint bytes) Bi bytes c d e i k h)
intact_alike other bytes c d e i k h = open_alike other c d bytes i k

intact_is : (c : Connection) (s : Stream) (bytes : List ℕ) → c.over ≡ false → run_stream c s bytes ≡ run_intact c s bytes
intact_is c s bytes e = rw e refl

pub run_alike : (s : Stream) (bytes : List ℕ) (c d : Connection) → d.endpoint ≡ c.endpoint → d.over ≡ c.over → Agree c d → AgreesOn c d s bytes → RunsAlike c d (run_stream c s bytes) (run_stream d s bytes)
run_alike s bytes c d e i k h = elim (cases_Bool c.over) [
  | inl over ↦ subst (λ (x : StreamRun). RunsAlike c d x (run_stream d s bytes)) (sym (over_run c s bytes over)) (
      subst (λ (y : StreamRun). RunsAlike c d (all_given c s []) y) (sym (over_run d s bytes (i ∙ over))) (given_alike c d s [] i))
  | inr intact ↦ subst (λ (x : StreamRun). RunsAlike c d x (run_stream d s bytes)) (sym (intact_is c s bytes intact)) (
      subst (λ (y : StreamRun). RunsAlike c d (run_intact c s bytes) y) (sym (intact_is d s bytes (i ∙ intact))) (intact_alike s bytes c d e i k h))
]

-- ---- ends

fault_alike : (o : Result (Unit {0}) StreamFault) (c d : Connection) → d.over ≡ c.over → RunsAlike c d (by_fault c o) (by_fault d o)
fault_alike (Ok u) c d i = given_alike c d Over (Ended ∷ []) i
fault_alike (Err f) c d i = record { seen = refl; stream = refl; left = refl; over = closed_over c d (fault.Stream f) i; goes = closed_goes c d (fault.Stream f) }

end_same : (s : Stream) (n : List ℕ) (c d : Connection) → d.endpoint ≡ c.endpoint → end_of d s n ≡ end_of c s n
end_same Bi n c d e = ap (λ (x : Endpoint). end_of (record c { endpoint = x }) Bi n) e
end_same other n c d e = refl

-- the end of a stream that has one
end_alike : (s : Stream) (l : List ℕ) (c d : Connection) → d.endpoint ≡ c.endpoint → d.over ≡ c.over → RunsAlike c d (by_fault c (end_of c s l)) (by_fault d (end_of d s l))
end_alike s l c d e i = subst (λ (o : Result (Unit {0}) StreamFault). RunsAlike c d (by_fault c (end_of c s l)) (by_fault d o)) (sym (end_same s l c d e)) (fault_alike (end_of c s l) c d i)

ending_alike : (s : Stream) (l : List ℕ) (c d : Connection) → d.endpoint ≡ c.endpoint → d.over ≡ c.over → RunsAlike c d (ending c s l) (ending d s l)
ending_alike (Joining n) l c d e i = rests_alike c d (Joining n) l i
ending_alike (Waiting n) l c d e i = rests_alike c d (Waiting n) l i
ending_alike Incomplete l c d e i = given_alike c d Incomplete [] i
ending_alike Over l c d e i = given_alike c d Over [] i
ending_alike other l c d e i = end_alike other l c d e i

cond_alike : (b : Bool) (c d : Connection) (x y v w : StreamRun) → RunsAlike c d x y → RunsAlike c d v w → RunsAlike c d (cond b x v) (cond b y w)
cond_alike true c d x y v w f g = f
cond_alike false c d x y v w f g = g

-- after a run, where the stream ends with what is left of it
ended_alike : (c d : Connection) (x y : StreamRun) → d.endpoint ≡ c.endpoint → RunsAlike c d x y → RunsAlike c d (ended x) (ended y)
ended_alike c d x y e h =
    let same : y.connection.endpoint ≡ x.connection.endpoint = h.goes.other ∙ e ∙ sym h.goes.endpoint in
    let end : RunsAlike c d (ending x.connection x.stream x.left) (ending y.connection y.stream y.left) =
    subst (λ (s : Stream). RunsAlike c d (ending x.connection x.stream x.left) (ending y.connection s y.left)) (sym h.stream) (
    subst (λ (l : List ℕ). RunsAlike c d (ending x.connection x.stream x.left) (ending y.connection x.stream l)) (sym h.left) (
    alike_from c d x.connection y.connection (ending x.connection x.stream x.left) (ending y.connection x.stream x.left) h.goes (
    ending_alike x.stream x.left x.connection y.connection same h.over))) in
    let all : RunsAlike c d (followed x.seen (ending x.connection x.stream x.left)) (followed y.seen (ending y.connection y.stream y.left)) =
    subst (λ (l : List Seen). RunsAlike c d (followed x.seen (ending x.connection x.stream x.left)) (followed l (ending y.connection y.stream y.left))) (sym h.seen) (
    followed_alike x.seen c d (ending x.connection x.stream x.left) (ending y.connection y.stream y.left) end) in
    subst (λ (b : Bool). RunsAlike c d (ended x) (cond b y (followed y.seen (ending y.connection y.stream y.left)))) (sym h.over) (
    cond_alike x.connection.over c d x y (followed x.seen (ending x.connection x.stream x.left)) (followed y.seen (ending y.connection y.stream y.left)) h all)

pub read_alike : (fin : Bool) (s : Stream) (bytes : List ℕ) (c d : Connection) → d.endpoint ≡ c.endpoint → d.over ≡ c.over → Agree c d → AgreesOn c d s bytes → RunsAlike c d (read fin c s bytes) (read fin d s bytes)
read_alike true s bytes c d e i k h = ended_alike c d (run_stream c s bytes) (run_stream d s bytes) e (run_alike s bytes c d e i k h)
read_alike false s bytes c d e i k h = run_alike s bytes c d e i k h

-- ---- what is opened

-- it may be opened once
once_over : (b : Bool) (p : Purpose) (rest : List ℕ) (c e : Connection) (s : Stream) → b ≡ true → (by_purpose c p rest (opens_once b e s)).connection.over ≡ true
once_over true p rest c e s is = refl
once_over false p rest c e s is = absurd (false≢true is)

purpose_over : (p : Purpose) (rest : List ℕ) (c : Connection) → flag c p ≡ true → (by_purpose c p rest (opens c p)).connection.over ≡ true
purpose_over «for».Control rest c e = once_over c.control «for».Control rest c _ _ e
purpose_over «for».Encoder rest c e = once_over c.encoder «for».Encoder rest c _ _ e
purpose_over «for».Decoder rest c e = once_over c.decoder «for».Decoder rest c _ _ e
purpose_over other rest c e = absurd (false≢true e)

first_over : (s : Stream) (bytes : List ℕ) (c : Connection) (p : Purpose) (rest : List ℕ) → c.over ≡ false → opening_of c.endpoint s bytes ≡ Some (p, rest) → flag c p ≡ true → (run_stream c s bytes).connection.over ≡ true
first_over Uni bytes c p rest i is e = ap (λ (x : StreamRun). x.connection.over) (intact_is c Uni bytes i ∙ ap (λ (o : Option (Purpose × List ℕ)). by_opening c Uni bytes o) is) ∙ purpose_over p rest c e
first_over Bi bytes c p rest i is e = ap (λ (x : StreamRun). x.connection.over) (intact_is c Bi bytes i ∙ ap (λ (o : Option (Purpose × List ℕ)). by_opening c Bi bytes o) is) ∙ purpose_over p rest c e
first_over other bytes c p rest i is e = absurd (cc)

ended_stays_over : (x : StreamRun) → x.connection.over ≡ true → (ended x).connection.over ≡ true
ended_stays_over x e = rw e refl

twice_over : (fin : Bool) (s : Stream) (bytes : List ℕ) (c : Connection) (p : Purpose) (rest : List ℕ) → c.over ≡ false → opening_of c.endpoint s bytes ≡ Some (p, rest) → flag c p ≡ true → (read fin c s bytes).connection.over ≡ true
twice_over true s bytes c p rest i is e = ended_stays_over (run_stream c s bytes) (first_over s bytes c p rest i is e)
twice_over false s bytes c p rest i is e = first_over s bytes c p rest i is e

-- what is opened stays so
still_open : (c d : Connection) (p : Purpose) → Flags c c d d p → flag c p ≡ true → flag d p ≡ true
still_open c d p (inl (f, g)) e = f ∙ e
still_open c d p (inr (f, g)) e = f

open_keeps : (s : Stream) (c : Connection) (bytes : List ℕ) (p : Purpose) → flag c p ≡ true → flag (run_open c s bytes).connection p ≡ true
open_keeps s c bytes p e = still_open c (run_open c s bytes).connection p ((open_alike s c c bytes refl (λ payload. refl)).goes.flags p) e

-- and is opened then
once_sets : (b : Bool) (p : Purpose) (rest : List ℕ) (c e : Connection) (s : Stream) → flag e p ≡ true → (by_purpose c p rest (opens_once b e s)).connection.over ≡ false → flag (by_purpose c p rest (opens_once b e s)).connection p ≡ true
once_sets true p rest c e s f o = absurd (false≢true (sym o))
once_sets false p rest c e s f o = open_keeps s e rest p f

purpose_sets : (p : Purpose) (rest : List ℕ) (c d : Connection) → flag d p ≡ true → (by_purpose c p rest (opens c p)).connection.over ≡ false → flag (by_purpose c p rest (opens c p)).connection p ≡ true
purpose_sets «for».Control rest c d e o = once_sets c.control «for».Control rest c (record c { control = true }) _ refl o
purpose_sets «for».Encoder rest c d e o = once_sets c.encoder «for».Encoder rest c (record c { encoder = true }) _ refl o
purpose_sets «for».Decoder rest c d e o = once_sets c.decoder «for».Decoder rest c (record c { decoder = true }) _ refl o
purpose_sets other rest c d e o = absurd (false≢true e)

opening_sets : (x y : StreamRun) (p : Purpose) → x ≡ y → (y.connection.over ≡ false → flag y.connection p ≡ true) → x.connection.over ≡ false → flag x.connection p ≡ true
opening_sets x y p e h o = ap (λ (z : StreamRun). flag z.connection p) e ∙ h (ap (λ (z : StreamRun). z.connection.over) (sym e) ∙ o)

first_sets : (s : Stream) (bytes : List ℕ) (c d : Connection) (p : Purpose) (rest : List ℕ) → c.over ≡ false → opening_of c.endpoint s bytes ≡ Some (p, rest) → flag d p ≡ true → (run_stream c s bytes).connection.over ≡ false → flag (run_stream c s bytes).connection p ≡ true
first_sets Uni bytes c d p rest i is e o = opening_sets (run_stream c Uni bytes) (by_purpose c p rest (opens c p)) p (intact_is c Uni bytes i ∙ ap (λ (o : Option (Purpose × List ℕ)). by_opening c Uni bytes o) is) (purpose_sets p rest c d e) o
first_sets Bi bytes c d p rest i is e o = opening_sets (run_stream c Bi bytes) (by_purpose c p rest (opens c p)) p (intact_is c Bi bytes i ∙ ap (λ (o : Option (Purpose × List ℕ)). by_opening c Bi bytes o) is) (purpose_sets p rest c d e) o
first_sets other bytes c d p rest i is e o = absurd (cc)

ended_from : (x : StreamRun) → (ended x).connection.over ≡ false → x.connection.over ≡ false
ended_from x e = elim (cases_Bool x.connection.over) [
  | inl over ↦ absurd (false≢true (sym e ∙ ended_stays_over x over))
  | inr intact ↦ intact
]

ended_keeps : (x : StreamRun) (p : Purpose) → flag x.connection p ≡ true → flag (ended x).connection p ≡ true
ended_keeps x p e = by_over x.connection.over x (followed x.seen (ending x.connection x.stream x.left)) e (still_open x.connection (ending x.connection x.stream x.left).connection p ((ending_alike x.stream x.left x.connection x.connection refl refl).goes.flags p) e)
  where
    by_over : (b : Bool) (x y : StreamRun) → flag x.connection p ≡ true → flag y.connection p ≡ true → flag (cond b x y).connection p ≡ true
    by_over true x y e f = e
    by_over false x y e f = f

pub opened_then : (fin : Bool) (s : Stream) (bytes : List ℕ) (c d : Connection) (p : Purpose) (rest : List ℕ) → c.over ≡ false → (read fin c s bytes).connection.over ≡ false → opening_of c.endpoint s bytes ≡ Some (p, rest) → flag d p ≡ true → flag (read fin c s bytes).connection p ≡ true
opened_then true s bytes c d p rest i o is e = ended_keeps (run_stream c s bytes) p (first_sets s bytes c d p rest i is e (ended_from (run_stream c s bytes) o))
opened_then false s bytes c d p rest i o is e = first_sets s bytes c d p rest i is e o

-- where the connection goes on, what is opened was not
pub opened_first : (fin : Bool) (s : Stream) (bytes : List ℕ) (c : Connection) (p : Purpose) (rest : List ℕ) → c.over ≡ false → (read fin c s bytes).connection.over ≡ false → opening_of c.endpoint s bytes ≡ Some (p, rest) → flag c p ≡ false
opened_first fin s bytes c p rest i after is = elim (cases_Bool (flag c p)) [
  | inl twice ↦ absurd (false≢true (sym after ∙ twice_over fin s bytes c p rest i is twice))
  | inr first ↦ first
]
