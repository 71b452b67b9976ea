-- A connection that resumes a session, beside one that resumes none.
use Rattle.std.proofs.Common.{◌≡◌, ℕ, ◌||◌, Bool, true, false, cond, List, [], ◌∷◌, ◌++◌, Option, Some, None, Result, Ok, Err, refl, sym, ap, subst, inl, inr, ◌⊎◌}
use Rattle.std.proofs.lemmas.Bool.{false≢true}
use Rattle.std.specs.List.{list_all}
use Rattle.wtp_core.specs.declared.error.scope.ErrorScope.{ErrorScope}
use Rattle.wtp_core.specs.declared.error.scope.ErrorScope.TheVariants as scope
use Rattle.wtp_frames.specs.declared.endpoint.Endpoint.{Endpoint}
use Rattle.wtp_frames.specs.declared.fault.Fault.{Fault as StreamFault}
use Rattle.wtp_frames.specs.declared.frame_type.FrameType.TheVariants as kind
use Rattle.wtp_frames.specs.Item.{Item, Whole, Broken}
use Rattle.wtp_frames.specs.Run.{Run, run}
use Rattle.wtp_frames.specs.Start.{message_reader, control_reader}
use Rattle.wtp_connection.specs.Resumption.{loses_capacity, loses_limits, after_resumption, accepted_if}
use Rattle.wtp_connection.specs.declared.connection.Connection.{Connection}
use Rattle.wtp_connection.specs.declared.fault.Fault.{Fault}
use Rattle.wtp_connection.specs.declared.fault.Fault.TheVariants as fault
use Rattle.wtp_connection.specs.declared.instructions.DecoderPlace.{DecoderPlace}
use Rattle.wtp_connection.specs.declared.settings.PeerSettings.{PeerSettings}
use Rattle.wtp_connection.specs.declared.stream.Purpose.{Purpose}
use Rattle.wtp_connection.specs.declared.stream.Purpose.TheVariants as «for»
use Rattle.wtp_connection.specs.declared.stream.Stream.{Stream}
use Rattle.wtp_connection.specs.declared.stream.Stream.TheVariants.{Uni, Bi, Frames, Joining, Waiting, Session, Encoder, Decoder, Ignored, Over, Incomplete}
use Rattle.wtp_connection.specs.Fault.{scope_of}
use Rattle.wtp_connection.specs.Instructions.{sets_zero, after_bytes}
use Rattle.wtp_connection.specs.Opening.{uni_at, bi_at}
use Rattle.wtp_connection.specs.Settings.{values_of, with_defaults, settings_in}
use Rattle.wtp_connection.specs.Streams.{opens, opens_once, push_fault, closed_in, closed_by, Seen, Opened, Configured, Gave, Broke, Ended, StreamRun, rests, followed, all_given, breaks, by_settings, of_items, has_frames, bytes_seen, by_capacity, by_place, run_open, by_purpose, by_opening, run_intact, run_stream, by_fault, end_of, ending, ended, configured, received_settings}
use Rattle.wtp_transcripts.specs.Transcript.{read, loses}

-- ---- what they have in common

-- without the settings of the peer
abbrev pub bare : Connection → Connection
bare c = record c { peer = with_defaults (values_of []); resumed = false }

-- the first one may remember these settings, and the second one remembers none
pub record Beside (old : PeerSettings) (c d : Connection) : Type 0 where
  pub bare : bare d ≡ bare c
  pub plain : d.resumed ≡ false
  pub kept : c.resumed ≡ true → c.peer ≡ old

pub same_over : (old : PeerSettings) (c d : Connection) → Beside old c d → d.over ≡ c.over
same_over old c d h = ap (λ (x : Connection). x.over) h.bare

pub same_endpoint : (old : PeerSettings) (c d : Connection) → Beside old c d → d.endpoint ≡ c.endpoint
same_endpoint old c d h = ap (λ (x : Connection). x.endpoint) h.bare

-- SETTINGS that lose something of what is remembered are found
abbrev pub loses_in : PeerSettings → List Seen → Bool
loses_in old [] = false
loses_in old (i ∷ seen) = loses old i || loses_in old seen

-- they find the same
pub record SameRun (old : PeerSettings) (x y : StreamRun) : Type 0 where
  pub seen : y.seen ≡ x.seen
  pub stream : y.stream ≡ x.stream
  pub left : y.left ≡ x.left
  pub beside : Beside old x.connection y.connection

-- or the first one ends by SETTINGS that the second one accepts
pub record Refuses (old : PeerSettings) (x y : StreamRun) : Type 0 where
  pub over : x.connection.over ≡ true
  pub lost : loses_in old y.seen ≡ true

abbrev pub Both : PeerSettings → StreamRun → StreamRun → Type 0
Both old x y = SameRun old x y ⊎ Refuses old x y

-- ---- runs

scope_beside : (s : ErrorScope) (old : PeerSettings) (c d : Connection) → Beside old c d → Beside old (closed_in c s) (closed_in d s)
scope_beside scope.Stream old c d h = h
scope_beside other old c d h = record { bare = ap (λ (x : Connection). record x { over = true }) h.bare; plain = h.plain; kept = h.kept }

pub closed_beside : (old : PeerSettings) (c d : Connection) (f : Fault) → Beside old c d → Beside old (closed_by c f) (closed_by d f)
closed_beside old c d f h = scope_beside (scope_of f) old c d h

given_both : (old : PeerSettings) (c d : Connection) (s : Stream) (seen : List Seen) → Beside old c d → Both old (all_given c s seen) (all_given d s seen)
given_both old c d s seen h = inl (record { seen = refl; stream = refl; left = refl; beside = h })

rests_both : (old : PeerSettings) (c d : Connection) (s : Stream) (l : List ℕ) → Beside old c d → Both old (rests c s l) (rests d s l)
rests_both old c d s l h = inl (record { seen = refl; stream = refl; left = refl; beside = h })

breaks_both : (old : PeerSettings) (c d : Connection) (f : Fault) → Beside old c d → Both old (breaks c f) (breaks d f)
breaks_both old c d f h = given_both old (closed_by c f) (closed_by d f) Over (Broke f ∷ []) (closed_beside old c d f h)

or_last : (a b : Bool) → b ≡ true → (a || b) ≡ true
or_last true b e = refl
or_last false b e = e

pub lost_later : (old : PeerSettings) (xs ys : List Seen) → loses_in old ys ≡ true → loses_in old (xs ++ ys) ≡ true
lost_later old [] ys e = e
lost_later old (i ∷ xs) ys e = or_last (loses old i) (loses_in old (xs ++ ys)) (lost_later old xs ys e)

or_next : (a b c : Bool) → (b ≡ true → c ≡ true) → (a || b) ≡ true → (a || c) ≡ true
or_next true b c f e = refl
or_next false b c f e = f e

pub lost_first : (old : PeerSettings) (xs ys : List Seen) → loses_in old xs ≡ true → loses_in old (xs ++ ys) ≡ true
lost_first old [] ys e = absurd (false≢true e)
lost_first old (i ∷ xs) ys e = or_next (loses old i) (loses_in old xs) (loses_in old (xs ++ ys)) (lost_first old xs ys) e

followed_both : (old : PeerSettings) (seen : List Seen) (x y : StreamRun) → Both old x y → Both old (followed seen x) (followed seen y)
followed_both old seen x y (inl h) = inl (record { seen = ap (λ (l : List Seen). seen ++ l) h.seen; stream = h.stream; left = h.left; beside = h.beside })
followed_both old seen x y (inr h) = inr (record { over = h.over; lost = lost_later old seen y.seen h.lost })

-- SETTINGS
configured_beside : (old : PeerSettings) (c d : Connection) (v : PeerSettings) → Beside old c d → Beside old (configured c v) (configured d v)
configured_beside old c d v h = record { bare = h.bare; plain = refl; kept = λ e. absurd (false≢true e) }

-- what continues a run
abbrev Continues : PeerSettings → (Connection → StreamRun) → (Connection → StreamRun) → Type 0
Continues old f g = (a b : Connection) → Beside old a b → Both old (f a) (g b)

accepted_both : (old : PeerSettings) (c d : Connection) (payload : List ℕ) (f g : Connection → StreamRun) (o : Result PeerSettings Fault) → Beside old c d → Continues old f g → Both old (by_settings c payload f o) (by_settings d payload g o)
accepted_both old c d payload f g (Ok v) h next = followed_both old (Configured v payload ∷ []) (f (configured c v)) (g (configured d v)) (next (configured c v) (configured d v) (configured_beside old c d v h))
accepted_both old c d payload f g (Err x) h next = breaks_both old c d x h

or_true : (a b : Bool) → a ≡ true → (a || b) ≡ true
or_true true b e = refl
or_true false b e = absurd (false≢true e)

-- valid ones, where these are remembered
valid_both : (old : PeerSettings) (c d : Connection) (payload : List ℕ) (f g : Connection → StreamRun) (v : PeerSettings) (a b : Bool) → loses_capacity old v ≡ a → loses_limits old v ≡ b → Beside old c d → Continues old f g → Both old (by_settings c payload f (cond a (Err fault.Capacity) (cond b (Err fault.Settings) (Ok v)))) (by_settings d payload g (Ok v))
valid_both old c d payload f g v true b capacity limits h next = inr (record {
  over = refl;
  lost = or_true (loses_capacity old v || loses_limits old v) (loses_in old (g (configured d v)).seen) (or_true (loses_capacity old v) (loses_limits old v) capacity);
})
valid_both old c d payload f g v false true capacity limits h next = inr (record {
  over = refl;
  lost = or_true (loses_capacity old v || loses_limits old v) (loses_in old (g (configured d v)).seen) (or_last (loses_capacity old v) (loses_limits old v) limits);
})
valid_both old c d payload f g v false false capacity limits h next = accepted_both old c d payload f g (Ok v) h next

remembered_both : (b : Bool) (p old : PeerSettings) (c d : Connection) (payload : List ℕ) (f g : Connection → StreamRun) (o : Result PeerSettings Fault) → (b ≡ true → p ≡ old) → Beside old c d → Continues old f g → Both old (by_settings c payload f (accepted_if b p o)) (by_settings d payload g o)
remembered_both false p old c d payload f g o k h next = accepted_both old c d payload f g o h next
remembered_both true p old c d payload f g (Err x) k h next = breaks_both old c d x h
remembered_both true p old c d payload f g (Ok v) k h next = subst (λ (q : PeerSettings). Both old (by_settings c payload f (after_resumption q v)) (by_settings d payload g (Ok v))) (sym (k refl)) (valid_both old c d payload f g v (loses_capacity old v) (loses_limits old v) refl refl h next)

settings_both : (old : PeerSettings) (c d : Connection) (payload : List ℕ) (f g : Connection → StreamRun) → Beside old c d → Continues old f g → Both old (by_settings c payload f (received_settings c payload)) (by_settings d payload g (received_settings d payload))
settings_both old c d payload f g h next = subst (λ (b : Bool). Both old (by_settings c payload f (received_settings c payload)) (by_settings d payload g (accepted_if b d.peer (settings_in payload)))) (sym h.plain) (remembered_both c.resumed c.peer old c d payload f g (settings_in payload) h.kept h next)

items_both : (items : List Item) (old : PeerSettings) (c d : Connection) (f g : Connection → StreamRun) → Beside old c d → Continues old f g → Both old (of_items c f items) (of_items d g items)
items_both [] old c d f g h next = next c d h
items_both (Whole kind.Settings payload ∷ items) old c d f g h next = settings_both old c d payload (λ a. of_items a f items) (λ a. of_items a g items) h (λ a b k. items_both items old a b f g k next)
items_both (Broken x ∷ items) old c d f g h next =
    let a : Connection = closed_by c (fault.Stream x) in
    let b : Connection = closed_by d (fault.Stream x) in
    followed_both old (Broke (fault.Stream x) ∷ []) (of_items a f items) (of_items b g items) (items_both items old a b f g (closed_beside old c d (fault.Stream x) h) next)
items_both (other ∷ items) old c d f g h next = followed_both old (Gave other ∷ []) (of_items c f items) (of_items d g items) (items_both items old c d f g h next)

capacity_both : (x : Bool) (old : PeerSettings) (c d : Connection) → Beside old c d → Both old (by_capacity c x) (by_capacity d x)
capacity_both true old c d h = given_both old c d Encoder [] h
capacity_both false old c d h = breaks_both old c d fault.EncoderStream h

place_both : (o : Option DecoderPlace) (old : PeerSettings) (c d : Connection) → Beside old c d → Both old (by_place c o) (by_place d o)
place_both (Some p) old c d h = given_both old c d (Decoder p) [] h
place_both None old c d h = breaks_both old c d fault.DecoderStream h

open_both : (s : Stream) (old : PeerSettings) (c d : Connection) (bytes : List ℕ) → Beside old c d → Both old (run_open c s bytes) (run_open d s bytes)
open_both (Frames r given) old c d bytes h =
    let x : Run = run r bytes in
    items_both x.items old c d (λ a. rests a (Frames x.reader (has_frames x.items || given)) x.left) (λ a. rests a (Frames x.reader (has_frames x.items || given)) x.left) h (λ a b k. rests_both old a b (Frames x.reader (has_frames x.items || given)) x.left k)
open_both (Session n) old c d bytes h = given_both old c d (Session n) (bytes_seen bytes) h
open_both (Joining n) old c d bytes h = rests_both old c d (Joining n) bytes h
open_both (Waiting n) old c d bytes h = rests_both old c d (Waiting n) bytes h
open_both Encoder old c d bytes h = capacity_both (list_all sets_zero bytes) old c d h
open_both (Decoder place) old c d bytes h = place_both (after_bytes place bytes) old c d h
open_both other old c d bytes h = given_both old c d other [] h

-- ---- a stream that is opened

opened_both : (p : Purpose) (rest : List ℕ) (old : PeerSettings) (c d e f : Connection) (s : Stream) → Beside old e f → Both old (by_purpose c p rest (Ok (e, s))) (by_purpose d p rest (Ok (f, s)))
opened_both p rest old c d e f s h = followed_both old (Opened p ∷ []) (run_open e s rest) (run_open f s rest) (open_both s old e f rest h)

once_both : (a b : Bool) (p : Purpose) (rest : List ℕ) (old : PeerSettings) (c d e f : Connection) (s t : Stream) → b ≡ a → t ≡ s → Beside old c d → Beside old e f → Both old (by_purpose c p rest (opens_once a e s)) (by_purpose d p rest (opens_once b f t))
once_both true true p rest old c d e f s t same is h k = breaks_both old c d _ h
once_both false false p rest old c d e f s t same is h k = subst (λ (u : Stream). Both old (by_purpose c p rest (Ok (e, s))) (by_purpose d p rest (Ok (f, u)))) (sym is) (opened_both p rest old c d e f s k)
once_both true false p rest old c d e f s t same is h k = absurd (false≢true same)
once_both false true p rest old c d e f s t same is h k = absurd (false≢true (sym same))

purpose_both : (p : Purpose) (rest : List ℕ) (old : PeerSettings) (c d : Connection) → Beside old c d → Both old (by_purpose c p rest (opens c p)) (by_purpose d p rest (opens d p))
purpose_both «for».Control rest old c d h = once_both c.control d.control «for».Control rest old c d (record c { control = true }) (record d { control = true }) (Frames (control_reader c.endpoint) false) (Frames (control_reader d.endpoint) false) (ap (λ (x : Connection). x.control) h.bare) (ap (λ (x : Connection). Frames (control_reader x.endpoint) false) h.bare) h (record { bare = ap (λ (x : Connection). record x { control = true }) h.bare; plain = h.plain; kept = h.kept })
purpose_both «for».Encoder rest old c d h = once_both c.encoder d.encoder «for».Encoder rest old c d (record c { encoder = true }) (record d { encoder = true }) Encoder Encoder (ap (λ (x : Connection). x.encoder) h.bare) refl h (record { bare = ap (λ (x : Connection). record x { encoder = true }) h.bare; plain = h.plain; kept = h.kept })
purpose_both «for».Decoder rest old c d h = once_both c.decoder d.decoder «for».Decoder rest old c d (record c { decoder = true }) (record d { decoder = true }) _ _ (ap (λ (x : Connection). x.decoder) h.bare) refl h (record { bare = ap (λ (x : Connection). record x { decoder = true }) h.bare; plain = h.plain; kept = h.kept })
purpose_both «for».Push rest old c d h = subst (λ (x : Endpoint). Both old (breaks c (push_fault c.endpoint.side)) (breaks d (push_fault x.side))) (sym (same_endpoint old c d h)) (breaks_both old c d (push_fault c.endpoint.side) h)
purpose_both («for».Session s) rest old c d h = opened_both («for».Session s) rest old c d c d (Joining s) h
purpose_both «for».InvalidSession rest old c d h = breaks_both old c d _ h
purpose_both «for».Message rest old c d h = subst (λ (x : Endpoint). Both old (by_purpose c «for».Message rest (Ok (c, Frames (message_reader c.endpoint) false))) (by_purpose d «for».Message rest (Ok (d, Frames (message_reader x) false)))) (sym (same_endpoint old c d h)) (opened_both «for».Message rest old c d c d (Frames (message_reader c.endpoint) false) h)
purpose_both «for».Foreign rest old c d h = breaks_both old c d _ h
purpose_both «for».Ignored rest old c d h = opened_both «for».Ignored rest old c d c d Ignored h

opening_both : (o : Option (Purpose × List ℕ)) (s : Stream) (bytes : List ℕ) (old : PeerSettings) (c d : Connection) → Beside old c d → Both old (by_opening c s bytes o) (by_opening d s bytes o)
opening_both None s bytes old c d h = rests_both old c d s bytes h
opening_both (Some o) s bytes old c d h = purpose_both o.0 o.1 old c d h

intact_both : (s : Stream) (bytes : List ℕ) (old : PeerSettings) (c d : Connection) → Beside old c d → Both old (run_intact c s bytes) (run_intact d s bytes)
intact_both Uni bytes old c d h = subst (λ (x : Endpoint). Both old (by_opening c Uni bytes (uni_at c.endpoint bytes)) (by_opening d Uni bytes (uni_at x bytes))) (sym (same_endpoint old c d h)) (opening_both (uni_at c.endpoint bytes) Uni bytes old c d h)
intact_both Bi bytes old c d h = subst (λ (x : Endpoint). Both old (by_opening c Bi bytes (bi_at c.endpoint bytes)) (by_opening d Bi bytes (bi_at x bytes))) (sym (same_endpoint old c d h)) (opening_both (bi_at c.endpoint bytes) Bi bytes old c d h)
intact_both other bytes old c d h = open_both other old c d bytes h

cond_both : (a b : Bool) (old : PeerSettings) (x y v w : StreamRun) → b ≡ a → Both old x y → Both old v w → Both old (cond a x v) (cond b y w)
cond_both true true old x y v w e f g = f
cond_both false false old x y v w e f g = g
cond_both true false old x y v w e f g = absurd (false≢true e)
cond_both false true old x y v w e f g = absurd (false≢true (sym e))

run_both : (s : Stream) (bytes : List ℕ) (old : PeerSettings) (c d : Connection) → Beside old c d → Both old (run_stream c s bytes) (run_stream d s bytes)
run_both s bytes old c d h = cond_both c.over d.over old (all_given c s []) (all_given d s []) (run_intact c s bytes) (run_intact d s bytes) (same_over old c d h) (given_both old c d s [] h) (intact_both s bytes old c d h)

-- ---- ends

fault_both : (o : Result (Unit {0}) StreamFault) (old : PeerSettings) (c d : Connection) → Beside old c d → Both old (by_fault c o) (by_fault d o)
fault_both (Ok u) old c d h = given_both old c d Over (Ended ∷ []) h
fault_both (Err f) old c d h = inl (record { seen = refl; stream = refl; left = refl; beside = closed_beside old c d (fault.Stream f) h })

end_same : (s : Stream) (n : List ℕ) (old : PeerSettings) (c d : Connection) → Beside old c d → end_of d s n ≡ end_of c s n
end_same Bi n old c d h = ap (λ (x : Connection). end_of x Bi n) h.bare
end_same other n old c d h = refl

end_both : (s : Stream) (l : List ℕ) (old : PeerSettings) (c d : Connection) → Beside old c d → Both old (by_fault c (end_of c s l)) (by_fault d (end_of d s l))
end_both s l old c d h = subst (λ (o : Result (Unit {0}) StreamFault). Both old (by_fault c (end_of c s l)) (by_fault d o)) (sym (end_same s l old c d h)) (fault_both (end_of c s l) old c d h)

ending_both : (s : Stream) (l : List ℕ) (old : PeerSettings) (c d : Connection) → Beside old c d → Both old (ending c s l) (ending d s l)
ending_both (Joining n) l old c d h = rests_both old c d (Joining n) l h
ending_both (Waiting n) l old c d h = rests_both old c d (Waiting n) l h
ending_both Incomplete l old c d h = given_both old c d Incomplete [] h
ending_both Over l old c d h = given_both old c d Over [] h
ending_both other l old c d h = end_both other l old c d h

-- an error ended the first one
over_ended : (x : StreamRun) → x.connection.over ≡ true → (ended x).connection.over ≡ true
over_ended x e = rw e refl

lost_ended : (old : PeerSettings) (y : StreamRun) → loses_in old y.seen ≡ true → loses_in old (ended y).seen ≡ true
lost_ended old y e = elim y.connection.over as (λ b. loses_in old (cond b y (followed y.seen (ending y.connection y.stream y.left))).seen ≡ true) [
  | true ↦ e
  | false ↦ lost_first old y.seen (ending y.connection y.stream y.left).seen e
]

ended_both : (old : PeerSettings) (x y : StreamRun) → Both old x y → Both old (ended x) (ended y)
ended_both old x y (inr h) = inr (record { over = over_ended x h.over; lost = lost_ended old y h.lost })
ended_both old x y (inl h) = cond_both x.connection.over y.connection.over old x y (followed x.seen (ending x.connection x.stream x.left)) (followed y.seen (ending y.connection y.stream y.left)) (same_over old x.connection y.connection h.beside) (inl h) (
    subst (λ (s : Stream). Both old (followed x.seen (ending x.connection x.stream x.left)) (followed y.seen (ending y.connection s y.left))) (sym h.stream) (
    subst (λ (l : List ℕ). Both old (followed x.seen (ending x.connection x.stream x.left)) (followed y.seen (ending y.connection x.stream l))) (sym h.left) (
    subst (λ (l : List Seen). Both old (followed x.seen (ending x.connection x.stream x.left)) (followed l (ending y.connection x.stream x.left))) (sym h.seen) (
    followed_both old x.seen (ending x.connection x.stream x.left) (ending y.connection x.stream x.left) (ending_both x.stream x.left old x.connection y.connection h.beside)))))

pub read_both : (fin : Bool) (s : Stream) (bytes : List ℕ) (old : PeerSettings) (c d : Connection) → Beside old c d → Both old (read fin c s bytes) (read fin d s bytes)
read_both true s bytes old c d h = ended_both old (run_stream c s bytes) (run_stream d s bytes) (run_both s bytes old c d h)
read_both false s bytes old c d h = run_both s bytes old c d h
