-- What is told of the streams of a connection, one step after the other.
use Rattle.std.proofs.Common.{◌≡◌, ◌++◌, ℕ, List, [], ◌∷◌, Option, Some, Bool, true, false, cond, refl, ◌==◌, None}
use Rattle.std.specs.Prelude.{not}
use Rattle.std.specs.List.{filter}
use Rattle.std.specs.Ordering.{nat_cmp}
use Rattle.std.specs.Map.{set_value}
use Rattle.std.specs.BTreeMap.{is_at}
use Rattle.vesgrauf.specs.declared.connection.Connection.{Connection}
use Rattle.vesgrauf.specs.declared.connection.ids.Ids.{Ids}
use Rattle.vesgrauf.specs.declared.entry.Entry.{Entry}
use Rattle.vesgrauf.specs.declared.event.Event.{Event}
use Rattle.vesgrauf.specs.declared.event.EventKind.{EventKind}
use Rattle.vesgrauf.specs.declared.event.EventKind.TheVariants as event
use Rattle.vesgrauf.specs.Own.{entry_at}
use Rattle.vesgrauf.specs.State.{is_closed, closes_stream}
use Rattle.wtp_frames.specs.declared.endpoint.Side.{Side}
use Rattle.wtp_frames.specs.declared.endpoint.Side.TheVariants as side
use Rattle.vesgrauf.specs.Ids.{IsFirst}
use Rattle.vesgrauf.specs.Streams.{is_told_over}
use Rattle.vesgrauf.specs.Told.{AreIds, Sound, Goes, GoesOn, Word, Says, Fails, Closes, word_of, ends, on_by, on, may_fail, Path, status_at}
use Rattle.vesgrauf.proofs.GoesLemmas.{standing_of, standing_in, stays_refl, goes_then, goes_set, goes_queue, itself_linked, path_from, same_sets}
use Rattle.vesgrauf.specs.declared.entry.Told.{Told}
use Rattle.vesgrauf.specs.declared.entry.Told.TheVariants as told

-- of a whole connection
pub goes_on : (more : List Event) (c d e : Connection) → GoesOn [] c d → GoesOn more d e → GoesOn more c e
goes_on more c d e g h = goes_then [] more c.streams.entries d.streams.entries e.streams.entries c.ids d.ids e.ids
    c.events.items d.events.items e.events.items g h

-- and then a stream changes of which the program knows what it knew
pub goes_then_set : (es ms : List (ℕ × Entry)) (ids jds : Ids) (q r : List Event) (id : ℕ) (f : Entry)
    → Goes [] es ids q ms jds r → standing_in (entry_at ms id) ≡ Some (standing_of f)
    → Goes [] es ids q (set_value (is_at (nat_cmp id)) ms f) jds r
goes_then_set es ms ids jds q r id f g h =
    goes_then [] [] es ms (set_value (is_at (nat_cmp id)) ms f) ids jds jds q r r g (goes_set ms jds r id f h)

-- such a stream changes, and then this
pub goes_set_then : (more : List Event) (es ms gs : List (ℕ × Entry)) (ids jds : Ids) (q r : List Event) (id : ℕ) (f : Entry)
    → ms ≡ set_value (is_at (nat_cmp id)) es f → standing_in (entry_at es id) ≡ Some (standing_of f)
    → Goes more ms ids q gs jds r → Goes more es ids q gs jds r
goes_set_then more es ms gs ids jds q r id f e h g =
    goes_then [] more es (set_value (is_at (nat_cmp id)) es f) gs ids ids jds q q r (goes_set es ids q id f h) (rw e at g)

-- ---- the beginning

are_first : (s : Side) (ids : Ids) → IsFirst s ids → AreIds ids
are_first side.Client ids f = record {
  own_both = rw (f.bidirectional, f.of_side) refl;
  own_one = rw (f.unidirectional, f.of_side) refl;
  peer_both = rw (f.peer_bidirectional, f.of_side) refl;
  peer_one = rw (f.peer_unidirectional, f.of_side) refl;
}
are_first side.Server ids f = record {
  own_both = rw (f.bidirectional, f.of_side) refl;
  own_one = rw (f.unidirectional, f.of_side) refl;
  peer_both = rw (f.peer_bidirectional, f.of_side) refl;
  peer_one = rw (f.peer_unidirectional, f.of_side) refl;
}

-- a connection without streams is sound
pub sound_none : (es : List (ℕ × Entry)) (s : Side) (ids : Ids) → es ≡ [] → IsFirst s ids → Sound es ids
sound_none es s ids none f = rw none (record {
  ids_are = are_first s ids f;
  were = λ id have. absurd (let bad : false ≡ true = have in cc);
  linked = λ id session h. absurd (let bad : None ≡ Some session = h in cc);
})

-- and stays so
pub sound_then : {said : List Event} {es fs : List (ℕ × Entry)} {ids jds : Ids} {q r : List Event}
    → Goes said es ids q fs jds r → Sound es ids → Sound fs jds
sound_then g s = g.sound s

-- ---- the queue

-- an event of the queue is told, by its stream and its kind
pub goes_popped : (es : List (ℕ × Entry)) (ids : Ids) (ev said : Event) (q : List Event)
    → said.stream ≡ ev.stream → said.kind ≡ ev.kind → Goes (said ∷ []) es ids (ev ∷ q) es ids q
goes_popped es ids ev said q stream kind = record { seen = λ k w. w; sound = λ s. s; told = λ s k p g. rw (stream, kind) g }

pub goes_told_first : (es : List (ℕ × Entry)) (ids : Ids) (ev said : Event) (q r : List Event) → q ≡ ev ∷ r
    → said.stream ≡ ev.stream → said.kind ≡ ev.kind → Goes (said ∷ []) es ids q es ids r
goes_told_first es ids ev said q r h stream kind = rw h (goes_popped es ids ev said r stream kind)

path_next : (w : Word) (p : Told) (ws : List Word) (q : Told) → ends (Some w) ≡ false → Path p (w ∷ ws) q → Path p ws q
path_next Says told.NotYet ws q n h = path_from ws told.Known q h.1
path_next Says told.Known ws q n h = h.1
path_next Says told.Over ws q n h = absurd (let bad : true ≡ false = h.0 in cc)
path_next Fails p ws q n h = h.1
path_next Closes p ws q n h = absurd (let bad : true ≡ false = n in cc)

drop_by : (b : Bool) (o : Option Word) (p : Told) (ws : List Word) (q : Told) → ends o ≡ false → Path p (on_by o b ws) q
    → Path p ws q
drop_by b None p ws q n h = h
drop_by false (Some w) p ws q n h = h
drop_by true (Some w) p ws q n h = path_next w p ws q n h

-- an event of the queue that is not the last one of its stream is dropped
pub goes_dropped : (es : List (ℕ × Entry)) (ids : Ids) (ev : Event) (q r : List Event) → q ≡ ev ∷ r
    → ends (word_of ev.kind) ≡ false → Goes [] es ids q es ids r
goes_dropped es ids ev q r h n = rw h (record {
  seen = λ k w. w;
  sound = λ s. s;
  told = λ s k p g. drop_by (ev.stream == k) (word_of ev.kind) p (on k r) (status_at es ids k) n g;
})

-- ---- a failure, and the end of the connection

not_true : (b : Bool) → not b ≡ true → b ≡ false
not_true true p = absurd (let bad : false ≡ true = p in cc)
not_true false p = refl

failed_by : (o : Option Entry) (es : List (ℕ × Entry)) (ids : Ids) (q : List Event) (ev : Event)
    → word_of ev.kind ≡ Some Fails → entry_at es ev.stream ≡ o → may_fail o ≡ true
    → Goes [] es ids q es ids (q ++ (ev ∷ []))
failed_by None es ids q ev word there known = absurd (let bad : false ≡ true = known in cc)
failed_by (Some e) es ids q ev word there known =
    goes_queue es es ids q ev.stream e (entry_at es ev.stream) ev Fails (same_sets es ev.stream) there
    (itself_linked es ids ev.stream e there) refl word
    (λ s. rw there (not_true (is_told_over e.told) known, stays_refl e.told))

-- a failure of a stream that is not over is queued
pub goes_failed : (es : List (ℕ × Entry)) (ids : Ids) (q : List Event) (ev : Event)
    → may_fail (entry_at es ev.stream) ≡ true → word_of ev.kind ≡ Some Fails
    → Goes [] es ids q es ids (q ++ (ev ∷ []))
goes_failed es ids q ev may word = failed_by (entry_at es ev.stream) es ids q ev word refl may

-- the last words alone
abbrev pub last_words : List Word → List Word
last_words [] = []
last_words (Closes ∷ ws) = Closes ∷ last_words ws
last_words (w ∷ ws) = last_words ws

path_less : (ws : List Word) (p q : Told) → Path p ws q → Path p (last_words ws) q
path_less [] p q h = h
path_less (Closes ∷ ws) p q h = (h.0, path_less ws told.Over q h.1)
path_less (Says ∷ ws) told.NotYet q h = path_from (last_words ws) told.Known q (path_less ws told.Known q h.1)
path_less (Says ∷ ws) told.Known q h = path_less ws told.Known q h.1
path_less (Says ∷ ws) told.Over q h = absurd (let bad : true ≡ false = h.0 in cc)
path_less (Fails ∷ ws) p q h = path_less ws p q h.1

less_by : (k : EventKind) (b : Bool) (ws : List Word) (e : Event) (es : List Event) (id : ℕ) → e.kind ≡ k → (e.stream == id) ≡ b
    → on id es ≡ last_words ws
    → on id (cond (is_closed k) (e ∷ es) es) ≡ last_words (on_by (word_of k) b ws)
less_by (event.Closed why) true ws e es id kind here h = rw (kind, here, h) refl
less_by (event.Closed why) false ws e es id kind here h = rw (kind, here) h
less_by other true ws e es id kind here h = h
less_by other false ws e es id kind here h = h

less_on : (id : ℕ) (es : List Event) → on id (filter closes_stream es) ≡ last_words (on id es)
less_on id [] = refl
less_on id (e ∷ es) = less_by e.kind (e.stream == id) (on id es) e (filter closes_stream es) id refl refl (less_on id es)

-- of the queue the last events of streams alone are left
pub goes_filtered : (es : List (ℕ × Entry)) (ids : Ids) (q : List Event) → Goes [] es ids q es ids (filter closes_stream q)
goes_filtered es ids q = record {
  seen = λ k w. w;
  sound = λ s. s;
  told = λ s k p g. rw (less_on k q) (path_less (on k q) p (status_at es ids k) g);
}
