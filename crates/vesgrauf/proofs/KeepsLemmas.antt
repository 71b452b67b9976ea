-- What steps and calls of a connection keep.
use Rattle.std.proofs.Common.{◌≡◌, ◌==◌, ◌++◌, Equal, ℕ, List, [], ◌∷◌, Option, Some, None, Bool, true, false, cond, refl, inl, inr, sym, ap, subst, ◌∙◌}
use Rattle.std.specs.Prelude.{is_some, Result, Ok, Err, MatchResult}
use Rattle.std.specs.Cmp.{nat_cmp_is}
use Rattle.std.specs.Ordering.{nat_cmp, is_eq}
use Rattle.std.specs.Map.{set_value}
use Rattle.std.specs.BTreeMap.{is_at}
use Rattle.vesgrauf.specs.declared.config.Config.{Config}
use Rattle.vesgrauf.specs.declared.connection.Ended.{Ended}
use Rattle.vesgrauf.specs.declared.connection.ids.Ids.{Ids}
use Rattle.vesgrauf.specs.declared.entry.Entry.{Entry}
use Rattle.vesgrauf.specs.declared.event.Event.{Event}
use Rattle.vesgrauf.specs.Ids.{was}
use Rattle.vesgrauf.specs.Instructions.{Table}
use Rattle.vesgrauf.specs.State.{knows_of}
use Rattle.vesgrauf.specs.Own.{Own, Over, Sends, Open, EndsOwn, own_of, own_in, own_at, entry_at, IsClosed, IsUntouched, Untouched}
use Rattle.vesgrauf.specs.Theirs.{Gone, theirs_in, theirs_at, IsLeft, Left}
use Rattle.vesgrauf.specs.declared.event.EventKind.{EventKind}
use Rattle.vesgrauf.specs.declared.event.EventKind.TheVariants as event
use Rattle.vesgrauf.specs.Told.{Sets, Says, Fails, Closes, word_of, ends, ended_by, ended_at, Goes, Sound}
use Rattle.vesgrauf.specs.Halves.{Halves, is_sending, halves_if, Ending, OfOwn, OfPeer, OfBoth, reads_by, reads_in, halves_in, halves_at, ending_queued, ending_told, after_if, after_queued, Holds, but_for, Lasts}
use Rattle.vesgrauf.specs.Streams.{is_known, becomes_known}
use Rattle.vesgrauf.specs.declared.entry.Told.TheVariants as told
use Rattle.vesgrauf.specs.Keeps.{KeepsAll, Kept}
use Rattle.vesgrauf.specs.Members.{session_in}
use Rattle.vesgrauf.specs.Works.{Worked, book_at}
use Rattle.vesgrauf_stream.specs.Writing.{Ends, is_connect}
use Rattle.vesgrauf_stream.specs.Moves.{Moves}
use Rattle.vesgrauf_stream.specs.Reading.{IsStill}
use Rattle.vesgrauf.proofs.OwnLemmas.{untouched_refl, untouched_trans, untouched_set, own_closed}
use Rattle.vesgrauf.proofs.TheirsLemmas.{left_set, left_turned, left_at}
use Rattle.vesgrauf.proofs.StepLemmas.{left_trans}
use Rattle.vesgrauf.proofs.TellsLemmas.{gone_left}
use Rattle.vesgrauf.proofs.WorksLemmas.{worked_refl, worked_trans, worked_seen, worked_at, worked_set, worked_gone}
use Rattle.vesgrauf.proofs.GoesLemmas.{standing_of, standing_in, status_of_standing, goes_refl, goes_then, goes_after, goes_set, goes_known, goes_queued, goes_tells, goes_removed, goes_over, goes_closed, goes_last, set_sets}
use Rattle.vesgrauf.proofs.GoesSteps.{goes_told_first, goes_dropped}
use Rattle.vesgrauf.proofs.LastsLemmas.{Adds, adds_none, adds_queued, adds_told, adds_first, adds_dropped, IsLasting, holds_closed, holds_by_word, holds_unknown, holds_stopped, holds_ended, reads_gone, lasts_refl, lasts_trans, lasts_after, lasts_adds, lasts_sets, lasts_set, lasts_but_set, lasts_weak, lasts_unknown, lasts_known, lasts_queued_set, lasts_told_set}

left_all : (es : List (ℕ × Entry)) → Left es es
left_all es = record { each = λ id. inl refl }

-- ---- nothing of the peer's is read

pub keeps_of : (but : Option ℕ) (said : List Event) (es fs : List (ℕ × Entry)) (ids jds : Ids) (ta tb : Table) (q r : List Event)
    (a b : Config) (x y : Option Ended)
    → Untouched es fs → Left es fs → Goes said es ids q fs jds r → b ≡ a → (is_some x ≡ true → is_some y ≡ true)
    → (is_some y ≡ false → Sound es ids → Lasts but said es q fs r)
    → (is_some y ≡ false → Sound es ids → Worked (book_at es ids ta) (book_at fs jds tb))
    → KeepsAll but said es ids ta q a x fs jds tb r b y
keeps_of but said es fs ids jds ta tb q r a b x y o l g e n h w = Kept o l g e n h w

pub keeps_refl : (but : Option ℕ) (es : List (ℕ × Entry)) (ids : Ids) (ta : Table) (q : List Event) (a : Config) (x : Option Ended)
    → KeepsAll but [] es ids ta q a x es ids ta q a x
keeps_refl but es ids ta q a x =
    Kept (untouched_refl es) (left_all es) (goes_refl es ids q) refl (λ h. h) (λ n s. lasts_refl but es q)
    (λ n s. worked_refl (book_at es ids ta))

-- the table has another form
pub keeps_tabled : (but : Option ℕ) (es : List (ℕ × Entry)) (ids : Ids) (ta tb : Table) (q : List Event) (a : Config)
    (x : Option Ended) → tb ≡ ta → KeepsAll but [] es ids ta q a x es ids tb q a x
keeps_tabled but es ids ta tb q a x h =
    subst (λ t. KeepsAll but [] es ids ta q a x es ids t q a x) (sym h) (keeps_refl but es ids ta q a x)

-- a connection that is not over was not before
pub was_not : (x y : Bool) → (x ≡ true → y ≡ true) → y ≡ false → x ≡ false
was_not true y h n = absurd (let on : y ≡ true = h refl in let bad : true ≡ false = sym on ∙ n in cc)
was_not false y h n = refl

pub keeps_trans : (but : Option ℕ) (said : List Event) (es fs gs : List (ℕ × Entry)) (ids jds kds : Ids) (ta tb tc : Table)
    (q r s : List Event) (a b c : Config) (x y z : Option Ended)
    → KeepsAll but [] es ids ta q a x fs jds tb r b y → KeepsAll but said fs jds tb r b y gs kds tc s c z
    → KeepsAll but said es ids ta q a x gs kds tc s c z
keeps_trans but said es fs gs ids jds kds ta tb tc q r s a b c x y z (Kept o l g e m h w) (Kept p k i f n j d) =
    Kept (untouched_trans o p) (left_trans l k) (goes_then [] said es fs gs ids jds kds q r s g i) (f ∙ e) (λ t. n (m t))
    (λ t v. lasts_trans but said es fs gs q r s (h (was_not (is_some y) (is_some z) n t) v) (j t (g.sound v)))
    (λ t v. worked_trans (book_at es ids ta) (book_at fs jds tb) (book_at gs kds tc)
    (w (was_not (is_some y) (is_some z) n t) v) (d t (g.sound v)))

pub keeps_after : (but : Option ℕ) (said : List Event) (es fs gs : List (ℕ × Entry)) (ids jds kds : Ids) (ta tb tc : Table)
    (q r s : List Event) (a b c : Config) (x y z : Option Ended)
    → KeepsAll but said es ids ta q a x fs jds tb r b y → KeepsAll but [] fs jds tb r b y gs kds tc s c z
    → KeepsAll but said es ids ta q a x gs kds tc s c z
keeps_after but said es fs gs ids jds kds ta tb tc q r s a b c x y z (Kept o l g e m h w) (Kept p k i f n j d) =
    Kept (untouched_trans o p) (left_trans l k) (goes_after said es fs gs ids jds kds q r s g i) (f ∙ e) (λ t. n (m t))
    (λ t v. lasts_after but said es fs gs q r s (h (was_not (is_some y) (is_some z) n t) v) (j t (g.sound v)))
    (λ t v. worked_trans (book_at es ids ta) (book_at fs jds tb) (book_at gs kds tc)
    (w (was_not (is_some y) (is_some z) n t) v) (d t (g.sound v)))

-- one stream changes, of which the program knows what it knew, of the same session, and whose halves go on
pub keeps_set : (but : Option ℕ) (es : List (ℕ × Entry)) (ids : Ids) (ta : Table) (q : List Event) (a : Config) (x : Option Ended)
    (id : ℕ) (f : Entry)
    → IsUntouched (own_at es id) (own_in (Some f)) → IsLeft (theirs_at es id) (theirs_in (Some f))
    → standing_in (entry_at es id) ≡ Some (standing_of f) → IsLasting (entry_at es id) (Some f)
    → KeepsAll but [] es ids ta q a x (set_value (is_at (nat_cmp id)) es f) ids ta q a x
keeps_set but es ids ta q a x id f o l t h = Kept (untouched_set es id f o) (left_set es id f l) (goes_set es ids q id f t) refl
    (λ n. n) (λ n s. lasts_set but es q id f (status_of_standing (entry_at es id) f t) h)
    (λ n s. worked_set es ids ta id f l t)

-- one becomes known
pub keeps_known : (but : Option ℕ) (es : List (ℕ × Entry)) (ids : Ids) (ta : Table) (q : List Event) (a : Config) (x : Option Ended)
    (id : ℕ) (e f : Entry) → entry_at es id ≡ Some e → f.told ≡ becomes_known e.told → f.session ≡ e.session
    → f.may_cancel ≡ e.may_cancel → own_in (Some f) ≡ own_in (Some e) → theirs_in (Some f) ≡ theirs_in (Some e) → reads_in (Some f) ≡ reads_in (Some e)
    → KeepsAll but [] es ids ta q a x (set_value (is_at (nat_cmp id)) es f) ids ta q a x
keeps_known but es ids ta q a x id e f h t same m o l r = Kept
    (untouched_set es id f (inl (o ∙ sym (ap own_in h)))) (left_set es id f (inl (l ∙ sym (ap theirs_in h))))
    (goes_known es ids q id e f h t (λ s n. inl (sym same ∙ n))) refl (λ n. n) (λ n s. lasts_known but es q id e f h t o r)
    (λ n s. worked_at es ids ta id e f h m (inl (l ∙ sym (ap theirs_in h))))

-- an event of the queue is told
pub keeps_told_first : (es : List (ℕ × Entry)) (ids : Ids) (ta : Table) (ev said : Event) (q r : List Event) (a : Config)
    (x : Option Ended) → q ≡ ev ∷ r → said.stream ≡ ev.stream → said.kind ≡ ev.kind
    → KeepsAll None (said ∷ []) es ids ta q a x es ids ta r a x
keeps_told_first es ids ta ev said q r a x h stream kind = Kept (untouched_refl es) (left_all es)
    (goes_told_first es ids ev said q r h stream kind) refl (λ n. n)
    (λ n s. lasts_adds None es (adds_first q r ev said h stream kind)) (λ n s. worked_refl (book_at es ids ta))

word_same : (id : ℕ) (h : Halves) (m n : ℕ) (j k : EventKind) → m ≡ n → j ≡ k
    → after_if (m == id) (ending_told j) h ≡ after_if (n == id) (ending_told k) h
word_same id h m n j k at kind = rw (at, kind) refl

lasts_as : (but : Option ℕ) (es fs : List (ℕ × Entry)) (q r : List Event) (ev said : Event)
    → said.stream ≡ ev.stream → said.kind ≡ ev.kind → Lasts but (ev ∷ []) es q fs r → Lasts but (said ∷ []) es q fs r
lasts_as but es fs q r ev said at kind g = record {
  holds = λ id h p. subst (λ y. Holds (after_queued id r y) (but_for but id (halves_at fs id)))
      (sym (word_same id (but_for but id h) said.stream ev.stream said.kind ev.kind at kind)) (g.holds id h p);
  over = λ id h p. ap (λ y. after_queued id r y) (word_same id h said.stream ev.stream said.kind ev.kind at kind)
      ∙ g.over id h p;
}

goes_as : (es fs : List (ℕ × Entry)) (ids jds : Ids) (q r : List Event) (ev said : Event)
    → said.stream ≡ ev.stream → said.kind ≡ ev.kind → Goes (ev ∷ []) es ids q fs jds r → Goes (said ∷ []) es ids q fs jds r
goes_as es fs ids jds q r ev said at kind g = record {
  seen = g.seen;
  sound = g.sound;
  told = λ s id p a. rw (at, kind) (g.told s id p a);
}

-- an event is told that says the same of the same stream
pub keeps_as : (es fs : List (ℕ × Entry)) (ids jds : Ids) (ta tb : Table) (q r : List Event) (a b : Config) (x y : Option Ended)
    (ev said : Event) → said.stream ≡ ev.stream → said.kind ≡ ev.kind
    → KeepsAll None (ev ∷ []) es ids ta q a x fs jds tb r b y → KeepsAll None (said ∷ []) es ids ta q a x fs jds tb r b y
keeps_as es fs ids jds ta tb q r a b x y ev said at kind (Kept o l g e n h w) = Kept o l
    (goes_as es fs ids jds q r ev said at kind g) e n (λ t s. lasts_as None es fs q r ev said at kind (h t s)) w

-- one that says nothing of halves is dropped
pub keeps_dropped : (es : List (ℕ × Entry)) (ids : Ids) (ta : Table) (ev : Event) (q r : List Event) (a : Config) (x : Option Ended)
    → q ≡ ev ∷ r → ends (word_of ev.kind) ≡ false → ending_queued ev.kind ≡ None
    → KeepsAll None [] es ids ta q a x es ids ta r a x
keeps_dropped es ids ta ev q r a x h n w = Kept (untouched_refl es) (left_all es) (goes_dropped es ids ev q r h n) refl
    (λ n. n) (λ n s. lasts_adds None es (adds_dropped q r ev h w)) (λ n s. worked_refl (book_at es ids ta))

-- no stream changes, and what is told goes on
pub keeps_by_goes : (but : Option ℕ) (said : List Event) (es : List (ℕ × Entry)) (ids jds : Ids) (ta : Table) (q r : List Event)
    (a : Config) (x : Option Ended) → Goes said es ids q es jds r → Adds said q r
    → KeepsAll but said es ids ta q a x es jds ta r a x
keeps_by_goes but said es ids jds ta q r a x g h = Kept (untouched_refl es) (left_all es) g refl (λ n. n)
    (λ n s. lasts_adds but es h) (λ n s. worked_seen es ids jds ta g.seen)

-- the connection ends
pub keeps_at_end : (but : Option ℕ) (said : List Event) (es : List (ℕ × Entry)) (ids jds : Ids) (ta tb : Table) (q r : List Event)
    (a : Config) (x y : Option Ended) → Goes said es ids q es jds r → is_some y ≡ true
    → KeepsAll but said es ids ta q a x es jds tb r a y
keeps_at_end but said es ids jds ta tb q r a x y g over = Kept (untouched_refl es) (left_all es) g refl (λ h. over)
    (λ n s. absurd (let bad : true ≡ false = sym over ∙ n in cc)) (λ n s. absurd (let bad : true ≡ false = sym over ∙ n in cc))

pub keeps_own : {but : Option ℕ} {said : List Event} {es fs : List (ℕ × Entry)} {ids jds : Ids} {ta tb : Table} {q r : List Event}
    {a b : Config} {x y : Option Ended} → KeepsAll but said es ids ta q a x fs jds tb r b y → Untouched es fs
keeps_own (Kept o l g e n h w) = o

pub keeps_left : {but : Option ℕ} {said : List Event} {es fs : List (ℕ × Entry)} {ids jds : Ids} {ta tb : Table} {q r : List Event}
    {a b : Config} {x y : Option Ended} → KeepsAll but said es ids ta q a x fs jds tb r b y → Left es fs
keeps_left (Kept o l g e n h w) = l

pub keeps_goes : {but : Option ℕ} {said : List Event} {es fs : List (ℕ × Entry)} {ids jds : Ids} {ta tb : Table} {q r : List Event}
    {a b : Config} {x y : Option Ended} → KeepsAll but said es ids ta q a x fs jds tb r b y → Goes said es ids q fs jds r
keeps_goes (Kept o l g e n h w) = g

pub keeps_config : {but : Option ℕ} {said : List Event} {es fs : List (ℕ × Entry)} {ids jds : Ids} {ta tb : Table} {q r : List Event}
    {a b : Config} {x y : Option Ended} → KeepsAll but said es ids ta q a x fs jds tb r b y → b ≡ a
keeps_config (Kept o l g e n h w) = e

pub keeps_lasts : {but : Option ℕ} {said : List Event} {es fs : List (ℕ × Entry)} {ids jds : Ids} {ta tb : Table} {q r : List Event}
    {a b : Config} {x y : Option Ended} → KeepsAll but said es ids ta q a x fs jds tb r b y
    → is_some y ≡ false → Sound es ids → Lasts but said es q fs r
keeps_lasts (Kept o l g e n h w) = h

-- on a stream that is over nothing is sent later
pub keeps_over_own : {but : Option ℕ} {said : List Event} {es fs : List (ℕ × Entry)} {ids jds : Ids} {ta tb : Table} {q r : List Event}
    {a b : Config} {x y : Option Ended} (id : ℕ) → own_at es id ≡ Over → KeepsAll but said es ids ta q a x fs jds tb r b y
    → own_at fs id ≡ Over
keeps_over_own {but} {said} {es} {fs} id h k = own_over (own_at es id) (own_at fs id) h ((keeps_own k).each id)
  where
    own_over : (x y : Own) → x ≡ Over → IsUntouched x y → y ≡ Over
    own_over x y h (inl p) = p ∙ h
    own_over x y h (inr (inl p)) = p
    own_over x y h (inr (inr p)) = absurd (subst (λ o. IsClosed o y) h p)

pub keeps_ends : (ds : List (ℕ × Entry)) {but : Option ℕ} {said : List Event} {es fs : List (ℕ × Entry)} {ids jds : Ids} {ta tb : Table}
    {q r : List Event} {a b : Config} {x y : Option Ended} (id : ℕ) → EndsOwn id ds es
    → KeepsAll but said es ids ta q a x fs jds tb r b y → EndsOwn id ds fs
keeps_ends ds id (inl h) k = inl (keeps_over_own id h k)
keeps_ends ds id (inr h) k = inr h

-- what is read no further is not read later
pub keeps_gone : {but : Option ℕ} {said : List Event} {es fs : List (ℕ × Entry)} {ids jds : Ids} {ta tb : Table} {q r : List Event}
    {a b : Config} {x y : Option Ended} (id : ℕ)
    → theirs_at es id ≡ Gone → KeepsAll but said es ids ta q a x fs jds tb r b y → theirs_at fs id ≡ Gone
keeps_gone {but} {said} {es} {fs} id h k = gone_left es fs id h (keeps_left k)

-- ---- halves that end

-- an event of one half is not the last one of its stream
ends_not : (k : EventKind) (w : Ending) → ending_queued k ≡ Some w → (w ≡ OfBoth → ⊥) → ends (word_of k) ≡ false
ends_not (event.Stopped code) w h n = refl
ends_not (event.Reset code) w h n = refl
ends_not (event.Closed why) w h n = absurd (n (let same : w ≡ OfBoth = cc in same))
ends_not other w h n = absurd (let bad : None ≡ Some w = h in cc)

-- a stream changes of whose halves nothing is said
pub keeps_but_set : (es : List (ℕ × Entry)) (ids : Ids) (ta : Table) (q : List Event) (a : Config) (x : Option Ended) (id : ℕ) (f : Entry)
    → IsUntouched (own_at es id) (own_in (Some f)) → IsLeft (theirs_at es id) (theirs_in (Some f))
    → standing_in (entry_at es id) ≡ Some (standing_of f)
    → KeepsAll (Some id) [] es ids ta q a x (set_value (is_at (nat_cmp id)) es f) ids ta q a x
keeps_but_set es ids ta q a x id f o l t = Kept (untouched_set es id f o) (left_set es id f l) (goes_set es ids q id f t) refl
    (λ n. n) (λ n s. lasts_but_set es q id f (status_of_standing (entry_at es id) f t)) (λ n s. worked_set es ids ta id f l t)

-- what is kept of all streams is of all but one
pub keeps_weak : (id : ℕ) {es fs : List (ℕ × Entry)} {ids jds : Ids} {ta tb : Table} {q r : List Event} {a b : Config} {x y : Option Ended}
    → KeepsAll None [] es ids ta q a x fs jds tb r b y → KeepsAll (Some id) [] es ids ta q a x fs jds tb r b y
keeps_weak id {es} {fs} {ids} {jds} {ta} {tb} {q} {r} (Kept o l g e n h w) =
    Kept o l g e n (λ t s. lasts_weak id es fs q r (h t s)) w

-- what is kept, and then what is kept but for one stream
pub keeps_then_but : (id : ℕ) (es fs gs : List (ℕ × Entry)) (ids jds kds : Ids) (ta tb tc : Table) (q r s : List Event) (a b c : Config)
    (x y z : Option Ended) → KeepsAll None [] es ids ta q a x fs jds tb r b y → KeepsAll (Some id) [] fs jds tb r b y gs kds tc s c z
    → KeepsAll (Some id) [] es ids ta q a x gs kds tc s c z
keeps_then_but id es fs gs ids jds kds ta tb tc q r s a b c x y z g h =
    keeps_trans (Some id) [] es fs gs ids jds kds ta tb tc q r s a b c x y z (keeps_weak id g) h

-- and of that one, too, if the program does not know of it
pub keeps_unknown : (id : ℕ) {es fs : List (ℕ × Entry)} {ids jds : Ids} {ta tb : Table} {q r : List Event} {a b : Config}
    {x y : Option Ended} → knows_of (entry_at es id) ≡ false → KeepsAll (Some id) [] es ids ta q a x fs jds tb r b y
    → KeepsAll None [] es ids ta q a x fs jds tb r b y
keeps_unknown id {es} {fs} {ids} {jds} {ta} {tb} {q} {r} u (Kept o l g e n h w) =
    Kept o l g e n (λ t s. lasts_unknown id es fs q r u (h t s)) w

-- that the own half is stopped is queued, and it ends
stopped_at : (es : List (ℕ × Entry)) (ids : Ids) (ta : Table) (q : List Event) (a : Config) (x : Option Ended) (ev : Event)
    (e f : Entry) → entry_at es ev.stream ≡ Some e → is_known e.told ≡ true → ending_queued ev.kind ≡ Some OfOwn
    → standing_of f ≡ standing_of e → own_in (Some f) ≡ Over → theirs_in (Some f) ≡ theirs_in (Some e)
    → reads_in (Some f) ≡ reads_in (Some e)
    → KeepsAll None [] es ids ta q a x (set_value (is_at (nat_cmp ev.stream)) es f) ids ta (q ++ (ev ∷ [])) a x
stopped_at es ids ta q a x ev e f there known word t o l r = Kept
    (untouched_set es ev.stream f (inr (inl o))) (left_set es ev.stream f (inl (l ∙ sym (ap theirs_in there))))
    (goes_then [] [] es es (set_value (is_at (nat_cmp ev.stream)) es f) ids ids ids q (q ++ (ev ∷ [])) (q ++ (ev ∷ []))
    (goes_queued es ids q ev (ap knows_of there ∙ known) (ends_not ev.kind OfOwn word (λ h. let bad : OfOwn ≡ OfBoth = h in cc)))
    (goes_set es ids (q ++ (ev ∷ [])) ev.stream f (ap standing_in there ∙ ap Some (sym t))))
    refl (λ n. n)
    (λ n s. lasts_queued_set es q ev e f there
    (holds_by_word (ending_queued ev.kind) (Some OfOwn) (halves_in (Some e)) (halves_in (Some f)) word
    (holds_stopped e f (ap (λ p. p.told) t) r)))
    (λ n s. worked_at es ids ta ev.stream e f there (ap (λ p. p.may_cancel) t) (inl (l ∙ sym (ap theirs_in there))))

pub keeps_stopped : (es fs : List (ℕ × Entry)) (ids : Ids) (ta : Table) (q r : List Event) (a : Config) (x : Option Ended) (id : ℕ)
    (ev : Event) (e f : Entry) → r ≡ q ++ (ev ∷ []) → ev.stream ≡ id → fs ≡ set_value (is_at (nat_cmp id)) es f
    → entry_at es id ≡ Some e → is_known e.told ≡ true → ending_queued ev.kind ≡ Some OfOwn
    → standing_of f ≡ standing_of e → own_in (Some f) ≡ Over → theirs_in (Some f) ≡ theirs_in (Some e)
    → reads_in (Some f) ≡ reads_in (Some e) → KeepsAll None [] es ids ta q a x fs ids ta r a x
keeps_stopped es fs ids ta q r a x id ev e f queued at set there known word t o l n =
    subst (λ z. KeepsAll None [] es ids ta q a x fs ids ta z a x) (sym queued)
    (subst (λ z. KeepsAll None [] es ids ta q a x z ids ta (q ++ (ev ∷ [])) a x)
    (ap (λ m. set_value (is_at (nat_cmp m)) es f) at ∙ sym set)
    (stopped_at es ids ta q a x ev e f (ap (λ m. entry_at es m) at ∙ there) known word t o l n))

-- that the peer's half is reset is queued, and it is read no further
reset_at : (es : List (ℕ × Entry)) (ids : Ids) (ta : Table) (q : List Event) (a : Config) (x : Option Ended) (ev : Event)
    (e f : Entry) → entry_at es ev.stream ≡ Some e → is_known e.told ≡ true → ending_queued ev.kind ≡ Some OfPeer
    → standing_of f ≡ standing_of e → own_in (Some f) ≡ own_in (Some e) → theirs_in (Some f) ≡ Gone
    → KeepsAll None [] es ids ta q a x (set_value (is_at (nat_cmp ev.stream)) es f) ids ta (q ++ (ev ∷ [])) a x
reset_at es ids ta q a x ev e f there known word t o l = Kept
    (untouched_set es ev.stream f (inl (o ∙ sym (ap own_in there)))) (left_set es ev.stream f (inr (inl l)))
    (goes_then [] [] es es (set_value (is_at (nat_cmp ev.stream)) es f) ids ids ids q (q ++ (ev ∷ [])) (q ++ (ev ∷ []))
    (goes_queued es ids q ev (ap knows_of there ∙ known) (ends_not ev.kind OfPeer word (λ h. let bad : OfPeer ≡ OfBoth = h in cc)))
    (goes_set es ids (q ++ (ev ∷ [])) ev.stream f (ap standing_in there ∙ ap Some (sym t))))
    refl (λ n. n)
    (λ n s. lasts_queued_set es q ev e f there
    (holds_by_word (ending_queued ev.kind) (Some OfPeer) (halves_in (Some e)) (halves_in (Some f)) word
    (holds_ended e f (ap (λ p. p.told) t) o)))
    (λ n s. worked_at es ids ta ev.stream e f there (ap (λ p. p.may_cancel) t) (inr (inl l)))

pub keeps_reset : (es fs : List (ℕ × Entry)) (ids : Ids) (ta : Table) (q r : List Event) (a : Config) (x : Option Ended) (id : ℕ)
    (ev : Event) (e f : Entry) → r ≡ q ++ (ev ∷ []) → ev.stream ≡ id → fs ≡ set_value (is_at (nat_cmp id)) es f
    → entry_at es id ≡ Some e → is_known e.told ≡ true → ending_queued ev.kind ≡ Some OfPeer
    → standing_of f ≡ standing_of e → own_in (Some f) ≡ own_in (Some e) → theirs_in (Some f) ≡ Gone
    → KeepsAll None [] es ids ta q a x fs ids ta r a x
keeps_reset es fs ids ta q r a x id ev e f queued at set there known word t o l =
    subst (λ z. KeepsAll None [] es ids ta q a x fs ids ta z a x) (sym queued)
    (subst (λ z. KeepsAll None [] es ids ta q a x z ids ta (q ++ (ev ∷ [])) a x)
    (ap (λ m. set_value (is_at (nat_cmp m)) es f) at ∙ sym set)
    (reset_at es ids ta q a x ev e f (ap (λ m. entry_at es m) at ∙ there) known word t o l))

-- the end of the peer's half is told, and it is read no further
end_at : (es : List (ℕ × Entry)) (ids : Ids) (ta : Table) (q : List Event) (a : Config) (x : Option Ended) (ev : Event)
    (e f : Entry) → entry_at es ev.stream ≡ Some e → is_known e.told ≡ true → ev.kind ≡ event.End
    → standing_of f ≡ standing_of e → own_in (Some f) ≡ own_in (Some e) → theirs_in (Some f) ≡ Gone
    → KeepsAll None (ev ∷ []) es ids ta q a x (set_value (is_at (nat_cmp ev.stream)) es f) ids ta q a x
end_at es ids ta q a x ev e f there known kind t o l = Kept
    (untouched_set es ev.stream f (inl (o ∙ sym (ap own_in there)))) (left_set es ev.stream f (inr (inl l)))
    (goes_after (ev ∷ []) es es (set_value (is_at (nat_cmp ev.stream)) es f) ids ids ids q q q
    (goes_tells es ids q ev (ap knows_of there ∙ known) (ap (λ k. ends (word_of k)) kind))
    (goes_set es ids q ev.stream f (ap standing_in there ∙ ap Some (sym t))))
    refl (λ n. n)
    (λ n s. lasts_told_set es q ev e f there
    (holds_by_word (ending_told ev.kind) (Some OfPeer) (halves_in (Some e)) (halves_in (Some f))
    (ap (λ k. ending_told k) kind) (holds_ended e f (ap (λ p. p.told) t) o)))
    (λ n s. worked_at es ids ta ev.stream e f there (ap (λ p. p.may_cancel) t) (inr (inl l)))

pub keeps_end : (es fs : List (ℕ × Entry)) (ids : Ids) (ta : Table) (q : List Event) (a : Config) (x : Option Ended) (id : ℕ)
    (ev : Event) (e f : Entry) → ev.stream ≡ id → fs ≡ set_value (is_at (nat_cmp id)) es f
    → entry_at es id ≡ Some e → is_known e.told ≡ true → ev.kind ≡ event.End
    → standing_of f ≡ standing_of e → own_in (Some f) ≡ own_in (Some e) → theirs_in (Some f) ≡ Gone
    → KeepsAll None (ev ∷ []) es ids ta q a x fs ids ta q a x
keeps_end es fs ids ta q a x id ev e f at set there known kind t o l =
    subst (λ z. KeepsAll None (ev ∷ []) es ids ta q a x z ids ta q a x)
    (ap (λ m. set_value (is_at (nat_cmp m)) es f) at ∙ sym set)
    (end_at es ids ta q a x ev e f (ap (λ m. entry_at es m) at ∙ there) known kind t o l)

-- the connection ends the own half of a CONNECT
closed_sends : (x y : Own) → IsClosed x y → is_sending y ≡ true
closed_sends (Sends put waits (Open true)) y c = ap is_sending c
closed_sends x y c = absurd c

holds_ended_own : (k j : Bool) (x y : Own) (r s : Bool) → j ≡ k → IsClosed x y → s ≡ r
    → Holds (halves_if k x r) (halves_if j y s)
holds_ended_own true true x y r s h c p = (λ n. closed_sends x y c, λ n. p ∙ n)
holds_ended_own true false x y r s h c p = absurd (let bad : false ≡ true = h in cc)
holds_ended_own false j x y r s h c p = tt

pub keeps_finished : (es fs : List (ℕ × Entry)) (ids : Ids) (ta : Table) (q : List Event) (a : Config) (x : Option Ended) (id : ℕ)
    (e f : Entry) → entry_at es id ≡ Some e → fs ≡ set_value (is_at (nat_cmp id)) es f
    → is_connect e.writing.half ≡ true → Ends e.writing f.writing → standing_of f ≡ standing_of e
    → theirs_in (Some f) ≡ theirs_in (Some e) → reads_in (Some f) ≡ reads_in (Some e)
    → KeepsAll None [] es ids ta q a x fs ids ta q a x
keeps_finished es fs ids ta q a x id e f there set connect ends t l r =
    let closed : IsClosed (own_of e.writing) (own_of f.writing) = own_closed e.writing f.writing connect ends in
    rw set (Kept
    (untouched_set es id f (rw there (inr (inr closed)))) (left_set es id f (inl (l ∙ sym (ap theirs_in there))))
    (goes_set es ids q id f (ap standing_in there ∙ ap Some (sym t))) refl (λ n. n)
    (λ n s. lasts_sets None es (set_value (is_at (nat_cmp id)) es f) q id (Some f) (set_sets es id e f there)
    (rw there (holds_ended_own (is_known e.told) (is_known f.told) (own_in (Some e)) (own_in (Some f))
    (reads_in (Some e)) (reads_in (Some f)) (ap (λ p. is_known p.told) t) closed r)))
    (λ n s. worked_at es ids ta id e f there (ap (λ p. p.may_cancel) t) (inl (l ∙ sym (ap theirs_in there)))))

-- that, where the call that ends it may be refused
pub keeps_tried : {A E : Type 0} (answer : Result A E) (P : E → Type 0) (es : List (ℕ × Entry)) (ids : Ids) (ta : Table) (q : List Event)
    (a : Config) (x : Option Ended) (id : ℕ) (e f : Entry) → entry_at es id ≡ Some e
    → is_connect e.writing.half ≡ true
    → MatchResult answer (λ u. Ends e.writing f.writing) (λ n. (f.writing ≡ e.writing) × P n)
    → standing_of f ≡ standing_of e → theirs_in (Some f) ≡ theirs_in (Some e) → reads_in (Some f) ≡ reads_in (Some e)
    → KeepsAll None [] es ids ta q a x (set_value (is_at (nat_cmp id)) es f) ids ta q a x
keeps_tried (Ok u) P es ids ta q a x id e f there connect ends t l r =
    keeps_finished es (set_value (is_at (nat_cmp id)) es f) ids ta q a x id e f there refl connect ends t l r
keeps_tried (Err n) P es ids ta q a x id e f there connect same t l r =
    let own : own_in (Some f) ≡ own_in (Some e) = ap own_of same.0 in
    keeps_set None es ids ta q a x id f (inl (own ∙ sym (ap own_in there))) (inl (l ∙ sym (ap theirs_in there)))
    (ap standing_in there ∙ ap Some (sym t)) (inr (own ∙ sym (ap own_in there), r ∙ sym (ap reads_in there)))

-- a call that reads nothing changes the state of the peer's half
pub keeps_turned : (es : List (ℕ × Entry)) (ids : Ids) (ta : Table) (q : List Event) (a : Config) (x : Option Ended) (id : ℕ) (e f : Entry)
    → entry_at es id ≡ Some e → Moves e.reading.stream f.reading.stream → IsStill e.reading f.reading
    → f.peer ≡ e.peer → f.is_decoder ≡ e.is_decoder → standing_of f ≡ standing_of e → own_in (Some f) ≡ own_in (Some e)
    → KeepsAll None [] es ids ta q a x (set_value (is_at (nat_cmp id)) es f) ids ta q a x
keeps_turned es ids ta q a x id e f there moves still peer decoder t o = Kept
    (untouched_set es id f (inl (o ∙ sym (ap own_in there)))) (left_turned es id e f there moves still peer decoder)
    (goes_set es ids q id f (ap standing_in there ∙ ap Some (sym t))) refl (λ n. n)
    (λ n s. lasts_set None es q id f
    (status_of_standing (entry_at es id) f (ap standing_in there ∙ ap Some (sym t))) (inr (
      o ∙ sym (ap own_in there),
      ap (λ p. reads_by p f.is_decoder) peer ∙ ap (λ b. reads_by e.peer b) decoder ∙ sym (ap reads_in there),
    )))
    (λ n s. worked_at es ids ta id e f there (ap (λ p. p.may_cancel) t)
    (left_at es id e f there moves still peer decoder))

-- a half that is read no further may be dropped
pub keeps_gone_set : (es : List (ℕ × Entry)) (ids : Ids) (ta : Table) (q : List Event) (a : Config) (x : Option Ended) (id : ℕ) (f : Entry)
    → theirs_at es id ≡ Gone → theirs_in (Some f) ≡ Gone → own_in (Some f) ≡ own_at es id
    → standing_in (entry_at es id) ≡ Some (standing_of f)
    → KeepsAll None [] es ids ta q a x (set_value (is_at (nat_cmp id)) es f) ids ta q a x
keeps_gone_set es ids ta q a x id f before now o t = Kept
    (untouched_set es id f (inl o)) (left_set es id f (inr (inl now))) (goes_set es ids q id f t) refl (λ n. n)
    (λ n s. lasts_set None es q id f (status_of_standing (entry_at es id) f t) (inr (o, reads_gone (Some f) now ∙ sym (reads_gone (entry_at es id) before))))
    (λ n s. worked_set es ids ta id f (inr (inl now)) t)

-- ---- for proofs by hand

pub keeps_then : {but : Option ℕ} {said : List Event} {es fs gs : List (ℕ × Entry)} {ids jds kds : Ids} {ta tb tc : Table}
    {q r s : List Event} {a b c : Config} {x y z : Option Ended}
    → KeepsAll but [] es ids ta q a x fs jds tb r b y → KeepsAll but said fs jds tb r b y gs kds tc s c z
    → KeepsAll but said es ids ta q a x gs kds tc s c z
keeps_then {but} {said} {es} {fs} {gs} {ids} {jds} {kds} {ta} {tb} {tc} {q} {r} {s} {a} {b} {c} {x} {y} {z} g h =
    keeps_trans but said es fs gs ids jds kds ta tb tc q r s a b c x y z g h

-- ---- a stream is forgotten

own_gone : (b : Bool) (x : Option Entry) → IsUntouched (own_in x) (own_in (cond b None x))
own_gone true x = inr (inl refl)
own_gone false x = inl refl

left_gone : (b : Bool) (x : Option Entry) → IsLeft (theirs_in x) (theirs_in (cond b None x))
left_gone true x = inr (inl refl)
left_gone false x = inl refl

pub keeps_removed : (es fs : List (ℕ × Entry)) (ids : Ids) (ta : Table) (q : List Event) (a : Config) (x : Option Ended) (id : ℕ)
    → Sets id None es fs → is_some (entry_at es id) ≡ true → knows_of (entry_at es id) ≡ false
    → KeepsAll None [] es ids ta q a x fs ids ta q a x
keeps_removed es fs ids ta q a x id sets have n = Kept
    (record { each = λ k. rw (sets k) (own_gone (is_at (nat_cmp id) k) (entry_at es k)) })
    (record { each = λ k. rw (sets k) (left_gone (is_at (nat_cmp id) k) (entry_at es k)) })
    (goes_removed es fs ids q id sets have n) refl (λ h. h)
    (λ h s. lasts_sets None es fs q id None sets (holds_unknown (entry_at es id) (halves_in None) n))
    (λ h s. worked_gone es fs ids ta id sets (s.were id have))

pub key_same : (id : ℕ) → is_at (nat_cmp id) id ≡ true
key_same id = ap is_eq (sym (nat_cmp_is id id Equal refl))

-- ---- sets for tactics

-- to show that a step keeps all of that
pub ruleset keep = (keeps_refl, keeps_tabled, keeps_trans, keeps_after, keeps_set, keeps_by_goes, adds_none, adds_queued, adds_told)

-- what follows from it
pub ruleset kept = (keeps_own, keeps_left, keeps_goes, keeps_config, keeps_lasts)

-- to show that it does but for one stream
pub ruleset but = (keeps_then_but, keeps_weak, keeps_trans, keeps_refl)
