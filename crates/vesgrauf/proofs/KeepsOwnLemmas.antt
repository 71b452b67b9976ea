-- What steps of a connection keep in which bytes of the peer may be read.
use Rattle.std.proofs.Common.{◌≡◌, ℕ, List, [], Option, Some, None, Bool, true, false, refl, inl, inr, sym, ap, ◌∙◌}
use Rattle.std.specs.Prelude.{is_some}
use Rattle.std.specs.Ordering.{nat_cmp}
use Rattle.std.specs.Map.{set_value}
use Rattle.std.specs.BTreeMap.{is_at}
use Rattle.vesgrauf.specs.declared.config.Config.{Config}
use Rattle.vesgrauf.specs.declared.config.OnMalformed.TheVariants as chosen
use Rattle.vesgrauf.specs.declared.connection.Connection.{Connection}
use Rattle.vesgrauf.specs.declared.connection.Ended.{Ended}
use Rattle.vesgrauf.specs.declared.connection.ids.Ids.{Ids}
use Rattle.vesgrauf.specs.declared.entry.Entry.{Entry}
use Rattle.vesgrauf.specs.declared.event.Event.{Event}
use Rattle.vesgrauf.specs.State.{IsStill, knows_of}
use Rattle.vesgrauf.specs.declared.entry.Peer.{Peer}
use Rattle.vesgrauf.specs.Own.{own_of, own_in, own_at, entry_at, IsUntouched, Untouched, UntouchedOrNew}
use Rattle.vesgrauf.specs.Told.{Goes, Sound}
use Rattle.vesgrauf.specs.Halves.{reads_by, reads_in, Lasts}
use Rattle.vesgrauf.specs.Instructions.{Table}
use Rattle.vesgrauf.specs.Keeps.{KeepsAll, Kept, Keeps, KeepsOwnAll, KeptOwn, KeepsOwn}
use Rattle.vesgrauf.proofs.OwnLemmas.{untouched_refl, untouched_set, new_of, new_trans}
use Rattle.vesgrauf.proofs.GoesLemmas.{standing_of, standing_in, status_of_standing, goes_then, goes_after, goes_set, goes_still, standing_by}
use Rattle.vesgrauf.proofs.LastsLemmas.{IsLasting, lasts_refl, lasts_trans, lasts_after, lasts_set, lasts_weak, lasts_unknown}
use Rattle.vesgrauf.proofs.KeepsLemmas.{keeps_refl, was_not, keeps_left}

-- ---- bytes of the peer may be read

pub holds_of : (but : Option ℕ) (said : List Event) (es fs : List (ℕ × Entry)) (ids jds : Ids) (q r : List Event)
    (a b : Config) (x y : Option Ended)
    → (a.on_malformed ≡ chosen.Reset → UntouchedOrNew ids es fs) → Goes said es ids q fs jds r → b ≡ a
    → (is_some x ≡ true → is_some y ≡ true)
    → (a.on_malformed ≡ chosen.Reset → is_some y ≡ false → Sound es ids → Lasts but said es q fs r)
    → KeepsOwnAll but said es ids q a x fs jds r b y
holds_of but said es fs ids jds q r a b x y o g e n h = KeptOwn o g e n h

pub keeps_holds : {but : Option ℕ} {said : List Event} {es fs : List (ℕ × Entry)} {ids jds : Ids} {ta tb : Table} {q r : List Event}
    {a b : Config} {x y : Option Ended} → KeepsAll but said es ids ta q a x fs jds tb r b y
    → KeepsOwnAll but said es ids q a x fs jds r b y
keeps_holds {but} {said} {es} {fs} {ids} (Kept o l g e n h w) = KeptOwn (λ m. new_of ids o) g e n (λ m. h)

pub holds_refl : (but : Option ℕ) (es : List (ℕ × Entry)) (ids : Ids) (q : List Event) (a : Config) (x : Option Ended)
    → KeepsOwnAll but [] es ids q a x es ids q a x
holds_refl but es ids q a x =
    keeps_holds (keeps_refl but es ids (record { decoder = None; read = None; bytes = [] }) q a x)

pub holds_trans : (but : Option ℕ) (said : List Event) (es fs gs : List (ℕ × Entry)) (ids jds kds : Ids)
    (q r s : List Event) (a b c : Config) (x y z : Option Ended) → KeepsOwnAll but [] es ids q a x fs jds r b y
    → KeepsOwnAll but said fs jds r b y gs kds s c z → KeepsOwnAll but said es ids q a x gs kds s c z
holds_trans but said es fs gs ids jds kds q r s a b c x y z (KeptOwn o g e m h) (KeptOwn p i f n j) =
    KeptOwn (λ k. new_trans g.seen (o k) (p (rw e k))) (goes_then [] said es fs gs ids jds kds q r s g i) (f ∙ e)
    (λ t. n (m t))
    (λ k t v. lasts_trans but said es fs gs q r s (h k (was_not (is_some y) (is_some z) n t) v) (j (rw e k) t (g.sound v)))

pub holds_after : (but : Option ℕ) (said : List Event) (es fs gs : List (ℕ × Entry)) (ids jds kds : Ids)
    (q r s : List Event) (a b c : Config) (x y z : Option Ended) → KeepsOwnAll but said es ids q a x fs jds r b y
    → KeepsOwnAll but [] fs jds r b y gs kds s c z → KeepsOwnAll but said es ids q a x gs kds s c z
holds_after but said es fs gs ids jds kds q r s a b c x y z (KeptOwn o g e m h) (KeptOwn p i f n j) =
    KeptOwn (λ k. new_trans g.seen (o k) (p (rw e k))) (goes_after said es fs gs ids jds kds q r s g i) (f ∙ e)
    (λ t. n (m t))
    (λ k t v. lasts_after but said es fs gs q r s (h k (was_not (is_some y) (is_some z) n t) v) (j (rw e k) t (g.sound v)))

-- one stream changes, of which the program knows what it knew, and whose halves go on
pub holds_set : (but : Option ℕ) (es : List (ℕ × Entry)) (ids : Ids) (q : List Event) (a : Config) (x : Option Ended)
    (id : ℕ) (f : Entry)
    → IsUntouched (own_at es id) (own_in (Some f)) → standing_in (entry_at es id) ≡ Some (standing_of f)
    → IsLasting (entry_at es id) (Some f)
    → KeepsOwnAll but [] es ids q a x (set_value (is_at (nat_cmp id)) es f) ids q a x
holds_set but es ids q a x id f o t h = KeptOwn (λ m. new_of ids (untouched_set es id f o)) (goes_set es ids q id f t) refl
    (λ n. n) (λ m n s. lasts_set but es q id f (status_of_standing (entry_at es id) f t) h)

reads_same : (p r : Peer) (b c : Bool) → r ≡ p → c ≡ b → reads_by r c ≡ reads_by p b
reads_same p r b c h g = rw (h, g) refl

-- bytes of one stream are read
pub holds_looked : (but : Option ℕ) (es : List (ℕ × Entry)) (ids : Ids) (q : List Event) (a : Config) (x : Option Ended)
    (id : ℕ) (e f : Entry) → entry_at es id ≡ Some e → f.told ≡ e.told → f.session ≡ e.session
    → f.may_cancel ≡ e.may_cancel → f.writing ≡ e.writing → f.peer ≡ e.peer → f.is_decoder ≡ e.is_decoder
    → KeepsOwnAll but [] es ids q a x (set_value (is_at (nat_cmp id)) es f) ids q a x
holds_looked but es ids q a x id e f there told session may own peer decoder = holds_set but es ids q a x id f
    (inl (ap own_of own ∙ sym (ap own_in there)))
    (ap standing_in there ∙ ap Some (sym (standing_by e f told session may)))
    (inr (
      ap own_of own ∙ sym (ap own_in there),
      reads_same e.peer f.peer e.is_decoder f.is_decoder peer decoder ∙ sym (ap reads_in there),
    ))

pub holds_own : {but : Option ℕ} {said : List Event} {es fs : List (ℕ × Entry)} {ids jds : Ids} {q r : List Event}
    {a b : Config} {x y : Option Ended} → KeepsOwnAll but said es ids q a x fs jds r b y → a.on_malformed ≡ chosen.Reset
    → UntouchedOrNew ids es fs
holds_own (KeptOwn o g e n h) m = o m

pub holds_goes : {but : Option ℕ} {said : List Event} {es fs : List (ℕ × Entry)} {ids jds : Ids} {q r : List Event}
    {a b : Config} {x y : Option Ended} → KeepsOwnAll but said es ids q a x fs jds r b y → Goes said es ids q fs jds r
holds_goes (KeptOwn o g e n h) = g

pub holds_config : {but : Option ℕ} {said : List Event} {es fs : List (ℕ × Entry)} {ids jds : Ids} {q r : List Event}
    {a b : Config} {x y : Option Ended} → KeepsOwnAll but said es ids q a x fs jds r b y → b ≡ a
holds_config (KeptOwn o g e n h) = e

-- a connection that is over stays so
pub holds_ends : {but : Option ℕ} {said : List Event} {es fs : List (ℕ × Entry)} {ids jds : Ids} {q r : List Event}
    {a b : Config} {x y : Option Ended} → KeepsOwnAll but said es ids q a x fs jds r b y
    → is_some x ≡ true → is_some y ≡ true
holds_ends (KeptOwn o g e n h) = n

pub holds_lasts : {but : Option ℕ} {said : List Event} {es fs : List (ℕ × Entry)} {ids jds : Ids} {q r : List Event}
    {a b : Config} {x y : Option Ended} → KeepsOwnAll but said es ids q a x fs jds r b y
    → a.on_malformed ≡ chosen.Reset → is_some y ≡ false → Sound es ids → Lasts but said es q fs r
holds_lasts (KeptOwn o g e n h) = h

-- a malformed message is answered, since the configuration says so
pub holds_answered : (but : Option ℕ) (said : List Event) (es fs : List (ℕ × Entry)) (ids jds : Ids) (q r : List Event)
    (a b : Config) (x y : Option Ended) → (a.on_malformed ≡ chosen.Reset → ⊥)
    → Goes said es ids q fs jds r → b ≡ a → (is_some x ≡ true → is_some y ≡ true)
    → KeepsOwnAll but said es ids q a x fs jds r b y
holds_answered but said es fs ids jds q r a b x y other g e n =
    KeptOwn (λ m. absurd (other m)) g e n (λ m. absurd (other m))

-- what is kept of all streams is of all but one
pub holds_weak : (id : ℕ) {es fs : List (ℕ × Entry)} {ids jds : Ids} {q r : List Event} {a b : Config}
    {x y : Option Ended} → KeepsOwnAll None [] es ids q a x fs jds r b y
    → KeepsOwnAll (Some id) [] es ids q a x fs jds r b y
holds_weak id {es} {fs} {ids} {jds} {q} {r} (KeptOwn o g e n h) =
    KeptOwn o g e n (λ m t s. lasts_weak id es fs q r (h m t s))

-- and of that one, too, if the program does not know of it
pub hold_unknown : (id : ℕ) {es fs : List (ℕ × Entry)} {ids jds : Ids} {q r : List Event} {a b : Config}
    {x y : Option Ended} → knows_of (entry_at es id) ≡ false → KeepsOwnAll (Some id) [] es ids q a x fs jds r b y
    → KeepsOwnAll None [] es ids q a x fs jds r b y
hold_unknown id {es} {fs} {ids} {jds} {q} {r} u (KeptOwn o g e n h) =
    KeptOwn o g e n (λ m t s. lasts_unknown id es fs q r u (h m t s))

pub holds_then : {but : Option ℕ} {said : List Event} {es fs gs : List (ℕ × Entry)} {ids jds kds : Ids}
    {q r s : List Event} {a b c : Config} {x y z : Option Ended} → KeepsOwnAll but [] es ids q a x fs jds r b y
    → KeepsOwnAll but said fs jds r b y gs kds s c z → KeepsOwnAll but said es ids q a x gs kds s c z
holds_then {but} {said} {es} {fs} {gs} {ids} {jds} {kds} {q} {r} {s} {a} {b} {c} {x} {y} {z} g h =
    holds_trans but said es fs gs ids jds kds q r s a b c x y z g h

-- ---- whole connections

untouched_same : (es fs : List (ℕ × Entry)) → fs ≡ es → Untouched es fs
untouched_same es fs h = rw h (untouched_refl es)

lasts_same : (es fs : List (ℕ × Entry)) (q r : List Event) → fs ≡ es → r ≡ q → Lasts None [] es q fs r
lasts_same es fs q r h g = rw (h, g) (lasts_refl None es q)

-- nothing changes, and then that
pub holds_still : (said : List Event) (c d e : Connection) → IsStill c d → KeepsOwn said d e → KeepsOwn said c e
holds_still said c d e h k = holds_then
    (KeptOwn (λ m. new_of c.ids (untouched_same c.streams.entries d.streams.entries (ap (λ v. v.streams) h)))
    (goes_still c d h) (ap (λ v. v.config) h) (λ n. ap (λ v. is_some v.ended) h ∙ n)
    (λ m n s. lasts_same c.streams.entries d.streams.entries c.events.items d.events.items (ap (λ v. v.streams) h)
    (ap (λ v. v.events) h))) k

-- an event of the queue is dropped, and then that
pub holds_popped : (c d e f : Connection) → KeepsOwn [] c d → Keeps [] d e → KeepsOwn [] e f → KeepsOwn [] c f
holds_popped c d e f g h k = holds_then (holds_then g (keeps_holds h)) k

-- ---- sets for tactics

-- to show all of that of a step that may read
pub ruleset hold = (keeps_holds, keeps_left, holds_refl, holds_trans, holds_after, holds_set)

-- to show that it does but for one stream
pub ruleset hold_but = (holds_weak, keeps_holds)

-- what follows from it
pub ruleset held = (holds_own, holds_goes, holds_config, holds_ends, holds_lasts)
