-- How many bytes of streams are kept.
use Rattle.std.proofs.Common.{◌≡◌, ◌≤◌, ◌+◌, ◌-◌, ℕ, List, [], ◌∷◌, length, drop, Option, Some, Bool, true, false, cond, refl, sym, ap, subst, arith, inl, inr, length-drop}
use Rattle.std.specs.Ordering.{nat_cmp}
use Rattle.std.specs.Map.{lookup, set_value}
use Rattle.std.specs.BTreeMap.{is_at}
use Rattle.std.specs.Prelude.{IfOk, OnOk, Result, Ok, Err}
use Rattle.wtp_webtransport.specs.declared.stream.Stream.{Stream}
use Rattle.vesgrauf_stream.specs.declared.reading.Reading.{Reading}
use Rattle.vesgrauf_stream.specs.Reading.{kept_of}
use Rattle.vesgrauf.specs.declared.config.Config.{Config}
use Rattle.vesgrauf.specs.declared.connection.Connection.{Connection}
use Rattle.vesgrauf.specs.declared.connection.ids.Ids.{Ids}
use Rattle.vesgrauf.specs.declared.entry.Entry.{Entry}
use Rattle.vesgrauf.specs.declared.entry.Peer.{Peer}
use Rattle.vesgrauf.specs.declared.entry.Peer.TheVariants as peer
use Rattle.vesgrauf.specs.Own.{entry_at}
use Rattle.vesgrauf.specs.Items.{Item}
use Rattle.vesgrauf.specs.Theirs.{Theirs, Gone, Unread, IsTurned, theirs_by, theirs_of, theirs_in, theirs_at, IsLeft, Left, Piece, AreCalls, AreRead, IsReadTo, IsRead, TellsKept, IsStart, Accepts, OnlyAt}
use Rattle.vesgrauf.specs.Bounds.{most_kept, Fits, AllFit, KeepsFit, StillFits, KeepsBoundAll, StillBounded, KeepsBound}
use Rattle.vesgrauf.specs.declared.event.Event.{Event}
use Rattle.vesgrauf.specs.declared.connection.Ended.{Ended}
use Rattle.vesgrauf.specs.Instructions.{Table}
use Rattle.vesgrauf.specs.Keeps.{KeepsAll, Keeps, KeepsOwnAll}
use Rattle.vesgrauf.specs.State.{IsStill}
use Rattle.vesgrauf.proofs.KeepsLemmas.{keeps_left, keeps_config}
use Rattle.vesgrauf.proofs.KeepsOwnLemmas.{holds_config}
use Rattle.vesgrauf.proofs.ReadsLemmas.{same_key}

-- ---- one stream

turned_fits : (n : ℕ) (x y : Theirs) → IsTurned x y → Fits n x → Fits n y
turned_fits n Gone y e p = absurd e
turned_fits n (Unread bytes ended s) y e p = subst (λ t. Fits n t) (sym e.2) p

pub left_fits : (n : ℕ) (x y : Theirs) → IsLeft x y → Fits n x → Fits n y
left_fits n x y (inl e) p = subst (λ t. Fits n t) (sym e) p
left_fits n x y (inr (inl e)) p = subst (λ t. Fits n t) (sym e) tt
left_fits n x y (inr (inr e)) p = turned_fits n x y e p

start_fits : (n id : ℕ) (seen : Bool) (x y : Theirs) → IsStart id seen x y → Fits n x → Fits n y
start_fits n id seen x y (inl e) p = subst (λ t. Fits n t) (sym e) p
start_fits n id seen x y (inr e) p = subst (λ t. Fits n t) (sym e.1.nothing) (omega arith)

-- what is left of bytes that are read
calls_shrink : (pieces : List Piece) (bytes rest : List ℕ) (ended : Bool) (s t : Stream)
    → AreCalls pieces bytes ended s rest t → length rest ≤ length bytes
calls_shrink [] bytes rest ended s t p = let same : rest ≡ bytes = p.0 in grind (arith, same)
calls_shrink (piece ∷ pieces) bytes rest ended s t p =
    let step : length rest ≤ length (drop piece.consumed bytes)
    = calls_shrink pieces (drop piece.consumed bytes) rest ended p.1 t p.4 in
    grind (arith, step, length-drop)

read_fits : (n : ℕ) (x y : Theirs) (items : List Item) → AreRead x items y → Fits n x → Fits n y
read_fits n x y items r p =
    let before : length r.bytes ≤ n = subst (λ t. Fits n t) r.from p in
    let after : length r.rest ≤ length r.bytes = calls_shrink r.pieces r.bytes r.rest r.ended r.before r.after r.calls in
    let fits : length r.rest ≤ n = omega (arith, before, after) in
    subst (λ t. Fits n t) (sym r.to) fits

read_to_fits : (n : ℕ) (x y : Theirs) (items : List Item) → IsReadTo x items y → Fits n x → Fits n y
read_to_fits n x y items (inl q) p = subst (λ t. Fits n t) (sym q.0) p
read_to_fits n x y items (inr r) p = read_fits n x y items r p

is_read_fits : (n : ℕ) (x y : Theirs) (items : List Item) → IsRead x items y → Fits n x → Fits n y
is_read_fits n x y items q p = left_fits n q.0 y q.2 (read_to_fits n x q.0 items q.1 p)

-- fewer bytes are kept of it, or as many
shrunk_by : (n : ℕ) (p : Peer) (b : Bool) (r s : Reading) → length (kept_of s) ≤ length (kept_of r)
    → Fits n (theirs_by p b r) → Fits n (theirs_by p b s)
shrunk_by n peer.Reads true r s h f = tt
shrunk_by n peer.Reads false r s h f = omega (arith, h, f)
shrunk_by n peer.Drops b r s h f = tt
shrunk_by n peer.Over b r s h f = tt

pub shrunk_fits : (n : ℕ) (e f : Entry) → f.peer ≡ e.peer → f.is_decoder ≡ e.is_decoder
    → length (kept_of f.reading) ≤ length (kept_of e.reading) → Fits n (theirs_of e) → Fits n (theirs_of f)
shrunk_fits n e f p d h q =
    subst (λ x. Fits n (theirs_by x f.is_decoder f.reading)) (sym p)
    (subst (λ x. Fits n (theirs_by e.peer x f.reading)) (sym d)
    (shrunk_by n e.peer e.is_decoder e.reading f.reading h q))

-- the same bytes are kept of it
pub same_kept_fits : (n : ℕ) (e f : Entry) → f.peer ≡ e.peer → f.is_decoder ≡ e.is_decoder
    → kept_of f.reading ≡ kept_of e.reading → Fits n (theirs_of e) → Fits n (theirs_of f)
same_kept_fits n e f p d h q =
    let same : length (kept_of f.reading) ≡ length (kept_of e.reading) = ap length h in
    let fewer : length (kept_of f.reading) ≤ length (kept_of e.reading) = omega (arith, same) in
    shrunk_fits n e f p d fewer q

kept_by : (n : ℕ) (p : Peer) (b : Bool) (r : Reading) → length (kept_of r) ≤ n → Fits n (theirs_by p b r)
kept_by n peer.Reads true r h = tt
kept_by n peer.Reads false r h = h
kept_by n peer.Drops b r h = tt
kept_by n peer.Over b r h = tt

-- so many bytes are held back, and QUIC's windows were extended by the others
pub kept_fits : (e : Entry) (most held : ℕ) → length (kept_of e.reading) - e.withheld ≤ most → e.withheld ≤ held
    → Fits (most + held) (theirs_of e)
kept_fits e most held p q =
    let all : length (kept_of e.reading) ≤ most + held = omega (arith, p, q) in
    kept_by (most + held) e.peer e.is_decoder e.reading all

pub gone_fits : (n : ℕ) (x : Theirs) → x ≡ Gone → Fits n x
gone_fits n x e = subst (λ t. Fits n t) (sym e) tt

-- ---- all streams

pub left_all : (n : ℕ) (c d : List (ℕ × Entry)) → Left c d → AllFit n c → AllFit n d
left_all n c d l p = record { each = λ k. left_fits n (theirs_at c k) (theirs_at d k) (l.each k) (p.each k) }

pub kept_all : (n : ℕ) (said : ℕ → List Item) (c d : List (ℕ × Entry)) → TellsKept said c d → AllFit n c → AllFit n d
kept_all n said c d t p =
    record { each = λ k. is_read_fits n (theirs_at c k) (theirs_at d k) (said k) (t.each k).0 (p.each k) }

pub start_all : (n : ℕ) (a b : Ids) (c d : List (ℕ × Entry)) → Accepts a c b d → AllFit n c → AllFit n d
start_all n a b c d t p = record { each = λ k. start_fits n k _ (theirs_at c k) (theirs_at d k) (t.each k) (p.each k) }

set_by : (n : ℕ) (a b : Bool) (e f : Entry) (x y : Option Entry) → Fits n (theirs_in (Some f))
    → Fits n (theirs_in (cond b (Some e) x)) → (Fits n (theirs_in x) → Fits n (theirs_in y))
    → Fits n (theirs_in (cond b (cond a (Some f) (Some e)) (cond a x y)))
set_by n true true e f x y q p h = q
set_by n true false e f x y q p h = p
set_by n false true e f x y q p h = p
set_by n false false e f x y q p h = h p

look_by : (a b : Bool) (key : ℕ) (e f : Entry) (es rest : List (ℕ × Entry)) (k : ℕ) → b ≡ is_at (nat_cmp k) key
    → lookup (is_at (nat_cmp k)) (cond a ((key, f) ∷ es) ((key, e) ∷ rest))
    ≡ cond b (cond a (Some f) (Some e)) (cond a (lookup (is_at (nat_cmp k)) es) (lookup (is_at (nat_cmp k)) rest))
look_by true true key e f es rest k h = grind (arith, h)
look_by true false key e f es rest k h = grind (arith, h)
look_by false true key e f es rest k h = grind (arith, h)
look_by false false key e f es rest k h = grind (arith, h)

set_at : (n : ℕ) (es : List (ℕ × Entry)) (id k : ℕ) (f : Entry) → Fits n (theirs_in (Some f))
    → Fits n (theirs_at es k) → Fits n (theirs_at (set_value (is_at (nat_cmp id)) es f) k)
set_at n [] id k f q p = tt
set_at n ((key, e) ∷ es) id k f q p =
    let step : Fits n (theirs_in (cond (is_at (nat_cmp k) key) (cond (is_at (nat_cmp id) key) (Some f) (Some e))
    (cond (is_at (nat_cmp id) key) (lookup (is_at (nat_cmp k)) es)
    (lookup (is_at (nat_cmp k)) (set_value (is_at (nat_cmp id)) es f)))))
    = set_by n (is_at (nat_cmp id) key) (is_at (nat_cmp k) key) e f (lookup (is_at (nat_cmp k)) es)
    (lookup (is_at (nat_cmp k)) (set_value (is_at (nat_cmp id)) es f)) q p (λ h. set_at n es id k f q h)
    in rw (look_by (is_at (nat_cmp id) key) (is_at (nat_cmp k) key) key e f es
    (set_value (is_at (nat_cmp id)) es f) k refl) step

-- one stream becomes this
pub set_all : (n : ℕ) (es : List (ℕ × Entry)) (id : ℕ) (f : Entry) → Fits n (theirs_of f) → AllFit n es
    → AllFit n (set_value (is_at (nat_cmp id)) es f)
set_all n es id f q p = record { each = λ k. set_at n es id k f q (p.each k) }

-- of this one no more bytes are kept than were
pub plain_all : (n : ℕ) (es : List (ℕ × Entry)) (id : ℕ) (e f : Entry) → lookup (is_at (nat_cmp id)) es ≡ Some e
    → ((most : ℕ) → Fits most (theirs_of e) → Fits most (theirs_of f)) → AllFit n es
    → AllFit n (set_value (is_at (nat_cmp id)) es f)
plain_all n es id e f there h p =
    set_all n es id f (h n (subst (λ o. Fits n (theirs_in o)) there (p.each id))) p

pub looked_all : (n : ℕ) (es : List (ℕ × Entry)) (id : ℕ) (e g f : Entry) → lookup (is_at (nat_cmp id)) es ≡ Some e
    → ((most : ℕ) → Fits most (theirs_of e) → Fits most (theirs_of g)) → theirs_of f ≡ theirs_of g → AllFit n es
    → AllFit n (set_value (is_at (nat_cmp id)) es f)
looked_all n es id e g f there h same p =
    plain_all n es id e f there (λ m q. subst (λ x. Fits m x) (sym same) (h m q)) p

fits_here : (n : ℕ) (b : Bool) (fs : List (ℕ × Entry)) (id k : ℕ) → is_at (nat_cmp id) k ≡ b → Fits n (theirs_at fs id)
    → (is_at (nat_cmp id) k ≡ false → Fits n (theirs_at fs k)) → Fits n (theirs_at fs k)
fits_here n true fs id k t q h = subst (λ m. Fits n (theirs_at fs m)) (same_key id k t) q
fits_here n false fs id k t q h = h t

-- ---- one step after the other

-- of one stream fewer bytes are kept, or as many
pub shrunk_keeps : (p o : Peer) (b c : Bool) (r s : Reading) → o ≡ p → c ≡ b → length (kept_of s) ≤ length (kept_of r)
    → KeepsFit (theirs_by p b r) (theirs_by o c s)
shrunk_keeps p o b c r s d e h = rw (d, e) (StillFits (λ n q. shrunk_by n p b r s h q))

-- as many
pub same_keeps : (p o : Peer) (b c : Bool) (r s : Reading) → o ≡ p → c ≡ b → kept_of s ≡ kept_of r
    → KeepsFit (theirs_by p b r) (theirs_by o c s)
same_keeps p o b c r s d e h =
    let same : length (kept_of s) ≡ length (kept_of r) = ap length h in
    let fewer : length (kept_of s) ≤ length (kept_of r) = omega (arith, same) in
    shrunk_keeps p o b c r s d e fewer

pub bound_refl : (a : Config) (es : List (ℕ × Entry)) → KeepsBoundAll a es a es
bound_refl a es = StillBounded (λ p. p)

pub bound_trans : (a : Config) (es : List (ℕ × Entry)) (b : Config) (fs : List (ℕ × Entry)) (c : Config)
    (gs : List (ℕ × Entry)) → KeepsBoundAll a es b fs → KeepsBoundAll b fs c gs → KeepsBoundAll a es c gs
bound_trans a es b fs c gs (StillBounded p) (StillBounded q) = StillBounded (λ h. q (p h))

pub bound_left : (a : Config) (es : List (ℕ × Entry)) (b : Config) (fs : List (ℕ × Entry)) → Left es fs → b ≡ a
    → KeepsBoundAll a es b fs
bound_left a es b fs l e = StillBounded (λ p. subst (λ x. AllFit (most_kept x) fs) (sym e)
    (left_all (most_kept a) es fs l p))

pub bound_keeps : {but : Option ℕ} {said : List Event} {es fs : List (ℕ × Entry)} {ids jds : Ids} {ta tb : Table} {q r : List Event}
    {a b : Config} {x y : Option Ended} → KeepsAll but said es ids ta q a x fs jds tb r b y → KeepsBoundAll a es b fs
bound_keeps {but} {said} {es} {fs} {ids} {jds} {ta} {tb} {q} {r} {a} {b} k = bound_left a es b fs (keeps_left k) (keeps_config k)

pub bound_holds : {but : Option ℕ} {said : List Event} {es fs : List (ℕ × Entry)} {ids jds : Ids} {q r : List Event}
    {a b : Config} {x y : Option Ended} → Left es fs → KeepsOwnAll but said es ids q a x fs jds r b y
    → KeepsBoundAll a es b fs
bound_holds {but} {said} {es} {fs} {ids} {jds} {q} {r} {a} {b} l k = bound_left a es b fs l (holds_config k)

pub bound_kept : (said : ℕ → List Item) (a : Config) (es : List (ℕ × Entry)) (b : Config) (fs : List (ℕ × Entry))
    → TellsKept said es fs → b ≡ a → KeepsBoundAll a es b fs
bound_kept said a es b fs t e = StillBounded (λ p. subst (λ x. AllFit (most_kept x) fs) (sym e)
    (kept_all (most_kept a) said es fs t p))

pub bound_start : (a : Config) (ids : Ids) (es : List (ℕ × Entry)) (b : Config) (jds : Ids) (fs : List (ℕ × Entry))
    → Accepts ids es jds fs → b ≡ a → KeepsBoundAll a es b fs
bound_start a ids es b jds fs t e = StillBounded (λ p. subst (λ x. AllFit (most_kept x) fs) (sym e)
    (start_all (most_kept a) ids jds es fs t p))

bound_set_by : (n : ℕ) (es : List (ℕ × Entry)) (id : ℕ) (e f : Entry) → entry_at es id ≡ Some e
    → KeepsFit (theirs_of e) (theirs_of f) → AllFit n es → AllFit n (set_value (is_at (nat_cmp id)) es f)
bound_set_by n es id e f there (StillFits h) p = plain_all n es id e f there h p

-- one stream changes, of which no more is kept than was
pub bound_set : (a : Config) (es : List (ℕ × Entry)) (id : ℕ) (e f : Entry) → entry_at es id ≡ Some e
    → KeepsFit (theirs_of e) (theirs_of f) → KeepsBoundAll a es a (set_value (is_at (nat_cmp id)) es f)
bound_set a es id e f there h = StillBounded (λ p. bound_set_by (most_kept a) es id e f there h p)

only_by : (n : ℕ) (ms fs : List (ℕ × Entry)) (es : List (ℕ × Entry)) (id k : ℕ) → OnlyAt id es ms → Left ms fs
    → Fits n (theirs_at fs id) → AllFit n es → Fits n (theirs_at fs k)
only_by n ms fs es id k o l q p = fits_here n (is_at (nat_cmp id) k) fs id k refl q
    (λ t. left_fits n (theirs_at ms k) (theirs_at fs k) (l.each k) (subst (λ x. Fits n x) (sym (o.each k t)) (p.each k)))

-- one stream alone changes, then no byte of any is kept that was not, and of this one no more than may
pub bound_only : {a : Config} {es : List (ℕ × Entry)} {ms : List (ℕ × Entry)} {b : Config} {fs : List (ℕ × Entry)} (id : ℕ)
    → OnlyAt id es ms → Left ms fs → Fits (most_kept a) (theirs_at fs id) → b ≡ a → KeepsBoundAll a es b fs
bound_only {a} {es} {ms} {b} {fs} id o l q e = StillBounded (λ p. subst (λ x. AllFit (most_kept x) fs) (sym e)
    (record { each = λ k. only_by (most_kept a) ms fs es id k o l q p }))

pub bound_then : {a : Config} {es : List (ℕ × Entry)} {b : Config} {fs : List (ℕ × Entry)} {c : Config}
    {gs : List (ℕ × Entry)} → KeepsBoundAll a es b fs → KeepsBoundAll b fs c gs → KeepsBoundAll a es c gs
bound_then (StillBounded p) (StillBounded q) = StillBounded (λ h. q (p h))

pub bound_begun : {a : Config} {ids : Ids} {es : List (ℕ × Entry)} {b : Config} {jds : Ids} {fs : List (ℕ × Entry)}
    → Accepts ids es jds fs → b ≡ a → KeepsBoundAll a es b fs
bound_begun {a} {ids} {es} {b} {jds} {fs} t e = bound_start a ids es b jds fs t e

pub bounded : {a b : Config} {es fs : List (ℕ × Entry)} → KeepsBoundAll a es b fs → AllFit (most_kept a) es
    → AllFit (most_kept b) fs
bounded (StillBounded h) p = h p

pub bound_same : (a : Config) (es : List (ℕ × Entry)) (b : Config) (fs : List (ℕ × Entry)) → fs ≡ es → b ≡ a
    → KeepsBoundAll a es b fs
bound_same a es b fs h e = rw (h, e) (bound_refl a es)

pub bound_still : (c d e : Connection) → IsStill c d → KeepsBound d e → KeepsBound c e
bound_still c d e h k = bound_trans c.config c.streams.entries d.config d.streams.entries e.config e.streams.entries
    (bound_same c.config c.streams.entries d.config d.streams.entries (ap (λ v. v.streams) h) (ap (λ v. v.config) h)) k

pub bound_popped : {said : List Event} (c d e f : Connection) → KeepsBound c d → Keeps said d e → KeepsBound e f
    → KeepsBound c f
bound_popped c d e f p k q = bound_trans c.config c.streams.entries e.config e.streams.entries f.config f.streams.entries
    (bound_trans c.config c.streams.entries d.config d.streams.entries e.config e.streams.entries p (bound_keeps k)) q

pub on_ok : {A E : Type 0} (r : Result A E) {P Q : Type 0} → (P → Q) → OnOk r P → OnOk r Q
on_ok (Ok a) f p = f p
on_ok (Err e) f p = tt

pub ok_on : {A E : Type 0} (r : Result A E) (P : A → Type 0) (Q : Type 0) → ((a : A) → P a → Q) → IfOk r P → OnOk r Q
ok_on (Ok a) P Q f p = f a p
ok_on (Err e) P Q f p = tt

pub ruleset bound = (bound_refl, bound_trans, bound_keeps, bound_holds, bound_set)
