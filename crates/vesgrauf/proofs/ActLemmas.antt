-- What steps in which bytes of the peer may be read do for the own decoder stream.
use Rattle.std.proofs.Common.{◌≡◌, ℕ, List, [], ◌∷◌, ◌++◌, Option, Some, None, Bool, true, false, cond, refl, inl, inr, sym, ap, subst, ◌∙◌}
use Rattle.std.specs.Prelude.{is_some}
use Rattle.std.specs.Ordering.{nat_cmp}
use Rattle.std.specs.Map.{set_value}
use Rattle.std.specs.BTreeMap.{is_at}
use Rattle.wtp_webtransport.specs.declared.connection.Connection.{Connection as Shared}
use Rattle.wtp_webtransport.specs.declared.stream.Stream.{Stream}
use Rattle.vesgrauf_stream.specs.declared.bytes.Bytes.{Bytes}
use Rattle.vesgrauf_stream.specs.declared.bytes.Chunk.{Chunk}
use Rattle.vesgrauf_stream.specs.declared.reading.Found.{Found}
use Rattle.vesgrauf_stream.specs.declared.reading.Reading.{Reading}
use Rattle.vesgrauf_stream.specs.Pieces.{HearsPiece}
use Rattle.vesgrauf.specs.declared.config.Config.{Config}
use Rattle.vesgrauf.specs.declared.connection.Connection.{Connection}
use Rattle.vesgrauf.specs.declared.connection.Ended.{Ended}
use Rattle.vesgrauf.specs.declared.connection.ids.Ids.{Ids}
use Rattle.vesgrauf.specs.declared.entry.Entry.{Entry}
use Rattle.vesgrauf.specs.declared.entry.Peer.{Peer}
use Rattle.vesgrauf.specs.declared.entry.Peer.TheVariants as peer
use Rattle.vesgrauf.specs.declared.event.Event.{Event}
use Rattle.vesgrauf.specs.Ids.{was}
use Rattle.vesgrauf.specs.Instructions.{Table, Reads, Acknowledges, HearsAndSays, table_by}
use Rattle.vesgrauf.specs.Keeps.{KeepsAll, Kept}
use Rattle.vesgrauf.specs.Own.{entry_at}
use Rattle.vesgrauf.specs.State.{IsStill, is_over}
use Rattle.vesgrauf.specs.Theirs.{Theirs, Still, theirs_by, theirs_of, theirs_in, theirs_at}
use Rattle.vesgrauf.specs.Told.{AreOthers, Sound}
use Rattle.vesgrauf.specs.Works.{Book, book_at, book_of, may_in, Continues, IsMoved, IsAt, MayRead, LookedAt, RestedAt, Stays, Step, Worked, WorksUnless, Unless, WorksOn}
use Rattle.vesgrauf.proofs.CancelLemmas.{worked_does}
use Rattle.vesgrauf.proofs.GoesLemmas.{set_sets, same_at, goes_as_known}
use Rattle.vesgrauf.proofs.InstructionLemmas.{SaysAt, acknowledged, piece_acknowledged, said_after, rests_after}
use Rattle.vesgrauf.proofs.KeepsLemmas.{key_same, was_not}
use Rattle.vesgrauf.proofs.WorksLemmas.{continues_refl, moved_refl, may_as, fewer_by, worked_refl, worked_trans, worked_moves}

-- ---- steps

pub act_refl : (x : Bool) (b : Book) → WorksUnless x x b b
act_refl x b = Unless (λ h. h) (λ n s. (s, worked_refl b))

pub act_trans : {x y z : Bool} {b c d : Book} → WorksUnless x y b c → WorksUnless y z c d → WorksUnless x z b d
act_trans {x} {y} {z} {b} {c} {d} (Unless e w) (Unless f v) = Unless (λ h. f (e h)) (λ n s.
    let first : Sound c.streams c.ids × Worked b c = w (was_not y z f n) s in
    let then : Sound d.streams d.ids × Worked c d = v n first.0 in
    (then.0, worked_trans b c d first.1 then.1))

pub act_keeps : {but : Option ℕ} {said : List Event} {es fs : List (ℕ × Entry)} {ids jds : Ids} {t u : Table}
    {q r : List Event} {a b : Config} {x y : Option Ended} → KeepsAll but said es ids t q a x fs jds u r b y
    → WorksUnless (is_some x) (is_some y) (book_at es ids t) (book_at fs jds u)
act_keeps (Kept o l g e n h w) = Unless n (λ over s. (g.sound s, w over s))

-- nothing that the program or QUIC sees changes
pub act_still : (c d : Connection) → IsStill c d → WorksOn c d
act_still c d h = rw (
  ap (λ v. v.streams) h,
  ap (λ v. v.ids) h,
  ap (λ v. v.shared) h,
  ap (λ v. v.decoder) h,
  ap (λ v. v.told) h,
  ap (λ v. v.ended) h,
)
    (act_refl (is_over c) (book_of c))

-- the connection is over then
pub act_over : (x y : Bool) (b c : Book) → y ≡ true → WorksUnless x y b c
act_over x y b c over = Unless (λ h. over) (λ n s. absurd (let bad : true ≡ false = sym over ∙ n in cc))

-- it was over before the last step
pub act_over_then : {y z : Bool} {c d : Book} (x : Bool) (b : Book) → y ≡ true → WorksUnless y z c d → WorksUnless x z b d
act_over_then {y} {z} {c} {d} x b over (Unless e w) = act_over x z b d (e over)

-- ---- bytes of a stream are looked at

is_at_own : (p : Peer) (b : Bool) (r : Reading) → IsAt (theirs_by p b r) r.stream
is_at_own peer.Reads true r = tt
is_at_own peer.Reads false r = refl
is_at_own other b r = tt

at_own : (e : Entry) (s : Stream) → s ≡ e.reading.stream → IsAt (theirs_of e) s
at_own e s h = subst (λ o. IsAt (theirs_of e) o) (sym h) (is_at_own e.peer e.is_decoder e.reading)

pub reads_at : (e f : Entry) {limit : ℕ} {c d : Shared} {i j : Chunk} {found : Found} {id : ℕ} {before after : List ℕ}
    → HearsAndSays id limit c e.reading i before found d f.reading j after
    → MayRead id (theirs_of e) (theirs_of f) (table_by c before) (table_by d after)
reads_at e f {limit} {c} {d} {i} {j} {found} {id} {before} {after} h =
    let a : SaysAt id e.reading.stream f.reading.stream (table_by c before) (table_by d after) = acknowledged h in
    LookedAt a.says (at_own e a.says.s a.from) (at_own f a.says.n a.to)

-- a piece of content
pub reads_piece : (e f : Entry) (b : Bytes) (c d : Shared) (i j : Chunk) (id : ℕ) (bytes : List ℕ)
    → HearsPiece b c e.reading i d f.reading j
    → MayRead id (theirs_of e) (theirs_of f) (table_by c bytes) (table_by d bytes)
reads_piece e f b c d i j id bytes h =
    let a : SaysAt id e.reading.stream f.reading.stream (table_by c bytes) (table_by d bytes)
    = piece_acknowledged b c d e.reading f.reading i j id bytes h in
    LookedAt a.says (at_own e a.says.s a.from) (at_own f a.says.n a.to)

pub reads_none : (id : ℕ) (x : Theirs) (t : Table) → MayRead id x x t t
reads_none id x t = RestedAt (continues_refl x) refl

-- other bytes wait before
pub read_after : (id : ℕ) (x y : Theirs) (c d : Shared) (queue before after : List ℕ)
    → MayRead id x y (table_by c before) (table_by d after)
    → MayRead id x y (table_by c (queue ++ before)) (table_by d (queue ++ after))
read_after id x y c d queue before after (LookedAt a p q) =
    let m : SaysAt id a.s a.n (table_by c (queue ++ before)) (table_by d (queue ++ after))
    = said_after id a.s a.n c d queue before after (record { says = a; from = refl; to = refl }) in
    LookedAt m.says (subst (λ o. IsAt x o) (sym m.from) p) (subst (λ o. IsAt y o) (sym m.to) q)
read_after id x y c d queue before after (RestedAt m h) = RestedAt m (rests_after c d queue before after h)

at_same : (b seen : Bool) (x y : Option Entry) → b ≡ false → IsMoved seen (theirs_in y) (theirs_in (cond b x y))
at_same b seen x y h =
    subst (λ o. IsMoved seen (theirs_in y) (theirs_in (cond o x y))) (sym h) (moved_refl seen (theirs_in y))

here : (es : List (ℕ × Entry)) (id : ℕ) (e f : Entry) → entry_at es id ≡ Some e
    → entry_at (set_value (is_at (nat_cmp id)) es f) id ≡ Some f
here es id e f there = set_sets es id e f there id ∙ ap (λ b. cond b (Some f) (entry_at es id)) (key_same id)

read_stays : (es : List (ℕ × Entry)) (ids : Ids) (t u : Table) (id : ℕ) (e f : Entry) → entry_at es id ≡ Some e
    → f.may_cancel ≡ e.may_cancel → Stays (book_at es ids t) (book_at (set_value (is_at (nat_cmp id)) es f) ids u)
read_stays es ids t u id e f there may = record {
  seen = λ k h. h;
  fewer = λ k h. fewer_by (is_at (nat_cmp id) k) (was ids k) (Some f) (entry_at es k)
      (λ at. may_as (was ids k) e f (entry_at es k) (there_as k at) may)
      (subst (λ o. may_in (was ids k) o ≡ true) (set_sets es id e f there k) h);
}
  where
    there_as : (k : ℕ) → is_at (nat_cmp id) k ≡ true → entry_at es k ≡ Some e
    there_as k at = ap (λ n. entry_at es n) (same_at id k at) ∙ there

looked : (es : List (ℕ × Entry)) (ids : Ids) (t u : Table) (id : ℕ) (e f : Entry) → entry_at es id ≡ Some e
    → f.may_cancel ≡ e.may_cancel → MayRead id (theirs_of e) (theirs_of f) t u
    → Worked (book_at es ids t) (book_at (set_value (is_at (nat_cmp id)) es f) ids u)
looked es ids t u id e f there may (LookedAt a p q) =
    worked_does (Reads id) (book_at es ids t) (book_at (set_value (is_at (nat_cmp id)) es f) ids u) (record {
      does = record {
        says = a;
        from = subst (λ o. IsAt (theirs_in o) a.s) (sym there) p;
        to = subst (λ o. IsAt (theirs_in o) a.n) (sym (here es id e f there)) q;
        moved = λ k at. subst (λ o. IsMoved (was ids k) (theirs_at es k) (theirs_in o)) (sym (set_sets es id e f there k))
            (at_same (is_at (nat_cmp id) k) (was ids k) (Some f) (entry_at es k) at);
      };
      stays = read_stays es ids t u id e f there may;
    })
looked es ids t u id e f there may (RestedAt m h) =
    subst (λ v. Worked (book_at es ids t) (book_at (set_value (is_at (nat_cmp id)) es f) ids v)) (sym h)
    (worked_moves es ids t id e f there may m)

pub act_looked : (es : List (ℕ × Entry)) (ids : Ids) (c d : Shared) (queue before after : List ℕ) (x : Bool) (id : ℕ)
    (e f : Entry) (y : Theirs) → entry_at es id ≡ Some e
    → MayRead id (theirs_of e) y (table_by c before) (table_by d after) → theirs_of f ≡ y
    → f.told ≡ e.told → f.session ≡ e.session → f.may_cancel ≡ e.may_cancel
    → WorksUnless x x (book_at es ids (table_by c (queue ++ before)))
    (book_at (set_value (is_at (nat_cmp id)) es f) ids (table_by d (queue ++ after)))
act_looked es ids c d queue before after x id e f y there read same told session may =
    Unless (λ h. h) (λ n s. (
      (goes_as_known es ids [] id e f there told session).sound s,
      looked es ids (table_by c (queue ++ before)) (table_by d (queue ++ after)) id e f there may
          (subst (λ o. MayRead id (theirs_of e) o (table_by c (queue ++ before)) (table_by d (queue ++ after))) (sym same)
          (read_after id (theirs_of e) y c d queue before after read)),
    ))

-- nothing of it is read
pub act_set : (es : List (ℕ × Entry)) (ids : Ids) (t : Table) (x : Bool) (id : ℕ) (e f : Entry) → entry_at es id ≡ Some e
    → Continues (theirs_of e) (theirs_of f) → f.told ≡ e.told → f.session ≡ e.session → f.may_cancel ≡ e.may_cancel
    → WorksUnless x x (book_at es ids t) (book_at (set_value (is_at (nat_cmp id)) es f) ids t)
act_set es ids t x id e f there moved told session may = Unless (λ h. h) (λ n s. (
  (goes_as_known es ids [] id e f there told session).sound s,
  worked_moves es ids t id e f there may moved,
))

pub reads_here : (es : List (ℕ × Entry)) (c d : Shared) (queue before after : List ℕ) (id : ℕ) (e f : Entry) (y : Theirs)
    → entry_at es id ≡ Some e → MayRead id (theirs_of e) y (table_by c before) (table_by d after) → theirs_of f ≡ y
    → MayRead id (theirs_at es id) (theirs_at (set_value (is_at (nat_cmp id)) es f) id) (table_by c (queue ++ before))
    (table_by d (queue ++ after))
reads_here es c d queue before after id e f y there read same =
    subst (λ o. MayRead id (theirs_in o) (theirs_at (set_value (is_at (nat_cmp id)) es f) id) (table_by c (queue ++ before))
    (table_by d (queue ++ after))) (sym there)
    (subst (λ o. MayRead id (theirs_of e) o (table_by c (queue ++ before)) (table_by d (queue ++ after)))
    (sym same ∙ sym (ap theirs_in (here es id e f there)))
    (read_after id (theirs_of e) y c d queue before after read))

-- more bytes of it are kept
kept_continues : (p o : Peer) (b g : Bool) (r s : Reading) → o ≡ p → g ≡ b → s.stream ≡ r.stream
    → Continues (theirs_by p b r) (theirs_by o g s)
kept_continues p o b g r s h k same = rw (h, k) (kept_by p b)
  where
    kept_by : (p : Peer) (b : Bool) → Continues (theirs_by p b r) (theirs_by p b s)
    kept_by peer.Reads true = refl
    kept_by peer.Reads false = Still same
    kept_by other b = refl

pub act_kept : (es : List (ℕ × Entry)) (ids : Ids) (t : Table) (x : Bool) (id : ℕ) (e f : Entry) → entry_at es id ≡ Some e
    → f.reading.stream ≡ e.reading.stream → f.peer ≡ e.peer → f.is_decoder ≡ e.is_decoder
    → f.told ≡ e.told → f.session ≡ e.session → f.may_cancel ≡ e.may_cancel
    → WorksUnless x x (book_at es ids t) (book_at (set_value (is_at (nat_cmp id)) es f) ids t)
act_kept es ids t x id e f there stream peer decoder told session may = act_set es ids t x id e f there
    (kept_continues e.peer f.peer e.is_decoder f.is_decoder e.reading f.reading peer decoder stream) told session may

-- ---- sets for tactics

-- to show all of that of a step
pub ruleset act = (act_refl, act_trans, act_keeps)
