-- What is said on the own decoder stream, but for acknowledgments.
use Rattle.std.proofs.Common.{◌≡◌, ℕ, List, [], ◌∷◌, ◌++◌, Option, Some, None, Bool, true, false, cond, refl, inl, inr, sym, ap, subst, ◌∙◌}
use Rattle.std.specs.Ordering.{nat_cmp}
use Rattle.std.specs.Map.{set_value}
use Rattle.std.specs.BTreeMap.{is_at}
use Rattle.wtp_webtransport.specs.declared.connection.Connection.{Connection as Shared}
use Rattle.wtp_webtransport.specs.Tables.{due_cancel, after_cancel, due_inserts, after_inserts}
use Rattle.wtp_dynamic_decoder.specs.Decoder.{told as with_told}
use Rattle.vesgrauf.specs.declared.config.Config.{Config}
use Rattle.vesgrauf.specs.declared.connection.Ended.{Ended}
use Rattle.vesgrauf.specs.declared.connection.ids.Ids.{Ids}
use Rattle.vesgrauf.specs.declared.entry.Entry.{Entry}
use Rattle.vesgrauf.specs.declared.event.Event.{Event}
use Rattle.vesgrauf.specs.Ids.{was}
use Rattle.vesgrauf.specs.Instructions.{Table, Deed, Leaves, Counts, table_by, left, counted}
use Rattle.vesgrauf.specs.Keeps.{KeepsAll, Kept}
use Rattle.vesgrauf.specs.Own.{own_in, entry_at}
use Rattle.vesgrauf.specs.Halves.{reads_in}
use Rattle.vesgrauf.specs.Theirs.{theirs_in, theirs_at}
use Rattle.vesgrauf.specs.Told.{status_in}
use Rattle.vesgrauf.specs.Works.{Book, book_at, may_in, may_leave, Step, Stays, IsMoved, Worked}
use Rattle.vesgrauf.proofs.GoesLemmas.{set_sets, same_at, goes_as_known, goes_refl}
use Rattle.vesgrauf.proofs.InstructionLemmas.{does_leave, does_count}
use Rattle.vesgrauf.proofs.KeepsLemmas.{key_same}
use Rattle.vesgrauf.proofs.LastsLemmas.{lasts_set, lasts_refl}
use Rattle.vesgrauf.proofs.OwnLemmas.{untouched_refl, untouched_set}
use Rattle.vesgrauf.proofs.StepLemmas.{left_itself}
use Rattle.vesgrauf.proofs.TheirsLemmas.{left_set}
use Rattle.vesgrauf.proofs.WorksLemmas.{rests_refl, stays_refl, moved_refl, worked_sets}

-- one deed is done
pub worked_does : (x : Deed) (b c : Book) → Step x b c → Worked b c
worked_does x b c s = record { deeds = x ∷ []; works = (b, c, rests_refl b, s, rests_refl c) }

-- ---- a stream is read no further, of which nothing is said

-- the stream may not be cancelled any more
abbrev pub spent : Entry → Entry
spent e = record e { may_cancel = false }

moved_at : (b seen : Bool) (e : Entry) (o : Option Entry) → (b ≡ true → o ≡ Some e)
    → IsMoved seen (theirs_in o) (theirs_in (cond b (Some (spent e)) o))
moved_at true seen e o h = subst (λ (x : Option Entry). IsMoved seen (theirs_in x) (theirs_in (Some (spent e)))) (sym (h refl))
    (moved_refl seen (theirs_in (Some e)))
moved_at false seen e o h = moved_refl seen (theirs_in o)

fewer_at : (b seen : Bool) (e : Entry) (o : Option Entry) → may_in seen (cond b (Some (spent e)) o) ≡ true
    → may_in seen o ≡ true
fewer_at true seen e o h = absurd (let bad : false ≡ true = h in cc)
fewer_at false seen e o h = h

there_at : (es : List (ℕ × Entry)) (id k : ℕ) (e : Entry) → entry_at es id ≡ Some e → is_at (nat_cmp id) k ≡ true
    → entry_at es k ≡ Some e
there_at es id k e there at = ap (λ n. entry_at es n) (same_at id k at) ∙ there

spent_moved : (es : List (ℕ × Entry)) (ids : Ids) (id k : ℕ) (e : Entry) → entry_at es id ≡ Some e
    → IsMoved (was ids k) (theirs_at es k) (theirs_at (set_value (is_at (nat_cmp id)) es (spent e)) k)
spent_moved es ids id k e there = subst (λ (o : Option Entry). IsMoved (was ids k) (theirs_at es k) (theirs_in o))
    (sym (set_sets es id e (spent e) there k))
    (moved_at (is_at (nat_cmp id) k) (was ids k) e (entry_at es k) (there_at es id k e there))

spent_stays : (es : List (ℕ × Entry)) (ids : Ids) (t u : Table) (id : ℕ) (e : Entry) → entry_at es id ≡ Some e
    → Stays (book_at es ids t) (book_at (set_value (is_at (nat_cmp id)) es (spent e)) ids u)
spent_stays es ids t u id e there = record {
  seen = λ k h. h;
  fewer = λ k h. fewer_at (is_at (nat_cmp id) k) (was ids k) e (entry_at es k)
      (subst (λ (o : Option Entry). may_in (was ids k) o ≡ true) (set_sets es id e (spent e) there k) h);
}

spent_once : (es : List (ℕ × Entry)) (ids : Ids) (t : Table) (id : ℕ) (e : Entry) → entry_at es id ≡ Some e
    → may_leave (book_at (set_value (is_at (nat_cmp id)) es (spent e)) ids t) id ≡ false
spent_once es ids t id e there =
    ap (λ (o : Option Entry). may_in (was ids id) o) (set_sets es id e (spent e) there id
    ∙ ap (λ b. cond b (Some (spent e)) (entry_at es id)) (key_same id))

pub keeps_spent : (but : Option ℕ) (es : List (ℕ × Entry)) (ids : Ids) (t : Table) (q : List Event) (a : Config)
    (x : Option Ended) (id : ℕ) (e : Entry) → entry_at es id ≡ Some e
    → KeepsAll but [] es ids t q a x (set_value (is_at (nat_cmp id)) es (spent e)) ids t q a x
keeps_spent but es ids t q a x id e there = Kept
    (untouched_set es id (spent e) (inl (sym (ap own_in there)))) (left_set es id (spent e) (inl (sym (ap theirs_in there))))
    (goes_as_known es ids q id e (spent e) there refl refl) refl (λ n. n)
    (λ n s. lasts_set but es q id (spent e) (ap status_in there) (inr (sym (ap own_in there), sym (ap reads_in there))))
    (λ n s. worked_sets es (set_value (is_at (nat_cmp id)) es (spent e)) ids t id (Some (spent e))
    (set_sets es id e (spent e) there) (λ may. absurd (let bad : false ≡ true = may in cc))
    (inl (sym (ap theirs_in there))))

-- ---- it is cancelled

leaves_step : (es : List (ℕ × Entry)) (ids : Ids) (t : Table) (id : ℕ) (e : Entry) → entry_at es id ≡ Some e
    → e.may_cancel ≡ true
    → Step (Leaves id) (book_at es ids t) (book_at (set_value (is_at (nat_cmp id)) es (spent e)) ids (left id t))
leaves_step es ids t id e there may = record {
  does = record {
    may = ap (λ (o : Option Entry). may_in (was ids id) o) there ∙ may;
    once = spent_once es ids (left id t) id e there;
    says = refl;
    moved = λ k. spent_moved es ids id k e there;
  };
  stays = spent_stays es ids t (left id t) id e there;
}

cancelled_as : (es : List (ℕ × Entry)) (ids : Ids) (t u : Table) (q : List Event) (a : Config) (x : Option Ended) (id : ℕ)
    (e : Entry) → entry_at es id ≡ Some e → e.may_cancel ≡ true → u ≡ left id t
    → KeepsAll None [] es ids t q a x (set_value (is_at (nat_cmp id)) es (spent e)) ids u q a x
cancelled_as es ids t u q a x id e there may to = Kept
    (untouched_set es id (spent e) (inl (sym (ap own_in there)))) (left_set es id (spent e) (inl (sym (ap theirs_in there))))
    (goes_as_known es ids q id e (spent e) there refl refl) refl (λ n. n)
    (λ n s. lasts_set None es q id (spent e) (ap status_in there) (inr (sym (ap own_in there), sym (ap reads_in there))))
    (λ n s. subst (λ (v : Table). Worked (book_at es ids t) (book_at (set_value (is_at (nat_cmp id)) es (spent e)) ids v))
    (sym to)
    (worked_does (Leaves id) (book_at es ids t) (book_at (set_value (is_at (nat_cmp id)) es (spent e)) ids (left id t))
    (leaves_step es ids t id e there may)))

pub keeps_cancelled : (es : List (ℕ × Entry)) (ids : Ids) (c d : Shared) (queue before after : List ℕ) (q : List Event)
    (a : Config) (x : Option Ended) (id : ℕ) (e : Entry) → entry_at es id ≡ Some e → e.may_cancel ≡ true
    → d ≡ after_cancel c.decoder id c → after ≡ with_told before (due_cancel c.decoder id)
    → KeepsAll None [] es ids (table_by c (queue ++ before)) q a x (set_value (is_at (nat_cmp id)) es (spent e)) ids
    (table_by d (queue ++ after)) q a x
keeps_cancelled es ids c d queue before after q a x id e there may h g =
    cancelled_as es ids (table_by c (queue ++ before)) (table_by d (queue ++ after)) q a x id e there may
    (does_leave id c d queue before after h g)

-- ---- insertions are counted

counted_as : (es : List (ℕ × Entry)) (ids : Ids) (t u : Table) (q : List Event) (a : Config) (x : Option Ended)
    → u ≡ counted t → KeepsAll None [] es ids t q a x es ids u q a x
counted_as es ids t u q a x to = Kept (untouched_refl es) (left_itself es) (goes_refl es ids q) refl (λ n. n)
    (λ n s. lasts_refl None es q)
    (λ n s. worked_does Counts (book_at es ids t) (book_at es ids u) (record {
      does = record { says = to; moved = λ k. moved_refl (was ids k) (theirs_at es k) };
      stays = record { seen = λ k h. h; fewer = λ k h. h };
    }))

pub keeps_counted : (es : List (ℕ × Entry)) (ids : Ids) (c d : Shared) (queue before after : List ℕ) (q : List Event)
    (a : Config) (x : Option Ended) → d ≡ after_inserts c.decoder c → after ≡ with_told before (due_inserts c.decoder)
    → KeepsAll None [] es ids (table_by c (queue ++ before)) q a x es ids (table_by d (queue ++ after)) q a x
keeps_counted es ids c d queue before after q a x h g =
    counted_as es ids (table_by c (queue ++ before)) (table_by d (queue ++ after)) q a x
    (does_count c d queue before after h g)
