-- What calls do for the own decoder stream, and on which streams: of steps that say nothing there.
use Rattle.std.proofs.Common.{◌≡◌, ◌⊎◌, ◌++◌, ℕ, List, [], ◌∷◌, Option, Some, None, Bool, true, false, cond, refl, inl, inr, sym, ap, subst, ◌∙◌}
use Rattle.std.specs.Ordering.{nat_cmp}
use Rattle.std.specs.Map.{set_value}
use Rattle.std.specs.BTreeMap.{is_at}
use Rattle.wtp_webtransport.specs.declared.stream.Stream.{Stream}
use Rattle.vesgrauf.specs.declared.connection.ids.Ids.{Ids}
use Rattle.vesgrauf.specs.declared.entry.Entry.{Entry}
use Rattle.vesgrauf.specs.Ids.{was}
use Rattle.vesgrauf.specs.Instructions.{Table, Deed}
use Rattle.vesgrauf.specs.Own.{entry_at}
use Rattle.vesgrauf.specs.Theirs.{Theirs, Gone, Unread, Turns, Still, theirs_in, theirs_at, IsLeft, IsTurned, Left}
use Rattle.vesgrauf.specs.Told.{Sets, AreOthers}
use Rattle.vesgrauf.specs.Works.{Book, book_at, may_in, may_leave, Continues, IsMoved, Stays, Rests, WorksBy, Worked}
use Rattle.vesgrauf.proofs.GoesLemmas.{set_sets, same_at, standing_of, standing_in, may_same}
use Rattle.vesgrauf.proofs.ReadsLemmas.{turns_trans}

-- ---- the state of a stream

pub continues_refl : (x : Theirs) → Continues x x
continues_refl Gone = refl
continues_refl (Unread bytes ended s) = Still refl

gone_continues : (x : Theirs) → Continues x Gone
gone_continues Gone = refl
gone_continues (Unread bytes ended s) = tt

continues_trans : (x y z : Theirs) → Continues x y → Continues y z → Continues x z
continues_trans Gone y z p q = subst (λ o. Continues o z) p q
continues_trans (Unread bytes ended s) y Gone p q = tt
continues_trans (Unread bytes ended s) Gone (Unread rest end t) p q = absurd (let bad : Unread rest end t ≡ Gone = q in cc)
continues_trans (Unread bytes ended s) (Unread more fin t) (Unread rest end u) p q = turns_trans s t u p q

turned_continues : (x y : Theirs) → IsTurned x y → Continues x y
turned_continues Gone y h = absurd h
turned_continues (Unread bytes ended s) y (t, turns, h) = subst (λ o. Continues (Unread bytes ended s) o) (sym h) turns

pub left_continues : (x y : Theirs) → IsLeft x y → Continues x y
left_continues x y (inl h) = subst (λ o. Continues x o) (sym h) (continues_refl x)
left_continues x y (inr (inl h)) = subst (λ o. Continues x o) (sym h) (gone_continues x)
left_continues x y (inr (inr h)) = turned_continues x y h

pub moved_refl : (seen : Bool) (x : Theirs) → IsMoved seen x x
moved_refl seen x = inl (continues_refl x)

moved_trans : (b c : Bool) (x y z : Theirs) → (b ≡ true → c ≡ true) → IsMoved b x y → IsMoved c y z → IsMoved b x z
moved_trans b c x y z h (inr n) q = inr n
moved_trans b c x y z h (inl p) (inl q) = inl (continues_trans x y z p q)
moved_trans true c x y z h (inl p) (inr n) = absurd (let on : c ≡ true = h refl in let bad : true ≡ false = sym on ∙ n in cc)
moved_trans false c x y z h (inl p) (inr n) = inr refl

-- ---- steps

pub stays_refl : (b : Book) → Stays b b
stays_refl b = record { seen = λ id h. h; fewer = λ id h. h }

pub stays_trans : {b c d : Book} → Stays b c → Stays c d → Stays b d
stays_trans p q = record { seen = λ id h. q.seen id (p.seen id h); fewer = λ id h. p.fewer id (q.fewer id h) }

pub rests_refl : (b : Book) → Rests b b
rests_refl b = record { table = refl; moved = λ id. inl (continues_refl (theirs_at b.streams id)); stays = stays_refl b }

rests_trans : (b c d : Book) → Rests b c → Rests c d → Rests b d
rests_trans b c d p q = record {
  table = q.table ∙ p.table;
  moved = λ id. moved_trans (was b.ids id) (was c.ids id) (theirs_at b.streams id) (theirs_at c.streams id)
      (theirs_at d.streams id) (p.stays.seen id) (p.moved id) (q.moved id);
  stays = stays_trans p.stays q.stays;
}

rests_works : (xs : List Deed) (b c d : Book) → Rests b c → WorksBy xs c d → WorksBy xs b d
rests_works [] b c d p w = rests_trans b c d p w
rests_works (x ∷ xs) b c d p (m, n, r, s, w) = (m, n, rests_trans b c m p r, s, w)

works_join : (xs ys : List Deed) (b c d : Book) → WorksBy xs b c → WorksBy ys c d → WorksBy (xs ++ ys) b d
works_join [] ys b c d p q = rests_works ys b c d p q
works_join (x ∷ xs) ys b c d (m, n, r, s, w) q = (m, n, r, s, works_join xs ys n c d w q)

pub worked_rests : (b c : Book) → Rests b c → Worked b c
worked_rests b c h = record { deeds = []; works = h }

pub worked_refl : (b : Book) → Worked b b
worked_refl b = worked_rests b b (rests_refl b)

pub worked_trans : (b c d : Book) → Worked b c → Worked c d → Worked b d
worked_trans b c d p q =
    record { deeds = p.deeds ++ q.deeds; works = works_join p.deeds q.deeds b c d p.works q.works }

-- ---- nothing is said

-- only IDs are seen
pub worked_seen : (es : List (ℕ × Entry)) (ids jds : Ids) (t : Table) → ((id : ℕ) → was ids id ≡ true → was jds id ≡ true)
    → Worked (book_at es ids t) (book_at es jds t)
worked_seen es ids jds t seen = worked_rests (book_at es ids t) (book_at es jds t) (record {
  table = refl;
  moved = λ id. inl (continues_refl (theirs_at es id));
  stays = record { seen = seen; fewer = λ id h. seen_fewer (was ids id) (was jds id) (entry_at es id) (seen id) h };
})
  where
    seen_fewer : (b c : Bool) (o : Option Entry) → (b ≡ true → c ≡ true) → may_in c o ≡ true → may_in b o ≡ true
    seen_fewer b c (Some e) h m = m
    seen_fewer false c None h m = refl
    seen_fewer true true None h m = m
    seen_fewer true false None h m = absurd (let bad : false ≡ true = h refl in cc)

pub fewer_by : (b : Bool) (seen : Bool) (w o : Option Entry) → (b ≡ true → may_in seen w ≡ true → may_in seen o ≡ true)
    → may_in seen (cond b w o) ≡ true → may_in seen o ≡ true
fewer_by true seen w o h m = h refl m
fewer_by false seen w o h m = m

moved_by : (b : Bool) (seen : Bool) (w o : Option Entry) → (b ≡ true → Continues (theirs_in o) (theirs_in w))
    → IsMoved seen (theirs_in o) (theirs_in (cond b w o))
moved_by true seen w o h = inl (h refl)
moved_by false seen w o h = inl (continues_refl (theirs_in o))

worked_by : (es fs : List (ℕ × Entry)) (ids : Ids) (t : Table) (id : ℕ) (w : Option Entry) → Sets id w es fs
    → (may_in (was ids id) w ≡ true → may_in (was ids id) (entry_at es id) ≡ true)
    → Continues (theirs_at es id) (theirs_in w) → Worked (book_at es ids t) (book_at fs ids t)
worked_by es fs ids t id w sets may moved = worked_rests (book_at es ids t) (book_at fs ids t) (record {
  table = refl;
  moved = λ k. subst (λ o. IsMoved (was ids k) (theirs_at es k) (theirs_in o)) (sym (sets k))
      (moved_by (is_at (nat_cmp id) k) (was ids k) w (entry_at es k)
      (λ at. subst (λ n. Continues (theirs_at es n) (theirs_in w)) (sym (same_at id k at)) moved));
  stays = record {
    seen = λ k h. h;
    fewer = λ k h. fewer_by (is_at (nat_cmp id) k) (was ids k) w (entry_at es k)
        (λ at. subst (λ n. may_in (was ids n) w ≡ true → may_in (was ids n) (entry_at es n) ≡ true)
        (sym (same_at id k at)) may)
        (subst (λ o. may_in (was ids k) o ≡ true) (sets k) h);
  };
})

-- one stream changes, or is forgotten: it may be cancelled only if it might be, and nothing of it is read
pub worked_sets : (es fs : List (ℕ × Entry)) (ids : Ids) (t : Table) (id : ℕ) (w : Option Entry) → Sets id w es fs
    → (may_in (was ids id) w ≡ true → may_in (was ids id) (entry_at es id) ≡ true)
    → IsLeft (theirs_at es id) (theirs_in w) → Worked (book_at es ids t) (book_at fs ids t)
worked_sets es fs ids t id w sets may left =
    worked_by es fs ids t id w sets may (left_continues (theirs_at es id) (theirs_in w) left)

pub may_as : (seen : Bool) (e f : Entry) (o : Option Entry) → o ≡ Some e → f.may_cancel ≡ e.may_cancel
    → may_in seen (Some f) ≡ true → may_in seen o ≡ true
may_as seen e f o there same h = ap (λ x. may_in seen x) there ∙ (sym same ∙ h)

-- one changes that may be cancelled if it might be
pub worked_at : (es : List (ℕ × Entry)) (ids : Ids) (t : Table) (id : ℕ) (e f : Entry) → entry_at es id ≡ Some e
    → f.may_cancel ≡ e.may_cancel → IsLeft (theirs_at es id) (theirs_in (Some f))
    → Worked (book_at es ids t) (book_at (set_value (is_at (nat_cmp id)) es f) ids t)
worked_at es ids t id e f there may left =
    worked_sets es (set_value (is_at (nat_cmp id)) es f) ids t id (Some f) (set_sets es id e f there)
    (may_as (was ids id) e f (entry_at es id) there may) left

-- one whose state goes on
pub worked_moves : (es : List (ℕ × Entry)) (ids : Ids) (t : Table) (id : ℕ) (e f : Entry) → entry_at es id ≡ Some e
    → f.may_cancel ≡ e.may_cancel → Continues (theirs_in (Some e)) (theirs_in (Some f))
    → Worked (book_at es ids t) (book_at (set_value (is_at (nat_cmp id)) es f) ids t)
worked_moves es ids t id e f there may moved =
    worked_by es (set_value (is_at (nat_cmp id)) es f) ids t id (Some f) (set_sets es id e f there)
    (may_as (was ids id) e f (entry_at es id) there may)
    (subst (λ o. Continues (theirs_in o) (theirs_in (Some f))) (sym there) moved)

set_by : (es : List (ℕ × Entry)) (ids : Ids) (t : Table) (id : ℕ) (f : Entry) (o : Option Entry) → entry_at es id ≡ o
    → standing_in o ≡ Some (standing_of f) → IsLeft (theirs_at es id) (theirs_in (Some f))
    → Worked (book_at es ids t) (book_at (set_value (is_at (nat_cmp id)) es f) ids t)
set_by es ids t id f None there h left = absurd (let bad : None ≡ Some (standing_of f) = h in cc)
set_by es ids t id f (Some e) there h left = worked_at es ids t id e f there (sym (may_same e f h)) left

pub worked_set : (es : List (ℕ × Entry)) (ids : Ids) (t : Table) (id : ℕ) (f : Entry)
    → IsLeft (theirs_at es id) (theirs_in (Some f)) → standing_in (entry_at es id) ≡ Some (standing_of f)
    → Worked (book_at es ids t) (book_at (set_value (is_at (nat_cmp id)) es f) ids t)
worked_set es ids t id f left h = set_by es ids t id f (entry_at es id) refl h left

-- one is forgotten that was seen
pub worked_gone : (es fs : List (ℕ × Entry)) (ids : Ids) (t : Table) (id : ℕ) → Sets id None es fs → was ids id ≡ true
    → Worked (book_at es ids t) (book_at fs ids t)
worked_gone es fs ids t id sets seen = worked_sets es fs ids t id None sets
    (λ h. absurd (let bad : false ≡ true = subst (λ b. may_in b None ≡ true) seen h in cc)) (inr (inl refl))

-- ---- a stream begins

new_moved : (b seen : Bool) (x y : Option Entry) → (b ≡ true → seen ≡ false) → (b ≡ false → y ≡ x)
    → IsMoved seen (theirs_in x) (theirs_in y)
new_moved true seen x y h g = inr (h refl)
new_moved false seen x y h g = inl (subst (λ o. Continues (theirs_in x) (theirs_in o)) (sym (g refl)) (continues_refl (theirs_in x)))

new_fewer : (b seen : Bool) (x y : Option Entry) → (b ≡ true → seen ≡ false) → (b ≡ true → x ≡ None) → (b ≡ false → y ≡ x)
    → may_in seen y ≡ true → may_in seen x ≡ true
new_fewer true seen x y h n g m = subst (λ o. may_in seen o ≡ true) (sym (n refl)) (ap (λ s. may_in s None) (h refl))
new_fewer false seen x y h n g m = subst (λ o. may_in seen o ≡ true) (g refl) m

-- there was none with its ID
pub worked_new : (es fs : List (ℕ × Entry)) (ids : Ids) (t : Table) (id : ℕ) → was ids id ≡ false → entry_at es id ≡ None
    → AreOthers id es fs → Worked (book_at es ids t) (book_at fs ids t)
worked_new es fs ids t id unseen none others = worked_rests (book_at es ids t) (book_at fs ids t) (record {
  table = refl;
  moved = λ k. new_moved (is_at (nat_cmp id) k) (was ids k) (entry_at es k) (entry_at fs k)
      (λ at. ap (λ n. was ids n) (same_at id k at) ∙ unseen) (others k);
  stays = record {
    seen = λ k h. h;
    fewer = λ k h. new_fewer (is_at (nat_cmp id) k) (was ids k) (entry_at es k) (entry_at fs k)
        (λ at. ap (λ n. was ids n) (same_at id k at) ∙ unseen) (λ at. ap (λ n. entry_at es n) (same_at id k at) ∙ none)
        (others k) h;
  };
})
