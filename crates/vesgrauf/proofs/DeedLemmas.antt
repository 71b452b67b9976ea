-- What calls do for the own decoder stream over whole runs.
use Rattle.std.proofs.Common.{◌≡◌, ◌≤◌, ◌⊎◌, ◌+◌, ◌==◌, ◌++◌, ℕ, zero, suc, List, [], ◌∷◌, Bool, true, false, refl, arith, inl, inr, sym, ap, subst, ◌∙◌}
use Rattle.vesgrauf.specs.declared.connection.Connection.{Connection}
use Rattle.wtp_dynamic.specs.declared.acknowledgment.Acknowledgment.{Acknowledgment}
use Rattle.vesgrauf.specs.Ids.{was}
use Rattle.vesgrauf.specs.Instructions.{Table, table_of, Deed, Reads, Leaves, Counts, Does, Deeds, AreSaid, bytes_of_all, Turn, Works, Takes, Turns, all_deeds, all_taken}
use Rattle.vesgrauf.specs.Own.{entry_at}
use Rattle.vesgrauf.specs.State.{is_over}
use Rattle.vesgrauf.specs.Told.{Sound}
use Rattle.vesgrauf.specs.Works.{Book, book_of, may_in, may_leave, Stays, Step, DoesBy, WorksBy, Worked, Unless, TakesOn, IsCall, IsWork, IsTake, Leads, Calls, one_if, leaves_of, count_left}
use Rattle.vesgrauf.proofs.InstructionLemmas.{turns_in_order}

-- ---- deeds of the table

step_does : (x : Deed) (b c : Book) → DoesBy x b c → Does x b.table c.table
step_does (Reads id) b c h = h.says
step_does (Leaves id) b c h = h.says
step_does Counts b c h = h.says

deeds_from : (xs : List Deed) (t m u : Table) → m ≡ t → Deeds xs m u → Deeds xs t u
deeds_from xs t m u h d = subst (λ z. Deeds xs z u) h d

pub works_deeds : (xs : List Deed) (b c : Book) → WorksBy xs b c → Deeds xs b.table c.table
works_deeds [] b c w = w.table
works_deeds (x ∷ xs) b c (m, n, r, s, w) =
    deeds_from (x ∷ xs) b.table m.table c.table r.table (n.table, step_does x m n s.does, works_deeds xs n c w)

pub leads_turns : (ts : List Turn) (b c : Book) → Leads ts b c → Turns ts b.table c.table
leads_turns [] b c h = ap (λ z. z.table) h
leads_turns (Works xs ∷ ts) b c (m, w, l) = (m.table, works_deeds xs b m w, leads_turns ts m c l)
leads_turns (Takes bytes ∷ ts) b c (m, w, l) = (m.table, w.took, leads_turns ts m c l)

-- ---- a stream is cancelled once

zero_plus : (n : ℕ) → 0 + n ≡ n
zero_plus n = grind arith

-- it is not, and may not be if it might not; or it is, might be, and may not be again
abbrev IsOnce : ℕ → Bool → Bool → Type 0
IsOnce n b c = ((n ≡ 0) × (c ≡ true → b ≡ true)) ⊎ ((n ≡ 1) × (b ≡ true) × (c ≡ false))

once_join : (n m : ℕ) (a b c : Bool) → IsOnce n a b → IsOnce m b c → IsOnce (n + m) a c
once_join n m a b c (inl (p, q)) (inl (r, s)) = inl (omega (arith, p, r), λ h. q (s h))
once_join n m a b c (inl (p, q)) (inr (r, s, t)) = inr (omega (arith, p, r), q s, t)
once_join n m a b true (inr (p, q, t)) (inl (r, s)) =
    absurd (let on : b ≡ true = s refl in let bad : true ≡ false = sym on ∙ t in cc)
once_join n m a b false (inr (p, q, t)) (inl (r, s)) = inr (omega (arith, p, r), q, refl)
once_join n m a b c (inr (p, q, t)) (inr (r, s, v)) = absurd (let bad : true ≡ false = sym s ∙ t in cc)

stays_once : (id : ℕ) (b c : Book) → Stays b c → IsOnce 0 (may_leave b id) (may_leave c id)
stays_once id b c s = inl (refl, s.fewer id)

leaves_by : (t : Bool) (n id : ℕ) (b c : Book) → (n == id) ≡ t → may_leave b n ≡ true → may_leave c n ≡ false → Stays b c
    → IsOnce (one_if t) (may_leave b id) (may_leave c id)
leaves_by true n id b c at may once s =
    let same : n ≡ id = grind (arith, at) in
    inr (refl, subst (λ k. may_leave b k ≡ true) same may, subst (λ k. may_leave c k ≡ false) same once)
leaves_by false n id b c at may once s = stays_once id b c s

step_once : (x : Deed) (id : ℕ) (b c : Book) → Step x b c → IsOnce (leaves_of x id) (may_leave b id) (may_leave c id)
step_once (Reads n) id b c s = stays_once id b c s.stays
step_once (Leaves n) id b c s = leaves_by (n == id) n id b c refl s.does.may s.does.once s.stays
step_once Counts id b c s = stays_once id b c s.stays

works_once : (xs : List Deed) (id : ℕ) (b c : Book) → WorksBy xs b c
    → IsOnce (count_left xs id) (may_leave b id) (may_leave c id)
works_once [] id b c w = stays_once id b c w.stays
works_once (x ∷ xs) id b c (m, n, r, s, w) = subst (λ k. IsOnce k (may_leave b id) (may_leave c id))
    (zero_plus (count_left (x ∷ xs) id))
    (once_join 0 (count_left (x ∷ xs) id) (may_leave b id) (may_leave m id) (may_leave c id) (stays_once id b m r.stays)
    (once_join (leaves_of x id) (count_left xs id) (may_leave m id) (may_leave n id) (may_leave c id)
    (step_once x id m n s) (works_once xs id n c w)))

count_join : (xs ys : List Deed) (id : ℕ) → count_left (xs ++ ys) id ≡ count_left xs id + count_left ys id
count_join [] ys id = sym (zero_plus (count_left ys id))
count_join (x ∷ xs) ys id =
    let h : count_left (xs ++ ys) id ≡ count_left xs id + count_left ys id = count_join xs ys id in
    omega (arith, h)

takes_once : (bytes : List ℕ) (id : ℕ) (b c : Book) → TakesOn bytes b c → IsOnce 0 (may_leave b id) (may_leave c id)
takes_once bytes id b c t = inl (
  refl,
  λ h.
      ap (λ k. may_in (was k id) (entry_at b.streams id)) (sym t.ids)
      ∙ (ap (λ k. may_in (was c.ids id) (entry_at k id)) (sym t.streams) ∙ h),
)

leads_once : (ts : List Turn) (id : ℕ) (b c : Book) → Leads ts b c
    → IsOnce (count_left (all_deeds ts) id) (may_leave b id) (may_leave c id)
leads_once [] id b c h = inl (refl, λ k. ap (λ z. may_leave z id) (sym h) ∙ k)
leads_once (Works xs ∷ ts) id b c (m, w, l) =
    subst (λ k. IsOnce k (may_leave b id) (may_leave c id)) (sym (count_join xs (all_deeds ts) id))
    (once_join (count_left xs id) (count_left (all_deeds ts) id) (may_leave b id) (may_leave m id) (may_leave c id)
    (works_once xs id b m w) (leads_once ts id m c l))
leads_once (Takes bytes ∷ ts) id b c (m, w, l) = subst (λ k. IsOnce k (may_leave b id) (may_leave c id))
    (zero_plus (count_left (all_deeds ts) id))
    (once_join 0 (count_left (all_deeds ts) id) (may_leave b id) (may_leave m id) (may_leave c id)
    (takes_once bytes id b m w) (leads_once ts id m c l))

once_most : (n : ℕ) (b c : Bool) → IsOnce n b c → n ≤ 1
once_most n b c (inl (h, g)) = omega (arith, h)
once_most n b c (inr (h, g, k)) = omega (arith, h)

pub cancelled_once : (ts : List Turn) (b c : Book) → Leads ts b c → (id : ℕ) → count_left (all_deeds ts) id ≤ 1
cancelled_once ts b c h id =
    once_most (count_left (all_deeds ts) id) (may_leave b id) (may_leave c id) (leads_once ts id b c h)

pub not_twice : (id : ℕ) (b c : Book) → WorksBy (Leaves id ∷ Leaves id ∷ []) b c → ⊥
not_twice id b c w =
    let two : count_left (Leaves id ∷ Leaves id ∷ []) id ≤ 1 =
    once_most (count_left (Leaves id ∷ Leaves id ∷ []) id) (may_leave b id) (may_leave c id)
    (works_once (Leaves id ∷ Leaves id ∷ []) id b c w) in
    twice (id == id) (itself id) two
  where
    itself : (n : ℕ) → (n == n) ≡ true
    itself n = grind arith

    twice : (t : Bool) → t ≡ true → one_if t + (one_if t + 0) ≤ 1 → ⊥
    twice true h g = omega (arith, g)
    twice false h g = let bad : false ≡ true = h in cc

pub not_again : (id : ℕ) (b c : Book) → may_leave b id ≡ false → WorksBy (Leaves id ∷ []) b c → ⊥
not_again id b c n (m, k, r, s, w) =
    let on : may_leave b id ≡ true = r.stays.fewer id s.does.may in let bad : true ≡ false = sym on ∙ n in cc

-- ---- runs

call_leads : (c m : Connection) (d : Book) (ts : List Turn) → Sound c.streams.entries c.ids → is_over m ≡ false → IsCall c m
    → Leads ts (book_of m) d → (us : List Turn) × Leads us (book_of c) d
call_leads c m d ts s lasts (IsWork (Unless ends h)) l =
    let w : Worked (book_of c) (book_of m) = (h lasts s).1 in (Works w.deeds ∷ ts, (book_of m, w.works, l))
call_leads c m d ts s lasts (IsTake bytes t) l = (Takes bytes ∷ ts, (book_of m, t, l))

sound_as : (b c : Book) → c.streams ≡ b.streams → c.ids ≡ b.ids → Sound b.streams b.ids → Sound c.streams c.ids
sound_as b c h g s = subst (λ k. Sound c.streams k) (sym g) (subst (λ k. Sound k b.ids) (sym h) s)

call_sound : (c m : Connection) → is_over m ≡ false → IsCall c m → Sound c.streams.entries c.ids
    → Sound m.streams.entries m.ids
call_sound c m lasts (IsWork (Unless ends h)) s = (h lasts s).0
call_sound c m lasts (IsTake bytes t) s = sound_as (book_of c) (book_of m) t.streams t.ids s

pub calls_lead : (n : ℕ) (c d : Connection) → Sound c.streams.entries c.ids → Calls n c d
    → (ts : List Turn) × Leads ts (book_of c) (book_of d)
calls_lead zero c d s h = ([], ap (λ x. book_of x) h)
calls_lead (suc n) c d s (m, lasts, call, rest) =
    let more = calls_lead n m d (call_sound c m lasts call s) rest in
    call_leads c m (book_of d) more.0 s lasts call more.1

pub calls_say : (n : ℕ) (c d : Connection) → Sound c.streams.entries c.ids → Calls n c d
    → (ts : List Turn) × Leads ts (book_of c) (book_of d)
    × ((id : ℕ) → count_left (all_deeds ts) id ≤ 1)
    × ((said : List Acknowledgment) × AreSaid (all_deeds ts) said
    × (all_taken ts ++ (table_of d).bytes ≡ (table_of c).bytes ++ bytes_of_all said))
calls_say n c d s h =
    let l = calls_lead n c d s h in (
      l.0,
      l.1,
      cancelled_once l.0 (book_of c) (book_of d) l.1,
      turns_in_order l.0 (table_of c) (table_of d) (leads_turns l.0 (book_of c) (book_of d) l.1),
    )
