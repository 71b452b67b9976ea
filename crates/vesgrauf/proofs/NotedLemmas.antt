-- The streams of sessions, in the order in which the set keeps them.
use Rattle.std.proofs.Common.{◌≡◌, ◌⊎◌, ℕ, ◌<◌, ◌≤◌, ◌||◌, ◌&&◌, ◌==◌, not, cond, inl, inr, Bool, true, false, List, [], ◌∷◌, Option, Some, None, Bor, refl, ap, ◌∙◌, sym, subst, arith}
use Rattle.std.specs.Prelude.{IfSome, nat_lt}
use Rattle.std.specs.Option.{option_copied}
use Rattle.std.specs.declared.cmp.Ordering.{Ordering}
use Rattle.std.specs.declared.cmp.Ordering.TheVariants.{Less, Equal, Greater}
use Rattle.std.specs.Ordering.{is_lt, is_gt, is_eq}
use Rattle.std.specs.BTreeSet.{BTreeSet, contains, IsKeyInRange, IsKeyRangeOf, Updates}
use Rattle.std.specs.Map.Iter.{TakesFirst}
use Rattle.std.specs.declared.ops.Bound.TheVariants.{Included, Excluded, Unbounded}
use Rattle.std.specs.List.{list_any, slice_get}
use Rattle.std.proofs.lemmas.Bool.{cases_order}
use Rattle.vesgrauf.specs.declared.connection.ids.Ids.{Ids}
use Rattle.vesgrauf.specs.declared.entry.Member.{Member}
use Rattle.vesgrauf.specs.contracts.entry.MemberOrd.TheImpl as ord
use Rattle.vesgrauf.specs.Members.{is_same, is_noted, is_member, Notes, Drops, IsNextMember, IsFirstNoted, id_of_session}

-- by the session, and of one session by the stream
abbrev pub before : Member → Member → Bool
before a b = nat_lt a.session b.session || (a.session == b.session && nat_lt a.id b.id)

lt_by : (a b : Member) → (a.session ≡ b.session) ⊎ ((a.session < b.session) ⊎ (b.session < a.session))
    → (a.id ≡ b.id) ⊎ ((a.id < b.id) ⊎ (b.id < a.id)) → is_lt (ord.cmp-value.it a b) ≡ before a b
lt_by a b (inl c) (inl i) = grind (arith, c, i)
lt_by a b (inl c) (inr (inl i)) = grind (arith, c, i)
lt_by a b (inl c) (inr (inr i)) = grind (arith, c, i)
lt_by a b (inr (inl c)) i = grind (arith, c)
lt_by a b (inr (inr c)) i = grind (arith, c)

lt_before : (a b : Member) → is_lt (ord.cmp-value.it a b) ≡ before a b
lt_before a b = lt_by a b (cases_order a.session b.session) (cases_order a.id b.id)

gt_by : (a b : Member) → (a.session ≡ b.session) ⊎ ((a.session < b.session) ⊎ (b.session < a.session))
    → (a.id ≡ b.id) ⊎ ((a.id < b.id) ⊎ (b.id < a.id)) → is_gt (ord.cmp-value.it a b) ≡ before b a
gt_by a b (inl c) (inl i) = grind (arith, c, i)
gt_by a b (inl c) (inr (inl i)) = grind (arith, c, i)
gt_by a b (inl c) (inr (inr i)) = grind (arith, c, i)
gt_by a b (inr (inl c)) i = grind (arith, c)
gt_by a b (inr (inr c)) i = grind (arith, c)

gt_before : (a b : Member) → is_gt (ord.cmp-value.it a b) ≡ before b a
gt_before a b = gt_by a b (cases_order a.session b.session) (cases_order a.id b.id)

eq_by : (a b : Member) → (a.session ≡ b.session) ⊎ ((a.session < b.session) ⊎ (b.session < a.session))
    → (a.id ≡ b.id) ⊎ ((a.id < b.id) ⊎ (b.id < a.id)) → is_eq (ord.cmp-value.it a b) ≡ is_same a b
eq_by a b (inl c) (inl i) = grind (arith, c, i)
eq_by a b (inl c) (inr (inl i)) = grind (arith, c, i)
eq_by a b (inl c) (inr (inr i)) = grind (arith, c, i)
eq_by a b (inr (inl c)) i = grind (arith, c)
eq_by a b (inr (inr c)) i = grind (arith, c)

eq_same : (a b : Member) → is_eq (ord.cmp-value.it a b) ≡ is_same a b
eq_same a b = eq_by a b (cases_order a.session b.session) (cases_order a.id b.id)

any_same : (P Q : Member → Bool) → ((k : Member) → P k ≡ Q k) → (ks : List Member) → list_any P ks ≡ list_any Q ks
any_same P Q e [] = refl
any_same P Q e (k ∷ ks) = rw (e k, any_same P Q e ks) refl

-- ---- the set

pub has_noted : (s : BTreeSet Member) (m : Member) → contains ord.cmp-value.it s m ≡ is_noted s.keys m
has_noted s m = any_same (λ k. is_eq (ord.cmp-value.it m k)) (is_same m) (eq_same m) s.keys

noted_by : (b c : Bool) (m k : Member) (s : BTreeSet Member) → b ≡ is_same m k
    → cond b true (contains ord.cmp-value.it s k) ≡ (is_same m k || is_noted s.keys k)
noted_by true c m k s e = rw (sym e) refl
noted_by false c m k s e = rw (sym e, has_noted s k) refl

-- a key is inserted
pub noted_added : (s t : BTreeSet Member) (m k : Member) → Updates ord.cmp-value.it s t m true
    → is_noted t.keys k ≡ (is_same m k || is_noted s.keys k)
noted_added s t m k up = sym (has_noted t k) ∙ up.0 k ∙ noted_by (is_eq (ord.cmp-value.it m k)) true m k s (eq_same m k)

dropped_by : (b : Bool) (m k : Member) (s : BTreeSet Member) → b ≡ is_same m k
    → cond b false (contains ord.cmp-value.it s k) ≡ (not (is_same m k) && is_noted s.keys k)
dropped_by true m k s e = rw (sym e) refl
dropped_by false m k s e = rw (sym e, has_noted s k) refl

-- a key is removed
pub noted_dropped : (s t : BTreeSet Member) (m k : Member) → Updates ord.cmp-value.it s t m false
    → is_noted t.keys k ≡ (not (is_same m k) && is_noted s.keys k)
noted_dropped s t m k up = sym (has_noted t k) ∙ up.0 k ∙ dropped_by (is_eq (ord.cmp-value.it m k)) m k s (eq_same m k)

-- of the IDs of a connection
pub ids_note : (ids : Ids) (s : BTreeSet Member) (session id : ℕ)
    → Updates ord.cmp-value.it ids.members s (record { session = session; id = id }) true
    → Notes session id ids (record ids { members = s })
ids_note ids s session id up = record {
  others = refl;
  members = λ n k. noted_added ids.members s (record { session = session; id = id }) (record { session = n; id = k }) up;
}

pub ids_drop : (ids : Ids) (s : BTreeSet Member) (session id : ℕ)
    → Updates ord.cmp-value.it ids.members s (record { session = session; id = id }) false
    → Drops session id ids (record ids { members = s })
ids_drop ids s session id up = record {
  others = refl;
  members = λ n k. noted_dropped ids.members s (record { session = session; id = id }) (record { session = n; id = k }) up;
}

-- ---- the first of a session

is_less : (o : Ordering) → is_lt o ≡ true → o ≡ Less
is_less Less e = refl
is_less Equal e = cc e
is_less Greater e = cc e

from_start : (session k : ℕ) → before (record { session = session; id = k }) (record { session = session; id = 0 }) ≡ false
from_start session k = grind arith

above_is : (session id k : ℕ) → id < k
    → before (record { session = session; id = id }) (record { session = session; id = k }) ≡ true
above_is session id k h = grind (arith, h)

above_of : (m n : Member) → before m n ≡ true → n.session ≡ m.session → m.id < n.id
above_of m n h e = grind (arith, h, e)

-- what is at or after one of a session, and not after another one of it, is of it
within_from : (session j : ℕ) (m : Member) → before m (record { session = session; id = 0 }) ≡ false
    → before (record { session = session; id = j }) m ≡ false → (m.session ≡ session) × (m.id ≤ j)
within_from session j m low high = (grind (arith, low, high), grind (arith, low, high))

within_after : (session id j : ℕ) (m : Member) → before (record { session = session; id = id }) m ≡ true
    → before (record { session = session; id = j }) m ≡ false → (m.session ≡ session) × (m.id ≤ j)
within_after session id j m low high = (grind (arith, low, high), grind (arith, low, high))

pub first_from_is : (s : BTreeSet Member) (session : ℕ) (r : List Member) (o : Option (Bor Member)) (t : List Member)
    → IsKeyRangeOf ord.cmp-value.it (Included (record { session = session; id = 0 })) Unbounded s r
    → TakesFirst (λ (k : Bor Member). k.now) r o t → IsFirstNoted s.keys session None (option_copied o)
first_from_is s session r None t range (none, rest) = λ k above.
    let q : Member = record { session = session; id = k } in
    let first : Member = record { session = session; id = 0 } in
    sym (has_noted s q) ∙ range.5 none q (gt_before first q ∙ from_start session k, tt)
first_from_is s session r (Some k) t range taken =
    let first : Member = record { session = session; id = 0 } in
    let at : IsKeyInRange ord.cmp-value.it (Included first) Unbounded s k.now
    = subst (λ (z : List Member). IfSome (slice_get z 0) (IsKeyInRange ord.cmp-value.it (Included first) Unbounded s))
    taken range.1 in (
      sym (has_noted s k.now) ∙ at.1,
      (λ e. tt),
      (λ j above noted.
          let q : Member = record { session = session; id = j } in
          let le : is_gt (ord.cmp-value.it k.now q) ≡ false
          = subst (λ (z : List Member). IfSome (slice_get z 0) (λ x. is_gt (ord.cmp-value.it x q) ≡ false)) taken
          (range.2 q (gt_before first q ∙ from_start session j, tt) (has_noted s q ∙ noted)) in
          within_from session j k.now (sym (gt_before first k.now) ∙ at.0.0) (sym (gt_before k.now q) ∙ le)),
    )

pub first_after_is : (s : BTreeSet Member) (session id : ℕ) (r : List Member) (o : Option (Bor Member)) (t : List Member)
    → IsKeyRangeOf ord.cmp-value.it (Excluded (record { session = session; id = id })) Unbounded s r
    → TakesFirst (λ (k : Bor Member). k.now) r o t → IsFirstNoted s.keys session (Some id) (option_copied o)
first_after_is s session id r None t range (none, rest) = λ k above.
    let q : Member = record { session = session; id = k } in
    let last : Member = record { session = session; id = id } in
    sym (has_noted s q)
    ∙ range.5 none q (is_less (ord.cmp-value.it last q) (lt_before last q ∙ above_is session id k above), tt)
first_after_is s session id r (Some k) t range taken =
    let last : Member = record { session = session; id = id } in
    let at : IsKeyInRange ord.cmp-value.it (Excluded last) Unbounded s k.now
    = subst (λ (z : List Member). IfSome (slice_get z 0) (IsKeyInRange ord.cmp-value.it (Excluded last) Unbounded s))
    taken range.1 in
    let later : before last k.now ≡ true = sym (lt_before last k.now) ∙ ap is_lt at.0.0 in (
      sym (has_noted s k.now) ∙ at.1,
      (λ e. above_of last k.now later e),
      (λ j above noted.
          let q : Member = record { session = session; id = j } in
          let le : is_gt (ord.cmp-value.it k.now q) ≡ false
          = subst (λ (z : List Member). IfSome (slice_get z 0) (λ x. is_gt (ord.cmp-value.it x q) ≡ false)) taken
          (range.2 q (is_less (ord.cmp-value.it last q) (lt_before last q ∙ above_is session id j above), tt)
          (has_noted s q ∙ noted)) in
          within_after session id j k.now later (sym (gt_before k.now q) ∙ le)),
    )

same_number : (a b : ℕ) → (a == b) ≡ true → a ≡ b
same_number a b h = grind (arith, h)

other_number : (a b : ℕ) → a ≡ b → (a == b) ≡ true
other_number a b h = grind (arith, h)

not_noted : (b : Bool) → (b ≡ true → ⊥) → b ≡ false
not_noted true h = absurd (h refl)
not_noted false h = refl

next_by : (b : Bool) (ids : Ids) (session : ℕ) (after : Option ℕ) (m : Member) → (m.session == session) ≡ b
    → IsFirstNoted ids.members.keys session after (Some m)
    → IsNextMember ids session after (cond b (Some m.id) None)
next_by true ids session after m e first =
    let same : m.session ≡ session = same_number m.session session e in (
      first.1 same,
      subst (λ n. is_noted ids.members.keys (record { session = n; id = m.id }) ≡ true) same first.0,
      (λ k above noted. (first.2 k above noted).1),
    )
next_by false ids session after m e first = λ k above. not_noted (is_member ids session k)
    (λ noted. let bad : true ≡ false = sym (other_number m.session session (first.2 k above noted).0) ∙ e in cc)

-- the first member is the first that is noted, if that is of the session
pub next_is : (ids : Ids) (session : ℕ) (after : Option ℕ) (o : Option Member)
    → IsFirstNoted ids.members.keys session after o → IsNextMember ids session after (id_of_session session o)
next_is ids session after None first = first
next_is ids session after (Some m) first = next_by (m.session == session) ids session after m refl first
