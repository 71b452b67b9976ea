-- The index says where each ID is, whatever changes.
use Rattle.std.proofs.Common.{◌≡◌, ◌≢◌, ℕ, ◌+◌, false, cond, inl, inr, List, ◌∷◌, [], length, Option, None, Some, IsSome, refl, ap, sym, subst, ◌∙◌, arith, slice_get, slice_set, slice_index_or, nat_cmp, option_and_then, is_some, BTreeMap, btree_map_len}
use Rattle.std.specs.Map.{lookup, remove_entry}
use Rattle.std.specs.BTreeMap as tree
use Rattle.std.specs.BTreeMap.{is_at}
use Rattle.std.proofs.lemmas.Option.{get_or_from_slice_get}
use Rattle.vesgrauf_streams.specs.declared.slots.Slot.{Slot}
use Rattle.vesgrauf_streams.specs.declared.slots.Slot.TheVariants.{Free, Taken}
use Rattle.vesgrauf_streams.specs.Slots.{entries_in, id_in, value_in, id_at, value_at, refilled, IsFree, IsSame, IsIndex}
use Rattle.vesgrauf_streams.specs.Streams.{Streams, Updates, get, with_value}
use Rattle.vesgrauf_streams.proofs.PlaceLemmas.{same_id, true_or_false, other_id, not_other, of_some, apart_or_same, set_same, set_other, IsOnly, IsOther, found, missing, refill, emptied, others, counts, more_entries, more_ids}

len_new : (old : Option ℕ) (m n : ℕ) → old ≡ None → m ≡ n + cond (is_some old) 0 1 → m ≡ n + 1
len_new None m n e h = h
len_new (Some i) m n e h = cc e

module _ {V : Type 0} where
  -- the map of these slots
  abbrev pub streams : List (Slot V) → Streams V
  streams slots = record { entries = entries_in slots }

  pub taken_in : (o : Option (Slot V)) (id : ℕ) → id_in o ≡ Some id → (v : V) × (o ≡ Some (Taken id v))
  taken_in None id e = cc e
  taken_in (Some (Free n)) id e = cc e
  taken_in (Some (Taken k v)) id e = (v, ap (λ n. Some (Taken n v)) (of_some k id e))

  module _ (slots : List (Slot V)) (index : BTreeMap ℕ ℕ) (is : IsIndex slots index) where
    pub only : (i id : ℕ) → id_at slots i ≡ Some id → IsOnly slots i id
    only i id e j h = of_some j i (sym (is.there j id h) ∙ is.there i id e)

    pub taken : (i id : ℕ) → tree.get nat_cmp index id ≡ Some i → (v : V) × (slice_get slots i ≡ Some (Taken id v))
    taken i id e = taken_in (slice_get slots i) id (is.back id i e)

    -- a look-up in the entries finds what the slot has that the index names
    pub looks : (o : Option ℕ) (id : ℕ) → o ≡ tree.get nat_cmp index id
        → lookup (is_at (nat_cmp id)) (entries_in slots) ≡ option_and_then (value_at slots) o
    looks None id e = missing slots id (λ j h. cc (is.there j id h, e))
    looks (Some i) id e =
        let t = taken i id (sym e) in
        found slots i id t.0 t.1 (only i id (is.back id i (sym e))) ∙ sym (ap value_in t.1)

    -- no look-up finds what is not in the index, and what none finds is not in it
    pub absent : (id : ℕ) → lookup (is_at (nat_cmp id)) (entries_in slots) ≡ None → tree.get nat_cmp index id ≡ None
    absent id none = by (tree.get nat_cmp index id) refl
      where
        by : (o : Option ℕ) → o ≡ tree.get nat_cmp index id → tree.get nat_cmp index id ≡ None
        by None e = sym e
        by (Some i) e = absurd (cc (looks (Some i) id e, ap value_in (taken i id (sym e)).1, none))

    -- ---- a value is written

    ids_kept : (i id : ℕ) (v w : V) → slice_get slots i ≡ Some (Taken id v) → (j : ℕ)
        → id_at (slice_set slots i (Taken id w)) j ≡ id_at slots j
    ids_kept i id v w e j = elim (apart_or_same j i) [
      | inl same ↦ subst (λ (n : ℕ). id_at (slice_set slots i (Taken id w)) n ≡ id_at slots n) (sym same)
          (ap id_in (set_same slots i (Taken id v) (Taken id w) e) ∙ sym (ap id_in e))
      | inr apart ↦ ap id_in (set_other slots i j (Taken id w) apart)
    ]

    pub index_written : (i id : ℕ) (v w : V) → slice_get slots i ≡ Some (Taken id v)
        → IsIndex (slice_set slots i (Taken id w)) index
    index_written i id v w e = record {
      there = λ j q h. is.there j q (sym (ids_kept i id v w e j) ∙ h);
      back = λ q j h. ids_kept i id v w e j ∙ is.back q j h;
      counted = omega (arith, is.counted, counts slots i (Taken id v) (Taken id w) e);
    }

    -- ---- a slot is filled

    pub index_filled : (more : BTreeMap ℕ ℕ) (i id : ℕ) (v : V) → IsFree slots i
        → tree.Updates nat_cmp index more id (Some i)
        → tree.get nat_cmp index id ≡ None → btree_map_len more ≡ btree_map_len index + 1
        → IsIndex (slice_set slots i (Taken id v)) more
    index_filled more i id v free up none len = record {
      there = λ j q h. elim (apart_or_same j i) [
        | inl same ↦ subst (λ (n : ℕ). tree.get nat_cmp more n ≡ Some j)
            (of_some id q (sym (ap id_in (set_same slots i (Free free.0) (Taken id v) free.1)) ∙ subst
            (λ (n : ℕ). id_at (slice_set slots i (Taken id v)) n ≡ Some q) same h))
            (up.1 ∙ ap Some (sym same))
        | inr apart ↦
            let old : id_at slots j ≡ Some q = sym (ap id_in (set_other slots i j (Taken id v) apart)) ∙ h in
            up.2 q (other_id id q (λ e. cc (is.there j q old, none, ap (tree.get nat_cmp index) e))) ∙ is.there j q old
      ];
      back = λ q j h. elim (true_or_false (is_at (nat_cmp id) q)) [
        | inl same ↦
            let id_is : id ≡ q = same_id id q same in
            let j_is : i ≡ j = of_some i j (sym up.1 ∙ ap (tree.get nat_cmp more) id_is ∙ h) in
            subst (λ (n : ℕ). id_at (slice_set slots i (Taken id v)) n ≡ Some q) j_is
            (ap id_in (set_same slots i (Free free.0) (Taken id v) free.1) ∙ ap Some id_is)
        | inr other ↦
            let old : id_at slots j ≡ Some q = is.back q j (sym (up.2 q other) ∙ h) in
            ap id_in (set_other slots i j (Taken id v) (λ e. cc (old, ap id_in free.1))) ∙ old
      ];
      counted = omega (arith, is.counted, len, counts slots i (Free free.0) (Taken id v) free.1);
    }

    -- ---- a slot is emptied

    pub index_emptied : (less : BTreeMap ℕ ℕ) (i id n : ℕ) (v : V) → slice_get slots i ≡ Some (Taken id v)
        → tree.get nat_cmp index id ≡ Some i → tree.UpdatesBy nat_cmp (nat_cmp id) index less None
        → btree_map_len less + 1 ≡ btree_map_len index → IsIndex (slice_set slots i (Free n)) less
    index_emptied less i id n v e at up len = record {
      there = λ j q h. elim (apart_or_same j i) [
        | inl same ↦ absurd (cc (
          h,
          ap (id_at (slice_set slots i (Free n))) same,
          ap id_in
              (set_same slots i (Taken id v) (Free n) e),
        ))
        | inr apart ↦
            let old : id_at slots j ≡ Some q = sym (ap id_in (set_other slots i j (Free n) apart)) ∙ h in
            up.2 q (other_id id q (λ x. apart (of_some j i
            (sym (is.there j q old) ∙ ap (tree.get nat_cmp index) (sym x) ∙ at)))) ∙ is.there j q old
      ];
      back = λ q j h. elim (true_or_false (is_at (nat_cmp id) q)) [
        | inl same ↦ absurd (cc (h, up.1, ap (tree.get nat_cmp less) (same_id id q same)))
        | inr other ↦
            let old : id_at slots j ≡ Some q = is.back q j (sym (up.2 q other) ∙ h) in
            ap id_in (set_other slots i j (Free n) (λ x. not_other id q
            (of_some id q (sym (ap id_in e) ∙ ap (id_at slots) (sym x) ∙ old)) other)) ∙ old
      ];
      counted = omega (arith, is.counted, len, counts slots i (Taken id v) (Free n) e);
    }

  -- ---- what the entries are then

  pub updated : (slots : List (Slot V)) (i id : ℕ) (s t : Slot V) (w : Option V) → slice_get slots i ≡ Some s
      → ((q : ℕ) → id ≢ q → IsOther s q) → ((q : ℕ) → id ≢ q → IsOther t q)
      → lookup (is_at (nat_cmp id)) (entries_in (slice_set slots i t)) ≡ w
      → Updates (streams slots) (streams (slice_set slots i t)) id w
  updated slots i id s t w e a b own = (
    λ q. elim (true_or_false (is_at (nat_cmp id) q)) [
      | inl same ↦ rw same (subst (λ (n : ℕ). lookup (is_at (nat_cmp n)) (entries_in (slice_set slots i t)) ≡ w)
          (same_id id q same) own)
      | inr other ↦ rw other (keeps q other)
    ],
    own,
    keeps,
  )
    where
      keeps : (q : ℕ) → is_at (nat_cmp id) q ≡ false → get (streams (slice_set slots i t)) q ≡ get (streams slots) q
      keeps q other = others slots i q s t e (a q (λ x. not_other id q x other)) (b q (λ x. not_other id q x other))

  pub same_entries : (slots more : List (Slot V)) → IsSame slots more → entries_in more ≡ entries_in slots
  same_entries slots more (inl e) = ap entries_in e
  same_entries slots more (inr (n, e)) = ap entries_in e ∙ more_entries slots n

  pub same_index : (slots more : List (Slot V)) (index : BTreeMap ℕ ℕ) → IsSame slots more → IsIndex slots index
      → IsIndex more index
  same_index slots more index (inl e) is = subst (λ (l : List (Slot V)). IsIndex l index) (sym e) is
  same_index slots more index (inr (n, e)) is = subst (λ (l : List (Slot V)). IsIndex l index) (sym e) (record {
    there = λ j q h. is.there j q (sym (more_ids slots n j) ∙ h);
    back = λ q j h. more_ids slots n j ∙ is.back q j h;
    counted = is.counted ∙ ap length (sym (more_entries slots n));
  })

  -- ---- what is lent

  pub read_at : (slots : List (Slot V)) (i id : ℕ) (v : V) (r : Slot V) → slice_get slots i ≡ Some (Taken id v)
      → r ≡ slice_index_or slots i r → r ≡ Taken id v
  read_at slots i id v r e at = at ∙ get_or_from_slice_get slots i (Taken id v) r e

  pub lent : (slots : List (Slot V)) (index : BTreeMap ℕ ℕ) (i id : ℕ) (r : Slot V) → IsIndex slots index
      → tree.get nat_cmp index id ≡ Some i
      → r ≡ slice_index_or slots i r → (w : V)
      → streams (slice_set slots i (refilled r w)) ≡ with_value (streams slots) id w
  lent slots index i id r is e at w =
      let t = taken slots index is i id e in
      rw (read_at slots i id t.0 r t.1 at)
      (ap (λ (es : List (ℕ × V)). record { entries = es })
      (refill slots i id t.0 w t.1 (only slots index is i id (is.back id i e))))

  pub index_lent : (slots : List (Slot V)) (index : BTreeMap ℕ ℕ) (i id : ℕ) (r : Slot V) → IsIndex slots index
      → tree.get nat_cmp index id ≡ Some i
      → r ≡ slice_index_or slots i r → (w : V) → IsIndex (slice_set slots i (refilled r w)) index
  index_lent slots index i id r is e at w =
      let t = taken slots index is i id e in
      rw (read_at slots i id t.0 r t.1 at) (index_written slots index is i id t.0 w t.1)

  pub lent_value : (slots : List (Slot V)) (index : BTreeMap ℕ ℕ) (i id : ℕ) (r : Slot V) (v : V)
      → IsIndex slots index → tree.get nat_cmp index id ≡ Some i
      → r ≡ slice_index_or slots i r → value_in (Some r) ≡ Some v → Some v ≡ get (streams slots) id
  lent_value slots index i id r v is e at has =
      let t = taken slots index is i id e in
      sym has ∙ ap (λ s. value_in (Some s)) (read_at slots i id t.0 r t.1 at) ∙ sym (ap value_in t.1) ∙ sym
      (looks slots index is (Some i) id (sym e))

  pub lent_id : (slots : List (Slot V)) (index : BTreeMap ℕ ℕ) (i id : ℕ) (r : Slot V) → IsIndex slots index
      → tree.get nat_cmp index id ≡ Some i
      → r ≡ slice_index_or slots i r → IsSome (id_in (Some r))
  lent_id slots index i id r is e at =
      let t = taken slots index is i id e in
      rw (ap (λ s. id_in (Some s)) (read_at slots i id t.0 r t.1 at)) refl

  -- ---- what is removed

  pub removes : (slots : List (Slot V)) (index less : BTreeMap ℕ ℕ) (i id n : ℕ) → IsIndex slots index
      → tree.get nat_cmp index id ≡ Some i
      → tree.UpdatesBy nat_cmp (nat_cmp id) index less None → btree_map_len less + 1 ≡ btree_map_len index
      → Updates (streams slots) (streams (slice_set slots i (Free n))) id None
  removes slots index less i id n is e up len =
      let t = taken slots index is i id e in
      updated slots i id (Taken id t.0) (Free n) None t.1 (λ q ne h. ne (of_some id q h)) (λ q ne h. cc h)
      (looks (slice_set slots i (Free n)) less (index_emptied slots index is less i id n t.0 t.1 e up len) None id
      (sym up.1))

  pub index_without : (slots : List (Slot V)) (index less : BTreeMap ℕ ℕ) (i id n : ℕ) → IsIndex slots index
      → tree.get nat_cmp index id ≡ Some i
      → tree.UpdatesBy nat_cmp (nat_cmp id) index less None → btree_map_len less + 1 ≡ btree_map_len index
      → IsIndex (slice_set slots i (Free n)) less
  index_without slots index less i id n is e up len =
      let t = taken slots index is i id e in
      index_emptied slots index is less i id n t.0 t.1 e up len

  pub entries_without : (slots : List (Slot V)) (index : BTreeMap ℕ ℕ) (i id n : ℕ) → IsIndex slots index
      → tree.get nat_cmp index id ≡ Some i
      → entries_in (slice_set slots i (Free n)) ≡ remove_entry (is_at (nat_cmp id)) (entries_in slots)
  entries_without slots index i id n is e =
      let t = taken slots index is i id e in
      emptied slots i id n t.0 t.1 (only slots index is i id (is.back id i e))

  pub one_less : (slots : List (Slot V)) (index : BTreeMap ℕ ℕ) (i id n : ℕ) → IsIndex slots index
      → tree.get nat_cmp index id ≡ Some i
      → length (entries_in (slice_set slots i (Free n))) + 1 ≡ length (entries_in slots)
  one_less slots index i id n is e =
      let t = taken slots index is i id e in
      omega (arith, counts slots i (Taken id t.0) (Free n) t.1)

  pub none_removed : (id : ℕ) (es : List (ℕ × V)) → lookup (is_at (nat_cmp id)) es ≡ None
      → es ≡ remove_entry (is_at (nat_cmp id)) es
  none_removed id [] none = refl
  none_removed id (e ∷ es) none = elim (true_or_false (is_at (nat_cmp id) e.0)) [
    | inl same ↦ let n = rw same at none in absurd (cc n)
    | inr other ↦ rw other (ap (λ (l : List (ℕ × V)). e ∷ l) (none_removed id es (rw other at none)))
  ]

  pub no_update : (m : Streams V) (id : ℕ) → get m id ≡ None → Updates m m id None
  no_update m id none = (
    λ q. elim (true_or_false (is_at (nat_cmp id) q)) [
      | inl same ↦ rw same (subst (λ (n : ℕ). get m n ≡ None) (same_id id q same) none)
      | inr other ↦ rw other refl
    ],
    none,
    λ q other. refl,
  )

  -- ---- what is inserted

  pub index_same : (slots : List (Slot V)) (index more : BTreeMap ℕ ℕ) → more.entries ≡ index.entries
      → IsIndex slots index → IsIndex slots more
  index_same slots index more same is = record {
    there = λ j q h. ap (λ (es : List (ℕ × ℕ)). lookup (is_at (nat_cmp q)) es) same ∙ is.there j q h;
    back = λ q j h. is.back q j (sym (ap (λ (es : List (ℕ × ℕ)). lookup (is_at (nat_cmp q)) es) same) ∙ h);
    counted = ap length same ∙ is.counted;
  }

  pub inserts : (slots : List (Slot V)) (index more : BTreeMap ℕ ℕ) (i id : ℕ) (v : V) → IsIndex slots index
      → IsFree slots i
      → tree.Updates nat_cmp index more id (Some i) → tree.get nat_cmp index id ≡ None
      → btree_map_len more ≡ btree_map_len index + 1
      → Updates (streams slots) (streams (slice_set slots i (Taken id v))) id (Some v)
  inserts slots index more i id v is free up none len =
      updated slots i id (Free free.0) (Taken id v) (Some v) free.1 (λ q ne h. cc h) (λ q ne h. ne (of_some id q h))
      (looks (slice_set slots i (Taken id v)) more (index_filled slots index is more i id v free up none len)
      (Some i) id (sym up.1)
      ∙ ap value_in (set_same slots i (Free free.0) (Taken id v) free.1))

  pub one_more : (slots : List (Slot V)) (i id : ℕ) (v : V) → IsFree slots i
      → length (entries_in (slice_set slots i (Taken id v))) ≡ length (entries_in slots) + 1
  one_more slots i id v free = omega (arith, counts slots i (Free free.0) (Taken id v) free.1)

  module _ (slots more : List (Slot V)) (index next : BTreeMap ℕ ℕ) (same : IsSame slots more)
      (is : IsIndex slots index)
      (i id : ℕ) (v : V) (free : IsFree more i) (none : None ≡ get (streams slots) id)
      (up : tree.Updates nat_cmp index next id (Some i))
      (old : Option ℕ) (was : old ≡ tree.get nat_cmp index id)
      (len : btree_map_len next ≡ btree_map_len index + cond (is_some old) 0 1) where
    missing_before : tree.get nat_cmp index id ≡ None
    missing_before = absent slots index is id (sym none)

    longer : btree_map_len next ≡ btree_map_len index + 1
    longer = len_new old (btree_map_len next) (btree_map_len index) (was ∙ missing_before) len

    pub index_with : IsIndex (slice_set more i (Taken id v)) next
    index_with = index_filled more index (same_index slots more index same is) next i id v free up missing_before longer

    pub inserted : Updates (streams slots) (streams (slice_set more i (Taken id v))) id (Some v)
    inserted = subst (λ (es : List (ℕ × V)). Updates (record { entries = es })
        (streams (slice_set more i (Taken id v))) id (Some v)) (same_entries slots more same)
        (inserts more index next i id v (same_index slots more index same is) free up missing_before longer)

    pub longer_by_one : length (entries_in (slice_set more i (Taken id v))) ≡ length (entries_in slots) + 1
    longer_by_one = omega (arith, one_more more i id v free, ap length (same_entries slots more same))
