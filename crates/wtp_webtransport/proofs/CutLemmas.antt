-- The content of a session may be cut anywhere.
use Rattle.std.proofs.Common.{◌≡◌, ℕ, zero, suc, ◌+◌, ◌-◌, ◌*◌, ◌<◌, ◌≤◌, ◌==◌, cond, true, false, List, [], ◌∷◌, ◌++◌, length, take, drop, Option, Some, None, Ok, Err, refl, sym, ap, ◌∙◌, arith, inl, inr, ◌⊎◌, append_assoc, append-nil, length-append, length-drop}
use Rattle.std.proofs.lemmas.Bool.{cases_lt, lt-ltb, le-ltb, ne_eqb}
use Rattle.std.proofs.lemmas.List.{take-append-le, drop-append-le, take-append-drop}
use Rattle.std.proofs.Math.Seq.{take-append_seam, drop-append_seam, take-append-add, drop-append-add}
use Rattle.wtp_wire.specs.Settings.{pair_at}
use Rattle.wtp_wire.specs.Front.{EncodesPair}
use Rattle.wtp_wire.proofs.PairLemmas.{pair_at-begins, pair_at-encoded, pair_at-more}
use Rattle.wtp_wire.specs.declared.capsule.CapsuleError.TheVariants as capsule_error
use Rattle.wtp_webtransport.specs.declared.capsules.CapsuleType.{CapsuleType}
use Rattle.wtp_webtransport.specs.declared.capsules.Sort.{Sort}
use Rattle.wtp_webtransport.specs.declared.capsules.Sort.TheVariants.{Read, Skip, Refuse}
use Rattle.wtp_webtransport.specs.Capsules.{Found, Place, Head, Value, Skipping, between, skipping, place_by, value_taken, skip_taken, starts, sort_of, head_by, head_taken, Taken, taken_of, CapsuleIs, IsPlace, IsWithin}
use Rattle.wtp_webtransport.specs.Cuts.{Run, rests, breaks, followed, after_found, by_taken, run_within, run, IsProper}
use Rattle.wtp_webtransport.proofs.CapsuleLemmas.{no_pair, not_none}

-- ---- a step takes something

-- two numbers that are not complete in h end in what follows it
pub longer : (h x : List ℕ) (n v : ℕ) (rest : List ℕ)
    → pair_at h ≡ None
    → pair_at (h ++ x) ≡ Some ((n, v), rest)
    → length rest < length x
longer h x n v rest none e =
    let p = pair_at-begins (h ++ x) rest n v e in
    elim (cases_lt (length h) (length p.s)) [
      | inl past ↦ omega (arith, past, ap length p.parts, length-append h x, length-append p.s rest)
      | inr within ↦
          let front : p.s ≡ take (length p.s) h =
          sym (take-append_seam p.s rest) ∙ ap (take (length p.s)) (sym p.parts) ∙ take-append-le (length p.s) h x within in
          let whole : h ≡ p.s ++ drop (length p.s) h = sym (take-append-drop (length p.s) h) ∙ ap (λ (l : List ℕ). l ++ drop (length p.s) h) (sym front) in
          absurd (not_none ((n, v), drop (length p.s) h) (pair_at h) none (ap pair_at whole ∙ pair_at-encoded n v p.s (drop (length p.s) h) p.encoded))
    ]

abbrev weight : Place → ℕ
weight (Head h) = 0
weight other = 1

abbrev size : Place → List ℕ → ℕ
size p x = weight p + 2 * length x

-- it is nearer to the end, or it is there
record Moves (p : Place) (x : List ℕ) (t : Taken) : Type 0 where
  proper : IsProper t.1
  nearer : size t.1 t.2 < size p x

abbrev pub Rests : Place → Taken → Type 0
Rests p t = t ≡ (Ok None, p, [])

abbrev Steps : Place → List ℕ → Taken → Type 0
Steps p x t = Moves p x t ⊎ ((x ≡ []) × Rests p t)

-- a value, of which at least a byte of x or the end of the value is taken
value_moves : (p : Place) (x : List ℕ) (k : CapsuleType) (v : List ℕ) (n : ℕ) (y : List ℕ)
    → 1 < size p x
    → 2 * length y < size p x
    → Moves p x (value_taken k v n y)
value_moves p x k v n y some less = elim (cases_lt (length y) n) [
  | inl part ↦ rw (lt-ltb (length y) n part) (record { proper = tt; nearer = omega (arith, some) })
  | inr whole ↦ rw (le-ltb (length y) n whole) (record { proper = no_pair; nearer = omega (arith, length-drop n y, less) })
]

skip_moves : (p : Place) (x : List ℕ) (n : ℕ) (y : List ℕ)
    → 1 < size p x
    → 2 * length y < size p x
    → Moves p x (skip_taken n y)
skip_moves p x n y some less = elim (cases_lt (length y) n) [
  | inl part ↦
      let none : length (drop n y) ≡ 0 = omega (arith, length-drop n y, part) in
      rw (ne_eqb (n - length y) 0 (λ z. omega (arith, z, part))) (record { proper = tt; nearer = omega (arith, none, some) })
  | inr whole ↦
      let zero_left : n - length y ≡ 0 = omega (arith, whole) in
      rw (zero_left) (record { proper = no_pair; nearer = omega (arith, length-drop n y, less) })
]

value_steps : (k : CapsuleType) (v : List ℕ) (n : ℕ) (x : List ℕ) → Steps (Value k v n) x (value_taken k v n x)
value_steps k v zero [] = inl (record { proper = no_pair; nearer = omega arith })
value_steps k v (suc n) [] = inr (
  refl,
  rw (lt-ltb 0 (suc n) (omega arith)) (
      ap (λ (w : List ℕ). (Ok None, Value k w (suc n - 0), [])) (append-nil v)
      ∙ ap (λ (m : ℕ). (Ok None, Value k v m, [])) (omega arith)
      ),
)
value_steps k v n (b ∷ x) = inl (value_moves (Value k v n) (b ∷ x) k v n (b ∷ x) (omega arith) (omega arith))

skip_steps : (n : ℕ) (x : List ℕ) → Steps (Skipping n) x (skip_taken n x)
skip_steps zero [] = inl (record { proper = no_pair; nearer = omega arith })
skip_steps (suc n) [] = inr (
  refl,
  ap (λ (m : ℕ). (Ok None, skipping m, drop (suc n) [])) (suc_less n)
      ∙ rw (ne_eqb (suc n) 0 (λ z. omega (arith, z))) refl,
)
  where
    suc_less : (n : ℕ) → suc n - 0 ≡ suc n
    suc_less n = omega arith
skip_steps n (b ∷ x) = inl (skip_moves (Skipping n) (b ∷ x) n (b ∷ x) (omega arith) (omega arith))

starts_moves : (h x : List ℕ) (sort : Sort) (n : ℕ) (r : List ℕ)
    → length r < length x
    → Moves (Head h) x (starts sort n r)
starts_moves h x (Read k) n r less = value_moves (Head h) x k [] n r (omega arith) (omega arith)
starts_moves h x Skip n r less = skip_moves (Head h) x n r (omega arith) (omega arith)
starts_moves h x Refuse n r less = record { proper = no_pair; nearer = omega (arith, less) }

head_steps : (o : Option ((ℕ × ℕ) × List ℕ)) (h x : List ℕ)
    → pair_at h ≡ None
    → pair_at (h ++ x) ≡ o
    → Steps (Head h) x (head_by (h ++ x) o)
head_steps None h [] none e = inr (refl, ap (λ (l : List ℕ). (Ok None, Head l, [])) (append-nil h))
head_steps None h (b ∷ x) none e = inl (record { proper = e; nearer = omega arith })
head_steps (Some p) h x none e =
    inl (starts_moves h x (sort_of p.0.0 p.0.1) p.0.1 p.1 (longer h x p.0.0 p.0.1 p.1 none e))

steps : (p : Place) (x : List ℕ) → IsProper p → Steps p x (taken_of p x)
steps (Head h) x none = head_steps (pair_at (h ++ x)) h x none refl
steps (Value k v n) x u = value_steps k v n x
steps (Skipping n) x u = skip_steps n x

-- ---- a run goes on step by step

pub still : (n : ℕ) (p : Place) → Rests p (taken_of p []) → run_within n p [] ≡ rests p
still zero p e = refl
still (suc n) p e = ap (λ (t : Taken). by_taken (λ q rest. run_within n q rest) t) e ∙ still n p e

enough : (n k : ℕ) (p : Place) (x : List ℕ)
    → IsProper p
    → size p x < n
    → size p x < k
    → run_within n p x ≡ run_within k p x
enough zero k p x proper l m = absurd (omega arith)
enough (suc n) zero p x proper l m = absurd (omega arith)
enough (suc n) (suc k) p x proper l m = elim (steps p x proper) [
  | inl s ↦
      let less : size (taken_of p x).1 (taken_of p x).2 < size p x = s.nearer in
      ap (λ (r : Run). after_found (taken_of p x).0 r) (enough n k (taken_of p x).1 (taken_of p x).2 s.proper (omega (arith, less, l)) (omega (arith, less, m)))
  | inr (none, is) ↦
      let at : Rests p (taken_of p []) = rw none at is in
      ap (λ (y : List ℕ). run_within (suc n) p y) none
      ∙ still (suc n) p at
      ∙ sym (still (suc k) p at)
      ∙ ap (λ (y : List ℕ). run_within (suc k) p y) (sym none)
]

light : (p : Place) → weight p ≤ 1
light (Head h) = omega arith
light (Value k v n) = omega arith
light (Skipping n) = omega arith

pub run_step : (p : Place) (x : List ℕ)
    → IsProper p
    → run p x ≡ by_taken (λ q rest. run q rest) (taken_of p x)
unfolding run
run_step p x proper = elim (steps p x proper) [
  | inl s ↦
      let less : size (taken_of p x).1 (taken_of p x).2 < size p x = s.nearer in
      ap (λ (r : Run). after_found (taken_of p x).0 r)
      (enough (suc (2 * length x)) (suc (suc (2 * length (taken_of p x).2))) (taken_of p x).1 (taken_of p x).2 s.proper (omega (arith, less, light p)) (omega (arith, light (taken_of p x).1)))
  | inr (none, is) ↦
      ap (λ (y : List ℕ). run_within (suc (suc (2 * length y))) p y) none
      ∙ sym (ap (λ (t : Taken). by_taken (λ q rest. run_within (suc (suc (2 * length rest))) q rest) t) is)
]

-- ---- cut anywhere

nil_of : (l : List ℕ) → length l ≡ 0 → l ≡ []
nil_of [] e = refl
nil_of (b ∷ l) e = absurd (omega (arith, e))

value_cut : (k : CapsuleType) (v : List ℕ) (n : ℕ) (x y : List ℕ)
    → length x < n
    → value_taken k v n (x ++ y) ≡ value_taken k (v ++ x) (n - length x) y
value_cut k v n x y l =
    let sum : n ≡ length x + (n - length x) = omega (arith, l) in
    elim (cases_lt (length y) (n - length x)) [
      | inl part ↦
          rw (lt-ltb (length (x ++ y)) n (omega (arith, length-append x y, part)), lt-ltb (length y) (n - length x) part) (
          ap (λ (w : List ℕ). (Ok None, Value k w (n - length (x ++ y)), [])) (sym (append_assoc v x y))
          ∙ ap (λ (m : ℕ). (Ok None, Value k ((v ++ x) ++ y) m, [])) (omega (arith, length-append x y))
          )
      | inr whole ↦
          let front : take n (x ++ y) ≡ x ++ take (n - length x) y = ap (λ (m : ℕ). take m (x ++ y)) sum ∙ take-append-add x y (n - length x) in
          let value : v ++ take n (x ++ y) ≡ (v ++ x) ++ take (n - length x) y = ap (λ (w : List ℕ). v ++ w) front ∙ sym (append_assoc v x (take (n - length x) y)) in
          let back : drop n (x ++ y) ≡ drop (n - length x) y = ap (λ (m : ℕ). drop m (x ++ y)) sum ∙ drop-append-add x y (n - length x) in
          rw (le-ltb (length (x ++ y)) n (omega (arith, length-append x y, whole)), le-ltb (length y) (n - length x) whole, value, back) refl
    ]

skip_cut : (n : ℕ) (x y : List ℕ)
    → length x < n
    → skip_taken n (x ++ y) ≡ skip_taken (n - length x) y
skip_cut n x y l =
    let sum : n ≡ length x + (n - length x) = omega (arith, l) in
    let back : drop n (x ++ y) ≡ drop (n - length x) y = ap (λ (m : ℕ). drop m (x ++ y)) sum ∙ drop-append-add x y (n - length x) in
    ap (λ (m : ℕ). (Ok None, skipping m, drop n (x ++ y))) (omega (arith, length-append x y))
    ∙ ap (λ (w : List ℕ). (Ok None, skipping (n - length x - length y), w)) back

value_more : (k : CapsuleType) (v : List ℕ) (n : ℕ) (a more : List ℕ)
    → by_taken (λ q rest. run q rest) (value_taken k v n (a ++ more))
    ≡ by_taken (λ q b. run q (b ++ more)) (value_taken k v n a)
value_more k v n a more = elim (cases_lt (length a) n) [
  | inl part ↦
      ap (λ (t : Taken). by_taken (λ q rest. run q rest) t) (value_cut k v n a more part)
      ∙ sym (run_step (Value k (v ++ a) (n - length a)) more tt)
      ∙ rw (lt-ltb (length a) n part) refl
  | inr whole ↦
      rw (le-ltb (length (a ++ more)) n (omega (arith, length-append a more, whole)), le-ltb (length a) n whole, take-append-le n a more whole, drop-append-le n a more whole) refl
]

skip_more : (n : ℕ) (a more : List ℕ)
    → by_taken (λ q rest. run q rest) (skip_taken n (a ++ more))
    ≡ by_taken (λ q b. run q (b ++ more)) (skip_taken n a)
skip_more n a more = elim (cases_lt (length a) n) [
  | inl part ↦
      let none : drop n a ≡ [] = nil_of (drop n a) (omega (arith, length-drop n a, part)) in
      let place : skipping (n - length a) ≡ Skipping (n - length a) = rw (ne_eqb (n - length a) 0 (λ z. omega (arith, z, part))) refl in
      ap (λ (t : Taken). by_taken (λ q rest. run q rest) t) (skip_cut n a more part)
      ∙ sym (run_step (Skipping (n - length a)) more tt)
      ∙ ap (λ (q : Place). run q more) (sym place)
      ∙ ap (λ (b : List ℕ). run (skipping (n - length a)) (b ++ more)) (sym none)
  | inr whole ↦
      let left : n - length (a ++ more) ≡ n - length a = omega (arith, length-append a more, whole) in
      ap (λ (m : ℕ). run (skipping m) (drop n (a ++ more))) left
      ∙ ap (λ (b : List ℕ). run (skipping (n - length a)) b) (drop-append-le n a more whole)
]

starts_more : (sort : Sort) (n : ℕ) (a more : List ℕ)
    → by_taken (λ q rest. run q rest) (starts sort n (a ++ more))
    ≡ by_taken (λ q b. run q (b ++ more)) (starts sort n a)
starts_more (Read k) n a more = value_more k [] n a more
starts_more Skip n a more = skip_more n a more
starts_more Refuse n a more = refl

head_more : (o : Option ((ℕ × ℕ) × List ℕ)) (h a more : List ℕ)
    → pair_at (h ++ a) ≡ o
    → by_taken (λ q rest. run q rest) (head_taken (h ++ (a ++ more)))
    ≡ by_taken (λ q b. run q (b ++ more)) (head_by (h ++ a) o)
head_more None h a more e =
    ap (λ (l : List ℕ). by_taken (λ q rest. run q rest) (head_taken l)) (sym (append_assoc h a more))
    ∙ sym (run_step (Head (h ++ a)) more e)
head_more (Some p) h a more e =
    let at : pair_at (h ++ (a ++ more)) ≡ Some ((p.0.0, p.0.1), p.1 ++ more) =
    ap pair_at (sym (append_assoc h a more)) ∙ pair_at-more (h ++ a) p.1 more p.0.0 p.0.1 e in
    ap (λ (o : Option ((ℕ × ℕ) × List ℕ)). by_taken (λ q rest. run q rest) (head_by (h ++ (a ++ more)) o)) at
    ∙ starts_more (sort_of p.0.0 p.0.1) p.0.1 p.1 more

taken_more : (p : Place) (a more : List ℕ)
    → by_taken (λ q rest. run q rest) (taken_of p (a ++ more))
    ≡ by_taken (λ q b. run q (b ++ more)) (taken_of p a)
taken_more (Head h) a more = head_more (pair_at (h ++ a)) h a more refl
taken_more (Value k v n) a more = value_more k v n a more
taken_more (Skipping n) a more = skip_more n a more

cut_as_taken : (found : Found) (p q : Place) (a b more : List ℕ)
    → IsProper p
    → (found, q, b) ≡ taken_of p a
    → run p (a ++ more) ≡ after_found found (run q (b ++ more))
cut_as_taken found p q a b more proper e =
    run_step p (a ++ more) proper
    ∙ taken_more p a more
    ∙ ap (λ (t : Taken). by_taken (λ q b. run q (b ++ more)) t) (sym e)

pub may_be_cut : (found : Found) (p q : Place) (a b more : List ℕ)
    → IsProper p
    → IsProper q
    → CapsuleIs found p a q b
    → run p (a ++ more) ≡ after_found found (run q (b ++ more))
may_be_cut (Err capsule_error.Memory) p q a b more u w g =
    run_step p (a ++ more) u
    ∙ ap (λ (t : Taken). by_taken (λ q rest. run q rest) t) (sym (g.same more))
    ∙ sym (run_step q (b ++ more) w)
may_be_cut (Err capsule_error.TooLong) p q a b more u w g = cut_as_taken (Err capsule_error.TooLong) p q a b more u g
may_be_cut (Ok x) p q a b more u w g = cut_as_taken (Ok x) p q a b more u g

pub places_are_proper : (begun : Option CapsuleType) (missing : ℕ) (head value : List ℕ)
    → IsPlace begun missing head value
    → IsProper (place_by begun missing head value)
places_are_proper None missing head value h = elim (missing == 0) as (λ b. IsProper (cond b (Head head) (Skipping missing))) [
  | true ↦ h.cut
  | false ↦ tt
]
places_are_proper (Some k) missing head value h = tt

-- ---- capsules as they are written

begun : (id n : ℕ) (head rest : List ℕ)
    → EncodesPair id n head
    → run between (head ++ rest) ≡ by_taken (λ q rest. run q rest) (starts (sort_of id n) n rest)
begun id n head rest e =
    run_step between (head ++ rest) no_pair
    ∙ ap (λ (o : Option ((ℕ × ℕ) × List ℕ)). by_taken (λ q rest. run q rest) (head_by (head ++ rest) o)) (pair_at-encoded id n head rest e)

pub read_as_written : (id : ℕ) (k : CapsuleType) (value head more : List ℕ)
    → EncodesPair id (length value) head
    → sort_of id (length value) ≡ Read k
    → run between (head ++ (value ++ more)) ≡ followed (k, value) (run between more)
read_as_written id k value head more e s =
    begun id (length value) head (value ++ more) e
    ∙ ap (λ (x : Sort). by_taken (λ q rest. run q rest) (starts x (length value) (value ++ more))) s
    ∙ rw (le-ltb (length (value ++ more)) (length value) (omega (arith, length-append value more)), take-append_seam value more, drop-append_seam value more) refl

pub skipped_as_written : (id : ℕ) (value head more : List ℕ)
    → EncodesPair id (length value) head
    → sort_of id (length value) ≡ Skip
    → run between (head ++ (value ++ more)) ≡ run between more
skipped_as_written id value head more e s =
    let left : length value - length (value ++ more) ≡ 0 = omega (arith, length-append value more) in
    begun id (length value) head (value ++ more) e
    ∙ ap (λ (x : Sort). by_taken (λ q rest. run q rest) (starts x (length value) (value ++ more))) s
    ∙ ap (λ (m : ℕ). run (skipping m) (drop (length value) (value ++ more))) left
    ∙ ap (λ (b : List ℕ). run between b) (drop-append_seam value more)

pub refused_as_written : (id n : ℕ) (head more : List ℕ)
    → EncodesPair id n head
    → sort_of id n ≡ Refuse
    → run between (head ++ more) ≡ breaks
refused_as_written id n head more e s =
    begun id n head more e
    ∙ ap (λ (x : Sort). by_taken (λ q rest. run q rest) (starts x n more)) s

-- ---- a step leaves less

value_fewer : (k : CapsuleType) (v : List ℕ) (n : ℕ) (y : List ℕ) → length (value_taken k v n y).2 ≤ length y
value_fewer k v n y = elim (cases_lt (length y) n) [
  | inl part ↦ rw (lt-ltb (length y) n part) (omega arith)
  | inr whole ↦ rw (le-ltb (length y) n whole) (omega (arith, length-drop n y))
]

value_less : (k : CapsuleType) (v : List ℕ) (n : ℕ) (y : List ℕ) → 0 < n → 0 < length y → length (value_taken k v n y).2 < length y
value_less k v n y some full = elim (cases_lt (length y) n) [
  | inl part ↦ rw (lt-ltb (length y) n part) (omega (arith, full))
  | inr whole ↦ rw (le-ltb (length y) n whole) (omega (arith, length-drop n y, some, whole))
]

starts_fewer : (sort : Sort) (n : ℕ) (r : List ℕ) → length (starts sort n r).2 ≤ length r
starts_fewer (Read k) n r = value_fewer k [] n r
starts_fewer Skip n r = omega (arith, length-drop n r)
starts_fewer Refuse n r = omega arith

head_less : (o : Option ((ℕ × ℕ) × List ℕ)) (h a : List ℕ) → pair_at h ≡ None → 0 < length a → pair_at (h ++ a) ≡ o → length (head_by (h ++ a) o).2 < length a
head_less None h a none full e = full
head_less (Some p) h a none full e = omega (arith, starts_fewer (sort_of p.0.0 p.0.1) p.0.1 p.1, longer h a p.0.0 p.0.1 p.1 none e)

pub taken_less : (p : Place) (a : List ℕ) → IsWithin p → 0 < length a → length (taken_of p a).2 < length a
taken_less (Head h) a w full = head_less (pair_at (h ++ a)) h a w full refl
taken_less (Value k v n) a w full = value_less k v n a w full
taken_less (Skipping n) a w full = omega (arith, length-drop n a, w, full)
