-- Capsules are read as they come.
use Rattle.std.proofs.Common.{◌≡◌, ℕ, ◌≤◌, ◌+◌, ◌-◌, List, [], ◌∷◌, ◌++◌, length, take, drop, Option, Some, None, Ok, Err, refl, sym, ap, ◌∙◌, arith, append_assoc, length-append}
use Rattle.std.proofs.lemmas.List.{take-append-drop, take-append-le}
use Rattle.std.proofs.Math.Seq.{take-append_seam, drop-append_seam, drop-append-add}
use Rattle.wtp_core.specs.Varint.{number_at}
use Rattle.wtp_wire.specs.Settings.{pair_at}
use Rattle.wtp_wire.specs.declared.capsule.CapsuleError.TheVariants as capsule_error
use Rattle.wtp_webtransport.specs.declared.capsules.CapsuleType.{CapsuleType}
use Rattle.wtp_webtransport.specs.declared.capsules.Sort.{Sort}
use Rattle.wtp_webtransport.specs.Capsules.{Found, Place, Head, Value, Skipping, skipping, place_by, value_taken, starts, sort_of, head_by, head_taken, CapsuleIs, ValueGives, StartGives}
use Rattle.wtp_wire.proofs.PairLemmas.{pair_at-begins, pair_at-encoded, pair_at-more}

pub no_pair : pair_at [] ≡ None
unfolding pair_at number_at
no_pair = refl

pub not_none : (x : (ℕ × ℕ) × List ℕ) (o : Option ((ℕ × ℕ) × List ℕ)) → o ≡ None → o ≡ Some x → ⊥
not_none x o d e = cc

-- two numbers that a byte completes end with it
pub last_byte : (h : List ℕ) (b n v : ℕ) (rest : List ℕ)
    → pair_at h ≡ None
    → pair_at (h ++ b ∷ []) ≡ Some ((n, v), rest)
    → rest ≡ []
last_byte h b n v [] none e = refl
last_byte h b n v (x ∷ rest) none e =
    let p = pair_at-begins (h ++ b ∷ []) (x ∷ rest) n v e in
    let size : length p.s ≤ length h = omega (arith, ap length p.parts, length-append h (b ∷ []), length-append p.s (x ∷ rest)) in
    let front : p.s ≡ take (length p.s) h =
    sym (take-append_seam p.s (x ∷ rest)) ∙ ap (take (length p.s)) (sym p.parts) ∙ take-append-le (length p.s) h (b ∷ []) size in
    let whole : h ≡ p.s ++ drop (length p.s) h = sym (take-append-drop (length p.s) h) ∙ ap (λ (l : List ℕ). l ++ drop (length p.s) h) (sym front) in
    absurd (not_none ((n, v), drop (length p.s) h) (pair_at h) none (ap pair_at whole ∙ pair_at-encoded n v p.s (drop (length p.s) h) p.encoded))

-- the end of bytes that follow others is the end of them all
pub tail_of : (h a g b : List ℕ)
    → g ++ b ≡ h ++ a
    → length b ≤ length a
    → b ≡ drop (length a - length b) a
tail_of h a g b e l =
    let front : length g ≡ length h + (length a - length b) =
    omega (arith, ap length e, length-append g b, length-append h a, l) in
    sym (drop-append_seam g b)
    ∙ ap (drop (length g)) e
    ∙ ap (λ (n : ℕ). drop n (h ++ a)) front
    ∙ drop-append-add h a (length a - length b)

-- ---- one call

pub value_given : (r : Found) (k : CapsuleType) (v : List ℕ) (n : ℕ) (a : List ℕ) (q : Place) (b : List ℕ)
    → ValueGives r k v n a q b
    → CapsuleIs r (Value k v n) a q b
value_given (Err capsule_error.Memory) k v n a q b (p, e, l) = record {
  held = tt;
  within = rw p l;
  same = λ more. rw (p, e) refl;
  fewer = omega (arith, ap length e);
  last = tail_of [] a [] b e (omega (arith, ap length e));
}
value_given (Err capsule_error.TooLong) k v n a q b g = g
value_given (Ok x) k v n a q b g = g

pub skip_given : (n : ℕ) (a : List ℕ) (q : Place) (b : List ℕ)
    → q ≡ skipping (n - length a)
    → b ≡ drop n a
    → CapsuleIs (Ok None) (Skipping n) a q b
skip_given n a q b e f = rw (e, f) refl

pub cut_given : (h a g b : List ℕ)
    → pair_at g ≡ None
    → g ≡ h ++ a
    → b ≡ []
    → CapsuleIs (Ok None) (Head h) a (Head g) b
cut_given h a g b none e f =
    let at : pair_at (h ++ a) ≡ None = ap pair_at (sym e) ∙ none in
    rw (at, e, f) refl

pub head_lacks : (h a g b : List ℕ)
    → pair_at g ≡ None
    → g ++ b ≡ h ++ a
    → length b ≤ length a
    → CapsuleIs (Err capsule_error.Memory) (Head h) a (Head g) b
head_lacks h a g b none e l = record {
  held = tt;
  within = none;
  same = λ more. ap head_taken (sym (append_assoc g b more) ∙ ap (λ (x : List ℕ). x ++ more) e ∙ append_assoc h a more);
  fewer = l;
  last = tail_of h a g b e l;
}

pub start_given : (r : Found) (h a mid : List ℕ) (id n : ℕ) (q : Place) (b : List ℕ)
    → pair_at (h ++ a) ≡ Some ((id, n), mid)
    → length mid ≤ length a
    → StartGives r (sort_of id n) n mid q b
    → CapsuleIs r (Head h) a q b
start_given (Err capsule_error.Memory) h a mid id n q b e l (k, is, p, f, some) = record {
  held = tt;
  within = rw p some;
  same = λ more.
      let at : pair_at (h ++ (a ++ more)) ≡ Some ((id, n), mid ++ more) =
      ap pair_at (sym (append_assoc h a more)) ∙ pair_at-more (h ++ a) mid more id n e in
      let right : head_taken (h ++ (a ++ more)) ≡ value_taken k [] n (mid ++ more) =
      ap (λ (o : Option ((ℕ × ℕ) × List ℕ)). head_by (h ++ (a ++ more)) o) at
      ∙ ap (λ (x : Sort). starts x n (mid ++ more)) is in
      rw (p, f) (sym right);
  fewer = omega (arith, ap length f, l);
  last =
      let p = pair_at-begins (h ++ a) mid id n e in
      let end : mid ≡ drop (length a - length mid) a = tail_of h a p.s mid (sym p.parts) l in
      f ∙ end ∙ ap (λ (x : List ℕ). drop (length a - length x) a) (sym f);
}
start_given (Err capsule_error.TooLong) h a mid id n q b e l g =
    g ∙ sym (ap (λ (o : Option ((ℕ × ℕ) × List ℕ)). head_by (h ++ a) o) e)
start_given (Ok x) h a mid id n q b e l g =
    g ∙ sym (ap (λ (o : Option ((ℕ × ℕ) × List ℕ)). head_by (h ++ a) o) e)

pub place_head : (begun : Option CapsuleType) (n : ℕ) (h v : List ℕ)
    → begun ≡ None
    → n ≡ 0
    → place_by begun n h v ≡ Head h
place_head begun n h v e f = rw (e, f) refl

-- ---- a type and a length, byte by byte

pub head_found : (h a g l rest : List ℕ) (b n v : ℕ) (more : List ℕ)
    → pair_at g ≡ None
    → g ++ l ≡ h ++ a
    → length l ≤ length a
    → l ≡ b ∷ rest
    → pair_at (g ++ b ∷ []) ≡ Some ((n, v), more)
    → (pair_at (h ++ a) ≡ Some ((n, v), rest)) × (length rest ≤ length a)
head_found h a g l rest b n v more none same less parts e =
    let last : more ≡ [] = last_byte g b n v more none e in
    let whole : (g ++ b ∷ []) ++ rest ≡ h ++ a =
    append_assoc g (b ∷ []) rest ∙ ap (λ (x : List ℕ). g ++ x) (sym parts) ∙ same in (
      ap pair_at (sym whole)
          ∙ pair_at-more (g ++ b ∷ []) more rest n v e
          ∙ ap (λ (x : List ℕ). Some ((n, v), x ++ rest)) last,
      omega (arith, ap length parts, less),
    )
