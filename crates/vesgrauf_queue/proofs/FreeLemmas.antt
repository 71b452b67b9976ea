-- Blocks are freed from the front.
use Rattle.std.proofs.Common.{subst, length-take, ◌≡◌, ℕ, zero, suc, ◌+◌, ◌-◌, ◌<◌, ◌≤◌, ◌^◌, List, [], ◌∷◌, ◌++◌, length, take, drop, refl, sym, ap, ◌∙◌, arith, get_or, length-append, append_assoc, length-drop}
use Rattle.std.proofs.lemmas.List.{drop_more, take_more, append-nil, drop-drop, drop-take, drop-append-le}
use Rattle.std.proofs.lemmas.List.Folds.{concat-append}
use Rattle.std.proofs.Math.Seq.{take-add, drop-append-add}
use Rattle.std.specs.List.{concat}
use Rattle.std.specs.declared.vec.Vec.{Vec}
use Rattle.std.specs.declared.alloc.Global.{Global}
use Rattle.vesgrauf_queue.specs.Pieces.{first, IsStartOf}
use Rattle.vesgrauf_queue.specs.Layout.{parts, left_in, without_front, pieces_in, given_in, kept_in, IsLaid, Freed}

-- some of the first blocks are gone
pub record Freeing (old : List (List ℕ)) (lent freed : ℕ) (new : List (List ℕ)) (still_lent still_freed : ℕ) : Type 0 where
  pub few : still_lent ≤ lent
  pub all : lent ≤ length old
  pub rest : new ≡ drop (lent - still_lent) old
  pub bytes : freed ≡ length (concat (take (lent - still_lent) old)) + still_freed

pub first-parts : (vs : List (Vec ℕ Global)) (v : Vec ℕ Global) → 0 < length vs → v ≡ get_or vs 0 v → first (parts vs) ≡ v.items
first-parts [] v more e = absurd (omega arith)
first-parts (w ∷ vs) v more e = ap (λ u. u.items) (sym e)

pub drop-one-parts : (vs : List (Vec ℕ Global)) → parts (drop 1 vs) ≡ drop 1 (parts vs)
drop-one-parts [] = refl
drop-one-parts (v ∷ vs) = refl

first-drop : (xs : List (List ℕ)) (i : ℕ) → i < length xs → first (drop i xs) ≡ get_or xs i []
first-drop xs i within = ap first (drop_more xs i [] within)

-- one more is gone
pub freeing-more : (old new next : List (List ℕ)) (lent freed still_lent still_freed later : ℕ)
    → Freeing old lent freed new still_lent still_freed
    → 0 < still_lent → next ≡ drop 1 new → still_freed ≡ length (first new) + later
    → Freeing old lent freed next (still_lent - 1) later
freeing-more old new next lent freed still_lent still_freed later f more rest bytes =
    let k = lent - still_lent in
    let one : k + 1 ≡ lent - (still_lent - 1) = let few = f.few in omega arith in
    let within : k < length old = let all = f.all in let few = f.few in omega arith in
    let x : length (first new) ≡ length (get_or old k []) = ap length (ap first f.rest ∙ first-drop old k within) in
    let taken : length (concat (take (k + 1) old)) ≡ length (concat (take k old)) + length (get_or old k []) =
    ap (λ xs. length (concat xs)) (take_more old k [] within)
    ∙ ap length (concat-append (take k old) (get_or old k [] ∷ []) ∙ ap (λ b. concat (take k old) ++ b) (append-nil (get_or old k [])))
    ∙ length-append (concat (take k old)) (get_or old k []) in
    record {
      few = let few = f.few in omega arith;
      all = f.all;
      rest = rest ∙ ap (drop 1) f.rest ∙ drop-drop 1 k old ∙ ap (λ n. drop n old) one;
      bytes = f.bytes ∙ omega (arith, taken, x, bytes) ∙ ap (λ n. length (concat (take n old)) + later) one;
    }

-- ---- what is kept

pub left-freed : (sealed new : List (List ℕ)) (lent freed still_lent still_freed : ℕ)
    → Freed sealed lent freed new still_lent still_freed → drop still_lent new ≡ drop lent sealed
left-freed sealed new lent freed still_lent still_freed f =
    ap (drop still_lent) f.rest
    ∙ drop-drop still_lent (lent - still_lent) sealed
    ∙ ap (λ n. drop n sealed) (let few = f.few in let e : lent - still_lent + still_lent ≡ lent = omega arith in e)

-- the bytes that were given begin with those of the blocks that are gone
given-split : (sealed new : List (List ℕ)) (last : List ℕ) (lent used freed still_lent still_freed : ℕ)
    → Freed sealed lent freed new still_lent still_freed
    → given_in sealed last lent used ≡ concat (take (lent - still_lent) sealed) ++ given_in new last still_lent used
given-split sealed new last lent used freed still_lent still_freed f =
    let k = lent - still_lent in
    let all : lent ≡ k + still_lent = let few = f.few in omega arith in
    let t = take used (first (left_in sealed last lent)) in
    let gone = concat (take k sealed) in
    ap (λ n. concat (take n sealed) ++ t) all
    ∙ ap (λ xs. concat xs ++ t) (take-add k still_lent sealed)
    ∙ ap (λ b. b ++ t) (concat-append (take k sealed) (take still_lent (drop k sealed)))
    ∙ append_assoc gone (concat (take still_lent (drop k sealed))) t
    ∙ ap (λ xs. gone ++ (concat (take still_lent xs) ++ t)) (sym f.rest)
    ∙ ap (λ xs. gone ++ (concat (take still_lent new) ++ take used (first (xs ++ last ∷ []))))
    (sym (left-freed sealed new lent freed still_lent still_freed f))

pub length-freed : (sealed new : List (List ℕ)) (last : List ℕ) (lent used freed still_lent still_freed : ℕ)
    → Freed sealed lent freed new still_lent still_freed
    → length (given_in sealed last lent used) ≡ length (concat (take (lent - still_lent) sealed)) + length (given_in new last still_lent used)
length-freed sealed new last lent used freed still_lent still_freed f =
    ap length (given-split sealed new last lent used freed still_lent still_freed f)
    ∙ length-append (concat (take (lent - still_lent) sealed)) (given_in new last still_lent used)

pub kept-freed : (sealed new : List (List ℕ)) (last : List ℕ) (lent used before len still_lent still_freed : ℕ)
    → Freed sealed lent (before + len) new still_lent still_freed
    → kept_in new last still_lent used still_freed ≡ drop len (kept_in sealed last lent used before)
kept-freed sealed new last lent used before len still_lent still_freed f =
    sym (drop-append-add (concat (take (lent - still_lent) sealed)) (given_in new last still_lent used) still_freed)
    ∙ ap (λ n. drop n (concat (take (lent - still_lent) sealed) ++ given_in new last still_lent used)) (sym f.bytes)
    ∙ ap (drop (before + len)) (sym (given-split sealed new last lent used (before + len) still_lent still_freed f))
    ∙ sym (drop-drop len before (given_in sealed last lent used))

pub pieces-freed : (sealed new : List (List ℕ)) (last : List ℕ) (lent used freed still_lent still_freed : ℕ)
    → Freed sealed lent freed new still_lent still_freed
    → pieces_in new last still_lent used ≡ pieces_in sealed last lent used
pieces-freed sealed new last lent used freed still_lent still_freed f =
    ap (λ xs. without_front used (xs ++ last ∷ [])) (left-freed sealed new lent freed still_lent still_freed f)

-- a block has less than 2 ^ 63 bytes
pub first-bound : (vs : List (Vec ℕ Global)) (v : Vec ℕ Global) → length (first (parts vs ++ v.items ∷ [])) < 2 ^ 63
first-bound [] v = omega (arith, v.ok.0, v.small)
first-bound (w ∷ vs) v = omega (arith, w.ok.0, w.small)

pub freed-bound : (vs : List (Vec ℕ Global)) (v : Vec ℕ Global) (lent used freed : ℕ) → IsLaid (parts vs) v.items lent used freed → freed < 2 ^ 63
freed-bound vs v lent used zero laid = omega arith
freed-bound vs v lent used (suc freed) laid = omega (arith, laid.needed (omega arith), first-bound vs v)

-- ---- the first of the bytes that are kept

no-drop : (n : ℕ) (xs : List ℕ) → n < length xs → drop n xs ≡ [] → ⊥
no-drop n xs more none = omega (arith, more, ap length none, length-drop n xs)

pub kept-start : (sealed : List (List ℕ)) (last : List ℕ) (lent used freed : ℕ) → lent ≡ 0 → freed ≤ used
    → IsStartOf (kept_in sealed last lent used freed) (take (used - freed) (drop freed (first (left_in sealed last 0))))
kept-start sealed last lent used freed none few =
    let x = first (left_in sealed last 0) in
    let size : used ≡ freed + (used - freed) = omega arith in
    let same : kept_in sealed last lent used freed ≡ take (used - freed) (drop freed x) =
    ap (λ k. kept_in sealed last k used freed) none
    ∙ ap (λ k. drop freed (take k x)) size
    ∙ drop-take freed (used - freed) x in
    ([], same ∙ sym (append-nil (take (used - freed) (drop freed x))), λ e. same ∙ e)

pub kept-start-lent : (sealed : List (List ℕ)) (last : List ℕ) (lent used freed : ℕ) → 0 < lent → IsLaid sealed last lent used freed
    → IsStartOf (kept_in sealed last lent used freed) (drop freed (first (left_in sealed last 0)))
kept-start-lent [] last lent used freed more laid = absurd (omega (arith, laid.few))
kept-start-lent (x ∷ sealed) last zero used freed more laid = absurd (omega arith)
kept-start-lent (x ∷ sealed) last (suc lent) used freed more laid =
    let rest = concat (take lent sealed) ++ take used (first (left_in (x ∷ sealed) last (suc lent))) in (
      rest,
      ap (drop freed) (append_assoc x (concat (take lent sealed)) (take used (first (left_in (x ∷ sealed) last (suc lent)))))
          ∙ drop-append-le freed x rest (within freed laid.needed),
      λ none. absurd (no-drop freed x (short freed laid.needed) none),
    )
  where
    short : (n : ℕ) → (0 < n → n < length x) → n < length x
    short zero h = laid.filled 0 (omega arith)
    short (suc n) h = h (omega arith)

    within : (n : ℕ) → (0 < n → n < length x) → n ≤ length x
    within n h = omega (arith, short n h)

pub freed-used : (sealed : List (List ℕ)) (last : List ℕ) (lent used freed : ℕ) → lent ≡ 0 → IsLaid sealed last lent used freed → freed ≤ used
freed-used sealed last lent used freed none laid =
    let given : freed ≤ length (given_in sealed last 0 used) =
    subst (λ (k : ℕ). freed ≤ length (given_in sealed last k used)) none laid.given in
    omega (arith, given, length-take used (first (left_in sealed last 0)))
