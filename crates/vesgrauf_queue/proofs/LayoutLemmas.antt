-- How bytes lie in blocks.
use Rattle.std.proofs.Common.{◌≡◌, ℕ, zero, suc, ◌+◌, ◌<◌, ◌≤◌, List, [], ◌∷◌, ◌++◌, length, drop, refl, sym, ap, ◌∙◌, arith, get_or, length-drop}
use Rattle.std.proofs.lemmas.List.{drop_all, drop_more, length-map}
use Rattle.std.specs.List.{concat}
use Rattle.std.specs.declared.vec.Vec.{Vec}
use Rattle.std.specs.declared.alloc.Global.{Global}
use Rattle.vesgrauf_queue.specs.Pieces.{first, second}
use Rattle.vesgrauf_queue.specs.Layout.{parts, left_in, without_front, pieces_in}

pub length-parts : (vs : List (Vec ℕ Global)) → length (parts vs) ≡ length vs
length-parts vs = length-map vs (λ v. v.items)

get_or-parts : (vs : List (Vec ℕ Global)) (i : ℕ) (v : Vec ℕ Global) → get_or (parts vs) i v.items ≡ (get_or vs i v).items
get_or-parts [] i v = refl
get_or-parts (w ∷ vs) zero v = refl
get_or-parts (w ∷ vs) (suc i) v = get_or-parts vs i v

-- a block of these, by its place
pub drop-parts : (vs : List (Vec ℕ Global)) (i : ℕ) (v : Vec ℕ Global) → i < length vs → v ≡ get_or vs i v
    → drop i (parts vs) ≡ v.items ∷ drop (i + 1) (parts vs)
drop-parts vs i v within e =
    drop_more (parts vs) i v.items (omega (arith, length-parts vs))
    ∙ ap (λ b. b ∷ drop (i + 1) (parts vs)) (get_or-parts vs i v ∙ sym (ap (λ w. w.items) e))

pub first-sealed : (vs : List (Vec ℕ Global)) (last : List ℕ) (i : ℕ) (v : Vec ℕ Global) → i < length vs → v ≡ get_or vs i v
    → first (left_in (parts vs) last i) ≡ v.items
first-sealed vs last i v within e = ap (λ xs. first (xs ++ last ∷ [])) (drop-parts vs i v within e)

pub first-last : (vs : List (Vec ℕ Global)) (last : List ℕ) (i : ℕ) → length vs ≤ i → first (left_in (parts vs) last i) ≡ last
first-last vs last i past = ap (λ xs. first (xs ++ last ∷ [])) (drop_all i (parts vs) (omega (arith, length-parts vs)))

-- the first piece is what was not given of the first block
pub first-pieces : (sealed : List (List ℕ)) (last : List ℕ) (lent used : ℕ)
    → first (pieces_in sealed last lent used) ≡ drop used (first (left_in sealed last lent))
first-pieces sealed last lent used = by (drop lent sealed)
  where
    by : (xs : List (List ℕ)) → first (without_front used (xs ++ last ∷ [])) ≡ drop used (first (xs ++ last ∷ []))
    by [] = refl
    by (x ∷ xs) = refl

-- the second one is the block after it
pub second-pieces : (sealed : List (List ℕ)) (last : List ℕ) (lent used : ℕ) → lent < length sealed
    → second (pieces_in sealed last lent used) ≡ first (left_in sealed last (lent + 1))
second-pieces sealed last lent used within =
    ap (λ xs. second (without_front used (xs ++ last ∷ []))) (drop_more sealed lent [] within)

pub second-none : (sealed : List (List ℕ)) (last : List ℕ) (lent used : ℕ) → length sealed ≤ lent
    → second (pieces_in sealed last lent used) ≡ []
second-none sealed last lent used past =
    ap (λ xs. second (without_front used (xs ++ last ∷ []))) (drop_all lent sealed past)

-- nothing is left if the first piece is empty
pub concat-pieces-empty : (sealed : List (List ℕ)) (last : List ℕ) (lent used : ℕ)
    → (lent < length sealed → used < length (first (left_in sealed last lent)))
    → drop used (first (left_in sealed last lent)) ≡ [] → concat (pieces_in sealed last lent used) ≡ []
concat-pieces-empty sealed last lent used part e = by (drop lent sealed) (λ h. part (omega (arith, length-drop lent sealed))) e
  where
    by : (xs : List (List ℕ)) → (0 < length xs → used < length (first (xs ++ last ∷ []))) → drop used (first (xs ++ last ∷ [])) ≡ []
        → concat (without_front used (xs ++ last ∷ [])) ≡ []
    by [] p e = ap (λ b. b ++ []) e
    by (x ∷ xs) p e = absurd (omega (arith, p (omega arith), ap length e, length-drop used x))
