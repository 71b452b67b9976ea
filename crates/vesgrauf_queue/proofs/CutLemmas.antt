-- Blocks are cut at the end.
use Rattle.std.proofs.Common.{◌≡◌, ◌⊎◌, inl, inr, ℕ, zero, suc, get_or, ◌+◌, ◌-◌, ◌<◌, ◌≤◌, List, [], ◌∷◌, ◌++◌, length, take, drop, refl, sym, ap, ◌∙◌, subst, arith, length-drop, length-take, length-append}
use Rattle.std.proofs.lemmas.List.{drop_all, take_all, append-nil, take-append-le, drop-append-le, take-take, drop-take, get_or-take}
use Rattle.std.proofs.lemmas.List.Folds.{concat-append}
use Rattle.std.proofs.Math.Seq.{take-append-add, take-append_seam}
use Rattle.std.specs.List.{concat}
use Rattle.vesgrauf_queue.specs.Pieces.{first}
use Rattle.vesgrauf_queue.specs.Layout.{left_in, without_front, pieces_in, given_in, kept_in, IsLaid, Cut}
use Rattle.vesgrauf_queue.proofs.BlockLemmas.{first-left}
use Rattle.vesgrauf_queue.proofs.PieceLemmas.{length-first-concat, take-concat}
use Rattle.vesgrauf_queue.proofs.ReuseLemmas.{IsNearlyLaid}

pub concat-left : (sealed : List (List ℕ)) (last : List ℕ) (lent : ℕ) → concat (left_in sealed last lent) ≡ concat (drop lent sealed) ++ last
concat-left sealed last lent =
    concat-append (drop lent sealed) (last ∷ []) ∙ ap (λ b. concat (drop lent sealed) ++ b) (append-nil last)

-- these blocks are left, with the last `excess` bytes still to go
pub record Cutting (old : List (List ℕ)) (last : List ℕ) (lent excess : ℕ) (new : List (List ℕ)) (new_last : List ℕ) (more : ℕ) : Type 0 where
  pub few : lent ≤ length new
  pub front : new ≡ take (length new) old
  pub within : more ≤ length (concat (left_in new new_last lent))
  pub rest : take (length (concat (left_in new new_last lent)) - more) (concat (left_in new new_last lent))
      ≡ take (length (concat (left_in old last lent)) - excess) (concat (left_in old last lent))

pub cutting-none : (old : List (List ℕ)) (last : List ℕ) (lent excess : ℕ) → lent ≤ length old
    → excess ≤ length (concat (left_in old last lent)) → Cutting old last lent excess old last excess
cutting-none old last lent excess few within =
    record { few = few; front = sym (take_all (length old) old (omega arith)); within = within; rest = refl }

-- the last block goes, and the one before it is the last one
concat-popped : (sealed : List (List ℕ)) (block last : List ℕ) (lent : ℕ) → lent ≤ length sealed
    → concat (left_in (sealed ++ block ∷ []) last lent) ≡ concat (left_in sealed block lent) ++ last
concat-popped sealed block last lent few =
    concat-left (sealed ++ block ∷ []) last lent
    ∙ ap (λ xs. concat xs ++ last) (drop-append-le lent sealed (block ∷ []) few)

take-popped : (b last : List ℕ) (n : ℕ) → length last ≤ n → take (length (b ++ last) - n) (b ++ last) ≡ take (length b - (n - length last)) b
take-popped b last n enough =
    ap (λ k. take k (b ++ last)) (let l = length-append b last in let e : length (b ++ last) - n ≡ length b - (n - length last) = omega arith in e)
    ∙ take-append-le (length b - (n - length last)) b last (omega arith)

pub cutting-more : (old sealed : List (List ℕ)) (first_last last block : List ℕ) (lent excess more : ℕ)
    → Cutting old first_last lent excess (sealed ++ block ∷ []) last more
    → length last < more → lent < length (sealed ++ block ∷ [])
    → Cutting old first_last lent excess sealed block (more - length last)
cutting-more old sealed first_last last block lent excess more c enough part =
    let few : lent ≤ length sealed = omega (arith, length-append sealed (block ∷ [])) in
    let whole = concat-popped sealed block last lent few in
    record {
      few = few;
      front = sym (take-append_seam sealed (block ∷ []))
          ∙ ap (take (length sealed)) c.front
          ∙ take-take (length sealed) (length (sealed ++ block ∷ [])) old (omega (arith, length-append sealed (block ∷ [])));
      within = omega (arith, c.within, ap length whole, length-append (concat (left_in sealed block lent)) last);
      rest = sym (take-popped (concat (left_in sealed block lent)) last more (omega arith))
          ∙ ap (λ b. take (length b - more) b) (sym whole)
          ∙ c.rest;
    }

-- no more goes than the last block has
pub cutting-within : (new : List (List ℕ)) (last : List ℕ) (lent more : ℕ) → more ≤ length (concat (left_in new last lent))
    → length new ≤ lent → more ≤ length last
cutting-within new last lent more within none =
    omega (arith, within, ap length (concat-left new last lent ∙ ap (λ xs. concat xs ++ last) (drop_all lent new none)))

pub cut-end : (old new : List (List ℕ)) (first_last last : List ℕ) (lent excess more : ℕ)
    → Cutting old first_last lent excess new last more → more ≤ length last
    → Cut old first_last lent excess new (take (length last - more) last)
cut-end old new first_last last lent excess more c within =
    record {
      few = c.few;
      front = c.front;
      rest = concat-left new (take (length last - more) last) lent
          ∙ sym (take-append-add (concat (drop lent new)) last (length last - more))
          ∙ ap (λ n. take n (concat (drop lent new) ++ last))
          (let l = length-append (concat (drop lent new)) last in
          let e : length (concat (drop lent new)) + (length last - more) ≡ length (concat (drop lent new) ++ last) - more = omega arith in e)
          ∙ ap (λ b. take (length b - more) b) (sym (concat-left new last lent))
          ∙ c.rest;
    }

-- ---- what a cut leaves

lt_or_le : (m n : ℕ) → (m < n) ⊎ (n ≤ m)
lt_or_le m zero = inr (omega arith)
lt_or_le zero (suc n) = inl (omega arith)
lt_or_le (suc m) (suc n) = elim (lt_or_le m n) [ inl h ↦ inl (omega arith) | inr h ↦ inr (omega arith) ]

pub concat-pieces : (sealed : List (List ℕ)) (last : List ℕ) (lent used : ℕ) → used ≤ length (first (left_in sealed last lent))
    → concat (pieces_in sealed last lent used) ≡ drop used (concat (left_in sealed last lent))
concat-pieces sealed last lent used within = by (left_in sealed last lent) within
  where
    by : (xs : List (List ℕ)) → used ≤ length (first xs) → concat (without_front used xs) ≡ drop used (concat xs)
    by [] h = sym (drop_all used [] (omega arith))
    by (x ∷ xs) h = sym (drop-append-le used x (concat xs) h)

module _ (sealed new : List (List ℕ)) (last new_last : List ℕ) (lent used freed excess : ℕ)
    (laid : IsLaid sealed last lent used freed)
    (within : excess ≤ length (concat (pieces_in sealed last lent used)))
    (cut : Cut sealed last lent excess new new_last) where
  left_before : length (concat (pieces_in sealed last lent used)) ≡ length (concat (left_in sealed last lent)) - used
  left_before = ap length (concat-pieces sealed last lent used laid.within) ∙ length-drop used (concat (left_in sealed last lent))

  enough : used ≤ length (concat (left_in sealed last lent)) - excess
  enough = omega (arith, left_before, within, laid.within, length-first-concat (left_in sealed last lent))

  left_after : length (concat (left_in new new_last lent)) ≡ length (concat (left_in sealed last lent)) - excess
  left_after = ap length cut.rest
      ∙ length-take (length (concat (left_in sealed last lent)) - excess) (concat (left_in sealed last lent))
      ∙ omega arith

  few_new : length new ≤ length sealed
  few_new = omega (arith, ap length cut.front, length-take (length new) sealed)

  block_same : lent < length new → first (left_in new new_last lent) ≡ first (left_in sealed last lent)
  block_same h =
      first-left new new_last lent h
      ∙ ap (λ (m : List (List ℕ)). get_or m lent []) cut.front
      ∙ get_or-take (length new) sealed lent [] h
      ∙ sym (first-left sealed last lent (omega (arith, few_new)))

  block_last : length new ≤ lent → first (left_in new new_last lent) ≡ concat (left_in new new_last lent)
  block_last none =
      ap (λ xs. first (xs ++ new_last ∷ [])) (drop_all lent new none)
      ∙ sym (append-nil new_last)
      ∙ ap (λ xs. concat (xs ++ new_last ∷ [])) (sym (drop_all lent new none))

  block_within : used ≤ length (first (left_in new new_last lent))
  block_within = elim (lt_or_le lent (length new)) [
    | inl h ↦ omega (arith, laid.within, ap length (block_same h))
    | inr h ↦ omega (arith, enough, left_after, ap length (block_last h))
  ]

  block_part : lent < length new → used < length (first (left_in new new_last lent))
  block_part h = omega (arith, laid.part (omega (arith, few_new)), ap length (block_same h))

  given_block : take used (first (left_in new new_last lent)) ≡ take used (first (left_in sealed last lent))
  given_block = elim (lt_or_le lent (length new)) [
    | inl h ↦ ap (take used) (block_same h)
    | inr h ↦ ap (take used) (block_last h ∙ cut.rest)
        ∙ take-take used (length (concat (left_in sealed last lent)) - excess) (concat (left_in sealed last lent)) enough
        ∙ take-concat (left_in sealed last lent) used laid.within
  ]

  given_same : given_in new new_last lent used ≡ given_in sealed last lent used
  given_same =
      ap (λ (m : List (List ℕ)). concat (take lent m) ++ take used (first (left_in new new_last lent))) cut.front
      ∙ ap (λ xs. concat xs ++ take used (first (left_in new new_last lent))) (take-take lent (length new) sealed cut.few)
      ∙ ap (λ b. concat (take lent sealed) ++ b) given_block

  pub kept-cut : kept_in new new_last lent used freed ≡ kept_in sealed last lent used freed
  kept-cut = ap (drop freed) given_same

  first_new : 0 < length new → first new ≡ first (sealed ++ last ∷ [])
  first_new more =
      ap first cut.front ∙ by (length new) sealed more (omega (arith, few_new))
    where
      by : (n : ℕ) (m : List (List ℕ)) → 0 < n → 0 < length m → first (take n m) ≡ first (m ++ last ∷ [])
      by n [] more some = absurd (omega arith)
      by zero (x ∷ m) more some = absurd (omega arith)
      by (suc n) (x ∷ m) more some = refl

  pub nearly-cut : IsNearlyLaid new new_last lent used freed
  nearly-cut = record {
    few = cut.few;
    filled = λ k h. subst (λ (m : List (List ℕ)). 0 < length (get_or m k [])) (sym cut.front)
        (subst (λ (x : List ℕ). 0 < length x) (sym (get_or-take (length new) sealed k [] h)) (laid.filled k (omega (arith, few_new))));
    within = block_within;
    part = block_part;
    given = omega (arith, laid.given, ap length given_same);
    needed = λ more some. omega (arith, laid.needed some, ap length (first_new more));
  }

  pub pieces-cut : concat (pieces_in new new_last lent used)
      ≡ take (length (concat (pieces_in sealed last lent used)) - excess) (concat (pieces_in sealed last lent used))
  pieces-cut =
      let w = concat (left_in sealed last lent) in
      let n = length (concat (pieces_in sealed last lent used)) - excess in
      let size : length w - excess ≡ used + n = omega (arith, left_before, within, laid.within, length-first-concat (left_in sealed last lent)) in
      concat-pieces new new_last lent used block_within
      ∙ ap (drop used) (cut.rest ∙ ap (λ k. take k w) size)
      ∙ drop-take used n w
      ∙ ap (take n) (sym (concat-pieces sealed last lent used laid.within))
