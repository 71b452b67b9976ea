-- What adding bytes to blocks, sealing them and giving bytes of them does to their pieces and to what is kept.
use Rattle.std.proofs.Common.{◌≡◌, ℕ, zero, suc, ◌+◌, ◌<◌, ◌≤◌, ◌⊎◌, if◌then◌else◌, inl, inr, List, [], ◌∷◌, ◌++◌, length, take, drop, refl, sym, ap, ◌∙◌, subst, arith, get_or, length-drop, length-take, length-append, append_assoc, eq-eqb}
use Rattle.std.proofs.lemmas.List.{drop_all, drop_more, take_more, take_all, append-nil, take-append-le, drop-append-le}
use Rattle.std.proofs.lemmas.List.Folds.{concat-append}
use Rattle.std.proofs.Math.Seq.{take-add}
use Rattle.std.specs.List.{concat}
use Rattle.vesgrauf_queue.specs.Pieces.{first, onto_last, Adds, AddsBoth, after_first}
use Rattle.vesgrauf_queue.specs.Layout.{left_in, without_front, pieces_in, given_in, kept_in, IsLaid}
use Rattle.vesgrauf_queue.proofs.LayoutLemmas.{first-pieces}

-- ---- bytes at the end of the last piece

pub onto_last-append : (xs : List (List ℕ)) (last bytes : List ℕ) → onto_last (xs ++ last ∷ []) bytes ≡ xs ++ (last ++ bytes) ∷ []
onto_last-append [] last bytes = refl
onto_last-append (x ∷ []) last bytes = refl
onto_last-append (x ∷ y ∷ xs) last bytes = ap (λ zs. x ∷ zs) (onto_last-append (y ∷ xs) last bytes)

-- sealing the last block before bytes are added puts them into a piece of their own
pub adds-sealed : (old mid new : List (List ℕ)) (bytes : List ℕ)
    → (mid ≡ old) ⊎ (mid ≡ old ++ [] ∷ []) → new ≡ onto_last mid bytes → Adds old bytes new
adds-sealed old mid new bytes sealed e = elim sealed [
  | inl same ↦ inl (e ∙ ap (λ xs. onto_last xs bytes) same)
  | inr more ↦ inr (e ∙ ap (λ xs. onto_last xs bytes) more ∙ onto_last-append old [] bytes)
]

pub concat-onto_last : (xs : List (List ℕ)) (bytes : List ℕ) → concat (onto_last xs bytes) ≡ concat xs ++ bytes
concat-onto_last [] bytes = append-nil bytes
concat-onto_last (x ∷ []) bytes =
    append-nil (x ++ bytes) ∙ ap (λ b. b ++ bytes) (sym (append-nil x))
concat-onto_last (x ∷ y ∷ xs) bytes =
    ap (λ b. x ++ b) (concat-onto_last (y ∷ xs) bytes) ∙ sym (append_assoc x (concat (y ∷ xs)) bytes)

pub concat-Adds : (old new : List (List ℕ)) (bytes : List ℕ) → Adds old bytes new → concat new ≡ concat old ++ bytes
concat-Adds old new bytes added = elim added [
  | inl e ↦ ap concat e ∙ concat-onto_last old bytes
  | inr e ↦ ap concat e ∙ concat-append old (bytes ∷ []) ∙ ap (λ b. concat old ++ b) (append-nil bytes)
]

-- ---- bytes are added to the last block

take-first-added : (xs : List (List ℕ)) (last bytes : List ℕ) (used : ℕ) → used ≤ length (first (xs ++ last ∷ []))
    → take used (first (xs ++ (last ++ bytes) ∷ [])) ≡ take used (first (xs ++ last ∷ []))
take-first-added [] last bytes used within = take-append-le used last bytes within
take-first-added (x ∷ xs) last bytes used within = refl

length-first-added : (xs : List (List ℕ)) (last bytes : List ℕ)
    → length (first (xs ++ last ∷ [])) ≤ length (first (xs ++ (last ++ bytes) ∷ []))
length-first-added [] last bytes = omega (arith, length-append last bytes)
length-first-added (x ∷ xs) last bytes = omega arith

given-added : (sealed : List (List ℕ)) (last bytes : List ℕ) (lent used : ℕ) → used ≤ length (first (left_in sealed last lent))
    → given_in sealed (last ++ bytes) lent used ≡ given_in sealed last lent used
given-added sealed last bytes lent used within =
    ap (λ b. concat (take lent sealed) ++ b) (take-first-added (drop lent sealed) last bytes used within)

pub kept-added : (sealed : List (List ℕ)) (last bytes : List ℕ) (lent used freed : ℕ) → IsLaid sealed last lent used freed
    → kept_in sealed (last ++ bytes) lent used freed ≡ kept_in sealed last lent used freed
kept-added sealed last bytes lent used freed laid = ap (drop freed) (given-added sealed last bytes lent used laid.within)

pub pieces-added : (sealed : List (List ℕ)) (last bytes : List ℕ) (lent used : ℕ) → used ≤ length (first (left_in sealed last lent))
    → pieces_in sealed (last ++ bytes) lent used ≡ onto_last (pieces_in sealed last lent used) bytes
pieces-added sealed last bytes lent used within = by (drop lent sealed) within
  where
    by : (xs : List (List ℕ)) → used ≤ length (first (xs ++ last ∷ []))
        → without_front used (xs ++ (last ++ bytes) ∷ []) ≡ onto_last (without_front used (xs ++ last ∷ [])) bytes
    by [] h = ap (λ b. b ∷ []) (drop-append-le used last bytes h)
    by (x ∷ xs) h = sym (onto_last-append (drop used x ∷ xs) last bytes)

pub laid-added : (sealed : List (List ℕ)) (last bytes : List ℕ) (lent used freed : ℕ) → IsLaid sealed last lent used freed
    → IsLaid sealed (last ++ bytes) lent used freed
laid-added sealed last bytes lent used freed laid = record {
  few = laid.few;
  filled = laid.filled;
  within = omega (arith, laid.within, longer);
  part = λ h. omega (arith, laid.part h, longer);
  given = omega (arith, laid.given, ap length (given-added sealed last bytes lent used laid.within));
  needed = λ h. omega (arith, laid.needed h, length-first-added sealed last bytes);
}
  where
    longer : length (first (left_in sealed last lent)) ≤ length (first (left_in sealed (last ++ bytes) lent))
    longer = length-first-added (drop lent sealed) last bytes

-- ---- the last block is sealed, and all of it was given

given-all : (sealed : List (List ℕ)) (last : List ℕ) (lent used : ℕ) → lent ≡ length sealed → used ≡ length last
    → given_in sealed last lent used ≡ concat sealed ++ last
given-all sealed last lent used whole all =
    ap (λ xs. concat xs ++ take used (first (left_in sealed last lent))) (take_all lent sealed (omega arith))
    ∙ ap (λ xs. concat sealed ++ take used (first (xs ++ last ∷ []))) (drop_all lent sealed (omega arith))
    ∙ ap (λ b. concat sealed ++ b) (take_all used last (omega arith))

given-sealed : (sealed : List (List ℕ)) (last : List ℕ) (lent : ℕ) → lent ≡ length sealed
    → given_in (sealed ++ last ∷ []) [] (lent + 1) 0 ≡ concat sealed ++ last
given-sealed sealed last lent whole =
    ap (λ xs. concat xs ++ []) (take_all (lent + 1) (sealed ++ last ∷ []) (omega (arith, length-append sealed (last ∷ []))))
    ∙ append-nil (concat (sealed ++ last ∷ []))
    ∙ concat-append sealed (last ∷ [])
    ∙ ap (λ b. concat sealed ++ b) (append-nil last)

pub kept-sealed : (sealed : List (List ℕ)) (last : List ℕ) (lent used freed : ℕ) → lent ≡ length sealed → used ≡ length last
    → kept_in (sealed ++ last ∷ []) [] (lent + 1) 0 freed ≡ kept_in sealed last lent used freed
kept-sealed sealed last lent used freed whole all =
    ap (drop freed) (given-sealed sealed last lent whole ∙ sym (given-all sealed last lent used whole all))

filled-more : (sealed : List (List ℕ)) (last : List ℕ) → ((k : ℕ) → k < length sealed → 0 < length (get_or sealed k []))
    → 0 < length last → (k : ℕ) → k < length (sealed ++ last ∷ []) → 0 < length (get_or (sealed ++ last ∷ []) k [])
filled-more [] last filled more zero h = more
filled-more [] last filled more (suc k) h = absurd (omega arith)
filled-more (x ∷ xs) last filled more zero h = filled 0 (omega arith)
filled-more (x ∷ xs) last filled more (suc k) h =
    filled-more xs last (λ j l. filled (suc j) (omega arith)) more k (omega arith)

first-append : (xs : List (List ℕ)) (a : List ℕ) (ys : List (List ℕ)) → first ((xs ++ a ∷ []) ++ ys) ≡ first (xs ++ a ∷ [])
first-append [] a ys = refl
first-append (x ∷ xs) a ys = refl

pub laid-sealed : (sealed : List (List ℕ)) (last : List ℕ) (lent used freed : ℕ) → lent ≡ length sealed → used ≡ length last
    → 0 < length last → IsLaid sealed last lent used freed → IsLaid (sealed ++ last ∷ []) [] (lent + 1) 0 freed
laid-sealed sealed last lent used freed whole all more laid = record {
  few = omega (arith, length-append sealed (last ∷ []));
  filled = filled-more sealed last laid.filled more;
  within = omega arith;
  part = λ h. absurd (omega (arith, length-append sealed (last ∷ [])));
  given = omega (arith, laid.given, ap length (given-sealed sealed last lent whole ∙ sym (given-all sealed last lent used whole all)));
  needed = λ h. omega (arith, laid.needed h, ap length (first-append sealed last ([] ∷ [])));
}

-- ---- bytes are given

pub kept-given : (sealed : List (List ℕ)) (last : List ℕ) (lent used freed n : ℕ) → freed ≤ length (given_in sealed last lent used)
    → kept_in sealed last lent (used + n) freed
    ≡ kept_in sealed last lent used freed ++ take n (first (pieces_in sealed last lent used))
kept-given sealed last lent used freed n given =
    ap (λ b. drop freed (concat (take lent sealed) ++ b)) (take-add used n (first (left_in sealed last lent)))
    ∙ ap (drop freed) (sym (append_assoc (concat (take lent sealed)) (take used (first (left_in sealed last lent))) (take n (drop used (first (left_in sealed last lent))))))
    ∙ drop-append-le freed (given_in sealed last lent used) (take n (drop used (first (left_in sealed last lent)))) given
    ∙ ap (λ b. kept_in sealed last lent used freed ++ take n b) (sym (first-pieces sealed last lent used))

-- the block that is given whole
pub first-left : (sealed : List (List ℕ)) (last : List ℕ) (i : ℕ) → i < length sealed → first (left_in sealed last i) ≡ get_or sealed i []
first-left sealed last i within = ap (λ xs. first (xs ++ last ∷ [])) (drop_more sealed i [] within)

given-whole : (sealed : List (List ℕ)) (last : List ℕ) (lent : ℕ) → lent < length sealed
    → given_in sealed last (lent + 1) 0 ≡ given_in sealed last lent (length (first (left_in sealed last lent)))
given-whole sealed last lent within =
    append-nil (concat (take (lent + 1) sealed))
    ∙ ap concat (take_more sealed lent [] within)
    ∙ concat-append (take lent sealed) (get_or sealed lent [] ∷ [])
    ∙ ap (λ b. concat (take lent sealed) ++ b) (append-nil (get_or sealed lent []) ∙ sym (first-left sealed last lent within)
    ∙ sym (take_all (length (first (left_in sealed last lent))) (first (left_in sealed last lent)) (omega arith)))

pub kept-given-whole : (sealed : List (List ℕ)) (last : List ℕ) (lent used freed n : ℕ) → lent < length sealed
    → freed ≤ length (given_in sealed last lent used) → used + n ≡ length (first (left_in sealed last lent))
    → kept_in sealed last (lent + 1) 0 freed
    ≡ kept_in sealed last lent used freed ++ take n (first (pieces_in sealed last lent used))
kept-given-whole sealed last lent used freed n within given all =
    ap (drop freed) (given-whole sealed last lent within)
    ∙ ap (λ u. kept_in sealed last lent u freed) (sym all)
    ∙ kept-given sealed last lent used freed n given

length-given : (sealed : List (List ℕ)) (last : List ℕ) (lent used n : ℕ) → used + n ≡ length (first (left_in sealed last lent))
    → length (given_in sealed last lent used) ≤ length (given_in sealed last lent (length (first (left_in sealed last lent))))
length-given sealed last lent used n all =
    let x = first (left_in sealed last lent) in
    omega (
      arith,
      length-append (concat (take lent sealed)) (take used x),
      length-append (concat (take lent sealed)) (take (length x) x),
      length-take used x,
      length-take (length x) x,
    )

pub laid-given-whole : (sealed : List (List ℕ)) (last : List ℕ) (lent used freed n : ℕ) → lent < length sealed
    → used + n ≡ length (first (left_in sealed last lent)) → IsLaid sealed last lent used freed → IsLaid sealed last (lent + 1) 0 freed
laid-given-whole sealed last lent used freed n within all laid = record {
  few = omega arith;
  filled = laid.filled;
  within = omega arith;
  part = λ h. omega (arith, laid.filled (lent + 1) h, ap length (first-left sealed last (lent + 1) h));
  given = omega (arith, laid.given, length-given sealed last lent used n all, ap length (given-whole sealed last lent within));
  needed = laid.needed;
}

pub after_first-whole : (n : ℕ) (x y : List ℕ) (xs : List (List ℕ)) → n ≡ length x → after_first n (x ∷ y ∷ xs) ≡ y ∷ xs
after_first-whole n x y xs e = ap (λ t. if t then y ∷ xs else drop n x ∷ y ∷ xs) (eq-eqb n (length x) e)

pub pieces-given-whole : (sealed : List (List ℕ)) (last : List ℕ) (lent used n : ℕ) → lent < length sealed
    → used + n ≡ length (first (left_in sealed last lent))
    → pieces_in sealed last (lent + 1) 0 ≡ after_first n (pieces_in sealed last lent used)
pieces-given-whole sealed last lent used n within all =
    by (drop (lent + 1) sealed) (first (left_in sealed last lent)) all
    ∙ ap (λ xs. after_first n (without_front used (xs ++ last ∷ [])))
    (ap (λ b. b ∷ drop (lent + 1) sealed) (first-left sealed last lent within) ∙ sym (drop_more sealed lent [] within))
  where
    by : (xs : List (List ℕ)) (x : List ℕ) → used + n ≡ length x
        → without_front 0 (xs ++ last ∷ []) ≡ after_first n (without_front used ((x ∷ xs) ++ last ∷ []))
    by [] x e = sym (after_first-whole n (drop used x) last [] (omega (arith, length-drop used x)))
    by (y ∷ xs) x e = sym (after_first-whole n (drop used x) y (xs ++ last ∷ []) (omega (arith, length-drop used x)))

-- ---- a whole block is sealed after the last one, which is empty

pub pieces-block : (sealed : List (List ℕ)) (block : List ℕ) (lent used : ℕ) → lent ≤ length sealed
    → used ≤ length (first (left_in sealed [] lent))
    → pieces_in (sealed ++ block ∷ []) [] lent used ≡ onto_last (pieces_in sealed [] lent used) block ++ [] ∷ []
pieces-block sealed block lent used few within =
    ap (λ xs. without_front used (xs ++ [] ∷ [])) (drop-append-le lent sealed (block ∷ []) few) ∙ by (drop lent sealed) used within
  where
    by : (xs : List (List ℕ)) (used : ℕ) → used ≤ length (first (xs ++ [] ∷ []))
        → without_front used ((xs ++ block ∷ []) ++ [] ∷ []) ≡ onto_last (without_front used (xs ++ [] ∷ [])) block ++ [] ∷ []
    by [] zero h = refl
    by [] (suc used) h = absurd (omega arith)
    by (x ∷ xs) used h = ap (λ ys. ys ++ [] ∷ []) (sym (onto_last-append (drop used x ∷ xs) [] block))

pub adds-block : (old m1 mid m3 new : List (List ℕ)) (head block : List ℕ)
    → (m1 ≡ old) ⊎ (m1 ≡ old ++ [] ∷ []) → mid ≡ onto_last m1 (head ++ [])
    → (m3 ≡ mid) ⊎ (m3 ≡ mid ++ [] ∷ []) → new ≡ onto_last m3 block ++ [] ∷ []
    → AddsBoth old head block new
adds-block old m1 mid m3 new head block room head_added sealed whole = (
  mid,
  onto_last m3 block,
  adds-sealed old m1 mid head room (head_added ∙ ap (onto_last m1) (append-nil head)),
  adds-sealed mid m3 (onto_last m3 block) block sealed refl,
  inr whole,
)

-- the first block that was not given whole is the same, or the new one if there was none
take-first-block : (xs : List (List ℕ)) (block : List ℕ) (used : ℕ) → used ≤ length (first (xs ++ [] ∷ []))
    → take used (first ((xs ++ block ∷ []) ++ [] ∷ [])) ≡ take used (first (xs ++ [] ∷ []))
take-first-block [] block zero within = refl
take-first-block [] block (suc used) within = absurd (omega arith)
take-first-block (x ∷ xs) block used within = refl

given-block : (sealed : List (List ℕ)) (block : List ℕ) (lent used : ℕ) → lent ≤ length sealed
    → used ≤ length (first (left_in sealed [] lent))
    → given_in (sealed ++ block ∷ []) [] lent used ≡ given_in sealed [] lent used
given-block sealed block lent used few within =
    ap (λ xs. concat xs ++ take used (first (left_in (sealed ++ block ∷ []) [] lent))) (take-append-le lent sealed (block ∷ []) few)
    ∙ ap (λ xs. concat (take lent sealed) ++ take used (first (xs ++ [] ∷ []))) (drop-append-le lent sealed (block ∷ []) few)
    ∙ ap (λ b. concat (take lent sealed) ++ b) (take-first-block (drop lent sealed) block used within)

pub kept-block : (sealed : List (List ℕ)) (block : List ℕ) (lent used freed : ℕ) → lent ≤ length sealed
    → used ≤ length (first (left_in sealed [] lent))
    → kept_in (sealed ++ block ∷ []) [] lent used freed ≡ kept_in sealed [] lent used freed
kept-block sealed block lent used freed few within = ap (drop freed) (given-block sealed block lent used few within)

pub laid-block : (sealed : List (List ℕ)) (block : List ℕ) (lent used freed : ℕ) → 0 < length block
    → IsLaid sealed [] lent used freed → IsLaid (sealed ++ block ∷ []) [] lent used freed
laid-block sealed block lent used freed filled laid = record {
  few = omega (arith, laid.few, length-append sealed (block ∷ []));
  filled = filled-more sealed block laid.filled filled;
  within = omega (arith, first_used);
  part = λ h. first_used;
  given = omega (arith, laid.given, ap length (given-block sealed block lent used laid.few laid.within));
  needed = λ h. first_freed sealed (laid.needed h);
}
  where
    by : (xs : List (List ℕ)) → used ≤ length (first (xs ++ [] ∷ [])) → (0 < length xs → used < length (first (xs ++ [] ∷ [])))
        → used < length (first ((xs ++ block ∷ []) ++ [] ∷ []))
    by [] within part = omega (arith, within, filled)
    by (x ∷ xs) within part = part (omega arith)

    first_used : used < length (first (left_in (sealed ++ block ∷ []) [] lent))
    first_used =
        subst (λ (xs : List (List ℕ)). used < length (first (xs ++ [] ∷ []))) (sym (drop-append-le lent sealed (block ∷ []) laid.few))
        (by (drop lent sealed) laid.within (λ h. laid.part (omega (arith, h, length-drop lent sealed))))

    first_freed : (m : List (List ℕ)) → freed < length (first (m ++ [] ∷ [])) → freed < length (first ((m ++ block ∷ []) ++ [] ∷ []))
    first_freed [] h = absurd (omega (arith, h))
    first_freed (x ∷ xs) h = h

-- ---- a head and bytes after it

concat-whole : (whole new : List (List ℕ)) → (new ≡ whole) ⊎ (new ≡ whole ++ [] ∷ []) → concat new ≡ concat whole
concat-whole whole new e = elim e [
  | inl same ↦ ap concat same
  | inr more ↦ ap concat more ∙ concat-append whole ([] ∷ []) ∙ append-nil (concat whole)
]

pub concat-AddsBoth : (old new : List (List ℕ)) (head bytes : List ℕ) → AddsBoth old head bytes new
    → concat new ≡ concat old ++ (head ++ bytes)
concat-AddsBoth old new head bytes added =
    concat-whole added.1 new added.4
    ∙ concat-Adds added.0 added.1 bytes added.3
    ∙ ap (λ b. b ++ bytes) (concat-Adds old added.0 head added.2)
    ∙ append_assoc (concat old) head bytes

length-onto_last : (xs : List (List ℕ)) (bytes : List ℕ) → 0 < length (onto_last xs bytes)
length-onto_last [] bytes = omega arith
length-onto_last (x ∷ []) bytes = omega arith
length-onto_last (x ∷ y ∷ xs) bytes = omega arith

-- ---- a head and bytes after it that are copied

onto_last-cons : (x : List ℕ) (xs : List (List ℕ)) (bytes : List ℕ) → 0 < length xs → onto_last (x ∷ xs) bytes ≡ x ∷ onto_last xs bytes
onto_last-cons x [] bytes more = absurd (omega arith)
onto_last-cons x (y ∷ xs) bytes more = refl

onto_last-twice : (xs : List (List ℕ)) (head bytes : List ℕ) → onto_last (onto_last xs head) bytes ≡ onto_last xs (head ++ bytes)
onto_last-twice [] head bytes = refl
onto_last-twice (x ∷ []) head bytes = ap (λ b. b ∷ []) (append_assoc x head bytes)
onto_last-twice (x ∷ y ∷ xs) head bytes =
    onto_last-cons x (onto_last (y ∷ xs) head) bytes (length-onto_last (y ∷ xs) head)
    ∙ ap (λ zs. x ∷ zs) (onto_last-twice (y ∷ xs) head bytes)

pub adds-both : (old new : List (List ℕ)) (head bytes : List ℕ) → Adds old (head ++ bytes) new → AddsBoth old head bytes new
adds-both old new head bytes added = elim added [
  | inl e ↦ (onto_last old head, new, inl refl, inl (e ∙ sym (onto_last-twice old head bytes)), inl refl)
  | inr e ↦ (old ++ head ∷ [], new, inr refl, inl (e ∙ sym (onto_last-append old head bytes)), inl refl)
]
