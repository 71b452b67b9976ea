-- The first datagram of a session among those that are kept.
use Rattle.std.proofs.Common.{rules, refl, sym, ap, ◌∙◌, ◌≡◌, ◌<◌, ◌≤◌, ℕ, suc, take, drop, length, List, ◌∷◌, ◌++◌, Option, Some, None}
use Rattle.std.specs.List.{remove, slice_index_or}
use Rattle.std.proofs.Math.Seq.{drop-cons}
use Rattle.std.proofs.lemmas.List.{map-append, drop_all, take_all}
use Rattle.std.proofs.lemmas.Bool.{eq-eqb}
use Rattle.vesgrauf_stream.specs.declared.early.Datagram.{Datagram}
use Rattle.vesgrauf_stream.specs.Early.{kept, all_kept, takes}

-- these, and then those that another call leaves
abbrev pub put_before : List (ℕ × List ℕ)
    → Option (List ℕ) × List (ℕ × List ℕ)
    → Option (List ℕ) × List (ℕ × List ℕ)
put_before front taken = (taken.0, front ++ taken.1)

-- the first of these is one of the session
first_taken : (id : ℕ) (x : Datagram) (more : List Datagram)
    → x.session ≡ id
    → takes id (all_kept (x ∷ more)) ≡ (Some x.payload.items, all_kept more)
first_taken id x more same = rw (eq-eqb x.session id same) refl

pub taken_here : (xs : List Datagram) (i id : ℕ) (x : Datagram)
    → i < length xs
    → x ≡ slice_index_or xs i x
    → x.session ≡ id
    → put_before (all_kept (take i xs)) (takes id (all_kept (drop i xs)))
    ≡ (Some x.payload.items, all_kept (remove xs i))
taken_here xs i id x inside at same =
    let front : drop i xs ≡ x ∷ drop (suc i) xs =
    drop-cons xs i x inside ∙ ap (λ (y : Datagram). y ∷ drop (suc i) xs) (sym at) in
    let found =
    ap (λ (ys : List Datagram). takes id (all_kept ys)) front
    ∙ first_taken id x (drop (suc i) xs) same in
    ap (put_before (all_kept (take i xs))) found
    ∙ ap (λ (ys : List (ℕ × List ℕ)). (Some x.payload.items, ys))
    (sym (map-append kept (take i xs) (drop (suc i) xs)))

pub none_taken : (xs : List Datagram) (i id : ℕ)
    → length xs ≤ i
    → put_before (all_kept (take i xs)) (takes id (all_kept (drop i xs))) ≡ (None, all_kept xs)
none_taken xs i id over = rw (drop_all i xs over, take_all i xs over) (search rules)
