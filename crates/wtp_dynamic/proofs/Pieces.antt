-- The pieces of a stream, joined.
use Rattle.std.proofs.Common.{◌≡◌, ℕ, ◌+◌, ◌<◌, List, [], ◌∷◌, ◌++◌, length, take, drop, get_or, refl, sym, ◌∙◌, ap, subst, append_assoc}
use Rattle.std.specs.Borrow.{Bor}
use Rattle.std.specs.List.{flat_map}
use Rattle.std.proofs.lemmas.List.{take_more, take-append-drop, flat_map_more}
use Rattle.wtp_dynamic.specs.declared.error.EncoderStreamError.{EncoderStreamError}
use Rattle.wtp_dynamic.specs.Table.{Table}
use Rattle.wtp_dynamic.specs.Stream.{Stands, Reaches, Breaks}
use Rattle.wtp_dynamic.proofs.Streams.{stands_join, reaches_join, reaches_more, breaks_join, breaks_more}

abbrev joined : List (Bor (List ℕ)) → List ℕ
joined = flat_map (λ (piece : Bor (List ℕ)). piece.now)

joined_append : (ps qs : List (Bor (List ℕ))) → joined (ps ++ qs) ≡ joined ps ++ joined qs
joined_append [] qs = refl
joined_append (p ∷ ps) qs = ap (λ z. p.now ++ z) (joined_append ps qs) ∙ sym (append_assoc p.now (joined ps) (joined qs))

joined_more : (front : List ℕ) (ps : List (Bor (List ℕ))) (i : ℕ) (d : Bor (List ℕ)) → i < length ps → (front ++ joined (take i ps)) ++ (get_or ps i d).now ≡ front ++ joined (take (i + 1) ps)
joined_more front ps i d lt =
    flat_map_more (λ (piece : Bor (List ℕ)). piece.now) front (take i ps) (get_or ps i d) ∙ ap (λ z. front ++ joined z) (sym (take_more ps i d lt))

joined_all : (front : List ℕ) (ps : List (Bor (List ℕ))) (n : ℕ) → (front ++ joined (take n ps)) ++ joined (drop n ps) ≡ front ++ joined ps
joined_all front ps n =
    append_assoc front (joined (take n ps)) (joined (drop n ps)) ∙ ap (λ z. front ++ z) (sym (joined_append (take n ps) (drop n ps)) ∙ ap joined (take-append-drop n ps))

pub stands_piece : (s : Table) (front : List ℕ) (ps : List (Bor (List ℕ))) (i : ℕ) (d : Bor (List ℕ)) (t : Table) (held : List ℕ) (u : Table) (left : List ℕ)
    → i < length ps → Stands s (front ++ joined (take i ps)) t held → Stands t (held ++ (get_or ps i d).now) u left → Stands s (front ++ joined (take (i + 1) ps)) u left
stands_piece s front ps i d t held u left lt first second =
    let P : List ℕ → Type 0 = λ z. Stands s z u left in
    subst P (joined_more front ps i d lt) (stands_join s (front ++ joined (take i ps)) t held (get_or ps i d).now u left first second)

pub breaks_piece : (s : Table) (front : List ℕ) (ps : List (Bor (List ℕ))) (i : ℕ) (d : Bor (List ℕ)) (t : Table) (held : List ℕ) (u : Table) (e : EncoderStreamError)
    → i < length ps → Stands s (front ++ joined (take i ps)) t held → Breaks t (held ++ (get_or ps i d).now) u e → Breaks s (front ++ joined ps) u e
breaks_piece s front ps i d t held u e lt first second =
    let P : List ℕ → Type 0 = λ z. Breaks s z u e in
    let here = breaks_join s (front ++ joined (take i ps)) t held (get_or ps i d).now u e first second in
    let there : Breaks s (front ++ joined (take (i + 1) ps)) u e = subst P (joined_more front ps i d lt) here in
    subst P (joined_all front ps (i + 1)) (breaks_more s (front ++ joined (take (i + 1) ps)) (joined (drop (i + 1) ps)) u e there)

pub reaches_piece : (s : Table) (front : List ℕ) (ps : List (Bor (List ℕ))) (i : ℕ) (d : Bor (List ℕ)) (t : Table) (held : List ℕ) (u : Table)
    → i < length ps → Stands s (front ++ joined (take i ps)) t held → Reaches t (held ++ (get_or ps i d).now) u → Reaches s (front ++ joined ps) u
reaches_piece s front ps i d t held u lt first second =
    let P : List ℕ → Type 0 = λ z. Reaches s z u in
    let here = reaches_join s (front ++ joined (take i ps)) t held (get_or ps i d).now u first second in
    let there : Reaches s (front ++ joined (take (i + 1) ps)) u = subst P (joined_more front ps i d lt) here in
    subst P (joined_all front ps (i + 1)) (reaches_more s (front ++ joined (take (i + 1) ps)) (joined (drop (i + 1) ps)) u there)
