-- Fields at their places.
use Rattle.std.proofs.Common.{◌≡◌, ℕ, zero, suc, get_or, ◌<◌, ◌+◌, ◌≤◌, List, [], ◌∷◌, ◌++◌, length, take, drop, map, refl, ap, append_assoc, length-append, arith}
use Rattle.std.proofs.lemmas.List.{take-append-le, take_at, drop_at, take_all}
use Rattle.wtp_fields.specs.FieldList.{stored, all_stored, place_after, IsWithin, AreWithin}
use Rattle.wtp_fields.specs.declared.fields.texts.Place.{Place}

-- more texts leave a field as it is
pub stored_again : (texts more : List ℕ) (places : List Place) → AreWithin (length texts) places → all_stored (texts ++ more) places ≡ all_stored texts places
stored_again texts more [] within = refl
stored_again texts more (place ∷ places) (within, others) =
    let middle : place.middle ≤ length texts = let value = within.value in let end = within.end in omega arith in
    rw (take-append-le place.middle texts more middle, take-append-le place.end texts more within.end, stored_again texts more places others) refl

pub within_more : (len more : ℕ) (places : List Place) → len ≤ more → AreWithin len places → AreWithin more places
within_more len more [] h within = tt
within_more len more (place ∷ places) h (within, others) =
    (record { name = within.name; value = within.value; end = let end = within.end in omega arith }, within_more len more places h others)

pub within_push : (len : ℕ) (place : Place) (places : List Place) → IsWithin len place → AreWithin len places → AreWithin len (places ++ place ∷ [])
within_push len place [] within all = (within, tt)
within_push len place (first ∷ places) within (one, others) = (one, within_push len place places within others)

-- the place at an index
pub within_at : (len index : ℕ) (place other : Place) (places : List Place) → AreWithin len places → index < length places → place ≡ get_or places index other → IsWithin len place
within_at len index place other [] all h e = absurd (omega (arith, h))
within_at len zero place other (first ∷ places) (one, others) h e = rw e one
within_at len (suc index) place other (first ∷ places) (one, others) h e = within_at len index place other places others (omega (arith, h)) e

map_push : {X Y : Type 0} (f : X → Y) (xs : List X) (x : X) → map f (xs ++ x ∷ []) ≡ map f xs ++ f x ∷ []
map_push f [] x = refl
map_push f (y ∷ xs) x = ap (λ z. f y ∷ z) (map_push f xs x)

-- the field whose texts are appended
new_field : (texts name value : List ℕ) → stored (texts ++ (name ++ value)) (place_after texts name value) ≡ (name, value)
new_field texts name value =
    let all : length (texts ++ (name ++ value)) ≤ length texts + length name + length value = simp length-append (omega arith) in
    let front : take (length texts + length name) (texts ++ (name ++ value)) ≡ texts ++ name = rw (← append_assoc) (take_at (texts ++ name) value _ (length-append texts name)) in
    let whole : take (length texts + length name + length value) (texts ++ (name ++ value)) ≡ texts ++ (name ++ value) = take_all _ _ all in
    let back : drop (length texts + length name) (texts ++ (name ++ value)) ≡ value = rw (← append_assoc) (drop_at (texts ++ name) value _ (length-append texts name)) in
    let middle : drop (length texts) (texts ++ name) ≡ name = drop_at texts name _ refl in
    rw (front, whole, back, middle) refl

pub appended : (texts name value : List ℕ) (places : List Place) → AreWithin (length texts) places
    → all_stored (texts ++ (name ++ value)) (places ++ place_after texts name value ∷ []) ≡ all_stored texts places ++ (name, value) ∷ []
appended texts name value places within =
    rw (map_push (stored (texts ++ (name ++ value))) places (place_after texts name value), stored_again texts (name ++ value) places within, new_field texts name value) refl

pub within_appended : (texts name value : List ℕ) (places : List Place) → AreWithin (length texts) places
    → AreWithin (length (texts ++ (name ++ value))) (places ++ place_after texts name value ∷ [])
within_appended texts name value places within =
    let all : length (texts ++ (name ++ value)) ≡ length texts + length name + length value = simp length-append (omega arith) in
    within_push _ (place_after texts name value) places (record { name = omega arith; value = omega arith; end = omega (arith, all) }) (within_more (length texts) _ places (omega (arith, all)) within)
