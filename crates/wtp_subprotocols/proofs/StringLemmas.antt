-- Strings of structured fields.
use Rattle.std.proofs.Common.{◌≡◌, ℕ, zero, suc, ◌+◌, ◌<◌, length, drop, get_or, Bor, arith, List, [], ◌∷◌, ◌++◌, map, Some, codes, refl, ap, ◌∙◌}
use Rattle.std.proofs.lemmas.List.{map_push, append_assoc}
use Rattle.wtp_subprotocols.specs.Strings.{Char, Plain, Escaped, Member, chars_then, member_then, others_bytes, char_of, string_after, written_string, last_string}

pub pushed : {X Y : Type 0} (f : X → Y) → (xs : List X) (y : X) → map f (xs ++ y ∷ []) ≡ map f xs ++ f y ∷ []
pushed f xs y = map_push f xs y

pub last_pushed : {X : Type 0} (f : X → List ℕ) → (xs : List X) (y : X) → last_string (map f (xs ++ y ∷ [])) ≡ Some (f y)
last_pushed f [] y = refl
last_pushed f (x ∷ []) y = refl
last_pushed f (x ∷ z ∷ xs) y = last_pushed f (z ∷ xs) y

-- ---- writing

chars_before : (chars : List Char) (rest : List ℕ) → chars_then chars (34 ∷ []) ++ rest ≡ chars_then chars (34 ∷ rest)
chars_before [] rest = refl
chars_before (Plain byte ∷ chars) rest = ap (λ t. byte ∷ t) (chars_before chars rest)
chars_before (Escaped byte ∷ chars) rest = ap (λ t. 92 ∷ byte ∷ t) (chars_before chars rest)

-- a written string, and what follows it
pub string_before : (value rest : List ℕ) → written_string value ++ rest ≡ member_then (string_after [] value) rest
string_before value rest = ap (λ (t : List ℕ). 34 ∷ t) (chars_before (map char_of value) rest)

-- a comma, a space and a string are the next member
pub other_before : (text value : List ℕ) (others : List Member)
    → text ++ codes ", " ++ written_string value ++ others_bytes others ≡ text ++ others_bytes (string_after (32 ∷ []) value ∷ others)
other_before text value others =
    append_assoc (text ++ 44 ∷ 32 ∷ []) (written_string value) (others_bytes others)
    ∙ ap (λ (t : List ℕ). (text ++ 44 ∷ 32 ∷ []) ++ t) (string_before value (others_bytes others))
    ∙ append_assoc text (44 ∷ 32 ∷ []) (member_then (string_after [] value) (others_bytes others))

pub other_kept : (text next value : List ℕ) (others : List (List ℕ)) (all : List ℕ) → next ≡ text ++ codes ", " ++ written_string value
    → text ++ others_bytes (map (string_after (32 ∷ [])) (value ∷ others)) ≡ all → next ++ others_bytes (map (string_after (32 ∷ [])) others) ≡ all
other_kept text next value others all e h =
    ap (λ (t : List ℕ). t ++ others_bytes (map (string_after (32 ∷ [])) others)) e ∙ other_before text value (map (string_after (32 ∷ [])) others) ∙ h

other_step_by : (text next : List ℕ) (others : List (Bor (List ℕ))) (i : ℕ) (d : Bor (List ℕ)) (all : List ℕ) → i < length others
    → next ≡ text ++ codes ", " ++ written_string (get_or others i d).now
    → text ++ others_bytes (map (string_after (32 ∷ [])) (map (λ p. p.now) (drop i others))) ≡ all
    → next ++ others_bytes (map (string_after (32 ∷ [])) (map (λ p. p.now) (drop (suc i) others))) ≡ all
other_step_by text next [] i d all h e k = absurd (omega (arith, h))
other_step_by text next (o ∷ others) zero d all h e k = other_kept text next o.now (map (λ p. p.now) others) all e k
other_step_by text next (o ∷ others) (suc i) d all h e k = other_step_by text next others i d all (omega (arith, h)) e k

pub other_step : (text next : List ℕ) (others : List (Bor (List ℕ))) (i : ℕ) (d : Bor (List ℕ)) (all : List ℕ) → i < length others
    → next ≡ text ++ codes ", " ++ written_string (get_or others i d).now
    → text ++ others_bytes (map (string_after (32 ∷ [])) (map (λ p. p.now) (drop i others))) ≡ all
    → next ++ others_bytes (map (string_after (32 ∷ [])) (map (λ p. p.now) (drop (i + 1) others))) ≡ all
other_step text next others i d all h e k = let more : suc i ≡ i + 1 = omega arith in rw more at (other_step_by text next others i d all h e k)
