-- Parts that are written over the room, as far as they fit.
use Rattle.std.proofs.Common.{◌≡◌, ℕ, ◌+◌, ◌<◌, ◌≤◌, ◌≢◌, true, false, List, [], ◌∷◌, ◌++◌, length, take, drop, Option, Some, Result, Ok, Err, is_err, refl, sym, ap, ◌∙◌, append_assoc, append-nil, arith, length-append, length-drop}
use Rattle.std.proofs.lemmas.Bool.{lt-ltb, le-ltb}
use Rattle.std.proofs.lemmas.List.{drop-drop, take-append-drop}
use Rattle.std.proofs.Math.Seq.{take-append_seam}
use Rattle.wtp_core.specs.declared.bytes.writer.PutError.{PutError}
use Rattle.wtp_core.specs.declared.bytes.writer.PutError.TheVariants.{EndOfBuffer, Memory}
use Rattle.wtp_core.specs.Writer.{joined, PutsParts}
use Rattle.wtp_core.proofs.WriterLemmas.{LacksRoom-parts}
use Rattle.wtp_wire.specs.Settings.{settings_parts, overwritten}

-- after parts that fit
overwritten-append : (whole rest : List (List ℕ)) (place : List ℕ) → length (joined whole) ≤ length place → overwritten (whole ++ rest) place ≡ joined whole ++ overwritten rest (drop (length (joined whole)) place)
overwritten-append [] rest place fits = refl
overwritten-append (part ∷ whole) rest place fits =
    let size : length (joined (part ∷ whole)) ≡ length part + length (joined whole) = length-append part (joined whole) in
    let here : length part ≤ length place = omega arith in
    let next : length (joined whole) ≤ length (drop (length part) place) = omega (arith, length-drop (length part) place) in
    rw (le-ltb (length place) (length part) here, overwritten-append whole rest (drop (length part) place) next, size, drop-drop (length (joined whole)) (length part) place, append_assoc) refl

pub overwritten-fits : (parts : List (List ℕ)) (place : List ℕ) → length (joined parts) ≤ length place → overwritten parts place ≡ joined parts ++ drop (length (joined parts)) place
overwritten-fits parts place fits = ap (λ (x : List (List ℕ)). overwritten x place) (sym (append-nil parts)) ∙ overwritten-append parts [] place fits

-- all parts were written into a slice
pub ruleset whole_slices = (overwritten-fits, take-append-drop)

overwritten-cut : (part : List ℕ) (behind : List (List ℕ)) (place : List ℕ) → length place < length part → overwritten (part ∷ behind) place ≡ place
overwritten-cut part behind place lacks = rw (lt-ltb (length place) (length part) lacks) refl

some_is : (x y : List ℕ) → Some x ≡ Some y → x ≡ y
some_is x y e = cc

-- a slice whose start and rest are known
slice_is : (offset : ℕ) (slice last front rest : List ℕ) → last ≡ slice → take offset slice ≡ front → Some (drop offset slice) ≡ Some rest → last ≡ front ++ rest
slice_is offset slice last front rest same before behind = same ∙ sym (take-append-drop offset slice) ∙ ap (λ (x : List ℕ). x ++ drop offset slice) before ∙ ap (λ (x : List ℕ). front ++ x) (some_is (drop offset slice) rest behind)

-- those before the first that did not fit
pub slice-cut : (parts : List (List ℕ)) (e : PutError) (offset : ℕ) (slice place last : List ℕ) → last ≡ slice → length last ≡ length place → PutsParts false parts (Err e) [] (Some place) (take offset slice) (Some (drop offset slice)) → last ≡ overwritten parts place
slice-cut parts EndOfBuffer offset slice place last same size (whole, part, rest, are, front, behind, lacks) =
    let is : last ≡ joined whole ++ drop (length (joined whole)) place = slice_is offset slice last (joined whole) (drop (length (joined whole)) place) same front behind in
    let room : length (drop offset slice) ≡ length (drop (length (joined whole)) place) = ap length (some_is (drop offset slice) (drop (length (joined whole)) place) behind) in
    let fits : length (joined whole) ≤ length place = omega (arith, ap length is ∙ length-append (joined whole) (drop (length (joined whole)) place), length-drop (length (joined whole)) place) in
    is ∙ sym (ap (λ (x : List (List ℕ)). overwritten x place) are ∙ overwritten-append whole (part ∷ rest) place fits ∙ ap (λ (x : List ℕ). joined whole ++ x) (overwritten-cut part rest (drop (length (joined whole)) place) (omega arith)))
slice-cut parts Memory offset slice place last same size (whole, part, rest, are, front, behind, why) = absurd cc

-- they did not all fit
pub parts-above : (parts : List (List ℕ)) (e : PutError) (old : List ℕ) (place : List ℕ) (new : List ℕ) (left : Option (List ℕ)) → PutsParts false parts (Err e) old (Some place) new left → length place < length (joined parts)
parts-above parts EndOfBuffer old place new left h = LacksRoom-parts false parts old (Some place) new left h
parts-above parts Memory old place new left (whole, part, rest, are, front, behind, why) = let no = why.1 in absurd cc

-- the start of the room, if they all fit
pub take-overwritten : (parts : List (List ℕ)) (place : List ℕ) → length (joined parts) ≤ length place → take (length (joined parts)) (overwritten parts place) ≡ joined parts
take-overwritten parts place fits = rw (overwritten-fits parts place fits, take-append_seam (joined parts) (drop (length (joined parts)) place)) refl

-- a growing writer refuses only if there is something to write
pub parts-some : (m : List (ℕ × ℕ)) (r : Result (Unit {0}) PutError) (old new : List ℕ) (room left : Option (List ℕ)) → is_err r ≡ true → PutsParts true (settings_parts m) r old room new left → m ≢ []
parts-some m (Ok u) old new room left e h none = cc
parts-some m (Err e) old new room left is (whole, part, rest, are, front, behind, why) none = nothing whole part rest (sym (ap settings_parts none) ∙ are)
  where
    nothing : (whole : List (List ℕ)) (part : List ℕ) (rest : List (List ℕ)) → [] ≡ whole ++ part ∷ rest → ⊥
    nothing [] part rest x = cc
    nothing (w ∷ ws) part rest x = cc
