-- Writing parts in order.
use Rattle.std.proofs.Common.{◌≡◌, ℕ, ◌+◌, ◌<◌, Bool, List, [], ◌∷◌, ◌++◌, length, drop, Option, Some, None, Result, Ok, Err, refl, sym, ap, ◌∙◌, append_assoc, append-nil, arith, length-append, length-drop}
use Rattle.std.proofs.lemmas.List.{drop-drop}
use Rattle.wtp_core.specs.declared.bytes.writer.PutError.{PutError}
use Rattle.wtp_core.specs.declared.bytes.writer.PutError.TheVariants.{EndOfBuffer}
use Rattle.wtp_core.specs.Writer.{room_after, HasRoom, LacksRoom, WritesPrefix, joined, PutsParts}

room_after-zero : (room : Option (List ℕ)) → room_after room 0 ≡ room
room_after-zero None = refl
room_after-zero (Some place) = refl

room_after-room_after : (room : Option (List ℕ)) (m n : ℕ) → room_after (room_after room m) n ≡ room_after room (m + n)
room_after-room_after None m n = refl
room_after-room_after (Some place) m n = ap (λ (x : List ℕ). Some x) (drop-drop n m place)

HasRoom-more : (room : Option (List ℕ)) (m n : ℕ) → HasRoom room m → HasRoom (room_after room m) n → HasRoom room (m + n)
HasRoom-more None m n h k = tt
HasRoom-more (Some place) m n h k = omega (arith, length-drop m place)

-- writing the first part failed
pub put-none : (grows : Bool) (p : List ℕ) (ps : List (List ℕ)) (e : PutError) (old : List ℕ) (room : Option (List ℕ)) (new : List ℕ) (left : Option (List ℕ)) → WritesPrefix grows p (Err e) old room new left → PutsParts grows (p ∷ ps) (Err e) old room new left
put-none grows p ps e old room new left (same, still, why) =
    ([], p, ps, refl, same ∙ sym (append-nil old), still ∙ sym (room_after-zero room), rw still why)

-- the first part was written, and then all or some of the others
pub put-more : (grows : Bool) (p : List ℕ) (ps : List (List ℕ)) (r : Result (Unit {0}) PutError) (u : Unit {0}) (old mid new : List ℕ) (room place left : Option (List ℕ)) → WritesPrefix grows p (Ok u) old room mid place → PutsParts grows ps r mid place new left → PutsParts grows (p ∷ ps) r old room new left
put-more grows p ps (Ok v) u old mid new room place left (taken, behind, fits) (others, end, fit) = (
  others ∙ ap (λ (x : List ℕ). x ++ joined ps) taken ∙ append_assoc old p (joined ps),
  end ∙ ap (λ (x : Option (List ℕ)). room_after x (length (joined ps))) behind ∙ room_after-room_after room (length p) (length (joined ps)) ∙ ap (λ (n : ℕ). room_after room n) (sym (length-append p (joined ps))),
  rw (length-append p (joined ps)) (HasRoom-more room (length p) (length (joined ps)) fits (rw (← behind) fit)),
)
put-more grows p ps (Err e) u old mid new room place left (taken, behind, fits) (whole, part, rest, are, others, end, why) = (
  p ∷ whole,
  part,
  rest,
  ap (λ (x : List (List ℕ)). p ∷ x) are,
  others ∙ ap (λ (x : List ℕ). x ++ joined whole) taken ∙ append_assoc old p (joined whole),
  end ∙ ap (λ (x : Option (List ℕ)). room_after x (length (joined whole))) behind ∙ room_after-room_after room (length p) (length (joined whole)) ∙ ap (λ (n : ℕ). room_after room n) (sym (length-append p (joined whole))),
  why,
)

-- the only part was written, or failed
pub put-last : (grows : Bool) (p : List ℕ) (r : Result (Unit {0}) PutError) (old : List ℕ) (room : Option (List ℕ)) (new : List ℕ) (left : Option (List ℕ)) → WritesPrefix grows p r old room new left → PutsParts grows (p ∷ []) r old room new left
put-last grows p (Ok v) old room new left (taken, behind, fits) = rw (append-nil p) (taken, behind, fits)
put-last grows p (Err e) old room new left h = put-none grows p [] e old room new left h

-- if a part does not fit, neither do all of them together
pub LacksRoom-parts : (grows : Bool) (parts : List (List ℕ)) (old : List ℕ) (room : Option (List ℕ)) (new : List ℕ) (left : Option (List ℕ)) → PutsParts grows parts (Err EndOfBuffer) old room new left → LacksRoom room (length (joined parts))
LacksRoom-parts grows parts old None new left (whole, part, rest, are, others, end, why) = rw end at why
LacksRoom-parts grows parts old (Some place) new left (whole, part, rest, are, others, end, why) =
    let lacks : length (drop (length (joined whole)) place) < length part = rw end at why in
    let size : length (joined parts) ≡ length (joined whole) + (length part + length (joined rest)) = ap (λ (x : List (List ℕ)). length (joined x)) are ∙ length-joined whole (part ∷ rest) ∙ ap (λ (n : ℕ). length (joined whole) + n) (length-append part (joined rest)) in
    omega (arith, length-drop (length (joined whole)) place)
  where
    length-joined : (xs ys : List (List ℕ)) → length (joined (xs ++ ys)) ≡ length (joined xs) + length (joined ys)
    length-joined [] ys = omega arith
    length-joined (x ∷ xs) ys = omega (arith, length-append x (joined (xs ++ ys)), length-append x (joined xs), length-joined xs ys)
