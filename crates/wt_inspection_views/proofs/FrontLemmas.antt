-- Only the first bytes of a text were appended.
use Rattle.std.proofs.Common.{◌≡◌, ℕ, ◌<◌, List, [], ◌++◌, append_assoc, append-nil, length, get_or, take, drop, drop-cons, suc, refl, sym, ap, ◌∙◌, inl, inr, cond, is_ok, Result, Ok, Err}
use Rattle.std.specs.Prelude.{OnErr}
use Rattle.std.specs.List.{flat_map}
use Rattle.std.proofs.lemmas.Grind.{flat_map-append}
use Rattle.std.proofs.lemmas.List.{take-append-drop}
use Rattle.std.proofs.lemmas.List.Concat.{flat_map-cons}
use Rattle.wt_inspection_views.specs.Escaped.{AddsFront, AppendsFront, IsPlainText, escaped_byte}

pub front_none : (bytes old new : List ℕ) → new ≡ old → AppendsFront bytes old new
front_none bytes old new e = ([], bytes, refl, e ∙ sym (append-nil old))

split_at : (f : ℕ → List ℕ) (bytes : List ℕ) (i : ℕ) → i < length bytes → flat_map f bytes ≡ flat_map f (take i bytes) ++ (f (get_or bytes i 0) ++ flat_map f (drop (suc i) bytes))
split_at f bytes i h =
    ap (flat_map f) (sym (take-append-drop i bytes))
    ∙ (flat_map-append f (take i bytes) (drop i bytes)
    ∙ ap (λ (l : List ℕ). flat_map f (take i bytes) ++ l) (ap (flat_map f) (drop-cons bytes i 0 h) ∙ flat_map-cons f (get_or bytes i 0) (drop (suc i) bytes)))

-- after those of earlier bytes
pub front_later : (f : ℕ → List ℕ) (bytes old mid new : List ℕ) (i : ℕ) → i < length bytes → mid ≡ old ++ flat_map f (take i bytes) → AppendsFront (f (get_or bytes i 0)) mid new → AppendsFront (flat_map f bytes) old new
front_later f bytes old mid new i h e (front, rest, is, grown) =
    let before = flat_map f (take i bytes) in
    let after = flat_map f (drop (suc i) bytes) in (
      before ++ front,
      rest ++ after,
      split_at f bytes i h ∙ (ap (λ (l : List ℕ). before ++ (l ++ after)) is ∙ (ap (λ (l : List ℕ). before ++ l) (append_assoc front rest after) ∙ sym (append_assoc before front (rest ++ after)))),
      grown ∙ (ap (λ (l : List ℕ). l ++ front) e ∙ append_assoc old before front),
    )

-- what holds anyway holds after an error
pub on_err : {A E : Type 0} (r : Result A E) (P : Type 0) → P → OnErr r P
on_err (Ok x) P p = tt
on_err (Err e) P p = p

pub plain_front : {A E : Type 0} (r : Result A E) (bytes text old new : List ℕ) → IsPlainText bytes → new ≡ cond (is_ok r) (old ++ text) old → OnErr r (AddsFront bytes old new)
plain_front (Ok x) bytes text old new plain e = tt
plain_front (Err x) bytes text old new plain e = (bytes, inl (refl, plain), front_none bytes old new e)

pub escaped_front : {A E : Type 0} (r : Result A E) (bytes old new : List ℕ) → (IsPlainText bytes → ⊥) → OnErr r (AppendsFront (flat_map escaped_byte bytes) old new) → OnErr r (AddsFront bytes old new)
escaped_front (Ok x) bytes old new other h = tt
escaped_front (Err x) bytes old new other h = (flat_map escaped_byte bytes, inr (refl, other), h)
