-- A section with one more line.
use Rattle.std.proofs.Common.{Result, Ok, Err, MatchResult, refl, ◌≡◌, List, [], ◌∷◌, ◌++◌, map, sym, ◌∙◌, ap, append_assoc, append-nil}
use Rattle.std.proofs.lemmas.List.{map-append}
use Rattle.std.specs.List.{flat_map}
use Rattle.wtp_qpack.specs.declared.qpack.DecodingError.{DecodingError}
use Rattle.wtp_qpack.specs.declared.qpack.DecodingError.TheVariants.{UnexpectedFin, IntegerOverflow, InvalidString, DynamicNotSupported, IndexNotfound, Memory}
use Rattle.wtp_qpack.specs.Qpack.{GivesUnlessMemory}
use Rattle.wtp_qpack.specs.Field.{Field, IsText, AreTexts}
use Rattle.wtp_qpack.specs.FieldLine.{encoded_line}
use Rattle.wtp_qpack.specs.FieldSection.{section_of}

pub section_push : {X : Type 0} (f : X → Field) (ps : List X) (p : X) → section_of (map f (ps ++ p ∷ [])) ≡ section_of (map f ps) ++ encoded_line (f p)
unfolding section_of
section_push f ps p = ap (λ z. 0 ∷ 0 ∷ z) (ap (flat_map encoded_line) (map-append f ps (p ∷ [])) ∙ all (map f ps))
  where
    all : (qs : List Field) → flat_map encoded_line (qs ++ f p ∷ []) ≡ flat_map encoded_line qs ++ encoded_line (f p)
    all [] = append-nil (encoded_line (f p))
    all (q ∷ qs) = ap (λ z. encoded_line q ++ z) (all qs) ∙ sym (append_assoc (encoded_line q) (flat_map encoded_line qs) (encoded_line (f p)))

pub texts_push : {X : Type 0} (f : X → Field) (ps : List X) (p : X) → AreTexts (map f ps) → IsText (f p).0 × IsText (f p).1 → AreTexts (map f (ps ++ p ∷ []))
texts_push f [] p h one = (one.0, one.1, tt)
texts_push f (q ∷ ps) p (name, value, others) one = (name, value, texts_push f ps p others one)

-- what is read if there is no fault, unless allocation failed
pub read_back : {M : Type 0} (view : M → List Field) (r : Result M DecodingError) (read : Result (List Field) DecodingError) (m : List Field) → read ≡ Ok m → GivesUnlessMemory view r read
    → MatchResult r (λ x. view x ≡ m) (λ e. e ≡ Memory)
read_back view (Ok x) read m e h = cc
read_back view (Err Memory) read m e h = refl
read_back view (Err UnexpectedFin) read m e h = let same = h (λ x. cc x) in cc
read_back view (Err IntegerOverflow) read m e h = let same = h (λ x. cc x) in cc
read_back view (Err InvalidString) read m e h = let same = h (λ x. cc x) in cc
read_back view (Err DynamicNotSupported) read m e h = let same = h (λ x. cc x) in cc
read_back view (Err IndexNotfound) read m e h = let same = h (λ x. cc x) in cc
