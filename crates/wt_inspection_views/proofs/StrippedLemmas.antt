-- A text in colours without its escape sequences.
use Rattle.std.proofs.Common.{◌≡◌, ℕ, ◌<◌, Bool, true, false, ◌||◌, cond, nat_eq, List, [], ◌∷◌, ◌++◌, length, get_or, suc, arith, refl, sym, ap, ◌∙◌, append_assoc}
use Rattle.std.specs.List.{flat_map, list_any}
use Rattle.std.specs.Str.{NoCharPasses}
use Rattle.std.proofs.lemmas.Bool.{or_from, or_parts}
use Rattle.std.proofs.lemmas.List.Concat.{flat_map-cons}
use Rattle.std.proofs.lemmas.List.Folds.{list_any-append}
use Rattle.std.proofs.lemmas.Str.{NoCharPasses-byte}
use Rattle.wt_inspection_views.specs.Characters.{needs_escape}
use Rattle.wt_inspection_views.specs.Escaped.{AreLines, ArePlain, marked_line}
use Rattle.wt_inspection_views.specs.Painting.{IsPainted, StyledWords, painted_line, plain_line, reset_of, sequence_of, without_from, without_sequences}
use Rattle.wt_inspection_views.specs.declared.painting.Style.{Style}
use Rattle.wt_inspection_views.specs.declared.painting.Style.TheVariants as style-is

abbrev is_escape : ℕ → Bool
is_escape b = nat_eq b 27

-- ---- lines have no escape character

none_is : (bytes : List ℕ) → ((i : ℕ) → i < length bytes → nat_eq (get_or bytes i 0) 27 ≡ false) → list_any is_escape bytes ≡ false
none_is [] f = refl
none_is (b ∷ bytes) f =
    or_from (is_escape b) (list_any is_escape bytes) (f 0 (omega arith)) (none_is bytes (λ i l. f (suc i) (omega (arith, l))))

not_escape : (b : ℕ) (t : Bool) → nat_eq b 27 ≡ t → (b < 128 → needs_escape b ≡ false) → t ≡ false
not_escape b false e n = refl
not_escape b true e n = grind arith

plain_has_none : (bytes : List ℕ) → NoCharPasses needs_escape bytes → list_any is_escape bytes ≡ false
plain_has_none bytes n =
    none_is bytes (λ i l. not_escape (get_or bytes i 0) (nat_eq (get_or bytes i 0) 27) refl (λ low. NoCharPasses-byte needs_escape bytes i n l low))

lines_have_none : (lines : List (List ℕ)) → ArePlain lines → list_any is_escape (flat_map marked_line lines) ≡ false
lines_have_none [] plain = refl
lines_have_none (words ∷ lines) plain =
    let line : list_any is_escape (words ++ 10 ∷ []) ≡ false =
    list_any-append is_escape words (10 ∷ []) ∙ or_from _ _ (plain_has_none words plain.0) refl in
    ap (list_any is_escape) (flat_map-cons marked_line words lines)
    ∙ (list_any-append is_escape (marked_line words) (flat_map marked_line lines)
    ∙ or_from _ _ line (lines_have_none lines plain.1))

-- ---- sequences are left out, and nothing else

words_stay : (words rest : List ℕ) → list_any is_escape words ≡ false → without_from false (words ++ rest) ≡ words ++ without_from false rest
words_stay [] rest e = refl
words_stay (b ∷ words) rest e =
    let both = or_parts (is_escape b) (list_any is_escape words) e in
    ap (λ (t : Bool). cond t (without_from true (words ++ rest)) (b ∷ without_from false (words ++ rest))) both.0
    ∙ ap (λ (l : List ℕ). b ∷ l) (words_stay words rest both.1)

sequence_goes : (style : Style) (rest : List ℕ) → without_from false (sequence_of style ++ rest) ≡ without_from false rest
sequence_goes style-is.Plain rest = refl
sequence_goes style-is.Heading rest = refl
sequence_goes style-is.Item rest = refl
sequence_goes style-is.Warning rest = refl
sequence_goes style-is.Hint rest = refl
sequence_goes style-is.Fault rest = refl

reset_goes : (style : Style) (rest : List ℕ) → without_from false (reset_of style ++ rest) ≡ without_from false rest
reset_goes style-is.Plain rest = refl
reset_goes style-is.Heading rest = refl
reset_goes style-is.Item rest = refl
reset_goes style-is.Warning rest = refl
reset_goes style-is.Hint rest = refl
reset_goes style-is.Fault rest = refl

line_stays : (line : StyledWords) (rest : List ℕ) → list_any is_escape line.words ≡ false → without_from false (painted_line line ++ rest) ≡ plain_line line ++ without_from false rest
line_stays line rest e =
    let s = sequence_of line.style in
    let r = reset_of line.style in
    let w = line.words in
    ap (without_from false) (append_assoc (s ++ w ++ r) (10 ∷ []) rest ∙ (append_assoc (s ++ w) r (10 ∷ rest) ∙ append_assoc s w (r ++ 10 ∷ rest)))
    ∙ (sequence_goes line.style (w ++ (r ++ 10 ∷ rest))
    ∙ (words_stay w (r ++ 10 ∷ rest) e
    ∙ (ap (λ (l : List ℕ). w ++ l) (reset_goes line.style (10 ∷ rest)) ∙ sym (append_assoc w (10 ∷ []) (without_from false rest)))))

lines_stay : (lines : List StyledWords) → list_any is_escape (flat_map plain_line lines) ≡ false → without_from false (flat_map painted_line lines) ≡ flat_map plain_line lines
lines_stay [] e = refl
lines_stay (line ∷ lines) e =
    let split : (list_any is_escape (plain_line line) || list_any is_escape (flat_map plain_line lines)) ≡ false =
    sym (list_any-append is_escape (plain_line line) (flat_map plain_line lines)) ∙ (sym (ap (list_any is_escape) (flat_map-cons plain_line line lines)) ∙ e) in
    let both = or_parts _ _ split in
    let words : (list_any is_escape line.words || list_any is_escape (10 ∷ [])) ≡ false =
    sym (list_any-append is_escape line.words (10 ∷ [])) ∙ both.0 in
    ap (without_from false) (flat_map-cons painted_line line lines)
    ∙ (line_stays line (flat_map painted_line lines) (or_parts _ _ words).0
    ∙ (ap (λ (l : List ℕ). plain_line line ++ l) (lines_stay lines both.1) ∙ sym (flat_map-cons plain_line line lines)))

pub stripped : (text painted : List ℕ) → AreLines text → IsPainted text painted → without_sequences painted ≡ text
stripped text painted (plain, is, are) (lines, split, shown) =
    let none : list_any is_escape (flat_map plain_line lines) ≡ false =
    ap (list_any is_escape) (sym split ∙ is) ∙ lines_have_none plain are in
    ap (without_from false) shown ∙ (lines_stay lines none ∙ sym split)
