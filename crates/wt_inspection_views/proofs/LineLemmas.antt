-- The number of lines in a text.
use Rattle.std.proofs.Common.{arith, suc, ◌≡◌, ℕ, ◌+◌, ◌<◌, ◌^◌, Bool, true, false, cond, nat_eq, List, [], ◌∷◌, ◌++◌, get_or, length, Result, Ok, Err, is_ok, IfOk, OnErr, inl, refl, sym, subst, ap, ap₂, ◌∙◌}
use Rattle.wt_inspection_views.specs.Characters.{needs_escape}
use Rattle.std.specs.Str.{NoCharPasses}
use Rattle.std.proofs.lemmas.List.Sums.{sum_by-append}
use Rattle.std.proofs.lemmas.Str.{NoCharPasses-byte}
use Rattle.wt_inspection_views.specs.Escaped.{AddsLine, AreLines, IsLine, line_mark, marked_line}
use Rattle.wt_inspection_views.specs.Escaped.{line_count}
use Rattle.wt_inspection_views.proofs.CleanLemmas.{AreLines-clean, AreLines-pushed, no_escape-clean, no_escape-plain}
use Rattle.std.proofs.lemmas.List.Sums.{sum_by-cons}

no_feeds : (bytes : List ℕ) → ((i : ℕ) → i < length bytes → nat_eq (get_or bytes i 0) 10 ≡ false) → line_count bytes ≡ 0
no_feeds [] f = refl
no_feeds (b ∷ bytes) f =
    let first : nat_eq b 10 ≡ false = f 0 (omega arith) in
    sum_by-cons (λ (c : ℕ). cond (nat_eq c 10) 1 0) b bytes ∙ ap₂ (λ (x y : ℕ). x + y) (ap (λ (t : Bool). cond t 1 0) first) (no_feeds bytes (λ i l. f (suc i) (omega (arith, l))))

not_feed : (b : ℕ) (t : Bool) → nat_eq b 10 ≡ t → (b < 128 → needs_escape b ≡ false) → t ≡ false
not_feed b false e n = refl
not_feed b true e n = grind arith

no_feeds-no_escape : (bytes : List ℕ) → NoCharPasses needs_escape bytes → line_count bytes ≡ 0
no_feeds-no_escape bytes n = no_feeds bytes (λ i l. not_feed (get_or bytes i 0) (nat_eq (get_or bytes i 0) 10) refl (λ low. NoCharPasses-byte needs_escape bytes i n l low))

pub line_count-line : (words line : List ℕ) → ((k : ℕ) → get_or words k 0 < 2 ^ 8) → IsLine words line → line_count line ≡ 1
line_count-line words line fits l =
    let is_feed = λ (c : ℕ). cond (nat_eq c 10) 1 0 in
    let more = sum_by-append is_feed l.0 (10 ∷ []) in
    let free = no_feeds-no_escape l.0 (no_escape-plain words l.0 fits l.1) in
    let one : line_count (l.0 ++ 10 ∷ []) ≡ 1 = more ∙ ap (λ (x : ℕ). x + 1) free in
    ap line_count l.2 ∙ (sum_by-append is_feed line_mark (l.0 ++ 10 ∷ []) ∙ ap (λ (x : ℕ). line_count line_mark + x) one)

pub line_count-pushed : {A E : Type 0} (old new line : List ℕ) (r : Result A E) → line_count line ≡ 1 → new ≡ cond (is_ok r) (old ++ line) old → IfOk r (λ _. line_count new ≡ line_count old + 1)
line_count-pushed old new line (Ok a) one e =
    ap line_count e ∙ (sum_by-append (λ (c : ℕ). cond (nat_eq c 10) 1 0) old line ∙ ap (λ (x : ℕ). line_count old + x) one)
line_count-pushed old new line (Err e) one k = tt

-- ---- a line that was appended, unless allocation failed

pub plain_line : (words : List ℕ) → NoCharPasses needs_escape words → IsLine words (marked_line words)
plain_line words none = (words, inl (refl, none), refl)

pub adds_lines : {A E : Type 0} (old new words : List ℕ) (r : Result A E) → ((k : ℕ) → get_or words k 0 < 2 ^ 8) → AreLines old → IfOk r (λ _. AddsLine words old new) → OnErr r (new ≡ old) → AreLines new
adds_lines old new words (Ok a) fits are (line, is, e) kept = AreLines-pushed old new words line true fits are is e
adds_lines old new words (Err e) fits are added kept = subst AreLines (sym kept) are

pub adds_one : {A E : Type 0} (old new words : List ℕ) (r : Result A E) → ((k : ℕ) → get_or words k 0 < 2 ^ 8) → IfOk r (λ _. AddsLine words old new) → IfOk r (λ _. line_count new ≡ line_count old + 1)
adds_one old new words (Ok a) fits (line, is, e) = line_count-pushed {A = ℕ} {E = ℕ} old new line (Ok 0) (line_count-line words line fits is) e
adds_one old new words (Err e) fits added = tt

-- ---- the same for words of which no character needs an escape

line_count-clean : (words line : List ℕ) → NoCharPasses needs_escape words → IsLine words line → line_count line ≡ 1
line_count-clean words line clean l =
    let is_feed = λ (c : ℕ). cond (nat_eq c 10) 1 0 in
    let more = sum_by-append is_feed l.0 (10 ∷ []) in
    let free = no_feeds-no_escape l.0 (no_escape-clean words l.0 clean l.1) in
    let one : line_count (l.0 ++ 10 ∷ []) ≡ 1 = more ∙ ap (λ (x : ℕ). x + 1) free in
    ap line_count l.2 ∙ (sum_by-append is_feed line_mark (l.0 ++ 10 ∷ []) ∙ ap (λ (x : ℕ). line_count line_mark + x) one)

pub adds_clean_lines : {A E : Type 0} (old new words : List ℕ) (r : Result A E) → NoCharPasses needs_escape words → AreLines old → IfOk r (λ _. AddsLine words old new) → OnErr r (new ≡ old) → AreLines new
adds_clean_lines old new words (Ok a) clean are (line, is, e) kept = subst AreLines (sym e) (AreLines-clean old words line clean are is)
adds_clean_lines old new words (Err e) clean are added kept = subst AreLines (sym kept) are

pub adds_one_clean : {A E : Type 0} (old new words : List ℕ) (r : Result A E) → NoCharPasses needs_escape words → IfOk r (λ _. AddsLine words old new) → IfOk r (λ _. line_count new ≡ line_count old + 1)
adds_one_clean old new words (Ok a) clean (line, is, e) = line_count-pushed {A = ℕ} {E = ℕ} old new line (Ok 0) (line_count-clean words line clean is) e
adds_one_clean old new words (Err e) clean added = tt
