-- Lines of JSON whose members after the first are those of another line.
use Rattle.std.proofs.Common.{arith, ◌≡◌, ℕ, ◌<◌, ◌≤◌, ◌^◌, true, false, List, [], ◌∷◌, ◌++◌, append_assoc, IsAscii, decimal, codes, drop, fold, length, length-append, IfOk, OnOk, Result, Ok, Err, refl, sym, ap, subst, ◌∙◌}
use Rattle.std.specs.Str.{IsUtf8}
use Rattle.std.proofs.lemmas.Str.{IsUtf8-append, IsUtf8-drop, IsCharBoundary-after_ascii, IsUtf8-from_ascii}
use Rattle.json.specs.Token.{Token, begin_object, end_object, begin_array, end_array, key, string, number, boolean, null, bad}
use Rattle.json.specs.Print.{print, print_from, escape_byte, ArePrintable, ArePrintableOrBad, IsPrintable, IsPrintableOrBad}
use Rattle.json.proofs.Numbered.{ArePrintableOrBad-tokens}
use Rattle.json.proofs.Printed.Decimals.{IsNumber-decimal}
use Rattle.json.proofs.Printed.Tokens.{tokens-print}
use Rattle.json.proofs.Printed.Utf8.{IsUtf8-are_ascii}
use Rattle.wt_inspection_views.specs.JsonLines.{CompletesLine, IsJsonLine, IsObject, Place, ReadsBack, with_comma, placed_line, next_place}
use Rattle.wt_inspection_views.specs.JsonLines.{start, in_object, after_name, in_array, done, wrong, first_place}

wrong_stays : (ts : List Token) → fold next_place wrong ts ≡ wrong
wrong_stays [] = refl
wrong_stays (t ∷ ts) = wrong_stays ts

not_done : wrong ≡ done → ⊥
not_done e = cc e

never : (ts : List Token) → fold next_place wrong ts ≡ done → ⊥
never ts e = not_done (sym (wrong_stays ts) ∙ e)

-- ---- what an object consists of can be printed

bad_is_wrong : (p : Place) → next_place p bad ≡ wrong
bad_is_wrong start = refl
bad_is_wrong (in_object outer) = refl
bad_is_wrong (after_name outer) = refl
bad_is_wrong (in_array outer) = refl
bad_is_wrong done = refl
bad_is_wrong wrong = refl

printable_one : (p : Place) (t : Token) (ts : List Token) → fold next_place (next_place p t) ts ≡ done → IsPrintableOrBad t → IsPrintable t
printable_one p begin_object ts e h = tt
printable_one p end_object ts e h = tt
printable_one p begin_array ts e h = tt
printable_one p end_array ts e h = tt
printable_one p (key s) ts e h = tt
printable_one p (string s) ts e h = tt
printable_one p (number s) ts e h = h
printable_one p (boolean b) ts e h = tt
printable_one p null ts e h = tt
printable_one p bad ts e h = never ts (subst (λ q. fold next_place q ts ≡ done) (bad_is_wrong p) e)

printable_all : (p : Place) (ts : List Token) → fold next_place p ts ≡ done → ArePrintableOrBad ts → ArePrintable ts
unfolding ArePrintable
printable_all p [] e h = tt
printable_all p (t ∷ ts) e h = (printable_one p t ts e h.0, printable_all (next_place p t) ts e h.1)

printable_object : (ts : List Token) → ReadsBack ts → IsObject ts → ArePrintable ts
printable_object ts reads is = printable_all start ts is (subst ArePrintableOrBad reads.0 (ArePrintableOrBad-tokens (print ts)))

-- ---- the members of an object

-- an object begins with its brace
first_token : (t : Token) (ts : List Token) → fold next_place (first_place t) ts ≡ done → t ≡ begin_object
first_token begin_object ts e = refl
first_token end_object ts e = absurd (never ts e)
first_token begin_array ts e = absurd (never ts e)
first_token end_array ts e = absurd (never ts e)
first_token (key s) ts e = absurd (never ts e)
first_token (string s) ts e = absurd (never ts e)
first_token (number s) ts e = absurd (never ts e)
first_token (boolean b) ts e = absurd (never ts e)
first_token null ts e = absurd (never ts e)
first_token bad ts e = absurd (never ts e)

-- they are the members after another one
more_members : (ts : List Token) → fold next_place (in_object []) ts ≡ done → with_comma (print_from false ts ++ 10 ∷ []) ≡ print_from true ts ++ 10 ∷ []
unfolding print_from
more_members [] e = absurd (cc e)
more_members (begin_object ∷ ts) e = absurd (never ts e)
more_members (end_object ∷ ts) e = refl
more_members (begin_array ∷ ts) e = absurd (never ts e)
more_members (end_array ∷ ts) e = absurd (never ts e)
more_members (key s ∷ ts) e = refl
more_members (string s ∷ ts) e = absurd (never ts e)
more_members (number s ∷ ts) e = absurd (never ts e)
more_members (boolean b ∷ ts) e = absurd (never ts e)
more_members (null ∷ ts) e = absurd (never ts e)
more_members (bad ∷ ts) e = absurd (never ts e)

more_utf8 : (ts : List Token) → fold next_place (in_object []) ts ≡ done → IsUtf8 (print_from false ts) → IsUtf8 (print_from true ts)
unfolding print_from
more_utf8 [] e u = absurd (cc e)
more_utf8 (begin_object ∷ ts) e u = absurd (never ts e)
more_utf8 (end_object ∷ ts) e u = u
more_utf8 (begin_array ∷ ts) e u = absurd (never ts e)
more_utf8 (end_array ∷ ts) e u = absurd (never ts e)
more_utf8 (key s ∷ ts) e u = IsUtf8-append (44 ∷ []) _ (IsUtf8-are_ascii (44 ∷ []) refl) u
more_utf8 (string s ∷ ts) e u = absurd (never ts e)
more_utf8 (number s ∷ ts) e u = absurd (never ts e)
more_utf8 (boolean b ∷ ts) e u = absurd (never ts e)
more_utf8 (null ∷ ts) e u = absurd (never ts e)
more_utf8 (bad ∷ ts) e u = absurd (never ts e)

print_brace : (ts : List Token) → print (begin_object ∷ ts) ≡ 123 ∷ print_from false ts
unfolding print_from
print_brace ts = refl

tail_utf8 : (bytes : List ℕ) → IsUtf8 (123 ∷ bytes) → IsUtf8 bytes
tail_utf8 bytes u = IsUtf8-drop (123 ∷ bytes) 1 u (IsCharBoundary-after_ascii (123 ∷ bytes) 0 u (omega arith) (omega arith))

printable_tail : (t : Token) (ts : List Token) → ArePrintable (t ∷ ts) → ArePrintable ts
unfolding ArePrintable
printable_tail t ts h = h.1

pub some_line : (line : List ℕ) → IsJsonLine line → 1 ≤ length line
some_line line (ts, e, reads, is) = omega (arith, ap length e, length-append (print ts) (10 ∷ []))

pub completes : (line : List ℕ) → IsJsonLine line → CompletesLine (with_comma (drop 1 line))
completes line ([], e, reads, is) = absurd (cc is)
completes line (t ∷ ts, e, reads, is) =
    let first = first_token t ts is in
    let is_object : fold next_place (in_object []) ts ≡ done = subst (λ u. fold next_place (first_place u) ts ≡ done) first is in
    let text : line ≡ 123 ∷ (print_from false ts ++ 10 ∷ []) = e ∙ ap (λ bytes. bytes ++ 10 ∷ []) (ap (λ u. print (u ∷ ts)) first ∙ print_brace ts) in
    let utf8 : IsUtf8 (123 ∷ print_from false ts) = subst IsUtf8 (ap (λ u. print (u ∷ ts)) first ∙ print_brace ts) reads.1 in (
      ts,
      ap (λ (l : List ℕ). with_comma (drop 1 l)) text ∙ more_members ts is_object,
      more_utf8 ts is_object (tail_utf8 _ utf8),
      printable_tail t ts (printable_object (t ∷ ts) reads is),
      is_object,
    )

pub completed : {A E : Type 0} (r : Result A E) (items : A → List ℕ) (line : List ℕ) → IsJsonLine line → IfOk r (λ rest. items rest ≡ with_comma (drop 1 line)) → IfOk r (λ rest. CompletesLine (items rest))
completed (Ok rest) items line is e = subst CompletesLine (sym e) (completes line is)
completed (Err x) items line is e = tt

-- ---- a line with another first member

abbrev placed_tokens : ℕ → List Token → List Token
placed_tokens at rest = begin_object ∷ key (codes "at") ∷ number (decimal at) ∷ rest

print_placed : (at : ℕ) (rest : List Token) → print (placed_tokens at rest) ≡ placed_line at (print_from true rest)
unfolding print_from escape_byte
print_placed at rest = refl

printable_placed : (at : ℕ) (rest : List Token) → at < 2 ^ 64 → ArePrintable rest → ArePrintable (placed_tokens at rest)
unfolding ArePrintable
printable_placed at rest fits h = (tt, (tt, (IsNumber-decimal at fits, h)))

pub placed : (at : ℕ) (rest : List ℕ) → at < 2 ^ 64 → IsAscii (decimal at) → CompletesLine rest → IsJsonLine (placed_line at rest)
placed at rest fits ascii (ts, e, utf8, printable, is) =
    let all = placed_tokens at ts in
    let same = print_placed at ts in (
      all,
      ap (placed_line at) e ∙ (ap (λ (l : List ℕ). codes "{\"at\":" ++ l) (sym (append_assoc (decimal at) (print_from true ts) (10 ∷ []))) ∙ ap (λ (l : List ℕ). l ++ 10 ∷ []) (sym same)),
      (
        tokens-print all (printable_placed at ts fits printable),
        subst IsUtf8 (sym same) (IsUtf8-append (codes "{\"at\":") _ (IsUtf8-are_ascii (codes "{\"at\":") refl) (IsUtf8-append (decimal at) _ (IsUtf8-from_ascii (decimal at) ascii) utf8)),
      ),
      is,
    )

pub placed_added : {A E : Type 0} (r : Result A E) (old new digits rest : List ℕ) (at : ℕ) → at < 2 ^ 64 → IsAscii digits → digits ≡ decimal at → CompletesLine rest → OnOk r (new ≡ old ++ (codes "{\"at\":" ++ (digits ++ rest))) → OnOk r ((line : List ℕ) × IsJsonLine line × (new ≡ old ++ line))
placed_added (Ok a) old new digits rest at fits ascii same completed e =
    let text : codes "{\"at\":" ++ (digits ++ rest) ≡ placed_line at rest = ap (λ (l : List ℕ). codes "{\"at\":" ++ (l ++ rest)) same in
    (placed_line at rest, placed at rest fits (subst IsAscii same ascii) completed, e ∙ ap (λ (l : List ℕ). old ++ l) text)
placed_added (Err a) old new digits rest at fits ascii same completed e = tt
