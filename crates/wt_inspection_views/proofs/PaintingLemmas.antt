-- Lines that are painted byte by byte.
use Rattle.std.proofs.Common.{◌≡◌, ℕ, ◌+◌, Bool, false, cond, nat_eq, List, [], ◌∷◌, ◌++◌, Option, Some, None, Result, Ok, Err, IfOk, refl, sym, ap, ap₂, subst, ◌∙◌, append_assoc, append-nil}
use Rattle.std.specs.List.{flat_map}
use Rattle.std.proofs.lemmas.Bool.{ne_eqb}
use Rattle.std.proofs.lemmas.List.{flat_map_more}
use Rattle.std.proofs.lemmas.List.Concat.{flat_map-cons}
use Rattle.std.proofs.lemmas.List.Sums.{sum_by-append, sum_by-cons}
use Rattle.wt_inspection_views.specs.Escaped.{AreLines, line_count, line_mark, marked_line}
use Rattle.wt_inspection_views.specs.Painting.{IsPainted, IsPaintedIn, IsPaintedTo, StyledWords, painted_line, plain_line, reset_of, sequence_of}
use Rattle.wt_inspection_views.specs.declared.painting.Style.{Style}

pub painted_none : (painted : List ℕ) → painted ≡ [] → IsPainted [] painted
painted_none painted e = ([], refl, e)

-- ---- a line begins, goes on, and ends

line_begun : (text painted new : List ℕ) (style : Style) → new ≡ painted ++ sequence_of style → IsPainted text painted → IsPaintedIn text style new
line_begun text painted new style e is =
    (text, [], painted, sym (append-nil text), e ∙ sym (append-nil (painted ++ sequence_of style)), is, refl)

count_more : (words : List ℕ) (byte : ℕ) → line_count words ≡ 0 → nat_eq byte 10 ≡ false → line_count (words ++ byte ∷ []) ≡ 0
count_more words byte none other =
    let is_feed = λ (c : ℕ). cond (nat_eq c 10) 1 0 in
    let one : line_count (byte ∷ []) ≡ 0 = sum_by-cons is_feed byte [] ∙ ap (λ (t : Bool). cond t 1 0 + 0) other in
    sum_by-append is_feed words (byte ∷ []) ∙ ap₂ (λ (x y : ℕ). x + y) none one

pub line_more : (text painted new : List ℕ) (style : Style) (byte : ℕ) → (byte ≡ 10 → ⊥) → new ≡ painted ++ byte ∷ [] → IsPaintedIn text style painted → IsPaintedTo (text ++ byte ∷ []) (Some style) new
line_more text painted new style byte other e (before, words, held, split, shown, is, none) = (
  text,
  byte,
  refl,
  other,
  (
    before,
    words ++ byte ∷ [],
    held,
    ap (λ (t : List ℕ). t ++ byte ∷ []) split ∙ append_assoc before words (byte ∷ []),
    e ∙ (ap (λ (t : List ℕ). t ++ byte ∷ []) shown ∙ append_assoc (held ++ sequence_of style) words (byte ∷ [])),
    is,
    count_more words byte none (ne_eqb byte 10 other),
  ),
)

joined : (h s w r e : List ℕ) → h ++ s ++ w ++ r ++ e ≡ h ++ (s ++ w ++ r ++ e)
joined h s w r e =
    ap (λ (t : List ℕ). t ++ r ++ e) (append_assoc h s w)
    ∙ (ap (λ (t : List ℕ). t ++ e) (append_assoc h (s ++ w) r) ∙ append_assoc h (s ++ w ++ r) e)

line_ended : (text painted new : List ℕ) (style : Style) → new ≡ painted ++ reset_of style ++ 10 ∷ [] → IsPaintedIn text style painted → IsPainted (text ++ 10 ∷ []) new
line_ended text painted new style e (before, words, held, split, shown, (lines, plain, colored), none) =
    let line : StyledWords = record { style = style; words = words; unbroken = none } in (
      lines ++ line ∷ [],
      ap (λ (t : List ℕ). t ++ 10 ∷ []) split ∙ (append_assoc before words (10 ∷ []) ∙ (ap (λ (t : List ℕ). t ++ (words ++ 10 ∷ [])) plain ∙ flat_map_more plain_line [] lines line)),
      e ∙ (ap (λ (t : List ℕ). t ++ reset_of style ++ 10 ∷ []) shown ∙ (joined held (sequence_of style) words (reset_of style) (10 ∷ []) ∙ (ap (λ (t : List ℕ). t ++ painted_line line) colored ∙ flat_map_more painted_line [] lines line))),
    )

pub line_ended_by : (text painted mid new reset : List ℕ) (style : Style) (byte : ℕ) → byte ≡ 10 → reset ≡ reset_of style → mid ≡ painted ++ reset → new ≡ mid ++ byte ∷ [] → IsPaintedIn text style painted → IsPainted (text ++ byte ∷ []) new
line_ended_by text painted mid new reset style byte same is_reset first second is =
    let whole : new ≡ painted ++ reset_of style ++ 10 ∷ [] =
    second ∙ ap₂ (λ (m : List ℕ) (b : ℕ). m ++ b ∷ []) (first ∙ ap (λ (r : List ℕ). painted ++ r) is_reset) same in
    subst (λ (b : ℕ). IsPainted (text ++ b ∷ []) new) (sym same) (line_ended text painted new style whole is)

-- ---- a byte

in_line : (text painted : List ℕ) (style : Style) → IsPaintedTo text (Some style) painted → IsPaintedIn text style painted
in_line text painted style (rest, byte, e, other, is) = is

pub added_in : {E : Type 0} (r : Result (Option Style) E) (line : Option Style) (style : Style) (old new : List ℕ) (byte : ℕ) → line ≡ Some style → IfOk r (λ after. (text : List ℕ) → IsPaintedIn text style old → IsPaintedTo (text ++ byte ∷ []) after new) → IfOk r (λ after. (text : List ℕ) → IsPaintedTo text line old → IsPaintedTo (text ++ byte ∷ []) after new)
added_in (Ok after) line style old new byte e adds = λ text is.
    adds text (in_line text old style (subst (λ (l : Option Style). IsPaintedTo text l old) e is))
added_in (Err x) line style old new byte e adds = tt

pub added_begun : {E : Type 0} (r : Result (Option Style) E) (line : Option Style) (style : Style) (old mid new sequence : List ℕ) (byte : ℕ) → line ≡ None → sequence ≡ sequence_of style → mid ≡ old ++ sequence → IfOk r (λ after. (text : List ℕ) → IsPaintedIn text style mid → IsPaintedTo (text ++ byte ∷ []) after new) → IfOk r (λ after. (text : List ℕ) → IsPaintedTo text line old → IsPaintedTo (text ++ byte ∷ []) after new)
added_begun (Ok after) line style old mid new sequence byte e is_sequence first adds = λ text is.
    adds text (line_begun text old mid style (first ∙ ap (λ (s : List ℕ). old ++ s) is_sequence) (subst (λ (l : Option Style). IsPaintedTo text l old) e is))
added_begun (Err x) line style old mid new sequence byte e is_sequence first adds = tt

-- ---- a text of lines ends with a line feed

abbrev last : ℕ → List ℕ → ℕ
last b [] = b
last b (x ∷ xs) = last x xs

last_one : (b : ℕ) (xs : List ℕ) (x : ℕ) → last b (xs ++ x ∷ []) ≡ x
last_one b [] x = refl
last_one b (y ∷ xs) x = last_one y xs x

last_append : (b : ℕ) (xs ys : List ℕ) → last b (xs ++ ys) ≡ last (last b xs) ys
last_append b [] ys = refl
last_append b (x ∷ xs) ys = last_append x xs ys

last_line : (b : ℕ) (lines : List (List ℕ)) → b ≡ 10 → last b (flat_map marked_line lines) ≡ 10
last_line b [] e = e
last_line b (words ∷ lines) e =
    ap (last b) (flat_map-cons marked_line words lines)
    ∙ (last_append b (marked_line words) (flat_map marked_line lines) ∙ last_line (last b (marked_line words)) lines (last_one b (line_mark ++ words) 10))

is_ended : (text rest : List ℕ) (byte : ℕ) → AreLines text → text ≡ rest ++ byte ∷ [] → byte ≡ 10
is_ended text rest byte (lines, is, plain) e =
    sym (last_one 10 rest byte) ∙ (ap (last 10) (sym e ∙ is) ∙ last_line 10 lines refl)

pub painted_whole : (text painted : List ℕ) (line : Option Style) → AreLines text → IsPaintedTo text line painted → IsPainted text painted
painted_whole text painted None are is = is
painted_whole text painted (Some style) are (rest, byte, e, other, is) =
    absurd (other (is_ended text rest byte are e))
