-- Lines that follow lines, and bytes that are written after bytes.
use Rattle.std.proofs.Common.{◌≡◌, ℕ, ◌+◌, suc, arith, List, [], ◌∷◌, ◌++◌, length, Bool, true, false, Option, Some, None, Result, Ok, Err, IfOk, refl, sym, ap, ap₂, subst, ◌∙◌, length-append}
use Rattle.std.specs.Prelude.{sum_by}
use Rattle.std.specs.Io.KnownBytes.{Appends, Keeps}
use Rattle.std.proofs.lemmas.List.{append-nil, append_assoc}
use Rattle.std.proofs.lemmas.List.Concat.{flat_map-append}
use Rattle.std.proofs.lemmas.List.Sums.{sum_by-append, sum_by-cons}
use Rattle.json.specs.Token.{Token}
use Rattle.wt_inspection.specs.Results.{Item, Warning}
use Rattle.wt_inspection_views.specs.Escaped.{AreLines, ArePlain, line_count, marked_line}
use Rattle.wt_inspection_views.specs.JsonLines.{AreJsonLines, AreObjects, json_line}
use Rattle.wt_inspection_views.specs.Lines.{AddsTextLines, HasTextLines, TakesPainted}
use Rattle.wt_inspection_views.specs.Objects.{AddsLines, HasLines}
use Rattle.wt_inspection_views.specs.TextLines.{item_lines}
use Rattle.wt_inspection_views.specs.declared.json_lines.object.Lines.{Lines as JsonLines}
use Rattle.wt_inspection_views.specs.declared.text.lines.Lines.{Lines as TextLines}
use Rattle.wt_inspection_views.specs.Painting.{IsPainted, painted_line, plain_line}
use Rattle.wt_inspect.specs.Drawing.{Draws, IsDrawn, has_colors, paints}
use Rattle.wt_inspect.specs.Sheets.{AddsTo, AreLinesOf, DrawsLines, HasSheet, HasSoFar, lines_for, lines_of}
use Rattle.wt_inspect.specs.Shown.{IsView}
use Rattle.wt_inspect.specs.declared.arguments.Arguments.{Arguments}
use Rattle.wt_inspect.specs.declared.arguments.Output.{Output}
use Rattle.wt_inspect.specs.declared.arguments.Output.TheVariants as output-is
use Rattle.wt_inspect.specs.declared.sheet.Sheet.{Sheet}
use Rattle.wt_inspect.specs.declared.sheet.Sheet.TheVariants as sheet-is

-- ---- bytes that are written

appends_none : (held : Option (List ℕ)) → Appends held held []
appends_none None = tt
appends_none (Some xs) = sym (append-nil xs)

appends_then : (a b c : Option (List ℕ)) (xs ys : List ℕ) → Appends a b xs → Appends b c ys → Appends a c (xs ++ ys)
appends_then None b c xs ys p q = tt
appends_then (Some s) None c xs ys p q = absurd p
appends_then (Some s) (Some t) None xs ys p q = absurd q
appends_then (Some s) (Some t) (Some u) xs ys p q = q ∙ ap (λ (l : List ℕ). l ++ ys) p ∙ append_assoc s xs ys

pub appends_keeps : (a b c : Option (List ℕ)) (xs : List ℕ) → Appends a b xs → Keeps b c → Appends a c xs
appends_keeps None b c xs p q = tt
appends_keeps (Some s) None c xs p q = absurd p
appends_keeps (Some s) (Some t) None xs p q = absurd q
appends_keeps (Some s) (Some t) (Some u) xs p q = q ∙ p

-- ---- texts that are written, with colours or without

painted_append : (a b x y : List ℕ) → IsPainted a x → IsPainted b y → IsPainted (a ++ b) (x ++ y)
painted_append a b x y (ls, plain, painted) (ms, also, colored) =
    (ls ++ ms, rw (plain, also) (sym (flat_map-append plain_line ls ms)), rw (painted, colored) (sym (flat_map-append painted_line ls ms)))

drawn_append : (colors : Bool) (a b x y : List ℕ) → IsDrawn colors a x → IsDrawn colors b y → IsDrawn colors (a ++ b) (x ++ y)
drawn_append true a b x y p q = painted_append a b x y p q
drawn_append false a b x y p q = ap₂ (λ (s t : List ℕ). s ++ t) p q

drawn_none : (colors : Bool) → IsDrawn colors [] []
drawn_none true = ([], refl, refl)
drawn_none false = refl

pub draws_none : (colors : Bool) (held : Option (List ℕ)) → Draws colors held held []
draws_none colors held = record { written = []; drawn = drawn_none colors; appends = appends_none held }

pub draws_then : (colors : Bool) (a b c : Option (List ℕ)) (xs ys : List ℕ) → Draws colors a b xs → Draws colors b c ys → Draws colors a c (xs ++ ys)
draws_then colors a b c xs ys p q = record {
  written = p.written ++ q.written;
  drawn = drawn_append colors xs ys p.written q.written p.drawn q.drawn;
  appends = appends_then a b c p.written q.written p.appends q.appends;
}

pub draws_keeps : (colors : Bool) (a b c : Option (List ℕ)) (xs : List ℕ) → Draws colors a b xs → Keeps b c → Draws colors a c xs
draws_keeps colors a b c xs p q = record {
  written = p.written;
  drawn = p.drawn;
  appends = appends_keeps a b c p.written p.appends q;
}

-- by the same arguments
pub draws_by : (a b : Arguments) (before after : Option (List ℕ)) (text : List ℕ) → a ≡ b → Draws (has_colors a) before after text → Draws (has_colors b) before after text
draws_by a b before after text e draws =
    subst (λ (x : Arguments). Draws (has_colors x) before after text) e draws

-- lines that have no colours
pub undrawn_lines : (output : Output) (colors : Bool) (n : ℕ) (text : List ℕ) → paints output colors ≡ false → AreLinesOf output n text → DrawsLines output colors n text
undrawn_lines output colors n text e are =
    record { text = text; lines = are; drawn = subst (λ (c : Bool). IsDrawn c text text) (sym e) refl }

-- lines that have colours
pub painted_lines : (colors : Bool) (n : ℕ) (text written : List ℕ) → colors ≡ true → AreLines text → line_count text ≡ n → IsPainted text written → DrawsLines output-is.Text colors n written
painted_lines colors n text written e are count painted =
    record { text = text; lines = (are, count); drawn = subst (λ (c : Bool). IsDrawn c text written) (sym e) painted }

pub taken_lines : (colors : Bool) (n : ℕ) (lines : TextLines) (written : List ℕ) → colors ≡ true → TakesPainted lines written → HasTextLines n lines → DrawsLines output-is.Text colors n written
taken_lines colors n lines written e (text, are, painted, count) has =
    painted_lines colors n text written e are (count n has) painted

pub plain_lines : (colors : Bool) (n : ℕ) (text : List ℕ) → colors ≡ false → AreLines text → line_count text ≡ n → DrawsLines output-is.Text colors n text
plain_lines colors n text e are count = undrawn_lines output-is.Text colors n text e (are, count)

-- ---- lines

plain_append : (xs ys : List (List ℕ)) → ArePlain xs → ArePlain ys → ArePlain (xs ++ ys)
plain_append [] ys p q = q
plain_append (x ∷ xs) ys p q = (p.0, plain_append xs ys p.1 q)

objects_append : (xs ys : List (List Token)) → AreObjects xs → AreObjects ys → AreObjects (xs ++ ys)
objects_append [] ys p q = q
objects_append (x ∷ xs) ys p q = (p.0, objects_append xs ys p.1 q)

lines_append : (output : Output) (m n : ℕ) (xs ys : List ℕ) → AreLinesOf output m xs → AreLinesOf output n ys → AreLinesOf output (m + n) (xs ++ ys)
lines_append output-is.Text m n xs ys ((a, same, plain), count) ((b, also, clean), number) =
    ((a ++ b, rw (same, also) (sym (flat_map-append marked_line a b)), plain_append a b plain clean), sum_by-append _ xs ys ∙ ap₂ (λ (x y : ℕ). x + y) count number)
lines_append output-is.Json m n xs ys (a, long, same, are) (b, size, also, have) =
    (a ++ b, length-append a b ∙ ap₂ (λ (x y : ℕ). x + y) long size, rw (same, also) (sym (flat_map-append json_line a b)), objects_append a b are have)
lines_append output-is.Html m n xs ys first second = absurd first

-- no line was written, and the sheet is empty
none_in : (output : Output) (sheet : Sheet) → HasSheet output 0 sheet → AreLinesOf output 0 []
none_in output-is.Text (sheet-is.Text lines) has = (([], refl, tt), refl)
none_in output-is.Json (sheet-is.Json lines) has = ([], refl, refl, tt)
none_in output-is.Text (sheet-is.Json lines) has = absurd has
none_in output-is.Json (sheet-is.Text lines) has = absurd has
none_in output-is.Html sheet has = absurd has

pub so_far_none : (output : Output) (sheet : Sheet) → HasSheet output 0 sheet → HasSoFar output 0 [] sheet
so_far_none output sheet has = record { written = 0; kept = 0; lines = none_in output sheet has; rest = has; count = refl }

-- the same number in another form
pub so_far_is : (output : Output) (m n : ℕ) (text : List ℕ) (sheet : Sheet) → m ≡ n → HasSoFar output m text sheet → HasSoFar output n text sheet
so_far_is output m n text sheet e far = subst (λ k. HasSoFar output k text sheet) e far

-- more lines in the sheet
pub so_far_more : (output : Output) (k n : ℕ) (text : List ℕ) (old new : Sheet) → HasSoFar output k text old → ((m : ℕ) → HasSheet output m old → HasSheet output (m + n) new) → HasSoFar output (k + n) text new
so_far_more output k n text old new far adds = record {
  written = far.written;
  kept = far.kept + n;
  lines = far.lines;
  rest = adds far.kept far.rest;
  count = let e = far.count in omega (arith, e);
}

-- the lines of the sheet were written
pub so_far_written : (output : Output) (k : ℕ) (text more : List ℕ) (old new : Sheet) → (far : HasSoFar output k text old) → AreLinesOf output far.kept more → HasSheet output 0 new → HasSoFar output k (text ++ more) new
so_far_written output k text more old new far are none = record {
  written = far.written + far.kept;
  kept = 0;
  lines = lines_append output far.written far.kept text more far.lines are;
  rest = none;
  count = let e = far.count in omega (arith, e);
}

pub all_written : (output : Output) (k : ℕ) (text more : List ℕ) (old : Sheet) → (far : HasSoFar output k text old) → AreLinesOf output far.kept more → AreLinesOf output k (text ++ more)
all_written output k text more old far are =
    subst (λ n. AreLinesOf output n (text ++ more)) far.count (lines_append output far.written far.kept text more far.lines are)

-- nothing was written
pub so_far_same : (output : Output) (k : ℕ) (text : List ℕ) (sheet : Sheet) → HasSoFar output k text sheet → HasSoFar output k (text ++ []) sheet
so_far_same output k text sheet far = subst (λ t. HasSoFar output k t sheet) (sym (append-nil text)) far

-- ---- what is shown

pub count_more : (output : Output) (payload : Bool) (bytes : List ℕ) (items : List Item) (item : Item) (before here : List Warning) → lines_of output payload bytes (items ++ item ∷ []) (before ++ here) ≡ lines_of output payload bytes items before + (lines_for output payload bytes item + length here)
count_more output payload bytes items item before here =
    let f = lines_for output payload bytes in
    let sum = sum_by-append f items (item ∷ []) in
    let long = length-append before here in
    omega (arith, sum, long)

ones : (bytes : List ℕ) (payload : Bool) (items : List Item) → sum_by (lines_for output-is.Json payload bytes) items ≡ length items
ones bytes payload [] = refl
ones bytes payload (item ∷ items) =
    let f = lines_for output-is.Json payload bytes in
    let more = ones bytes payload items in
    let one : 1 + sum_by f items ≡ suc (length items) = omega (arith, more) in
    sum_by-cons f item items ∙ one

view_of : (output : Output) (payload : Bool) (bytes : List ℕ) (items : List Item) (warnings : List Warning) (text : List ℕ) → AreLinesOf output (lines_of output payload bytes items warnings + 1) text → IsView output payload bytes items warnings text
view_of output-is.Text payload bytes items warnings text are = are
view_of output-is.Json payload bytes items warnings text are =
    subst (λ n. AreJsonLines (n + length warnings + 1) text) (ones bytes payload items) are
view_of output-is.Html payload bytes items warnings text are = absurd are

pub view_with : (output : Output) (payload : Bool) (bytes held : List ℕ) (items : List Item) (warnings : List Warning) (text : List ℕ) → held ≡ bytes → AreLinesOf output (lines_of output payload bytes items warnings + 1) text → IsView output payload held items warnings text
view_with output payload bytes held items warnings text same are =
    subst (λ b. IsView output payload b items warnings text) (sym same) (view_of output payload bytes items warnings text are)

-- ---- lines that are taken

pub text_taken : (output : Output) (colors : Bool) (n : ℕ) (old new : TextLines) (written : List ℕ) → HasSheet output n (sheet-is.Text old) → ((m : ℕ) → HasTextLines m old → DrawsLines output-is.Text colors m written) → HasTextLines 0 new → DrawsLines output colors n written × HasSheet output 0 (sheet-is.Text new)
text_taken output-is.Text colors n old new written has draws none = (draws n has, none)
text_taken output-is.Json colors n old new written has draws none = absurd has
text_taken output-is.Html colors n old new written has draws none = absurd has

pub json_taken : (output : Output) (colors : Bool) (n : ℕ) (old new : JsonLines) (text : List ℕ) → HasSheet output n (sheet-is.Json old) → ((m : ℕ) → HasLines m old → AreJsonLines m text) → HasLines 0 new → DrawsLines output colors n text × HasSheet output 0 (sheet-is.Json new)
json_taken output-is.Json colors n old new text has are none = (undrawn_lines output-is.Json colors n text refl (are n has), none)
json_taken output-is.Text colors n old new text has are none = absurd has
json_taken output-is.Html colors n old new text has are none = absurd has

-- ---- lines that are appended

pub text_added : (output : Output) (n : ℕ) (old new : TextLines) → AddsTextLines n old new → AddsTo output n (sheet-is.Text old) (sheet-is.Text new)
text_added output-is.Text n old new adds k has = adds k has
text_added output-is.Json n old new adds k has = absurd has
text_added output-is.Html n old new adds k has = absurd has

pub json_added : (output : Output) (n : ℕ) (old new : JsonLines) → AddsLines n old new → AddsTo output n (sheet-is.Json old) (sheet-is.Json new)
json_added output-is.Json n old new adds k has = adds k has
json_added output-is.Text n old new adds k has = absurd has
json_added output-is.Html n old new adds k has = absurd has

-- the number of lines of an item goes by the format
pub text_item : (output : Output) (payload : Bool) (bytes : List ℕ) (item : Item) (n : ℕ) (old new : TextLines) → AddsTextLines (item_lines payload bytes item + n) old new → AddsTo output (lines_for output payload bytes item + n) (sheet-is.Text old) (sheet-is.Text new)
text_item output-is.Text payload bytes item n old new adds k has = adds k has
text_item output-is.Json payload bytes item n old new adds k has = absurd has
text_item output-is.Html payload bytes item n old new adds k has = absurd has

pub json_item : (output : Output) (payload : Bool) (bytes : List ℕ) (item : Item) (n : ℕ) (old new : JsonLines) → AddsLines (1 + n) old new → AddsTo output (lines_for output payload bytes item + n) (sheet-is.Json old) (sheet-is.Json new)
json_item output-is.Json payload bytes item n old new adds k has = adds k has
json_item output-is.Text payload bytes item n old new adds k has = absurd has
json_item output-is.Html payload bytes item n old new adds k has = absurd has

-- ---- results

pub ok_map : {A E : Type 0} (P Q : A → Type 0) (r : Result A E) → ((a : A) → P a → Q a) → IfOk r P → IfOk r Q
ok_map P Q (Ok a) from p = from a p
ok_map P Q (Err e) from p = tt
