-- The pieces of a connection that are shown on a page one after the other, and their entries.
use Rattle.std.proofs.Common.{◌≡◌, ℕ, Bool, ◌+◌, suc, ◌<◌, ◌≤◌, List, [], ◌∷◌, ◌++◌, Option, Some, None, length, refl, sym, ap, subst, ◌∙◌, append_assoc, arith, drop, take, get_or, drop-cons, length-drop}
use Rattle.std.specs.Prelude.{map, slice_get}
use Rattle.std.proofs.lemmas.List.{append-nil, map_more, nil_from_length, take_all}
use Rattle.wt_inspection_views.specs.Html.{AddsEntries, Entry, HasEntries, KeepsEntries, sent_entry}
use Rattle.wt_inspection_views.specs.declared.html.page.Page.{Page}
use Rattle.wt_inspect_connection.specs.declared.part.Part.{Part}
use Rattle.wt_inspect_connection.specs.declared.piece.Piece.{Piece}
use Rattle.wt_inspect.specs.PageShown.{AddsViews, AddsViewsAt, AreViews, verdict_entries}
use Rattle.wt_inspect_verdicts.specs.declared.verdict.Verdict.{Verdict}
use Rattle.wt_inspect.specs.declared.connection.Connection.{Connection}
use Rattle.wt_inspect.specs.declared.connection.page.View.{View}

-- ---- pieces

-- what was appended, as if there was nothing before it
adds_first : (c : Connection) (part : Part) (found : Option Piece) (old new : List View) → AddsViewsAt c part found old new
    → (first : List View) × (new ≡ old ++ first) × AddsViewsAt c part found [] first
adds_first c part (Some piece) old new (view, e, is) = (view ∷ [], e, (view, refl, is))
adds_first c part None old new e = ([], e ∙ sym (append-nil old), refl)

views_more : (c : Connection) (part : Part) (rest parts : List Part) (old new : List View)
    → ((more : List View) → AreViews c (part ∷ rest) more → AreViews c parts (old ++ more))
    → AddsViews c part old new
    → (more : List View) → AreViews c rest more → AreViews c parts (new ++ more)
views_more c part rest parts old new so_far adds more then =
    let (first, e, are) = adds_first c part (slice_get c.pieces.now part.index) old new adds in
    let r = so_far (first ++ more) (first, more, refl, are, then) in
    subst (λ (x : List View). AreViews c parts x) (sym (append_assoc old first more) ∙ ap (λ (x : List View). x ++ more) (sym e)) r

-- the part at this place, after those before it
pub views_next : (c : Connection) (parts : List Part) (i : ℕ) (d : Part) (old new : List View) → i < length parts
    → ((more : List View) → AreViews c (drop i parts) more → AreViews c parts (old ++ more))
    → AddsViews c (get_or parts i d) old new
    → (more : List View) → AreViews c (drop (i + 1) parts) more → AreViews c parts (new ++ more)
views_next c parts i d old new small so_far adds more then =
    let e : drop i parts ≡ get_or parts i d ∷ drop (suc i) parts = drop-cons parts i d small in
    let f : suc i ≡ i + 1 = omega arith in
    let whole : drop i parts ≡ get_or parts i d ∷ drop (i + 1) parts = e ∙ ap (λ (n : ℕ). get_or parts i d ∷ drop n parts) f in
    views_more c (get_or parts i d) (drop (i + 1) parts) parts old new (subst (λ (xs : List Part). (m : List View) → AreViews c xs m → AreViews c parts (old ++ m)) whole so_far) adds more then

pub views_end : (c : Connection) (parts : List Part) (i : ℕ) (views : List View) → length parts ≤ i
    → ((more : List View) → AreViews c (drop i parts) more → AreViews c parts (views ++ more))
    → AreViews c parts views
views_end c parts i views past so_far =
    let none : length (drop i parts) ≡ 0 = omega (arith, length-drop i parts, past) in
    let all = subst (λ (xs : List Part). (m : List View) → AreViews c xs m → AreViews c parts (views ++ m)) (nil_from_length (drop i parts) none) so_far in
    subst (λ (x : List View). AreViews c parts x) (append-nil views) (all [] refl)

-- ---- entries

pub adds_none : (page : Page) → AddsEntries [] page page
adds_none page = λ entries has. subst (λ (x : List Entry). HasEntries x page) (sym (append-nil entries)) has

pub adds_then : (a b : List Entry) (old mid new : Page) → AddsEntries a old mid → AddsEntries b mid new → AddsEntries (a ++ b) old new
adds_then a b old mid new p q = λ entries has.
    subst (λ (x : List Entry). HasEntries x new) (append_assoc entries a b) (q (entries ++ a) (p entries has))

pub adds_sent : (a b : Bool) (old new : Page) → a ≡ b → AddsEntries (sent_entry a ∷ []) old new → AddsEntries (sent_entry b ∷ []) old new
adds_sent a b old new e adds = subst (λ (x : Bool). AddsEntries (sent_entry x ∷ []) old new) e adds

pub keeps_then : (a : List Entry) (old mid new : Page) → KeepsEntries old mid → AddsEntries a mid new → AddsEntries a old new
keeps_then a old mid new p q = λ entries has. q entries (p entries has)

pub keeps_both : (old mid new : Page) → KeepsEntries old mid → KeepsEntries mid new → KeepsEntries old new
keeps_both old mid new p q = λ entries has. q entries (p entries has)

-- the entry of the element at this place, after those before it
pub entries_next : {X : Type 0} (f : X → Entry) (xs : List X) (i : ℕ) (d : X) (entry : Entry) (first old mid new : Page) → i < length xs
    → AddsEntries (map f (take i xs)) first old → KeepsEntries old mid
    → entry ≡ f (get_or xs i d) → AddsEntries (entry ∷ []) mid new
    → AddsEntries (map f (take (i + 1) xs)) first new
entries_next f xs i d entry first old mid new small before keeps e adds =
    let one = subst (λ (x : Entry). AddsEntries (x ∷ []) mid new) e adds in
    subst (λ (x : List Entry). AddsEntries x first new) (sym (map_more f xs i d small)) (adds_then (map f (take i xs)) (f (get_or xs i d) ∷ []) first old new before (keeps_then (f (get_or xs i d) ∷ []) old mid new keeps one))

pub entries_end : {X : Type 0} (f : X → Entry) (xs : List X) (i : ℕ) (first last : Page) → length xs ≤ i → AddsEntries (map f (take i xs)) first last → AddsEntries (map f xs) first last
entries_end {X = X} f xs i first last past adds =
    subst (λ (x : List X). AddsEntries (map f x) first last) (take_all i xs past) adds

pub keeps_same : (page : Page) → KeepsEntries page page
keeps_same page = λ entries has. has

-- the entries of verdicts, and then others
pub page_has : (server client first second : List Verdict) (rest : List Entry) (p q r new : Page) → first ≡ server → second ≡ client
    → HasEntries [] p → AddsEntries (verdict_entries first) p q → AddsEntries (verdict_entries second) q r → AddsEntries rest r new
    → HasEntries (verdict_entries server ++ verdict_entries client ++ rest) new
page_has server client first second rest p q r new e f has a b d =
    let begun = subst (λ (x : List Verdict). AddsEntries (verdict_entries x) p q) e a in
    let more = subst (λ (x : List Verdict). AddsEntries (verdict_entries x) q r) f b in
    d (verdict_entries server ++ verdict_entries client) (more (verdict_entries server) (begun [] has))
