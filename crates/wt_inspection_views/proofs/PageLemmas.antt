-- Concatenation of the pieces of a page.
use Rattle.std.proofs.Common.{◌≡◌, ℕ, Bool, true, false, cond, IsTrue, Result, Ok, Err, List, [], ◌∷◌, ◌++◌, take, drop, refl, sym, subst, ap, ap₂, ◌∙◌, is_ok}
use Rattle.std.specs.Prelude.{IfOk, OnOk, OnErr}
use Rattle.std.proofs.lemmas.List.{append-nil, flat_map_more}
use Rattle.std.proofs.lemmas.Grind.{flat_map-append}
use Rattle.std.specs.List.{flat_map}
use Rattle.wt_inspection_views.specs.declared.html.page.TheConstants.{HEAD}
use Rattle.wt_inspection_views.specs.declared.html.page.Markup.{Markup}
use Rattle.wt_inspection_views.specs.declared.html.page.Markup.TheVariants.{Head, Tail}
use Rattle.wt_inspection_views.specs.declared.html.page.Page.{Page}
use Rattle.wt_inspection_views.specs.Html.{AddsEntries, BeginsPageOf, Entry, HasEntries, HasPolicy, IsFragment, IsPage, IsPageOf}
use Rattle.wt_inspection_views.specs.Html.{KeepsEntries, Piece, entries_in, entry_of, markup, markup_bytes, piece_bytes}

pub ok_map : {T E : Type 0} (P Q : T → Type 0) (r : Result T E) → ((x : T) → P x → Q x) → IfOk r P → IfOk r Q
ok_map P Q (Ok x) f p = f x p
ok_map P Q (Err e) f p = tt

-- ---- fragments

IsFragment-append : (old : List ℕ) (piece : Piece) → entries_in piece ≡ [] → IsFragment old → IsFragment (old ++ piece_bytes piece)
IsFragment-append old piece none o =
    (o.0 ++ piece ∷ [], rw o.1 (flat_map_more piece_bytes [] o.0 piece), sym (flat_map_more entries_in [] o.0 piece) ∙ ap₂ (λ (x y : List Entry). x ++ y) o.2 none)

pub IsFragment-pushed : (old new : List ℕ) (piece : Piece) (ok : Bool) → entries_in piece ≡ [] → IsFragment old → new ≡ cond ok (old ++ piece_bytes piece) old → IsFragment new
IsFragment-pushed old new piece true none o e = subst IsFragment (sym e) (IsFragment-append old piece none o)
IsFragment-pushed old new piece false none o e = subst IsFragment (sym e) o

pub fragment_nil : (bytes : List ℕ) → bytes ≡ [] → IsFragment bytes
fragment_nil bytes e = ([], e, refl)

-- ---- pages

BeginsPageOf-more : (entries : List Entry) (old : List ℕ) (pieces : List Piece) → BeginsPageOf entries old → BeginsPageOf (entries ++ flat_map entries_in pieces) (old ++ flat_map piece_bytes pieces)
BeginsPageOf-more entries old pieces o =
    (o.0 ++ pieces, rw o.1 (sym (flat_map-append piece_bytes (markup Head ∷ o.0) pieces)), flat_map-append entries_in o.0 pieces ∙ ap (λ (x : List Entry). x ++ flat_map entries_in pieces) o.2)

BeginsPageOf-marked : (entries : List Entry) (old : List ℕ) (m : Markup) → BeginsPageOf entries old → BeginsPageOf (entries ++ entry_of m) (old ++ markup_bytes m)
BeginsPageOf-marked entries old m o =
    (o.0 ++ markup m ∷ [], rw o.1 (flat_map_more piece_bytes [] (markup Head ∷ o.0) (markup m)), sym (flat_map_more entries_in [] o.0 (markup m)) ∙ ap (λ (x : List Entry). x ++ entry_of m) o.2)

BeginsPageOf-filled : (entries : List Entry) (old more : List ℕ) → BeginsPageOf entries old → IsFragment more → BeginsPageOf entries (old ++ more)
BeginsPageOf-filled entries old more o f =
    let r = BeginsPageOf-more entries old f.0 o in
    let e : entries ++ flat_map entries_in f.0 ≡ entries = ap (λ (x : List Entry). entries ++ x) f.2 ∙ append-nil entries in
    subst (λ (x : List Entry). BeginsPageOf x (old ++ more)) e (subst (λ (x : List ℕ). BeginsPageOf (entries ++ flat_map entries_in f.0) (old ++ x)) (sym f.1) r)

-- markup was added, unless an allocation failed
pub page_marked : {E : Type 0} (m : Markup) (old new : Page) (added : Result (Unit {0}) E) → new.out.items ≡ cond (is_ok added) (old.out.items ++ markup_bytes m) old.out.items → OnOk added (new.is_whole ≡ old.is_whole) → OnErr added (new.is_whole ≡ false) → AddsEntries (entry_of m) old new
page_marked m old new (Ok done) e k f = λ entries has whole.
    subst (λ (x : List ℕ). BeginsPageOf (entries ++ entry_of m) x) (sym e) (BeginsPageOf-marked entries old.out.items m (has (subst IsTrue k whole)))
page_marked m old new (Err error) e k f = λ entries has whole. absurd (cc (sym f ∙ whole))

-- a fragment was added, unless an allocation failed
pub page_filled : {E : Type 0} (old new : Page) (was : Bool) (added : Result (Unit {0}) E) → IfOk added (λ _. (more : List ℕ) × IsFragment more × (new.out.items ≡ old.out.items ++ more)) → was ≡ old.is_whole → OnOk added (new.is_whole ≡ was) → OnErr added (new.is_whole ≡ false) → KeepsEntries old new
page_filled old new was (Ok done) fills same k f = λ entries has whole.
    subst (λ (x : List ℕ). BeginsPageOf entries x) (sym fills.2) (BeginsPageOf-filled entries old.out.items fills.0 (has (subst IsTrue (k ∙ same) whole)) fills.1)
page_filled old new was (Err error) fills same k f = λ entries has whole. absurd (cc (sym f ∙ whole))

-- markup that begins an entry was added, and then a fragment
pub page_entered : (more begun : List Entry) (old mid new : Page) → begun ≡ more → AddsEntries begun old mid → KeepsEntries mid new → AddsEntries more old new
page_entered more begun old mid new e marks fills = λ entries has.
    fills (entries ++ more) (subst (λ (x : List Entry). HasEntries (entries ++ x) mid) e (marks entries has))

pub IsPageOf-ended : (entries : List Entry) (old new : List ℕ) → BeginsPageOf entries old → new ≡ old ++ piece_bytes (markup Tail) → IsPageOf entries new
IsPageOf-ended entries old new o e =
    (o.0, e ∙ rw o.1 (flat_map_more piece_bytes [] (markup Head ∷ o.0) (markup Tail)), o.2)

-- an empty page begins with the head once it is appended
pub BeginsPageOf-begun : (old new : List ℕ) (added ok : Bool) → old ≡ [] → new ≡ cond added (old ++ piece_bytes (markup Head)) old → ok ≡ added → IsTrue ok → BeginsPageOf [] new
BeginsPageOf-begun old new added ok n e k w = begun old new added n e (subst IsTrue k w)
  where
    begun : (old new : List ℕ) (added : Bool) → old ≡ [] → new ≡ cond added (old ++ piece_bytes (markup Head)) old → IsTrue added → BeginsPageOf [] new
    begun old new true n e w = ([], e ∙ (ap (λ (l : List ℕ). l ++ piece_bytes (markup Head)) n ∙ flat_map_more piece_bytes [] [] (markup Head)), refl)
    begun old new false n e w = absurd (cc w)

-- the head has the policy after its first 177 bytes
pub page_policy : (page : List ℕ) → IsPage page → HasPolicy page
page_policy page is = (
  take 44 (drop 177 HEAD.now),
  drop 224 HEAD.now ++ flat_map piece_bytes (is.0 ++ markup Tail ∷ []),
  refl,
  is.1,
)
