-- The parts of a connection that are shown one after the other, and the items before the first header
-- section.
use Rattle.std.proofs.Common.{◌≡◌, ◌⊎◌, inl, inr, ℕ, ◌+◌, suc, Bool, false, ◌<◌, ◌≤◌, List, [], ◌∷◌, ◌++◌, length, Option, Some, None, refl, sym, ap, subst, ◌∙◌, append_assoc, arith, drop, get_or, drop-cons, length-drop}
use Rattle.std.proofs.lemmas.List.{append-nil, nil_from_length}
use Rattle.std.proofs.lemmas.List.Sums.{sum_by-cons}
use Rattle.std.specs.Prelude.{◌==◌, sum_by}
use Rattle.wt_inspection.specs.Results.{Item}
use Rattle.wt_inspect_connection.specs.declared.part.Group.{Group}
use Rattle.wt_inspect_connection.specs.declared.part.Part.{Part}
use Rattle.wt_inspect_connection.specs.declared.piece.Piece.{Piece}
use Rattle.wt_inspect.specs.ConnectionShown.{ShowsAt, ShowsPart, ShowsParts, payload_item, payload_items}
use Rattle.wt_inspect.specs.Connections.{HaveNoSection, is_new, opening_of, worse}
use Rattle.wt_inspect.specs.Sheets.{AddsTo, HasSheet}
use Rattle.wt_inspect.specs.declared.arguments.Output.{Output}
use Rattle.wt_inspect.specs.declared.connection.Connection.{Connection}
use Rattle.wt_inspect.specs.declared.sheet.Sheet.{Sheet}

-- ---- statuses

pub worse_then : (a b c : ℕ) → (a ≡ 0) ⊎ (a ≡ 2) → (b ≡ 0) ⊎ (b ≡ 2) → worse a (worse b c) ≡ worse (worse a b) c
worse_then a b c (inl e) q = rw e refl
worse_then a b c (inr e) q = rw e refl

pub worse_none : (a : ℕ) → (a ≡ 0) ⊎ (a ≡ 2) → worse a 0 ≡ a
worse_none a (inl e) = rw e refl
worse_none a (inr e) = rw e refl

pub worse_is : (a b : ℕ) → (a ≡ 0) ⊎ (a ≡ 2) → (b ≡ 0) ⊎ (b ≡ 2) → (worse a b ≡ 0) ⊎ (worse a b ≡ 2)
worse_is a b (inl e) q = rw e q
worse_is a b (inr e) q = rw e (inr refl)

-- ---- a part without a piece

pub shows_none : (c : Connection) (is_first : Bool) (found : Option Piece) → found ≡ None → ShowsAt c is_first found [] 0
shows_none c is_first found e =
    subst (λ (f : Option Piece). ShowsAt c is_first f [] 0) (sym e) (refl, refl)

-- ---- bytes of an application

pub not_empty : (bytes : List ℕ) (none : Bool) → none ≡ (length bytes == 0) → none ≡ false → 0 < length bytes
not_empty [] none e f = absurd (cc (sym f ∙ e))
not_empty (b ∷ bytes) none e f = omega arith

pub payload_adds_none : (output : Output) (f : Item → ℕ) (bytes : List ℕ) (sheet : Sheet) → length bytes ≡ 0 → AddsTo output (sum_by f (payload_items bytes)) sheet sheet
payload_adds_none output f [] sheet e k has =
    let z : k ≡ k + 0 = omega arith in
    subst (λ (n : ℕ). HasSheet output n sheet) z has
payload_adds_none output f (b ∷ bs) sheet e k has = absurd (omega (arith, e))

pub payload_adds : (output : Output) (f : Item → ℕ) (bytes : List ℕ) (old new : Sheet) → 0 < length bytes → AddsTo output (f (payload_item (length bytes)) + 0) old new → AddsTo output (sum_by f (payload_items bytes)) old new
payload_adds output f [] old new some adds = absurd (omega (arith, some))
payload_adds output f (b ∷ bs) old new some adds =
    subst (λ (n : ℕ). AddsTo output n old new) (sym (sum_by-cons f (payload_item (length (b ∷ bs))) [])) adds

-- ---- parts

pub shown_more : (c : Connection) (before : Option Group) (part : Part) (rest parts : List Part) (text first : List ℕ) (status one : ℕ)
    → (status ≡ 0) ⊎ (status ≡ 2) → (one ≡ 0) ⊎ (one ≡ 2)
    → ((more : List ℕ) (s : ℕ) → ShowsParts c before (part ∷ rest) more s → ShowsParts c None parts (text ++ more) (worse status s))
    → ShowsPart c (is_new before part.group) part first one
    → (more : List ℕ) (s : ℕ) → ShowsParts c (Some part.group) rest more s → ShowsParts c None parts ((text ++ first) ++ more) (worse (worse status one) s)
shown_more c before part rest parts text first status one p q so_far shows more s then =
    let r = so_far (first ++ more) (worse one s) (first, more, one, s, refl, refl, shows, then) in
    let e : text ++ (first ++ more) ≡ (text ++ first) ++ more = sym (append_assoc text first more) in
    subst (λ (t : List ℕ). ShowsParts c None parts t (worse (worse status one) s)) e (subst (λ (n : ℕ). ShowsParts c None parts (text ++ (first ++ more)) n) (worse_then status one s p q) r)

pub shown_all : (c : Connection) (before : Option Group) (parts : List Part) (text : List ℕ) (status : ℕ) → (status ≡ 0) ⊎ (status ≡ 2)
    → ((more : List ℕ) (s : ℕ) → ShowsParts c before [] more s → ShowsParts c None parts (text ++ more) (worse status s))
    → ShowsParts c None parts text status
shown_all c before parts text status p so_far =
    subst (λ (t : List ℕ). ShowsParts c None parts t status) (append-nil text) (subst (λ (n : ℕ). ShowsParts c None parts (text ++ []) n) (worse_none status p) (so_far [] 0 (refl, refl)))

-- the part at this place, after those before it
pub shown_next : (c : Connection) (before : Option Group) (parts : List Part) (i : ℕ) (d : Part) (text first : List ℕ) (status one : ℕ) → i < length parts
    → (status ≡ 0) ⊎ (status ≡ 2) → (one ≡ 0) ⊎ (one ≡ 2)
    → ((more : List ℕ) (s : ℕ) → ShowsParts c before (drop i parts) more s → ShowsParts c None parts (text ++ more) (worse status s))
    → ShowsPart c (is_new before (get_or parts i d).group) (get_or parts i d) first one
    → (more : List ℕ) (s : ℕ) → ShowsParts c (Some (get_or parts i d).group) (drop (i + 1) parts) more s → ShowsParts c None parts ((text ++ first) ++ more) (worse (worse status one) s)
shown_next c before parts i d text first status one small p q so_far shows more s then =
    let e : drop i parts ≡ get_or parts i d ∷ drop (suc i) parts = drop-cons parts i d small in
    let f : suc i ≡ i + 1 = omega arith in
    let whole : drop i parts ≡ get_or parts i d ∷ drop (i + 1) parts = e ∙ ap (λ (n : ℕ). get_or parts i d ∷ drop n parts) f in
    shown_more c before (get_or parts i d) (drop (i + 1) parts) parts text first status one p q (subst (λ (xs : List Part). (m : List ℕ) (t : ℕ) → ShowsParts c before xs m t → ShowsParts c None parts (text ++ m) (worse status t)) whole so_far) shows more s then

pub shown_end : (c : Connection) (before : Option Group) (parts : List Part) (i : ℕ) (text : List ℕ) (status : ℕ) → length parts ≤ i → (status ≡ 0) ⊎ (status ≡ 2)
    → ((more : List ℕ) (s : ℕ) → ShowsParts c before (drop i parts) more s → ShowsParts c None parts (text ++ more) (worse status s))
    → ShowsParts c None parts text status
shown_end c before parts i text status past p so_far =
    let none : length (drop i parts) ≡ 0 = omega (arith, length-drop i parts, past) in
    shown_all c before parts text status p (subst (λ (xs : List Part). (m : List ℕ) (t : ℕ) → ShowsParts c before xs m t → ShowsParts c None parts (text ++ m) (worse status t)) (nil_from_length (drop i parts) none) so_far)

-- ---- items

pub no_section_more : (items : List Item) (item : Item) → HaveNoSection items → opening_of item.content ≡ None → HaveNoSection (items ++ item ∷ [])
no_section_more [] item none e = (e, tt)
no_section_more (other ∷ items) item none e = (none.0, no_section_more items item none.1 e)
