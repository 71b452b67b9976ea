-- What items say of a session one after the other, and how sessions went.
use Rattle.std.proofs.Common.{◌≡◌, ℕ, ◌+◌, zero, suc, ◌<◌, ◌≤◌, List, [], ◌∷◌, ◌++◌, Option, Some, None, length, refl, sym, ap, subst, ◌∙◌, append_assoc, arith, drop, take, get_or, drop-cons, length-drop}
use Rattle.std.specs.Option.{option_or}
use Rattle.std.proofs.lemmas.List.{append-nil, nil_from_length}
use Rattle.wt_inspection.specs.Results.{Item}
use Rattle.wt_inspection_model.specs.declared.item.Content.{Content}
use Rattle.wt_inspection_model.specs.declared.item.capsule.CapsuleItem.{CapsuleItem}
use Rattle.wt_inspection_model.specs.declared.item.capsule.CloseReason.{CloseReason}
use Rattle.wt_inspection_model.specs.declared.item.fields.FieldSection.{FieldSection}
use Rattle.wt_inspect.specs.SessionsShown.{Says, SumUp, SumsUp, close_among, close_of, first_of, section_of}
use Rattle.wt_inspect.specs.declared.connection.Connection.{Connection}
use Rattle.wt_inspect.specs.declared.connection.summary.Said.{Said}
use Rattle.wt_inspect.specs.declared.connection.summary.Summary.{Summary}

-- ---- what items say

or_then : {X : Type 0} (a b c : Option X) → option_or (option_or a b) c ≡ option_or a (option_or b c)
or_then None b c = refl
or_then (Some x) b c = refl

or_none : {X : Type 0} (a : Option X) → option_or a None ≡ a
or_none None = refl
or_none (Some x) = refl

or_is_none : {X : Type 0} (a b : Option X) → option_or a b ≡ None → (a ≡ None) × (b ≡ None)
or_is_none None b e = (refl, e)
or_is_none (Some x) b e = absurd (cc e)

first_more : {X : Type 0} (f : Content → Option X) (items : List Item) (item : Item) → first_of f (items ++ item ∷ []) ≡ option_or (first_of f items) (f item.content)
first_more f [] item = or_none (f item.content)
first_more {X = X} f (other ∷ items) item =
    ap (λ (x : Option X). option_or (f other.content) x) (first_more f items item) ∙ sym (or_then (f other.content) (first_of f items) (f item.content))

-- an item that comes after others
pub says_more : (items : List Item) (item : Item) (old new : Said) → Says items old → new.head ≡ option_or old.head (section_of item.content) → new.close ≡ option_or old.close (close_of item.content) → Says (items ++ item ∷ []) new
says_more items item old new says e f = record {
  head = e ∙ ap (λ (x : Option FieldSection). option_or x (section_of item.content)) says.head ∙ sym (first_more section_of items item);
  close = f ∙ ap (λ (x : Option CloseReason). option_or x (close_of item.content)) says.close ∙ sym (first_more close_of items item);
}

-- ---- closes of capsules

close_first : (capsule : CapsuleItem) (capsules : List CapsuleItem) (close : CloseReason) → capsule.close ≡ Some close → close_among (capsule ∷ capsules) ≡ Some close
close_first capsule capsules close e = ap (λ (x : Option CloseReason). option_or x (close_among capsules)) e

-- one more capsule without a close
pub close_none : (capsules : List CapsuleItem) (capsule : CapsuleItem) → close_among capsules ≡ None → capsule.close ≡ None → close_among (capsules ++ capsule ∷ []) ≡ None
close_none [] capsule none e = ap (λ (x : Option CloseReason). option_or x None) e
close_none (first ∷ capsules) capsule none e =
    let both = or_is_none first.close (close_among capsules) none in
    ap (λ (x : Option CloseReason). option_or x (close_among (capsules ++ capsule ∷ []))) both.0 ∙ close_none capsules capsule both.1 e

-- the first capsule with a close, after others
pub close_turn : (capsules : List CapsuleItem) (i : ℕ) (capsule : CapsuleItem) (close : CloseReason) → close_among (take i capsules) ≡ None → i < length capsules → capsule ≡ get_or capsules i capsule → capsule.close ≡ Some close → close_among capsules ≡ Some close
close_turn [] i capsule close none small e f = absurd (omega (arith, small))
close_turn (first ∷ capsules) zero capsule close none small e f =
    close_first first capsules close (ap (λ (c : CapsuleItem). c.close) (sym e) ∙ f)
close_turn (first ∷ capsules) (suc i) capsule close none small e f =
    let both = or_is_none first.close (close_among (take i capsules)) none in
    let less : i < length capsules = omega (arith, small) in
    ap (λ (x : Option CloseReason). option_or x (close_among capsules)) both.0 ∙ close_turn capsules i capsule close both.1 less e f

-- ---- sessions

sums_more : (c : Connection) (id : ℕ) (rest ids : List ℕ) (old : List Summary) (first : Summary)
    → ((more : List Summary) → SumUp c (id ∷ rest) more → SumUp c ids (old ++ more))
    → SumsUp c id first
    → (more : List Summary) → SumUp c rest more → SumUp c ids ((old ++ first ∷ []) ++ more)
sums_more c id rest ids old first so_far sums more then =
    let r = so_far (first ∷ more) (first, more, refl, sums, then) in
    subst (λ (x : List Summary). SumUp c ids x) (sym (append_assoc old (first ∷ []) more)) r

-- the session at this place, after those before it
pub sums_next : (c : Connection) (ids : List ℕ) (i d : ℕ) (old : List Summary) (first : Summary) → i < length ids
    → ((more : List Summary) → SumUp c (drop i ids) more → SumUp c ids (old ++ more))
    → SumsUp c (get_or ids i d) first
    → (more : List Summary) → SumUp c (drop (i + 1) ids) more → SumUp c ids ((old ++ first ∷ []) ++ more)
sums_next c ids i d old first small so_far sums more then =
    let e : drop i ids ≡ get_or ids i d ∷ drop (suc i) ids = drop-cons ids i d small in
    let f : suc i ≡ i + 1 = omega arith in
    let whole : drop i ids ≡ get_or ids i d ∷ drop (i + 1) ids = e ∙ ap (λ (n : ℕ). get_or ids i d ∷ drop n ids) f in
    sums_more c (get_or ids i d) (drop (i + 1) ids) ids old first (subst (λ (xs : List ℕ). (m : List Summary) → SumUp c xs m → SumUp c ids (old ++ m)) whole so_far) sums more then

pub sums_end : (c : Connection) (ids : List ℕ) (i : ℕ) (summaries : List Summary) → length ids ≤ i
    → ((more : List Summary) → SumUp c (drop i ids) more → SumUp c ids (summaries ++ more))
    → SumUp c ids summaries
sums_end c ids i summaries past so_far =
    let none : length (drop i ids) ≡ 0 = omega (arith, length-drop i ids, past) in
    let all = subst (λ (xs : List ℕ). (m : List Summary) → SumUp c xs m → SumUp c ids (summaries ++ m)) (nil_from_length (drop i ids) none) so_far in
    subst (λ (x : List Summary). SumUp c ids x) (append-nil summaries) (all [] refl)
