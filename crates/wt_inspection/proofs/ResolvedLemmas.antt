-- Field sections of items that are read with an encoder stream.
use Rattle.std.proofs.Common.{◌≡◌, ℕ, List, [], ◌∷◌, ◌++◌, Option, drop, take, ap, ◌∙◌, subst}
use Rattle.wt_inspection_model.specs.declared.item.Content.{Content}
use Rattle.wt_inspection_model.specs.declared.item.Content.TheVariants as content-is
use Rattle.wt_inspection_model.specs.declared.item.Item.{Item}
use Rattle.wt_inspection_model.specs.declared.item.Parts.{Parts}
use Rattle.wt_inspection_model.specs.declared.item.Parts.TheVariants as parts-is
use Rattle.wt_inspection_model.specs.declared.item.Signal.{Signal}
use Rattle.wt_inspection_model.specs.declared.item.Signal.TheVariants as signal-is
use Rattle.wt_inspection.specs.Insertions.{Sent}
use Rattle.wt_inspection.specs.Resolved.{ContentWith, HasNoFields, HasNoSection, ItemsWith, PartsWith}

-- no section is read with any encoder stream
pub plain_parts : (sent : Option Sent) (payload : List ℕ) (parts : Parts) → HasNoFields parts → PartsWith sent payload parts
plain_parts sent payload (parts-is.Fields section) none = absurd none
plain_parts sent payload parts-is.Opaque none = tt
plain_parts sent payload (parts-is.Settings settings) none = tt
plain_parts sent payload (parts-is.Capsules capsules) none = tt
plain_parts sent payload (parts-is.Signal (signal-is.Id id)) none = tt
plain_parts sent payload (parts-is.Signal (signal-is.Priority id value)) none = tt
plain_parts sent payload (parts-is.Signal (signal-is.Promise id section)) none = absurd none

pub plain_content : (sent : Option Sent) (bytes : List ℕ) (content : Content) → HasNoSection content → ContentWith sent bytes content
plain_content sent bytes (content-is.Frame f) none = plain_parts sent (take f.present (drop f.head bytes)) f.parts none
plain_content sent bytes (content-is.Section section) none = absurd none
plain_content sent bytes (content-is.Stream head) none = tt
plain_content sent bytes (content-is.Session id) none = tt
plain_content sent bytes content-is.Payload none = tt
plain_content sent bytes (content-is.Capsule capsule) none = tt
plain_content sent bytes (content-is.Datagram datagram) none = tt
plain_content sent bytes (content-is.Settings settings) none = tt
plain_content sent bytes (content-is.Instruction item) none = tt
plain_content sent bytes content-is.Unread none = tt

-- no item yet
pub items_none : (sent : Option Sent) (bytes : List ℕ) (items : List Item) → items ≡ [] → ItemsWith sent bytes items
items_none sent bytes items none = rw none tt

-- one more item
items_with : (sent : Option Sent) (bytes : List ℕ) (items : List Item) (item : Item) → ItemsWith sent bytes items → ContentWith sent (drop item.at bytes) item.content → ItemsWith sent bytes (items ++ item ∷ [])
items_with sent bytes [] item none one = (one, tt)
items_with sent bytes (first ∷ items) item (is, are) one = (is, items_with sent bytes items item are one)

pub items_more : (sent : Option Sent) (bytes held rest : List ℕ) (items more : List Item) (item : Item) → held ≡ bytes → rest ≡ drop item.at held → more ≡ items ++ item ∷ [] → ItemsWith sent bytes items → ContentWith sent rest item.content → ItemsWith sent bytes more
items_more sent bytes held rest items more item same left is with one =
    let there : rest ≡ drop item.at bytes = left ∙ ap (drop item.at) same in
    rw is (items_with sent bytes items item with (subst (λ (b : List ℕ). ContentWith sent b item.content) there one))
