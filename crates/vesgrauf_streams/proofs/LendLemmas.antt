-- What is written through what `get_mut` lends.
use Rattle.std.proofs.Common.{◌≡◌, ℕ, List, Some, sym, subst, nat_cmp, slice_set, slice_index_or, BTreeMap}
use Rattle.std.specs.BTreeMap as tree
use Rattle.vesgrauf_streams.specs.declared.slots.Slot.{Slot}
use Rattle.vesgrauf_streams.specs.Slots.{IsIndex, refilled, value_in}
use Rattle.vesgrauf_streams.specs.Streams.{Streams, WritesThrough}
use Rattle.vesgrauf_streams.proofs.CallerLemmas.{through}
use Rattle.vesgrauf_streams.proofs.IndexLemmas.{streams, lent, lent_value}

pub lent_through : {V : Type 0} (slots : List (Slot V)) (index : BTreeMap ℕ ℕ) (i id : ℕ) (r : Slot V) (v : V)
    → IsIndex slots index → tree.get nat_cmp index id ≡ Some i → r ≡ slice_index_or slots i r
    → value_in (Some r) ≡ Some v → (w : V)
    → WritesThrough (streams slots) id w (streams (slice_set slots i (refilled r w)))
lent_through {V} slots index i id r v is e at has w =
    subst (λ (n : Streams V). WritesThrough (streams slots) id w n) (sym (lent slots index i id r is e at w))
    (through (streams slots) id v w (sym (lent_value slots index i id r v is e at has)))
