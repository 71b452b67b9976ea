-- What the definitions of the own decoder stream refuse.
use Rattle.std.proofs.Common.{◌≡◌, ◌<◌, ◌+◌, ◌++◌, ℕ, List, [], ◌∷◌, Some, refl, inl, inr, sym, ap, ◌∙◌}
use Rattle.std.specs.Prelude.{min, ◌^◌, ◌*◌}
use Rattle.wtp_dynamic.specs.declared.acknowledgment.Acknowledgment.{Acknowledgment}
use Rattle.wtp_dynamic.specs.declared.acknowledgment.Acknowledgment.TheVariants as instruction
use Rattle.wtp_dynamic.specs.DecoderStream.{acknowledgment_bytes}
use Rattle.wtp_dynamic.specs.Table.{insert_count}
use Rattle.wtp_dynamic_decoder.specs.Decoder.{Decoder}
use Rattle.wtp_qpack.specs.Integer.{shortest_int}
use Rattle.wtp_qpack.proofs.RoundTrip.{short_head}
use Rattle.wtp_webtransport.specs.Unacknowledged.{just_read}
use Rattle.vesgrauf.specs.Instructions.{Table, Deed, Reads, Leaves, Counts, Acknowledges, Deeds, AreSaid}
use Rattle.vesgrauf.proofs.InstructionLemmas.{acknowledged_once}

pub none_said : (a : Acknowledgment) → AreSaid [] (a ∷ []) → ⊥
none_said a h = let bad : a ∷ [] ≡ [] = h in cc

-- of one deed there is one instruction at most
pub one_alone : (x : Deed) (a b : Acknowledgment) → AreSaid (x ∷ []) (a ∷ b ∷ []) → ⊥
one_alone x a b (inl h) = let bad : a ∷ b ∷ [] ≡ [] = h in cc
one_alone x a b (inr (c, rest, e, is, h)) =
    let tail : b ∷ [] ≡ rest = cc in let bad : b ∷ [] ≡ [] = tail ∙ h in cc

pub read_here : (id k : ℕ) → AreSaid (Reads id ∷ []) (instruction.Section k ∷ []) → k ≡ id
read_here id k (inl h) = absurd (let bad : instruction.Section k ∷ [] ≡ [] = h in cc)
read_here id k (inr (c, rest, e, is, h)) =
    let head : instruction.Section k ≡ c = cc in
    let same : instruction.Section k ≡ instruction.Section id = head ∙ is in cc

pub left_here : (id k : ℕ) → AreSaid (Leaves id ∷ []) (instruction.Cancellation k ∷ []) → k ≡ id
left_here id k (inl h) = absurd (let bad : instruction.Cancellation k ∷ [] ≡ [] = h in cc)
left_here id k (inr (c, rest, e, is, h)) =
    let head : instruction.Cancellation k ≡ c = cc in
    let same : instruction.Cancellation k ≡ instruction.Cancellation id = head ∙ is in cc

pub not_counted : (id n : ℕ) → AreSaid (Reads id ∷ []) (instruction.Increment n ∷ []) → ⊥
not_counted id n (inl h) = let bad : instruction.Increment n ∷ [] ≡ [] = h in cc
not_counted id n (inr (c, rest, e, is, h)) =
    let head : instruction.Increment n ≡ c = cc in
    let bad : instruction.Increment n ≡ instruction.Section id = head ∙ is in cc

append_none : (xs ys : List ℕ) → xs ≡ xs ++ ys → ys ≡ []
append_none [] ys h = sym h
append_none (x ∷ xs) ys h = append_none xs ys (let tail : xs ≡ xs ++ ys = cc in tail)

not_empty : (n flags v : ℕ) → shortest_int n flags v ≡ [] → ⊥
not_empty n flags v h =
    let head = short_head n flags v [] in
    let bad : [] ≡ (flags * 2 ^ n + head.0) ∷ head.2 = sym (ap (λ (l : List ℕ). l ++ []) h) ∙ head.3 in cc

pub forgotten : (id : ℕ) (t u : Table) (a : Acknowledges id t u) (k : Decoder) (required : ℕ)
    → a.d.decoder ≡ Some k → a.d.read ≡ Some (just_read required) → 0 < min required (insert_count k.table)
    → u.bytes ≡ t.bytes → ⊥
forgotten id t u a k required h g n same =
    not_empty 7 1 id (append_none t.bytes (acknowledgment_bytes (instruction.Section id))
    (sym same ∙ (acknowledged_once id t u a k required h g n).0))

pub silent : (t u : Table) → Deeds [] t u → u.bytes ≡ t.bytes
silent t u h = ap (λ (o : Table). o.bytes) h
