-- What needs memory: strings that are not decoded, and bytes that are kept.
use Rattle.std.proofs.Common.{◌≡◌, ◌≢◌, ◌||◌, ℕ, ◌<◌, ◌-◌, nat_lt, ◌∙◌, inl, inr, Bool, true, false, List, [], ◌∷◌, length, drop, refl, sym, ap, subst, arith, length-append, length-drop, Result, Ok, Err}
use Rattle.wtp_huffman.proofs.Chosen.{chosen}
use Rattle.wtp_huffman.specs.Huffman.{bits_of}
use Rattle.wtp_qpack.specs.StringLiteral.{huffman_text, text_of_bits}
use Rattle.wtp_qpack.specs.Field.{Field}
use Rattle.wtp_dynamic.specs.declared.error.EncoderStreamError.{EncoderStreamError}
use Rattle.wtp_dynamic.specs.declared.error.EncoderStreamError.TheVariants as fault
use Rattle.wtp_dynamic.specs.Table.{Table, entry_size, insert_count, excess, resized, inserted}
use Rattle.wtp_dynamic.specs.Instruction.{Coded, Instruction, SetCapacity, InsertLiteral}
use Rattle.wtp_dynamic.specs.Front.{Whole}
use Rattle.wtp_dynamic.specs.Steps.{text_of, insert_step, step, is_decoded, MakesEntry, NeedsMemory as InstructionNeeds}
use Rattle.wtp_dynamic.specs.Stream.{first_of, Leads, HasFault, Stands, NeedsMemory, Lacks, OnlyCapacities, HasNoText}
use Rattle.wtp_dynamic.proofs.Histories.{excess_within}
use Rattle.wtp_dynamic.proofs.Streams.{first_same, fault_stops}

some_text : (b : ℕ) (bytes : List ℕ) → is_decoded (true, b ∷ bytes) ≡ false → ⊥
some_text b bytes e = grind (arith, e)

no_text : (s : Coded) → is_decoded s ≡ false → text_of s ≡ Ok s.1
unfolding huffman_text text_of_bits bits_of
no_text (false, bytes) e = refl
no_text (true, []) e = refl
no_text (true, b ∷ bytes) e = absurd (some_text b bytes e)

neither : (a b : Bool) → (a || b) ≡ false → (a ≡ false) × (b ≡ false)
neither false false e = (refl, refl)
neither false true e = cc e
neither true b e = cc e

pub plain_step : (n v : Coded) (t : Table) → (is_decoded n || is_decoded v) ≡ false → step (InsertLiteral n v) t ≡ insert_step (n.1, v.1) t
plain_step n v t e =
    let both = neither (is_decoded n) (is_decoded v) e in
    rw (no_text n both.0, no_text v both.1) refl

-- the entry of such strings is checked first
pub plain_fails : (n v : Coded) (t : Table) (e : EncoderStreamError) → (is_decoded n || is_decoded v) ≡ false → insert_step (n.1, v.1) t ≡ Err e → e ≢ fault.Memory
    → MakesEntry {X = Field} (λ entry. entry) (InsertLiteral n v) t (Err e)
plain_fails n v t e none fails other = (λ _. plain_step n v t none ∙ fails, λ is. absurd (other is))

pub plain_lacks : (n v : Coded) (t : Table) → (is_decoded n || is_decoded v) ≡ false → insert_step (n.1, v.1) t ≡ Ok (inserted (n.1, v.1) t)
    → (r : Result Field EncoderStreamError) → r ≡ Err fault.Memory → MakesEntry {X = Field} (λ entry. entry) (InsertLiteral n v) t r
plain_lacks n v t none did r is = rw is (λ other. absurd (other refl), λ _. inr ((n.1, v.1), plain_step n v t none ∙ did))

pub keeps_rest : (s : Table) (bytes : List ℕ) (t : Table) (rest : List ℕ) → Stands s bytes t rest → 0 < length rest → Lacks s bytes t
keeps_rest s bytes t rest stands some = record {
  instructions = stands.instructions;
  rest = rest;
  leads = stands.leads;
  needs = inl (some, stands.cut);
}

-- ---- faults need none

pub capacity_needs_none : (c : ℕ) (t : Table) → ¬ InstructionNeeds (SetCapacity c) t
capacity_needs_none c t (inl text) = text
capacity_needs_none c t (inr (entry, did)) = elim (chosen (nat_lt t.limit c) (Err fault.CapacityAboveLimit) (Ok (resized c t)) (Ok (inserted entry t)) did) [
  | inl large ↦ cc large.1
  | inr fine ↦
      let same : resized c t ≡ inserted entry t = cc fine.1 in
      let counts : insert_count (resized c t) ≡ insert_count (inserted entry t) = ap insert_count same in
      let a : ℕ = excess c t.live in
      let b : ℕ = excess (t.capacity - entry_size entry) t.live in
      omega (arith, counts, excess_within c t.live, excess_within (t.capacity - entry_size entry) t.live, length-drop a t.live, length-drop b t.live, length-append (drop b t.live) (entry ∷ []))
]

at_front : (t : Table) (bytes : List ℕ) (e : EncoderStreamError) → HasFault t bytes e → HasNoText t bytes → ¬ NeedsMemory t bytes
at_front t bytes e (inl (long, same)) none (inl (some, cut)) = cc (long, cut)
at_front t bytes e (inr (inl (f, is, same))) none (inl (some, cut)) = cc (is, cut)
at_front t bytes e (inr (inr (i, behind, found, did))) none (inl (some, cut)) = cc (found, cut)
at_front t bytes e wrong none (inr (first, behind, found, inl text)) = none first behind found text
at_front t bytes e wrong none (inr (first, behind, found, inr (entry, did))) = fault_stops t bytes e wrong first behind (inserted entry t) found did

pub fault_needs_none : (t : Table) (bytes : List ℕ) (e : EncoderStreamError) (u : Table) → HasFault t bytes e → HasNoText t bytes → ¬ Lacks t bytes u
fault_needs_none t bytes e u wrong none lacks = by lacks.instructions lacks.leads
  where
    by : (js : List Instruction) → Leads js t bytes u lacks.rest → ⊥
    by [] (u_is, rest_is) = at_front t bytes e wrong none (subst (λ (x : Table). NeedsMemory x bytes) u_is (subst (λ (z : List ℕ). NeedsMemory u z) rest_is lacks.needs))
    by (j ∷ js) (next, behind, found, did, leads) = fault_stops t bytes e wrong j behind next found did

tail : (c : ℕ) (s : Table) (bytes : List ℕ) (next : Table) (behind : List ℕ) (u : Table) → first_of s bytes ≡ Whole (SetCapacity c) behind → step (SetCapacity c) s ≡ Ok next → Lacks s bytes u → Lacks next behind u
tail c s bytes next behind u found did lacks = by lacks.instructions lacks.leads
  where
    none : ¬ NeedsMemory s bytes
    none (inl (some, cut)) = cc (found, cut)
    none (inr (first, after, there, needs)) =
        let one = first_same (SetCapacity c) first behind after (sym found ∙ there) in
        capacity_needs_none c s (subst (λ (i : Instruction). InstructionNeeds i s) (sym one.0) needs)

    by : (js : List Instruction) → Leads js s bytes u lacks.rest → Lacks next behind u
    by [] (u_is, rest_is) = absurd (none (subst (λ (x : Table). NeedsMemory x bytes) u_is (subst (λ (z : List ℕ). NeedsMemory u z) rest_is lacks.needs)))
    by (j ∷ js) (next2, behind2, found2, did2, leads) =
        let one = first_same (SetCapacity c) j behind behind2 (sym found ∙ found2) in
        let did3 : step (SetCapacity c) s ≡ Ok next2 = subst (λ (i : Instruction). step i s ≡ Ok next2) (sym one.0) did2 in
        let tables : next ≡ next2 = cc (did, did3) in
        record {
          instructions = js;
          rest = lacks.rest;
          leads = subst (λ (z : List ℕ). Leads js next z u lacks.rest) (sym one.1) (subst (λ (x : Table). Leads js x behind2 u lacks.rest) (sym tables) leads);
          needs = lacks.needs;
        }

pub lacks_after : (is : List Instruction) (s : Table) (bytes : List ℕ) (t : Table) (rest : List ℕ) (u : Table) → Leads is s bytes t rest → OnlyCapacities is → Lacks s bytes u → Lacks t rest u
lacks_after [] s bytes t rest u (same, e) only lacks = subst (λ (x : Table). Lacks x rest u) (sym same) (subst (λ (z : List ℕ). Lacks s z u) (sym e) lacks)
lacks_after (SetCapacity c ∷ is) s bytes t rest u (next, behind, found, did, leads) only lacks =
    lacks_after is next behind t rest u leads only (tail c s bytes next behind u found did lacks)
lacks_after (i ∷ is) s bytes t rest u leads only lacks = absurd only
