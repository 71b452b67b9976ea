-- Decoder streams that are cut, joined and compared.
use Rattle.std.proofs.Common.{◌≡◌, ℕ, ◌+◌, ◌<◌, ◌≤◌, inl, inr, List, [], ◌∷◌, ◌++◌, length, refl, sym, ◌∙◌, ap, subst, arith, eq-eqb, ne_eqb, Result, Ok, Err, MatchResult}
use Rattle.std.proofs.lemmas.Bool.{lt-ltb, le-ltb}
use Rattle.wtp_dynamic.specs.declared.acknowledgment.Acknowledgment.{Acknowledgment}
use Rattle.wtp_dynamic.specs.declared.acknowledgment.Acknowledgment.TheVariants.{Increment}
use Rattle.wtp_dynamic.specs.declared.error.DecoderStreamError.{DecoderStreamError}
use Rattle.wtp_dynamic.specs.declared.error.DecoderStreamError.TheVariants as fault
use Rattle.wtp_dynamic.specs.EncoderState.{increment_fault}
use Rattle.wtp_dynamic_encoder.specs.Acknowledging.{Whole, most_bytes, first_of, Ledger, step, Steps, Leads, IsCut, HasFault, Stands, Breaks}
use Rattle.wtp_dynamic_encoder.proofs.Fronts as fronts

-- ---- more bytes

pub leads_more : (is : List Acknowledgment) (n : ℕ) (l : Ledger) (bytes : List ℕ) (after : Ledger) (rest more : List ℕ) → Leads is n l bytes after rest → Leads is n l (bytes ++ more) after (rest ++ more)
leads_more [] n l bytes after rest more (same, e) = (same, ap (λ z. z ++ more) e)
leads_more (i ∷ is) n l bytes after rest more (next, behind, found, did, leads) =
    (next, behind ++ more, fronts.whole_goes bytes more behind i found, did, leads_more is n next behind after rest more leads)

pub leads_join : (is js : List Acknowledgment) (n : ℕ) (l : Ledger) (a : List ℕ) (u : Ledger) (b : List ℕ) (v : Ledger) (c : List ℕ) → Leads is n l a u b → Leads js n u b v c → Leads (is ++ js) n l a v c
leads_join [] js n l a u b v c (same, e) more =
    let P : Ledger → Type 0 = λ x. Leads js n x b v c in
    let Q : List ℕ → Type 0 = λ x. Leads js n l x v c in
    subst Q e (subst P same more)
leads_join (i ∷ is) js n l a u b v c (next, behind, found, did, leads) more =
    (next, behind, found, did, leads_join is js n next behind u b v c leads more)

fault_more : (n : ℕ) (l : Ledger) (bytes more : List ℕ) (e : DecoderStreamError) → HasFault n l bytes e → HasFault n l (bytes ++ more) e
fault_more n l bytes more e (inl (over, same)) = inl (fronts.over_stays bytes more over, same)
fault_more n l bytes more e (inr (i, behind, found, did)) = inr (i, behind ++ more, fronts.whole_goes bytes more behind i found, did)

-- one piece after others
pub stands_join : (n : ℕ) (s : Ledger) (bytes : List ℕ) (l : Ledger) (held piece : List ℕ) (u : Ledger) (left : List ℕ) → Stands n s bytes l held → Stands n l (held ++ piece) u left → Stands n s (bytes ++ piece) u left
stands_join n s bytes l held piece u left first second = record {
  instructions = first.instructions ++ second.instructions;
  leads = leads_join first.instructions second.instructions n s (bytes ++ piece) l (held ++ piece) u left (leads_more first.instructions n s bytes l held piece first.leads) second.leads;
  cut = second.cut;
}

pub breaks_join : (n : ℕ) (s : Ledger) (bytes : List ℕ) (l : Ledger) (held piece : List ℕ) (u : Ledger) (e : DecoderStreamError) → Stands n s bytes l held → Breaks n l (held ++ piece) u e → Breaks n s (bytes ++ piece) u e
breaks_join n s bytes l held piece u e first second = record {
  instructions = first.instructions ++ second.instructions;
  rest = second.rest;
  leads = leads_join first.instructions second.instructions n s (bytes ++ piece) l (held ++ piece) u second.rest (leads_more first.instructions n s bytes l held piece first.leads) second.leads;
  fault = second.fault;
}

-- what comes after a fault changes nothing
pub breaks_more : (n : ℕ) (s : Ledger) (bytes more : List ℕ) (u : Ledger) (e : DecoderStreamError) → Breaks n s bytes u e → Breaks n s (bytes ++ more) u e
breaks_more n s bytes more u e broken = record {
  instructions = broken.instructions;
  rest = broken.rest ++ more;
  leads = leads_more broken.instructions n s bytes u broken.rest more broken.leads;
  fault = fault_more n u broken.rest more e broken.fault;
}

-- ---- there is one result

-- no instruction leads on
abbrev Stops : ℕ → Ledger → List ℕ → Type 0
Stops n l bytes = (i : Acknowledgment) (behind : List ℕ) (next : Ledger) → first_of bytes ≡ Whole i behind → step i n l ≡ Ok next → ⊥

cut_stops : (n : ℕ) (l : Ledger) (bytes : List ℕ) → IsCut bytes → Stops n l bytes
cut_stops n l bytes cut i behind next found did = cc (cut, found)

first_same : (i j : Acknowledgment) (a b : List ℕ) → Whole i a ≡ Whole j b → (i ≡ j) × (a ≡ b)
first_same i j a b e = (cc e, cc e)

fault_stops : (n : ℕ) (l : Ledger) (bytes : List ℕ) (e : DecoderStreamError) → HasFault n l bytes e → Stops n l bytes
fault_stops n l bytes e (inl (over, same)) i behind next found did = cc (over, found)
fault_stops n l bytes e (inr (j, after, there, fails)) i behind next found did =
    let same : i ≡ j = (first_same i j behind after (sym found ∙ there)).0 in
    let failed : step i n l ≡ Err e = rw same fails in
    cc (failed, did)

-- two ways that stop end in one place
abbrev Same : Ledger → List ℕ → Ledger → List ℕ → Type 0
Same u a v b = (u ≡ v) × (a ≡ b)

leads_same : (is js : List Acknowledgment) (n : ℕ) (l : Ledger) (bytes : List ℕ) (u : Ledger) (a : List ℕ) (v : Ledger) (b : List ℕ)
    → Leads is n l bytes u a → Stops n u a → Leads js n l bytes v b → Stops n v b → Same u a v b
leads_same [] [] n l bytes u a v b (u_is, a_is) stop_a (v_is, b_is) stop_b = (u_is ∙ sym v_is, a_is ∙ sym b_is)
leads_same [] (j ∷ js) n l bytes u a v b (u_is, a_is) stop_a (next, behind, found, did, leads) stop_b =
    absurd (stop_a j behind next (ap first_of a_is ∙ found) (ap (step j n) u_is ∙ did))
leads_same (i ∷ is) [] n l bytes u a v b (next, behind, found, did, leads) stop_a (v_is, b_is) stop_b =
    absurd (stop_b i behind next (ap first_of b_is ∙ found) (ap (step i n) v_is ∙ did))
leads_same (i ∷ is) (j ∷ js) n l bytes u a v b (next, behind, found, did, leads) stop_a (next2, behind2, found2, did2, leads2) stop_b =
    let one = first_same i j behind behind2 (sym found ∙ found2) in
    let did3 : step i n l ≡ Ok next2 = rw (one.0) did2 in
    let ledgers : next ≡ next2 = cc (did, did3) in
    let P : Ledger → Type 0 = λ x. Leads js n x behind2 v b in
    let Q : List ℕ → Type 0 = λ x. Leads js n next x v b in
    leads_same is js n next behind u a v b leads stop_a (subst Q (sym one.1) (subst P (sym ledgers) leads2)) stop_b

pub stands_only : (n : ℕ) (s : Ledger) (bytes : List ℕ) (l : Ledger) (held : List ℕ) (u : Ledger) (left : List ℕ) → Stands n s bytes l held → Stands n s bytes u left → (l ≡ u) × (held ≡ left)
stands_only n s bytes l held u left one two = leads_same one.instructions two.instructions n s bytes l held u left one.leads (cut_stops n l held one.cut) two.leads (cut_stops n u left two.cut)

pub stands_or_breaks : (n : ℕ) (s : Ledger) (bytes : List ℕ) (l : Ledger) (held : List ℕ) (u : Ledger) (e : DecoderStreamError) → Stands n s bytes l held → Breaks n s bytes u e → ⊥
stands_or_breaks n s bytes l held u e one two =
    let same = leads_same one.instructions two.instructions n s bytes l held u two.rest one.leads (cut_stops n l held one.cut) two.leads (fault_stops n u two.rest e two.fault) in
    by_fault u two.rest e two.fault (subst (λ (z : List ℕ). IsCut z) same.1 one.cut)
  where
    by_fault : (l : Ledger) (rest : List ℕ) (e : DecoderStreamError) → HasFault n l rest e → IsCut rest → ⊥
    by_fault l rest e (inl (over, same)) cut = cc (over, cut)
    by_fault l rest e (inr (i, behind, found, did)) cut = cc (found, cut)

fault_only : (n : ℕ) (l : Ledger) (bytes : List ℕ) (e f : DecoderStreamError) → HasFault n l bytes e → HasFault n l bytes f → e ≡ f
fault_only n l bytes e f (inl (over, same)) (inl (over2, same2)) = same ∙ sym same2
fault_only n l bytes e f (inl (over, same)) (inr (i, behind, found, did)) = cc (over, found)
fault_only n l bytes e f (inr (i, behind, found, did)) (inl (over, same)) = cc (found, over)
fault_only n l bytes e f (inr (i, behind, found, did)) (inr (j, behind2, found2, did2)) =
    let one = first_same i j behind behind2 (sym found ∙ found2) in
    let again : step i n l ≡ Err f = rw one.0 did2 in
    cc (did, again)

pub breaks_only : (n : ℕ) (s : Ledger) (bytes : List ℕ) (l u : Ledger) (e f : DecoderStreamError) → Breaks n s bytes l e → Breaks n s bytes u f → (l ≡ u) × (e ≡ f)
breaks_only n s bytes l u e f one two =
    let same = leads_same one.instructions two.instructions n s bytes l one.rest u two.rest one.leads (fault_stops n l one.rest e one.fault) two.leads (fault_stops n u two.rest f two.fault) in
    let there : HasFault n u two.rest e = subst (λ (x : Ledger). HasFault n x two.rest e) same.0 (subst (λ (z : List ℕ). HasFault n l z e) same.1 one.fault) in
    (same.0, fault_only n u two.rest e f there two.fault)

-- one more instruction
pub leads_push : (is : List Acknowledgment) (n : ℕ) (l : Ledger) (bytes : List ℕ) (u : Ledger) (rest : List ℕ) (i : Acknowledgment) (behind : List ℕ) (v : Ledger)
    → Leads is n l bytes u rest → first_of rest ≡ Whole i behind → step i n u ≡ Ok v → Leads (is ++ i ∷ []) n l bytes v behind
leads_push is n l bytes u rest i behind v leads found did = leads_join is (i ∷ []) n l bytes u rest v behind leads (v, behind, found, did, (refl, refl))

-- ---- a stream that begins

pub cut_nothing : IsCut []
cut_nothing = fronts.cut_nothing

-- what is held is less than one instruction may have
pub held_few : (held : List ℕ) → IsCut held → length held < most_bytes
held_few held cut = fronts.cut_short held cut

-- ---- increments

pub increment_steps : (count inserted : ℕ) (old new : Ledger) (r : Result (Unit {0}) DecoderStreamError)
    → MatchResult r (λ _. (0 < count) × (old.0 + count ≤ inserted) × (new ≡ (old.0 + count, old.1))) (λ e. (new ≡ old) × increment_fault e count old.0 inserted) → Steps (step (Increment count) inserted old) old new r
increment_steps count inserted old new (Ok u) (some, fits, is) = rw (ne_eqb count 0 (omega arith), le-ltb inserted (old.0 + count) fits) (ap (λ (l : Ledger). Ok l) (sym is))
increment_steps count inserted old new (Err fault.IntegerOverflow) (same, bad) = absurd bad
increment_steps count inserted old new (Err fault.UnknownSection) (same, bad) = absurd bad
increment_steps count inserted old new (Err fault.ZeroIncrement) (same, zero) = (same, rw (eq-eqb count 0 zero) refl)
increment_steps count inserted old new (Err fault.IncrementTooLarge) (same, (some, over)) = (same, rw (ne_eqb count 0 (omega arith), lt-ltb inserted (old.0 + count) over) refl)
increment_steps count inserted old new (Err fault.Memory) (same, bad) = absurd bad
