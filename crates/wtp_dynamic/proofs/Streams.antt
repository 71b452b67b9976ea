-- Streams that are cut, joined and compared.
use Rattle.std.proofs.Common.{◌≡◌, ℕ, ◌<◌, inl, inr, List, [], ◌∷◌, ◌++◌, length, refl, sym, ◌∙◌, ap, subst, arith, append-nil, Ok, Err}
use Rattle.wtp_qpack.specs.declared.qpack.DecodingError.{DecodingError}
use Rattle.wtp_dynamic.specs.declared.error.EncoderStreamError.{EncoderStreamError}
use Rattle.wtp_dynamic.specs.Table.{Table}
use Rattle.wtp_dynamic.specs.Instruction.{Instruction}
use Rattle.wtp_dynamic.specs.Front.{Whole, Faulty, most_bytes}
use Rattle.wtp_dynamic.specs.Steps.{step}
use Rattle.wtp_dynamic.specs.Stream.{first_of, Leads, IsCut, HasFault, reading_fault, Stands, Reaches, Breaks}
use Rattle.wtp_dynamic.proofs.Fronts as fronts

-- ---- more bytes

pub leads_more : (is : List Instruction) (t : Table) (bytes : List ℕ) (after : Table) (rest more : List ℕ) → Leads is t bytes after rest → Leads is t (bytes ++ more) after (rest ++ more)
leads_more [] t bytes after rest more (same, e) = (same, ap (λ z. z ++ more) e)
leads_more (i ∷ is) t bytes after rest more (next, behind, found, did, leads) =
    (next, behind ++ more, fronts.whole_goes (most_bytes t.limit) bytes more behind i found, did, leads_more is next behind after rest more leads)

pub leads_join : (is js : List Instruction) (t : Table) (a : List ℕ) (u : Table) (b : List ℕ) (v : Table) (c : List ℕ) → Leads is t a u b → Leads js u b v c → Leads (is ++ js) t a v c
leads_join [] js t a u b v c (same, e) more =
    let P : Table → Type 0 = λ x. Leads js x b v c in
    let Q : List ℕ → Type 0 = λ x. Leads js t x v c in
    subst Q e (subst P same more)
leads_join (i ∷ is) js t a u b v c (next, behind, found, did, leads) more =
    (next, behind, found, did, leads_join is js next behind u b v c leads more)

pub fault_more : (t : Table) (bytes more : List ℕ) (e : EncoderStreamError) → HasFault t bytes e → HasFault t (bytes ++ more) e
fault_more t bytes more e (inl (long, same)) = inl (fronts.long_stays (most_bytes t.limit) bytes more long, same)
fault_more t bytes more e (inr (inl (f, is, same))) = inr (inl (f, fronts.faulty_stays (most_bytes t.limit) bytes more f is, same))
fault_more t bytes more e (inr (inr (i, behind, found, did))) = inr (inr (i, behind ++ more, fronts.whole_goes (most_bytes t.limit) bytes more behind i found, did))

-- one piece after others
pub stands_join : (s : Table) (bytes : List ℕ) (t : Table) (held piece : List ℕ) (u : Table) (left : List ℕ) → Stands s bytes t held → Stands t (held ++ piece) u left → Stands s (bytes ++ piece) u left
stands_join s bytes t held piece u left first second = record {
  instructions = first.instructions ++ second.instructions;
  leads = leads_join first.instructions second.instructions s (bytes ++ piece) t (held ++ piece) u left (leads_more first.instructions s bytes t held piece first.leads) second.leads;
  cut = second.cut;
}

pub breaks_join : (s : Table) (bytes : List ℕ) (t : Table) (held piece : List ℕ) (u : Table) (e : EncoderStreamError) → Stands s bytes t held → Breaks t (held ++ piece) u e → Breaks s (bytes ++ piece) u e
breaks_join s bytes t held piece u e first second = record {
  instructions = first.instructions ++ second.instructions;
  rest = second.rest;
  leads = leads_join first.instructions second.instructions s (bytes ++ piece) t (held ++ piece) u second.rest (leads_more first.instructions s bytes t held piece first.leads) second.leads;
  fault = second.fault;
}

pub reaches_join : (s : Table) (bytes : List ℕ) (t : Table) (held piece : List ℕ) (u : Table) → Stands s bytes t held → Reaches t (held ++ piece) u → Reaches s (bytes ++ piece) u
reaches_join s bytes t held piece u first (is, rest, leads) = (
  first.instructions ++ is,
  rest,
  leads_join first.instructions is s (bytes ++ piece) t (held ++ piece) u rest (leads_more first.instructions s bytes t held piece first.leads) leads,
)

pub reaches_more : (s : Table) (bytes more : List ℕ) (u : Table) → Reaches s bytes u → Reaches s (bytes ++ more) u
reaches_more s bytes more u (is, rest, leads) = (is, rest ++ more, leads_more is s bytes u rest more leads)

-- what comes after a fault changes nothing
pub breaks_more : (s : Table) (bytes more : List ℕ) (u : Table) (e : EncoderStreamError) → Breaks s bytes u e → Breaks s (bytes ++ more) u e
breaks_more s bytes more u e broken = record {
  instructions = broken.instructions;
  rest = broken.rest ++ more;
  leads = leads_more broken.instructions s bytes u broken.rest more broken.leads;
  fault = fault_more u broken.rest more e broken.fault;
}

-- ---- there is one result

-- no instruction leads on
abbrev Stops : Table → List ℕ → Type 0
Stops t bytes = (i : Instruction) (behind : List ℕ) (next : Table) → first_of t bytes ≡ Whole i behind → step i t ≡ Ok next → ⊥

cut_stops : (t : Table) (bytes : List ℕ) → IsCut t bytes → Stops t bytes
cut_stops t bytes cut i behind next found did = cc (cut, found)

pub first_same : (i j : Instruction) (a b : List ℕ) → Whole i a ≡ Whole j b → (i ≡ j) × (a ≡ b)
first_same i j a b e = (cc e, cc e)

pub fault_stops : (t : Table) (bytes : List ℕ) (e : EncoderStreamError) → HasFault t bytes e → Stops t bytes
fault_stops t bytes e (inl (long, same)) i behind next found did = cc (long, found)
fault_stops t bytes e (inr (inl (f, is, same))) i behind next found did = cc (is, found)
fault_stops t bytes e (inr (inr (j, after, there, fails))) i behind next found did =
    let same : i ≡ j = (first_same i j behind after (sym found ∙ there)).0 in
    let failed : step i t ≡ Err e = rw same fails in
    cc (failed, did)

-- two ways that stop end in one place
abbrev Same : Table → List ℕ → Table → List ℕ → Type 0
Same u a v b = (u ≡ v) × (a ≡ b)

pub leads_same : (is js : List Instruction) (t : Table) (bytes : List ℕ) (u : Table) (a : List ℕ) (v : Table) (b : List ℕ)
    → Leads is t bytes u a → Stops u a → Leads js t bytes v b → Stops v b → Same u a v b
leads_same [] [] t bytes u a v b (u_is, a_is) stop_a (v_is, b_is) stop_b = (u_is ∙ sym v_is, a_is ∙ sym b_is)
leads_same [] (j ∷ js) t bytes u a v b (u_is, a_is) stop_a (next, behind, found, did, leads) stop_b =
    absurd (stop_a j behind next (ap (first_of u) a_is ∙ ap (λ (x : Table). first_of x bytes) u_is ∙ found) (ap (step j) u_is ∙ did))
leads_same (i ∷ is) [] t bytes u a v b (next, behind, found, did, leads) stop_a (v_is, b_is) stop_b =
    absurd (stop_b i behind next (ap (first_of v) b_is ∙ ap (λ (x : Table). first_of x bytes) v_is ∙ found) (ap (step i) v_is ∙ did))
leads_same (i ∷ is) (j ∷ js) t bytes u a v b (next, behind, found, did, leads) stop_a (next2, behind2, found2, did2, leads2) stop_b =
    let one = first_same i j behind behind2 (sym found ∙ found2) in
    let did3 : step i t ≡ Ok next2 = rw (one.0) did2 in
    let tables : next ≡ next2 = cc (did, did3) in
    let P : Table → Type 0 = λ x. Leads js x behind2 v b in
    let Q : List ℕ → Type 0 = λ x. Leads js next x v b in
    leads_same is js next behind u a v b leads stop_a (subst Q (sym one.1) (subst P (sym tables) leads2)) stop_b

pub stands_only : (s : Table) (bytes : List ℕ) (t : Table) (held : List ℕ) (u : Table) (left : List ℕ) → Stands s bytes t held → Stands s bytes u left → (t ≡ u) × (held ≡ left)
stands_only s bytes t held u left one two = leads_same one.instructions two.instructions s bytes t held u left one.leads (cut_stops t held one.cut) two.leads (cut_stops u left two.cut)

pub stands_or_breaks : (s : Table) (bytes : List ℕ) (t : Table) (held : List ℕ) (u : Table) (e : EncoderStreamError) → Stands s bytes t held → Breaks s bytes u e → ⊥
stands_or_breaks s bytes t held u e one two =
    let same = leads_same one.instructions two.instructions s bytes t held u two.rest one.leads (cut_stops t held one.cut) two.leads (fault_stops u two.rest e two.fault) in
    let cut : IsCut u two.rest = subst (λ (x : Table). IsCut x two.rest) same.0 (subst (λ (z : List ℕ). IsCut t z) same.1 one.cut) in
    by_fault u two.rest e two.fault cut
  where
    by_fault : (t : Table) (rest : List ℕ) (e : EncoderStreamError) → HasFault t rest e → IsCut t rest → ⊥
    by_fault t rest e (inl (long, same)) cut = cc (long, cut)
    by_fault t rest e (inr (inl (f, is, same))) cut = cc (is, cut)
    by_fault t rest e (inr (inr (i, behind, found, did))) cut = cc (found, cut)

-- one more instruction
pub leads_push : (is : List Instruction) (t : Table) (bytes : List ℕ) (u : Table) (rest : List ℕ) (i : Instruction) (behind : List ℕ) (v : Table)
    → Leads is t bytes u rest → first_of u rest ≡ Whole i behind → step i u ≡ Ok v → Leads (is ++ i ∷ []) t bytes v behind
leads_push is t bytes u rest i behind v leads found did = leads_join is (i ∷ []) t bytes u rest v behind leads (v, behind, found, did, (refl, refl))

pub breaks_at : (is : List Instruction) (t : Table) (bytes : List ℕ) (u : Table) (rest : List ℕ) (i : Instruction) (behind : List ℕ) (v : Table) (e : EncoderStreamError)
    → Leads is t bytes u rest → first_of u rest ≡ Whole i behind → v ≡ u → step i u ≡ Err e → Breaks t bytes v e
breaks_at is t bytes u rest i behind v e leads found same did =
    let P : Table → Type 0 = λ x. Breaks t bytes x e in
    subst P (sym same) (record { instructions = is; rest = rest; leads = leads; fault = inr (inr (i, behind, found, did)) })

pub breaks_by : (is : List Instruction) (t : Table) (bytes : List ℕ) (u : Table) (rest : List ℕ) (f : DecodingError)
    → Leads is t bytes u rest → first_of u rest ≡ Faulty f → Breaks t bytes u (reading_fault f)
breaks_by is t bytes u rest f leads found = record { instructions = is; rest = rest; leads = leads; fault = inr (inl (f, found, refl)) }

-- ---- a stream that begins

pub cut_nothing : (t : Table) → IsCut t []
cut_nothing t = fronts.cut_nothing (most_bytes t.limit) (omega arith)

pub stands_at_start : (t : Table) (held : List ℕ) → IsCut t held → Stands t (held ++ []) t held
stands_at_start t held cut = record { instructions = []; leads = (refl, sym (append-nil held)); cut = cut }

fault_only : (t : Table) (bytes : List ℕ) (e f : EncoderStreamError) → HasFault t bytes e → HasFault t bytes f → e ≡ f
fault_only t bytes e f (inl (long, same)) (inl (long2, same2)) = same ∙ sym same2
fault_only t bytes e f (inl (long, same)) (inr (inl (d, is, same2))) = cc (long, is)
fault_only t bytes e f (inl (long, same)) (inr (inr (i, behind, found, did))) = cc (long, found)
fault_only t bytes e f (inr (inl (d, is, same))) (inl (long, same2)) = cc (long, is)
fault_only t bytes e f (inr (inl (d, is, same))) (inr (inl (d2, is2, same2))) =
    let one : d ≡ d2 = cc (is, is2) in
    same ∙ ap reading_fault one ∙ sym same2
fault_only t bytes e f (inr (inl (d, is, same))) (inr (inr (i, behind, found, did))) = cc (is, found)
fault_only t bytes e f (inr (inr (i, behind, found, did))) (inl (long, same)) = cc (long, found)
fault_only t bytes e f (inr (inr (i, behind, found, did))) (inr (inl (d, is, same))) = cc (is, found)
fault_only t bytes e f (inr (inr (i, behind, found, did))) (inr (inr (j, behind2, found2, did2))) =
    let one = first_same i j behind behind2 (sym found ∙ found2) in
    let again : step i t ≡ Err f = rw one.0 did2 in
    cc (did, again)

pub breaks_only : (s : Table) (bytes : List ℕ) (t u : Table) (e f : EncoderStreamError) → Breaks s bytes t e → Breaks s bytes u f → (t ≡ u) × (e ≡ f)
breaks_only s bytes t u e f one two =
    let same = leads_same one.instructions two.instructions s bytes t one.rest u two.rest one.leads (fault_stops t one.rest e one.fault) two.leads (fault_stops u two.rest f two.fault) in
    let there : HasFault u two.rest e = subst (λ (x : Table). HasFault x two.rest e) same.0 (subst (λ (z : List ℕ). HasFault t z e) same.1 one.fault) in
    (same.0, fault_only u two.rest e f there two.fault)

-- what is held is less than one instruction may have
pub held_few : (t : Table) (held : List ℕ) → IsCut t held → length held < most_bytes t.limit
held_few t held cut = fronts.cut_short (most_bytes t.limit) held cut
