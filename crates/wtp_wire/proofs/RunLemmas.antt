-- Unknown frames are skipped one at a time, and the run continues after each frame.
use Rattle.std.proofs.Common.{◌≡◌, ℕ, zero, suc, ◌≤◌, ◌<◌, Bool, false, List, [], ◌∷◌, length, refl, sym, ap, ◌∙◌, arith}
use Rattle.wtp_wire.specs.Content.{Content, kind_in}
use Rattle.wtp_wire.specs.Front.{Front, Framed, Unknown, BadId, TooBig, Short, front}
use Rattle.wtp_wire.proofs.FrontLemmas.{framed-shorter, unknown-shorter, front-empty}
use Rattle.wtp_wire.specs.Rule.{Role, rule}
use Rattle.wtp_wire.specs.Run.{Run, Tail, skip_case, skip_within, skip_unknown, ends, judged, next_run, run_within, run, run_stop}

skip_case_same : (c : Front) (f g : List ℕ → List ℕ) (bytes : List ℕ) → ((rest : List ℕ) → c ≡ Unknown rest → f rest ≡ g rest) → skip_case f bytes c ≡ skip_case g bytes c
skip_case_same (Framed x rest) f g bytes h = refl
skip_case_same (Unknown rest) f g bytes h = h rest refl
skip_case_same (BadId rest) f g bytes h = refl
skip_case_same (TooBig rest) f g bytes h = refl
skip_case_same Short f g bytes h = refl

skip_within_empty : (m : ℕ) → skip_within m [] ≡ []
skip_within_empty zero = refl
skip_within_empty (suc m) = ap (λ (c : Front). skip_case (λ rest. skip_within m rest) [] c) front-empty

skip_within_enough : (n m : ℕ) (bytes : List ℕ) → length bytes ≤ n → length bytes ≤ m → skip_within n bytes ≡ skip_within m bytes
skip_within_enough zero m [] hn hm = sym (skip_within_empty m)
skip_within_enough zero m (b ∷ bytes) hn hm = absurd (omega arith)
skip_within_enough (suc n) zero [] hn hm = skip_within_empty (suc n)
skip_within_enough (suc n) zero (b ∷ bytes) hn hm = absurd (omega arith)
skip_within_enough (suc n) (suc m) bytes hn hm = skip_case_same (front bytes) (λ rest. skip_within n rest) (λ rest. skip_within m rest) bytes (λ rest e. let less : length rest < length bytes = unknown-shorter bytes rest e in skip_within_enough n m rest (omega arith) (omega arith))

skip_unknown-step : (bytes : List ℕ) → skip_unknown bytes ≡ skip_case (λ rest. skip_within (length bytes) rest) bytes (front bytes)
unfolding skip_unknown
skip_unknown-step bytes = skip_within_enough (length bytes) (suc (length bytes)) bytes (omega arith) (omega arith)

pub skip_unknown-unknown : (bytes rest : List ℕ) → front bytes ≡ Unknown rest → skip_unknown bytes ≡ skip_unknown rest
unfolding skip_unknown
skip_unknown-unknown bytes rest e =
    let less : length rest < length bytes = unknown-shorter bytes rest e in
    skip_unknown-step bytes ∙ ap (λ (c : Front). skip_case (λ r. skip_within (length bytes) r) bytes c) e ∙ skip_within_enough (length bytes) (length rest) rest (omega arith) (omega arith)

pub skip_unknown-framed : (bytes rest : List ℕ) (f : Content) → front bytes ≡ Framed f rest → skip_unknown bytes ≡ bytes
skip_unknown-framed bytes rest f e = skip_unknown-step bytes ∙ ap (λ (c : Front). skip_case (λ r. skip_within (length bytes) r) bytes c) e

pub skip_unknown-bad : (bytes rest : List ℕ) → front bytes ≡ BadId rest → skip_unknown bytes ≡ bytes
skip_unknown-bad bytes rest e = skip_unknown-step bytes ∙ ap (λ (c : Front). skip_case (λ r. skip_within (length bytes) r) bytes c) e

pub skip_unknown-big : (bytes rest : List ℕ) → front bytes ≡ TooBig rest → skip_unknown bytes ≡ bytes
skip_unknown-big bytes rest e = skip_unknown-step bytes ∙ ap (λ (c : Front). skip_case (λ r. skip_within (length bytes) r) bytes c) e

pub skip_unknown-short : (bytes : List ℕ) → front bytes ≡ Short → skip_unknown bytes ≡ bytes
skip_unknown-short bytes e = skip_unknown-step bytes ∙ ap (λ (c : Front). skip_case (λ r. skip_within (length bytes) r) bytes c) e

-- skipping does not add bytes
skip_case-shorter : (more : List ℕ → List ℕ) (bytes : List ℕ) (c : Front) → front bytes ≡ c → ((rest : List ℕ) → length (more rest) ≤ length rest) → length (skip_case more bytes c) ≤ length bytes
skip_case-shorter more bytes (Framed x rest) e h = omega arith
skip_case-shorter more bytes (Unknown rest) e h = omega (arith, h rest, unknown-shorter bytes rest e)
skip_case-shorter more bytes (BadId rest) e h = omega arith
skip_case-shorter more bytes (TooBig rest) e h = omega arith
skip_case-shorter more bytes Short e h = omega arith

skip_within-shorter : (n : ℕ) (bytes : List ℕ) → length (skip_within n bytes) ≤ length bytes
skip_within-shorter zero bytes = omega arith
skip_within-shorter (suc n) bytes = skip_case-shorter (λ rest. skip_within n rest) bytes (front bytes) refl (λ rest. skip_within-shorter n rest)

pub skip_unknown-shorter : (bytes : List ℕ) → length (skip_unknown bytes) ≤ length bytes
unfolding skip_unknown
skip_unknown-shorter bytes = skip_within-shorter (length bytes) bytes

pub skip_unknown-empty : skip_unknown [] ≡ []
skip_unknown-empty = skip_unknown-short [] front-empty

-- ---- runs

next_same : (c : Front) (f g : Bool → List ℕ → Run) (role : Role) (first : Bool) (bytes rest : List ℕ) (tail : Tail) → ((x : Content) (behind : List ℕ) → c ≡ Framed x behind → f false behind ≡ g false behind) → next_run f role first bytes rest tail c ≡ next_run g role first bytes rest tail c
next_same (Framed x behind) f g role first bytes rest tail h = ap (λ (r : Run). judged (rule role first (kind_in x)) x r) (h x behind refl)
next_same (Unknown behind) f g role first bytes rest tail h = refl
next_same (BadId behind) f g role first bytes rest tail h = refl
next_same (TooBig behind) f g role first bytes rest tail h = refl
next_same Short f g role first bytes rest tail h = refl

run_empty : (m : ℕ) (role : Role) (tail : Tail) (first : Bool) → run_within m role tail first [] ≡ ends (run_stop [] [] tail)
run_empty zero role tail first = refl
run_empty (suc m) role tail first =
    ap (λ (b : List ℕ). next_run (λ f r. run_within m role tail f r) role first [] b tail (front b)) skip_unknown-empty ∙ ap (λ (c : Front). next_run (λ f r. run_within m role tail f r) role first [] [] tail c) front-empty

run_enough : (n m : ℕ) (role : Role) (tail : Tail) (first : Bool) (bytes : List ℕ) → length bytes ≤ n → length bytes ≤ m → run_within n role tail first bytes ≡ run_within m role tail first bytes
run_enough zero m role tail first [] hn hm = sym (run_empty m role tail first)
run_enough zero m role tail first (b ∷ bytes) hn hm = absurd (omega arith)
run_enough (suc n) zero role tail first [] hn hm = run_empty (suc n) role tail first
run_enough (suc n) zero role tail first (b ∷ bytes) hn hm = absurd (omega arith)
run_enough (suc n) (suc m) role tail first bytes hn hm =
    next_same (front (skip_unknown bytes)) (λ f r. run_within n role tail f r) (λ f r. run_within m role tail f r) role first bytes (skip_unknown bytes) tail
    (λ x behind e.
    let less : length behind < length (skip_unknown bytes) = framed-shorter (skip_unknown bytes) behind x e in
    let past : length (skip_unknown bytes) ≤ length bytes = skip_unknown-shorter bytes in
    run_enough n m role tail false behind (omega arith) (omega arith))

pub run-step : (role : Role) (first : Bool) (bytes : List ℕ) (tail : Tail) → run role first bytes tail ≡ next_run (λ f r. run role f r tail) role first bytes (skip_unknown bytes) tail (front (skip_unknown bytes))
unfolding run
run-step role first bytes tail =
    run_enough (length bytes) (suc (length bytes)) role tail first bytes (omega arith) (omega arith)
    ∙ next_same (front (skip_unknown bytes)) (λ f r. run_within (length bytes) role tail f r) (λ f r. run_within (length r) role tail f r) role first bytes (skip_unknown bytes) tail
    (λ x behind e.
    let less : length behind < length (skip_unknown bytes) = framed-shorter (skip_unknown bytes) behind x e in
    let past : length (skip_unknown bytes) ≤ length bytes = skip_unknown-shorter bytes in
    run_enough (length bytes) (length behind) role tail false behind (omega arith) (omega arith))
