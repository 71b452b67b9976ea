-- The laws of a run.
use Rattle.std.proofs.Common.{◌≡◌, ◌≢◌, ℕ, Bool, false, List, Option, Some, None, refl, sym, ap, ◌∙◌}
use Rattle.wtp_core.specs.declared.error.ErrorCode.{ErrorCode}
use Rattle.wtp_core.specs.declared.error.ErrorCode.TheVariants.{Id, ExcessiveLoad}
use Rattle.wtp_wire.specs.Content.{Content, kind_in}
use Rattle.wtp_wire.specs.Front.{Front, Framed, Unknown, BadId, TooBig, Short, front}
use Rattle.wtp_wire.specs.Rule.{Role, RemoteBi, rule}
use Rattle.wtp_wire.specs.Run.{Run, Tail, MayGoOn, H3, skip_unknown, run, next_run, judged, ends, follows, run_stop, counted}
use Rattle.wtp_wire.proofs.RunLemmas.{skip_unknown-unknown, skip_unknown-framed, skip_unknown-bad, skip_unknown-big, skip_unknown-short, run-step}
use Rattle.wtp_wire.proofs.RuleLemmas.{rule_first}

-- the run of bytes that start with this case, which is not an unknown frame
run_at : (role : Role) (first : Bool) (bytes : List ℕ) (tail : Tail) (c : Front) → skip_unknown bytes ≡ bytes → front bytes ≡ c → run role first bytes tail ≡ next_run (λ f r. run role f r tail) role first bytes bytes tail c
run_at role first bytes tail c known e =
    run-step role first bytes tail
    ∙ ap (λ (b : List ℕ). next_run (λ f r. run role f r tail) role first bytes b tail (front b)) known
    ∙ ap (λ (x : Front). next_run (λ f r. run role f r tail) role first bytes bytes tail x) e

pub run-allowed : (role : Role) (first : Bool) (bytes rest : List ℕ) (tail : Tail) (f : Content) → front bytes ≡ Framed f rest → rule role first (kind_in f) ≡ None → run role first bytes tail ≡ follows f (run role false rest tail)
run-allowed role first bytes rest tail f e allowed =
    run_at role first bytes tail (Framed f rest) (skip_unknown-framed bytes rest f e) e ∙ ap (λ (o : Option ErrorCode). judged o f (run role false rest tail)) allowed

pub run-refused : (role : Role) (first : Bool) (bytes rest : List ℕ) (tail : Tail) (f : Content) (code : ErrorCode) → front bytes ≡ Framed f rest → rule role first (kind_in f) ≡ Some code → run role first bytes tail ≡ ends (H3 code)
run-refused role first bytes rest tail f code e refused =
    run_at role first bytes tail (Framed f rest) (skip_unknown-framed bytes rest f e) e ∙ ap (λ (o : Option ErrorCode). judged o f (run role false rest tail)) refused

pub run-bad_id : (role : Role) (first : Bool) (bytes rest : List ℕ) (tail : Tail) → front bytes ≡ BadId rest → run role first bytes tail ≡ ends (H3 Id)
run-bad_id role first bytes rest tail e = run_at role first bytes tail (BadId rest) (skip_unknown-bad bytes rest e) e

pub run-too_big : (role : Role) (first : Bool) (bytes rest : List ℕ) (tail : Tail) → front bytes ≡ TooBig rest → run role first bytes tail ≡ ends (H3 ExcessiveLoad)
run-too_big role first bytes rest tail e = run_at role first bytes tail (TooBig rest) (skip_unknown-big bytes rest e) e

pub run-short : (role : Role) (first : Bool) (bytes : List ℕ) (tail : Tail) → front bytes ≡ Short → run role first bytes tail ≡ ends (run_stop bytes bytes tail)
run-short role first bytes tail e = run_at role first bytes tail Short (skip_unknown-short bytes e) e

-- ---- unknown frames, if more bytes may follow

counted_judged : (o : Option ErrorCode) (bytes : List ℕ) (f : Content) (r : Run) → counted bytes (judged o f r) ≡ judged o f r
counted_judged None bytes f r = refl
counted_judged (Some code) bytes f r = refl

counted_next : (role : Role) (first : Bool) (bytes other rest : List ℕ) (c : Front) (more : Bool → List ℕ → Run) → next_run more role first bytes rest MayGoOn c ≡ counted bytes (next_run more role first other rest MayGoOn c)
counted_next role first bytes other rest (Framed f behind) more = sym (counted_judged (rule role first (kind_in f)) bytes f (more false behind))
counted_next role first bytes other rest (Unknown behind) more = refl
counted_next role first bytes other rest (BadId behind) more = refl
counted_next role first bytes other rest (TooBig behind) more = refl
counted_next role first bytes other rest Short more = refl

pub run-unknown_open : (role : Role) (first : Bool) (bytes rest : List ℕ) → front bytes ≡ Unknown rest → run role first bytes MayGoOn ≡ counted bytes (run role first rest MayGoOn)
run-unknown_open role first bytes rest e =
    run-step role first bytes MayGoOn
    ∙ ap (λ (b : List ℕ). next_run (λ f r. run role f r MayGoOn) role first bytes b MayGoOn (front b)) (skip_unknown-unknown bytes rest e)
    ∙ counted_next role first bytes rest (skip_unknown rest) (front (skip_unknown rest)) (λ f r. run role f r MayGoOn)
    ∙ ap (λ (r : Run). counted bytes r) (sym (run-step role first rest MayGoOn))

-- ---- the bytes after unknown frames

known_case : (bytes : List ℕ) (c : Front) → front bytes ≡ c → ((rest : List ℕ) → front bytes ≢ Unknown rest) → skip_unknown bytes ≡ bytes
known_case bytes (Framed f rest) e h = skip_unknown-framed bytes rest f e
known_case bytes (Unknown rest) e h = absurd (h rest e)
known_case bytes (BadId rest) e h = skip_unknown-bad bytes rest e
known_case bytes (TooBig rest) e h = skip_unknown-big bytes rest e
known_case bytes Short e h = skip_unknown-short bytes e

pub skip_unknown-known : (bytes : List ℕ) → ((rest : List ℕ) → front bytes ≢ Unknown rest) → skip_unknown bytes ≡ bytes
skip_unknown-known bytes h = known_case bytes (front bytes) refl h

-- ---- streams that do not distinguish the first frame from the others

same_next : (role : Role) (f g : Bool) (bytes rest : List ℕ) (tail : Tail) (c : Front) (more : Bool → List ℕ → Run) → role ≢ RemoteBi → next_run more role f bytes rest tail c ≡ next_run more role g bytes rest tail c
same_next role f g bytes rest tail (Framed x behind) more h = ap (λ (o : Option ErrorCode). judged o x (more false behind)) (rule_first role f g (kind_in x) h)
same_next role f g bytes rest tail (Unknown behind) more h = refl
same_next role f g bytes rest tail (BadId behind) more h = refl
same_next role f g bytes rest tail (TooBig behind) more h = refl
same_next role f g bytes rest tail Short more h = refl

pub run-first : (role : Role) (f g : Bool) (bytes : List ℕ) (tail : Tail) → role ≢ RemoteBi → run role f bytes tail ≡ run role g bytes tail
run-first role f g bytes tail h =
    run-step role f bytes tail
    ∙ same_next role f g bytes (skip_unknown bytes) tail (front (skip_unknown bytes)) (λ x r. run role x r tail) h
    ∙ sym (run-step role g bytes tail)
