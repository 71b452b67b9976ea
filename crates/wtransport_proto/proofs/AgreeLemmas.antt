-- The run of bytes that may go on and that of the same bytes with an end agree.
use Rattle.std.proofs.Common.{◌≡◌, ◌≢◌, ℕ, zero, suc, ◌≤◌, ◌<◌, Bool, false, List, ◌∷◌, length, Option, Some, None, refl, sym, ap, subst, ◌∙◌, arith, inl, inr}
use Rattle.wtp_core.specs.declared.error.ErrorCode.{ErrorCode}
use Rattle.wtp_core.specs.Reader.{IsRest}
use Rattle.wtp_core.proofs.RestLemmas.{rest-same, rest-rest}
use Rattle.wtp_wire.specs.Content.{Content, kind_in}
use Rattle.wtp_wire.specs.Front.{Front, Framed, Unknown, BadId, TooBig, Short, Begins, front}
use Rattle.wtp_wire.proofs.FrontLemmas.{front_holds, framed-shorter, unknown-shorter}
use Rattle.wtp_wire.specs.Rule.{Role, rule}
use Rattle.wtp_wire.specs.Run.{Run, Tail, MayGoOn, Ending, skip_unknown, run, judged, next_run}
use Rattle.wtransport_proto.specs.Place.{Remainder, remainder_here, remainder}
use Rattle.wtransport_proto.specs.Agreeing.{EndsBy, EndsAfter, Agrees}
use Rattle.wtp_wire.proofs.RunLemmas.{run-step, skip_unknown-shorter, skip_unknown-unknown, skip_unknown-framed, skip_unknown-bad, skip_unknown-big, skip_unknown-short}
use Rattle.wtransport_proto.proofs.RemainderLemmas.{remainder-at, remainder-allowed, remainder-refused}

-- ---- no unknown frame follows the unknown frames

not_unknown : (bytes : List ℕ) (c : Front) → front bytes ≡ c → ((rest : List ℕ) → length rest < length bytes → (r : List ℕ) → front (skip_unknown rest) ≢ Unknown r) → (r : List ℕ) → front (skip_unknown bytes) ≢ Unknown r
not_unknown bytes (Framed f rest) e more r = λ u. let known = skip_unknown-framed bytes rest f e in let g = ap (λ (l : List ℕ). front l) known in cc
not_unknown bytes (Unknown rest) e more r = λ u. more rest (unknown-shorter bytes rest e) r (ap (λ (l : List ℕ). front l) (sym (skip_unknown-unknown bytes rest e)) ∙ u)
not_unknown bytes (BadId rest) e more r = λ u. let known = skip_unknown-bad bytes rest e in let g = ap (λ (l : List ℕ). front l) known in cc
not_unknown bytes (TooBig rest) e more r = λ u. let known = skip_unknown-big bytes rest e in let g = ap (λ (l : List ℕ). front l) known in cc
not_unknown bytes Short e more r = λ u. let known = skip_unknown-short bytes e in let g = ap (λ (l : List ℕ). front l) known in cc

known_within : (n : ℕ) (bytes : List ℕ) → length bytes < n → (r : List ℕ) → front (skip_unknown bytes) ≢ Unknown r
known_within zero bytes l r = absurd (omega arith)
known_within (suc n) bytes l r = not_unknown bytes (front bytes) refl (λ rest less s. known_within n rest (omega arith) s) r

pub skip_unknown-not_unknown : (bytes r : List ℕ) → front (skip_unknown bytes) ≢ Unknown r
skip_unknown-not_unknown bytes r = known_within (suc (length bytes)) bytes (omega arith) r

-- ---- endings

run_at : (role : Role) (first : Bool) (bytes : List ℕ) (tail : Tail) (c : Front) → front (skip_unknown bytes) ≡ c → run role first bytes tail ≡ next_run (λ f r. run role f r tail) role first bytes (skip_unknown bytes) tail c
run_at role first bytes tail c e = run-step role first bytes tail ∙ ap (λ (x : Front). next_run (λ f r. run role f r tail) role first bytes (skip_unknown bytes) tail x) e

-- what ends here, by the first frame here
ends_here : (role : Role) (first : Bool) (bytes : List ℕ) (tail : Tail) (c : Front) (left : Remainder) (ending : Ending) → front (skip_unknown bytes) ≡ c → left ≡ remainder_here first bytes → EndsBy role tail (remainder_here first bytes) c ending → EndsAfter role tail left ending
ends_here role first bytes tail c left ending e is h = rw (is, e) h

ends_judged : (role : Role) (first : Bool) (bytes rest : List ℕ) (tail : Tail) (f : Content) (o : Option ErrorCode) → front (skip_unknown bytes) ≡ Framed f rest → rule role first (kind_in f) ≡ o
    → EndsAfter role tail (remainder role false rest) (run role false rest tail).ending → EndsAfter role tail (remainder role first bytes) (run role first bytes tail).ending
ends_judged role first bytes rest tail f None e allowed h =
    let r = run_at role first bytes tail (Framed f rest) e ∙ ap (λ (o : Option ErrorCode). judged o f (run role false rest tail)) allowed in
    rw (r, remainder-allowed role first bytes rest f e allowed) h
ends_judged role first bytes rest tail f (Some code) e refused h =
    let r = run_at role first bytes tail (Framed f rest) e ∙ ap (λ (o : Option ErrorCode). judged o f (run role false rest tail)) refused in
    ends_here role first bytes tail (Framed f rest) (remainder role first bytes) (run role first bytes tail).ending e (remainder-refused role first bytes rest f code e refused) (code, refused, ap (λ (x : Run). x.ending) r)

ends_case : (role : Role) (first : Bool) (bytes : List ℕ) (tail : Tail) (c : Front) → front (skip_unknown bytes) ≡ c
    → ((rest : List ℕ) → length rest < length bytes → EndsAfter role tail (remainder role false rest) (run role false rest tail).ending)
    → EndsAfter role tail (remainder role first bytes) (run role first bytes tail).ending
ends_case role first bytes tail (Framed f rest) e more =
    let less : length rest < length (skip_unknown bytes) = framed-shorter (skip_unknown bytes) rest f e in
    let past : length (skip_unknown bytes) ≤ length bytes = skip_unknown-shorter bytes in
    ends_judged role first bytes rest tail f (rule role first (kind_in f)) e refl (more rest (omega arith))
ends_case role first bytes tail (Unknown rest) e more = absurd (skip_unknown-not_unknown bytes rest e)
ends_case role first bytes tail (BadId rest) e more = ends_here role first bytes tail (BadId rest) (remainder role first bytes) (run role first bytes tail).ending e (remainder-at role first bytes (BadId rest) e) (ap (λ (x : Run). x.ending) (run_at role first bytes tail (BadId rest) e))
ends_case role first bytes tail (TooBig rest) e more = ends_here role first bytes tail (TooBig rest) (remainder role first bytes) (run role first bytes tail).ending e (remainder-at role first bytes (TooBig rest) e) (ap (λ (x : Run). x.ending) (run_at role first bytes tail (TooBig rest) e))
ends_case role first bytes tail Short e more = ends_here role first bytes tail Short (remainder role first bytes) (run role first bytes tail).ending e (remainder-at role first bytes Short e) (ap (λ (x : Run). x.ending) (run_at role first bytes tail Short e))

ends_within : (n : ℕ) (role : Role) (first : Bool) (bytes : List ℕ) (tail : Tail) → length bytes < n → EndsAfter role tail (remainder role first bytes) (run role first bytes tail).ending
ends_within zero role first bytes tail l = absurd (omega arith)
ends_within (suc n) role first bytes tail l = ends_case role first bytes tail (front (skip_unknown bytes)) refl (λ rest less. ends_within n role false rest tail (omega arith))

pub run-ends : (role : Role) (first : Bool) (bytes : List ℕ) (tail : Tail) → EndsAfter role tail (remainder role first bytes) (run role first bytes tail).ending
run-ends role first bytes tail = ends_within (suc (length bytes)) role first bytes tail (omega arith)

-- ---- frames

frames_judged : (o : Option ErrorCode) (f : Content) (r s : Run) → r.frames ≡ s.frames → (judged o f r).frames ≡ (judged o f s).frames
frames_judged None f r s e = ap (λ (fs : List Content). f ∷ fs) e
frames_judged (Some code) f r s e = refl

frames_case : (role : Role) (first : Bool) (bytes : List ℕ) (t u : Tail) (c : Front) → front (skip_unknown bytes) ≡ c
    → ((rest : List ℕ) → length rest < length bytes → (run role false rest t).frames ≡ (run role false rest u).frames)
    → (next_run (λ f r. run role f r t) role first bytes (skip_unknown bytes) t c).frames ≡ (next_run (λ f r. run role f r u) role first bytes (skip_unknown bytes) u c).frames
frames_case role first bytes t u (Framed f rest) e more =
    let less : length rest < length (skip_unknown bytes) = framed-shorter (skip_unknown bytes) rest f e in
    let past : length (skip_unknown bytes) ≤ length bytes = skip_unknown-shorter bytes in
    frames_judged (rule role first (kind_in f)) f (run role false rest t) (run role false rest u) (more rest (omega arith))
frames_case role first bytes t u (Unknown rest) e more = refl
frames_case role first bytes t u (BadId rest) e more = refl
frames_case role first bytes t u (TooBig rest) e more = refl
frames_case role first bytes t u Short e more = refl

frames_within : (n : ℕ) (role : Role) (first : Bool) (bytes : List ℕ) (t u : Tail) → length bytes < n → (run role first bytes t).frames ≡ (run role first bytes u).frames
frames_within zero role first bytes t u l = absurd (omega arith)
frames_within (suc n) role first bytes t u l =
    ap (λ (x : Run). x.frames) (run-step role first bytes t)
    ∙ frames_case role first bytes t u (front (skip_unknown bytes)) refl (λ rest less. frames_within n role false rest t u (omega arith))
    ∙ ap (λ (x : Run). x.frames) (sym (run-step role first bytes u))

-- ---- what is left is a suffix

rest_framed : (bytes rest : List ℕ) (f : Content) → front bytes ≡ Framed f rest → IsRest rest bytes
rest_framed bytes rest f e = elim (front_holds bytes) [
  | inl short ↦ absurd (cc)
  | inr h ↦ let (s, is, parts) = subst (λ (x : Front). Begins bytes x) e h in record { taken = s; parts = parts }
]

rest_unknown : (bytes rest : List ℕ) → front bytes ≡ Unknown rest → IsRest rest bytes
rest_unknown bytes rest e = elim (front_holds bytes) [
  | inl short ↦ absurd (cc)
  | inr h ↦ let (s, is, parts) = subst (λ (x : Front). Begins bytes x) e h in record { taken = s; parts = parts }
]

past_case : (bytes : List ℕ) (c : Front) → front bytes ≡ c → ((rest : List ℕ) → length rest < length bytes → IsRest (skip_unknown rest) rest) → IsRest (skip_unknown bytes) bytes
past_case bytes (Framed f rest) e more = rest-same (skip_unknown bytes) bytes (skip_unknown-framed bytes rest f e)
past_case bytes (Unknown rest) e more = rest-rest (skip_unknown bytes) rest bytes (rw (skip_unknown-unknown bytes rest e) (more rest (unknown-shorter bytes rest e))) (rest_unknown bytes rest e)
past_case bytes (BadId rest) e more = rest-same (skip_unknown bytes) bytes (skip_unknown-bad bytes rest e)
past_case bytes (TooBig rest) e more = rest-same (skip_unknown bytes) bytes (skip_unknown-big bytes rest e)
past_case bytes Short e more = rest-same (skip_unknown bytes) bytes (skip_unknown-short bytes e)

past_rest_within : (n : ℕ) (bytes : List ℕ) → length bytes < n → IsRest (skip_unknown bytes) bytes
past_rest_within zero bytes l = absurd (omega arith)
past_rest_within (suc n) bytes l = past_case bytes (front bytes) refl (λ rest less. past_rest_within n rest (omega arith))

left_here : (first : Bool) (bytes : List ℕ) (left : Remainder) → left ≡ remainder_here first bytes → IsRest left.bytes bytes
left_here first bytes left e = rest-same left.bytes bytes (ap (λ (r : Remainder). r.bytes) e)

left_judged : (role : Role) (first : Bool) (bytes rest : List ℕ) (f : Content) (o : Option ErrorCode) → front (skip_unknown bytes) ≡ Framed f rest → rule role first (kind_in f) ≡ o
    → IsRest (remainder role false rest).bytes rest → IsRest (remainder role first bytes).bytes bytes
left_judged role first bytes rest f None e allowed h =
    let past : IsRest (skip_unknown bytes) bytes = past_rest_within (suc (length bytes)) bytes (omega arith) in
    rw (remainder-allowed role first bytes rest f e allowed) (rest-rest (remainder role false rest).bytes rest bytes h (rest-rest rest (skip_unknown bytes) bytes (rest_framed (skip_unknown bytes) rest f e) past))
left_judged role first bytes rest f (Some code) e refused h = left_here first bytes (remainder role first bytes) (remainder-refused role first bytes rest f code e refused)

left_case : (role : Role) (first : Bool) (bytes : List ℕ) (c : Front) → front (skip_unknown bytes) ≡ c
    → ((rest : List ℕ) → length rest < length bytes → IsRest (remainder role false rest).bytes rest) → IsRest (remainder role first bytes).bytes bytes
left_case role first bytes (Framed f rest) e more =
    let less : length rest < length (skip_unknown bytes) = framed-shorter (skip_unknown bytes) rest f e in
    let past : length (skip_unknown bytes) ≤ length bytes = skip_unknown-shorter bytes in
    left_judged role first bytes rest f (rule role first (kind_in f)) e refl (more rest (omega arith))
left_case role first bytes (Unknown rest) e more = left_here first bytes (remainder role first bytes) (remainder-at role first bytes (Unknown rest) e)
left_case role first bytes (BadId rest) e more = left_here first bytes (remainder role first bytes) (remainder-at role first bytes (BadId rest) e)
left_case role first bytes (TooBig rest) e more = left_here first bytes (remainder role first bytes) (remainder-at role first bytes (TooBig rest) e)
left_case role first bytes Short e more = left_here first bytes (remainder role first bytes) (remainder-at role first bytes Short e)

left_within : (n : ℕ) (role : Role) (first : Bool) (bytes : List ℕ) → length bytes < n → IsRest (remainder role first bytes).bytes bytes
left_within zero role first bytes l = absurd (omega arith)
left_within (suc n) role first bytes l = left_case role first bytes (front (skip_unknown bytes)) refl (λ rest less. left_within n role false rest (omega arith))

pub remainder-rest : (role : Role) (first : Bool) (bytes : List ℕ) → IsRest (remainder role first bytes).bytes bytes
remainder-rest role first bytes = left_within (suc (length bytes)) role first bytes (omega arith)

pub run-agrees : (role : Role) (first : Bool) (bytes : List ℕ) (tail : Tail) → Agrees role first tail bytes (run role first bytes MayGoOn) (run role first bytes tail)
run-agrees role first bytes tail = record {
  frames = frames_within (suc (length bytes)) role first bytes tail MayGoOn (omega arith);
  left = remainder-rest role first bytes;
  open_end = run-ends role first bytes MayGoOn;
  closed_end = run-ends role first bytes tail;
}
