-- The result of a chain of steps.
use Rattle.std.proofs.Common.{◌≡◌, refl, List, ℕ, ap, Result, Ok, Err}
use Rattle.wtp_qpack.specs.declared.qpack.DecodingError.{DecodingError}
use Rattle.wtp_qpack.specs.declared.qpack.DecodingError.TheVariants as reading
use Rattle.wtp_dynamic.specs.declared.error.SectionError.TheVariants.{Memory}
use Rattle.wtp_dynamic.specs.Chain.{◌>>=◌}
use Rattle.wtp_dynamic.specs.Faults.{section_fault, of_section}

pub step_ok : {A B E : Type 0} (r : Result A E) (f : A → Result B E) (y : B) → (r >>= f) ≡ Ok y → (x : A) × (r ≡ Ok x) × (f x ≡ Ok y)
step_ok (Ok x) f y e = (x, refl, e)
step_ok (Err d) f y e = cc e

-- two equal readings have the same bytes after them
pub rest_same : {X E : Type 0} (a b : X) (s t : List ℕ) → ◌≡◌ {A = Result (X × List ℕ) E} (Ok (a, s)) (Ok (b, t)) → s ≡ t
rest_same {X} {E} a b s t e =
    let pair : ◌≡◌ {A = X × List ℕ} (a, s) (b, t) = cc e in
    ap (λ (p : X × List ℕ). p.1) pair

pub of_section_ok : {X : Type 0} (r : Result X DecodingError) (x : X) → of_section r ≡ Ok x → r ≡ Ok x
of_section_ok (Ok y) x e = cc e
of_section_ok (Err d) x e = cc e

pub memory_only : (e : DecodingError) → section_fault e ≡ Memory → e ≡ reading.Memory
memory_only reading.UnexpectedFin e = cc e
memory_only reading.IntegerOverflow e = cc e
memory_only reading.InvalidString e = cc e
memory_only reading.DynamicNotSupported e = cc e
memory_only reading.IndexNotfound e = cc e
memory_only reading.Memory e = refl
