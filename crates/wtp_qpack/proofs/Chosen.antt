-- The result of a chain of readings.
use Rattle.std.proofs.Common.{◌≡◌, ◌⊎◌, inl, inr, refl, List, ℕ, ap, Result, Ok, Err}
use Rattle.wtp_qpack.specs.declared.qpack.DecodingError.{DecodingError}
use Rattle.wtp_qpack.specs.Qpack.{◌>>=◌}

pub bind_ok : {A B : Type 0} (r : Result A DecodingError) (f : A → Result B DecodingError) (y : B) → (r >>= f) ≡ Ok y → (x : A) × (r ≡ Ok x) × (f x ≡ Ok y)
bind_ok (Ok x) f y e = (x, refl, e)
bind_ok (Err d) f y e = cc e

pub bind_err : {A B : Type 0} (r : Result A DecodingError) (f : A → Result B DecodingError) (d : DecodingError) → (r >>= f) ≡ Err d → (r ≡ Err d) ⊎ ((x : A) × (r ≡ Ok x) × (f x ≡ Err d))
bind_err (Ok x) f d e = inr (x, refl, e)
bind_err (Err x) f d e = inl (cc e)

-- two equal readings have the same value, and the same bytes after it
pub same_value : {X : Type 0} (a b : X) (s t : List ℕ) → ◌≡◌ {A = Result (X × List ℕ) DecodingError} (Ok (a, s)) (Ok (b, t)) → a ≡ b
same_value {X} a b s t e =
    let pair : ◌≡◌ {A = X × List ℕ} (a, s) (b, t) = cc e in
    ap (λ (p : X × List ℕ). p.0) pair

pub same_rest : {X : Type 0} (a b : X) (s t : List ℕ) → ◌≡◌ {A = Result (X × List ℕ) DecodingError} (Ok (a, s)) (Ok (b, t)) → s ≡ t
same_rest {X} a b s t e =
    let pair : ◌≡◌ {A = X × List ℕ} (a, s) (b, t) = cc e in
    ap (λ (p : X × List ℕ). p.1) pair
