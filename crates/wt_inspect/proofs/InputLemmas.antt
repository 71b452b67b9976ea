-- What was taken of an input.
use Rattle.std.proofs.Common.{◌≡◌, ℕ, ◌<◌, ◌≤◌, List, ◌++◌, length, take, Option, Some, None, sym, ap, ◌∙◌, append_assoc, arith, length-append, length-take}
use Rattle.std.specs.Io.KnownBytes.{Consumes, Keeps}
use Rattle.wt_inspect.specs.Input.{TakesFew, TakesSome, TakesTooMany}

consumes_keeps : (a b c : Option (List ℕ)) (xs : List ℕ) → Consumes a b xs → Keeps b c → Consumes a c xs
consumes_keeps None b c xs p q = tt
consumes_keeps (Some s) None c xs p q = absurd p
consumes_keeps (Some s) (Some t) None xs p q = absurd q
consumes_keeps (Some s) (Some t) (Some u) xs p q = p ∙ ap (λ (l : List ℕ). xs ++ l) (sym q)

consumes_then : (a b c : Option (List ℕ)) (xs ys : List ℕ) → Consumes a b xs → Consumes b c ys → Consumes a c (xs ++ ys)
consumes_then None b c xs ys p q = tt
consumes_then (Some s) None c xs ys p q = absurd p
consumes_then (Some s) (Some t) None xs ys p q = absurd q
consumes_then (Some s) (Some t) (Some u) xs ys p q = p ∙ ap (λ (l : List ℕ). xs ++ l) q ∙ sym (append_assoc xs ys u)

-- the next read failed
pub failed : (a b c : Option (List ℕ)) (xs : List ℕ) → Consumes a b xs → Keeps b c → length xs ≤ 67108864 → TakesFew a c
failed a b c xs p q few = (xs, consumes_keeps a b c xs p q, few)

-- what the next read gave found no memory
pub unstored : (a b c : Option (List ℕ)) (xs chunk : List ℕ) (n : ℕ) → Consumes a b xs → Consumes b c (take n chunk) → length xs ≤ 67108864
    → 0 < n → n ≤ length chunk → length chunk ≡ 16384 → TakesSome a c
unstored a b c xs chunk n p q few some fits whole =
    let size : length (take n chunk) ≡ n = omega (arith, length-take n chunk, fits) in
    (xs ++ take n chunk, consumes_then a b c xs (take n chunk) p q, (omega (arith, length-append xs (take n chunk), size, some), omega (arith, length-append xs (take n chunk), size, few, fits, whole)))

-- with what the next read gave there is too much
pub too_much : (a b c : Option (List ℕ)) (xs chunk : List ℕ) (n : ℕ) → Consumes a b xs → Consumes b c (take n chunk) → length xs ≤ 67108864
    → 67108864 < length (xs ++ take n chunk) → n ≤ length chunk → length chunk ≡ 16384 → TakesTooMany a c
too_much a b c xs chunk n p q few many fits whole =
    let size : length (take n chunk) ≡ n = omega (arith, length-take n chunk, fits) in
    (xs ++ take n chunk, consumes_then a b c xs (take n chunk) p q, (many, omega (arith, length-append xs (take n chunk), size, few, fits, whole)))
