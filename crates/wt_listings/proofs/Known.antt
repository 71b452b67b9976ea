-- Known bytes that grow, stay and are taken.
use Rattle.std.proofs.Common.{ℕ, List, ◌++◌, take, Result, Ok, Err, Option, Some, None, refl, sym, ap, ◌∙◌, append_assoc}
use Rattle.std.specs.Io.KnownBytes.{Appends, Consumes, Keeps, WriteAppends}

-- ---- known bytes that grow

pub appends_then : (a b c : Option (List ℕ)) (xs ys : List ℕ) → Appends a b xs → Appends b c ys → Appends a c (xs ++ ys)
appends_then None b c xs ys p q = tt
appends_then (Some s) None c xs ys p q = absurd p
appends_then (Some s) (Some t) None xs ys p q = absurd q
appends_then (Some s) (Some t) (Some u) xs ys p q = q ∙ ap (λ (l : List ℕ). l ++ ys) p ∙ append_assoc s xs ys

-- ---- known bytes that stay

pub keeps_none : (a : Option (List ℕ)) → Keeps a a
keeps_none None = tt
keeps_none (Some s) = refl

pub keeps_then : (a b c : Option (List ℕ)) → Keeps a b → Keeps b c → Keeps a c
keeps_then None b c p q = tt
keeps_then (Some s) None c p q = absurd p
keeps_then (Some s) (Some t) None p q = absurd q
keeps_then (Some s) (Some t) (Some u) p q = q ∙ p

keeps_appends : (a b c : Option (List ℕ)) (xs : List ℕ) → Keeps a b → Appends b c xs → Appends a c xs
keeps_appends None b c xs p q = tt
keeps_appends (Some s) None c xs p q = absurd p
keeps_appends (Some s) (Some t) None xs p q = absurd q
keeps_appends (Some s) (Some t) (Some u) xs p q = q ∙ ap (λ (l : List ℕ). l ++ xs) p

pub appends_keeps : (a b c : Option (List ℕ)) (xs : List ℕ) → Appends a b xs → Keeps b c → Appends a c xs
appends_keeps None b c xs p q = tt
appends_keeps (Some s) None c xs p q = absurd p
appends_keeps (Some s) (Some t) None xs p q = absurd q
appends_keeps (Some s) (Some t) (Some u) xs p q = q ∙ p

-- a write that comes after others that took nothing
pub keeps_write : {E : Type 0} (a b c : Option (List ℕ)) (r : Result ℕ E) (buf : List ℕ) → Keeps a b → WriteAppends b c r buf → WriteAppends a c r buf
keeps_write a b c (Ok n) buf p q = keeps_appends a b c (take n buf) p q
keeps_write a b c (Err e) buf p q = keeps_then a b c p q

-- ---- known bytes that are taken

pub consumes_keeps : (a b c : Option (List ℕ)) (xs : List ℕ) → Consumes a b xs → Keeps b c → Consumes a c xs
consumes_keeps None b c xs p q = tt
consumes_keeps (Some s) None c xs p q = absurd p
consumes_keeps (Some s) (Some t) None xs p q = absurd q
consumes_keeps (Some s) (Some t) (Some u) xs p q = p ∙ ap (λ (l : List ℕ). xs ++ l) (sym q)

pub consumes_then : (a b c : Option (List ℕ)) (xs ys : List ℕ) → Consumes a b xs → Consumes b c ys → Consumes a c (xs ++ ys)
consumes_then None b c xs ys p q = tt
consumes_then (Some s) None c xs ys p q = absurd p
consumes_then (Some s) (Some t) None xs ys p q = absurd q
consumes_then (Some s) (Some t) (Some u) xs ys p q = p ∙ ap (λ (l : List ℕ). xs ++ l) q ∙ sym (append_assoc xs ys u)
