-- The status of a fault, and what is written of its line.
use Rattle.std.proofs.Common.{◌≡◌, ℕ, ◌-◌, List, [], ◌++◌, length, take, drop, Option, refl, sym, ap, ◌∙◌, append_assoc, append-nil, take-append-drop}
use Rattle.std.proofs.lemmas.List.{take_rest}
use Rattle.std.specs.Io.KnownBytes.{Appends, Keeps}
use Rattle.wt_listings.specs.declared.program.Fault.{Fault}
use Rattle.wt_listings.specs.declared.program.Fault.TheVariants.{Usage, InputTooLong, ReadFault, WriteFault, NoMemory}
use Rattle.wt_listings.specs.Program.{fault_status, AppendsStart}
use Rattle.wt_listings.proofs.Known.{appends_then, appends_keeps}

-- only other arguments have status 1
pub usage-status : (fault : Fault) → fault_status fault ≡ 1 → fault ≡ Usage
usage-status Usage e = refl
usage-status InputTooLong e = absurd (cc)
usage-status ReadFault e = absurd (cc)
usage-status WriteFault e = absurd (cc)
usage-status NoMemory e = absurd (cc)

-- ---- what is written of bytes

pub moves : (bytes start rest : List ℕ) (n : ℕ) → bytes ≡ start ++ rest → bytes ≡ (start ++ take n rest) ++ take (length rest - n) (drop n rest)
moves bytes start rest n e =
    e
    ∙ ap (λ (l : List ℕ). start ++ l) (sym (take-append-drop n rest))
    ∙ sym (append_assoc start (take n rest) (drop n rest))
    ∙ ap (λ (l : List ℕ). (start ++ take n rest) ++ l) (sym (take_rest rest n))

-- the start of two texts, of which the second follows
pub start-first : (a b : Option (List ℕ)) (xs ys : List ℕ) → AppendsStart xs a b → AppendsStart (xs ++ ys) a b
start-first a b xs ys (start, rest, e, p) = (start, rest ++ ys, ap (λ (l : List ℕ). l ++ ys) e ∙ append_assoc start rest ys, p)

pub start-second : (a b c : Option (List ℕ)) (xs ys : List ℕ) → Appends a b xs → AppendsStart ys b c → AppendsStart (xs ++ ys) a c
start-second a b c xs ys p (start, rest, e, q) = (xs ++ start, rest, ap (λ (l : List ℕ). xs ++ l) e ∙ sym (append_assoc xs start rest), appends_then a b c xs start p q)

-- a text that was written whole
pub start_whole : (a b c : Option (List ℕ)) (xs : List ℕ) → Appends a b xs → Keeps b c → AppendsStart xs a c
start_whole a b c xs p q = (xs, [], sym (append-nil xs), appends_keeps a b c xs p q)
