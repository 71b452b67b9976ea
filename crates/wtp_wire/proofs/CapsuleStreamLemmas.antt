-- Unknown capsules are skipped one at a time, and capsules follow one another.
use Rattle.std.proofs.Common.{◌≡◌, ◌≢◌, ℕ, zero, suc, ◌<◌, ◌≤◌, List, [], ◌∷◌, ◌++◌, length, Option, Some, None, Result, Ok, Err, refl, sym, ap, ◌∙◌, append_assoc, append-nil, arith, inl, inr}
use Rattle.std.proofs.lemmas.Bool.{cases_eq, eq-eqb, ne_eqb}
use Rattle.wtp_core.specs.Varint.{bytes_at}
use Rattle.wtp_wire.specs.declared.capsule.CapsuleError.{CapsuleError}
use Rattle.wtp_wire.specs.declared.capsule.CapsuleError.TheVariants as error-is
use Rattle.wtp_wire.specs.declared.capsule.CapsuleKind.{CapsuleKind}
use Rattle.wtp_wire.specs.CapsuleFront.{CapsuleFront, Found, Unknown, TooLong, Cut, End, or_cut, capsule_front}
use Rattle.wtp_wire.specs.CapsuleStream.{Capsules, CapsuleEnding, Between, Within, AtTooLong, Step, Arrived, Returned, Leads, data_of, add_result, returned, skip_unknown, next_within, next_capsule, ends, follows, by_front, capsules_within, capsules, next_held, capsules_after, capsules_held, NextGiven, with_result}
use Rattle.wtp_wire.specs.Held.{Held, new_held}
use Rattle.wtp_wire.proofs.CapsuleFrontLemmas.{front_end, unknown-shorter, found-shorter}

-- ---- the next capsule

past_same : (c : CapsuleFront) (f g : List ℕ → CapsuleFront) → ((rest : List ℕ) → c ≡ Unknown rest → f rest ≡ g rest) → skip_unknown f c ≡ skip_unknown g c
past_same (Found kind value rest) f g h = refl
past_same (Unknown rest) f g h = h rest refl
past_same (TooLong rest) f g h = refl
past_same Cut f g h = refl
past_same End f g h = refl

next_empty : (m : ℕ) → next_within m [] ≡ End
next_empty zero = refl
next_empty (suc m) = ap (λ (c : CapsuleFront). skip_unknown (λ rest. next_within m rest) c) front_end

next_enough : (n m : ℕ) (bytes : List ℕ) → length bytes ≤ n → length bytes ≤ m → next_within n bytes ≡ next_within m bytes
next_enough zero m [] hn hm = sym (next_empty m)
next_enough zero m (b ∷ bytes) hn hm = absurd (omega arith)
next_enough (suc n) zero [] hn hm = next_empty (suc n)
next_enough (suc n) zero (b ∷ bytes) hn hm = absurd (omega arith)
next_enough (suc n) (suc m) bytes hn hm = past_same (capsule_front bytes) (λ rest. next_within n rest) (λ rest. next_within m rest) (λ rest e. let less : length rest < length bytes = unknown-shorter bytes rest e in next_enough n m rest (omega arith) (omega arith))

pub next-step : (bytes : List ℕ) → next_capsule bytes ≡ skip_unknown (λ rest. next_capsule rest) (capsule_front bytes)
unfolding next_capsule
next-step bytes =
    next_enough (length bytes) (suc (length bytes)) bytes (omega arith) (omega arith)
    ∙ past_same (capsule_front bytes) (λ rest. next_within (length bytes) rest) (λ rest. next_within (length rest) rest) (λ rest e. let less : length rest < length bytes = unknown-shorter bytes rest e in next_enough (length bytes) (length rest) rest (omega arith) (omega arith))

pub next-by : (bytes : List ℕ) (c : CapsuleFront) → capsule_front bytes ≡ c → next_capsule bytes ≡ skip_unknown (λ rest. next_capsule rest) c
next-by bytes c e = next-step bytes ∙ ap (λ (x : CapsuleFront). skip_unknown (λ rest. next_capsule rest) x) e

-- ---- all of them

by_same : (c : CapsuleFront) (f g : List ℕ → Capsules) → ((kind : CapsuleKind) (value rest : List ℕ) → c ≡ Found kind value rest → f rest ≡ g rest) → ((rest : List ℕ) → c ≡ Unknown rest → f rest ≡ g rest) → by_front f c ≡ by_front g c
by_same (Found kind value rest) f g h u = ap (λ (r : Capsules). follows (kind, value) r) (h kind value rest refl)
by_same (Unknown rest) f g h u = u rest refl
by_same (TooLong rest) f g h u = refl
by_same Cut f g h u = refl
by_same End f g h u = refl

all_empty : (m : ℕ) → capsules_within m [] ≡ ends Between
all_empty zero = refl
all_empty (suc m) = ap (λ (c : CapsuleFront). by_front (λ rest. capsules_within m rest) c) front_end

all_enough : (n m : ℕ) (bytes : List ℕ) → length bytes ≤ n → length bytes ≤ m → capsules_within n bytes ≡ capsules_within m bytes
all_enough zero m [] hn hm = sym (all_empty m)
all_enough zero m (b ∷ bytes) hn hm = absurd (omega arith)
all_enough (suc n) zero [] hn hm = all_empty (suc n)
all_enough (suc n) zero (b ∷ bytes) hn hm = absurd (omega arith)
all_enough (suc n) (suc m) bytes hn hm =
    by_same (capsule_front bytes) (λ rest. capsules_within n rest) (λ rest. capsules_within m rest)
    (λ kind value rest e. let less : length rest < length bytes = found-shorter bytes value rest kind e in all_enough n m rest (omega arith) (omega arith))
    (λ rest e. let less : length rest < length bytes = unknown-shorter bytes rest e in all_enough n m rest (omega arith) (omega arith))

pub capsules-step : (bytes : List ℕ) → capsules bytes ≡ by_front (λ rest. capsules rest) (capsule_front bytes)
unfolding capsules
capsules-step bytes =
    all_enough (length bytes) (suc (length bytes)) bytes (omega arith) (omega arith)
    ∙ by_same (capsule_front bytes) (λ rest. capsules_within (length bytes) rest) (λ rest. capsules_within (length rest) rest)
    (λ kind value rest e. let less : length rest < length bytes = found-shorter bytes value rest kind e in all_enough (length bytes) (length rest) rest (omega arith) (omega arith))
    (λ rest e. let less : length rest < length bytes = unknown-shorter bytes rest e in all_enough (length bytes) (length rest) rest (omega arith) (omega arith))

pub capsules-by : (bytes : List ℕ) (c : CapsuleFront) → capsule_front bytes ≡ c → capsules bytes ≡ by_front (λ rest. capsules rest) c
capsules-by bytes c e = capsules-step bytes ∙ ap (λ (x : CapsuleFront). by_front (λ rest. capsules rest) x) e

-- by the next capsule of a known kind
same_next : (n : ℕ) (bytes : List ℕ) → length bytes ≤ n → (c : CapsuleFront) → capsule_front bytes ≡ c → capsules bytes ≡ by_front (λ rest. capsules rest) (next_capsule bytes)
same_next n bytes l (Found kind value rest) e = capsules-by bytes (Found kind value rest) e ∙ ap (λ (x : CapsuleFront). by_front (λ r. capsules r) x) (sym (next-by bytes (Found kind value rest) e))
same_next zero [] l (Unknown rest) e = let less : length rest < 0 = unknown-shorter [] rest e in absurd (omega arith)
same_next zero (b ∷ bytes) l (Unknown rest) e = absurd (omega arith)
same_next (suc n) bytes l (Unknown rest) e =
    let less : length rest < length bytes = unknown-shorter bytes rest e in
    capsules-by bytes (Unknown rest) e ∙ same_next n rest (omega arith) (capsule_front rest) refl ∙ ap (λ (x : CapsuleFront). by_front (λ r. capsules r) x) (sym (next-by bytes (Unknown rest) e))
same_next n bytes l (TooLong rest) e = capsules-by bytes (TooLong rest) e ∙ ap (λ (x : CapsuleFront). by_front (λ r. capsules r) x) (sym (next-by bytes (TooLong rest) e))
same_next n bytes l Cut e = capsules-by bytes Cut e ∙ ap (λ (x : CapsuleFront). by_front (λ r. capsules r) x) (sym (next-by bytes Cut e))
same_next n bytes l End e = capsules-by bytes End e ∙ ap (λ (x : CapsuleFront). by_front (λ r. capsules r) x) (sym (next-by bytes End e))

pub capsules-next : (bytes : List ℕ) → capsules bytes ≡ by_front (λ rest. capsules rest) (next_capsule bytes)
capsules-next bytes = same_next (length bytes) bytes (omega arith) (capsule_front bytes) refl

known_by : (bytes : List ℕ) (c : CapsuleFront) → capsule_front bytes ≡ c → ((rest : List ℕ) → c ≡ Unknown rest → ⊥) → next_capsule bytes ≡ c
known_by bytes (Found kind value rest) e h = next-by bytes (Found kind value rest) e
known_by bytes (Unknown rest) e h = absurd (h rest refl)
known_by bytes (TooLong rest) e h = next-by bytes (TooLong rest) e
known_by bytes Cut e h = next-by bytes Cut e
known_by bytes End e h = next-by bytes End e

pub next-known : (bytes : List ℕ) → ((rest : List ℕ) → capsule_front bytes ≢ Unknown rest) → next_capsule bytes ≡ capsule_front bytes
next-known bytes h = known_by bytes (capsule_front bytes) refl h

-- ---- what is held, and bytes

held_after : (o : Option (List ℕ × List ℕ)) → capsules_after o ≡ by_front (λ rest. capsules rest) (or_cut o (λ value. next_capsule value.1))
held_after None = refl
held_after (Some skipped) = capsules-next skipped.1

pub held-next : (h : Held) (bytes : List ℕ) → capsules_held h bytes ≡ by_front (λ rest. capsules rest) (next_held h bytes)
unfolding capsules_held next_held
held-next h bytes = elim (cases_eq h.skip_remaining 0) [
  | inl none ↦ rw (eq-eqb h.skip_remaining 0 none) (capsules-next (h.taken ++ bytes))
  | inr some ↦ rw (ne_eqb h.skip_remaining 0 some) (held_after (bytes_at h.skip_remaining bytes))
]

pub held-new : (bytes : List ℕ) → capsules_held new_held bytes ≡ capsules bytes
unfolding capsules_held
held-new bytes = refl

held_by : (h : Held) (bytes : List ℕ) (c : CapsuleFront) → next_held h bytes ≡ c → capsules_held h bytes ≡ by_front (λ rest. capsules rest) c
held_by h bytes c e = held-next h bytes ∙ ap (λ (x : CapsuleFront). by_front (λ rest. capsules rest) x) e

same_held : (old new : Held) (a b : List ℕ) → next_held old a ≡ next_held new b → capsules_held old a ≡ capsules_held new b
same_held old new a b e = held_by old a (next_held new b) e ∙ sym (held-next new b)

pub joined : (r : Result (Option (CapsuleKind × List ℕ)) CapsuleError) (old new : Held) (a b more : List ℕ) → NextGiven r old a new b → capsules_held old (a ++ more) ≡ with_result r (capsules_held new (b ++ more))
joined (Ok (Some c)) old new a b more g =
    held_by old (a ++ more) (Found c.0 c.1 (b ++ more)) (g.found more)
    ∙ ap (λ (all : Capsules). follows c all) (sym (held-new (b ++ more)) ∙ ap (λ (h : Held). capsules_held h (b ++ more)) (sym g.empty))
joined (Ok None) old new a b more g = same_held old new (a ++ more) (b ++ more) (g.joins more)
joined (Err error-is.TooLong) old new a b more g = held_by old (a ++ more) (TooLong (b ++ more)) (g.found more) ∙ sym (held_by new (b ++ more) (TooLong (b ++ more)) (g.stays (b ++ more)))
joined (Err error-is.Memory) old new a b more g = same_held old new (a ++ more) (b ++ more) (g.joins more)

-- ---- data that arrives piece by piece

-- capsules before others
abbrev pub preceded : List (CapsuleKind × List ℕ) → Capsules → Capsules
preceded [] all = all
preceded (c ∷ cs) all = follows c (preceded cs all)

pub preceded-ends : (cs : List (CapsuleKind × List ℕ)) (e : CapsuleEnding) → preceded cs (ends e) ≡ record { found = cs; ending = e }
preceded-ends [] e = refl
preceded-ends (c ∷ cs) e = ap (λ (all : Capsules). follows c all) (preceded-ends cs e)

preceded-result : (r : Result (Option (CapsuleKind × List ℕ)) CapsuleError) (cs : List (CapsuleKind × List ℕ)) (all : Capsules) → with_result r (preceded cs all) ≡ preceded (add_result r cs) all
preceded-result (Ok (Some c)) cs all = refl
preceded-result (Ok None) cs all = refl
preceded-result (Err e) cs all = refl

leads : (steps : List Step) (old new : Held) (a b more : List ℕ) → Leads steps old a new b → capsules_held old (a ++ (data_of steps ++ more)) ≡ preceded (returned steps) (capsules_held new (b ++ more))
leads [] old new a b more (same, left) = rw (same, left) refl
leads (Arrived piece ∷ steps) old new a b more l =
    ap (λ (x : List ℕ). capsules_held old x) (ap (λ (x : List ℕ). a ++ x) (append_assoc piece (data_of steps) more) ∙ sym (append_assoc a piece (data_of steps ++ more)))
    ∙ leads steps old new (a ++ piece) b more l
leads (Returned r ∷ steps) old new a b more (held, left, given, l) =
    joined r old held a left (data_of steps ++ more) given
    ∙ ap (λ (all : Capsules). with_result r all) (leads steps held new left b more l)
    ∙ preceded-result r (returned steps) (capsules_held new (b ++ more))

-- the capsules of the data and how it ends, by what is held and left after the steps
led : (steps : List Step) (new : Held) (b more : List ℕ) (e : CapsuleEnding) → Leads steps new_held [] new b → capsules_held new (b ++ more) ≡ ends e → capsules (data_of steps ++ more) ≡ record { found = returned steps; ending = e }
led steps new b more e l is =
    sym (held-new (data_of steps ++ more)) ∙ leads steps new_held new [] b more l
    ∙ ap (λ (all : Capsules). preceded (returned steps) all) is ∙ preceded-ends (returned steps) e

whole : (steps : List Step) (new : Held) (e : CapsuleEnding) → Leads steps new_held [] new [] → capsules_held new [] ≡ ends e → capsules (data_of steps) ≡ record { found = returned steps; ending = e }
whole steps new e l is = ap (λ (x : List ℕ). capsules x) (sym (append-nil (data_of steps))) ∙ led steps new [] [] e l is

pub led-between : (steps : List Step) (new : Held) → Leads steps new_held [] new [] → next_held new [] ≡ End → capsules (data_of steps) ≡ record { found = returned steps; ending = Between }
led-between steps new l is = whole steps new Between l (held_by new [] End is)

pub led-within : (steps : List Step) (new : Held) → Leads steps new_held [] new [] → next_held new [] ≡ Cut → capsules (data_of steps) ≡ record { found = returned steps; ending = Within }
led-within steps new l is = whole steps new Within l (held_by new [] Cut is)

pub led-too_long : (steps : List Step) (held new : Held) (left b more : List ℕ) → Leads steps new_held [] held left → NextGiven (Err error-is.TooLong) held left new b → capsules (data_of steps ++ more) ≡ record { found = returned steps; ending = AtTooLong }
led-too_long steps held new left b more l given = led steps held left more AtTooLong l (held_by held (left ++ more) (TooLong (b ++ more)) (given.found more))
