-- The capsules of a list of bytes, one after another (RFC 9297, sections 3.2 and 3.3), and what a
-- reading of them holds.
--
-- By the first capsule of the bytes, `capsule_front`: one of an unknown type is skipped; one of a
-- known kind is one more, and those of the bytes after it follow; a value that is too long ends
-- them; so do bytes that end within a capsule, and those that end between two.
use Rattle.std.specs.Prelude.{◌≡◌, ℕ, zero, suc, ◌<◌, ◌≤◌, ◌==◌, List, [], ◌∷◌, ◌++◌, length, Option, Some, None, ◌⊎◌, Result, Ok, Err, if◌then◌else◌}
use Rattle.wtp_core.specs.Varint.{bytes_at}
use Rattle.wtp_wire.specs.declared.capsule.CapsuleError.{CapsuleError}
use Rattle.wtp_wire.specs.declared.capsule.CapsuleError.TheVariants as error-is
use Rattle.wtp_wire.specs.declared.capsule.CapsuleKind.{CapsuleKind}
use Rattle.wtp_wire.specs.Capsule.{capsule_number_of}
use Rattle.wtp_wire.specs.CapsuleFront.{CapsuleFront, Found, Unknown, TooLong, Cut, End, max_value_len, or_cut, capsule_front}
use Rattle.wtp_wire.specs.Front.{EncodesPair}
use Rattle.wtp_wire.specs.Held.{Held, new_held}

-- ---- the first capsule of a known kind

abbrev pub skip_unknown : (List ℕ → CapsuleFront) → CapsuleFront → CapsuleFront
skip_unknown more (Found kind value rest) = Found kind value rest
skip_unknown more (Unknown rest) = more rest
skip_unknown more (TooLong rest) = TooLong rest
skip_unknown more Cut = Cut
skip_unknown more End = End

-- at most n capsules of unknown types are skipped
abbrev pub next_within : ℕ → List ℕ → CapsuleFront
next_within zero bytes = End
next_within (suc n) bytes = skip_unknown (λ rest. next_within n rest) (capsule_front bytes)

-- the first capsule after those of unknown types at the start
unfoldable pub next_capsule : List ℕ → CapsuleFront
next_capsule bytes = next_within (length bytes) bytes

-- ---- all of them

-- How they end: between two, within one, or with a value that is too long.
pub data CapsuleEnding : Type 0 where
  Between : CapsuleEnding
  Within : CapsuleEnding
  AtTooLong : CapsuleEnding

-- the capsules of known kinds with their values, and the ending
pub record Capsules : Type 0 where
  pub found : List (CapsuleKind × List ℕ)
  pub ending : CapsuleEnding

abbrev pub ends : CapsuleEnding → Capsules
ends e = record { found = []; ending = e }

abbrev pub follows : CapsuleKind × List ℕ → Capsules → Capsules
follows c all = record { found = c ∷ all.found; ending = all.ending }

abbrev pub by_front : (List ℕ → Capsules) → CapsuleFront → Capsules
by_front more (Found kind value rest) = follows (kind, value) (more rest)
by_front more (Unknown rest) = more rest
by_front more (TooLong rest) = ends AtTooLong
by_front more Cut = ends Within
by_front more End = ends Between

-- of bytes with at most n capsules
abbrev pub capsules_within : ℕ → List ℕ → Capsules
capsules_within zero bytes = ends Between
capsules_within (suc n) bytes = by_front (λ rest. capsules_within n rest) (capsule_front bytes)

unfoldable pub capsules : List ℕ → Capsules
capsules bytes = capsules_within (length bytes) bytes

-- ---- of the bytes held, and those that follow

-- the first capsule of a known kind of what is held and of the bytes; if bytes are still to be
-- skipped, of those after
unfoldable pub next_held : Held → List ℕ → CapsuleFront
next_held h bytes =
    if h.skip_remaining == 0
    then next_capsule (h.taken ++ bytes)
    else or_cut (bytes_at h.skip_remaining bytes) (λ value. next_capsule value.1)

abbrev pub capsules_after : Option (List ℕ × List ℕ) → Capsules
capsules_after None = ends Within
capsules_after (Some skipped) = capsules skipped.1

-- all capsules of what is held and of the bytes
unfoldable pub capsules_held : Held → List ℕ → Capsules
capsules_held h bytes =
    if h.skip_remaining == 0 then capsules (h.taken ++ bytes) else capsules_after (bytes_at h.skip_remaining bytes)

-- ---- one call; old and new are what is held before and after, a and b are the bytes before and
-- those left

-- whatever follows, the first capsule is the same
abbrev pub Joins : Held → List ℕ → Held → List ℕ → Type 0
Joins old a new b = (more : List ℕ) → next_held old (a ++ more) ≡ next_held new (b ++ more)

-- all bytes are taken, they are too few, and nothing is lost
pub record TakesAll (old : Held) (a : List ℕ) (new : Held) (b : List ℕ) : Type 0 where
  pub none_left : b ≡ []
  pub short : (next_held new [] ≡ Cut) ⊎ (next_held new [] ≡ End)
  pub joins : Joins old a new b

-- a capsule, whatever follows, and nothing is held
pub record TakesCapsule (c : CapsuleKind × List ℕ) (old : Held) (a : List ℕ) (new : Held)
    (b : List ℕ) : Type 0 where
  pub found : (more : List ℕ) → next_held old (a ++ more) ≡ Found c.0 c.1 (b ++ more)
  pub empty : new ≡ new_held

-- a value that is too long, whatever follows; and it stays so
pub record FindsTooLong (old : Held) (a : List ℕ) (new : Held) (b : List ℕ) : Type 0 where
  pub found : (more : List ℕ) → next_held old (a ++ more) ≡ TooLong (b ++ more)
  pub stays : (more : List ℕ) → next_held new more ≡ TooLong more

-- t is the start of a capsule of a known kind, of which some of the value is missing
pub record MissesValue (t : List ℕ) : Type 0 where
  pub kind : CapsuleKind
  pub len : ℕ
  pub head : List ℕ
  pub part : List ℕ
  pub encoded : EncodesPair (capsule_number_of kind) len head
  pub small : len ≤ max_value_len kind
  pub less : length part < len
  pub parts : t ≡ head ++ part

-- nothing is lost; of a capsule of a known kind, whose value has at least one byte, the type and
-- the length are held, and no byte of the value
pub record WantsMemory (old : Held) (a : List ℕ) (new : Held) (b : List ℕ) : Type 0 where
  pub none_due : new.skip_remaining ≡ 0
  pub misses : MissesValue new.taken
  pub none_held : misses.part ≡ []
  pub joins : Joins old a new b

abbrev pub NextGiven :
    Result (Option (CapsuleKind × List ℕ)) CapsuleError → Held → List ℕ → Held → List ℕ → Type 0
NextGiven (Ok (Some c)) old a new b = TakesCapsule c old a new b
NextGiven (Ok None) old a new b = TakesAll old a new b
NextGiven (Err error-is.TooLong) old a new b = FindsTooLong old a new b
NextGiven (Err error-is.Memory) old a new b = WantsMemory old a new b

-- the capsules before the call, from those after it
abbrev pub with_result : Result (Option (CapsuleKind × List ℕ)) CapsuleError → Capsules → Capsules
with_result (Ok (Some c)) all = follows c all
with_result (Ok None) all = all
with_result (Err e) all = all

-- ---- data that arrives piece by piece

-- what happens at a reading: a piece of data arrives, after the bytes that are left, or a call
-- returns
pub data Step : Type 0 where
  Arrived : List ℕ → Step
  Returned : Result (Option (CapsuleKind × List ℕ)) CapsuleError → Step

-- These steps lead from what is held and left to what is held and left after them.
abbrev pub Leads : List Step → Held → List ℕ → Held → List ℕ → Type 0
Leads [] old a new b = (new ≡ old) × (b ≡ a)
Leads (Arrived piece ∷ steps) old a new b = Leads steps old (a ++ piece) new b
Leads (Returned result ∷ steps) old a new b =
    (held : Held) × (left : List ℕ) × NextGiven result old a held left × Leads steps held left new b

-- all data that arrived, joined
abbrev pub data_of : List Step → List ℕ
data_of [] = []
data_of (Arrived piece ∷ steps) = piece ++ data_of steps
data_of (Returned result ∷ steps) = data_of steps

abbrev pub add_result :
    Result (Option (CapsuleKind × List ℕ)) CapsuleError → List (CapsuleKind × List ℕ)
    → List (CapsuleKind × List ℕ)
add_result (Ok (Some c)) others = c ∷ others
add_result (Ok None) others = others
add_result (Err e) others = others

-- all capsules that were returned
abbrev pub returned : List Step → List (CapsuleKind × List ℕ)
returned [] = []
returned (Arrived piece ∷ steps) = returned steps
returned (Returned result ∷ steps) = add_result result (returned steps)
