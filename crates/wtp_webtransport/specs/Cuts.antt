-- The capsules of all of the content of a session, however it is cut.
use Rattle.std.specs.Prelude.{◌≡◌, ℕ, zero, suc, ◌*◌, List, [], ◌∷◌, length, Option, Some, None, Ok, Err}
use Rattle.wtp_wire.specs.Settings.{pair_at}
use Rattle.wtp_wire.specs.declared.capsule.CapsuleError.TheVariants as capsule_error
use Rattle.wtp_webtransport.specs.declared.capsules.CapsuleType.{CapsuleType}
use Rattle.wtp_webtransport.specs.Capsules.{Found, Place, Head, Taken, taken_of}

-- those that mean something, with their values, and how far the content went; it goes nowhere after one
-- that is malformed
pub record Run : Type 0 where
  pub capsules : List (CapsuleType × List ℕ)
  pub place : Option Place

abbrev pub rests : Place → Run
rests p = record { capsules = []; place = Some p }

abbrev pub breaks : Run
breaks = record { capsules = []; place = None }

abbrev pub followed : CapsuleType × List ℕ → Run → Run
followed x r = record { capsules = x ∷ r.capsules; place = r.place }

-- what comes of some bytes, and of those that are left
abbrev pub after_found : Found → Run → Run
after_found (Ok None) r = r
after_found (Ok (Some x)) r = followed x r
after_found (Err capsule_error.TooLong) r = breaks
after_found (Err capsule_error.Memory) r = r

abbrev pub by_taken : (Place → List ℕ → Run) → Taken → Run
by_taken more t = after_found t.0 (more t.1 t.2)

-- with at most so many steps
abbrev pub run_within : ℕ → Place → List ℕ → Run
run_within zero p bytes = rests p
run_within (suc n) p bytes = by_taken (λ q rest. run_within n q rest) (taken_of p bytes)

-- each step but the last takes a byte, or ends a value
unfoldable pub run : Place → List ℕ → Run
run p bytes = run_within (suc (suc (2 * length bytes))) p bytes

-- no type and length are complete before the value is begun
abbrev pub IsProper : Place → Type 0
IsProper (Head head) = pair_at head ≡ None
IsProper other = Unit {0}
