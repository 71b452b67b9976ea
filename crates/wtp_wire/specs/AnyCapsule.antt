-- The next capsule of any type in bytes that the caller holds (RFC 9297, section 3.2).
--
-- A capsule is a type, a length, and a value of that length. It starts after the bytes that are
-- still to be skipped, so what follows the bytes makes no difference.
use Rattle.std.specs.Prelude.{◌≡◌, ◌≢◌, ℕ, ◌+◌, ◌-◌, ◌<◌, ◌≤◌, ◌==◌, List, ◌++◌, length, take, drop, Option, Some, None, if◌then◌else◌}
use Rattle.wtp_wire.specs.declared.capsule.CapsuleKind.{CapsuleKind}
use Rattle.wtp_wire.specs.declared.capsule.cursor.AnyCapsule.{AnyCapsule}
use Rattle.wtp_wire.specs.declared.capsule.cursor.AnyCapsule.TheVariants as any-is
use Rattle.wtp_wire.specs.declared.capsule.cursor.CapsuleCursor.{CapsuleCursor}
use Rattle.wtp_wire.specs.declared.capsule.cursor.CapsuleSpan.{CapsuleSpan}
use Rattle.wtp_wire.specs.declared.capsule.cursor.Start.{Start}
use Rattle.wtp_wire.specs.declared.capsule.cursor.Start.TheVariants as start-is
use Rattle.wtp_wire.specs.declared.capsule.cursor.UnknownCapsule.{UnknownCapsule}
use Rattle.wtp_wire.specs.Capsule.{capsule_number_of}
use Rattle.wtp_wire.specs.CapsuleCursor.{IsCapsulePart, capsule_value, capsules_from}
use Rattle.wtp_wire.specs.CapsuleFront.{IsCapsule, IsLongHead}
use Rattle.wtp_wire.specs.CapsuleStream.{Capsules, AtTooLong, ends, follows}
use Rattle.wtp_wire.specs.FrameNeed.{frame_need}
use Rattle.wtp_wire.specs.Front.{EncodesPair}
use Rattle.wtp_wire.specs.Settings.{pair_at}

-- ---- parts of the bytes

-- those from offset a up to b
abbrev pub between : ℕ → ℕ → List ℕ → List ℕ
between a b bytes = take (b - a) (drop a bytes)

-- s is a type that no kind has, and a length
pub record IsUnknownHead (number len : ℕ) (s : List ℕ) : Type 0 where
  pub no_kind : (kind : CapsuleKind) → number ≢ capsule_number_of kind
  pub encoded : EncodesPair number len s

-- ---- one call

-- A capsule of a known kind is next: all bytes after those to be skipped, up to its end, are its
-- type, its length and its value.
pub record FindsKnown (p : CapsuleSpan) (old : CapsuleCursor) (bytes : List ℕ)
    (new : CapsuleCursor) : Type 0 where
  pub after : old.skip_remaining ≤ p.start
  pub within : p.end ≤ length bytes
  pub capsule : IsCapsule p.kind (capsule_value p bytes) (between old.skip_remaining p.end bytes)
  pub skip_remaining : new.skip_remaining ≡ 0

-- One of an unknown type is next: all bytes after those to be skipped, up to its value, are this
-- type and this length. Its whole value is to be skipped.
pub record FindsUnknown (u : UnknownCapsule) (old : CapsuleCursor) (bytes : List ℕ)
    (new : CapsuleCursor) : Type 0 where
  pub after : old.skip_remaining ≤ u.start
  pub within : u.start ≤ length bytes
  pub head : IsUnknownHead u.number u.announced (between old.skip_remaining u.start bytes)
  pub skip_remaining : new.skip_remaining ≡ u.announced

-- The first n bytes were skipped: all that were to be, or all that came. What is left is the start
-- of a capsule, and no byte if some are still to be skipped.
pub record LeavesPart (n : ℕ) (old : CapsuleCursor) (bytes : List ℕ) (new : CapsuleCursor) : Type 0
  where
    pub within : n ≤ length bytes
    pub skip_remaining : old.skip_remaining ≡ n + new.skip_remaining
    pub all : 0 < new.skip_remaining → n ≡ length bytes
    pub part : IsCapsulePart (drop n bytes)
    pub few : length (drop n bytes) ≤ 1043

-- The type of a kind and a length that is too long are next, up to this offset.
pub record FindsLongHead (old : CapsuleCursor) (bytes : List ℕ) (new : CapsuleCursor) : Type 0 where
  pub end : ℕ
  pub after : old.skip_remaining ≤ end
  pub within : end ≤ length bytes
  pub head : IsLongHead (between old.skip_remaining end bytes)
  pub same : new ≡ old

abbrev pub AnyIs : AnyCapsule → CapsuleCursor → List ℕ → CapsuleCursor → Type 0
AnyIs (any-is.Known p) old bytes new = FindsKnown p old bytes new
AnyIs (any-is.Unknown u) old bytes new = FindsUnknown u old bytes new
AnyIs (any-is.More n) old bytes new = LeavesPart n old bytes new
AnyIs any-is.TooLong old bytes new = FindsLongHead old bytes new

-- ---- the capsules of known kinds

-- the bytes that are left
abbrev pub left_after_any : AnyCapsule → List ℕ → List ℕ
left_after_any (any-is.Known p) bytes = drop p.end bytes
left_after_any (any-is.Unknown u) bytes = drop u.start bytes
left_after_any (any-is.More n) bytes = drop n bytes
left_after_any any-is.TooLong bytes = bytes

-- those before the call, from those after it
abbrev pub with_any : AnyCapsule → List ℕ → Capsules → Capsules
with_any (any-is.Known p) bytes all = follows (p.kind, capsule_value p bytes) all
with_any (any-is.Unknown u) bytes all = all
with_any (any-is.More n) bytes all = all
with_any any-is.TooLong bytes all = ends AtTooLong

-- whatever follows these bytes, those of all are made so from those of the bytes that are left
abbrev pub CapsulesOfAny : AnyCapsule → CapsuleCursor → List ℕ → CapsuleCursor → Type 0
CapsulesOfAny found old bytes new =
    (more : List ℕ)
    → capsules_from old (bytes ++ more)
    ≡ with_any found bytes (capsules_from new (left_after_any found bytes ++ more))

-- ---- how many bytes are missing

-- of a type and a length, the least number; after them, of a value
abbrev pub missing_of : Option ((ℕ × ℕ) × List ℕ) → List ℕ → ℕ
missing_of None bytes = frame_need bytes - length bytes
missing_of (Some ((number, len), value)) bytes = len - length value

-- those to be skipped, or those of the first capsule of the bytes left
abbrev pub missing_from : CapsuleCursor → List ℕ → ℕ
missing_from c rest = if c.skip_remaining == 0 then missing_of (pair_at rest) rest else c.skip_remaining

-- ---- what bytes start with, for the private function that reads it

-- an unknown type and a length, of h bytes together
pub record IsUnknownStart (number len h : ℕ) (bytes : List ℕ) : Type 0 where
  pub some : 0 < h
  pub within : h ≤ length bytes
  pub head : IsUnknownHead number len (take h bytes)

-- a capsule, whose value is from offset a to b
pub record IsKnownStart (kind : CapsuleKind) (a b : ℕ) (bytes : List ℕ) : Type 0 where
  pub ordered : a ≤ b
  pub within : b ≤ length bytes
  pub capsule : IsCapsule kind (between a b bytes) (take b bytes)

pub record IsLongStart (bytes : List ℕ) : Type 0 where
  pub end : ℕ
  pub within : end ≤ length bytes
  pub head : IsLongHead (take end bytes)

abbrev pub StartIs : Start → List ℕ → Type 0
StartIs (start-is.Unknown u) bytes = IsUnknownStart u.number u.announced u.start bytes
StartIs (start-is.Known p) bytes = IsKnownStart p.kind p.start p.end bytes
StartIs start-is.TooLong bytes = IsLongStart bytes
StartIs start-is.Cut bytes = IsCapsulePart bytes
