-- The parts of one call of a reading of capsules, for the private functions that it consists of.
use Rattle.std.specs.Prelude.{◌≡◌, ℕ, ◌<◌, ◌≤◌, List, [], ◌++◌, length, nat_lt, Option, Some, None, Result, if◌then◌else◌}
use Rattle.wtp_core.specs.Varint.{number_at, bytes_at}
use Rattle.wtp_wire.specs.declared.capsule.CapsuleError.{CapsuleError}
use Rattle.wtp_wire.specs.declared.capsule.CapsuleKind.{CapsuleKind}
use Rattle.wtp_wire.specs.declared.capsule.reading.CapsuleAnnouncement.{CapsuleAnnouncement}
use Rattle.wtp_wire.specs.declared.capsule.reading.CapsuleAnnouncement.TheVariants as head-is
use Rattle.wtp_wire.specs.declared.capsule.reading.Reached.{Reached}
use Rattle.wtp_wire.specs.declared.capsule.reading.Reached.TheVariants as reached-is
use Rattle.wtp_wire.specs.Capsule.{capsule_kind_of}
use Rattle.wtp_wire.specs.CapsuleFront.{CapsuleFront, Found, Unknown, TooLong, Cut, max_value_len, or_cut}
use Rattle.wtp_wire.specs.CapsuleStream.{Joins, TakesAll, FindsTooLong, WantsMemory, NextGiven, next_held}
use Rattle.wtp_wire.specs.FrameNeed.{frame_need}
use Rattle.wtp_wire.specs.Held.{Held}

-- ---- the type and the length

-- what a length says after the type of a kind, or after an unknown type
abbrev pub length_says : Option CapsuleKind → ℕ → CapsuleAnnouncement
length_says None len = head-is.Skip len
length_says (Some kind) len =
    if nat_lt (max_value_len kind) len then head-is.TooLong else head-is.Keep kind len

abbrev pub or_unfinished : Option (ℕ × List ℕ) → (ℕ × List ℕ → CapsuleAnnouncement) → CapsuleAnnouncement
or_unfinished None next = head-is.Unfinished
or_unfinished (Some x) next = next x

-- what the type and the length at the start say
unfoldable pub head_says : List ℕ → CapsuleAnnouncement
head_says bytes =
    or_unfinished (number_at bytes)
    (λ id. or_unfinished (number_at id.1) (λ len. length_says (capsule_kind_of id.0) len.0))

-- the first capsule, given what its type and length say and the bytes after them
abbrev pub front_after : CapsuleAnnouncement → List ℕ → CapsuleFront
front_after head-is.Unfinished bytes = Cut
front_after (head-is.Keep kind len) bytes =
    or_cut (bytes_at len bytes) (λ value. Found kind value.0 value.1)
front_after (head-is.Skip len) bytes = or_cut (bytes_at len bytes) (λ value. Unknown value.1)
front_after head-is.TooLong bytes = TooLong bytes

-- ---- what is held: h of a type and a length, v of a value

abbrev pub FitsHead : CapsuleAnnouncement → List ℕ → Type 0
FitsHead head-is.Unfinished v = v ≡ []
FitsHead (head-is.Keep kind len) v = length v < len
FitsHead (head-is.Skip len) v = ⊥
FitsHead head-is.TooLong v = v ≡ []

pub record IsPart (h v : List ℕ) (skip_remaining : ℕ) : Type 0 where
  pub within : length h ≤ frame_need h
  pub fits : FitsHead (head_says h) v
  pub alone : 0 < skip_remaining → h ≡ []

-- where n bytes of a value are held, there is room for all of it
abbrev pub HasRoom : CapsuleAnnouncement → ℕ → ℕ → Type 0
HasRoom (head-is.Keep kind len) n room = 0 < n → len ≤ room
HasRoom head n room = Unit {0}

abbrev pub holding : List ℕ → List ℕ → ℕ → Held
holding h v skip_remaining = record { taken = h ++ v; skip_remaining = skip_remaining }

-- ---- one capsule, as far as the bytes go

-- an unknown capsule's value is next
pub record StartsSkipping (old : Held) (a h v : List ℕ) (skip_remaining : ℕ) (b : List ℕ) : Type 0 where
  pub no_head : h ≡ []
  pub no_value : v ≡ []
  pub joins : Joins old a (holding h v skip_remaining) b
  pub shorter : length b < length a

-- a capsule's value is complete
pub record HasValue (kind : CapsuleKind) (old : Held) (a v : List ℕ) (skip_remaining : ℕ) (b : List ℕ) : Type
    0 where
  pub found : (more : List ℕ) → next_held old (a ++ more) ≡ Found kind v (b ++ more)
  pub none_due : skip_remaining ≡ 0

abbrev pub Advanced : Reached → Held → List ℕ → List ℕ → List ℕ → ℕ → List ℕ → Type 0
Advanced reached-is.Skipping old a h v skip_remaining b = StartsSkipping old a h v skip_remaining b
Advanced reached-is.More old a h v skip_remaining b =
    IsPart h v skip_remaining × TakesAll old a (holding h v skip_remaining) b
Advanced reached-is.TooLong old a h v skip_remaining b =
    IsPart h v skip_remaining × FindsTooLong old a (holding h v skip_remaining) b
Advanced reached-is.Memory old a h v skip_remaining b =
    IsPart h v skip_remaining × WantsMemory old a (holding h v skip_remaining) b
Advanced (reached-is.Complete kind) old a h v skip_remaining b = HasValue kind old a v skip_remaining b

-- ---- up to the value of an unknown capsule, or a result

pub record Progresses (old : Held) (a : List ℕ) (new : Held) (b : List ℕ) : Type 0 where
  pub joins : Joins old a new b
  pub shorter : length b < length a

abbrev pub Stepped :
    Option (Result (Option (CapsuleKind × List ℕ)) CapsuleError) → Held → List ℕ → Held → List ℕ
    → Type 0
Stepped (Some r) old a new b = NextGiven r old a new b
Stepped None old a new b = Progresses old a new b
