-- The position where a run ends: the bytes left after its frames, held and ahead (RFC 9114,
-- sections 7.1 and 9).
--
-- A run continues after each frame that the stream allows, and after unknown frames. It ends where
-- neither begins. The laws `remainder_by_front` and `place_by_front` state exactly this.
use Rattle.std.specs.Prelude.{◌≡◌, ℕ, zero, suc, ◌+◌, ◌<◌, Bool, false, List, [], ◌++◌, length, Option, Some, None}
use Rattle.wtp_core.specs.declared.error.ErrorCode.{ErrorCode}
use Rattle.wtp_core.specs.Source.{Source}
use Rattle.wtp_wire.specs.Content.{kind_in}
use Rattle.wtp_wire.specs.Front.{Front, Framed, Unknown, BadId, TooBig, Short, front}
use Rattle.wtp_wire.specs.Held.{Held, new_held, front_held, IsUnknownHead}
use Rattle.wtp_wire.specs.Rule.{Role, rule}
use Rattle.wtp_wire.specs.Run.{skip_unknown}
use Rattle.wtransport_proto.specs.Reading.{FirstAfter}

-- onward if there is no error code, otherwise here
abbrev pub if_allowed : {X : Type 0} → Option ErrorCode → X → X → X
if_allowed None onward here = onward
if_allowed (Some c) onward here = here

-- ---- of bytes

-- the bytes after the last frame of a run, and whether the next frame is the first one of its
-- stream
pub record Remainder : Type 0 where
  pub first : Bool
  pub bytes : List ℕ

-- the remainder if no frame is taken
abbrev pub remainder_here : Bool → List ℕ → Remainder
remainder_here first bytes = record { first = first; bytes = bytes }

-- the remainder, given the first frame that is not unknown
abbrev pub next_remainder : (Bool → List ℕ → Remainder) → Role → Bool → List ℕ → Front → Remainder
next_remainder more role first bytes (Framed f rest) =
    if_allowed (rule role first (kind_in f)) (more false rest) (remainder_here first bytes)
next_remainder more role first bytes (Unknown rest) = remainder_here first bytes
next_remainder more role first bytes (BadId rest) = remainder_here first bytes
next_remainder more role first bytes (TooBig rest) = remainder_here first bytes
next_remainder more role first bytes Short = remainder_here first bytes

-- the remainder after at most n frames
abbrev pub remainder_within : ℕ → Role → Bool → List ℕ → Remainder
remainder_within zero role first bytes = remainder_here first bytes
remainder_within (suc n) role first bytes =
    next_remainder (λ f rest. remainder_within n role f rest) role first bytes
    (front (skip_unknown bytes))

-- the remainder of a run
unfoldable pub remainder : Role → Bool → List ℕ → Remainder
remainder role first bytes = remainder_within (length bytes) role first bytes

-- ---- of a reading state and the bytes ahead

-- The bytes held and ahead where a run ends, and whether the next frame is the first one of its
-- stream. Neither a frame that the stream allows nor a complete unknown frame begins there.
pub record Place : Type 0 where
  pub first : Bool
  pub held : Held
  pub ahead : List ℕ

-- the position if nothing is taken
abbrev pub place_here : Bool → Held → List ℕ → Place
place_here first h ahead = record { first = first; held = h; ahead = ahead }

-- the position after the unknown frames of a remainder, where no byte is held
abbrev pub place_after : Remainder → Place
place_after r = record { first = r.first; held = new_held; ahead = skip_unknown r.bytes }

-- the position where the run ends, given the first frame
abbrev pub place_by : Role → Bool → Held → List ℕ → Front → Place
place_by role first h ahead (Framed f rest) =
    if_allowed (rule role first (kind_in f)) (place_after (remainder role false rest))
    (place_here first h ahead)
place_by role first h ahead (Unknown rest) = place_after (remainder role first rest)
place_by role first h ahead (BadId rest) = place_here first h ahead
place_by role first h ahead (TooBig rest) = place_here first h ahead
place_by role first h ahead Short = place_here first h ahead

-- the position where the run of the bytes held and ahead ends
unfoldable pub place_held : Role → Bool → Held → List ℕ → Place
place_held role first h ahead = place_by role first h ahead (front_held h ahead)

-- the same for the bytes ahead in a source
abbrev pub place_of : Role → Bool → Held → Source → Place
place_of role first h s = place_held role first h s.ahead

-- ---- nothing is lost

-- the bytes are the head and a first part of the payload of an unknown frame, followed by left;
-- skip_remaining more payload bytes are left to skip
pub record BeginsUnknown (whole : List ℕ) (skip_remaining : ℕ) (left : List ℕ) : Type 0 where
  pub head : List ℕ
  pub payload : List ℕ
  pub parts : whole ≡ (head ++ payload) ++ left
  pub is_head : IsUnknownHead (length payload + skip_remaining) head

-- of skip_remaining bytes left to skip, some were received, and now is the number left after that
pub record SkipAdvances (skip_remaining : ℕ) (ahead : List ℕ) (now : ℕ) (left : List ℕ) : Type 0 where
  pub payload : List ℕ
  pub parts : ahead ≡ payload ++ left
  pub counts : skip_remaining ≡ length payload + now

-- The bytes held and ahead are the same before and after, except that bytes of an unknown frame
-- were skipped and more of it are left to skip.
pub record NothingLost (old new : Held) (ahead left : List ℕ) : Type 0 where
  pub same : front_held new left ≡ front_held old ahead
  pub kept : new.skip_remaining ≡ 0 → (old.skip_remaining ≡ 0) × (new.taken ++ left ≡ old.taken ++ ahead)
  pub begun :
      old.skip_remaining ≡ 0
      → 0 < new.skip_remaining
      → (new.taken ≡ []) × BeginsUnknown (old.taken ++ ahead) new.skip_remaining left
  pub going :
      0 < old.skip_remaining
      → (new.taken ≡ old.taken) × SkipAdvances old.skip_remaining ahead new.skip_remaining left

-- Two positions are the same: no byte was lost between them.
pub record SamePlace (old new : Place) : Type 0 where
  pub first : new.first ≡ old.first
  pub remains : NothingLost old.held new.held old.ahead new.ahead

-- ---- after an error

-- The bytes left after an error, given the first frame at its position: a frame that is not
-- allowed, or an invalid head, was taken completely, and no byte after it; if the bytes are too
-- few, none is ahead, and all bytes received are held.
abbrev pub LeftByFault : Place → Front → Held → List ℕ → Type 0
LeftByFault p (Framed f rest) new left = (new ≡ new_held) × (left ≡ rest)
LeftByFault p (Unknown rest) new left = ⊥
LeftByFault p (BadId rest) new left = (new ≡ new_held) × (left ≡ rest)
LeftByFault p (TooBig rest) new left = (new ≡ new_held) × (left ≡ rest)
LeftByFault p Short new left = (left ≡ []) × NothingLost p.held new p.ahead []

-- The state after the error at this position: new is the reading state, these bytes are ahead, and
-- next is whether the next frame is the first one of its stream.
pub record AtFault (role : Role) (p : Place) (next : Bool) (new : Held) (ahead : List ℕ) : Type
    0 where
  pub flag : FirstAfter role p.first (front_held p.held p.ahead) next
  pub left : LeftByFault p (front_held p.held p.ahead) new ahead
