-- The state of reading a frame between polls.
use Rattle.std.specs.Prelude.{◌≡◌, ◌≢◌, ℕ, ◌+◌, ◌<◌, ◌≤◌, ◌==◌, List, [], ◌++◌, length, if◌then◌else◌}
use Rattle.wtp_core.specs.Source.{Source}
use Rattle.wtp_core.specs.SkipAhead.{max_skipped}
use Rattle.wtp_wire.specs.declared.frame.kind.FrameKind.{FrameKind}
use Rattle.wtp_wire.specs.declared.frame.kind.FrameKind.TheVariants.{WebTransport}
use Rattle.wtp_wire.specs.Kind.{IsKind}
use Rattle.wtp_wire.specs.Limits.{max_payload}
use Rattle.wtp_wire.specs.declared.frame.head.Announcement.TheVariants as announces
use Rattle.wtp_wire.specs.Front.{Front, Short, EncodesPair, front_after, front}

-- the bytes held, or the number of payload bytes of an unknown frame left to skip
pub record Held : Type 0 where
  pub taken : List ℕ
  pub skip_remaining : ℕ

-- no byte is held, and none is left to skip
abbrev pub new_held : Held
new_held = record { taken = []; skip_remaining = 0 }

-- the case of the bytes of an unknown frame of which n payload bytes are left to skip
abbrev pub skip_front : ℕ → List ℕ → Front
skip_front n bytes = front_after (announces.Skip n) bytes

-- the case that the bytes held and ahead start with; if bytes are left to skip, an unknown frame
-- once all of these are ahead
unfoldable pub front_held : Held → List ℕ → Front
front_held h ahead = if h.skip_remaining == 0 then front (h.taken ++ ahead) else skip_front h.skip_remaining ahead

-- a state between polls: it has no complete frame or error, and no bytes held if some are left to
-- skip
pub record IsUnfinished (h : Held) : Type 0 where
  pub short : front_held h [] ≡ Short
  pub alone : 0 < h.skip_remaining → h.taken ≡ []

-- s is the head of an unknown frame with a payload of n bytes
pub record IsUnknownHead (n : ℕ) (s : List ℕ) : Type 0 where
  pub id : ℕ
  pub no_kind : (kind : FrameKind) → IsKind kind id → ⊥
  pub encoded : EncodesPair id n s

-- s is the head of a frame of this kind, which is not WebTransport, with a payload of n bytes that
-- may be read
pub record IsPayloadHead (kind : FrameKind) (n : ℕ) (s : List ℕ) : Type 0 where
  pub id : ℕ
  pub is_kind : IsKind kind id
  pub plain : kind ≢ WebTransport
  pub encoded : EncodesPair id n s
  pub bound : n ≤ max_payload

-- ---- the effect of one poll; old and new are the state before and after

-- The bytes `payload` of an unknown frame's payload were skipped, and `new.skip_remaining` more are
-- left to skip. `head` are the bytes held and read before them: none, if bytes were left to skip
-- before.
pub record Skips (old new : Held) (a b : Source) : Type 0 where
  pub head : List ℕ
  pub payload : List ℕ
  pub parts : old.taken ++ a.ahead ≡ (head ++ payload) ++ b.ahead
  pub begun : old.skip_remaining ≡ 0 → IsUnknownHead (length payload + new.skip_remaining) head
  pub going : 0 < old.skip_remaining → (head ≡ []) × (old.skip_remaining ≡ length payload + new.skip_remaining)
  pub most : length payload ≤ max_skipped
  pub empty : new.taken ≡ []

-- No byte was lost: the bytes held and ahead are the same, except for skipped bytes of an unknown
-- frame. These are fewer than one poll may skip, and more are left to skip.
pub record Leaves (old new : Held) (a b : Source) : Type 0 where
  pub same : front_held new b.ahead ≡ front_held old a.ahead
  pub kept : new.skip_remaining ≡ 0 → (old.skip_remaining ≡ 0) × (new.taken ++ b.ahead ≡ old.taken ++ a.ahead)
  pub skips : 0 < new.skip_remaining → (s : Skips old new a b) × (length s.payload < max_skipped)
