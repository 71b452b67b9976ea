-- The frames of items, as a stream of the library would find them.
use Rattle.std.specs.Prelude.{◌≡◌, ℕ, ◌≤◌, ◌<◌, Bool, true, false, List, [], ◌∷◌, ◌++◌, take, drop}
use Rattle.wtp_core.specs.declared.error.ErrorCode.TheVariants as code-is
use Rattle.wtp_wire.specs.Limits.{max_payload}
use Rattle.wtp_wire.specs.Content.{Content as Frame, PlainOf, WebTransportOf}
use Rattle.wtp_wire.specs.Front.{Framed, front}
use Rattle.wtp_wire.specs.Role.{role_of}
use Rattle.wtp_wire.specs.Run.{Tail, run, follows}
use Rattle.wtp_wire.specs.declared.rules.StreamRole.{StreamRole}
use Rattle.wtp_wire.specs.declared.rules.StreamRole.TheVariants as role-is
use Rattle.wt_inspection_model.specs.declared.item.Content.{Content}
use Rattle.wt_inspection_model.specs.declared.item.Content.TheVariants as content-is
use Rattle.wt_inspection_model.specs.declared.item.Item.{Item}
use Rattle.wt_inspection_model.specs.declared.item.names.FrameName.{FrameName}
use Rattle.wt_inspection_model.specs.declared.item.names.FrameName.TheVariants as name-is
use Rattle.wt_inspection.specs.Stops.{Then, StopsWith}

-- the frame of this name with this payload; a stream skips one that has no kind
abbrev pub frame_of : FrameName → List ℕ → List Frame
frame_of (name-is.Read kind) payload = PlainOf kind payload ∷ []
frame_of other payload = []

-- the frame that the first of these bytes are, if they are one
abbrev pub frames_at : List ℕ → Content → List Frame
frames_at bytes (content-is.Frame f) = frame_of f.name (take f.present (drop f.head bytes))
frames_at bytes other = []

-- the frames of items, the first of which the bytes begin with
abbrev pub frames_in : List ℕ → List Item → List Frame
frames_in bytes [] = []
frames_in bytes (item ∷ items) =
    frames_at bytes item.content ++ frames_in (drop item.length bytes) items

-- a stream reads a payload of this length in a frame of this name, or skips it
abbrev pub IsWithin : FrameName → ℕ → Type 0
IsWithin (name-is.Read kind) n = n ≤ max_payload
IsWithin other n = Unit {0}

abbrev pub IsReadable : Content → Type 0
IsReadable (content-is.Frame f) = IsWithin f.name f.announced
IsReadable other = Unit {0}

-- a stream reads the payload of each frame of these, or skips it
abbrev pub AreReadable : List Item → Type 0
AreReadable [] = Unit {0}
AreReadable (item ∷ items) = IsReadable item.content × AreReadable items

-- a WebTransport stream that a run finds and an inspection refuses: on a bidirectional stream of the
-- peer, after unknown frames alone, which a run skips
pub record IsLateSession (role : StreamRole) (first : Bool) (at : ℕ) (bytes : List ℕ) (tail : Tail)
    (after : Then) : Type 0 where
  pub id : ℕ
  pub rest : List ℕ
  pub request : role ≡ role-is.BiRemote
  pub unknown : first ≡ true
  pub late : 0 < at
  pub begins : front bytes ≡ Framed (WebTransportOf id) rest
  pub found : run (role_of role) first bytes tail
      ≡ follows (WebTransportOf id) (run (role_of role) false rest tail)
  pub stops : StopsWith at code-is.Frame after
