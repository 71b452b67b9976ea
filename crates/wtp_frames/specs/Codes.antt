-- Errors of streams of frames, row by row, with their codes as numbers (RFC 9114, sections 4.1,
-- 6.2.1, 7 and 8.1).
use Rattle.std.specs.Prelude.{◌≡◌, ℕ, ◌≤◌, ◌<◌, List, [], ◌∷◌, ◌++◌, length, Result, Err, None}
use Rattle.wtp_core.specs.Varint.{Encodes}
use Rattle.wtp_core.specs.declared.error.scope.ErrorScope.{ErrorScope}
use Rattle.wtp_frames.specs.declared.endpoint.Endpoint.{Endpoint}
use Rattle.wtp_frames.specs.declared.fault.Fault.{Fault}
use Rattle.wtp_frames.specs.declared.frame_type.FrameType.TheVariants as kind
use Rattle.wtp_frames.specs.Fault.{code_of, scope_of}
use Rattle.wtp_frames.specs.Item.{Item, Whole, Broken}
use Rattle.wtp_frames.specs.Run.{Run, run}
use Rattle.wtp_frames.specs.Start.{awaiting, control_reader}
use Rattle.wtp_frames.specs.Grammar.{Frame, written, IsFrame, Message, message_bytes, message_items, ValidMessage, Stage, stage, Ids, ids_bytes, ids_items, ValidIds}

-- the items, and then an error with this code, which ends this
pub record Reports (r : Run) (items : List Item) (code : ℕ) (scope : ErrorScope) : Type 0 where
  pub fault : Fault
  pub given : r.items ≡ items ++ (Broken fault ∷ [])
  pub coded : code_of fault ≡ code
  pub scoped : scope_of fault ≡ scope

-- After any interim responses and any valid frames of a message that end at this stage, the head of a
-- frame of this type, with any length, is this error, whatever follows.
abbrev pub InMessage : Endpoint → Stage → ℕ → ℕ → ErrorScope → Type 0
InMessage e s id code scope =
    (k : ℕ) (m : Message) (t u more : List ℕ) (n : ℕ) → ValidMessage e.webtransport 0 m → stage m ≡ s
    → Encodes id t → Encodes n u
    → Reports
    (run (awaiting e k) (message_bytes m ++ (t ++ (u ++ more))))
    (message_items e.max_section m) code scope

-- SETTINGS, and the IDs after them
pub record IsSettled (e : Endpoint) (settings : Frame) (ids : Ids) : Type 0 where
  pub frame : IsFrame 0x04 settings
  pub size : length settings.payload ≤ 4096
  pub rest : ValidIds e.side e.webtransport None None ids

-- After SETTINGS and any valid frames, these bytes are this error, whatever follows.
abbrev pub AfterIds : Endpoint → Frame → Ids → List ℕ → ℕ → ErrorScope → Type 0
AfterIds e settings ids bytes code scope =
    (more : List ℕ)
    → Reports
    (run (control_reader e) (written settings ++ (ids_bytes ids ++ (bytes ++ more))))
    (Whole kind.Settings settings.payload ∷ ids_items ids) code scope

-- the same of the head of a frame of this type, with any length
abbrev pub OnControl : Endpoint → ℕ → ℕ → ErrorScope → Type 0
OnControl e id code scope =
    (settings : Frame) (ids : Ids) (t u : List ℕ) (n : ℕ) → IsSettled e settings ids
    → Encodes id t → Encodes n u → AfterIds e settings ids (t ++ u) code scope

-- and of the head of a frame of this type whose payload is too long for one number
abbrev pub TooLong : Endpoint → ℕ → ℕ → ErrorScope → Type 0
TooLong e id code scope =
    (settings : Frame) (ids : Ids) (t u : List ℕ) (n : ℕ) → IsSettled e settings ids
    → Encodes id t → Encodes n u → 8 < n → AfterIds e settings ids (t ++ u) code scope

-- and of a whole frame of this type whose payload is not exactly one number
abbrev pub NoNumber : Endpoint → ℕ → ℕ → ErrorScope → Type 0
NoNumber e id code scope =
    (settings f : Frame) (ids : Ids) → IsSettled e settings ids → IsFrame id f
    → length f.payload ≤ 8 → ((n : ℕ) → Encodes n f.payload → ⊥)
    → AfterIds e settings ids (written f) code scope

-- the end of a stream is an error with this code, which ends this
pub record Fails (r : Result (Unit {0}) Fault) (code : ℕ) (scope : ErrorScope) : Type 0 where
  pub fault : Fault
  pub is : r ≡ Err fault
  pub coded : code_of fault ≡ code
  pub scoped : scope_of fault ≡ scope
