-- How far the message of a stream is after each item.
use Rattle.std.proofs.Common.{◌≡◌, ℕ, ◌+◌, ◌-◌, ◌<◌, Bool, true, false, List, length, take, drop, Option, Some, None, Ok, Err, refl, sym, ap, ◌∙◌, arith}
use Rattle.std.specs.Prelude.{codes}
use Rattle.std.proofs.lemmas.List.{take_all}
use Rattle.wtp_core.specs.declared.error.ErrorCode.{ErrorCode}
use Rattle.wtp_wire.specs.declared.frame.kind.FrameKind.TheVariants as kind-is
use Rattle.wtp_wire.specs.declared.rules.StreamRole.{StreamRole}
use Rattle.wt_inspection_model.specs.declared.item.Content.{Content}
use Rattle.wt_inspection_model.specs.declared.item.Content.TheVariants as content-is
use Rattle.wt_inspection_model.specs.declared.item.FrameItem.{FrameItem}
use Rattle.wt_inspection_model.specs.declared.item.Parts.{Parts}
use Rattle.wt_inspection_model.specs.declared.item.Parts.TheVariants as parts-is
use Rattle.wt_inspection_model.specs.declared.item.Signal.{Signal}
use Rattle.wt_inspection_model.specs.declared.item.Signal.TheVariants as signal-is
use Rattle.wt_inspection_model.specs.declared.item.ending.End.{End}
use Rattle.wt_inspection_model.specs.declared.item.names.FrameName.{FrameName}
use Rattle.wt_inspection_model.specs.declared.item.names.FrameName.TheVariants as name-is
use Rattle.wt_inspection.specs.declared.reading.Next.{Next}
use Rattle.wt_inspection.specs.declared.reading.Next.TheVariants as next-is
use Rattle.wt_inspection.specs.declared.reading.Phase.{Phase}
use Rattle.wt_inspection.specs.declared.reading.Phase.TheVariants as phase-is
use Rattle.wt_inspection.specs.DataCapsules.{Stage, Opening}
use Rattle.wt_inspection.specs.Recording.{Then, IsCutAt, IsCutPart, HasNoFrame, HasParts, HasSignal, Moves, MovesFrames, MovesNext, Takes, TakesCut, TakesFrame, TakesWhole, is_data, name_fault, still_first}
use Rattle.wt_inspection.specs.Walks.{IsStage, IsStageAt, Leads, LeadsAt}

pub stage_start : (phase : Phase) → phase ≡ phase-is.Opening → IsStage phase Opening
stage_start phase e = rw e refl

-- nothing changes
pub stays : (before after : Then) (old new : Phase) → new ≡ old → ((stage : Stage) → IsStageAt before old stage → IsStageAt after old stage) → LeadsAt before old new (λ stage next. next ≡ stage) after
stays before after old new same goes = λ stage h. (stage, refl, rw same (goes stage h))

-- ---- frames

pub any_after : (after : Then) (phase : Phase) (stage : Stage) → IsStage phase stage → IsStageAt after phase stage
any_after (Ok next) phase stage h = h
any_after (Err end) phase stage h = tt

opaque_takes : (role : StreamRole) (name : FrameName) (at : ℕ) (payload : List ℕ) (on after : Then) (stage : Stage) → is_data name ≡ false → Takes role name at payload parts-is.Opaque on after stage stage
opaque_takes role (name-is.Read kind-is.Data) at payload on after stage e = absurd (cc e)
opaque_takes role (name-is.Read kind-is.Headers) at payload on after stage e = refl
opaque_takes role (name-is.Read kind-is.Settings) at payload on after stage e = refl
opaque_takes role (name-is.Read kind-is.WebTransport) at payload on after stage e = refl
opaque_takes role (name-is.Read (kind-is.Exercise number)) at payload on after stage e = refl
opaque_takes role name-is.CancelPush at payload on after stage e = refl
opaque_takes role name-is.PushPromise at payload on after stage e = refl
opaque_takes role name-is.Goaway at payload on after stage e = refl
opaque_takes role name-is.MaxPushId at payload on after stage e = refl
opaque_takes role name-is.PriorityUpdate at payload on after stage e = refl
opaque_takes role name-is.Http2 at payload on after stage e = refl
opaque_takes role name-is.Unknown at payload on after stage e = refl

-- a frame that is not read leaves the message as it is
pub opaque_leads : (role : StreamRole) (name : FrameName) (phase : Phase) (at : ℕ) (payload : List ℕ) (on after : Then) → is_data name ≡ false → Leads phase phase (Takes role name at payload parts-is.Opaque on after) after
opaque_leads role name phase at payload on after e = λ stage h. (stage, opaque_takes role name at payload on after stage e, any_after after phase stage h)

-- frames of this name leave the message as it is
abbrev pub IsQuiet : FrameName → Type 0
IsQuiet (name-is.Read kind-is.Data) = ⊥
IsQuiet (name-is.Read kind-is.Headers) = ⊥
IsQuiet other = Unit {0}

quiet_takes : (role : StreamRole) (name : FrameName) (at : ℕ) (payload : List ℕ) (parts : Parts) (on after : Then) (stage : Stage) → IsQuiet name → Takes role name at payload parts on after stage stage
quiet_takes role (name-is.Read kind-is.Data) at payload parts on after stage q = absurd q
quiet_takes role (name-is.Read kind-is.Headers) at payload parts on after stage q = absurd q
quiet_takes role (name-is.Read kind-is.Settings) at payload parts on after stage q = refl
quiet_takes role (name-is.Read kind-is.WebTransport) at payload parts on after stage q = refl
quiet_takes role (name-is.Read (kind-is.Exercise number)) at payload parts on after stage q = refl
quiet_takes role name-is.CancelPush at payload parts on after stage q = refl
quiet_takes role name-is.PushPromise at payload parts on after stage q = refl
quiet_takes role name-is.Goaway at payload parts on after stage q = refl
quiet_takes role name-is.MaxPushId at payload parts on after stage q = refl
quiet_takes role name-is.PriorityUpdate at payload parts on after stage q = refl
quiet_takes role name-is.Http2 at payload parts on after stage q = refl
quiet_takes role name-is.Unknown at payload parts on after stage q = refl

pub quiet_leads : (role : StreamRole) (name is : FrameName) (old new : Phase) (at : ℕ) (payload : List ℕ) (parts : Parts) (on after : Then) → name ≡ is → IsQuiet is → new ≡ old → Leads old new (Takes role name at payload parts on after) after
quiet_leads role name is old new at payload parts on after e q same =
    rw (e, same) (λ stage h. (stage, quiet_takes role is at payload parts on after stage q, any_after after old stage h))

data_name : (name : FrameName) → is_data name ≡ true → name ≡ name-is.Read kind-is.Data
data_name (name-is.Read kind-is.Data) e = refl
data_name (name-is.Read kind-is.Headers) e = absurd (cc e)
data_name (name-is.Read kind-is.Settings) e = absurd (cc e)
data_name (name-is.Read kind-is.WebTransport) e = absurd (cc e)
data_name (name-is.Read (kind-is.Exercise number)) e = absurd (cc e)
data_name name-is.CancelPush e = absurd (cc e)
data_name name-is.PushPromise e = absurd (cc e)
data_name name-is.Goaway e = absurd (cc e)
data_name name-is.MaxPushId e = absurd (cc e)
data_name name-is.PriorityUpdate e = absurd (cc e)
data_name name-is.Http2 e = absurd (cc e)
data_name name-is.Unknown e = absurd (cc e)

no_signal : (signal : Signal) (at : ℕ) (payload : List ℕ) (on after : Then) → HasSignal (name-is.Read kind-is.Data) at payload signal on after → ⊥
no_signal (signal-is.Id id) at payload on after h = h
no_signal (signal-is.Priority id value) at payload on after h = h
no_signal (signal-is.Promise id section) at payload on after h = h

has_cut : (parts : Parts) (at : ℕ) (payload : List ℕ) (on after : Then) → HasParts (name-is.Read kind-is.Data) at payload parts on after → IsCutPart (name-is.Read kind-is.Data) parts on after
has_cut parts-is.Opaque at payload on after h = h.1
has_cut (parts-is.Capsules capsules) at payload on after h = (refl, h)
has_cut (parts-is.Fields section) at payload on after h = absurd h
has_cut (parts-is.Settings lines) at payload on after h = absurd h
has_cut (parts-is.Signal signal) at payload on after h = absurd (no_signal signal at payload on after h)

-- what a cut DATA frame contains
pub cut_part : (name : FrameName) (parts : Parts) (at : ℕ) (payload : List ℕ) (on after : Then) → is_data name ≡ true → HasParts (name-is.Read kind-is.Data) at payload parts on after → IsCutPart name parts on after
cut_part name parts at payload on after e h = rw (data_name name e) (has_cut parts at payload on after h)

pub data_leads : (role : StreamRole) (name : FrameName) (old new : Phase) (at : ℕ) (payload : List ℕ) (parts : Parts) (on after : Then) → is_data name ≡ true → Leads old new (Takes role (name-is.Read kind-is.Data) at payload parts on after) after → Leads old new (Takes role name at payload parts on after) after
data_leads role name old new at payload parts on after e l = rw (data_name name e) l

pub data_has : (name : FrameName) (at : ℕ) (payload : List ℕ) (parts : Parts) (on after : Then) → is_data name ≡ true → HasParts (name-is.Read kind-is.Data) at payload parts on after → HasParts name at payload parts on after
data_has name at payload parts on after e h = rw (data_name name e) h

pub cut_leads : (role : StreamRole) (first : Bool) (at : ℕ) (bytes : List ℕ) (f : FrameItem) (after : Then) (old new : Phase) → Leads old new (TakesCut (name_fault role first f.name) role f.name at (f.announced - f.present) (at + f.head) (take f.present (drop f.head bytes)) f.parts after) after → f.present < f.announced → Leads old new (TakesFrame role first at bytes f after) after
cut_leads role first at bytes f after old new leads less = λ stage h.
    let (next, takes, there) = leads stage h in
    (next, record { whole = λ e. absurd (omega (arith, e, less)); cut = λ l. takes }, there)

pub whole_leads : (role : StreamRole) (first : Bool) (at : ℕ) (bytes : List ℕ) (f : FrameItem) (after : Then) (old new : Phase) → Leads old new (TakesWhole (name_fault role first f.name) role f.name (at + f.head) (take f.present (drop f.head bytes)) f.parts (Ok (next-is.Frames role (still_first first f.name))) after) after → f.present ≡ f.announced → Leads old new (TakesFrame role first at bytes f after) after
whole_leads role first at bytes f after old new leads whole = λ stage h.
    let (next, takes, there) = leads stage h in
    (next, record { whole = λ e. takes; cut = λ l. absurd (omega (arith, whole, l)) }, there)

-- what is present of a payload
pub present_all : (n : ℕ) (bytes back : List ℕ) → back ≡ drop n bytes → take (length back) (drop n bytes) ≡ back
present_all n bytes back e = ap (take (length back)) (sym e) ∙ take_all (length back) back (omega arith)

pub headers_leads : (role : StreamRole) (name : FrameName) (old new : Phase) (at : ℕ) (payload : List ℕ) (parts : Parts) (on after : Then) → name ≡ name-is.Read kind-is.Headers → Leads old new (Takes role (name-is.Read kind-is.Headers) at payload parts on after) after → Leads old new (Takes role name at payload parts on after) after
headers_leads role name old new at payload parts on after e l = rw e l

no_frame_moves : (role : StreamRole) (first : Bool) (at : ℕ) (bytes : List ℕ) (content : Content) (after : Then) (stage : Stage) → HasNoFrame content → MovesFrames role first at bytes content after stage stage
no_frame_moves role first at bytes (content-is.Frame f) after stage h = absurd h
no_frame_moves role first at bytes (content-is.Stream head) after stage h = refl
no_frame_moves role first at bytes (content-is.Session id) after stage h = refl
no_frame_moves role first at bytes content-is.Payload after stage h = refl
no_frame_moves role first at bytes (content-is.Capsule c) after stage h = refl
no_frame_moves role first at bytes (content-is.Datagram d) after stage h = refl
no_frame_moves role first at bytes (content-is.Section x) after stage h = refl
no_frame_moves role first at bytes (content-is.Settings lines) after stage h = refl
no_frame_moves role first at bytes (content-is.Instruction item) after stage h = refl
no_frame_moves role first at bytes content-is.Unread after stage h = refl

-- so does what is no frame
pub no_frame_leads : (phase : Phase) (role : StreamRole) (first : Bool) (at : ℕ) (bytes : List ℕ) (content : Content) (after : Then) → HasNoFrame content → Leads phase phase (MovesFrames role first at bytes content after) after
no_frame_leads phase role first at bytes content after none = λ stage h. (stage, no_frame_moves role first at bytes content after stage none, any_after after phase stage h)

-- a refused frame leaves the message as it is
pub refused_takes : (fault : Option ErrorCode) (code : ErrorCode) (role : StreamRole) (name : FrameName) (at : ℕ) (payload : List ℕ) (parts : Parts) (on after : Then) (stage : Stage) → fault ≡ Some code → TakesWhole fault role name at payload parts on after stage stage
refused_takes fault code role name at payload parts on after stage e = rw e refl

pub refused_cut_takes : (fault : Option ErrorCode) (code : ErrorCode) (role : StreamRole) (name : FrameName) (at missing start : ℕ) (payload : List ℕ) (parts : Parts) (after : Then) (stage : Stage) → fault ≡ Some code → TakesCut fault role name at missing start payload parts after stage stage
refused_cut_takes fault code role name at missing start payload parts after stage e = rw e refl

-- a frame that is cut and not refused
pub cut_takes : (fault : Option ErrorCode) (role : StreamRole) (name : FrameName) (at missing start : ℕ) (payload : List ℕ) (parts : Parts) (end : End) (after : Then) (old new : Phase) → fault ≡ None → IsCutAt at (codes "frame") missing end → Leads old new (Takes role name start payload parts (Err end) after) after → Leads old new (TakesCut fault role name at missing start payload parts after) after
cut_takes fault role name at missing start payload parts end after old new e stops leads = λ stage h.
    let (next, takes, there) = leads stage h in
    (next, rw e (Err end, stops, takes), there)

-- ---- other items than those of frames

abbrev pub IsOther : Next → Type 0
IsOther (next-is.Frames role first) = ⊥
IsOther other = Unit {0}

other_moves : (next : Next) (at : ℕ) (bytes : List ℕ) (content : Content) (after : Then) (stage : Stage) → IsOther next → MovesNext next at bytes content after stage stage
other_moves (next-is.Frames role first) at bytes content after stage h = absurd h
other_moves next-is.Head at bytes content after stage h = refl
other_moves next-is.Payload at bytes content after stage h = refl
other_moves next-is.Encoder at bytes content after stage h = refl
other_moves next-is.Decoder at bytes content after stage h = refl
other_moves next-is.Capsules at bytes content after stage h = refl
other_moves next-is.Datagram at bytes content after stage h = refl
other_moves next-is.Section at bytes content after stage h = refl
other_moves next-is.Settings at bytes content after stage h = refl

-- they leave the message as it is
pub other_leads : (next : Next) (state : Then) (old new : Phase) (at : ℕ) (bytes : List ℕ) (content : Content) (after : Then) → IsOther next → state ≡ Ok next → new ≡ old → LeadsAt state old new (Moves state at bytes content after) after
other_leads next state old new at bytes content after other is same =
    rw (is, same) (λ stage h. (stage, other_moves next at bytes content after stage other, any_after after old stage h))
