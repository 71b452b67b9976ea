-- The items of a recording, given one after the other.
use Rattle.std.specs.Prelude.{◌≡◌, ℕ, ◌-◌, ◌<◌, ◌≤◌, Bool, List, [], ◌∷◌, ◌++◌, length, drop}
use Rattle.std.specs.Prelude.{Option, Some, None, Ok, option_map}
use Rattle.wt_inspection.specs.DataCapsules.{Stage, Opening}
use Rattle.wt_inspection.specs.Insertions.{Sent}
use Rattle.wt_inspection.specs.Recording.{IsRecording, Reads, start_of}
use Rattle.wt_inspection.specs.Resolved.{ItemsWith}
use Rattle.wt_inspection.specs.Tiles.{Tiles}
use Rattle.wt_inspection.specs.Walks.{IsStageAt}
use Rattle.wt_inspection.specs.declared.items.Inspecting.{Inspecting}
use Rattle.wt_inspection.specs.declared.reading.Recorded.{Recorded}
use Rattle.wt_inspection_model.specs.declared.item.Item.{Item}
use Rattle.wt_inspection_model.specs.declared.item.ending.End.{End}

-- what is read: the kind of recording, whether more bytes may follow, the bytes, and the encoder
-- stream of the end that sent them, if it is known
pub record Input : Type 0 where
  pub kind : Recorded
  pub more : Bool
  pub bytes : List ℕ
  pub sent : Option Sent

abbrev pub input_with : Recorded → Bool → List ℕ → Option Sent → Input
input_with kind more bytes sent =
    record { kind = kind; more = more; bytes = bytes; sent = sent }

-- what is read by an inspection
abbrev pub input_of : Inspecting → Input
input_of i = input_with i.kind i.is_open i.bytes.now (option_map (λ s. s.now) i.sent)

-- these are all items of an input, which ends in this way
pub record IsInspection (input : Input) (items : List Item) (end : End) : Type 0 where
  pub tiles : Tiles 0 items (length input.bytes)
  pub read : IsRecording input.kind input.more input.bytes items end
  pub sections : ItemsWith input.sent input.bytes items

-- how many bytes no item has yet
abbrev pub left_of : Inspecting → ℕ
left_of i = length i.bytes.now - i.at

-- these items were given so far: the first ones of the input, which tile its bytes up to a place
pub record HasGiven (items : List Item) (i : Inspecting) : Type 0 where
  pub within : i.at ≤ length i.bytes.now
  pub tiles : Tiles 0 items i.at
  pub stage : Stage
  pub reads : Reads (Ok (start_of i.kind)) Opening i.bytes.now items i.state stage
      (drop i.at i.bytes.now)
  pub holds : IsStageAt i.state i.reading.phase stage
  pub sections : ItemsWith (option_map (λ s. s.now) i.sent) i.bytes.now items

-- there is no item left
abbrev pub IsDone : Inspecting → Type 0
IsDone i = left_of i ≡ 0

-- the input and the items that were given are the same
pub record Keeps (old new : Inspecting) : Type 0 where
  pub input : input_of new ≡ input_of old
  pub left : left_of new ≡ left_of old
  pub items : (items : List Item) → HasGiven items old → HasGiven items new

-- the next item was given, or there is none left
abbrev pub Gives : Option Item → Inspecting → Inspecting → Type 0
Gives None old new =
    IsDone new × ((items : List Item) → HasGiven items old → HasGiven items new)
Gives (Some item) old new =
    (left_of new < left_of old)
    × ((items : List Item) → HasGiven items old → HasGiven (items ++ item ∷ []) new)
