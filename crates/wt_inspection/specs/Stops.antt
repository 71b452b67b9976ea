-- What follows an item, and how the reading ends.
use Rattle.std.specs.Prelude.{◌≡◌, ℕ, ◌-◌, List, length, Result, Ok, Err}
use Rattle.wtp_core.specs.declared.error.ErrorCode.{ErrorCode}
use Rattle.wtp_wire.specs.FrameNeed.{frame_need}
use Rattle.wt_inspection_model.specs.declared.item.ending.FaultCode.{FaultCode}
use Rattle.wt_inspection_model.specs.declared.item.ending.FaultCode.TheVariants.{Library}
use Rattle.wt_inspection_model.specs.declared.item.ending.End.{End}
use Rattle.wt_inspection_model.specs.declared.item.ending.End.TheVariants as end-is
use Rattle.wt_inspection.specs.declared.reading.Next.{Next}

-- What follows an item: the next bytes, or the end of the reading. No byte after that is read.
abbrev pub Then : Type 0
Then = Result Next End

-- the end within an item of this kind at this place, of which at least so many bytes are missing
abbrev pub IsCutAt : ℕ → List ℕ → ℕ → End → Type 0
IsCutAt at item missing (end-is.Cut cut) =
    (cut.at ≡ at) × (cut.item.now ≡ item) × (cut.missing ≡ missing)
IsCutAt at item missing other = ⊥

-- the end at a fault of this code, of an item at this place of which no byte is missing
abbrev pub IsFaultBy : ℕ → FaultCode → End → Type 0
IsFaultBy at c (end-is.Fault fault) = (fault.at ≡ at) × (fault.code ≡ c) × (fault.missing ≡ 0)
IsFaultBy at c other = ⊥

-- the same of a code that the library reports
abbrev pub IsFaultAt : ℕ → ErrorCode → End → Type 0
IsFaultAt at c end = IsFaultBy at (Library c) end

-- the reading ends here, within an item of this kind at this place
abbrev pub IsCut : ℕ → List ℕ → ℕ → Then → Type 0
IsCut at item missing (Ok next) = ⊥
IsCut at item missing (Err end) = IsCutAt at item missing end

-- the reading ends here with a fault
abbrev pub Faults : Then → Type 0
Faults (Err (end-is.Fault fault)) = Unit {0}
Faults other = ⊥

-- the reading ends here with a fault of this code, of the item at this place
abbrev pub StopsBy : ℕ → FaultCode → Then → Type 0
StopsBy at c (Ok next) = ⊥
StopsBy at c (Err end) = IsFaultBy at c end

-- the same of a code that the library reports
abbrev pub StopsWith : ℕ → ErrorCode → Then → Type 0
StopsWith at c after = StopsBy at (Library c) after

-- how many bytes are missing of two numbers that start with these bytes, at least
abbrev pub pair_lacks : List ℕ → ℕ
pair_lacks bytes = frame_need bytes - length bytes
