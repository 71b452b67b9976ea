-- The encoder stream with which the field sections of a recording are read.
use Rattle.std.specs.Prelude.{◌≡◌, ℕ, List, [], ◌∷◌, take, drop, Option, Some}
use Rattle.wtp_core.specs.Varint.{number_at}
use Rattle.wt_inspection_model.specs.declared.item.Signal.{Signal}
use Rattle.wt_inspection_model.specs.declared.item.Signal.TheVariants as signal-is
use Rattle.wt_inspection_model.specs.declared.item.Content.{Content}
use Rattle.wt_inspection_model.specs.declared.item.Content.TheVariants as content-is
use Rattle.wt_inspection_model.specs.declared.item.Item.{Item}
use Rattle.wt_inspection_model.specs.declared.item.Parts.{Parts}
use Rattle.wt_inspection_model.specs.declared.item.Parts.TheVariants as parts-is
use Rattle.wt_inspection.specs.Insertions.{Sent}
use Rattle.wt_inspection.specs.Sections.{IsSectionWith}

-- the field section after the push ID of a PUSH_PROMISE is read with this encoder stream, if there is one
abbrev pub SignalWith : Option Sent → List ℕ → Signal → Type 0
SignalWith sent payload (signal-is.Promise id section) =
    (rest : List ℕ) × (number_at payload ≡ Some (id, rest)) × IsSectionWith sent rest section
SignalWith sent payload other = Unit {0}

-- the same of a field section in the payload of a frame
abbrev pub PartsWith : Option Sent → List ℕ → Parts → Type 0
PartsWith sent payload (parts-is.Fields section) = IsSectionWith sent payload section
PartsWith sent payload (parts-is.Signal signal) = SignalWith sent payload signal
PartsWith sent payload other = Unit {0}

-- the same of an item that begins at the start of these bytes
abbrev pub ContentWith : Option Sent → List ℕ → Content → Type 0
ContentWith sent bytes (content-is.Frame f) =
    PartsWith sent (take f.present (drop f.head bytes)) f.parts
ContentWith sent bytes (content-is.Section section) = IsSectionWith sent bytes section
ContentWith sent bytes other = Unit {0}

-- no field section is in it
abbrev pub HasNoPromise : Signal → Type 0
HasNoPromise (signal-is.Promise id section) = ⊥
HasNoPromise other = Unit {0}

abbrev pub HasNoFields : Parts → Type 0
HasNoFields (parts-is.Fields section) = ⊥
HasNoFields (parts-is.Signal signal) = HasNoPromise signal
HasNoFields other = Unit {0}

abbrev pub HasNoSection : Content → Type 0
HasNoSection (content-is.Frame f) = HasNoFields f.parts
HasNoSection (content-is.Section section) = ⊥
HasNoSection other = Unit {0}

-- the same of all items of these bytes
abbrev pub ItemsWith : Option Sent → List ℕ → List Item → Type 0
ItemsWith sent bytes [] = Unit {0}
ItemsWith sent bytes (item ∷ items) =
    ContentWith sent (drop item.at bytes) item.content × ItemsWith sent bytes items
