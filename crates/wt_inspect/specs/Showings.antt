-- What is shown item by item.
use Rattle.std.specs.Prelude.{◌≡◌, ℕ, ◌<◌, Bool, true, false, List, [], ◌∷◌, ◌++◌, Option}
use Rattle.std.specs.List.{list_any}
use Rattle.wt_inspection.specs.Items.{HasGiven, IsDone, input_of, left_of}
use Rattle.wt_inspection.specs.Results.{Item, Warning}
use Rattle.wt_inspect.specs.Drawing.{Draws, has_colors}
use Rattle.wt_inspect.specs.Sheets.{HasSoFar, lines_of}
use Rattle.wt_inspect.specs.Statuses.{is_breach}
use Rattle.wt_inspect.specs.declared.showing.Showing.{Showing}

-- these items were given; of the lines of those that are shown and of these warnings about them, this
-- text was written, and the rest are in the sheet
pub record IsShowing (given shown : List Item) (warnings : List Warning) (text : List ℕ)
    (s : Showing) : Type 0 where
  pub items : HasGiven given s.items
  pub bytes : (input_of s.items).bytes ≡ s.bytes.now
  pub lines : HasSoFar s.arguments.now.output
      (lines_of s.arguments.now.output s.arguments.now.has_payload s.bytes.now shown warnings)
      text s.sheet
  pub breach : s.is_breached ≡ list_any is_breach warnings

-- all items that were given are shown
abbrev pub HasShown : List ℕ → Showing → Type 0
HasShown text s =
    (items : List Item) × (warnings : List Warning) × IsShowing items items warnings text s

-- the arguments and the input are the same
pub record HasSameInput (old new : Showing) : Type 0 where
  pub input : input_of new.items ≡ input_of old.items
  pub arguments : new.arguments ≡ old.arguments
  pub bytes : new.bytes ≡ old.bytes

-- the lines of this item, the last one that was given, and of the warnings about it were added, and
-- some lines were written
pub record ShowsItem (item : Item) (before after : Option (List ℕ)) (old new : Showing)
    : Type 0 where
  pub same : HasSameInput old new
  pub left : left_of new.items ≡ left_of old.items
  pub shows : (text : List ℕ) (items : List Item) (warnings : List Warning)
      → IsShowing (items ++ item ∷ []) items warnings text old
      → (more : List ℕ) × Draws (has_colors old.arguments.now) before after more
      × HasShown (text ++ more) new

-- there was an item, or none was left
abbrev pub Advances : Bool → Showing → Showing → Type 0
Advances true old new = left_of new.items < left_of old.items
Advances false old new = IsDone new.items

-- the lines of the next item were added, if there was one, and some lines were written
pub record ShowsNext (is_item : Bool) (before after : Option (List ℕ)) (old new : Showing)
    : Type 0 where
  pub same : HasSameInput old new
  pub advances : Advances is_item old new
  pub shows : (text : List ℕ) → HasShown text old
      → (more : List ℕ) × Draws (has_colors old.arguments.now) before after more
      × HasShown (text ++ more) new
