-- JSON objects while members are appended, and lines of JSON while objects are.
use Rattle.std.specs.Prelude.{◌≡◌, ℕ, ◌+◌, Bool, IsTrue, List}
use Rattle.wt_inspection_views.specs.JsonLines.{AreJsonLines}
use Rattle.wt_inspection_views.specs.JsonLines.{Place, in_object, after_name, in_array, place_of}
use Rattle.wt_inspection_views.specs.declared.json_lines.object.Lines.{Lines}
use Rattle.wt_inspection_views.specs.declared.json_lines.object.Object.{Object}

-- the object is in this state, unless an allocation failed
unfoldable pub IsAt : Place → Object → Type 0
IsAt place object = IsTrue object.is_whole → place_of object.out.tokens ≡ place

-- complete members were appended
abbrev pub AddsMembers : Object → Object → Type 0
AddsMembers old new = (outer : List Bool) → IsAt (in_object outer) old → IsAt (in_object outer) new

-- the name of a member was appended
abbrev pub AddsName : Object → Object → Type 0
AddsName old new = (outer : List Bool) → IsAt (in_object outer) old → IsAt (after_name outer) new

-- elements of an array were appended
abbrev pub AddsElements : Object → Object → Type 0
AddsElements old new = (outer : List Bool) → IsAt (in_array outer) old → IsAt (in_array outer) new

-- the value of a member was appended
abbrev pub AddsValue : Object → Object → Type 0
AddsValue old new = (outer : List Bool) → IsAt (after_name outer) old → IsAt (in_object outer) new

-- these are n lines, unless an allocation failed
unfoldable pub HasLines : ℕ → Lines → Type 0
HasLines n lines = IsTrue lines.is_whole → AreJsonLines n lines.text.items

-- n lines were appended
abbrev pub AddsLines : ℕ → Lines → Lines → Type 0
AddsLines n old new = (k : ℕ) → HasLines k old → HasLines (k + n) new
