-- What the program shows of some bytes, and its exit status then.
use Rattle.std.specs.Prelude.{◌≡◌, ℕ, ◌+◌, Bool, List, length, sum_by, Option, Some, None}
use Rattle.wtp_dynamic.specs.Stream.{Breaks, Stands}
use Rattle.wtp_dynamic.specs.Table.{Table, empty_table}
use Rattle.wt_inspection.specs.Insertions.{Sent, instructions_in}
use Rattle.wt_inspection.specs.Items.{Input, IsInspection, input_with}
use Rattle.wt_inspection.specs.Results.{End, Item, Warning}
use Rattle.wt_inspection_views.specs.Escaped.{AreLines, line_count}
use Rattle.wt_inspection_views.specs.Html.{IsPage}
use Rattle.wt_inspection_views.specs.JsonLines.{AreJsonLines}
use Rattle.wt_inspection_views.specs.TextLines.{item_lines}
use Rattle.wt_inspect.specs.Statuses.{end_status}
use Rattle.wt_inspect.specs.declared.arguments.Arguments.{Arguments}
use Rattle.wt_inspect.specs.declared.arguments.Output.{Output}
use Rattle.wt_inspect.specs.declared.failure.Failure.{Failure}
use Rattle.wt_inspect.specs.declared.failure.Failure.TheVariants as failure-is
use Rattle.wt_inspect.specs.declared.arguments.Output.TheVariants as output-is

-- the output of these items and warnings, in a format
abbrev pub IsView : Output → Bool → List ℕ → List Item → List Warning → List ℕ → Type 0
IsView output-is.Text payload bytes items warnings text =
    AreLines text
    × (line_count text ≡ sum_by (item_lines payload bytes) items + length warnings + 1)
IsView output-is.Json payload bytes items warnings text =
    AreJsonLines (length items + length warnings + 1) text
IsView output-is.Html payload bytes items warnings text = IsPage text

-- what is shown: the bytes, read as the arguments say, with an encoder stream if there is one
abbrev pub shown_input : Option Sent → Arguments → List ℕ → Input
shown_input sent arguments bytes = input_with arguments.recorded arguments.is_open bytes sent

-- what is shown of an input by these arguments: its items, and how it ends
pub record Shows (input : Input) (arguments : Arguments) (text : List ℕ) (status : ℕ)
    : Type 0 where
  pub items : List Item
  pub warnings : List Warning
  pub end : End
  pub is : IsInspection input items end
  pub view : IsView arguments.output arguments.has_payload input.bytes items warnings text
  pub ends : status ≡ end_status arguments.is_strict end warnings

-- the encoder stream in these bytes, with this limit of the capacity, which has no fault
abbrev pub IsSent : List ℕ → ℕ → Sent → Type 0
IsSent bytes capacity sent =
    (sent.limit ≡ capacity) × (sent.bytes ≡ instructions_in bytes)
    × (held : List ℕ) × Stands (empty_table capacity) (instructions_in bytes) sent.table held

-- the same with the bytes of an encoder stream, if there are some
abbrev pub ShowsWith : Option (List ℕ) → Arguments → List ℕ → List ℕ → ℕ → Type 0
ShowsWith None arguments bytes text status =
    Shows (shown_input None arguments bytes) arguments text status
ShowsWith (Some encoder) arguments bytes text status =
    (sent : Sent) × IsSent encoder arguments.capacity sent
    × Shows (shown_input (Some sent) arguments bytes) arguments text status

-- why not all is shown: allocation failed, or the output cannot be written
abbrev pub StopsShowing : Failure → Type 0
StopsShowing failure-is.Memory = Unit {0}
StopsShowing failure-is.Output = Unit {0}
StopsShowing failure-is.Closed = Unit {0}
StopsShowing other = ⊥

-- the same with the bytes of an encoder stream, if there are some, which may have a fault
abbrev pub FailsWith : Option (List ℕ) → ℕ → Failure → Type 0
FailsWith (Some encoder) capacity (failure-is.Encoder fault) =
    (table : Table) × Breaks (empty_table capacity) (instructions_in encoder) table fault
FailsWith encoder capacity failure = StopsShowing failure
