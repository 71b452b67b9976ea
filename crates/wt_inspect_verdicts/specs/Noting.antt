-- What was found, before and after a call.
use Rattle.std.specs.Prelude.{◌≡◌, Bool, true, false, List, [], ◌∷◌, ◌++◌, Option, Some, None}
use Rattle.vesgrauf.specs.declared.event.Event.{Event}
use Rattle.vesgrauf.specs.declared.event.Failure.{Failure}
use Rattle.wt_inspect_verdicts.specs.Findings.{Says, is_end, place_in}
use Rattle.wt_inspect_verdicts.specs.declared.findings.Findings.{Findings}
use Rattle.wt_inspect_verdicts.specs.declared.verdict.Finding.{Finding}
use Rattle.wt_inspect_verdicts.specs.declared.verdict.Place.{Place}
use Rattle.wt_inspect_verdicts.specs.declared.verdict.Verdict.{Verdict}

-- nothing more was found
abbrev pub FindsNothing : Findings → Findings → Type 0
FindsNothing old new = (new.verdicts.items ≡ old.verdicts.items) × (new.is_over ≡ old.is_over)

-- a verdict was added, and the connection is over if it is an error of the connection
abbrev pub Adds : Verdict → Findings → Findings → Type 0
Adds v old new = (new.verdicts.items ≡ old.verdicts.items ++ v ∷ []) × (new.is_over ≡ is_end v)

abbrev pub AddsUnless : Bool → Verdict → Findings → Findings → Type 0
AddsUnless true v old new = FindsNothing old new
AddsUnless false v old new = Adds v old new

-- it was added, unless the connection was over
abbrev pub Finds : Verdict → Findings → Findings → Type 0
Finds v old new = AddsUnless old.is_over v old new

-- that was found at this place, if something was
abbrev pub FindsSaid : Place → Option Finding → Findings → Findings → Type 0
FindsSaid place (Some f) old new = Finds (record { place = place; finding = f }) old new
FindsSaid place None old new = FindsNothing old new

-- what an event says of the peer was found, if it says something
abbrev pub Notes : Place → Event → Bool → Option Failure → Findings → Findings → Type 0
Notes from event is_open failure old new = (said : Option Finding) × Says event.kind is_open failure said
    × FindsSaid (place_in from event failure) said old new

-- what was found before comes first
abbrev pub Keeps : Findings → Findings → Type 0
Keeps old new = (more : List Verdict) × (new.verdicts.items ≡ old.verdicts.items ++ more)
