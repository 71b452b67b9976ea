use Rattle.std.proofs.Common.{◌≤◌, ◌+◌, [], length}
use denote.Text.{Utf8}
use denote.Shadow.{shadow}
use Rattle.wt_inspect_connection.specs.Lists.{Reads}
use Rattle.wt_inspect_connection.proofs.list.read_list.Given as goal

abbrev pub invariant-lines : goal.invariant-lines
invariant-lines l = shadow (Utf8 l.rest) × Reads l.number 0 [] l.text l.entries.items l.rest × (l.number + length l.rest ≤ length l.text)

abbrev pub decreases-lines : goal.decreases-lines
decreases-lines l = length l.rest
