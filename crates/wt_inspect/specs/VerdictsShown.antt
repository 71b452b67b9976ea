-- What the program says of the rules that the ends of a connection broke.
use Rattle.std.specs.Prelude.{ℕ, ◌+◌, ◌==◌, ◌||◌, Bool, if◌then◌else◌, List, length}
use Rattle.std.specs.List.{list_any}
use Rattle.wt_inspect_verdicts.specs.Findings.{is_fault}
use Rattle.wt_inspect_verdicts.specs.declared.verdict.Verdict.{Verdict}
use Rattle.wt_inspect.specs.declared.arguments.Output.{Output}
use Rattle.wt_inspect.specs.declared.arguments.Output.TheVariants as output-is
use Rattle.wt_inspect.specs.declared.connection.verdicts.Verdicts.{Verdicts}

-- how many verdicts there are
abbrev pub count_of : Verdicts → ℕ
count_of verdicts = length verdicts.server.items + length verdicts.client.items

-- the lines of text before them: a heading, and one more if there are none
abbrev pub heading_lines : ℕ → ℕ
heading_lines count = if count == 0 then 2 else 1

-- how many lines are written of so many verdicts
abbrev pub verdict_lines : Output → ℕ → ℕ
verdict_lines output-is.Json count = count
verdict_lines _ count = heading_lines count + count

abbrev pub breaks_rule : Verdict → Bool
breaks_rule verdict = is_fault verdict.finding

-- one of the ends broke a rule
abbrev pub has_fault_in : Verdicts → Bool
has_fault_in verdicts =
    list_any breaks_rule verdicts.server.items || list_any breaks_rule verdicts.client.items
