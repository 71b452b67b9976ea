-- How many requests were answered and reset, in a struct of C.
use Rattle.wtp_connection.specs.declared.budget.RequestBudget.{RequestBudget}
use Rattle.wt_c.specs.declared.connections.budget.WtRequestBudget.{WtRequestBudget}

abbrev pub budget_with : WtRequestBudget → RequestBudget
budget_with w = record { answers = w.answers; resets = w.resets; excess = w.excess }
