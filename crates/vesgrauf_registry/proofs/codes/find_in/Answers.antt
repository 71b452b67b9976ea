use Rattle.vesgrauf_registry.specs.Codes.{shown_columns}
use Rattle.vesgrauf_registry.proofs.TableLemmas.{found_among}
use Rattle.vesgrauf_registry.proofs.codes.find_in.Goals as goal

pub returns : goal.returns
returns c = found_among shown_columns (λ r. r.now) c.args.number c.args.rows.now c.find.result c.find.ensures
