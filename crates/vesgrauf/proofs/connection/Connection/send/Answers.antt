use Rattle.vesgrauf.proofs.StillLemmas.{changes_between, stays_between, if_ok_map, if_err_map}
use Rattle.vesgrauf.proofs.connection.Connection.send.Goals as goal

pub returns-clause-ok : goal.returns-clause-ok
returns-clause-ok c =
    if_ok_map c.send_half-result.result (λ room h. changes_between c.args.id _ c.args.self.now c.begin_content.new.self
    c.send_half-result.new.self c.note_full.new.self c.begin_content.ensures.still h c.note_full.ensures)
    c.send_half-result.ensures.ok

pub returns-clause-kept : goal.returns-clause-kept
returns-clause-kept c =
    if_err_map c.send_half-result.result (λ e h. stays_between e c.args.id c.args.self.now c.begin_content.new.self
    c.send_half-result.new.self c.note_full.new.self c.begin_content.ensures.still h c.note_full.ensures)
    c.send_half-result.ensures.kept
