use Rattle.std.proofs.Common.{inl, inr, sym, ap, ◌∙◌}
use Rattle.wtp_dynamic_decoder.specs.Decoder.{told}
use Rattle.wt_c.specs.Tables.{change_of}
use Rattle.wt_c.proofs.PushingLemmas.{IsAnswer, same_answer}
use Rattle.wt_c.proofs.TableLemmas.{changed_fits, writes_due}
use Rattle.wt_c.proofs.connections.table.change_table.Goals as goal

pub settle-requires : goal.settle-requires
settle-requires c =
    rw c.as_slice-2.ensures.value
    (changed_fits c.args.call c.in-Ok.found.0 c.apply.new.decoder c.in-Ok.found.1 c.apply.new.due c.args.table.now c.in-Ok-stored.bytes.items c.in-Ok.ensures c.in-Ok-apply.ensures.1 c.in-Ok-stored.ensures)

pub returns-clause-written : goal.returns-clause-written
returns-clause-written c = λ e.
    let answers : IsAnswer c.settle.result = elim c.settle.ensures.answers [ inl a ↦ inl a | inr b ↦ inr (inl b) ] in
    let ok = sym (same_answer c.settle.result answers) ∙ e in
    writes_due c.args.call c.in-Ok.found.0 c.apply.new.decoder c.in-Ok.found.1 c.apply.new.due c.args.table.now c.as_slice-2.result.now c.settle.new.table c.args.out.now c.settle.new.out c.as_slice.result.now c.settle.new.used
    c.in-Ok.ensures
    (c.as_slice.ensures.value ∙ c.in-Ok-apply.ensures.0 ∙ ap (λ z. told z (change_of c.args.call c.in-Ok.found.0 c.in-Ok.found.1).0) c.new-said.ensures.items)
    c.in-Ok-apply.ensures.1 c.in-Ok-apply.ensures.2 (rw c.as_slice-2.ensures.value c.in-Ok-stored.ensures) (c.settle.ensures.put ok) (c.settle.ensures.said ok)
