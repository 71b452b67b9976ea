use Rattle.std.proofs.Common.{inl, inr, sym, ◌∙◌}
use Rattle.wt_c.proofs.EncoderLemmas.{takes_limits}
use Rattle.wt_c.proofs.PushingLemmas.{IsAnswer, same_answer}
use Rattle.wt_c.proofs.sending.encoder.wt_encoder_limits.Goals as goal

pub returns-clause-set : goal.returns-clause-set
returns-clause-set c = λ e.
    let answers : IsAnswer c.settle.result = elim c.settle.ensures.answers [ inl a ↦ inl a | inr b ↦ inr (inl b) ] in
    let ok = sym (same_answer c.settle.result answers) ∙ e in
    let taken = rw c.in-Ok-Some.field-0-is at c.in-Ok-Some.ensures in
    takes_limits c.in-Ok.state c.take_limits.new.encoder c.args.limit c.args.blocked c.args.encoder.now c.as_slice-2.result.now c.settle.new.table c.args.out.now c.settle.new.out c.as_slice.result.now c.settle.new.used
    c.in-Ok.ensures taken.0 (c.as_slice.ensures.value ∙ taken.1) taken.2 (rw c.as_slice-2.ensures.value c.in-Ok-stored.ensures) (c.settle.ensures.put ok) (c.settle.ensures.said ok)
