use Rattle.std.proofs.Common.{[], length, inl, inr, refl, sym, ◌∙◌}
use Rattle.wt_c.proofs.PushingLemmas.{IsAnswer, is_ok}
use Rattle.wt_c.proofs.EncoderLemmas.{bytes_fit, encoded_roomy, leads_with}
use Rattle.wt_c.proofs.sending.encoded.send_encoded.Goals as goal

pub returns-then-answer-ne-OK-clause-used : goal.returns-then-answer-ne-OK-clause-used
returns-then-answer-ne-OK-clause-used c = λ other large. elim c.write_both-answer.ensures.answers [
  | inl e ↦ absurd (other (rw e refl))
  | inr e ↦ absurd (large (rw e refl))
]

pub put-requires : goal.put-requires
put-requires c =
    let encoded = c.in-Ok-encode.ensures in
    rw c.as_slice-3.ensures.value
    (bytes_fit c.encode.new.encoder c.in-Ok-stored.bytes.items (length c.args.encoder.now) c.in-Ok-stored.ensures
    (encoded_roomy c.in-Some.state.id c.in-Ok.list c.in-Ok-encoder_in.own c.encode.new.encoder [] c.encode.new.instructions.items encoded.0 (length c.args.encoder.now) encoded.3 c.in-Ok-encoder_in.ensures.roomy))

pub returns-clause-sent : goal.returns-clause-sent
returns-clause-sent c = λ _.
    let encoded = c.in-Ok-encode.ensures in
    let answers : IsAnswer c.write_both-answer.result = elim c.write_both-answer.ensures.answers [ inl a ↦ inl a | inr b ↦ inr (inl b) ] in
    let ok = is_ok c.write_both-answer.result answers c.if-answer-ne-OK.false in (
      c.in-Ok.ensures.0,
      c.encode.new.instructions.items,
      encoded.0,
      leads_with c.args.section c.in-Ok.list _ c.in-Some.state c.encode.new.state c.in-Ok-encoder_in.own c.encode.new.encoder c.args.sending.now c.of.result c.args.encoder.now c.put.new.out c.as_slice-3.result.now c.encode.new.instructions.items encoded.0
          c.in-Ok.ensures.1 c.in-Some.ensures c.in-Ok-encoder_in.ensures encoded.2 encoded.3 c.of.ensures (rw c.as_slice-3.ensures.value c.in-Ok-stored.ensures) c.put.ensures,
      rw c.as_slice.ensures.value at (c.write_both-answer.ensures.first ok),
      rw (c.as_slice-2.ensures.value ∙ encoded.1) at (c.write_both-answer.ensures.second ok),
    )
