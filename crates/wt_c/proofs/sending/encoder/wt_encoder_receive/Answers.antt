use Rattle.std.proofs.Common.{length, inl, inr, sym, ◌∙◌}
use Rattle.wt_c.proofs.EncoderLemmas.{piece_roomy, reads_piece}
use Rattle.wt_c.proofs.PushingLemmas.{IsAnswer, same_answer}
use Rattle.wt_c.proofs.sending.encoder.wt_encoder_receive.Goals as goal

pub keep-requires : goal.keep-requires
keep-requires c =
    piece_roomy c.in-Ok.state.progress c.in-Ok.state c.read_decoder_stream.new.self c.args.bytes.now (length c.args.encoder.now) c.in-Ok-read_decoder_stream.ensures c.in-Ok.ensures.roomy

pub returns-in-Ok-read_decoder_stream-clause-read : goal.returns-in-Ok-read_decoder_stream-clause-read
returns-in-Ok-read_decoder_stream-clause-read c = λ e.
    let answers : IsAnswer c.keep.result = elim c.keep.ensures.answers [ inl a ↦ inl a | inr b ↦ inr (inr (inr b)) ] in
    let ok = sym (same_answer c.keep.result answers) ∙ e in
    reads_piece c.in-Ok.state c.read_decoder_stream.new.self c.args.bytes.now c.args.encoder.now c.keep.new.array c.in-Ok.ensures c.in-Ok-read_decoder_stream.ensures (c.keep.ensures.put ok)
