use Rattle.std.proofs.Common.{◌≡◌, ℕ, List, [], sym, subst}
use Rattle.wtp_dynamic_encoder.specs.declared.proposal.Proposal.{Proposal}
use Rattle.wtp_dynamic_encoder.specs.Encoding.{first_sections, Encodes}
use Rattle.wtp_sending.specs.Encoded.{AreProposals, with_ledger, done, LacksFrame}
use Rattle.wtp_sending.proofs.EncodedLemmas.{stopped_encoder, lacks_encoded}
use Rattle.wtp_sending.proofs.message.encoded.put_encoded.Goals as goal

pub returns-in-Ok-encoded-clause-lacks : goal.returns-in-Ok-encoded-clause-lacks
returns-in-Ok-encoded-clause-lacks g c =
    lacks_encoded c.args.id c.args.list.now c.as_slice.result.now c.args.encoder.now c.encode-encoded.new.self c.take_back.new.self c.args.instructions.now.items c.encode-encoded.new.encoder_stream.items c.encode-encoded.new.section.items
    (g.W.BytesWriter.room c.args.out.now) c.in-Err-put_headers.error
    (subst (λ (z : List Proposal). AreProposals c.args.list.now z) (sym c.as_slice.ensures.value) c.in-Ok.ensures)
    (subst
    (λ (z : ℕ). Encodes z c.as_slice.result.now c.args.encoder.now c.encode-encoded.new.self c.args.instructions.now.items c.encode-encoded.new.encoder_stream.items [] c.encode-encoded.new.section.items done)
    c.into_u64.ensures.value
    (subst
    (λ (z : List ℕ). Encodes c.into_u64.result c.as_slice.result.now c.args.encoder.now c.encode-encoded.new.self c.args.instructions.now.items c.encode-encoded.new.encoder_stream.items z c.encode-encoded.new.section.items done)
    c.new-section.ensures.items c.in-Ok-encoded.ensures))
    (subst (λ (z : ℕ). c.take_back.new.self ≡ with_ledger c.encode-encoded.new.self (first_sections z c.encode-encoded.new.self.ledger)) c.unacknowledged-count.ensures c.take_back.ensures)
    (subst (λ (z : List ℕ). LacksFrame z (g.W.BytesWriter.room c.args.out.now) c.in-Err-put_headers.error) c.as_slice-in-Ok-encoded.ensures.value c.in-Err-put_headers.ensures.lacks)

pub returns-clause-lacks : goal.returns-clause-lacks
returns-clause-lacks g c =
    stopped_encoder c.into_u64.result c.args.list.now c.as_slice.result.now c.args.encoder.now c.encode-encoded.new.self c.args.instructions.now.items c.encode-encoded.new.encoder_stream.items c.new-section.result.items c.encode-encoded.new.section.items c.in-Err.field-0
    (subst (λ (z : List Proposal). AreProposals c.args.list.now z) (sym c.as_slice.ensures.value) c.in-Ok.ensures)
    c.in-Err.ensures
