use Rattle.wtp_sending.proofs.WriteLemmas.{two_encoded}
use Rattle.wtp_sending.proofs.write.two_bytes.Goals as goal

pub returns-clause-bytes : goal.returns-clause-bytes
returns-clause-bytes c = two_encoded _ _ _ _ _ c.encode-one.new.buffer c.encode-two.new.buffer c.encode-one.result c.encode-two.result c.encode-one.ensures.bytes c.encode-one.ensures.size c.encode-two.ensures.bytes c.encode-two.ensures.size
