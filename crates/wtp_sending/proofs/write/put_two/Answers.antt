use Rattle.wtp_sending.proofs.write.put_two.Goals as goal

pub returns-clause-written : goal.returns-clause-written
returns-clause-written g c = rw c.two_bytes-len.ensures.bytes at c.put_all.ensures.written

pub returns-clause-lacks : goal.returns-clause-lacks
returns-clause-lacks g c = rw c.two_bytes-len.ensures.bytes at c.put_all.ensures.lacks
