use Rattle.wtp_fields.proofs.headers.Headers.with_frame.Goals as goal

pub returns-in-Err-Memory-clause-memory : goal.returns-in-Err-Memory-clause-memory
returns-in-Err-Memory-clause-memory c = λ memory. rw (← c.payload.ensures.payload) (c.in-Err-Memory.ensures.memory (cc c.in-Err-Memory.field-0-is))
