use Rattle.std.proofs.lemmas.Result.{err_from_is_err_and}
use Rattle.wtp_wire.proofs.ItemLemmas.{puts-no_type, puts-session, puts-no_length, puts-payload}
use Rattle.wtp_wire.proofs.item.write.Goals as goal

pub returns-in_err-put_varint-clause-parts : goal.returns-in_err-put_varint-clause-parts
returns-in_err-put_varint-clause-parts g c =
    let p = err_from_is_err_and c.from_residual.result c.from_residual.ensures.1 in
    rw (p.1, p.2) (puts-no_type _ _ _ _ _ _ _ _ _ c.head-number.ensures.parts c.in_err-put_varint.ensures.puts)

pub returns-in_err-put_varint-in-Payload-clause-parts :
    goal.returns-in_err-put_varint-in-Payload-clause-parts
returns-in_err-put_varint-in-Payload-clause-parts g c =
    let p = err_from_is_err_and c.from_residual-in_err-put_varint-in-Payload.result c.from_residual-in_err-put_varint-in-Payload.ensures.1 in
    rw (p.1, p.2) (puts-no_length _ _ _ c.in-Payload.payload.now _ _ _ _ _ _ _ _ _ (rw c.in-Payload.is at c.head-number.ensures.parts) c.from_u64_unchecked.ensures c.in_ok-put_varint.ensures.puts c.in_err-put_varint-in-Payload.ensures.puts)

pub returns-in-Session-clause-parts : goal.returns-in-Session-clause-parts
returns-in-Session-clause-parts g c =
    puts-session _ _ _ _ _ _ _ _ _ _ _ _ _ c.head-number.ensures.parts c.in-Session.is c.in_ok-put_varint.ensures.puts (rw c.into_varint.ensures.value at c.put_varint-in-Session.ensures.puts)

pub returns-in_ok-put_varint-in-Payload-clause-parts :
    goal.returns-in_ok-put_varint-in-Payload-clause-parts
returns-in_ok-put_varint-in-Payload-clause-parts g c =
    puts-payload _ _ _ c.in-Payload.payload.now _ _ _ _ _ _ _ _ _ _ _ _ (rw c.in-Payload.is at c.head-number.ensures.parts) c.from_u64_unchecked.ensures c.in_ok-put_varint.ensures.puts c.in_ok-put_varint-in-Payload.ensures.puts c.put_bytes.ensures.puts
