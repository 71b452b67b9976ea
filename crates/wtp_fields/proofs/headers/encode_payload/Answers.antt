use Rattle.wtp_qpack.specs.Field.{fields_of}
use Rattle.wtp_fields.proofs.Payloads.{payload_written}
use Rattle.wtp_fields.proofs.headers.encode_payload.Goals as goal

pub returns : goal.returns
returns c =
    payload_written (fields_of c.args.fields.now) _ _ _ c.in_ok-out.ensures c.in_ok-write_group.ensures c.in_ok-write_group-2.ensures
