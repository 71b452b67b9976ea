use Rattle.url.specs.Parser.{parse_url}
use Rattle.std.proofs.Common.{None}
use Rattle.wtp_fields.proofs.FieldListWriting.{fault_given, list_found}
use Rattle.wtp_fields.proofs.fields.FieldList.request.Goals as goal

pub returns-in_err-request-clause-request : goal.returns-in_err-request-clause-request
returns-in_err-request-clause-request c = fault_given (parse_url None c.args.url.now) c.in_err-request.field-0.0 c.from_residual.result c.from_residual.ensures.1 c.in_err-request.ensures.request

pub returns-clause-request : goal.returns-clause-request
returns-clause-request c =
    rw (c.in_ok-list.ensures, c.as_bytes-authority.ensures.value, c.as_bytes-path.ensures.value)
    (list_found (parse_url None c.args.url.now) c.in_ok-request.request c.authority.result.now c.path.result.now c.in_ok-request.ensures.request c.authority.ensures c.path.ensures)
