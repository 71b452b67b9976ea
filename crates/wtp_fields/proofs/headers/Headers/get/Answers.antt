use Rattle.std.proofs.Common.{◌∙◌, ap, option_map, string_bytes, Some}
use Rattle.wtp_qpack.specs.Field.{field_value}
use Rattle.wtp_fields.proofs.HeaderLemmas.{value_found}
use Rattle.wtp_fields.proofs.headers.Headers.get.Goals as goal

pub returns-in-Some : goal.returns-in-Some
returns-in-Some c =
    ap Some c.as_str.ensures.value ∙ ap (option_map string_bytes) c.in-Some.ensures.value
    ∙ value_found c.args.name.now c.self.inside.fields.entries ∙ ap (field_value c.args.name.now) c.self.view_is

pub returns-in-None : goal.returns-in-None
returns-in-None c =
    ap (option_map string_bytes) c.in-None.ensures.value
    ∙ value_found c.args.name.now c.self.inside.fields.entries ∙ ap (field_value c.args.name.now) c.self.view_is
