use Rattle.std.proofs.Common.{◌≡◌, ◌&&◌, not, drop}
use Rattle.std.specs.List.{list_all, list_any}
use Rattle.wtp_fields.specs.FieldWriting.{is_tchar, is_upper}
use Rattle.wtp_fields.proofs.fields.writing.is_lower_token.Given as goal

abbrev pub invariant-loop-byte : goal.invariant-loop-byte
invariant-loop-byte l =
    (list_all is_tchar (drop l.byte-index l.name) && not (list_any is_upper (drop l.byte-index l.name)))
    ≡ (list_all is_tchar l.name && not (list_any is_upper l.name))
