use Rattle.std.proofs.Common.{◌≡◌, drop}
use Rattle.std.specs.List.{list_all}
use Rattle.wtp_fields.specs.FieldWriting.{is_tchar}
use Rattle.wtp_fields.proofs.fields.writing.is_token.Given as goal

abbrev pub invariant-loop-byte : goal.invariant-loop-byte
invariant-loop-byte l = list_all is_tchar (drop l.byte-index l.name) ≡ list_all is_tchar l.name
