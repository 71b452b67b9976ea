use Rattle.std.proofs.Common.{◌≡◌, drop}
use Rattle.std.specs.List.{list_all}
use Rattle.wtp_messages.specs.Request.{is_path_byte}
use Rattle.wtp_messages.proofs.request.are_path_bytes.Given as goal

abbrev pub invariant-loop-byte : goal.invariant-loop-byte
invariant-loop-byte l = list_all is_path_byte (drop l.byte-index l.text) ≡ list_all is_path_byte l.text
