use Rattle.std.proofs.Common.{◌≡◌, length}
use Rattle.wtp_messages.specs.Authority.{is_literal_rest}
use Rattle.wtp_messages.proofs.authority.is_literal_rest.Given as goal

abbrev pub invariant-loop-byte : goal.invariant-loop-byte
invariant-loop-byte l = is_literal_rest l.later l.must l.rest ≡ is_literal_rest l.later l.must l.text

abbrev pub decreases-loop-byte : goal.decreases-loop-byte
decreases-loop-byte l = length l.rest
