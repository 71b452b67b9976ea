-- The limits of one poll for a frame.
use Rattle.std.specs.Prelude.{ℕ, ◌+◌}
use Rattle.wtp_core.specs.SkipAhead.{max_skipped}

-- the maximum length of a head: two numbers of at most 8 bytes
abbrev pub max_head : ℕ
max_head = 16

-- the maximum length of a payload that is read
abbrev pub max_payload : ℕ
max_payload = 4096

-- the maximum number of calls of the source: one for each byte of a head, and one for each byte
-- skipped or read of a payload
abbrev pub max_calls : ℕ
max_calls = max_head + max_skipped
