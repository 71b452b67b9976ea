-- How a session was closed (draft-ietf-webtrans-http3-02, section 5).
use Rattle.std.specs.Prelude.{ℕ, List, [], drop, Option, Some, None}
use Rattle.wtp_webtransport.specs.declared.capsules.CapsuleType.{CapsuleType}

-- the reason in a capsule, after the four bytes of the code; without a capsule there is none
abbrev pub reason_in : Option (CapsuleType × List ℕ) → List ℕ
reason_in None = []
reason_in (Some capsule) = drop 4 capsule.1
