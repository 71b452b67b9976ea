-- Codes of resets and stops.
use Rattle.std.specs.Prelude.{ℕ}
use Rattle.wtp_core.specs.ApplicationCodes.{http3_number}
use Rattle.vesgrauf.specs.declared.code.StreamCode.{StreamCode}
use Rattle.vesgrauf.specs.declared.code.StreamCode.TheVariants as codes

-- the number that QUIC sends (draft-ietf-webtrans-http3-02, section 4.3)
abbrev pub number_of : StreamCode → ℕ
number_of (codes.Http n) = n
number_of (codes.Application n) = http3_number n
