-- What is done with the value of a capsule, by the row of its type.
use Rattle.std.specs.Prelude.{ℕ, nat_lt, if◌then◌else◌, Bool, Option, Some, None}
use Rattle.vesgrauf_registry.specs.Capsules.{capsule_of}
use Rattle.vesgrauf_registry.specs.Table.{Entry}
use Rattle.vesgrauf_registry.specs.declared.capsules.Capsule.{Capsule}
use Rattle.vesgrauf_registry.specs.declared.capsules.Meaning.{Meaning}
use Rattle.vesgrauf_registry.specs.declared.capsules.Meaning.TheVariants as meaning
use Rattle.wtp_webtransport.specs.declared.capsules.CapsuleType.{CapsuleType}
use Rattle.wtp_webtransport.specs.declared.capsules.CapsuleType.TheVariants.{Datagram, Close, Drain}
use Rattle.wtp_webtransport.specs.declared.capsules.Sort.{Sort}
use Rattle.wtp_webtransport.specs.declared.capsules.Sort.TheVariants.{Read, Skip, Refuse}

-- what a capsule means to a session; any other is skipped, as those of flow control are
abbrev pub type_in : Meaning → Option CapsuleType
type_in meaning.Datagram = Some Datagram
type_in meaning.Close = Some Close
type_in meaning.Drain = Some Drain
type_in other = None

-- a value that is longer than any is not read: its capsule is malformed, or is skipped
abbrev pub sort_with : Option CapsuleType → ℕ → Bool → ℕ → Sort
sort_with None longest bounded len = Skip
sort_with (Some k) longest bounded len =
    if nat_lt longest len then (if bounded then Refuse else Skip) else Read k

-- an unknown capsule is skipped
abbrev pub sort_in : Option (Entry Capsule) → ℕ → Sort
sort_in None len = Skip
sort_in (Some e) len =
    sort_with (type_in e.columns.meaning) e.columns.longest e.columns.bounded len

abbrev pub sort_row : ℕ → ℕ → Sort
sort_row id len = sort_in (capsule_of id) len
