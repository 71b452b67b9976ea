-- The names of capsule types, as they are registered (RFC 9297, sections 3.5 and 5.4).
use Rattle.std.specs.Prelude.{ℕ, ◌%◌, ◌==◌, if◌then◌else◌, List, codes, Option, Some, None}
use Rattle.vesgrauf_registry.specs.Capsules.{capsule_of}
use Rattle.vesgrauf_registry.specs.Table.{Entry}
use Rattle.vesgrauf_registry.specs.declared.capsules.Capsule.{Capsule}

-- that of a type without an entry; those of the form 0x29 * n + 0x17 are reserved
abbrev pub named : Option (Entry Capsule) → ℕ → List ℕ
named None n = if (n % 0x29) == 0x17 then codes "reserved" else codes "unknown"
named (Some e) n = e.name

-- the name of a capsule type
unfoldable pub capsule_name : ℕ → List ℕ
capsule_name n = named (capsule_of n) n
