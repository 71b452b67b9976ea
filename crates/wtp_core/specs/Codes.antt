-- Error codes of HTTP/3 by their numbers, as they are registered (RFC 9114, sections 8.1 and 11.2.3).
use Rattle.std.specs.Prelude.{ℕ, List, ◌++◌, Option, Some, None, option_map, false, codes}
use Rattle.std.specs.Fmt.{digits}
use Rattle.vesgrauf_registry.specs.Codes.{Code, code_of}
use Rattle.vesgrauf_registry.specs.Table.{Entry}
use Rattle.vesgrauf_registry.specs.declared.codes.Scope.{Scope}
use Rattle.vesgrauf_registry.specs.declared.codes.Scope.TheVariants as registered
use Rattle.wtp_core.specs.declared.error.scope.ErrorScope.{ErrorScope}
use Rattle.wtp_core.specs.declared.error.scope.ErrorScope.TheVariants.{Stream, Connection, Either}

-- ---- by number

-- the name of a number, if it is registered
abbrev pub code_name : ℕ → Option (List ℕ)
code_name n = option_map (λ entry. entry.name) (code_of n)

-- the description of a number, if it is registered
abbrev pub code_description : ℕ → Option (List ℕ)
code_description n = option_map (λ entry. entry.columns.description) (code_of n)

-- what a registered code ends
abbrev pub scope_in : Scope → ErrorScope
scope_in registered.Stream = Stream
scope_in registered.Connection = Connection
scope_in registered.Either = Either

-- an unknown code is treated as H3_NO_ERROR (RFC 9114, section 8)
abbrev pub scope_by : Option (Entry Code) → ErrorScope
scope_by None = Either
scope_by (Some entry) = scope_in entry.columns.scope

-- what a code ends, of every number
abbrev pub code_scope : ℕ → ErrorScope
code_scope n = scope_by (code_of n)

-- ---- as it is printed

-- the number in hexadecimal
abbrev pub code_digits : ℕ → List ℕ
code_digits n = codes "0x" ++ digits 16 false n

-- what Display prints: the name of a registered code, the number of another
abbrev pub code_text : ℕ → Option (List ℕ) → List ℕ
code_text n None = code_digits n
code_text n (Some name) = name

-- what Debug prints
abbrev pub code_debug_text : ℕ → Option (List ℕ) → List ℕ
code_debug_text n None = code_digits n
code_debug_text n (Some name) = name ++ codes " (" ++ code_digits n ++ codes ")"
