-- The C form of error codes.
use Rattle.std.specs.Prelude.{◌≡◌, ◌≤◌, ◌⊎◌, ◌^◌, ℕ, ℤ, None}
use Rattle.wtp_core.specs.Codes.{code_name}
use Rattle.wtp_core.specs.declared.error.scope.ErrorScope.{ErrorScope}
use Rattle.wtp_core.specs.declared.error.scope.ErrorScope.TheVariants.{Stream, Connection, Either}
use Rattle.wt_c.specs.declared.codes.TheConstants.{STREAM, CONNECTION, EITHER}

-- the number is not a registered error code, or is 2^62 or more, which no error code can be
abbrev pub IsNoCode : ℕ → Type 0
IsNoCode number = (code_name number ≡ None) ⊎ (2 ^ 62 ≤ number)

-- the C number of an error code's scope
abbrev pub scope_number : ErrorScope → ℤ
scope_number Stream = STREAM
scope_number Connection = CONNECTION
scope_number Either = EITHER
