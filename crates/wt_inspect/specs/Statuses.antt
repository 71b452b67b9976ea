-- The exit statuses of the program.
use Rattle.std.specs.Prelude.{ℕ, ◌&&◌, ◌||◌, Bool, true, false, not, List, if◌then◌else◌}
use Rattle.std.specs.List.{list_any}
use Rattle.wt_inspection.specs.Results.{End, Warning, has_fault, is_hint}
use Rattle.wtp_dynamic.specs.declared.error.EncoderStreamError.{EncoderStreamError}
use Rattle.wtp_dynamic.specs.declared.error.EncoderStreamError.TheVariants as stream-is
use Rattle.wt_inspect_connection.specs.declared.list.ListError.{ListError}
use Rattle.wt_inspect_connection.specs.declared.list.ListError.TheVariants as error-is
use Rattle.wt_inspect.specs.declared.failure.Failure.{Failure}
use Rattle.wt_inspect.specs.declared.failure.Failure.TheVariants as failure-is

-- what a fault of an encoder stream is
abbrev pub encoder_failure : EncoderStreamError → Failure
encoder_failure stream-is.Memory = failure-is.Memory
encoder_failure fault = failure-is.Encoder fault

-- what an error of a list is, once a message has said it
abbrev pub list_failure : ListError → Failure
list_failure error-is.Memory = failure-is.Memory
list_failure error = failure-is.Named

-- of a failure
abbrev pub failure_status : Failure → ℕ
failure_status failure-is.Arguments = 1
failure_status failure-is.NotOfConnection = 1
failure_status failure-is.Memory = 4
failure_status failure-is.Closed = 141
failure_status other = 3

-- no message is written: it was written before, or nobody reads the output
abbrev pub is_silent : Failure → Bool
is_silent failure-is.Named = true
is_silent failure-is.Closed = true
is_silent other = false

-- a rule is broken, and it is not a hint
abbrev pub is_breach : Warning → Bool
is_breach warning = not (is_hint warning.rule)

-- of an inspection that ends in this way with these warnings: 2 for a fault, and for a warning if
-- the flag is set
abbrev pub end_status : Bool → End → List Warning → ℕ
end_status strict end warnings =
    if has_fault end || (strict && list_any is_breach warnings) then 2 else 0
