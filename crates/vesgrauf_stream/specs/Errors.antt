-- Why nothing is sent.
use Rattle.std.specs.Prelude.{Result, Ok, Err}
use Rattle.wtp_sending.specs.declared.error.SendError.{SendError}
use Rattle.wtp_sending.specs.declared.error.SendError.TheVariants.{Memory}
use Rattle.vesgrauf_queue.specs.declared.error.NotQueued.{NotQueued}
use Rattle.vesgrauf_queue.specs.declared.error.NotQueued.TheVariants as queue
use Rattle.vesgrauf_stream.specs.declared.error.NotSent.{NotSent}
use Rattle.vesgrauf_stream.specs.declared.error.NotSent.TheVariants.{Over, TooLong, Send}

-- the error of a queue, as one of a half
abbrev pub of_queue : NotQueued → NotSent
of_queue queue.Over = Over
of_queue queue.TooLong = TooLong
of_queue queue.Memory = Send Memory

-- f of what there is, or why there is nothing
abbrev pub and_then : {A B E : Type 0} → (A → Result B E) → Result A E → Result B E
and_then f (Ok x) = f x
and_then f (Err e) = Err e

-- what `wtp_sending` gives, with its error as one of a half
abbrev pub sending : {A : Type 0} → Result A SendError → Result A NotSent
sending (Ok x) = Ok x
sending (Err e) = Err (Send e)
