-- The endings of runs of streams that have ended.
use Rattle.std.proofs.Common.{◌≡◌, ℕ, zero, suc, Bool, List, [], ◌∷◌, length, Option, Some, None, subst}
use Rattle.wtransport_proto.specs.declared.error.ErrorCode.{ErrorCode}
use Rattle.wtransport_proto.specs.declared.bytes.error.IoReadError.TheVariants as io
use Rattle.wtransport_proto.specs.declared.stream.error.IoReadError.{IoReadError}
use Rattle.wtransport_proto.specs.declared.stream.error.IoReadError.TheVariants as stream
use Rattle.wtransport_proto.specs.Content.{Content, kind_in}
use Rattle.wtransport_proto.specs.Front.{Front, Framed, Unknown, BadId, TooBig, Short, front}
use Rattle.wtransport_proto.specs.Rule.{Role, rule}
use Rattle.wtransport_proto.specs.Run.{Run, Ending, Open, H3, ImmediateFin, Reset, NotConnected, Ended, judged, run_stop, next_run, run_within, skip_unknown, run}
use Rattle.wtransport_proto.specs.StreamPolling.{IsStreamFault}
use Rattle.wt_listings.specs.Stepped.{ClosesStream}

-- the ending is an error code, or an end after the last frame
abbrev pub IsClosed : Ending → Type 0
IsClosed (Open n) = ⊥
IsClosed (H3 code) = Unit {0}
IsClosed ImmediateFin = Unit {0}
IsClosed Reset = ⊥
IsClosed NotConnected = ⊥

stop_closed : (bytes rest : List ℕ) → IsClosed (run_stop bytes rest Ended)
stop_closed bytes [] = tt
stop_closed bytes (b ∷ rest) = tt

judged_closed : (o : Option ErrorCode) (f : Content) (r : Run) → IsClosed r.ending → IsClosed (judged o f r).ending
judged_closed None f r h = h
judged_closed (Some code) f r h = tt

next_closed : (more : Bool → List ℕ → Run) (role : Role) (first : Bool) (bytes rest : List ℕ) (c : Front) → ((f : Bool) (behind : List ℕ) → IsClosed (more f behind).ending) → IsClosed (next_run more role first bytes rest Ended c).ending
next_closed more role first bytes rest (Framed f behind) h = judged_closed (rule role first (kind_in f)) f (more _ behind) (h _ behind)
next_closed more role first bytes rest (Unknown behind) h = stop_closed bytes rest
next_closed more role first bytes rest (BadId behind) h = tt
next_closed more role first bytes rest (TooBig behind) h = tt
next_closed more role first bytes rest Short h = stop_closed bytes rest

within_closed : (n : ℕ) (role : Role) (first : Bool) (bytes : List ℕ) → IsClosed (run_within n role Ended first bytes).ending
within_closed zero role first bytes = stop_closed bytes bytes
within_closed (suc n) role first bytes = next_closed (λ f rest. run_within n role Ended f rest) role first bytes (skip_unknown bytes) (front (skip_unknown bytes)) (λ f rest. within_closed n role f rest)

pub run_closed : (role : Role) (first : Bool) (bytes : List ℕ) → IsClosed (run role first bytes Ended).ending
unfolding run
run_closed role first bytes = within_closed (length bytes) role first bytes

pub fault_closes : (x : IoReadError) (e known : Ending) → IsStreamFault x e → e ≡ known → IsClosed known → ClosesStream x
fault_closes (stream.H3 code) e known h same closed = tt
fault_closes (stream.IO io.ImmediateFin) e known h same closed = tt
fault_closes (stream.IO io.UnexpectedFin) e known h same closed = h
fault_closes (stream.IO io.Reset) e known h same closed = subst IsClosed h (rw same closed)
fault_closes (stream.IO io.NotConnected) e known h same closed = subst IsClosed h (rw same closed)
