use Rattle.std.proofs.Common.{rules, tests, [], refl}
use Rattle.wt_inspection.specs.DataCapsules.{Session}
use Rattle.wt_inspection.proofs.message.phase_after.Goals as goal

pub returns-then-opens_session : goal.returns-then-opens_session
returns-then-opens_session c = λ stage same. (Session [] 0, rw same (search (rules, tests)), (c.new.ensures, λ some. absurd (some refl)))
