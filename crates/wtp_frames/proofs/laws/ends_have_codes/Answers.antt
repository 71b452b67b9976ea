use Rattle.std.proofs.Common.{refl}
use Rattle.wtp_frames.specs.declared.fault.Fault.TheVariants as fault
use Rattle.wtp_frames.proofs.RowLemmas.{cut_fails}
use Rattle.wtp_frames.proofs.laws.ends_have_codes.Goals as goal

pub returns-clause-critical : goal.returns-clause-critical
returns-clause-critical c = λ side goaway push n. record { fault = fault.ClosedCriticalStream; is = refl; coded = refl; scoped = refl }

pub returns-clause-critical_before_settings : goal.returns-clause-critical_before_settings
returns-clause-critical_before_settings c = λ side n. record { fault = fault.ClosedCriticalStream; is = refl; coded = refl; scoped = refl }

pub returns-clause-cut : goal.returns-clause-cut
returns-clause-cut c = cut_fails

pub returns-clause-no_request : goal.returns-clause-no_request
returns-clause-no_request c = record { fault = fault.RequestIncomplete; is = refl; coded = refl; scoped = refl }

pub returns-clause-no_response : goal.returns-clause-no_response
returns-clause-no_response c = record { fault = fault.Message; is = refl; coded = refl; scoped = refl }

pub returns-clause-complete : goal.returns-clause-complete
returns-clause-complete c = λ side. refl

pub returns-clause-complete_with_trailers : goal.returns-clause-complete_with_trailers
returns-clause-complete_with_trailers c = λ side. refl
