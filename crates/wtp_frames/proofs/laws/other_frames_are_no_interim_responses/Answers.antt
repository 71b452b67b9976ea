use Rattle.std.proofs.Common.{refl}
use Rattle.wtp_frames.specs.declared.reader.Place.TheVariants.{BeforeHeaders, AfterTrailers, AfterSettings}
use Rattle.wtp_frames.proofs.InterimLemmas.{no_section, after_content, after_unknown, no_request}
use Rattle.wtp_frames.proofs.laws.other_frames_are_no_interim_responses.Goals as goal

pub returns-clause-none : goal.returns-clause-none
returns-clause-none c = λ e k s n. no_section e k BeforeHeaders s n refl

pub returns-clause-content : goal.returns-clause-content
returns-clause-content c = after_content

pub returns-clause-unknown : goal.returns-clause-unknown
returns-clause-unknown c = after_unknown

pub returns-clause-trailers : goal.returns-clause-trailers
returns-clause-trailers c = λ e k s n. no_section e k AfterTrailers s n refl

pub returns-clause-control : goal.returns-clause-control
returns-clause-control c = λ e k goaway push s n. no_section e k (AfterSettings goaway push) s n refl

pub returns-clause-request : goal.returns-clause-request
returns-clause-request c = no_request
