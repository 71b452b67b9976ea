use Rattle.std.proofs.Common.{refl}
use Rattle.wtp_frames.specs.declared.fault.Fault.TheVariants as fault
use Rattle.wtp_frames.proofs.RowLemmas.{first_reports, control_row, long_row, short_row, no_settings, long_settings, control_type, limit_client, limit_server}
use Rattle.wtp_frames.proofs.laws.invalid_control_streams_are_reported.Goals as goal

pub returns-clause-first : goal.returns-clause-first
returns-clause-first c = λ e id n t u more h a b. first_reports e id n t u more fault.MissingSettings a b (no_settings id n h)

pub returns-clause-long_settings : goal.returns-clause-long_settings
returns-clause-long_settings c = λ e n t u more l a b. first_reports e 0x04 n t u more fault.ExcessiveLoad a b (long_settings n l)

pub returns-clause-data_frame : goal.returns-clause-data_frame
returns-clause-data_frame c = λ e. control_row e 0x00 fault.FrameUnexpected (λ n. refl)

pub returns-clause-headers : goal.returns-clause-headers
returns-clause-headers c = λ e. control_row e 0x01 fault.FrameUnexpected (λ n. refl)

pub returns-clause-settings : goal.returns-clause-settings
returns-clause-settings c = λ e. control_row e 0x04 fault.FrameUnexpected (λ n. refl)

pub returns-clause-push_promise : goal.returns-clause-push_promise
returns-clause-push_promise c = λ e. control_row e 0x05 fault.FrameUnexpected (λ n. refl)

pub returns-clause-priority : goal.returns-clause-priority
returns-clause-priority c = λ e. control_row e 0x02 fault.FrameUnexpected (λ n. refl)

pub returns-clause-ping : goal.returns-clause-ping
returns-clause-ping c = λ e. control_row e 0x06 fault.FrameUnexpected (λ n. refl)

pub returns-clause-window_update : goal.returns-clause-window_update
returns-clause-window_update c = λ e. control_row e 0x08 fault.FrameUnexpected (λ n. refl)

pub returns-clause-continuation : goal.returns-clause-continuation
returns-clause-continuation c = λ e. control_row e 0x09 fault.FrameUnexpected (λ n. refl)

pub returns-clause-webtransport : goal.returns-clause-webtransport
returns-clause-webtransport c = λ e h. control_type e h

pub returns-clause-max_push_id : goal.returns-clause-max_push_id
returns-clause-max_push_id c = λ e h. limit_client e h

pub returns-clause-long_cancel_push : goal.returns-clause-long_cancel_push
returns-clause-long_cancel_push c = λ e. long_row e 0x03 (λ n. refl)

pub returns-clause-long_goaway : goal.returns-clause-long_goaway
returns-clause-long_goaway c = λ e. long_row e 0x07 (λ n. refl)

pub returns-clause-long_max_push_id : goal.returns-clause-long_max_push_id
returns-clause-long_max_push_id c = λ e h. long_row e 0x0d (λ n. limit_server e n h)

pub returns-clause-short_cancel_push : goal.returns-clause-short_cancel_push
returns-clause-short_cancel_push c = λ e. short_row e 0x03 (λ n. refl)

pub returns-clause-short_goaway : goal.returns-clause-short_goaway
returns-clause-short_goaway c = λ e. short_row e 0x07 (λ n. refl)

pub returns-clause-short_max_push_id : goal.returns-clause-short_max_push_id
returns-clause-short_max_push_id c = λ e h. short_row e 0x0d (λ n. limit_server e n h)
