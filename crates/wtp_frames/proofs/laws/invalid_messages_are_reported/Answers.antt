use Rattle.std.proofs.Common.{refl}
use Rattle.wtp_frames.specs.declared.fault.Fault.TheVariants as fault
use Rattle.wtp_frames.specs.Grammar.{NoHeaders, HasTrailers, stage, count}
use Rattle.wtp_frames.proofs.RowLemmas.{message_reports, row_at, any_stage, unknown_crowded, empty_crowded, promise_server, promise_client, stream_type}
use Rattle.wtp_frames.proofs.laws.invalid_messages_are_reported.Goals as goal

pub returns-clause-data_before_headers : goal.returns-clause-data_before_headers
returns-clause-data_before_headers c = λ e. row_at e NoHeaders 0x00 fault.FrameUnexpected (λ idle n. refl)

pub returns-clause-data_after_trailers : goal.returns-clause-data_after_trailers
returns-clause-data_after_trailers c = λ e. row_at e HasTrailers 0x00 fault.FrameUnexpected (λ idle n. refl)

pub returns-clause-headers_after_trailers : goal.returns-clause-headers_after_trailers
returns-clause-headers_after_trailers c = λ e. row_at e HasTrailers 0x01 fault.FrameUnexpected (λ idle n. refl)

pub returns-clause-cancel_push : goal.returns-clause-cancel_push
returns-clause-cancel_push c = λ e. any_stage e 0x03 fault.FrameUnexpected (λ idle n. refl) (λ idle n. refl) (λ idle n. refl)

pub returns-clause-settings : goal.returns-clause-settings
returns-clause-settings c = λ e. any_stage e 0x04 fault.FrameUnexpected (λ idle n. refl) (λ idle n. refl) (λ idle n. refl)

pub returns-clause-goaway : goal.returns-clause-goaway
returns-clause-goaway c = λ e. any_stage e 0x07 fault.FrameUnexpected (λ idle n. refl) (λ idle n. refl) (λ idle n. refl)

pub returns-clause-max_push_id : goal.returns-clause-max_push_id
returns-clause-max_push_id c = λ e. any_stage e 0x0d fault.FrameUnexpected (λ idle n. refl) (λ idle n. refl) (λ idle n. refl)

pub returns-clause-priority : goal.returns-clause-priority
returns-clause-priority c = λ e. any_stage e 0x02 fault.FrameUnexpected (λ idle n. refl) (λ idle n. refl) (λ idle n. refl)

pub returns-clause-ping : goal.returns-clause-ping
returns-clause-ping c = λ e. any_stage e 0x06 fault.FrameUnexpected (λ idle n. refl) (λ idle n. refl) (λ idle n. refl)

pub returns-clause-window_update : goal.returns-clause-window_update
returns-clause-window_update c = λ e. any_stage e 0x08 fault.FrameUnexpected (λ idle n. refl) (λ idle n. refl) (λ idle n. refl)

pub returns-clause-continuation : goal.returns-clause-continuation
returns-clause-continuation c = λ e. any_stage e 0x09 fault.FrameUnexpected (λ idle n. refl) (λ idle n. refl) (λ idle n. refl)

pub returns-clause-promise_to_a_server : goal.returns-clause-promise_to_a_server
returns-clause-promise_to_a_server c = λ e s h. promise_server e h s

pub returns-clause-promise_to_a_client : goal.returns-clause-promise_to_a_client
returns-clause-promise_to_a_client c = λ e s h. promise_client e h s

pub returns-clause-webtransport : goal.returns-clause-webtransport
returns-clause-webtransport c = λ e s h. stream_type e h s

pub returns-clause-too_many_unknown : goal.returns-clause-too_many_unknown
returns-clause-too_many_unknown c = λ e j m id n t u more v l k a b. message_reports e j m id n t u more fault.ExcessiveLoad v a b (unknown_crowded e (stage m) (count 0 m) id n k l)

pub returns-clause-too_many_empty : goal.returns-clause-too_many_empty
returns-clause-too_many_empty c = λ e j m t u more v at l a b. message_reports e j m 0x00 0 t u more fault.ExcessiveLoad v a b (empty_crowded e (stage m) (count 0 m) at l)
