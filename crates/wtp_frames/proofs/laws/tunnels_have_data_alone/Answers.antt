use Rattle.std.proofs.Common.{refl}
use Rattle.wtp_frames.specs.declared.fault.Fault.TheVariants as fault
use Rattle.wtp_frames.specs.declared.reader.Place.TheVariants.{Tunnel}
use Rattle.wtp_frames.proofs.GrammarLemmas.{unknown_skipped}
use Rattle.wtp_frames.proofs.TunnelLemmas.{tunnel_data, tunnel_row, tunnel_type, tunnel_cut}
use Rattle.wtp_frames.proofs.laws.tunnels_have_data_alone.Goals as goal

pub returns-clause-data_frame : goal.returns-clause-data_frame
returns-clause-data_frame c = λ e k n s f more is l. tunnel_data e k s n f more is l

pub returns-clause-unknown : goal.returns-clause-unknown
returns-clause-unknown c = λ e k n id s f more u is l. unknown_skipped e k Tunnel s n id f more refl u is l refl refl

pub returns-clause-headers : goal.returns-clause-headers
returns-clause-headers c = λ e. tunnel_row e 0x01 fault.FrameUnexpected (λ idle n. refl)

pub returns-clause-cancel_push : goal.returns-clause-cancel_push
returns-clause-cancel_push c = λ e. tunnel_row e 0x03 fault.FrameUnexpected (λ idle n. refl)

pub returns-clause-settings : goal.returns-clause-settings
returns-clause-settings c = λ e. tunnel_row e 0x04 fault.FrameUnexpected (λ idle n. refl)

pub returns-clause-push_promise : goal.returns-clause-push_promise
returns-clause-push_promise c = λ e. tunnel_row e 0x05 fault.FrameUnexpected (λ idle n. refl)

pub returns-clause-goaway : goal.returns-clause-goaway
returns-clause-goaway c = λ e. tunnel_row e 0x07 fault.FrameUnexpected (λ idle n. refl)

pub returns-clause-max_push_id : goal.returns-clause-max_push_id
returns-clause-max_push_id c = λ e. tunnel_row e 0x0d fault.FrameUnexpected (λ idle n. refl)

pub returns-clause-priority : goal.returns-clause-priority
returns-clause-priority c = λ e. tunnel_row e 0x02 fault.FrameUnexpected (λ idle n. refl)

pub returns-clause-ping : goal.returns-clause-ping
returns-clause-ping c = λ e. tunnel_row e 0x06 fault.FrameUnexpected (λ idle n. refl)

pub returns-clause-window_update : goal.returns-clause-window_update
returns-clause-window_update c = λ e. tunnel_row e 0x08 fault.FrameUnexpected (λ idle n. refl)

pub returns-clause-continuation : goal.returns-clause-continuation
returns-clause-continuation c = λ e. tunnel_row e 0x09 fault.FrameUnexpected (λ idle n. refl)

pub returns-clause-webtransport : goal.returns-clause-webtransport
returns-clause-webtransport c = tunnel_type

pub returns-clause-end : goal.returns-clause-end
returns-clause-end c = tunnel_cut
