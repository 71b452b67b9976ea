-- A CONNECT request that was answered with a 2xx status has DATA alone.
use Rattle.std.proofs.Common.{◌≡◌, ℕ, ◌<◌, Bool, true, List, ◌++◌, map, Ok, refl, ap, ◌∙◌}
use Rattle.wtp_frames.specs.declared.endpoint.Endpoint.{Endpoint}
use Rattle.wtp_frames.specs.declared.endpoint.Side.{Side}
use Rattle.wtp_frames.specs.declared.fault.Fault.{Fault}
use Rattle.wtp_frames.specs.declared.fault.Fault.TheVariants as fault
use Rattle.wtp_frames.specs.declared.reader.Place.TheVariants.{Tunnel}
use Rattle.wtp_frames.specs.declared.rules.Action.TheVariants.{Skip, Refuse}
use Rattle.wtp_frames.specs.FrameType.{type_of}
use Rattle.wtp_frames.specs.Fault.{code_of, scope_of}
use Rattle.wtp_frames.specs.Grammar.{Frame, written, IsFrame, HasRoom, count_data}
use Rattle.wtp_frames.specs.Item.{Byte}
use Rattle.wtp_frames.specs.Rules.{in_tunnel, without_content}
use Rattle.wtp_frames.specs.Run.{Run, preceded, run}
use Rattle.wtp_frames.specs.Start.{between}
use Rattle.wtp_frames.specs.Reading.{by_end}
use Rattle.wtp_frames.specs.Codes.{Fails}
use Rattle.wtp_frames.specs.Tunnel.{InTunnel}
use Rattle.wtp_frames.proofs.WrittenLemmas.{streamed_written, refused_written}
use Rattle.wtp_frames.proofs.GrammarLemmas.{data_action, data_counted}
use Rattle.wtp_frames.proofs.RowLemmas.{enabled, missing}

pub tunnel_data : (e : Endpoint) (j : ℕ) (b : Bool) (n : ℕ) (f : Frame) (more : List ℕ) → IsFrame 0x00 f → HasRoom n f.payload → run (between e j Tunnel b n) (written f ++ more) ≡ preceded (map Byte f.payload) (run (between e j Tunnel true (count_data n f.payload)) more)
tunnel_data e j b n f more is l =
    streamed_written (between e j Tunnel b n) 0x00 f more (record { intact = refl; none = refl }) is (data_action n f.payload l)
    ∙ ap (λ (k : ℕ). preceded (map Byte f.payload) (run (between e j Tunnel true k) more)) (data_counted n f.payload l)

-- a row of the table
pub tunnel_row : (e : Endpoint) (id : ℕ) (f : Fault) → ((idle n : ℕ) → in_tunnel e idle (type_of id) n ≡ Refuse f) → InTunnel e id (code_of f) (scope_of f)
tunnel_row e id f h k idle n streamed t u more a b = record {
  fault = f;
  given = ap (λ (y : Run). y.items) (refused_written (between e k Tunnel streamed idle) id n t u more f (record { intact = refl; none = refl }) a b (h idle n));
  coded = refl;
  scoped = refl;
}

pub tunnel_type : (e : Endpoint) → e.webtransport ≡ true → InTunnel e 0x41 0x0106 (scope_of fault.Frame)
tunnel_type e h = tunnel_row e 0x41 fault.Frame (λ idle n. enabled e (without_content idle Skip) h)

pub tunnel_cut : (side : Side) (n : ℕ) → 0 < n → Fails (by_end side Tunnel n) 0x0106 (scope_of fault.Frame)
tunnel_cut side n l = record { fault = fault.Frame; is = missing n (Ok tt) l; coded = refl; scoped = refl }
