-- A control stream up to the end of SETTINGS.
use Rattle.std.proofs.Common.{◌≡◌, ℕ, ◌≤◌, Bool, true, false, List, [], ◌∷◌, ◌++◌, length, Option, None, Result, Ok, Err, sym, ap, ◌∙◌, append-nil}
use Rattle.wtp_core.specs.Varint.{Encodes}
use Rattle.wtp_core.proofs.EncodingLemmas.{number_at-encoding}
use Rattle.wtp_frames.specs.declared.endpoint.Endpoint.{Endpoint}
use Rattle.wtp_frames.specs.declared.frame_type.FrameType.TheVariants as kind
use Rattle.wtp_frames.specs.declared.reader.Place.TheVariants.{AfterSettings}
use Rattle.wtp_frames.specs.Grammar.{Frame, written, IsFrame, IdsEnd}
use Rattle.wtp_frames.specs.Item.{Whole}
use Rattle.wtp_frames.specs.Run.{Run, preceded, run}
use Rattle.wtp_frames.specs.Start.{control_reader, between}
use Rattle.wtp_frames.proofs.GrammarLemmas.{Settles, settings_run}
use Rattle.wtp_connection.specs.declared.fault.Fault.{Fault}
use Rattle.wtp_connection.specs.declared.settings.PeerSettings.{PeerSettings}
use Rattle.wtp_connection.specs.declared.stream.Purpose.TheVariants as «for»
use Rattle.wtp_connection.specs.declared.stream.Stream.TheVariants.{Uni, Frames, Over}
use Rattle.wtp_connection.specs.declared.connection.Connection.{Connection}
use Rattle.wtp_connection.specs.Opening.{uni_by, uni_at}
use Rattle.wtp_connection.specs.Streams.{with_control, configured, received_settings, opens_once, closed_by, Opened, Configured, Broke, StreamRun, rests, followed, all_given, by_settings, of_items, has_frames, of_frames, by_purpose, by_opening, run_stream}
use Rattle.wtp_connection.proofs.StreamLemmas.{intact_run, or_true, frames_run}

-- the stream is a control stream
control_run : (c : Connection) (t bytes : List ℕ) → c.over ≡ false → c.control ≡ false → Encodes 0x00 t → run_stream c Uni (t ++ bytes) ≡ followed (Opened «for».Control ∷ []) (of_frames (with_control c) false (run (control_reader c.endpoint) bytes))
unfolding uni_at
control_run c t bytes over none h =
    intact_run c Uni (t ++ bytes) over
    ∙ ap (λ (o : Option (ℕ × List ℕ)). by_opening c Uni (t ++ bytes) (uni_by c.endpoint o)) (number_at-encoding 0x00 t bytes h)
    ∙ ap (λ (b : Bool). by_purpose c «for».Control bytes (opens_once b (with_control c) (Frames (control_reader c.endpoint) false))) none

-- SETTINGS are its first frame
record Starts (e : Endpoint) (f : Frame) (more : List ℕ) : Type 0 where
  streamed : Bool
  idle : ℕ
  is : run (control_reader e) (written f ++ more) ≡ preceded (Whole kind.Settings f.payload ∷ []) (run (between e 0 (AfterSettings None None) streamed idle) more)

starts : (e : Endpoint) (f : Frame) (more : List ℕ) → IsFrame 0x04 f → length f.payload ≤ 4096 → Starts e f more
starts e f more frame size =
    let x : Settles (control_reader e) (written f ++ []) (Whole kind.Settings f.payload ∷ []) e None None more = settings_run e f IdsEnd more frame size tt in
    record {
      streamed = x.streamed;
      idle = x.idle;
      is = ap (λ (l : List ℕ). run (control_reader e) (l ++ more)) (sym (append-nil (written f))) ∙ x.is;
    }

-- what follows them
abbrev then_items : Run → Connection → StreamRun
then_items y d = of_items d (λ k. rests k (Frames y.reader true) y.left) y.items

settings_start : (c : Connection) (t more : List ℕ) (f : Frame) (r : Result PeerSettings Fault) (s : Starts c.endpoint f more) → c.over ≡ false → c.control ≡ false → Encodes 0x00 t → received_settings c f.payload ≡ r → run_stream c Uni (t ++ (written f ++ more)) ≡ followed (Opened «for».Control ∷ []) (by_settings (with_control c) f.payload (then_items (run (between c.endpoint 0 (AfterSettings None None) s.streamed s.idle) more)) r)
settings_start c t more f r s over none h is =
    control_run c t (written f ++ more) over none h
    ∙ ap (λ (y : Run). followed (Opened «for».Control ∷ []) (of_frames (with_control c) false y)) s.is
    ∙ ap (λ (o : Result PeerSettings Fault). followed (Opened «for».Control ∷ []) (by_settings (with_control c) f.payload (then_items (run (between c.endpoint 0 (AfterSettings None None) s.streamed s.idle) more)) o)) is

-- after SETTINGS the stream had a frame
goes_on : (d : Connection) (e : Endpoint) (streamed : Bool) (idle : ℕ) (more : List ℕ) → d.over ≡ false → then_items (run (between e 0 (AfterSettings None None) streamed idle) more) d ≡ run_stream d (Frames (between e 0 (AfterSettings None None) streamed idle) true) more
goes_on d e streamed idle more over =
    let y : Run = run (between e 0 (AfterSettings None None) streamed idle) more in
    ap (λ (b : Bool). of_items d (λ k. rests k (Frames y.reader b) y.left) y.items) (or_true (has_frames y.items))
    ∙ sym (frames_run d (between e 0 (AfterSettings None None) streamed idle) true more over)

pub settings_found : (c : Connection) (t more : List ℕ) (f : Frame) (v : PeerSettings) → c.over ≡ false → c.control ≡ false → Encodes 0x00 t → IsFrame 0x04 f → length f.payload ≤ 4096 → received_settings c f.payload ≡ Ok v → (streamed : Bool) × (idle : ℕ) × (run_stream c Uni (t ++ (written f ++ more)) ≡ followed (Opened «for».Control ∷ Configured v f.payload ∷ []) (run_stream (configured (with_control c) v) (Frames (between c.endpoint 0 (AfterSettings None None) streamed idle) true) more))
settings_found c t more f v over none h frame size is =
    let s : Starts c.endpoint f more = starts c.endpoint f more frame size in (
      s.streamed,
      s.idle,
      settings_start c t more f (Ok v) s over none h is
          ∙ ap (λ (y : StreamRun). followed (Opened «for».Control ∷ Configured v f.payload ∷ []) y) (goes_on (configured (with_control c) v) c.endpoint s.streamed s.idle more over),
    )

pub settings_broken : (c : Connection) (t more : List ℕ) (f : Frame) (x : Fault) → c.over ≡ false → c.control ≡ false → Encodes 0x00 t → IsFrame 0x04 f → length f.payload ≤ 4096 → received_settings c f.payload ≡ Err x → run_stream c Uni (t ++ (written f ++ more)) ≡ all_given (closed_by (with_control c) x) Over (Opened «for».Control ∷ Broke x ∷ [])
settings_broken c t more f x over none h frame size is = settings_start c t more f (Err x) (starts c.endpoint f more frame size) over none h is
