-- Control streams, as the other end receives them.
use Rattle.std.proofs.Common.{◌≡◌, ℕ, ◌-◌, ◌^◌, ◌<◌, not, Bool, true, false, cond, ltb, List, [], ◌∷◌, ◌++◌, length, Option, Some, None, Result, Ok, Err, refl, sym, ap, subst, ◌∙◌, lit<}
use Rattle.std.proofs.lemmas.Bool.{ltb-false}
use Rattle.std.proofs.lemmas.List.{append-nil}
use Rattle.wtp_core.specs.Varint.{shortest, number_at}
use Rattle.wtp_core.proofs.EncodingLemmas.{number_at-encoding}
use Rattle.wtp_core.proofs.ShortLemmas.{shortest-encodes}
use Rattle.wtp_wire.specs.Content.{SettingsOf}
use Rattle.wtp_wire.specs.Settings.{settings_wire}
use Rattle.wtp_wire.specs.Wire.{wire}
use Rattle.wtp_frames.specs.declared.endpoint.Endpoint.{Endpoint}
use Rattle.wtp_frames.specs.declared.endpoint.Side.{Side}
use Rattle.wtp_frames.specs.declared.frame_type.FrameType.TheVariants as kind
use Rattle.wtp_frames.specs.declared.reader.Place.TheVariants.{AfterSettings}
use Rattle.wtp_frames.specs.declared.reader.Reader.{Reader}
use Rattle.wtp_frames.specs.Item.{Whole}
use Rattle.wtp_frames.specs.Run.{Run, stays}
use Rattle.wtp_frames.specs.Start.{control_reader, between}
use Rattle.wtp_frames.specs.First.{first}
use Rattle.wtp_connection.specs.declared.connection.Connection.{Connection as Streams}
use Rattle.wtp_connection.specs.declared.fault.Fault.{Fault}
use Rattle.wtp_connection.specs.declared.settings.PeerSettings.{PeerSettings}
use Rattle.wtp_connection.specs.declared.stream.Purpose.TheVariants as «for»
use Rattle.wtp_connection.specs.declared.stream.Stream.TheVariants as frames
use Rattle.wtp_connection.specs.Opening.{uni_by, uni_at}
use Rattle.wtp_connection.specs.Streams.{Opened, Configured, Gave, StreamRun, rests, followed, opens_once, with_control, configured, received_settings, by_settings, of_frames}
use Rattle.wtp_connection.proofs.FirstLemmas.{first_open}
use Rattle.wtp_connection.specs.First.{first_opening, first_purpose, first_seen}
use Rattle.wtp_webtransport.specs.declared.connection.Connection.{Connection}
use Rattle.wtp_webtransport.specs.declared.stream.Stream.{Stream}
use Rattle.wtp_webtransport.specs.Events.{Opened as OpenedFor, Settings, GoAway, More}
use Rattle.wtp_webtransport.specs.Streams.{stream_of, with_streams}
use Rattle.wtp_webtransport.specs.Receiving.{Outcome, Receives, goaway_in, in_stream}
use Rattle.wtp_sending.specs.declared.control.ControlSending.{ControlSending}
use Rattle.wtp_sending.specs.declared.error.SendError.{SendError}
use Rattle.wtp_sending.specs.declared.error.SendError.TheVariants as error
use Rattle.wtp_sending.specs.Control.{after_settings, goaway_bytes, is_named, rises, after_goaway, IsControlAt}
use Rattle.wtp_sending.proofs.SentLemmas.{ok_else}
use Rattle.wtp_pairs.specs.Reads.{IsGoing, IsReadAs, IsControlRead, after_values}
use Rattle.wtp_webtransport.proofs.CallLemmas.{goes_of}
use Rattle.wtp_pairs.proofs.CallLemmas.{Finds, found_some, found_none, frames_seen, before}
use Rattle.wtp_pairs.proofs.ReaderLemmas.{settings_first, settings_part, goaway_first, goaway_part}
use Rattle.wtp_pairs.proofs.SessionLemmas.{unnamed}

-- ---- the type of the stream

control_type : (e : Endpoint) (more : List ℕ) → uni_at e (shortest 0x00 ++ more) ≡ Some («for».Control, more)
unfolding uni_at
control_type e more = ap (uni_by e) (number_at-encoding 0x00 (shortest 0x00) more (shortest-encodes 0x00 (lit< tt)))

abbrev opened_run : Streams → List ℕ → StreamRun
opened_run c more = followed (Opened «for».Control ∷ []) (rests (with_control c) (frames.Frames (control_reader c.endpoint) false) more)

control_seen : (c : Streams) (more : List ℕ) → c.over ≡ false → c.control ≡ false → first_seen c frames.Uni (shortest 0x00 ++ more) ≡ opened_run c more
control_seen c more over none =
    first_open c frames.Uni (shortest 0x00 ++ more) over
    ∙ ap (first_opening c frames.Uni (shortest 0x00 ++ more)) (control_type c.endpoint more)
    ∙ ap (λ (b : Bool). first_purpose c «for».Control more (opens_once b (with_control c) (frames.Frames (control_reader c.endpoint) false))) none

pub type_read : (limit : ℕ) (c : Connection) → IsGoing c → c.streams.control ≡ false → IsReadAs limit c (stream_of frames.Uni) (shortest 0x00) (OpenedFor «for».Control) (with_streams c (with_control c.streams)) (stream_of (frames.Frames (control_reader c.streams.endpoint) false))
type_read limit c going none = record {
  whole = λ more fin o h.
      let g : Finds limit c (stream_of frames.Uni) (shortest 0x00 ++ more) (opened_run c.streams more) o =
      found_some limit c (stream_of frames.Uni) (shortest 0x00 ++ more) fin (opened_run c.streams more) o (goes_of limit c (stream_of frames.Uni) (shortest 0x00 ++ more) fin o h going.events refl refl) (control_seen c.streams more going.streams none) refl in
      g.gives ∙ ap (λ (n : ℕ). (n, OpenedFor «for».Control, with_streams c (with_control c.streams), stream_of (frames.Frames (control_reader c.streams.endpoint) false))) (before (shortest 0x00) more);
  part = λ a b o parts some h. found_none limit c (stream_of frames.Uni) a o (goes_of limit c (stream_of frames.Uni) a false o h going.events refl refl)
      (first_open c.streams frames.Uni a going.streams ∙ (ap (first_opening c.streams frames.Uni a) (unnamed c.streams.endpoint frames.Uni «for».Control a b (shortest 0x00) (ap (uni_at c.streams.endpoint) (sym (append-nil (shortest 0x00))) ∙ control_type c.streams.endpoint []) parts some)));
}

-- ---- a stream of frames

-- nothing is given before all bytes of a frame came
pub frames_wait : (limit : ℕ) (c : Connection) (r : Reader) (given : Bool) (a : List ℕ) (o : Outcome) → IsGoing c → first r a ≡ stays r a → Receives limit c (stream_of (frames.Frames r given)) a false o → o ≡ (0, More, c, stream_of (frames.Frames r given))
frames_wait limit c r given a o going e h =
    found_none limit c (stream_of (frames.Frames r given)) a o (goes_of limit c (stream_of (frames.Frames r given)) a false o h going.events refl refl)
    (frames_seen c.streams (frames.Frames r given) r given a going.streams refl ∙ ap (λ (x : Run). of_frames c.streams given x) e)

abbrev whole_run : Reader → Rattle.wtp_frames.specs.declared.frame_type.FrameType.FrameType → List ℕ → List ℕ → Run
whole_run r k payload more = record { items = Whole k payload ∷ []; reader = r; left = more }

-- ---- SETTINGS

abbrev configured_run : Streams → PeerSettings → List ℕ → Reader → List ℕ → StreamRun
configured_run c v payload r more = followed (Configured v payload ∷ []) (rests (configured c v) (frames.Frames r true) more)

settings_seen : (c : Streams) (v : PeerSettings) (payload more bytes : List ℕ) (r next : Reader) (given : Bool) → c.over ≡ false → received_settings c payload ≡ Ok v → first r bytes ≡ whole_run next kind.Settings payload more → first_seen c (frames.Frames r given) bytes ≡ configured_run c v payload next more
settings_seen c v payload more bytes r next given over valid e =
    frames_seen c (frames.Frames r given) r given bytes over refl
    ∙ ap (λ (x : Run). of_frames c given x) e
    ∙ ap (λ (x : Result PeerSettings Fault). by_settings c payload (λ d. rests d (frames.Frames next true) more) x) valid

seen_payload : (v w : PeerSettings) (a b : List ℕ) → Configured v a ∷ [] ≡ Configured w b ∷ [] → a ≡ b
seen_payload v w a b e = cc

settings_whole : (limit : ℕ) (c : Connection) (v : PeerSettings) (payload sent more : List ℕ) (fin : Bool) (r next : Reader) (given : Bool) (o : Outcome) → IsGoing c → received_settings c.streams payload ≡ Ok v → first r (sent ++ more) ≡ whole_run next kind.Settings payload more → Receives limit c (stream_of (frames.Frames r given)) (sent ++ more) fin o → o ≡ (length sent, Settings v payload, after_values c v, stream_of (frames.Frames next true))
settings_whole limit c v payload sent more fin r next given o going valid e h =
    let g : Finds limit c (stream_of (frames.Frames r given)) (sent ++ more) (configured_run c.streams v payload next more) o =
    found_some limit c (stream_of (frames.Frames r given)) (sent ++ more) fin (configured_run c.streams v payload next more) o (goes_of limit c (stream_of (frames.Frames r given)) (sent ++ more) fin o h going.events refl refl) (settings_seen c.streams v payload more (sent ++ more) r next given going.streams valid e) refl in
    g.gives
    ∙ ap (λ (l : List ℕ). (length (sent ++ more) - length more, Settings v l, after_values c v, stream_of (frames.Frames next true))) (seen_payload v v _ payload g.seen)
    ∙ ap (λ (n : ℕ). (n, Settings v payload, after_values c v, stream_of (frames.Frames next true))) (before sent more)

-- ---- GOAWAY

abbrev gone_run : Streams → List ℕ → Reader → List ℕ → StreamRun
gone_run c payload r more = followed (Gave (Whole kind.GoAway payload) ∷ []) (rests c (frames.Frames r true) more)

goaway_seen : (c : Streams) (payload more bytes : List ℕ) (r next : Reader) (given : Bool) → c.over ≡ false → first r bytes ≡ whole_run next kind.GoAway payload more → first_seen c (frames.Frames r given) bytes ≡ gone_run c payload next more
goaway_seen c payload more bytes r next given over e = frames_seen c (frames.Frames r given) r given bytes over refl ∙ ap (λ (x : Run). of_frames c given x) e

gone_payload : (a b : List ℕ) → Gave (Whole kind.GoAway a) ∷ [] ≡ Gave (Whole kind.GoAway b) ∷ [] → a ≡ b
gone_payload a b e = cc

number_of : (id : ℕ) → id < 2 ^ 62 → number_at (shortest id) ≡ Some (id, [])
number_of id fits = ap number_at (sym (append-nil (shortest id))) ∙ number_at-encoding id (shortest id) [] (shortest-encodes id fits)

goaway_whole : (limit : ℕ) (c : Connection) (id : ℕ) (sent more : List ℕ) (fin : Bool) (r next : Reader) (given : Bool) (o : Outcome) → IsGoing c → id < 2 ^ 62 → first r (sent ++ more) ≡ whole_run next kind.GoAway (shortest id) more → Receives limit c (stream_of (frames.Frames r given)) (sent ++ more) fin o → o ≡ (length sent, GoAway id, record c { goaway = Some id }, stream_of (frames.Frames next true))
goaway_whole limit c id sent more fin r next given o going fits e h =
    let g : Finds limit c (stream_of (frames.Frames r given)) (sent ++ more) (gone_run c.streams (shortest id) next more) o =
    found_some limit c (stream_of (frames.Frames r given)) (sent ++ more) fin (gone_run c.streams (shortest id) next more) o (goes_of limit c (stream_of (frames.Frames r given)) (sent ++ more) fin o h going.events refl refl) (goaway_seen c.streams (shortest id) more (sent ++ more) r next given going.streams e) refl in
    g.gives
    ∙ ap (λ (l : List ℕ). in_stream (stream_of (frames.Frames next true)) (goaway_in (number_at l) c (length (sent ++ more) - length more) l)) (gone_payload _ (shortest id) g.seen)
    ∙ ap (λ (x : Option (ℕ × List ℕ)). in_stream (stream_of (frames.Frames next true)) (goaway_in x c (length (sent ++ more) - length more) (shortest id))) (number_of id fits)
    ∙ ap (λ (n : ℕ). (n, GoAway id, record c { goaway = Some id }, stream_of (frames.Frames next true))) (before sent more)

-- ---- as they are sent

not_false : (b : Bool) → not b ≡ false → b ≡ true
not_false true h = refl
not_false false h = absurd cc

abbrev ok_control : ControlSending → Result ControlSending SendError
ok_control c = Ok c

control_is : (x y : ControlSending) → ok_control x ≡ Ok y → x ≡ y
control_is x y h = cc

-- the stream goes on with the sender
read_next : (e : Endpoint) (goaway : Option ℕ) (new : ControlSending) → new.settled ≡ true → new.goaway ≡ goaway → IsControlRead e new.settled new.goaway (stream_of (frames.Frames (between e 0 (AfterSettings goaway None) false 0) true))
read_next e goaway new s g = record {
  reader = between e 0 (AfterSettings goaway None) false 0;
  given = true;
  is = refl;
  at = subst (λ (b : Bool). IsControlAt e b new.goaway (between e 0 (AfterSettings goaway None) false 0)) (sym s) (
      subst (λ (o : Option ℕ). IsControlAt e true o (between e 0 (AfterSettings goaway None) false 0)) (sym g) (false, 0, refl));
}

pub settings_read : (limit : ℕ) (e : Endpoint) (old new : ControlSending) (settings : List (ℕ × ℕ)) (v : PeerSettings) (c : Connection) (s : Stream) → IsGoing c → IsControlRead e old.settled old.goaway s → after_settings old settings ≡ Ok new → received_settings c.streams (settings_wire settings) ≡ Ok v
    → (t : Stream) × IsReadAs limit c s (wire (SettingsOf (settings_wire settings))) (Settings v (settings_wire settings)) (after_values c v) t × IsControlRead e new.settled new.goaway t
settings_read limit e old new settings v c s going at h valid =
    let a = ok_else old.settled (cond (ltb 4096 (length (settings_wire settings))) (Err error.TooLarge) (ok_control (record old { settled = true }))) error.Unexpected new h in
    let b = ok_else (ltb 4096 (length (settings_wire settings))) (ok_control (record old { settled = true })) error.TooLarge new (a.1) in
    let is = control_is (record old { settled = true }) new (b.1) in
    let few = ltb-false 4096 (length (settings_wire settings)) (b.0) in
    let start : IsControlAt e false old.goaway at.reader = subst (λ (x : Bool). IsControlAt e x old.goaway at.reader) (a.0) at.at in
    let stream : s ≡ stream_of (frames.Frames (control_reader e) at.given) = at.is ∙ ap (λ (r : Reader). stream_of (frames.Frames r at.given)) (start.0) in (
      stream_of (frames.Frames (between e 0 (AfterSettings None None) false 0) true),
      subst (λ (x : Stream). IsReadAs limit c x (wire (SettingsOf (settings_wire settings))) (Settings v (settings_wire settings)) (after_values c v) (stream_of (frames.Frames (between e 0 (AfterSettings None None) false 0) true))) (sym stream) (record {
        whole = λ more fin o k. settings_whole limit c v (settings_wire settings) (wire (SettingsOf (settings_wire settings))) more fin (control_reader e) (between e 0 (AfterSettings None None) false 0) at.given o going valid (settings_first e (settings_wire settings) more few) k;
        part = λ a b o parts some k. frames_wait limit c (control_reader e) at.given a o going (settings_part e (settings_wire settings) a b few parts some) k;
      }),
      read_next e None new (ap (λ (x : ControlSending). x.settled) (sym is)) (ap (λ (x : ControlSending). x.goaway) (sym is) ∙ start.1),
    )

pub goaway_read : (limit : ℕ) (e : Endpoint) (old new : ControlSending) (id : ℕ) (c : Connection) (s : Stream) → IsGoing c → e.side ≡ old.to → id < 2 ^ 62 → IsControlRead e old.settled old.goaway s → after_goaway old id ≡ Ok new
    → (t : Stream) × IsReadAs limit c s (goaway_bytes id) (GoAway id) (record c { goaway = Some id }) t × IsControlRead e new.settled new.goaway t
goaway_read limit e old new id c s going side fits at h =
    let a = ok_else (not old.settled) (cond (not (is_named old.to id)) (Err error.InvalidId) (cond (rises old.goaway id) (Err error.IdRises) (ok_control (record old { goaway = Some id })))) error.Unexpected new h in
    let b = ok_else (not (is_named old.to id)) (cond (rises old.goaway id) (Err error.IdRises) (ok_control (record old { goaway = Some id }))) error.InvalidId new (a.1) in
    let d = ok_else (rises old.goaway id) (ok_control (record old { goaway = Some id })) error.IdRises new (b.1) in
    let is = control_is (record old { goaway = Some id }) new (d.1) in
    let settled = not_false old.settled (a.0) in
    let named : is_named e.side id ≡ true = ap (λ (s : Side). is_named s id) side ∙ not_false (is_named old.to id) (b.0) in
    let start : IsControlAt e true old.goaway at.reader = subst (λ (x : Bool). IsControlAt e x old.goaway at.reader) settled at.at in
    let stream : s ≡ stream_of (frames.Frames (between e 0 (AfterSettings old.goaway None) (start.0) (start.1)) at.given) = at.is ∙ ap (λ (r : Reader). stream_of (frames.Frames r at.given)) (start.2) in (
      stream_of (frames.Frames (between e 0 (AfterSettings (Some id) None) false 0) true),
      subst (λ (x : Stream). IsReadAs limit c x (goaway_bytes id) (GoAway id) (record c { goaway = Some id }) (stream_of (frames.Frames (between e 0 (AfterSettings (Some id) None) false 0) true))) (sym stream) (record {
        whole = λ more fin o k. goaway_whole limit c id (goaway_bytes id) more fin (between e 0 (AfterSettings old.goaway None) (start.0) (start.1)) (between e 0 (AfterSettings (Some id) None) false 0) at.given o going fits (goaway_first e old.goaway (start.0) (start.1) id more fits named (d.0)) k;
        part = λ a b o parts some k. frames_wait limit c (between e 0 (AfterSettings old.goaway None) (start.0) (start.1)) at.given a o going (goaway_part e old.goaway (start.0) (start.1) id a b parts some) k;
      }),
      read_next e (Some id) new (ap (λ (x : ControlSending). x.settled) (sym is) ∙ settled) (ap (λ (x : ControlSending). x.goaway) (sym is)),
    )

pub control_start : (e : Endpoint) → IsControlRead e false None (stream_of (frames.Frames (control_reader e) false))
control_start e = record { reader = control_reader e; given = false; is = refl; at = (refl, refl) }
