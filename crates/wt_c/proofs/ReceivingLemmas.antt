-- The structs and the arrays after a call of wt_receive.
use Rattle.std.proofs.Common.{◌≡◌, ℕ, List, ◌++◌, length, take, drop, refl, sym, ap, ◌∙◌}
use Rattle.std.proofs.lemmas.List.{drop_at}
use Rattle.wtp_webtransport.specs.Events.{Told}
use Rattle.wtp_webtransport.specs.Places.{IsPlaced}
use Rattle.wtp_webtransport.specs.Receiving.{Outcome}
use Rattle.wtp_webtransport.specs.Words.{held_in, IsSound}
use Rattle.wt_c.specs.declared.connections.WtConnection.{WtConnection}
use Rattle.wt_c.specs.declared.connections.events.WtEvent.{WtEvent}
use Rattle.wt_c.specs.declared.connections.streams.WtStream.{WtStream}
use Rattle.wt_c.specs.declared.fields.WtField.{WtField}
use Rattle.wt_c.specs.Fields.{capped}
use Rattle.wt_c.specs.Connections.{with_connection, stream_with, held_by, HasStream}
use Rattle.wt_c.specs.ConnectionEvents.{fields_of, size_beside, told_within, whole_event}
use Rattle.wt_c.specs.ConnectionCalls.{place_within, stream_within, Puts, event_from, Leaves}
use Rattle.wt_c.proofs.ConnectionLemmas.{kept_after}
use Rattle.wt_c.proofs.LimitLemmas.{sound_within}

pub event_is : (max : ℕ) (o : Outcome) (event : WtEvent) (given : Told) (left : List ℕ) → event ≡ whole_event given o.0 (length left)
    → given ≡ told_within max o.1 → left ≡ held_in (place_within max o.3.capsules) → event ≡ event_from max o
event_is max o event given left e g l = rw (e, g, l) refl

pub leaves_is : (o : Outcome) (connection after : WtConnection) (stream : WtStream) (held held_after bytes left : List ℕ) (fields fields_after : List WtField) (out out_after : List ℕ) (event : WtEvent) (given : Told)
    → event ≡ whole_event given o.0 (length left) → given ≡ told_within connection.max_datagram o.1 → left ≡ held_in (place_within connection.max_datagram o.3.capsules)
    → after ≡ with_connection connection o.2 → stream ≡ stream_with (stream_within connection.max_datagram o.3) → IsSound o.3.capsules
    → held_after ≡ left ++ drop (length left) held → IsPlaced o.1 o.0 bytes
    → Puts given fields out fields_after out_after (length (fields_of given)) (capped (size_beside given))
    → Leaves o connection after stream held held_after bytes fields fields_after out out_after event
leaves_is o connection after stream held held_after bytes left fields fields_after out out_after event given e g l a s sound h placed puts = record {
  connection_is = sym a;
  stream_is = record { words_are = sym s; held_are = rw (s, h, l) (sym (kept_after (stream_within connection.max_datagram o.3) _)) };
  sound = sound_within connection.max_datagram o.3.capsules sound;
  held_is = rw (e, h) (drop_at left (drop (length left) held) (length left) refl);
  placed = placed;
  beside = rw (e, g) (rw g at puts);
}
