-- What the connection and the stream keep in one call.
use Rattle.std.proofs.Common.{◌≡◌, ℕ, ◌||◌, Bool, true, false, cond, List, length, Option, Some, None, Result, Ok, Err, refl, sym, subst, ◌∙◌}
use Rattle.wtp_core.specs.declared.error.scope.ErrorScope.{ErrorScope}
use Rattle.wtp_core.specs.declared.error.scope.ErrorScope.TheVariants as scope
use Rattle.wtp_frames.specs.declared.fault.Fault.{Fault as StreamFault}
use Rattle.wtp_frames.specs.declared.frame_type.FrameType.TheVariants as kind
use Rattle.wtp_frames.specs.declared.reader.Reader.{Reader}
use Rattle.wtp_frames.specs.declared.reader.Step.{Step}
use Rattle.wtp_frames.specs.declared.reader.Step.TheVariants as step
use Rattle.wtp_frames.specs.Reading.{slice}
use Rattle.wtp_connection.specs.declared.fault.Fault.{Fault}
use Rattle.wtp_connection.specs.declared.fault.Fault.TheVariants as fault
use Rattle.wtp_connection.specs.declared.settings.PeerSettings.{PeerSettings}
use Rattle.wtp_connection.specs.declared.stream.Stream.{Stream}
use Rattle.wtp_connection.specs.declared.stream.Stream.TheVariants.{Frames, Joining, Waiting, Incomplete, Over}
use Rattle.wtp_connection.specs.declared.instructions.DecoderPlace.{DecoderPlace}
use Rattle.wtp_connection.specs.declared.connection.Connection.{Connection}
use Rattle.wtp_connection.specs.declared.connection.Found.{Found}
use Rattle.wtp_connection.specs.declared.connection.Found.TheVariants as found
use Rattle.wtp_connection.specs.Fault.{scope_of}
use Rattle.wtp_connection.specs.Streams.{closed_in, closed_by, received_settings, end_of}
use Rattle.wtp_connection.specs.Receiving.{settings_of, settings_after, HasGiven, has_frame, Outcome, settings_found, step_found, with_capacity, encoder_found, decoder_found, more_in, finish_by, finish_open, finish_of}
use Rattle.std.specs.List.{list_all}
use Rattle.wtp_connection.specs.Instructions.{sets_zero}

-- ---- errors

scope_keeps : (x : ErrorScope) (c : Connection) → settings_of (closed_in c x) ≡ settings_of c
scope_keeps scope.Stream c = refl
scope_keeps other c = refl

pub closed_keeps : (c : Connection) (f : Fault) → settings_of (closed_by c f) ≡ settings_of c
closed_keeps c f = scope_keeps (scope_of f) c

-- ---- outcomes

-- the connection and the stream of an outcome keep what they had
pub record Keeps (o : Outcome) (c : Connection) (s : Stream) : Type 0 where
  pub settings : settings_of o.1 ≡ settings_after o.0 c
  pub given : HasGiven o.0 s o.2

fault_keeps : (c : Connection) (f : Fault) (s t : Stream) → Keeps (found.Fault f, closed_by c f, t) c s
fault_keeps c f s t = record { settings = closed_keeps c f; given = tt }

capacity_keeps : (b : Bool) (c : Connection) (s : Stream) (n : ℕ) → Keeps (with_capacity c s n b) c s
capacity_keeps true c s n = record { settings = refl; given = tt }
capacity_keeps false c s n = fault_keeps c fault.EncoderStream s Over

place_keeps : (o : Option DecoderPlace) (c : Connection) (s : Stream) (n : ℕ) → Keeps (decoder_found c o n) c s
place_keeps None c s n = fault_keeps c fault.DecoderStream s Over
place_keeps (Some place) c s n = record { settings = refl; given = tt }

configured_keeps : (r : Result PeerSettings Fault) (c : Connection) (s : Stream) (q : Reader) (start end : ℕ) → Keeps (settings_found c (Frames q true) start end r) c s
configured_keeps (Ok v) c s q start end = record { settings = refl; given = refl }
configured_keeps (Err f) c s q start end = fault_keeps c f s Over

step_keeps : (x : Step) (c : Connection) (r q : Reader) (given : Bool) (bytes : List ℕ) → Keeps (step_found c (Frames q (has_frame x || given)) x bytes) c (Frames r given)
step_keeps (step.Frame kind.Settings start end) c r q given bytes = configured_keeps (received_settings c (slice start end bytes)) c (Frames r given) q start end
step_keeps (step.Frame other start end) c r q given bytes = record { settings = refl; given = refl }
step_keeps (step.Data start end) c r q given bytes = record { settings = refl; given = refl }
step_keeps (step.TooLarge size n) c r q given bytes = record { settings = refl; given = refl }
step_keeps (step.More n) c r q given bytes = record { settings = refl; given = tt }
step_keeps (step.Fault f) c r q given bytes = fault_keeps c (fault.Stream f) (Frames r given) (Frames q given)

end_keeps : (r : Result (Unit {0}) StreamFault) (c : Connection) (s : Stream) → Keeps (finish_by c r) c s
end_keeps (Ok u) c s = record { settings = refl; given = tt }
end_keeps (Err f) c s = record { settings = closed_keeps c (fault.Stream f); given = tt }

open_keeps : (t : Stream) (c : Connection) (s : Stream) (left : List ℕ) (n : ℕ) → Keeps (finish_open c t left n) c s
open_keeps (Joining m) c s left n = record { settings = refl; given = tt }
open_keeps (Waiting m) c s left n = record { settings = refl; given = tt }
open_keeps Incomplete c s left n = record { settings = refl; given = tt }
open_keeps Over c s left n = record { settings = refl; given = tt }
open_keeps other c s left n = end_keeps (end_of c other left) c s

finish_keeps : (b : Bool) (c : Connection) (s t : Stream) (left : List ℕ) (n : ℕ) → Keeps (cond {A = Outcome} b (found.More n, c, t) (finish_open c t left n)) c s
finish_keeps true c s t left n = record { settings = refl; given = tt }
finish_keeps false c s t left n = open_keeps t c s left n

-- ---- as calls return them

kept : (x : Found) (d : Connection) (t : Stream) (o : Outcome) (c : Connection) (s : Stream) → (x, d, t) ≡ o → Keeps o c s → Keeps (x, d, t) c s
kept x d t o c s is k = subst (λ (z : Outcome). Keeps z c s) (sym is) k

pub encoder_kept : (x : Found) (c d : Connection) (s t : Stream) (bytes : List ℕ) → (x, d, t) ≡ encoder_found c s bytes → Keeps (x, d, t) c s
encoder_kept x c d s t bytes is = kept x d t (encoder_found c s bytes) c s is (capacity_keeps (list_all sets_zero bytes) c s (length bytes))

pub decoder_kept : (x : Found) (c d : Connection) (s t : Stream) (o : Option DecoderPlace) (n : ℕ) → (x, d, t) ≡ decoder_found c o n → Keeps (x, d, t) c s
decoder_kept x c d s t o n is = kept x d t (decoder_found c o n) c s is (place_keeps o c s n)

pub step_kept : (y : Step) (x : Found) (c d : Connection) (r q : Reader) (given : Bool) (t : Stream) (bytes : List ℕ) → (x, d, t) ≡ step_found c (Frames q (has_frame y || given)) y bytes → Keeps (x, d, t) c (Frames r given)
step_kept y x c d r q given t bytes is = kept x d t (step_found c (Frames q (has_frame y || given)) y bytes) c (Frames r given) is (step_keeps y c r q given bytes)

more_settings : (x : Found) (n : ℕ) (c : Connection) → more_in x ≡ Some n → settings_after x c ≡ settings_of c
more_settings (found.More m) n c e = refl
more_settings (found.Settings v start end) n c e = absurd (cc e)
more_settings other n c e = refl

same_settings : (x : Found) (c d : Connection) → settings_of c ≡ settings_of d → settings_after x c ≡ settings_after x d
same_settings (found.Settings v start end) c d e = refl
same_settings other c d e = e

-- the end of a stream, after a step that needs more bytes
pub finish_kept : (y : Found) (m : ℕ) (x : Found) (c d e : Connection) (s t u : Stream) (left : List ℕ) → more_in y ≡ Some m → settings_of d ≡ settings_after y c → (x, e, u) ≡ finish_of d t left m → Keeps (x, e, u) c s
finish_kept y m x c d e s t u left is old end =
    let k : Keeps (x, e, u) d s = kept x e u (finish_of d t left m) d s end (finish_keeps d.over d s t left m) in
    record {
      settings = k.settings ∙ same_settings x d c (old ∙ more_settings y m c is);
      given = k.given;
    }
