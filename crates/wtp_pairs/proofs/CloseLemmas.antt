-- The capsules of a session, as the other end receives them.
use Rattle.std.proofs.Common.{◌≡◌, ℕ, ◌+◌, ◌^◌, ◌<◌, ◌≤◌, Bool, true, false, cond, List, [], ◌∷◌, ◌++◌, map, length, Option, Some, refl, sym, ap, subst, ◌∙◌, arith, lit<, length-append, append_assoc}
use Rattle.std.specs.Prelude.{IsUtf8}
use Rattle.std.specs.Int.{w32, to_be_bytes}
use Rattle.std.proofs.lemmas.Bool.{le-ltb}
use Rattle.std.proofs.lemmas.List.{append-nil}
use Rattle.wtp_core.specs.Varint.{shortest}
use Rattle.wtp_core.proofs.EncodingLemmas.{encoding_not_empty}
use Rattle.wtp_core.proofs.LeastLemmas.{at_most_8}
use Rattle.wtp_core.proofs.ShortLemmas.{shortest-encodes}
use Rattle.wtp_wire.specs.CloseSession.{close_value, close_wire}
use Rattle.wtp_wire.specs.Content.{DataOf}
use Rattle.wtp_wire.specs.Front.{EncodesPair}
use Rattle.wtp_wire.specs.Wire.{wire}
use Rattle.wtp_wire.proofs.CloseWireLemmas.{value-written}
use Rattle.wtp_frames.specs.declared.endpoint.Endpoint.{Endpoint}
use Rattle.wtp_frames.specs.declared.reader.Place.TheVariants.{Tunnel}
use Rattle.wtp_frames.specs.Grammar.{written}
use Rattle.wtp_frames.specs.Item.{Byte}
use Rattle.wtp_frames.specs.Run.{Run, run, preceded}
use Rattle.wtp_frames.proofs.TunnelLemmas.{tunnel_data}
use Rattle.wtp_connection.specs.declared.connection.Connection.{Connection as Streams}
use Rattle.wtp_connection.specs.declared.stream.Stream.{Stream as Frames}
use Rattle.wtp_connection.specs.declared.stream.Stream.TheVariants as frames
use Rattle.wtp_connection.specs.Streams.{Seen, StreamRun, followed, rests, bytes_seen, of_items, has_frames, of_frames, run_stream, ended, ending}
use Rattle.wtp_connection.proofs.StreamLemmas.{intact_run}
use Rattle.wtp_sending.specs.Session.{drain_wire, close_data}
use Rattle.wtp_sending.specs.Sent.{reads_data}
use Rattle.wtp_sending.specs.Writing.{two_numbers}
use Rattle.wtp_sending.proofs.ReadLemmas.{frame_of, frame_is}
use Rattle.wtp_webtransport.specs.declared.capsules.CapsuleType.TheVariants as capsule
use Rattle.wtp_webtransport.specs.declared.connection.Connection.{Connection}
use Rattle.wtp_webtransport.specs.declared.stream.Stream.{Stream}
use Rattle.wtp_webtransport.specs.Capsules.{Place, between}
use Rattle.wtp_webtransport.specs.Cuts.{Run as Capsules, run as run_capsules, followed as capsule_then}
use Rattle.wtp_webtransport.specs.Events.{SessionClosed, Draining}
use Rattle.wtp_webtransport.specs.Said.{content_in, ending_in, place_told, capsules_told, close_told, said_from, run_to, said}
use Rattle.wtp_webtransport.proofs.CutLemmas.{read_as_written}
use Rattle.wtp_webtransport.proofs.SaidLemmas.{said_piece}
use Rattle.wtp_pairs.specs.Messages.{IsSession, after_frame}

-- ---- a DATA frame on the own stream of a session

data_wire : (payload : List ℕ) → wire (DataOf payload) ≡ written (frame_of 0 payload)
data_wire payload = ap (λ (l : List ℕ). shortest 0 ++ (shortest (length payload) ++ l)) (append-nil payload)

frame_run : (e : Endpoint) (k : ℕ) (b : Bool) (payload more : List ℕ) → 0 < length payload → length payload < 2 ^ 62 → run (reads_data e k Tunnel b 0) (wire (DataOf payload) ++ more) ≡ preceded (map Byte payload) (run (reads_data e k Tunnel true 0) more)
frame_run e k b [] more some l = absurd (omega arith)
frame_run e k b (first ∷ others) more some l =
    ap (λ (x : List ℕ). run (reads_data e k Tunnel b 0) (x ++ more)) (data_wire (first ∷ others))
    ∙ tunnel_data e k b 0 (frame_of 0 (first ∷ others)) more (frame_is 0 (first ∷ others) (lit< tt) l) tt

-- what the connection finds in it, and then in what follows
frames_then : (c : Streams) (given : Bool) (payload : List ℕ) (x : Run) → of_frames c given (preceded (map Byte payload) x) ≡ followed (bytes_seen payload) (of_frames c given x)
frames_then c given [] x = refl
frames_then c given (b ∷ payload) x = ap (λ (y : StreamRun). followed (Rattle.wtp_connection.specs.Streams.Gave (Byte b) ∷ []) y) (frames_then c given payload x)

stream_then : (c : Streams) (e : Endpoint) (k : ℕ) (b given : Bool) (payload more : List ℕ) → c.over ≡ false → 0 < length payload → length payload < 2 ^ 62 → run_stream c (frames.Frames (reads_data e k Tunnel b 0) given) (wire (DataOf payload) ++ more) ≡ followed (bytes_seen payload) (run_stream c (frames.Frames (reads_data e k Tunnel true 0) given) more)
stream_then c e k b given payload more over some few =
    intact_run c (frames.Frames (reads_data e k Tunnel b 0) given) (wire (DataOf payload) ++ more) over
    ∙ ap (λ (x : Run). of_frames c given x) (frame_run e k b payload more some few)
    ∙ frames_then c given payload (run (reads_data e k Tunnel true 0) more)
    ∙ ap (λ (y : StreamRun). followed (bytes_seen payload) y) (sym (intact_run c (frames.Frames (reads_data e k Tunnel true 0) given) more over))

-- nothing changes by the end
ended_then : (seen : List Seen) (x : StreamRun) → ended (followed seen x) ≡ followed seen (ended x)
ended_then seen x = by_over x.connection.over refl
  where
    by_over : (b : Bool) → x.connection.over ≡ b → ended (followed seen x) ≡ followed seen (ended x)
    by_over true e =
        ap (λ (b : Bool). cond b (followed seen x) (followed (seen ++ x.seen) (ending x.connection x.stream x.left))) e
        ∙ sym (ap (λ (b : Bool). followed seen (cond b x (followed x.seen (ending x.connection x.stream x.left)))) e)
    by_over false e =
        ap (λ (b : Bool). cond b (followed seen x) (followed (seen ++ x.seen) (ending x.connection x.stream x.left))) e
        ∙ ap (λ (l : List Seen). record { seen = l; connection = (ending x.connection x.stream x.left).connection; stream = (ending x.connection x.stream x.left).stream; left = (ending x.connection x.stream x.left).left }) (append_assoc seen x.seen (ending x.connection x.stream x.left).seen)
        ∙ sym (ap (λ (b : Bool). followed seen (cond b x (followed x.seen (ending x.connection x.stream x.left)))) e)

to_then : (end : Bool) (seen : List Seen) (c : Streams) (s t : Frames) (bytes more : List ℕ) → run_stream c s bytes ≡ followed seen (run_stream c t more) → run_to end c s bytes ≡ followed seen (run_to end c t more)
to_then true seen c s t bytes more e = ap ended e ∙ ended_then seen (run_stream c t more)
to_then false seen c s t bytes more e = e

-- what is said of it, and then of what follows
abbrev session_frames : Stream → Endpoint → ℕ → Bool → Frames
session_frames s e k given = frames.Frames (reads_data e k Tunnel true 0) given

said_then : (end : Bool) (e : Endpoint) (c : Connection) (s : Stream) (at : IsSession e s) (payload more : List ℕ) → c.streams.over ≡ false → 0 < length payload → length payload < 2 ^ 62 → said end 0 c s (wire (DataOf payload) ++ more) ≡ said_from (Some between) payload (run_to end c.streams (session_frames s e at.interims at.given) more)
said_then end e c s at payload more over some few =
    ap (λ (p : Option Place). said_from p [] (run_to end c.streams s.frames (wire (DataOf payload) ++ more))) at.capsules
    ∙ ap (λ (f : Frames). said_from (Some between) [] (run_to end c.streams f (wire (DataOf payload) ++ more))) at.frames
    ∙ ap (λ (w : StreamRun). said_from (Some between) [] w) (to_then end (bytes_seen payload) c.streams (frames.Frames (reads_data e at.interims Tunnel at.streamed 0) at.given) (session_frames s e at.interims at.given) (wire (DataOf payload) ++ more) more (stream_then c.streams e at.interims at.streamed at.given payload more over some few))
    ∙ said_piece between payload (run_to end c.streams (session_frames s e at.interims at.given) more)

-- ---- CLOSE

head_of : (id n : ℕ) → id < 2 ^ 62 → n < 2 ^ 62 → EncodesPair id n (two_numbers id n)
head_of id n f g = record {
  first = shortest id;
  second = shortest n;
  parts = refl;
  type_number = shortest-encodes id f;
  number = shortest-encodes n g;
}

close_parts_are : (code : ℕ) (reason more : List ℕ) → close_wire (code, reason) ++ more ≡ two_numbers 0x2843 (4 + length reason) ++ (close_value (code, reason) ++ more)
close_parts_are code reason more =
    ap (λ (l : List ℕ). (shortest 0x2843 ++ (shortest (4 + length reason) ++ (to_be_bytes w32 code ++ l))) ++ more) (append-nil reason)
    ∙ ap (λ (l : List ℕ). l ++ more) (sym (append_assoc (shortest 0x2843) (shortest (4 + length reason)) (close_value (code, reason))))
    ∙ append_assoc (two_numbers 0x2843 (4 + length reason)) (close_value (code, reason)) more

value_size : (code : ℕ) (reason : List ℕ) → length (close_value (code, reason)) ≡ 4 + length reason
value_size code reason = omega (arith, length-append (to_be_bytes w32 code) reason)

close_capsule : (code : ℕ) (reason more : List ℕ) → length reason ≤ 1024 → run_capsules between (close_wire (code, reason) ++ more) ≡ capsule_then (capsule.Close, close_value (code, reason)) (run_capsules between more)
close_capsule code reason more few =
    ap (λ (l : List ℕ). run_capsules between l) (close_parts_are code reason more)
    ∙ read_as_written 0x2843 capsule.Close (close_value (code, reason)) (two_numbers 0x2843 (4 + length reason)) more
    (subst (λ (n : ℕ). EncodesPair 0x2843 n (two_numbers 0x2843 (4 + length reason))) (sym (value_size code reason)) (head_of 0x2843 (4 + length reason) (lit< tt) (omega (arith, few))))
    (rw (le-ltb 1028 (length (close_value (code, reason))) (omega (arith, value_size code reason, few))) refl)

close_some : (code : ℕ) (reason : List ℕ) → 0 < length (close_wire (code, reason))
close_some code reason = omega (arith, length-append (shortest 0x2843) (shortest (4 + length reason) ++ (to_be_bytes w32 code ++ (reason ++ []))), encoding_not_empty 0x2843 (shortest 0x2843) (shortest-encodes 0x2843 (lit< tt)))

close_few : (code : ℕ) (reason : List ℕ) → length reason ≤ 1024 → length (close_wire (code, reason)) < 2 ^ 62
close_few code reason few =
    let tail = to_be_bytes w32 code ++ (reason ++ []) in
    omega (arith, few, ap length (append-nil reason), length-append (to_be_bytes w32 code) (reason ++ []), length-append (shortest 0x2843) (shortest (4 + length reason) ++ tail), length-append (shortest (4 + length reason)) tail, at_most_8 0x2843, at_most_8 (4 + length reason))

close_from : (code : ℕ) (reason : List ℕ) (w : StreamRun) → code < 2 ^ 32 → length reason ≤ 1024 → IsUtf8 reason → (said_from (Some between) (close_wire (code, reason)) w).told ≡ SessionClosed (code, reason) ∷ []
close_from code reason w small few text =
    ap (λ (x : Capsules). capsules_told x.capsules (place_told (ending_in w.seen) x.place)) (close_capsule code reason (content_in w.seen) few)
    ∙ ap (λ (x : Option (ℕ × List ℕ)). close_told x ∷ []) (value-written code reason small few text)

pub close_said : (end : Bool) (e : Endpoint) (c : Connection) (s : Stream) (code : ℕ) (reason more : List ℕ) → IsSession e s → c.streams.over ≡ false → code < 2 ^ 32 → length reason ≤ 1024 → IsUtf8 reason → (said end 0 c s (close_data code reason ++ more)).told ≡ SessionClosed (code, reason) ∷ []
close_said end e c s code reason more at over small few text =
    ap (λ (x : Rattle.wtp_webtransport.specs.Said.Said). x.told) (said_then end e c s at (close_wire (code, reason)) more over (close_some code reason) (close_few code reason few))
    ∙ close_from code reason (run_to end c.streams (session_frames s e at.interims at.given) more) small few text

-- ---- DRAIN

drain_capsule : (more : List ℕ) → run_capsules between (two_numbers 0x78ae 0 ++ more) ≡ capsule_then (capsule.Drain, []) (run_capsules between more)
drain_capsule more = read_as_written 0x78ae capsule.Drain [] (two_numbers 0x78ae 0) more (head_of 0x78ae 0 (lit< tt) (lit< tt)) refl

drain_from : (w : StreamRun) → (said_from (Some between) (two_numbers 0x78ae 0) w).told ≡ Draining ∷ (said_from (Some between) [] w).told
drain_from w = ap (λ (x : Capsules). capsules_told x.capsules (place_told (ending_in w.seen) x.place)) (drain_capsule (content_in w.seen))

drain_some : 0 < length (two_numbers 0x78ae 0)
drain_some = omega (arith, length-append (shortest 0x78ae) (shortest 0), encoding_not_empty 0x78ae (shortest 0x78ae) (shortest-encodes 0x78ae (lit< tt)))

drain_few : length (two_numbers 0x78ae 0) < 2 ^ 62
drain_few = omega (arith, length-append (shortest 0x78ae) (shortest 0), at_most_8 0x78ae, at_most_8 0)

pub drain_said : (end : Bool) (e : Endpoint) (c : Connection) (s : Stream) (more : List ℕ) (at : IsSession e s) → c.streams.over ≡ false → (said end 0 c s (drain_wire ++ more)).told ≡ Draining ∷ (said end 0 c (after_frame e s at) more).told
drain_said end e c s more at over =
    ap (λ (x : Rattle.wtp_webtransport.specs.Said.Said). x.told) (said_then end e c s at (two_numbers 0x78ae 0) more over drain_some drain_few)
    ∙ drain_from (run_to end c.streams (session_frames s e at.interims at.given) more)
    ∙ ap (λ (p : Option Place). Draining ∷ (said_from p [] (run_to end c.streams (session_frames s e at.interims at.given) more)).told) (sym at.capsules)

pub still_session : (e : Endpoint) (s : Stream) (at : IsSession e s) → IsSession e (after_frame e s at)
still_session e s at = record {
  interims = at.interims;
  streamed = true;
  given = at.given;
  frames = refl;
  part = at.part;
  capsules = at.capsules;
}
