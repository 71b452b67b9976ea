-- A loop of calls ends.
use Rattle.std.proofs.Common.{◌≡◌, ℕ, ◌+◌, ◌-◌, ◌==◌, ◌<◌, ◌≤◌, ◌&&◌, ◌||◌, not, nat_lt, Bool, true, false, cond, List, [], ◌∷◌, length, take, drop, Option, Some, None, Result, Ok, Err, refl, sym, ap, subst, ◌∙◌, arith, length-drop, length-take}
use Rattle.std.proofs.lemmas.Bool.{ltb-true, ltb-false}
use Rattle.wtp_core.specs.Varint.{number_at}
use Rattle.wtp_qpack.specs.Field.{Field}
use Rattle.wtp_wire.specs.CloseSession.{close_in}
use Rattle.wtp_wire.specs.declared.capsule.CapsuleError.TheVariants as capsule_error
use Rattle.wtp_frames.specs.Reading.{slice}
use Rattle.wtp_frames.specs.First.{first}
use Rattle.wtp_frames.specs.Interim.{after_interim}
use Rattle.wtp_frames.specs.Item.{Item, Whole, Broken}
use Rattle.wtp_frames.specs.declared.fault.Fault.{Fault as StreamFault}
use Rattle.wtp_frames.specs.declared.fault.Fault.TheVariants as stream
use Rattle.wtp_frames.specs.declared.frame_type.FrameType.{FrameType}
use Rattle.wtp_frames.specs.declared.frame_type.FrameType.TheVariants as kind
use Rattle.wtp_frames.specs.declared.reader.Reader.{Reader}
use Rattle.wtp_connection.specs.declared.connection.Connection.{Connection as Streams}
use Rattle.wtp_connection.specs.declared.connection.Found.{Found as Finding}
use Rattle.wtp_connection.specs.declared.connection.Found.TheVariants as found
use Rattle.wtp_connection.specs.declared.fault.Fault.{Fault as StreamsFault}
use Rattle.wtp_connection.specs.declared.instructions.DecoderPlace.{DecoderPlace}
use Rattle.wtp_connection.specs.declared.settings.PeerSettings.{PeerSettings}
use Rattle.wtp_connection.specs.declared.stream.Purpose.{Purpose}
use Rattle.wtp_connection.specs.declared.stream.Purpose.TheVariants as «for»
use Rattle.wtp_connection.specs.declared.stream.Stream.{Stream as Frames}
use Rattle.wtp_connection.specs.declared.stream.Stream.TheVariants as frames
use Rattle.wtp_connection.specs.Opening.{over_by, over_from, is_critical, connected, remaining_of}
use Rattle.wtp_connection.specs.Streams.{Joined, StreamRun, followed, of_items, by_settings, received_settings, by_capacity, by_place, by_fault, end_of, ending, ended, all_given, without, abandons, tells_interim, by_interim, tells_open}
use Rattle.wtp_connection.specs.Instructions.{sets_zero, after_bytes}
use Rattle.std.specs.List.{list_all}
use Rattle.wtp_connection.specs.First.{first_intact, first_seen, has_none, at_end, first_found, found_by}
use Rattle.wtp_connection.specs.Receiving.{Fits, IsNearer, free_calls}
use Rattle.wtp_fields.specs.declared.fields.FieldSectionError.{FieldSectionError}
use Rattle.wtp_fields.specs.declared.fields.FieldSectionError.TheVariants as section_error
use Rattle.wtp_messages.specs.declared.malformed.Malformed.{Malformed}
use Rattle.wtp_messages.specs.declared.message.Message.{Message}
use Rattle.wtp_messages.specs.declared.response.Asked.{Asked}
use Rattle.wtp_messages.specs.declared.response.Asked.TheVariants as asked
use Rattle.wtp_messages.specs.Content.{fits}
use Rattle.wtp_messages.specs.Message.{end_of as message_end}
use Rattle.wtp_messages.specs.Response.{is_success}
use Rattle.wtp_dynamic_decoder.specs.Decoder.{Decoder}
use Rattle.wtp_dynamic_fields.specs.declared.section.Decoded.{Decoded}
use Rattle.wtp_dynamic_fields.specs.declared.section.Decoded.TheVariants as decoded
use Rattle.wtp_dynamic_fields.specs.declared.section.TableSectionError.{TableSectionError}
use Rattle.wtp_dynamic_fields.specs.declared.section.TableSectionError.TheVariants as table_error
use Rattle.wtp_webtransport.specs.declared.capsules.CapsuleType.{CapsuleType}
use Rattle.wtp_webtransport.specs.declared.capsules.CapsuleType.TheVariants as capsule
use Rattle.wtp_webtransport.specs.declared.connection.Connection.{Connection}
use Rattle.wtp_webtransport.specs.declared.connection.messages.Taken.{Taken as Section}
use Rattle.wtp_webtransport.specs.declared.connection.messages.Taken.TheVariants as taken
use Rattle.wtp_webtransport.specs.declared.connection.messages.Asks.{Asks}
use Rattle.wtp_webtransport.specs.declared.connection.messages.Asks.TheVariants as asks
use Rattle.wtp_webtransport.specs.declared.connection.messages.Span.{Span}
use Rattle.wtp_webtransport.specs.declared.fault.Fault.{Fault}
use Rattle.wtp_webtransport.specs.declared.fault.Fault.TheVariants as fault
use Rattle.wtp_webtransport.specs.declared.stream.Part.{Part}
use Rattle.wtp_webtransport.specs.declared.stream.Part.TheVariants as part
use Rattle.wtp_webtransport.specs.declared.stream.Stream.{Stream}
use Rattle.wtp_webtransport.specs.declared.stream.Unread.{Unread}
use Rattle.wtp_webtransport.specs.declared.stream.Unread.TheVariants as unread
use Rattle.wtp_webtransport.specs.declared.stream.Due.{Due}
use Rattle.wtp_webtransport.specs.declared.stream.Due.TheVariants as due
use Rattle.wtp_webtransport.specs.Capsules.{Found, Place, Taken, CapsuleIs, IsWithin}
use Rattle.wtp_webtransport.specs.Prefix.{names_table}
use Rattle.wtp_webtransport.specs.Sessions.{asks_of}
use Rattle.wtp_webtransport.specs.Streams.{with_streams, with_frames, due_by, spoiled_if, GivesNext}
use Rattle.wtp_webtransport.specs.Receiving.{Outcome, fails, leaves, found_opened, goaway_in, in_stream, closed_if, complete, capsule_found, CapsulesGive, ContentBy, content_by, DataBy, SessionEndGives, EndBy, ends_by, too_large_by, taken_of as section_of, interim_by, request_by, response_in, in_connection, takes, ResultGives, PrefixGives, span_in, SectionBy, told_more, FoundGives, UnreadBy, DueGives, StreamGives, ReceivesIf, Receives, noted, OverGives, TableGives}
use Rattle.wtp_webtransport.specs.Calls.{Continues, course_of}
use Rattle.wtp_webtransport.specs.Progress.{unread_calls, calls_left, IsSound, GoOn}
use Rattle.wtp_webtransport.proofs.CallLemmas.{fails_ends}
use Rattle.wtp_webtransport.proofs.CutLemmas.{taken_less}
use Rattle.wtp_webtransport.proofs.SoundLemmas.{call_sound}

-- ---- calls that take no bytes of the frames

free_two : (t : Frames) → free_calls t ≤ 2
free_two frames.Uni = omega arith
free_two frames.Bi = omega arith
free_two frames.Incomplete = omega arith
free_two frames.Over = omega arith
free_two other = omega arith

free_over : (f : StreamFault) → free_calls (over_by f) ≤ 0
free_over stream.RequestIncomplete = omega arith
free_over other = omega arith

free_fault : (c : Streams) (r : Result (Unit {0}) StreamFault) (n : ℕ) → free_calls (by_fault c r).stream ≤ n
free_fault c (Ok u) n = omega arith
free_fault c (Err f) n = omega (arith, free_over f)

free_ending : (c : Streams) (t : Frames) (left : List ℕ) → free_calls (ending c t left).stream ≤ free_calls t
free_ending c (frames.Joining s) left = omega arith
free_ending c (frames.Waiting s) left = omega arith
free_ending c frames.Incomplete left = omega arith
free_ending c frames.Over left = omega arith
free_ending c frames.Uni left = free_fault c (end_of c frames.Uni left) 2
free_ending c frames.Bi left = free_fault c (end_of c frames.Bi left) 2
free_ending c other left = free_fault c (end_of c other left) 1

free_ended : (y : StreamRun) (n : ℕ) → free_calls y.stream ≤ n → free_calls (ended y).stream ≤ n
free_ended y n l = elim y.connection.over as (λ b. free_calls (cond b y (followed y.seen (ending y.connection y.stream y.left))).stream ≤ n) [
  | true ↦ l
  | false ↦ omega (arith, l, free_ending y.connection y.stream y.left)
]

free_at_end : (fin : Bool) (y : StreamRun) (n : ℕ) → free_calls y.stream ≤ n → free_calls (at_end fin y).stream ≤ n
free_at_end fin y n l = elim (fin && has_none y.seen) as (λ b. free_calls (cond b (ended y) y).stream ≤ n) [
  | true ↦ free_ended y n l
  | false ↦ l
]

free_settings : (r : Result PeerSettings StreamsFault) (c : Streams) (payload : List ℕ) (more : Streams → StreamRun) → ((d : Streams) → free_calls (more d).stream ≤ 1) → free_calls (by_settings c payload more r).stream ≤ 1
free_settings (Ok v) c payload more l = l _
free_settings (Err f) c payload more l = omega arith

free_items : (items : List Item) (c : Streams) (more : Streams → StreamRun) → ((d : Streams) → free_calls (more d).stream ≤ 1) → free_calls (of_items c more items).stream ≤ 1
free_items [] c more l = l c
free_items (Whole kind.Settings payload ∷ items) c more l = free_settings (received_settings c payload) c payload (λ d. of_items d more items) (λ d. free_items items d more l)
free_items (Broken f ∷ items) c more l = free_items items _ more l
free_items (other ∷ items) c more l = free_items items c more l

free_capacity : (b : Bool) (c : Streams) → free_calls (by_capacity c b).stream ≤ 1
free_capacity true c = omega arith
free_capacity false c = omega arith

free_place : (o : Option DecoderPlace) (c : Streams) → free_calls (by_place c o).stream ≤ 1
free_place None c = omega arith
free_place (Some p) c = omega arith

free_intact : (t : Frames) (c : Streams) (bytes : List ℕ) → free_calls (first_intact c t bytes).stream ≤ free_calls t
free_intact frames.Uni c bytes = free_two (first_intact c frames.Uni bytes).stream
free_intact frames.Bi c bytes = free_two (first_intact c frames.Bi bytes).stream
free_intact (frames.Frames r given) c bytes = free_items (first r bytes).items c _ (λ d. omega arith)
free_intact (frames.Session s) c bytes = omega arith
free_intact (frames.Joining s) c bytes = omega arith
free_intact (frames.Waiting s) c bytes = omega arith
free_intact frames.Encoder c bytes = free_capacity (list_all sets_zero bytes) c
free_intact (frames.Decoder place) c bytes = free_place (after_bytes place bytes) c
free_intact frames.Ignored c bytes = omega arith
free_intact frames.Incomplete c bytes = omega arith
free_intact frames.Over c bytes = omega arith

free_seen : (c : Streams) (t : Frames) (bytes : List ℕ) → free_calls (first_seen c t bytes).stream ≤ free_calls t
free_seen c t bytes = elim c.over as (λ b. free_calls (cond b (all_given c t []) (first_intact c t bytes)).stream ≤ free_calls t) [
  | true ↦ omega arith
  | false ↦ free_intact t c bytes
]

free_found : (x : Finding) (fin : Bool) (c d : Streams) (s t : Frames) (bytes : List ℕ) → found_by x bytes d t ≡ first_found fin c s bytes → free_calls t ≤ free_calls s
free_found x fin c d s t bytes e =
    subst (λ (k : Frames). free_calls k ≤ free_calls s) (sym (ap (λ (y : StreamRun). y.stream) e))
    (free_at_end fin (first_seen c s bytes) (free_calls s) (free_seen c s bytes))

free_from : (t : Frames) → free_calls (over_from t) ≤ 0
free_from frames.Bi = omega arith
free_from (frames.Frames r false) = omega arith
free_from (frames.Frames r true) = omega arith
free_from frames.Incomplete = omega arith
free_from other = omega arith

free_abandoned : (c : Streams) (t : Frames) → free_calls (abandons c t).1 ≤ free_calls t
free_abandoned c t = elim (is_critical t) as (λ b. free_calls (cond {A = Streams × Frames} b (c, t) (without c t, over_from t)).1 ≤ free_calls t) [
  | true ↦ omega arith
  | false ↦ omega (arith, free_from t)
]

free_connected : (t : Frames) → free_calls (connected t) ≤ free_calls t
free_connected (frames.Frames r given) = omega arith
free_connected other = omega arith

free_told : (x : Reader × Option StreamFault) (c : Streams) (given : Bool) → free_calls (by_interim c given x).1 ≤ 1
free_told (r, None) c given = omega arith
free_told (r, Some f) c given = omega arith

free_opened : (c : Streams) (t : Frames) → free_calls (tells_open c t).1 ≤ free_calls t
free_opened c (frames.Frames r given) = free_told (after_interim r) c given
free_opened c other = omega arith

free_interim : (c : Streams) (t : Frames) → free_calls (tells_interim c t).1 ≤ free_calls t
free_interim c t = elim c.over as (λ b. free_calls (cond {A = Joined} b (c, t, None) (tells_open c t)).1 ≤ free_calls t) [
  | true ↦ omega arith
  | false ↦ free_opened c t
]

-- ---- calls

-- fewer bytes are left, and what was free is not more
record Nears (s : Stream) (bytes : List ℕ) (o : Outcome) : Type 0 where
  near : course_of o.1 ≡ Continues → calls_left o.3 (drop o.0 bytes) < calls_left s bytes

-- after it the caller does not go on
ends_at : (s : Stream) (bytes : List ℕ) (o x : Outcome) → o ≡ x → (course_of x.1 ≡ Continues → ⊥) → Nears s bytes o
ends_at s bytes o x e n = record { near = λ g. absurd (n (sym (ap (λ (z : Outcome). course_of z.1) e) ∙ g)) }

fails_at : (s : Stream) (bytes : List ℕ) (c : Connection) (t : Stream) (f : Fault) (len : ℕ) (o : Outcome) → o ≡ fails c t f len → Nears s bytes o
fails_at s bytes c t f len o e = ends_at s bytes o (fails c t f len) e (λ g. cc (sym (fails_ends len c t f) ∙ g))

-- so many bytes, and the same section that is unread
steps : (s : Stream) (bytes : List ℕ) (n : ℕ) (o : Outcome) → o.0 ≡ n → o.3.unread ≡ s.unread → free_calls o.3.frames + length (drop n bytes) < free_calls s.frames + length bytes → Nears s bytes o
steps s bytes n o e u l = record {
  near = λ g.
      let size : length (drop o.0 bytes) ≡ length (drop n bytes) = ap (λ (k : ℕ). length (drop k bytes)) e in
      let same : unread_calls o.3.unread ≡ unread_calls s.unread = ap unread_calls u in
      omega (arith, l, size, same);
}

at_near : (s : Stream) (bytes : List ℕ) (n : ℕ) (o x : Outcome) → o ≡ x → x.0 ≡ n → x.3.unread ≡ s.unread → free_calls x.3.frames + length (drop n bytes) < free_calls s.frames + length bytes → Nears s bytes o
at_near s bytes n o x e k u l =
    steps s bytes n o (ap (λ (z : Outcome). z.0) e ∙ k) (ap (λ (z : Outcome). z.3.unread) e ∙ u)
    (omega (arith, ap (λ (z : Outcome). free_calls z.3.frames) e, l))

-- content of a session
record CapsuleStep (s : Stream) (o : Outcome) (len : ℕ) : Type 0 where
  some : course_of o.1 ≡ Continues → 0 < o.0
  inside : course_of o.1 ≡ Continues → o.0 ≤ len
  frames : course_of o.1 ≡ Continues → o.3.frames ≡ s.frames
  unread : course_of o.1 ≡ Continues → o.3.unread ≡ s.unread

no_step : (s : Stream) (o : Outcome) (len : ℕ) → (course_of o.1 ≡ Continues → ⊥) → CapsuleStep s o len
no_step s o len n = record {
  some = λ g. absurd (n g);
  inside = λ g. absurd (n g);
  frames = λ g. absurd (n g);
  unread = λ g. absurd (n g);
}

failed_step : (s : Stream) (c : Connection) (t : Stream) (f : Fault) (n len : ℕ) (o : Outcome) → o ≡ fails c t f n → CapsuleStep s o len
failed_step s c t f n len o e = no_step s o len (λ g. cc (sym (fails_ends n c t f) ∙ sym (ap (λ (z : Outcome). course_of z.1) e) ∙ g))

at_step : (s : Stream) (n len : ℕ) (o x : Outcome) → o ≡ x → x.0 ≡ n → 0 < n → n ≤ len → x.3.frames ≡ s.frames → x.3.unread ≡ s.unread → CapsuleStep s o len
at_step s n len o x e k some inside f u = record {
  some = λ g. omega (arith, ap (λ (z : Outcome). z.0) e, k, some);
  inside = λ g. omega (arith, ap (λ (z : Outcome). z.0) e, k, inside);
  frames = λ g. ap (λ (z : Outcome). z.3.frames) e ∙ f;
  unread = λ g. ap (λ (z : Outcome). z.3.unread) e ∙ u;
}

close_step : (k : Option (ℕ × List ℕ)) (c : Connection) (s t : Stream) (later : Bool) (last len : ℕ) (o : Outcome) → t.frames ≡ s.frames → t.unread ≡ s.unread → 0 < last → last ≤ len → o ≡ closed_if k c t later last len → CapsuleStep s o len
close_step None c s t later last len o f u some inside g = failed_step s (leaves c t).0 (leaves c t).1 fault.Capsule len len o g
close_step (Some close) c s t later last len o f u some inside g = at_step s last len o _ g refl some inside f u

complete_step : (k : CapsuleType) (c : Connection) (s t : Stream) (value : List ℕ) (left last len : ℕ) (o : Outcome) → t.frames ≡ s.frames → t.unread ≡ s.unread → left < last → last ≤ len → o ≡ complete k c t value left last len → CapsuleStep s o len
complete_step capsule.Close c s t value left last len o f u some inside g = close_step (close_in value) c s t (nat_lt 0 left) last len o f u (omega (arith, some)) inside g
complete_step capsule.Datagram c s t value left last len o f u some inside g = at_step s (last - left) len o _ g refl (omega (arith, some)) (omega (arith, inside)) f u
complete_step capsule.Drain c s t value left last len o f u some inside g = at_step s (last - left) len o _ g refl (omega (arith, some)) (omega (arith, inside)) f u

found_step : (r : Found) (c : Connection) (s t : Stream) (p q : Place) (piece b : List ℕ) (last len : ℕ) (o : Outcome) → t.frames ≡ s.frames → t.unread ≡ s.unread → IsWithin p → 0 < length piece → length piece ≤ last → last ≤ len → CapsuleIs r p piece q b → o ≡ capsule_found r c t (length b) last len → CapsuleStep s o len
found_step (Ok None) c s t p q piece b last len o f u w full size inside k g =
    let less : length b < length piece = subst (λ (y : Taken). length y.2 < length piece) (sym k) (taken_less p piece w full) in
    at_step s (last - length b) len o _ g refl (omega (arith, less, size)) (omega (arith, inside)) f u
found_step (Ok (Some x)) c s t p q piece b last len o f u w full size inside k g =
    let less : length b < length piece = subst (λ (y : Taken). length y.2 < length piece) (sym k) (taken_less p piece w full) in
    complete_step x.0 c s t x.1 (length b) last len o f u (omega (arith, less, size)) inside g
found_step (Err capsule_error.TooLong) c s t p q piece b last len o f u w full size inside k g = failed_step s (leaves c t).0 (leaves c t).1 fault.Capsule len len o g
found_step (Err capsule_error.Memory) c s t p q piece b last len o f u w full size inside k g = no_step s o len (λ h. cc (sym (ap (λ (z : Outcome). course_of z.1) g) ∙ h))

next_step : (k : Option Place) (r : Found) (c : Connection) (s t : Stream) (piece b : List ℕ) (last len : ℕ) (o : Outcome) → ((p : Place) → k ≡ Some p → IsWithin p) → 0 < length piece → length piece ≤ last → last ≤ len → GivesNext k r s piece t b → o ≡ capsule_found r c t (length b) last len → CapsuleStep s o len
next_step None r c s t piece b last len o w full size inside (e, same, left) g =
    failed_step s (leaves c t).0 (leaves c t).1 fault.Capsule len len o (g ∙ ap (λ (x : Found). capsule_found x c t (length b) last len) e)
next_step (Some p) r c s t piece b last len o w full size inside (q, k, e) g =
    found_step r c s t p q piece b last len o (ap (λ (y : Stream). y.frames) e) (ap (λ (y : Stream). y.unread) e) (w p refl) full size inside k g

capsules_step : (c : Connection) (s : Stream) (piece : List ℕ) (last len : ℕ) (o : Outcome) → IsSound s → 0 < length piece → length piece ≤ last → last ≤ len → CapsulesGive c s piece last len o → CapsuleStep s o len
capsules_step c s piece last len o w full size inside (r, t, b, gives, g) = next_step s.capsules r c s t piece b last len o w full size inside gives g

-- from a stream of whose frames at least as many calls are free
capsules_near : (s : Stream) (t : Stream) (bytes : List ℕ) (o : Outcome) → t.unread ≡ s.unread → free_calls t.frames ≤ free_calls s.frames → CapsuleStep t o (length bytes) → Nears s bytes o
capsules_near s t bytes o u l h = record {
  near = λ g.
      let frames_are : free_calls o.3.frames ≡ free_calls t.frames = ap free_calls (h.frames g) in
      let unread_is : unread_calls o.3.unread ≡ unread_calls s.unread = ap unread_calls (h.unread g ∙ u) in
      omega (arith, frames_are, unread_is, l, h.some g, h.inside g, length-drop o.0 bytes);
}

-- ---- field sections

-- all of the section is consumed, and what was unread and free is not more
record SectionStep (s : Stream) (last : ℕ) (o : Outcome) : Type 0 where
  consumed : course_of o.1 ≡ Continues → o.0 ≡ last
  unread : course_of o.1 ≡ Continues → o.3.unread ≡ s.unread
  free : course_of o.1 ≡ Continues → free_calls o.3.frames ≤ free_calls s.frames

no_section : (s : Stream) (last : ℕ) (o : Outcome) → (course_of o.1 ≡ Continues → ⊥) → SectionStep s last o
no_section s last o n = record { consumed = λ g. absurd (n g); unread = λ g. absurd (n g); free = λ g. absurd (n g) }

none_at : (s : Stream) (last : ℕ) (o x : Outcome) → o ≡ x → (course_of x.1 ≡ Continues → ⊥) → SectionStep s last o
none_at s last o x e n = no_section s last o (λ g. n (sym (ap (λ (z : Outcome). course_of z.1) e) ∙ g))

fails_section : (s : Stream) (last : ℕ) (c : Connection) (t : Stream) (f : Fault) (len : ℕ) (o : Outcome) → o ≡ fails c t f len → SectionStep s last o
fails_section s last c t f len o e = none_at s last o (fails c t f len) e (λ g. cc (sym (fails_ends len c t f) ∙ g))

section_at : (s : Stream) (last : ℕ) (o x : Outcome) → o ≡ x → x.0 ≡ last → x.3.unread ≡ s.unread → free_calls x.3.frames ≤ free_calls s.frames → SectionStep s last o
section_at s last o x e k u f = record {
  consumed = λ g. ap (λ (z : Outcome). z.0) e ∙ k;
  unread = λ g. ap (λ (z : Outcome). z.3.unread) e ∙ u;
  free = λ g. omega (arith, ap (λ (z : Outcome). free_calls z.3.frames) e, f);
}

interim_step : (j : Joined) (c : Connection) (s : Stream) (status : ℕ) (fields : List Field) (at : Span) (o : Outcome) → free_calls j.1 ≤ free_calls s.frames → o ≡ interim_by c s status fields at j → SectionStep s at.end o
interim_step (d, t, None) c s status fields at o l e = section_at s at.end o _ e refl refl l
interim_step (d, t, Some f) c s status fields at o l e = fails_section s at.end (with_streams c d) (with_frames s t) (fault.Streams f) at.len o e

request_step : (a : Asks) (c : Connection) (s : Stream) (m : Message) (fields : List Field) (at : Span) (o : Outcome) → o ≡ request_by a c s m fields at → SectionStep s at.end o
request_step asks.Plain c s m fields at o e = section_at s at.end o _ e refl refl (omega arith)
request_step asks.Tunnel c s m fields at o e = section_at s at.end o _ e refl refl (omega arith)
request_step asks.TooEarly c s m fields at o e = none_at s at.end o _ e (λ g. cc g)
request_step asks.Session c s m fields at o e = section_at s at.end o _ e refl refl (omega arith)

response_step : (a : Option Asked) (success : Bool) (c : Connection) (s : Stream) (m : Message) (status : ℕ) (fields : List Field) (at : Span) (o : Outcome) → o ≡ in_connection c (response_in a success s m status fields at) → SectionStep s at.end o
response_step (Some asked.Session) true c s m status fields at o e = section_at s at.end o _ e refl refl (free_connected s.frames)
response_step (Some asked.Session) false c s m status fields at o e = section_at s at.end o _ e refl refl (omega arith)
response_step (Some asked.Connect) true c s m status fields at o e = section_at s at.end o _ e refl refl (free_connected s.frames)
response_step a success c s m status fields at o e = section_at s at.end o _ e refl refl (omega arith)

taken_step : (t : Section) (c : Connection) (s : Stream) (m : Message) (fields : List Field) (at : Span) (o : Outcome) → o ≡ takes c s m fields at t → SectionStep s at.end o
taken_step taken.Request c s m fields at o e = request_step (asks_of c fields) c s m fields at o e
taken_step (taken.Interim status) c s m fields at o e = interim_step (tells_interim c.streams s.frames) c s status fields at o (free_interim c.streams s.frames) e
taken_step (taken.Response status) c s m fields at o e = response_step s.asked (is_success (Some status)) c s m status fields at o e
taken_step taken.Trailers c s m fields at o e = section_at s at.end o _ e refl refl (omega arith)
taken_step (taken.Malformed rule) c s m fields at o e = none_at s at.end o _ e (λ g. cc g)

large_step : (p : Part) (c : Connection) (s : Stream) (size : Option ℕ) (n : ℕ) (o : Outcome) → o ≡ too_large_by p c s size n → SectionStep s n o
large_step (part.Head m) c s size n o e = section_at s n o _ e refl refl (free_abandoned c.streams s.frames)
large_step other c s size n o e = section_at s n o _ e refl refl (omega arith)

result_step : (r : Result (List Field) FieldSectionError) (c : Connection) (s : Stream) (m : Message) (at : Span) (o : Outcome) → ResultGives c s m at r o → SectionStep s at.end o
result_step (Ok fields) c s m at o (x, n, comes, e) = taken_step (section_of x) c s n fields at o e
result_step (Err section_error.TooLarge) c s m at o e = large_step s.part c s None at.end o e
result_step (Err section_error.Memory) c s m at o e = none_at s at.end o _ e (λ g. cc g)
result_step (Err (section_error.Decoding f)) c s m at o e = fails_section s at.end c s (fault.Section f) at.len o e

noted_step : (s : Stream) (last required : ℕ) (o p : Outcome) → o ≡ noted required p → SectionStep s last p → SectionStep s last o
noted_step s last required o p e h = record {
  consumed = λ g. ap (λ (z : Outcome). z.0) e ∙ h.consumed (sym (ap (λ (z : Outcome). course_of z.1) e) ∙ g);
  unread = λ g. ap (λ (z : Outcome). z.3.unread) e ∙ h.unread (sym (ap (λ (z : Outcome). course_of z.1) e) ∙ g);
  free = λ g. omega (arith, ap (λ (z : Outcome). free_calls z.3.frames) e, h.free (sym (ap (λ (z : Outcome). course_of z.1) e) ∙ g));
}

over_step : (r : Result Decoded TableSectionError) (c : Connection) (s : Stream) (m : Message) (at : Span) (o : Outcome) → OverGives c s m at r o → SectionStep s at.end o
over_step (Ok (decoded.Fields fields required)) c s m at o (p, gives, e) = noted_step s at.end required o p e (result_step (Ok fields) c s m at p gives)
over_step (Ok (decoded.Blocked required)) c s m at o e = none_at s at.end o _ e (λ g. cc g)
over_step (Err table_error.TooLarge) c s m at o e = large_step s.part c s None at.end o e
over_step (Err table_error.Memory) c s m at o e = none_at s at.end o _ e (λ g. cc g)
over_step (Err (table_error.Section f)) c s m at o e = fails_section s at.end c s (fault.TableSection f) at.len o e

table_step : (d : Option Decoder) (limit : ℕ) (c : Connection) (s : Stream) (m : Message) (at : Span) (bytes : List ℕ) (o : Outcome) → TableGives d limit c s m at bytes o → SectionStep s at.end o
table_step None limit c s m at bytes o e = fails_section s at.end c s fault.SectionPrefix at.len o e
table_step (Some d) limit c s m at bytes o (r, decodes, gives) = over_step r c s m at o gives

prefix_step : (b : Bool) (limit : ℕ) (c : Connection) (s : Stream) (m : Message) (at : Span) (bytes : List ℕ) (o : Outcome) → PrefixGives b limit c s m at bytes o → SectionStep s at.end o
prefix_step true limit c s m at bytes o g = table_step c.decoder limit c s m at bytes o g
prefix_step false limit c s m at bytes o (r, decodes, gives) = result_step r c s m at o gives

section_step : (p : Part) (limit : ℕ) (c : Connection) (s : Stream) (start last : ℕ) (bytes : List ℕ) (o : Outcome) → SectionBy p limit c s start last bytes o → SectionStep s last o
section_step (part.Head m) limit c s start last bytes o g = prefix_step (names_table (slice start last bytes)) limit c s m (span_in start last bytes) bytes o g
section_step (part.Body m) limit c s start last bytes o g = prefix_step (names_table (slice start last bytes)) limit c s m (span_in start last bytes) bytes o g
section_step other limit c s start last bytes o g = section_at s last o _ g refl refl (omega arith)

section_near : (s t : Stream) (bytes : List ℕ) (last : ℕ) (o : Outcome) → t.unread ≡ s.unread → free_calls t.frames + length (drop last bytes) < free_calls s.frames + length bytes → SectionStep t last o → Nears s bytes o
section_near s t bytes last o u l h = record {
  near = λ g.
      let size : length (drop o.0 bytes) ≡ length (drop last bytes) = ap (λ (k : ℕ). length (drop k bytes)) (h.consumed g) in
      let same : unread_calls o.3.unread ≡ unread_calls s.unread = ap unread_calls (h.unread g ∙ u) in
      omega (arith, l, size, same, h.free g);
}

-- ---- whatever was found

opened_near : (p : Purpose) (c : Connection) (s t : Stream) (bytes : List ℕ) (n : ℕ) (o : Outcome) → t.unread ≡ s.unread → free_calls t.frames + length (drop n bytes) < free_calls s.frames + length bytes → o ≡ found_opened c t p n → Nears s bytes o
opened_near («for».Session id) c s t bytes n o u l e = at_near s bytes n o _ e refl u l
opened_near «for».Message c s t bytes n o u l e = at_near s bytes n o _ e refl u l
opened_near other c s t bytes n o u l e = at_near s bytes n o _ e refl u l

goaway_near : (k : Option (ℕ × List ℕ)) (c : Connection) (s t : Stream) (bytes payload : List ℕ) (n : ℕ) (o : Outcome) → t.unread ≡ s.unread → free_calls t.frames + length (drop n bytes) < free_calls s.frames + length bytes → o ≡ in_stream t (goaway_in k c n payload) → Nears s bytes o
goaway_near None c s t bytes payload n o u l e = at_near s bytes n o _ e refl u l
goaway_near (Some i) c s t bytes payload n o u l e = at_near s bytes n o _ e refl u l

frame_near : (k : FrameType) (limit : ℕ) (c : Connection) (s t : Stream) (bytes : List ℕ) (start n : ℕ) (o : Outcome) → t.unread ≡ s.unread → free_calls t.frames + length (drop n bytes) < free_calls s.frames + length bytes → FoundGives limit (found.Frame k start n) c t bytes o → Nears s bytes o
frame_near kind.Headers limit c s t bytes start n o u l g = section_near s t bytes n o u l (section_step t.part limit c t start n bytes o g)
frame_near kind.GoAway limit c s t bytes start n o u l g = goaway_near (number_at (slice start n bytes)) c s t bytes (slice start n bytes) n o u l g
frame_near k limit c s t bytes start n o u l g = at_near s bytes n o _ g refl u l

content_near : (b : Bool) (c : Connection) (s t : Stream) (m : Message) (bytes : List ℕ) (start n : ℕ) (o : Outcome) → t.unread ≡ s.unread → free_calls t.frames + length (drop n bytes) < free_calls s.frames + length bytes → o ≡ content_by b c t m start n bytes → Nears s bytes o
content_near true c s t m bytes start n o u l g = at_near s bytes n o _ g refl u l
content_near false c s t m bytes start n o u l g = ends_at s bytes o _ g (λ h. cc h)

piece_size : (start last : ℕ) (bytes : List ℕ) → start < last → last ≤ length bytes → length (slice start last bytes) ≡ last - start
piece_size start last bytes some inside = omega (arith, length-take (last - start) (drop start bytes), length-drop start bytes, some, inside)

data_near : (p : Part) (c : Connection) (s t : Stream) (bytes : List ℕ) (start n : ℕ) (o : Outcome) → IsSound t → t.unread ≡ s.unread → free_calls t.frames ≤ free_calls s.frames → start < n → n ≤ length bytes → DataBy p c t start n bytes o → Nears s bytes o
data_near (part.Head m) c s t bytes start n o sound u l some inside g = content_near (fits m.content.left ((n - start) + remaining_of t.frames)) c s t m bytes start n o u (omega (arith, l, some, inside, length-drop n bytes)) g
data_near (part.Body m) c s t bytes start n o sound u l some inside g = content_near (fits m.content.left ((n - start) + remaining_of t.frames)) c s t m bytes start n o u (omega (arith, l, some, inside, length-drop n bytes)) g
data_near (part.Session size) c s t bytes start n o sound u l some inside g =
    capsules_near s t bytes o u l (capsules_step c t (slice start n bytes) n (length bytes) o sound (omega (arith, piece_size start n bytes some inside, some)) (omega (arith, piece_size start n bytes some inside)) inside g)
data_near other c s t bytes start n o sound u l some inside g = at_near s bytes n o _ g refl u (omega (arith, l, some, inside, length-drop n bytes))

ends_near : (r : Result (Unit {0}) Malformed) (c : Connection) (s t : Stream) (bytes : List ℕ) (len : ℕ) (o : Outcome) → o ≡ ends_by c t len r → Nears s bytes o
ends_near (Ok x) c s t bytes len o e = ends_at s bytes o _ e (λ h. cc h)
ends_near (Err rule) c s t bytes len o e = ends_at s bytes o _ e (λ h. cc h)

end_near : (p : Part) (c : Connection) (s t : Stream) (bytes : List ℕ) (o : Outcome) → t.unread ≡ s.unread → free_calls t.frames + 0 < free_calls s.frames + length bytes → EndBy p c t (length bytes) o → Nears s bytes o
end_near (part.Head m) c s t bytes o u l g = ends_near (message_end m.stage m.content.left) c s t bytes (length bytes) o g
end_near (part.Body m) c s t bytes o u l g = ends_near (message_end m.stage m.content.left) c s t bytes (length bytes) o g
end_near (part.Session size) c s t bytes o u l (SessionEndGives.Between b e) = at_near s bytes (length bytes) o _ e refl u (omega (arith, l, length-drop (length bytes) bytes))
end_near (part.Session size) c s t bytes o u l (SessionEndGives.Within b e) = fails_at s bytes (leaves c t).0 (leaves c t).1 fault.Capsule (length bytes) o e
end_near other c s t bytes o u l g = ends_at s bytes o _ g (λ h. cc h)

more_stops : (f : Frames) → course_of (told_more f) ≡ Continues → ⊥
more_stops (frames.Waiting id) e = cc e
more_stops other e = cc e

found_near : (x : Finding) (limit : ℕ) (c : Connection) (s t : Stream) (d : Streams) (bytes : List ℕ) (o : Outcome) → IsSound t → t.unread ≡ s.unread → free_calls t.frames ≤ free_calls s.frames → Fits x bytes d t.frames → IsNearer x s.frames bytes t.frames → FoundGives limit x c t bytes o → Nears s bytes o
found_near (found.Opened p n) limit c s t d bytes o sound u f fit l g = opened_near p c s t bytes n o u l g
found_near (found.Settings v start n) limit c s t d bytes o sound u f fit l g = at_near s bytes n o _ g refl u l
found_near (found.Frame k start n) limit c s t d bytes o sound u f fit l g = frame_near k limit c s t bytes start n o u l g
found_near (found.Data start n) limit c s t d bytes o sound u f fit l g = data_near t.part c s t bytes start n o sound u f fit.0 fit.1 g
found_near (found.TooLarge size n) limit c s t d bytes o sound u f fit l g = section_near s t bytes n o u l (large_step t.part c t (Some size) n o g)
found_near (found.More n) limit c s t d bytes o sound u f fit l g = ends_at s bytes o _ g (more_stops t.frames)
found_near (found.Fault e) limit c s t d bytes o sound u f fit l g = fails_at s bytes c t (fault.Streams e) (length bytes) o g
found_near found.End limit c s t d bytes o sound u f fit l g = end_near t.part c s t bytes o u l g

unread_near : (b : Bool) (limit : ℕ) (c : Connection) (s : Stream) (size : ℕ) (bytes : List ℕ) (o : Outcome) → unread_calls s.unread ≡ 1 → b ≡ nat_lt (length bytes) size → UnreadBy b limit c s size bytes o → Nears s bytes o
unread_near true limit c s size bytes o one is g = ends_at s bytes o _ g (λ h. cc h)
unread_near false limit c s size bytes o one is g =
    let h : SectionStep (record s { unread = unread.Nothing }) size o = section_step s.part limit c (record s { unread = unread.Nothing }) 0 size bytes o g in
    record {
      near = λ goes.
          let size_is : length (drop o.0 bytes) ≡ length (drop size bytes) = ap (λ (k : ℕ). length (drop k bytes)) (h.consumed goes) in
          let none : unread_calls o.3.unread ≡ 0 = ap unread_calls (h.unread goes) in
          omega (arith, size_is, none, one, h.free goes, length-drop size bytes);
    }

same_size : {m k : ℕ} → due.Content m ≡ due.Content k → m ≡ k
same_size e = cc e

session_size : (n size : ℕ) (b : Bool) → nat_lt 0 n ≡ b → cond b (due.Content n) due.Nothing ≡ due.Content size → 0 < size
session_size n size true is e = omega (arith, ltb-true 0 n is, same_size e)
session_size n size false is e = absurd (cc e)

spoiled_size : (b : Bool) (size : ℕ) → spoiled_if b ≡ due.Content size → 0 < size
spoiled_size true size e = absurd (cc e)
spoiled_size false size e = absurd (cc e)

content_size : (p : Part) (empty : Bool) (size : ℕ) → due_by p empty ≡ due.Content size → 0 < size
content_size (part.Session n) empty size e = session_size n size (nat_lt 0 n) refl e
content_size (part.Closed more) empty size e = spoiled_size (more || not empty) size e
content_size (part.Unanswered session m) empty size e = absurd (cc e)
content_size part.Ending empty size e = absurd (cc e)
content_size part.Losing empty size e = absurd (cc e)
content_size other empty size e = absurd (cc e)

again_near : (b : Bool) (c : Connection) (s : Stream) (size : ℕ) (bytes : List ℕ) (o : Outcome) → IsSound s → 0 < size → b ≡ nat_lt (length bytes) size → ContentBy b c s size bytes o → Nears s bytes o
again_near true c s size bytes o sound some is g = ends_at s bytes o _ g (λ h. cc h)
again_near false c s size bytes o sound some is g =
    let inside : size ≤ length bytes = ltb-false (length bytes) size (sym is) in
    capsules_near s s bytes o refl (omega arith) (capsules_step c s (take size bytes) size (length bytes) o sound (omega (arith, length-take size bytes, some, inside)) (omega (arith, length-take size bytes)) inside g)

due_near : (x : Due) (limit : ℕ) (c : Connection) (s : Stream) (bytes : List ℕ) (fin : Bool) (o : Outcome) → IsSound s → due_by s.part (length bytes == 0) ≡ x → DueGives x limit c s bytes fin o → Nears s bytes o
due_near due.Wait limit c s bytes fin o sound is g = ends_at s bytes o _ g (λ h. cc h)
due_near (due.Content size) limit c s bytes fin o sound is g = again_near (nat_lt (length bytes) size) c s size bytes o sound (content_size s.part (length bytes == 0) size is) refl g
due_near due.Spoiled limit c s bytes fin o sound is g = fails_at s bytes (leaves c s).0 (leaves c s).1 fault.Capsule (length bytes) o g
due_near due.End limit c s bytes fin o sound is g = ends_at s bytes o _ g (λ h. cc h)
due_near due.Lost limit c s bytes fin o sound is g = ends_at s bytes o _ g (λ h. cc h)
due_near due.Nothing limit c s bytes fin o sound is g =
    found_near g.x limit (with_streams c g.d) s (with_frames s g.t) g.d bytes o sound refl
    (free_found g.x fin c.streams g.d s.frames g.t bytes g.first) g.found.fits g.nearer g.gives

stream_near : (x : Unread) (limit : ℕ) (c : Connection) (s : Stream) (bytes : List ℕ) (fin : Bool) (o : Outcome) → IsSound s → s.unread ≡ x → StreamGives x limit c s bytes fin o → Nears s bytes o
stream_near (unread.Early size why) limit c s bytes fin o sound is g = unread_near (nat_lt (length bytes) size) limit c s size bytes o (ap unread_calls is) refl g
stream_near (unread.Section size) limit c s bytes fin o sound is g = unread_near (nat_lt (length bytes) size) limit c s size bytes o (ap unread_calls is) refl g
stream_near unread.Nothing limit c s bytes fin o sound is g = due_near (due_by s.part (length bytes == 0)) limit c s bytes fin o sound refl g

over_near : (b : Bool) (limit : ℕ) (c : Connection) (s : Stream) (bytes : List ℕ) (fin : Bool) (o : Outcome) → IsSound s → ReceivesIf b limit c s bytes fin o → Nears s bytes o
over_near true limit c s bytes fin o sound g = ends_at s bytes o _ g (λ h. cc h)
over_near false limit c s bytes fin o sound g = stream_near s.unread limit c s bytes fin o sound refl g

pub call_nears : (limit : ℕ) (c : Connection) (s : Stream) (bytes : List ℕ) (fin : Bool) (o : Outcome) → IsSound s → Receives limit c s bytes fin o → course_of o.1 ≡ Continues → calls_left o.3 (drop o.0 bytes) < calls_left s bytes
call_nears limit c s bytes fin o sound g goes = (over_near c.over limit c s bytes fin o sound g).near goes

unread_one : (x : Unread) → unread_calls x ≤ 1
unread_one unread.Nothing = omega arith
unread_one other = omega arith

calls_fewer : (limit : ℕ) (os : List Outcome) (c : Connection) (s : Stream) (bytes : List ℕ) (fin : Bool) → IsSound s → GoOn limit os c s bytes fin → length os ≤ calls_left s bytes
calls_fewer limit [] c s bytes fin sound h = omega arith
calls_fewer limit (o ∷ os) c s bytes fin sound h =
    let later : IsSound o.3 = call_sound limit c s bytes fin o sound h.0 in
    omega (arith, call_nears limit c s bytes fin o sound h.0 h.1, calls_fewer limit os o.2 o.3 (drop o.0 bytes) fin later h.2)

pub calls_few : (limit : ℕ) (os : List Outcome) (c : Connection) (s : Stream) (bytes : List ℕ) (fin : Bool) → IsSound s → GoOn limit os c s bytes fin → length os ≤ length bytes + 3
calls_few limit os c s bytes fin sound h = omega (arith, calls_fewer limit os c s bytes fin sound h, unread_one s.unread, free_two s.frames)
