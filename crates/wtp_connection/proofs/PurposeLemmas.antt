-- What streams are for, by numbers in any encoding.
use Rattle.std.proofs.Common.{◌≡◌, ℕ, ◌%◌, ◌<◌, ◌==◌, ◌&&◌, not, Bool, true, false, cond, List, [], ◌∷◌, ◌++◌, Option, Some, None, Result, Ok, Err, refl, sym, ap, ◌∙◌, arith, eq-eqb, inl, inr}
use Rattle.std.proofs.lemmas.Bool.{cases_Bool, ne_eqb, eqb-true}
use Rattle.wtp_core.specs.Varint.{Encodes, number_at}
use Rattle.wtp_core.proofs.EncodingLemmas.{number_at-encoding, encoding_not_empty}
use Rattle.wtp_frames.specs.declared.endpoint.Side.{Side}
use Rattle.wtp_frames.specs.declared.endpoint.Side.TheVariants.{Client, Server}
use Rattle.wtp_frames.specs.declared.fault.Fault.{Fault as StreamFault}
use Rattle.wtp_frames.specs.declared.fault.Fault.TheVariants as stream
use Rattle.wtp_frames.specs.Start.{message_reader, control_reader}
use Rattle.wtp_connection.specs.declared.fault.Fault.TheVariants as fault
use Rattle.wtp_connection.specs.declared.instructions.DecoderPlace.TheVariants.{Between}
use Rattle.wtp_connection.specs.declared.stream.Purpose.{Purpose}
use Rattle.wtp_connection.specs.declared.stream.Purpose.TheVariants as «for»
use Rattle.wtp_connection.specs.declared.stream.Stream.{Stream}
use Rattle.wtp_connection.specs.declared.stream.Stream.TheVariants.{Uni, Bi, Frames, Joining, Encoder, Decoder, Ignored, Over}
use Rattle.wtp_connection.specs.declared.connection.Connection.{Connection}
use Rattle.wtp_connection.specs.Opening.{with_session, type_purpose, uni_by, uni_at, frames_purpose, bi_by, may_open, allows_bidirectional, over_from, end_by_number, end_unopened}
use Rattle.wtp_connection.specs.Streams.{with_control, opens, opens_once, push_fault, closed_by, Opened, Ended, StreamRun, rests, followed, all_given, breaks, by_purpose, by_opening, run_stream, by_fault, ending, ended, refuses, without, reset_answer, resets}
use Rattle.wtp_connection.proofs.StreamLemmas.{intact_run}
use Rattle.wtp_connection.proofs.FinishLemmas.{run_no_bytes}
use Rattle.wtp_connection.proofs.OpeningLemmas.{bi_open, bi_forbidden, webtransport_allows, server_allows, client_forbids, unopened_forbidden, empty_first}

-- ---- the first number

uni_run : (c : Connection) (t more : List ℕ) (n : ℕ) → c.over ≡ false → Encodes n t → run_stream c Uni (t ++ more) ≡ by_opening c Uni (t ++ more) (uni_by c.endpoint (Some (n, more)))
unfolding uni_at
uni_run c t more n over h = intact_run c Uni (t ++ more) over ∙ ap (λ (o : Option (ℕ × List ℕ)). by_opening c Uni (t ++ more) (uni_by c.endpoint o)) (number_at-encoding n t more h)

bi_run : (c : Connection) (t more : List ℕ) (n : ℕ) → c.over ≡ false → allows_bidirectional c.endpoint ≡ true → Encodes n t → run_stream c Bi (t ++ more) ≡ by_opening c Bi (t ++ more) (bi_by c.endpoint (t ++ more) (Some (n, more)))
bi_run c t more n over may h =
    intact_run c Bi (t ++ more) over
    ∙ ap (λ (o : Option (Purpose × List ℕ)). by_opening c Bi (t ++ more) o) (bi_open c.endpoint (t ++ more) may)
    ∙ ap (λ (o : Option (ℕ × List ℕ)). by_opening c Bi (t ++ more) (bi_by c.endpoint (t ++ more) o)) (number_at-encoding n t more h)

-- ---- the session

by_session : (c : Connection) (x : Stream) (all u more : List ℕ) (s : ℕ) → c.over ≡ false → Encodes s u → s % 4 ≡ 0 → by_opening c x all (with_session (number_at (u ++ more))) ≡ followed (Opened («for».Session s) ∷ []) (run_stream c (Joining s) more)
by_session c x all u more s over h z =
    ap (λ (o : Option (ℕ × List ℕ)). by_opening c x all (with_session o)) (number_at-encoding s u more h)
    ∙ ap (λ (b : Bool). by_opening c x all (cond b (Some («for».Session s, more)) (Some («for».InvalidSession, more)))) (eq-eqb (s % 4) 0 z)
    ∙ ap (λ (y : StreamRun). followed (Opened («for».Session s) ∷ []) y) (sym (intact_run c (Joining s) more over))

by_no_session : (c : Connection) (x : Stream) (all u more : List ℕ) (s : ℕ) → Encodes s u → (s % 4 ≡ 0 → ⊥) → by_opening c x all (with_session (number_at (u ++ more))) ≡ breaks c (fault.Stream stream.Id)
by_no_session c x all u more s h z =
    ap (λ (o : Option (ℕ × List ℕ)). by_opening c x all (with_session o)) (number_at-encoding s u more h)
    ∙ ap (λ (b : Bool). by_opening c x all (cond b (Some («for».Session s, more)) (Some («for».InvalidSession, more)))) (ne_eqb (s % 4) 0 z)

uni_on : (c : Connection) (t rest : List ℕ) → c.over ≡ false → c.endpoint.webtransport ≡ true → Encodes 0x54 t → run_stream c Uni (t ++ rest) ≡ by_opening c Uni (t ++ rest) (with_session (number_at rest))
uni_on c t rest over on h = uni_run c t rest 0x54 over h ∙ ap (λ (b : Bool). by_opening c Uni (t ++ rest) (cond b (with_session (number_at rest)) (Some (type_purpose 0x54, rest)))) on

bi_on : (c : Connection) (t rest : List ℕ) → c.over ≡ false → c.endpoint.webtransport ≡ true → Encodes 0x41 t → run_stream c Bi (t ++ rest) ≡ by_opening c Bi (t ++ rest) (with_session (number_at rest))
bi_on c t rest over on h = bi_run c t rest 0x41 over (webtransport_allows c.endpoint.side c.endpoint.webtransport on) h ∙ ap (λ (b : Bool). by_opening c Bi (t ++ rest) (cond b (with_session (number_at rest)) (Some (frames_purpose c.endpoint.side, t ++ rest)))) on

pub uni_session : (c : Connection) (t u more : List ℕ) (s : ℕ) → c.over ≡ false → c.endpoint.webtransport ≡ true → Encodes 0x54 t → Encodes s u → s % 4 ≡ 0 → run_stream c Uni (t ++ (u ++ more)) ≡ followed (Opened («for».Session s) ∷ []) (run_stream c (Joining s) more)
uni_session c t u more s over on h k z = uni_on c t (u ++ more) over on h ∙ by_session c Uni (t ++ (u ++ more)) u more s over k z

pub bi_session : (c : Connection) (t u more : List ℕ) (s : ℕ) → c.over ≡ false → c.endpoint.webtransport ≡ true → Encodes 0x41 t → Encodes s u → s % 4 ≡ 0 → run_stream c Bi (t ++ (u ++ more)) ≡ followed (Opened («for».Session s) ∷ []) (run_stream c (Joining s) more)
bi_session c t u more s over on h k z = bi_on c t (u ++ more) over on h ∙ by_session c Bi (t ++ (u ++ more)) u more s over k z

pub uni_no_session : (c : Connection) (t u more : List ℕ) (s : ℕ) → c.over ≡ false → c.endpoint.webtransport ≡ true → Encodes 0x54 t → Encodes s u → (s % 4 ≡ 0 → ⊥) → run_stream c Uni (t ++ (u ++ more)) ≡ breaks c (fault.Stream stream.Id)
uni_no_session c t u more s over on h k z = uni_on c t (u ++ more) over on h ∙ by_no_session c Uni (t ++ (u ++ more)) u more s k z

pub bi_no_session : (c : Connection) (t u more : List ℕ) (s : ℕ) → c.over ≡ false → c.endpoint.webtransport ≡ true → Encodes 0x41 t → Encodes s u → (s % 4 ≡ 0 → ⊥) → run_stream c Bi (t ++ (u ++ more)) ≡ breaks c (fault.Stream stream.Id)
bi_no_session c t u more s over on h k z = bi_on c t (u ++ more) over on h ∙ by_no_session c Bi (t ++ (u ++ more)) u more s k z

-- ---- other numbers

no_type : (n m : ℕ) (on : Bool) → (n ≡ m → on ≡ false) → (n == m && on) ≡ false
no_type n m on h = elim (cases_Bool (n == m)) [
  | inl is ↦ ap (λ (b : Bool). b && on) is ∙ h (eqb-true n m is)
  | inr other ↦ ap (λ (b : Bool). b && on) other
]

is_ignored : (n : ℕ) → 3 < n → type_purpose n ≡ «for».Ignored
is_ignored n l = rw (ne_eqb n 0 (λ e. omega (arith, e, l)), ne_eqb n 1 (λ e. omega (arith, e, l)), ne_eqb n 2 (λ e. omega (arith, e, l)), ne_eqb n 3 (λ e. omega (arith, e, l))) refl

pub unknown_type : (c : Connection) (t more : List ℕ) (n : ℕ) → c.over ≡ false → Encodes n t → 3 < n → (n ≡ 0x54 → c.endpoint.webtransport ≡ false) → run_stream c Uni (t ++ more) ≡ followed (Opened «for».Ignored ∷ []) (run_stream c Ignored more)
unknown_type c t more n over h l off =
    uni_run c t more n over h
    ∙ ap (λ (b : Bool). by_opening c Uni (t ++ more) (cond b (with_session (number_at more)) (Some (type_purpose n, more)))) (no_type n 0x54 c.endpoint.webtransport off)
    ∙ ap (λ (p : Purpose). by_purpose c p more (opens c p)) (is_ignored n l)
    ∙ ap (λ (y : StreamRun). followed (Opened «for».Ignored ∷ []) y) (sym (intact_run c Ignored more over))

bi_off : (c : Connection) (t more : List ℕ) (n : ℕ) (side : Side) → c.over ≡ false → allows_bidirectional c.endpoint ≡ true → c.endpoint.side ≡ side → Encodes n t → (n ≡ 0x41 → c.endpoint.webtransport ≡ false) → run_stream c Bi (t ++ more) ≡ by_purpose c (frames_purpose side) (t ++ more) (opens c (frames_purpose side))
bi_off c t more n side over may is h off =
    bi_run c t more n over may h
    ∙ ap (λ (b : Bool). by_opening c Bi (t ++ more) (cond b (with_session (number_at more)) (Some (frames_purpose c.endpoint.side, t ++ more)))) (no_type n 0x41 c.endpoint.webtransport off)
    ∙ ap (λ (x : Side). by_purpose c (frames_purpose x) (t ++ more) (opens c (frames_purpose x))) is

pub request : (c : Connection) (t more : List ℕ) (n : ℕ) → c.over ≡ false → c.endpoint.side ≡ Server → Encodes n t → (n ≡ 0x41 → c.endpoint.webtransport ≡ false) → run_stream c Bi (t ++ more) ≡ followed (Opened «for».Message ∷ []) (run_stream c (Frames (message_reader c.endpoint) false) (t ++ more))
request c t more n over side h off =
    bi_off c t more n Server over (server_allows c.endpoint side) side h off
    ∙ ap (λ (y : StreamRun). followed (Opened «for».Message ∷ []) y) (sym (intact_run c (Frames (message_reader c.endpoint) false) (t ++ more) over))

-- ---- bidirectional streams of a server

-- one that it may not open
pub forbidden_run : (c : Connection) (b : ℕ) (more : List ℕ) → c.over ≡ false → c.endpoint.side ≡ Client → c.endpoint.webtransport ≡ false → run_stream c Bi (b ∷ more) ≡ breaks c (fault.Stream stream.StreamCreation)
forbidden_run c b more over side off =
    intact_run c Bi (b ∷ more) over
    ∙ ap (λ (o : Option (Purpose × List ℕ)). by_opening c Bi (b ∷ more) o) (bi_forbidden c.endpoint (b ∷ more) (client_forbids c.endpoint side off))

-- any other but those of sessions
foreign_by : (c : Connection) (t more : List ℕ) (n : ℕ) (on : Bool) → c.endpoint.webtransport ≡ on → c.over ≡ false → c.endpoint.side ≡ Client → Encodes n t → (n ≡ 0x41 → c.endpoint.webtransport ≡ false) → run_stream c Bi (t ++ more) ≡ breaks c (fault.Stream stream.StreamCreation)
foreign_by c t more n true on over side h off = bi_off c t more n Client over (webtransport_allows c.endpoint.side c.endpoint.webtransport on) side h off
foreign_by c [] more n false on over side h off = absurd (omega (arith, encoding_not_empty n [] h))
foreign_by c (b ∷ t) more n false on over side h off = forbidden_run c b (t ++ more) over side on

pub foreign : (c : Connection) (t more : List ℕ) (n : ℕ) → c.over ≡ false → c.endpoint.side ≡ Client → Encodes n t → (n ≡ 0x41 → c.endpoint.webtransport ≡ false) → run_stream c Bi (t ++ more) ≡ breaks c (fault.Stream stream.StreamCreation)
foreign c t more n over side h off = foreign_by c t more n c.endpoint.webtransport refl over side h off

broken_end : (c : Connection) (f : StreamFault) → ended (breaks c (fault.Stream f)) ≡ breaks c (fault.Stream f)
broken_end c f = elim (closed_by c (fault.Stream f)).over as (λ b. cond b (breaks c (fault.Stream f)) (breaks c (fault.Stream f)) ≡ breaks c (fault.Stream f)) [ true ↦ refl | false ↦ refl ]

empty_run : (c : Connection) → c.over ≡ false → ended (run_stream c Bi []) ≡ by_fault c (end_unopened c.endpoint [])
empty_run c over =
    ap (λ (y : StreamRun). ended y) (run_no_bytes c Bi)
    ∙ ap (λ (b : Bool). cond b (rests c Bi []) (followed [] (ending c Bi []))) over

pub forbidden_end : (c : Connection) (bytes : List ℕ) → c.over ≡ false → c.endpoint.side ≡ Client → c.endpoint.webtransport ≡ false → ended (run_stream c Bi bytes) ≡ breaks c (fault.Stream stream.StreamCreation)
forbidden_end c [] over side off = empty_run c over ∙ ap (λ (o : Result (Unit {0}) StreamFault). by_fault c o) (unopened_forbidden c.endpoint [] (client_forbids c.endpoint side off))
forbidden_end c (b ∷ bytes) over side off = ap (λ (y : StreamRun). ended y) (forbidden_run c b bytes over side off) ∙ broken_end c stream.StreamCreation

pub forbidden_reset : (c : Connection) → c.over ≡ false → c.endpoint.side ≡ Client → c.endpoint.webtransport ≡ false → resets c Bi ≡ refuses c stream.StreamCreation
forbidden_reset c over side off =
    ap (λ (b : Bool). cond (not b && not c.over) (refuses c stream.StreamCreation) (without c Bi, over_from Bi, reset_answer c Bi)) (client_forbids c.endpoint side off)
    ∙ ap (λ (b : Bool). cond (not b) (refuses c stream.StreamCreation) (without c Bi, over_from Bi, reset_answer c Bi)) over

empty_by : (side : Side) (on : Bool) → side ≡ Client → on ≡ true → cond (may_open side on) (end_by_number side [] None) (Err stream.StreamCreation) ≡ Ok tt
empty_by Client on s h = ap (λ (b : Bool). cond b (Ok tt) (Err stream.StreamCreation)) h
empty_by Server on s h = absurd (cc s)

-- one without a byte, where it may open streams
pub empty_end : (c : Connection) → c.over ≡ false → c.endpoint.side ≡ Client → c.endpoint.webtransport ≡ true → ended (run_stream c Bi []) ≡ all_given c Over (Ended ∷ [])
empty_end c over side on =
    empty_run c over
    ∙ ap (λ (o : Result (Unit {0}) StreamFault). by_fault c o) (empty_first c.endpoint ∙ empty_by c.endpoint.side c.endpoint.webtransport side on)

-- ---- pushes, and streams that may be opened once

pub push_to_client : (c : Connection) (t more : List ℕ) → c.over ≡ false → c.endpoint.side ≡ Client → Encodes 0x01 t → run_stream c Uni (t ++ more) ≡ breaks c (fault.Stream stream.Id)
push_to_client c t more over side h = uni_run c t more 0x01 over h ∙ ap (λ (x : Side). breaks c (push_fault x)) side

pub push_to_server : (c : Connection) (t more : List ℕ) → c.over ≡ false → c.endpoint.side ≡ Server → Encodes 0x01 t → run_stream c Uni (t ++ more) ≡ breaks c (fault.Stream stream.StreamCreation)
push_to_server c t more over side h = uni_run c t more 0x01 over h ∙ ap (λ (x : Side). breaks c (push_fault x)) side

pub second_control : (c : Connection) (t more : List ℕ) → c.over ≡ false → c.control ≡ true → Encodes 0x00 t → run_stream c Uni (t ++ more) ≡ breaks c (fault.Stream stream.StreamCreation)
second_control c t more over was h = uni_run c t more 0x00 over h ∙ ap (λ (b : Bool). by_purpose c «for».Control more (opens_once b (with_control c) (Frames (control_reader c.endpoint) false))) was

pub second_encoder : (c : Connection) (t more : List ℕ) → c.over ≡ false → c.encoder ≡ true → Encodes 0x02 t → run_stream c Uni (t ++ more) ≡ breaks c (fault.Stream stream.StreamCreation)
second_encoder c t more over was h = uni_run c t more 0x02 over h ∙ ap (λ (b : Bool). by_purpose c «for».Encoder more (opens_once b (record c { encoder = true }) Encoder)) was

pub second_decoder : (c : Connection) (t more : List ℕ) → c.over ≡ false → c.decoder ≡ true → Encodes 0x03 t → run_stream c Uni (t ++ more) ≡ breaks c (fault.Stream stream.StreamCreation)
second_decoder c t more over was h = uni_run c t more 0x03 over h ∙ ap (λ (b : Bool). by_purpose c «for».Decoder more (opens_once b (record c { decoder = true }) (Decoder Between))) was
