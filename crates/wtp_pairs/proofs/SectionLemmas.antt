-- Field sections, as the other end receives them.
use Rattle.std.proofs.Common.{◌≡◌, ℕ, Bool, true, false, List, [], Option, Some, None, Result, Ok, Err, refl, sym, ap, subst, ◌∙◌, ◌-◌}
use Rattle.wtp_qpack.specs.Field.{Field}
use Rattle.wtp_fields.specs.declared.fields.FieldSectionError.{FieldSectionError}
use Rattle.wtp_fields.specs.declared.fields.FieldSectionError.TheVariants as section_error
use Rattle.wtp_fields.specs.FieldList.{DecodesTo, Reaches}
use Rattle.wtp_dynamic.specs.declared.error.SectionError.{SectionError}
use Rattle.wtp_dynamic.specs.Section.{Prefix, prefix_at, is_blocked}
use Rattle.wtp_dynamic.specs.Table.{Table}
use Rattle.wtp_dynamic_decoder.specs.Decoder.{Decoder}
use Rattle.wtp_dynamic_fields.specs.declared.section.Decoded.{Decoded}
use Rattle.wtp_dynamic_fields.specs.declared.section.Decoded.TheVariants as decoded
use Rattle.wtp_dynamic_fields.specs.declared.section.TableSectionError.{TableSectionError}
use Rattle.wtp_dynamic_fields.specs.declared.section.TableSectionError.TheVariants as table_error
use Rattle.wtp_dynamic_fields.specs.Reading.{HasLinesIn, IsBlockedIn, TableGives as SectionReads}
use Rattle.wtp_dynamic_fields.proofs.AgainLemmas.{LacksMemory, read_same}
use Rattle.wtp_frames.specs.declared.endpoint.Endpoint.{Endpoint}
use Rattle.wtp_frames.specs.Reading.{slice}
use Rattle.wtp_messages.specs.declared.malformed.Malformed.{Malformed as Rule}
use Rattle.wtp_messages.specs.declared.message.Message.{Message}
use Rattle.wtp_messages.specs.declared.message.Section.{Section}
use Rattle.wtp_messages.specs.declared.message.Section.TheVariants as found
use Rattle.wtp_messages.specs.Message.{SectionComes}
use Rattle.wtp_webtransport.specs.declared.connection.Connection.{Connection}
use Rattle.wtp_webtransport.specs.declared.stream.Stream.{Stream}
use Rattle.wtp_webtransport.specs.Calls.{Continues, course_of, ruleless_taken}
use Rattle.wtp_webtransport.specs.declared.event.Waits.TheVariants as wait
use Rattle.wtp_webtransport.specs.declared.stream.Unread.TheVariants as unread
use Rattle.wtp_webtransport.specs.Events.{Told, Opened, Joins, Joined, Settings, Inserted, GoAway, Frame, Headers, SessionRequested, SessionReady, Rejected, SessionClosed, SessionLost, Datagram, Draining, Skipped, Data, StreamData, TooLarge, Malformed, StreamError, ConnectionError, Reset, End, NoMemory, Waits, More}
use Rattle.wtp_webtransport.specs.Prefix.{names_table}
use Rattle.wtp_webtransport.specs.Unacknowledged.{just_read}
use Rattle.wtp_webtransport.specs.Receiving.{Outcome, takes, taken_of, noted, read_after, HasRead, ReadGives, ResultGives, OverGives, TableGives, PrefixGives, DecodedGives, span_in}
use Rattle.wtp_webtransport.proofs.SectionLemmas.{Lacks, decoded_same, section_same}
use Rattle.wtp_pairs.specs.Encoded.{noted_in, HasFields, Alone, WithTable, IsAhead, waiting_at}

-- ---- what is noted of a section

abbrev pub told_as : Option ℕ → Outcome → Outcome
told_as None o = o
told_as (Some required) o = noted required o

-- an event that goes on is not one that waits
noted_after : (told : Told) (required : ℕ) (c : Connection) → course_of told ≡ Continues → read_after told required c ≡ record c { read = Some (just_read required) }
noted_after (Opened p) required c e = refl
noted_after (Joins id) required c e = refl
noted_after (Joined id) required c e = refl
noted_after (Settings v payload) required c e = refl
noted_after (Inserted count) required c e = refl
noted_after (GoAway id) required c e = refl
noted_after (Frame k payload) required c e = refl
noted_after (Headers k fields) required c e = refl
noted_after (SessionRequested fields) required c e = refl
noted_after (SessionReady status fields) required c e = refl
noted_after (Rejected status fields) required c e = refl
noted_after (SessionClosed close) required c e = refl
noted_after SessionLost required c e = refl
noted_after (Datagram payload) required c e = refl
noted_after Draining required c e = refl
noted_after Skipped required c e = refl
noted_after (Data piece) required c e = refl
noted_after (StreamData piece) required c e = refl
noted_after (TooLarge size) required c e = refl
noted_after (Malformed rule) required c e = refl
noted_after (StreamError f) required c e = refl
noted_after (ConnectionError f) required c e = refl
noted_after (Reset f) required c e = refl
noted_after End required c e = refl
noted_after NoMemory required c e = refl
noted_after (Waits why) required c e = absurd (cc e)
noted_after More required c e = refl

pub told_in : (need : Option ℕ) (n : ℕ) (told : Told) (c : Connection) (u : Stream) → course_of told ≡ Continues → told_as need (n, told, c, u) ≡ (n, told, noted_in need c, u)
told_in None n told c u goes = refl
told_in (Some required) n told c u goes = ap (λ (d : Connection). (n, told, d, u)) (noted_after told required c goes)

-- ---- a section that was sent is decoded

-- what comes of it: it is read, or memory was wanting
pub data Comes (need : Option ℕ) (c : Connection) (s : Stream) (m : Message) (fields : List Field) (start end : ℕ) (bytes : List ℕ) (o : Outcome) : Type 0 where
  Reads : (p : Outcome) → ReadGives c s m fields (span_in start end bytes) p → o ≡ told_as need p → Comes need c s m fields start end bytes o
  Lacking : o ≡ (start, NoMemory, c, record s { unread = unread.Section (end - start) }) → Comes need c s m fields start end bytes o

-- without a table
alone_is : (limit : ℕ) (section : List ℕ) (fields : List Field) (r : Result (List Field) FieldSectionError) → Reaches limit section fields [] → DecodesTo limit section r → (Lacks r → ⊥) → r ≡ Ok fields
alone_is limit section fields r reached h some = decoded_same limit section r (Ok fields) some (λ n. n) h reached

alone_comes : (limit : ℕ) (c : Connection) (s : Stream) (m : Message) (section : List ℕ) (fields : List Field) (start end : ℕ) (bytes : List ℕ) (o : Outcome) (r : Result (List Field) FieldSectionError) → Reaches limit section fields [] → DecodesTo limit section r → ResultGives c s m (span_in start end bytes) r o → Comes None c s m fields start end bytes o
alone_comes limit c s m section fields start end bytes o (Ok xs) reached h g =
    Reads o (subst (λ (r : Result (List Field) FieldSectionError). ResultGives c s m (span_in start end bytes) r o) (alone_is limit section fields (Ok xs) reached h (λ n. n)) g) refl
alone_comes limit c s m section fields start end bytes o (Err section_error.Memory) reached h g = Lacking g
alone_comes limit c s m section fields start end bytes o (Err section_error.TooLarge) reached h g =
    absurd (no_error section_error.TooLarge (alone_is limit section fields (Err section_error.TooLarge) reached h (λ n. n)))
  where
    no_error : (e : FieldSectionError) → ◌≡◌ {A = Result (List Field) FieldSectionError} (Err e) (Ok fields) → ⊥
    no_error e is = cc
alone_comes limit c s m section fields start end bytes o (Err (section_error.Decoding e)) reached h g =
    absurd (no_error (section_error.Decoding e) (alone_is limit section fields (Err (section_error.Decoding e)) reached h (λ n. n)))
  where
    no_error : (x : FieldSectionError) → ◌≡◌ {A = Result (List Field) FieldSectionError} (Err x) (Ok fields) → ⊥
    no_error x is = cc

-- with the table
over_is : (limit : ℕ) (table : Table) (section : List ℕ) (fields : List Field) (required : ℕ) (r : Result Decoded TableSectionError) → HasLinesIn limit table section required (Ok fields) → SectionReads limit table section r → (LacksMemory r → ⊥) → r ≡ Ok (decoded.Fields fields required)
over_is limit table section fields required r has h some = read_same limit table section r (Ok (decoded.Fields fields required)) some (λ n. n) h has

over_comes : (limit : ℕ) (c : Connection) (s : Stream) (m : Message) (table : Table) (section : List ℕ) (fields : List Field) (required start end : ℕ) (bytes : List ℕ) (o : Outcome) (r : Result Decoded TableSectionError) → HasLinesIn limit table section required (Ok fields) → SectionReads limit table section r → OverGives c s m (span_in start end bytes) r o → Comes (Some required) c s m fields start end bytes o
over_comes limit c s m table section fields required start end bytes o (Ok x) has h g =
    let read : HasRead c s m (span_in start end bytes) fields required o = subst (λ (r : Result Decoded TableSectionError). OverGives c s m (span_in start end bytes) r o) (over_is limit table section fields required (Ok x) has h (λ n. n)) g in
    Reads read.0 read.1 read.2
over_comes limit c s m table section fields required start end bytes o (Err table_error.Memory) has h g = Lacking g
over_comes limit c s m table section fields required start end bytes o (Err table_error.TooLarge) has h g =
    absurd (no_error table_error.TooLarge (over_is limit table section fields required (Err table_error.TooLarge) has h (λ n. n)))
  where
    no_error : (e : TableSectionError) → ◌≡◌ {A = Result Decoded TableSectionError} (Err e) (Ok (decoded.Fields fields required)) → ⊥
    no_error e is = cc
over_comes limit c s m table section fields required start end bytes o (Err (table_error.Section e)) has h g =
    absurd (no_error (table_error.Section e) (over_is limit table section fields required (Err (table_error.Section e)) has h (λ n. n)))
  where
    no_error : (x : TableSectionError) → ◌≡◌ {A = Result Decoded TableSectionError} (Err x) (Ok (decoded.Fields fields required)) → ⊥
    no_error x is = cc

pub section_comes : (limit : ℕ) (c : Connection) (s : Stream) (m : Message) (start end : ℕ) (bytes : List ℕ) (section : List ℕ) (fields : List Field) (need : Option ℕ) (o : Outcome) → HasFields limit c.decoder section fields need → slice start end bytes ≡ section → DecodedGives limit c s m (span_in start end bytes) bytes o → Comes need c s m fields start end bytes o
section_comes limit c s m start end bytes section fields need o (Alone plain reached none) same h =
    let at : names_table (slice start end bytes) ≡ false = ap names_table same ∙ plain in
    let g : PrefixGives false limit c s m (span_in start end bytes) bytes o = subst (λ (b : Bool). PrefixGives b limit c s m (span_in start end bytes) bytes o) at h in
    subst (λ (n : Option ℕ). Comes n c s m fields start end bytes o) (sym none)
    (alone_comes limit c s m section fields start end bytes o g.0 reached (subst (λ (l : List ℕ). DecodesTo limit l g.0) same g.1) g.2)
section_comes limit c s m start end bytes section fields need o (WithTable d required table names lines is) same h =
    let at : names_table (slice start end bytes) ≡ true = ap names_table same ∙ names in
    let g : PrefixGives true limit c s m (span_in start end bytes) bytes o = subst (λ (b : Bool). PrefixGives b limit c s m (span_in start end bytes) bytes o) at h in
    let t : TableGives (Some d) limit c s m (span_in start end bytes) bytes o = subst (λ (x : Option Decoder). TableGives x limit c s m (span_in start end bytes) bytes o) table g in
    subst (λ (n : Option ℕ). Comes n c s m fields start end bytes o) (sym is)
    (over_comes limit c s m d.table section fields required start end bytes o t.0 lines (subst (λ (l : List ℕ). SectionReads limit d.table l t.0) same t.1) t.2)

-- ---- a section that waits for the table

blocked_is : (limit : ℕ) (table : Table) (section : List ℕ) (required : ℕ) (r : Result Decoded TableSectionError) → IsBlockedIn table section required → SectionReads limit table section r → r ≡ Ok (decoded.Blocked required)
blocked_is limit table section required (Ok x) blocked h = read_same limit table section (Ok x) (Ok (decoded.Blocked required)) (λ n. n) (λ n. n) h blocked
blocked_is limit table section required (Err table_error.Memory) blocked h =
    absurd (both (is_blocked table blocked.prefix) (ap (is_blocked table) (prefix_is (prefix_at table section) blocked.prefix h.1.prefix blocked.is h.1.is) ∙ h.1.free) blocked.blocked)
  where
    prefix_is : (r : Result Prefix SectionError) (x y : Prefix) → r ≡ Ok x → r ≡ Ok y → x ≡ y
    prefix_is r x y a b = cc

    both : (b : Bool) → b ≡ false → b ≡ true → ⊥
    both b x y = cc
blocked_is limit table section required (Err table_error.TooLarge) blocked h = read_same limit table section (Err table_error.TooLarge) (Ok (decoded.Blocked required)) (λ n. n) (λ n. n) h blocked
blocked_is limit table section required (Err (table_error.Section e)) blocked h = read_same limit table section (Err (table_error.Section e)) (Ok (decoded.Blocked required)) (λ n. n) (λ n. n) h blocked

pub section_early : (limit : ℕ) (e : Endpoint) (c : Connection) (s : Stream) (m : Message) (start end : ℕ) (bytes : List ℕ) (section : List ℕ) (required : ℕ) (o : Outcome) → IsAhead e c section required → slice start end bytes ≡ section → DecodedGives limit c s m (span_in start end bytes) bytes o → o ≡ (start, Waits (wait.Table required), c, waiting_at s (end - start) required)
section_early limit e c s m start end bytes section required o ahead same h =
    let at : names_table (slice start end bytes) ≡ true = ap names_table same ∙ ahead.names in
    let g : PrefixGives true limit c s m (span_in start end bytes) bytes o = subst (λ (b : Bool). PrefixGives b limit c s m (span_in start end bytes) bytes o) at h in
    let t : TableGives (Some ahead.decoder) limit c s m (span_in start end bytes) bytes o = subst (λ (x : Option Decoder). TableGives x limit c s m (span_in start end bytes) bytes o) ahead.is g in
    subst (λ (r : Result Decoded TableSectionError). OverGives c s m (span_in start end bytes) r o) (blocked_is limit ahead.decoder.table section required t.0 ahead.blocked (subst (λ (l : List ℕ). SectionReads limit ahead.decoder.table l t.0) same t.1)) t.2

-- ---- it is accepted as what was sent

takes_as : (c : Connection) (s : Stream) (n : Message) (fields : List Field) (start end : ℕ) (bytes : List ℕ) (x : Result Section Rule) (y : Section) → ruleless_taken (taken_of x) ≡ ruleless_taken (taken_of (Ok y)) → takes c s n fields (span_in start end bytes) (taken_of x) ≡ takes c s n fields (span_in start end bytes) (taken_of (Ok y))
takes_as c s n fields start end bytes (Ok (found.Request a)) (found.Request b) e = refl
takes_as c s n fields start end bytes (Ok (found.Request a)) (found.Interim b) e = absurd (cc)
takes_as c s n fields start end bytes (Ok (found.Request a)) (found.Response b) e = absurd (cc)
takes_as c s n fields start end bytes (Ok (found.Request a)) found.Trailers e = absurd (cc)
takes_as c s n fields start end bytes (Ok (found.Interim a)) (found.Request b) e = absurd (cc)
takes_as c s n fields start end bytes (Ok (found.Interim a)) (found.Interim b) e = ap (takes c s n fields (span_in start end bytes)) e
takes_as c s n fields start end bytes (Ok (found.Interim a)) (found.Response b) e = absurd (cc)
takes_as c s n fields start end bytes (Ok (found.Interim a)) found.Trailers e = absurd (cc)
takes_as c s n fields start end bytes (Ok (found.Response a)) (found.Request b) e = absurd (cc)
takes_as c s n fields start end bytes (Ok (found.Response a)) (found.Interim b) e = absurd (cc)
takes_as c s n fields start end bytes (Ok (found.Response a)) (found.Response b) e = ap (takes c s n fields (span_in start end bytes)) e
takes_as c s n fields start end bytes (Ok (found.Response a)) found.Trailers e = absurd (cc)
takes_as c s n fields start end bytes (Ok found.Trailers) (found.Request b) e = absurd (cc)
takes_as c s n fields start end bytes (Ok found.Trailers) (found.Interim b) e = absurd (cc)
takes_as c s n fields start end bytes (Ok found.Trailers) (found.Response b) e = absurd (cc)
takes_as c s n fields start end bytes (Ok found.Trailers) found.Trailers e = refl
takes_as c s n fields start end bytes (Err rule) (found.Request b) e = absurd (cc)
takes_as c s n fields start end bytes (Err rule) (found.Interim b) e = absurd (cc)
takes_as c s n fields start end bytes (Err rule) (found.Response b) e = absurd (cc)
takes_as c s n fields start end bytes (Err rule) found.Trailers e = absurd (cc)

pub section_taken : (c : Connection) (s : Stream) (m new : Message) (start end : ℕ) (bytes : List ℕ) (fields : List Field) (y : Section) (o : Outcome) → SectionComes m.stage m fields (Ok y) new → ReadGives c s m fields (span_in start end bytes) o → o ≡ takes c s new fields (span_in start end bytes) (taken_of (Ok y))
section_taken c s m new start end bytes fields y o comes (x, n, came, is) =
    let same = section_same m.stage m fields x (Ok y) n new came comes in
    is
    ∙ takes_as c s n fields start end bytes x y same.taken
    ∙ ap (λ (k : Message). takes c s k fields (span_in start end bytes) (taken_of (Ok y))) same.message
