-- Sections that are read with a dynamic table, and calls of a connection without one.
use Rattle.std.proofs.Common.{◌≡◌, ℕ, Bool, true, false, cond, List, [], ◌∷◌, Option, Some, None, Result, refl, sym, ap, subst, ◌∙◌}
use Rattle.wtp_connection.specs.declared.stream.Stream.{Stream as Frames}
use Rattle.wtp_connection.specs.declared.stream.Stream.TheVariants as frames
use Rattle.wtp_dynamic_decoder.specs.Decoder.{Decoder}
use Rattle.wtp_qpack.specs.Field.{Field}
use Rattle.wtp_dynamic_fields.specs.declared.section.Decoded.{Decoded}
use Rattle.wtp_dynamic_fields.specs.declared.section.TableSectionError.{TableSectionError}
use Rattle.wtp_frames.specs.Reading.{slice}
use Rattle.wtp_messages.specs.declared.message.Message.{Message}
use Rattle.wtp_webtransport.specs.declared.connection.messages.Span.{Span}
use Rattle.wtp_webtransport.specs.declared.fault.Fault.TheVariants as fault
use Rattle.wtp_webtransport.specs.declared.connection.Connection.{Connection}
use Rattle.wtp_webtransport.specs.declared.stream.Stream.{Stream}
use Rattle.wtp_webtransport.specs.Events.{Told}
use Rattle.wtp_webtransport.specs.Receiving.{Outcome, Receives, fails, read_after, ReadGives, HasRead, OverGives, DecodedBy, TableGives}
use Rattle.wtp_webtransport.specs.Tables.{without_read, instructed, instructed_by, CallBy, Call}
use Rattle.wtp_webtransport.specs.Words.{without_table}

none_instructed : (t : Frames) (bytes : List ℕ) → instructed_by None t bytes ≡ None
none_instructed frames.Encoder [] = refl
none_instructed frames.Encoder (b ∷ bytes) = refl
none_instructed t bytes = refl

either : (b : Bool) (x : Option Decoder) → x ≡ None → cond b None x ≡ None
either true x e = refl
either false x e = e

pub not_instructed : (c : Connection) (s : Stream) (bytes : List ℕ) → c.decoder ≡ None → instructed c s bytes ≡ None
not_instructed c s bytes e =
    either c.over (instructed_by c.decoder s.frames bytes)
    (ap (λ (d : Option Decoder). instructed_by d s.frames bytes) e ∙ none_instructed s.frames bytes)

pub call_alone : (limit : ℕ) (c : Connection) (s : Stream) (bytes : List ℕ) (fin : Bool) (o : Outcome) → without_table c ≡ c → Call limit c s bytes fin o → Receives limit c s bytes fin o
call_alone limit c s bytes fin o e g =
    let same : without_read c ≡ c = sym (ap without_read e) ∙ e in
    subst (λ (x : Connection). Receives limit x s bytes fin o) same
    (subst (λ (d : Option Decoder). CallBy d limit (without_read c) s bytes fin o)
    (not_instructed c s bytes (sym (ap (λ (x : Connection). x.decoder) e))) g)

pub call_read : (limit : ℕ) (c : Connection) (s : Stream) (bytes : List ℕ) (fin : Bool) (o : Outcome) → instructed c s bytes ≡ None → Receives limit (without_read c) s bytes fin o → Call limit c s bytes fin o
call_read limit c s bytes fin o e g = subst (λ (d : Option Decoder). CallBy d limit (without_read c) s bytes fin o) (sym e) g

-- ---- sections

same_read : (x y : Result Decoded TableSectionError) → Some x ≡ Some y → x ≡ y
same_read x y e = cc e

pub table_given : (d : Option Decoder) (limit : ℕ) (c : Connection) (s : Stream) (m : Message) (at : Span) (bytes : List ℕ) (r : Result Decoded TableSectionError) (o : Outcome) → DecodedBy d limit (slice at.start at.end bytes) (Some r) → OverGives c s m at r o → TableGives d limit c s m at bytes o
table_given None limit c s m at bytes r o is over = absurd (cc is)
table_given (Some d) limit c s m at bytes r o (x, reads, is) over =
    (x, reads, subst (λ (y : Result Decoded TableSectionError). OverGives c s m at y o) (same_read r x is) over)

pub table_refused : (d : Option Decoder) (limit : ℕ) (c : Connection) (s : Stream) (m : Message) (at : Span) (bytes : List ℕ) (o : Outcome) → DecodedBy d limit (slice at.start at.end bytes) None → o ≡ fails c s fault.SectionPrefix at.len → TableGives d limit c s m at bytes o
table_refused None limit c s m at bytes o is e = e
table_refused (Some d) limit c s m at bytes o (x, reads, is) e = absurd (cc is)

-- the fields of a section, and the connection after it
pub over_read : (fields : List Field) (required : ℕ) (c d e : Connection) (s t : Stream) (m : Message) (at : Span) (n : ℕ) (told : Told) → ReadGives c s m fields at (n, told, d, t) → e ≡ read_after told required d → HasRead c s m at fields required (n, told, e, t)
over_read fields required c d e s t m at n told gives is = ((n, told, d, t), gives, ap (λ (x : Connection). (n, told, x, t)) is)
