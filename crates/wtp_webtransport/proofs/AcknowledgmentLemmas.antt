-- The acknowledgment that is due after a cancellation.
use Rattle.std.proofs.Common.{◌≡◌, ℕ, ◌^◌, ◌<◌, Bool, true, false, cond, ltb, Option, Some, None, refl, sym, ap, ◌∙◌, eq-eqb}
use Rattle.std.proofs.lemmas.Bool.{ne_eqb, lt-ltb}
use Rattle.wtp_dynamic_decoder.specs.Decoder.{Decoder, cancelled}
use Rattle.wtp_webtransport.specs.declared.connection.Connection.{Connection}
use Rattle.wtp_webtransport.specs.declared.unacknowledged.Unacknowledged.{Unacknowledged}
use Rattle.wtp_webtransport.specs.Unacknowledged.{just_read, due_on, still_due}
use Rattle.wtp_webtransport.specs.Tables.{due_section_of, due_read, after_cancel}

-- what is due on a stream, by whether the one that was cancelled is noted, and is that stream
abbrev noted : ℕ → ℕ → Bool → Option Unacknowledged
noted required other valid = cond valid (Some (record { required = required; cancelled = Some other })) (Some (just_read required))

other_due : (valid : Bool) (required other id : ℕ) → (other ≡ id → ⊥) → due_on (noted required other valid) id ≡ Some required
other_due true required other id h = ap (λ (b : Bool). cond b None (Some required)) (ne_eqb other id h)
other_due false required other id h = refl

-- the table of a decoder is that before a cancellation
same_table : (d : Decoder) (other id : ℕ) (due : Option ℕ) → due_section_of (cancelled other d) due id ≡ due_section_of d due id
same_table d other id None = refl
same_table d other id (Some required) = refl

after_is : (c : Connection) (d : Decoder) (required other id : ℕ) → c.decoder ≡ Some d → c.read ≡ Some (just_read required) → due_read (after_cancel c.decoder other c).decoder (after_cancel c.decoder other c).read id ≡ due_section_of (cancelled other d) (due_on (still_due (Some (just_read required)) other) id) id
after_is c d required other id table read =
    ap (λ (x : Option Decoder). due_read (after_cancel x other c).decoder (after_cancel x other c).read id) table
    ∙ ap (λ (x : Option Unacknowledged). due_section_of (cancelled other d) (due_on (still_due x other) id) id) read

before_is : (c : Connection) (d : Decoder) (required id : ℕ) → c.decoder ≡ Some d → c.read ≡ Some (just_read required) → due_read c.decoder c.read id ≡ due_section_of d (Some required) id
before_is c d required id table read =
    ap (λ (x : Option Decoder). due_read x c.read id) table
    ∙ ap (λ (x : Option Unacknowledged). due_section_of d (due_on x id) id) read

pub other_kept : (d : Decoder) (c : Connection) (required other id : ℕ) → c.decoder ≡ Some d → c.read ≡ Some (just_read required) → (other ≡ id → ⊥) → due_read (after_cancel c.decoder other c).decoder (after_cancel c.decoder other c).read id ≡ due_read c.decoder c.read id
other_kept d c required other id table read h =
    after_is c d required other id table read
    ∙ ap (λ (x : Option ℕ). due_section_of (cancelled other d) x id) (other_due (ltb other (2 ^ 62)) required other id h)
    ∙ same_table d other id (Some required)
    ∙ sym (before_is c d required id table read)

pub own_taken : (d : Decoder) (c : Connection) (required id : ℕ) → c.decoder ≡ Some d → c.read ≡ Some (just_read required) → id < 2 ^ 62 → due_read (after_cancel c.decoder id c).decoder (after_cancel c.decoder id c).read id ≡ None
own_taken d c required id table read fits =
    after_is c d required id id table read
    ∙ ap (λ (b : Bool). due_section_of (cancelled id d) (due_on (noted required id b) id) id) (lt-ltb id (2 ^ 62) fits)
    ∙ ap (λ (b : Bool). due_section_of (cancelled id d) (cond b None (Some required)) id) (eq-eqb id id refl)
