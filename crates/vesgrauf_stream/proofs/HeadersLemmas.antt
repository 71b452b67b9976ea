-- A section whose frame was not queued.
use Rattle.std.proofs.Common.{◌≡◌, ℕ, Bool, true, List, length, Result, Ok, Err, IfErr, inr, sym, ap, subst, ◌∙◌}
use Rattle.wtp_qpack.specs.Field.{Field}
use Rattle.wtp_dynamic_encoder.specs.Encoding.{State as Encoder}
use Rattle.wtp_sending.specs.declared.error.SendError.{SendError}
use Rattle.wtp_sending.specs.declared.message.Sending.{Sending}
use Rattle.wtp_sending.specs.Encoded.{IsEncoded, IsTakenBack, section_wire, SendsHeadAs, SendsTrailersAs}
use Rattle.wtp_sending.proofs.EncodedLemmas.{taken_back}
use Rattle.vesgrauf_stream.specs.declared.error.NotSent.{NotSent}
use Rattle.vesgrauf_stream.specs.declared.tools.Tools.{Tools}
use Rattle.vesgrauf_stream.specs.declared.writing.Writing.{Writing}
use Rattle.vesgrauf_stream.specs.Errors.{sending}
use Rattle.vesgrauf_stream.specs.Headers.{Leading, Encodes, keeps_sections, RefusesFrame, RefusesAsHead, RefusesAsTrailers}
use Rattle.vesgrauf_stream.specs.Writing.{ends_if, RefusesBy}

back : (stream : ℕ) (fields : List Field) (old mid new : Encoder) (before between after section : List ℕ)
    → IsEncoded stream fields old mid before between section → new ≡ keeps_sections (length old.ledger.1) mid → after ≡ between
    → IsTakenBack stream fields old new before after section
back stream fields old mid new before between after section encoded is same =
    subst (λ (bytes : List ℕ). IsTakenBack stream fields old new before bytes section) (sym same)
    (taken_back stream fields encoded.proposals old mid new before between section encoded.are encoded.encodes is)

end_refused : (F : Leading) (G : Sending → SendError → Type 0) (first : Sending) (fields : List Field) (fin : Bool) (t m u : Tools) (section : List ℕ) (next : Sending) (w : Writing) (e : NotSent)
    → F section first fields next → Encodes first.id fields section t m
    → u.encoder ≡ keeps_sections (length t.encoder.ledger.1) m.encoder → u.instructions.items ≡ m.instructions.items
    → RefusesBy (sending (ends_if fin next)) w (length (section_wire section)) e
    → RefusesFrame F G first fields fin t u w e
end_refused F G first fields fin t m u section next w e leads encoded is same refused =
    inr (section, next, leads, back first.id fields t.encoder m.encoder u.encoder t.instructions.items m.instructions.items u.instructions.items section encoded is same, refused)

-- the same of the result of a call
frame_refused : (F : Leading) (G : Sending → SendError → Type 0) (first : Sending) (fields : List Field) (fin : Bool) (t m u : Tools) (next : Sending) (w : Writing) (count : ℕ) (result : Result (Unit {0}) NotSent)
    → (section : List ℕ) × F section first fields next × Encodes first.id fields section t m × (m.scratch.items ≡ section_wire section)
    → IfErr result (λ e. RefusesBy (sending (ends_if fin next)) w (length m.scratch.items) e × (u.encoder ≡ keeps_sections count m.encoder))
    → count ≡ length t.encoder.ledger.1 → u.instructions.items ≡ m.instructions.items
    → IfErr result (λ e. RefusesFrame F G first fields fin t u w e)
frame_refused F G first fields fin t m u next w count (Ok x) written refused counted same = tt
frame_refused F G first fields fin t m u next w count (Err e) (section, leads, encoded, wire) (refused, is) counted same =
    end_refused F G first fields fin t m u section next w e leads encoded
    (is ∙ ap (λ (n : ℕ). keeps_sections n m.encoder) counted) same
    (subst (λ (bytes : List ℕ). RefusesBy (sending (ends_if fin next)) w (length bytes) e) wire refused)

-- HEADERS, and trailers
pub head_refused : (first : Sending) (fields : List Field) (fin : Bool) (t m u : Tools) (next : Sending) (w : Writing) (count : ℕ) (result : Result (Unit {0}) NotSent)
    → (section : List ℕ) × SendsHeadAs section first fields next × Encodes first.id fields section t m × (m.scratch.items ≡ section_wire section)
    → IfErr result (λ e. RefusesBy (sending (ends_if fin next)) w (length m.scratch.items) e × (u.encoder ≡ keeps_sections count m.encoder))
    → count ≡ length t.encoder.ledger.1 → u.instructions.items ≡ m.instructions.items
    → IfErr result (λ e. RefusesFrame SendsHeadAs (RefusesAsHead fields t u) first fields fin t u w e)
head_refused first fields fin t m u next w count result written refused counted same =
    frame_refused SendsHeadAs (RefusesAsHead fields t u) first fields fin t m u next w count result written refused counted same

pub trailers_refused : (first : Sending) (fields : List Field) (t m u : Tools) (next : Sending) (w : Writing) (count : ℕ) (result : Result (Unit {0}) NotSent)
    → (section : List ℕ) × SendsTrailersAs section first fields next × Encodes first.id fields section t m × (m.scratch.items ≡ section_wire section)
    → IfErr result (λ e. RefusesBy (sending (ends_if true next)) w (length m.scratch.items) e × (u.encoder ≡ keeps_sections count m.encoder))
    → count ≡ length t.encoder.ledger.1 → u.instructions.items ≡ m.instructions.items
    → IfErr result (λ e. RefusesFrame SendsTrailersAs (RefusesAsTrailers fields t u) first fields true t u w e)
trailers_refused first fields t m u next w count result written refused counted same =
    frame_refused SendsTrailersAs (RefusesAsTrailers fields t u) first fields true t m u next w count result written refused counted same
