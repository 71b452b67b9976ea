-- The bytes after the complete numbers at the start of bytes.
use Rattle.std.proofs.Common.{◌≡◌, ℕ, List, Some, None, refl, sym, ap, ◌∙◌}
use Rattle.wtp_core.specs.Varint.{number_at}
use Rattle.wtp_wire.specs.PastNumber.{past_number, past_two}

pub past_number-none : (bytes : List ℕ) → number_at bytes ≡ None → past_number bytes ≡ bytes
unfolding past_number
past_number-none bytes e = rw e refl

pub past_number-some : (bytes rest : List ℕ) (n : ℕ) → number_at bytes ≡ Some (n, rest) → past_number bytes ≡ rest
unfolding past_number
past_number-some bytes rest n e = rw e refl

-- no number is taken, because none is complete
pub left-none : (left bytes : List ℕ) → number_at bytes ≡ None → left ≡ bytes → left ≡ past_number bytes
left-none left bytes e same = same ∙ sym (past_number-none bytes e)

pub left-two_none : (left bytes : List ℕ) → number_at bytes ≡ None → left ≡ bytes → left ≡ past_two bytes
left-two_none left bytes e same = same ∙ sym (past_number-none bytes e) ∙ ap past_number (sym (past_number-none bytes e))

pub left-one : (left bytes mid : List ℕ) (n : ℕ) → number_at bytes ≡ Some (n, mid) → number_at mid ≡ None → left ≡ mid → left ≡ past_two bytes
left-one left bytes mid n e f same = same ∙ sym (past_number-none mid f) ∙ ap past_number (sym (past_number-some bytes mid n e))

pub left-two : (left bytes mid : List ℕ) (n m : ℕ) → number_at bytes ≡ Some (n, mid) → number_at mid ≡ Some (m, left) → left ≡ past_two bytes
left-two left bytes mid n m e f = sym (past_number-some mid left m f) ∙ ap past_number (sym (past_number-some bytes mid n e))
