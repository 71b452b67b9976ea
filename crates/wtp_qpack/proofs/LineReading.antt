-- Lines by their first byte.
use Rattle.std.proofs.Common.{◌≡◌, ℕ, ◌<◌, ◌≤◌, List, [], ◌∷◌, length, get_or, refl, arith, Err}
use Rattle.wtp_qpack.specs.declared.qpack.DecodingError.TheVariants.{UnexpectedFin}
use Rattle.wtp_qpack.specs.declared.qpack.string_literal.Texts.{Texts}
use Rattle.wtp_qpack.specs.FieldLine.{representation_of, line_by, line_in, has_coded, is_coded_in}

pub line_none : (texts : Texts) (bytes : List ℕ) → length bytes < 1 → line_in texts bytes ≡ Err UnexpectedFin
unfolding line_in
line_none texts [] h = refl
line_none texts (b ∷ bs) h = absurd (omega arith)

pub line_form : (texts : Texts) (bytes : List ℕ) → 1 ≤ length bytes → line_in texts bytes ≡ line_by texts (representation_of (get_or bytes 0 0)) bytes
unfolding line_in
line_form texts [] some = absurd (omega arith)
line_form texts (b ∷ bs) some = refl

pub coded_form : (texts : Texts) (bytes : List ℕ) → 1 ≤ length bytes → is_coded_in texts bytes ≡ has_coded texts (representation_of (get_or bytes 0 0)) bytes
unfolding is_coded_in
coded_form texts [] some = absurd (omega arith)
coded_form texts (b ∷ bs) some = refl
