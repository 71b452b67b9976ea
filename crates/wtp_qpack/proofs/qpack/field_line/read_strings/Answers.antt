use Rattle.std.proofs.Common.{ap, List, ℕ}
use Rattle.wtp_qpack.proofs.LineTexts.{line_utf8}
use Rattle.wtp_qpack.proofs.qpack.field_line.read_strings.Goals as goal

pub string_of-requires : goal.string_of-requires
string_of-requires c =
    let both = line_utf8 _ _ _ c.in_ok-parts.ensures.read in
    rw (ap (λ (texts : List ℕ × List ℕ). texts.0) c.texts.ensures, c.as_slice.ensures.value) both.0

pub string_of-requires-2 : goal.string_of-requires-2
string_of-requires-2 c =
    let both = line_utf8 _ _ _ c.in_ok-parts.ensures.read in
    rw (ap (λ (texts : List ℕ × List ℕ). texts.1) c.texts.ensures, c.as_slice.ensures.value) both.1
