-- Sizes of entries, one place after the other.
use Rattle.std.proofs.Common.{◌≡◌, ℕ, ◌+◌, ◌<◌, ◌≤◌, List, [], ◌∷◌, length, drop, get_or, refl, ◌∙◌, ap, subst, arith}
use Rattle.std.proofs.lemmas.Bool.{le-leb, lt-leb}
use Rattle.std.proofs.Math.Seq.{drop-cons}
use Rattle.std.proofs.Math.Numerals.{add-one}
use Rattle.wtp_qpack.specs.Field.{Field}
use Rattle.wtp_dynamic.specs.Table.{entry_size, table_size, excess}

drop_place : (es : List Field) (i : ℕ) (d : Field) → i < length es → drop i es ≡ get_or es i d ∷ drop (i + 1) es
drop_place es i d lt = rw (add-one i) (drop-cons es i d lt)

pub size_step : (es : List Field) (i : ℕ) (d : Field) → i < length es → table_size (drop i es) ≡ entry_size (get_or es i d) + table_size (drop (i + 1) es)
size_step es i d lt = ap table_size (drop_place es i d lt)

pub excess_fits : (room : ℕ) (es : List Field) → table_size es ≤ room → excess room es ≡ 0
excess_fits room [] fits = refl
excess_fits room (e ∷ es) fits = rw (le-leb (table_size (e ∷ es)) room fits) refl

pub excess_step : (room : ℕ) (es : List Field) (i : ℕ) (d : Field) → i < length es → room < table_size (drop i es) → excess room (drop i es) ≡ excess room (drop (i + 1) es) + 1
excess_step room es i d lt over =
    let cons : drop i es ≡ get_or es i d ∷ drop (i + 1) es = drop_place es i d lt in
    let more : room < table_size (get_or es i d ∷ drop (i + 1) es) = subst (λ (z : List Field). room < table_size z) cons over in
    ap (excess room) cons ∙ rw (lt-leb (table_size (get_or es i d ∷ drop (i + 1) es)) room more) (omega arith)

pub ruleset room_steps = (excess_step, excess_fits, size_step)
