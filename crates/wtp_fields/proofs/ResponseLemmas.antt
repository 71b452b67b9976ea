-- Responses: the status of a map, and changes that keep it.
use Rattle.std.proofs.Common.{◌≡◌, ℕ, ◌<◌, true, false, cond, List, codes, decimal, slice_index, get_or, refl, sym, ◌∙◌, ap, subst, arith, Option, Some, None, IsSome, is_some, IsSomeAnd, Result, Ok, Err, IsOk, is_err, ne_eqb}
use Rattle.std.proofs.lemmas.Fmt.{decimal_is_IsNumeral, first_decimal}
use Rattle.std.specs.Result.{OkIff}
use Rattle.std.specs.Str.{bytes_eq}
use Rattle.std.specs.Str.Parse.{without_leading_plus}
use Rattle.wtp_core.specs.Ids.{IsStatus, IsStatusText, status_in}
use Rattle.wtp_qpack.specs.Field.{Field, put}
use Rattle.wtp_fields.specs.SessionResponse.{status_value, HasStatus}
use Rattle.wtp_qpack.proofs.FieldMaps.{value_put}

-- ---- the status of a map

-- the value of `:status`
pub record StatusText (m : List Field) : Type 0 where
  pub text : List ℕ
  pub there : status_value m ≡ Some text
  pub good : IsStatusText text

pub status_text : (m : List Field) → HasStatus m → StatusText m
unfolding HasStatus
status_text m has = by_value (status_value m) refl has
  where
    by_value : (o : Option (List ℕ)) → status_value m ≡ o → IsSomeAnd o IsStatusText → StatusText m
    by_value (Some text) e good = record { text = text; there = e; good = good }
    by_value None e good = absurd good

pub has_status : (m : List Field) (text : List ℕ) → status_value m ≡ Some text → IsStatusText text → HasStatus m
unfolding HasStatus
has_status m text there good = subst (λ o. IsSomeAnd o IsStatusText) (sym there) good

pub status_there : (m : List Field) → HasStatus m → IsSome (status_value m)
status_there m has = ap is_some (status_text m has).there

-- the value of a valid `:status` is a status code
pub status_good : (m : List Field) (text : List ℕ) → HasStatus m → status_value m ≡ Some text → IsStatusText text
status_good m text has there =
    let status = status_text m has in
    let both : ◌≡◌ {A = Option (List ℕ)} (Some status.text) (Some text) = sym status.there ∙ there in
    let same : status.text ≡ text = cc both in
    subst IsStatusText same status.good

-- parsing a valid text succeeds
pub good_parses : {T E : Type 0} {P : Type 0} (r : Result T E) (value : T) → OkIff r P value → P → IsOk r
good_parses (Ok x) value given good = refl
good_parses (Err e) value given good = absurd (given good)

pub parsed_good : {T E : Type 0} {P : Type 0} (r : Result T E) (value : T) → OkIff r P value → is_err r ≡ false → P
parsed_good (Ok x) value given e = given.0
parsed_good (Err f) value given e = cc e

-- ---- changes that keep it

pub status_kept : (m : List Field) (field : Field) → HasStatus m → bytes_eq field.0 (codes ":status") ≡ false → HasStatus (put m field)
status_kept m field has other =
    let status = status_text m has in
    has_status (put m field) status.text (value_put (codes ":status") field m ∙ ap (λ b. cond b (Some field.1) (status_value m)) other ∙ status.there) status.good

pub status_put : (m : List Field) (field : Field) → bytes_eq field.0 (codes ":status") ≡ true → IsStatusText field.1 → HasStatus (put m field)
status_put m field same good =
    has_status (put m field) field.1 (value_put (codes ":status") field m ∙ ap (λ b. cond b (Some field.1) (status_value m)) same) good

-- ---- a code in decimal digits

pub status_written : (code : ℕ) → IsStatus code → IsStatusText (decimal code) × (status_in (decimal code) ≡ code)
status_written code range =
    let numeral = decimal_is_IsNumeral code (omega arith) in
    let first : 48 < get_or (decimal code) 0 0 = first_decimal code (omega arith) (omega arith) in
    let no_plus : without_leading_plus (decimal code) ≡ decimal code = rw (ne_eqb (slice_index (decimal code) 0) 43 (omega arith)) refl in
    rw no_plus ((numeral.0, rw numeral.1 range), numeral.1)

-- ---- no status

pub no_status : (m : List Field) → status_value m ≡ None → ¬ HasStatus m
unfolding HasStatus
no_status m none has = absurd (subst (λ o. IsSomeAnd o IsStatusText) none has)

pub bad_status : (m : List Field) (text : List ℕ) → status_value m ≡ Some text → ¬ IsStatusText text → ¬ HasStatus m
bad_status m text there bad has = bad (status_good m text has there)

-- a text that cannot be parsed is not valid
pub parsed_bad : {T E : Type 0} {P : Type 0} (r : Result T E) (value : T) → OkIff r P value → is_err r ≡ true → ¬ P
parsed_bad (Ok x) value given e = cc e
parsed_bad (Err f) value given e = given
