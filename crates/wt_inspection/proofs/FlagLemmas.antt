-- Settings one more at a time, each with what is wrong with it.
use Rattle.std.proofs.Common.{◌≡◌, ℕ, ◌<◌, cond, not, Bool, true, false, ◌||◌, nat_eq, List, [], ◌∷◌, ◌++◌, Some, refl, sym, ap, ◌∙◌, arith, inl, inr}
use Rattle.std.proofs.lemmas.Bool.{cases_eq, cases_lt, eq-eqb, ne_eqb}
use Rattle.std.specs.BTreeMap.{is_at}
use Rattle.std.specs.BTreeSet.{BTreeSet, Updates, contains}
use Rattle.std.specs.List.{list_any}
use Rattle.std.specs.Ordering.{nat_cmp}
use Rattle.wtp_wire.proofs.SettingsLemmas.{equal-nat_cmp, less-nat_cmp, greater-nat_cmp}
use Rattle.wtp_wire.specs.SettingId.{is_reserved}
use Rattle.wt_inspection.proofs.SettingLemmas.{settings_with}
use Rattle.wtp_wire.specs.Settings.{pair_at}
use Rattle.wt_inspection.specs.SettingLines.{StartsSettings, AreFlagged, flag_of, is_bad_value}
use Rattle.wt_inspection_model.specs.declared.item.settings.SettingLine.{SettingLine}

-- the identifiers of these lines, the last one first, and those before them
abbrev pub ids_of : List ℕ → List SettingLine → List ℕ
ids_of before [] = before
ids_of before (line ∷ lines) = ids_of (line.id ∷ before) lines

-- the bytes start with these settings, each says what is wrong with it, and these are their
-- identifiers
abbrev pub SoFar : List ℕ → List SettingLine → List ℕ → BTreeSet ℕ → Type 0
SoFar bytes lines rest seen =
    StartsSettings bytes lines rest × AreFlagged [] lines × ((q : ℕ) → contains nat_cmp seen q ≡ list_any (nat_eq q) (ids_of [] lines))

-- ---- a set of numbers with one more

at_is : (k q : ℕ) → is_at (nat_cmp k) q ≡ nat_eq q k
at_is k q = elim (cases_eq k q) [
  | inl e ↦ rw (equal-nat_cmp k q e, eq-eqb q k (sym e)) refl
  | inr ne ↦ elim (cases_lt k q) [
    | inl l ↦ rw (less-nat_cmp k q l, ne_eqb q k (λ e. ne (sym e))) refl
    | inr g ↦ let l : q < k = omega (arith, g, ne) in rw (greater-nat_cmp k q l, ne_eqb q k (λ e. ne (sym e))) refl
  ]
]

or_cond : (b x : Bool) → cond b true x ≡ b || x
or_cond true x = refl
or_cond false x = refl

not_not : (b : Bool) → not (not b) ≡ b
not_not true = refl
not_not false = refl

has_more : (old new : BTreeSet ℕ) (ids : List ℕ) (id : ℕ) → ((q : ℕ) → contains nat_cmp old q ≡ list_any (nat_eq q) ids) → Updates nat_cmp old new id true → (q : ℕ) → contains nat_cmp new q ≡ list_any (nat_eq q) (id ∷ ids)
has_more old new ids id h u q =
    u.0 q
    ∙ ap (λ (b : Bool). cond b true (contains nat_cmp old q)) (at_is id q)
    ∙ ap (λ (b : Bool). cond (nat_eq q id) true b) (h q)
    ∙ or_cond (nat_eq q id) (list_any (nat_eq q) ids)

-- ---- one more setting

flagged_with : (lines : List SettingLine) (before : List ℕ) (line : SettingLine) → AreFlagged before lines → line.flag ≡ flag_of (is_reserved line.id) (list_any (nat_eq line.id) (ids_of before lines)) (is_bad_value line.id line.value) → AreFlagged before (lines ++ line ∷ [])
flagged_with [] before line are e = (e, tt)
flagged_with (first ∷ lines) before line (one, are) e = (one, flagged_with lines (first.id ∷ before) line are e)

ids_with : (lines : List SettingLine) (before : List ℕ) (line : SettingLine) → ids_of before (lines ++ line ∷ []) ≡ line.id ∷ ids_of before lines
ids_with [] before line = refl
ids_with (first ∷ lines) before line = ids_with lines (first.id ∷ before) line

pub so_far_with : (bytes rest behind : List ℕ) (lines more : List SettingLine) (seen next : BTreeSet ℕ) (line : SettingLine) (number value : ℕ) (added : Bool) → SoFar bytes lines rest seen → pair_at rest ≡ Some ((number, value), behind) → line.id ≡ number → line.value ≡ value → line.flag ≡ flag_of (is_reserved number) (not added) (is_bad_value number value) → added ≡ not (contains nat_cmp seen number) → Updates nat_cmp seen next number true → more ≡ lines ++ line ∷ [] → SoFar bytes more behind next
so_far_with bytes rest behind lines more seen next line number value added (are, flagged, has) pair id is flag new updates all =
    let one : pair_at rest ≡ Some ((line.id, line.value), behind) = rw (id, is) pair in
    let seen_it : not added ≡ list_any (nat_eq number) (ids_of [] lines) = ap not new ∙ not_not (contains nat_cmp seen number) ∙ has number in
    let says : line.flag ≡ flag_of (is_reserved line.id) (list_any (nat_eq line.id) (ids_of [] lines)) (is_bad_value line.id line.value) = rw (id, is) (flag ∙ ap (λ (b : Bool). flag_of (is_reserved number) b (is_bad_value number value)) seen_it) in
    rw all (
      settings_with lines bytes rest behind line are one,
      flagged_with lines [] line flagged says,
      λ q. has_more seen next (ids_of [] lines) number has updates q ∙ ap (λ (i : ℕ). list_any (nat_eq q) (i ∷ ids_of [] lines)) (sym id) ∙ ap (λ (l : List ℕ). list_any (nat_eq q) l) (sym (ids_with lines [] line)),
    )
