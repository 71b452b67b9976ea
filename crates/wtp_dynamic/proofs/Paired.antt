-- What an encoder writes, its decoder reads.
use Rattle.std.proofs.Common.{◌≡◌, ◌⊎◌, ℕ, zero, suc, ◌*◌, ◌/◌, ◌%◌, ◌^◌, ◌<◌, ◌≤◌, inl, inr, List, [], ◌∷◌, length, refl, sym, ◌∙◌, ap, arith, Some}
use Rattle.std.specs.List.{flat_map}
use Rattle.std.proofs.lemmas.Bool.{le-ltb, ne_eqb}
use Rattle.std.proofs.lemmas.Nat.{le-div, mod_below}
use Rattle.std.proofs.Math.Nat.{mod-le}
use Rattle.wtp_qpack.specs.Field.{Field}
use Rattle.wtp_dynamic.specs.Table.{Table, Later, table_size, insert_count}
use Rattle.wtp_dynamic.specs.InsertCount.{most_entries, IsMeant, encoded_count}
use Rattle.wtp_dynamic.specs.Section.{Prefix, reached}
use Rattle.wtp_dynamic.specs.Answer.{HasFields}
use Rattle.wtp_dynamic.specs.Plans.{Plan, StaticField, TableField, StaticName, TableName, NewName, with_value, planned_field, planned_line, ArePlans}
use Rattle.wtp_dynamic.specs.Pair.{IsKept, AreKept, section_of, Paired}
use Rattle.wtp_dynamic.proofs.InsertCounts.{meant_by_encoded}
use Rattle.wtp_dynamic.proofs.Planned.{field_stays, plans_read, prefix_reads}

-- ---- fields

place_same : (written now decoder : Table) (required place : ℕ) → Later written now → Later decoder now → required ≤ insert_count written → required ≤ insert_count decoder → now.dropped ≤ place
    → reached decoder required (Some place) ≡ reached written required (Some place)
place_same written now decoder required place later behind counted free low =
    sym (field_stays decoder now required place behind.same free low) ∙ field_stays written now required place later.same counted low

plan_same : (written now decoder : Table) (required : ℕ) (plan : Plan) → Later written now → Later decoder now → required ≤ insert_count written → required ≤ insert_count decoder → IsKept now plan
    → planned_field decoder required plan ≡ planned_field written required plan
plan_same written now decoder required (StaticField index) later behind counted free kept = refl
plan_same written now decoder required (TableField place) later behind counted free kept = place_same written now decoder required place later behind counted free kept
plan_same written now decoder required (StaticName never index value) later behind counted free kept = refl
plan_same written now decoder required (TableName never place value) later behind counted free kept = ap (with_value value) (place_same written now decoder required place later behind counted free kept)
plan_same written now decoder required (NewName never name value) later behind counted free kept = refl

plans_same : (written now decoder : Table) (required : ℕ) (plans : List Plan) (fields : List Field) → Later written now → Later decoder now → required ≤ insert_count written → required ≤ insert_count decoder → AreKept now plans
    → ArePlans written required plans fields → ArePlans decoder required plans fields
plans_same written now decoder required [] fields later behind counted free kept same = same
plans_same written now decoder required (plan ∷ plans) [] later behind counted free kept bad = bad
plans_same written now decoder required (plan ∷ plans) (field ∷ fields) later behind counted free (one, kept) (can, is, others) =
    (can, plan_same written now decoder required plan later behind counted free one ∙ is, plans_same written now decoder required plans fields later behind counted free kept others)

-- ---- the count

few_entries : (entries : List Field) → length entries * 32 ≤ table_size entries
few_entries [] = omega arith
few_entries (e ∷ es) = omega (arith, few_entries es)

most_live : (limit : ℕ) (entries : List Field) → table_size entries ≤ limit → length entries ≤ limit / 32
most_live limit entries fits = le-div (length entries) limit 32 (omega arith) (omega (arith, few_entries entries))

count_meant : (now decoder : Table) (required : ℕ) → decoder.limit ≡ now.limit → table_size now.live ≤ now.limit → insert_count decoder ≤ insert_count now → now.dropped ≤ insert_count decoder → required ≤ insert_count now
    → (required ≡ 0) ⊎ (now.dropped < required) → IsMeant (most_entries decoder.limit) (insert_count decoder) (encoded_count (most_entries decoder.limit) required) required
count_meant now decoder required limit fits behind known counted (inl none) = inl (rw none refl, none)
count_meant now decoder required limit fits behind known counted (inr latest) =
    let live : length now.live ≤ decoder.limit / 32 = rw limit (most_live now.limit now.live fits) in
    meant_by_encoded (decoder.limit / 32) (insert_count decoder) required (omega arith) (omega arith) (omega arith)

encoded_small : (most required : ℕ) → most < 2 ^ 62 → required < 2 ^ 62 → encoded_count most required < 2 ^ 64
encoded_small most zero few small = omega arith
encoded_small zero (suc n) few small = rw (ne_eqb (suc n) 0 (omega arith)) (omega (arith, mod_zero_le (suc n)))
  where
    mod_zero_le : (n : ℕ) → n % (2 * 0) ≤ n
    mod_zero_le n = mod-le n (2 * 0)
encoded_small (suc m) (suc n) few small = rw (ne_eqb (suc n) 0 (omega arith)) (omega (arith, mod_below (suc n) (2 * suc m) (omega arith)))

-- ---- sections

pub pair_reads : (written now decoder : Table) (required base : ℕ) (plans : List Plan) (fields : List Field) → Paired written now decoder required plans → ArePlans written required plans fields
    → required ≤ insert_count decoder → base < 2 ^ 64 → required < 2 ^ 62 → decoder.limit < 2 ^ 62 → HasFields decoder (section_of decoder.limit required base plans) fields
pair_reads written now decoder required base plans fields pair are free few small limited =
    let most : ℕ = most_entries decoder.limit in
    let low : most < 2 ^ 62 = omega arith in
    let meant = count_meant now decoder required (sym pair.behind.limit) pair.fits pair.behind.count pair.known (omega (arith, pair.later.count, pair.counted)) pair.latest in
    let lines : List ℕ = flat_map (planned_line base) plans in
    let prefix : Prefix = record { required = required; base = base; lines = lines } in
    let same = plans_same written now decoder required plans fields pair.later pair.behind pair.counted free pair.kept are in
    record {
      opens = record {
        prefix = prefix;
        is = prefix_reads decoder required base lines (encoded_small most required low small) few (omega arith) meant;
        free = le-ltb (insert_count decoder) required free;
      };
      are = plans_read decoder prefix plans fields few same;
    }
