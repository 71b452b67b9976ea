-- A section that is tried again later.
use Rattle.std.proofs.Common.{◌≡◌, ◌⊎◌, ℕ, ◌+◌, ◌<◌, ◌≤◌, inl, inr, List, ◌∙◌, ap, subst, arith, Option, Some, None, Result, Ok}
use Rattle.wtp_qpack.specs.Integer.{integer_at}
use Rattle.wtp_qpack.specs.StringLiteral.{flag_above}
use Rattle.wtp_dynamic.specs.declared.error.SectionError.{SectionError}
use Rattle.wtp_dynamic.specs.declared.error.SectionError.TheVariants.{InvalidInsertCount}
use Rattle.wtp_dynamic.specs.Chain.{◌>>=◌, or_fault}
use Rattle.wtp_dynamic.specs.Faults.{of_section}
use Rattle.wtp_dynamic.specs.Table.{Table, insert_count}
use Rattle.wtp_dynamic.specs.InsertCount.{most_entries, IsMeant, count_of}
use Rattle.wtp_dynamic.specs.Section.{Prefix, required_by, base_of, prefix_at}
use Rattle.wtp_dynamic.proofs.Chains.{step_ok}
use Rattle.wtp_dynamic.proofs.InsertCounts.{judged, decoded_by}

pub good_count : (o : Option ℕ) (count : ℕ) → ◌≡◌ {A = Result ℕ SectionError} (or_fault InvalidInsertCount o) (Ok count) → o ≡ Some count
good_count None count e = cc e
good_count (Some x) count e = cc e

-- the same count is meant after more insertions, if they are not too many
meant_later : (most inserts more encoded count : ℕ) → IsMeant most inserts encoded count → (count ≡ 0) ⊎ ((count ≤ more + most) × (more < count + most)) → IsMeant most more encoded count
meant_later most inserts more encoded count (inl none) near = inl none
meant_later most inserts more encoded count (inr (positive, some, same, high, low)) (inl none) = absurd (omega arith)
meant_later most inserts more encoded count (inr (positive, some, same, high, low)) (inr (up, down)) = inr (positive, some, same, up, down)

count_again : (most inserts more encoded count : ℕ) → IsMeant most inserts encoded count → (count ≡ 0) ⊎ ((count ≤ more + most) × (more < count + most)) → count_of most more encoded ≡ Some count
count_again most inserts more encoded count meant near =
    decoded_by most more encoded count (count_of most more encoded) (judged most more encoded) (meant_later most inserts more encoded count meant near)

prefix_by : (u : Table) (bytes : List ℕ) (p : Prefix) (limit : ℕ) → u.limit ≡ limit → (k : ℕ × List ℕ) (r : ℕ) (d : ℕ × List ℕ) → of_section (integer_at 8 bytes) ≡ Ok k → count_of (most_entries limit) (insert_count u) k.0 ≡ Some r → of_section (integer_at 7 k.1) ≡ Ok d
    → (base_of (flag_above 7 k.1) r d.0 >>= λ base. Ok (record { required = r; base = base; lines = d.1 })) ≡ Ok p → prefix_at u bytes ≡ Ok p
unfolding prefix_at
prefix_by u bytes p limit same k r d count meant delta rest = rw (count, same, meant, delta) rest

-- the steps of a prefix that was read
pub record PrefixRead (t : Table) (bytes : List ℕ) (p : Prefix) : Type 0 where
  pub count : ℕ × List ℕ
  pub delta : ℕ × List ℕ
  pub is_count : of_section (integer_at 8 bytes) ≡ Ok count
  pub meant : count_of (most_entries t.limit) (insert_count t) count.0 ≡ Some p.required
  pub is_delta : of_section (integer_at 7 count.1) ≡ Ok delta
  pub rest : (base_of (flag_above 7 count.1) p.required delta.0 >>= λ base. Ok (record { required = p.required; base = base; lines = delta.1 })) ≡ Ok p

pub prefix_read : (t : Table) (bytes : List ℕ) (p : Prefix) → prefix_at t bytes ≡ Ok p → PrefixRead t bytes p
unfolding prefix_at
prefix_read t bytes p e =
    let k = step_ok (of_section (integer_at 8 bytes)) (λ (count : ℕ × List ℕ). required_by t count.0 >>= λ required. (of_section (integer_at 7 count.1) >>= λ delta. (base_of (flag_above 7 count.1) required delta.0 >>= λ base. Ok (record { required = required; base = base; lines = delta.1 })))) p e in
    let r = step_ok (required_by t k.0.0) (λ required. (of_section (integer_at 7 k.0.1) >>= λ delta. (base_of (flag_above 7 k.0.1) required delta.0 >>= λ base. Ok (record { required = required; base = base; lines = delta.1 })))) p k.2 in
    let d = step_ok (of_section (integer_at 7 k.0.1)) (λ (delta : ℕ × List ℕ). (base_of (flag_above 7 k.0.1) r.0 delta.0 >>= λ base. Ok (record { required = r.0; base = base; lines = delta.1 }))) p r.2 in
    let b = step_ok (base_of (flag_above 7 k.0.1) r.0 d.0.0) (λ base. Ok (record { required = r.0; base = base; lines = d.0.1 })) p d.2 in
    let made : Prefix = record { required = r.0; base = b.0; lines = d.0.1 } in
    let whole : made ≡ p = cc b.2 in
    let required : r.0 ≡ p.required = ap (λ (q : Prefix). q.required) whole in
    let counted : count_of (most_entries t.limit) (insert_count t) k.0.0 ≡ Some r.0 = good_count (count_of (most_entries t.limit) (insert_count t) k.0.0) r.0 r.1 in
    let P : ℕ → Type 0 = λ n. (base_of (flag_above 7 k.0.1) n d.0.0 >>= λ base. Ok (record { required = n; base = base; lines = d.0.1 })) ≡ Ok p in
    record {
      count = k.0;
      delta = d.0;
      is_count = k.1;
      meant = counted ∙ ap Some required;
      is_delta = d.1;
      rest = subst P required d.2;
    }

pub prefix_again : (t u : Table) (bytes : List ℕ) (p : Prefix) → u.limit ≡ t.limit → prefix_at t bytes ≡ Ok p
    → (p.required ≡ 0) ⊎ ((p.required ≤ insert_count u + most_entries t.limit) × (insert_count u < p.required + most_entries t.limit)) → prefix_at u bytes ≡ Ok p
prefix_again t u bytes p limit e near =
    let most : ℕ = most_entries t.limit in
    let x = prefix_read t bytes p e in
    let meant : IsMeant most (insert_count t) x.count.0 p.required = (judged most (insert_count t) x.count.0).found p.required x.meant in
    prefix_by u bytes p t.limit limit x.count p.required x.delta x.is_count (count_again most (insert_count t) (insert_count u) x.count.0 p.required meant near) x.is_delta x.rest
