use Rattle.std.proofs.Common.{◌≡◌, ℕ, List, ◌++◌, ap, subst, sym, ◌∙◌}
use Rattle.std.specs.List.{Contains}
use Rattle.std.proofs.lemmas.List.Filters.{dedup_is}
use Rattle.std.proofs.lemmas.List.Kept.{Contains-dedup_nat, Contains-from_dedup}
use Rattle.std.proofs.lemmas.List.Sorted.{Contains-permutation, IsPermutation-sym}
use Rattle.std.proofs.lemmas.Map.Keys.{IsStrictlyIncreasing-dedup}
use Rattle.wt_inspect.proofs.connection.summary.once_each.Goals as goal

pub returns : goal.returns
returns c =
    let is = dedup_is _ _ _ c.dedup.ensures.filtered in
    let moved = c.sort_unstable.ensures.permutation in
    let same : c.extend_from_slice.new.self.items ≡ c.args.sessions.now = c.in_ok-extend_from_slice.ensures.items ∙ ap (λ (xs : List ℕ). xs ++ c.args.sessions.now) c.new-ids.ensures.items in
    record {
      rise = rw is (IsStrictlyIncreasing-dedup _ c.sort_unstable.ensures.sorted);
      all = λ x h. rw is (Contains-dedup_nat _ x (Contains-permutation _ _ x moved (subst (λ (xs : List ℕ). Contains xs x) (sym same) h)));
      others = λ x h. subst (λ (xs : List ℕ). Contains xs x) same (Contains-permutation _ _ x (IsPermutation-sym _ _ moved) (Contains-from_dedup _ _ x (rw is at h)));
    }
