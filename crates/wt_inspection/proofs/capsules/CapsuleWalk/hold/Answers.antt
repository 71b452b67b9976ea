use Rattle.std.proofs.Common.{◌≡◌, ◌++◌, ◌∙◌, subst, List, ℕ}
use Rattle.wt_inspection.specs.Walks.{Stepped, begins_at}
use Rattle.wt_inspection.proofs.WalkLemmas.{begins_held, holds_known, holds_long, holds_more, holds_unknown, ok_map}
use Rattle.wt_inspection.proofs.capsules.CapsuleWalk.hold.Goals as goal

pub returns-in-More : goal.returns-in-More
returns-in-More c = λ came h.
    let all : c.as_slice.result.now ≡ c.args.self.now.held.items ++ c.args.front.now = c.as_slice.ensures.value ∙ c.in_ok-extend_from_slice.ensures.items in
    (holds_more c.args.self.now _ _ _ _ came c.args.front.now _ c.requires.none c.requires.fits c.requires.none c.in_ok-extend_from_slice.ensures.items (rw all at c.in-More.ensures.first) h, c.start_at-self.ensures ∙ begins_held c.args.self.now came c.args.place c.requires.none h)

pub returns-in-TooLong : goal.returns-in-TooLong
returns-in-TooLong c = λ came h.
    let all : c.as_slice.result.now ≡ c.args.self.now.held.items ++ c.args.front.now = c.as_slice.ensures.value ∙ c.in_ok-extend_from_slice.ensures.items in
    (holds_long c.args.self.now _ came c.args.front.now c.too_long.result c.requires.none c.requires.fits c.too_long.ensures.code (rw all at c.in-TooLong.ensures.first) h, (c.too_long.ensures.at.0 ∙ c.start_at-self.ensures ∙ begins_held c.args.self.now came c.args.place c.requires.none h, c.too_long.ensures.at.1))

pub returns-in-Unknown : goal.returns-in-Unknown
returns-in-Unknown c = λ came h.
    let all : c.as_slice.result.now ≡ c.args.self.now.held.items ++ c.args.front.now = c.as_slice.ensures.value ∙ c.in_ok-extend_from_slice.ensures.items in
    let begins : c.start_at-self.result ≡ begins_at came c.args.self.now.at c.args.place = c.start_at-self.ensures ∙ begins_held c.args.self.now came c.args.place c.requires.none h in
    subst (λ (n : ℕ). Stepped n c.go_on.result c.go_on.new.self (came ++ c.args.front.now)) begins (c.go_on.ensures (came ++ c.args.front.now) c.clear.ensures.items (holds_unknown c.args.self.now _ _ came c.args.front.now c.in-Unknown.unknown c.clear-in-Unknown.ensures.items c.requires.none c.requires.fits (rw all at c.in-Unknown.ensures.first) h))

pub returns-in-Known : goal.returns-in-Known
returns-in-Known c =
    let all : c.as_slice.result.now ≡ c.args.self.now.held.items ++ c.args.front.now = c.as_slice.ensures.value ∙ c.in_ok-extend_from_slice.ensures.items in
    ok_map _ _ c.complete.result
    (λ step steps. λ came h.
    let f = rw all at c.in-Known.ensures.first in
    let (same, skip_remaining, k) = holds_known c.args.self.now _ came c.args.front.now c.in-Known.found c.requires.none c.requires.fits f h in
    let begins : c.start_at-self.result ≡ begins_at came c.args.self.now.at c.args.place = c.start_at-self.ensures ∙ begins_held c.args.self.now came c.args.place c.requires.none h in
    subst (λ (n : ℕ). Stepped n step c.complete.new.self (came ++ c.args.front.now)) begins
    (subst (λ (x : List ℕ). Stepped c.start_at-self.result step c.complete.new.self x) (c.in_ok-extend_from_slice.ensures.items ∙ same) (steps c.requires.none skip_remaining (rw c.in_ok-extend_from_slice.ensures.items k))))
    c.complete.ensures
