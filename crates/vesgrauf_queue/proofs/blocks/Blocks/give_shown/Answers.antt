use Rattle.std.proofs.Common.{◌≡◌, ◌-◌, ◌<◌, ◌++◌, ◌∙◌, ap, arith, take, length, List, ℕ}
use Rattle.std.specs.List.{concat}
use Rattle.vesgrauf_queue.specs.Pieces.{first, after_first}
use Rattle.vesgrauf_queue.specs.Blocks.{pieces, kept}
use Rattle.vesgrauf_queue.proofs.PieceLemmas.{second-within, given-twice, kept-twice}
use Rattle.vesgrauf_queue.proofs.blocks.Blocks.give_shown.Goals as goal

-- the first piece is given, and then of the next one
once : (c : goal.After-give-else-len-first-2) → let p = pieces c.args.self.now in
    (length c.first-first.result.now ≡ length (first p)) × (length (first p) < c.args.len)
    × (pieces c.give-else-len-first.new.self ≡ after_first (length (first p)) p)
once c =
    let p = pieces c.args.self.now in
    let e = ap length c.first-first.ensures.bytes in
    (e, omega (arith, e, c.if-len-first.false), c.give-else-len-first.ensures.pieces ∙ ap (λ n. after_first n p) e)

pub give-requires-else-len-first-2 : goal.give-requires-else-len-first-2
give-requires-else-len-first-2 c =
    let p = pieces c.args.self.now in
    let e = ap length c.first-first.ensures.bytes in
    let more : length (first p) < c.args.len = omega (arith, e, c.if-len-first.false) in
    let given = c.give-else-len-first.ensures.pieces ∙ ap (λ n. after_first n p) e in
    omega (arith, e, ap (λ (xs : List (List ℕ)). length (first xs)) given, second-within p c.args.len more c.requires)

pub returns-else-len-first-clause-waiting : goal.returns-else-len-first-clause-waiting
returns-else-len-first-clause-waiting c =
    let p = pieces c.args.self.now in
    let o = once c in
    ap concat (c.give-else-len-first-2.ensures.pieces
    ∙ ap (λ n. after_first n (pieces c.give-else-len-first.new.self)) (ap (λ k. c.args.len - k) o.0)
    ∙ ap (after_first (c.args.len - length (first p))) o.2)
    ∙ given-twice p c.args.len o.1 c.requires

pub returns-else-len-first-clause-kept : goal.returns-else-len-first-clause-kept
returns-else-len-first-clause-kept c =
    let p = pieces c.args.self.now in
    let o = once c in
    c.give-else-len-first-2.ensures.kept
    ∙ ap (λ b. b ++ take (c.args.len - length c.first-first.result.now) (first (pieces c.give-else-len-first.new.self)))
    (c.give-else-len-first.ensures.kept ∙ ap (λ n. kept c.args.self.now ++ take n (first p)) o.0)
    ∙ ap (λ n. (kept c.args.self.now ++ take (length (first p)) (first p)) ++ take (c.args.len - n) (first (pieces c.give-else-len-first.new.self))) o.0
    ∙ ap (λ xs. (kept c.args.self.now ++ take (length (first p)) (first p)) ++ take (c.args.len - length (first p)) (first xs)) o.2
    ∙ kept-twice (kept c.args.self.now) p c.args.len o.1 c.requires
