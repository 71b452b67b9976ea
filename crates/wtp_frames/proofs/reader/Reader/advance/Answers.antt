use Rattle.std.proofs.Common.{arith, sym, ◌∙◌}
use Rattle.wtp_frames.proofs.RunLemmas.{AtHead}
use Rattle.wtp_frames.specs.declared.rules.Action.TheVariants.{Stream, Skip, SkipSection, Refuse}
use Rattle.wtp_frames.proofs.FirstLemmas.{exact_failed, exact_head, exact_frame}
use Rattle.wtp_frames.proofs.MoveLemmas.{all_moves, stuck_head, streamed_move, skipped_move, too_large_move, refused_move}
use Rattle.wtp_frames.proofs.reader.Reader.advance.Goals as goal

pub returns-then-has_failed-clause-moves : goal.returns-then-has_failed-clause-moves
returns-then-has_failed-clause-moves c = rw c.pass_all.ensures (all_moves c.args.self.now c.args.bytes.now (sym c.has_failed.ensures ∙ c.if-has_failed.true))

pub returns-in-None-clause-moves : goal.returns-in-None-clause-moves
returns-in-None-clause-moves c =
    let head : AtHead c.args.self.now = record { intact = sym c.has_failed.ensures ∙ c.if-has_failed.false; none = omega (arith, c.if-self-gt0.false) } in
    stuck_head c.args.self.now c.args.bytes.now head c.in-None.ensures.head

pub returns-in-Stream-clause-moves : goal.returns-in-Stream-clause-moves
returns-in-Stream-clause-moves c =
    let head : AtHead c.args.self.now = record { intact = sym c.has_failed.ensures ∙ c.if-has_failed.false; none = omega (arith, c.if-self-gt0.false) } in
    rw c.after_data-self.ensures (streamed_move c.args.self.now c.args.bytes.now c.of-kind.result c.in-Some.number c.in-Some.len c.in-Some.start head c.of-kind.ensures c.in-Some.ensures.head c.in-Some.ensures.within (sym c.action_for.ensures ∙ c.in-Stream.is))

pub returns-in-Skip-clause-moves : goal.returns-in-Skip-clause-moves
returns-in-Skip-clause-moves c =
    let head : AtHead c.args.self.now = record { intact = sym c.has_failed.ensures ∙ c.if-has_failed.false; none = omega (arith, c.if-self-gt0.false) } in
    rw c.counted-self.ensures (skipped_move c.args.self.now c.args.bytes.now c.of-kind.result c.in-Some.number c.in-Some.len c.in-Some.start head c.of-kind.ensures c.in-Some.ensures.head c.in-Some.ensures.within (sym c.action_for.ensures ∙ c.in-Skip.is))

pub returns-in-SkipSection-clause-moves : goal.returns-in-SkipSection-clause-moves
returns-in-SkipSection-clause-moves c =
    let head : AtHead c.args.self.now = record { intact = sym c.has_failed.ensures ∙ c.if-has_failed.false; none = omega (arith, c.if-self-gt0.false) } in
    rw c.after_section-self.ensures (too_large_move c.args.self.now c.args.bytes.now c.of-kind.result c.in-Some.number c.in-Some.len c.in-Some.start head c.of-kind.ensures c.in-Some.ensures.head c.in-Some.ensures.within (sym c.action_for.ensures ∙ c.in-SkipSection.is))

pub returns-in-Refuse-clause-moves : goal.returns-in-Refuse-clause-moves
returns-in-Refuse-clause-moves c =
    let head : AtHead c.args.self.now = record { intact = sym c.has_failed.ensures ∙ c.if-has_failed.false; none = omega (arith, c.if-self-gt0.false) } in
    refused_move c.args.self.now c.args.bytes.now c.of-kind.result c.in-Some.number c.in-Some.len c.in-Some.start c.in-Refuse.fault head c.of-kind.ensures c.in-Some.ensures.head (sym c.action_for.ensures ∙ c.in-Refuse.is)

pub returns-then-has_failed-clause-exact : goal.returns-then-has_failed-clause-exact
returns-then-has_failed-clause-exact c = rw c.pass_all.ensures (exact_failed c.args.self.now c.args.bytes.now (sym c.has_failed.ensures ∙ c.if-has_failed.true))

pub returns-in-None-clause-exact : goal.returns-in-None-clause-exact
returns-in-None-clause-exact c =
    let head : AtHead c.args.self.now = record { intact = sym c.has_failed.ensures ∙ c.if-has_failed.false; none = omega (arith, c.if-self-gt0.false) } in
    exact_head c.args.self.now c.args.bytes.now head c.in-None.ensures.head

pub returns-in-Stream-clause-exact : goal.returns-in-Stream-clause-exact
returns-in-Stream-clause-exact c =
    let head : AtHead c.args.self.now = record { intact = sym c.has_failed.ensures ∙ c.if-has_failed.false; none = omega (arith, c.if-self-gt0.false) } in
    rw c.after_data-self.ensures (exact_frame c.args.self.now c.args.bytes.now c.of-kind.result c.in-Some.number c.in-Some.len c.in-Some.start Stream head c.of-kind.ensures c.in-Some.ensures.head (sym c.action_for.ensures ∙ c.in-Stream.is))

pub returns-in-Skip-clause-exact : goal.returns-in-Skip-clause-exact
returns-in-Skip-clause-exact c =
    let head : AtHead c.args.self.now = record { intact = sym c.has_failed.ensures ∙ c.if-has_failed.false; none = omega (arith, c.if-self-gt0.false) } in
    rw c.counted-self.ensures (exact_frame c.args.self.now c.args.bytes.now c.of-kind.result c.in-Some.number c.in-Some.len c.in-Some.start Skip head c.of-kind.ensures c.in-Some.ensures.head (sym c.action_for.ensures ∙ c.in-Skip.is))

pub returns-in-SkipSection-clause-exact : goal.returns-in-SkipSection-clause-exact
returns-in-SkipSection-clause-exact c =
    let head : AtHead c.args.self.now = record { intact = sym c.has_failed.ensures ∙ c.if-has_failed.false; none = omega (arith, c.if-self-gt0.false) } in
    rw c.after_section-self.ensures (exact_frame c.args.self.now c.args.bytes.now c.of-kind.result c.in-Some.number c.in-Some.len c.in-Some.start SkipSection head c.of-kind.ensures c.in-Some.ensures.head (sym c.action_for.ensures ∙ c.in-SkipSection.is))

pub returns-in-Refuse-clause-exact : goal.returns-in-Refuse-clause-exact
returns-in-Refuse-clause-exact c =
    let head : AtHead c.args.self.now = record { intact = sym c.has_failed.ensures ∙ c.if-has_failed.false; none = omega (arith, c.if-self-gt0.false) } in
    exact_frame c.args.self.now c.args.bytes.now c.of-kind.result c.in-Some.number c.in-Some.len c.in-Some.start (Refuse c.in-Refuse.fault) head c.of-kind.ensures c.in-Some.ensures.head (sym c.action_for.ensures ∙ c.in-Refuse.is)
