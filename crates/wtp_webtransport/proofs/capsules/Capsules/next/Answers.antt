use Rattle.std.proofs.Common.{◌≡◌, sym, ap, subst, ◌∙◌, arith}
use Rattle.wtp_wire.specs.Settings.{pair_at}
use Rattle.wtp_webtransport.specs.Capsules.{Place, Head, place_by, CapsuleIs}
use Rattle.wtp_webtransport.proofs.CapsuleLemmas.{no_pair, place_head, head_lacks, start_given}
use Rattle.wtp_webtransport.proofs.capsules.Capsules.next.Goals as goal

pub invariant_of-self-in-Ok-Some : goal.invariant_of-self-in-Ok-Some
invariant_of-self-in-Ok-Some c =
    let found = rw c.in-Ok-Some.field-0-is at c.in-Ok-Some.ensures in
    record {
      cut = ap pair_at found.0 ∙ no_pair;
      skips = λ some. found.0;
      empty = c.self.invariant.empty;
    }

pub returns-in-Ok-Some : goal.returns-in-Ok-Some
returns-in-Ok-Some c =
    let found = rw c.in-Ok-Some.field-0-is at c.in-Ok-Some.ensures in
    let place : c.args.self.now ≡ Head c.self.inside.head.items =
    sym c.self.view_is ∙ place_head c.self.inside.begun c.self.inside.missing c.self.inside.head.items c.self.inside.value.items c.in-None.is (omega (arith, c.if-self-gt0.false)) in
    subst (λ (p : Place). CapsuleIs c.start.result p c.args.bytes.now.now c.start.new.self c.start.new.bytes.now) (sym place)
    (start_given c.start.result c.self.inside.head.items c.args.bytes.now.now c.take_head.new.bytes.now c.in-Ok-Some.pair.first c.in-Ok-Some.pair.second c.start.new.self c.start.new.bytes.now found.1 found.2 c.start.ensures)

pub returns-in-Err : goal.returns-in-Err
returns-in-Err c =
    let old : c.args.self.now ≡ Head c.self.inside.head.items =
    sym c.self.view_is ∙ place_head c.self.inside.begun c.self.inside.missing c.self.inside.head.items c.self.inside.value.items c.in-None.is (omega (arith, c.if-self-gt0.false)) in
    let new : place_by c.self.inside.begun c.self.inside.missing c.take_head.new.head.items c.self.inside.value.items ≡ Head c.take_head.new.head.items =
    place_head c.self.inside.begun c.self.inside.missing c.take_head.new.head.items c.self.inside.value.items c.in-None.is (omega (arith, c.if-self-gt0.false)) in
    rw (old, new) (head_lacks c.self.inside.head.items c.args.bytes.now.now c.take_head.new.head.items c.take_head.new.bytes.now c.in-Err.ensures.0 c.in-Err.ensures.1 c.in-Err.ensures.2)
