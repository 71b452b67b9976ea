use Rattle.std.proofs.Common.{refl, arith}
use Rattle.wtp_wire.proofs.AnyCapsuleLemmas.{finds_known, finds_long, finds_unknown, leaves_none, leaves_part}
use Rattle.wtp_wire.proofs.capsule.cursor.CapsuleCursor.first.Goals as goal

pub returns-then-skip_remaining-left : goal.returns-then-skip_remaining-left
returns-then-skip_remaining-left c = leaves_none c.args.self.now _ c.args.bytes.now c.if-skip_remaining-left.true refl

pub returns-in-Unknown : goal.returns-in-Unknown
returns-in-Unknown c =
    finds_unknown _ c.args.self.now _ c.args.bytes.now c.in-Unknown.head.number c.in-Unknown.head.announced c.in-Unknown.head.start
    (omega (arith, c.if-skip_remaining-left.false)) (rw c.split_at.ensures.back at c.in-Unknown.ensures) refl refl refl c.into_inner-self.ensures.value

pub returns-in-Known : goal.returns-in-Known
returns-in-Known c =
    finds_known _ c.args.self.now _ c.args.bytes.now c.in-Known.place.kind c.in-Known.place.start c.in-Known.place.end
    (omega (arith, c.if-skip_remaining-left.false)) (rw c.split_at.ensures.back at c.in-Known.ensures) refl refl refl refl

pub returns-in-TooLong : goal.returns-in-TooLong
returns-in-TooLong c =
    finds_long c.args.self.now c.args.bytes.now (omega (arith, c.if-skip_remaining-left.false)) (rw c.split_at.ensures.back at c.in-TooLong.ensures)

pub returns-in-Cut : goal.returns-in-Cut
returns-in-Cut c =
    leaves_part c.args.self.now _ c.args.bytes.now (omega (arith, c.if-skip_remaining-left.false)) (rw c.split_at.ensures.back at c.in-Cut.ensures) refl
