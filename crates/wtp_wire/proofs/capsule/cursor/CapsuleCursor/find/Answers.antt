use Rattle.std.proofs.Common.{refl, arith, length-drop}
use Rattle.wtp_wire.proofs.AnyCapsuleLemmas.{long_at, more_wanted, skipped_unknown, place_taken, unknown_some}
use Rattle.wtp_wire.proofs.CapsuleCursorLemmas.{skipped_none}
use Rattle.wtp_wire.proofs.capsule.cursor.CapsuleCursor.find.Goals as goal

pub capsules-init : goal.capsules-init
capsules-init c = skipped_none c.args.self.now c.args.bytes.now

pub capsules-preserved : goal.capsules-preserved
capsules-preserved c =
    skipped_unknown _ c.capsules.self c.first.new.self c.args.bytes.now c.capsules.at c.in-Unknown.unknown
    c.capsules.invariant (rw c.split_at.ensures.back at c.in-Unknown.ensures)

pub capsules-smaller : goal.capsules-smaller
capsules-smaller c =
    let f = rw c.split_at.ensures.back at c.in-Unknown.ensures in
    omega (arith, unknown_some c.in-Unknown.unknown c.capsules.self c.first.new.self _ f, f.within, length-drop c.capsules.at c.args.bytes.now, c.capsules.invariant.within)

pub returns-in-Known : goal.returns-in-Known
returns-in-Known c =
    place_taken _ c.in-Known.place c.args.self.now c.capsules.self c.first.new.self c.args.bytes.now c.capsules.at
    c.capsules.invariant (rw c.split_at.ensures.back at c.in-Known.ensures) refl refl refl

pub returns-in-More : goal.returns-in-More
returns-in-More c =
    more_wanted c.in-More.n c.args.self.now c.capsules.self c.first.new.self c.args.bytes.now c.capsules.at
    c.capsules.invariant (rw c.split_at.ensures.back at c.in-More.ensures)

pub returns-in-TooLong : goal.returns-in-TooLong
returns-in-TooLong c =
    long_at c.args.self.now c.capsules.self c.first.new.self c.args.bytes.now c.capsules.at
    c.capsules.invariant (rw c.split_at.ensures.back at c.in-TooLong.ensures)
