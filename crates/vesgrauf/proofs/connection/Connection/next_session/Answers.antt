use Rattle.std.proofs.Common.{◌≡◌, ◌+◌, false, refl, arith, true}
use Rattle.std.specs.Prelude.{is_ok}
use Rattle.vesgrauf.specs.State.{open_session}
use Rattle.vesgrauf.proofs.OrderLemmas.{none_after, none_left, first_open, none_open}
use Rattle.vesgrauf.proofs.connection.Connection.next_session.Goals as goal

pub returns-in_default-checked_add-clause-first : goal.returns-in_default-checked_add-clause-first
returns-in_default-checked_add-clause-first c =
    let shut : is_ok (open_session c.args.self.now c.in-Some.id) ≡ false
    = cc (c.check_session.ensures.open, c.is_ok.ensures.value, c.if-is_ok.false) in
    none_left c.args.self.now c.args.from (c.in-Some.id + 1)
    (none_after c.args.self.now c.args.from c.streams.cursor c.in-Some.id (c.in-Some.id + 1) c.streams.invariant.passed
    c.in-Some.ensures.1 shut refl)
    (grind (arith, c.in_default-checked_add.ensures))

pub streams-preserved : goal.streams-preserved
streams-preserved c =
    let shut : is_ok (open_session c.args.self.now c.in-Some.id) ≡ false
    = cc (c.check_session.ensures.open, c.is_ok.ensures.value, c.if-is_ok.false) in
    let next : c.in-Some-checked_add.next ≡ c.in-Some.id + 1 = grind (arith, c.in-Some-checked_add.ensures) in
    record {
      passed = none_after c.args.self.now c.args.from c.streams.cursor c.in-Some.id c.in-Some-checked_add.next
          c.streams.invariant.passed c.in-Some.ensures.1 shut next;
      above = omega (arith, c.streams.invariant.above, c.in-Some.ensures.0, next);
    }

pub returns-then-is_ok-clause-first : goal.returns-then-is_ok-clause-first
returns-then-is_ok-clause-first c =
    let is : is_ok (open_session c.args.self.now c.in-Some.id) ≡ true
    = cc (c.check_session.ensures.open, c.is_ok.ensures.value, c.if-is_ok.true) in
    first_open c.args.self.now c.args.from c.streams.cursor c.in-Some.id c.streams.invariant.passed
    c.streams.invariant.above c.in-Some.ensures.0 c.in-Some.ensures.1 is

pub returns-clause-first : goal.returns-clause-first
returns-clause-first c = none_open c.args.self.now c.args.from c.streams.cursor c.streams.invariant.passed
    c.in_default.ensures
