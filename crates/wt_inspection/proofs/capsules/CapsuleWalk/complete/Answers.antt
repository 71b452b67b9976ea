use Rattle.std.proofs.Common.{◌≡◌, ◌-◌, ◌∙◌, ap, length, arith, length-drop, length-take, drop}
use Rattle.wtp_wire.specs.CapsuleCursor.{capsule_value}
use Rattle.wt_inspection.specs.CapsuleNames.{capsule_name}
use Rattle.wt_inspection.proofs.WalkLemmas.{bad_known, close_known, holds_none, other_known}
use Rattle.wt_inspection.proofs.capsules.CapsuleWalk.complete.Goals as goal

pub returns-in-Other : goal.returns-in-Other
returns-in-Other c = λ unknown skip_remaining k.
    absurd (other_known c.args.found.kind _ _ k (rw (c.in-Other.is, c.as_slice.ensures.value) at c.in_ok-closing.ensures))

pub returns-in-Close : goal.returns-in-Close
returns-in-Close c = λ unknown skip_remaining k.
    let held = c.args.self.now.held.items in
    let announced : c.capsule_of-item-in-Close.result.announced ≡ c.args.found.end - c.args.found.start = c.capsule_of-item-in-Close.ensures.announced in
    let size : c.args.found.end - c.args.found.start ≡ length (capsule_value c.args.found held) = omega (arith, c.requires, length-take (c.args.found.end - c.args.found.start) (drop c.args.found.start held), length-drop c.args.found.start held) in (
      close_known c.args.found.kind _ held c.in-Close.close c.capsule_of-item-in-Close.result (c.capsule_of-item-in-Close.ensures.number ∙ c.id-number.ensures) (c.capsule_of-item-in-Close.ensures.name ∙ ap capsule_name c.id-number.ensures) (announced ∙ size) c.capsule_of-item-in-Close.ensures.close c.capsule_of-item-in-Close.ensures.limit k
          (rw (c.in-Close.is, c.as_slice.ensures.value) at c.in_ok-closing.ensures),
      holds_none _ _ _ _ unknown skip_remaining c.clear.ensures.items,
      c.capsule_of-item-in-Close.ensures.at,
    )

pub returns-in-Bad : goal.returns-in-Bad
returns-in-Bad c = λ unknown skip_remaining k.
    (bad_known c.args.found.kind _ _ c.in-Bad.code c.fault_at.result c.fault_at.ensures.code k (rw (c.in-Bad.is, c.as_slice.ensures.value) at c.in_ok-closing.ensures), (c.fault_at.ensures.at, c.fault_at.ensures.missing))
