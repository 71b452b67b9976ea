use Rattle.std.proofs.Common.{◌-◌, ℕ, List, length, refl, sym, ap, ◌∙◌, arith}
use Rattle.wtransport_proto.specs.CutFrame.{due_in}
use Rattle.wtransport_proto.proofs.CursorLemmas.{continues_fault}
use Rattle.wtransport_proto.proofs.CursorStepLemmas.{wants_due, goes_due, wants_cut, goes_cut, wants_left, goes_left, takes_frame, goes_frame, fits, framed_of, short_of, left_of, fault_refused, fault_of}
use Rattle.wtransport_proto.proofs.stream.cursor.FrameCursor.next.Goals as goal

pub returns-then-self-len-clause-step : goal.returns-then-self-len-clause-step
returns-then-self-len-clause-step c = wants_due (length c.args.bytes.now) c.args.self.now c.args.bytes.now refl c.if-self-len.true

pub returns-then-self-len-clause-run : goal.returns-then-self-len-clause-run
returns-then-self-len-clause-run c = goes_due (length c.args.bytes.now) c.args.self.now c.args.bytes.now refl c.if-self-len.true

pub of-requires : goal.of-requires
of-requires c =
    let framed = framed_of c.args.self.now c.args.bytes.now _ c.take_known.new.rest.now c.in-Ok-Some.field-0 c.in-Ok-Some.frame c.split_at.ensures.back c.in-Ok-Some.field-0-is c.in-Ok-Some.ensures.answer in
    (fits c.in-Ok-Some.frame c.args.self.now c.args.bytes.now c.take_known.new.rest.now framed).1

pub returns-in-None-clause-step : goal.returns-in-None-clause-step
returns-in-None-clause-step c =
    let framed = framed_of c.args.self.now c.args.bytes.now _ c.take_known.new.rest.now c.in-Ok-Some.field-0 c.in-Ok-Some.frame c.split_at.ensures.back c.in-Ok-Some.field-0-is c.in-Ok-Some.ensures.answer in
    let allowed = rw c.kind.ensures.kind at (sym c.fault_of.ensures ∙ c.in-None.is) in
    takes_frame c.of.result c.in-Ok-Some.frame c.args.self.now c.args.bytes.now c.take_known.new.rest.now _ (omega (arith, c.if-self-len.false)) framed refl c.of.ensures.place c.of.ensures.proper allowed

pub returns-in-None-clause-run : goal.returns-in-None-clause-run
returns-in-None-clause-run c =
    let framed = framed_of c.args.self.now c.args.bytes.now _ c.take_known.new.rest.now c.in-Ok-Some.field-0 c.in-Ok-Some.frame c.split_at.ensures.back c.in-Ok-Some.field-0-is c.in-Ok-Some.ensures.answer in
    let allowed = rw c.kind.ensures.kind at (sym c.fault_of.ensures ∙ c.in-None.is) in
    goes_frame c.of.result c.in-Ok-Some.frame c.args.self.now c.args.bytes.now c.take_known.new.rest.now _ (omega (arith, c.if-self-len.false)) framed refl c.of.ensures.place allowed

pub returns-in-Ok-Some-clause-run : goal.returns-in-Ok-Some-clause-run
returns-in-Ok-Some-clause-run c =
    let framed = framed_of c.args.self.now c.args.bytes.now _ c.take_known.new.rest.now c.in-Ok-Some.field-0 c.in-Ok-Some.frame c.split_at.ensures.back c.in-Ok-Some.field-0-is c.in-Ok-Some.ensures.answer in
    let refused = rw c.kind.ensures.kind at (sym c.fault_of.ensures ∙ c.in-Some.is) in
    continues_fault c.args.self.now c.args.self.now c.args.bytes.now c.args.bytes.now c.in-Some.code (omega (arith, c.if-self-len.false)) (fault_refused _ _ _ c.in-Ok-Some.frame c.take_known.new.rest.now c.in-Some.code framed refused)

pub returns-then-self-gt0-clause-step : goal.returns-then-self-gt0-clause-step
returns-then-self-gt0-clause-step c =
    let short = short_of c.args.self.now c.args.bytes.now _ c.take_known.new.rest.now c.in-Ok-None.field-0 c.split_at.ensures.back c.in-Ok-None.field-0-is c.in-Ok-None.ensures.answer in
    let same = left_of c.args.self.now c.args.bytes.now _ c.take_known.new.rest.now c.split_at.ensures.back (c.in-Ok-None.ensures.short (rw c.in-Ok-None.field-0-is refl)) in
    wants_cut (length c.args.bytes.now) c.payload_due-self.result c.args.self.now c.args.bytes.now refl (omega (arith, c.if-self-len.false)) short (c.payload_due-self.ensures ∙ ap due_in same) c.if-self-gt0.true

pub returns-then-self-gt0-clause-run : goal.returns-then-self-gt0-clause-run
returns-then-self-gt0-clause-run c =
    let same = left_of c.args.self.now c.args.bytes.now _ c.take_known.new.rest.now c.split_at.ensures.back (c.in-Ok-None.ensures.short (rw c.in-Ok-None.field-0-is refl)) in
    goes_cut (length c.args.bytes.now) c.payload_due-self.result c.args.self.now c.args.bytes.now refl (omega (arith, c.if-self-len.false)) (c.payload_due-self.ensures ∙ ap due_in same) c.if-self-gt0.true

pub returns-in-Ok-None-clause-step : goal.returns-in-Ok-None-clause-step
returns-in-Ok-None-clause-step c =
    let short = short_of c.args.self.now c.args.bytes.now _ c.take_known.new.rest.now c.in-Ok-None.field-0 c.split_at.ensures.back c.in-Ok-None.field-0-is c.in-Ok-None.ensures.answer in
    let same = left_of c.args.self.now c.args.bytes.now _ c.take_known.new.rest.now c.split_at.ensures.back (c.in-Ok-None.ensures.short (rw c.in-Ok-None.field-0-is refl)) in
    wants_left (length c.args.bytes.now - length c.take_known.new.rest.now) c.payload_due-self.result c.args.self.now c.args.bytes.now (ap (λ (l : List ℕ). length c.args.bytes.now - length l) same) (omega (arith, c.if-self-len.false)) short (c.payload_due-self.ensures ∙ ap due_in same) (omega (arith, c.if-self-gt0.false))

pub returns-in-Ok-None-clause-run : goal.returns-in-Ok-None-clause-run
returns-in-Ok-None-clause-run c =
    let same = left_of c.args.self.now c.args.bytes.now _ c.take_known.new.rest.now c.split_at.ensures.back (c.in-Ok-None.ensures.short (rw c.in-Ok-None.field-0-is refl)) in
    goes_left (length c.args.bytes.now - length c.take_known.new.rest.now) c.payload_due-self.result c.args.self.now c.args.bytes.now (ap (λ (l : List ℕ). length c.args.bytes.now - length l) same) (omega (arith, c.if-self-len.false)) (omega (arith, c.if-self-gt0.false))

pub returns-clause-run : goal.returns-clause-run
returns-clause-run c =
    continues_fault c.args.self.now c.args.self.now c.args.bytes.now c.args.bytes.now c.in-Err.code (omega (arith, c.if-self-len.false)) (fault_of c.args.self.now c.args.bytes.now _ c.take_known.new.rest.now c.in-Err.code c.split_at.ensures.back c.in-Err.ensures.answer)
