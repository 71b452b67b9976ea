use Rattle.std.proofs.Common.{Ok, refl}
use Rattle.wtp_wire.specs.declared.frame.kind.FrameKind.TheVariants as kind-is
use Rattle.wt_inspection_model.specs.Names.{frame_name_of}
use Rattle.wt_inspection_model.specs.declared.item.names.FrameName.TheVariants as name-is
use Rattle.wt_inspection.proofs.WalkLemmas.{ok_map}
use Rattle.wt_inspection.proofs.MessageLemmas.{headers_leads, quiet_leads}
use Rattle.wt_inspection.proofs.frames.contents.other_parts.Goals as goal

pub returns-in-Read-Settings-clause-stage : goal.returns-in-Read-Settings-clause-stage
returns-in-Read-Settings-clause-stage c =
    ok_map _ _ c.settings_parts.result
    (λ f same. λ start. quiet_leads c.args.role (frame_name_of c.args.number) (name-is.Read kind-is.Settings) c.args.reading.now.phase c.settings_parts.new.reading.phase start c.args.payload.now f.parts (Ok c.args.next) f.after (cc) tt same)
    c.settings_parts.ensures.phase

pub returns-in-Read-Headers-clause-stage : goal.returns-in-Read-Headers-clause-stage
returns-in-Read-Headers-clause-stage c =
    ok_map _ _ c.headers_parts.result
    (λ f h. λ start. headers_leads c.args.role (frame_name_of c.args.number) c.args.reading.now.phase c.headers_parts.new.reading.phase start c.args.payload.now f.parts (Ok c.args.next) f.after (cc) (h start))
    c.headers_parts.ensures.stage

pub returns-in-CancelPush-clause-stage : goal.returns-in-CancelPush-clause-stage
returns-in-CancelPush-clause-stage c = λ start.
    quiet_leads c.args.role (frame_name_of c.args.number) name-is.CancelPush c.args.reading.now.phase c.args.reading.now.phase start c.args.payload.now c.id_parts.result.parts (Ok c.args.next) c.id_parts.result.after (cc) tt refl

pub returns-in-Goaway-clause-stage : goal.returns-in-Goaway-clause-stage
returns-in-Goaway-clause-stage c = λ start.
    quiet_leads c.args.role (frame_name_of c.args.number) name-is.Goaway c.args.reading.now.phase c.args.reading.now.phase start c.args.payload.now c.id_parts-in-Goaway.result.parts (Ok c.args.next) c.id_parts-in-Goaway.result.after (cc) tt refl

pub returns-in-MaxPushId-clause-stage : goal.returns-in-MaxPushId-clause-stage
returns-in-MaxPushId-clause-stage c = λ start.
    quiet_leads c.args.role (frame_name_of c.args.number) name-is.MaxPushId c.args.reading.now.phase c.args.reading.now.phase start c.args.payload.now c.id_parts-in-MaxPushId.result.parts (Ok c.args.next) c.id_parts-in-MaxPushId.result.after (cc) tt refl

pub returns-in-PriorityUpdate-clause-stage : goal.returns-in-PriorityUpdate-clause-stage
returns-in-PriorityUpdate-clause-stage c =
    ok_map _ _ c.priority_parts.result
    (λ f h. λ start. quiet_leads c.args.role (frame_name_of c.args.number) name-is.PriorityUpdate c.args.reading.now.phase c.args.reading.now.phase start c.args.payload.now f.parts (Ok c.args.next) f.after (cc) tt refl)
    c.priority_parts.ensures.parts

pub returns-in-PushPromise-clause-stage : goal.returns-in-PushPromise-clause-stage
returns-in-PushPromise-clause-stage c =
    ok_map _ _ c.promise_parts.result
    (λ f same. λ start. quiet_leads c.args.role (frame_name_of c.args.number) name-is.PushPromise c.args.reading.now.phase c.promise_parts.new.reading.phase start c.args.payload.now f.parts (Ok c.args.next) f.after (cc) tt same)
    c.promise_parts.ensures.phase
