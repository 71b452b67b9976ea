use Rattle.std.proofs.Common.{Ok, refl, ap}
use Rattle.wt_inspection.specs.declared.reading.Next.{Next}
use Rattle.wt_inspection.specs.declared.reading.Next.TheVariants as next-is
use Rattle.wt_inspection.proofs.WalkLemmas.{ok_map}
use Rattle.wt_inspection.proofs.MessageLemmas.{other_leads}
use Rattle.wt_inspection.proofs.recording.next_item.Goals as goal

pub returns-in-Head-clause-stage : goal.returns-in-Head-clause-stage
returns-in-Head-clause-stage c =
    ok_map _ _ c.head_item.result
    (λ s same. other_leads next-is.Head (Ok c.args.next) c.args.reading.now.phase c.head_item.new.reading.phase c.args.at c.args.rest.now s.content s.after tt (ap (λ (x : Next). Ok x) c.in-Head.is) same)
    c.head_item.ensures.phase

pub returns-in-Datagram-clause-stage : goal.returns-in-Datagram-clause-stage
returns-in-Datagram-clause-stage c =
    other_leads next-is.Datagram (Ok c.args.next) c.args.reading.now.phase c.args.reading.now.phase c.args.at c.args.rest.now c.datagram_step.result.content c.datagram_step.result.after tt (ap (λ (x : Next). Ok x) c.in-Datagram.is) refl

pub returns-in-Capsules-clause-stage : goal.returns-in-Capsules-clause-stage
returns-in-Capsules-clause-stage c =
    ok_map _ _ c.next_capsule.result
    (λ s same. other_leads next-is.Capsules (Ok c.args.next) c.args.reading.now.phase c.next_capsule.new.reading.phase c.args.at c.args.rest.now s.content s.after tt (ap (λ (x : Next). Ok x) c.in-Capsules.is) same)
    c.next_capsule.ensures.phase

pub returns-in-Settings-clause-stage : goal.returns-in-Settings-clause-stage
returns-in-Settings-clause-stage c =
    ok_map _ _ c.settings_step.result
    (λ s same. other_leads next-is.Settings (Ok c.args.next) c.args.reading.now.phase c.settings_step.new.reading.phase c.args.at c.args.rest.now s.content s.after tt (ap (λ (x : Next). Ok x) c.in-Settings.is) same)
    c.settings_step.ensures.phase

pub returns-in-Section-clause-stage : goal.returns-in-Section-clause-stage
returns-in-Section-clause-stage c =
    ok_map _ _ c.section_step.result
    (λ s same. other_leads next-is.Section (Ok c.args.next) c.args.reading.now.phase c.section_step.new.reading.phase c.args.at c.args.rest.now s.content s.after tt (ap (λ (x : Next). Ok x) c.in-Section.is) same)
    c.section_step.ensures.phase

pub returns-in-Payload-clause-stage : goal.returns-in-Payload-clause-stage
returns-in-Payload-clause-stage c =
    other_leads next-is.Payload (Ok c.args.next) c.args.reading.now.phase c.args.reading.now.phase c.args.at c.args.rest.now c.go_on.result.content c.go_on.result.after tt (ap (λ (x : Next). Ok x) c.in-Payload.is) refl

pub returns-in-Encoder-clause-stage : goal.returns-in-Encoder-clause-stage
returns-in-Encoder-clause-stage c =
    ok_map _ _ c.next_insertion.result
    (λ s h. other_leads next-is.Encoder (Ok c.args.next) c.args.reading.now.phase c.args.reading.now.phase c.args.at c.args.rest.now s.content s.after tt (ap (λ (x : Next). Ok x) c.in-Encoder.is) refl)
    c.next_insertion.ensures.within

pub returns-in-Decoder-clause-stage : goal.returns-in-Decoder-clause-stage
returns-in-Decoder-clause-stage c =
    other_leads next-is.Decoder (Ok c.args.next) c.args.reading.now.phase c.args.reading.now.phase c.args.at c.args.rest.now c.next_acknowledgment.result.content c.next_acknowledgment.result.after tt (ap (λ (x : Next). Ok x) c.in-Decoder.is) refl
