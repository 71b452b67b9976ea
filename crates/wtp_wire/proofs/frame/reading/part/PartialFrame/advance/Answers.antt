use Rattle.std.proofs.Common.{◌≡◌, length, take, vec_len, refl, sym, ap, ◌∙◌, arith, length-take}
use Rattle.wtp_core.specs.Fill.{Gains}
use Rattle.wtp_core.proofs.TellingLemmas.{telling_same}
use Rattle.wtp_wire.specs.declared.frame.head.Announcement.{Announcement}
use Rattle.wtp_wire.specs.FrameNeed.{frame_need}
use Rattle.wtp_wire.specs.PartialFrame.{Part}
use Rattle.wtp_wire.proofs.FrameReadingLemmas.{HeadGoesOn, head_goes_on, part_grew, part_moves, part_interrupts, stopped_keeps, announcement_bare, grew_none, same_gains}
use Rattle.wtp_wire.proofs.frame.reading.part.PartialFrame.advance.Goals as goal

pub returns-in-Err-clause-grew : goal.returns-in-Err-clause-grew
returns-in-Err-clause-grew g c =
    let old = c.args.self.now in
    let hd = take c.self.inside.len c.self.inside.head in
    let p = take c.self.inside.filled c.self.inside.payload.items in
    let h = take c.fill_prefix.new.len c.fill_prefix.new.buf in
    let eh : hd ≡ old.head = ap (λ (x : Part). x.head) c.self.view_is in
    let ep : p ≡ old.payload = ap (λ (x : Part). x.payload) c.self.view_is in
    let g' : HeadGoesOn old h = head_goes_on old c.self.inside.len c.fill_prefix.new.len c.self.inside.head c.fill_prefix.new.buf eh (omega (arith, c.self.invariant.0, c.self.invariant.1)) c.fill_prefix.ensures.forward c.fill_prefix.ensures.front c.fill_prefix.ensures.stays in
    part_grew old (record { head = h; room = vec_len c.self.inside.payload; payload = p }) h p c.requires g' ep refl (grew_none p)

pub returns-in-Ok-fill_payload-clause-grew : goal.returns-in-Ok-fill_payload-clause-grew
returns-in-Ok-fill_payload-clause-grew g c =
    let old = c.args.self.now in
    let hd = take c.self.inside.len c.self.inside.head in
    let p = take c.self.inside.filled c.self.inside.payload.items in
    let h = take c.fill_prefix.new.len c.fill_prefix.new.buf in
    let eh : hd ≡ old.head = ap (λ (x : Part). x.head) c.self.view_is in
    let ep : p ≡ old.payload = ap (λ (x : Part). x.payload) c.self.view_is in
    let g' : HeadGoesOn old h = head_goes_on old c.self.inside.len c.fill_prefix.new.len c.self.inside.head c.fill_prefix.new.buf eh (omega (arith, c.self.invariant.0, c.self.invariant.1)) c.fill_prefix.ensures.forward c.fill_prefix.ensures.front c.fill_prefix.ensures.stays in
    part_grew old c.fill_payload.new.self h p c.requires g' ep c.fill_payload.ensures.head c.fill_payload.ensures.grew

pub returns-in-Ok-fill_payload-clause-moves : goal.returns-in-Ok-fill_payload-clause-moves
returns-in-Ok-fill_payload-clause-moves g c =
    let old = c.args.self.now in
    let hd = take c.self.inside.len c.self.inside.head in
    let p = take c.self.inside.filled c.self.inside.payload.items in
    let h = take c.fill_prefix.new.len c.fill_prefix.new.buf in
    let eh : hd ≡ old.head = ap (λ (x : Part). x.head) c.self.view_is in
    let ep : p ≡ old.payload = ap (λ (x : Part). x.payload) c.self.view_is in
    let g' : HeadGoesOn old h = head_goes_on old c.self.inside.len c.fill_prefix.new.len c.self.inside.head c.fill_prefix.new.buf eh (omega (arith, c.self.invariant.0, c.self.invariant.1)) c.fill_prefix.ensures.forward c.fill_prefix.ensures.front c.fill_prefix.ensures.stays in
    part_moves _ _ _ old c.fill_payload.new.self h hd p c.requires g' eh ep c.fill_payload.ensures.head c.in-Ok.ensures.model c.in-Ok-fill_payload.ensures.moves

pub returns-in-Err-fill_payload-clause-keeps : goal.returns-in-Err-fill_payload-clause-keeps
returns-in-Err-fill_payload-clause-keeps g c =
    let old = c.args.self.now in
    let hd = take c.self.inside.len c.self.inside.head in
    let p = take c.self.inside.filled c.self.inside.payload.items in
    let h = take c.fill_prefix.new.len c.fill_prefix.new.buf in
    let eh : hd ≡ old.head = ap (λ (x : Part). x.head) c.self.view_is in
    let ep : p ≡ old.payload = ap (λ (x : Part). x.payload) c.self.view_is in
    let g' : HeadGoesOn old h = head_goes_on old c.self.inside.len c.fill_prefix.new.len c.self.inside.head c.fill_prefix.new.buf eh (omega (arith, c.self.invariant.0, c.self.invariant.1)) c.fill_prefix.ensures.forward c.fill_prefix.ensures.front c.fill_prefix.ensures.stays in
    let whole : frame_need h ≡ length h = c.in-Ok.ensures.whole ∙ omega (arith, length-take c.fill_prefix.new.len c.fill_prefix.new.buf, c.fill_prefix.ensures.room) in
    stopped_keeps (Unit {0}) c.in-Err-fill_payload.stop old (record { head = h; room = vec_len c.self.inside.payload; payload = p }) c.fill_payload.new.self c.in-Payload.field-0 c.in-Payload.size c.requires g'
    (ap (λ (x : Part). x.room) c.self.view_is) whole (sym c.read_head-announcement.ensures ∙ c.in-Payload.is) c.fill_payload.ensures.head c.in-Err-fill_payload.ensures.keeps

pub returns-in-Err-fill_payload-clause-grew : goal.returns-in-Err-fill_payload-clause-grew
returns-in-Err-fill_payload-clause-grew g c =
    let old = c.args.self.now in
    let hd = take c.self.inside.len c.self.inside.head in
    let p = take c.self.inside.filled c.self.inside.payload.items in
    let h = take c.fill_prefix.new.len c.fill_prefix.new.buf in
    let eh : hd ≡ old.head = ap (λ (x : Part). x.head) c.self.view_is in
    let ep : p ≡ old.payload = ap (λ (x : Part). x.payload) c.self.view_is in
    let g' : HeadGoesOn old h = head_goes_on old c.self.inside.len c.fill_prefix.new.len c.self.inside.head c.fill_prefix.new.buf eh (omega (arith, c.self.invariant.0, c.self.invariant.1)) c.fill_prefix.ensures.forward c.fill_prefix.ensures.front c.fill_prefix.ensures.stays in
    part_grew old c.fill_payload.new.self h p c.requires g' ep c.fill_payload.ensures.head c.fill_payload.ensures.grew

pub returns-in-Err-fill_payload-clause-moves : goal.returns-in-Err-fill_payload-clause-moves
returns-in-Err-fill_payload-clause-moves g c =
    let old = c.args.self.now in
    let hd = take c.self.inside.len c.self.inside.head in
    let p = take c.self.inside.filled c.self.inside.payload.items in
    let h = take c.fill_prefix.new.len c.fill_prefix.new.buf in
    let eh : hd ≡ old.head = ap (λ (x : Part). x.head) c.self.view_is in
    let ep : p ≡ old.payload = ap (λ (x : Part). x.payload) c.self.view_is in
    let g' : HeadGoesOn old h = head_goes_on old c.self.inside.len c.fill_prefix.new.len c.self.inside.head c.fill_prefix.new.buf eh (omega (arith, c.self.invariant.0, c.self.invariant.1)) c.fill_prefix.ensures.forward c.fill_prefix.ensures.front c.fill_prefix.ensures.stays in
    part_interrupts (Unit {0}) Announcement c.in-Err-fill_payload.stop _ _ _ old c.fill_payload.new.self h hd p c.requires g' eh ep c.fill_payload.ensures.head c.in-Ok.ensures.model c.in-Err-fill_payload.ensures.moves

pub returns-in_default : goal.returns-in_default
returns-in_default g c =
    let old = c.args.self.now in
    let hd = take c.self.inside.len c.self.inside.head in
    let p = take c.self.inside.filled c.self.inside.payload.items in
    let h = take c.fill_prefix.new.len c.fill_prefix.new.buf in
    let eh : hd ≡ old.head = ap (λ (x : Part). x.head) c.self.view_is in
    let ep : p ≡ old.payload = ap (λ (x : Part). x.payload) c.self.view_is in
    let g' : HeadGoesOn old h = head_goes_on old c.self.inside.len c.fill_prefix.new.len c.self.inside.head c.fill_prefix.new.buf eh (omega (arith, c.self.invariant.0, c.self.invariant.1)) c.fill_prefix.ensures.forward c.fill_prefix.ensures.front c.fill_prefix.ensures.stays in
    let new : Part = record { head = h; room = vec_len c.self.inside.payload; payload = p } in
    let whole : frame_need h ≡ length h = c.in-Ok.ensures.whole ∙ omega (arith, length-take c.fill_prefix.new.len c.fill_prefix.new.buf, c.fill_prefix.ensures.room) in
    let t = g.S.AsyncRead.model c.fill_prefix.new.source in
    record {
      keeps = announcement_bare c.read_head-announcement.result old new c.requires g' (ap (λ (x : Part). x.room) c.self.view_is) ep whole (sym c.read_head-announcement.ensures) c.in_default.not-Payload;
      grew = part_grew old new h p c.requires g' ep refl (grew_none p);
      moves = part_moves _ _ t old new h hd p c.requires g' eh ep refl c.in-Ok.ensures.model (telling_same t (λ a b. Gains p p a b 0) (λ a. same_gains p a));
      waits = c.in-Ok.ensures.waits;
    }
