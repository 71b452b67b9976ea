use Rattle.std.proofs.Common.{◌≡◌, take, length, vec_len, vec_capacity, refl, sym, ◌∙◌, arith, rules}
use Rattle.wtp_wire.specs.CapsuleSteps.{head_says}
use Rattle.wtp_wire.specs.declared.capsule.reading.CapsuleAnnouncement.TheVariants.{Keep}
use Rattle.wtp_wire.specs.FrameNeed.{frame_need}
use Rattle.wtp_wire.proofs.CapsuleReadingLemmas.{Headed, headed, size_of, says_whole, advanced_due, advanced_head, advanced_long, advanced_skip, value_fits, advanced_found, advanced_value, advanced_memory, room_new, room_head}
use Rattle.wtp_wire.proofs.capsule.reading.CapsulePart.advance.Goals as goal

pub returns-then-self-gt0-clause-advanced : goal.returns-then-self-gt0-clause-advanced
returns-then-self-gt0-clause-advanced c = rw (c.skip.ensures.skip_remaining, c.skip.ensures.rest) (advanced_due (take c.args.self.now.len c.args.self.now.head) c.args.self.now.value.items c.args.bytes.now.now c.args.self.now.skip_remaining c.requires.part (omega arith))

pub returns-then-not-take_head-clause-advanced : goal.returns-then-not-take_head-clause-advanced
returns-then-not-take_head-clause-advanced c =
    let t : Headed (take c.args.self.now.len c.args.self.now.head) c.args.self.now.value.items c.args.self.now.skip_remaining c.args.bytes.now.now (take c.take_head.new.len c.take_head.new.head) c.take_head.new.bytes.now
    = headed c.args.self.now.head c.take_head.new.head c.args.self.now.value.items c.args.bytes.now.now c.skip.new.bytes.now c.take_head.new.bytes.now c.args.self.now.skip_remaining c.args.self.now.len c.take_head.new.len c.skip.new.skip_remaining
    c.requires.long c.take_head.ensures.long c.requires.fits c.take_head.ensures.room c.take_head.ensures.forward c.requires.part c.skip.ensures.skip_remaining c.skip.ensures.rest c.if-self-gt0.false c.take_head.ensures.front c.take_head.ensures.stays c.take_head.ensures.joins in
    let size : length (take c.take_head.new.len c.take_head.new.head) ≡ c.take_head.new.len = size_of c.take_head.new.head c.take_head.new.len c.take_head.ensures.long c.take_head.ensures.room in
    let cut = c.take_head.ensures.cut c.if-not-take_head.true in
    rw c.skip.ensures.skip_remaining (advanced_head (take c.args.self.now.len c.args.self.now.head) c.args.self.now.value.items c.args.self.now.skip_remaining c.args.bytes.now.now (take c.take_head.new.len c.take_head.new.head) c.take_head.new.bytes.now t (omega (arith, cut.0, size)) cut.1)

pub returns-then-not-take_head-clause-room : goal.returns-then-not-take_head-clause-room
returns-then-not-take_head-clause-room c =
    let t : Headed (take c.args.self.now.len c.args.self.now.head) c.args.self.now.value.items c.args.self.now.skip_remaining c.args.bytes.now.now (take c.take_head.new.len c.take_head.new.head) c.take_head.new.bytes.now
    = headed c.args.self.now.head c.take_head.new.head c.args.self.now.value.items c.args.bytes.now.now c.skip.new.bytes.now c.take_head.new.bytes.now c.args.self.now.skip_remaining c.args.self.now.len c.take_head.new.len c.skip.new.skip_remaining
    c.requires.long c.take_head.ensures.long c.requires.fits c.take_head.ensures.room c.take_head.ensures.forward c.requires.part c.skip.ensures.skip_remaining c.skip.ensures.rest c.if-self-gt0.false c.take_head.ensures.front c.take_head.ensures.stays c.take_head.ensures.joins in
    room_head (take c.args.self.now.len c.args.self.now.head) c.args.self.now.value.items c.args.self.now.skip_remaining c.args.bytes.now.now (take c.take_head.new.len c.take_head.new.head) c.take_head.new.bytes.now (vec_len c.args.self.now.value) (vec_capacity c.args.self.now.value) t (search rules) c.requires.room

pub unreachable-requires : goal.unreachable-requires
unreachable-requires c =
    let size : length (take c.take_head.new.len c.take_head.new.head) ≡ c.take_head.new.len = size_of c.take_head.new.head c.take_head.new.len c.take_head.ensures.long c.take_head.ensures.room in
    says_whole (take c.take_head.new.len c.take_head.new.head) (c.take_head.ensures.whole c.if-not-take_head.false ∙ sym size) (sym c.read_head.ensures ∙ c.in-Unfinished.is)

pub take_value-requires-clause-fits : goal.take_value-requires-clause-fits
take_value-requires-clause-fits c =
    let t : Headed (take c.args.self.now.len c.args.self.now.head) c.args.self.now.value.items c.args.self.now.skip_remaining c.args.bytes.now.now (take c.take_head.new.len c.take_head.new.head) c.take_head.new.bytes.now
    = headed c.args.self.now.head c.take_head.new.head c.args.self.now.value.items c.args.bytes.now.now c.skip.new.bytes.now c.take_head.new.bytes.now c.args.self.now.skip_remaining c.args.self.now.len c.take_head.new.len c.skip.new.skip_remaining
    c.requires.long c.take_head.ensures.long c.requires.fits c.take_head.ensures.room c.take_head.ensures.forward c.requires.part c.skip.ensures.skip_remaining c.skip.ensures.rest c.if-self-gt0.false c.take_head.ensures.front c.take_head.ensures.stays c.take_head.ensures.joins in
    let size : length (take c.take_head.new.len c.take_head.new.head) ≡ c.take_head.new.len = size_of c.take_head.new.head c.take_head.new.len c.take_head.ensures.long c.take_head.ensures.room in
    value_fits (take c.args.self.now.len c.args.self.now.head) c.args.self.now.value.items c.args.self.now.skip_remaining c.args.bytes.now.now (take c.take_head.new.len c.take_head.new.head) c.take_head.new.bytes.now c.in-Keep.kind c.in-Keep.size t (sym c.read_head.ensures ∙ c.in-Keep.is)

pub take_value-requires-clause-room : goal.take_value-requires-clause-room
take_value-requires-clause-room c =
    let t : Headed (take c.args.self.now.len c.args.self.now.head) c.args.self.now.value.items c.args.self.now.skip_remaining c.args.bytes.now.now (take c.take_head.new.len c.take_head.new.head) c.take_head.new.bytes.now
    = headed c.args.self.now.head c.take_head.new.head c.args.self.now.value.items c.args.bytes.now.now c.skip.new.bytes.now c.take_head.new.bytes.now c.args.self.now.skip_remaining c.args.self.now.len c.take_head.new.len c.skip.new.skip_remaining
    c.requires.long c.take_head.ensures.long c.requires.fits c.take_head.ensures.room c.take_head.ensures.forward c.requires.part c.skip.ensures.skip_remaining c.skip.ensures.rest c.if-self-gt0.false c.take_head.ensures.front c.take_head.ensures.stays c.take_head.ensures.joins in
    let r = room_head (take c.args.self.now.len c.args.self.now.head) c.args.self.now.value.items c.args.self.now.skip_remaining c.args.bytes.now.now (take c.take_head.new.len c.take_head.new.head) c.take_head.new.bytes.now (vec_len c.args.self.now.value) (vec_capacity c.args.self.now.value) t (search rules) c.requires.room in
    let says : head_says (take c.take_head.new.len c.take_head.new.head) ≡ Keep c.in-Keep.kind c.in-Keep.size = sym c.read_head.ensures ∙ c.in-Keep.is in
    rw says at r

pub returns-in-TooLong-clause-advanced : goal.returns-in-TooLong-clause-advanced
returns-in-TooLong-clause-advanced c =
    let t : Headed (take c.args.self.now.len c.args.self.now.head) c.args.self.now.value.items c.args.self.now.skip_remaining c.args.bytes.now.now (take c.take_head.new.len c.take_head.new.head) c.take_head.new.bytes.now
    = headed c.args.self.now.head c.take_head.new.head c.args.self.now.value.items c.args.bytes.now.now c.skip.new.bytes.now c.take_head.new.bytes.now c.args.self.now.skip_remaining c.args.self.now.len c.take_head.new.len c.skip.new.skip_remaining
    c.requires.long c.take_head.ensures.long c.requires.fits c.take_head.ensures.room c.take_head.ensures.forward c.requires.part c.skip.ensures.skip_remaining c.skip.ensures.rest c.if-self-gt0.false c.take_head.ensures.front c.take_head.ensures.stays c.take_head.ensures.joins in
    let size : length (take c.take_head.new.len c.take_head.new.head) ≡ c.take_head.new.len = size_of c.take_head.new.head c.take_head.new.len c.take_head.ensures.long c.take_head.ensures.room in
    let whole : frame_need (take c.take_head.new.len c.take_head.new.head) ≡ length (take c.take_head.new.len c.take_head.new.head) = c.take_head.ensures.whole c.if-not-take_head.false ∙ sym size in
    rw c.skip.ensures.skip_remaining (advanced_long (take c.args.self.now.len c.args.self.now.head) c.args.self.now.value.items c.args.self.now.skip_remaining c.args.bytes.now.now (take c.take_head.new.len c.take_head.new.head) c.take_head.new.bytes.now t whole (sym c.read_head.ensures ∙ c.in-TooLong.is))

pub returns-in-Skip-clause-advanced : goal.returns-in-Skip-clause-advanced
returns-in-Skip-clause-advanced c =
    let t : Headed (take c.args.self.now.len c.args.self.now.head) c.args.self.now.value.items c.args.self.now.skip_remaining c.args.bytes.now.now (take c.take_head.new.len c.take_head.new.head) c.take_head.new.bytes.now
    = headed c.args.self.now.head c.take_head.new.head c.args.self.now.value.items c.args.bytes.now.now c.skip.new.bytes.now c.take_head.new.bytes.now c.args.self.now.skip_remaining c.args.self.now.len c.take_head.new.len c.skip.new.skip_remaining
    c.requires.long c.take_head.ensures.long c.requires.fits c.take_head.ensures.room c.take_head.ensures.forward c.requires.part c.skip.ensures.skip_remaining c.skip.ensures.rest c.if-self-gt0.false c.take_head.ensures.front c.take_head.ensures.stays c.take_head.ensures.joins in
    let size : length (take c.take_head.new.len c.take_head.new.head) ≡ c.take_head.new.len = size_of c.take_head.new.head c.take_head.new.len c.take_head.ensures.long c.take_head.ensures.room in
    let whole : frame_need (take c.take_head.new.len c.take_head.new.head) ≡ length (take c.take_head.new.len c.take_head.new.head) = c.take_head.ensures.whole c.if-not-take_head.false ∙ sym size in
    advanced_skip (take c.args.self.now.len c.args.self.now.head) c.args.self.now.value.items c.args.self.now.skip_remaining c.args.bytes.now.now (take c.take_head.new.len c.take_head.new.head) c.take_head.new.bytes.now c.in-Skip.size _ (omega arith) t whole (sym c.read_head.ensures ∙ c.in-Skip.is)

pub returns-in-Skip-clause-room : goal.returns-in-Skip-clause-room
returns-in-Skip-clause-room c = room_new _ _ _ refl

pub returns-in-Ok-true-clause-advanced : goal.returns-in-Ok-true-clause-advanced
returns-in-Ok-true-clause-advanced c =
    let t : Headed (take c.args.self.now.len c.args.self.now.head) c.args.self.now.value.items c.args.self.now.skip_remaining c.args.bytes.now.now (take c.take_head.new.len c.take_head.new.head) c.take_head.new.bytes.now
    = headed c.args.self.now.head c.take_head.new.head c.args.self.now.value.items c.args.bytes.now.now c.skip.new.bytes.now c.take_head.new.bytes.now c.args.self.now.skip_remaining c.args.self.now.len c.take_head.new.len c.skip.new.skip_remaining
    c.requires.long c.take_head.ensures.long c.requires.fits c.take_head.ensures.room c.take_head.ensures.forward c.requires.part c.skip.ensures.skip_remaining c.skip.ensures.rest c.if-self-gt0.false c.take_head.ensures.front c.take_head.ensures.stays c.take_head.ensures.joins in
    let size : length (take c.take_head.new.len c.take_head.new.head) ≡ c.take_head.new.len = size_of c.take_head.new.head c.take_head.new.len c.take_head.ensures.long c.take_head.ensures.room in
    let whole : frame_need (take c.take_head.new.len c.take_head.new.head) ≡ length (take c.take_head.new.len c.take_head.new.head) = c.take_head.ensures.whole c.if-not-take_head.false ∙ sym size in
    rw c.skip.ensures.skip_remaining (advanced_found (take c.args.self.now.len c.args.self.now.head) c.args.self.now.value.items c.args.self.now.skip_remaining c.args.bytes.now.now (take c.take_head.new.len c.take_head.new.head) c.take_head.new.bytes.now c.take_value.new.value.items c.take_value.new.bytes.now c.in-Keep.kind c.in-Keep.size t whole (sym c.read_head.ensures ∙ c.in-Keep.is) c.take_value.ensures.joins (c.take_value.ensures.whole (cc)))

pub returns-in-Ok-false-clause-advanced : goal.returns-in-Ok-false-clause-advanced
returns-in-Ok-false-clause-advanced c =
    let t : Headed (take c.args.self.now.len c.args.self.now.head) c.args.self.now.value.items c.args.self.now.skip_remaining c.args.bytes.now.now (take c.take_head.new.len c.take_head.new.head) c.take_head.new.bytes.now
    = headed c.args.self.now.head c.take_head.new.head c.args.self.now.value.items c.args.bytes.now.now c.skip.new.bytes.now c.take_head.new.bytes.now c.args.self.now.skip_remaining c.args.self.now.len c.take_head.new.len c.skip.new.skip_remaining
    c.requires.long c.take_head.ensures.long c.requires.fits c.take_head.ensures.room c.take_head.ensures.forward c.requires.part c.skip.ensures.skip_remaining c.skip.ensures.rest c.if-self-gt0.false c.take_head.ensures.front c.take_head.ensures.stays c.take_head.ensures.joins in
    let size : length (take c.take_head.new.len c.take_head.new.head) ≡ c.take_head.new.len = size_of c.take_head.new.head c.take_head.new.len c.take_head.ensures.long c.take_head.ensures.room in
    let whole : frame_need (take c.take_head.new.len c.take_head.new.head) ≡ length (take c.take_head.new.len c.take_head.new.head) = c.take_head.ensures.whole c.if-not-take_head.false ∙ sym size in
    let cut = c.take_value.ensures.cut (cc) in
    rw c.skip.ensures.skip_remaining (advanced_value (take c.args.self.now.len c.args.self.now.head) c.args.self.now.value.items c.args.self.now.skip_remaining c.args.bytes.now.now (take c.take_head.new.len c.take_head.new.head) c.take_head.new.bytes.now c.take_value.new.value.items c.take_value.new.bytes.now c.in-Keep.kind c.in-Keep.size t whole (sym c.read_head.ensures ∙ c.in-Keep.is) c.take_value.ensures.joins cut.0 cut.1)

pub returns-in-Err-clause-advanced : goal.returns-in-Err-clause-advanced
returns-in-Err-clause-advanced c =
    let t : Headed (take c.args.self.now.len c.args.self.now.head) c.args.self.now.value.items c.args.self.now.skip_remaining c.args.bytes.now.now (take c.take_head.new.len c.take_head.new.head) c.take_head.new.bytes.now
    = headed c.args.self.now.head c.take_head.new.head c.args.self.now.value.items c.args.bytes.now.now c.skip.new.bytes.now c.take_head.new.bytes.now c.args.self.now.skip_remaining c.args.self.now.len c.take_head.new.len c.skip.new.skip_remaining
    c.requires.long c.take_head.ensures.long c.requires.fits c.take_head.ensures.room c.take_head.ensures.forward c.requires.part c.skip.ensures.skip_remaining c.skip.ensures.rest c.if-self-gt0.false c.take_head.ensures.front c.take_head.ensures.stays c.take_head.ensures.joins in
    let size : length (take c.take_head.new.len c.take_head.new.head) ≡ c.take_head.new.len = size_of c.take_head.new.head c.take_head.new.len c.take_head.ensures.long c.take_head.ensures.room in
    let whole : frame_need (take c.take_head.new.len c.take_head.new.head) ≡ length (take c.take_head.new.len c.take_head.new.head) = c.take_head.ensures.whole c.if-not-take_head.false ∙ sym size in
    rw c.skip.ensures.skip_remaining (advanced_memory (take c.args.self.now.len c.args.self.now.head) c.args.self.now.value.items c.args.self.now.skip_remaining c.args.bytes.now.now (take c.take_head.new.len c.take_head.new.head) c.take_head.new.bytes.now c.take_value.new.value.items c.take_value.new.bytes.now c.in-Keep.kind c.in-Keep.size t whole (sym c.read_head.ensures ∙ c.in-Keep.is) c.take_value.ensures.joins c.in-Err.ensures.refused.0 c.in-Err.ensures.refused.1)
