use Rattle.std.proofs.Common.{◌≡◌, ◌-◌, List, ℕ, take, drop, length, Some, arith, length-drop}
use Rattle.wtp_wire.specs.declared.frame.head.Announcement.TheVariants as announces
use Rattle.wtp_wire.specs.Content.{PlainOf, WebTransportOf}
use Rattle.wtp_wire.specs.FramePrefix.{head_at}
use Rattle.wtp_wire.proofs.FrontLemmas.{front-head}
use Rattle.wtp_wire.proofs.WholeLemmas.{after_frame, framed_payload, enough_after, no_head, no_plain}
use Rattle.wtp_wire.proofs.frame.whole.parse_buffered.Goals as goal

pub returns-in_default-clause-short : goal.returns-in_default-clause-short
returns-in_default-clause-short c = λ f rest e small room. absurd (no_head c.args.bytes.now rest f c.in_default.ensures.head e)

pub returns-in_err-body-in-Payload-clause-short : goal.returns-in_err-body-in-Payload-clause-short
returns-in_err-body-in-Payload-clause-short c = λ f rest e small room.
    let head : head_at c.args.bytes.now ≡ Some (announces.Payload c.in-Payload.kind c.in-Payload.size, c.in-Some.head.after.now) = (rw c.in-Payload.is at c.in-Some.ensures.head) in
    let enough = enough_after c.args.bytes.now c.in-Some.head.after.now rest c.in-Payload.kind c.in-Payload.size f head e small room in
    let some = c.in_err-body-in-Payload.ensures.short enough.0 enough.1 in
    absurd (cc)

pub returns-in_ok-body-in-Payload-clause-front : goal.returns-in_ok-body-in-Payload-clause-front
returns-in_ok-body-in-Payload-clause-front c =
    let size = c.in-Payload.size in
    let after : List ℕ = c.in-Some.head.after.now in
    let bytes : List ℕ = c.args.bytes.now in
    let head : head_at bytes ≡ Some (announces.Payload c.in-Payload.kind size, after) = (rw c.in-Payload.is at c.in-Some.ensures.head) in
    let fits = c.in_ok-body-in-Payload.ensures.within in
    let within = c.in-Some.ensures.within in
    let is = framed_payload bytes after c.in-Payload.kind size head fits in
    let rest = after_frame bytes (drop size after) (PlainOf c.in-Payload.kind (take size after)) (length bytes - (length after - size)) is (omega (arith, length-drop size after, fits, within)) in
    rw (c.with_number-kind.ensures, c.in_ok-body-in-Payload.ensures.copy, c.in_ok-body-in-Payload.ensures.plain, rest) is

pub returns-in-Session-clause-front : goal.returns-in-Session-clause-front
returns-in-Session-clause-front c =
    let after : List ℕ = c.in-Some.head.after.now in
    let bytes : List ℕ = c.args.bytes.now in
    let head : head_at bytes ≡ Some (announces.Session c.in-Session.session_id, after) = (rw c.in-Session.is at c.in-Some.ensures.head) in
    let within = c.in-Some.ensures.within in
    let is = front-head bytes after (announces.Session c.in-Session.session_id) head in
    let rest = after_frame bytes after (WebTransportOf c.in-Session.session_id) (length bytes - length after) is (omega (arith, within)) in
    rw (c.new_webtransport-frame.ensures, rest) is

pub returns-in_default-announcement : goal.returns-in_default-announcement
returns-in_default-announcement c = record {
  size = tt;
  front = tt;
  short = λ f rest e small room. absurd (no_plain c.in-Some.head.announcement c.args.bytes.now c.in-Some.head.after.now rest f c.in-Some.ensures.head e c.in_default-announcement.not-Payload c.in_default-announcement.not-Session);
}
