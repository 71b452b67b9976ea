use Rattle.std.proofs.Common.{◌≡◌, ◌+◌, ◌≤◌, length, refl, arith}
use Rattle.vesgrauf_stream.specs.Reading.{kept_of}
use Rattle.vesgrauf_stream.proofs.ReadingLemmas.{steps_hear, not_both}
use Rattle.wtp_webtransport.specs.Events.{More}
use Rattle.vesgrauf_stream.proofs.reading.Reading.next_of_both.Goals as goal
use Rattle.vesgrauf_stream.proofs.reading.Reading.next_of_both.Goals.{else-looked-via-then-looked+else-len-all, else-looked-via-else-looked}

pub returns-then-len-all-clause-ok : goal.returns-then-len-all-clause-ok
returns-then-len-all-clause-ok c =
    let look = c.look-looked.ensures.gives in
    let sum : c.len.result + c.len-2.result ≡ length (kept_of c.args.self.now) + length c.args.input.now.bytes.now =
    omega (arith, c.len.ensures, c.len-2.ensures) in
    let fits : c.min-len.result ≤ c.len.result + c.len-2.result = omega (arith, c.min-len.ensures) in
    steps_hear c.args.fields.now.limit c.min-len.result (c.len.result + c.len-2.result) c.in_ok-joined.joined c.ends_at-fin.result c.args.shared.now c.look-looked.new.shared c.args.self.now c.join.new.self c.look-looked.new.self c.unjoin.new.self _ c.args.input.now c.unjoin.new.input c.look-looked.result _ sum fits c.in_ok-joined.ensures.count c.in_ok-joined.ensures.ok c.join.ensures.stream c.join.ensures.ended c.ends_at-fin.ensures look c.look-looked.ensures.kept c.look-looked.ensures.ended (look.more.0 c.if-looked.true, c.if-len-all.true) c.unjoin.ensures.left c.unjoin.ensures.fin c.unjoin.ensures.stream c.unjoin.ensures.ended refl refl refl

pub returns-clause-ok : goal.returns-clause-ok
returns-clause-ok c =
    let look = c.look-looked.ensures.gives in
    let sum : c.len.result + c.len-2.result ≡ length (kept_of c.args.self.now) + length c.args.input.now.bytes.now =
    omega (arith, c.len.ensures, c.len-2.ensures) in
    let fits : c.min-len.result ≤ c.len.result + c.len-2.result = omega (arith, c.min-len.ensures) in
    let most : look.say ≡ More → c.min-len.result ≡ c.len.result + c.len-2.result = λ m.
    elim c.else-looked.branch [ else-looked-via-then-looked+else-len-all w ↦ omega (arith, fits, w.if-len-all.false) | else-looked-via-else-looked w ↦ absurd (not_both c.look-looked.result.more w.if-looked.false (look.more.1 m)) ] in
    steps_hear c.args.fields.now.limit c.min-len.result (c.len.result + c.len-2.result) c.in_ok-joined.joined c.ends_at-fin.result c.args.shared.now c.look-looked.new.shared c.args.self.now c.join.new.self c.look-looked.new.self c.unjoin.new.self _ c.args.input.now c.unjoin.new.input c.look-looked.result _ sum fits c.in_ok-joined.ensures.count c.in_ok-joined.ensures.ok c.join.ensures.stream c.join.ensures.ended c.ends_at-fin.ensures look c.look-looked.ensures.kept c.look-looked.ensures.ended (look.heard, most) c.unjoin.ensures.left c.unjoin.ensures.fin c.unjoin.ensures.stream c.unjoin.ensures.ended refl refl refl
