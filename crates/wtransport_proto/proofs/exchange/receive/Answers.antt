use Rattle.std.proofs.Common.{◌≡◌, ap, sym, ◌∙◌, rules, Ok, Err}
use Rattle.wtransport_proto.specs.declared.exchange.ReceiveError.{ReceiveError}
use Rattle.wtransport_proto.specs.declared.exchange.ReceiveError.TheVariants as receive
use Rattle.wtransport_proto.proofs.ExchangeLemmas.{told_back, told_read, told_section, told_other, told_failed}
use Rattle.wtransport_proto.proofs.exchange.receive.Goals as goal

pub returns-in_err-frame-clause-back : goal.returns-in_err-frame-clause-back
returns-in_err-frame-clause-back g c = λ m ordered texts.
    let s = g.S.AsyncRead.model c.args.source.now in
    let t = g.S.AsyncRead.model c.next_frame.new.source in
    let role = g.K.ReadsFrames.role in
    let first = g.K.ReadsFrames.first c.args.stream.now in
    let next = g.K.ReadsFrames.first c.next_frame.new.stream in
    let e : ReceiveError = c.in_err-frame.field-0.0 in
    let same : c.from_residual.result ≡ Err e = search rules in
    rw same (told_back s t role first next c.args.turns m (Err e) ordered texts (told_failed s t role first next c.args.turns e c.in_err-frame.ensures.read))

pub returns-in-Ok-clause-back : goal.returns-in-Ok-clause-back
returns-in-Ok-clause-back g c = λ m ordered texts.
    let s = g.S.AsyncRead.model c.args.source.now in
    let t = g.S.AsyncRead.model c.next_frame.new.source in
    let role = g.K.ReadsFrames.role in
    let first = g.K.ReadsFrames.first c.args.stream.now in
    let next = g.K.ReadsFrames.first c.next_frame.new.stream in
    told_back s t role first next c.args.turns m (Ok c.in-Ok.headers) ordered texts (told_read s t role first next c.args.turns c.in_ok-frame.frame _ (sym c.kind.ensures.kind ∙ c.in-Headers.is) c.in-Ok.ensures.read c.in_ok-frame.ensures.read)

pub returns-in-Headers-clause-read : goal.returns-in-Headers-clause-read
returns-in-Headers-clause-read g c =
    told_section (g.S.AsyncRead.model c.args.source.now) (g.S.AsyncRead.model c.next_frame.new.source) g.K.ReadsFrames.role (g.K.ReadsFrames.first c.args.stream.now) (g.K.ReadsFrames.first c.next_frame.new.stream)
    c.args.turns c.in_ok-frame.frame c.in-Err.refused (sym c.kind.ensures.kind ∙ c.in-Headers.is) c.in-Err.ensures.read (λ z. c.in-Err.ensures.memory (ap Err z)) c.in_ok-frame.ensures.read

pub returns-in-Headers-clause-back : goal.returns-in-Headers-clause-back
returns-in-Headers-clause-back g c = λ m ordered texts.
    let s = g.S.AsyncRead.model c.args.source.now in
    let t = g.S.AsyncRead.model c.next_frame.new.source in
    let role = g.K.ReadsFrames.role in
    let first = g.K.ReadsFrames.first c.args.stream.now in
    let next = g.K.ReadsFrames.first c.next_frame.new.stream in
    told_back s t role first next c.args.turns m (Err (receive.Section c.in-Err.refused)) ordered texts (told_section s t role first next c.args.turns c.in_ok-frame.frame c.in-Err.refused (sym c.kind.ensures.kind ∙ c.in-Headers.is) c.in-Err.ensures.read (λ z. c.in-Err.ensures.memory (ap Err z)) c.in_ok-frame.ensures.read)

pub returns : goal.returns
returns g c =
    let s = g.S.AsyncRead.model c.args.source.now in
    let t = g.S.AsyncRead.model c.next_frame.new.source in
    let role = g.K.ReadsFrames.role in
    let first = g.K.ReadsFrames.first c.args.stream.now in
    let next = g.K.ReadsFrames.first c.next_frame.new.stream in
    let other = told_other s t role first next c.args.turns c.in_ok-frame.frame c.kind.result c.kind.ensures.kind c.in_default.not-Headers c.in_ok-frame.ensures.read in
    record {
      can = c.next_frame.ensures.can;
      changes = c.next_frame.ensures.changes;
      read = other;
      back = λ m ordered texts. told_back s t role first next c.args.turns m (Err (receive.OtherKind c.kind.result)) ordered texts other;
      asks = c.next_frame.ensures.asks;
      waits = c.next_frame.ensures.waits;
    }
