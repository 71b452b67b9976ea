use Rattle.std.proofs.Common.{◌≡◌, [], ◌∷◌, ◌++◌, length, drop, refl, sym, ap, ◌∙◌, arith, append-nil, inl, inr, Ok, Err}
use Rattle.wtp_core.specs.declared.bytes.poll.Polled.TheVariants.{Ready, Pending, Again, NoMemory}
use Rattle.wtransport_proto.proofs.DriveLemmas.{first_same, first_on, none_yet, pushed, pushed_appends, pushed_most, told_start, still_start, still_then, told_full, told_spent, told_still, told_waiting, told_ended, told_frame, told_unknown}
use Rattle.wtransport_proto.proofs.PollsLemmas.{poll_did}
use Rattle.wtransport_proto.proofs.stream.driving.drive.Goals as goal
use Rattle.wtransport_proto.proofs.stream.driving.drive.Goals.{in-Ready-Ok, in-Again}

pub loop-turn-init : goal.loop-turn-init
loop-turn-init g c = record {
  can = c.requires;
  changes = first_same g.K.ReadsFrames.first c.args.stream.now;
  unfinished = λ h. h;
  appends = sym (ap (λ l. c.args.out.now.items ++ l) (none_yet c.args.out.now.items) ∙ append-nil c.args.out.now.items);
  most = omega (arith, ap length (none_yet c.args.out.now.items));
  model = told_start (g.S.AsyncRead.model c.args.source.now) g.K.ReadsFrames.role (g.K.ReadsFrames.first c.args.stream.now) c.args.reading.now _ (none_yet c.args.out.now.items);
  waits = still_start (g.S.AsyncRead.model c.args.source.now);
  capacity = omega arith;
  none = λ _. (refl, refl, refl, refl);
}

pub loop-turn-preserved : goal.loop-turn-preserved
loop-turn-preserved g c =
    elim c.match-read_frame_async.branch [
      | in-Ready-Ok w ↦
          let p : c.match-read_frame_async.out.items ≡ c.loop-turn.out.items ++ w.in-Ready-Ok.frame ∷ [] = rw w.out-is (w.push_reserved.ensures.items ∙ ap (λ l. l ++ w.in-Ready-Ok.frame ∷ []) c.reserve.ensures.items) in
          record {
            can = c.read_frame_async.ensures.can;
            changes = first_on g.K.ReadsFrames.first _ _ _ c.loop-turn.invariant.changes c.read_frame_async.ensures.changes;
            unfinished = λ _. c.read_frame_async.ensures.unfinished;
            appends = pushed_appends _ c.loop-turn.out.items _ w.in-Ready-Ok.frame c.loop-turn.invariant.appends p;
            most = pushed_most _ c.loop-turn.out.items _ w.in-Ready-Ok.frame c.loop-turn._turn c.loop-turn.invariant.appends p c.loop-turn.invariant.most;
            model = told_frame (g.S.AsyncRead.model c.args.source.now) (g.S.AsyncRead.model c.loop-turn.source) (g.S.AsyncRead.model c.read_frame_async.new.source)
                g.K.ReadsFrames.role (g.K.ReadsFrames.first c.args.stream.now) (g.K.ReadsFrames.first c.loop-turn.stream) (g.K.ReadsFrames.first c.read_frame_async.new.self)
                c.args.reading.now c.loop-turn.reading c.read_frame_async.new.reading (drop (length c.args.out.now.items) c.loop-turn.out.items)
                _ w.in-Ready-Ok.frame c.loop-turn._turn (pushed _ c.loop-turn.out.items _ w.in-Ready-Ok.frame c.loop-turn.invariant.appends p) c.loop-turn.invariant.model (poll_did (g.S.AsyncRead.model c.loop-turn.source) (g.S.AsyncRead.model c.read_frame_async.new.source) g.K.ReadsFrames.role (Ready (Ok w.in-Ready-Ok.frame)) (g.K.ReadsFrames.first c.loop-turn.stream) (g.K.ReadsFrames.first c.read_frame_async.new.self) c.loop-turn.reading c.read_frame_async.new.reading (rw w.in-Ready-Ok.field-0-is at w.in-Ready-Ok.ensures.polled) w.in-Ready-Ok.ensures.waits c.read_frame_async.ensures.asks);
            waits = still_then (g.S.AsyncRead.model c.args.source.now) (g.S.AsyncRead.model c.loop-turn.source) (g.S.AsyncRead.model c.read_frame_async.new.source) 0 c.loop-turn.invariant.waits w.in-Ready-Ok.ensures.waits;
            capacity = rw w.out-is (let pushed = w.push_reserved.ensures.capacity in let room = c.reserve.ensures.capacity in let kept = c.loop-turn.invariant.capacity in omega arith);
            none = λ z. absurd (omega arith);
          }
      | in-Again w ↦ record {
        can = c.read_frame_async.ensures.can;
        changes = first_on g.K.ReadsFrames.first _ _ _ c.loop-turn.invariant.changes c.read_frame_async.ensures.changes;
        unfinished = λ _. c.read_frame_async.ensures.unfinished;
        appends = rw (w.out-is, c.reserve.ensures.items) c.loop-turn.invariant.appends;
        most = rw (w.out-is, c.reserve.ensures.items) (let most = c.loop-turn.invariant.most in omega arith);
        model = rw (w.out-is, c.reserve.ensures.items) (told_unknown (g.S.AsyncRead.model c.args.source.now) (g.S.AsyncRead.model c.loop-turn.source) (g.S.AsyncRead.model c.read_frame_async.new.source)
            g.K.ReadsFrames.role (g.K.ReadsFrames.first c.args.stream.now) (g.K.ReadsFrames.first c.loop-turn.stream) (g.K.ReadsFrames.first c.read_frame_async.new.self)
            c.args.reading.now c.loop-turn.reading c.read_frame_async.new.reading (drop (length c.args.out.now.items) c.loop-turn.out.items)
            c.loop-turn._turn c.read_frame_async.ensures.was_unfinished c.loop-turn.invariant.model (poll_did (g.S.AsyncRead.model c.loop-turn.source) (g.S.AsyncRead.model c.read_frame_async.new.source) g.K.ReadsFrames.role Again (g.K.ReadsFrames.first c.loop-turn.stream) (g.K.ReadsFrames.first c.read_frame_async.new.self) c.loop-turn.reading c.read_frame_async.new.reading w.in-Again.ensures.polled w.in-Again.ensures.waits c.read_frame_async.ensures.asks));
        waits = still_then (g.S.AsyncRead.model c.args.source.now) (g.S.AsyncRead.model c.loop-turn.source) (g.S.AsyncRead.model c.read_frame_async.new.source) 0 c.loop-turn.invariant.waits w.in-Again.ensures.waits;
        capacity = rw w.out-is (let room = c.reserve.ensures.capacity in let kept = c.loop-turn.invariant.capacity in omega arith);
        none = λ z. absurd (omega arith);
      }
    ]

pub returns-in-Err : goal.returns-in-Err
returns-in-Err g c = record {
  can = c.loop-turn.invariant.can;
  changes = c.loop-turn.invariant.changes;
  unfinished = c.loop-turn.invariant.unfinished;
  appends = rw c.reserve.ensures.items c.loop-turn.invariant.appends;
  most = rw c.reserve.ensures.items (omega arith);
  did = rw c.reserve.ensures.items (told_full (g.S.AsyncRead.model c.args.source.now) (g.S.AsyncRead.model c.loop-turn.source) g.K.ReadsFrames.role (g.K.ReadsFrames.first c.args.stream.now) (g.K.ReadsFrames.first c.loop-turn.stream)
      c.args.reading.now c.loop-turn.reading (drop (length c.args.out.now.items) c.loop-turn.out.items) c.loop-turn._turn c.args.polls (omega arith) c.loop-turn.invariant.model);
  waits = c.loop-turn.invariant.waits;
  fewer = λ _. rw c.reserve.ensures.items (let most = c.loop-turn.invariant.most in omega arith);
  capacity = let room = c.reserve.ensures.capacity in let kept = c.loop-turn.invariant.capacity in omega arith;
  memory = λ _. inl (let h = c.in-Err.ensures {u = tt} in omega arith);
  none = λ z. absurd (omega arith);
}

pub returns-in-Pending : goal.returns-in-Pending
returns-in-Pending g c =
    let s = g.S.AsyncRead.model c.args.source.now in
    let t = g.S.AsyncRead.model c.loop-turn.source in
    let u = g.S.AsyncRead.model c.read_frame_async.new.source in
    let f0 = g.K.ReadsFrames.first c.args.stream.now in
    let f1 = g.K.ReadsFrames.first c.loop-turn.stream in
    let f2 = g.K.ReadsFrames.first c.read_frame_async.new.self in
    let xs = drop (length c.args.out.now.items) c.loop-turn.out.items in
    record {
      can = c.read_frame_async.ensures.can;
      changes = first_on g.K.ReadsFrames.first _ _ _ c.loop-turn.invariant.changes c.read_frame_async.ensures.changes;
      unfinished = λ _. c.read_frame_async.ensures.unfinished;
      appends = rw c.reserve.ensures.items c.loop-turn.invariant.appends;
      most = rw c.reserve.ensures.items (omega arith);
      did = rw c.reserve.ensures.items (told_waiting s t u g.K.ReadsFrames.role f0 f1 f2 c.args.reading.now c.loop-turn.reading c.read_frame_async.new.reading xs c.loop-turn._turn c.args.polls c.loop-turn-test.true c.read_frame_async.ensures.was_unfinished c.loop-turn.invariant.model (poll_did t u g.K.ReadsFrames.role Pending f1 f2 c.loop-turn.reading c.read_frame_async.new.reading c.in-Pending.ensures.polled c.in-Pending.ensures.waits c.read_frame_async.ensures.asks));
      waits = still_then s t u 1 c.loop-turn.invariant.waits c.in-Pending.ensures.waits;
      fewer = λ _. rw c.reserve.ensures.items (let most = c.loop-turn.invariant.most in omega arith);
      capacity = let room = c.reserve.ensures.capacity in let kept = c.loop-turn.invariant.capacity in omega arith;
      memory = λ e. absurd (cc);
      none = λ z. absurd (omega arith);
    }

pub returns-in-NoMemory : goal.returns-in-NoMemory
returns-in-NoMemory g c =
    let s = g.S.AsyncRead.model c.args.source.now in
    let t = g.S.AsyncRead.model c.loop-turn.source in
    let u = g.S.AsyncRead.model c.read_frame_async.new.source in
    let f0 = g.K.ReadsFrames.first c.args.stream.now in
    let f1 = g.K.ReadsFrames.first c.loop-turn.stream in
    let f2 = g.K.ReadsFrames.first c.read_frame_async.new.self in
    let xs = drop (length c.args.out.now.items) c.loop-turn.out.items in
    record {
      can = c.read_frame_async.ensures.can;
      changes = first_on g.K.ReadsFrames.first _ _ _ c.loop-turn.invariant.changes c.read_frame_async.ensures.changes;
      unfinished = λ _. c.read_frame_async.ensures.unfinished;
      appends = rw c.reserve.ensures.items c.loop-turn.invariant.appends;
      most = rw c.reserve.ensures.items (omega arith);
      did = rw c.reserve.ensures.items (told_still s t u g.K.ReadsFrames.role f0 f1 f2 c.args.reading.now c.loop-turn.reading c.read_frame_async.new.reading xs c.loop-turn._turn c.args.polls c.loop-turn-test.true c.read_frame_async.ensures.was_unfinished c.loop-turn.invariant.model (poll_did t u g.K.ReadsFrames.role NoMemory f1 f2 c.loop-turn.reading c.read_frame_async.new.reading c.in-NoMemory.ensures.polled c.in-NoMemory.ensures.waits c.read_frame_async.ensures.asks));
      waits = still_then s t u 0 c.loop-turn.invariant.waits c.in-NoMemory.ensures.waits;
      fewer = λ _. rw c.reserve.ensures.items (let most = c.loop-turn.invariant.most in omega arith);
      capacity = let room = c.reserve.ensures.capacity in let kept = c.loop-turn.invariant.capacity in omega arith;
      memory = λ _. inr c.in-NoMemory.ensures.given.2;
      none = λ z. absurd (omega arith);
    }

pub returns-in-Ready-Err : goal.returns-in-Ready-Err
returns-in-Ready-Err g c =
    let s = g.S.AsyncRead.model c.args.source.now in
    let t = g.S.AsyncRead.model c.loop-turn.source in
    let u = g.S.AsyncRead.model c.read_frame_async.new.source in
    let f0 = g.K.ReadsFrames.first c.args.stream.now in
    let f1 = g.K.ReadsFrames.first c.loop-turn.stream in
    let f2 = g.K.ReadsFrames.first c.read_frame_async.new.self in
    let xs = drop (length c.args.out.now.items) c.loop-turn.out.items in
    record {
      can = c.read_frame_async.ensures.can;
      changes = first_on g.K.ReadsFrames.first _ _ _ c.loop-turn.invariant.changes c.read_frame_async.ensures.changes;
      unfinished = λ _. c.read_frame_async.ensures.unfinished;
      appends = rw c.reserve.ensures.items c.loop-turn.invariant.appends;
      most = rw c.reserve.ensures.items (omega arith);
      did = rw c.reserve.ensures.items (told_ended s t u g.K.ReadsFrames.role f0 f1 f2 c.args.reading.now c.loop-turn.reading c.read_frame_async.new.reading xs c.in-Ready-Err.fault c.loop-turn._turn c.args.polls c.loop-turn-test.true c.read_frame_async.ensures.was_unfinished c.loop-turn.invariant.model (poll_did t u g.K.ReadsFrames.role (Ready (Err c.in-Ready-Err.fault)) f1 f2 c.loop-turn.reading c.read_frame_async.new.reading (rw c.in-Ready-Err.field-0-is at c.in-Ready-Err.ensures.polled) c.in-Ready-Err.ensures.waits c.read_frame_async.ensures.asks));
      waits = still_then s t u 0 c.loop-turn.invariant.waits c.in-Ready-Err.ensures.waits;
      fewer = λ _. rw c.reserve.ensures.items (let most = c.loop-turn.invariant.most in omega arith);
      capacity = let room = c.reserve.ensures.capacity in let kept = c.loop-turn.invariant.capacity in omega arith;
      memory = λ e. absurd (cc);
      none = λ z. absurd (omega arith);
    }

pub returns : goal.returns
returns g c =
    let all : c.loop-turn._turn ≡ c.args.polls = omega arith in
    record {
      can = c.loop-turn.invariant.can;
      changes = c.loop-turn.invariant.changes;
      unfinished = c.loop-turn.invariant.unfinished;
      appends = c.loop-turn.invariant.appends;
      most = omega arith;
      did = told_spent (g.S.AsyncRead.model c.args.source.now) (g.S.AsyncRead.model c.loop-turn.source) g.K.ReadsFrames.role (g.K.ReadsFrames.first c.args.stream.now) (g.K.ReadsFrames.first c.loop-turn.stream)
          c.args.reading.now c.loop-turn.reading (drop (length c.args.out.now.items) c.loop-turn.out.items) c.args.polls (rw all at c.loop-turn.invariant.model);
      waits = c.loop-turn.invariant.waits;
      fewer = λ e. absurd (e refl);
      capacity = c.loop-turn.invariant.capacity;
      memory = λ e. absurd (cc);
      none = λ z. let kept = c.loop-turn.invariant.none (omega arith) in (refl, kept.0, kept.1, kept.2, kept.3);
    }
