use Rattle.std.proofs.Common.{◌≡◌, take, drop}
use Rattle.vesgrauf_stream.specs.Early.{takes, all_kept}
use Rattle.vesgrauf_stream.proofs.EarlyLemmas.{put_before}
use Rattle.vesgrauf_stream.proofs.early.EarlyDatagrams.take.Given as goal

abbrev pub invariant-loop-i : goal.invariant-loop-i
invariant-loop-i l =
    takes l.session l.fn.self
    ≡ put_before (all_kept (take l.i l.self-inside.datagrams.items))
    (takes l.session (all_kept (drop l.i l.self-inside.datagrams.items)))
