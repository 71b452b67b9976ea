-- The steps of a write add up.
use Rattle.std.proofs.Common.{◌≡◌, ℕ, ◌+◌, ◌≤◌, List, [], ◌++◌, length, take, drop, Result, Ok, Err, ap, ◌∙◌, arith, append_assoc, append-nil, take-add, length-take}
use Rattle.std.proofs.lemmas.List.{drop-append-le}
use Rattle.wtp_core.specs.declared.bytes.poll.Polled.{Polled}
use Rattle.wtp_core.specs.declared.bytes.poll.Polled.TheVariants.{Ready, Pending, Again, NoMemory}
use Rattle.wtp_core.specs.declared.bytes.error.IoWriteError.{IoWriteError}
use Rattle.wtp_core.specs.declared.bytes.error.IoWriteError.TheVariants as fault
use Rattle.wtp_core.specs.Sink.{Sink, Took}
use Rattle.wtp_core.specs.Put.{SinkTook}

pub range_more : (bytes : List ℕ) (i j n : ℕ) → i ≤ j → j ≤ length bytes → drop i (take (j + n) bytes) ≡ drop i (take j bytes) ++ take n (drop j bytes)
range_more bytes i j n le fits = ap (λ l. drop i l) (take-add j n bytes) ∙ drop-append-le i (take j bytes) (take n (drop j bytes)) (omega (arith, length-take j bytes))

took_then : (xs ys : List ℕ) (w s l : ℕ) (a b c : Sink) → Took a b xs 0 0 0 → Took b c ys w s l → Took a c (xs ++ ys) w s l
took_then xs ys w s l a b c g t = record {
  taken = t.taken ∙ ap (λ q. q ++ ys) g.taken ∙ append_assoc a.taken xs ys;
  waits_is = let one = g.waits_is in let two = t.waits_is in omega arith;
  stops_is = let one = g.stops_is in let two = t.stops_is in omega arith;
  losses_is = let one = g.losses_is in let two = t.losses_is in omega arith;
}

-- a sink took these bytes, and then those of a poll with this result
pub sink_then : {U : Type 0} (r : Polled (Result U IoWriteError)) (xs ys : List ℕ) (a b c : Sink) → Took a b xs 0 0 0 → SinkTook r ys b c → SinkTook r (xs ++ ys) a c
sink_then (Ready (Ok _)) xs ys a b c g t = took_then xs ys 0 0 0 a b c g t
sink_then (Ready (Err fault.Stopped)) xs ys a b c g t = took_then xs ys 0 1 0 a b c g t
sink_then (Ready (Err fault.NotConnected)) xs ys a b c g t = took_then xs ys 0 0 1 a b c g t
sink_then Pending xs ys a b c g t = took_then xs ys 1 0 0 a b c g t
sink_then Again xs ys a b c g t = absurd t
sink_then NoMemory xs ys a b c g t = took_then xs ys 0 0 0 a b c g t

pub took_more : (bytes : List ℕ) (i j n : ℕ) (a b c : Sink) → i ≤ j → j ≤ length bytes → Took a b (drop i (take j bytes)) 0 0 0 → Took b c (take n (drop j bytes)) 0 0 0 → Took a c (drop i (take (j + n) bytes)) 0 0 0
took_more bytes i j n a b c le fits g t = rw (range_more bytes i j n le fits) (took_then _ _ 0 0 0 a b c g t)

pub took_none : (xs : List ℕ) (w s l : ℕ) (a b c : Sink) → Took a b xs 0 0 0 → Took b c [] w s l → Took a c xs w s l
took_none xs w s l a b c g t = let e : xs ++ [] ≡ xs = append-nil xs in rw e at (took_then xs [] w s l a b c g t)
