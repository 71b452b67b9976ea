-- What polls of a sending add up to.
use Rattle.std.proofs.Common.{◌≡◌, ℕ, ◌+◌, ◌^◌, ◌<◌, ◌≤◌, List, [], ◌∷◌, ◌++◌, length, take, drop, sym, ap, ◌∙◌, arith, length-append, append_assoc, append-nil, inl, inr, Option, Err}
use Rattle.std.proofs.lemmas.Bool.{cases_lt}
use Rattle.std.proofs.lemmas.List.{take-append-drop, take-take}
use Rattle.wtp_core.specs.declared.bytes.poll.Polled.TheVariants.{Ready, Pending, NoMemory}
use Rattle.wtp_core.specs.declared.bytes.error.IoWriteError.{IoWriteError}
use Rattle.wtp_core.specs.declared.bytes.error.IoWriteError.TheVariants as fault
use Rattle.wtp_core.specs.Varint.{shortest}
use Rattle.wtp_core.specs.Source.{HasModel}
use Rattle.wtp_core.specs.Sink.{Sink, Took}
use Rattle.wtp_core.specs.Put.{Writing, WritePolled, between}
use Rattle.wtp_core.specs.Writer.{joined}
use Rattle.wtp_core.proofs.LeastLemmas.{length-shortest}
use Rattle.wtp_core.proofs.TellingLemmas.{telling_same, telling_then}
use Rattle.wtp_wire.specs.declared.frame.kind.FrameKind.TheVariants.{WebTransport}
use Rattle.wtp_wire.specs.Kind.{frame_type_of}
use Rattle.wtp_wire.specs.Content.{Content, PlainOf, WebTransportOf}
use Rattle.wtp_wire.specs.Wire.{wire}
use Rattle.wtransport_proto.specs.declared.exchange.SendError.{SendError}
use Rattle.wtransport_proto.specs.declared.exchange.SendError.TheVariants as send
use Rattle.wtransport_proto.specs.Exchange.{TookPart, Abandoned, SendDid}

-- a frame has a byte
shortest_some : (v : ℕ) → 0 < length (shortest v)
shortest_some v = elim (cases_lt v (2 ^ 6)) [
  | inl h ↦ omega (arith, (length-shortest v).0 h)
  | inr l6 ↦ elim (cases_lt v (2 ^ 14)) [
    | inl h ↦ omega (arith, (length-shortest v).1 l6 h)
    | inr l14 ↦ elim (cases_lt v (2 ^ 30)) [
      | inl h ↦ omega (arith, (length-shortest v).2 l14 h)
      | inr l30 ↦ omega (arith, (length-shortest v).3 l30)
    ]
  ]
]

first_some : (v : ℕ) (parts : List (List ℕ)) → 0 < length (shortest v ++ joined parts)
first_some v parts = omega (arith, shortest_some v, length-append (shortest v) (joined parts))

pub wire_some : (f : Content) → 0 < length (wire f)
wire_some (PlainOf kind p) = first_some (frame_type_of kind) (shortest (length p) ∷ p ∷ [])
wire_some (WebTransportOf id) = first_some (frame_type_of WebTransport) (shortest id ∷ [])

-- in this many turns, each of which waited, the sink took this many bytes
abbrev pub Waited : List ℕ → ℕ → ℕ → Sink → Sink → Type 0
Waited whole sent turns a b = Took a b (take sent whole) turns 0 0

pub told_none : (s : Option Sink) (whole : List ℕ) → HasModel s s (Waited whole 0 0)
told_none s whole = telling_same s (Waited whole 0 0) (λ a. record { taken = sym (append-nil a.taken); waits_is = omega arith; stops_is = omega arith; losses_is = omega arith })

-- the bytes that were sent before and those of this poll, and the counts of both
on : (whole : List ℕ) (n w x l : ℕ) (old new : Writing) (a b c : Sink) → old.bytes ≡ whole → old.sent ≤ new.sent → Waited whole old.sent n a b → Took b c (between old new) w x l → Took a c (take new.sent whole) (n + w) x l
on whole n w x l old new a b c same forward g t =
    let parts : take old.sent whole ++ drop old.sent (take new.sent whole) ≡ take new.sent whole =
    ap (λ l. l ++ drop old.sent (take new.sent whole)) (sym (take-take old.sent new.sent whole forward)) ∙ take-append-drop old.sent (take new.sent whole) in
    let taken : c.taken ≡ a.taken ++ take new.sent whole =
    (rw same at t.taken) ∙ ap (λ q. q ++ drop old.sent (take new.sent whole)) g.taken ∙ append_assoc a.taken (take old.sent whole) (drop old.sent (take new.sent whole)) ∙ ap (λ q. a.taken ++ q) parts in
    record {
      taken = taken;
      waits_is = let one = g.waits_is in let two = t.waits_is in omega arith;
      stops_is = let one = g.stops_is in let two = t.stops_is in omega arith;
      losses_is = let one = g.losses_is in let two = t.losses_is in omega arith;
    }

pub told_more : (s t u : Option Sink) (whole : List ℕ) (turns : ℕ) (old new : Writing) → old.bytes ≡ whole → old.sent ≤ new.sent
    → HasModel s t (Waited whole old.sent turns) → HasModel t u (WritePolled {U = Unit {0}} Pending old new) → HasModel s u (Waited whole new.sent (turns + 1))
told_more s t u whole turns old new same forward p q =
    telling_then s t u (Waited whole old.sent turns) (WritePolled {U = Unit {0}} Pending old new) (Waited whole new.sent (turns + 1))
    (λ a b c g h. on whole turns 1 0 0 old new a b c same forward g h) p q

-- the last poll, in which no turn waited more
last : (whole : List ℕ) (n x l : ℕ) (old new : Writing) (a b c : Sink) → old.bytes ≡ whole → old.sent ≤ new.sent → Waited whole old.sent n a b → Took b c (between old new) 0 x l → Took a c (take new.sent whole) n x l
last whole n x l old new a b c same forward g t = let none : n + 0 ≡ n = omega arith in rw none at (on whole n 0 x l old new a b c same forward g t)

told_interrupted : (s t u : Option Sink) (whole : List ℕ) (n turns x l : ℕ) (e : SendError) (old new : Writing) → old.bytes ≡ whole → old.sent ≤ new.sent → new.sent < length whole
    → ((a c : Sink) → TookPart whole n x l a c → Abandoned e whole turns a c)
    → HasModel s t (Waited whole old.sent n) → HasModel t u (λ b c. Took b c (between old new) 0 x l) → HasModel s u (SendDid {U = Unit {0}} whole turns (Err e))
told_interrupted s t u whole n turns x l e old new same forward part h p q =
    telling_then s t u (Waited whole old.sent n) (λ b c. Took b c (between old new) 0 x l) (SendDid {U = Unit {0}} whole turns (Err e))
    (λ a b c g k. h a c (record { sent = new.sent; part = part; took = last whole n x l old new a b c same forward g k })) p q

pub told_fault : (s t u : Option Sink) (whole : List ℕ) (n turns : ℕ) (x : IoWriteError) (old new : Writing) → n < turns → old.bytes ≡ whole → old.sent ≤ new.sent → new.sent < length whole
    → HasModel s t (Waited whole old.sent n) → HasModel t u (WritePolled {U = Unit {0}} (Ready (Err x)) old new) → HasModel s u (SendDid {U = Unit {0}} whole turns (Err (send.IO x)))
told_fault s t u whole n turns fault.Stopped old new fewer same forward part p q =
    told_interrupted s t u whole n turns 1 0 (send.IO fault.Stopped) old new same forward part (λ a c k. (n, fewer, k)) p q
told_fault s t u whole n turns fault.NotConnected old new fewer same forward part p q =
    told_interrupted s t u whole n turns 0 1 (send.IO fault.NotConnected) old new same forward part (λ a c k. (n, fewer, k)) p q

pub told_memory : (s t u : Option Sink) (whole : List ℕ) (n turns : ℕ) (old new : Writing) → n < turns → old.bytes ≡ whole → old.sent ≤ new.sent → new.sent < length whole
    → HasModel s t (Waited whole old.sent n) → HasModel t u (WritePolled {U = Unit {0}} NoMemory old new) → HasModel s u (SendDid {U = Unit {0}} whole turns (Err send.Memory))
told_memory s t u whole n turns old new fewer same forward part p q =
    told_interrupted s t u whole n turns 0 0 send.Memory old new same forward part (λ a c k. (n, fewer, k)) p q
