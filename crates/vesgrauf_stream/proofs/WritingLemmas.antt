-- Heads of frames that are written to a buffer with room for them.
use Rattle.std.proofs.Common.{◌≡◌, ℕ, ◌≤◌, List, length, length-append, false, Some, Result, Err, refl, arith}
use Rattle.wtp_core.specs.Varint.{shortest}
use Rattle.wtp_core.proofs.LeastLemmas.{at_most_8}
use Rattle.wtp_sending.specs.declared.error.SendError.{SendError}
use Rattle.wtp_sending.specs.declared.error.SendError.TheVariants as error
use Rattle.wtp_sending.specs.Message.{data_head}
use Rattle.wtp_sending.specs.Session.{drain_wire}
use Rattle.wtp_sending.specs.Writing.{Fails}

-- it fails only if the call may not be made
pub fails_within : {S : Type 0} (v : Result S SendError) (room : List ℕ) (n : ℕ) (e : SendError) → Fails v false (Some room) n e → n ≤ length room → v ≡ Err e
fails_within v room n error.EndOfBuffer (ok, lacks) fits = absurd (omega (arith, lacks, fits))
fails_within v room n error.Memory (ok, has, grows) fits = cc grows
fails_within v room n error.Unexpected f fits = f
fails_within v room n error.DataMissing f fits = f
fails_within v room n error.DataExceeded f fits = f
fails_within v room n error.EmptyData f fits = f
fails_within v room n error.TooLarge f fits = f
fails_within v room n error.TooManyInterim f fits = f
fails_within v room n error.InvalidId f fits = f
fails_within v room n error.IdRises f fits = f
fails_within v room n error.Unsupported f fits = f
fails_within v room n (error.Malformed rule) f fits = f

pub data_fits : (n : ℕ) → length (data_head n) ≤ 16
data_fits n =
    let both = length-append (shortest 0) (shortest n) in
    let one = at_most_8 0 in
    let two = at_most_8 n in
    omega (arith, both, one, two)

pub drain_len : length drain_wire ≡ 7
unfolding shortest
drain_len = refl
