use Rattle.std.proofs.Common.{◌≡◌, ℕ, ◌<◌, ◌≤◌, List, length, None, slice_index, refl, arith}
use Rattle.std.proofs.lemmas.Bool.{lt-ltb, le-ltb}
use Rattle.std.proofs.lemmas.Grind.{common_steps}
use Rattle.std.specs.Int.{Width, w16, w32, w64, byte_len}
use Rattle.wtp_core.specs.Varint.{number_at, width_of}
use Rattle.wtp_core.proofs.varint.first_varint.Goals as goal

-- there are too few bytes for the size that the first byte gives
number_at-short : (bytes : List ℕ) (w : Width) → width_of (slice_index bytes 0) ≡ w → length bytes < byte_len w → number_at bytes ≡ None
unfolding number_at
number_at-short bytes w e l = rw (e, lt-ltb (length bytes) (byte_len w) l) refl

two_bytes : (bytes : List ℕ) (first : ℕ) → slice_index bytes 0 ≡ first → 64 ≤ first → first < 128 → width_of (slice_index bytes 0) ≡ w16
two_bytes bytes first e a b = rw (e, le-ltb first 64 a, lt-ltb first 128 b) refl

four_bytes : (bytes : List ℕ) (first : ℕ) → slice_index bytes 0 ≡ first → 128 ≤ first → first < 192 → width_of (slice_index bytes 0) ≡ w32
four_bytes bytes first e a b = rw (e, le-ltb first 64 (omega arith), le-ltb first 128 a, lt-ltb first 192 b) refl

eight_bytes : (bytes : List ℕ) (first : ℕ) → slice_index bytes 0 ≡ first → 192 ≤ first → width_of (slice_index bytes 0) ≡ w64
eight_bytes bytes first e a = rw (e, le-ltb first 64 (omega arith), le-ltb first 128 (omega arith), le-ltb first 192 a) refl

pub returns-in_err-front-clause-found : goal.returns-in_err-front-clause-found
returns-in_err-front-clause-found c =
    let first : slice_index c.args.bytes.now 0 ≡ c.in_ok-first.field-0.now = grind (arith, common_steps) in
    rw c.from_residual-in_err-front.ensures (number_at-short c.args.bytes.now w16 (two_bytes c.args.bytes.now _ first (omega arith) (omega arith)) c.in_err-front.ensures.cases)

pub returns-in_err-front-2-clause-found : goal.returns-in_err-front-2-clause-found
returns-in_err-front-2-clause-found c =
    let first : slice_index c.args.bytes.now 0 ≡ c.in_ok-first.field-0.now = grind (arith, common_steps) in
    rw c.from_residual-in_err-front-2.ensures (number_at-short c.args.bytes.now w32 (four_bytes c.args.bytes.now _ first (omega arith) (omega arith)) c.in_err-front-2.ensures.cases)

pub returns-in_err-front-3-clause-found : goal.returns-in_err-front-3-clause-found
returns-in_err-front-3-clause-found c =
    let first : slice_index c.args.bytes.now 0 ≡ c.in_ok-first.field-0.now = grind (arith, common_steps) in
    rw c.from_residual-in_err-front-3.ensures (number_at-short c.args.bytes.now w64 (eight_bytes c.args.bytes.now _ first (omega arith)) c.in_err-front-3.ensures.cases)
