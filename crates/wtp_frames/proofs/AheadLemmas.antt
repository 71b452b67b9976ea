-- A piece of DATA that is ahead.
use Rattle.std.proofs.Common.{◌≡◌, ◌⊎◌, ℕ, ◌+◌, ◌-◌, ◌<◌, ◌≤◌, Bool, true, false, List, length, drop, Option, Some, None, IfSome, refl, subst, arith, length-drop, eq-eqb, inl, inr}
use Rattle.std.proofs.Math.Nat.{min-eq_left, min-eq_right}
use Rattle.std.proofs.lemmas.Bool.{cases_lt, ne_eqb}
use Rattle.wtp_frames.specs.declared.reader.Place.{Place}
use Rattle.wtp_frames.specs.declared.reader.Place.TheVariants.{Body, Tunnel}
use Rattle.wtp_frames.specs.declared.reader.Reader.{Reader}
use Rattle.wtp_frames.specs.declared.reader.Move.TheVariants as move
use Rattle.wtp_frames.specs.declared.reader.Step.TheVariants as step
use Rattle.wtp_frames.specs.declared.reader.ahead.Ahead.{Ahead}
use Rattle.wtp_frames.specs.declared.rules.Action.TheVariants.{Stream}
use Rattle.wtp_frames.specs.declared.frame_type.FrameType.TheVariants as kind
use Rattle.wtp_frames.specs.Run.{streams, head_at, action_at, is_failed}
use Rattle.wtp_frames.specs.Reading.{payload_move, MoveIs, StepIs}
use Rattle.wtp_frames.specs.First.{first, given, moves, moved_by}
use Rattle.wtp_frames.specs.Ahead.{IsOpen, IsPart, past_piece, IsAhead}
use Rattle.wtp_frames.proofs.RunLemmas.{AtHead, InPayload}
use Rattle.wtp_frames.proofs.MoveLemmas.{moves_all, moves_rest, streamed_move}
use Rattle.wtp_frames.proofs.FirstLemmas.{exact_all, exact_rest, exact_frame, then_first, first_data}
use Rattle.wtp_frames.proofs.StepLemmas.{HasMoved, moved_none, moved_on, step_data}

pub is_open : (p : Place) → (p ≡ Body) ⊎ (p ≡ Tunnel) → IsOpen p
is_open p (inl e) = rw e tt
is_open p (inr e) = rw e tt

pub open_intact : (p : Place) → IsOpen p → is_failed p ≡ false
open_intact Body o = refl
open_intact Tunnel o = refl
open_intact other o = absurd o

-- a call that came to a payload that is given
record InPiece (old : Reader) (bytes : List ℕ) (mid : Reader) (at : ℕ) : Type 0 where
  pub moved : HasMoved old bytes mid at
  pub same : first old bytes ≡ first mid (drop at bytes)
  pub payload : InPayload mid
  pub streamed : mid.streamed ≡ true

-- a piece that a call gives, and the reader after it
record Is (start end : ℕ) (old new : Reader) (bytes : List ℕ) : Type 0 where
  pub gives : StepIs (step.Data start end) old bytes new
  pub exact : given (step.Data start end) bytes new ≡ first old bytes

gives : (old mid new : Reader) (bytes : List ℕ) (at n : ℕ) → InPiece old bytes mid at → MoveIs (payload_move mid.streamed n) mid (drop at bytes) new → moved_by (payload_move mid.streamed n) (drop at bytes) new ≡ moves mid (drop at bytes) → Is at (at + n) old new bytes
gives old mid new bytes at n p m e =
    let is : MoveIs (move.Streamed n) mid (drop at bytes) new = subst (λ (b : Bool). MoveIs (payload_move b n) mid (drop at bytes) new) p.streamed m in
    let exact : moved_by (move.Streamed n) (drop at bytes) new ≡ moves mid (drop at bytes) = subst (λ (b : Bool). moved_by (payload_move b n) (drop at bytes) new ≡ moves mid (drop at bytes)) p.streamed e in
    record {
      gives = step_data old mid new bytes at n p.moved is;
      exact = first_data old mid new bytes at n p.same exact is.within.0 is.within.1;
    }

abbrev with_remaining : ℕ → Reader → Reader
with_remaining n r = record r { remaining = n }

all : (old mid : Reader) (bytes : List ℕ) (at : ℕ) → InPiece old bytes mid at → at < length bytes → length bytes - at < mid.remaining → Is at (length bytes) old (with_remaining (mid.remaining - (length bytes - at)) mid) bytes
all old mid bytes at p some few =
    let size : length (drop at bytes) ≡ length bytes - at = length-drop at bytes in
    let end : at + length (drop at bytes) ≡ length bytes = omega (arith, size, p.moved.within) in
    let less : length (drop at bytes) < mid.remaining = omega (arith, size, few) in
    subst (λ (e : ℕ). Is at e old (with_remaining (mid.remaining - (length bytes - at)) mid) bytes) end
    (subst (λ (k : ℕ). Is at (at + length (drop at bytes)) old (with_remaining (mid.remaining - k) mid) bytes) size
    (gives old mid (with_remaining (mid.remaining - length (drop at bytes)) mid) bytes at (length (drop at bytes)) p (moves_all mid (drop at bytes) p.payload (omega (arith, size, some)) less) (exact_all mid (drop at bytes) p.payload less)))

rest : (old mid : Reader) (bytes : List ℕ) (at : ℕ) → InPiece old bytes mid at → mid.remaining ≤ length bytes - at → Is at (at + mid.remaining) old (with_remaining 0 mid) bytes
rest old mid bytes at p enough =
    let left : mid.remaining ≤ length (drop at bytes) = omega (arith, length-drop at bytes, enough) in
    gives old mid (with_remaining 0 mid) bytes at mid.remaining p (moves_rest mid (drop at bytes) p.payload left) (exact_rest mid (drop at bytes) p.payload left)

-- the part of the payload that came
piece : (a : Ahead) (old mid : Reader) (bytes : List ℕ) (at : ℕ) → InPiece old bytes mid at → IsPart at mid.remaining (length bytes) a → Is a.start a.end old (with_remaining a.remaining mid) bytes
piece a old mid bytes at p part = elim (cases_lt (length bytes - at) mid.remaining) [
  | inl few ↦
      let end : a.end ≡ length bytes = omega (arith, part.end, min-eq_right {n = length bytes - at} {m = mid.remaining} (omega (arith, few)), p.moved.within) in
      rw (part.start, end, part.remaining) (all old mid bytes at p (omega (arith, part.some, end)) few)
  | inr enough ↦
      let end : a.end ≡ at + mid.remaining = omega (arith, part.end, min-eq_left {n = mid.remaining} {m = length bytes - at} enough) in
      let none : a.remaining ≡ 0 = omega (arith, part.remaining, enough) in
      rw (part.start, end, none) (rest old mid bytes at p enough)
]

ahead : (a : Ahead) (old mid : Reader) (bytes : List ℕ) → with_remaining a.remaining mid ≡ past_piece a.remaining old → Is a.start a.end old (with_remaining a.remaining mid) bytes → IsAhead a old bytes
ahead a old mid bytes e is = record { gives = rw e at is.gives; exact = rw e at is.exact }

-- ---- within a frame

pub ahead_within : (a : Ahead) (r : Reader) (bytes : List ℕ) → IsOpen r.place → (r.remaining ≡ 0 → ⊥) → r.streamed ≡ true → IsPart 0 r.remaining (length bytes) a → IsAhead a r bytes
ahead_within a r bytes o some streamed part =
    let at : InPiece r bytes r 0 = record {
      moved = moved_none r bytes;
      same = refl;
      payload = record { intact = open_intact r.place o; some = omega (arith, some) };
      streamed = streamed;
    } in
    ahead a r r bytes (rw (ne_eqb r.remaining 0 some) refl) (piece a r r bytes 0 at part)

pub if_within : (o : Option Ahead) (r : Reader) (bytes : List ℕ) → IsOpen r.place → (r.remaining ≡ 0 → ⊥) → r.streamed ≡ true → IfSome o (λ a. IsPart 0 r.remaining (length bytes) a) → IfSome o (λ a. IsAhead a r bytes)
if_within None r bytes o some streamed is = is
if_within (Some a) r bytes o some streamed part = ahead_within a r bytes o some streamed part

-- ---- after the head of one

data_streams : (r : Reader) (n : ℕ) (p : Place) → r.place ≡ p → IsOpen p → (n ≡ 0 → ⊥) → action_at r kind.Data n ≡ Stream
data_streams r n Body e o some = rw (e, ne_eqb n 0 some) refl
data_streams r n Tunnel e o some = rw (e, ne_eqb n 0 some) refl
data_streams r n other e o some = absurd o

pub ahead_after : (a : Ahead) (r : Reader) (bytes : List ℕ) (n start : ℕ) → IsOpen r.place → r.remaining ≡ 0 → head_at bytes ≡ Some (0, n, drop start bytes) → start ≤ length bytes → (n ≡ 0 → ⊥) → IsPart start n (length bytes) a → IsAhead a r bytes
ahead_after a r bytes n start o none head within some part =
    let at_head : AtHead r = record { intact = open_intact r.place o; none = none } in
    let is : action_at r kind.Data n ≡ Stream = data_streams r n r.place refl o some in
    let m : MoveIs (move.Passed start) r bytes (streams r n) = streamed_move r bytes kind.Data 0 n start at_head refl head within is in
    let from : 0 + start ≡ start = omega arith in
    let at : InPiece r bytes (streams r n) start = record {
      moved = subst (λ (k : ℕ). HasMoved r bytes (streams r n) k) from (moved_on r r (streams r n) bytes 0 start (moved_none r bytes) m);
      same = subst (λ (k : ℕ). first r bytes ≡ first (streams r n) (drop k bytes)) from (then_first r r (streams r n) bytes 0 start refl (exact_frame r bytes kind.Data 0 n start Stream at_head refl head is) m.within.0 m.within.1);
      payload = record { intact = open_intact r.place o; some = omega (arith, some) };
      streamed = refl;
    } in
    ahead a r (streams r n) bytes (rw (eq-eqb r.remaining 0 none, ne_eqb n 0 some) refl) (piece a r (streams r n) bytes start at part)

pub if_after : (o : Option Ahead) (r : Reader) (bytes : List ℕ) (n start : ℕ) → IsOpen r.place → r.remaining ≡ 0 → head_at bytes ≡ Some (0, n, drop start bytes) → start ≤ length bytes → (n ≡ 0 → ⊥) → IfSome o (λ a. IsPart start n (length bytes) a) → IfSome o (λ a. IsAhead a r bytes)
if_after None r bytes n start o none head within some is = is
if_after (Some a) r bytes n start o none head within some part = ahead_after a r bytes n start o none head within some part
