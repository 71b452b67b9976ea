-- Some moves are a step.
use Rattle.std.proofs.Common.{◌≡◌, ℕ, ◌+◌, ◌-◌, ◌≤◌, List, [], ◌∷◌, ◌++◌, map, length, take, drop, refl, ap, ◌∙◌, append_assoc, arith, length-drop}
use Rattle.std.proofs.lemmas.List.{drop-drop}
use Rattle.std.proofs.Math.Seq.{take-add, take-length}
use Rattle.wtp_frames.specs.declared.frame_type.FrameType.{FrameType}
use Rattle.wtp_frames.specs.declared.fault.Fault.{Fault}
use Rattle.wtp_frames.specs.declared.reader.Reader.{Reader}
use Rattle.wtp_frames.specs.declared.reader.Move.TheVariants as move
use Rattle.wtp_frames.specs.declared.reader.Step.TheVariants as step
use Rattle.wtp_frames.specs.Item.{Item, Whole, Byte, TooLarge, Broken}
use Rattle.wtp_frames.specs.Rules.{after_section}
use Rattle.wtp_frames.specs.Run.{run}
use Rattle.wtp_frames.specs.Reading.{Gives, slice, IsAt, MoveIs, StepIs}
use Rattle.wtp_frames.proofs.MoveLemmas.{gives_nothing}

-- the bytes up to this offset are consumed, and gave nothing
pub record HasMoved (old : Reader) (bytes : List ℕ) (new : Reader) (at : ℕ) : Type 0 where
  pub within : at ≤ length bytes
  pub endpoint : new.endpoint ≡ old.endpoint
  pub still : IsAt old.place old new
  pub gives : Gives old bytes [] new (drop at bytes)
  pub alone : Gives old (take at bytes) [] new []

pub moved_none : (r : Reader) (bytes : List ℕ) → HasMoved r bytes r 0
moved_none r bytes = record { within = omega arith; endpoint = refl; still = record { place = refl; interims = refl }; gives = gives_nothing r bytes; alone = gives_nothing r [] }

then_gives : (old mid new : Reader) (bytes rest left : List ℕ) (items : List Item) → Gives old bytes [] mid rest → Gives mid rest items new left → Gives old bytes items new left
then_gives old mid new bytes rest left items g h more = g more ∙ h more

left_at : (n at : ℕ) (old new : Reader) (bytes : List ℕ) (items : List Item) → Gives old bytes items new (drop n (drop at bytes)) → Gives old bytes items new (drop (at + n) bytes)
left_at n at old new bytes items g = rw (drop-drop n at bytes) at g

-- the bytes of the moves before, and those of the next one
alone_on : (old mid new : Reader) (bytes : List ℕ) (at n : ℕ) (items : List Item) → Gives old (take at bytes) [] mid [] → Gives mid (take n (drop at bytes)) items new [] → Gives old (take (at + n) bytes) items new []
alone_on old mid new bytes at n items g h more =
    ap (λ (l : List ℕ). run old (l ++ more)) (take-add at n bytes)
    ∙ ap (λ (l : List ℕ). run old l) (append_assoc (take at bytes) (take n (drop at bytes)) more)
    ∙ g (take n (drop at bytes) ++ more)
    ∙ h more

slice_at : (a b at : ℕ) (bytes : List ℕ) → slice a b (drop at bytes) ≡ slice (at + a) (at + b) bytes
slice_at a b at bytes = let size : (at + b) - (at + a) ≡ b - a = omega arith in rw (size, drop-drop a at bytes) refl

pub moved_on : (old mid new : Reader) (bytes : List ℕ) (at n : ℕ) → HasMoved old bytes mid at → MoveIs (move.Passed n) mid (drop at bytes) new → HasMoved old bytes new (at + n)
moved_on old mid new bytes at n h m = record {
  within = omega (arith, h.within, m.within.1, length-drop at bytes);
  endpoint = m.endpoint ∙ h.endpoint;
  still = record { place = m.next.place ∙ h.still.place; interims = m.next.interims ∙ h.still.interims };
  gives = left_at n at old new bytes [] (then_gives old mid new bytes (drop at bytes) (drop n (drop at bytes)) [] h.gives m.gives);
  alone = alone_on old mid new bytes at n [] h.alone m.alone;
}

pub step_frame : (old mid new : Reader) (bytes : List ℕ) (at : ℕ) (k : FrameType) (a b : ℕ) → HasMoved old bytes mid at → MoveIs (move.Whole k a b) mid (drop at bytes) new → StepIs (step.Frame k (at + a) (at + b)) old bytes new
step_frame old mid new bytes at k a b h m = record {
  within = (omega (arith, m.within.0), omega (arith, m.within.1), omega (arith, h.within, m.within.2, length-drop at bytes));
  endpoint = m.endpoint ∙ h.endpoint;
  next = record {
    place = rw (← h.endpoint, ← h.still.place, ← slice_at a b at bytes) m.next.place;
    reader = rw (← h.endpoint, ← h.still.interims) m.next.reader;
  };
  gives = rw (← slice_at a b at bytes) (left_at b at old new bytes (Whole k (slice a b (drop at bytes)) ∷ []) (then_gives old mid new bytes (drop at bytes) (drop b (drop at bytes)) (Whole k (slice a b (drop at bytes)) ∷ []) h.gives m.gives));
  alone = rw (← slice_at a b at bytes) (alone_on old mid new bytes at b (Whole k (slice a b (drop at bytes)) ∷ []) h.alone m.alone);
}

piece_at : (n at : ℕ) (bytes : List ℕ) → slice at (at + n) bytes ≡ take n (drop at bytes)
piece_at n at bytes = let size : (at + n) - at ≡ n = omega arith in rw size refl

pub step_data : (old mid new : Reader) (bytes : List ℕ) (at n : ℕ) → HasMoved old bytes mid at → MoveIs (move.Streamed n) mid (drop at bytes) new → StepIs (step.Data at (at + n)) old bytes new
step_data old mid new bytes at n h m = record {
  within = (omega (arith, m.within.0), omega (arith, h.within, m.within.1, length-drop at bytes));
  endpoint = m.endpoint ∙ h.endpoint;
  next = record { place = m.next.place ∙ h.still.place; interims = m.next.interims ∙ h.still.interims };
  gives = rw (piece_at n at bytes) (left_at n at old new bytes (map Byte (take n (drop at bytes))) (then_gives old mid new bytes (drop at bytes) (drop n (drop at bytes)) (map Byte (take n (drop at bytes))) h.gives m.gives));
  alone = rw (piece_at n at bytes) (alone_on old mid new bytes at n (map Byte (take n (drop at bytes))) h.alone m.alone);
}

pub step_too_large : (old mid new : Reader) (bytes : List ℕ) (at size n : ℕ) → HasMoved old bytes mid at → MoveIs (move.TooLarge size n) mid (drop at bytes) new → StepIs (step.TooLarge size (at + n)) old bytes new
step_too_large old mid new bytes at size n h m = record {
  within = (omega (arith, m.within.0), omega (arith, h.within, m.within.1, length-drop at bytes));
  endpoint = m.endpoint ∙ h.endpoint;
  next = record { place = m.next.place ∙ ap after_section h.still.place; interims = m.next.interims ∙ h.still.interims };
  gives = left_at n at old new bytes (TooLarge size ∷ []) (then_gives old mid new bytes (drop at bytes) (drop n (drop at bytes)) (TooLarge size ∷ []) h.gives m.gives);
  alone = alone_on old mid new bytes at n (TooLarge size ∷ []) h.alone m.alone;
}

pub step_more : (old mid new : Reader) (bytes : List ℕ) (at : ℕ) → HasMoved old bytes mid at → MoveIs move.Stuck mid (drop at bytes) new → StepIs (step.More at) old bytes new
step_more old mid new bytes at h m = record {
  within = (h.within, m.within);
  endpoint = m.endpoint ∙ h.endpoint;
  next = record { place = m.next.place ∙ h.still.place; interims = m.next.interims ∙ h.still.interims };
  gives = then_gives old mid new bytes (drop at bytes) (drop at bytes) [] h.gives m.gives;
  alone = λ more. h.alone more ∙ m.alone more;
}

pub step_fault : (old mid new : Reader) (bytes : List ℕ) (at : ℕ) (f : Fault) → HasMoved old bytes mid at → MoveIs (move.Failed f) mid (drop at bytes) new → StepIs (step.Fault f) old bytes new
step_fault old mid new bytes at f h m = record {
  within = omega (arith, m.within, length-drop at bytes);
  endpoint = m.endpoint ∙ h.endpoint;
  next = record { place = m.next.place; interims = m.next.interims ∙ h.still.interims };
  gives = then_gives old mid new bytes (drop at bytes) [] (Broken f ∷ []) h.gives m.gives;
  alone = rw (take-length bytes) (then_gives old mid new bytes (drop at bytes) [] (Broken f ∷ []) h.gives m.gives);
}
