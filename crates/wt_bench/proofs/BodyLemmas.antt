-- A body that is read piece by piece.
use Rattle.std.proofs.Common.{◌≡◌, ℕ, ◌+◌, ◌-◌, ◌≤◌, List, [], ◌∷◌, ◌++◌, map, length, drop, refl, sym, ap, ◌∙◌, zero-add, arith}
use Rattle.std.specs.List.{slice_range}
use Rattle.std.proofs.lemmas.List.{drop-append-le, drop-drop, drop_all, length-take-le, length-drop, append-nil}
use Rattle.std.proofs.lemmas.List.Folds.{drop_split}
use Rattle.wtp_frames.specs.declared.frame_type.FrameType.{FrameType}
use Rattle.wtp_frames.specs.declared.reader.Reader.{Reader}
use Rattle.wtp_frames.specs.declared.reader.Step.{Step}
use Rattle.wtp_frames.specs.declared.reader.Step.TheVariants as step
use Rattle.wtp_frames.specs.Item.{Item, Whole, Byte, TooLarge, Broken}
use Rattle.wtp_frames.specs.Run.{Run, run}
use Rattle.wtp_frames.specs.Reading.{StepIs, items_of, left_after}
use Rattle.wt_bench.specs.declared.connection.Progress.{Progress}
use Rattle.wt_bench.specs.Bodies.{body_size, size_from, IsWithin, GoesOn}

body_size-append : (xs ys : List Item) → body_size (xs ++ ys) ≡ body_size xs + body_size ys
body_size-append [] ys = sym (zero-add (body_size ys))
body_size-append (Byte b ∷ xs) ys = omega (arith, body_size-append xs ys)
body_size-append (Whole k p ∷ xs) ys = body_size-append xs ys
body_size-append (TooLarge n ∷ xs) ys = body_size-append xs ys
body_size-append (Broken f ∷ xs) ys = body_size-append xs ys

body_size-bytes : (bytes : List ℕ) → body_size (map Byte bytes) ≡ length bytes
body_size-bytes [] = refl
body_size-bytes (b ∷ bytes) = omega (arith, body_size-bytes bytes)

length-piece : (bytes : List ℕ) (start end : ℕ) → end ≤ length bytes → length (slice_range bytes start end) ≡ end - start
length-piece bytes start end came = length-take-le (end - start) (drop start bytes) (omega (arith, length-drop start bytes, came))

-- what follows n bytes of a piece
after_piece : (bytes : List ℕ) (start end n : ℕ) → start ≤ end → n ≤ length (slice_range bytes start end) → drop n (slice_range bytes start end) ++ drop end bytes ≡ drop (start + n) bytes
after_piece bytes start end n le few = sym (drop-append-le n (slice_range bytes start end) (drop end bytes) few) ∙ ap (drop n) (sym (drop_split bytes start end le)) ∙ drop-drop n start bytes

-- a step that consumes n bytes of a piece
size_after : (s : Step) (old new : Reader) (bytes : List ℕ) (start end n : ℕ) → start ≤ end → n ≤ length (slice_range bytes start end) → left_after s (slice_range bytes start end) ≡ drop n (slice_range bytes start end) → StepIs s old (slice_range bytes start end) new → body_size (run old (drop start bytes)).items ≡ body_size (items_of s (slice_range bytes start end)) + body_size (run new (drop (start + n) bytes)).items
size_after s old new bytes start end n le few left is =
    let piece = slice_range bytes start end in
    let whole : body_size (run old (piece ++ drop end bytes)).items ≡ body_size (items_of s piece ++ (run new (left_after s piece ++ drop end bytes)).items) = ap (λ (r : Run). body_size r.items) (is.gives (drop end bytes)) in
    let rest : left_after s piece ++ drop end bytes ≡ drop (start + n) bytes = ap (λ l. l ++ drop end bytes) left ∙ after_piece bytes start end n le few in
    ap (λ l. body_size (run old l).items) (drop_split bytes start end le) ∙ whole ∙ body_size-append (items_of s piece) (run new (left_after s piece ++ drop end bytes)).items ∙ ap (λ l. body_size (items_of s piece) + body_size (run new l).items) rest

pub data_goes_on : (old new : Reader) (p : Progress) (bytes : List ℕ) (from to : ℕ) → IsWithin p bytes → StepIs (step.Data from to) old (slice_range bytes p.start p.end) new → GoesOn old new p (record { start = p.start + to; end = p.end; body = p.body + (to - from) }) bytes
data_goes_on old new p bytes from to at is =
    let size = length-piece bytes p.start p.end at.came in
    let given : body_size (items_of (step.Data from to) (slice_range bytes p.start p.end)) ≡ to - from = body_size-bytes (slice_range (slice_range bytes p.start p.end) from to) ∙ length-piece (slice_range bytes p.start p.end) from to is.within.1 in
    let same = size_after (step.Data from to) old new bytes p.start p.end to at.ordered is.within.1 refl is in
    record {
      within = record {
        ordered = omega (arith, size, is.within.1, at.ordered);
        came = at.came;
        read = omega (arith, at.read);
      };
      same = omega (arith, same, given);
    }

pub frame_goes_on : (old new : Reader) (p : Progress) (bytes : List ℕ) (kind : FrameType) (start n : ℕ) → IsWithin p bytes → StepIs (step.Frame kind start n) old (slice_range bytes p.start p.end) new → GoesOn old new p (record { start = p.start + n; end = p.end; body = p.body }) bytes
frame_goes_on old new p bytes kind start n at is =
    let size = length-piece bytes p.start p.end at.came in
    let same = size_after (step.Frame kind start n) old new bytes p.start p.end n at.ordered is.within.2 refl is in
    record {
      within = record {
        ordered = omega (arith, size, is.within.2, at.ordered);
        came = at.came;
        read = omega (arith, at.read);
      };
      same = omega (arith, same);
    }

pub skipped_goes_on : (old new : Reader) (p : Progress) (bytes : List ℕ) (size n : ℕ) → IsWithin p bytes → StepIs (step.TooLarge size n) old (slice_range bytes p.start p.end) new → GoesOn old new p (record { start = p.start + n; end = p.end; body = p.body }) bytes
skipped_goes_on old new p bytes skipped n at is =
    let size = length-piece bytes p.start p.end at.came in
    let same = size_after (step.TooLarge skipped n) old new bytes p.start p.end n at.ordered is.within.1 refl is in
    record {
      within = record {
        ordered = omega (arith, size, is.within.1, at.ordered);
        came = at.came;
        read = omega (arith, at.read);
      };
      same = omega (arith, same);
    }

-- more bytes come, up to `end`
pub more_goes_on : (old new : Reader) (p : Progress) (bytes : List ℕ) (n end : ℕ) → IsWithin p bytes → StepIs (step.More n) old (slice_range bytes p.start p.end) new → p.end ≤ end → end ≤ length bytes → GoesOn old new p (record { start = p.start + n; end = end; body = p.body }) bytes
more_goes_on old new p bytes n end at is more came =
    let size = length-piece bytes p.start p.end at.came in
    let same = size_after (step.More n) old new bytes p.start p.end n at.ordered is.within.0 refl is in
    record {
      within = record {
        ordered = omega (arith, size, is.within.0, at.ordered, more);
        came = came;
        read = omega (arith, at.read);
      };
      same = omega (arith, same);
    }

-- where all bytes came, nothing of the body is left once more bytes are needed
pub all_read : (old new : Reader) (p : Progress) (bytes : List ℕ) (n : ℕ) → IsWithin p bytes → StepIs (step.More n) old (slice_range bytes p.start p.end) new → p.end ≡ length bytes → p.body ≡ size_from old p bytes
all_read old new p bytes n at is all =
    let piece = slice_range bytes p.start p.end in
    let same = size_after (step.More n) old new bytes p.start p.end n at.ordered is.within.0 refl is in
    let none : drop p.end bytes ≡ [] = drop_all p.end bytes (omega (arith, all)) in
    let rest : drop n piece ≡ drop (p.start + n) bytes = sym (append-nil (drop n piece)) ∙ ap (λ l. drop n piece ++ l) (sym none) ∙ after_piece bytes p.start p.end n at.ordered is.within.0 in
    let left : body_size (run new (drop (p.start + n) bytes)).items ≡ 0 = ap (λ l. body_size (run new l).items) (sym rest) ∙ ap (λ (r : Run). body_size r.items) is.within.1.run in
    omega (arith, same, left)
