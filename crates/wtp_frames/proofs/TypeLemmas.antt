-- The types of numbers are the kinds of their rows.
use Rattle.std.proofs.Common.{arith, ◌≡◌, ℕ}
use Rattle.vesgrauf_registry.specs.Frames.{frames, frame_of, kind_of}
use Rattle.vesgrauf_registry.specs.Table.{AtEach, IsOther}
use Rattle.vesgrauf_registry.proofs.TableLemmas.{by_entries}
use Rattle.wtp_frames.specs.FrameType.{type_in, type_of}

at_each : AtEach (λ n. type_in (kind_of n) ≡ type_of n) frames
unfolding frame_of frames
at_each = search

others : (n : ℕ) → IsOther n frames → type_in (kind_of n) ≡ type_of n
unfolding frame_of frames
others n h = grind (arith, h)

pub kind_is : (n : ℕ) → type_in (kind_of n) ≡ type_of n
kind_is n = by_entries (λ m. type_in (kind_of m) ≡ type_of m) frames n at_each (others n)
