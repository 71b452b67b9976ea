use Rattle.std.proofs.Common.{◌≡◌, ℕ, ◌+◌, List, ◌++◌, length, take, refl, ap, append_assoc}
use Rattle.std.proofs.Math.Seq.{take-append-add, take-append_seam}
use Rattle.wtp_core.specs.Put.{unsent}
use Rattle.wtp_core.proofs.polling.encoded.VarintWriting.two.Goals as goal

-- two encodings, each written over the start of the remaining buffer
two_encoded : (a b xs ys tail one two : List ℕ) (m n : ℕ) → one ≡ a ++ xs → m ≡ length a → two ≡ b ++ ys → n ≡ length b → take (m + n) (take m one ++ (two ++ tail)) ≡ a ++ b
two_encoded a b xs ys tail one two m n e i f j =
    rw (e, i, f, j, take-append_seam a xs, append_assoc b ys tail, take-append-add a (b ++ (ys ++ tail)) (length b), take-append_seam b (ys ++ tail)) refl

pub returns : goal.returns
returns c = ap unsent (two_encoded _ _ _ _ _ c.encode-one.new.buffer c.encode-two.new.buffer c.encode-one.result c.encode-two.result c.encode-one.ensures.bytes c.encode-one.ensures.size c.encode-two.ensures.bytes c.encode-two.ensures.size)
