use Rattle.std.proofs.Common.{◌≡◌, ◌/◌, length}
use Rattle.wtp_dynamic_encoder.specs.Hashing.{mixed, hash_words}
use Rattle.wtp_dynamic_encoder.proofs.hash.hash_text.Given as goal

abbrev pub invariant-loop-word : goal.invariant-loop-word
invariant-loop-word l =
    hash_words (length l.rest / 8) l.state l.rest ≡ hash_words (length l.text / 8) (mixed l.seed (length l.text)) l.text

abbrev pub decreases-loop-word : goal.decreases-loop-word
decreases-loop-word l = length l.rest
