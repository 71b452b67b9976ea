use Rattle.std.proofs.Common.{◌≡◌, drop}
use Rattle.wtp_dynamic_encoder.specs.Hashing.{word_of}
use Rattle.wtp_dynamic_encoder.proofs.hash.short_word.Given as goal

abbrev pub invariant-loop-byte : goal.invariant-loop-byte
invariant-loop-byte l = word_of l.word (drop l.byte-index l.text) ≡ word_of 0 l.text
