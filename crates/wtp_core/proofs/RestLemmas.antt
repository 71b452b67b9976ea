-- The bytes that reading leaves are a suffix of the bytes before it.
use Rattle.std.proofs.Common.{◌≡◌, ℕ, List, [], ◌++◌, Some, sym, ap, ◌∙◌, append_assoc}
use Rattle.wtp_core.specs.Varint.{number_at, bytes_at}
use Rattle.wtp_core.specs.Reader.{IsRest}
use Rattle.wtp_core.proofs.EncodingLemmas.{number_at-encodes, bytes_at-parts}

-- bytes are a suffix of themselves
pub rest-same : (new old : List ℕ) → new ≡ old → IsRest new old
rest-same new old e = record { taken = []; parts = sym e }

pub rest-rest : (new mid old : List ℕ) (h : IsRest new mid) (k : IsRest mid old) → IsRest new old
rest-rest new mid old h k = record { taken = k.taken ++ h.taken; parts = k.parts ∙ ap (λ (x : List ℕ). k.taken ++ x) h.parts ∙ sym (append_assoc k.taken h.taken new) }

pub rest-number : (n : ℕ) (new old : List ℕ) → number_at old ≡ Some (n, new) → IsRest new old
rest-number n new old e = let (s, encoded, parts) = number_at-encodes n old new e in record { taken = s; parts = parts }

pub rest-bytes : (n : ℕ) (s new old : List ℕ) → bytes_at n old ≡ Some (s, new) → IsRest new old
rest-bytes n s new old e = let (len, parts) = bytes_at-parts n old s new e in record { taken = s; parts = parts }

pub ruleset rests = (rest-same, rest-rest, rest-number, rest-bytes)
