-- A payload that is one number.
use Rattle.std.proofs.Common.{◌≡◌, ℕ, ◌<◌, ◌≤◌, List, [], ◌∷◌, length, drop, Some, None, refl, sym, ap, ◌∙◌, arith, length-drop}
use Rattle.wtp_core.specs.Varint.{number_at}
use Rattle.wtp_frames.specs.Rules.{alone, one_number}

alone_none : (n : ℕ) (rest : List ℕ) → 0 < length rest → alone (Some (n, rest)) ≡ None
alone_none n [] l = absurd (omega arith)
alone_none n (b ∷ rest) l = refl

alone_some : (n : ℕ) (rest : List ℕ) → length rest ≤ 0 → alone (Some (n, rest)) ≡ Some n
alone_some n [] l = refl
alone_some n (b ∷ rest) l = absurd (omega arith)

pub alone_more : (payload : List ℕ) (n size : ℕ) → number_at payload ≡ Some (n, drop size payload) → size < length payload → None ≡ one_number payload
unfolding one_number
alone_more payload n size e l = sym (ap alone e ∙ alone_none n (drop size payload) (omega (arith, l, length-drop size payload)))

pub alone_whole : (payload : List ℕ) (n size : ℕ) → number_at payload ≡ Some (n, drop size payload) → length payload ≤ size → Some n ≡ one_number payload
unfolding one_number
alone_whole payload n size e l = sym (ap alone e ∙ alone_some n (drop size payload) (omega (arith, l, length-drop size payload)))

pub ruleset alone_by_size = (alone_more, alone_whole)
