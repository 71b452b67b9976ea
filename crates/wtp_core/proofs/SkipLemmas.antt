-- The steps of skipping add up.
use Rattle.std.proofs.Common.{◌≡◌, ℕ, ◌+◌, ◌<◌, length, drop, sym, ap, ◌∙◌, arith, length-drop}
use Rattle.std.proofs.lemmas.List.{drop-drop}
use Rattle.wtp_core.specs.Source.{Source, AsksOnce}
use Rattle.wtp_core.specs.SkipAhead.{Skipped}

pub skipped_then : (m n k e : ℕ) (a b c : Source) → k ≡ m + n → Skipped m a b 0 → Skipped n b c e → Skipped k a c e
skipped_then m n k e a b c is p q = record {
  there = let one = p.there in let two = q.there in omega (arith, ap length p.rest, length-drop m a.ahead);
  rest = q.rest ∙ ap (λ l. drop n l) p.rest ∙ drop-drop n m a.ahead ∙ ap (λ i. drop i a.ahead) (sym is);
  ending = q.ending ∙ p.ending;
  asked = let one = p.asked in let two = q.asked in omega arith;
  no_less = let one = p.no_less in let two = q.no_less in omega arith;
  waits = let one = p.waits in let two = q.waits in omega arith;
}

pub skipped_some : (n : ℕ) (a b : Source) → 0 < n → Skipped n a b 1 → AsksOnce a b → Skipped n a b 0
skipped_some n a b some p k = record {
  there = p.there;
  rest = p.rest;
  ending = p.ending;
  asked = let one = k.asked in omega arith;
  no_less = k.no_less;
  waits = p.waits;
}
