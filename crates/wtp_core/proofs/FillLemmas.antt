-- The steps of a fill add up.
use Rattle.std.proofs.Common.{◌≡◌, ℕ, ◌+◌, ◌<◌, ◌≤◌, List, ◌++◌, length, take, drop, sym, ap, ◌∙◌, arith, append_assoc, length-append, take-add, length-take, Option, Some, None, Result, Err}
use Rattle.std.proofs.lemmas.List.{take-take, take-append-le, take-append-drop, take_at, drop_at}
use Rattle.wtp_core.specs.Source.{Source, AsksOnce}
use Rattle.wtp_core.specs.Fill.{Gains, InterruptIsTrue, InterruptsAs, interrupted_poll}
use Rattle.wtp_core.specs.declared.bytes.poll.Polled.{Polled}
use Rattle.wtp_core.specs.declared.bytes.poll.Polled.TheVariants.{Ready}
use Rattle.wtp_core.specs.declared.bytes.error.IoReadError.{IoReadError}
use Rattle.wtp_core.specs.declared.polling.fill.Interrupted.{Interrupted}
use Rattle.wtp_core.specs.declared.polling.fill.Interrupted.TheVariants as interrupt

pub front_kept : (m n : ℕ) (xs ys zs : List ℕ) → m ≤ n → take n xs ≡ take n ys → take m ys ≡ take m zs → take m xs ≡ take m zs
front_kept m n xs ys zs le e f = sym (take-take m n xs le) ∙ ap (λ l. take m l) e ∙ take-take m n ys le ∙ f

pub gains_more : (held xs ys : List ℕ) (a b c : Source) → Gains held xs a b 0 → AsksOnce b c → b.ahead ≡ ys ++ c.ahead → b.waits ≤ c.waits → 0 < length ys → Gains held (xs ++ ys) a c 0
gains_more held xs ys a b c g asks moved waits some = record {
  kept = g.kept ∙ ap (λ l. xs ++ l) moved ∙ sym (append_assoc xs ys c.ahead);
  ending = asks.ending ∙ g.ending;
  asked = let one = asks.asked in let before = g.asked in omega (arith, length-append xs ys);
  no_less = let one = asks.no_less in let before = g.no_less in omega arith;
  waits = let before = g.waits in omega arith;
}

-- writing after the bytes held does not change them
pub front_is_stable : (at : ℕ) (buf rest : List ℕ) → at ≤ length buf → take at (take at buf ++ rest) ≡ take at buf
front_is_stable at buf rest l = take_at (take at buf) rest at (omega (arith, length-take at buf))

-- a call appended n bytes to the first `at` bytes of a buffer
pub gains_bytes : (held buf part rest : List ℕ) (at n : ℕ) (a b c : Source) → Gains held (take at buf) a b 0 → at ≤ length buf → n ≤ length part → 0 < n → AsksOnce b c → b.ahead ≡ take n part ++ c.ahead → c.waits ≡ b.waits → Gains held (take (at + n) (take at buf ++ (part ++ rest))) a c 0
gains_bytes held buf part rest at n a b c g within fits some asks moved waits =
    let new = take at buf ++ (part ++ rest) in
    let behind : take n (drop at new) ≡ take n part = ap (λ l. take n l) (drop_at (take at buf) (part ++ rest) at (omega (arith, length-take at buf))) ∙ take-append-le n part rest fits in
    let shape : take (at + n) new ≡ take at buf ++ take n part = take-add at n new ∙ ap (λ l. l ++ take n (drop at new)) (front_is_stable at buf (part ++ rest) within) ∙ ap (λ l. take at buf ++ l) behind in
    rw shape (gains_more held (take at buf) (take n part) a b c g asks moved (omega arith) (omega (arith, length-take n part)))

-- a call moved no byte, whatever it wrote after the first `at` bytes of the buffer
pub gains_none : (held buf part rest : List ℕ) (at : ℕ) (a b c : Source) → Gains held (take at buf) a b 0 → at ≤ length buf → AsksOnce b c → c.ahead ≡ b.ahead → b.waits ≤ c.waits → Gains held (take at (take at buf ++ (part ++ rest))) a c 1
gains_none held buf part rest at a b c g within asks same waits =
    rw (front_is_stable at buf (part ++ rest) within) (record {
      kept = g.kept ∙ ap (λ l. take at buf ++ l) (sym same);
      ending = asks.ending ∙ g.ending;
      asked = let one = asks.asked in let before = g.asked in omega arith;
      no_less = let one = asks.no_less in let before = g.no_less in omega arith;
      waits = let before = g.waits in omega arith;
    })

pub gains_then : (x y y' z z' : List ℕ) (a b c : Source) (extra : ℕ) → Gains x y a b 0 → Gains y' z b c extra → y' ≡ y → z' ≡ z → Gains x z' a c extra
gains_then x y y' z z' a b c extra p q same shown = record {
  kept = p.kept ∙ ap (λ l. l ++ b.ahead) (sym same) ∙ q.kept ∙ ap (λ l. l ++ c.ahead) (sym shown);
  ending = q.ending ∙ p.ending;
  asked = let one = p.asked in let two = q.asked in omega (arith, ap length same, ap length shown);
  no_less = let one = p.no_less in let two = q.no_less in omega arith;
  waits = let one = p.waits in let two = q.waits in omega arith;
}

-- bytes that start with the old bytes are the old bytes and others
pub begins : (n : ℕ) (old new : List ℕ) → take n new ≡ old → (more : List ℕ) × (new ≡ old ++ more)
begins n old new e = (drop n new, sym (take-append-drop n new) ∙ ap (λ l. l ++ drop n new) e)

-- the bytes held before and after a fill of the first `len_needed` bytes of a buffer
pub record Grown (len at len_needed : ℕ) (buf part : List ℕ) : Type 0 where
  pub shown : take at (part ++ drop len_needed buf) ≡ take at part
  pub extends : (more : List ℕ) × (take at (part ++ drop len_needed buf) ≡ take len buf ++ more)
  pub old_len : length (take len buf) ≡ len
  pub new_len : length (take at (part ++ drop len_needed buf)) ≡ at
  pub held : take len (take len_needed buf) ≡ take len buf
  pub front : take len (part ++ drop len_needed buf) ≡ take len buf

pub grown : (len at len_needed : ℕ) (buf part : List ℕ) → len ≤ at → at ≤ len_needed → len_needed ≤ length buf → length part ≡ length (take len_needed buf) → take len part ≡ take len (take len_needed buf) → Grown len at len_needed buf part
grown len at len_needed buf part le in_part in_buf size front =
    let need_is : length (take len_needed buf) ≡ len_needed = omega (arith, length-take len_needed buf) in
    let shows : take at (part ++ drop len_needed buf) ≡ take at part = take-append-le at part (drop len_needed buf) (omega arith) in
    let old : length (take len buf) ≡ len = omega (arith, length-take len buf) in
    let kept : take len (take len_needed buf) ≡ take len buf = take-take len len_needed buf (omega arith) in
    record {
      shown = shows;
      extends = begins len (take len buf) (take at (part ++ drop len_needed buf)) (ap (λ l. take len l) shows ∙ take-take len at part le ∙ front ∙ kept);
      old_len = old;
      new_len = ap length shows ∙ omega (arith, length-take at part);
      held = kept;
      front = front_kept len at (part ++ drop len_needed buf) part buf le shows (front ∙ kept);
    }

pub interrupt_then : (h : Interrupted) (a b c : Source) → b.ending ≡ a.ending → a.waits ≤ b.waits → InterruptIsTrue h b c → InterruptIsTrue h a c
interrupt_then interrupt.NotReady a b c e w p = omega arith
interrupt_then interrupt.Fin a b c e w p = (p.0, sym e ∙ p.1)
interrupt_then interrupt.Reset a b c e w p = (p.0, sym e ∙ p.1)
interrupt_then interrupt.NotConnected a b c e w p = (p.0, sym e ∙ p.1)

pub interrupted_as : {T E : Type 0} (wrap : IoReadError → E) (fault : Option IoReadError) (r : Polled (Result T E)) → InterruptsAs (λ f e. e ≡ wrap f) fault r → r ≡ interrupted_poll wrap fault
interrupted_as wrap None r h = h
interrupted_as {E = E} wrap (Some fault) r (e, is, gave) = gave ∙ ap (λ (x : E). Ready (Err x)) is
