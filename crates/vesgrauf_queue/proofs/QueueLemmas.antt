-- How the counts of a queue follow its bytes.
use Rattle.std.proofs.Common.{◌≡◌, ◌||◌, ◌&&◌, ◌==◌, not, refl, sym, subst, Bool, true, false, if◌then◌else◌, ℕ, ◌+◌, ◌-◌, ◌<◌, ◌≤◌, ◌^◌, List, ◌++◌, take, drop, length, ap, ◌∙◌, arith, length-append, length-take, length-drop}
use Rattle.std.specs.List.{concat}
use Rattle.vesgrauf_queue.specs.declared.config.QueueConfig.{QueueConfig}
use Rattle.vesgrauf_queue.specs.declared.ending.Ending.{Ending}
use Rattle.vesgrauf_queue.specs.declared.ending.Ending.TheVariants.{Open, Finished}
use Rattle.vesgrauf_queue.specs.State.{State, waiting, is_full, is_finishing, IsCounted}
use Rattle.vesgrauf_queue.specs.Steps.{IsQueued, IsPut, ends_with}
use Rattle.vesgrauf_queue.specs.Pieces.{Adds, AddsBoth, shown}
use Rattle.std.proofs.lemmas.List.{take-append-drop}
use Rattle.vesgrauf_queue.proofs.PieceLemmas.{length-shown, length-shown-concat}
use Rattle.vesgrauf_queue.proofs.BlockLemmas.{concat-Adds, concat-AddsBoth}

pub length-Adds : (old new : List (List ℕ)) (head bytes : List ℕ) → Adds old (head ++ bytes) new
    → length (concat new) ≡ length (concat old) + (length head + length bytes)
length-Adds old new head bytes added =
    ap length (concat-Adds old new (head ++ bytes) added) ∙ length-append (concat old) (head ++ bytes)
    ∙ ap (λ n. length (concat old) + n) (length-append head bytes)

pub length-AddsBoth : (old new : List (List ℕ)) (head bytes : List ℕ) → AddsBoth old head bytes new
    → length (concat new) ≡ length (concat old) + (length head + length bytes)
length-AddsBoth old new head bytes added =
    ap length (concat-AddsBoth old new head bytes added) ∙ length-append (concat old) (head ++ bytes)
    ∙ ap (λ n. length (concat old) + n) (length-append head bytes)

pub ruleset queue_steps = (concat-Adds, length-Adds)

-- after bytes are queued
pub counted-queued : (old new : List (List ℕ)) (held_old held_new bytes : List ℕ) (count sent confirmed n : ℕ) (config : QueueConfig)
    → IsCounted old held_old count sent confirmed config → concat new ≡ concat old ++ bytes → held_new ≡ held_old → n ≡ length bytes
    → sent + length (concat old) + n < 2 ^ 62
    → IsCounted new held_new (count + n) sent confirmed config
counted-queued old new held_old held_new bytes count sent confirmed n config c added same size fits =
    let longer = ap length added ∙ length-append (concat old) bytes in
    record {
      waits = omega (arith, c.waits, longer);
      acked = c.acked;
      small = omega (arith, c.waits, fits);
      kept = ap length same ∙ c.kept;
    }

-- after QUIC took bytes
pub counted-sent : (old new : List (List ℕ)) (held_old held_new : List ℕ) (count sent confirmed n : ℕ) (config : QueueConfig)
    → IsCounted old held_old count sent confirmed config → concat new ≡ drop n (concat old)
    → held_new ≡ (if config.keep_until_acked then held_old ++ take n (concat old) else held_old) → n ≤ length (concat old)
    → IsCounted new held_new (count - n) (sent + n) confirmed config
counted-sent old new held_old held_new count sent confirmed n config c dropped held within = record {
  waits = omega (arith, c.waits, ap length dropped, length-drop n (concat old));
  acked = omega (arith, c.acked);
  small = omega (arith, c.small, c.waits);
  kept = ap length held ∙ by config.keep_until_acked c.kept;
}
  where
    by : (b : Bool) → length held_old ≡ (if b then sent - confirmed else 0)
        → length (if b then held_old ++ take n (concat old) else held_old) ≡ (if b then sent + n - confirmed else 0)
    by true e = omega (arith, e, c.acked, within, length-append held_old (take n (concat old)), length-take n (concat old))
    by false e = e

-- ---- the steps

-- bytes are queued
pub queued-step : (s o : State) (p : List (List ℕ)) (held bytes : List ℕ) (full : Bool) → o ≡ s → s.ending ≡ Open
    → concat p ≡ waiting o ++ bytes → held ≡ o.kept
    → let t : State = record { pieces = p; kept = held; put = o.put; acked = o.acked; ending = o.ending; owed = o.owed || not (not full); config = o.config } in
    full ≡ is_full t → IsQueued s bytes (not full) t
queued-step s o p held bytes full same from added kept e =
    subst (λ (x : State). IsQueued x bytes (not full) t) same (record {
      from = ap (λ (x : State). x.ending) same ∙ from;
      waits = added;
      left = ap not e;
      owed = refl;
      ending = refl;
      sent = record { put = refl; acked = refl; kept = kept; config = refl };
    })
  where
    t : State
    t = record { pieces = p; kept = held; put = o.put; acked = o.acked; ending = o.ending; owed = o.owed || not (not full); config = o.config }

-- QUIC takes bytes
pub sent-step : (s o : State) (p : List (List ℕ)) (held : List ℕ) (e : Ending) (n count : ℕ) → o ≡ s
    → concat p ≡ drop n (waiting o) → n ≤ length (shown o.pieces)
    → held ≡ (if o.config.keep_until_acked then o.kept ++ take n (waiting o) else o.kept)
    → count ≡ length (waiting o)
    → e ≡ (if is_finishing o.ending && (count - n) == 0 then Finished else o.ending)
    → IsPut s (take n (waiting s)) (ends_with s (drop n (waiting s)))
    (record { pieces = p; kept = held; put = o.put + n; acked = o.acked; ending = e; owed = o.owed; config = o.config })
sent-step s o p held e n count same dropped within kept waits ended =
    subst (λ (x : State). IsPut x (take n (waiting x)) (ends_with x (drop n (waiting x))) (record { pieces = p; kept = held; put = o.put + n; acked = o.acked; ending = e; owed = o.owed; config = o.config })) same (record {
      waits = sym (take-append-drop n (waiting o)) ∙ ap (λ b. take n (waiting o) ++ b) (sym dropped);
      few = omega (arith, within, length-shown o.pieces, length-take n (waiting o));
      ends = ap (ends_with o) (sym dropped);
      owed = refl;
      ending = ended
          ∙ ap (λ k. if is_finishing o.ending && k == 0 then Finished else o.ending)
          (let l = length-drop n (waiting o) in let size : count - n ≡ length (drop n (waiting o)) = omega arith in size);
      put = ap (λ k. o.put + k) (omega (arith, within, length-shown-concat o.pieces, length-take n (waiting o)));
      acked = refl;
      kept = kept;
      config = refl;
    })
