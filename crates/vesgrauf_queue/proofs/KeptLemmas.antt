-- What is kept, what is counted, and when a `Writable` is owed.
use Rattle.std.proofs.Common.{◌≡◌, Bool, true, false, if◌then◌else◌, ℕ, ◌+◌, ◌-◌, ◌≤◌, List, [], ◌∷◌, ◌++◌, length, drop, sym, ap, ◌∙◌, arith, length-append, length-drop, append_assoc}
use Rattle.std.proofs.lemmas.List.{append-nil, drop_all, drop-append-le, drop-drop}
use Rattle.vesgrauf_queue.specs.declared.config.QueueConfig.{QueueConfig}
use Rattle.vesgrauf_queue.specs.State.{State}
use Rattle.vesgrauf_queue.specs.Steps.{Step, Queues, Refuses, Finishes, Resets, Puts, PutsReset, Acknowledges, Tells, Leads, Run, IsPut, IsAcknowledged}
use Rattle.vesgrauf_queue.specs.Runs.{put, acked, owed_after}

-- ---- counts

pub put-count : (xs : List Step) (s t : State) → Leads xs s t → t.put ≡ s.put + length (put xs)
put-count [] s t l = ap (λ (x : State). x.put) l ∙ omega arith
put-count (Queues bytes room ∷ xs) s t l = put-count xs l.0 t l.2 ∙ ap (λ n. n + length (put xs)) l.1.sent.put
put-count (Refuses ∷ xs) s t l = put-count xs l.0 t l.2 ∙ ap (λ n. n + length (put xs)) l.1.sent.put
put-count (Finishes ∷ xs) s t l = put-count xs l.0 t l.2 ∙ ap (λ n. n + length (put xs)) l.1.sent.put
put-count (Resets code size ∷ xs) s t l = put-count xs l.0 t l.2 ∙ ap (λ n. n + length (put xs)) l.1.sent.put
put-count (Puts bytes fin ∷ xs) s t l = omega (arith, put-count xs l.0 t l.2, l.1.put, length-append bytes (put xs))
put-count (PutsReset code size ∷ xs) s t l = put-count xs l.0 t l.2 ∙ ap (λ n. n + length (put xs)) l.1.sent.put
put-count (Acknowledges k ∷ xs) s t l = put-count xs l.0 t l.2 ∙ ap (λ n. n + length (put xs)) l.1.put
put-count (Tells ∷ xs) s t l = put-count xs l.0 t l.2 ∙ ap (λ n. n + length (put xs)) l.1.sent.put

pub acked-count : (xs : List Step) (s t : State) → Leads xs s t → t.acked ≡ s.acked + acked xs
acked-count [] s t l = ap (λ (x : State). x.acked) l ∙ omega arith
acked-count (Queues bytes room ∷ xs) s t l = acked-count xs l.0 t l.2 ∙ ap (λ n. n + acked xs) l.1.sent.acked
acked-count (Refuses ∷ xs) s t l = acked-count xs l.0 t l.2 ∙ ap (λ n. n + acked xs) l.1.sent.acked
acked-count (Finishes ∷ xs) s t l = acked-count xs l.0 t l.2 ∙ ap (λ n. n + acked xs) l.1.sent.acked
acked-count (Resets code size ∷ xs) s t l = acked-count xs l.0 t l.2 ∙ ap (λ n. n + acked xs) l.1.sent.acked
acked-count (Puts bytes fin ∷ xs) s t l = acked-count xs l.0 t l.2 ∙ ap (λ n. n + acked xs) l.1.acked
acked-count (PutsReset code size ∷ xs) s t l = acked-count xs l.0 t l.2 ∙ ap (λ n. n + acked xs) l.1.sent.acked
acked-count (Acknowledges k ∷ xs) s t l = omega (arith, acked-count xs l.0 t l.2, l.1.acked)
acked-count (Tells ∷ xs) s t l = acked-count xs l.0 t l.2 ∙ ap (λ n. n + acked xs) l.1.sent.acked

-- no more is acknowledged than was put
pub acked-within : (xs : List Step) (s t : State) → Leads xs s t → s.acked ≤ s.put → t.acked ≤ t.put
acked-within [] s t l h = omega (arith, h, ap (λ (x : State). x.acked) l, ap (λ (x : State). x.put) l)
acked-within (Queues bytes room ∷ xs) s t l h = acked-within xs l.0 t l.2 (omega (arith, h, l.1.sent.acked, l.1.sent.put))
acked-within (Refuses ∷ xs) s t l h = acked-within xs l.0 t l.2 (omega (arith, h, l.1.sent.acked, l.1.sent.put))
acked-within (Finishes ∷ xs) s t l h = acked-within xs l.0 t l.2 (omega (arith, h, l.1.sent.acked, l.1.sent.put))
acked-within (Resets code size ∷ xs) s t l h = acked-within xs l.0 t l.2 (omega (arith, h, l.1.sent.acked, l.1.sent.put))
acked-within (Puts bytes fin ∷ xs) s t l h = acked-within xs l.0 t l.2 (omega (arith, h, l.1.acked, l.1.put))
acked-within (PutsReset code size ∷ xs) s t l h = acked-within xs l.0 t l.2 (omega (arith, h, l.1.sent.acked, l.1.sent.put))
acked-within (Acknowledges k ∷ xs) s t l h = acked-within xs l.0 t l.2 (omega (arith, h, l.1.within, l.1.acked, l.1.put))
acked-within (Tells ∷ xs) s t l h = acked-within xs l.0 t l.2 (omega (arith, h, l.1.sent.acked, l.1.sent.put))

pub acked-new : (config : QueueConfig) (xs : List Step) (t : State) → Run config xs t → (t.acked ≡ acked xs) × (acked xs ≤ length (put xs))
acked-new config xs t run =
    let a = acked-count xs run.0 t run.2 in
    let p = put-count xs run.0 t run.2 in
    let within = acked-within xs run.0 t run.2 (omega (arith, run.1.acked)) in
    (omega (arith, a, run.1.acked), omega (arith, a, p, within, run.1.acked, run.1.put))

pub put-new : (config : QueueConfig) (xs : List Step) (t : State) → Run config xs t → t.put ≡ length (put xs)
put-new config xs t run = omega (arith, put-count xs run.0 t run.2, run.1.put)

-- ---- what is kept

record Keeps (s : State) : Type 0 where
  on : s.config.keep_until_acked ≡ true
  held : length s.kept ≡ s.put - s.acked
  few : s.acked ≤ s.put

keeps-stays : (s m : State) → Keeps s → m.put ≡ s.put → m.acked ≡ s.acked → m.kept ≡ s.kept → m.config ≡ s.config → Keeps m
keeps-stays s m k put acked kept config = record {
  on = ap (λ (c : QueueConfig). c.keep_until_acked) config ∙ k.on;
  held = omega (arith, k.held, put, acked, ap length kept);
  few = omega (arith, k.few, put, acked);
}

keeps-put : (s m : State) (bytes : List ℕ) (fin : Bool) → Keeps s → IsPut s bytes fin m → (m.kept ≡ s.kept ++ bytes) × Keeps m
keeps-put s m bytes fin k p =
    let kept : m.kept ≡ s.kept ++ bytes = p.kept ∙ ap (λ b. if b then s.kept ++ bytes else s.kept) k.on in (
      kept,
      record {
        on = ap (λ (c : QueueConfig). c.keep_until_acked) p.config ∙ k.on;
        held = omega (arith, k.held, k.few, p.put, p.acked, ap length kept, length-append s.kept bytes);
        few = omega (arith, k.few, p.put, p.acked);
      },
    )

keeps-acked : (s m : State) (n : ℕ) → Keeps s → IsAcknowledged s n m → Keeps m
keeps-acked s m n k a = record {
  on = ap (λ (c : QueueConfig). c.keep_until_acked) a.config ∙ k.on;
  held = omega (arith, k.held, k.few, a.put, a.acked, a.within, ap length a.kept, length-drop n s.kept);
  few = omega (arith, a.within, a.put, a.acked);
}

-- the same bytes are kept of the same bytes
kept-same : (xs : List Step) (a b end : List ℕ) → b ≡ a → end ≡ drop (acked xs) (b ++ put xs) → end ≡ drop (acked xs) (a ++ put xs)
kept-same xs a b end same h = h ∙ ap (λ k. drop (acked xs) (k ++ put xs)) same

keeps : (xs : List Step) (s t : State) → Leads xs s t → Keeps s → t.kept ≡ drop (acked xs) (s.kept ++ put xs)
keeps [] s t l k = ap (λ (x : State). x.kept) l ∙ sym (append-nil s.kept)
keeps (Queues bytes room ∷ xs) s t l k = kept-same xs _ _ t.kept l.1.sent.kept (keeps xs l.0 t l.2 (keeps-stays s l.0 k l.1.sent.put l.1.sent.acked l.1.sent.kept l.1.sent.config))
keeps (Refuses ∷ xs) s t l k = kept-same xs _ _ t.kept l.1.sent.kept (keeps xs l.0 t l.2 (keeps-stays s l.0 k l.1.sent.put l.1.sent.acked l.1.sent.kept l.1.sent.config))
keeps (Finishes ∷ xs) s t l k = kept-same xs _ _ t.kept l.1.sent.kept (keeps xs l.0 t l.2 (keeps-stays s l.0 k l.1.sent.put l.1.sent.acked l.1.sent.kept l.1.sent.config))
keeps (Resets code size ∷ xs) s t l k = kept-same xs _ _ t.kept l.1.sent.kept (keeps xs l.0 t l.2 (keeps-stays s l.0 k l.1.sent.put l.1.sent.acked l.1.sent.kept l.1.sent.config))
keeps (Puts bytes fin ∷ xs) s t l k =
    let p = keeps-put s l.0 bytes fin k l.1 in
    keeps xs l.0 t l.2 p.1
    ∙ ap (λ b. drop (acked xs) (b ++ put xs)) p.0
    ∙ ap (drop (acked xs)) (append_assoc s.kept bytes (put xs))
keeps (PutsReset code size ∷ xs) s t l k = kept-same xs _ _ t.kept l.1.sent.kept (keeps xs l.0 t l.2 (keeps-stays s l.0 k l.1.sent.put l.1.sent.acked l.1.sent.kept l.1.sent.config))
keeps (Acknowledges n ∷ xs) s t l k =
    keeps xs l.0 t l.2 (keeps-acked s l.0 n k l.1)
    ∙ ap (λ b. drop (acked xs) (b ++ put xs)) l.1.kept
    ∙ ap (drop (acked xs)) (sym (drop-append-le n s.kept (put xs) (omega (arith, k.held, l.1.within))))
    ∙ drop-drop (acked xs) n (s.kept ++ put xs)
keeps (Tells ∷ xs) s t l k = kept-same xs _ _ t.kept l.1.sent.kept (keeps xs l.0 t l.2 (keeps-stays s l.0 k l.1.sent.put l.1.sent.acked l.1.sent.kept l.1.sent.config))

pub keeps-new : (config : QueueConfig) (xs : List Step) (t : State) → Run config xs t → config.keep_until_acked ≡ true
    → t.kept ≡ drop (acked xs) (put xs)
keeps-new config xs t run on =
    keeps xs run.0 t run.2 (record {
      on = ap (λ (c : QueueConfig). c.keep_until_acked) run.1.config ∙ on;
      held = omega (arith, run.1.put, ap length run.1.kept);
      few = omega (arith, run.1.acked);
    })
    ∙ ap (λ b. drop (acked xs) (b ++ put xs)) run.1.kept

-- ---- nothing is kept

record IsBare (s : State) : Type 0 where
  off : s.config.keep_until_acked ≡ false
  none : s.kept ≡ []

bare-stays : (s m : State) → IsBare s → m.kept ≡ s.kept → m.config ≡ s.config → IsBare m
bare-stays s m b kept config = record {
  off = ap (λ (c : QueueConfig). c.keep_until_acked) config ∙ b.off;
  none = kept ∙ b.none;
}

bare : (xs : List Step) (s t : State) → Leads xs s t → IsBare s → t.kept ≡ []
bare [] s t l b = ap (λ (x : State). x.kept) l ∙ b.none
bare (Queues bytes room ∷ xs) s t l b = bare xs l.0 t l.2 (bare-stays s l.0 b l.1.sent.kept l.1.sent.config)
bare (Refuses ∷ xs) s t l b = bare xs l.0 t l.2 (bare-stays s l.0 b l.1.sent.kept l.1.sent.config)
bare (Finishes ∷ xs) s t l b = bare xs l.0 t l.2 (bare-stays s l.0 b l.1.sent.kept l.1.sent.config)
bare (Resets code size ∷ xs) s t l b = bare xs l.0 t l.2 (bare-stays s l.0 b l.1.sent.kept l.1.sent.config)
bare (Puts bytes fin ∷ xs) s t l b =
    bare xs l.0 t l.2 (bare-stays s l.0 b (l.1.kept ∙ ap (λ k. if k then s.kept ++ bytes else s.kept) b.off) l.1.config)
bare (PutsReset code size ∷ xs) s t l b = bare xs l.0 t l.2 (bare-stays s l.0 b l.1.sent.kept l.1.sent.config)
bare (Acknowledges n ∷ xs) s t l b =
    let e = l.1.kept ∙ ap (drop n) b.none ∙ drop_all n [] (omega arith) in
    bare xs l.0 t l.2 (bare-stays s l.0 b (e ∙ sym b.none) l.1.config)
bare (Tells ∷ xs) s t l b = bare xs l.0 t l.2 (bare-stays s l.0 b l.1.sent.kept l.1.sent.config)

pub bare-new : (config : QueueConfig) (xs : List Step) (t : State) → Run config xs t → config.keep_until_acked ≡ false → t.kept ≡ []
bare-new config xs t run off =
    bare xs run.0 t run.2 (record { off = ap (λ (c : QueueConfig). c.keep_until_acked) run.1.config ∙ off; none = run.1.kept })

-- ---- what is owed

owes : (xs : List Step) (s t : State) → Leads xs s t → t.owed ≡ owed_after s.owed xs
owes [] s t l = ap (λ (x : State). x.owed) l
owes (Queues bytes room ∷ xs) s t l = owes xs l.0 t l.2 ∙ ap (λ o. owed_after o xs) l.1.owed
owes (Refuses ∷ xs) s t l = owes xs l.0 t l.2 ∙ ap (λ o. owed_after o xs) l.1.owed
owes (Finishes ∷ xs) s t l = owes xs l.0 t l.2 ∙ ap (λ o. owed_after o xs) l.1.owed
owes (Resets code size ∷ xs) s t l = owes xs l.0 t l.2 ∙ ap (λ o. owed_after o xs) l.1.owed
owes (Puts bytes fin ∷ xs) s t l = owes xs l.0 t l.2 ∙ ap (λ o. owed_after o xs) l.1.owed
owes (PutsReset code size ∷ xs) s t l = owes xs l.0 t l.2 ∙ ap (λ o. owed_after o xs) l.1.owed
owes (Acknowledges n ∷ xs) s t l = owes xs l.0 t l.2 ∙ ap (λ o. owed_after o xs) l.1.owed
owes (Tells ∷ xs) s t l = owes xs l.0 t l.2 ∙ ap (λ o. owed_after o xs) l.1.owed

pub owes-new : (config : QueueConfig) (xs : List Step) (t : State) → Run config xs t → t.owed ≡ owed_after false xs
owes-new config xs t run = owes xs run.0 t run.2 ∙ ap (λ o. owed_after o xs) run.1.owed
