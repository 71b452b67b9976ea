-- What is sent on the streams of a connection.
use Rattle.std.proofs.Common.{◌≡◌, ◌⊎◌, ℕ, List, [], ◌∷◌, Option, None, Some, Bool, true, false, cond, refl, arith, inl, inr, sym, ap, subst, ◌∙◌}
use Rattle.std.specs.Ordering.{nat_cmp}
use Rattle.std.specs.Map.{lookup, set_value}
use Rattle.std.specs.BTreeMap.{is_at}
use Rattle.vesgrauf.specs.declared.entry.Entry.{Entry}
use Rattle.std.specs.Prelude.{Result, Ok, Err}
use Rattle.wtp_messages.specs.declared.response.Asked.{Asked}
use Rattle.wtp_sending.specs.declared.error.SendError.{SendError}
use Rattle.wtp_sending.specs.declared.message.Sending.{Sending}
use Rattle.wtp_sending.specs.declared.message.Place.{Place}
use Rattle.wtp_sending.specs.declared.message.Place.TheVariants as place
use Rattle.wtp_sending.specs.Message.{opens, placed}
use Rattle.vesgrauf_stream.specs.declared.writing.half.Half.{Half}
use Rattle.vesgrauf_stream.specs.declared.writing.half.Half.TheVariants as half
use Rattle.vesgrauf_stream.specs.declared.writing.Writing.{Writing}
use Rattle.vesgrauf_stream.specs.Writing.{asked_half, raw_half, opened, connected, with_half, is_none, is_connect, content_at, as_message, ends_if, after_frame, Ends}
use Rattle.vesgrauf_stream.specs.declared.error.NotSent.{NotSent}
use Rattle.vesgrauf_stream.specs.Errors.{and_then, sending}
use Rattle.vesgrauf_queue.specs.State.{State, waiting}
use Rattle.vesgrauf_queue.specs.Steps.{IsFinished}
use Rattle.vesgrauf_queue.specs.declared.ending.Ending.TheVariants as ending
use Rattle.vesgrauf.specs.declared.connection.ids.Ids.{Ids}
use Rattle.vesgrauf.specs.Ids.{was}
use Rattle.vesgrauf.specs.Own.{Own, Over, Sends, Open, Finished, IsClosed, own_in, own_at, entry_at, IsUntouched, IsUntouchedOrNew, Took, TookAlone, Untouched, UntouchedBut, UntouchedOrNew, own_of}
use Rattle.vesgrauf.proofs.ReadsLemmas.{same_key}

-- ---- steps

-- what is closed is not closed once more
closed_steps : (x y z : Own) → IsClosed x y → IsClosed y z → IsClosed x z
closed_steps (Sends put waits (Open true)) y z p q =
    let p' : y ≡ Sends put waits Finished = p in absurd (subst (λ o. IsClosed o z) p' q)
closed_steps x y z p q = absurd p

pub untouched_steps : (x y z : Own) → IsUntouched x y → IsUntouched y z → IsUntouched x z
untouched_steps x y z p (inr (inl q)) = inr (inl q)
untouched_steps x y z (inl p) q = subst (λ o. IsUntouched o z) p q
untouched_steps x y z (inr (inl p)) (inl q) = inr (inl (q ∙ p))
untouched_steps x y z (inr (inl p)) (inr (inr q)) = absurd (subst (λ o. IsClosed o z) p q)
untouched_steps x y z (inr (inr p)) (inl q) = inr (inr (subst (λ o. IsClosed x o) (sym q) p))
untouched_steps x y z (inr (inr p)) (inr (inr q)) = inr (inr (closed_steps x y z p q))

pub untouched_trans : {a b c : List (ℕ × Entry)} → Untouched a b → Untouched b c → Untouched a c
untouched_trans {a} {b} {c} p q =
    record { each = λ id. untouched_steps (own_at a id) (own_at b id) (own_at c id) (p.each id) (q.each id) }

pub but_then : (but : ℕ) {a b c : List (ℕ × Entry)} → UntouchedBut but a b → Untouched b c → UntouchedBut but a c
but_then but {a} {b} {c} p q = record {
  each = λ id t. untouched_steps (own_at a id) (own_at b id) (own_at c id) (p.each id t) (q.each id);
}

pub untouched_refl : (es : List (ℕ × Entry)) → Untouched es es
untouched_refl es = record { each = λ id. inl refl }

-- ---- streams that begin

new_steps : (s t : Bool) (x y z : Own) → (s ≡ true → t ≡ true) → IsUntouchedOrNew s x y → IsUntouchedOrNew t y z
    → IsUntouchedOrNew s x z
new_steps true t x y z h p (inr q) = absurd (let on : t ≡ true = h refl in let off : t ≡ false = q.0 in cc)
new_steps false t x y z h p (inr q) = inr (refl, q.1)
new_steps s t x y z h (inl p) (inl q) = inl (untouched_steps x y z p q)
new_steps s t x y z h (inr p) (inl (inl q)) = inr (p.0, q ∙ p.1)
new_steps s t x y z h (inr p) (inl (inr (inl q))) = inl (inr (inl q))
new_steps s t x y z h (inr p) (inl (inr (inr q))) = absurd (subst (λ o. IsClosed o z) p.1 q)

pub new_trans : {ids jds : Ids} {a b c : List (ℕ × Entry)} → ((id : ℕ) → was ids id ≡ true → was jds id ≡ true)
    → UntouchedOrNew ids a b → UntouchedOrNew jds b c → UntouchedOrNew ids a c
new_trans {ids} {jds} {a} {b} {c} h p q = record {
  each = λ id. new_steps (was ids id) (was jds id) (own_at a id) (own_at b id) (own_at c id) (h id) (p.each id) (q.each id);
}

pub new_of : (ids : Ids) {a b : List (ℕ × Entry)} → Untouched a b → UntouchedOrNew ids a b
new_of ids p = record { each = λ id. inl (p.each id) }

new_by : (b : Bool) (ids : Ids) (es fs : List (ℕ × Entry)) (id k : ℕ) (e : Entry) → is_at (nat_cmp id) k ≡ b
    → was ids id ≡ false → (own_of e.writing ≡ Over) ⊎ (own_of e.writing ≡ Sends 0 [] (Open false)) → entry_at fs id ≡ Some e
    → ((k : ℕ) → is_at (nat_cmp id) k ≡ false → entry_at fs k ≡ entry_at es k)
    → IsUntouchedOrNew (was ids k) (own_at es k) (own_at fs k)
new_by true ids es fs id k e t w (inl n) here there =
    subst (λ m. IsUntouchedOrNew (was ids m) (own_at es m) (own_at fs m)) (same_key id k t) (inl (inr (inl (ap own_in here ∙ n))))
new_by true ids es fs id k e t w (inr n) here there =
    subst (λ m. IsUntouchedOrNew (was ids m) (own_at es m) (own_at fs m)) (same_key id k t) (inr (w, ap own_in here ∙ n))
new_by false ids es fs id k e t w n here there = inl (inl (ap own_in (there k t)))

-- a stream of the peer is registered
pub new_insert : (ids : Ids) (es fs : List (ℕ × Entry)) (id : ℕ) (e : Entry) → was ids id ≡ false
    → (own_of e.writing ≡ Over) ⊎ (own_of e.writing ≡ Sends 0 [] (Open false)) → entry_at fs id ≡ Some e
    → ((k : ℕ) → is_at (nat_cmp id) k ≡ false → entry_at fs k ≡ entry_at es k)
    → UntouchedOrNew ids es fs
new_insert ids es fs id e w n here there = record {
  each = λ k. new_by (is_at (nat_cmp id) k) ids es fs id k e refl w n here there;
}

-- ---- halves

-- what is asked for, that it is one of a session, and that its tunnel is open changes nothing of what is sent
pub own_asked : (a : Asked) (w : Writing) → own_of (with_half (asked_half a w.half) w) ≡ own_of w
own_asked a w = asked_by a w w.half refl
  where
    asked_by : (a : Asked) (w : Writing) (h : Half) → w.half ≡ h
        → own_of (with_half (asked_half a h) w) ≡ own_of w
    asked_by a w half.Idle h = rw h refl
    asked_by a w other h = rw h refl

pub own_raw : (w : Writing) → own_of (with_half (raw_half w.half) w) ≡ own_of w
own_raw w = raw_by w w.half refl
  where
    raw_by : (w : Writing) (h : Half) → w.half ≡ h → own_of (with_half (raw_half h) w) ≡ own_of w
    raw_by w half.Idle h = rw h refl
    raw_by w other h = rw h refl

opened_is : (s : Sending) (r : Result Sending SendError) → is_none (opened s r) ≡ false
opened_is s (Ok next) = refl
opened_is s (Err e) = refl

-- a CONNECT that opens is one still
opened_connect : (s : Sending) → is_connect (opened s (placed s (opens s.place))) ≡ is_connect (half.Message s)
opened_connect s = opened_by s s.place refl
  where
    chosen_by : (s : Sending) (b : Bool)
        → is_connect (opened s (placed s (Ok (cond b place.Session place.Tunnel)))) ≡ true
    chosen_by s true = refl
    chosen_by s false = refl

    opened_by : (s : Sending) (p : Place) → s.place ≡ p
        → is_connect (opened s (placed s (opens s.place))) ≡ is_connect (half.Message s)
    opened_by s (place.Connecting session) h = rw h (chosen_by s session)
    opened_by s other h = rw h refl

pub own_connected : (w : Writing) → own_of (with_half (connected w.half) w) ≡ own_of w
own_connected w = connected_by w w.half refl
  where
    connected_by : (w : Writing) (h : Half) → w.half ≡ h → own_of (with_half (connected h) w) ≡ own_of w
    connected_by w (half.Message s) h =
        rw (h, opened_is s (placed s (opens s.place)), opened_connect s) refl
    connected_by w other h = rw h refl

-- the end of a CONNECT follows
message_there : (r : Result Sending NotSent) (k : Half) → and_then as_message r ≡ Ok k → is_none k ≡ false
message_there (Ok s) k h = ap is_none (let same : k ≡ half.Message s = cc in same)
message_there (Err e) k h = absurd (let bad : Err e ≡ Ok k = h in cc)

ends_there : (v w : Writing) (s : Sending) → v.half ≡ half.Message s → v.queue.ending ≡ ending.Open
    → content_at v 0 true ≡ Ok w.half → is_none w.half ≡ false
ends_there v w s h o may =
    message_there (sending (and_then (ends_if true) (after_frame 0 s))) w.half (sym (rw (h, o) refl) ∙ may)

closed_by : (v w : Writing) (h : Half) → v.half ≡ h → is_connect h ≡ true → content_at v 0 true ≡ Ok w.half
    → IsFinished v.queue w.queue → IsClosed (own_of v) (own_of w)
closed_by v w (half.Message s) h c may q = rw (h, q.from, c, ends_there v w s h q.from may, q.ending)
    (let same : Sends w.queue.put (waiting w.queue) Finished ≡ Sends v.queue.put (waiting v.queue) Finished
    = rw (q.sent.put, q.waits) refl in same)
closed_by v w other h c may q = absurd (let bad : false ≡ true = c in cc)

finished_by : (v w : Writing) (m : State) → is_connect v.half ≡ true → content_at v 0 true ≡ Ok w.half
    → IsFinished v.queue m → w.queue ≡ m → IsClosed (own_of v) (own_of w)
finished_by v w m c may q same = closed_by v w v.half refl c may (subst (λ t. IsFinished v.queue t) (sym same) q)

pub own_closed : (v w : Writing) → is_connect v.half ≡ true → Ends v w → IsClosed (own_of v) (own_of w)
own_closed v w connect e = finished_by v w e.queued.0 connect e.may e.queued.1 e.queued.2

-- ---- one stream changes

-- by whether each of two IDs is that of the first entry
set_by : (a b : Bool) (e f : Entry) (x y z : Option Entry)
    → IsUntouched (own_in (cond a (Some e) z)) (own_in (Some f))
    → (IsUntouched (own_in z) (own_in (Some f)) → IsUntouched (own_in x) (own_in y))
    → IsUntouched (own_in (cond b (Some e) x)) (own_in (cond b (cond a (Some f) (Some e)) (cond a x y)))
set_by true true e f x y z q h = q
set_by true false e f x y z q h = inl refl
set_by false true e f x y z q h = inl refl
set_by false false e f x y z q h = h q

look_by : (a b : Bool) (key : ℕ) (e f : Entry) (es rest : List (ℕ × Entry)) (k : ℕ) → b ≡ is_at (nat_cmp k) key
    → lookup (is_at (nat_cmp k)) (cond a ((key, f) ∷ es) ((key, e) ∷ rest))
    ≡ cond b (cond a (Some f) (Some e)) (cond a (lookup (is_at (nat_cmp k)) es) (lookup (is_at (nat_cmp k)) rest))
look_by true true key e f es rest k h = grind (arith, h)
look_by true false key e f es rest k h = grind (arith, h)
look_by false true key e f es rest k h = grind (arith, h)
look_by false false key e f es rest k h = grind (arith, h)

set_at : (es : List (ℕ × Entry)) (id k : ℕ) (f : Entry) → IsUntouched (own_at es id) (own_in (Some f))
    → IsUntouched (own_at es k) (own_at (set_value (is_at (nat_cmp id)) es f) k)
set_at [] id k f q = inl refl
set_at ((key, e) ∷ es) id k f q =
    let step : IsUntouched (own_in (cond (is_at (nat_cmp k) key) (Some e) (lookup (is_at (nat_cmp k)) es)))
    (own_in (cond (is_at (nat_cmp k) key) (cond (is_at (nat_cmp id) key) (Some f) (Some e))
    (cond (is_at (nat_cmp id) key) (lookup (is_at (nat_cmp k)) es)
    (lookup (is_at (nat_cmp k)) (set_value (is_at (nat_cmp id)) es f)))))
    = set_by (is_at (nat_cmp id) key) (is_at (nat_cmp k) key) e f (lookup (is_at (nat_cmp k)) es)
    (lookup (is_at (nat_cmp k)) (set_value (is_at (nat_cmp id)) es f)) (lookup (is_at (nat_cmp id)) es) q
    (λ h. set_at es id k f h)
    in rw (look_by (is_at (nat_cmp id) key) (is_at (nat_cmp k) key) key e f es
    (set_value (is_at (nat_cmp id)) es f) k refl) step

own_set_by : (a : Bool) (x e f : Entry) (u v : Option Entry) → cond a (Some x) u ≡ Some e
    → (u ≡ Some e → own_in v ≡ own_in (Some f))
    → own_in (cond a (cond a (Some f) (Some x)) (cond a u v)) ≡ own_in (Some f)
own_set_by true x e f u v p h = refl
own_set_by false x e f u v p h = h p

-- a stream that there is becomes this
pub own_set : (es : List (ℕ × Entry)) (id : ℕ) (e f : Entry) → entry_at es id ≡ Some e
    → own_at (set_value (is_at (nat_cmp id)) es f) id ≡ own_in (Some f)
own_set [] id e f p = absurd (let bad : None ≡ Some e = p in cc)
own_set ((key, x) ∷ es) id e f p =
    let step : own_in (cond (is_at (nat_cmp id) key) (cond (is_at (nat_cmp id) key) (Some f) (Some x))
    (cond (is_at (nat_cmp id) key) (lookup (is_at (nat_cmp id)) es)
    (lookup (is_at (nat_cmp id)) (set_value (is_at (nat_cmp id)) es f)))) ≡ own_in (Some f)
    = own_set_by (is_at (nat_cmp id) key) x e f (lookup (is_at (nat_cmp id)) es)
    (lookup (is_at (nat_cmp id)) (set_value (is_at (nat_cmp id)) es f)) p (λ q. own_set es id e f q)
    in rw (look_by (is_at (nat_cmp id) key) (is_at (nat_cmp id) key) key x f es
    (set_value (is_at (nat_cmp id)) es f) id refl) step

pub took_set : (es : List (ℕ × Entry)) (id len : ℕ) (e f : Entry) → entry_at es id ≡ Some e
    → Took len (own_of e.writing) (own_of f.writing)
    → Took len (own_at es id) (own_at (set_value (is_at (nat_cmp id)) es f) id)
took_set es id len e f p q = rw (own_set es id e f p) (rw p q)

pub took_alone : (a b c : List (ℕ × Entry)) (id len : ℕ) → Took len (own_at a id) (own_at b id) → Untouched b c
    → TookAlone len (own_at a id) (own_at c id)
took_alone a b c id len p q = record { between = own_at b id; took = p; kept = q.each id }

pub untouched_set : (es : List (ℕ × Entry)) (id : ℕ) (f : Entry) → IsUntouched (own_at es id) (own_in (Some f))
    → Untouched es (set_value (is_at (nat_cmp id)) es f)
untouched_set es id f q = record { each = λ k. set_at es id k f q }
