-- That calls which queue something on an own half leave it one on which more is sent; and what such calls leave of what the
-- program may count on.
use Rattle.std.proofs.Common.{◌≡◌, ◌||◌, not, ℕ, List, [], ◌∷◌, length, Option, Some, None, Bool, true, false, cond, refl, inl, inr, sym, ap, subst, ◌∙◌}
use Rattle.std.specs.Prelude.{is_some, IfOk, IfErr, OnOk, OnErr, Result, Ok, Err, if◌then◌else◌}
use Rattle.std.specs.Ordering.{nat_cmp}
use Rattle.std.specs.Map.{set_value}
use Rattle.std.specs.BTreeMap.{is_at}
use Rattle.vesgrauf_queue.specs.State.{State, is_reset, waiting}
use Rattle.vesgrauf_queue.specs.Steps.{Queues, Finishes, Leads}
use Rattle.vesgrauf_stream.specs.declared.error.NotSent.{NotSent}
use Rattle.vesgrauf_stream.specs.declared.error.NotSent.TheVariants as error
use Rattle.vesgrauf_stream.specs.declared.tools.Tools.{Tools}
use Rattle.vesgrauf_stream.specs.declared.writing.Writing.{Writing}
use Rattle.vesgrauf_stream.specs.declared.writing.half.Half.{Half}
use Rattle.vesgrauf_stream.specs.declared.writing.half.Half.TheVariants as half
use Rattle.vesgrauf_stream.specs.Errors.{and_then, sending}
use Rattle.vesgrauf_stream.specs.Writing.{Sends, Drains, is_none, is_idle, is_open, end_if, open_half, message_of, message_at, session_of, session_at, after_content, after_part, as_message, ends_if, after_frame}
use Rattle.vesgrauf_stream.specs.Headers.{SendsBy, SendsTrailers, Leading}
use Rattle.wtp_qpack.specs.Field.{Field}
use Rattle.wtp_sending.specs.declared.message.Sending.{Sending}
use Rattle.vesgrauf.specs.declared.connection.Connection.{Connection}
use Rattle.vesgrauf.specs.declared.entry.Entry.{Entry}
use Rattle.vesgrauf.specs.declared.event.Event.{Event}
use Rattle.vesgrauf.specs.declared.refused.NotSent.{NotSent as Unsent}
use Rattle.vesgrauf.specs.declared.refused.Refused.{Refused}
use Rattle.vesgrauf.specs.declared.refused.Refused.TheVariants as refused
use Rattle.vesgrauf.specs.Halves.{Holds, Lasts, LastsOn, halves_if, halves_in, is_sending, reads_by, reads_in}
use Rattle.vesgrauf.specs.Own.{Own, Over, Sends as SendsOf, own_of, own_in, end_of, entry_at}
use Rattle.vesgrauf.specs.State.{IsStill, OwnHalf, Owes, StaysOf, View, view_of}
use Rattle.vesgrauf.specs.Streams.{is_known}
use Rattle.vesgrauf.specs.Told.{Sound}
use Rattle.vesgrauf.proofs.GoesLemmas.{set_sets}
use Rattle.vesgrauf.proofs.LastsLemmas.{lasts_refl, lasts_sets}

-- ---- one half

own_by : (b : Bool) (put : ℕ) (waits : List ℕ) (w : Writing)
    → is_sending (if b then Over else SendsOf put waits (end_of w)) ≡ not b
own_by true put waits w = refl
own_by false put waits w = refl

sending_is : (w : Writing) → is_sending (own_of w) ≡ not (is_none w.half || is_reset w.queue.ending)
sending_is w = own_by (is_none w.half || is_reset w.queue.ending) w.queue.put (waiting w.queue) w

-- there is a half, and it was not reset
sends_on : (w : Writing) → is_none w.half ≡ false → is_reset w.queue.ending ≡ false → is_sending (own_of w) ≡ true
sends_on w h e = sending_is w ∙ (ap (λ b. not (b || is_reset w.queue.ending)) h ∙ ap (λ b. not b) e)

-- bytes are queued, and maybe the end
queued_open : (fin : Bool) (bytes : List ℕ) (room : Bool) (s t : State) → Leads (Queues bytes room ∷ end_if fin) s t
    → is_reset t.ending ≡ false
queued_open true bytes room s t h = ap (λ x. is_reset x.ending) h.2.2 ∙ ap (λ x. is_reset x) h.2.1.ending
queued_open false bytes room s t h =
    ap (λ x. is_reset x.ending) h.2 ∙ ap (λ x. is_reset x) (h.1.ending ∙ h.1.from)

message_none : (r : Result Sending NotSent) (k : Half) → and_then as_message r ≡ Ok k → is_none k ≡ false
message_none (Ok s) k h = let p : k ≡ half.Message s = cc in ap (λ x. is_none x) p
message_none (Err e) k h = absurd (let bad : Err e ≡ Ok k = h in cc)

content_none : (n : ℕ) (fin : Bool) (h k : Half) → after_content n fin h ≡ Ok k → is_none k ≡ false
content_none n fin half.Raw k p = let q : k ≡ half.Raw = cc in ap (λ x. is_none x) q
content_none n fin (half.Message s) k p = message_none (sending (and_then (ends_if fin) (after_frame n s))) k p
content_none n fin half.None k p = absurd (let bad : Err _ ≡ Ok k = p in cc)
content_none n fin half.Idle k p = absurd (let bad : Err _ ≡ Ok k = p in cc)
content_none n fin (half.Asked asked) k p = absurd (let bad : Err _ ≡ Ok k = p in cc)

then_of : {A B E : Type 0} (F : A → Result B E) (r : Result A E) (x : B) → and_then F r ≡ Ok x
    → (a : A) × (r ≡ Ok a) × (F a ≡ Ok x)
then_of F (Ok a) x h = (a, refl, h)
then_of F (Err e) x h = absurd (let bad : Err e ≡ Ok x = h in cc)

pub sends_more : (bytes : List ℕ) (fin room : Bool) (v w : Writing) → Sends bytes fin room v w
    → is_sending (own_of w) ≡ true
sends_more bytes fin room v w s =
    let at = then_of (after_content (length bytes) fin) (open_half v) w.half s.may in
    sends_on w (content_none (length bytes) fin at.0 w.half at.2) (queued_open fin _ room v.queue w.queue s.queued)

message_some : (h : Half) (s : Sending) → message_of h ≡ Ok s → is_none h ≡ false
message_some (half.Message s) t p = refl
message_some half.Raw t p = refl
message_some half.Idle t p = refl
message_some (half.Asked asked) t p = refl
message_some half.None t p = absurd (let bad : Err _ ≡ Ok t = p in cc)

open_is : (w : Writing) (h : Half) → open_half w ≡ Ok h → h ≡ w.half
open_is w h p = by (is_idle w.half) (is_open w.queue.ending) w.half h p
  where
    by : (a b : Bool) (g h : Half) → (if a then Err error.None else if b then Ok g else Err error.Over) ≡ Ok h → h ≡ g
    by true b g h p = absurd (let bad : Err error.None ≡ Ok h = p in cc)
    by false true g h p = cc
    by false false g h p = absurd (let bad : Err error.Over ≡ Ok h = p in cc)

pub drains_more : (v w : Writing) → Drains v w → is_sending (own_of w) ≡ true
drains_more v w d =
    let session = then_of session_of (message_at v) tt d.may in
    let message = then_of message_of (open_half v) session.0 session.1 in
    let here : is_none v.half ≡ false = ap (λ x. is_none x) (sym (open_is v message.0 message.1))
    ∙ message_some message.0 session.0 message.2 in
    sends_on w (ap (λ x. is_none x) d.half ∙ here) (queued_open false _ d.room v.queue w.queue d.queued)

pub trailers_more : (fields : List Field) (t u : Tools) (v w : Writing) → SendsTrailers fields t u v w
    → is_sending (own_of w) ≡ true
trailers_more fields t u v w s = by _ (message_at v) fields t u v w s
  where
    by : (F : Leading) (r : Result Sending NotSent) (fields : List Field) (t u : Tools) (v w : Writing)
        → SendsBy r F fields true t u v w → is_sending (own_of w) ≡ true
    by F (Err e) fields t u v w s = absurd s
    by F (Ok first) fields t u v w s = sends_on w (ap (λ x. is_none x) s.now)
        (queued_open true _ s.room v.queue w.queue s.queued)

-- ---- one stream

-- as much as before is sent on it, and read
pub data Lasting (e f : Entry) : Type 0 where
  AsBefore : f.told ≡ e.told → reads_in (Some f) ≡ reads_in (Some e)
      → (is_sending (own_in (Some e)) ≡ true → is_sending (own_in (Some f)) ≡ true) → Lasting e f

same_half : (v w : Writing) → w.half ≡ v.half → w.queue.ending ≡ v.queue.ending → is_sending (own_of v) ≡ true
    → is_sending (own_of w) ≡ true
same_half v w h e p = sending_is w ∙ (ap (λ x. not (is_none x || is_reset w.queue.ending)) h
    ∙ (ap (λ x. not (is_none v.half || is_reset x)) e ∙ (sym (sending_is v) ∙ p)))

pub lasting_same : (e f : Entry) → f.told ≡ e.told → f.peer ≡ e.peer → f.is_decoder ≡ e.is_decoder → f.writing ≡ e.writing
    → Lasting e f
lasting_same e f t p d w = AsBefore t (ap (λ x. reads_by x f.is_decoder) p ∙ ap (λ x. reads_by e.peer x) d)
    (λ h. ap (λ x. is_sending (own_of x)) w ∙ h)

lasting_written : (e f : Entry) (w : Writing) → f ≡ record e { writing = w }
    → (is_sending (own_of e.writing) ≡ true → is_sending (own_of w) ≡ true) → Lasting e f
lasting_written e f w h g = rw h (AsBefore refl refl g)

pub lasting_half : (e : Entry) (w : Writing) → (is_sending (own_of e.writing) ≡ true → is_sending (own_of w) ≡ true)
    → Lasting e (record e { writing = w })
lasting_half e w g = AsBefore refl refl g

lasting_unsent : (x : Refused) (e f : Entry) → StaysOf x e f → Lasting e f
lasting_unsent refused.Full e f h = lasting_written e f h.0 h.2 (λ p. same_half e.writing h.0 h.1.0 h.1.1.ending p)
lasting_unsent x e f h = lasting_written e f e.writing h (λ p. p)

pub lasting_sent : (r : Result Bool Refused) (bytes : List ℕ) (fin : Bool) (e f : Entry)
    → IfOk r (λ room. OwnHalf (Sends bytes fin room) e f) → IfErr r (λ x. StaysOf x e f) → Lasting e f
lasting_sent (Ok room) bytes fin e f h g =
    lasting_written e f h.0 h.2 (λ p. sends_more bytes fin room e.writing h.0 h.1)
lasting_sent (Err x) bytes fin e f h g = lasting_unsent x e f g

pub lasting_sent_owned : (r : Result Bool Unsent) (bytes : List ℕ) (fin : Bool) (e f : Entry)
    → IfOk r (λ room. OwnHalf (Sends bytes fin room) e f) → IfErr r (λ x. StaysOf x.why e f) → Lasting e f
lasting_sent_owned (Ok room) bytes fin e f h g =
    lasting_written e f h.0 h.2 (λ p. sends_more bytes fin room e.writing h.0 h.1)
lasting_sent_owned (Err x) bytes fin e f h g = lasting_unsent x.why e f g

pub lasting_drained : {A E : Type 0} (r : Result A E) (e : Entry) (w : Writing) → OnOk r (Drains e.writing w)
    → OnErr r (w ≡ e.writing) → Lasting e (record e { writing = w })
lasting_drained (Ok u) e w h g = lasting_half e w (λ p. drains_more e.writing w h)
lasting_drained (Err u) e w h g = lasting_half e w (λ p. ap (λ x. is_sending (own_of x)) g ∙ p)

pub lasting_trailers : {A E : Type 0} (r : Result A E) (fields : List Field) (t u : Tools) (e : Entry) (w : Writing)
    → OnOk r (SendsTrailers fields t u e.writing w) → OnErr r (w ≡ e.writing) → Lasting e (record e { writing = w })
lasting_trailers (Ok x) fields t u e w h g = lasting_half e w (λ p. trailers_more fields t u e.writing w h)
lasting_trailers (Err x) fields t u e w h g = lasting_half e w (λ p. ap (λ x. is_sending (own_of x)) g ∙ p)

-- ---- all streams

holds_more : (a b : Bool) (x y : Own) (r s : Bool) → b ≡ a → s ≡ r → (is_sending x ≡ true → is_sending y ≡ true)
    → Holds (halves_if a x r) (halves_if b y s)
holds_more true true x y r s h n g = (g, λ p. n ∙ p)
holds_more true false x y r s h n g = absurd (let bad : false ≡ true = h in cc)
holds_more false b x y r s h n g = tt

holds_as : (e f : Entry) → Lasting e f → Holds (halves_in (Some e)) (halves_in (Some f))
holds_as e f (AsBefore t n g) = holds_more (is_known e.told) (is_known f.told) (own_in (Some e)) (own_in (Some f))
    (reads_in (Some e)) (reads_in (Some f)) (ap is_known t) n g

pub lasts_as_before : (but : Option ℕ) (es : List (ℕ × Entry)) (q : List Event) (id : ℕ) (e f : Entry)
    → entry_at es id ≡ Some e → Lasting e f → Lasts but [] es q (set_value (is_at (nat_cmp id)) es f) q
lasts_as_before but es q id e f h l = lasts_sets but es (set_value (is_at (nat_cmp id)) es f) q id (Some f)
    (set_sets es id e f h)
    (subst (λ o. Holds (halves_in o) (halves_in (Some f))) (sym h) (holds_as e f l))

-- nothing changed before, and nothing does after
abbrev LastsView : Option ℕ → View → View → Type 0
LastsView but v w = is_some w.ended ≡ false → Sound v.streams v.ids → Lasts but [] v.streams v.events w.streams w.events

pub lasts_between : (c m n d : Connection) → view_of m ≡ view_of c → LastsOn [] m n → view_of d ≡ view_of n → LastsOn [] c d
lasts_between c m n d p l q =
    subst (λ v. LastsView None v (view_of d)) p (subst (λ w. LastsView None (view_of m) w) (sym q) l)

pub lasts_same : (c d : Connection) → view_of d ≡ view_of c → LastsOn [] c d
lasts_same c d p = subst (λ w. LastsView None (view_of c) w) (sym p) (λ n s. lasts_refl None c.streams.entries c.events.items)

-- the same where one stream changes after that
pub lasts_still_as : (es fs gs : List (ℕ × Entry)) (q r : List Event) (id : ℕ) (e f : Entry) → fs ≡ es → r ≡ q
    → entry_at fs id ≡ Some e → gs ≡ set_value (is_at (nat_cmp id)) fs f → Lasting e f → Lasts None [] es q gs r
lasts_still_as es fs gs q r id e f streams events there written l =
    subst (λ (x : List (ℕ × Entry)). Lasts None [] x q gs r) streams
    (subst (λ x. Lasts None [] fs x gs r) events
    (subst (λ (x : List (ℕ × Entry)). Lasts None [] fs r x r) (sym written) (lasts_as_before None fs r id e f there l)))
