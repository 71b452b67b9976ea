-- What severs a stream of a session, and what leaves it severed.
use Rattle.std.proofs.Common.{◌≡◌, ◌⊎◌, ◌&&◌, ◌||◌, ◌-◌, not, ℕ, List, length, Option, Some, None, Bool, true, false, cond, refl, inl, inr, sym, ap, ◌∙◌}
use Rattle.std.specs.Prelude.{is_some, MatchBool, MatchResult, IfOk, IfErr, OnOk, OnErr, Result, Ok, Err}
use Rattle.vesgrauf_queue.specs.declared.ending.Ending.{Ending}
use Rattle.vesgrauf_queue.specs.declared.ending.Ending.TheVariants as ending
use Rattle.vesgrauf_queue.specs.declared.ending.Reset.{Reset}
use Rattle.vesgrauf_queue.specs.Steps.{Does, Acknowledges, Tells, Puts, PutsReset, Resets}
use Rattle.vesgrauf_stream.specs.declared.error.NotSent.{NotSent}
use Rattle.vesgrauf_stream.specs.declared.error.NotSent.TheVariants as error
use Rattle.vesgrauf_stream.specs.declared.reading.Reading.{Reading}
use Rattle.vesgrauf_stream.specs.declared.tools.Tools.{Tools}
use Rattle.vesgrauf_stream.specs.declared.writing.Writing.{Writing}
use Rattle.vesgrauf_stream.specs.declared.writing.half.Half.{Half}
use Rattle.vesgrauf_stream.specs.declared.writing.half.Half.TheVariants as half
use Rattle.vesgrauf_stream.specs.Errors.{and_then}
use Rattle.vesgrauf_stream.specs.Writing.{Sends, Ends, Drains, Closes, is_none, is_idle, is_open, open_if, open_half, content_at, after_content, message_of, message_at, session_of, asked_half, raw_half, connected, opened, with_half}
use Rattle.vesgrauf_stream.specs.Headers.{SendsBy, SendsHeaders, SendsTrailers, Leading, response_of, response_at}
use Rattle.wtp_connection.specs.declared.connection.Known.{Known}
use Rattle.wtp_messages.specs.declared.response.Asked.{Asked}
use Rattle.wtp_sending.specs.declared.error.SendError.{SendError}
use Rattle.wtp_sending.specs.declared.message.Sending.{Sending}
use Rattle.wtp_sending.specs.Session.{after_close}
use Rattle.wtp_sending.specs.Message.{opens, placed}
use Rattle.vesgrauf_stream.specs.Errors.{sending}
use Rattle.wtp_qpack.specs.Field.{Field}
use Rattle.vesgrauf.specs.declared.entry.Entry.{Entry}
use Rattle.vesgrauf.specs.declared.entry.Peer.{Peer}
use Rattle.vesgrauf.specs.declared.entry.Peer.TheVariants as peer
use Rattle.vesgrauf.specs.declared.entry.Told.{Told}
use Rattle.vesgrauf.specs.declared.entry.Told.TheVariants as told
use Rattle.vesgrauf.specs.declared.refused.NotSent.{NotSent as Unsent}
use Rattle.vesgrauf.specs.declared.refused.Refused.{Refused}
use Rattle.vesgrauf.specs.declared.refused.Refused.TheVariants as refused
use Rattle.vesgrauf.specs.Joined.{StaysOut, IsStillOut, is_out, is_past, is_unread, is_left, is_severed}
use Rattle.vesgrauf.specs.Members.{Drops}
use Rattle.vesgrauf.specs.Own.{Over}
use Rattle.vesgrauf.specs.State.{OwnHalf, Owes, StaysOf}
use Rattle.vesgrauf.specs.Streams.{becomes_known, is_told_over}
use Rattle.vesgrauf.specs.Theirs.{Gone, Unread, theirs_by, theirs_of}
use Rattle.vesgrauf.proofs.GoesLemmas.{standing_of}

-- ---- truth values

pub or_of : (a b : Bool) → (a || b) ≡ true → (a ≡ true) ⊎ (b ≡ true)
or_of true b h = inl refl
or_of false b h = inr h

pub or_left : (a b : Bool) → a ≡ true → (a || b) ≡ true
or_left true b h = refl
or_left false b h = absurd (let bad : false ≡ true = h in cc)

pub or_right : (a b : Bool) → b ≡ true → (a || b) ≡ true
or_right true b h = refl
or_right false b h = h

pub or_by : (a b c d : Bool) → (a ≡ true → c ≡ true) → (b ≡ true → d ≡ true) → (a || b) ≡ true → (c || d) ≡ true
or_by true b c d f g h = or_left c d (f refl)
or_by false b c d f g h = or_right c d (g h)

pub and_of : (a b : Bool) → (a && b) ≡ true → (a ≡ true) × (b ≡ true)
and_of true b h = (refl, h)
and_of false b h = absurd (let bad : false ≡ true = h in cc)

pub and_both : (a b : Bool) → a ≡ true → b ≡ true → (a && b) ≡ true
and_both true b h g = g
and_both false b h g = absurd (let bad : false ≡ true = h in cc)

pub not_true : (b : Bool) → not b ≡ true → b ≡ false
not_true true h = absurd (let bad : false ≡ true = h in cc)
not_true false h = refl

pub never : (b : Bool) → b ≡ true → b ≡ false → ⊥
never true h n = let bad : true ≡ false = n in cc
never false h n = let bad : false ≡ true = h in cc

-- a stream was looked for, and there was none
pub not_there : {A : Type 0} (o : Option A) (b : Bool) → b ≡ is_some o → b ≡ false → o ≡ None
not_there None b has no_one = refl
not_there (Some e) b has no_one = absurd (never b has no_one)

-- ---- own halves on which nothing more is sent

out_by : (v w : Writing) → w.half ≡ v.half → (is_past v.queue.ending ≡ true → is_past w.queue.ending ≡ true) → StaysOut v w
out_by v w h e = IsStillOut (λ o. or_by (is_none v.half) (is_past v.queue.ending) (is_none w.half) (is_past w.queue.ending)
    (λ n. ap (λ x. is_none x) h ∙ n) e o)

out_ending : (v w : Writing) → w.half ≡ v.half → w.queue.ending ≡ v.queue.ending → StaysOut v w
out_ending v w h e = out_by v w h (λ p. ap (λ x. is_past x) e ∙ p)

pub out_same : (v w : Writing) → w ≡ v → StaysOut v w
out_same v w h = IsStillOut (λ o. ap (λ x. is_out x) h ∙ o)

-- none was before, so none need be after
out_never : (v w : Writing) → (is_out v ≡ true → ⊥) → StaysOut v w
out_never v w never = IsStillOut (λ o. absurd (never o))

out_now : (v w : Writing) → is_out w ≡ true → StaysOut v w
out_now v w h = IsStillOut (λ o. h)

pub out_acked : (v w : Writing) (n : ℕ) → w.half ≡ v.half → Does (Acknowledges n) v.queue w.queue → StaysOut v w
out_acked v w n h d = out_ending v w h d.ending

pub out_told : (b : Bool) (B : Type 0) (v w : Writing) → w.half ≡ v.half
    → MatchBool b (Does Tells v.queue w.queue) ((w ≡ v) × B) → StaysOut v w
out_told true B v w h m = out_ending v w h m.ending
out_told false B v w h m = out_same v w m.0

past_out : (w : Writing) → is_past w.queue.ending ≡ true → is_out w ≡ true
past_out w h = or_right (is_none w.half) (is_past w.queue.ending) h

reset_past : (v w : Writing) (code : ℕ) → Does (Resets code 0) v.queue w.queue → is_out w ≡ true
reset_past v w code d = past_out w (rw d.ending refl)

pub out_reset : (b : Bool) (A B : Type 0) (v w : Writing) (code : ℕ)
    → MatchBool b (A × Does (Resets code 0) v.queue w.queue) ((w ≡ v) × B) → StaysOut v w
out_reset true A B v w code m = out_now v w (reset_past v w code m.1)
out_reset false A B v w code m = out_same v w m.0

pub out_reset_put : {A E : Type 0} (r : Result A E) (v w : Writing)
    → OnOk r ((x : Reset) × Does (PutsReset x.code x.size) v.queue w.queue) → OnErr r (w ≡ v) → StaysOut v w
out_reset_put (Ok x) v w m n = out_now v w (past_out w (rw m.1.ending refl))
out_reset_put (Err x) v w m n = out_same v w n

put_by : (e f : Ending) (fin : Bool) → f ≡ cond fin ending.Finished e → is_past e ≡ true → is_past f ≡ true
put_by e f true h p = ap (λ x. is_past x) h
put_by e f false h p = ap (λ x. is_past x) h ∙ p

pub out_put : {A E : Type 0} (r : Result A E) (v w : Writing) (bytes : List ℕ) (fin : Bool) → w.half ≡ v.half
    → OnOk r (Does (Puts bytes fin) v.queue w.queue) → OnErr r (w ≡ v) → StaysOut v w
out_put (Ok x) v w bytes fin h m n = out_by v w h (λ p. put_by v.queue.ending w.queue.ending fin m.ending p)
out_put (Err x) v w bytes fin h m n = out_same v w n

pub out_none : (v w : Writing) → w.half ≡ half.None → StaysOut v w
out_none v w h = out_now v w (or_left (is_none w.half) (is_past w.queue.ending) (ap (λ x. is_none x) h))

half_none : (v w : Writing) (h : Half) → w ≡ with_half h v → is_none h ≡ is_none v.half → StaysOut v w
half_none v w h same none = IsStillOut (λ o. ap (λ x. is_out x) same
    ∙ (ap (λ b. b || is_past v.queue.ending) none ∙ o))

asked_none : (a : Asked) (h : Half) → is_none (asked_half a h) ≡ is_none h
asked_none a half.None = refl
asked_none a half.Idle = refl
asked_none a (half.Asked b) = refl
asked_none a (half.Message s) = refl
asked_none a half.Raw = refl

raw_none : (h : Half) → is_none (raw_half h) ≡ is_none h
raw_none half.None = refl
raw_none half.Idle = refl
raw_none (half.Asked b) = refl
raw_none (half.Message s) = refl
raw_none half.Raw = refl

opened_none : (s : Sending) (r : Result Sending SendError) → is_none (opened s r) ≡ false
opened_none s (Ok t) = refl
opened_none s (Err e) = refl

connected_none : (h : Half) → is_none (connected h) ≡ is_none h
connected_none half.None = refl
connected_none half.Idle = refl
connected_none (half.Asked b) = refl
connected_none (half.Message s) = opened_none s (placed s (opens s.place))
connected_none half.Raw = refl

pub out_asked : (v w : Writing) (a : Asked) → w ≡ with_half (asked_half a v.half) v → StaysOut v w
out_asked v w a h = half_none v w (asked_half a v.half) h (asked_none a v.half)

pub out_raw : (v w : Writing) → w ≡ with_half (raw_half v.half) v → StaysOut v w
out_raw v w h = half_none v w (raw_half v.half) h (raw_none v.half)

pub out_connected : (v w : Writing) → w ≡ with_half (connected v.half) v → StaysOut v w
out_connected v w h = half_none v w (connected v.half) h (connected_none v.half)

-- ---- calls that are refused there

none_idle : (h : Half) → is_none h ≡ true → is_idle h ≡ true
none_idle half.None n = refl
none_idle half.Idle n = refl
none_idle (half.Asked a) n = n
none_idle (half.Message s) n = n
none_idle half.Raw n = n

past_open : (e : Ending) → is_past e ≡ true → is_open e ≡ false
past_open ending.Open h = absurd (let bad : false ≡ true = h in cc)
past_open ending.Finishing h = refl
past_open ending.Finished h = refl
past_open (ending.Resetting r) h = refl
past_open (ending.WasReset r) h = refl

-- nothing may be sent
abbrev pub IsShut : Writing → Type 0
IsShut w = (e : NotSent) × (open_half w ≡ Err e)

shut_if : (absent : Bool) (w : Writing) → is_open w.queue.ending ≡ false → (e : NotSent) × (open_if absent w ≡ Err e)
shut_if true w h = (error.None, refl)
shut_if false w h = (error.Over, ap (λ b. cond b (Ok w.half) (Err error.Over)) h)

shut_absent : (absent : Bool) (w : Writing) → absent ≡ true → (e : NotSent) × (open_if absent w ≡ Err e)
shut_absent true w h = (error.None, refl)
shut_absent false w h = absurd (let bad : false ≡ true = h in cc)

out_shut : (w : Writing) → is_out w ≡ true → IsShut w
out_shut w h = by (or_of (is_none w.half) (is_past w.queue.ending) h)
  where
    by : (is_none w.half ≡ true) ⊎ (is_past w.queue.ending ≡ true) → IsShut w
    by (inl n) = shut_absent (is_idle w.half) w (none_idle w.half n)
    by (inr p) = shut_if (is_idle w.half) w (past_open w.queue.ending p)

then_err : {A B E : Type 0} (F : A → Result B E) (r : Result A E) (e : E) (x : B) → r ≡ Err e → and_then F r ≡ Ok x → ⊥
then_err F r e x h g = let bad : Err e ≡ Ok x = sym (ap (λ q. and_then F q) h) ∙ g in cc

then_shut : {A : Type 0} (F : Half → Result A NotSent) (w : Writing) (x : A) → and_then F (open_half w) ≡ Ok x
    → is_out w ≡ true → ⊥
then_shut F w x h o = then_err F (open_half w) (out_shut w o).0 x (out_shut w o).1 h

sends_by : (F : Leading) (r : Result Sending NotSent) (fields : List Field) (fin : Bool) (t u : Tools) (v w : Writing)
    (e : NotSent) → r ≡ Err e → SendsBy r F fields fin t u v w → ⊥
sends_by F (Err x) fields fin t u v w e h s = s
sends_by F (Ok x) fields fin t u v w e h s = let bad : Ok x ≡ Err e = h in cc

pub out_sent : (bytes : List ℕ) (fin room : Bool) (v w : Writing) → Sends bytes fin room v w → StaysOut v w
out_sent bytes fin room v w s = out_never v w (λ o. then_shut (after_content (length bytes) fin) v w.half s.may o)

pub out_finished : (r : Result (Unit {0}) NotSent) (v w : Writing)
    → MatchResult r (λ u. Ends v w) (λ e. (w ≡ v) × (content_at v 0 true ≡ Err e)) → StaysOut v w
out_finished (Ok u) v w s = out_never v w (λ o. then_shut (after_content 0 true) v w.half s.may o)
out_finished (Err e) v w s = out_same v w s.0

pub out_drained : {A E : Type 0} (r : Result A E) (v w : Writing) → OnOk r (Drains v w) → OnErr r (w ≡ v) → StaysOut v w
out_drained (Ok u) v w s n = out_never v w
    (λ o. message_shut v o (λ e h. then_err session_of (message_at v) e tt h s.may))
  where
    message_shut : (v : Writing) → is_out v ≡ true → ((e : NotSent) → message_at v ≡ Err e → ⊥) → ⊥
    message_shut v o k = k (out_shut v o).0 (ap (λ q. and_then message_of q) (out_shut v o).1)
out_drained (Err u) v w s n = out_same v w n

pub out_closed : {A E : Type 0} (r : Result A E) (code : ℕ) (reason : List ℕ) (v w : Writing) → OnOk r (Closes code reason v w)
    → OnErr r (w ≡ v) → StaysOut v w
out_closed (Ok u) code reason v w s n = out_never v w
    (λ o. then_err (λ m. sending (after_close m reason)) (message_at v) (out_shut v o).0 s.last
    (ap (λ q. and_then message_of q) (out_shut v o).1) s.may)
out_closed (Err u) code reason v w s n = out_same v w n

pub out_responded : {A E : Type 0} (r : Result A E) (id : ℕ) (allows : _) (fields : List Field) (fin : Bool) (t u : Tools)
    (v w : Writing) → OnOk r (SendsHeaders (response_at v id allows) fields fin t u v w) → OnErr r (w ≡ v) → StaysOut v w
out_responded (Ok x) id allows fields fin t u v w s n = out_never v w
    (λ o. sends_by _ (response_at v id allows) fields fin t u v w (out_shut v o).0
    (ap (λ q. and_then (response_of id allows) q) (out_shut v o).1) s)
out_responded (Err x) id allows fields fin t u v w s n = out_same v w n

pub out_trailers : {A E : Type 0} (r : Result A E) (fields : List Field) (t u : Tools)
    (v w : Writing) → OnOk r (SendsTrailers fields t u v w) → OnErr r (w ≡ v) → StaysOut v w
out_trailers (Ok x) fields t u v w s n = out_never v w
    (λ o. sends_by _ (message_at v) fields true t u v w (out_shut v o).0
    (ap (λ q. and_then message_of q) (out_shut v o).1) s)
out_trailers (Err x) fields t u v w s n = out_same v w n

-- ---- one stream

-- a stream goes on as one of its session, and if it was severed it stays so
pub data Stays (e f : Entry) : Type 0 where
  IsStill : (session : f.session ≡ e.session) → (holds : f.has_session ≡ e.has_session)
      → (severed : is_severed (Some e) ≡ true → is_severed (Some f) ≡ true) → Stays e f

pub severed_by : (e f : Entry) → StaysOut e.writing f.writing → (is_left e ≡ true → is_left f ≡ true)
    → is_severed (Some e) ≡ true → is_severed (Some f) ≡ true
severed_by e f (IsStillOut o) l h = and_both (is_out f.writing) (is_left f)
    (o (and_of (is_out e.writing) (is_left e) h).0) (l (and_of (is_out e.writing) (is_left e) h).1)

left_by : (e f : Entry) → (is_told_over e.told ≡ true → is_told_over f.told ≡ true)
    → (is_unread e.peer e.is_decoder ≡ true → is_unread f.peer f.is_decoder ≡ true)
    → (e.is_ended ≡ true → f.is_ended ≡ true) → is_left e ≡ true → is_left f ≡ true
left_by e f t u n h = or_by (is_told_over e.told && is_unread e.peer e.is_decoder) e.is_ended
    (is_told_over f.told && is_unread f.peer f.is_decoder) f.is_ended
    (λ g. and_both (is_told_over f.told) (is_unread f.peer f.is_decoder)
    (t (and_of (is_told_over e.told) (is_unread e.peer e.is_decoder) g).0)
    (u (and_of (is_told_over e.told) (is_unread e.peer e.is_decoder) g).1)) n h

unread_as : (e f : Entry) → f.peer ≡ e.peer → f.is_decoder ≡ e.is_decoder → is_unread e.peer e.is_decoder ≡ true
    → is_unread f.peer f.is_decoder ≡ true
unread_as e f p d h = rw (p, d) h

pub left_as : (e f : Entry) → f.told ≡ e.told → f.peer ≡ e.peer → f.is_decoder ≡ e.is_decoder → f.is_ended ≡ e.is_ended
    → is_left e ≡ true → is_left f ≡ true
left_as e f t p d n h = left_by e f (λ x. ap (λ y. is_told_over y) t ∙ x) (λ x. unread_as e f p d x) (λ x. n ∙ x) h

-- its own half does not change, nor what is so of it
pub stays_same : (e f : Entry) → f.session ≡ e.session → f.has_session ≡ e.has_session → f.writing ≡ e.writing
    → f.told ≡ e.told → f.peer ≡ e.peer → f.is_decoder ≡ e.is_decoder → f.is_ended ≡ e.is_ended → Stays e f
stays_same e f s h w t p d n = IsStill s h
    (λ x. severed_by e f (out_same e.writing f.writing w) (λ l. left_as e f t p d n l) x)

-- nothing more is sent on its own half, if nothing was before
pub stays_half : (e f : Entry) → f.session ≡ e.session → f.has_session ≡ e.has_session → StaysOut e.writing f.writing
    → f.told ≡ e.told → f.peer ≡ e.peer → f.is_decoder ≡ e.is_decoder → f.is_ended ≡ e.is_ended → Stays e f
stays_half e f s h w t p d n = IsStill s h (λ x. severed_by e f w (λ l. left_as e f t p d n l) x)

known_over : (t : Told) → is_told_over t ≡ true → is_told_over (becomes_known t) ≡ true
known_over told.NotYet h = h
known_over told.Known h = h
known_over told.Over h = refl

-- the program is told of it
pub stays_known : (e f : Entry) → f.session ≡ e.session → f.has_session ≡ e.has_session → StaysOut e.writing f.writing
    → f.told ≡ becomes_known e.told → f.peer ≡ e.peer → f.is_decoder ≡ e.is_decoder → f.is_ended ≡ e.is_ended → Stays e f
stays_known e f s h w t p d n = IsStill s h (λ x. severed_by e f w
    (λ l. left_by e f (λ y. ap (λ z. is_told_over z) t ∙ known_over e.told y) (λ y. unread_as e f p d y) (λ y. n ∙ y) l) x)

-- it is over for the program
pub stays_over : (e f : Entry) → f.session ≡ e.session → f.has_session ≡ e.has_session → f.writing ≡ e.writing
    → f.told ≡ told.Over → f.peer ≡ e.peer → f.is_decoder ≡ e.is_decoder → f.is_ended ≡ e.is_ended → Stays e f
stays_over e f s h w t p d n = IsStill s h (λ x. severed_by e f (out_same e.writing f.writing w)
    (λ l. left_by e f (λ y. ap (λ z. is_told_over z) t) (λ y. unread_as e f p d y) (λ y. n ∙ y) l) x)

pub gone_by : (p : Peer) (d : Bool) (r : Reading) → theirs_by p d r ≡ Gone → is_unread p d ≡ true
gone_by peer.Reads true r h = refl
gone_by peer.Reads false r h = absurd (let bad : Unread _ _ _ ≡ Gone = h in cc)
gone_by peer.Drops d r h = refl
gone_by peer.Over d r h = refl

-- it is read no further
pub stays_gone : (e f : Entry) → f.session ≡ e.session → f.has_session ≡ e.has_session → f.writing ≡ e.writing
    → f.told ≡ e.told → theirs_of f ≡ Gone → f.is_ended ≡ e.is_ended → Stays e f
stays_gone e f s h w t g n = IsStill s h (λ x. severed_by e f (out_same e.writing f.writing w)
    (λ l. left_by e f (λ y. ap (λ z. is_told_over z) t ∙ y) (λ y. gone_by f.peer f.is_decoder f.reading g)
    (λ y. n ∙ y) l) x)

-- the end of the peer's half came
pub stays_ended : (e f : Entry) → f.session ≡ e.session → f.has_session ≡ e.has_session → f.writing ≡ e.writing
    → f.is_ended ≡ true → Stays e f
stays_ended e f s h w n = IsStill s h (λ x. severed_by e f (out_same e.writing f.writing w)
    (λ l. or_right (is_told_over f.told && is_unread f.peer f.is_decoder) f.is_ended n) x)

decoder_unread : (p : Peer) → is_unread p true ≡ true
decoder_unread peer.Reads = refl
decoder_unread peer.Drops = refl
decoder_unread peer.Over = refl

-- its bytes are instructions for the own encoder
pub stays_decoder : (e f : Entry) → f.session ≡ e.session → f.has_session ≡ e.has_session → f.writing ≡ e.writing
    → f.told ≡ e.told → f.is_decoder ≡ true → f.is_ended ≡ e.is_ended → Stays e f
stays_decoder e f s h w t d n = IsStill s h (λ x. severed_by e f (out_same e.writing f.writing w)
    (λ l. left_by e f (λ y. ap (λ z. is_told_over z) t ∙ y)
    (λ y. ap (λ b. is_unread f.peer b) d ∙ decoder_unread f.peer) (λ y. n ∙ y) l) x)

-- content is queued on it, or bytes, or not
owes_out : (v w : Writing) → Owes v w → StaysOut v w
owes_out v w o = out_ending v w o.0 o.1.ending

stays_written : (e f : Entry) (w : Writing) → f ≡ record e { writing = w } → StaysOut e.writing w → Stays e f
stays_written e f w h o = rw h (stays_half e (record e { writing = w }) refl refl o refl refl refl refl)

-- QUIC takes bytes of it
pub stays_put : (e f : Entry) → f ≡ record e { writing = f.writing } → StaysOut e.writing f.writing → Stays e f
stays_put e f h o = stays_written e f f.writing h o

stays_unsent : (x : Refused) (e f : Entry) → StaysOf x e f → Stays e f
stays_unsent refused.Full e f h = stays_written e f h.0 h.2 (owes_out e.writing h.0 h.1)
stays_unsent x e f h = rw h (stays_same e e refl refl refl refl refl refl refl)

pub stays_sent : (r : Result Bool Refused) (bytes : List ℕ) (fin : Bool) (e f : Entry)
    → IfOk r (λ room. OwnHalf (Sends bytes fin room) e f) → IfErr r (λ x. StaysOf x e f) → Stays e f
stays_sent (Ok room) bytes fin e f h g = stays_written e f h.0 h.2 (out_sent bytes fin room e.writing h.0 h.1)
stays_sent (Err x) bytes fin e f h g = stays_unsent x e f g

pub stays_sent_owned : (r : Result Bool Unsent) (bytes : List ℕ) (fin : Bool) (e f : Entry)
    → IfOk r (λ room. OwnHalf (Sends bytes fin room) e f) → IfErr r (λ x. StaysOf x.why e f) → Stays e f
stays_sent_owned (Ok room) bytes fin e f h g = stays_written e f h.0 h.2 (out_sent bytes fin room e.writing h.0 h.1)
stays_sent_owned (Err x) bytes fin e f h g = stays_unsent x.why e f g

-- what the program knows of it does not change, nor its session
standing_unsent : (x : Refused) (e f : Entry) → StaysOf x e f → standing_of f ≡ standing_of e
standing_unsent refused.Full e f h = ap (λ y. standing_of y) h.2
standing_unsent x e f h = ap (λ y. standing_of y) h

pub standing_sent : (r : Result Bool Refused) (bytes : List ℕ) (fin : Bool) (e f : Entry)
    → IfOk r (λ room. OwnHalf (Sends bytes fin room) e f) → IfErr r (λ x. StaysOf x e f)
    → standing_of f ≡ standing_of e
standing_sent (Ok room) bytes fin e f h g = ap (λ y. standing_of y) h.2
standing_sent (Err x) bytes fin e f h g = standing_unsent x e f g

pub standing_sent_owned : (r : Result Bool Unsent) (bytes : List ℕ) (fin : Bool) (e f : Entry)
    → IfOk r (λ room. OwnHalf (Sends bytes fin room) e f) → IfErr r (λ x. StaysOf x.why e f)
    → standing_of f ≡ standing_of e
standing_sent_owned (Ok room) bytes fin e f h g = ap (λ y. standing_of y) h.2
standing_sent_owned (Err x) bytes fin e f h g = standing_unsent x.why e f g
