-- What becomes of the streams of a session that is over.
use Rattle.std.proofs.Common.{◌≡◌, ◌&&◌, ◌⊎◌, ◌==◌, ◌||◌, ◌++◌, ◌<◌, ◌≤◌, ◌-◌, ℕ, length, take, not, List, [], ◌∷◌, Option, Some, None, Bool, true, false, cond, refl, arith, inl, inr, sym, ap, subst, ◌∙◌}
use Rattle.std.proofs.lemmas.List.{length-append}
use Rattle.std.proofs.Math.Seq.{take-append_seam}
use Rattle.std.specs.Prelude.{OnOk, OnErr, Result, Ok, Err, ◌^◌}
use Rattle.std.specs.Ordering.{nat_cmp}
use Rattle.std.specs.Map.{set_value}
use Rattle.std.specs.BTreeMap.{is_at}
use Rattle.vesgrauf_queue.specs.declared.ending.Ending.{Ending}
use Rattle.vesgrauf_queue.specs.declared.ending.Ending.TheVariants.{Open, Finishing, Finished, Resetting, WasReset}
use Rattle.vesgrauf_queue.specs.State.{waiting, is_reset, is_taken, is_done as is_queue_done}
use Rattle.wtp_webtransport.specs.declared.stream.Stream.{Stream}
use Rattle.vesgrauf_stream.specs.declared.writing.Writing.{Writing}
use Rattle.vesgrauf_stream.specs.Writing.{is_open, is_finished, is_none, is_connect, is_done as is_written}
use Rattle.vesgrauf.specs.declared.config.Config.{Config}
use Rattle.vesgrauf.specs.declared.connection.Ended.{Ended}
use Rattle.vesgrauf.specs.declared.connection.ids.Ids.{Ids}
use Rattle.vesgrauf.specs.declared.entry.Entry.{Entry}
use Rattle.vesgrauf.specs.declared.entry.Peer.{Peer}
use Rattle.vesgrauf.specs.declared.entry.Peer.TheVariants as peer
use Rattle.vesgrauf.specs.declared.entry.Told.{Told}
use Rattle.vesgrauf.specs.declared.entry.Told.TheVariants as told
use Rattle.vesgrauf.specs.declared.event.Event.{Event}
use Rattle.vesgrauf.specs.declared.output.Output.{Output}
use Rattle.vesgrauf.specs.declared.output.Output.TheVariants as output
use Rattle.vesgrauf.specs.declared.connection.Connection.{Connection}
use Rattle.vesgrauf.specs.Cuts.{IsOwnOver, WasReset as ByReset, WasSent, is_over_in, is_read, is_read_out, IsCut, Shut, ReadsOut, MembersCut, EachCut, AreCut, AllCut, AloneAt, IsAlone, Asks, AsksNothing, AsksMore}
use Rattle.vesgrauf.specs.Joined.{Joined, EachJoined, AreSevered, EachSevered, holds_in, is_out, is_past, is_unread, is_left, is_severed}
use Rattle.vesgrauf.specs.Members.{is_member, session_in, DropsAt, IsNextMember}
use Rattle.vesgrauf.specs.Own.{Own, Over, Sends, End, Open as OpenEnd, end_of, own_of, own_in, own_at, is_sent, entry_at}
use Rattle.vesgrauf.specs.State.{Changes, Of, stream_at, view_of, with_stream}
use Rattle.vesgrauf.specs.Streams.{is_told_over}
use Rattle.vesgrauf.specs.Theirs.{Gone, Unread, theirs_in, theirs_at}
use Rattle.vesgrauf.specs.Told.{Sets, AreOthers, Sound, status_in, ended_by, ended_at}
use Rattle.vesgrauf.proofs.GoesLemmas.{same_at, set_sets}
use Rattle.vesgrauf.proofs.SeveredLemmas.{or_left, or_right, or_by, and_of, and_both, gone_by}
use Rattle.vesgrauf.proofs.KeepsLemmas.{key_same}
use Rattle.vesgrauf.proofs.MemberLemmas.{drops_refl, drops_trans}

-- ---- steps about one stream

pub alone_refl : (id : ℕ) (es : List (ℕ × Entry)) (ids : Ids) → AloneAt id es ids es ids
alone_refl id es ids = IsAlone (λ k t. refl) (drops_refl id ids) (λ h. h) (λ h. h) (λ h. h)

pub alone_trans : (id : ℕ) (es fs gs : List (ℕ × Entry)) (ids jds kds : Ids) → AloneAt id es ids fs jds
    → AloneAt id fs jds gs kds → AloneAt id es ids gs kds
alone_trans id es fs gs ids jds kds (IsAlone g d t o v) (IsAlone h e u p w) = IsAlone (λ k n. h k n ∙ g k n)
    (drops_trans id ids jds kds d e) (λ x. u (t x)) (λ x. p (o x)) (λ x. w (v x))

pub alone_then : {id : ℕ} {es fs gs : List (ℕ × Entry)} {ids jds kds : Ids} → AloneAt id es ids fs jds
    → AloneAt id fs jds gs kds → AloneAt id es ids gs kds
alone_then {id} {es} {fs} {gs} {ids} {jds} {kds} g h = alone_trans id es fs gs ids jds kds g h

sets_here : (id : ℕ) (es fs : List (ℕ × Entry)) (w : Option Entry) → Sets id w es fs → entry_at fs id ≡ w
sets_here id es fs w sets = sets id ∙ ap (λ b. cond b w (entry_at es id)) (key_same id)

pub alone_sets : (id : ℕ) (es fs : List (ℕ × Entry)) (ids jds : Ids) (w : Option Entry) → Sets id w es fs
    → DropsAt id ids jds → (is_over_in (entry_at es id) ≡ true → is_over_in w ≡ true)
    → (IsOwnOver (entry_at es id) → IsOwnOver w) → (holds_in (entry_at es id) ≡ false → holds_in w ≡ false)
    → AloneAt id es ids fs jds
alone_sets id es fs ids jds w sets d told own holds = IsAlone (λ k t. sets k ∙ ap (λ b. cond b w (entry_at es k)) t) d
    (λ h. ap is_over_in (sets_here id es fs w sets) ∙ told h)
    (λ h. subst (λ o. IsOwnOver o) (sym (sets_here id es fs w sets)) (own h))
    (λ h. ap holds_in (sets_here id es fs w sets) ∙ holds h)

-- what is so of the halves of a stream, of what the program knows, and of its session
pub record Held : Type 0 where
  pub told : Told
  pub writing : Writing
  pub has_session : Bool

abbrev pub held_of : Entry → Held
held_of e = record { told = e.told; writing = e.writing; has_session = e.has_session }

abbrev pub held_in : Option Entry → Option Held
held_in None = None
held_in (Some e) = Some (held_of e)

held_same : (a b : Held) → Some a ≡ Some b → a ≡ b
held_same a b h = cc

own_by : (x y : Option Entry) → own_in y ≡ own_in x → is_sent y ≡ is_sent x → IsOwnOver x → IsOwnOver y
own_by x y h g (ByReset o) = ByReset (h ∙ o)
own_by x y h g (WasSent o) = WasSent (g ∙ o)

set_by : (id : ℕ) (es : List (ℕ × Entry)) (ids : Ids) (f : Entry) (o : Option Entry) → entry_at es id ≡ o
    → held_in o ≡ Some (held_of f) → AloneAt id es ids (set_value (is_at (nat_cmp id)) es f) ids
set_by id es ids f None there h = absurd (let bad : None ≡ Some (held_of f) = h in cc)
set_by id es ids f (Some e) there h =
    let same : held_of e ≡ held_of f = held_same (held_of e) (held_of f) h in
    let writing : f.writing ≡ e.writing = sym (ap (λ p. p.writing) same) in
    let told : f.told ≡ e.told = sym (ap (λ p. p.told) same) in
    let has : f.has_session ≡ e.has_session = sym (ap (λ p. p.has_session) same) in
    alone_sets id es (set_value (is_at (nat_cmp id)) es f) ids ids (Some f) (set_sets es id e f there) (drops_refl id ids)
    (λ x. ap is_told_over told ∙ subst (λ o. is_over_in o ≡ true) there x)
    (λ x. own_by (Some e) (Some f) (own_same e f writing) (sent_same e f writing) (subst (λ o. IsOwnOver o) there x))
    (λ x. has ∙ (sym (ap holds_in there) ∙ x))
  where
    own_same : (e f : Entry) → f.writing ≡ e.writing → own_in (Some f) ≡ own_in (Some e)
    own_same e f w = rw w refl

    sent_same : (e f : Entry) → f.writing ≡ e.writing → is_sent (Some f) ≡ is_sent (Some e)
    sent_same e f w = rw w refl

-- its own half does not change, nor what the program knows of it
pub alone_set : (id : ℕ) (es : List (ℕ × Entry)) (ids : Ids) (f : Entry) → held_in (entry_at es id) ≡ Some (held_of f)
    → AloneAt id es ids (set_value (is_at (nat_cmp id)) es f) ids
alone_set id es ids f h = set_by id es ids f (entry_at es id) refl h

over_by : (id : ℕ) (es : List (ℕ × Entry)) (ids : Ids) (f : Entry) (o : Option Entry) → entry_at es id ≡ o
    → status_in o ≡ Some f.told → own_in (Some f) ≡ Over → f.has_session ≡ holds_in o
    → AloneAt id es ids (set_value (is_at (nat_cmp id)) es f) ids
over_by id es ids f None there h over has = absurd (let bad : None ≡ Some f.told = h in cc)
over_by id es ids f (Some e) there h over has =
    let told : f.told ≡ e.told = cc in
    alone_sets id es (set_value (is_at (nat_cmp id)) es f) ids ids (Some f) (set_sets es id e f there) (drops_refl id ids)
    (λ x. ap is_told_over told ∙ subst (λ o. is_over_in o ≡ true) there x) (λ x. ByReset over)
    (λ x. has ∙ (sym (ap holds_in there) ∙ x))

-- its own half is reset
pub alone_over : (id : ℕ) (es : List (ℕ × Entry)) (ids : Ids) (f : Entry) → status_in (entry_at es id) ≡ Some f.told
    → own_in (Some f) ≡ Over → f.has_session ≡ holds_in (entry_at es id)
    → AloneAt id es ids (set_value (is_at (nat_cmp id)) es f) ids
alone_over id es ids f h over has = over_by id es ids f (entry_at es id) refl h over has

-- its session does not count any more
pub alone_lost : (id : ℕ) (es : List (ℕ × Entry)) (ids : Ids) (e f : Entry) → entry_at es id ≡ Some e
    → f.told ≡ e.told → f.writing ≡ e.writing → f.has_session ≡ false
    → AloneAt id es ids (set_value (is_at (nat_cmp id)) es f) ids
alone_lost id es ids e f there told writing lost =
    alone_sets id es (set_value (is_at (nat_cmp id)) es f) ids ids (Some f) (set_sets es id e f there)
    (drops_refl id ids) (λ x. ap is_told_over told ∙ (sym (ap is_over_in there) ∙ x))
    (λ x. own_by (Some e) (Some f) (ap own_of writing) (ap is_written writing) (subst (λ o. IsOwnOver o) there x))
    (λ x. lost)

-- it is over for the program
ended_alone : (id : ℕ) (es fs : List (ℕ × Entry)) (ids : Ids) (o : Option Entry) → entry_at es id ≡ o → fs ≡ ended_by o id es
    → AloneAt id es ids fs ids
ended_alone id es fs ids None there h = rw h (alone_refl id es ids)
ended_alone id es fs ids (Some e) there h =
    let f : Entry = record e { told = told.Over } in
    rw h (alone_sets id es (set_value (is_at (nat_cmp id)) es f) ids ids (Some f) (set_sets es id e f there)
    (drops_refl id ids) (λ x. refl) (λ x. own_by (Some e) (Some f) refl refl (subst (λ o. IsOwnOver o) there x))
    (λ x. sym (ap holds_in there) ∙ x))

pub alone_ended : (id : ℕ) (es fs : List (ℕ × Entry)) (ids : Ids) → fs ≡ ended_at es id → AloneAt id es ids fs ids
alone_ended id es fs ids h = ended_alone id es fs ids (entry_at es id) refl h

over_ended : (id : ℕ) (es fs : List (ℕ × Entry)) (o : Option Entry) → entry_at es id ≡ o → fs ≡ ended_by o id es
    → is_over_in (entry_at fs id) ≡ true
over_ended id es fs None there h = ap (λ m. is_over_in (entry_at m id)) h ∙ ap is_over_in there
over_ended id es fs (Some e) there h =
    let f : Entry = record e { told = told.Over } in
    ap (λ m. is_over_in (entry_at m id)) h
    ∙ ap is_over_in (sets_here id es (set_value (is_at (nat_cmp id)) es f) (Some f) (set_sets es id e f there))

pub ended_over : (id : ℕ) (es fs : List (ℕ × Entry)) → fs ≡ ended_at es id → is_over_in (entry_at fs id) ≡ true
ended_over id es fs h = over_ended id es fs (entry_at es id) refl h

-- it is forgotten
pub alone_removed : (id : ℕ) (es fs : List (ℕ × Entry)) (ids jds : Ids) → Sets id None es fs → DropsAt id ids jds
    → AloneAt id es ids fs jds
alone_removed id es fs ids jds sets d = alone_sets id es fs ids jds None sets d (λ x. refl) (λ x. ByReset refl) (λ x. refl)

-- what was over stays so
pub alone_own : {id : ℕ} {es fs : List (ℕ × Entry)} {ids jds : Ids} → AloneAt id es ids fs jds → IsOwnOver (entry_at es id)
    → IsOwnOver (entry_at fs id)
alone_own (IsAlone g d t o n) h = o h

pub alone_told : {id : ℕ} {es fs : List (ℕ × Entry)} {ids jds : Ids} → AloneAt id es ids fs jds
    → is_over_in (entry_at es id) ≡ true → is_over_in (entry_at fs id) ≡ true
alone_told (IsAlone g d t o n) h = t h

pub alone_holds : {id : ℕ} {es fs : List (ℕ × Entry)} {ids jds : Ids} → AloneAt id es ids fs jds
    → holds_in (entry_at es id) ≡ false → holds_in (entry_at fs id) ≡ false
alone_holds (IsAlone g d t o n) h = n h

pub alone_others : {id : ℕ} {es fs : List (ℕ × Entry)} {ids jds : Ids} → AloneAt id es ids fs jds → AreOthers id es fs
alone_others (IsAlone g d t o n) = g

pub alone_members : {id : ℕ} {es fs : List (ℕ × Entry)} {ids jds : Ids} → AloneAt id es ids fs jds → DropsAt id ids jds
alone_members (IsAlone g d t o n) = d

pub own_sent : (x : Option Entry) → is_sent x ≡ true → IsOwnOver x
own_sent x h = WasSent h

over_or : (b : Bool) (x : Own) → cond (b || true) Over x ≡ Over
over_or true x = refl
over_or false x = refl

own_by_ending : (e : Entry) (n : Ending) → e.writing.queue.ending ≡ n → is_open n ≡ false → is_finished n ≡ false
    → own_in (Some e) ≡ Over
own_by_ending e Open h o f = absurd (let bad : true ≡ false = o in cc)
own_by_ending e Finishing h o f = absurd (let bad : true ≡ false = f in cc)
own_by_ending e Finished h o f = absurd (let bad : true ≡ false = f in cc)
own_by_ending e (Resetting n) h o f = rw h (over_or (is_none e.writing.half) (Sends e.writing.queue.put
    (waiting e.writing.queue) (OpenEnd (is_connect e.writing.half))))
own_by_ending e (WasReset n) h o f = rw h (over_or (is_none e.writing.half) (Sends e.writing.queue.put
    (waiting e.writing.queue) (OpenEnd (is_connect e.writing.half))))

-- it was ended by a reset
pub own_was_reset : (e : Entry) → is_open e.writing.queue.ending ≡ false → is_finished e.writing.queue.ending ≡ false
    → IsOwnOver (Some e)
own_was_reset e o f = ByReset (own_by_ending e e.writing.queue.ending refl o f)

pub own_reset : (es : List (ℕ × Entry)) (id : ℕ) → own_at es id ≡ Over → IsOwnOver (entry_at es id)
own_reset es id h = ByReset h

-- a stream changes whose end came, and that is read
pub read_set : (es : List (ℕ × Entry)) (id : ℕ) (e f : Entry) → entry_at es id ≡ Some e
    → is_read_out (Some f) ≡ is_read_out (Some e)
    → is_read_out (entry_at (set_value (is_at (nat_cmp id)) es f) id) ≡ is_read_out (entry_at es id)
read_set es id e f there h =
    ap is_read_out (sets_here id es (set_value (is_at (nat_cmp id)) es f) (Some f) (set_sets es id e f there))
    ∙ (h ∙ sym (ap is_read_out there))

-- ---- streams that are cut

pub cut_shut : (es : List (ℕ × Entry)) (id : ℕ) → IsOwnOver (entry_at es id) → is_over_in (entry_at es id) ≡ true
    → theirs_at es id ≡ Gone → IsCut (entry_at es id)
cut_shut es id own told gone = Shut own told gone

pub cut_read : (es : List (ℕ × Entry)) (id : ℕ) → IsOwnOver (entry_at es id) → is_read_out (entry_at es id) ≡ true
    → IsCut (entry_at es id)
cut_read es id own read = ReadsOut own read

abbrev pub IsFrom : Option ℕ → ℕ → Type 0
IsFrom None k = ⊥
IsFrom (Some id) k = id ≤ k

-- how many IDs there are from the next one on
abbrev pub rest : Option ℕ → ℕ
rest None = 0
rest (Some id) = 2 ^ 64 - id

-- each stream that was noted is cut, or is noted still and comes next or later; and so is each one that is noted now
pub data Cutting (session : ℕ) (ids : Ids) (next : Option ℕ) (fs : List (ℕ × Entry)) (jds : Ids) : Type 0 where
  AreCutting : ((k : ℕ) → is_member ids session k ≡ true
      → IsCut (entry_at fs k) ⊎ ((is_member jds session k ≡ true) × IsFrom next k))
      → ((k : ℕ) → is_member jds session k ≡ true → IsCut (entry_at fs k) ⊎ IsFrom next k)
      → Cutting session ids next fs jds

never : (b : Bool) → b ≡ true → b ≡ false → ⊥
never true h n = let bad : true ≡ false = n in cc
never false h n = let bad : false ≡ true = h in cc

first_by : (session k : ℕ) (ids : Ids) (next : Option ℕ) → IsNextMember ids session None next
    → is_member ids session k ≡ true → IsFrom next k
first_by session k ids None n h = never (is_member ids session k) h (n k tt)
first_by session k ids (Some id) n h = n.2 k tt h

pub cutting_first : (session : ℕ) (ids : Ids) (next : Option ℕ) (es : List (ℕ × Entry)) → IsNextMember ids session None next
    → Cutting session ids next es ids
cutting_first session ids next es n = AreCutting (λ k h. inr (h, first_by session k ids next n h))
    (λ k h. inr (first_by session k ids next n h))

after_by : (session id k : ℕ) (ids : Ids) (next : Option ℕ) → IsNextMember ids session (Some id) next → id < k
    → is_member ids session k ≡ true → IsFrom next k
after_by session id k ids None n l h = never (is_member ids session k) h (n k l)
after_by session id k ids (Some m) n l h = n.2 k l h

apart : (id k : ℕ) → is_at (nat_cmp id) k ≡ false → id ≤ k → id < k
apart id k t l = grind (arith, t, l)

step_by : (b : Bool) (session id k : ℕ) (es fs : List (ℕ × Entry)) (ids jds : Ids) (next : Option ℕ)
    → is_at (nat_cmp id) k ≡ b → AloneAt id es ids fs jds → IsCut (entry_at fs id) → IsNextMember jds session (Some id) next
    → IsCut (entry_at es k) ⊎ ((is_member ids session k ≡ true) × IsFrom (Some id) k)
    → IsCut (entry_at fs k) ⊎ ((is_member jds session k ≡ true) × IsFrom next k)
step_by true session id k es fs ids jds next t g cut n h = inl (subst (λ m. IsCut (entry_at fs m)) (sym (same_at id k t)) cut)
step_by false session id k es fs ids jds next t g cut n (inl h) = inl (subst (λ o. IsCut o) (sym (alone_others g k t)) h)
step_by false session id k es fs ids jds next t g cut n (inr h) =
    let still : is_member jds session k ≡ true = (alone_members g).members session k t ∙ h.0 in
    inr (still, after_by session id k jds next n (apart id k t h.1) still)

still_by : (b : Bool) (session id k : ℕ) (es fs : List (ℕ × Entry)) (ids jds : Ids) (next : Option ℕ)
    → is_at (nat_cmp id) k ≡ b → AloneAt id es ids fs jds → IsCut (entry_at fs id) → IsNextMember jds session (Some id) next
    → (is_member ids session k ≡ true → IsCut (entry_at es k) ⊎ IsFrom (Some id) k)
    → is_member jds session k ≡ true → IsCut (entry_at fs k) ⊎ IsFrom next k
still_by true session id k es fs ids jds next t g cut n h m = inl (subst (λ x. IsCut (entry_at fs x)) (sym (same_at id k t)) cut)
still_by false session id k es fs ids jds next t g cut n h m =
    by (h (sym ((alone_members g).members session k t) ∙ m))
  where
    by : IsCut (entry_at es k) ⊎ IsFrom (Some id) k → IsCut (entry_at fs k) ⊎ IsFrom next k
    by (inl c) = inl (subst (λ o. IsCut o) (sym (alone_others g k t)) c)
    by (inr f) = inr (after_by session id k jds next n (apart id k t f) m)

-- one is cut
pub cutting_next : (session id : ℕ) (start ids jds : Ids) (next : Option ℕ) (es fs : List (ℕ × Entry))
    → Cutting session start (Some id) es ids → AloneAt id es ids fs jds → IsCut (entry_at fs id)
    → IsNextMember jds session (Some id) next → Cutting session start next fs jds
cutting_next session id start ids jds next es fs (AreCutting c m) g cut n = AreCutting
    (λ k h. step_by (is_at (nat_cmp id) k) session id k es fs ids jds next refl g cut n (c k h))
    (λ k h. still_by (is_at (nat_cmp id) k) session id k es fs ids jds next refl g cut n (m k) h)

cut_of : (x : Option Entry) (A : Type 0) → IsCut x ⊎ (A × ⊥) → IsCut x
cut_of x A (inl h) = h
cut_of x A (inr h) = absurd h.1

-- all are
pub cutting_last : (session : ℕ) (ids jds : Ids) (fs : List (ℕ × Entry)) → Cutting session ids None fs jds
    → MembersCut session ids fs
cutting_last session ids jds fs (AreCutting c m) = EachCut (λ k h. cut_of (entry_at fs k) _ (c k h))

-- each stream of a session is noted as one of it
pub cut_joined : (session : ℕ) (es fs : List (ℕ × Entry)) (ids : Ids) → Joined es ids → MembersCut session ids fs
    → AreCut session es fs
cut_joined session es fs ids (EachJoined noted holds) (EachCut c) = AllCut (λ id t h. c id (noted id session h))

over_by_or : (a b : Bool) (x : Own) → (x ≡ Over → ⊥) → cond (a || b) Over x ≡ Over → (a || b) ≡ true
over_by_or true b x not h = refl
over_by_or false true x not h = refl
over_by_or false false x not h = absurd (not h)

reset_past : (e : Ending) → is_reset e ≡ true → is_past e ≡ true
reset_past Open h = absurd (let bad : false ≡ true = h in cc)
reset_past Finishing h = absurd (let bad : false ≡ true = h in cc)
reset_past Finished h = refl
reset_past (Resetting r) h = refl
reset_past (WasReset r) h = refl

taken_past : (e : Ending) → is_taken e ≡ true → is_past e ≡ true
taken_past Open h = absurd (let bad : false ≡ true = h in cc)
taken_past Finishing h = absurd (let bad : false ≡ true = h in cc)
taken_past Finished h = refl
taken_past (Resetting r) h = refl
taken_past (WasReset r) h = refl

done_out : (none : Bool) (w : Writing) → is_none w.half ≡ none → cond none true (is_queue_done w.queue) ≡ true
    → is_out w ≡ true
done_out true w n h = or_left (is_none w.half) (is_past w.queue.ending) n
done_out false w n h = or_right (is_none w.half) (is_past w.queue.ending)
    (taken_past w.queue.ending (and_of (is_taken w.queue.ending) _ h).0)

over_out : (e : Entry) → IsOwnOver (Some e) → is_out e.writing ≡ true
over_out e (ByReset h) = or_by (is_none e.writing.half) (is_reset e.writing.queue.ending) (is_none e.writing.half)
    (is_past e.writing.queue.ending) (λ x. x) (reset_past e.writing.queue.ending)
    (over_by_or (is_none e.writing.half) (is_reset e.writing.queue.ending) _ sends h)
  where
    sends : Sends e.writing.queue.put (waiting e.writing.queue) (end_of e.writing) ≡ Over → ⊥
    sends bad = cc
over_out e (WasSent h) = done_out (is_none e.writing.half) e.writing refl h

ended_of : (p : Peer) (n : Bool) → (is_read p && n) ≡ true → n ≡ true
ended_of peer.Reads n h = h
ended_of peer.Drops n h = absurd (let bad : false ≡ true = h in cc)
ended_of peer.Over n h = absurd (let bad : false ≡ true = h in cc)

-- a stream that is cut is severed
pub cut_severed : (x : Option Entry) → IsCut x → is_severed x ≡ true
cut_severed None c = refl
cut_severed (Some e) (Shut own told gone) = and_both (is_out e.writing) (is_left e) (over_out e own)
    (or_left (is_told_over e.told && is_unread e.peer e.is_decoder) e.is_ended
    (and_both (is_told_over e.told) (is_unread e.peer e.is_decoder) told (gone_by e.peer e.is_decoder e.reading gone)))
cut_severed (Some e) (ReadsOut own read) = and_both (is_out e.writing) (is_left e) (over_out e own)
    (or_right (is_told_over e.told && is_unread e.peer e.is_decoder) e.is_ended (ended_of e.peer e.is_ended read))

cut_only : (x : Option Entry) → IsCut x ⊎ ⊥ → IsCut x
cut_only x (inl h) = h
cut_only x (inr h) = absurd h

-- all streams of the session are, once all that are noted are cut
pub cutting_severed : (session : ℕ) (ids jds : Ids) (fs : List (ℕ × Entry)) → Cutting session ids None fs jds
    → Joined fs jds → AreSevered session fs
cutting_severed session ids jds fs (AreCutting c m) (EachJoined noted holds) = EachSevered
    (λ k t h. cut_severed (entry_at fs k) (cut_only (entry_at fs k) (m k (noted k session h))))

-- only of its own stream something changes
pub severed_alone : {session : ℕ} {es fs : List (ℕ × Entry)} {ids jds : Ids} → AloneAt session es ids fs jds
    → AreSevered session es → AreSevered session fs
severed_alone g (EachSevered c) = EachSevered (λ k t h. ap is_severed (alone_others g k t)
    ∙ c k t (sym (ap session_in (alone_others g k t)) ∙ h))

-- and then only of its own stream something changes
pub cut_then : {session : ℕ} {es fs gs : List (ℕ × Entry)} {ids jds : Ids} → AreCut session es fs
    → AloneAt session fs ids gs jds → AreCut session es gs
cut_then (AllCut c) g = AllCut
    (λ id t h. subst (λ o. IsCut o) (sym (alone_others g id t)) (c id t h))

-- or did before
pub cut_after : (session : ℕ) (es ms fs : List (ℕ × Entry)) → AreOthers session es ms → AreCut session ms fs
    → AreCut session es fs
cut_after session es ms fs others (AllCut c) = AllCut (λ id t h. c id t (ap session_in (others id t) ∙ h))

changes_by : (o : Option Entry) (c d : Connection) (id : ℕ) (How : Writing → Writing → Type 0) → stream_at c id ≡ o
    → Of o (λ e. (w : Writing) × How e.writing w
    × (view_of d ≡ with_stream (view_of c) id (record e { writing = w })))
    → AreOthers id c.streams.entries d.streams.entries
changes_by None c d id How there h = absurd h
changes_by (Some e) c d id How there h = λ k t.
    ap (λ v. entry_at v.streams k) h.2
    ∙ (set_sets c.streams.entries id e (record e { writing = h.0 }) there k
    ∙ ap (λ b. cond b (Some (record e { writing = h.0 })) (entry_at c.streams.entries k)) t)

-- of another stream than this nothing changes
pub changes_others : (c d : Connection) (id : ℕ) (How : Writing → Writing → Type 0) → Changes id How c d
    → AreOthers id c.streams.entries d.streams.entries
changes_others c d id How h = changes_by (stream_at c id) c d id How refl h

-- ---- what is not cut

pub not_sending : (e : Entry) (put : ℕ) (waits : List ℕ) (end : End) → own_in (Some e) ≡ Sends put waits end
    → is_sent (Some e) ≡ false → IsCut (Some e) → ⊥
not_sending e put waits end sends not (Shut own told gone) = own_not own
  where
    own_not : IsOwnOver (Some e) → ⊥
    own_not (ByReset h) = let bad : Over ≡ Sends put waits end = sym h ∙ sends in cc
    own_not (WasSent h) = let bad : true ≡ false = sym h ∙ not in cc
not_sending e put waits end sends not (ReadsOut own read) = own_not own
  where
    own_not : IsOwnOver (Some e) → ⊥
    own_not (ByReset h) = let bad : Over ≡ Sends put waits end = sym h ∙ sends in cc
    own_not (WasSent h) = let bad : true ≡ false = sym h ∙ not in cc

pub not_known : (e : Entry) → e.told ≡ told.Known → is_read_out (Some e) ≡ false → IsCut (Some e) → ⊥
not_known e known not (Shut own over gone) =
    let bad : false ≡ true = sym (ap is_told_over known) ∙ over in cc
not_known e known not (ReadsOut own read) = let bad : true ≡ false = sym read ∙ not in cc

pub not_read : (e : Entry) (bytes : List ℕ) (ended : Bool) (at : Stream) → theirs_in (Some e) ≡ Unread bytes ended at
    → is_read_out (Some e) ≡ false → IsCut (Some e) → ⊥
not_read e bytes ended at reads not (Shut own over gone) = let bad : Gone ≡ Unread bytes ended at = sym gone ∙ reads in cc
not_read e bytes ended at reads not (ReadsOut own read) = let bad : true ≡ false = sym read ∙ not in cc

pub none_cut : IsCut None
none_cut = Shut (ByReset refl) refl refl

-- ---- what is so of a result

pub on_ok_is : {A E : Type 0} (r : Result A E) (P : Type 0) → P → OnOk r P
on_ok_is (Ok a) P p = p
on_ok_is (Err e) P p = tt

pub on_err_is : {A E : Type 0} (r : Result A E) (P : Type 0) → P → OnErr r P
on_err_is (Ok a) P p = tt
on_err_is (Err e) P p = p

-- ---- what QUIC is asked

pub asks_refl : (id code : ℕ) (os : List Output) → Asks id code os os
asks_refl id code os = AsksNothing

pub asks_trans : (id code : ℕ) (os rs ts : List Output) → Asks id code os rs → Asks id code rs ts → Asks id code os ts
asks_trans id code os rs ts g AsksNothing = g
asks_trans id code os rs ts g (AsksMore o h e) = AsksMore o (asks_trans id code os rs _ g h) e

itself : (a b : ℕ) → (a == a && b == b) ≡ true
itself a b = grind arith

same : (a : ℕ) → (a == a) ≡ true
same a = grind arith

pub asks_reset : (id code : ℕ) (os rs : List Output) → rs ≡ os ++ (output.Reset id code ∷ []) → Asks id code os rs
asks_reset id code os rs h = rw h (AsksMore (output.Reset id code) AsksNothing (itself id code))

pub asks_stop : (id code : ℕ) (os rs : List Output) → rs ≡ os ++ (output.StopSending id code ∷ []) → Asks id code os rs
asks_stop id code os rs h = rw h (AsksMore (output.StopSending id code) AsksNothing (itself id code))

pub asks_credit : (id code len : ℕ) (os rs : List Output) → rs ≡ os ++ (output.Credit id len ∷ []) → Asks id code os rs
asks_credit id code len os rs h = rw h (AsksMore (output.Credit id len) AsksNothing (same id))

-- one that was queued is taken back
pub popped_same : (x : Output) (os rs ts : List Output) → rs ≡ os ++ (x ∷ []) → ts ≡ take (length rs - 1) rs → ts ≡ os
popped_same x os rs ts h g =
    let len : length rs - 1 ≡ length os = rw (h, length-append os (x ∷ [])) (omega arith) in
    g ∙ (ap (λ n. take n rs) len ∙ (ap (λ l. take (length os) l) h ∙ take-append_seam os (x ∷ [])))

pub asks_popped : (id code : ℕ) (x : Output) (os rs ts : List Output) → rs ≡ os ++ (x ∷ []) → ts ≡ take (length rs - 1) rs
    → Asks id code os ts
asks_popped id code x os rs ts h g = rw (popped_same x os rs ts h g) AsksNothing

-- ---- sets for tactics

-- to show that a step is about one stream
pub ruleset alone = (alone_refl, alone_trans, alone_set)

-- what follows from it
pub ruleset stays = (alone_own, alone_told)

-- to show what QUIC is asked
pub ruleset asks = (asks_refl, asks_trans)
