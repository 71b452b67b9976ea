-- The streams that joined a session.
use Rattle.std.proofs.Common.{length, ◌≡◌, ◌⊎◌, ◌==◌, ◌&&◌, ◌||◌, ◌-◌, not, ℕ, List, [], Option, Some, None, Bool, true, false, cond, refl, arith, inl, inr, sym, ap, subst, ◌∙◌}
use Rattle.std.specs.Prelude.{is_some, Ok, nat_lt, min, ◌^◌, if◌then◌else◌}
use Rattle.std.specs.Ordering.{nat_cmp}
use Rattle.std.specs.Map.{set_value}
use Rattle.std.specs.BTreeMap.{is_at}
use Rattle.std.proofs.lemmas.Map.{lookup-set_value}
use Rattle.std.proofs.lemmas.Cmp.{eq_by_cmp_equiv, nat_cmp_total}
use Rattle.vesgrauf_queue.specs.declared.ending.Ending.TheVariants as ending
use Rattle.vesgrauf_stream.specs.declared.reading.Reading.{Reading}
use Rattle.vesgrauf_stream.specs.declared.writing.half.Half.TheVariants as half
use Rattle.vesgrauf_stream.specs.Writing.{is_none}
use Rattle.vesgrauf_streams.specs.Streams.{Streams, Updates}
use Rattle.wtp_connection.specs.declared.connection.Known.{Known}
use Rattle.wtp_connection.specs.declared.connection.Known.TheVariants as known
use Rattle.wtp_webtransport.specs.Sessions.{known_of}
use Rattle.wtp_webtransport.specs.declared.stream.Stream.{Stream}
use Rattle.vesgrauf.specs.declared.connection.Connection.{Connection}
use Rattle.vesgrauf.specs.declared.connection.ids.Ids.{Ids}
use Rattle.vesgrauf.specs.declared.entry.Entry.{Entry}
use Rattle.vesgrauf.specs.declared.entry.Peer.{Peer}
use Rattle.vesgrauf.specs.declared.entry.Peer.TheVariants as peer
use Rattle.vesgrauf.specs.declared.entry.Told.TheVariants as told
use Rattle.vesgrauf.specs.declared.output.StreamKind.{StreamKind}
use Rattle.vesgrauf.specs.declared.output.StreamKind.TheVariants as kind
use Rattle.vesgrauf.specs.declared.refused.Refused.{Refused}
use Rattle.vesgrauf.specs.Ids.{next_own, next_peer, unopened, taken, seen, opened as opened_ids, blocked}
use Rattle.vesgrauf.specs.Joined.{Joined, EachJoined, AreSevered, EachSevered, holds_in, is_out, is_past, is_unread, is_left, is_severed, Joined-prop}
use Rattle.vesgrauf.specs.Limits.{FewWait, FewWait-prop, Within, Within-prop}
use Rattle.vesgrauf.specs.Members.{IsNextMember, is_member, is_noted, is_same_stream, session_in, Notes, Drops}
use Rattle.vesgrauf.specs.Own.{Over, entry_at}
use Rattle.vesgrauf.specs.Places.{Ordered, Ordered-prop}
use Rattle.vesgrauf.specs.State.{known_by, is_over, known_in, open_session, stream_at, unless_over}
use Rattle.vesgrauf.specs.Streams.{is_told_over}
use Rattle.vesgrauf.specs.Theirs.{Gone, Unread, theirs_by, theirs_in}
use Rattle.vesgrauf.proofs.OrderLemmas.{gone_not_open, open_by as is_open_by}
use Rattle.vesgrauf.proofs.SeveredLemmas.{IsStill, Stays, and_of, left_as, never, or_by, or_left, or_of, or_right, out_same, severed_by, stays_half, stays_same}

-- ---- all streams

at_id : (id k : ℕ) → is_at (nat_cmp id) k ≡ true → k ≡ id
at_id id k h = grind (arith, h)

set_at : (es : List (ℕ × Entry)) (id : ℕ) (e f : Entry) → entry_at es id ≡ Some e → (k : ℕ)
    → entry_at (set_value (is_at (nat_cmp id)) es f) k ≡ cond (is_at (nat_cmp id) k) (Some f) (entry_at es k)
set_at es id e f h k = lookup-set_value (eq_by_cmp_equiv nat_cmp_total) (is_at (nat_cmp id))
    (λ x y at. rw (at_id id x at) refl) k f es (rw h refl)

-- this stream is another one, or nothing changes
data Moved (x w : Option Entry) (y z : Option Entry) : Type 0 where
  Here : y ≡ x → z ≡ w → Moved x w y z
  There : z ≡ y → Moved x w y z

moved_at : (es fs : List (ℕ × Entry)) (id : ℕ) (w : Option Entry)
    → ((k : ℕ) → entry_at fs k ≡ cond (is_at (nat_cmp id) k) w (entry_at es k))
    → (k : ℕ) → Moved (entry_at es id) w (entry_at es k) (entry_at fs k)
moved_at es fs id w sets k = by (is_at (nat_cmp id) k) refl
  where
    by : (b : Bool) → is_at (nat_cmp id) k ≡ b → Moved (entry_at es id) w (entry_at es k) (entry_at fs k)
    by true h = Here (ap (λ n. entry_at es n) (at_id id k h)) (sets k ∙ ap (λ b. cond b w (entry_at es k)) h)
    by false h = There (sets k ∙ ap (λ b. cond b w (entry_at es k)) h)

moved_session : (x w y z : Option Entry) → Moved x w y z → session_in w ≡ session_in x → session_in z ≡ session_in y
moved_session x w y z (Here a b) h = ap session_in b ∙ (h ∙ sym (ap session_in a))
moved_session x w y z (There a) h = ap session_in a

moved_holds : (x w y z : Option Entry) → Moved x w y z → (holds_in x ≡ true → holds_in w ≡ true)
    → holds_in y ≡ true → holds_in z ≡ true
moved_holds x w y z (Here a b) h g = ap holds_in b ∙ h (sym (ap holds_in a) ∙ g)
moved_holds x w y z (There a) h g = ap holds_in a ∙ g

moved_severed : (x w y z : Option Entry) → Moved x w y z → (is_severed x ≡ true → is_severed w ≡ true)
    → is_severed y ≡ true → is_severed z ≡ true
moved_severed x w y z (Here a b) h g = ap is_severed b ∙ h (sym (ap is_severed a) ∙ g)
moved_severed x w y z (There a) h g = ap is_severed a ∙ g

joined_map : (es fs : List (ℕ × Entry)) (ids : Ids)
    → ((k : ℕ) → session_in (entry_at fs k) ≡ session_in (entry_at es k))
    → ((k : ℕ) → holds_in (entry_at es k) ≡ true → holds_in (entry_at fs k) ≡ true)
    → ((k : ℕ) → is_severed (entry_at es k) ≡ true → is_severed (entry_at fs k) ≡ true)
    → Joined es ids → Joined fs ids
joined_map es fs ids of holds severed (EachJoined l a) = EachJoined (λ k s h. l k s (sym (of k) ∙ h))
    (λ k s t h. or_by (holds_in (entry_at es s)) (is_severed (entry_at es k)) (holds_in (entry_at fs s))
    (is_severed (entry_at fs k)) (holds s) (severed k) (a k s t (sym (of k) ∙ h)))

-- a stream changes, of the same session
pub joined_stays : (es : List (ℕ × Entry)) (ids : Ids) (id : ℕ) (e f : Entry) → entry_at es id ≡ Some e → Stays e f
    → Joined es ids → Joined (set_value (is_at (nat_cmp id)) es f) ids
joined_stays es ids id e f at (IsStill s h v) g = joined_map es (set_value (is_at (nat_cmp id)) es f) ids
    (λ k. moved_session (entry_at es id) (Some f) (entry_at es k) _ (moved k) (s ∙ sym (ap session_in at)))
    (λ k. moved_holds (entry_at es id) (Some f) (entry_at es k) _ (moved k) (λ x. h ∙ (sym (ap holds_in at) ∙ x)))
    (λ k. moved_severed (entry_at es id) (Some f) (entry_at es k) _ (moved k) (λ x. v (sym (ap is_severed at) ∙ x))) g
  where
    moved : (k : ℕ) → Moved (entry_at es id) (Some f) (entry_at es k) (entry_at (set_value (is_at (nat_cmp id)) es f) k)
    moved k = moved_at es (set_value (is_at (nat_cmp id)) es f) id (Some f) (set_at es id e f at) k

-- its session counts from now on
pub joined_holds : (es : List (ℕ × Entry)) (ids : Ids) (id : ℕ) (e f : Entry) → entry_at es id ≡ Some e
    → f.has_session ≡ true → f.session ≡ e.session → f.writing ≡ e.writing → f.told ≡ e.told → f.peer ≡ e.peer
    → f.is_decoder ≡ e.is_decoder → f.is_ended ≡ e.is_ended
    → Joined es ids → Joined (set_value (is_at (nat_cmp id)) es f) ids
joined_holds es ids id e f at has s w t p d n g = joined_map es (set_value (is_at (nat_cmp id)) es f) ids
    (λ k. moved_session (entry_at es id) (Some f) (entry_at es k) _ (moved k) (s ∙ sym (ap session_in at)))
    (λ k. moved_holds (entry_at es id) (Some f) (entry_at es k) _ (moved k) (λ x. has))
    (λ k. moved_severed (entry_at es id) (Some f) (entry_at es k) _ (moved k)
    (λ x. severed_by e f (out_same e.writing f.writing w) (λ l. left_as e f t p d n l) (sym (ap is_severed at) ∙ x))) g
  where
    moved : (k : ℕ) → Moved (entry_at es id) (Some f) (entry_at es k) (entry_at (set_value (is_at (nat_cmp id)) es f) k)
    moved k = moved_at es (set_value (is_at (nat_cmp id)) es f) id (Some f) (set_at es id e f at) k

none_some : (x : Option ℕ) (s : ℕ) → x ≡ None → x ≡ Some s → ⊥
none_some x s h g = let bad : None ≡ Some s = sym h ∙ g in cc

-- a stream is there, or is gone, that is of no session, and no own stream of one that has streams
joined_plain : (es fs : List (ℕ × Entry)) (ids : Ids) (id : ℕ) (w : Option Entry)
    → ((k : ℕ) → entry_at fs k ≡ cond (is_at (nat_cmp id) k) w (entry_at es k))
    → session_in w ≡ None → AreSevered id es → Joined es ids → Joined fs ids
joined_plain es fs ids id w sets of (EachSevered c) (EachJoined l a) = EachJoined
    (λ k s h. by_noted k s (moved k) h) (λ k s t h. by_holds k s t (moved k) h)
  where
    moved : (k : ℕ) → Moved (entry_at es id) w (entry_at es k) (entry_at fs k)
    moved k = moved_at es fs id w sets k

    by_noted : (k s : ℕ) → Moved (entry_at es id) w (entry_at es k) (entry_at fs k)
        → session_in (entry_at fs k) ≡ Some s → is_member ids s k ≡ true
    by_noted k s (Here x y) h = absurd (none_some (session_in (entry_at fs k)) s (ap session_in y ∙ of) h)
    by_noted k s (There x) h = l k s (sym (ap session_in x) ∙ h)

    by_holds : (k s : ℕ) → is_at (nat_cmp s) k ≡ false → Moved (entry_at es id) w (entry_at es k) (entry_at fs k)
        → session_in (entry_at fs k) ≡ Some s → (holds_in (entry_at fs s) || is_severed (entry_at fs k)) ≡ true
    by_holds k s t (Here x y) h = absurd (none_some (session_in (entry_at fs k)) s (ap session_in y ∙ of) h)
    by_holds k s t (There x) h = by_session k s t x (sym (ap session_in x) ∙ h) (is_at (nat_cmp id) s) refl
      where
        by_session : (k s : ℕ) → is_at (nat_cmp s) k ≡ false → entry_at fs k ≡ entry_at es k
            → session_in (entry_at es k) ≡ Some s → (b : Bool) → is_at (nat_cmp id) s ≡ b
            → (holds_in (entry_at fs s) || is_severed (entry_at fs k)) ≡ true
        by_session k s t x h true u = or_right (holds_in (entry_at fs s)) (is_severed (entry_at fs k))
            (ap is_severed x ∙ c k (subst (λ n. is_at (nat_cmp n) k ≡ false) (at_id id s u) t)
            (subst (λ n. session_in (entry_at es k) ≡ Some n) (at_id id s u) h))
        by_session k s t x h false u = or_by (holds_in (entry_at es s)) (is_severed (entry_at es k))
            (holds_in (entry_at fs s)) (is_severed (entry_at fs k))
            (λ g. ap holds_in (sets s ∙ ap (λ b. cond b w (entry_at es s)) u) ∙ g)
            (λ g. ap is_severed x ∙ g) (a k s t h)

-- each stream of a session that does not count is severed
pub joined_severed : (es : List (ℕ × Entry)) (ids : Ids) (session : ℕ) → holds_in (entry_at es session) ≡ false → Joined es ids
    → AreSevered session es
joined_severed es ids session over (EachJoined l a) = EachSevered (λ k t h. by (or_of (holds_in (entry_at es session))
    (is_severed (entry_at es k)) (a k session t h)))
  where
    by : {A : Type 0} → (holds_in (entry_at es session) ≡ true) ⊎ A → A
    by (inl h) = absurd (never (holds_in (entry_at es session)) h over)
    by (inr h) = h

-- and so is each of a session as one of which none is noted
pub unnoted_severed : (es : List (ℕ × Entry)) (ids : Ids) (session : ℕ) (first : Option ℕ) (b : Bool)
    → IsNextMember ids session None first → is_some first ≡ not b → b ≡ true → Joined es ids → AreSevered session es
unnoted_severed es ids session None b next some none (EachJoined l a) = EachSevered
    (λ k t h. absurd (never (is_member ids session k) (l k session h) (next k tt)))
unnoted_severed es ids session (Some id) b next some none g = absurd (never true refl (some ∙ ap (λ x. not x) none))

-- a stream is removed that is no own stream of a session that has streams
pub joined_removed : (m n : Streams Entry) (ids : Ids) (id : ℕ) → AreSevered id m.entries → Updates m n id None
    → Joined m.entries ids → Joined n.entries ids
joined_removed m n ids id severed u g = joined_plain m.entries n.entries ids id None u.0 refl severed g

-- a stream is new that is of no session
pub joined_new : (m n : Streams Entry) (ids : Ids) (id : ℕ) (f : Entry) → entry_at m.entries id ≡ None
    → f.session ≡ None → Updates m n id (Some f) → Joined m.entries ids → Joined n.entries ids
joined_new m n ids id f at of u g = joined_plain m.entries n.entries ids id (Some f) u.0 of
    (joined_severed m.entries ids id (ap holds_in at) g) g

-- one is put in the place of one whose session did not count
pub joined_put : (m n : Streams Entry) (ids : Ids) (id : ℕ) (f : Entry) → holds_in (entry_at m.entries id) ≡ false
    → f.session ≡ None → Updates m n id (Some f) → Joined m.entries ids → Joined n.entries ids
joined_put m n ids id f free of u g = joined_plain m.entries n.entries ids id (Some f) u.0 of
    (joined_severed m.entries ids id free g) g

no_holds : (x y : Option Entry) → holds_in x ≡ false → holds_in x ≡ true → holds_in y ≡ true
no_holds x y h g = absurd (never (holds_in x) g h)

same_some : (a b : ℕ) → Some a ≡ Some b → a ≡ b
same_some a b h = cc

apart : (a b : ℕ) → is_at (nat_cmp a) b ≡ false → is_at (nat_cmp b) a ≡ false
apart a b h = grind (arith, h)

-- a stream is one of a session that counts, as one of which it was noted
joined_into : (es fs : List (ℕ × Entry)) (ids : Ids) (id s : ℕ) (w : Option Entry)
    → ((k : ℕ) → entry_at fs k ≡ cond (is_at (nat_cmp id) k) w (entry_at es k))
    → session_in w ≡ Some s → (holds_in (entry_at es id) ≡ true → holds_in w ≡ true)
    → is_member ids s id ≡ true → holds_in (entry_at es s) ≡ true → Joined es ids → Joined fs ids
joined_into es fs ids id s w sets of keeps member holds (EachJoined l a) = EachJoined
    (λ k n h. by_noted (is_at (nat_cmp id) k) k n refl h)
    (λ k n t h. by_holds (is_at (nat_cmp id) k) k n t refl h)
  where
    here : (k : ℕ) → is_at (nat_cmp id) k ≡ true → entry_at fs k ≡ w
    here k t = sets k ∙ ap (λ b. cond b w (entry_at es k)) t

    there : (k : ℕ) → is_at (nat_cmp id) k ≡ false → entry_at fs k ≡ entry_at es k
    there k t = sets k ∙ ap (λ b. cond b w (entry_at es k)) t

    its : (k n : ℕ) → is_at (nat_cmp id) k ≡ true → session_in (entry_at fs k) ≡ Some n → s ≡ n
    its k n t h = same_some s n (sym (ap session_in (here k t) ∙ of) ∙ h)

    by_noted : (b : Bool) (k n : ℕ) → is_at (nat_cmp id) k ≡ b → session_in (entry_at fs k) ≡ Some n
        → is_member ids n k ≡ true
    by_noted true k n t h = subst (λ m. is_member ids m k ≡ true) (its k n t h)
        (subst (λ m. is_member ids s m ≡ true) (sym (at_id id k t)) member)
    by_noted false k n t h = l k n (sym (ap session_in (there k t)) ∙ h)

    holds_on : (n : ℕ) → holds_in (entry_at es n) ≡ true → holds_in (entry_at fs n) ≡ true
    holds_on n h = moved_holds (entry_at es id) w (entry_at es n) (entry_at fs n) (moved_at es fs id w sets n) keeps h

    by_holds : (b : Bool) (k n : ℕ) → is_at (nat_cmp n) k ≡ false → is_at (nat_cmp id) k ≡ b
        → session_in (entry_at fs k) ≡ Some n → (holds_in (entry_at fs n) || is_severed (entry_at fs k)) ≡ true
    by_holds true k n t at h = or_left (holds_in (entry_at fs n)) (is_severed (entry_at fs k))
        (subst (λ m. holds_in (entry_at fs m) ≡ true) (its k n at h) (holds_on s holds))
    by_holds false k n t at h = or_by (holds_in (entry_at es n)) (is_severed (entry_at es k)) (holds_in (entry_at fs n))
        (is_severed (entry_at fs k)) (holds_on n) (λ g. ap is_severed (there k at) ∙ g)
        (a k n t (sym (ap session_in (there k at)) ∙ h))

pub joined_member : (m n : Streams Entry) (ids : Ids) (id s : ℕ) (f : Entry) → entry_at m.entries id ≡ None
    → f.session ≡ Some s → is_member ids s id ≡ true → holds_in (entry_at m.entries s) ≡ true
    → Updates m n id (Some f) → Joined m.entries ids → Joined n.entries ids
joined_member m n ids id s f at of member holds u g = joined_into m.entries n.entries ids id s (Some f) u.0 of
    (no_holds (entry_at m.entries id) (Some f) (ap holds_in at)) member holds g

pub joined_joins : (es : List (ℕ × Entry)) (ids : Ids) (id s : ℕ) (e f : Entry) → entry_at es id ≡ Some e
    → f.session ≡ Some s → f.has_session ≡ e.has_session → is_member ids s id ≡ true → holds_in (entry_at es s) ≡ true
    → Joined es ids → Joined (set_value (is_at (nat_cmp id)) es f) ids
joined_joins es ids id s e f at of has member holds g = joined_into es (set_value (is_at (nat_cmp id)) es f) ids id s (Some f)
    (set_at es id e f at) of (λ h. has ∙ (sym (ap holds_in at) ∙ h)) member holds g

-- its session does not count any more, whose streams are severed
pub joined_over : (es : List (ℕ × Entry)) (ids : Ids) (id : ℕ) (e f : Entry) → entry_at es id ≡ Some e
    → AreSevered id es → f.session ≡ e.session → f.writing ≡ e.writing → f.told ≡ e.told → f.peer ≡ e.peer
    → f.is_decoder ≡ e.is_decoder → f.is_ended ≡ e.is_ended
    → Joined es ids → Joined (set_value (is_at (nat_cmp id)) es f) ids
joined_over es ids id e f at (EachSevered c) its w u p d n (EachJoined l a) = EachJoined
    (λ k s h. l k s (sym (of k) ∙ h)) (λ k s t h. by_holds (is_at (nat_cmp id) s) k s t refl (sym (of k) ∙ h))
  where
    moved : (k : ℕ) → Moved (entry_at es id) (Some f) (entry_at es k) (entry_at (set_value (is_at (nat_cmp id)) es f) k)
    moved k = moved_at es (set_value (is_at (nat_cmp id)) es f) id (Some f) (set_at es id e f at) k

    of : (k : ℕ) → session_in (entry_at (set_value (is_at (nat_cmp id)) es f) k) ≡ session_in (entry_at es k)
    of k = moved_session (entry_at es id) (Some f) (entry_at es k) _ (moved k)
        (its ∙ sym (ap session_in at))

    severed : (k : ℕ) → is_severed (entry_at es k) ≡ true
        → is_severed (entry_at (set_value (is_at (nat_cmp id)) es f) k) ≡ true
    severed k h = moved_severed (entry_at es id) (Some f) (entry_at es k) _ (moved k)
        (λ x. severed_by e f (out_same e.writing f.writing w) (λ y. left_as e f u p d n y) (sym (ap is_severed at) ∙ x)) h

    there : (k : ℕ) → is_at (nat_cmp id) k ≡ false
        → entry_at (set_value (is_at (nat_cmp id)) es f) k ≡ entry_at es k
    there k t = set_at es id e f at k ∙ ap (λ b. cond b (Some f) (entry_at es k)) t

    by_holds : (b : Bool) (k s : ℕ) → is_at (nat_cmp s) k ≡ false → is_at (nat_cmp id) s ≡ b
        → session_in (entry_at es k) ≡ Some s
        → (holds_in (entry_at (set_value (is_at (nat_cmp id)) es f) s)
        || is_severed (entry_at (set_value (is_at (nat_cmp id)) es f) k)) ≡ true
    by_holds true k s t u h = or_right (holds_in (entry_at (set_value (is_at (nat_cmp id)) es f) s))
        (is_severed (entry_at (set_value (is_at (nat_cmp id)) es f) k))
        (severed k (c k (subst (λ n. is_at (nat_cmp n) k ≡ false) (at_id id s u) t)
        (subst (λ n. session_in (entry_at es k) ≡ Some n) (at_id id s u) h)))
    by_holds false k s t u h = or_by (holds_in (entry_at es s)) (is_severed (entry_at es k))
        (holds_in (entry_at (set_value (is_at (nat_cmp id)) es f) s))
        (is_severed (entry_at (set_value (is_at (nat_cmp id)) es f) k))
        (λ x. ap holds_in (there s u) ∙ x) (severed k) (a k s t h)

pub joined_none : (ids : Ids) → Joined [] ids
joined_none ids = EachJoined (λ k s h. absurd (none_some None s refl h)) (λ k s t h. absurd (none_some None s refl h))

pub holds_none : (o : Option Entry) → o ≡ None → holds_in o ≡ false
holds_none o h = ap holds_in h

pub holds_not : (o : Option Entry) (e : Entry) → o ≡ Some e → e.has_session ≡ false → holds_in o ≡ false
holds_not o e h free = ap holds_in h ∙ free

pub holds_set : (es : List (ℕ × Entry)) (id : ℕ) (e f : Entry) → entry_at es id ≡ Some e → f.has_session ≡ false
    → holds_in (entry_at (set_value (is_at (nat_cmp id)) es f) id) ≡ false
holds_set es id e f there free = ap holds_in (set_at es id e f there id ∙ ap (λ b. cond b (Some f) (entry_at es id)) (itself id)) ∙ free
  where
    itself : (n : ℕ) → is_at (nat_cmp n) n ≡ true
    itself n = grind arith

-- ---- what is noted

joined_noting : (es : List (ℕ × Entry)) (ids jds : Ids)
    → ((id s : ℕ) → session_in (entry_at es id) ≡ Some s → is_member ids s id ≡ true → is_member jds s id ≡ true)
    → Joined es ids → Joined es jds
joined_noting es ids jds noted (EachJoined l a) = EachJoined (λ k s h. noted k s h (l k s h)) a

pub joined_noted : (es : List (ℕ × Entry)) (ids jds : Ids) (session id : ℕ) → Notes session id ids jds
    → Joined es ids → Joined es jds
joined_noted es ids jds session id n g = joined_noting es ids jds
    (λ k s h m. n.members s k ∙ or_right (is_same_stream session id s k) (is_member ids s k) m) g

same_id : (m n : ℕ) → (m == n) ≡ true → n ≡ m
same_id m n h = grind (arith, h)

-- one of which there is no entry is not noted any more
pub joined_dropped : (es : List (ℕ × Entry)) (ids jds : Ids) (session id : ℕ) → entry_at es id ≡ None
    → Drops session id ids jds → Joined es ids → Joined es jds
joined_dropped es ids jds session id none n g = joined_noting es ids jds (λ k s h m. by k s h m (id == k) refl) g
  where
    apart_by : (a b m : Bool) → b ≡ false → m ≡ true → (not (a && b) && m) ≡ true
    apart_by true true m h t = absurd (let bad : true ≡ false = h in cc)
    apart_by true false m h t = t
    apart_by false b m h t = t

    by : (k s : ℕ) → session_in (entry_at es k) ≡ Some s → is_member ids s k ≡ true → (b : Bool) → (id == k) ≡ b
        → is_member jds s k ≡ true
    by k s h m true t = absurd (none_some (session_in (entry_at es k)) s
        (ap (λ i. session_in (entry_at es i)) (same_id id k t) ∙ ap session_in none) h)
    by k s h m false t = n.members s k ∙ apart_by (session == s) (id == k) (is_member ids s k) t m

joined_as : (es : List (ℕ × Entry)) (ids jds : Ids) → jds.members ≡ ids.members → Joined es ids → Joined es jds
joined_as es ids jds h g = joined_noting es ids jds
    (λ k s at m. ap (λ x. is_noted x.keys (record { session = s; id = k })) h ∙ m) g

taken_same : (b : Bool) (k : StreamKind) (ids : Ids) → (cond b (taken ids k) ids).members ≡ ids.members
taken_same true kind.Bidirectional ids = refl
taken_same true kind.Unidirectional ids = refl
taken_same false k ids = refl

pub joined_taken : (es : List (ℕ × Entry)) (ids jds : Ids) (k : StreamKind)
    → jds ≡ (if nat_lt (next_own ids k) (2 ^ 62) then taken ids k else ids) → Joined es ids → Joined es jds
joined_taken es ids jds k h g = joined_as es ids jds
    (ap (λ i. i.members) h ∙ taken_same (nat_lt (next_own ids k) (2 ^ 62)) k ids) g

seen_same : (b : Bool) (k : StreamKind) (ids : Ids) → (cond b (seen ids k) ids).members ≡ ids.members
seen_same true kind.Bidirectional ids = refl
seen_same true kind.Unidirectional ids = refl
seen_same false k ids = refl

pub joined_seen : (es : List (ℕ × Entry)) (ids jds : Ids) (k : StreamKind)
    → jds ≡ (if nat_lt (next_peer ids k) (2 ^ 62) then seen ids k else ids) → Joined es ids → Joined es jds
joined_seen es ids jds k h g = joined_as es ids jds
    (ap (λ i. i.members) h ∙ seen_same (nat_lt (next_peer ids k) (2 ^ 62)) k ids) g

opened_same : (b : Bool) (k : StreamKind) (ids : Ids) → (cond b (opened_ids ids k) ids).members ≡ ids.members
opened_same true kind.Bidirectional ids = refl
opened_same true kind.Unidirectional ids = refl
opened_same false k ids = refl

pub joined_opened : (es : List (ℕ × Entry)) (ids jds : Ids) (k : StreamKind)
    → jds ≡ (if nat_lt (unopened ids k) (min (next_own ids k) (2 ^ 62)) then opened_ids ids k else ids)
    → Joined es ids → Joined es jds
joined_opened es ids jds k h g = joined_as es ids jds
    (ap (λ i. i.members) h ∙ opened_same (nat_lt (unopened ids k) (min (next_own ids k) (2 ^ 62))) k ids) g

blocked_same : (k : StreamKind) (ids : Ids) (b : Bool) → (blocked ids k b).members ≡ ids.members
blocked_same kind.Bidirectional ids b = refl
blocked_same kind.Unidirectional ids b = refl

pub joined_blocked : (es : List (ℕ × Entry)) (ids jds : Ids) (k : StreamKind) (b : Bool) → jds ≡ blocked ids k b
    → Joined es ids → Joined es jds
joined_blocked es ids jds k b h g = joined_as es ids jds (ap (λ i. i.members) h ∙ blocked_same k ids b) g

-- ---- what follows

unless_open : (b : Bool) (k : Known) → unless_over b k ≡ known.Open → b ≡ true
unless_open true k h = refl
unless_open false known.Open h = absurd (let bad : known.Over ≡ known.Open = h in cc)
unless_open false known.Coming h = absurd (let bad : known.Coming ≡ known.Open = h in cc)
unless_open false known.Over h = absurd (let bad : known.Over ≡ known.Open = h in cc)
unless_open false known.Refused h = absurd (let bad : known.Refused ≡ known.Open = h in cc)
unless_open false known.Other h = absurd (let bad : known.Other ≡ known.Open = h in cc)
unless_open false known.Impossible h = absurd (let bad : known.Impossible ≡ known.Open = h in cc)

open_by : (o : Option Entry) (c : Connection) (session : ℕ) → stream_at c session ≡ o → open_session c session ≡ Ok tt
    → holds_in o ≡ true
open_by None c session there h = absurd (gone_not_open c session there h)
open_by (Some e) c session there h = unless_open e.has_session (known_of c.shared e.reading.stream)
    (subst (λ o. known_by o c session ≡ known.Open) there (is_open_by (is_over c) (known_in c session) h))

-- a session that is open counts
pub open_holds : (c : Connection) (session : ℕ) → open_session c session ≡ Ok tt → holds_in (stream_at c session) ≡ true
open_holds c session h = open_by (stream_at c session) c session refl h

-- ---- what is not severed

shut_own : (e : Entry) → is_none e.writing.half ≡ false → is_past e.writing.queue.ending ≡ false
    → is_severed (Some e) ≡ true → ⊥
shut_own e n p h = by (or_of (is_none e.writing.half) (is_past e.writing.queue.ending)
    (and_of (is_out e.writing) (is_left e) h).0)
  where
    by : (is_none e.writing.half ≡ true) ⊎ (is_past e.writing.queue.ending ≡ true) → ⊥
    by (inl x) = never (is_none e.writing.half) x n
    by (inr x) = never (is_past e.writing.queue.ending) x p

pub open_not_severed : (e : Entry) → is_none e.writing.half ≡ false → e.writing.queue.ending ≡ ending.Open
    → is_severed (Some e) ≡ true → ⊥
open_not_severed e n p h = shut_own e n (ap (λ x. is_past x) p) h

pub finishing_not_severed : (e : Entry) → is_none e.writing.half ≡ false → e.writing.queue.ending ≡ ending.Finishing
    → is_severed (Some e) ≡ true → ⊥
finishing_not_severed e n p h = shut_own e n (ap (λ x. is_past x) p) h

left_half : (e : Entry) → e.is_ended ≡ false → is_severed (Some e) ≡ true
    → (is_told_over e.told ≡ true) × (is_unread e.peer e.is_decoder ≡ true)
left_half e n h = by (or_of (is_told_over e.told && is_unread e.peer e.is_decoder) e.is_ended
    (and_of (is_out e.writing) (is_left e) h).1)
  where
    by : ((is_told_over e.told && is_unread e.peer e.is_decoder) ≡ true) ⊎ (e.is_ended ≡ true)
        → (is_told_over e.told ≡ true) × (is_unread e.peer e.is_decoder ≡ true)
    by (inl x) = and_of (is_told_over e.told) (is_unread e.peer e.is_decoder) x
    by (inr x) = absurd (never e.is_ended x n)

pub known_not_severed : (e : Entry) → e.told ≡ told.Known → e.is_ended ≡ false → is_severed (Some e) ≡ true → ⊥
known_not_severed e t n h = never (is_told_over e.told) (left_half e n h).0 (ap (λ x. is_told_over x) t)

unread_gone : (p : Peer) (d : Bool) (r : Reading) → is_unread p d ≡ true → theirs_by p d r ≡ Gone
unread_gone peer.Reads true r h = refl
unread_gone peer.Reads false r h = absurd (let bad : false ≡ true = h in cc)
unread_gone peer.Drops d r h = refl
unread_gone peer.Over d r h = refl

pub read_not_severed : (e : Entry) (bytes : List ℕ) (ended : Bool) (at : Stream) → theirs_in (Some e) ≡ Unread bytes ended at
    → e.is_ended ≡ false → is_severed (Some e) ≡ true → ⊥
read_not_severed e bytes ended at r n h =
    let bad : Gone ≡ Unread bytes ended at
    = sym (unread_gone e.peer e.is_decoder e.reading (left_half e n h).1) ∙ r in cc

-- ---- the fields of a connection that say what is so of it

-- there is one way in which it is so
pub as_given : (c : Connection) (o : Ordered c.streams.entries c.ready.ranks c.unplaced) (j : Joined c.streams.entries c.ids)
    (w : Within c.config (length c.datagrams.queue.items) c.sessions c.held c.budget) (f : FewWait c.config c.ids)
    → record c { ordered = o; joined = j; within = w; few = f } ≡ c
as_given c o j w f i = record c {
  ordered = Ordered-prop c.streams.entries c.ready.ranks c.unplaced o c.ordered i;
  joined = Joined-prop c.streams.entries c.ids j c.joined i;
  within = Within-prop c.config (length c.datagrams.queue.items) c.sessions c.held c.budget w c.within i;
  few = FewWait-prop c.config c.ids f c.few i;
}

-- ---- sets for tactics

-- a stream changes, of the same session
pub ruleset joined = (joined_stays, stays_same)

-- and its own half does
pub ruleset joined_half = (joined_stays, stays_half)
