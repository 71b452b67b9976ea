-- The streams of sessions, as which they are noted.
use Rattle.std.proofs.Common.{◌≡◌, ◌==◌, ◌&&◌, ◌||◌, ◌<◌, ℕ, not, List, [], Option, Some, None, Bool, true, false, cond, refl, arith, inl, inr, sym, ap, subst, ◌∙◌}
use Rattle.std.specs.Prelude.{nat_lt, ◌^◌, if◌then◌else◌}
use Rattle.std.specs.Ordering.{nat_cmp}
use Rattle.std.specs.Map.{set_value}
use Rattle.std.specs.BTreeMap.{is_at}
use Rattle.std.specs.BTreeSet.{BTreeSet}
use Rattle.vesgrauf.specs.declared.config.Config.{Config}
use Rattle.vesgrauf.specs.declared.connection.Ended.{Ended}
use Rattle.vesgrauf.specs.declared.connection.ids.Ids.{Ids}
use Rattle.vesgrauf.specs.declared.entry.Entry.{Entry}
use Rattle.vesgrauf.specs.declared.entry.Member.{Member}
use Rattle.vesgrauf.specs.declared.event.Event.{Event}
use Rattle.vesgrauf.specs.declared.output.StreamKind.{StreamKind}
use Rattle.vesgrauf.specs.declared.output.StreamKind.TheVariants as kind
use Rattle.vesgrauf.specs.Halves.{reads_in}
use Rattle.vesgrauf.specs.Ids.{was, next_own, taken}
use Rattle.vesgrauf.specs.Instructions.{Table}
use Rattle.vesgrauf.specs.Keeps.{KeepsAll, Kept}
use Rattle.vesgrauf.specs.Members.{is_member, is_noted, is_same_stream, session_in, Linked, Notes, Drops, DropsAt}
use Rattle.vesgrauf.specs.Own.{own_in, entry_at}
use Rattle.vesgrauf.specs.Streams.{becomes_known}
use Rattle.vesgrauf.specs.Theirs.{theirs_in}
use Rattle.vesgrauf.specs.Told.{AreIds, Goes, status_at}
use Rattle.vesgrauf.proofs.GoesLemmas.{by_none, same_at, at_test, goes_known, stays_refl, set_sets}
use Rattle.vesgrauf.proofs.IdLemmas.{IsNoted}
use Rattle.vesgrauf.proofs.KeepsLemmas.{keeps_by_goes}
use Rattle.vesgrauf.proofs.LastsLemmas.{adds_none, lasts_known}
use Rattle.vesgrauf.proofs.OwnLemmas.{untouched_set}
use Rattle.vesgrauf.proofs.TheirsLemmas.{left_set}
use Rattle.vesgrauf.proofs.WorksLemmas.{worked_sets}

-- ---- what is noted changes

are_as : (ids jds : Ids) → jds ≡ record ids { members = jds.members } → AreIds ids → AreIds jds
are_as ids jds h s = subst (λ i. AreIds i) (sym h) (record {
  own_both = s.own_both;
  own_one = s.own_one;
  peer_both = s.peer_both;
  peer_one = s.peer_one;
})

was_as : (ids jds : Ids) → jds ≡ record ids { members = jds.members } → (id : ℕ) → was jds id ≡ was ids id
was_as ids jds h id = ap (λ i. was i id) h

-- no stream changes, and each of a session is noted still
goes_as : (es : List (ℕ × Entry)) (ids jds : Ids) (q : List Event) → jds ≡ record ids { members = jds.members }
    → (Linked es ids → Linked es jds) → Goes [] es ids q es jds q
goes_as es ids jds q h links = by_none es es ids jds q (λ id w. was_as ids jds h id ∙ w)
    (λ s. record {
      ids_are = are_as ids jds h s.ids_are;
      were = λ id have. was_as ids jds h id ∙ s.were id have;
      linked = links s.linked;
    })
    (λ s id. rw (was_as ids jds h id) (stays_refl (status_at es ids id)))

or_right : (a b : Bool) → b ≡ true → (a || b) ≡ true
or_right true b h = refl
or_right false b h = h

itself : (a b : ℕ) → (a == a && b == b) ≡ true
itself a b = grind arith

or_left : (a b : Bool) → a ≡ true → (a || b) ≡ true
or_left true b h = refl
or_left false b h = absurd (let bad : false ≡ true = h in cc)

pub notes_itself : (session id : ℕ) (ids jds : Ids) → Notes session id ids jds → is_member jds session id ≡ true
notes_itself session id ids jds n = n.members session id
    ∙ or_left (session == session && id == id) (is_member ids session id) (itself session id)

-- a stream is noted as one of a session
pub keeps_noted : (but : Option ℕ) (es : List (ℕ × Entry)) (ids jds : Ids) (ta : Table) (q : List Event) (a : Config) (x : Option Ended)
    (session id : ℕ) → Notes session id ids jds → KeepsAll but [] es ids ta q a x es jds ta q a x
keeps_noted but es ids jds ta q a x session id n = keeps_by_goes but [] es ids jds ta q q a x
    (goes_as es ids jds q n.others
    (λ l k s h. n.members s k ∙ or_right (is_same_stream session id s k) (is_member ids s k) (l k s h)))
    (adds_none q q refl)

dropped_linked : (b : Bool) (es : List (ℕ × Entry)) (ids jds : Ids) (id k s : ℕ) → is_at (nat_cmp id) k ≡ b
    → entry_at es id ≡ None → DropsAt id ids jds → Linked es ids → session_in (entry_at es k) ≡ Some s
    → is_member jds s k ≡ true
dropped_linked true es ids jds id k s at none d l h =
    let here : session_in (entry_at es id) ≡ Some s = subst (λ n. session_in (entry_at es n) ≡ Some s) (same_at id k at) h in
    absurd (let bad : None ≡ Some s = sym (ap session_in none) ∙ here in cc)
dropped_linked false es ids jds id k s at none d l h = d.members s k at ∙ l k s h

-- of a stream of which there is no entry it need not be noted
pub keeps_unnoted : (but : Option ℕ) (es : List (ℕ × Entry)) (ids jds : Ids) (ta : Table) (q : List Event) (a : Config)
    (x : Option Ended) (id : ℕ) → entry_at es id ≡ None → DropsAt id ids jds → KeepsAll but [] es ids ta q a x es jds ta q a x
keeps_unnoted but es ids jds ta q a x id none d = keeps_by_goes but [] es ids jds ta q q a x
    (goes_as es ids jds q d.others (λ l k s h. dropped_linked (is_at (nat_cmp id) k) es ids jds id k s refl none d l h))
    (adds_none q q refl)

-- a stream that is noted as one of its session
pub keeps_joined : (but : Option ℕ) (es : List (ℕ × Entry)) (ids : Ids) (ta : Table) (q : List Event) (a : Config) (x : Option Ended)
    (id s : ℕ) (e f : Entry) → entry_at es id ≡ Some e → f.told ≡ becomes_known e.told → f.session ≡ Some s
    → is_member ids s id ≡ true → f.may_cancel ≡ false → own_in (Some f) ≡ own_in (Some e)
    → theirs_in (Some f) ≡ theirs_in (Some e) → reads_in (Some f) ≡ reads_in (Some e)
    → KeepsAll but [] es ids ta q a x (set_value (is_at (nat_cmp id)) es f) ids ta q a x
keeps_joined but es ids ta q a x id s e f h t of noted m o l r = Kept
    (untouched_set es id f (inl (o ∙ sym (ap own_in h)))) (left_set es id f (inl (l ∙ sym (ap theirs_in h))))
    (goes_known es ids q id e f h t (λ n g. inr (noted_as n (sym of ∙ g)))) refl (λ n. n)
    (λ n g. lasts_known but es q id e f h t o r)
    (λ n g. worked_sets es (set_value (is_at (nat_cmp id)) es f) ids ta id (Some f) (set_sets es id e f h)
    (λ may. absurd (let bad : true ≡ false = sym may ∙ m in cc)) (inl (l ∙ sym (ap theirs_in h))))
  where
    noted_as : (n : ℕ) → Some s ≡ Some n → is_member ids n id ≡ true
    noted_as n same = subst (λ m. is_member ids m id ≡ true) (let eq : s ≡ n = cc in eq) noted

-- ---- only of one stream it changes

pub drops_refl : (id : ℕ) (ids : Ids) → DropsAt id ids ids
drops_refl id ids = record { others = refl; members = λ s k t. refl }

pub drops_trans : (id : ℕ) (ids jds kds : Ids) → DropsAt id ids jds → DropsAt id jds kds → DropsAt id ids kds
drops_trans id ids jds kds d e = record {
  others = e.others ∙ ap (λ (i : Ids). record i { members = kds.members }) d.others;
  members = λ s k t. e.members s k t ∙ d.members s k t;
}

same_or : (a b m : Bool) → b ≡ false → ((a && b) || m) ≡ m
same_or true true m h = absurd (let bad : true ≡ false = h in cc)
same_or true false m h = refl
same_or false b m h = refl

same_and : (a b m : Bool) → b ≡ false → (not (a && b) && m) ≡ m
same_and true true m h = absurd (let bad : true ≡ false = h in cc)
same_and true false m h = refl
same_and false b m h = refl

pub notes_at : (session id : ℕ) (ids jds : Ids) → Notes session id ids jds → DropsAt id ids jds
notes_at session id ids jds n = record {
  others = n.others;
  members = λ s k t. n.members s k ∙ same_or (session == s) (id == k) (is_member ids s k) (at_test id k ∙ t);
}

pub drops_at : (session id : ℕ) (ids jds : Ids) → Drops session id ids jds → DropsAt id ids jds
drops_at session id ids jds n = record {
  others = n.others;
  members = λ s k t. n.members s k ∙ same_and (session == s) (id == k) (is_member ids s k) (at_test id k ∙ t);
}

-- ---- own streams of sessions

pub next_as : (ids jds : Ids) → jds ≡ record ids { members = jds.members } → (k : StreamKind)
    → next_own jds k ≡ next_own ids k
next_as ids jds h kind.Bidirectional = ap (λ i. i.bidirectional) h
next_as ids jds h kind.Unidirectional = ap (λ i. i.unidirectional) h

pub member_noted : (session id : ℕ) (ids jds : Ids) (o : Option Entry) (e : Entry) → Notes session id ids jds → o ≡ Some e
    → e.session ≡ Some session → IsNoted jds id o
member_noted session id ids jds o e n here of s h =
    let eq : Some session ≡ Some s = sym (ap session_in here ∙ of) ∙ h in
    subst (λ m. is_member jds m id ≡ true) (let x : session ≡ s = cc in x) (notes_itself session id ids jds n)

taken_with : (k : StreamKind) (ids : Ids) (m : BTreeSet Member)
    → taken (record ids { members = m }) k ≡ record (taken ids k) { members = m }
taken_with kind.Bidirectional ids m = refl
taken_with kind.Unidirectional ids m = refl

taken_by : (b : Bool) (k : StreamKind) (ids jds kds : Ids) → jds ≡ record ids { members = jds.members }
    → kds ≡ cond b (taken jds k) jds → b ≡ true → kds ≡ record (taken ids k) { members = kds.members }
taken_by false k ids jds kds h g t = absurd (let bad : false ≡ true = t in cc)
taken_by true k ids jds kds h g t =
    let is : kds ≡ record (taken ids k) { members = jds.members }
    = g ∙ (ap (λ i. taken i k) h ∙ taken_with k ids jds.members) in
    let members : kds.members ≡ jds.members = ap (λ i. i.members) is in
    is ∙ ap (λ m. record (taken ids k) { members = m }) (sym members)

-- an ID is taken of those to which a stream of a session was noted
pub taken_as : (k : StreamKind) (ids jds kds : Ids) → jds ≡ record ids { members = jds.members }
    → kds ≡ (if nat_lt (next_own jds k) (2 ^ 62) then taken jds k else jds) → next_own jds k < 2 ^ 62
    → kds ≡ record (taken ids k) { members = kds.members }
taken_as k ids jds kds h g below = taken_by (nat_lt (next_own jds k) (2 ^ 62)) k ids jds kds h g (grind (arith, below))

taken_same : (b : Bool) (k : StreamKind) (ids : Ids) → (cond b (taken ids k) ids).members ≡ ids.members
taken_same true kind.Bidirectional ids = refl
taken_same true kind.Unidirectional ids = refl
taken_same false k ids = refl

pub member_taken : (k : StreamKind) (ids jds : Ids) (s n : ℕ)
    → jds ≡ (if nat_lt (next_own ids k) (2 ^ 62) then taken ids k else ids) → is_member jds s n ≡ is_member ids s n
member_taken k ids jds s n h =
    ap (λ m. is_noted m.keys (record { session = s; id = n }))
    (ap (λ i. i.members) h ∙ taken_same (nat_lt (next_own ids k) (2 ^ 62)) k ids)
