-- Streams that are opened, and their IDs.
use Rattle.std.proofs.Common.{◌≡◌, ◌==◌, ◌+◌, ◌%◌, ◌<◌, ◌^◌, ℕ, List, [], Option, None, Some, Bool, true, false, cond, refl, arith, sym, ap, subst, ◌∙◌, ◌⊎◌, inl, inr}
use Rattle.std.specs.Prelude.{is_some, nat_lt, if◌then◌else◌}
use Rattle.std.specs.Ordering.{nat_cmp}
use Rattle.std.specs.BTreeMap.{is_at}
use Rattle.wtp_frames.specs.declared.endpoint.Side.{Side}
use Rattle.wtp_frames.specs.declared.endpoint.Side.TheVariants as side
use Rattle.vesgrauf.specs.declared.output.StreamKind.{StreamKind}
use Rattle.vesgrauf.specs.declared.output.StreamKind.TheVariants as kind
use Rattle.vesgrauf.specs.declared.entry.Told.TheVariants as told
use Rattle.vesgrauf.specs.declared.entry.Entry.{Entry}
use Rattle.vesgrauf.specs.declared.event.Event.{Event}
use Rattle.vesgrauf.specs.declared.connection.ids.Ids.{Ids}
use Rattle.vesgrauf.specs.Ids.{was, own_bit, peer_bit, kind_by, kind_of, next_own, next_peer, taken, seen, opened, blocked}
use Rattle.vesgrauf.specs.declared.config.Config.{Config}
use Rattle.vesgrauf.specs.declared.connection.Connection.{Connection}
use Rattle.vesgrauf.specs.declared.connection.Ended.{Ended}
use Rattle.vesgrauf.specs.Halves.{halves_in, halves_at, Holds, Lasts}
use Rattle.vesgrauf.specs.Instructions.{Table, table_of}
use Rattle.vesgrauf.specs.Keeps.{KeepsAll, Kept, Keeps}
use Rattle.vesgrauf.specs.Members.{is_member, is_noted, session_in}
use Rattle.vesgrauf.specs.Own.{entry_at, own_in, IsUntouched, UntouchedBut}
use Rattle.vesgrauf.specs.State.{knows_of, IsStill}
use Rattle.vesgrauf.specs.Theirs.{theirs_in, IsLeft}
use Rattle.vesgrauf.proofs.HalvesLemmas.{holds_refl}
use Rattle.vesgrauf.proofs.LastsLemmas.{lasts_still, lasts_sets, not_there}
use Rattle.vesgrauf.proofs.KeepsLemmas.{keeps_refl}
use Rattle.vesgrauf.proofs.WorksLemmas.{worked_new}
use Rattle.vesgrauf.specs.Told.{Sets, AreOthers, IsUndone, AreIds, Sound, Stays, status_by, Goes}
use Rattle.vesgrauf.proofs.GoesLemmas.{by_none, goes_refl, same_at, stays_refl}

-- ---- IDs that are taken

lt_more : (a n : ℕ) → nat_lt a n ≡ true → nat_lt a (n + 4) ≡ true
lt_more a n h = grind (arith, h)

mod_more : (n r : ℕ) → n % 4 ≡ r → (n + 4) % 4 ≡ r
mod_more n r h = grind (arith, h)

taken_is : (ids : Ids) (k j : StreamKind) (id : ℕ) (own : Bool)
    → cond own (nat_lt id (next_own ids j)) (nat_lt id (next_peer ids j)) ≡ true
    → cond own (nat_lt id (next_own (taken ids k) j)) (nat_lt id (next_peer (taken ids k) j)) ≡ true
taken_is ids kind.Bidirectional kind.Bidirectional id true h = lt_more id ids.bidirectional h
taken_is ids kind.Bidirectional kind.Unidirectional id true h = h
taken_is ids kind.Unidirectional kind.Bidirectional id true h = h
taken_is ids kind.Unidirectional kind.Unidirectional id true h = lt_more id ids.unidirectional h
taken_is ids kind.Bidirectional kind.Bidirectional id false h = h
taken_is ids kind.Bidirectional kind.Unidirectional id false h = h
taken_is ids kind.Unidirectional kind.Bidirectional id false h = h
taken_is ids kind.Unidirectional kind.Unidirectional id false h = h

side_taken : (ids : Ids) (k : StreamKind) → (taken ids k).side ≡ ids.side
side_taken ids kind.Bidirectional = refl
side_taken ids kind.Unidirectional = refl

was_taken : (ids : Ids) (k : StreamKind) (id : ℕ) → was ids id ≡ true → was (taken ids k) id ≡ true
was_taken ids k id h = rw (side_taken ids k) (taken_is ids k (kind_of id) id (id % 2 == own_bit ids.side) h)

are_taken : (ids : Ids) (k : StreamKind) → AreIds ids → AreIds (taken ids k)
are_taken ids kind.Bidirectional s = record {
  own_both = mod_more ids.bidirectional (own_bit ids.side) s.own_both;
  own_one = s.own_one;
  peer_both = s.peer_both;
  peer_one = s.peer_one;
}
are_taken ids kind.Unidirectional s = record {
  own_both = s.own_both;
  own_one = mod_more ids.unidirectional (own_bit ids.side + 2) s.own_one;
  peer_both = s.peer_both;
  peer_one = s.peer_one;
}

seen_is : (ids : Ids) (k j : StreamKind) (id : ℕ) (own : Bool)
    → cond own (nat_lt id (next_own ids j)) (nat_lt id (next_peer ids j)) ≡ true
    → cond own (nat_lt id (next_own (seen ids k) j)) (nat_lt id (next_peer (seen ids k) j)) ≡ true
seen_is ids kind.Bidirectional kind.Bidirectional id false h = lt_more id ids.peer_bidirectional h
seen_is ids kind.Bidirectional kind.Unidirectional id false h = h
seen_is ids kind.Unidirectional kind.Bidirectional id false h = h
seen_is ids kind.Unidirectional kind.Unidirectional id false h = lt_more id ids.peer_unidirectional h
seen_is ids kind.Bidirectional kind.Bidirectional id true h = h
seen_is ids kind.Bidirectional kind.Unidirectional id true h = h
seen_is ids kind.Unidirectional kind.Bidirectional id true h = h
seen_is ids kind.Unidirectional kind.Unidirectional id true h = h

side_seen : (ids : Ids) (k : StreamKind) → (seen ids k).side ≡ ids.side
side_seen ids kind.Bidirectional = refl
side_seen ids kind.Unidirectional = refl

was_seen : (ids : Ids) (k : StreamKind) (id : ℕ) → was ids id ≡ true → was (seen ids k) id ≡ true
was_seen ids k id h = rw (side_seen ids k) (seen_is ids k (kind_of id) id (id % 2 == own_bit ids.side) h)

are_seen : (ids : Ids) (k : StreamKind) → AreIds ids → AreIds (seen ids k)
are_seen ids kind.Bidirectional s = record {
  own_both = s.own_both;
  own_one = s.own_one;
  peer_both = mod_more ids.peer_bidirectional (peer_bit ids.side) s.peer_both;
  peer_one = s.peer_one;
}
are_seen ids kind.Unidirectional s = record {
  own_both = s.own_both;
  own_one = s.own_one;
  peer_both = s.peer_both;
  peer_one = mod_more ids.peer_unidirectional (peer_bit ids.side + 2) s.peer_one;
}

-- ---- what the program knows of them

seen_stays : (o : Option Entry) (a b : Bool) → (a ≡ true → b ≡ true) → Stays (status_by o a) (status_by o b)
seen_stays (Some e) a b h = stays_refl e.told
seen_stays None true b h = rw (h refl) refl
seen_stays None false b h = tt

-- the streams of sessions are what they were
member_same : (ids jds : Ids) (session id : ℕ) → jds.members ≡ ids.members → is_member ids session id ≡ true
    → is_member jds session id ≡ true
member_same ids jds session id h m =
    subst (λ s. is_noted s.keys (record { session = session; id = id }) ≡ true) (sym h) m

taken_members : (ids : Ids) (k : StreamKind) → (taken ids k).members ≡ ids.members
taken_members ids kind.Bidirectional = refl
taken_members ids kind.Unidirectional = refl

seen_members : (ids : Ids) (k : StreamKind) → (seen ids k).members ≡ ids.members
seen_members ids kind.Bidirectional = refl
seen_members ids kind.Unidirectional = refl

blocked_members : (ids : Ids) (k : StreamKind) (b : Bool) → (blocked ids k b).members ≡ ids.members
blocked_members ids kind.Bidirectional b = refl
blocked_members ids kind.Unidirectional b = refl

open_members : (ids : Ids) (k : StreamKind) → (opened ids k).members ≡ ids.members
open_members ids kind.Bidirectional = refl
open_members ids kind.Unidirectional = refl

-- more IDs are taken or seen, and no stream changes
ids_grow : (es : List (ℕ × Entry)) (ids jds : Ids) (q : List Event) → jds.members ≡ ids.members
    → (AreIds ids → AreIds jds) → ((id : ℕ) → was ids id ≡ true → was jds id ≡ true) → Goes [] es ids q es jds q
ids_grow es ids jds q members are grow = by_none es es ids jds q grow
    (λ s. record {
      ids_are = are s.ids_are;
      were = λ id have. grow id (s.were id have);
      linked = λ id session h. member_same ids jds session id members (s.linked id session h);
    })
    (λ s id. seen_stays (entry_at es id) (was ids id) (was jds id) (grow id))

taken_if : (b : Bool) (es : List (ℕ × Entry)) (ids : Ids) (q : List Event) (k : StreamKind)
    → Goes [] es ids q es (cond b (taken ids k) ids) q
taken_if true es ids q k = ids_grow es ids (taken ids k) q (taken_members ids k) (are_taken ids k) (was_taken ids k)
taken_if false es ids q k = goes_refl es ids q

-- an ID is taken: of a stream of which there are no events
pub goes_taken : (es : List (ℕ × Entry)) (ids : Ids) (q : List Event) (k : StreamKind)
    → Goes [] es ids q es (if nat_lt (next_own ids k) (2 ^ 62) then taken ids k else ids) q
goes_taken es ids q k = taken_if (nat_lt (next_own ids k) (2 ^ 62)) es ids q k

-- ---- streams that begin

new_by : (b : Bool) (o : Option Entry) (e : Entry) (a c : Bool) → (b ≡ true → (is_some o ≡ true → a ≡ true) × (a ≡ false))
    → (a ≡ true → c ≡ true) → Stays (status_by o a) (status_by (cond b (Some e) o) c)
new_by false o e a c h g = seen_stays o a c g
new_by true None e true c h g = absurd (let bad : true ≡ false = (h refl).1 in cc)
new_by true None e false c h g = tt
new_by true (Some x) e a c h g = absurd (let t : a ≡ true = (h refl).0 refl in let f : a ≡ false = (h refl).1 in cc)

some_new : (b : Bool) (o : Option Entry) (e : Entry) (a : Bool) → (b ≡ true → a ≡ true) → (is_some o ≡ true → a ≡ true)
    → is_some (cond b (Some e) o) ≡ true → a ≡ true
some_new true o e a g h s = g refl
some_new false o e a g h s = h s

-- a stream is noted as one of its session
abbrev pub IsNoted : Ids → ℕ → Option Entry → Type 0
IsNoted ids id o = (s : ℕ) → session_in o ≡ Some s → is_member ids s id ≡ true

-- one without a session need not be
pub noted_alone : (ids : Ids) (id : ℕ) (o : Option Entry) → session_in o ≡ None → IsNoted ids id o
noted_alone ids id o none s h = absurd (let bad : None ≡ Some s = sym none ∙ h in cc)

begins_linked : (b : Bool) (es : List (ℕ × Entry)) (ids : Ids) (id k s : ℕ) (e : Entry) → is_at (nat_cmp id) k ≡ b
    → Sound es ids → IsNoted ids id (Some e) → session_in (cond b (Some e) (entry_at es k)) ≡ Some s
    → is_member ids s k ≡ true
begins_linked true es ids id k s e at g noted h =
    subst (λ n. is_member ids s n ≡ true) (sym (same_at id k at)) (noted s h)
begins_linked false es ids id k s e at g noted h = g.linked k s h

-- a stream begins that there was not
begins : (es fs : List (ℕ × Entry)) (ids jds : Ids) (q : List Event) (id : ℕ) (e : Entry) → Sets id (Some e) es fs
    → IsNoted ids id (Some e) → jds.members ≡ ids.members
    → (AreIds ids → AreIds jds) → ((k : ℕ) → was ids k ≡ true → was jds k ≡ true)
    → (AreIds ids → was ids id ≡ false) → (AreIds ids → was jds id ≡ true) → Goes [] es ids q fs jds q
begins es fs ids jds q id e sets noted members are grow before now = by_none es fs ids jds q grow
    (λ s. record {
      ids_are = are s.ids_are;
      linked = λ k session h. member_same ids jds session k members
          (begins_linked (is_at (nat_cmp id) k) es ids id k session e refl s noted
          (subst (λ o. session_in o ≡ Some session) (sets k) h));
      were = λ k have.
          let h : is_some (entry_at fs k) ≡ true = have in
          let g : is_some (cond (is_at (nat_cmp id) k) (Some e) (entry_at es k)) ≡ true = rw (sets k) at h in
          some_new (is_at (nat_cmp id) k) (entry_at es k) e (was jds k)
          (λ at. rw (same_at id k at) (now s.ids_are)) (λ x. grow k (s.were k x)) g;
    })
    (λ s k. rw (sets k) (new_by (is_at (nat_cmp id) k) (entry_at es k) e (was ids k) (was jds k)
    (λ at. (s.were k, rw (same_at id k at) (before s.ids_are))) (grow k)))

-- ---- the next IDs

not_below : (n : ℕ) → nat_lt n n ≡ false
not_below n = grind arith

below_more : (n : ℕ) → nat_lt n (n + 4) ≡ true
below_more n = grind arith

half_0 : (n : ℕ) → n % 4 ≡ 0 → (n % 2 ≡ 0) × (nat_lt (n % 4) 2 ≡ true)
half_0 n h = (grind (arith, h), rw h refl)

half_1 : (n : ℕ) → n % 4 ≡ 1 → (n % 2 ≡ 1) × (nat_lt (n % 4) 2 ≡ true)
half_1 n h = (grind (arith, h), rw h refl)

half_2 : (n : ℕ) → n % 4 ≡ 2 → (n % 2 ≡ 0) × (nat_lt (n % 4) 2 ≡ false)
half_2 n h = (grind (arith, h), rw h refl)

half_3 : (n : ℕ) → n % 4 ≡ 3 → (n % 2 ≡ 1) × (nat_lt (n % 4) 2 ≡ false)
half_3 n h = (grind (arith, h), rw h refl)

-- the next ID of a kind is one of this side, of this kind
own_next : (ids : Ids) (k : StreamKind) (s : Side) → ids.side ≡ s → AreIds ids
    → (next_own ids k % 2 ≡ own_bit s) × (kind_of (next_own ids k) ≡ k)
own_next ids kind.Bidirectional side.Client h a =
    let x = half_0 ids.bidirectional (a.own_both ∙ ap own_bit h) in (x.0, ap kind_by x.1)
own_next ids kind.Bidirectional side.Server h a =
    let x = half_1 ids.bidirectional (a.own_both ∙ ap own_bit h) in (x.0, ap kind_by x.1)
own_next ids kind.Unidirectional side.Client h a =
    let x = half_2 ids.unidirectional (a.own_one ∙ ap (λ t. own_bit t + 2) h) in (x.0, ap kind_by x.1)
own_next ids kind.Unidirectional side.Server h a =
    let x = half_3 ids.unidirectional (a.own_one ∙ ap (λ t. own_bit t + 2) h) in (x.0, ap kind_by x.1)

peer_next : (ids : Ids) (k : StreamKind) (s : Side) → ids.side ≡ s → AreIds ids
    → ((next_peer ids k % 2 == own_bit s) ≡ false) × (kind_of (next_peer ids k) ≡ k)
peer_next ids kind.Bidirectional side.Client h a =
    let x = half_1 ids.peer_bidirectional (a.peer_both ∙ ap peer_bit h) in (rw x.0 refl, ap kind_by x.1)
peer_next ids kind.Bidirectional side.Server h a =
    let x = half_0 ids.peer_bidirectional (a.peer_both ∙ ap peer_bit h) in (rw x.0 refl, ap kind_by x.1)
peer_next ids kind.Unidirectional side.Client h a =
    let x = half_3 ids.peer_unidirectional (a.peer_one ∙ ap (λ t. peer_bit t + 2) h) in (rw x.0 refl, ap kind_by x.1)
peer_next ids kind.Unidirectional side.Server h a =
    let x = half_2 ids.peer_unidirectional (a.peer_one ∙ ap (λ t. peer_bit t + 2) h) in (rw x.0 refl, ap kind_by x.1)

itself : (n : ℕ) → (n == n) ≡ true
itself n = grind arith

pub own_was : (ids : Ids) (k : StreamKind) → AreIds ids → was ids (next_own ids k) ≡ false
own_was ids k a = let x = own_next ids k ids.side refl a in
    rw (x.0, itself (own_bit ids.side), x.1) (not_below (next_own ids k))

next_taken : (ids : Ids) (k : StreamKind) → next_own (taken ids k) k ≡ next_own ids k + 4
next_taken ids kind.Bidirectional = refl
next_taken ids kind.Unidirectional = refl

own_is : (ids : Ids) (k : StreamKind) → AreIds ids → was (taken ids k) (next_own ids k) ≡ true
own_is ids k a = let x = own_next ids k ids.side refl a in
    rw (side_taken ids k, x.0, itself (own_bit ids.side), x.1, next_taken ids k) (below_more (next_own ids k))

peer_was : (ids : Ids) (k : StreamKind) → AreIds ids → was ids (next_peer ids k) ≡ false
peer_was ids k a = let x = peer_next ids k ids.side refl a in rw (x.0, x.1) (not_below (next_peer ids k))

next_seen : (ids : Ids) (k : StreamKind) → next_peer (seen ids k) k ≡ next_peer ids k + 4
next_seen ids kind.Bidirectional = refl
next_seen ids kind.Unidirectional = refl

peer_is : (ids : Ids) (k : StreamKind) → AreIds ids → was (seen ids k) (next_peer ids k) ≡ true
peer_is ids k a = let x = peer_next ids k ids.side refl a in
    rw (side_seen ids k, x.0, x.1, next_seen ids k) (below_more (next_peer ids k))

-- an own stream is opened
pub goes_opened : (es fs : List (ℕ × Entry)) (ids : Ids) (q : List Event) (k : StreamKind) (e : Entry)
    → Sets (next_own ids k) (Some e) es fs → IsNoted ids (next_own ids k) (Some e) → Goes [] es ids q fs (taken ids k) q
goes_opened es fs ids q k e sets noted = begins es fs ids (taken ids k) q (next_own ids k) e sets noted
    (taken_members ids k) (are_taken ids k) (was_taken ids k) (own_was ids k) (own_is ids k)

-- a stream of the peer is registered
pub goes_accepted : (es fs : List (ℕ × Entry)) (ids : Ids) (q : List Event) (k : StreamKind) (e : Entry)
    → Sets (next_peer ids k) (Some e) es fs → e.session ≡ None → Goes [] es ids q fs (seen ids k) q
goes_accepted es fs ids q k e sets alone = begins es fs ids (seen ids k) q (next_peer ids k) e sets
    (noted_alone ids (next_peer ids k) (Some e) alone) (seen_members ids k) (are_seen ids k) (was_seen ids k) (peer_was ids k) (peer_is ids k)

-- ---- by what the maps say

sets_here : (b : Bool) (o p w : Option Entry) → (b ≡ true → o ≡ w) → (b ≡ false → o ≡ p) → o ≡ cond b w p
sets_here true o p w h g = h refl
sets_here false o p w h g = g refl

sets_by : (es fs : List (ℕ × Entry)) (id : ℕ) (w : Option Entry) → entry_at fs id ≡ w → AreOthers id es fs → Sets id w es fs
sets_by es fs id w here others k = sets_here (is_at (nat_cmp id) k) (entry_at fs k) (entry_at es k) w
    (λ at. rw (same_at id k at) here) (others k)

goes_seen : (b : Bool) (es fs : List (ℕ × Entry)) (ids jds : Ids) (q : List Event) (k : StreamKind) (e : Entry)
    → b ≡ true → jds ≡ cond b (seen ids k) ids → Sets (next_peer ids k) (Some e) es fs → e.session ≡ None
    → Goes [] es ids q fs jds q
goes_seen true es fs ids jds q k e h i sets alone = rw i (goes_accepted es fs ids q k e sets alone)
goes_seen false es fs ids jds q k e h i sets alone = absurd (let bad : false ≡ true = h in cc)

-- a stream of the peer is registered, if there is one more
pub goes_accepts : (es fs : List (ℕ × Entry)) (ids jds : Ids) (q : List Event) (k : StreamKind) (id : ℕ) (e : Entry)
    → id ≡ next_peer ids k → id < 2 ^ 62 → jds ≡ (if nat_lt (next_peer ids k) (2 ^ 62) then seen ids k else ids)
    → entry_at fs id ≡ Some e → AreOthers id es fs → e.session ≡ None → Goes [] es ids q fs jds q
goes_accepts es fs ids jds q k id e at below i here others alone =
    let t : nat_lt (next_peer ids k) (2 ^ 62) ≡ true = grind (arith, at, below) in
    goes_seen (nat_lt (next_peer ids k) (2 ^ 62)) es fs ids jds q k e t i
    (rw (sym at) (sets_by es fs id (Some e) here others)) alone

goes_took : (b : Bool) (es fs : List (ℕ × Entry)) (ids jds : Ids) (q : List Event) (k : StreamKind) (e : Entry)
    → b ≡ true → jds ≡ cond b (taken ids k) ids → Sets (next_own ids k) (Some e) es fs
    → IsNoted ids (next_own ids k) (Some e) → Goes [] es ids q fs jds q
goes_took true es fs ids jds q k e h i sets noted = rw i (goes_opened es fs ids q k e sets noted)
goes_took false es fs ids jds q k e h i sets noted = absurd (let bad : false ≡ true = h in cc)

opens_by : (o : Option Entry) (es fs : List (ℕ × Entry)) (ids jds : Ids) (q : List Event) (k : StreamKind) (id : ℕ)
    → id ≡ next_own ids k → id < 2 ^ 62 → jds ≡ (if nat_lt (next_own ids k) (2 ^ 62) then taken ids k else ids)
    → entry_at fs id ≡ o → knows_of o ≡ true → AreOthers id es fs → IsNoted ids id o → Goes [] es ids q fs jds q
opens_by None es fs ids jds q k id at below i here known others noted = absurd (let bad : false ≡ true = known in cc)
opens_by (Some e) es fs ids jds q k id at below i here known others noted =
    let t : nat_lt (next_own ids k) (2 ^ 62) ≡ true = grind (arith, at, below) in
    goes_took (nat_lt (next_own ids k) (2 ^ 62)) es fs ids jds q k e t i
    (rw (sym at) (sets_by es fs id (Some e) here others)) (subst (λ n. IsNoted ids n (Some e)) at noted)

-- an own stream is opened, of which the program knows
pub goes_opens : (es fs : List (ℕ × Entry)) (ids jds : Ids) (q : List Event) (k : StreamKind) (id : ℕ)
    → id ≡ next_own ids k → id < 2 ^ 62 → jds ≡ (if nat_lt (next_own ids k) (2 ^ 62) then taken ids k else ids)
    → knows_of (entry_at fs id) ≡ true → AreOthers id es fs → IsNoted ids id (entry_at fs id)
    → Goes [] es ids q fs jds q
goes_opens es fs ids jds q k id at below i known others noted =
    opens_by (entry_at fs id) es fs ids jds q k id at below i refl known others noted

undone_by : (b : Bool) (o p : Option Entry) (a : Bool) → (b ≡ true → ((p ≡ o) ⊎ (p ≡ None)) × (is_some o ≡ true → a ≡ true) × (a ≡ false))
    → (b ≡ false → p ≡ o) → Stays (status_by o a) (status_by p a)
undone_by false o p a h g = rw (g refl) (stays_refl (status_by o a))
undone_by true o p a h g = undone_at o p a (h refl).0 (h refl).1 (h refl).2
  where
    undone_at : (o p : Option Entry) (a : Bool) → (p ≡ o) ⊎ (p ≡ None) → (is_some o ≡ true → a ≡ true) → a ≡ false
        → Stays (status_by o a) (status_by p a)
    undone_at o p a (inl same) had n = rw same (stays_refl (status_by o a))
    undone_at None p a (inr none) had n = rw none (stays_refl (status_by None a))
    undone_at (Some e) p a (inr none) had n = absurd (let on : a ≡ true = had refl in cc)

undone_had : (b : Bool) (o p : Option Entry) (a : Bool) → (b ≡ true → (p ≡ o) ⊎ (p ≡ None)) → (b ≡ false → p ≡ o)
    → (is_some o ≡ true → a ≡ true) → is_some p ≡ true → a ≡ true
undone_had false o p a h g had have = had (rw (g refl) at have)
undone_had true o p a h g had have = had_at o p a (h refl) had have
  where
    had_at : (o p : Option Entry) (a : Bool) → (p ≡ o) ⊎ (p ≡ None) → (is_some o ≡ true → a ≡ true) → is_some p ≡ true
        → a ≡ true
    had_at o p a (inl same) had have = had (rw same at have)
    had_at o p a (inr none) had have = absurd (let bad : false ≡ true = (rw none at have) in cc)

undone_linked : (b : Bool) (es : List (ℕ × Entry)) (ids : Ids) (k s : ℕ) (p : Option Entry)
    → (b ≡ true → (p ≡ entry_at es k) ⊎ (p ≡ None)) → (b ≡ false → p ≡ entry_at es k) → Sound es ids
    → session_in p ≡ Some s → is_member ids s k ≡ true
undone_linked false es ids k s p h g sound have =
    sound.linked k s (subst (λ o. session_in o ≡ Some s) (g refl) have)
undone_linked true es ids k s p h g sound have = linked_at (h refl)
  where
    linked_at : (p ≡ entry_at es k) ⊎ (p ≡ None) → is_member ids s k ≡ true
    linked_at (inl same) = sound.linked k s (subst (λ o. session_in o ≡ Some s) same have)
    linked_at (inr none) = absurd (let bad : None ≡ Some s = subst (λ o. session_in o ≡ Some s) none have in cc)

undone_here : (es fs : List (ℕ × Entry)) (id k : ℕ) → is_at (nat_cmp id) k ≡ true → IsUndone id es fs
    → (entry_at fs k ≡ entry_at es k) ⊎ (entry_at fs k ≡ None)
undone_here es fs id k at u = rw (same_at id k at) u.1

-- the next own stream was not opened: there is none with its ID
pub goes_undone : (es fs : List (ℕ × Entry)) (ids : Ids) (q : List Event) (k : StreamKind) (id : ℕ) → id ≡ next_own ids k
    → IsUndone id es fs → Goes [] es ids q fs ids q
goes_undone es fs ids q kd id at u = by_none es fs ids ids q (λ k w. w)
    (λ s. record {
      ids_are = s.ids_are;
      were = λ k have. undone_had (is_at (nat_cmp id) k) (entry_at es k) (entry_at fs k) (was ids k)
          (λ t. undone_here es fs id k t u) (u.0 k) (s.were k) have;
      linked = λ k session h. undone_linked (is_at (nat_cmp id) k) es ids k session (entry_at fs k)
          (λ t. undone_here es fs id k t u) (u.0 k) s h;
    })
    (λ s k. undone_by (is_at (nat_cmp id) k) (entry_at es k) (entry_at fs k) (was ids k)
    (λ t. (undone_here es fs id k t u, s.were k, rw (same_at id k t, at) (own_was ids kd s.ids_are))) (u.0 k))

undone_is : (b : Bool) (id k : ℕ) (es fs : List (ℕ × Entry)) → is_at (nat_cmp id) k ≡ b → IsUndone id es fs
    → (entry_at fs k ≡ entry_at es k) ⊎ (entry_at fs k ≡ None)
undone_is true id k es fs t u = undone_here es fs id k t u
undone_is false id k es fs t u = inl (u.0 k t)

own_undone : (x y : Option Entry) → (y ≡ x) ⊎ (y ≡ None) → IsUntouched (own_in x) (own_in y)
own_undone x y (inl h) = inl (ap own_in h)
own_undone x y (inr h) = inr (inl (ap own_in h))

left_undone : (x y : Option Entry) → (y ≡ x) ⊎ (y ≡ None) → IsLeft (theirs_in x) (theirs_in y)
left_undone x y (inl h) = inl (ap theirs_in h)
left_undone x y (inr h) = inr (inl (ap theirs_in h))

halves_none : (x y : Option Entry) → x ≡ None → Holds (halves_in x) (halves_in y)
halves_none x y h = subst (λ o. Holds (halves_in o) (halves_in y)) (sym h) tt

halves_by : (b : Bool) (es fs : List (ℕ × Entry)) (ids : Ids) (id k : ℕ) (kd : StreamKind) → is_at (nat_cmp id) k ≡ b
    → id ≡ next_own ids kd → Sound es ids → IsUndone id es fs → Holds (halves_at es k) (halves_at fs k)
halves_by true es fs ids id k kd t at s u = halves_none (entry_at es k) (entry_at fs k)
    (not_there es ids k s (rw (same_at id k t, at) (own_was ids kd s.ids_are)))
halves_by false es fs ids id k kd t at s u = subst (λ o. Holds (halves_at es k) (halves_in o)) (sym (u.0 k t))
    (holds_refl (halves_at es k))

-- and no byte of another stream is added or lost
pub keeps_undone : (es fs : List (ℕ × Entry)) (ids : Ids) (ta : Table) (q : List Event) (a b : Config) (x : Option Ended)
    (k : StreamKind) (id : ℕ)
    → id ≡ next_own ids k → IsUndone id es fs → b ≡ a → KeepsAll None [] es ids ta q a x fs ids ta q b x
keeps_undone es fs ids ta q a b x kd id at u e = Kept
    (record { each = λ k. own_undone (entry_at es k) (entry_at fs k) (undone_is (is_at (nat_cmp id) k) id k es fs refl u) })
    (record { each = λ k. left_undone (entry_at es k) (entry_at fs k) (undone_is (is_at (nat_cmp id) k) id k es fs refl u) })
    (goes_undone es fs ids q kd id at u) e (λ n. n)
    (λ n s. lasts_still None es fs q (λ k. halves_by (is_at (nat_cmp id) k) es fs ids id k kd refl at s u))
    (λ n s. worked_new es fs ids ta id (rw at (own_was ids kd s.ids_are))
    (not_there es ids id s (rw at (own_was ids kd s.ids_are))) u.0)

-- an own stream is opened, and no half of another one changes
pub lasts_opens : (es fs : List (ℕ × Entry)) (ids : Ids) (q : List Event) (k : StreamKind) (id : ℕ)
    → id ≡ next_own ids k → AreOthers id es fs → Sound es ids → Lasts None [] es q fs q
lasts_opens es fs ids q k id at others s = lasts_sets None es fs q id (entry_at fs id)
    (sets_by es fs id (entry_at fs id) refl others)
    (subst (λ o. Holds (halves_in o) (halves_in (entry_at fs id)))
    (sym (not_there es ids id s (rw at (own_was ids k s.ids_are)))) tt)

-- nothing that the program or QUIC sees changes
pub keeps_still : (c d : Connection) → IsStill c d → Keeps [] c d
keeps_still c d h = rw (
  ap (λ v. v.streams) h,
  ap (λ v. v.ids) h,
  ap (λ v. v.shared) h,
  ap (λ v. v.decoder) h,
  ap (λ v. v.told) h,
  ap (λ v. v.events) h,
  ap (λ v. v.config) h,
  ap (λ v. v.ended) h,
)
    (keeps_refl None c.streams.entries c.ids (table_of c) c.events.items c.config c.ended)

-- the program knows of a stream that it opened
pub knows_here : (fs : List (ℕ × Entry)) (id : ℕ) (e : Entry) → entry_at fs id ≡ Some e → e.told ≡ told.Known
    → knows_of (entry_at fs id) ≡ true
knows_here fs id e here known = rw (here, known) refl

was_blocked : (ids : Ids) (k : StreamKind) (b : Bool) (id : ℕ) → was (blocked ids k b) id ≡ was ids id
was_blocked ids kind.Bidirectional b id = refl
was_blocked ids kind.Unidirectional b id = refl

are_blocked : (ids : Ids) (k : StreamKind) (b : Bool) → AreIds ids → AreIds (blocked ids k b)
are_blocked ids kind.Bidirectional b s = record {
  own_both = s.own_both;
  own_one = s.own_one;
  peer_both = s.peer_both;
  peer_one = s.peer_one;
}
are_blocked ids kind.Unidirectional b s = record {
  own_both = s.own_both;
  own_one = s.own_one;
  peer_both = s.peer_both;
  peer_one = s.peer_one;
}

-- QUIC opens no stream of a kind, or does again
pub goes_blocked : (es : List (ℕ × Entry)) (ids : Ids) (q : List Event) (k : StreamKind) (b : Bool)
    → Goes [] es ids q es (blocked ids k b) q
goes_blocked es ids q k b = ids_grow es ids (blocked ids k b) q (blocked_members ids k b) (are_blocked ids k b)
    (λ id h. was_blocked ids k b id ∙ h)

was_open : (ids : Ids) (k : StreamKind) (id : ℕ) → was (opened ids k) id ≡ was ids id
was_open ids kind.Bidirectional id = refl
was_open ids kind.Unidirectional id = refl

are_open : (ids : Ids) (k : StreamKind) → AreIds ids → AreIds (opened ids k)
are_open ids kind.Bidirectional s = record {
  own_both = s.own_both;
  own_one = s.own_one;
  peer_both = s.peer_both;
  peer_one = s.peer_one;
}
are_open ids kind.Unidirectional s = record {
  own_both = s.own_both;
  own_one = s.own_one;
  peer_both = s.peer_both;
  peer_one = s.peer_one;
}

-- QUIC has opened a stream, if one was to be opened
pub goes_unopened : (b : Bool) (es : List (ℕ × Entry)) (ids : Ids) (q : List Event) (k : StreamKind)
    → Goes [] es ids q es (cond b (opened ids k) ids) q
goes_unopened true es ids q k = ids_grow es ids (opened ids k) q (open_members ids k) (are_open ids k)
    (λ id h. was_open ids k id ∙ h)
goes_unopened false es ids q k = goes_refl es ids q

-- the entries of other streams are what they were
pub others_untouched : (es fs : List (ℕ × Entry)) (id : ℕ) → AreOthers id es fs → UntouchedBut id es fs
others_untouched es fs id h = record { each = λ k t. inl (ap own_in (h k t)) }
