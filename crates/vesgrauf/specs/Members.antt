-- The streams of sessions (draft-ietf-webtrans-http3-02, section 4): which ones a connection notes, by their IDs.
use Rattle.std.specs.Prelude.{◌≡◌, ◌==◌, ◌&&◌, ◌||◌, ◌<◌, ◌≤◌, not, if◌then◌else◌, ℕ, Bool, true, false, List, Option, None, Some}
use Rattle.std.specs.List.{list_any}
use Rattle.std.specs.Ordering.{nat_cmp}
use Rattle.std.specs.BTreeMap.{is_at}
use Rattle.vesgrauf.specs.declared.connection.ids.Ids.{Ids}
use Rattle.vesgrauf.specs.declared.entry.Entry.{Entry}
use Rattle.vesgrauf.specs.declared.entry.Member.{Member}
use Rattle.vesgrauf.specs.Own.{entry_at}

-- the session that a stream is one of
abbrev pub session_in : Option Entry → Option ℕ
session_in None = None
session_in (Some e) = e.session

-- the same stream of the same session
abbrev pub is_same : Member → Member → Bool
is_same a b = a.session == b.session && a.id == b.id

abbrev pub is_same_stream : (session id : ℕ) → (s k : ℕ) → Bool
is_same_stream session id s k = session == s && id == k

abbrev pub is_noted : List Member → Member → Bool
is_noted ms m = list_any (is_same m) ms

-- a stream is noted as one of this session
abbrev pub is_member : Ids → (session id : ℕ) → Bool
is_member ids session id = is_noted ids.members.keys (record { session = session; id = id })

-- each stream of a session is noted as one of it
abbrev pub Linked : List (ℕ × Entry) → Ids → Type 0
Linked es ids = (id session : ℕ) → session_in (entry_at es id) ≡ Some session → is_member ids session id ≡ true

-- ---- what is noted changes

-- this stream is noted, too, and nothing else changes
pub record Notes (session id : ℕ) (ids jds : Ids) : Type 0 where
  pub others : jds ≡ record ids { members = jds.members }
  pub members : (s k : ℕ) → is_member jds s k ≡ (is_same_stream session id s k || is_member ids s k)

-- this one is not any more
pub record Drops (session id : ℕ) (ids jds : Ids) : Type 0 where
  pub others : jds ≡ record ids { members = jds.members }
  pub members : (s k : ℕ) → is_member jds s k ≡ (not (is_same_stream session id s k) && is_member ids s k)

-- only of this stream it may be another session, or none
pub record DropsAt (id : ℕ) (ids jds : Ids) : Type 0 where
  pub others : jds ≡ record ids { members = jds.members }
  pub members : (s k : ℕ) → is_at (nat_cmp id) k ≡ false → is_member jds s k ≡ is_member ids s k

-- ---- the streams of one session

-- its ID is above this one, if there is one
abbrev pub IsAbove : Option ℕ → ℕ → Type 0
IsAbove None k = Unit {0}
IsAbove (Some id) k = id < k

-- the first stream of this session above that ID
abbrev pub IsNextMember : Ids → (session : ℕ) → (after : Option ℕ) → Option ℕ → Type 0
IsNextMember ids session after None = (k : ℕ) → IsAbove after k → is_member ids session k ≡ false
IsNextMember ids session after (Some id) =
    IsAbove after id × (is_member ids session id ≡ true)
    × ((k : ℕ) → IsAbove after k → is_member ids session k ≡ true → id ≤ k)

-- the first stream of this session above that ID, or of a session after it
abbrev pub IsFirstNoted : List Member → (session : ℕ) → (after : Option ℕ) → Option Member → Type 0
IsFirstNoted ms session after None = (k : ℕ) → IsAbove after k → is_noted ms (record { session = session; id = k }) ≡ false
IsFirstNoted ms session after (Some m) =
    (is_noted ms m ≡ true) × (m.session ≡ session → IsAbove after m.id)
    × ((k : ℕ) → IsAbove after k → is_noted ms (record { session = session; id = k }) ≡ true
    → (m.session ≡ session) × (m.id ≤ k))

-- its ID, if it is of this session
abbrev pub id_of_session : (session : ℕ) → Option Member → Option ℕ
id_of_session session None = None
id_of_session session (Some m) = if m.session == session then Some m.id else None
