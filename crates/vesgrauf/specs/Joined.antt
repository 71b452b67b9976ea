-- The streams that joined a session (draft-ietf-webtrans-http3-02, section 5): when the session is over, they are severed.
use Rattle.std.specs.Prelude.{◌≡◌, ◌&&◌, ◌||◌, ℕ, Bool, true, false, List, Option, None, Some}
use mathlib.Core.Bool.{Bool-set}
use Rattle.std.specs.Coded.{Π_prop}
use Rattle.std.specs.Ordering.{nat_cmp}
use Rattle.std.specs.BTreeMap.{is_at}
use Rattle.vesgrauf_queue.specs.declared.ending.Ending.{Ending}
use Rattle.vesgrauf_queue.specs.declared.ending.Ending.TheVariants.{Finished, Resetting, WasReset}
use Rattle.vesgrauf_stream.specs.declared.writing.Writing.{Writing}
use Rattle.vesgrauf_stream.specs.Writing.{is_none}
use Rattle.vesgrauf.specs.declared.connection.ids.Ids.{Ids}
use Rattle.vesgrauf.specs.declared.entry.Entry.{Entry}
use Rattle.vesgrauf.specs.declared.entry.Peer.{Peer}
use Rattle.vesgrauf.specs.declared.entry.Peer.TheVariants as peer
use Rattle.vesgrauf.specs.Members.{is_member, session_in}
use Rattle.vesgrauf.specs.Own.{entry_at}
use Rattle.vesgrauf.specs.Streams.{is_told_over}

-- the session counts whose own stream this is: it is to come, or open
abbrev pub holds_in : Option Entry → Bool
holds_in None = false
holds_in (Some e) = e.has_session

-- ---- a stream that is severed

-- it was reset, or QUIC took its end
abbrev pub is_past : Ending → Bool
is_past Finished = true
is_past (Resetting r) = true
is_past (WasReset r) = true
is_past other = false

-- nothing more is sent: that, or there is no own half
abbrev pub is_out : Writing → Bool
is_out w = is_none w.half || is_past w.queue.ending

-- no content of the peer's half is read any more
abbrev pub is_unread : Peer → Bool → Bool
is_unread peer.Reads is_decoder = is_decoder
is_unread other is_decoder = true

-- it is over for the program, and read no further; or its end came, up to which it is read
abbrev pub is_left : Entry → Bool
is_left e = (is_told_over e.told && is_unread e.peer e.is_decoder) || e.is_ended

-- nothing more is sent on it, and that; or it is forgotten
abbrev pub is_severed : Option Entry → Bool
is_severed None = true
is_severed (Some e) = is_out e.writing && is_left e

-- ---- all streams

-- Each stream of a session is noted as one of it. And, but for the session's own stream: the session counts, or the stream is
-- severed.
pub data Joined (es : List (ℕ × Entry)) (ids : Ids) : Type 0 where
  EachJoined : (noted : (id s : ℕ) → session_in (entry_at es id) ≡ Some s → is_member ids s id ≡ true)
      → (holds : (id s : ℕ) → is_at (nat_cmp s) id ≡ false → session_in (entry_at es id) ≡ Some s
      → (holds_in (entry_at es s) || is_severed (entry_at es id)) ≡ true)
      → Joined es ids

-- there is one way in which they are
pub Joined-prop : (es : List (ℕ × Entry)) (ids : Ids) → IsProp (Joined es ids)
Joined-prop es ids (EachJoined f g) (EachJoined h k) i = EachJoined
    (Π_prop (λ id. Π_prop (λ s. Π_prop (λ at. Bool-set (is_member ids s id) true))) f h i)
    (Π_prop (λ id. Π_prop (λ s. Π_prop (λ not. Π_prop (λ at.
    Bool-set (holds_in (entry_at es s) || is_severed (entry_at es id)) true)))) g k i)

-- each stream of this session is severed, but for its own stream
pub data AreSevered (session : ℕ) (es : List (ℕ × Entry)) : Type 0 where
  EachSevered : ((id : ℕ) → is_at (nat_cmp session) id ≡ false → session_in (entry_at es id) ≡ Some session
      → is_severed (entry_at es id) ≡ true) → AreSevered session es

-- ---- changes

-- an own half on which nothing more was sent stays so
pub data StaysOut (v w : Writing) : Type 0 where
  IsStillOut : (is_out v ≡ true → is_out w ≡ true) → StaysOut v w
