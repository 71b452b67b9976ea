-- What becomes of the streams of a session that is over (draft-ietf-webtrans-http3-02, section 5).
use Rattle.std.specs.Prelude.{◌≡◌, ◌==◌, ◌&&◌, ◌++◌, ℕ, Bool, true, false, List, [], ◌∷◌, Option, None, Some}
use Rattle.std.specs.Ordering.{nat_cmp}
use Rattle.std.specs.BTreeMap.{is_at}
use Rattle.vesgrauf.specs.declared.connection.Connection.{Connection}
use Rattle.vesgrauf.specs.declared.connection.ids.Ids.{Ids}
use Rattle.vesgrauf.specs.declared.entry.Entry.{Entry}
use Rattle.vesgrauf.specs.declared.entry.Peer.{Peer}
use Rattle.vesgrauf.specs.declared.entry.Peer.TheVariants as peer
use Rattle.vesgrauf.specs.declared.output.Output.{Output}
use Rattle.vesgrauf.specs.declared.output.Output.TheVariants as output
use Rattle.vesgrauf.specs.Joined.{holds_in}
use Rattle.vesgrauf.specs.Members.{DropsAt, is_member, session_in}
use Rattle.vesgrauf.specs.Own.{Over, own_in, is_sent, entry_at}
use Rattle.vesgrauf.specs.Streams.{is_told_over}
use Rattle.vesgrauf.specs.Theirs.{Gone, theirs_in}
use Rattle.vesgrauf.specs.Told.{AreOthers}

-- nothing more is sent on a stream: it was reset, or QUIC took its end, or it has no own half
pub data IsOwnOver : Option Entry → Type 0 where
  WasReset : {x : Option Entry} → own_in x ≡ Over → IsOwnOver x
  WasSent : {x : Option Entry} → is_sent x ≡ true → IsOwnOver x

-- the program is told nothing more of it: its last event was told, or is queued; or there is no stream
abbrev pub is_over_in : Option Entry → Bool
is_over_in None = true
is_over_in (Some e) = is_told_over e.told

abbrev pub is_read : Peer → Bool
is_read peer.Reads = true
is_read other = false

-- the end of the peer's half came, which is read
abbrev pub is_read_out : Option Entry → Bool
is_read_out None = false
is_read_out (Some e) = is_read e.peer && e.is_ended

-- Shut: it is over for the program, nothing more is sent on it, and it is read no further. ReadsOut: nothing more is sent on
-- it, and its end came, up to which it is read.
pub data IsCut : Option Entry → Type 0 where
  Shut : {x : Option Entry} → IsOwnOver x → is_over_in x ≡ true → theirs_in x ≡ Gone → IsCut x
  ReadsOut : {x : Option Entry} → IsOwnOver x → is_read_out x ≡ true → IsCut x

-- each stream that was noted as one of this session is cut
pub data MembersCut (session : ℕ) (ids : Ids) (fs : List (ℕ × Entry)) : Type 0 where
  EachCut : ((id : ℕ) → is_member ids session id ≡ true → IsCut (entry_at fs id)) → MembersCut session ids fs

-- each stream of this session is, but for its own stream
pub data AreCut (session : ℕ) (es fs : List (ℕ × Entry)) : Type 0 where
  AllCut : ((id : ℕ) → is_at (nat_cmp session) id ≡ false → session_in (entry_at es id) ≡ Some session
      → IsCut (entry_at fs id)) → AreCut session es fs

-- ---- steps about one stream

-- No other stream changes, nor of which session it is. If this one was over for the program, or nothing more was sent on it, or
-- no session counts whose own stream it is, that stays so.
pub data AloneAt : (id : ℕ) (es : List (ℕ × Entry)) (ids : Ids) (fs : List (ℕ × Entry)) (jds : Ids) → Type 0 where
  IsAlone : {id : ℕ} {es : List (ℕ × Entry)} {ids : Ids} {fs : List (ℕ × Entry)} {jds : Ids}
      → (others : AreOthers id es fs) → (members : DropsAt id ids jds)
      → (told : is_over_in (entry_at es id) ≡ true → is_over_in (entry_at fs id) ≡ true)
      → (own : IsOwnOver (entry_at es id) → IsOwnOver (entry_at fs id))
      → (holds : holds_in (entry_at es id) ≡ false → holds_in (entry_at fs id) ≡ false)
      → AloneAt id es ids fs jds

abbrev pub Alone : ℕ → Connection → Connection → Type 0
Alone id c d = AloneAt id c.streams.entries c.ids d.streams.entries d.ids

-- ---- what QUIC is asked

-- a reset or a stop of this stream with this code, or to extend its windows
abbrev pub is_end : (id code : ℕ) → Output → Bool
is_end id code (output.Reset k n) = k == id && n == code
is_end id code (output.StopSending k n) = k == id && n == code
is_end id code (output.Credit k n) = k == id
is_end id code other = false

-- of what QUIC is to do, more of that is queued, or nothing
pub data Asks (id code : ℕ) : List Output → List Output → Type 0 where
  AsksNothing : {os : List Output} → Asks id code os os
  AsksMore : {os rs : List Output} → (o : Output) → Asks id code os rs → is_end id code o ≡ true
      → Asks id code os (rs ++ (o ∷ []))
