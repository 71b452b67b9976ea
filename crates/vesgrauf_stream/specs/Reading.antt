-- The peer's half of one stream: the bytes that came, and what is heard in them.
use Rattle.std.specs.Prelude.{◌≡◌, ℕ, ◌≤◌, ◌<◌, ◌==◌, ◌&&◌, ◌||◌, ◌↔◌, IsTrue, Bool, List, [], ◌++◌, length, take, drop}
use Rattle.wtp_webtransport.specs.declared.connection.Connection.{Connection}
use Rattle.wtp_webtransport.specs.declared.stream.Stream.{Stream}
use Rattle.wtp_webtransport.specs.Events.{Told, told_of}
use Rattle.wtp_webtransport.specs.Events as told
use Rattle.wtp_webtransport.specs.Tables.{Call}
use Rattle.vesgrauf_stream.specs.declared.bytes.Bytes.{Bytes}
use Rattle.vesgrauf_stream.specs.declared.bytes.Bytes.TheVariants.{Input, Kept}
use Rattle.vesgrauf_stream.specs.declared.bytes.Chunk.{Chunk}
use Rattle.vesgrauf_stream.specs.declared.heard.Heard.{Heard}
use Rattle.vesgrauf_stream.specs.declared.heard.Heard.TheVariants as heard
use Rattle.vesgrauf_stream.specs.declared.reading.Reading.{Reading}
use Rattle.vesgrauf_stream.specs.declared.reading.Looked.{Looked}
use Rattle.vesgrauf_stream.specs.declared.reading.Found.{Found}
use Rattle.vesgrauf_stream.specs.declared.reading.Found.TheVariants as found

-- ---- what is heard

abbrev pub bytes_of : Bytes → List ℕ
bytes_of (Input bytes) = bytes.now
bytes_of (Kept bytes) = bytes.items

-- what it says of its stream
abbrev pub told_in : Heard → Told
told_in (heard.Data bytes) = told.Data (bytes_of bytes)
told_in (heard.StreamData bytes) = told.StreamData (bytes_of bytes)
told_in (heard.Frame kind payload) = told.Frame kind (bytes_of payload)
told_in (heard.Event event) = told_of event

-- SETTINGS say all that they define without their payload
abbrev pub without_payload : Told → Told
without_payload (told.Settings settings payload) = told.Settings settings []
without_payload say = say

-- the bytes of the stream to which it refers, but for the payload of SETTINGS
abbrev pub piece_of : Told → List ℕ
piece_of (told.Frame kind payload) = payload
piece_of (told.Data piece) = piece
piece_of (told.StreamData piece) = piece
piece_of say = []

-- ---- the bytes of a stream that came and were not read

-- those that are kept
abbrev pub kept_of : Reading → List ℕ
kept_of r = drop r.used r.buffer.items

-- those that are kept, and then those of the input
abbrev pub unread : Reading → Chunk → List ℕ
unread r input = kept_of r ++ input.bytes.now

-- the stream ends after them
abbrev pub is_ended : Reading → Chunk → Bool
is_ended r input = r.ended || input.fin

-- ---- one call

-- what the layer below gives of these bytes
pub record LooksAt (limit : ℕ) (c : Connection) (s : Stream) (bytes : List ℕ) (fin : Bool) (x : Looked)
    (d : Connection) (t : Stream) : Type 0 where
  pub say : Told
  pub gives : Call limit c s bytes fin (x.consumed, say, d, t)
  pub heard : told_in x.heard ≡ without_payload say
  pub more : IsTrue x.more ↔ (say ≡ told.More)

-- it is said, and that more is needed only of all bytes; or there is more to look at
abbrev pub Says : Found → Told → ℕ → ℕ → Type 0
Says (found.Heard h) say reach all = (told_in h ≡ without_payload say) × (say ≡ told.More → reach ≡ all)
Says found.Again say reach all = (say ≡ told.More) × (reach < all)

-- What the layer below gives of the first bytes that were not read, by whether the stream ends after them; and
-- all others are still to be read.
pub record Hears (limit : ℕ) (c : Connection) (r : Reading) (input : Chunk) (result : Found)
    (d : Connection) (s : Reading) (rest : Chunk) : Type 0 where
  -- how many bytes are looked at, how many of them are read, and what is said
  pub reach : ℕ
  pub consumed : ℕ
  pub say : Told
  pub within : reach ≤ length (unread r input)
  pub gives : Call limit c r.stream (take reach (unread r input))
      (reach == length (unread r input) && is_ended r input) (consumed, say, d, s.stream)
  pub says : Says result say reach (length (unread r input))
  pub left : unread s rest ≡ drop consumed (unread r input)
  pub ends : is_ended s rest ≡ is_ended r input

-- nothing changed
pub record IsUntouched (c : Connection) (r : Reading) (input : Chunk) (d : Connection) (s : Reading)
    (rest : Chunk) : Type 0 where
  pub connection : d ≡ c
  pub stream : s.stream ≡ r.stream
  pub kept : kept_of s ≡ kept_of r
  pub ended : s.ended ≡ r.ended
  pub bytes : rest.bytes.now ≡ input.bytes.now
  pub fin : rest.fin ≡ input.fin

-- the bytes that are kept, and whether the stream ends after them, are the same
pub record IsStill (r s : Reading) : Type 0 where
  pub kept : kept_of s ≡ kept_of r
  pub ended : s.ended ≡ r.ended

-- all bytes are kept, and none are left of the input
pub record Keeps (r : Reading) (input : Chunk) (s : Reading) (rest : Chunk) : Type 0 where
  pub stream : s.stream ≡ r.stream
  pub kept : kept_of s ≡ unread r input
  pub ended : s.ended ≡ is_ended r input
  pub nothing : rest.bytes.now ≡ []
  pub fin : rest.fin ≡ input.fin
