-- Calls of one stream, and what they say together, however its bytes are cut.
use Rattle.std.specs.Prelude.{◌≡◌, ◌⊎◌, ℕ, ◌+◌, Bool, false, List, [], ◌∷◌, ◌++◌, map, length, drop}
use Rattle.wtp_messages.specs.declared.malformed.Malformed.TheVariants.{MissingHead, ContentTooLong}
use Rattle.wtp_webtransport.specs.declared.connection.messages.Taken.{Taken}
use Rattle.wtp_webtransport.specs.declared.connection.messages.Taken.TheVariants as taken
use Rattle.wtp_webtransport.specs.declared.stream.Part.{Part}
use Rattle.wtp_webtransport.specs.declared.stream.Part.TheVariants as part
use Rattle.wtp_webtransport.specs.Events.{Told, SessionLost, Data, StreamData, Malformed, StreamError, ConnectionError, End, NoMemory, Waits, More}
use Rattle.wtp_connection.specs.declared.stream.Stream.{Stream as Frames}
use Rattle.wtp_connection.specs.declared.stream.Stream.TheVariants as frames
use Rattle.wtp_connection.specs.Opening.{is_critical}
use Rattle.wtp_webtransport.specs.declared.connection.Connection.{Connection}
use Rattle.wtp_webtransport.specs.declared.stream.Stream.{Stream}
use Rattle.wtp_webtransport.specs.Receiving.{Outcome, Receives}

-- ---- events

-- Which of the rules that a malformed section breaks is named is left open.
abbrev pub ruleless : Told → Told
ruleless (Malformed rule) = Malformed MissingHead
ruleless told = told

abbrev pub ruleless_taken : Taken → Taken
ruleless_taken (taken.Malformed rule) = taken.Malformed MissingHead
ruleless_taken t = t

-- what the caller does after an event: it calls again, with more bytes or after the wait; it is done
-- with the stream; it goes on with the bytes that are left; or it repeats the call
pub data Course : Type 0 where
  Stops : Course
  Finishes : Course
  Continues : Course
  Repeats : Course

abbrev pub course_of : Told → Course
course_of More = Stops
course_of (Waits why) = Stops
course_of NoMemory = Repeats
course_of (Malformed rule) = Finishes
course_of (StreamError f) = Finishes
course_of (ConnectionError f) = Finishes
course_of End = Finishes
course_of SessionLost = Finishes
course_of other = Continues

-- ---- outcomes

-- what a call gives, but for the rule
abbrev pub plain : Outcome → Outcome
plain o = (o.0, ruleless o.1, o.2, o.3)

abbrev pub at_length : Course → ℕ → ℕ → ℕ → ℕ
at_length Finishes n len consumed = len
at_length other n len consumed = n + consumed

-- the same outcome, where n bytes are before those of the call, and len bytes are there in all: an
-- event that finishes the stream consumes all
abbrev pub moved : ℕ → ℕ → Outcome → Outcome
moved n len o = (at_length (course_of o.1) n len o.0, ruleless o.1, o.2, o.3)

-- the call had memory
abbrev pub HasMemory : Outcome → Type 0
HasMemory o = course_of o.1 ≡ Repeats → ⊥

-- the own stream of an open session, whose content has capsules
abbrev pub IsSession : Part → Type 0
IsSession (part.Session size) = Unit {0}
IsSession other = ⊥

-- a piece of content or of a stream of a session, or that the content is too long
abbrev pub IsPiece : Told → Type 0
IsPiece (Data piece) = Unit {0}
IsPiece (StreamData piece) = Unit {0}
IsPiece (Malformed ContentTooLong) = Unit {0}
IsPiece other = ⊥

-- one that is longer by the next one
abbrev pub joined_told : Told → Told → Told
joined_told (Data x) (Data y) = Data (x ++ y)
joined_told (StreamData x) (StreamData y) = StreamData (x ++ y)
joined_told x y = x

-- the outcome of a call, and that of the next one, as one
abbrev pub joined : Outcome → Outcome → Outcome
joined o p = (o.0 + p.0, joined_told o.1 p.1, p.2, p.3)

-- what an event says, byte by byte
abbrev pub each_byte : (List ℕ → Told) → List ℕ → List Told
each_byte f bytes = map (λ b. f (b ∷ [])) bytes

abbrev pub spread : Told → List Told
spread (Data piece) = each_byte Data piece
spread (StreamData piece) = each_byte StreamData piece
spread told = ruleless told ∷ []

-- two calls of which each returned a piece, and one that returned both
pub record Joins (o p q : Outcome) : Type 0 where
  pub goes : course_of p.1 ≡ Continues
  pub is : q ≡ joined o p
  pub bytes : spread q.1 ≡ spread o.1 ++ spread p.1

-- a call that needs more bytes, and changed nothing
pub record Rests (o r : Outcome) : Type 0 where
  pub stops : course_of r.1 ≡ Stops
  pub none : r.0 ≡ 0
  pub connection : r.2 ≡ o.2
  pub stream : r.3 ≡ o.3

-- What a call on the bytes a and b returns, if that on a alone returned a piece: the same; or, if that
-- took all of a, what it and any call on b return together. Without more bytes there is nothing more.
pub data Grown (limit : ℕ) (a b : List ℕ) (fin : Bool) (o q : Outcome) : Type 0 where
  Whole : plain q ≡ moved 0 (length (a ++ b)) o → Grown limit a b fin o q
  Longer : o.0 ≡ length a
      → course_of o.1 ≡ Continues
      → ((p : Outcome) → Receives limit o.2 o.3 b fin p → Joins o p q)
      → ((r : Outcome) → Receives limit o.2 o.3 [] false r → Rests o r)
      → Grown limit a b fin o q

-- a message has frames
abbrev pub HasFrames : Part → Frames → Type 0
HasFrames (part.Head m) (frames.Frames r given) = Unit {0}
HasFrames (part.Body m) (frames.Frames r given) = Unit {0}
HasFrames (part.Head m) other = ⊥
HasFrames (part.Body m) other = ⊥
HasFrames p t = Unit {0}

-- ---- the calls of a stream, one after the other

-- What holds at a call: there is no open session, the stream of a message has frames, and pieces of
-- content come on no stream that must not be closed.
pub record IsCall (limit : ℕ) (c : Connection) (s : Stream) (bytes : List ℕ) (fin : Bool)
    (o : Outcome) : Type 0 where
  pub ordinary : IsSession s.part → ⊥
  pub frames : HasFrames s.part s.frames
  pub gives : Receives limit c s bytes fin o
  pub free : IsPiece o.1 → is_critical o.3.frames ≡ false

-- the caller goes on with the bytes that are left after the first outcomes, and not after the last one
abbrev pub Reads : ℕ → List Outcome → Outcome → Connection → Stream → List ℕ → Bool → Type 0
Reads limit [] z c s bytes fin =
    IsCall limit c s bytes fin z × ((course_of z.1 ≡ Stops) ⊎ (course_of z.1 ≡ Finishes))
Reads limit (o ∷ os) z c s bytes fin =
    IsCall limit c s bytes fin o
    × (course_of o.1 ≡ Continues)
    × Reads limit os z o.2 o.3 (drop o.0 bytes) fin

-- what they say, before the last one and with it
abbrev pub told_before : List Outcome → List Told
told_before [] = []
told_before (o ∷ os) = spread o.1 ++ told_before os

abbrev pub told_all : List Outcome → Outcome → List Told
told_all os z = told_before os ++ spread z.1

-- the bytes that are left
abbrev pub left_of : List Outcome → Outcome → List ℕ → List ℕ
left_of [] z bytes = drop z.0 bytes
left_of (o ∷ os) z bytes = left_of os z (drop o.0 bytes)

-- calls that say this, and end with the states of this outcome
pub record SaysTo (said : List Told) (w : Outcome) (gs : List Outcome) (y : Outcome) : Type 0 where
  pub told : told_all gs y ≡ said
  pub connection : y.2 ≡ w.2
  pub stream : y.3 ≡ w.3
