-- A stream that arrives piece by piece, and many streams whose pieces arrive in any order.
use Rattle.std.specs.Prelude.{◌≡◌, ℕ, ◌==◌, if◌then◌else◌, List, [], ◌∷◌, ◌++◌, map}
use Rattle.wtp_frames.specs.declared.reader.Reader.{Reader}
use Rattle.wtp_frames.specs.declared.reader.Step.{Step}
use Rattle.wtp_frames.specs.Item.{Item}
use Rattle.wtp_frames.specs.Run.{Run, stays, run}
use Rattle.wtp_frames.specs.Reading.{StepIs, items_of, left_after}

-- ---- one stream

-- what happens at a reader: a piece arrives, after the bytes that are left, or a call returns
pub data Event : Type 0 where
  Came : List ℕ → Event
  Returned : Step → Event

-- These events lead from a reader and the bytes left to those after them.
abbrev pub Leads : List Event → Reader → List ℕ → Reader → List ℕ → Type 0
Leads [] old bytes new rest = (new ≡ old) × (rest ≡ bytes)
Leads (Came piece ∷ events) old bytes new rest = Leads events old (bytes ++ piece) new rest
Leads (Returned step ∷ events) old bytes new rest =
    (mid : Reader) × StepIs step old bytes mid × Leads events mid (left_after step bytes) new rest

-- all bytes that came, joined
abbrev pub bytes_in : List Event → List ℕ
bytes_in [] = []
bytes_in (Came piece ∷ events) = piece ++ bytes_in events
bytes_in (Returned step ∷ events) = bytes_in events

-- all items that were given, where these bytes were left before
abbrev pub given_in : List Event → List ℕ → List Item
given_in [] bytes = []
given_in (Came piece ∷ events) bytes = given_in events (bytes ++ piece)
given_in (Returned step ∷ events) bytes =
    items_of step bytes ++ given_in events (left_after step bytes)

-- ---- many streams

-- the reader of a stream, and the bytes that are left
pub record Held : Type 0 where
  pub reader : Reader
  pub left : List ℕ

-- nothing can be given of what is left
abbrev pub IsStill : Held → Type 0
IsStill h = run h.reader h.left ≡ stays h.reader h.left

-- a stream's reader, by its number
abbrev pub Table : Type 0
Table = ℕ → Held

-- what a piece gives
abbrev pub taken : Held → List ℕ → Run
taken h piece = run h.reader (h.left ++ piece)

abbrev pub held_after : Run → Held
held_after r = record { reader = r.reader; left = r.left }

-- the table after a piece of stream m
abbrev pub with_piece : ℕ → List ℕ → Table → Table
with_piece m piece t = λ n. if m == n then held_after (taken (t m) piece) else t n

-- pieces of streams, in the order in which they arrive
abbrev pub Arrivals : Type 0
Arrivals = List (ℕ × List ℕ)

-- the items that they give, each with its stream
abbrev pub items_due : Table → Arrivals → List (ℕ × Item)
items_due t [] = []
items_due t (a ∷ arrivals) =
    map (λ i. (a.0, i)) (taken (t a.0) a.1).items ++ items_due (with_piece a.0 a.1 t) arrivals

-- the bytes of stream n, joined
abbrev pub bytes_of : ℕ → Arrivals → List ℕ
bytes_of n [] = []
bytes_of n (a ∷ arrivals) = if a.0 == n then a.1 ++ bytes_of n arrivals else bytes_of n arrivals

-- the items of stream n, in their order
abbrev pub items_on : ℕ → List (ℕ × Item) → List Item
items_on n [] = []
items_on n (x ∷ items) = if x.0 == n then x.1 ∷ items_on n items else items_on n items
