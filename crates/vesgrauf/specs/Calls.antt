-- Runs of a connection: any calls from its beginning, and what the program is told of a stream.
use Rattle.std.specs.Prelude.{◌≡◌, ◌==◌, ◌||◌, ◌++◌, ℕ, Bool, true, false, List, [], ◌∷◌}
use Rattle.vesgrauf.specs.declared.connection.Connection.{Connection}
use Rattle.vesgrauf.specs.declared.event.Event.{Event}
use Rattle.vesgrauf.specs.Told.{Word, Says, Closes, GoesOn, Sound, knows}

-- A call tells these events, maybe none. Or it opens a stream, and returns this ID.
pub data Call : Type 0 where
  Tells : (said : List Event) → Call
  Opens : (id : ℕ) → Call

abbrev pub Does : Call → Connection → Connection → Type 0
Does (Tells said) c d = GoesOn said c d
Does (Opens id) c d = GoesOn [] c d × (knows d id ≡ true)

-- these calls lead from one state to the other
abbrev pub Leads : List Call → Connection → Connection → Type 0
Leads [] c d = d ≡ c
Leads (x ∷ xs) c d = (m : Connection) × Does x c m × Leads xs m d

-- no event is queued, and there was each stream of which there is an entry
pub record Starts (c : Connection) : Type 0 where
  pub events : c.events.items ≡ []
  pub sound : Sound c.streams.entries c.ids

-- a run from the beginning
abbrev pub Run : List Call → Connection → Type 0
Run calls d = (c : Connection) × Starts c × Leads calls c d

-- all events that the calls told, in order
abbrev pub told_in_all : List Call → List Event
told_in_all [] = []
told_in_all (Tells said ∷ xs) = said ++ told_in_all xs
told_in_all (Opens id ∷ xs) = told_in_all xs

-- whether one opened this stream
abbrev pub opened_in : ℕ → List Call → Bool
opened_in id [] = false
opened_in id (Tells said ∷ xs) = opened_in id xs
opened_in id (Opens j ∷ xs) = j == id || opened_in id xs

-- nothing follows the last word
abbrev pub EndsOnce : List Word → Type 0
EndsOnce [] = Unit {0}
EndsOnce (Closes ∷ ws) = ws ≡ []
EndsOnce (w ∷ ws) = EndsOnce ws

-- there is something of the stream
abbrev pub says : List Word → Bool
says [] = false
says (Says ∷ ws) = true
says (w ∷ ws) = says ws

-- it is over
abbrev pub closes : List Word → Bool
closes [] = false
closes (Closes ∷ ws) = true
closes (w ∷ ws) = closes ws
