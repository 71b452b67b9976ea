-- What is true of all runs.
use Rattle.std.specs.Prelude.{◌≡◌, ◌⊎◌, ℕ, ◌+◌, ◌≤◌, ◌||◌, not, Bool, true, false, List, [], ◌∷◌, ◌++◌, length, Option, Some, None}
use Rattle.vesgrauf_queue.specs.Steps.{Step, Queues, Refuses, Finishes, Resets, Puts, PutsReset, Acknowledges, Tells}

-- all bytes that were queued, in order
abbrev pub queued : List Step → List ℕ
queued [] = []
queued (Queues bytes room ∷ xs) = bytes ++ queued xs
queued (x ∷ xs) = queued xs

-- all bytes that QUIC took, in order
abbrev pub put : List Step → List ℕ
put [] = []
put (Puts bytes fin ∷ xs) = bytes ++ put xs
put (x ∷ xs) = put xs

-- how many bytes were acknowledged
abbrev pub acked : List Step → ℕ
acked [] = 0
acked (Acknowledges n ∷ xs) = n + acked xs
acked (x ∷ xs) = acked xs

-- whether a call finished the stream
abbrev pub finished : List Step → Bool
finished [] = false
finished (Finishes ∷ xs) = true
finished (x ∷ xs) = finished xs

-- whether a call reset it
abbrev pub was_reset : List Step → Bool
was_reset [] = false
was_reset (Resets code size ∷ xs) = true
was_reset (x ∷ xs) = was_reset xs

-- whether QUIC took the end
abbrev pub fin_put : List Step → Bool
fin_put [] = false
fin_put (Puts bytes true ∷ xs) = true
fin_put (x ∷ xs) = fin_put xs

-- Nothing is put after the end but a reset, and nothing after a reset that was put.
abbrev pub PutsInOrder : (ended over : Bool) → List Step → Type 0
PutsInOrder ended over [] = Unit {0}
PutsInOrder ended over (Puts bytes fin ∷ xs) =
    ((ended || over) ≡ true → (bytes ≡ []) × (fin ≡ false)) × PutsInOrder (ended || fin) over xs
PutsInOrder ended over (PutsReset code size ∷ xs) = (over ≡ false) × PutsInOrder ended true xs
PutsInOrder ended over (x ∷ xs) = PutsInOrder ended over xs

-- A reset is put only after a call asked for it with this code, and after the bytes that are to be reliable.
abbrev pub ResetsFor : (asked : List ℕ) → (sent : ℕ) → List Step → Type 0
ResetsFor asked sent [] = Unit {0}
ResetsFor asked sent (Resets code size ∷ xs) = ResetsFor (code ∷ asked) sent xs
ResetsFor asked sent (Puts bytes fin ∷ xs) = ResetsFor asked (sent + length bytes) xs
ResetsFor asked sent (PutsReset code size ∷ xs) = (asked ≡ code ∷ []) × (size ≤ sent) × ResetsFor asked sent xs
ResetsFor asked sent (x ∷ xs) = ResetsFor asked sent xs

-- After a reset that keeps `size` bytes, none beyond them are put.
abbrev pub StaysWithin : (limit : Option ℕ) → (sent : ℕ) → List Step → Type 0
StaysWithin limit sent [] = Unit {0}
StaysWithin limit sent (Resets code size ∷ xs) = StaysWithin (Some size) sent xs
StaysWithin (Some size) sent (Puts bytes fin ∷ xs) =
    ((bytes ≡ []) ⊎ (sent + length bytes ≤ size)) × (fin ≡ false) × StaysWithin (Some size) (sent + length bytes) xs
StaysWithin None sent (Puts bytes fin ∷ xs) = StaysWithin None (sent + length bytes) xs
StaysWithin limit sent (x ∷ xs) = StaysWithin limit sent xs

-- A `Writable` is owed: no room was left or a call was refused, and none was told since.
abbrev pub owed_after : Bool → List Step → Bool
owed_after owed [] = owed
owed_after owed (Queues bytes room ∷ xs) = owed_after (owed || not room) xs
owed_after owed (Refuses ∷ xs) = owed_after true xs
owed_after owed (Tells ∷ xs) = owed_after false xs
owed_after owed (x ∷ xs) = owed_after owed xs
