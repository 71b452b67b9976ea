-- What happens on all streams, in any order and in any pieces.
use Rattle.std.proofs.Common.{◌≡◌, ℕ, Bool, true, false, cond, eqb, List, [], ◌∷◌, ◌++◌, refl, sym, ap, ◌∙◌, append_assoc, eq-eqb}
use Rattle.std.proofs.lemmas.List.{map-append}
use Rattle.wtp_connection.specs.declared.connection.Connection.{Connection}
use Rattle.wtp_connection.specs.Streams.{Seen, StreamRun}
use Rattle.wtp_transcripts.specs.Transcript.{read, Held, Event, Came, Outcome, outcome_of, after_seen, happens, Table, with_held, Accepted, Stopped, Datagram, On, Transcript, State, at_stream, next, after, marked, seen_in}
use Rattle.wtp_transcripts.proofs.CutLemmas.{read_cut}

-- ---- tables that agree

same_with : (b : Bool) (h k x y : Held) → h ≡ k → x ≡ y → cond b h x ≡ cond b k y
same_with true h k x y e f = e
same_with false h k x y e f = f

abbrev state_of : Connection → Table → State
state_of c t = record { connection = c; streams = t }

-- an event at streams that agree
outcome_same : (c : Connection) (t u : Table) (n : ℕ) (e : Event) → ((k : ℕ) → t k ≡ u k) → happens c (t n) e ≡ happens c (u n) e
outcome_same c t u n e h = ap (λ (x : Held). happens c x e) (h n)

pub table_same : (t u : Table) (n : ℕ) (x y : Held) → x ≡ y → ((k : ℕ) → t k ≡ u k) → (k : ℕ) → with_held n x t k ≡ with_held n y u k
table_same t u n x y e h k = same_with (eqb n k) x y (t k) (u k) e (h k)

pub same_seen : (steps : Transcript) (c d : Connection) (t u : Table) → c ≡ d → ((k : ℕ) → t k ≡ u k) → seen_in (state_of c t) steps ≡ seen_in (state_of d u) steps
same_seen [] c d t u e h = refl
same_seen (Accepted n ∷ steps) c d t u e h = same_seen steps (next (state_of c t) (Accepted n)).connection (next (state_of d u) (Accepted n)).connection t u (ap (λ (x : Connection). (next (state_of x t) (Accepted n)).connection) e) h
same_seen (Stopped p ∷ steps) c d t u e h = same_seen steps (next (state_of c t) (Stopped p)).connection (next (state_of d u) (Stopped p)).connection t u (ap (λ (x : Connection). (next (state_of x t) (Stopped p)).connection) e) h
same_seen (Datagram bytes ∷ steps) c d t u e h = same_seen steps (next (state_of c t) (Datagram bytes)).connection (next (state_of d u) (Datagram bytes)).connection t u (ap (λ (x : Connection). (next (state_of x t) (Datagram bytes)).connection) e) h
same_seen (On n e ∷ steps) c d t u is h =
    let same : happens c (t n) e ≡ happens d (u n) e = outcome_same c t u n e h ∙ ap (λ (x : Connection). happens x (u n) e) is in
    ap (λ (x : Outcome). marked n x.seen ++ seen_in (state_of (happens c (t n) e).connection (with_held n (happens c (t n) e).held t)) steps) same
    ∙ ap (λ (l : List (ℕ × Seen)). marked n (happens d (u n) e).seen ++ l) (same_seen steps (happens c (t n) e).connection (happens d (u n) e).connection (with_held n (happens c (t n) e).held t) (with_held n (happens d (u n) e).held u) (ap (λ (x : Outcome). x.connection) same) (table_same t u n (happens c (t n) e).held (happens d (u n) e).held (ap (λ (x : Outcome). x.held) same) h))

pub same_after : (steps : Transcript) (c d : Connection) (t u : Table) → c ≡ d → ((k : ℕ) → t k ≡ u k) → (after (state_of c t) steps).connection ≡ (after (state_of d u) steps).connection
same_after [] c d t u e h = e
same_after (Accepted n ∷ steps) c d t u e h = same_after steps (next (state_of c t) (Accepted n)).connection (next (state_of d u) (Accepted n)).connection t u (ap (λ (x : Connection). (next (state_of x t) (Accepted n)).connection) e) h
same_after (Stopped p ∷ steps) c d t u e h = same_after steps (next (state_of c t) (Stopped p)).connection (next (state_of d u) (Stopped p)).connection t u (ap (λ (x : Connection). (next (state_of x t) (Stopped p)).connection) e) h
same_after (Datagram bytes ∷ steps) c d t u e h = same_after steps (next (state_of c t) (Datagram bytes)).connection (next (state_of d u) (Datagram bytes)).connection t u (ap (λ (x : Connection). (next (state_of x t) (Datagram bytes)).connection) e) h
same_after (On n e ∷ steps) c d t u is h =
    let same : happens c (t n) e ≡ happens d (u n) e = outcome_same c t u n e h ∙ ap (λ (x : Connection). happens x (u n) e) is in
    same_after steps (happens c (t n) e).connection (happens d (u n) e).connection (with_held n (happens c (t n) e).held t) (with_held n (happens d (u n) e).held u) (ap (λ (x : Outcome). x.connection) same) (table_same t u n (happens c (t n) e).held (happens d (u n) e).held (ap (λ (x : Outcome). x.held) same) h)

-- ---- a piece is cut

-- what is found by an event, and then by another one of the same stream
abbrev pub and_then : Outcome → Event → Outcome
and_then x e = after_seen x.seen (happens x.connection x.held e)

pub came_cut : (c : Connection) (h : Held) (a b : List ℕ) (fin : Bool) → h.fin ≡ false → happens c h (Came (a ++ b) fin) ≡ and_then (happens c h (Came a false)) (Came b fin)
came_cut c h a b fin e = rw e (
    ap (λ (l : List ℕ). outcome_of fin (read fin c h.stream l)) (sym (append_assoc h.left a b))
    ∙ ap (λ (x : StreamRun). outcome_of fin x) (read_cut fin c h.stream (h.left ++ a) b))

held_same : (n : ℕ) (h : Held) (t : Table) → with_held n h t n ≡ h
held_same n h t = rw (eq-eqb n n refl) refl

set_twice : (n : ℕ) (g h : Held) (t : Table) (k : ℕ) → with_held n h t k ≡ with_held n h (with_held n g t) k
set_twice n g h t k = over (eqb n k) h g (t k)
  where
    over : (b : Bool) (x y z : Held) → cond b x z ≡ cond b x (cond b y z)
    over true x y z = refl
    over false x y z = refl

-- what is found after an event of stream n
abbrev goes : ℕ → Outcome → Table → Transcript → List (ℕ × Seen)
goes n x t steps = marked n x.seen ++ seen_in (state_of x.connection (with_held n x.held t)) steps

abbrev ends : ℕ → Outcome → Table → Transcript → Connection
ends n x t steps = (after (state_of x.connection (with_held n x.held t)) steps).connection

-- an event that does what two do
twice_seen : (n : ℕ) (x y : Outcome) (e : Event) (t : Table) (steps : Transcript) → y ≡ and_then x e → goes n y t steps ≡ marked n x.seen ++ seen_in (state_of x.connection (with_held n x.held t)) (On n e ∷ steps)
twice_seen n x y e t steps is =
    let z : Outcome = happens x.connection x.held e in
    ap (λ (o : Outcome). goes n o t steps) is
    ∙ ap (λ (l : List (ℕ × Seen)). l ++ seen_in (state_of z.connection (with_held n z.held t)) steps) (map-append (λ i. (n, i)) x.seen z.seen)
    ∙ append_assoc (marked n x.seen) (marked n z.seen) (seen_in (state_of z.connection (with_held n z.held t)) steps)
    ∙ ap (λ (l : List (ℕ × Seen)). marked n x.seen ++ (marked n z.seen ++ l)) (same_seen steps z.connection z.connection (with_held n z.held t) (with_held n z.held (with_held n x.held t)) refl (set_twice n x.held z.held t))
    ∙ ap (λ (h : Held). marked n x.seen ++ goes n (happens x.connection h e) (with_held n x.held t) steps) (sym (held_same n x.held t))

twice_after : (n : ℕ) (x y : Outcome) (e : Event) (t : Table) (steps : Transcript) → y ≡ and_then x e → ends n y t steps ≡ (after (state_of x.connection (with_held n x.held t)) (On n e ∷ steps)).connection
twice_after n x y e t steps is =
    let z : Outcome = happens x.connection x.held e in
    ap (λ (o : Outcome). ends n o t steps) is
    ∙ same_after steps z.connection z.connection (with_held n z.held t) (with_held n z.held (with_held n x.held t)) refl (set_twice n x.held z.held t)
    ∙ ap (λ (h : Held). ends n (happens x.connection h e) (with_held n x.held t) steps) (sym (held_same n x.held t))

pub pieces_seen : (x : State) (n : ℕ) (a b : List ℕ) (fin : Bool) (steps : Transcript) → (x.streams n).fin ≡ false → seen_in x (On n (Came (a ++ b) fin) ∷ steps) ≡ seen_in x (On n (Came a false) ∷ On n (Came b fin) ∷ steps)
pieces_seen x n a b fin steps e = twice_seen n (at_stream x n (Came a false)) (at_stream x n (Came (a ++ b) fin)) (Came b fin) x.streams steps (came_cut x.connection (x.streams n) a b fin e)

pub pieces_after : (x : State) (n : ℕ) (a b : List ℕ) (fin : Bool) (steps : Transcript) → (x.streams n).fin ≡ false → (after x (On n (Came (a ++ b) fin) ∷ steps)).connection ≡ (after x (On n (Came a false) ∷ On n (Came b fin) ∷ steps)).connection
pieces_after x n a b fin steps e = twice_after n (at_stream x n (Came a false)) (at_stream x n (Came (a ++ b) fin)) (Came b fin) x.streams steps (came_cut x.connection (x.streams n) a b fin e)
