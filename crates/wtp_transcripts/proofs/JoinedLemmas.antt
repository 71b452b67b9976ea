-- The bytes that come between two events may come at once.
use Rattle.std.proofs.Common.{◌≡◌, ℕ, ◌||◌, Bool, true, false, List, [], ◌∷◌, ◌++◌, refl, ap, subst, ◌∙◌}
use Rattle.std.proofs.lemmas.Bool.{false≢true}
use Rattle.wtp_connection.specs.declared.connection.Connection.{Connection}
use Rattle.wtp_transcripts.specs.Transcript.{Held, Event, Came, Told, Interim, Tunnelled, Reset, Overflowed, Abandoned, Outcome, after_seen, happens, alone, before_all, joined, EndsOnce}
use Rattle.wtp_transcripts.proofs.OnceLemmas.{after_twice, or_twice, came, came_more}

-- two pieces, one after the other
pieces_alone : (events : List Event) (c : Connection) (h : Held) (a b : List ℕ) (old fin : Bool) → ((h.fin || old) ≡ true → b ≡ []) → alone c h (Came (a ++ b) (old || fin) ∷ events) ≡ alone c h (Came a old ∷ Came b fin ∷ events)
pieces_alone events c h a b old fin e =
    let y : Outcome = came c h a old in
    let z : Outcome = happens y.connection y.held (Came b fin) in
    ap (λ (x : Outcome). after_seen x.seen (alone x.connection x.held events)) (came_more c h a b old fin e)
    ∙ after_twice y.seen z.seen (alone z.connection z.held events)

before_alone : (events : List Event) (c : Connection) (h : Held) (bytes : List ℕ) (fin : Bool) → EndsOnce (h.fin || fin) events → alone c h (before_all bytes fin events) ≡ alone c h (Came bytes fin ∷ events)
before_alone [] c h bytes fin e = refl
before_alone (Came more last ∷ events) c h bytes fin e = pieces_alone events c h bytes more fin last e.0
before_alone (other ∷ events) c h bytes fin e = refl

-- no bytes come after the end in the joined ones either
both_none : (a b : List ℕ) → a ≡ [] → b ≡ [] → a ++ b ≡ []
both_none a b e f = ap (λ (l : List ℕ). l ++ b) e ∙ f

ended_or : (old fin : Bool) → old ≡ true → (old || fin) ≡ true
ended_or true fin e = refl
ended_or false fin e = absurd (false≢true e)

before_once : (events : List Event) (bytes : List ℕ) (old fin : Bool) → (old ≡ true → bytes ≡ []) → EndsOnce (old || fin) events → EndsOnce old (before_all bytes fin events)
before_once [] bytes old fin e h = (e, tt)
before_once (Came more last ∷ events) bytes old fin e h = (
  λ is. both_none bytes more (e is) (h.0 (ended_or old fin is)),
  subst (λ (b : Bool). EndsOnce b events) (or_twice old fin last) h.1,
)
before_once (other ∷ events) bytes old fin e h = (e, h)

joined_once : (events : List Event) (old : Bool) → EndsOnce old events → EndsOnce old (joined events)
joined_once [] old h = tt
joined_once (Came bytes fin ∷ events) old h = before_once (joined events) bytes old fin h.0 (joined_once events (old || fin) h.1)
joined_once (Told k ∷ events) old h = joined_once events old h
joined_once (Interim ∷ events) old h = joined_once events old h
joined_once (Tunnelled ∷ events) old h = joined_once events old h
joined_once (Reset ∷ events) old h = joined_once events old h
joined_once (Overflowed ∷ events) old h = joined_once events old h
joined_once (Abandoned ∷ events) old h = joined_once events old h

-- ---- a stream alone

then_same : (x : Outcome) (events more : List Event) → alone x.connection x.held events ≡ alone x.connection x.held more → after_seen x.seen (alone x.connection x.held events) ≡ after_seen x.seen (alone x.connection x.held more)
then_same x events more e = ap (λ (y : Outcome). after_seen x.seen y) e

pub joined_alone : (events : List Event) (c : Connection) (h : Held) → EndsOnce h.fin events → alone c h (joined events) ≡ alone c h events
joined_alone [] c h e = refl
joined_alone (Came bytes fin ∷ events) c h e =
    before_alone (joined events) c h bytes fin (joined_once events (h.fin || fin) e.1)
    ∙ then_same (happens c h (Came bytes fin)) (joined events) events (joined_alone events (happens c h (Came bytes fin)).connection (happens c h (Came bytes fin)).held e.1)
joined_alone (Told k ∷ events) c h e = then_same (happens c h (Told k)) (joined events) events (joined_alone events (happens c h (Told k)).connection (happens c h (Told k)).held e)
joined_alone (Interim ∷ events) c h e = then_same (happens c h Interim) (joined events) events (joined_alone events (happens c h Interim).connection (happens c h Interim).held e)
joined_alone (Tunnelled ∷ events) c h e = then_same (happens c h Tunnelled) (joined events) events (joined_alone events (happens c h Tunnelled).connection (happens c h Tunnelled).held e)
joined_alone (Reset ∷ events) c h e = then_same (happens c h Reset) (joined events) events (joined_alone events (happens c h Reset).connection (happens c h Reset).held e)
joined_alone (Overflowed ∷ events) c h e = then_same (happens c h Overflowed) (joined events) events (joined_alone events (happens c h Overflowed).connection (happens c h Overflowed).held e)
joined_alone (Abandoned ∷ events) c h e = then_same (happens c h Abandoned) (joined events) events (joined_alone events (happens c h Abandoned).connection (happens c h Abandoned).held e)
