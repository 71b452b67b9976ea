-- What datagrams are, wherever they come.
use Rattle.std.proofs.Common.{◌≡◌, ℕ, Bool, true, false, List, [], ◌∷◌, map, None, Ok, refl, sym, ap, ◌∙◌}
use Rattle.wtp_frames.specs.declared.endpoint.Endpoint.{Endpoint}
use Rattle.wtp_connection.specs.declared.connection.Connection.{Connection}
use Rattle.wtp_connection.specs.Datagrams.{Taken, taken}
use Rattle.wtp_transcripts.specs.Transcript.{Step, Accepted, Stopped, Datagram, On, Transcript, State, next, after, datagrams_in, taken_in}
use Rattle.wtp_transcripts.proofs.DatagramLemmas.{taken_over, taken_same}
use Rattle.wtp_transcripts.proofs.IndependentLemmas.{step_endpoint}
use Rattle.wtp_transcripts.proofs.OverLemmas.{next_over, before_step, before_steps}

same_taken : (l : List (List ℕ)) (c d : Connection) → d.over ≡ c.over → d.endpoint ≡ c.endpoint → map (λ b. taken d b) l ≡ map (λ b. taken c b) l
same_taken [] c d o e = refl
same_taken (b ∷ l) c d o e = ap (λ (x : Taken). x ∷ map (λ b. taken d b) l) (taken_same c d b o e) ∙ ap (λ (k : List Taken). taken c b ∷ k) (same_taken l c d o e)

taken_later : (steps : Transcript) (a : Step) (x : State) → (after (next x a) steps).connection.over ≡ false → taken_in (next x a) steps ≡ map (λ b. taken (next x a).connection b) (datagrams_in steps) → taken_in (next x a) steps ≡ map (λ b. taken x.connection b) (datagrams_in steps)
taken_later steps a x o h =
    let goes : (next x a).connection.over ≡ false = before_steps steps (next x a) o in
    h ∙ same_taken (datagrams_in steps) x.connection (next x a).connection (goes ∙ sym (before_step a x goes)) (step_endpoint a x)

-- where no error ends the connection each is what it is at first
pub datagrams_taken : (steps : Transcript) (x : State) → (after x steps).connection.over ≡ false → taken_in x steps ≡ map (λ b. taken x.connection b) (datagrams_in steps)
datagrams_taken [] x o = refl
datagrams_taken (Accepted n ∷ steps) x o = taken_later steps (Accepted n) x o (datagrams_taken steps (next x (Accepted n)) o)
datagrams_taken (Stopped p ∷ steps) x o = taken_later steps (Stopped p) x o (datagrams_taken steps (next x (Stopped p)) o)
datagrams_taken (Datagram bytes ∷ steps) x o = ap (λ (l : List Taken). taken x.connection bytes ∷ l) (taken_later steps (Datagram bytes) x o (datagrams_taken steps (next x (Datagram bytes)) o))
datagrams_taken (On n e ∷ steps) x o = taken_later steps (On n e) x o (datagrams_taken steps (next x (On n e)) o)

-- after one nothing is taken
pub nothing_taken : (steps : Transcript) (x : State) → x.connection.over ≡ true → taken_in x steps ≡ map (λ b. Ok None) (datagrams_in steps)
nothing_taken [] x o = refl
nothing_taken (Accepted n ∷ steps) x o = nothing_taken steps (next x (Accepted n)) (next_over (Accepted n) x o)
nothing_taken (Stopped p ∷ steps) x o = nothing_taken steps (next x (Stopped p)) (next_over (Stopped p) x o)
nothing_taken (Datagram bytes ∷ steps) x o =
    ap (λ (y : Taken). y ∷ taken_in (next x (Datagram bytes)) steps) (taken_over x.connection bytes o)
    ∙ ap (λ (l : List Taken). Ok None ∷ l) (nothing_taken steps (next x (Datagram bytes)) (next_over (Datagram bytes) x o))
nothing_taken (On n e ∷ steps) x o = nothing_taken steps (next x (On n e)) (next_over (On n e) x o)
