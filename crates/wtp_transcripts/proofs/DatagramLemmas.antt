-- Datagrams between the events of streams.
use Rattle.std.proofs.Common.{◌≡◌, ℕ, ◌||◌, not, Bool, true, false, cond, List, None, Ok, refl, ap, ◌∙◌}
use Rattle.std.proofs.lemmas.Bool.{false≢true}
use Rattle.wtp_frames.specs.declared.endpoint.Endpoint.{Endpoint}
use Rattle.wtp_connection.specs.declared.connection.Connection.{Connection}
use Rattle.wtp_connection.specs.Datagrams.{Taken, taken, after_taken}

-- after an error of the connection nothing is taken
pub taken_over : (c : Connection) (bytes : List ℕ) → c.over ≡ true → taken c bytes ≡ Ok None
taken_over c bytes e = none_taken (c.over || not c.endpoint.datagrams) _ (ap (λ (b : Bool). b || not c.endpoint.datagrams) e)
  where
    none_taken : (b : Bool) (x : Taken) → b ≡ true → cond {A = Taken} b (Ok None) x ≡ Ok None
    none_taken true x h = refl
    none_taken false x h = absurd (false≢true h)

pub datagram_over : (c : Connection) (bytes : List ℕ) → c.over ≡ true → (after_taken c (taken c bytes)).over ≡ true
datagram_over c bytes e = ap (λ (x : Taken). (after_taken c x).over) (taken_over c bytes e) ∙ e

-- what a datagram is depends on the endpoint alone, and on whether the connection goes on
pub taken_same : (c d : Connection) (bytes : List ℕ) → d.over ≡ c.over → d.endpoint ≡ c.endpoint → taken d bytes ≡ taken c bytes
taken_same c d bytes o e = same_cond (c.over || not c.endpoint.datagrams) (d.over || not d.endpoint.datagrams) _ (
    ap (λ (b : Bool). b || not d.endpoint.datagrams) o
    ∙ ap (λ (x : Endpoint). c.over || not x.datagrams) e)
  where
    same_cond : (a b : Bool) (x : Taken) → b ≡ a → cond {A = Taken} b (Ok None) x ≡ cond {A = Taken} a (Ok None) x
    same_cond a b x h = ap (λ (k : Bool). cond {A = Taken} k (Ok None) x) h
