-- The payload of a datagram is a suffix of its bytes, also in an event of a connection.
use Rattle.std.proofs.Common.{◌≡◌, ℕ, ◌+◌, ◌-◌, not, ◌||◌, if◌then◌else◌, Bool, true, false, List, [], ◌++◌, length, take, drop, Option, Some, None, Result, Ok, Err, MatchResult, length-append, append-nil, refl, sym, ap, ◌∙◌, arith}
use Rattle.std.proofs.lemmas.List.{drop_at, take_at}
use Rattle.wtp_connection.specs.Datagrams.{by_quarter}
use Rattle.wtp_webtransport.specs.declared.connection.Connection.{Connection}
use Rattle.wtp_webtransport.specs.declared.fault.Fault.{Fault}
use Rattle.wtp_webtransport.specs.Joining.{Taken, taken_of, takes}
use Rattle.wtp_webtransport.specs.Places.{EndsAt}
use Rattle.wt_c.specs.ConnectionCalls.{datagram_event, EndsWith}
use Rattle.wt_c.specs.declared.connections.events.WtEvent.{WtEvent}
use Rattle.wtp_core.specs.Reader.{IsRest}
use Rattle.wtp_wire.specs.Datagram.{datagram_in}
use Rattle.wtp_wire.proofs.DatagramLemmas.{defined}

pub payload_is_rest : (id : ℕ) (payload s : List ℕ) → datagram_in s ≡ Some (id, payload) → IsRest payload s
payload_is_rest id payload s e = let d = defined id payload s e in record { taken = d.head; parts = d.parts }

-- ---- in an event of a connection

ends_at : (head payload : List ℕ) → EndsAt (length (head ++ payload)) payload (head ++ payload)
ends_at head payload = record {
  within = omega arith;
  size = omega (arith, length-append head payload);
  piece_is =
      ap (λ (s : List ℕ). take (length payload) s) (drop_at head payload (length (head ++ payload) - length payload) (omega (arith, length-append head payload)))
      ∙ ap (λ (s : List ℕ). take (length payload) s) (sym (append-nil payload)) ∙ take_at payload [] (length payload) refl;
}

quarter_ends : (bytes : List ℕ) (x : Option (ℕ × List ℕ)) → datagram_in bytes ≡ x → EndsWith bytes (taken_of (by_quarter x))
quarter_ends bytes None e = tt
quarter_ends bytes (Some d) e = let rest = payload_is_rest d.0 d.1 bytes e in rw rest.parts (ends_at rest.taken d.1)

unless_off : (b : Bool) (bytes : List ℕ) → EndsWith bytes (taken_of (if b then Ok None else by_quarter (datagram_in bytes)))
unless_off true bytes = tt
unless_off false bytes = quarter_ends bytes (datagram_in bytes) refl

unless_over : (b off : Bool) (bytes : List ℕ) → EndsWith bytes (if b then Ok None else taken_of (if off then Ok None else by_quarter (datagram_in bytes)))
unless_over true off bytes = tt
unless_over false off bytes = unless_off off bytes

pub payload_is_end : (c : Connection) (bytes : List ℕ) → EndsWith bytes (takes c bytes)
payload_is_end c bytes = unless_over c.over (c.streams.over || not c.streams.endpoint.datagrams) bytes

pub event_taken : {A : Type 0} → (r : Result (Option A) Fault) (view : Option A → Option (ℕ × List ℕ)) (t : Taken) (event : WtEvent) (end : ℕ)
    → MatchResult r (λ d. t ≡ Ok (view d)) (λ f. t ≡ Err f)
    → MatchResult r (λ d. event ≡ datagram_event (Ok (view d)) end) (λ f. event ≡ datagram_event (Err f) end)
    → event ≡ datagram_event t end
event_taken {A} (Ok d) view t event end took is = is ∙ ap (λ (x : Taken). datagram_event x end) (sym took)
event_taken {A} (Err f) view t event end took is = is ∙ ap (λ (x : Taken). datagram_event x end) (sym took)
