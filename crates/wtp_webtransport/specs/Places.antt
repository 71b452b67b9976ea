-- Where the bytes of an event are in those that were passed: they end with the last one that is
-- consumed.
use Rattle.std.specs.Prelude.{◌≡◌, ℕ, ◌-◌, ◌≤◌, List, length, take, drop}
use Rattle.wtp_webtransport.specs.Events.{Told, Settings, Frame, Data, StreamData}

-- of the first n bytes these are the last
pub record EndsAt (n : ℕ) (piece bytes : List ℕ) : Type 0 where
  pub within : n ≤ length bytes
  pub size : length piece ≤ n
  pub piece_is : take (length piece) (drop (n - length piece) bytes) ≡ piece

abbrev pub IsPlaced : Told → ℕ → List ℕ → Type 0
IsPlaced (Settings v payload) n bytes = EndsAt n payload bytes
IsPlaced (Frame k payload) n bytes = EndsAt n payload bytes
IsPlaced (Data piece) n bytes = EndsAt n piece bytes
IsPlaced (StreamData piece) n bytes = EndsAt n piece bytes
IsPlaced other n bytes = Unit {0}
