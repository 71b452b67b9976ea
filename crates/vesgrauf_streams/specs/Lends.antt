-- What a map is once a borrow of one of its values ends.
use Rattle.std.specs.Prelude.{◌≡◌, ℕ, Option}
use Rattle.std.specs.Borrow.{LendsSo, Fml, RattleType, MutBor}
use Rattle.vesgrauf_streams.specs.contracts.map.StreamMap.{the_row}
use Rattle.vesgrauf_streams.specs.Streams.{Streams, WritesThrough}

-- the map behind m has, under the ID, the last value written through r, and is unchanged if r is `None`
abbrev pub lends_get : (V : RattleType) → MutBor (Streams V.Denot) → ℕ → Option (MutBor V.Denot) → Fml
lends_get V m id r = LendsSo (the_row V) V m r (λ n w. WritesThrough m.now id w n) (λ n. n ≡ m.now)
