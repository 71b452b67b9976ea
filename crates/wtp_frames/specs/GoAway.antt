-- Which GOAWAY frames a control stream may have, in the words of RFC 9114, sections 5.2 and 7.2.6.
use Rattle.std.specs.Prelude.{◌≡◌, ℕ, ◌⊎◌}
use Rattle.wtp_frames.specs.Grammar.{Ids, IdsEnd, IdsGoAway, IdsMaxPushId, IdsUnknown}

-- a previous GOAWAY has this ID
abbrev pub IsPrevious : ℕ → Ids → Type 0
IsPrevious n IdsEnd = ⊥
IsPrevious n (IdsGoAway m f ids) = (m ≡ n) ⊎ IsPrevious n ids
IsPrevious n (IdsMaxPushId m f ids) = IsPrevious n ids
IsPrevious n (IdsUnknown id f ids) = IsPrevious n ids
