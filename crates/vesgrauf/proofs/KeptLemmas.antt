-- The bytes that are kept of each stream, over runs.
use Rattle.std.proofs.Common.{◌≡◌, ◌<◌, ℕ, Bool, List, [], ◌∷◌, length, sym, subst, arith}
use Rattle.wtp_webtransport.specs.declared.stream.Stream.{Stream}
use Rattle.vesgrauf.specs.declared.connection.Connection.{Connection}
use Rattle.vesgrauf.specs.Bounds.{AllFit, Fits, IsBounded, most_kept}
use Rattle.vesgrauf.specs.Kept.{KeepsKept, Reads, Leaves, AllKeep}
use Rattle.vesgrauf.specs.Theirs.{Unread}
use Rattle.vesgrauf.proofs.BoundLemmas.{left_all}

config_of : (c d : Connection) → KeepsKept c d → d.config ≡ c.config
config_of c d (Reads e b) = e
config_of c d (Leaves e l) = e

bounded_by : (c d : Connection) → KeepsKept c d → IsBounded c → IsBounded d
bounded_by c d (Reads e b) p = b p
bounded_by c d (Leaves e l) p = subst (λ a. AllFit (most_kept a) d.streams.entries) (sym e)
    (left_all (most_kept c.config) c.streams.entries d.streams.entries l p)

-- one call after the other
pub all_keep : (calls : List Connection) (c d : Connection) → IsBounded c → AllKeep calls c d
    → AllFit (most_kept c.config) d.streams.entries
all_keep [] c d p h = subst (λ x. AllFit (most_kept c.config) x.streams.entries) (sym h) p
all_keep (m ∷ calls) c d p h = subst (λ a. AllFit (most_kept a) d.streams.entries) (config_of c m h.0)
    (all_keep calls m d (bounded_by c m h.0 p) h.1)

-- one byte more is refused
pub too_many_kept : (most : ℕ) (bytes : List ℕ) (ended : Bool) (at : Stream) → most < length bytes
    → Fits most (Unread bytes ended at) → ⊥
too_many_kept most bytes ended at h fits = omega (arith, h, fits)
