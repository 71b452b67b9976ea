-- Priorities and the order of streams (RFC 9218, sections 4 and 10).
use Rattle.std.specs.Prelude.{ℕ, ◌+◌, ◌*◌, ◌%◌, ◌==◌, min, nat_lt, if◌then◌else◌, ◌&&◌, ◌||◌, Bool}
use Rattle.vesgrauf_ready.specs.declared.rank.Rank.{Rank}
use Rattle.vesgrauf_ready.specs.declared.rank.Kind.{Kind}
use Rattle.vesgrauf_ready.specs.declared.rank.Kind.TheVariants.{Critical, Message}

-- The class of a stream. Critical streams are the first; then each urgency has two, of which the second
-- is incremental (sections 4.1 and 4.2).
abbrev pub class_of : Kind → ℕ
class_of Critical = 0
class_of (Message priority) =
    2 * min priority.urgency 7 + (if priority.incremental then 2 else 1)

abbrev pub rank_of : ℕ → Kind → Rank
rank_of id kind = record { class = class_of kind; id = id }

-- the streams of the class share the bandwidth
abbrev pub is_shared : ℕ → Bool
is_shared class = nat_lt 0 class && class % 2 == 0

-- a goes before b: by the class, and in a class by the ID, which is the order of the requests (section 10)
abbrev pub before : Rank → Rank → Bool
before a b = nat_lt a.class b.class || (a.class == b.class && nat_lt a.id b.id)

abbrev pub is_same : Rank → Rank → Bool
is_same a b = a.class == b.class && a.id == b.id
