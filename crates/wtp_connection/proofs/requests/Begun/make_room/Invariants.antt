use Rattle.std.proofs.Common.{◌≡◌, ◌+◌, ◌*◌, ◌<◌, ◌≤◌}
use Rattle.wtp_connection.specs.Requests.{slid_by}
use Rattle.wtp_connection.proofs.requests.Begun.make_room.Given as goal

abbrev pub invariant-words : goal.invariant-words
invariant-words l =
    (slid_by l.past l.fn.self ≡ slid_by l.left l.self)
    × (0 < l.left → l.self.first + 64 * l.left + 512 ≤ l.n)

abbrev pub decreases-words : goal.decreases-words
decreases-words l = l.left
