-- The body of a frame: its payload or session ID, in every form in which it is stored.
use Rattle.std.specs.Prelude.{ℕ, List, [], take, Option, Some, None}
use Rattle.wtp_wire.specs.declared.frame.body.Body.{Body}
use Rattle.wtp_wire.specs.declared.frame.body.Body.TheVariants as body

-- the payload, which is empty if there is a session ID in its place
abbrev pub payload_of : Body → List ℕ
payload_of (body.Borrowed bytes) = bytes.now
payload_of (body.Owned bytes) = bytes.items
payload_of (body.Short len room) = take len room
payload_of (body.Session id) = []

-- the session ID, if there is one
abbrev pub session_of : Body → Option ℕ
session_of (body.Borrowed bytes) = None
session_of (body.Owned bytes) = None
session_of (body.Short len room) = None
session_of (body.Session id) = Some id
