-- The state of a polled read into a buffer.
use Rattle.std.specs.Prelude.{ℕ, List, length, take}
use Rattle.std.specs.Borrow.{GName}
use Rattle.wtp_core.specs.declared.bytes.get.GetBuffer.{GetBuffer}

-- all bytes of the buffer
abbrev pub buffer_of : GetBuffer → List ℕ
buffer_of g = g.buffer.now

-- the bytes received: those of the buffer before the position
abbrev pub taken_of : GetBuffer → List ℕ
taken_of g = take g.filled g.buffer.now

-- the size of the buffer
abbrev pub room_of : GetBuffer → ℕ
room_of g = length g.buffer.now

-- the name of the borrow of the buffer
abbrev pub loan_in : GetBuffer → GName
loan_in g = g.buffer.ghost_name
