-- What may be sent of a session of WebTransport (draft-ietf-webtrans-http3-02, sections 4 and 5;
-- RFC 9297, sections 2.1 and 3.2).
use Rattle.std.specs.Prelude.{◌≡◌, ℕ, ◌/◌, nat_lt, if◌then◌else◌, List, length, Result, Ok, Err}
use Rattle.wtp_core.specs.Varint.{shortest}
use Rattle.wtp_wire.specs.CloseSession.{close_wire}
use Rattle.wtp_wire.specs.Content.{DataOf}
use Rattle.wtp_wire.specs.Wire.{wire}
use Rattle.wtp_sending.specs.declared.error.SendError.{SendError}
use Rattle.wtp_sending.specs.declared.error.SendError.TheVariants as error
use Rattle.wtp_sending.specs.declared.message.Place.{Place}
use Rattle.wtp_sending.specs.declared.message.Place.TheVariants.{Session}
use Rattle.wtp_sending.specs.declared.message.Sending.{Sending}
use Rattle.wtp_sending.specs.Message.{ended}
use Rattle.wtp_sending.specs.Writing.{two_numbers}

-- the session is open: then streams, datagrams and capsules of it may be sent
abbrev pub in_session : Place → Result (Unit {0}) SendError
in_session Session = Ok tt
in_session other = Err error.Unexpected

-- the first bytes of a unidirectional stream of the session: its type and the session ID
abbrev pub uni_head : ℕ → List ℕ
uni_head session = two_numbers 0x54 session

-- the first bytes of a bidirectional stream of the session
abbrev pub bi_head : ℕ → List ℕ
bi_head session = two_numbers 0x41 session

-- the first bytes of a datagram of the session, before its payload
abbrev pub datagram_head : ℕ → List ℕ
datagram_head session = shortest (session / 4)

-- a DATA frame with the capsule that announces the end of the session, whose value is empty
abbrev pub drain_wire : List ℕ
drain_wire = wire (DataOf (two_numbers 0x78ae 0))

-- a DATA frame with the capsule that closes the session, with this code and reason
abbrev pub close_data : ℕ → List ℕ → List ℕ
close_data code reason = wire (DataOf (close_wire (code, reason)))

-- after it the stream ends; a reason has at most 1024 bytes
abbrev pub by_reason : Sending → List ℕ → Result (Unit {0}) SendError → Result Sending SendError
by_reason s reason (Ok u) =
    if nat_lt 1024 (length reason) then Err error.TooLarge else Ok (ended s)
by_reason s reason (Err e) = Err e

-- after the capsule that closes the session, or why it may not be sent
abbrev pub after_close : Sending → List ℕ → Result Sending SendError
after_close s reason = by_reason s reason (in_session s.place)
