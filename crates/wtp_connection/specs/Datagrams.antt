-- HTTP datagrams of a connection (RFC 9297, section 2; WebTransport over HTTP/3, "Datagrams").
use Rattle.std.specs.Prelude.{ℕ, ◌*◌, ◌||◌, not, if◌then◌else◌, List, Option, Some, None, Result, Ok, Err}
use Rattle.wtp_wire.specs.Datagram.{datagram_in}
use Rattle.wtp_connection.specs.declared.fault.Fault.{Fault}
use Rattle.wtp_connection.specs.declared.fault.Fault.TheVariants as fault
use Rattle.wtp_connection.specs.declared.connection.Connection.{Connection}
use Rattle.wtp_connection.specs.declared.connection.Known.{Known}
use Rattle.wtp_connection.specs.declared.connection.Known.TheVariants as known
use Rattle.wtp_connection.specs.declared.connection.datagrams.DatagramFor.{DatagramFor}
use Rattle.wtp_connection.specs.declared.connection.datagrams.DatagramFor.TheVariants.{Deliver, Early, Discard, EndStream}
use Rattle.wtp_connection.specs.Streams.{closed_by}

-- a session's ID and a payload, or nothing; or an error of the connection
abbrev pub Taken : Type 0
Taken = Result (Option (ℕ × List ℕ)) Fault

-- a datagram has a quarter of the ID of its session's stream (RFC 9297, section 2.1)
abbrev pub by_quarter : Option (ℕ × List ℕ) → Taken
by_quarter None = Err fault.Datagram
by_quarter (Some d) = Ok (Some (4 * d.0, d.1))

-- The payload of a QUIC datagram. Nothing is taken after an error of the connection, and where the own
-- SETTINGS do not enable datagrams (RFC 9297, section 2.1.1).
abbrev pub taken : Connection → List ℕ → Taken
taken c bytes =
    if c.over || not c.endpoint.datagrams then Ok None else by_quarter (datagram_in bytes)

abbrev pub after_taken : Connection → Taken → Connection
after_taken c (Ok d) = c
after_taken c (Err f) = closed_by c f

-- what is to be done with a datagram, by what is known of its session (RFC 9297, sections 2 and 2.1)
abbrev pub datagram_for : Known → DatagramFor
datagram_for known.Coming = Early
datagram_for known.Open = Deliver
datagram_for known.Over = Discard
datagram_for known.Refused = Discard
datagram_for known.Other = EndStream
datagram_for known.Impossible = Discard
