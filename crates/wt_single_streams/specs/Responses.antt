-- The response of the server to a request (RFC 9114, section 4.3.2).
use Rattle.std.specs.Prelude.{ℕ, List, codes}
use Rattle.wtransport_proto.specs.Field.{Field, put}
use Rattle.wtransport_proto.specs.SessionResponse.{status_alone}

-- the response with this status code and the name of the server
abbrev pub response_with : ℕ → List Field
response_with status = put (status_alone status) (codes "server", codes "an endpoint")
