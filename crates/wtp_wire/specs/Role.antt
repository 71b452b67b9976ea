-- The roles of streams, as used by the rules.
use Rattle.wtp_wire.specs.Rule.{Role, RemoteBi, LocalBi, RemoteUni, InSession}
use Rattle.wtp_wire.specs.declared.rules.StreamRole.{StreamRole}
use Rattle.wtp_wire.specs.declared.rules.StreamRole.TheVariants.{BiRemote, BiLocal, UniRemote, Session}

-- the role of a stream, as a case of the rules
abbrev pub role_of : StreamRole → Role
role_of BiRemote = RemoteBi
role_of BiLocal = LocalBi
role_of UniRemote = RemoteUni
role_of Session = InSession
