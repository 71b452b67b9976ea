-- Runs of the streams whose frames are listed from a buffer.
use Rattle.std.specs.Prelude.{true, List, ℕ}
use Rattle.wt_listings.specs.declared.listing.ListKind.{ListKind}
use Rattle.wt_listings.specs.declared.listing.ListKind.TheVariants.{BiRemote, BiLocal, Control}
use Rattle.wtransport_proto.specs.Rule.{Role, RemoteBi, LocalBi, RemoteUni}
use Rattle.wtransport_proto.specs.Run.{Run, run, MayGoOn}

-- the role of a listed stream
abbrev pub role_of : ListKind → Role
role_of BiRemote = RemoteBi
role_of BiLocal = LocalBi
role_of Control = RemoteUni

-- the run of a recorded stream from its start, where more bytes may follow
abbrev pub recorded_run : ListKind → List ℕ → Run
recorded_run kind input = run (role_of kind) true input MayGoOn
