-- The body of a request.
use Rattle.std.specs.Prelude.{◌≡◌, ℕ, suc, ◌+◌, ◌≤◌, false, List, [], ◌∷◌, length, drop}
use Rattle.wtp_frames.specs.declared.endpoint.Endpoint.{Endpoint}
use Rattle.wtp_frames.specs.declared.endpoint.Side.TheVariants.{Server}
use Rattle.wtp_frames.specs.declared.reader.Reader.{Reader}
use Rattle.wtp_frames.specs.Item.{Item, Byte}
use Rattle.wtp_frames.specs.Run.{run}
use Rattle.wtp_frames.specs.Start.{message_reader}
use Rattle.wt_bench.specs.declared.connection.Progress.{Progress}

-- the number of bytes of DATA
abbrev pub body_size : List Item → ℕ
body_size [] = 0
body_size (Byte b ∷ items) = suc (body_size items)
body_size (other ∷ items) = body_size items

-- the body of a request to a server
abbrev pub server : Endpoint
server = record { side = Server; webtransport = false; datagrams = false; max_section = 65536 }

abbrev pub request_size : List ℕ → ℕ
request_size bytes = body_size (run (message_reader server) bytes).items

-- the body that was read so far, and the rest of it
abbrev pub size_from : Reader → Progress → List ℕ → ℕ
size_from r p bytes = p.body + body_size (run r (drop p.start bytes)).items

pub record IsWithin (p : Progress) (bytes : List ℕ) : Type 0 where
  pub ordered : p.start ≤ p.end
  pub came : p.end ≤ length bytes
  pub read : p.body ≤ p.start

-- a step leaves the size of the whole body as it is
pub record GoesOn (old new : Reader) (p q : Progress) (bytes : List ℕ) : Type 0 where
  pub within : IsWithin q bytes
  pub same : size_from new q bytes ≡ size_from old p bytes
