-- The limits of the configuration, and what counts towards them.
use Rattle.std.specs.Prelude.{◌≡◌, ◌≤◌, ◌<◌, ◌+◌, ◌-◌, ◌^◌, ℕ, max}
use denote.Struct.Props as logic
use Rattle.wtp_connection.specs.declared.budget.RequestBudget.{RequestBudget}
use Rattle.wtp_frames.specs.declared.endpoint.Side.{Side}
use Rattle.wtp_frames.specs.declared.endpoint.Side.TheVariants.{Client, Server}
use Rattle.vesgrauf.specs.declared.config.Config.{Config}
use Rattle.vesgrauf.specs.declared.connection.ids.Ids.{Ids}
use Rattle.vesgrauf.specs.declared.output.StreamKind.TheVariants as kind
use Rattle.vesgrauf.specs.Ids.{count_unopened}

-- ---- how many there may be

-- how many datagrams may wait for QUIC
abbrev pub most_datagrams : Config → ℕ
most_datagrams c = max c.datagram_queue 1

-- How many sessions may count. Those of a client are bounded by the SETTINGS of the server: a number of 32 bits counts them.
abbrev pub most_sessions_of : Side → ℕ → ℕ
most_sessions_of Server n = n
most_sessions_of Client n = 2 ^ 32 - 1

abbrev pub most_sessions : Config → ℕ
most_sessions c = most_sessions_of c.side c.max_sessions

-- how many own streams of a kind may wait until QUIC opens them
abbrev pub most_unopened : Config → ℕ
most_unopened c = max c.max_unopened 1

-- the control stream and the two of QPACK, which are unidirectional
abbrev pub critical : ℕ
critical = 3

-- ---- how many there are

at_most-prop : (a b : ℕ) → IsProp (a ≤ b)
at_most-prop a b = Prim.hlevel logic.props

below-prop : (a b : ℕ) → IsProp (a < b)
below-prop a b = Prim.hlevel logic.props

same-prop : (a b : ℕ) → IsProp (a ≡ b)
same-prop a b = Prim.hlevel logic.props

-- Clients gave up no more requests before their answer than were answered and than this number together, but for one: by
-- which the connection ends (RFC 9114, section 10.5).
pub record ResetsFit (most : ℕ) (b : RequestBudget) : Type 0 where
  pub answers : b.answers < 2 ^ 64
  pub excess : b.excess ≡ most
  pub resets : b.resets ≤ b.answers + most + 1

resets-prop : (most : ℕ) (b : RequestBudget) → IsProp (ResetsFit most b)
resets-prop most b x y i = record {
  answers = below-prop b.answers (2 ^ 64) x.answers y.answers i;
  excess = same-prop b.excess most x.excess y.excess i;
  resets = at_most-prop b.resets (b.answers + most + 1) x.resets y.resets i;
}

-- So many datagrams wait, so many sessions count, and so many bytes are kept of all streams that QUIC's windows were extended
-- by: no more than the configuration says.
pub record Within (c : Config) (datagrams sessions held : ℕ) (b : RequestBudget) : Type 0 where
  pub datagrams_fit : datagrams ≤ most_datagrams c
  pub sessions_fit : sessions ≤ most_sessions c
  pub held_fit : held ≤ c.receive_buffer_all
  pub resets_fit : ResetsFit c.max_resets b

-- there is one way in which they are
pub Within-prop : (c : Config) (datagrams sessions held : ℕ) (b : RequestBudget) → IsProp (Within c datagrams sessions held b)
Within-prop c datagrams sessions held b x y i = record {
  datagrams_fit = at_most-prop datagrams (most_datagrams c) x.datagrams_fit y.datagrams_fit i;
  sessions_fit = at_most-prop sessions (most_sessions c) x.sessions_fit y.sessions_fit i;
  held_fit = at_most-prop held c.receive_buffer_all x.held_fit y.held_fit i;
  resets_fit = resets-prop c.max_resets b x.resets_fit y.resets_fit i;
}

-- no more own streams of each kind wait until QUIC opens them than the configuration says, but for the critical ones
pub record FewWait (c : Config) (ids : Ids) : Type 0 where
  pub bidirectional : count_unopened ids kind.Bidirectional ≤ most_unopened c
  pub unidirectional : count_unopened ids kind.Unidirectional ≤ most_unopened c + critical

pub FewWait-prop : (c : Config) (ids : Ids) → IsProp (FewWait c ids)
FewWait-prop c ids x y i = record {
  bidirectional = at_most-prop (count_unopened ids kind.Bidirectional) (most_unopened c) x.bidirectional y.bidirectional i;
  unidirectional = at_most-prop (count_unopened ids kind.Unidirectional) (most_unopened c + critical)
      x.unidirectional y.unidirectional i;
}
