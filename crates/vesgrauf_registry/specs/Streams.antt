-- Types of unidirectional streams (RFC 9114, sections 6.2 and 11.2.4; RFC 9204, sections 4.2 and 8.2;
-- draft-ietf-webtrans-http3-02, section 4.1).
use Rattle.std.specs.Prelude.{ℕ, List, [], ◌∷◌, Bool, true, false, Option, codes}
use Rattle.vesgrauf_registry.specs.Table.{Entry, CName, Other, Absent, among, shown_by}
use Rattle.vesgrauf_registry.specs.declared.row.Row as row
use Rattle.vesgrauf_registry.specs.declared.sender.Sender.{Sender}
use Rattle.vesgrauf_registry.specs.declared.sender.Sender.TheVariants.{Both, Server}
use Rattle.vesgrauf_registry.specs.declared.streams.UniStream as declared
use Rattle.vesgrauf_registry.specs.declared.streams.StreamContent.{StreamContent}
use Rattle.vesgrauf_registry.specs.declared.streams.StreamContent.TheVariants.{Control, Push, Encoder, Decoder, Session}

-- the purpose of a stream as it is printed, what follows its type, whether each endpoint opens at most
-- one that must not be closed, and who opens it
pub record UniStream : Type 0 where
  pub purpose : List ℕ
  pub content : StreamContent
  pub critical : Bool
  pub opener : Sender

abbrev pub stream : ℕ → List ℕ → CName → List ℕ → StreamContent → Bool → Sender → Entry UniStream
stream number name c_name purpose content critical opener = record {
  number = number;
  name = name;
  c_name = c_name;
  columns = record {
    purpose = purpose;
    content = content;
    critical = critical;
    opener = opener;
  };
}

-- ---- the table

unfoldable pub streams : List (Entry UniStream)
streams =
    -- RFC 9114, section 6.2.1
    stream 0x00 (codes "Control Stream") (Other (codes "CONTROL")) (codes "control") Control true Both
    -- RFC 9114, section 6.2.2
    ∷ stream 0x01 (codes "Push Stream") Absent (codes "push") Push false Server
    -- RFC 9204, section 4.2
    ∷ stream 0x02 (codes "QPACK Encoder Stream") (Other (codes "QPACK_ENCODER"))
    (codes "QPACK encoder") Encoder true Both
    -- RFC 9204, section 4.2
    ∷ stream 0x03 (codes "QPACK Decoder Stream") (Other (codes "QPACK_DECODER"))
    (codes "QPACK decoder") Decoder true Both
    -- draft-ietf-webtrans-http3-02, sections 4.1 and 9.3
    ∷ stream 0x54 (codes "WebTransport stream") (Other (codes "WEBTRANSPORT"))
    (codes "WebTransport") Session false Both
    ∷ []

-- ---- by number

-- the entry of a type, if it is registered
unfoldable pub stream_of : ℕ → Option (Entry UniStream)
stream_of n = among n streams

-- ---- the rows of the code

abbrev pub shown_columns : declared.UniStream → UniStream
shown_columns c = record {
  purpose = c.purpose.now;
  content = c.content;
  critical = c.critical;
  opener = c.opener;
}

abbrev pub shown_stream : row.Row declared.UniStream → Entry UniStream
shown_stream r = shown_by shown_columns r
