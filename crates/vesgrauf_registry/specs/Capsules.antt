-- Capsule types (RFC 9297, sections 3.2, 3.5 and 5.4; WebTransport over HTTP/3).
use Rattle.std.specs.Prelude.{ℕ, List, [], ◌∷◌, Bool, true, false, Option, codes}
use Rattle.vesgrauf_registry.specs.Table.{Entry, CName, Other, Absent, among}
use Rattle.vesgrauf_registry.specs.declared.capsules.Capsule.{Capsule}
use Rattle.vesgrauf_registry.specs.declared.capsules.Meaning.{Meaning}
use Rattle.vesgrauf_registry.specs.declared.capsules.Meaning.TheVariants.{Datagram, Close, Drain, Limit, StreamLimit}

-- a type, its name, the name of its constant in C, what it says to its session, the longest value that
-- is read, and whether a capsule with a longer one is malformed
abbrev pub capsule : ℕ → List ℕ → CName → Meaning → ℕ → Bool → Entry Capsule
capsule number name c_name meaning longest bounded = record {
  number = number;
  name = name;
  c_name = c_name;
  columns = record { meaning = meaning; longest = longest; bounded = bounded };
}

-- flow control (later drafts of WebTransport over HTTP/3): one number of at most eight bytes, or two
abbrev pub limit : ℕ → List ℕ → Entry Capsule
limit number name = capsule number name Absent Limit 8 true

abbrev pub stream_limit : ℕ → List ℕ → Entry Capsule
stream_limit number name = capsule number name Absent StreamLimit 16 true

-- ---- the table

unfoldable pub capsules : List (Entry Capsule)
capsules =
    -- a datagram that is longer is dropped (RFC 9297, section 3.5)
    capsule 0x00 (codes "DATAGRAM") Absent Datagram 65535 false
    -- a code of 4 bytes and a reason of at most 1024 (draft-ietf-webtrans-http3-02, section 5)
    ∷ capsule 0x2843 (codes "CLOSE_WEBTRANSPORT_SESSION") (Other (codes "CLOSE_SESSION")) Close 1028
    true
    -- draft-ietf-webtrans-http3-07, section 4.6
    ∷ capsule 0x78ae (codes "DRAIN_WEBTRANSPORT_SESSION") Absent Drain 0 true
    ∷ limit 0x190b4d3d (codes "WT_MAX_DATA")
    ∷ stream_limit 0x190b4d3e (codes "WT_MAX_STREAM_DATA")
    ∷ limit 0x190b4d3f (codes "WT_MAX_STREAMS_BIDI")
    ∷ limit 0x190b4d40 (codes "WT_MAX_STREAMS_UNI")
    ∷ limit 0x190b4d41 (codes "WT_DATA_BLOCKED")
    ∷ stream_limit 0x190b4d42 (codes "WT_STREAM_DATA_BLOCKED")
    ∷ limit 0x190b4d43 (codes "WT_STREAMS_BLOCKED_BIDI")
    ∷ limit 0x190b4d44 (codes "WT_STREAMS_BLOCKED_UNI")
    ∷ []

-- ---- by number

-- the entry of a type, if it is registered
unfoldable pub capsule_of : ℕ → Option (Entry Capsule)
capsule_of n = among n capsules
