-- Datagrams whose sessions are to come (RFC 9297, section 2.1; draft-ietf-webtrans-http3-02, section
-- 4.5).
use Rattle.std.specs.Prelude.{ℕ, nat_lt, ◌==◌, Bool, true, false, if◌then◌else◌, List, [], ◌∷◌, ◌++◌, map, length, Option, Some, None}
use Rattle.vesgrauf_stream.specs.declared.early.Datagram.{Datagram}

-- the session and the payload
abbrev pub kept : Datagram → ℕ × List ℕ
kept d = (d.session, d.payload.items)

abbrev pub all_kept : List Datagram → List (ℕ × List ℕ)
all_kept datagrams = map kept datagrams

-- one more is kept, unless there are 16
abbrev pub keeps : List (ℕ × List ℕ) → ℕ → List ℕ → Bool × List (ℕ × List ℕ)
keeps datagrams session payload =
    if nat_lt (length datagrams) 16
    then (true, datagrams ++ (session, payload) ∷ [])
    else (false, datagrams)

-- this one, and then those that another call leaves
abbrev pub after_one : ℕ × List ℕ → Option (List ℕ) × List (ℕ × List ℕ) → Option (List ℕ) × List (ℕ × List ℕ)
after_one one taken = (taken.0, one ∷ taken.1)

-- the payload of the first one of this session, and all others in their order
abbrev pub takes : ℕ → List (ℕ × List ℕ) → Option (List ℕ) × List (ℕ × List ℕ)
takes session [] = (None, [])
takes session (one ∷ others) =
    if one.0 == session then (Some one.1, others) else after_one one (takes session others)
