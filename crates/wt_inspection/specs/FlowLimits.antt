-- The values of the capsules of flow control: variable-length integers (the later drafts of
-- WebTransport over HTTP/3, draft-ietf-webtrans-http3).
use Rattle.std.specs.Prelude.{ℕ, ◌||◌, if◌then◌else◌, Bool, true, false, List, [], Option, Some, None, option_map}
use Rattle.vesgrauf_registry.specs.Capsules.{capsule_of}
use Rattle.vesgrauf_registry.specs.declared.capsules.Meaning.{Meaning}
use Rattle.vesgrauf_registry.specs.declared.capsules.Meaning.TheVariants as meaning
use Rattle.wtp_core.specs.Varint.{number_at}
use Rattle.wtp_wire.specs.Settings.{pair_at}
use Rattle.wt_inspection_model.specs.declared.item.capsule.FlowLimit.{FlowLimit}
use Rattle.wt_inspection_model.specs.declared.item.capsule.FlowLimit.TheVariants.{Session, Stream}

-- what a capsule of this type says to its session, if it is registered
abbrev pub meaning_of : ℕ → Option Meaning
meaning_of n = option_map (λ e. e.columns.meaning) (capsule_of n)

-- its value is a limit
abbrev pub is_limit_in : Option Meaning → Bool
is_limit_in (Some meaning.Limit) = true
is_limit_in other = false

abbrev pub is_limit : ℕ → Bool
is_limit n = is_limit_in (meaning_of n)

-- its value is a stream ID and a limit
abbrev pub is_stream_limit_in : Option Meaning → Bool
is_stream_limit_in (Some meaning.StreamLimit) = true
is_stream_limit_in other = false

abbrev pub is_stream_limit : ℕ → Bool
is_stream_limit n = is_stream_limit_in (meaning_of n)

abbrev pub has_limit : ℕ → Bool
has_limit n = is_limit n || is_stream_limit n

-- one integer and nothing else
abbrev pub only_limit : Option (ℕ × List ℕ) → Option FlowLimit
only_limit (Some (limit, [])) = Some (Session limit)
only_limit other = None

-- two integers and nothing else
abbrev pub only_stream_limit : Option ((ℕ × ℕ) × List ℕ) → Option FlowLimit
only_stream_limit (Some ((stream, limit), [])) = Some (Stream stream limit)
only_stream_limit other = None

-- the limit in the value of a capsule of this type, if it has one
unfoldable pub limit_of : ℕ → List ℕ → Option FlowLimit
limit_of n value =
    if is_limit n then only_limit (number_at value)
    else (if is_stream_limit n then only_stream_limit (pair_at value) else None)
