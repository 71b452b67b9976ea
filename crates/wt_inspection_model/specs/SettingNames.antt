-- The names of settings of drafts: of HTTP Datagrams (draft-ietf-masque-h3-datagram-04) and of the
-- later drafts of WebTransport over HTTP/3 (draft-ietf-webtrans-http3).
use Rattle.std.specs.Prelude.{ℕ, ◌&&◌, not, if◌then◌else◌, Bool, true, false, List, Option, Some, None}
use Rattle.vesgrauf_registry.specs.Settings.{is_http2, setting_of}
use Rattle.vesgrauf_registry.specs.Table.{CName, Absent, Entry}
use Rattle.vesgrauf_registry.specs.declared.settings.Range.{Range}
use Rattle.vesgrauf_registry.specs.declared.settings.Setting.{Setting}

abbrev pub is_absent : CName → Bool
is_absent Absent = true
is_absent other = false

-- a setting that only a draft has: no constant in C, and not of HTTP/2
abbrev pub is_of_draft : CName → Range → Bool
is_of_draft c_name range = not (is_http2 range) && is_absent c_name

-- the name of a setting, if only a draft has it
abbrev pub draft_named : Option (Entry Setting) → Option (List ℕ)
draft_named None = None
draft_named (Some e) = if is_of_draft e.c_name e.columns.range then Some e.name else None

-- the name of the setting with this identifier, if only a draft has it
abbrev pub draft_setting_name : ℕ → Option (List ℕ)
draft_setting_name n = draft_named (setting_of n)
