-- Which header sections are those of messages whose DATA frames have capsules (RFC 9297, section
-- 3.1).
use Rattle.std.specs.Prelude.{◌||◌, ◌&&◌, ℕ, Bool, true, false, not, List, [], ◌∷◌, codes, nat_eq}
use Rattle.std.specs.Prelude.{Option, Some, None}
use Rattle.std.specs.List.{list_any}
use Rattle.std.specs.Str.{bytes_eq}
use Rattle.wtp_wire.specs.declared.rules.StreamRole.{StreamRole}
use Rattle.wtp_wire.specs.declared.rules.StreamRole.TheVariants.{BiLocal}
use Rattle.wtp_wire.specs.declared.rules.StreamRole.TheVariants as role-is
use Rattle.wt_inspection_model.specs.declared.item.fields.FieldSection.{FieldSection}
use Rattle.wt_inspection_model.specs.declared.item.fields.Line.{Line}
use Rattle.wt_inspection_model.specs.declared.item.fields.SectionFault.{SectionFault}
use Rattle.wt_inspection.specs.DataCapsules.{Stage, Opening, Plain, Session}

-- a section has a line of this name
abbrev pub has_field : List ℕ → List Line → Bool
has_field name lines = list_any (λ (line : Line). bytes_eq line.name.items name) lines

-- the first digit of a status code is 1
abbrev pub starts_with_one : List ℕ → Bool
starts_with_one [] = false
starts_with_one (first ∷ rest) = nat_eq first 49

-- the status code is one of an interim response: its first digit is 1 (RFC 9110, section 15.2)
abbrev pub is_interim_status : Line → Bool
is_interim_status line =
    bytes_eq line.name.items (codes ":status") && starts_with_one line.value.items

-- the method is CONNECT (RFC 9114, section 4.4)
abbrev pub is_connect : Line → Bool
is_connect line =
    bytes_eq line.name.items (codes ":method") && bytes_eq line.value.items (codes "CONNECT")

-- the protocols whose CONNECT streams have capsules: those of WebTransport
-- (draft-ietf-webtrans-http3, section 3), CONNECT-UDP (RFC 9298, section 3.4) and CONNECT-IP (RFC
-- 9484, section 4.4)
abbrev pub capsule_protocols : List (List ℕ)
capsule_protocols =
    codes "webtransport" ∷ codes "webtransport-h3" ∷ codes "connect-udp" ∷ codes "connect-ip" ∷ []

-- the line is `:protocol` with one of these protocols
abbrev pub is_capsule_protocol : Line → Bool
is_capsule_protocol line =
    bytes_eq line.name.items (codes ":protocol")
    && list_any (bytes_eq line.value.items) capsule_protocols

-- an item ends here, or has parameters, the first byte of which is a semicolon
abbrev pub ends_item : List ℕ → Bool
ends_item [] = true
ends_item (first ∷ rest) = nat_eq first 59

-- a Boolean item that is true, whatever its parameters (RFC 8941, sections 3.3 and 3.3.6)
abbrev pub is_true_item : List ℕ → Bool
is_true_item [] = false
is_true_item (a ∷ []) = false
is_true_item (a ∷ b ∷ rest) = (nat_eq a 63 && nat_eq b 49) && ends_item rest

-- the line is Capsule-Protocol and true (RFC 9297, section 3.4)
abbrev pub is_capsule_field : Line → Bool
is_capsule_field line =
    bytes_eq line.name.items (codes "capsule-protocol") && is_true_item line.value.items

-- the extended CONNECT of a request has capsules (RFC 9297, section 3.1)
abbrev pub has_capsule_protocol : List Line → Bool
has_capsule_protocol lines =
    list_any is_capsule_protocol lines
    || (has_field (codes ":protocol") lines && list_any is_capsule_field lines)

-- A CONNECT whose lines end early, before `:protocol`, counts as one with capsules.
abbrev pub request_opens : Option SectionFault → List Line → Bool
request_opens None lines = has_capsule_protocol lines
request_opens (Some fault) lines =
    has_capsule_protocol lines
    || (list_any is_connect lines && not (has_field (codes ":protocol") lines))

-- the line is a status code other than of success, which are those that begin with 2 (RFC 9110,
-- section 15.3)
abbrev pub starts_with_two : List ℕ → Bool
starts_with_two [] = false
starts_with_two (first ∷ rest) = nat_eq first 50

abbrev pub is_refusal_status : Line → Bool
is_refusal_status line =
    bytes_eq line.name.items (codes ":status") && not (starts_with_two line.value.items)

-- a response accepts what the request asked for, as far as its lines say
abbrev pub accepts : List Line → Bool
accepts lines = not (list_any is_refusal_status lines)

-- A response counts as that of a session if it has one of these fields: Capsule-Protocol, if it is
-- true (RFC 9297, section 3.4), Sec-Webtransport-Http3-Draft (draft-ietf-webtrans-http3-02) or
-- WT-Protocol (later drafts).
abbrev pub names_session : List Line → Bool
names_session lines =
    list_any is_capsule_field lines
    || (has_field (codes "sec-webtransport-http3-draft") lines
    || has_field (codes "wt-protocol") lines)

-- only a response that accepts has capsules (RFC 9297, section 3.2)
abbrev pub response_opens : List Line → Bool
response_opens lines = accepts lines && names_session lines

-- the section is that of an interim response, after which another header section comes (RFC 9114,
-- section 4.1); a response is on a stream that this end opened, for a session or anything else
abbrev pub is_interim : StreamRole → FieldSection → Bool
is_interim BiLocal section = list_any is_interim_status section.lines.items
is_interim role-is.Session section = list_any is_interim_status section.lines.items
is_interim other section = false

-- the section is the header section of a session; the response to a request for a session needs no
-- field that says so
abbrev pub opens_session : StreamRole → FieldSection → Bool
opens_session BiLocal section = response_opens section.lines.items
opens_session role-is.Session section = accepts section.lines.items
opens_session other section = request_opens section.fault section.lines.items

-- how far a message is after a section, if it is an interim one, and if it opens a session
abbrev pub stage_of : Bool → Bool → Stage
stage_of true session = Opening
stage_of false true = Session [] 0
stage_of false false = Plain

-- how far a message is whose first section, or the first after interim ones, is this
abbrev pub stage_after : StreamRole → FieldSection → Stage
stage_after role section = stage_of (is_interim role section) (opens_session role section)
