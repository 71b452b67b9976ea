-- The rules of every field section (RFC 9114, sections 4.2 and 4.3).
use Rattle.std.specs.Prelude.{◌≡◌, ℕ, nat_lt, Bool, true, false, not, ◌&&◌, ◌||◌, if◌then◌else◌, List, [], ◌∷◌, length, Option, None, codes}
use Rattle.std.specs.List.{list_all, list_any}
use Rattle.std.specs.Str.{bytes_eq, str_eq_ignore_ascii_case}
use Rattle.wtp_qpack.specs.Field.{Field}
use Rattle.wtp_fields.specs.FieldWriting.{is_field_value}
use Rattle.wtp_fields.specs.FieldList.{values_of}
use Rattle.wtp_messages.specs.Names.{is_pseudo, is_field_name, is_one_of}
use Rattle.wtp_messages.specs.Length.{lengths_of, all_agree, content_length}
use Rattle.wtp_messages.specs.declared.section.SectionKind.{SectionKind}
use Rattle.wtp_messages.specs.declared.section.SectionKind.TheVariants as section
use Rattle.wtp_messages.specs.declared.malformed.Malformed.{Malformed}
use Rattle.wtp_messages.specs.declared.malformed.Malformed.TheVariants.{InvalidName, InvalidValue}
use Rattle.wtp_messages.specs.declared.malformed.Malformed.TheVariants.{ConnectionField, InvalidTe}
use Rattle.wtp_messages.specs.declared.malformed.Malformed.TheVariants.{UnknownPseudoHeader}
use Rattle.wtp_messages.specs.declared.malformed.Malformed.TheVariants.{LatePseudoHeader}
use Rattle.wtp_messages.specs.declared.malformed.Malformed.TheVariants.{RepeatedPseudoHeader}
use Rattle.wtp_messages.specs.declared.malformed.Malformed.TheVariants.{InvalidContentLength}

-- ---- names and values

-- the name of the field is invalid
abbrev pub has_bad_name : Field → Bool
has_bad_name field = not (is_pseudo field) && not (is_field_name field.0)

-- the value of the field is invalid
abbrev pub has_bad_value : Field → Bool
has_bad_value field = not (is_field_value field.1)

-- ---- fields of connections

-- the names of the fields that are specific to a connection
abbrev pub connection_names : List (List ℕ)
connection_names =
    codes "connection"
    ∷ codes "keep-alive"
    ∷ codes "proxy-connection"
    ∷ codes "transfer-encoding"
    ∷ codes "upgrade"
    ∷ []

abbrev pub is_connection_field : Field → Bool
is_connection_field field = is_one_of connection_names field.0

-- sections of this kind may have a te field with this value
abbrev pub allows_te : SectionKind → List ℕ → Bool
allows_te section.Request value = str_eq_ignore_ascii_case value (codes "trailers")
allows_te section.Response value = false
allows_te section.Tunnel value = false
allows_te section.Trailers value = false

abbrev pub is_bad_te : SectionKind → Field → Bool
is_bad_te kind field = bytes_eq field.0 (codes "te") && not (allows_te kind field.1)

-- ---- pseudo-header fields

-- the pseudo-header fields that are defined for this kind of section (RFC 9114, sections 4.3.1 and
-- 4.3.2; RFC 8441, section 4)
abbrev pub pseudo_names : SectionKind → List (List ℕ)
pseudo_names section.Request =
    codes ":method"
    ∷ codes ":scheme"
    ∷ codes ":authority"
    ∷ codes ":path"
    ∷ codes ":protocol"
    ∷ []
pseudo_names section.Response = codes ":status" ∷ []
pseudo_names section.Tunnel = codes ":status" ∷ []
pseudo_names section.Trailers = []

abbrev pub is_unknown_pseudo : SectionKind → Field → Bool
is_unknown_pseudo kind field = is_pseudo field && not (is_one_of (pseudo_names kind) field.0)

-- no pseudo-header field follows another field
abbrev pub are_pseudo_first : List Field → Bool
are_pseudo_first [] = true
are_pseudo_first (field ∷ fields) =
    if is_pseudo field
    then are_pseudo_first fields
    else list_all (λ (other : Field). not (is_pseudo other)) fields

-- two fields or more have this name
abbrev pub is_repeated : List Field → List ℕ → Bool
is_repeated fields name = nat_lt 1 (length (values_of name fields))

-- ---- the length of the content

-- A section of this kind may say how much content there is; a content-length says nothing in trailers
-- (RFC 9110, section 6.5.1) and in the response that opens a tunnel (section 9.3.6).
abbrev pub announces : SectionKind → Bool
announces section.Tunnel = false
announces section.Trailers = false
announces other = true

abbrev pub announced : SectionKind → List Field → Option ℕ
announced section.Tunnel fields = None
announced section.Trailers fields = None
announced other fields = content_length fields

-- ---- the table

-- The line breaks this rule.
abbrev pub line_breaks : SectionKind → Malformed → Field → Bool
line_breaks kind InvalidName field = has_bad_name field
line_breaks kind InvalidValue field = has_bad_value field
line_breaks kind ConnectionField field = is_connection_field field
line_breaks kind InvalidTe field = is_bad_te kind field
line_breaks kind UnknownPseudoHeader field = is_unknown_pseudo kind field
line_breaks kind _ field = false

-- The section as a whole breaks this rule.
abbrev pub whole_breaks : SectionKind → List Field → Malformed → Bool
whole_breaks kind fields LatePseudoHeader = not (are_pseudo_first fields)
whole_breaks kind fields RepeatedPseudoHeader = list_any (is_repeated fields) (pseudo_names kind)
whole_breaks kind fields InvalidContentLength =
    announces kind && not (all_agree (lengths_of fields))
whole_breaks kind fields _ = false

-- One of its lines breaks this rule of every section, or all together do.
unfoldable pub section_breaks : SectionKind → List Field → Malformed → Bool
section_breaks kind fields rule =
    list_any (line_breaks kind rule) fields || whole_breaks kind fields rule

-- The section breaks no rule of every section.
abbrev pub IsSection : SectionKind → List Field → Type 0
IsSection kind fields = (rule : Malformed) → section_breaks kind fields rule ≡ false
