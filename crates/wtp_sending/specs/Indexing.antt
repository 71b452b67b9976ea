-- How the fields of a message are indexed in the dynamic table: sensitive ones never, and others are not
-- inserted (RFC 9204, section 7.1.3). The names are those of nghttp3.
use Rattle.std.specs.Prelude.{ℕ, if◌then◌else◌, List, [], ◌∷◌, codes}
use Rattle.wtp_qpack.specs.Field.{Field}
use Rattle.wtp_qpack.specs.Sensitive.{is_sensitive}
use Rattle.wtp_messages.specs.Names.{is_one_of}
use Rattle.wtp_dynamic_encoder.specs.declared.proposal.Indexing.{Indexing}
use Rattle.wtp_dynamic_encoder.specs.declared.proposal.Indexing.TheVariants.{ByPolicy, Without, Never}

-- fields whose values seldom come again
abbrev pub varying_names : List (List ℕ)
varying_names =
    codes ":path" ∷ codes "age" ∷ codes "content-length" ∷ codes "etag"
    ∷ codes "if-modified-since" ∷ codes "if-none-match" ∷ codes "location" ∷ []

-- how a field is indexed
abbrev pub indexing_of : Field → Indexing
indexing_of field =
    if is_sensitive field then Never
    else if is_one_of varying_names field.0 then Without else ByPolicy
