-- The cookies of a request (RFC 9114, section 4.2.1).
use Rattle.std.specs.Prelude.{ℕ, List, [], ◌∷◌, ◌++◌, codes, Option, Some, None}
use Rattle.std.specs.List.{flat_map}
use Rattle.wtp_qpack.specs.Field.{Field}
use Rattle.wtp_fields.specs.FieldList.{values_of}

-- a text, and each of the others after "; "
abbrev pub joined_by_semicolons : List (List ℕ) → Option (List ℕ)
joined_by_semicolons [] = None
joined_by_semicolons (first ∷ others) =
    Some (first ++ flat_map (λ value. codes "; " ++ value) others)

-- the values of all cookie fields, in order, as one
abbrev pub cookie_of : List Field → Option (List ℕ)
cookie_of fields = joined_by_semicolons (values_of (codes "cookie") fields)
